-- What is acknowledged under a number is what the lines of that number accepted.
use Rattle.std.proofs.Common.{◌≡◌, ℕ, ◌+◌, nat_eq, Bool, true, false, cond, List, [], ◌∷◌, ◌++◌}
use Rattle.std.proofs.Common.{length, map, filter, refl, sym, ap, ◌∙◌, arith}
use Rattle.std.specs.List.{AllByRecursion, flat_map, range_with_len}
use Rattle.std.proofs.lemmas.Bool.Decides.{nat_tests}
use Rattle.std.proofs.lemmas.List.Concat.{flat_map-append}
use Rattle.history_book.specs.Histories.{AreFronts, book_entry_pass, entries}
use Rattle.history_book.specs.declared.views.BookEntry.{BookEntry}
use Rattle.history_book.specs.declared.views.BookEntry.TheVariants as one
use Rattle.history_book.specs.declared.views.History.{History}
use Rattle.history_book.specs.declared.views.History.TheVariants as of
use Rattle.mon_config.specs.declared.config.Config.{Config}
use Rattle.mon_topo.specs.HeldHistories.{first_histories, first_range_history, openings_from}
use Rattle.mon_topo.specs.Zones.{first_replicas, ranges_in}
use Rattle.mon_topo.specs.declared.zones.ZoneSpec.{ZoneSpec}
use Rattle.mon_value.specs.Histories.{range_history}
use Rattle.mon_value.specs.declared.histories.Histories.{Histories}
use Rattle.mon_value.specs.declared.histories.RangeEntry.{RangeEntry}
use Rattle.mon_value.specs.declared.histories.RangeEntry.TheVariants as range_entry
use Rattle.mon_value.specs.declared.positions.Leaf.{Leaf}
use Rattle.mon_value.specs.declared.positions.Range.{Range}
use Rattle.mon_value.specs.declared.rows.Row.{Row}
use Rattle.mon_script.specs.declared.forms.LineForm.{LineForm}
use Rattle.run_theory.specs.Parts.{between, Part, all_lines}
use Rattle.run_theory.specs.Tellings.{TellNoOthers, TellTheirs}
use Rattle.run_theory.proofs.Callers.{between_rest}
use Rattle.run_theory.proofs.Stands.{same_to}
use Rattle.run_theory.proofs.Tiles.{parts_tell}
use Rattle.run_traces.specs.LineClaims.{AllRan, Finds, HasMade, Makes, book_row}
use Rattle.run_traces.specs.LineFeeds.{AreAcknowledged, accepted_in, acked_under, lies_in}
use Rattle.run_traces.specs.RanLines.{RanLine}
use Rattle.run_traces.specs.declared.traces.LineTrace.{LineTrace}
use Rattle.run_traces.specs.declared.traces.LineTrace.TheVariants as came
use Rattle.run_traces.proofs.Controls.{done_tells}
use Rattle.run_traces.proofs.Owners.{all_chosen, begins}

no_rows : List Row
no_rows = []

-- ---- what lines tell

module _ (config : Config) where
  -- of a range's history what the line accepted there, and of a leaf's nothing
  abbrev tells : ℕ → RanLine → History → List Row
  tells n line (of.Leaf leaf) = []
  tells n line (of.Range range) = accepted_in config n range line.trace

  feed_tells : (n pass : ℕ) (rows : List Row) → pass ≡ n → cond (nat_eq n pass) rows [] ≡ rows
  feed_tells n pass rows e = ap (λ b. cond b rows []) (same_to n pass (sym e))

  own_by : (n : ℕ) (line : RanLine) (trace : LineTrace) (made : History → List BookEntry) (range : Range)
      → HasMade config n line.what trace made
      → flat_map book_row (made (of.Range range)) ≡ accepted_in config n range trace
  own_by n line (came.Fed pass rows refused) made range makes =
      makes.1.acks range ∙ sym (feed_tells n pass (filter (lies_in config range) rows) makes.0)
  own_by n line (came.Poured pass ends) made range makes =
      makes.1.acks range ∙ sym (feed_tells n pass (filter (lies_in config range) ends.accepted) makes.0)
  own_by n line (came.Asked moment trace) made range makes = ap (flat_map book_row) (makes (of.Range range))
  own_by n line (came.Followed moment trace) made range makes = ap (flat_map book_row) (makes (of.Range range))
  own_by n line (came.Controlled done) made range makes = done_tells config line.what done (of.Range range) made makes
  own_by n line (came.Refused why) made range makes = ap (flat_map book_row) (makes (of.Range range))
  own_by n line (came.Ticked dues) made range makes = ap (flat_map book_row) (makes (of.Range range))
  own_by n line came.Done made range makes = ap (flat_map book_row) (makes (of.Range range))

  leaf_by : (n : ℕ) (line : RanLine) (trace : LineTrace) (made : History → List BookEntry) (leaf : Leaf)
      → HasMade config n line.what trace made → flat_map book_row (made (of.Leaf leaf)) ≡ []
  leaf_by n line (came.Fed pass rows refused) made leaf makes = makes.1.puts leaf
  leaf_by n line (came.Poured pass ends) made leaf makes = makes.1.puts leaf
  leaf_by n line (came.Asked moment trace) made leaf makes = ap (flat_map book_row) (makes (of.Leaf leaf))
  leaf_by n line (came.Followed moment trace) made leaf makes = ap (flat_map book_row) (makes (of.Leaf leaf))
  leaf_by n line (came.Controlled done) made leaf makes = done_tells config line.what done (of.Leaf leaf) made makes
  leaf_by n line (came.Refused why) made leaf makes = ap (flat_map book_row) (makes (of.Leaf leaf))
  leaf_by n line (came.Ticked dues) made leaf makes = ap (flat_map book_row) (makes (of.Leaf leaf))
  leaf_by n line came.Done made leaf makes = ap (flat_map book_row) (makes (of.Leaf leaf))

  own : TellTheirs book_entry_pass (Makes config) book_row tells
  own n line made (of.Leaf leaf) makes = leaf_by n line line.trace made leaf makes
  own n line made (of.Range range) makes = own_by n line line.trace made range makes

  other_by : (number n : ℕ) (what : LineForm) (trace : LineTrace) (made : History → List BookEntry) (range : Range)
      → HasMade config number what trace made → nat_eq n number ≡ false → accepted_in config n range trace ≡ []
  other_by number n what (came.Fed pass rows refused) made range makes differ =
      ap (λ b. cond b (filter (lies_in config range) rows) []) (ap (nat_eq n) makes.0 ∙ differ)
  other_by number n what (came.Poured pass ends) made range makes differ =
      ap (λ b. cond b (filter (lies_in config range) ends.accepted) []) (ap (nat_eq n) makes.0 ∙ differ)
  other_by number n what (came.Asked moment trace) made range makes differ = refl
  other_by number n what (came.Followed moment trace) made range makes differ = refl
  other_by number n what (came.Controlled done) made range makes differ = refl
  other_by number n what (came.Refused why) made range makes differ = refl
  other_by number n what (came.Ticked dues) made range makes differ = refl
  other_by number n what came.Done made range makes differ = refl

  other : TellNoOthers book_entry_pass (Makes config) book_row tells
  other number n line made (of.Leaf leaf) makes differ = refl
  other number n line made (of.Range range) makes differ = other_by number n line.what line.trace made range makes differ

-- ---- what stands in the histories

pub not_one_way : (n m : ℕ) → nat_eq n m ≡ true → nat_eq m n ≡ false → ⊥
not_one_way n m is other = grind (arith, nat_tests)

pub back_by : (n m : ℕ) (b c : Bool) → nat_eq n m ≡ b → nat_eq m n ≡ c → b ≡ c
back_by n m true true is back = refl
back_by n m true false is back = absurd (not_one_way n m is back)
back_by n m false true is back = absurd (not_one_way m n back is)
back_by n m false false is back = refl

pub same_back : (n m : ℕ) → nat_eq n m ≡ nat_eq m n
same_back n m = back_by n m (nat_eq n m) (nat_eq m n) refl refl

abbrev book_acked : ℕ → BookEntry → List Row
book_acked n (one.Leaf e) = []
book_acked n (one.Range e) = acked_under n e

one_kept : (n : ℕ) (e : BookEntry) (es : List BookEntry) (b : Bool) → nat_eq (book_entry_pass e) n ≡ b
    → flat_map book_row (cond b (e ∷ filter (λ x. nat_eq (book_entry_pass x) n) es)
    (filter (λ x. nat_eq (book_entry_pass x) n) es))
    ≡ book_acked n e ++ flat_map book_row (filter (λ x. nat_eq (book_entry_pass x) n) es)
one_kept n (one.Leaf e) es true is = refl
one_kept n (one.Leaf e) es false is = refl
one_kept n (one.Range (range_entry.Opened pass slot leaf)) es true is = refl
one_kept n (one.Range (range_entry.Opened pass slot leaf)) es false is = refl
one_kept n (one.Range (range_entry.Acked pass row ack)) es true is =
    ap (λ b. cond b (row ∷ []) [] ++ flat_map book_row (filter (λ x. nat_eq (book_entry_pass x) n) es))
    (sym (same_back n pass ∙ is))
one_kept n (one.Range (range_entry.Acked pass row ack)) es false is =
    ap (λ b. cond b (row ∷ []) [] ++ flat_map book_row (filter (λ x. nat_eq (book_entry_pass x) n) es))
    (sym (same_back n pass ∙ is))
one_kept n (one.Range (range_entry.Trimmed pass before ack)) es true is = refl
one_kept n (one.Range (range_entry.Trimmed pass before ack)) es false is = refl
one_kept n (one.Range (range_entry.Retired pass slot)) es true is = refl
one_kept n (one.Range (range_entry.Retired pass slot)) es false is = refl

kept_acked : (n : ℕ) (es : List BookEntry)
    → flat_map book_row (filter (λ x. nat_eq (book_entry_pass x) n) es) ≡ flat_map (book_acked n) es
kept_acked n [] = refl
kept_acked n (e ∷ es) =
    one_kept n e es (nat_eq (book_entry_pass e) n) refl ∙ ap (λ w. book_acked n e ++ w) (kept_acked n es)

range_acked : (n : ℕ) (xs : List RangeEntry)
    → flat_map (book_acked n) (map (λ e. one.Range e) xs) ≡ flat_map (acked_under n) xs
range_acked n [] = refl
range_acked n (x ∷ xs) = ap (λ w. acked_under n x ++ w) (range_acked n xs)

-- the first replicas acknowledge nothing
silent : (n : ℕ) (xs : List RangeEntry) → AllByRecursion (λ e. acked_under n e ≡ []) xs
    → flat_map (acked_under n) xs ≡ []
silent n [] all = refl
silent n (x ∷ xs) all = ap (λ w. w ++ flat_map (acked_under n) xs) all.0 ∙ silent n xs all.1

openings_silent : (n k : ℕ) (leaves : List Leaf) → AllByRecursion (λ e. acked_under n e ≡ []) (openings_from k leaves)
openings_silent n k [] = tt
openings_silent n k (leaf ∷ leaves) = (refl, openings_silent n (k + 1) leaves)

first_silent : (n : ℕ) (zones : List ZoneSpec) (range : Range)
    → flat_map (acked_under n) (range_history (first_histories zones) range) ≡ []
first_silent n zones range = silent n (range_history (first_histories zones) range)
    (all_chosen (λ e. acked_under n e ≡ []) (first_range_history zones)
    (λ m. openings_silent n 0 (first_replicas zones m)) (range_with_len 0 (length (ranges_in zones))) range.0)

-- what the lines tell is what is acknowledged
pub acknowledged : (config : Config) (ended : Histories) (parts : List (Part RanLine))
    → AreFronts (first_histories config.topology) ended → AllRan config ended parts
    → AreAcknowledged config ended (all_lines parts)
acknowledged config ended parts begun ran n range =
    let h = of.Range range in
    let first = entries (first_histories config.topology) h in
    let p = begins config.topology ended h begun in
    let told = parts_tell entries book_entry_pass (Makes config) (Finds config) book_row (tells config) (own config)
    (other config) ended (λ g. length (entries (first_histories config.topology) g)) (λ g. length (entries ended g))
    parts n h ran in
    let rest = kept_acked n (between (length first) (length (entries ended h)) (entries ended h))
    ∙ ap (flat_map (book_acked n)) (between_rest first (entries ended h) p) in
    let whole : flat_map (acked_under n) (range_history ended range) ≡ flat_map (book_acked n) p.0 =
    sym (range_acked n (range_history ended range)) ∙ ap (flat_map (book_acked n)) (sym p.1)
    ∙ flat_map-append (book_acked n) first p.0
    ∙ ap (λ w. w ++ flat_map (book_acked n) p.0)
    (range_acked n (range_history (first_histories config.topology) range) ∙ first_silent n config.topology range) in
    whole ∙ sym rest ∙ sym told
