-- What some records of a feed did: the entries that were made, and whose they are.
use Rattle.std.proofs.Common.{◌≡◌, ℕ, ◌+◌, ◌<◌, ◌≤◌, Bool, true, false, cond, List, []}
use Rattle.std.proofs.Common.{◌∷◌, ◌++◌, length, map, filter, drop, slice_get, Some, refl, sym, ap, ◌∙◌, subst}
use Rattle.std.proofs.Common.{arith, append_assoc, append-nil, inl, inr}
use Rattle.std.specs.Prelude.{Contains}
use Rattle.std.specs.List.{AllByRecursion, flat_map, list_any}
use Rattle.std.proofs.lemmas.Bool.{false≢true}
use Rattle.std.proofs.lemmas.List.{drop-append-le, drop_all, drop_at, length-append, map-append}
use Rattle.std.proofs.lemmas.List.Concat.{flat_map-append}
use Rattle.std.proofs.lemmas.List.Elements.{Contains-append_left, Contains-append_right, filter-append}
use mathlib.Core.List.{IsPrefix}
use Rattle.history_book.proofs.ListLemmas.{prefix_length}
use Rattle.history_book.specs.Histories.{book_entry_pass, entries, is_under, same_history}
use Rattle.history_book.specs.declared.views.BookEntry.{BookEntry}
use Rattle.history_book.specs.declared.views.BookEntry.TheVariants as one
use Rattle.history_book.specs.declared.views.History.{History}
use Rattle.history_book.specs.declared.views.History.TheVariants as of
use Rattle.know.specs.Knowledge.{Knowledge}
use Rattle.line_runs.specs.Feeding.{AreFed, WasTaken}
use Rattle.mon_config.specs.Configs.{range_of_key}
use Rattle.mon_config.specs.declared.config.Config.{Config}
use Rattle.mon_points.specs.declared.records.RowRead.{RowRead}
use Rattle.mon_points.specs.declared.records.RowRead.TheVariants as read
use Rattle.mon_store.proofs.OwnLemmas.{drop_prefix, entries_front}
use Rattle.mon_store.specs.Writes.{IsStill, IsUnwritten, new_entries, only_in, own_entries, put_in, written}
use Rattle.mon_topo.specs.RangeHistories.{acked_row, acknowledged_rows}
use Rattle.mon_value.specs.Histories.{range_history, same_range}
use Rattle.mon_value.specs.LeafHistories.{IsSource}
use Rattle.mon_value.specs.declared.histories.Ack.{Ack}
use Rattle.mon_value.specs.declared.histories.Entry.TheVariants as entry
use Rattle.mon_value.specs.declared.histories.RangeEntry.{RangeEntry}
use Rattle.mon_value.specs.declared.histories.RangeEntry.TheVariants as range_entry
use Rattle.mon_value.specs.declared.positions.Range.{Range}
use Rattle.mon_value.specs.declared.positions.Slot.{Slot}
use Rattle.mon_value.specs.declared.positions.SlotLeaf.{SlotLeaf}
use Rattle.mon_value.specs.declared.rows.Row.{Row}
use Rattle.owners.specs.Puts.{number_or, pass_of}
use Rattle.run_theory.proofs.Stands.{kept_stands, same_to}
use Rattle.run_traces.specs.LineClaims.{FeedMade, book_row}
use Rattle.run_traces.specs.LineFeeds.{HasItsAck, lies_in}
use Rattle.run_traces.specs.LineSwitches.{is_fed, is_row}
use Rattle.ingest_queue.specs.declared.refusals.RowRefusal.{RowRefusal}
use Rattle.run_traces.proofs.ListFacts.{all_as, all_at, any_at, both_all, made_kept}
use Rattle.run_traces.proofs.Paired.{among_all}
use Rattle.run_traces.proofs.RowFacts.{fed_row, lies_as, lies_by, row_joined, row_key}
use Rattle.line_runs.proofs.FeedRows.{IsNone, any_first, any_last, behind_stands, book_rows, fed_itself}
use Rattle.line_runs.proofs.FeedRows.{kept_all, rows_dropped, source_behind}
use Rattle.run_traces.proofs.Causes.{fed_more}
use Rattle.running_query.proofs.GoingLemmas.{fronts_through, same_fronts}
use Rattle.run_traces.proofs.Acks.{same_back}

-- ---- callers that keep their place

pub same_pass : (x y : Knowledge) → IsStill x y → pass_of y ≡ pass_of x
same_pass x y still = ap (number_or 0) still.number

pub still_through : (x y z : Knowledge) → IsStill x y → IsStill y z → IsStill x z
still_through x y z a b = record {
  fronts = fronts_through x.seen y.seen z.seen a.fronts b.fronts;
  number = b.number ∙ a.number;
  met = b.met ∙ a.met;
  stock = b.stock ∙ a.stock;
  lost = b.lost ∙ a.lost;
  handed = b.handed ∙ a.handed;
}

pub still_itself : (x : Knowledge) → IsStill x x
still_itself x = record {
  fronts = same_fronts x.seen;
  number = refl;
  met = refl;
  stock = refl;
  lost = refl;
  handed = refl;
}

-- what came in two steps is what came in either
came_both : {X : Type 0} (a b c : List X) → IsPrefix a b → IsPrefix b c
    → drop (length a) c ≡ drop (length a) b ++ drop (length b) c
came_both a b c p q =
    ap (drop (length a)) (sym q.1)
    ∙ drop-append-le (length a) b q.0 (prefix_length a b p)
    ∙ ap (λ w. drop (length a) b ++ w) (sym (drop_prefix b c q))

-- ---- one row's entries

module _ (config : Config) (pass : ℕ) (range : Range) (row : Row) (ack : Ack) where
  abbrev Mine : BookEntry → Type 0
  Mine e = is_fed pass (row ∷ []) e ≡ true

  only_mine : (e : BookEntry) (b : Bool) → Mine e → AllByRecursion Mine (cond b (e ∷ []) [])
  only_mine e true is = (is, tt)
  only_mine e false is = tt

  puts_mine : (took : List SlotLeaf) (whose : History) → AllByRecursion Mine (flat_map (put_in pass range row whose) took)
  puts_mine [] whose = tt
  puts_mine (replica ∷ took) whose =
      both_all Mine (put_in pass range row whose replica) (flat_map (put_in pass range row whose) took)
      (only_mine (one.Leaf (entry.Put pass range replica.slot row)) (same_history (of.Leaf replica.leaf) whose)
      (fed_itself pass row)) (puts_mine took whose)

  no_rows : (replica : SlotLeaf) (b : Bool)
      → flat_map book_row (cond b (one.Leaf (entry.Put pass range replica.slot row) ∷ []) []) ≡ []
  no_rows replica true = refl
  no_rows replica false = refl

  -- puts acknowledge nothing
  puts_silent : (took : List SlotLeaf) (whose : History)
      → flat_map book_row (flat_map (put_in pass range row whose) took) ≡ []
  puts_silent [] whose = refl
  puts_silent (replica ∷ took) whose =
      flat_map-append book_row (put_in pass range row whose replica) (flat_map (put_in pass range row whose) took)
      ∙ (λ i. no_rows replica (same_history (of.Leaf replica.leaf) whose) i ++ puts_silent took whose i)

  abbrev acked : BookEntry
  acked = one.Range (range_entry.Acked pass row ack)

  acked_if : (b : Bool) → flat_map book_row (cond b (acked ∷ []) []) ≡ cond b (row ∷ []) []
  acked_if true = refl
  acked_if false = refl

  -- each put is of the one acknowledgement
  abbrev made_all : List SlotLeaf → History → List BookEntry
  made_all took = written pass range row ack took

  abbrev Paired : List SlotLeaf → BookEntry → Type 0
  Paired took = HasItsAck (made_all took)

  told_there : (took : List SlotLeaf) → Contains (made_all took (of.Range range)) acked
  told_there took =
      Contains-append_right (flat_map (put_in pass range row (of.Range range)) took)
      (only_in (of.Range range) acked (of.Range range)) acked
      (only_there (same_history (of.Range range) (of.Range range)) (same_to range.0 range.0 refl))
    where
      only_there : (b : Bool) → b ≡ true → Contains (cond b (acked ∷ []) []) acked
      only_there true is = (0, omega arith, refl)
      only_there false is = absurd (false≢true is)

  pair_one : (took : List SlotLeaf) (replica : SlotLeaf) (b : Bool) → Contains ack.took replica.slot
      → AllByRecursion (Paired took) (cond b (one.Leaf (entry.Put pass range replica.slot row) ∷ []) [])
  pair_one took replica true slot = (record { ack = ack; told = told_there took; took = slot }, tt)
  pair_one took replica false slot = tt

  pair_puts : (took some : List SlotLeaf) (whose : History)
      → AllByRecursion (λ (replica : SlotLeaf). Contains ack.took replica.slot) some
      → AllByRecursion (Paired took) (flat_map (put_in pass range row whose) some)
  pair_puts took [] whose all = tt
  pair_puts took (replica ∷ some) whose all =
      both_all (Paired took) (put_in pass range row whose replica) (flat_map (put_in pass range row whose) some)
      (pair_one took replica (same_history (of.Leaf replica.leaf) whose) all.0) (pair_puts took some whose all.1)

  pair_acks : (took : List SlotLeaf) (b : Bool) → AllByRecursion (Paired took) (cond b (acked ∷ []) [])
  pair_acks took true = (tt, tt)
  pair_acks took false = tt

  -- each replica's slot is among theirs
  slots_of : (some : List SlotLeaf) (slots : List Slot) → map (λ (replica : SlotLeaf). replica.slot) some ≡ slots
      → AllByRecursion (λ (replica : SlotLeaf). Contains slots replica.slot) some
  slots_of some slots same =
      subst (λ (xs : List Slot). AllByRecursion (λ (replica : SlotLeaf). Contains xs replica.slot) some) same
      (each_in some)
    where
      each_in : (some : List SlotLeaf) → AllByRecursion (λ (replica : SlotLeaf).
          Contains (map (λ (r : SlotLeaf). r.slot) some) replica.slot) some
      each_in [] = tt
      each_in (replica ∷ some) = (
        (0, omega arith, refl),
        all_as (λ (r : SlotLeaf). Contains (map (λ (r : SlotLeaf). r.slot) some) r.slot)
            (λ (r : SlotLeaf). Contains (replica.slot ∷ map (λ (r : SlotLeaf). r.slot) some) r.slot)
            (λ r there. Contains-append_right (replica.slot ∷ []) (map (λ (r : SlotLeaf). r.slot) some) r.slot there)
            some (each_in some),
      )

  -- of the row there are puts, and one acknowledgement in its range
  pub made_one : (took : List SlotLeaf) → map (λ (replica : SlotLeaf). replica.slot) took ≡ ack.took
      → range_of_key config row.key ≡ Some range → FeedMade config pass (row ∷ []) (written pass range row ack took)
  made_one took took_are in_range = record {
    own = λ whose. both_all Mine (flat_map (put_in pass range row whose) took) (only_in (of.Range range) acked whose)
        (puts_mine took whose)
        (only_mine acked (same_history (of.Range range) whose) (fed_itself pass row));
    puts = λ leaf. flat_map-append book_row (flat_map (put_in pass range row (of.Leaf leaf)) took) []
        ∙ ap (λ w. w ++ []) (puts_silent took (of.Leaf leaf));
    acks = λ other.
        flat_map-append book_row (flat_map (put_in pass range row (of.Range other)) took)
        (only_in (of.Range range) acked (of.Range other))
        ∙ (λ i. puts_silent took (of.Range other) i ++ acked_if (same_range range other) i)
        ∙ ap (λ b. cond b (row ∷ []) []) (same_back range.0 other.0 ∙ sym (lies_by config other row range in_range));
    paired = λ whose. both_all (Paired took) (flat_map (put_in pass range row whose) took)
        (only_in (of.Range range) acked whose) (pair_puts took took whose (slots_of took ack.took took_are))
        (pair_acks took (same_history (of.Range range) whose));
  }

-- ---- what some records did

-- a row's range has a history
abbrev pub IsRanged : Config → Knowledge → Row → Type 0
IsRanged config know row = (range : Range) × (lies_in config range row ≡ true)
    × (0 < length (range_history know.seen range))

module _ (config : Config) where
  -- Of these rows there are entries, and nothing else was made under the caller's number
  pub record Part (before after : Knowledge) (rows : List Row) : Type 0 where
    pub still : IsStill before after
    pub made : History → List BookEntry
    pub own : (h : History) → own_entries after.purse.own h ≡ own_entries before.purse.own h ++ made h
    pub new : (h : History) → new_entries before after h ≡ made h
    pub fed : FeedMade config (pass_of before) rows made
    pub ranged : AllByRecursion (IsRanged config after) rows

  nothing_made : (pass : ℕ) → FeedMade config pass [] (λ h. [])
  nothing_made pass = record { own = λ h. tt; puts = λ leaf. refl; acks = λ range. refl; paired = λ h. tt }

  pub part_none : (x : Knowledge) → Part x x []
  part_none x = record {
    still = still_itself x;
    made = λ h. [];
    own = λ h. sym (append-nil (own_entries x.purse.own h));
    new = λ h. ap (filter (is_under (pass_of x)))
        (drop_all (length (entries x.seen h)) (entries x.seen h) (omega arith));
    fed = nothing_made (pass_of x);
    ranged = tt;
  }

  pub part_refused : (x y : Knowledge) → IsUnwritten x y → Part x y []
  part_refused x y un = record {
    still = un.still;
    made = λ h. [];
    own = λ h. ap (λ own. own_entries own h) un.own ∙ sym (append-nil (own_entries x.purse.own h));
    new = un.none;
    fed = nothing_made (pass_of x);
    ranged = tt;
  }

  pub part_taken : (row : Row) (x y : Knowledge) → WasTaken config row x y → Part x y (row ∷ [])
  part_taken row x y taken =
      let w = taken.written in record {
        still = w.still;
        made = written (pass_of x) w.range row taken.ack w.took;
        own = w.own;
        new = w.new;
        fed = made_one config (pass_of x) w.range row taken.ack w.took w.took_are w.in_range;
        ranged = (
          (
            w.range,
            lies_by config w.range row w.range w.in_range ∙ same_to w.range.0 w.range.0 refl,
            some_there w.history (range_entry.Acked (pass_of x) row taken.ack) (range_history y.seen w.range)
                w.acknowledged,
          ),
          tt,
        );
      }
    where
      some_there : (front : List RangeEntry) (e : RangeEntry) (all : List RangeEntry) → all ≡ front ++ e ∷ []
          → 0 < length all
      some_there front e all is =
          let l : length all ≡ length front + 1 = ap length is ∙ length-append front (e ∷ []) in omega arith

  feeds_both : (pass : ℕ) (rows more : List Row) (made made' : History → List BookEntry)
      → FeedMade config pass rows made → FeedMade config pass more made'
      → FeedMade config pass (rows ++ more) (λ h. made h ++ made' h)
  feeds_both pass rows more made made' a b = record {
    own = λ h. both_all (λ e. is_fed pass (rows ++ more) e ≡ true) (made h) (made' h)
        (all_as (λ e. is_fed pass rows e ≡ true) (λ e. is_fed pass (rows ++ more) e ≡ true)
        (fed_more pass rows (rows ++ more) (λ w. any_first (is_row w) rows more)) (made h) (a.own h))
        (all_as (λ e. is_fed pass more e ≡ true) (λ e. is_fed pass (rows ++ more) e ≡ true)
        (fed_more pass more (rows ++ more) (λ w. any_last (is_row w) rows more)) (made' h) (b.own h));
    puts = λ leaf. flat_map-append book_row (made (of.Leaf leaf)) (made' (of.Leaf leaf))
        ∙ (λ i. a.puts leaf i ++ b.puts leaf i);
    acks = λ range. flat_map-append book_row (made (of.Range range)) (made' (of.Range range))
        ∙ (λ i. a.acks range i ++ b.acks range i) ∙ sym (filter-append (lies_in config range) rows more);
    paired = λ h. both_all (HasItsAck (λ h. made h ++ made' h)) (made h) (made' h)
        (all_as (HasItsAck made) (HasItsAck (λ h. made h ++ made' h))
        (among_all made (λ h. made h ++ made' h) (λ h e. Contains-append_left (made h) (made' h) e)) (made h) (a.paired h))
        (all_as (HasItsAck made') (HasItsAck (λ h. made h ++ made' h))
        (among_all made' (λ h. made h ++ made' h) (λ h e. Contains-append_right (made h) (made' h) e)) (made' h)
        (b.paired h));
  }

  ranged_on : (y z : Knowledge) → IsStill y z → (row : Row) → IsRanged config y row → IsRanged config z row
  ranged_on y z still row ranged = (
    ranged.0,
    ranged.1,
    (let l = prefix_length (range_history y.seen ranged.0) (range_history z.seen ranged.0) (still.fronts.1 ranged.0) in
        let m = ranged.2 in omega arith),
  )

  -- two parts, one after the other
  pub part_both : (x y z : Knowledge) (rows more : List Row) → Part x y rows → Part y z more → Part x z (rows ++ more)
  part_both x y z rows more a b = record {
    still = still_through x y z a.still b.still;
    made = λ h. a.made h ++ b.made h;
    own = λ h. b.own h ∙ ap (λ w. w ++ b.made h) (a.own h)
        ∙ append_assoc (own_entries x.purse.own h) (a.made h) (b.made h);
    new = λ h.
        ap (filter (is_under (pass_of x))) (came_both (entries x.seen h) (entries y.seen h) (entries z.seen h)
        (entries_front x.seen y.seen a.still.fronts h) (entries_front y.seen z.seen b.still.fronts h))
        ∙ filter-append (is_under (pass_of x)) (drop (length (entries x.seen h)) (entries y.seen h))
        (drop (length (entries y.seen h)) (entries z.seen h))
        ∙ (λ i. a.new h i ++ (ap (λ n. filter (is_under n) (drop (length (entries y.seen h)) (entries z.seen h)))
        (sym (same_pass x y a.still)) ∙ b.new h) i);
    fed = feeds_both (pass_of x) rows more a.made b.made a.fed
        (subst (λ n. FeedMade config n more b.made) (same_pass x y a.still) b.fed);
    ranged = both_all (IsRanged config z) rows more
        (all_as (IsRanged config y) (IsRanged config z) (ranged_on y z b.still) rows a.ranged) b.ranged;
  }

  -- ---- nothing was written

  pub unwritten_itself : (x : Knowledge) → IsUnwritten x x
  unwritten_itself x = record {
    still = still_itself x;
    own = refl;
    none = λ h. ap (filter (is_under (pass_of x)))
        (drop_all (length (entries x.seen h)) (entries x.seen h) (omega arith));
  }

  pub unwritten_through : (x y z : Knowledge) → IsUnwritten x y → IsUnwritten y z → IsUnwritten x z
  unwritten_through x y z a b = record {
    still = still_through x y z a.still b.still;
    own = b.own ∙ a.own;
    none = λ h.
        ap (filter (is_under (pass_of x))) (came_both (entries x.seen h) (entries y.seen h) (entries z.seen h)
        (entries_front x.seen y.seen a.still.fronts h) (entries_front y.seen z.seen b.still.fronts h))
        ∙ filter-append (is_under (pass_of x)) (drop (length (entries x.seen h)) (entries y.seen h))
        (drop (length (entries y.seen h)) (entries z.seen h))
        ∙ (λ i. a.none h i ++ (ap (λ n. filter (is_under n) (drop (length (entries y.seen h)) (entries z.seen h)))
        (sym (same_pass x y a.still)) ∙ b.none h) i);
  }

  -- records, one after another
  pub part_of : (n : ℕ) (reads : List RowRead) (rows : List Row) (refusals : List RowRefusal) (x z : Knowledge)
      → AreFed config n reads rows refusals x z → Part x z rows
  part_of n [] rows refusals x z fed =
      subst (λ (w : Knowledge). Part x w rows) (sym fed.2)
      (subst (λ (some : List Row). Part x x some) (sym fed.0) (part_none x))
  part_of n (read.Fault fault ∷ reads) rows refusals x z fed = part_of (n + 1) reads rows fed.0 x z fed.2
  part_of n (read.Row row ∷ reads) rows refusals x z fed = elim fed.1 [
    | inl t ↦ subst (λ (some : List Row). Part x z some) (sym t.1)
        (part_both x fed.0 z (row ∷ []) t.0 (part_taken row x fed.0 t.2)
        (part_of (n + 1) reads t.0 refusals fed.0 z t.3))
    | inr t ↦ part_both x fed.0 z [] rows (part_refused x fed.0 t.3.unwritten)
        (part_of (n + 1) reads rows t.1 fed.0 z t.4)
  ]

  -- ---- whose the entries are

  -- an entry that came under the caller's number is of one of the rows
  pub at_new : (x y : Knowledge) (rows : List Row) → Part x y rows → (h : History) (k : ℕ) (e : BookEntry)
      → slice_get (entries y.seen h) k ≡ Some e → length (entries x.seen h) ≤ k → book_entry_pass e ≡ pass_of x
      → is_fed (pass_of x) rows e ≡ true
  at_new x y rows part h k e there low mine =
      let at = behind_stands (length (entries x.seen h)) (entries y.seen h) k e there low in
      let kept = kept_stands (is_under (pass_of x)) (drop (length (entries x.seen h)) (entries y.seen h)) at.0 e at.1
      (same_to (book_entry_pass e) (pass_of x) mine) in
      all_at (λ other. is_fed (pass_of x) rows other ≡ true) (part.made h) kept.0 e (part.fed.own h)
      (ap (λ w. slice_get w kept.0) (sym (part.new h)) ∙ kept.1)

  -- what holds of all that a range has acknowledged since holds of the rows there
  rows_since : (x y : Knowledge) (rows : List Row) → Part x y rows → (P : Row → Type 0) (range : Range)
      → AllByRecursion P (flat_map book_row
      (drop (length (entries x.seen (of.Range range))) (entries y.seen (of.Range range))))
      → AllByRecursion P (filter (lies_in config range) rows)
  rows_since x y rows part P range all =
      let h = of.Range range in
      subst (AllByRecursion P) (ap (flat_map book_row) (part.new h) ∙ part.fed.acks range)
      (made_kept P book_row (is_under (pass_of x)) (drop (length (entries x.seen h)) (entries y.seen h)) all)

  rows_within : (x y : Knowledge) (rows : List Row) → Part x y rows → (P : Row → Type 0) (range : Range)
      → AllByRecursion P (acknowledged_rows (range_history y.seen range))
      → AllByRecursion P (filter (lies_in config range) rows)
  rows_within x y rows part P range all = rows_since x y rows part P range
      (rows_dropped P (length (entries x.seen (of.Range range))) (entries y.seen (of.Range range))
      (subst (AllByRecursion P) (sym (book_rows (range_history y.seen range))) all))

  since_rows : (x y : Knowledge) (range : Range) (p : IsPrefix (range_history x.seen range) (range_history y.seen range))
      → flat_map book_row (drop (length (entries x.seen (of.Range range))) (entries y.seen (of.Range range)))
      ≡ acknowledged_rows p.0
  since_rows x y range p =
      let f : RangeEntry → BookEntry = λ e. one.Range e in
      let was = range_history x.seen range in
      ap (flat_map book_row)
      (ap (λ w. drop (length (map f was)) (map f w)) (sym p.1)
      ∙ ap (drop (length (map f was))) (map-append f was p.0)
      ∙ drop_at (map f was) (map f p.0) (length (map f was)) refl)
      ∙ book_rows p.0

  -- a range's acknowledged rows are a source
  abbrev pub AreSources : Knowledge → Type 0
  AreSources z = (range : Range) → IsSource (acknowledged_rows (range_history z.seen range))

  -- none of the rows had been acknowledged before
  pub rows_new : (x y : Knowledge) (rows : List Row) → Part x y rows → AreSources y → (range : Range)
      → AllByRecursion (λ row. lies_in config range row ≡ true
      → IsNone row (acknowledged_rows (range_history x.seen range))) rows
  rows_new x y rows part sources range =
      let p = part.still.fronts.1 range in
      let was = range_history x.seen range in
      kept_all (λ row. IsNone row (acknowledged_rows was)) (lies_in config range) rows
      (rows_since x y rows part (λ row. IsNone row (acknowledged_rows was)) range
      (subst (AllByRecursion (λ row. IsNone row (acknowledged_rows was))) (sym (since_rows x y range p))
      (source_behind (acknowledged_rows was) (acknowledged_rows p.0)
      (subst IsSource (ap acknowledged_rows (sym p.1) ∙ flat_map-append acked_row was p.0) (sources range)))))

  -- no row is one of two parts
  module _ (x y z : Knowledge) (rows more : List Row) (a : Part x y rows) (b : Part y z more) (sources : AreSources z)
    where
      two_rows : (w : Row) → list_any (is_row w) rows ≡ true → list_any (is_row w) more ≡ true → ⊥
      two_rows w first second = any_at (is_row w) rows ⊥ first (λ k row there is.
          any_at (is_row w) more ⊥ second (λ j late there' is'.
          let ranged = all_at (IsRanged config z) more j late b.ranged there' in
          let r = ranged.0 in
          let same : is_row late row ≡ true = row_joined w late row is' is in
          let lies : lies_in config r row ≡ true =
          sym (lies_as config r late row (row_key late row same)) ∙ ranged.1 in
          let none = all_at (λ other. lies_in config r other ≡ true → IsNone other (acknowledged_rows (range_history y.seen r)))
          more j late (rows_new y z more b sources r) there' ranged.1 in
          let kept = kept_stands (lies_in config r) rows k row there lies in
          false≢true (sym (all_at (λ old. is_row late old ≡ false) (filter (lies_in config r) rows) kept.0 row
          (rows_within x y rows a (λ old. is_row late old ≡ false) r none) kept.1) ∙ same)))

      pub fed_apart : (pass : ℕ) (e : BookEntry) → is_fed pass rows e ≡ true → is_fed pass more e ≡ true → ⊥
      fed_apart pass e is is' =
          fed_row pass rows ⊥ e is (λ w first others. two_rows w first (others pass more is'))
