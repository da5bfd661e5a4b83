-- What holds of each line of a run, by what it made and found where it ran.
use Rattle.std.proofs.Common.{◌≡◌, ℕ, suc, ◌<◌, ◌≤◌, nat_le, Bool, true, false, cond, List, [], Option, Some, None}
use Rattle.std.proofs.Common.{◌∷◌, ◌++◌, length, map, take, refl, sym, ap, ◌∙◌, subst, arith}
use Rattle.std.specs.Prelude.{ℤ}
use Rattle.std.specs.List.{AllByRecursion}
use Rattle.std.proofs.lemmas.Bool.{false≢true}
use Rattle.std.proofs.lemmas.List.{take_all}
use Rattle.history_book.specs.Histories.{book_entry_pass, entries}
use Rattle.history_book.specs.declared.views.BookEntry.TheVariants as one
use Rattle.history_book.specs.declared.views.History.{History}
use Rattle.history_book.specs.declared.views.History.TheVariants as of
use Rattle.mon_config.specs.Configs.{range_of_key}
use Rattle.mon_config.specs.declared.config.Config.{Config}
use Rattle.mon_topo.specs.RangeHistories.{acknowledged_rows}
use Rattle.mon_value.proofs.LeafHistoryLemmas.{ranges_same}
use Rattle.mon_value.specs.Histories.{leaf_history, range_history}
use Rattle.mon_value.specs.Turns.{StandsOrIsHidden}
use Rattle.mon_value.specs.declared.histories.Histories.{Histories}
use Rattle.mon_value.specs.declared.positions.FoundDown.{FoundDown}
use Rattle.mon_value.specs.declared.positions.Leaf.{Leaf}
use Rattle.mon_value.specs.declared.positions.Range.{Range}
use Rattle.mon_value.specs.declared.rows.Row.{Row}
use Rattle.typed_trees.specs.Nodes.{TypedTree}
use Rattle.query_traces.specs.Founds.{IsFoundBetween}
use Rattle.query_traces.specs.Traces.{AreWider, IsBetween, IsFreshBetween, IsTraceBetween, Lengths, source_of}
use Rattle.query_traces.specs.Traces.{turns_over}
use Rattle.query_traces.specs.declared.answers.Trace.{Trace}
use Rattle.run_theory.specs.InPlace.{FoundThere, RanInPlace}
use Rattle.run_theory.specs.InPlace as theory
use Rattle.run_theory.specs.Parts.{RanBefore, Each, Part, all_lines, lines_of}
use Rattle.run_traces.specs.LineAsks.{text_of}
use Rattle.run_traces.specs.LineClaims.{AreNew, FeedMade, Finds, HasFound, HasMade, HasRange, LookFound, Makes, marked}
use Rattle.run_traces.specs.LineFeeds.{lies_in}
use Rattle.run_traces.specs.LineTables.{CutsRise, HoldsRows, LineIsFresh, cuts_named, IsLookedAt, IsRead, LineIsRead, IsTabled}
use Rattle.run_traces.specs.LineTables.{LineIsPlaced, LineIsTabled, StandsOnRows, turns_for}
use Rattle.run_traces.specs.LineSwitches.{LineStands, first_length, high, highs, is_entry_of, low, lows}
use Rattle.run_traces.specs.RanLines.{RanLine, accepted_rows, trace_rows}
use Rattle.run_traces.specs.declared.traces.LineTrace.{LineTrace}
use Rattle.run_traces.specs.declared.traces.LineTrace.TheVariants as came
use Rattle.run_traces.proofs.ListFacts.{all_as, all_by_tests, all_kept_as}
use Rattle.run_traces.proofs.RowFacts.{lies_by, lies_nowhere, rows_before}

-- what follows of a line in its place holds of each line
pub each_as : {R : Type 0} (P Q : List R → List R → R → Type 0)
    → ((seen later : List R) (line : R) → P seen later line → Q seen later line) → (seen : List R)
    → (parts : List (Part R)) → Each P seen parts → Each Q seen parts
each_as P Q f seen [] each = tt
each_as P Q f seen (part ∷ parts) each = (
  all_as (P seen (all_lines parts)) (Q seen (all_lines parts)) (f seen (all_lines parts)) (lines_of part) each.0,
  each_as P Q f (seen ++ lines_of part) parts each.1,
)

pub greater_by : (a b c : ℕ) (test : Bool) → a ≤ c → b ≤ c → cond test b a ≤ c
greater_by a b c true x y = y
greater_by a b c false x y = x

map_length : {X Y : Type 0} (f : X → Y) (xs : List X) → length (map f xs) ≡ length xs
map_length f [] = refl
map_length f (x ∷ xs) = ap suc (map_length f xs)

pub book_length : (ended : Histories) (leaf : Leaf) → length (entries ended (of.Leaf leaf)) ≡ length
    (leaf_history ended leaf)
book_length ended leaf = map_length (λ e. one.Leaf e) (leaf_history ended leaf)

pub range_length : (ended : Histories) (range : Range)
    → length (entries ended (of.Range range)) ≡ length (range_history ended range)
range_length ended range = map_length (λ e. one.Range e) (range_history ended range)

module _ (config : Config) (ended : Histories) where
  abbrev pub There : Histories → (History → ℕ) → (History → ℕ) → ℕ → RanLine → Type 0
  There = FoundThere entries is_entry_of (Finds config)

  abbrev pub InPlace : List RanLine → List RanLine → RanLine → Type 0
  InPlace = RanInPlace entries book_entry_pass (Makes config) There is_entry_of ended
      (first_length config.topology ended)

  -- ---- a line's place

  module _ (seen later : List RanLine) (line : RanLine) (place : InPlace seen later line) where
    pub low_below : (h : History) → low config.topology ended seen h ≤ place.from h
    low_below h = greater_by (first_length config.topology ended h) (theory.low is_entry_of (entries ended) seen h)
        (place.from h)
        (nat_le (first_length config.topology ended h) (theory.low is_entry_of (entries ended) seen h))
        (place.begun h) (place.from_low h)

    pub wider : AreWider (marked place.from) (marked place.to) (lows config.topology ended seen)
        (highs config.topology ended later) ended ended
    wider = record {
      sooner = record {
        leaves = λ leaf. low_below (of.Leaf leaf);
        ranges = λ range. low_below (of.Range range);
      };
      later = record {
        leaves = λ leaf. place.to_high (of.Leaf leaf);
        ranges = λ range. place.to_high (of.Range range);
      };
      begun = record {
        leaves = λ leaf.
            let a = place.forth (of.Leaf leaf) in let b = place.within (of.Leaf leaf) in
            let e = book_length ended leaf in omega arith;
        ranges = λ range.
            let a = place.forth (of.Range range) in let b = place.within (of.Range range) in
            let e = range_length ended range in omega arith;
      };
      within = record {
        leaves = λ leaf. let b = place.within (of.Leaf leaf) in let e = book_length ended leaf in omega arith;
        ranges = λ range. let b = place.within (of.Range range) in let e = range_length ended range in omega arith;
      };
      grown = record {
        leaves = λ leaf. take_all (length (leaf_history ended leaf)) (leaf_history ended leaf) (omega arith);
        ranges = λ range. take_all (length (range_history ended range)) (range_history ended range) (omega arith);
      };
      leaves = refl;
      ranges = refl;
    }

    -- ---- cuts

    cuts_above : (leaf : Leaf) → leaf.0 < length ended.leaves → (cut : ℕ) → cut ≤ place.from (of.Leaf leaf)
        → AllByRecursion (λ own. cut ≤ own) (cuts_named leaf line.what line.trace)
    cuts_above leaf there cut le = all_as (IsBetween (place.from (of.Leaf leaf)) (place.to (of.Leaf leaf)))
        (λ own. cut ≤ own) (λ own between. let a = between.from in omega arith) (cuts_named leaf line.what line.trace)
        (place.ran.found.0.cuts leaf there)

    cuts_of : (leaf : Leaf) → leaf.0 < length ended.leaves → (other : RanLine)
        → RanBefore entries book_entry_pass (Makes config) There ended place.from other
        → AllByRecursion (λ cut. AllByRecursion (λ own. cut ≤ own) (cuts_named leaf line.what line.trace))
        (cuts_named leaf other.what other.trace)
    cuts_of leaf there other before = all_as (IsBetween (before.from (of.Leaf leaf)) (before.to (of.Leaf leaf)))
        (λ cut. AllByRecursion (λ own. cut ≤ own) (cuts_named leaf line.what line.trace))
        (λ cut between. cuts_above leaf there cut
        (let a = between.to in let b = before.below (of.Leaf leaf) in omega arith))
        (cuts_named leaf other.what other.trace) (before.ran.found.0.cuts leaf there)

    cuts_rise : (leaf : Leaf) → leaf.0 < length ended.leaves → CutsRise seen line leaf
    cuts_rise leaf there = all_as (RanBefore entries book_entry_pass (Makes config) There ended place.from)
        (λ other. AllByRecursion (λ cut. AllByRecursion (λ own. cut ≤ own) (cuts_named leaf line.what line.trace))
        (cuts_named leaf other.what other.trace))
        (cuts_of leaf there) seen place.before

    -- ---- rows

    module _ (P : Range → Row → Type 0) (Q : Row → Type 0)
        (lying : (range : Range) (row : Row) → lies_in config range row ≡ true → P range row → Q row)
        (fresh : (range : Range) → range.0 < length ended.ranges → AllByRecursion (P range)
        (acknowledged_rows (take (place.from (of.Range range)) (range_history ended range)))) where
      -- of those that a feed or a pour accepted
      fed_by : (other : RanLine) (pass : ℕ) (rows : List Row)
          (before : RanBefore entries book_entry_pass (Makes config) There ended place.from other)
          → FeedMade config pass rows before.ran.made → AreNew config ended before.from before.to rows
          → AllByRecursion Q rows
      fed_by other pass rows before makes found =
          all_by_tests Q (lies_in config) (λ range. range.0 < length ended.ranges) rows
          (all_as (HasRange config ended before.from before.to)
          (λ row. (range : Range) × (range.0 < length ended.ranges) × (lies_in config range row ≡ true))
          (λ row ranged. (ranged.range, ranged.there, ranged.lies)) rows found.ranged)
          (λ range there. all_kept_as (P range) Q (lies_in config range) (lying range) rows
          (rows_before config ended before.from before.to before.number pass rows before.ran.made makes
          before.ran.exact (P range) range (place.from (of.Range range)) (before.below (of.Range range))
          (fresh range there)))

      rows_by : (other : RanLine) (trace : LineTrace)
          (before : RanBefore entries book_entry_pass (Makes config) There ended place.from other)
          → HasMade config before.number other.what trace before.ran.made
          → HasFound config ended before.from before.to before.number other trace → AllByRecursion Q (trace_rows trace)
      rows_by other (came.Fed pass rows refused) before makes found = fed_by other pass rows before makes.1 found.rows
      rows_by other (came.Poured pass ends) before makes found = fed_by other pass ends.accepted before makes.1 found.rows
      rows_by other (came.Asked moment trace) before makes found = tt
      rows_by other (came.Followed moment trace) before makes found = tt
      rows_by other (came.Controlled done) before makes found = tt
      rows_by other (came.Refused fault) before makes found = tt
      rows_by other (came.Ticked dues) before makes found = tt
      rows_by other came.Done before makes found = tt

      rows_of : AllByRecursion (λ other. AllByRecursion Q (accepted_rows other)) seen
      rows_of = all_as (RanBefore entries book_entry_pass (Makes config) There ended place.from)
          (λ other. AllByRecursion Q (accepted_rows other))
          (λ other before. rows_by other other.trace before before.ran.makes before.ran.found.0.found) seen place.before

    -- a row that stands or is hidden in the range that it lies in stands or is hidden in its own
    lying_in : (trace : Trace) (range : Range) (row : Row) → lies_in config range row ≡ true
        → StandsOrIsHidden (source_of ended trace)
        (turns_over ended ((highs config.topology ended later).ranges range) trace range) row
        → StandsOrIsHidden (source_of ended trace) (turns_for config ended later trace (range_of_key config row.key)) row
    lying_in trace range row lies stands = by (range_of_key config row.key) refl
      where
        by : (found : Option Range) → range_of_key config row.key ≡ found
            → StandsOrIsHidden (source_of ended trace) (turns_for config ended later trace found) row
        by None is = absurd (false≢true (sym (lies_nowhere config range row is) ∙ lies))
        by (Some other) is = subst
            (λ (r : Range). StandsOrIsHidden (source_of ended trace) (turns_for config ended later trace (Some r)) row)
            (ranges_same range other (sym (lies_by config range row other is) ∙ lies)) stands

    -- from where the line ran up to the end of its place
    up_to_high : AreWider (marked place.from) (marked place.to) (marked place.from) (highs config.topology ended later)
        ended ended
    up_to_high = record {
      sooner = record { leaves = λ leaf. omega arith; ranges = λ range. omega arith };
      later = wider.later;
      begun = wider.begun;
      within = wider.within;
      grown = wider.grown;
      leaves = refl;
      ranges = refl;
    }

    -- ---- places

    pub is_placed : LineIsPlaced config ended seen later line
    is_placed leaf there = all_as (IsBetween (place.from (of.Leaf leaf)) (place.to (of.Leaf leaf)))
        (IsBetween (low config.topology ended seen (of.Leaf leaf)) (high config.topology ended later (of.Leaf leaf)))
        (λ cut between. record {
          from = let a = low_below (of.Leaf leaf) in let b = between.from in omega arith;
          to = let a = place.to_high (of.Leaf leaf) in let b = between.to in omega arith;
        })
        (cuts_named leaf line.what line.trace) (place.ran.found.0.cuts leaf there)

    pub stands : LineStands config ended seen later line
    stands h k e at mine =
        let p = place.ran.found.1 h k e at mine in let a = low_below h in let b = place.to_high h in
        (omega arith, omega arith)

    -- ---- freshness, by what is known of traces at later moments

    module _ (freshen : (typed : TypedTree) (moment : ℤ) (from to earlier later : Lengths) (seen more : Histories)
        (trace : Trace) → AreWider from to earlier later seen more → IsTraceBetween typed moment from to seen trace
        → IsFreshBetween from to seen trace → IsFreshBetween earlier later more trace) where
      stands_on_rows : (text : List ℕ) (moment : ℤ) (trace : Trace)
          → LookFound config ended place.from place.to text moment trace → StandsOnRows config ended seen later trace
      stands_on_rows text moment trace found = rows_of
          (λ range. StandsOrIsHidden (source_of ended trace)
          (turns_over ended ((highs config.topology ended later).ranges range) trace range))
          (λ row. StandsOrIsHidden (source_of ended trace)
          (turns_for config ended later trace (range_of_key config row.key)) row)
          (lying_in trace)
          (freshen found.typed moment (marked place.from) (marked place.to) (marked place.from)
          (highs config.topology ended later) ended ended trace up_to_high found.of found.fresh).rows

      holds_rows : (trace : LineTrace) → HasFound config ended place.from place.to place.number line trace
          → HoldsRows config ended seen later trace
      holds_rows (came.Fed pass rows refused) found = tt
      holds_rows (came.Poured pass ends) found = tt
      holds_rows (came.Asked moment trace) found = stands_on_rows (text_of line.what) moment trace found
      holds_rows (came.Followed moment trace) found = stands_on_rows (text_of line.what) moment trace found.look
      holds_rows (came.Controlled done) found = tt
      holds_rows (came.Refused fault) found = tt
      holds_rows (came.Ticked dues) found = tt
      holds_rows came.Done found = tt

      pub is_fresh : LineIsFresh config ended seen later line
      is_fresh = (holds_rows line.trace place.ran.found.0.found, cuts_rise)

    -- ---- reads

    read_by : (trace : LineTrace) → HasFound config ended place.from place.to place.number line trace
        → IsRead config ended (text_of line.what) trace
    read_by (came.Fed pass rows refused) found = tt
    read_by (came.Poured pass ends) found = tt
    read_by (came.Asked moment trace) found = found.read
    read_by (came.Followed moment trace) found = found.look.read
    read_by (came.Controlled done) found = tt
    read_by (came.Refused fault) found = tt
    read_by (came.Ticked dues) found = tt
    read_by came.Done found = tt

    pub is_read : LineIsRead config ended seen later line
    is_read = read_by line.trace place.ran.found.0.found

    -- ---- tables and causes, by what is known of traces at wider moments

    module _ (widen : (typed : TypedTree) (moment : ℤ) (from to earlier later : Lengths) (seen more : Histories)
        (trace : Trace) → AreWider from to earlier later seen more → IsTraceBetween typed moment from to seen trace
        → IsTraceBetween typed moment earlier later more trace)
        (find : (from to earlier later : Lengths) (seen more : Histories) (found : FoundDown)
        → AreWider from to earlier later seen more → IsFoundBetween from to seen found
        → IsFoundBetween earlier later more found) where
      abbrev looked_at : (text : List ℕ) (moment : ℤ) (trace : Trace)
          → LookFound config ended place.from place.to text moment trace
          → IsLookedAt config ended seen later text moment trace
      looked_at text moment trace found = record {
        typed = found.typed;
        type_is = found.type_is;
        of = widen found.typed moment (marked place.from) (marked place.to) (lows config.topology ended seen)
            (highs config.topology ended later) ended ended trace wider found.of;
        down = all_as (IsFoundBetween (marked place.from) (marked place.to) ended)
            (IsFoundBetween (lows config.topology ended seen) (highs config.topology ended later) ended)
            (λ one is. find (marked place.from) (marked place.to) (lows config.topology ended seen)
            (highs config.topology ended later) ended ended one wider is) trace.down found.down;
        within = found.within;
      }

      tabled_by : (trace : LineTrace) → HasFound config ended place.from place.to place.number line trace
          → IsTabled config ended seen later line.what trace
      tabled_by (came.Fed pass rows refused) found = tt
      tabled_by (came.Poured pass ends) found = tt
      tabled_by (came.Asked moment trace) found = looked_at (text_of line.what) moment trace found
      tabled_by (came.Followed moment trace) found = record {
        look = looked_at (text_of line.what) moment trace found.look;
        kept = found.kept;
        within = found.each;
      }
      tabled_by (came.Controlled done) found = tt
      tabled_by (came.Refused fault) found = tt
      tabled_by (came.Ticked dues) found = tt
      tabled_by came.Done found = tt

      pub is_tabled : LineIsTabled config ended seen later line
      is_tabled = tabled_by line.trace place.ran.found.0.found
