-- What lines made and found stays so as histories grow, and a part more runs behind the others.
use Rattle.std.proofs.Common.{◌≡◌, ℕ, zero, suc, ◌+◌, ◌<◌, ◌≤◌, false, List, [], ◌∷◌, ◌++◌, length, take}
use Rattle.std.proofs.Common.{drop, slice_get, Some, refl, sym, ap, ◌∙◌, subst, arith}
use Rattle.std.specs.Prelude.{ℤ, Ok}
use Rattle.std.specs.List.{AllByRecursion}
use mathlib.Core.List.{IsPrefix}
use Rattle.history_book.proofs.ListLemmas.{prefix_contains}
use Rattle.history_book.specs.Histories.{book_entry_pass, entries}
use Rattle.history_book.specs.declared.views.BookEntry.{BookEntry}
use Rattle.history_book.specs.declared.views.BookEntry.TheVariants as one
use Rattle.history_book.specs.declared.views.History.{History}
use Rattle.history_book.specs.declared.views.History.TheVariants as of
use Rattle.leaf_store.specs.LeafStates.{key_buckets}
use Rattle.mon_config.specs.declared.config.Config.{Config}
use Rattle.mon_points.specs.declared.records.RowRead.{RowRead}
use Rattle.mon_topo.specs.HeldHistories.{BeginsWith}
use Rattle.mon_topo.specs.RangeHistories.{acknowledged_rows}
use Rattle.mon_value.specs.Histories.{leaf_history, range_history}
use Rattle.mon_value.specs.declared.histories.Histories.{Histories}
use Rattle.mon_value.specs.declared.histories.RangeEntry.TheVariants as range_entry
use Rattle.mon_value.specs.declared.positions.FoundDown.{FoundDown}
use Rattle.mon_value.specs.declared.positions.Leaf.{Leaf}
use Rattle.mon_value.specs.declared.positions.Range.{Range}
use Rattle.mon_value.specs.declared.rows.Row.{Row}
use Rattle.mon_value.specs.declared.rows.SeriesKey.{SeriesKey}
use Rattle.typed_trees.specs.Meaning.{load}
use Rattle.typed_trees.specs.Nodes.{TypedTree}
use Rattle.typed_trees.specs.declared.plans.Plan.{Plan}
use Rattle.query_traces.specs.Founds.{IsFoundBetween}
use Rattle.query_traces.specs.Traces.{AreWider, IsFreshBetween, IsReadRightly, IsTraceBetween, Lengths, source_of}
use Rattle.query_traces.specs.declared.answers.Trace.{Trace}
use Rattle.query_texts.specs.TextTypes.{plan_type, text_type}
use Rattle.run_theory.specs.Parts.{AreBelow, GoesOn, GrowAlong, IsWithin, Part}
use Rattle.run_theory.proofs.Writings.{one_more}
use Rattle.run_traces.specs.LineClaims.{AllRan, AreNew, FileFound, Finds, HasFound, HasRange, HasWritten, HaveGrown}
use Rattle.run_traces.specs.LineAsks.{moments_of, text_of}
use Rattle.run_traces.specs.LineClaims.{IsNewIn, LookFound, Makes}
use Rattle.run_traces.specs.LineCauses.{HasRowCause, WereMissed}
use Rattle.run_traces.specs.LineClaims.{AllTakenFound, FoundAmid, RowFound, RowsFound, StandsAmong, TakenFound, marked}
use Rattle.run_traces.specs.LineSwitches.{first_length, is_row}
use Rattle.run_traces.specs.LineTrims.{AreOwn}
use Rattle.run_traces.specs.RanLines.{OwnPlace, RanLine}
use Rattle.run_traces.specs.declared.traces.LineTrace.{LineTrace}
use Rattle.run_traces.specs.declared.traces.LineTrace.TheVariants as came
use Rattle.ingest_queue.specs.declared.refusals.RowRefusal.{RowRefusal}
use Rattle.run_traces.proofs.Causes.{line_wider, row_wider, take_front}
use Rattle.run_traces.proofs.ListFacts.{all_as}
use Rattle.run_traces.proofs.RunFacts.{book_length, range_length}
use Rattle.run_traces.proofs.Controls.{done_still}
use Rattle.mon_value.proofs.PlainLemmas.{prefix_map}

-- ---- lists

parts_of_list : {X : Type 0} (n : ℕ) (xs : List X) → take n xs ++ drop n xs ≡ xs
parts_of_list zero xs = refl
parts_of_list (suc n) [] = refl
parts_of_list (suc n) (x ∷ xs) = ap (λ w. x ∷ w) (parts_of_list n xs)

front_of : {X : Type 0} (front all : List X) → BeginsWith all front → IsPrefix front all
front_of front all begins =
    (drop (length front) all, ap (λ w. w ++ drop (length front) all) (sym begins) ∙ parts_of_list (length front) all)

get_front : {X : Type 0} (front rest : List X) (k : ℕ) (x : X) → slice_get (front ++ rest) k ≡ Some x
    → k < length front → slice_get front k ≡ Some x
get_front [] rest k x there less = absurd (omega arith)
get_front (y ∷ front) rest zero x there less = there
get_front (y ∷ front) rest (suc k) x there less = get_front front rest k x there (omega arith)

pub goes_on : (seen more : Histories) → HaveGrown seen more → GoesOn entries seen more
goes_on seen more grown (of.Leaf leaf) = prefix_map (λ e. one.Leaf e) (leaf_history seen leaf) (leaf_history more leaf)
    (front_of (leaf_history seen leaf) (leaf_history more leaf) (grown.within.leaves leaf))
goes_on seen more grown (of.Range range) =
    prefix_map (λ e. one.Range e) (range_history seen range) (range_history more range)
    (front_of (range_history seen range) (range_history more range) (grown.within.ranges range))

module _ (widen : (typed : TypedTree) (moment : ℤ) (from to earlier later : Lengths) (seen more : Histories)
    (trace : Trace) → AreWider from to earlier later seen more → IsTraceBetween typed moment from to seen trace
    → IsTraceBetween typed moment earlier later more trace)
    (find : (from to earlier later : Lengths) (seen more : Histories) (found : FoundDown)
    → AreWider from to earlier later seen more → IsFoundBetween from to seen found
    → IsFoundBetween earlier later more found)
    (rows : (typed : TypedTree) (moment : ℤ) (from to earlier later : Lengths) (seen more : Histories) (trace : Trace)
    → AreWider from to earlier later seen more → IsTraceBetween typed moment from to seen trace
    → source_of more trace ≡ source_of seen trace)
    (freshen : (typed : TypedTree) (moment : ℤ) (from to earlier later : Lengths) (seen more : Histories)
    (trace : Trace) → AreWider from to earlier later seen more → IsTraceBetween typed moment from to seen trace
    → IsFreshBetween from to seen trace → IsFreshBetween earlier later more trace)
    (reread : (typed : TypedTree) (moment : ℤ) (from to earlier later : Lengths) (seen more : Histories)
    (trace : Trace) (plan : Plan) (buckets_of : SeriesKey → List ℕ) (leaf : Leaf)
    → AreWider from to earlier later seen more → IsTraceBetween typed moment from to seen trace
    → IsReadRightly typed plan buckets_of seen trace leaf → IsReadRightly typed plan buckets_of more trace leaf)
    (config : Config) where
  module _ (seen more : Histories) (from to : History → ℕ) (line : RanLine) (within : IsWithin entries to seen)
      (grown : HaveGrown seen more) where
    -- between the same lengths of more histories
    same_marks : (since until : History → ℕ) → AreBelow since until → AreBelow until to
        → AreWider (marked since) (marked until) (marked since) (marked until) seen more
    same_marks since until forth high = record {
      sooner = record { leaves = λ leaf. omega arith; ranges = λ range. omega arith };
      later = record { leaves = λ leaf. omega arith; ranges = λ range. omega arith };
      begun = record {
        leaves = λ leaf.
            let a = forth (of.Leaf leaf) in let b = high (of.Leaf leaf) in let d = within (of.Leaf leaf) in
            let e = book_length seen leaf in omega arith;
        ranges = λ range.
            let a = forth (of.Range range) in let b = high (of.Range range) in let d = within (of.Range range) in
            let e = range_length seen range in omega arith;
      };
      within = record {
        leaves = λ leaf.
            let b = high (of.Leaf leaf) in let d = within (of.Leaf leaf) in let e = book_length seen leaf in omega
            arith;
        ranges = λ range.
            let b = high (of.Range range) in let d = within (of.Range range) in
            let e = range_length seen range in omega arith;
      };
      grown = grown.within;
      leaves = grown.leaves;
      ranges = grown.ranges;
    }

    module _ (forth : AreBelow from to) where
      wide : AreWider (marked from) (marked to) (marked from) (marked to) seen more
      wide = same_marks from to forth (λ h. omega arith)

      -- ---- feeds

      ranged_still : (row : Row) → HasRange config seen from to row → HasRange config more from to row
      ranged_still row ranged = record {
        range = ranged.range;
        there = subst (λ w. ranged.range.0 < w) (sym grown.ranges) ranged.there;
        lies = ranged.lies;
      }

      front_still : (range : Range)
          → take (from (of.Range range)) (range_history seen range) ≡ take (from (of.Range range))
          (range_history more range)
      front_still range =
          sym (ap (take (from (of.Range range))) (grown.within.ranges range))
          ∙ take_front (from (of.Range range)) (length (range_history seen range)) (range_history more range)
          (let a = forth (of.Range range) in let b = within (of.Range range) in let e = range_length seen range in
          omega arith)

      new_still : (range : Range) (row : Row) → IsNewIn config seen from to range row
          → IsNewIn config more from to range row
      new_still range row new lies = subst (λ w. AllByRecursion (λ old. is_row row old ≡ false) (acknowledged_rows w))
          (front_still range) (new lies)

      stood : (pass : ℕ) (some : List Row) (h : History) (k : ℕ) → StandsAmong config more from to pass some h k
          → StandsAmong config seen from to pass some h k
      stood pass some h k stands =
          let p = goes_on seen more grown h in (
            stands.0,
            get_front (entries seen h) p.0 k stands.0 (ap (λ w. slice_get w k) p.1 ∙ stands.1)
                (let a = within h in let b = stands.3 in omega arith),
            stands.2,
            stands.3,
            stands.4,
          )

      amid_still : (pass : ℕ) (front rest : List Row) (Is Is' : Lengths → Lengths → Type 0)
          → ((since until : Lengths) → AreWider since until since until seen more → Is since until → Is' since until)
          → FoundAmid config seen from to pass front rest Is → FoundAmid config more from to pass front rest Is'
      amid_still pass front rest Is Is' stays found = record {
        since = found.since;
        until = found.until;
        low = found.low;
        forth = found.forth;
        high = found.high;
        before = λ h k stands. found.before h k (stood pass front h k stands);
        behind = λ h k stands. found.behind h k (stood pass rest h k stands);
        is = stays (marked found.since) (marked found.until)
            (same_marks found.since found.until found.forth found.high) found.is;
      }

      range_goes_on : (range : Range) → IsPrefix (range_history seen range) (range_history more range)
      range_goes_on range =
          front_of (range_history seen range) (range_history more range) (grown.within.ranges range)

      row_still : (reads : List RowRead) (pass : ℕ) (accepted : List Row) (others : ℕ) (refusal : RowRefusal)
          → RowFound config seen from to reads pass accepted others refusal
          → RowFound config more from to reads pass accepted others refusal
      row_still reads pass accepted others refusal found = record {
        read = found.read;
        read_is = found.read_is;
        amid = amid_still pass _ _ (λ since until. HasRowCause config seen since until found.read refusal.fault)
            (λ since until. HasRowCause config more since until found.read refusal.fault)
            (λ since until wider. row_wider widen find rows config seen more since until since until wider found.read
            refusal.fault) found.amid;
      }

      taken_still : (pass : ℕ) (accepted : List Row) (place : ℕ) (row : Row)
          → TakenFound config seen from to pass accepted place row → TakenFound config more from to pass accepted place row
      taken_still pass accepted place row found = record {
        range = found.range;
        ack = found.ack;
        told = prefix_contains (range_history seen found.range) (range_history more found.range)
            (range_entry.Acked pass row found.ack) (range_goes_on found.range) found.told;
        amid = amid_still pass _ _ (λ since until. WereMissed seen since until found.ack)
            (λ since until. WereMissed more since until found.ack)
            (λ since until wider. all_as _ _ (λ miss is. find since until since until seen more
            (record { leaf = miss.leaf; cut = miss.cut }) wider is) found.ack.missed) found.amid;
      }

      all_taken_still : (pass : ℕ) (accepted : List Row) (place : ℕ) (some : List Row)
          → AllTakenFound config seen from to pass accepted place some
          → AllTakenFound config more from to pass accepted place some
      all_taken_still pass accepted place [] found = tt
      all_taken_still pass accepted place (row ∷ some) found =
          (taken_still pass accepted place row found.0, all_taken_still pass accepted (place + 1) some found.1)

      rows_still : (reads : List RowRead) (pass : ℕ) (accepted : List Row) (others : ℕ) (refusals : List RowRefusal)
          → RowsFound config seen from to reads pass accepted others refusals
          → RowsFound config more from to reads pass accepted others refusals
      rows_still reads pass accepted others [] found = tt
      rows_still reads pass accepted others (refusal ∷ refusals) found = (
        row_still reads pass accepted others refusal found.0,
        rows_still reads pass accepted (others + 1) refusals found.1,
      )

      all_new_still : (accepted : List Row) → AreNew config seen from to accepted → AreNew config more from to accepted
      all_new_still accepted found = record {
        ranged = all_as (HasRange config seen from to) (HasRange config more from to) ranged_still accepted
            found.ranged;
        new = λ range. all_as (IsNewIn config seen from to range) (IsNewIn config more from to range) (new_still range)
            accepted (found.new range);
      }

      file_still : (content : List ℕ) (pass : ℕ) (accepted : List Row) (refusals : List RowRefusal)
          → FileFound config seen from to content pass accepted refusals
          → FileFound config more from to content pass accepted refusals
      file_still content pass accepted refusals found = record {
        refused = rows_still _ pass accepted 0 refusals found.refused;
        taken = all_taken_still pass accepted 0 accepted found.taken;
      }

      -- ---- lines

      leaf_goes_on : (leaf : Leaf) → IsPrefix (leaf_history seen leaf) (leaf_history more leaf)
      leaf_goes_on leaf = front_of (leaf_history seen leaf) (leaf_history more leaf) (grown.within.leaves leaf)

      same_source : (typed : TypedTree) (moment : ℤ) (trace : Trace)
          → IsTraceBetween typed moment (marked from) (marked to) seen trace → source_of more trace ≡ source_of seen trace
      same_source typed moment trace of =
          rows typed moment (marked from) (marked to) (marked from) (marked to) seen more trace wide of

      same_type : (text : List ℕ) (typed : TypedTree) (plan : Plan) → text_type config.schemas text ≡ Ok typed
          → text_type config.schemas text ≡ Ok (plan_type plan) → plan_type plan ≡ typed
      same_type text typed plan here there = cc

      abbrev look_still : (text : List ℕ) (moment : ℤ) (trace : Trace) → LookFound config seen from to text moment trace
          → LookFound config more from to text moment trace
      look_still text moment trace found = record {
        typed = found.typed;
        type_is = found.type_is;
        of = widen found.typed moment (marked from) (marked to) (marked from) (marked to) seen more trace wide found.of;
        fresh = freshen found.typed moment (marked from) (marked to) (marked from) (marked to) seen more trace wide
            found.of found.fresh;
        down = all_as (IsFoundBetween (marked from) (marked to) seen) (IsFoundBetween (marked from) (marked to) more)
            (λ one is. find (marked from) (marked to) (marked from) (marked to) seen more one wide is) trace.down
            found.down;
        within = subst (λ w. load found.typed w moment ≤ config.limit)
            (sym (same_source found.typed moment trace found.of)) found.within;
        read = record {
          plan = found.read.plan;
          planned = found.read.planned;
          type_is = found.read.type_is;
          read = λ leaf there.
              let same = same_type text found.typed found.read.plan found.type_is found.read.type_is in
              reread (plan_type found.read.plan) moment (marked from) (marked to) (marked from) (marked to) seen more
              trace found.read.plan (key_buckets config.buckets config.schemas) leaf wide
              (subst (λ w. IsTraceBetween w moment (marked from) (marked to) seen trace) (sym same) found.of)
              (found.read.read leaf (subst (λ w. leaf.0 < w) grown.leaves there));
        };
      }

      -- a line's own places
      owns_still : (number : ℕ) (own : List OwnPlace) → AreOwn seen from to number own → AreOwn more from to number own
      owns_still number own owns = record {
        within = owns.within;
        under = λ h k e there mine.
            owns.under h k e (stood_there h k e there (let a = owns.within h k mine in a.1)) mine;
        all = λ h k e there low high under. owns.all h k e (stood_there h k e there high) low high under;
      }
        where
          stood_there : (h : History) (k : ℕ) (e : BookEntry) → slice_get (entries more h) k ≡ Some e → k < to h
              → slice_get (entries seen h) k ≡ Some e
          stood_there h k e there high =
              let p = goes_on seen more grown h in
              get_front (entries seen h) p.0 k e (ap (λ w. slice_get w k) p.1 ∙ there)
              (let a = within h in omega arith)

      found_still : (number : ℕ) (trace : LineTrace) → HasFound config seen from to number line trace
          → HasFound config more from to number line trace
      found_still number (came.Fed pass accepted refusals) found = record {
        rows = all_new_still accepted found.rows;
        file = file_still line.content.first pass accepted refusals found.file;
      }
      found_still number (came.Poured pass ends) found = record {
        rows = all_new_still ends.accepted found.rows;
        first = file_still line.content.first pass ends.first.accepted ends.first.refused found.first;
        second = file_still line.content.second pass ends.second.accepted ends.second.refused found.second;
      }
      found_still number (came.Asked moment trace) found = look_still (text_of line.what) moment trace found
      found_still number (came.Followed moment trace) found = record {
        look = look_still (text_of line.what) moment trace found.look;
        kept = found.kept;
        each = subst (λ w. AllByRecursion (λ at. load found.look.typed w at ≤ config.limit) (moments_of line.what))
            (sym (same_source found.look.typed moment trace found.look.of)) found.each;
      }
      found_still number (came.Controlled done) found = done_still seen more from to from to (λ h. omega arith)
          (λ h. omega arith) leaf_goes_on range_goes_on number line.what line.own config (owns_still number line.own)
          (λ one is. find (marked from) (marked to) (marked from) (marked to) seen more one wide is) done found
      found_still number (came.Refused fault) found = line_wider widen find rows config seen more (marked from)
          (marked to) (marked from) (marked to) wide line.what fault found
      found_still number (came.Ticked dues) found = absurd found
      found_still number came.Done found = tt

    finds_still : (number : ℕ) → Finds config seen from to number line → Finds config more from to number line
    finds_still number found = record {
      forth = found.forth;
      suits = found.suits;
      told = found.told;
      cuts = λ leaf there. found.cuts leaf (subst (λ w. leaf.0 < w) grown.leaves there);
      found = found_still found.forth number line.trace found.found;
    }

  pub claims_grow : GrowAlong entries HaveGrown (Finds config)
  claims_grow = record {
    goes = goes_on;
    finds = λ seen more from to number line within grown found.
        finds_still seen more from to line within grown number found;
  }

  pub one_part_more : (before after : Histories) (parts : List (Part RanLine)) (part : Part RanLine)
      → AllRan config before parts → HasWritten config before after part
      → AllRan config after (parts ++ part ∷ [])
  one_part_more before after parts part ran wrote =
      one_more entries book_entry_pass (Makes config) (Finds config) HaveGrown claims_grow
      (first_length config.topology before) before after parts part ran wrote
