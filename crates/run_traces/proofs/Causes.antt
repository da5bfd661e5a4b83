-- Why lines and records were refused, at lengths in their places.
use Rattle.std.proofs.Common.{◌≡◌, ℕ, zero, suc, ◌+◌, ◌<◌, ◌≤◌, nat_eq, nat_le, ◌||◌, Bool, true, false, List}
use Rattle.std.proofs.Common.{[], ◌∷◌, ◌++◌, length, take, drop, slice_get, Some, refl, ap, ◌∙◌, arith}
use Rattle.std.proofs.Common.{subst, sym}
use Rattle.std.specs.Prelude.{ℤ, map, Contains}
use Rattle.std.specs.List.{AllByRecursion, count_by, list_any}
use Rattle.std.proofs.lemmas.Bool.{and_from, and_parts, false≢true}
use Rattle.std.proofs.lemmas.List.{take_all}
use Rattle.history_book.specs.Histories.{book_entry_pass, entries}
use Rattle.history_book.specs.declared.views.BookEntry.{BookEntry}
use Rattle.history_book.specs.declared.views.BookEntry.TheVariants as one
use Rattle.history_book.specs.declared.views.History.{History}
use Rattle.history_book.specs.declared.views.History.TheVariants as of
use Rattle.mon_config.specs.declared.config.Config.{Config}
use Rattle.mon_points.specs.Records.{reads_of}
use Rattle.mon_points.specs.declared.records.RowRead.{RowRead}
use Rattle.mon_points.specs.declared.records.RowRead.TheVariants as read
use Rattle.mon_topo.specs.RangeHistories.{serving, is_avoided}
use Rattle.mon_value.specs.Histories.{leaf_history, range_history}
use Rattle.mon_value.specs.LeafHistories.{is_down, is_switch}
use Rattle.mon_value.specs.declared.histories.Entry.TheVariants as entry
use Rattle.mon_value.specs.declared.histories.Histories.{Histories}
use Rattle.mon_value.specs.declared.histories.RangeEntry.TheVariants as range_entry
use Rattle.mon_value.specs.declared.positions.FoundDown.{FoundDown}
use Rattle.mon_value.specs.declared.positions.Leaf.{Leaf}
use Rattle.mon_value.specs.declared.positions.Range.{Range}
use Rattle.mon_value.specs.declared.positions.SlotLeaf.{SlotLeaf}
use Rattle.mon_value.specs.declared.rows.Row.{Row}
use Rattle.typed_trees.specs.Meaning.{load}
use Rattle.typed_trees.specs.Nodes.{TypedTree}
use Rattle.query_traces.specs.Founds.{IsFoundBetween}
use Rattle.query_traces.specs.Traces.{AreWider, IsBetween, IsTraceBetween, Lengths, found_leaves, source_of}
use Rattle.query_traces.specs.declared.answers.Trace.{Trace}
use Rattle.range_cell.specs.declared.answers.WriteFault.{WriteFault}
use Rattle.range_cell.specs.declared.answers.WriteFault.TheVariants as unwritten
use Rattle.run_theory.specs.InPlace as theory
use Rattle.run_theory.specs.Parts.{RanBefore, RanBehind}
use Rattle.run_theory.proofs.Lists.{first_place_behind, last_end_within}
use Rattle.run_traces.specs.LineCauses.{FileIsCaused, HasCause, HasNoSource, HasNoTarget, HasNoneUp, HasRowCause}
use Rattle.run_traces.specs.LineCauses.{HasSwitchedEnough, HaveMissed, IsNotRetired, IsTrimmedNowhere, RetirementCause}
use Rattle.run_traces.specs.LineCauses.{TrimCause}
use Rattle.run_traces.specs.LineCauses.{IsCaused, IsDenied, IsLeftWithout, IsNotKept, IsOverLimit, IsRefusedByRange, IsUnwritten, LineIsCaused}
use Rattle.run_traces.specs.LineCauses.{ControlCause, QuestionCause, RecoveryCause, StandingCause, SwitchCause, WasAlready}
use Rattle.run_traces.specs.LineCauses.{RowHasCause, RowIsTaken, RowsAreTaken, RowsHaveCauses, WereMissed, fed, rows_before}
use Rattle.run_traces.specs.LineClaims.{AllTakenFound, DoneFound, FileFound, FoundAmid, HasFound, Makes, PourFound, RowFound}
use Rattle.run_traces.specs.LineClaims.{RowsFound, TakenFound, marked}
use Rattle.run_traces.specs.LineFeeds.{IsTold, PourIsTold}
use Rattle.run_traces.specs.LineSwitches.{first_length, high, highs, is_entry_of, is_fed, is_row, is_traced, low, lows}
use Rattle.run_traces.specs.LineAsks.{moment_of, moments_of, text_of}
use Rattle.run_traces.specs.RanLines.{RanLine}
use Rattle.run_traces.specs.declared.traces.ControlDone.{ControlDone}
use Rattle.run_traces.specs.declared.traces.ControlDone.TheVariants as did
use Rattle.run_traces.specs.declared.traces.ControlFault.{ControlFault}
use Rattle.run_traces.specs.declared.traces.ControlFault.TheVariants as undone
use Rattle.run_traces.specs.declared.traces.LineFault.{LineFault}
use Rattle.run_traces.specs.declared.traces.LineFault.TheVariants as why
use Rattle.run_traces.specs.declared.traces.LineTrace.{LineTrace}
use Rattle.run_traces.specs.declared.traces.LineTrace.TheVariants as came
use Rattle.run_traces.specs.declared.traces.QuestionFault.{QuestionFault}
use Rattle.run_traces.specs.declared.traces.QuestionFault.TheVariants as unanswered
use Rattle.run_traces.specs.declared.traces.RecoveryFault.{RecoveryFault}
use Rattle.run_traces.specs.declared.traces.RecoveryFault.TheVariants as unopened
use Rattle.ingest_queue.specs.declared.ends.Poured.{Poured}
use Rattle.ingest_queue.specs.declared.refusals.RowRefusal.{RowRefusal}
use Rattle.ingest_queue.specs.declared.refusals.RowRefused.{RowRefused}
use Rattle.ingest_queue.specs.declared.refusals.RowRefused.TheVariants as refused
use Rattle.run_traces.specs.declared.traces.RetireRefusal.{RetireRefusal}
use Rattle.run_traces.specs.declared.traces.RetireRefusal.TheVariants as unretired
use Rattle.run_traces.specs.declared.traces.TrimRefusal.{TrimRefusal}
use Rattle.run_traces.specs.declared.traces.TrimRefusal.TheVariants as untrimmed
use Rattle.run_traces.specs.declared.traces.SwitchFault.{SwitchFault}
use Rattle.run_traces.specs.declared.traces.SwitchFault.TheVariants as unswitched
use Rattle.standing.specs.declared.faults.StandingFault.{StandingFault}
use Rattle.standing.specs.declared.faults.StandingFault.TheVariants as unstood
use Rattle.mon_script.specs.declared.forms.LineForm.{LineForm}
use Rattle.write_core.specs.Recovering.{denial_of}
use Rattle.write_core.specs.RangeAnswers.{refusal}
use Rattle.write_core.specs.Retirements.{retirement_of}
use Rattle.write_core.specs.declared.retirements.Retirement.{Retirement}
use Rattle.write_core.specs.declared.retirements.Retirement.TheVariants as retirement
use Rattle.write_core.specs.declared.copies.Denial.{Denial}
use Rattle.write_core.specs.declared.copies.Denial.TheVariants as denial
use Rattle.write_core.specs.declared.refusals.Refused.{Refused}
use Rattle.write_core.specs.declared.refusals.Refused.TheVariants as ranged
use Rattle.run_traces.proofs.ListFacts.{all_as, all_at, any_at, or_either}
use Rattle.run_traces.proofs.RunFacts.{InPlace, There, book_length, greater_by, range_length, wider}
use Rattle.run_traces.proofs.Woven.{any_of_one, any_of_other}

-- ---- lists

pub take_front : {X : Type 0} (n m : ℕ) (xs : List X) → n ≤ m → take n (take m xs) ≡ take n xs
take_front zero m xs le = refl
take_front (suc n) zero xs le = absurd (omega arith)
take_front (suc n) (suc m) [] le = refl
take_front (suc n) (suc m) (x ∷ xs) le = ap (λ w. x ∷ w) (take_front n m xs (omega arith))

-- ---- tests of lists

module _ {X : Type 0} (test : X → Bool) where
  pub any_split : (xs ys : List X) (C : Type 0) → list_any test (xs ++ ys) ≡ true → (list_any test xs ≡ true → C)
      → (list_any test ys ≡ true → C) → C
  any_split [] ys C is here there = there is
  any_split (x ∷ xs) ys C is here there = or_either (test x) (list_any test (xs ++ ys)) C is
      (λ one. here (ap (λ b. b || list_any test xs) one))
      (λ more. any_split xs ys C more (λ rest. here (or_right (test x) (list_any test xs) rest)) there)
    where
      or_right : (a b : Bool) → b ≡ true → (a || b) ≡ true
      or_right true b is = refl
      or_right false b is = is

  any_front : (n : ℕ) (xs : List X) → list_any test (take n xs) ≡ true → list_any test xs ≡ true
  any_front zero xs is = absurd (false≢true is)
  any_front (suc n) [] is = absurd (false≢true is)
  any_front (suc n) (x ∷ xs) is = more_of (test x) (list_any test (take n xs)) (list_any test xs) is (any_front n xs)
    where
      more_of : (a b c : Bool) → (a || b) ≡ true → (b ≡ true → c ≡ true) → (a || c) ≡ true
      more_of true b c is more = refl
      more_of false b c is more = more is

  any_rest : (n : ℕ) (xs : List X) → list_any test (drop n xs) ≡ true → list_any test xs ≡ true
  any_rest zero xs is = is
  any_rest (suc n) [] is = absurd (false≢true is)
  any_rest (suc n) (x ∷ xs) is = or_last (test x) (list_any test xs) (any_rest n xs is)
    where
      or_last : (a b : Bool) → b ≡ true → (a || b) ≡ true
      or_last true b is = refl
      or_last false b is = is

-- an entry of some of a feed's rows is one of all of them
pub fed_more : (pass : ℕ) (some rows : List Row)
    → ((w : Row) → list_any (is_row w) some ≡ true → list_any (is_row w) rows ≡ true) → (e : BookEntry)
    → is_fed pass some e ≡ true → is_fed pass rows e ≡ true
fed_more pass some rows more (one.Leaf (entry.Opened by range slot held)) is = is
fed_more pass some rows more (one.Leaf (entry.Put by range slot row)) is =
    let two = and_parts (nat_eq by pass) (list_any (is_row row) some) is in
    and_from (nat_eq by pass) (list_any (is_row row) rows) two.0 (more row two.1)
fed_more pass some rows more (one.Leaf (entry.Trim by range slot before)) is = is
fed_more pass some rows more (one.Leaf (entry.Down by)) is = is
fed_more pass some rows more (one.Leaf (entry.Up by)) is = is
fed_more pass some rows more (one.Range (range_entry.Opened by slot leaf)) is = is
fed_more pass some rows more (one.Range (range_entry.Trimmed by before ack)) is = is
fed_more pass some rows more (one.Range (range_entry.Retired by slot)) is = is
fed_more pass some rows more (one.Range (range_entry.Acked by row ack)) is =
    let two = and_parts (nat_eq by pass) (list_any (is_row row) some) is in
    and_from (nat_eq by pass) (list_any (is_row row) rows) two.0 (more row two.1)

module _ (widen : (typed : TypedTree) (moment : ℤ) (from to earlier later : Lengths) (seen more : Histories)
    (trace : Trace) → AreWider from to earlier later seen more → IsTraceBetween typed moment from to seen trace
    → IsTraceBetween typed moment earlier later more trace)
    (find : (from to earlier later : Lengths) (seen more : Histories) (found : FoundDown)
    → AreWider from to earlier later seen more → IsFoundBetween from to seen found
    → IsFoundBetween earlier later more found)
    (rows : (typed : TypedTree) (moment : ℤ) (from to earlier later : Lengths) (seen more : Histories) (trace : Trace)
    → AreWider from to earlier later seen more → IsTraceBetween typed moment from to seen trace
    → source_of more trace ≡ source_of seen trace)
    (config : Config) where
  -- ---- causes at wider moments

  module _ (seen more : Histories) (from to first last : Lengths) (wide : AreWider from to first last seen more) where
    length_wider : (range : Range) (found : ℕ) → IsBetween (from.ranges range) (to.ranges range) found
        → IsBetween (first.ranges range) (last.ranges range) found
    length_wider range found between = record {
      from = let a = wide.sooner.ranges range in let b = between.from in omega arith;
      to = let a = wide.later.ranges range in let b = between.to in omega arith;
    }

    -- what stood there by then still does
    front_stays : (range : Range) (found : ℕ) → IsBetween (from.ranges range) (to.ranges range) found
        → take found (range_history seen range) ≡ take found (range_history more range)
    front_stays range found between =
        sym (ap (take found) (wide.grown.ranges range))
        ∙ take_front found (length (range_history seen range)) (range_history more range)
        (let a = wide.within.ranges range in let b = between.to in omega arith)

    none_wider : (range : Range) (founds : List FoundDown) → HasNoneUp config seen from to range founds
        → HasNoneUp config more first last range founds
    none_wider range founds none = record {
      were_found = all_as (IsFoundBetween from to seen) (IsFoundBetween first last more)
          (λ found is. find from to first last seen more found wide is) founds none.were_found;
      found = none.found;
      between = length_wider range none.found none.between;
      all_down = subst (λ w. AllByRecursion (λ replica. is_avoided (found_leaves founds) replica ≡ true) (serving w))
          (front_stays range none.found none.between) none.all_down;
    }

    left_wider : (text : List ℕ) (range : Range) (founds : List FoundDown)
        → IsLeftWithout config seen from to text range founds → IsLeftWithout config more first last text range founds
    left_wider text range founds left = record {
      typed = left.typed;
      type_is = left.type_is;
      zone = left.zone;
      zoned = left.zoned;
      named = left.named;
      none_up = none_wider range founds left.none_up;
    }

    over_wider : (text : List ℕ) (moment : ℤ) (moments : List ℤ) (limit : ℕ) (trace : Trace)
        → IsOverLimit config seen from to text moment moments limit trace
        → IsOverLimit config more first last text moment moments limit trace
    over_wider text moment moments limit trace cause = record {
      typed = cause.typed;
      type_is = cause.type_is;
      of = widen cause.typed moment from to first last seen more trace wide cause.of;
      since = λ leaf there.
          let a = wide.sooner.leaves leaf in let b = cause.since leaf (subst (λ w. leaf.0 < w) wide.leaves there) in
          omega arith;
      down = all_as (IsFoundBetween from to seen) (IsFoundBetween first last more)
          (λ found is. find from to first last seen more found wide is) trace.down cause.down;
      limit_is = cause.limit_is;
      at = cause.at;
      among = cause.among;
      above = subst (λ w. config.limit < load cause.typed w cause.at)
          (sym (rows cause.typed moment from to first last seen more trace wide cause.of)) cause.above;
    }

    not_kept_wider : (text : List ℕ) (moment : ℤ) → IsNotKept config seen from to text moment
        → IsNotKept config more first last text moment
    not_kept_wider text moment cause = record {
      typed = cause.typed;
      type_is = cause.type_is;
      trace = cause.trace;
      of = widen cause.typed moment from to first last seen more cause.trace wide cause.of;
      within = subst (λ w. load cause.typed w moment ≤ config.limit)
          (sym (rows cause.typed moment from to first last seen more cause.trace wide cause.of)) cause.within;
      form = cause.form;
    }

    -- ---- of leaves that are switched

    cut_wider : (leaf : Leaf) (cut : ℕ) → IsBetween (from.leaves leaf) (to.leaves leaf) cut
        → IsBetween (first.leaves leaf) (last.leaves leaf) cut
    cut_wider leaf cut between = record {
      from = let a = wide.sooner.leaves leaf in let b = between.from in omega arith;
      to = let a = wide.later.leaves leaf in let b = between.to in omega arith;
    }

    leaf_front_stays : (leaf : Leaf) (cut : ℕ) → IsBetween (from.leaves leaf) (to.leaves leaf) cut
        → take cut (leaf_history seen leaf) ≡ take cut (leaf_history more leaf)
    leaf_front_stays leaf cut between =
        sym (ap (take cut) (wide.grown.leaves leaf))
        ∙ take_front cut (length (leaf_history seen leaf)) (leaf_history more leaf)
        (let a = wide.within.leaves leaf in let b = between.to in omega arith)

    already_wider : (what : LineForm) (down : Bool) (cut : ℕ) → WasAlready config seen from to what down cut
        → WasAlready config more first last what down cut
    already_wider what down cut was = record {
      switch = was.switch;
      asked = was.asked;
      way = was.way;
      between = cut_wider was.switch.leaf cut was.between;
      already = ap is_down (sym (leaf_front_stays was.switch.leaf cut was.between)) ∙ was.already;
    }

    enough_wider : (what : LineForm) (count : ℕ) → HasSwitchedEnough config seen from to what count
        → HasSwitchedEnough config more first last what count
    enough_wider what count has =
        let stays = leaf_front_stays has.switch.leaf has.found has.between in
        record {
          switch = has.switch;
          asked = has.asked;
          found = has.found;
          between = cut_wider has.switch.leaf has.found has.between;
          other = ap is_down (sym stays) ∙ has.other;
          most = has.most;
          spent = ap (count_by is_switch) (sym stays) ∙ has.spent;
        }

    -- ---- of recoveries

    denied_wider : (what : LineForm) (told : Denial) → IsDenied config seen from to what told
        → IsDenied config more first last what told
    denied_wider what told is = record {
      recovery = is.recovery;
      asked = is.asked;
      found = is.found;
      between = length_wider is.recovery.range is.found is.between;
      denied = ap (λ w. denial_of w is.recovery.leaf) (sym (front_stays is.recovery.range is.found is.between))
          ∙ is.denied;
    }

    source_wider : (what : LineForm) (founds : List FoundDown) → HasNoSource config seen from to what founds
        → HasNoSource config more first last what founds
    unfolding none_wider
    source_wider what founds has = record {
      recovery = has.recovery;
      asked = has.asked;
      none_up = none_wider has.recovery.range founds has.none_up;
      those = has.those ∙ ap (λ w. map (λ (replica : SlotLeaf). replica.leaf) (serving w))
          (front_stays has.recovery.range has.none_up.found has.none_up.between);
      free = ap (λ w. denial_of w has.recovery.leaf)
          (sym (front_stays has.recovery.range has.none_up.found has.none_up.between)) ∙ has.free;
    }

    target_wider : (what : LineForm) (cut : ℕ) → HasNoTarget config seen from to what cut
        → HasNoTarget config more first last what cut
    target_wider what cut has = record {
      recovery = has.recovery;
      asked = has.asked;
      found = has.found;
      between = length_wider has.recovery.range has.found has.between;
      free = ap (λ w. denial_of w has.recovery.leaf) (sym (front_stays has.recovery.range has.found has.between))
          ∙ has.free;
      source = record {
        source = has.source.source;
        serves = subst (λ w. Contains (serving w) has.source.source)
            (front_stays has.recovery.range has.found has.between) has.source.serves;
        cut = has.source.cut;
        between = cut_wider has.source.source.leaf has.source.cut has.source.between;
        up = ap is_down (sym (leaf_front_stays has.source.source.leaf has.source.cut has.source.between)) ∙ has.source.up;
      };
      down = find from to first last seen more (record { leaf = has.recovery.leaf; cut = cut }) wide has.down;
    }

    -- ---- of trims and retirements

    nowhere_wider : (what : LineForm) (range : Range) (founds : List FoundDown)
        → IsTrimmedNowhere config seen from to what range founds → IsTrimmedNowhere config more first last what range founds
    unfolding none_wider
    nowhere_wider what range founds has = record {
      bound = has.bound;
      asked = has.asked;
      range_is = has.range_is;
      none_up = none_wider range founds has.none_up;
      those = has.those ∙ ap (λ w. map (λ (replica : SlotLeaf). replica.leaf) (serving w))
          (front_stays range has.none_up.found has.none_up.between);
    }

    unretired_wider : (what : LineForm) (told : Retirement) → IsNotRetired config seen from to what told
        → IsNotRetired config more first last what told
    unretired_wider what told is = record {
      withdrawal = is.withdrawal;
      asked = is.asked;
      found = is.found;
      between = length_wider is.withdrawal.range is.found is.between;
      told_so = ap (λ w. retirement_of w is.withdrawal.leaf)
          (sym (front_stays is.withdrawal.range is.found is.between)) ∙ is.told_so;
    }

    question_wider : (what : LineForm) (fault : QuestionFault) → QuestionCause config seen from to what fault
        → QuestionCause config more first last what fault
    question_wider what (unanswered.Parse parse) cause = cause
    question_wider what (unanswered.Typing typing) cause = cause
    question_wider what (unanswered.NoReplica range founds) cause = left_wider (text_of what) range founds cause
    question_wider what (unanswered.StepLimit limit trace) cause =
        over_wider (text_of what) (moment_of what) (moments_of what) limit trace cause

    switch_wider : (what : LineForm) (fault : SwitchFault) → SwitchCause config seen from to what fault
        → SwitchCause config more first last what fault
    switch_wider what (unswitched.AlreadyDown cut) cause = already_wider what true cut cause
    switch_wider what (unswitched.AlreadyUp cut) cause = already_wider what false cut cause
    switch_wider what (unswitched.SwitchesSpent count) cause = enough_wider what count cause

    recovery_wider : (what : LineForm) (fault : RecoveryFault) → RecoveryCause config seen from to what fault
        → RecoveryCause config more first last what fault
    recovery_wider what (unopened.Serving slot) cause = denied_wider what (denial.ServesThere slot) cause
    recovery_wider what unopened.ThreeServing cause = denied_wider what denial.ServesFully cause
    recovery_wider what (unopened.SlotsSpent count) cause = denied_wider what (denial.SlotsSpent count) cause
    recovery_wider what (unopened.SourceDown founds) cause = source_wider what founds cause
    recovery_wider what (unopened.TargetDown cut) cause = target_wider what cut cause

    refused_trim_wider : (what : LineForm) (fault : TrimRefusal) → TrimCause config seen from to what fault
        → TrimCause config more first last what fault
    refused_trim_wider what (untrimmed.Unavailable range founds) cause = nowhere_wider what range founds cause

    refused_retirement_wider : (what : LineForm) (fault : RetireRefusal)
        → RetirementCause config seen from to what fault → RetirementCause config more first last what fault
    refused_retirement_wider what unretired.NotServing cause = unretired_wider what retirement.NotServing cause
    refused_retirement_wider what (unretired.LastServing slot) cause =
        unretired_wider what (retirement.LastServing slot) cause

    control_wider : (what : LineForm) (fault : ControlFault) → ControlCause config seen from to what fault
        → ControlCause config more first last what fault
    control_wider what (undone.Switch fault) cause = switch_wider what fault cause
    control_wider what (undone.Recovery fault) cause = recovery_wider what fault cause
    control_wider what (undone.Trim fault) cause = refused_trim_wider what fault cause
    control_wider what (undone.Retirement fault) cause = refused_retirement_wider what fault cause

    standing_wider : (what : LineForm) (fault : StandingFault) → StandingCause config seen from to what fault
        → StandingCause config more first last what fault
    standing_wider what unstood.NameTaken cause = cause
    standing_wider what (unstood.Parse parse) cause = cause
    standing_wider what (unstood.Typing typing) cause = cause

    pub line_wider : (what : LineForm) (fault : LineFault) → HasCause config seen from to what fault
        → HasCause config more first last what fault
    line_wider what (why.Question fault) cause = question_wider what fault cause
    line_wider what (why.Control fault) cause = control_wider what fault cause
    line_wider what (why.Standing fault) cause = standing_wider what fault cause
    line_wider what (why.Due fault) cause = cause
    line_wider what why.NotIncremental cause = not_kept_wider (text_of what) (moment_of what) cause

    range_wider : (row : Row) (told : Refused) → IsRefusedByRange config seen from to row told
        → IsRefusedByRange config more first last row told
    range_wider row told cause = record {
      range = cause.range;
      in_range = cause.in_range;
      found = cause.found;
      between = length_wider cause.range cause.found cause.between;
      refused = ap (λ w. refusal config.range_points w row)
          (sym (front_stays cause.range cause.found cause.between)) ∙ cause.refused;
    }

    write_wider : (row : Row) (fault : WriteFault) → IsUnwritten config seen from to row fault
        → IsUnwritten config more first last row fault
    unfolding none_wider
    write_wider row unwritten.NoZone cause = cause
    write_wider row (unwritten.OldPoint end) cause = range_wider row (ranged.OldPoint end) cause
    write_wider row (unwritten.RangeFull limit) cause = range_wider row (ranged.RangeFull limit) cause
    write_wider row (unwritten.Unavailable range founds) cause = record {
      in_range = cause.in_range;
      none_up = none_wider range founds cause.none_up;
      those = cause.those ∙ ap (λ w. map (λ (replica : SlotLeaf). replica.leaf) (serving w))
          (front_stays range cause.none_up.found cause.none_up.between);
      free = ap (λ w. refusal config.range_points w row)
          (sym (front_stays range cause.none_up.found cause.none_up.between)) ∙ cause.free;
    }
    write_wider row unwritten.OutOfMemory cause = cause

    pub row_wider : (one : RowRead) (fault : RowRefused) → HasRowCause config seen from to one fault
        → HasRowCause config more first last one fault
    row_wider (read.Fault fault) (refused.Read told) cause = cause
    row_wider (read.Fault fault) (refused.Write told) cause = cause
    row_wider (read.Row row) (refused.Read told) cause = cause
    row_wider (read.Row row) (refused.Write told) cause = write_wider row told cause

  -- ---- records in their places

  module _ (ended : Histories) (seen later : List RanLine) (line : RanLine)
      (place : InPlace config ended seen later line) (pass : ℕ) (accepted : List Row)
      (own : (h : History) (k : ℕ) (e : BookEntry) → is_fed pass accepted e ≡ true → is_entry_of line h k e ≡ true)
    where
      -- an entry of what was accepted of a file stands where the line ran
      there : (h : History) (k : ℕ) (e : BookEntry) → slice_get (entries ended h) k ≡ Some e
          → is_fed pass accepted e ≡ true → (place.from h ≤ k) × (k < place.to h)
      there h k e at fed_is = place.ran.found.1 h k e at (own h k e fed_is)

      -- something was found behind some of its rows and before others
      module _ (front rest : List Row)
          (of_front : (w : Row) → list_any (is_row w) front ≡ true → list_any (is_row w) accepted ≡ true)
          (of_rest : (w : Row) → list_any (is_row w) rest ≡ true → list_any (is_row w) accepted ≡ true)
          (Is : Lengths → Lengths → Type 0) (found : FoundAmid config ended place.from place.to pass front rest Is) where
        stands_before : (h : History) (k : ℕ) (e : BookEntry) → slice_get (entries ended h) k ≡ Some e
            → list_any (λ other. is_entry_of other h k e) (seen ++ fed line pass front ∷ []) ≡ true → k < found.since h
        stands_before h k e at any = any_split (λ (other : RanLine). is_entry_of other h k e) seen
            (fed line pass front ∷ []) (k < found.since h) any
            (λ some. any_at (λ (other : RanLine). is_entry_of other h k e) seen (k < found.since h) some
            (λ j other stands its.
            let before = all_at (RanBefore entries book_entry_pass (Makes config) (There config ended) ended
            place.from) seen
            j other place.before stands in
            let p = before.ran.found.1 h k e at its in let b = before.below h in let l = found.low h in omega arith))
            (λ own. or_either (is_fed pass front e) false (k < found.since h) own
            (λ mine.
            let p = there h k e at (fed_more pass front accepted of_front e mine) in
            found.before h k (e, at, p.0, p.1, mine))
            (λ never. absurd (false≢true never)))

        stands_behind : (h : History) (k : ℕ) (e : BookEntry) → slice_get (entries ended h) k ≡ Some e
            → list_any (λ other. is_entry_of other h k e) (fed line pass rest ∷ later) ≡ true → found.until h ≤ k
        stands_behind h k e at any = or_either (is_fed pass rest e)
            (list_any (λ (other : RanLine). is_entry_of other h k e) later) (found.until h ≤ k) any
            (λ mine.
            let p = there h k e at (fed_more pass rest accepted of_rest e mine) in
            found.behind h k (e, at, p.0, p.1, mine))
            (λ some. any_at (λ (other : RanLine). is_entry_of other h k e) later (found.until h ≤ k) some
            (λ j other stands its.
            let behind = all_at (RanBehind entries book_entry_pass (Makes config) (There config ended) ended place.to)
            later j
            other place.behind stands in
            let p = behind.ran.found.1 h k e at its in let b = behind.below h in let l = found.high h in omega arith))

        since_low : (h : History) → low config.topology ended (seen ++ fed line pass front ∷ []) h ≤ found.since h
        since_low h = greater_by (first_length config.topology ended h)
            (theory.low is_entry_of (entries ended) (seen ++ fed line pass front ∷ []) h) (found.since h)
            (nat_le (first_length config.topology ended h)
            (theory.low is_entry_of (entries ended) (seen ++ fed line pass front ∷ []) h))
            (let a = place.begun h in let b = found.low h in omega arith)
            (last_end_within (λ k e. list_any (λ other. is_entry_of other h k e) (seen ++ fed line pass front ∷ []))
            (entries ended h) (found.since h) (stands_before h))

        until_within : (h : History) → found.until h ≤ length (entries ended h)
        until_within h = let a = found.high h in let b = place.within h in omega arith

        until_high : (h : History) → found.until h ≤ high config.topology ended (fed line pass rest ∷ later) h
        until_high h = first_place_behind
            (λ k e. list_any (λ other. is_entry_of other h k e) (fed line pass rest ∷ later)) (entries ended h)
            (found.until h) (until_within h) (stands_behind h)

        row_place : AreWider (marked found.since) (marked found.until)
            (lows config.topology ended (seen ++ fed line pass front ∷ []))
            (highs config.topology ended (fed line pass rest ∷ later)) ended ended
        row_place = record {
          sooner = record {
            leaves = λ leaf. since_low (of.Leaf leaf);
            ranges = λ range. since_low (of.Range range);
          };
          later = record {
            leaves = λ leaf. until_high (of.Leaf leaf);
            ranges = λ range. until_high (of.Range range);
          };
          begun = record {
            leaves = λ leaf.
                let a = found.forth (of.Leaf leaf) in let b = until_within (of.Leaf leaf) in
                let e = book_length ended leaf in omega arith;
            ranges = λ range.
                let a = found.forth (of.Range range) in let b = until_within (of.Range range) in
                let e = range_length ended range in omega arith;
          };
          within = record {
            leaves = λ leaf. let b = until_within (of.Leaf leaf) in let e = book_length ended leaf in omega arith;
            ranges = λ range. let b = until_within (of.Range range) in let e = range_length ended range in omega arith;
          };
          grown = record {
            leaves = λ leaf. take_all (length (leaf_history ended leaf)) (leaf_history ended leaf) (omega arith);
            ranges = λ range. take_all (length (range_history ended range)) (range_history ended range) (omega arith);
          };
          leaves = refl;
          ranges = refl;
        }

      row_cause : (reads : List RowRead) (others : ℕ) (refusal : RowRefusal)
          → RowFound config ended place.from place.to reads pass accepted others refusal
          → RowHasCause config ended seen later line pass reads accepted others refusal
      row_cause reads others refusal found =
          let n = rows_before others refusal in
          let front = take n accepted in
          let rest = drop n accepted in
          let amid = found.amid in
          record {
            read = found.read;
            read_is = found.read_is;
            cause = row_wider ended ended (marked amid.since) (marked amid.until)
                (lows config.topology ended (seen ++ fed line pass front ∷ []))
                (highs config.topology ended (fed line pass rest ∷ later))
                (row_place front rest (λ w. any_front (is_row w) n accepted) (λ w. any_rest (is_row w) n accepted)
                (λ since until. HasRowCause config ended since until found.read refusal.fault) amid)
                found.read refusal.fault amid.is;
          }

      row_taken : (at : ℕ) (row : Row) → TakenFound config ended place.from place.to pass accepted at row
          → RowIsTaken config ended seen later line pass accepted at row
      row_taken at row found =
          let front = take at accepted in
          let rest = drop (at + 1) accepted in
          let amid = found.amid in
          record {
            range = found.range;
            ack = found.ack;
            told = found.told;
            missed = all_as _ _ (λ miss is. find (marked amid.since) (marked amid.until)
                (lows config.topology ended (seen ++ fed line pass front ∷ []))
                (highs config.topology ended (fed line pass rest ∷ later)) ended ended
                (record { leaf = miss.leaf; cut = miss.cut })
                (row_place front rest (λ w. any_front (is_row w) at accepted) (λ w. any_rest (is_row w) (at + 1) accepted)
                (λ since until. WereMissed ended since until found.ack) amid) is) found.ack.missed amid.is;
          }

      rows_taken : (at : ℕ) (some : List Row)
          → AllTakenFound config ended place.from place.to pass accepted at some
          → RowsAreTaken config ended seen later line pass accepted at some
      rows_taken at [] found = tt
      rows_taken at (row ∷ some) found = (row_taken at row found.0, rows_taken (at + 1) some found.1)

      rows_caused : (reads : List RowRead) (others : ℕ) (some : List RowRefusal)
          → RowsFound config ended place.from place.to reads pass accepted others some
          → RowsHaveCauses config ended seen later line pass reads accepted others some
      rows_caused reads others [] found = tt
      rows_caused reads others (refusal ∷ some) found =
          (row_cause reads others refusal found.0, rows_caused reads (others + 1) some found.1)

      pub file_caused : (content : List ℕ) (refusals : List RowRefusal)
          → FileFound config ended place.from place.to content pass accepted refusals
          → FileIsCaused config ended seen later line pass content accepted refusals
      file_caused content refusals found = (
        rows_caused (reads_of config.schemas content) 0 refusals found.refused,
        rows_taken 0 accepted found.taken,
      )

  -- ---- lines

  module _ (ended : Histories) (seen later : List RanLine) (line : RanLine)
      (place : InPlace config ended seen later line) where
    -- whose an entry is, by what the line came to
    owned : (trace : LineTrace) → line.trace ≡ trace → (h : History) (k : ℕ) (e : BookEntry)
        → is_traced line.what line.own trace h k e ≡ true → is_entry_of line h k e ≡ true
    owned trace is h k e mine = ap (λ (t : LineTrace). is_traced line.what line.own t h k e) is ∙ mine

    -- each leaf that missed a trim was found down
    missed_by : (done : ControlDone)
        → DoneFound config ended place.from place.to place.number line.what line.own done
        → HaveMissed ended (lows config.topology ended seen) (highs config.topology ended later) done
    missed_by (did.Switched cut) found = tt
    missed_by (did.Recovered slot) found = tt
    missed_by (did.Trimmed ack) found = all_as _ _ (λ miss is. find (marked place.from) (marked place.to)
        (lows config.topology ended seen) (highs config.topology ended later) ended ended
        (record { leaf = miss.leaf; cut = miss.cut }) (wider config ended seen later line place) is) ack.missed
        found.missed
    missed_by (did.Retired slot) found = tt

    -- of a pour, that of either file
    poured_caused : (pass : ℕ) (ends : Poured) → line.trace ≡ came.Poured pass ends
        → PourIsTold config line.content ends → PourFound config ended place.from place.to line.content pass ends
        → IsCaused config ended seen later line (came.Poured pass ends)
    poured_caused pass ends is told found = (
      file_caused ended seen later line place pass ends.first.accepted
          (λ h k e mine. owned (came.Poured pass ends) is h k e (fed_more pass ends.first.accepted ends.accepted
          (λ w any. any_of_one (is_row w) told.woven any) e mine)) line.content.first ends.first.refused found.first,
      file_caused ended seen later line place pass ends.second.accepted
          (λ h k e mine. owned (came.Poured pass ends) is h k e (fed_more pass ends.second.accepted ends.accepted
          (λ w any. any_of_other (is_row w) told.woven any) e mine)) line.content.second ends.second.refused
          found.second,
    )

    caused_by : (trace : LineTrace) → line.trace ≡ trace → IsTold config line.content trace
        → HasFound config ended place.from place.to place.number line trace
        → IsCaused config ended seen later line trace
    caused_by (came.Fed pass rows refusals) is told found =
        file_caused ended seen later line place pass rows
        (λ h k e mine. owned (came.Fed pass rows refusals) is h k e mine) line.content.first refusals found.file
    caused_by (came.Poured pass ends) is told found = poured_caused pass ends is told found
    caused_by (came.Asked moment trace) is told found = tt
    caused_by (came.Followed moment trace) is told found = tt
    caused_by (came.Controlled done) is told found = missed_by done found
    caused_by (came.Refused fault) is told found = line_wider ended ended (marked place.from) (marked place.to)
        (lows config.topology ended seen) (highs config.topology ended later)
        (wider config ended seen later line place) line.what fault found
    caused_by (came.Ticked dues) is told found = tt
    caused_by came.Done is told found = tt

    pub is_caused : LineIsCaused config ended seen later line
    is_caused = caused_by line.trace refl place.ran.found.0.told place.ran.found.0.found
