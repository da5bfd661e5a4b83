-- What lines found stays found as more is seen, up to all of it, and they print the same.
use Rattle.std.proofs.Common.{◌≡◌, ℕ, zero, suc, ◌-◌, ◌<◌, ◌≤◌, nat_eq, false, List, [], ◌∷◌, ◌++◌, length}
use Rattle.std.proofs.Common.{filter, slice_get, Some, Ok, Err, refl, sym, ap, ◌∙◌, subst, arith}
use Rattle.std.specs.Prelude.{ℤ, ◌+◌, Result}
use Rattle.std.specs.List.{flat_map}
use Rattle.std.proofs.lemmas.Bool.Decides.{nat_tests}
use Rattle.std.proofs.lemmas.List.{append-nil, take_all, length-append}
use mathlib.Core.List.{IsPrefix}
use Rattle.history_book.specs.Histories.{book_entry_pass, entries}
use Rattle.history_book.specs.declared.views.BookEntry.{BookEntry}
use Rattle.history_book.specs.declared.views.History.{History}
use Rattle.history_book.specs.declared.views.History.TheVariants as of
use Rattle.mon_config.specs.declared.config.Config.{Config}
use Rattle.mon_points.specs.declared.records.RowRead.{RowRead}
use Rattle.mon_table.specs.Tables.{table_text}
use Rattle.mon_value.specs.Tables.{column_names}
use Rattle.mon_value.specs.Histories.{leaf_history, range_history}
use Rattle.mon_value.specs.declared.histories.Histories.{Histories}
use Rattle.mon_value.specs.declared.positions.FoundDown.{FoundDown}
use Rattle.mon_value.specs.declared.positions.Leaf.{Leaf}
use Rattle.mon_value.specs.declared.positions.Range.{Range}
use Rattle.mon_value.specs.declared.rows.Row.{Row}
use Rattle.mon_value.specs.declared.rows.SeriesKey.{SeriesKey}
use Rattle.typed_trees.specs.Meaning.{meaning}
use Rattle.typed_trees.specs.Nodes.{TypedTree, columns_of}
use Rattle.typed_trees.specs.declared.plans.Plan.{Plan}
use Rattle.query_traces.specs.Founds.{IsFoundBetween}
use Rattle.query_traces.specs.Traces.{AreWider, IsBetween, IsFreshBetween, IsReadRightly, IsTraceBetween, Lengths}
use Rattle.query_traces.specs.Traces.{source_of}
use Rattle.query_traces.specs.declared.answers.Trace.{Trace}
use Rattle.query_texts.specs.TextTypes.{text_type}
use Rattle.query_texts.specs.declared.faults.TextFault.{TextFault}
use Rattle.run_theory.specs.Parts.{AreBelow, IsWithin}
use Rattle.run_theory.proofs.Callers.{none_between, none_passes}
use Rattle.run_traces.specs.LineCauses.{HasRowCause, WereMissed}
use Rattle.run_traces.specs.LineClaims.{AllTakenFound, AreNew, FileFound, Finds, FoundAmid, HasFound, HaveGrown, LookFound}
use Rattle.run_traces.specs.LineClaims.{Makes, RowsFound}
use Rattle.run_traces.specs.LineClaims.{StandsAmong}
use Rattle.run_traces.specs.LineClaims.{marked}
use Rattle.run_traces.specs.LineAsks.{moments_of, text_of}
use Rattle.run_traces.specs.LineTables.{cuts_named}
use Rattle.run_traces.specs.LineTexts.{asked_text, explanation, followed_text, line_text, moment_heading, shown_text}
use Rattle.run_traces.specs.LineTexts.{typed_text}
use Rattle.run_traces.specs.LineTrims.{AreOwn}
use Rattle.run_traces.specs.RanLines.{OwnPlace, RanLine}
use Rattle.run_traces.specs.declared.line_files.LineFiles.{LineFiles}
use Rattle.run_traces.specs.declared.traces.LineTrace.{LineTrace}
use Rattle.run_traces.specs.declared.traces.LineTrace.TheVariants as came
use Rattle.ingest_queue.specs.declared.refusals.RowRefusal.{RowRefusal}
use Rattle.mon_script.specs.declared.forms.LineForm.{LineForm}
use Rattle.mon_script.specs.declared.forms.LineForm.TheVariants as form
use Rattle.mon_script.specs.declared.questions.How.{How}
use Rattle.mon_script.specs.declared.questions.How.TheVariants as ways
use Rattle.run_traces.proofs.Causes.{line_wider}
use Rattle.run_traces.proofs.Growth.{claims_grow, goes_on}
use Rattle.run_traces.proofs.ListFacts.{all_as, all_at}
use Rattle.run_traces.proofs.RowFacts.{fed_pass}
use Rattle.run_traces.proofs.Controls.{done_still}
use Rattle.run_traces.proofs.RunFacts.{book_length, range_length}

-- ---- lists

module _ {X : Type 0} where
  behind_front : (front rest : List X) (k j : ℕ) (x : X) → k ≡ length front + j
      → slice_get (front ++ rest) k ≡ Some x → slice_get rest j ≡ Some x
  behind_front [] rest k j x e there =
      let same : k ≡ j = omega arith in subst (λ n. slice_get rest n ≡ Some x) same there
  behind_front (y ∷ front) rest zero j x e there = absurd (omega arith)
  behind_front (y ∷ front) rest (suc k) j x e there = behind_front front rest k j x (omega arith) there

below_by : (n m : ℕ) → (m ≤ n → ⊥) → n < m
below_by n zero never = absurd (never (omega arith))
below_by zero (suc m) never = omega arith
below_by (suc n) (suc m) never = let rest = below_by n m (λ le. never (omega arith)) in omega arith

not_same : (n m : ℕ) → n ≡ m → nat_eq n m ≡ false → ⊥
not_same n m e differs = grind (arith, nat_tests)

prefix_below : {X : Type 0} (front all : List X) → IsPrefix front all → length front ≤ length all
prefix_below front all p =
    let e : length front + length p.0 ≡ length all = sym (length-append front p.0) ∙ ap length p.1 in omega arith

module _ (widen : (typed : TypedTree) (moment : ℤ) (from to earlier later : Lengths) (seen more : Histories)
    (trace : Trace) → AreWider from to earlier later seen more → IsTraceBetween typed moment from to seen trace
    → IsTraceBetween typed moment earlier later more trace)
    (find : (from to earlier later : Lengths) (seen more : Histories) (found : FoundDown)
    → AreWider from to earlier later seen more → IsFoundBetween from to seen found
    → IsFoundBetween earlier later more found)
    (rows : (typed : TypedTree) (moment : ℤ) (from to earlier later : Lengths) (seen more : Histories) (trace : Trace)
    → AreWider from to earlier later seen more → IsTraceBetween typed moment from to seen trace
    → source_of more trace ≡ source_of seen trace)
    (freshen : (typed : TypedTree) (moment : ℤ) (from to earlier later : Lengths) (seen more : Histories)
    (trace : Trace) → AreWider from to earlier later seen more → IsTraceBetween typed moment from to seen trace
    → IsFreshBetween from to seen trace → IsFreshBetween earlier later more trace)
    (reread : (typed : TypedTree) (moment : ℤ) (from to earlier later : Lengths) (seen more : Histories)
    (trace : Trace) (plan : Plan) (buckets_of : SeriesKey → List ℕ) (leaf : Leaf)
    → AreWider from to earlier later seen more → IsTraceBetween typed moment from to seen trace
    → IsReadRightly typed plan buckets_of seen trace leaf → IsReadRightly typed plan buckets_of more trace leaf)
    (config : Config) where
  -- ---- up to a greater length of the same histories

  module _ (more : Histories) (from to later : History → ℕ) (line : RanLine) (forth : AreBelow from to)
      (up : AreBelow to later) (within : IsWithin entries later more) where
    raised : AreWider (marked from) (marked to) (marked from) (marked later) more more
    raised = record {
      sooner = record { leaves = λ leaf. omega arith; ranges = λ range. omega arith };
      later = record { leaves = λ leaf. up (of.Leaf leaf); ranges = λ range. up (of.Range range) };
      begun = record {
        leaves = λ leaf.
            let a = forth (of.Leaf leaf) in let b = up (of.Leaf leaf) in let d = within (of.Leaf leaf) in
            let e = book_length more leaf in omega arith;
        ranges = λ range.
            let a = forth (of.Range range) in let b = up (of.Range range) in let d = within (of.Range range) in
            let e = range_length more range in omega arith;
      };
      within = record {
        leaves = λ leaf.
            let b = up (of.Leaf leaf) in let d = within (of.Leaf leaf) in let e = book_length more leaf in omega arith;
        ranges = λ range.
            let b = up (of.Range range) in let d = within (of.Range range) in let e = range_length more range in
            omega arith;
      };
      grown = record {
        leaves = λ leaf. take_all (length (leaf_history more leaf)) (leaf_history more leaf) (omega arith);
        ranges = λ range. take_all (length (range_history more range)) (range_history more range) (omega arith);
      };
      leaves = refl;
      ranges = refl;
    }

    -- nothing stands there under a number
    abbrev HasNoneUnder : ℕ → Type 0
    HasNoneUnder pass = (h : History) (k : ℕ) (e : BookEntry) → slice_get (entries more h) k ≡ Some e → to h ≤ k
        → nat_eq (book_entry_pass e) pass ≡ false

    lower : (pass : ℕ) (some : List Row) (h : History) (k : ℕ) → HasNoneUnder pass
        → StandsAmong config more from later pass some h k → StandsAmong config more from to pass some h k
    lower pass some h k none stands = (
      stands.0,
      stands.1,
      stands.2,
      below_by k (to h) (λ le. not_same (book_entry_pass stands.0) pass (fed_pass pass some stands.0 stands.4)
          (none h k stands.0 stands.1 le)),
      stands.4,
    )

    owns_raised : (number : ℕ) (own : List OwnPlace) → HasNoneUnder number → AreOwn more from to number own
        → AreOwn more from later number own
    owns_raised number own none owns = record {
      within = λ h k mine.
          let a = owns.within h k mine in let c = a.1 in let b = up h in (a.0, omega arith);
      under = owns.under;
      all = λ h k e there low high under. owns.all h k e there low
          (below_by k (to h) (λ le. not_same (book_entry_pass e) number under (none h k e there le))) under;
    }

    amid_raised : (pass : ℕ) (front rest : List Row) (Is : Lengths → Lengths → Type 0) → HasNoneUnder pass
        → FoundAmid config more from to pass front rest Is → FoundAmid config more from later pass front rest Is
    amid_raised pass front rest Is none found = record {
      since = found.since;
      until = found.until;
      low = found.low;
      forth = found.forth;
      high = λ h. let a = found.high h in let b = up h in omega arith;
      before = λ h k stands. found.before h k (lower pass front h k none stands);
      behind = λ h k stands. found.behind h k (lower pass rest h k none stands);
      is = found.is;
    }

    rows_raised : (reads : List RowRead) (pass : ℕ) (accepted : List Row) (others : ℕ) (refusals : List RowRefusal)
        → HasNoneUnder pass → RowsFound config more from to reads pass accepted others refusals
        → RowsFound config more from later reads pass accepted others refusals
    rows_raised reads pass accepted others [] none found = tt
    rows_raised reads pass accepted others (refusal ∷ refusals) none found = (
      record {
        read = found.0.read;
        read_is = found.0.read_is;
        amid = amid_raised pass _ _ (λ since until. HasRowCause config more since until found.0.read refusal.fault) none
            found.0.amid;
      },
      rows_raised reads pass accepted (others + 1) refusals none found.1,
    )

    all_taken_raised : (pass : ℕ) (accepted : List Row) (place : ℕ) (some : List Row) → HasNoneUnder pass
        → AllTakenFound config more from to pass accepted place some
        → AllTakenFound config more from later pass accepted place some
    all_taken_raised pass accepted place [] none found = tt
    all_taken_raised pass accepted place (row ∷ some) none found = (
      record {
        range = found.0.range;
        ack = found.0.ack;
        told = found.0.told;
        amid = amid_raised pass _ _ (λ since until. WereMissed more since until found.0.ack) none found.0.amid;
      },
      all_taken_raised pass accepted (place + 1) some none found.1,
    )

    all_new_raised : (accepted : List Row) → AreNew config more from to accepted → AreNew config more from later accepted
    all_new_raised accepted found = record {
      ranged = all_as _ _ (λ row ranged. record { range = ranged.range; there = ranged.there; lies = ranged.lies })
          accepted found.ranged;
      new = λ range. all_as _ _ (λ row new. new) accepted (found.new range);
    }

    file_raised : (content : List ℕ) (pass : ℕ) (accepted : List Row) (refusals : List RowRefusal) → HasNoneUnder pass
        → FileFound config more from to content pass accepted refusals
        → FileFound config more from later content pass accepted refusals
    file_raised content pass accepted refusals none found = record {
      refused = rows_raised _ pass accepted 0 refusals none found.refused;
      taken = all_taken_raised pass accepted 0 accepted none found.taken;
    }

    leaf_itself : (leaf : Leaf) → IsPrefix (leaf_history more leaf) (leaf_history more leaf)
    leaf_itself leaf = ([], append-nil (leaf_history more leaf))

    range_itself : (range : Range) → IsPrefix (range_history more range) (range_history more range)
    range_itself range = ([], append-nil (range_history more range))

    abbrev look_raised : (text : List ℕ) (moment : ℤ) (trace : Trace) → LookFound config more from to text moment trace
        → LookFound config more from later text moment trace
    look_raised text moment trace found = record {
      typed = found.typed;
      type_is = found.type_is;
      of = widen found.typed moment (marked from) (marked to) (marked from) (marked later) more more trace raised
          found.of;
      fresh = freshen found.typed moment (marked from) (marked to) (marked from) (marked later) more more trace raised
          found.of found.fresh;
      down = all_as (IsFoundBetween (marked from) (marked to) more) (IsFoundBetween (marked from) (marked later) more)
          (λ one is. find (marked from) (marked to) (marked from) (marked later) more more one raised is) trace.down
          found.down;
      within = found.within;
      read = found.read;
    }

    found_raised : (number : ℕ) (made : History → List BookEntry) (trace : LineTrace) → HasNoneUnder number
        → Makes config number (record { what = line.what; content = line.content; trace = trace; own = line.own }) made
        → HasFound config more from to number line trace → HasFound config more from later number line trace
    found_raised number made (came.Fed pass accepted refusals) none makes found = record {
      rows = all_new_raised accepted found.rows;
      file = file_raised line.content.first pass accepted refusals (subst HasNoneUnder (sym makes.0) none) found.file;
    }
    found_raised number made (came.Poured pass ends) none makes found = record {
      rows = all_new_raised ends.accepted found.rows;
      first = file_raised line.content.first pass ends.first.accepted ends.first.refused
          (subst HasNoneUnder (sym makes.0) none) found.first;
      second = file_raised line.content.second pass ends.second.accepted ends.second.refused
          (subst HasNoneUnder (sym makes.0) none) found.second;
    }
    found_raised number made (came.Asked moment trace) none makes found =
        look_raised (text_of line.what) moment trace found
    found_raised number made (came.Followed moment trace) none makes found = record {
      look = look_raised (text_of line.what) moment trace found.look;
      kept = found.kept;
      each = found.each;
    }
    found_raised number made (came.Controlled done) none makes found = done_still more more from to from later
        (λ h. omega arith) up leaf_itself range_itself number line.what line.own config
        (owns_raised number line.own none)
        (λ one is. find (marked from) (marked to) (marked from) (marked later) more more one raised is) done found
    found_raised number made (came.Refused fault) none makes found =
        line_wider widen find rows config more more (marked from) (marked to) (marked from) (marked later) raised
        line.what fault found
    found_raised number made (came.Ticked dues) none makes found = absurd found
    found_raised number made came.Done none makes found = tt

    finds_raised : (number : ℕ) (made : History → List BookEntry) → HasNoneUnder number → Makes config number line made
        → Finds config more from to number line → Finds config more from later number line
    finds_raised number made none makes found = record {
      forth = λ h. let a = forth h in let b = up h in omega arith;
      suits = found.suits;
      told = found.told;
      cuts = λ leaf there. all_as (IsBetween (from (of.Leaf leaf)) (to (of.Leaf leaf)))
          (IsBetween (from (of.Leaf leaf)) (later (of.Leaf leaf)))
          (λ cut between. record {
            from = between.from;
            to = let a = between.to in let b = up (of.Leaf leaf) in omega arith;
          }) (cuts_named leaf line.what line.trace) (found.cuts leaf there);
      found = found_raised number made line.trace none makes found.found;
    }

  -- ---- up to all that is seen later

  module _ (seen more : Histories) (grown : HaveGrown seen more) where
    none_behind : (number : ℕ) (h : History)
        → filter (λ e. nat_eq (book_entry_pass e) number) (entries more h)
        ≡ filter (λ e. nat_eq (book_entry_pass e) number) (entries seen h)
        → (k : ℕ) (e : BookEntry) → slice_get (entries more h) k ≡ Some e → length (entries seen h) ≤ k
        → nat_eq (book_entry_pass e) number ≡ false
    none_behind number h same k e there le =
        let p = goes_on seen more grown h in
        all_at (λ x. nat_eq (book_entry_pass x) number ≡ false) p.0 (k - length (entries seen h)) e
        (none_passes (λ x. nat_eq (book_entry_pass x) number) p.0
        (none_between book_entry_pass (entries seen h) (entries more h) p number same))
        (behind_front (entries seen h) p.0 k (k - length (entries seen h)) e (omega arith)
        (ap (λ w. slice_get w k) p.1 ∙ there))

    pub finds_later : (from : History → ℕ) (number : ℕ) (line : RanLine) (made : History → List BookEntry)
        → ((h : History) → filter (λ e. nat_eq (book_entry_pass e) number) (entries more h)
        ≡ filter (λ e. nat_eq (book_entry_pass e) number) (entries seen h))
        → Makes config number line made → Finds config seen from (λ h. length (entries seen h)) number line
        → Finds config more from (λ h. length (entries more h)) number line
    finds_later from number line made same makes found =
        let still = (claims_grow widen find rows freshen reread config).finds seen more from
        (λ h. length (entries seen h)) number line (λ h. omega arith) grown found in
        finds_raised more from (λ h. length (entries seen h)) (λ h. length (entries more h)) line found.forth
        (λ h. prefix_below (entries seen h) (entries more h) (goes_on seen more grown h)) (λ h. omega arith) number made
        (λ h k e there le. none_behind number h (same h) k e there le) makes still

    -- ---- texts

    shown_same : (how : How) (moment : ℤ) (trace : Trace) (typed : TypedTree)
        → source_of more trace ≡ source_of seen trace
        → shown_text config more how moment trace typed ≡ shown_text config seen how moment trace typed
    shown_same ways.Query moment trace typed e =
        ap (λ (some : List Row). table_text (column_names (columns_of typed.tree)) (meaning typed some moment)) e
    shown_same ways.Check moment trace typed e =
        ap (λ (some : List Row). table_text (column_names (columns_of typed.tree)) (meaning typed some moment)) e
    shown_same ways.Explain moment trace typed e = ap
        (λ (some : List Row). table_text (column_names (columns_of typed.tree)) (meaning typed some moment)
        ++ explanation config.topology typed trace)
        e

    typed_same : (what : LineForm) (moment : ℤ) (trace : Trace) (typed : TypedTree)
        → source_of more trace ≡ source_of seen trace
        → typed_text config more what moment trace typed ≡ typed_text config seen what moment trace typed
    typed_same (form.Feed name) moment trace typed e = refl
    typed_same (form.Pour first second) moment trace typed e = refl
    typed_same (form.Ask asked) moment trace typed e = shown_same asked.how moment trace typed e
    typed_same (form.Follow moments text) moment trace typed e = refl
    typed_same (form.Control what) moment trace typed e = refl
    typed_same (form.Standing what) moment trace typed e = refl
    typed_same (form.Block mark) moment trace typed e = refl

    asked_same : (what : LineForm) (moment : ℤ) (trace : Trace) (typed : Result TypedTree TextFault)
        → source_of more trace ≡ source_of seen trace
        → asked_text config more what moment trace typed ≡ asked_text config seen what moment trace typed
    asked_same what moment trace (Ok typed) e = typed_same what moment trace typed e
    asked_same what moment trace (Err fault) e = refl

    followed_same : (moments : List ℤ) (trace : Trace) (typed : Result TypedTree TextFault)
        → source_of more trace ≡ source_of seen trace
        → followed_text config more moments trace typed ≡ followed_text config seen moments trace typed
    followed_same moments trace (Ok typed) e = ap (λ (some : List Row). flat_map (λ at. moment_heading at
        ++ table_text (column_names (columns_of typed.tree)) (meaning typed some at)) moments) e
    followed_same moments trace (Err fault) e = refl

    wide : (from to : History → ℕ) → AreBelow from to → IsWithin entries to seen
        → AreWider (marked from) (marked to) (marked from) (marked to) seen more
    wide from to forth within = record {
      sooner = record { leaves = λ leaf. omega arith; ranges = λ range. omega arith };
      later = record { leaves = λ leaf. omega arith; ranges = λ range. omega arith };
      begun = record {
        leaves = λ leaf.
            let a = forth (of.Leaf leaf) in let b = within (of.Leaf leaf) in let e = book_length seen leaf in omega
            arith;
        ranges = λ range.
            let a = forth (of.Range range) in let b = within (of.Range range) in let e = range_length seen range in
            omega arith;
      };
      within = record {
        leaves = λ leaf. let b = within (of.Leaf leaf) in let e = book_length seen leaf in omega arith;
        ranges = λ range. let b = within (of.Range range) in let e = range_length seen range in omega arith;
      };
      grown = grown.within;
      leaves = grown.leaves;
      ranges = grown.ranges;
    }

    text_same : (from to : History → ℕ) (number : ℕ) (what : LineForm) (content : LineFiles) (trace : LineTrace)
        (own : List OwnPlace) → AreBelow from to → IsWithin entries to seen
        → HasFound config seen from to number (record { what = what; content = content; trace = trace; own = own }) trace
        → line_text config more (record { what = what; content = content; trace = trace; own = own })
        ≡ line_text config seen (record { what = what; content = content; trace = trace; own = own })
    text_same from to number what content (came.Fed pass accepted refusals) own forth within found = refl
    text_same from to number what content (came.Poured pass ends) own forth within found = refl
    text_same from to number what content (came.Asked moment trace) own forth within found =
        asked_same what moment trace (text_type config.schemas (text_of what))
        (rows found.typed moment (marked from) (marked to) (marked from) (marked to) seen more trace
        (wide from to forth within) found.of)
    text_same from to number what content (came.Followed moment trace) own forth within found =
        followed_same (moments_of what) trace (text_type config.schemas (text_of what))
        (rows found.look.typed moment (marked from) (marked to) (marked from) (marked to) seen more trace
        (wide from to forth within) found.look.of)
    text_same from to number what content (came.Controlled done) own forth within found = refl
    text_same from to number what content (came.Refused fault) own forth within found = refl
    text_same from to number what content (came.Ticked dues) own forth within found = absurd found
    text_same from to number what content came.Done own forth within found = refl

    pub line_same : (from to : History → ℕ) (number : ℕ) (line : RanLine) → IsWithin entries to seen
        → Finds config seen from to number line → line_text config more line ≡ line_text config seen line
    line_same from to number line within found =
        text_same from to number line.what line.content line.trace line.own found.forth within found.found
