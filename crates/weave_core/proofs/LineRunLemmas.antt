-- The lines of a schedule, one after another.
use Rattle.std.proofs.Common.{◌≡◌, ◌∙◌, ℕ, zero, suc, ◌+◌, nat_lt, Bool, true, false, List, [], ◌∷◌, ◌++◌, Option}
use Rattle.std.proofs.Common.{Some, None, Result, Ok, Err, refl, sym, ap, subst, append_assoc, append-nil, arith}
use Rattle.std.specs.List.{flat_map, range_with_len}
use Rattle.std.proofs.lemmas.List.Concat.{flat_map-append}
use Rattle.mon_config.specs.declared.config.Config.{Config}
use Rattle.mon_script.specs.Lines.{is_remark, lines_of}
use Rattle.mon_value.specs.declared.refusals.Refusal.{Refusal}
use Rattle.mon_value.specs.declared.refusals.Refusal.TheVariants as refusal
use Rattle.weave_core.specs.ActorAgreements.{Agrees}
use Rattle.schedule_lines.specs.ScheduleLines.{schedule_form}
use Rattle.weave_core.specs.ScheduleTurns.{HasRun, HasStopped, HavePrinted, IsDone, IsLineRefused, LineBy, LinesSo}
use Rattle.weave_core.specs.ScheduleTurns.{NumberedSo}
use Rattle.weave_core.specs.Schedules.{DoneThen, DoneUnless, IsFirstState, Numbered, Printed, Prints}
use Rattle.weave_core.specs.Schedules.{RunsFrom, ScheduleLineRuns}
use Rattle.weave_core.specs.Schedules.{RunsUnless, line_fault, refused_at, said_before, unfinished_text}
use Rattle.weave_core.specs.States.{State}
use Rattle.core_store.specs.Agreements.{store_of}
use Rattle.schedule_lines.specs.declared.calls.ScheduleFault.{ScheduleFault}
use Rattle.schedule_lines.specs.declared.calls.WeaveFault.{WeaveFault}
use Rattle.schedule_lines.specs.declared.calls.WeaveFault.TheVariants as fault
use Rattle.schedule_lines.specs.declared.limits.TheConstants.{MOST_LINES}
use Rattle.schedule_lines.specs.declared.lines.LineForm.{LineForm}
use Rattle.weave_core.specs.declared.weave.Weave.{Weave}

abbrev pub stopped_by : ScheduleFault → Printed
stopped_by why = record { text = []; fault = Some why }

module _ (config : Config) (number : ℕ) where
  -- a line of a number that may be
  within_most : (Runs : Type 0) (printed : Printed) → nat_lt MOST_LINES number ≡ false → Runs
      → Numbered config number Runs (nat_lt MOST_LINES number) printed
  within_most Runs printed e runs = subst (λ (b : Bool). Numbered config number Runs b printed) (sym e) runs

  module _ (state : State (store_of config)) (line : List ℕ) where
    pub remark_runs : (weave : Weave) (before : List ℕ) → nat_lt MOST_LINES number ≡ false → is_remark line ≡ true
        → Agrees config weave state → HasRun config state number line weave before before
    remark_runs weave before few remark agrees = record {
      said = [];
      left = state;
      runs = λ lines more runs. within_most _ more few
          (subst (λ (b : Bool). RunsUnless config number (RunsFrom config (number + 1) lines) state line b more)
          (sym remark) runs);
      agrees = agrees;
      prints = sym (append-nil before);
    }

    -- a line that is no remark
    runs_by : (lines : List (List ℕ)) (printed : Printed) → nat_lt MOST_LINES number ≡ false → is_remark line ≡ false
        → ScheduleLineRuns config number (RunsFrom config (number + 1) lines) state
        (schedule_form config.schemas config.topology line) printed → RunsFrom config number (line ∷ lines) state printed
    runs_by lines printed few text runs = within_most _ printed few
        (subst (λ (b : Bool). RunsUnless config number (RunsFrom config (number + 1) lines) state line b printed)
        (sym text) runs)

    done_runs : (what : LineForm) (new : Weave) (before after : List ℕ)
        → schedule_form config.schemas config.topology line ≡ Some what
        → nat_lt MOST_LINES number ≡ false → is_remark line ≡ false → IsDone config state what new before after
        → HasRun config state number line new before after
    done_runs what new before after says few text done = record {
      said = done.said;
      left = done.left;
      runs = λ lines more runs.
          let rest = RunsFrom config (number + 1) lines in
          let printed = said_before done.said more in
          let then : DoneThen config rest state what printed =
          record { said = done.said; after = done.left; more = more; does = done.does; rest = runs; prints = refl } in
          let unless : DoneUnless config number rest state what (line_fault (store_of config) state what) printed =
          subst (λ (f : Option WeaveFault). DoneUnless config number rest state what f printed) (sym done.fault) then in
          runs_by lines printed few text
          (subst (λ (form : Option LineForm). ScheduleLineRuns config number rest state form printed) (sym says)
          unless);
      agrees = done.agrees;
      prints = done.prints;
    }

    refused_stops : (what : LineForm) (why : WeaveFault) (before after : List ℕ)
        → schedule_form config.schemas config.topology line ≡ Some what
        → nat_lt MOST_LINES number ≡ false → is_remark line ≡ false → IsLineRefused config state what why before after
        → HasStopped config state number line (record { line = number; fault = why }) before after
    refused_stops what why before after says few text refused = record {
      runs = λ lines.
          let rest = RunsFrom config (number + 1) lines in
          let printed = refused_at number why in
          let unless : DoneUnless config number rest state what (line_fault (store_of config) state what) printed =
          subst (λ (f : Option WeaveFault). DoneUnless config number rest state what f printed) (sym refused.fault)
          refl in
          runs_by lines printed few text
          (subst (λ (form : Option LineForm). ScheduleLineRuns config number rest state form printed) (sym says)
          unless);
      prints = refused.prints;
    }

    bad_stops : (before : List ℕ) → schedule_form config.schemas config.topology line ≡ None
        → nat_lt MOST_LINES number ≡ false → is_remark line ≡ false
        → HasStopped config state number line (record { line = number; fault = fault.BadLine }) before before
    bad_stops before says few text = record {
      runs = λ lines.
          let rest = RunsFrom config (number + 1) lines in
          runs_by lines (refused_at number fault.BadLine) few text
          (subst (λ (form : Option LineForm). ScheduleLineRuns config number rest state form
          (refused_at number fault.BadLine)) (sym says) refl);
      prints = refl;
    }

    module _ (new : Weave) (before after : List ℕ) (few : nat_lt MOST_LINES number ≡ false) (text : is_remark line
        ≡ false) where
      pub line_ran : (X : Type 0) (x : X) (form : Option LineForm)
          → schedule_form config.schemas config.topology line ≡ form
          → LineBy config state form {X = X} (Ok x) new before after → HasRun config state number line new before after
      line_ran X x None says so = absurd so
      line_ran X x (Some what) says so = done_runs what new before after says few text so

      pub line_stopped : (X : Type 0) (form : Option LineForm) (why : WeaveFault)
          → schedule_form config.schemas config.topology line ≡ form
          → LineBy config state form {X = X} (Err (refusal.Fault why)) new before after
          → HasStopped config state number line (record { line = number; fault = why }) before after
      line_stopped X None why says so =
          subst (λ (now : List ℕ). HasStopped config state number line (record { line = number; fault = why }) before
          now) (sym so.1)
          (subst (λ (w : WeaveFault). HasStopped config state number line (record { line = number; fault = w }) before
          before) (sym so.0)
          (bad_stops before says few text))
      line_stopped X (Some what) why says so = refused_stops what why before after says few text so

-- ---- all lines

-- whatever the lines that are left print, all print this in front
pub record Running (config : Config) (start : State (store_of config)) (lines : List (List ℕ)) (number : ℕ)
    (left : List (List ℕ)) (weave : Weave)
    (before now : List ℕ) : Type 0 where
  pub said : List ℕ
  pub state : State (store_of config)
  pub leads : (more : Printed) → RunsFrom config (number + 1) left state more → RunsFrom config 1 lines start
      (said_before said more)
  pub agrees : Agrees config weave state
  pub prints : now ≡ before ++ said

module _ (config : Config) (start : State (store_of config)) (lines : List (List ℕ)) where
  pub running_begins : (weave : Weave) (before : List ℕ) → Agrees config weave start
      → Running config start lines 0 lines weave before before
  running_begins weave before agrees = record {
    said = [];
    state = start;
    leads = λ more runs. runs;
    agrees = agrees;
    prints = sym (append-nil before);
  }

  module _ (number : ℕ) (all : List (List ℕ)) (line : List ℕ) (left : List (List ℕ)) (next : all ≡ line ∷ left)
      (weave : Weave)
      (before now : List ℕ) (so_far : Running config start lines number all weave before now) where
    front : (P : Printed → Type 0) (said : List ℕ) (more : Printed)
        → P (said_before so_far.said (said_before said more))
        → P (said_before (so_far.said ++ said) more)
    front P said more p =
        subst (λ (text : List ℕ). P (record { text = text; fault = more.fault }))
        (sym (append_assoc so_far.said said more.text)) p

    pub running_more : (new : Weave) (after : List ℕ) → HasRun config so_far.state (number + 1) line new now after
        → Running config start lines (number + 1) left new before after
    running_more new after run = record {
      said = so_far.said ++ run.said;
      state = run.left;
      leads = λ more runs. front (RunsFrom config 1 lines start) run.said more
          (so_far.leads (said_before run.said more)
          (subst (λ (ls : List (List ℕ)). RunsFrom config (number + 1) ls so_far.state (said_before run.said more))
          (sym next)
          (run.runs left more runs)));
      agrees = run.agrees;
      prints = run.prints ∙ ap (λ (text : List ℕ). text ++ run.said) so_far.prints ∙ append_assoc before so_far.said
          run.said;
    }

    -- a line that ends the run
    pub running_stops : (why : ScheduleFault) (after : List ℕ) → HasStopped config so_far.state (number + 1) line why
        now after
        → (runs : RunsFrom config 1 lines start (record { text = so_far.said; fault = Some why }))
        × (after ≡ before ++ so_far.said)
    running_stops why after stop = (
      subst (λ (text : List ℕ). RunsFrom config 1 lines start (record { text = text; fault = Some why }))
          (append-nil so_far.said)
          (so_far.leads (stopped_by why)
          (subst (λ (ls : List (List ℕ)). RunsFrom config (number + 1) ls so_far.state (stopped_by why)) (sym next)
          (stop.runs left))),
      stop.prints ∙ so_far.prints,
    )

  -- the end of all lines
  pub running_ends : (number : ℕ) (weave : Weave) (before now after : List ℕ) (so_far : Running config start lines
      number [] weave before now)
      → after ≡ now ++ unfinished_text (store_of config) so_far.state
      → (said : List ℕ) × RunsFrom config 1 lines start (record { text = said; fault = None })
      × (after ≡ before ++ said)
  running_ends number weave before now after so_far told = (
    so_far.said ++ unfinished_text (store_of config) so_far.state,
    so_far.leads (record { text = unfinished_text (store_of config) so_far.state; fault = None }) refl,
    told ∙ ap (λ (text : List ℕ). text ++ unfinished_text (store_of config) so_far.state) so_far.prints
        ∙ append_assoc before so_far.said (unfinished_text (store_of config) so_far.state),
  )

-- ---- what the run of a text comes to

module _ (config : Config) (start : State (store_of config)) (text : List ℕ) (number : ℕ) (before : List ℕ) where
  -- a line that is refused, or want of memory, ends it
  pub lines_refused : (X Y : Type 0) (all : List (List ℕ)) (line : List ℕ) (left : List (List ℕ))
      (next : all ≡ line ∷ left) (weave new : Weave)
      (now after : List ℕ) (so_far : Running config start (lines_of text) number all weave before now)
      (why : Refusal ScheduleFault)
      → NumberedSo config so_far.state (number + 1) line {X = X} (Err why) new now after
      → LinesSo config start text {X = Y} (Err why) before after
  lines_refused X Y all line left next weave new now after so_far (refusal.Fault why) stopped =
      let stop = running_stops config start (lines_of text) number all line left next weave before now so_far why after
      stopped in
      record { said = so_far.said; runs = stop.0; prints = stop.1 }
  lines_refused X Y all line left next weave new now after so_far refusal.OutOfMemory stopped = tt

  -- and so does the end of the text
  pub lines_end : (weave : Weave) (now after : List ℕ) (so_far : Running config start (lines_of text) number [] weave
      before now)
      → after ≡ now ++ unfinished_text (store_of config) so_far.state → HavePrinted config start text None before after
  lines_end weave now after so_far told =
      let end = running_ends config start (lines_of text) number weave before now after so_far told in
      record { said = end.0; runs = end.1; prints = end.2 }

-- it is what a schedule prints, where nobody was declared
pub printed_by : (X : Type 0) (config : Config) (start : State (store_of config)) (text before after : List ℕ)
    (answer : Result X (Refusal ScheduleFault))
    → IsFirstState config start → LinesSo config start text answer before after → Prints config text answer before after
printed_by X config start text before after (Ok x) first so =
    (so.said, so.prints, record { first = start; is_first = first; runs = so.runs })
printed_by X config start text before after (Err (refusal.Fault why)) first so =
    (so.said, so.prints, record { first = start; is_first = first; runs = so.runs })
printed_by X config start text before after (Err refusal.OutOfMemory) first so = tt

-- ---- actors that have not ended

range_more : (a n : ℕ) → range_with_len a (n + 1) ≡ range_with_len a n ++ (a + n) ∷ []
range_more a zero = ap (λ m. m ∷ []) (omega arith)
range_more a (suc n) =
    let next : suc n + 1 ≡ suc (n + 1) = omega arith in
    ap (range_with_len a) next ∙ ap (λ ns. a ∷ ns) (range_more (a + 1) n ∙ ap (λ m. range_with_len (a + 1) n ++ m ∷ [])
    (omega arith))

-- one line more
pub unfinished_more : (f : ℕ → List ℕ) (n : ℕ) (before now after : List ℕ) → now ≡ before
    ++ flat_map f (range_with_len 1 n)
    → after ≡ now ++ f (n + 1) → after ≡ before ++ flat_map f (range_with_len 1 (n + 1))
unfinished_more f n before now after so_far one =
    let next : 1 + n ≡ n + 1 = omega arith in
    one ∙ ap (λ (text : List ℕ). text ++ f (n + 1)) so_far ∙ append_assoc before (flat_map f (range_with_len 1 n))
    (f (n + 1))
    ∙ ap (λ (text : List ℕ). before ++ text)
    (sym (ap (flat_map f) (range_more 1 n ∙ ap (λ m. range_with_len 1 n ++ m ∷ []) next)
    ∙ flat_map-append f (range_with_len 1 n) ((n + 1) ∷ [])
    ∙ ap (λ (text : List ℕ). flat_map f (range_with_len 1 n) ++ text) (append-nil (f (n + 1)))))
