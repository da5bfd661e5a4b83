-- What lines do with the queries that stand, and what they owe.
use Rattle.std.proofs.Common.{◌≡◌, ◌∙◌, ℕ, ℤ, List, [], ◌∷◌, Some, Ok, Err, sym, ap, subst}
use Rattle.std.specs.Prelude.{IfOk, OnOk, Result}
use Rattle.history_book.specs.Seats.{HasEveryNumber, IsPurseBorneOut}
use Rattle.know.specs.Knowledge.{Knowledge}
use Rattle.line_runs.specs.LineWrites.{LineWrote, ran_line}
use Rattle.line_runs.specs.Questions.{refused_for}
use Rattle.line_runs.specs.StandingLines.{standing_ran, standing_then}
use Rattle.line_runs.specs.declared.lines.LineRan.{LineRan}
use Rattle.line_runs.proofs.StandingWrote.{standing_due, standing_wrote, undue_wrote}
use Rattle.mon_config.specs.declared.config.Config.{Config}
use Rattle.mon_script.specs.declared.forms.LineForm.{LineForm}
use Rattle.mon_script.specs.declared.forms.LineForm.TheVariants as form
use Rattle.mon_script.specs.declared.standing_lines.StandingLine.TheVariants as line
use Rattle.mon_store.specs.Passes.{IsPass}
use Rattle.mon_topo.specs.Settings.{Setting}
use Rattle.part_runs.specs.PartsDone.{ActedAlone, AloneDid}
use Rattle.part_runs.proofs.AloneLemmas.{part_did}
use Rattle.part_runs.proofs.TellLemmas.{GoOn, Stay, alone_tells}
use Rattle.part_runs.proofs.TickLemmas.{tick_acted}
use Rattle.part_runs.specs.Ticks.{TickRan}
use Rattle.run_traces.specs.LineDues.{due_outcome, due_told, stands_behind}
use Rattle.run_traces.specs.declared.traces.LineFault.TheVariants as why
use Rattle.run_traces.specs.declared.line_files.LineFiles.{LineFiles}
use Rattle.standing.specs.DueLists.{add_fault, due_answer, StandingState, at_moment}
use Rattle.standing.specs.declared.dues.Due.{Due}
use Rattle.standing.specs.declared.faults.DueFault.{DueFault}

module _ (go_on : GoOn) (stay : Stay) (setting : Setting) (config : Config) (know : Knowledge)
    (begun : IsPass setting know) (borne_out : IsPurseBorneOut know.seen know.purse)
    (every : HasEveryNumber know.purse) where
  -- a line that touches nothing tells what it wrote
  still_acted : (what : LineForm) (content : LineFiles) (ran : LineRan)
      → LineWrote config (ran_line what content ran.trace []) ran.text know know
      → ActedAlone config what content ran know know
  still_acted what content ran wrote = record {
    own = [];
    tells = alone_tells go_on stay
        (part_did setting config (ran_line what content ran.trace []) ran.text know know begun begun wrote borne_out
        every);
  }

  module _ (state : StandingState) (name : List ℕ) (period : ℤ) (text : List ℕ) (content : LineFiles) where
    abbrev told : LineRan
    told = standing_ran config.topology name (add_fault config.schemas state.queries name text)

    stood_told : AloneDid config (form.Standing (line.Stand name period text)) content told know know state
        (standing_then state name period text (add_fault config.schemas state.queries name text))
    stood_told =
        let due = standing_due config state name period text content know in
        record {
          acted = still_acted (form.Standing (line.Stand name period text)) content told
              (standing_wrote config state name period text content know);
          due = due.0;
          stood = due.1;
        }

    -- a query is to stand
    pub stand_did : (ran : LineRan) (stands : StandingState) → ran ≡ told
        → stands ≡ standing_then state name period text (add_fault config.schemas state.queries name text)
        → AloneDid config (form.Standing (line.Stand name period text)) content ran know know state stands
    stand_did ran stands is stood =
        subst (λ (r : LineRan). AloneDid config (form.Standing (line.Stand name period text)) content r know know state stands)
        (sym is)
        (subst (AloneDid config (form.Standing (line.Stand name period text)) content told know know state) (sym stood) stood_told)

    pub stand_answers : {E : Type 0} (answer : Result LineRan E) (stands : StandingState)
        → IfOk answer (λ ran. ran ≡ told)
        → OnOk answer (stands ≡ standing_then state name period text (add_fault config.schemas state.queries name text))
        → IfOk answer (λ ran. AloneDid config (form.Standing (line.Stand name period text)) content ran know know state stands)
    stand_answers (Ok ran) stands is stood = stand_did ran stands is stood
    stand_answers (Err fault) stands is stood = tt

  -- a moment isn't taken
  pub undue_did : (state stands : StandingState) (moment : ℤ) (content : LineFiles) (fault : DueFault) (ran : LineRan)
      → ran ≡ refused_for config.topology (why.Due fault)
      → due_answer state.last moment state.queries ≡ Err fault → stands ≡ state
      → AloneDid config (form.Standing (line.Tick moment)) content ran know know state stands
  undue_did state stands moment content fault ran is answer same =
      subst (λ (r : LineRan). AloneDid config (form.Standing (line.Tick moment)) content r know know state stands) (sym is) (record {
        acted = still_acted (form.Standing (line.Tick moment)) content (refused_for config.topology (why.Due fault))
            (undue_wrote config moment content know fault);
        due = ap (λ (a : Result (List Due) DueFault). Some (due_outcome a)) (sym answer);
        stood = same;
      })

  pub undue_answers : {E : Type 0} (answer : Result LineRan E) (state stands : StandingState) (moment : ℤ)
      (content : LineFiles) (fault : DueFault)
      → IfOk answer (λ ran. ran ≡ refused_for config.topology (why.Due fault))
      → due_answer state.last moment state.queries ≡ Err fault → stands ≡ state
      → IfOk answer (λ ran. AloneDid config (form.Standing (line.Tick moment)) content ran know know state stands)
  undue_answers (Ok ran) state stands moment content fault is due same =
      undue_did state stands moment content fault ran is due same
  undue_answers (Err failed) state stands moment content fault is due same = tt

-- the queries that are due were asked
module _ (config : Config) (before after : Knowledge) (state stands : StandingState) (moment : ℤ) (content : LineFiles)
    (dues : List Due) (answer : due_answer state.last moment state.queries ≡ Ok dues)
    (stood : stands ≡ at_moment state moment) where
  due_did : (ran : LineRan) → TickRan config dues ran before after
      → AloneDid config (form.Standing (line.Tick moment)) content ran before after state stands
  due_did ran tick = record {
    acted = tick_acted moment content dues ran tick;
    due = ap due_told tick.trace_is ∙ ap (λ (some : List Due). Some (Ok some)) tick.all
        ∙ ap (λ (a : Result (List Due) DueFault). Some (due_outcome a)) (sym answer);
    stood = stood ∙ ap (stands_behind state (form.Standing (line.Tick moment))) (sym tick.trace_is);
  }

  pub due_answers : {E : Type 0} (result : Result LineRan E)
      → IfOk result (λ ran. TickRan config dues ran before after)
      → IfOk result (λ ran. AloneDid config (form.Standing (line.Tick moment)) content ran before after state stands)
  due_answers (Ok ran) tick = due_did ran tick
  due_answers (Err failed) tick = tt
