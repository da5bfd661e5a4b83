-- What lines owe by which a query is to stand, and ticks whose moment isn't taken.
use Rattle.std.proofs.Common.{◌≡◌, ℕ, ℤ, Bool, true, false, cond, List, [], Option, Some, None, Result, Ok, Err}
use Rattle.std.proofs.Common.{refl}
use Rattle.std.proofs.Common.{sym}
use Rattle.know.specs.Knowledge.{Knowledge}
use Rattle.line_runs.specs.LineWrites.{LineWrote, ran_line}
use Rattle.line_runs.specs.Questions.{refused_for}
use Rattle.line_runs.specs.StandingLines.{standing_ran, standing_then}
use Rattle.line_runs.proofs.OtherLines.{done_wrote, reached, still_refused}
use Rattle.mon_config.specs.declared.config.Config.{Config}
use Rattle.mon_script.specs.declared.forms.LineForm.{LineForm}
use Rattle.mon_script.specs.declared.forms.LineForm.TheVariants as form
use Rattle.mon_script.specs.declared.standing_lines.StandingLine.TheVariants as line
use Rattle.typed_trees.specs.Nodes.{TypedTree}
use Rattle.query_texts.specs.TextTypes.{text_type}
use Rattle.query_texts.specs.declared.faults.TextFault.{TextFault}
use Rattle.query_texts.specs.declared.faults.TextFault.TheVariants as text_fault
use Rattle.run_traces.specs.LineCauses.{StandingCause}
use Rattle.run_traces.specs.LineClaims.{marked}
use Rattle.run_traces.specs.LineDues.{IsDueBy, stands_behind}
use Rattle.run_traces.specs.declared.traces.LineFault.TheVariants as why
use Rattle.run_traces.specs.declared.line_files.LineFiles.{LineFiles}
use Rattle.standing.specs.DueLists.{add_fault, fault_in, is_taken, StandingState}
use Rattle.standing.specs.declared.faults.DueFault.{DueFault}
use Rattle.standing.specs.declared.faults.StandingFault.{StandingFault}
use Rattle.standing.specs.declared.faults.StandingFault.TheVariants as unstood

-- ---- a text's fault

abbrev some_fault : StandingFault → Option StandingFault
some_fault fault = Some fault

-- where a query isn't taken by its text, its text has that fault
parse_is : (tree : Result TypedTree TextFault) (parse : _) → fault_in tree ≡ some_fault (unstood.Parse parse)
    → tree ≡ Err (text_fault.Parse parse)
parse_is (Ok tree) parse is = absurd cc
parse_is (Err (text_fault.Parse other)) parse is =
    let same : unstood.Parse other ≡ unstood.Parse parse = cc in cc
parse_is (Err (text_fault.Typing other)) parse is = absurd cc

typing_is : (tree : Result TypedTree TextFault) (typing : _) → fault_in tree ≡ some_fault (unstood.Typing typing)
    → tree ≡ Err (text_fault.Typing typing)
typing_is (Ok tree) typing is = absurd cc
typing_is (Err (text_fault.Parse other)) typing is = absurd cc
typing_is (Err (text_fault.Typing other)) typing is =
    let same : unstood.Typing other ≡ unstood.Typing typing = cc in cc

not_taken : (taken : Bool) (fault : StandingFault) (tree : Result TypedTree TextFault)
    → cond taken (some_fault unstood.NameTaken) (fault_in tree) ≡ some_fault fault
    → (fault ≡ unstood.NameTaken → ⊥) → fault_in tree ≡ some_fault fault
not_taken true fault tree is other = absurd (other (let same : unstood.NameTaken ≡ fault = cc in sym same))
not_taken false fault tree is other = is

-- ---- lines

module _ (config : Config) (state : StandingState) (name : List ℕ) (period : ℤ) (text : List ℕ) (content : LineFiles)
    (know : Knowledge) where
  abbrev pub the_form : LineForm
  the_form = form.Standing (line.Stand name period text)

  abbrev fault_told : Option StandingFault
  fault_told = add_fault config.schemas state.queries name text

  cause_of : (fault : StandingFault) → fault_told ≡ some_fault fault
      → StandingCause config know.seen (marked (reached know)) (marked (reached know)) the_form fault
  cause_of unstood.NameTaken is = tt
  cause_of (unstood.Parse parse) is = parse_is (text_type config.schemas text) parse
      (not_taken (is_taken name state.queries) (unstood.Parse parse) (text_type config.schemas text) is
      (λ e. absurd cc))
  cause_of (unstood.Typing typing) is = typing_is (text_type config.schemas text) typing
      (not_taken (is_taken name state.queries) (unstood.Typing typing) (text_type config.schemas text) is
      (λ e. absurd cc))

  by_told : (told : Option StandingFault) → fault_told ≡ told → LineWrote config
      (ran_line the_form content (standing_ran config.topology name told).trace [])
      (standing_ran config.topology name told).text know know
  by_told None is = done_wrote config the_form content know tt
  by_told (Some fault) is = still_refused config the_form content know (why.Standing fault) tt (λ leaf. refl)
      (cause_of fault is)

  -- a line by which a query is to stand
  pub standing_wrote : LineWrote config
      (ran_line the_form content (standing_ran config.topology name fault_told).trace [])
      (standing_ran config.topology name fault_told).text know know
  standing_wrote = by_told fault_told refl

  due_by : (told : Option StandingFault) → fault_told ≡ told
      → IsDueBy config.schemas state the_form (standing_ran config.topology name told).trace
      × (standing_then state name period text told
      ≡ stands_behind state the_form (standing_ran config.topology name told).trace)
  due_by None is = (let other : None ≡ fault_told = sym is in cc, refl)
  due_by (Some fault) is = (let other : Some fault ≡ fault_told = sym is in cc, refl)

  pub standing_due : IsDueBy config.schemas state the_form
      (standing_ran config.topology name fault_told).trace
      × (standing_then state name period text fault_told
      ≡ stands_behind state the_form (standing_ran config.topology name fault_told).trace)
  standing_due = due_by fault_told refl

-- a tick whose moment isn't taken
pub undue_wrote : (config : Config) (moment : ℤ) (content : LineFiles) (know : Knowledge) (fault : DueFault)
    → LineWrote config
    (ran_line (form.Standing (line.Tick moment)) content (refused_for config.topology (why.Due fault)).trace [])
    (refused_for config.topology (why.Due fault)).text know know
undue_wrote config moment content know fault =
    still_refused config (form.Standing (line.Tick moment)) content know (why.Due fault) tt (λ leaf. refl) tt
