-- What lines that ran did with the queries that stand, part after part.
use Rattle.std.specs.Prelude.{◌≡◌, false, List, [], ◌∷◌, ◌++◌, length}
use Rattle.std.specs.List.{AllByRecursion}
use Rattle.mon_schema.specs.Names.{SchemaLists}
use Rattle.mon_script.specs.declared.forms.LineForm.{LineForm}
use Rattle.mon_script.specs.declared.script.ScriptLine.{ScriptLine}
use Rattle.mon_run.specs.within.Lines.{block_traces}
use Rattle.run_traces.specs.LineDues.{AreDue, IsDueBy, is_ticked, stands_behind}
use Rattle.run_traces.specs.declared.traces.LineTrace.{LineTrace}
use Rattle.standing.specs.DueLists.{StandingState}

-- what stands behind lines that came to these traces
abbrev pub stands_after : StandingState → List ScriptLine → List LineTrace → StandingState
stands_after state [] traces = state
stands_after state (line ∷ lines) [] = state
stands_after state (line ∷ lines) (trace ∷ traces) =
    stands_after (stands_behind state line.what trace) lines traces

module _ (schemas : SchemaLists) where
  -- the lines in front of those that are left came to more traces, as the queries that stood say
  pub record DueTo (lines left : List ScriptLine) (state stands : StandingState) (before after : List LineTrace)
      : Type 0 where
    pub part : List ScriptLine
    pub split : lines ≡ part ++ left
    pub traces : List LineTrace
    pub ends : after ≡ before ++ traces
    pub count : length traces ≡ length part
    pub due : AreDue schemas state part traces
    pub stood : stands ≡ stands_after state part traces

  -- as many lines as ran did
  pub record DueSoFar (lines : List ScriptLine) (state : StandingState) (before after : List LineTrace) : Type 0 where
    pub traces : List LineTrace
    pub ends : after ≡ before ++ traces
    pub due : AreDue schemas state lines traces

  -- a line alone did
  pub record AloneDue (what : LineForm) (state stands : StandingState) (before after : List LineTrace) : Type 0 where
    pub trace : LineTrace
    pub ends : after ≡ before ++ trace ∷ []
    pub due : IsDueBy schemas state what trace
    pub stood : stands ≡ stands_behind state what trace

-- the lines of a block came to traces of which none is a tick
pub record BlockDue (lines : List ScriptLine) (before after : List LineTrace) : Type 0 where
  pub traces : List LineTrace
  pub ends : after ≡ before ++ block_traces traces
  pub count : length traces ≡ length lines
  pub plain : AllByRecursion (λ trace. is_ticked trace ≡ false) traces
