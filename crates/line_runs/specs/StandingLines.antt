-- What a line comes to by which a query is to stand.
use Rattle.std.specs.Prelude.{ℕ, ℤ, List, ◌++◌, codes, Option, Some, None}
use Rattle.line_runs.specs.Questions.{refused_for}
use Rattle.line_runs.specs.declared.lines.LineRan.{LineRan}
use Rattle.mon_table.specs.Tables.{newline}
use Rattle.mon_topo.specs.declared.zones.ZoneSpec.{ZoneSpec}
use Rattle.run_traces.specs.declared.traces.LineFault.TheVariants as why
use Rattle.run_traces.specs.declared.traces.LineTrace.TheVariants as came
use Rattle.standing.specs.DueLists.{StandingState, standing_query, with_query}
use Rattle.standing.specs.declared.faults.StandingFault.{StandingFault}

abbrev pub added : List ℕ → LineRan
added name = record { trace = came.Done; text = codes "standing " ++ (name ++ (codes ": added" ++ newline)) }

-- by the fault of the query, if it has one
abbrev pub standing_ran : List ZoneSpec → List ℕ → Option StandingFault → LineRan
standing_ran zones name None = added name
standing_ran zones name (Some fault) = refused_for zones (why.Standing fault)

-- what stands then
abbrev pub standing_then : StandingState → List ℕ → ℤ → List ℕ → Option StandingFault → StandingState
standing_then state name period text None = with_query state (standing_query name period text)
standing_then state name period text (Some fault) = state
