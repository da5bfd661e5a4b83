-- The query that a text asks of a configuration's store, or why it asks none.
use Rattle.std.specs.Prelude.{ℕ, ℤ, ◌≡◌, ◌<◌, List, Result, Ok, Err}
use Rattle.std.specs.List.{AllByRecursion}
use Rattle.mon_config.specs.declared.config.Config.{Config}
use Rattle.mon_value.specs.Answers.{Withholds}
use Rattle.mon_value.specs.declared.refusals.Refusal.{Refusal}
use Rattle.typed_trees.specs.Nodes.{TypedTree}
use Rattle.query_core.specs.Machine.{Query, new_query}
use Rattle.query_texts.specs.TextTypes.{text_type}
use Rattle.query_texts.specs.declared.faults.TextFault.{TextFault}
use Rattle.weave_core.specs.Declarations.{IsAskedSo}
use Rattle.weave_core.specs.EndTexts.{no_plan_line}
use Rattle.weave_core.specs.declared.actors.Task.{Task}
use Rattle.weave_core.specs.declared.actors.Task.TheVariants as task
use Rattle.weave_core.specs.declared.queries.Querying.{Querying}

-- a machine is that of a text's typed tree, and has not begun
pub record IsMachineSo (config : Config) (text : List ℕ) (machine : Query) : Type 0 where
  pub typed : TypedTree
  pub typed_is : text_type config.schemas text ≡ Ok typed
  pub asked : IsAskedSo config typed machine.setting
  pub buckets : AllByRecursion (λ (bucket : ℕ). bucket < config.buckets) machine.setting.plan.buckets
  pub new : machine ≡ new_query machine.setting

-- a text has a machine, or is refused for its fault, want of memory aside
abbrev pub IsMachineOf : Config → List ℕ → Result Query (Refusal TextFault) → Type 0
IsMachineOf config text (Ok machine) = IsMachineSo config text machine
IsMachineOf config text (Err why) = Withholds why (text_type config.schemas text)

-- a query that begins at a moment
pub record BeginsToAsk (config : Config) (moment : ℤ) (text : List ℕ) (querying : Querying) : Type 0 where
  pub moment_is : querying.moment ≡ moment
  pub machine : IsMachineSo config text querying.machine

-- a text has no plan, and what its query prints then
pub record HasNoPlan (config : Config) (text line : List ℕ) : Type 0 where
  pub why : TextFault
  pub refused : text_type config.schemas text ≡ Err why
  pub line_is : line ≡ no_plan_line why

-- a text's query begins, or is refused with a line
abbrev pub IsQueryTask : Config → ℤ → List ℕ → Task → Type 0
IsQueryTask config moment text (task.Queries querying) = BeginsToAsk config moment text querying
IsQueryTask config moment text (task.Refused line) = HasNoPlan config text line
IsQueryTask config moment text (task.Writes writing) = ⊥
IsQueryTask config moment text (task.Switches switching) = ⊥
IsQueryTask config moment text (task.Retires retiring) = ⊥
IsQueryTask config moment text (task.Recovers recovering) = ⊥
IsQueryTask config moment text task.Ended = ⊥
