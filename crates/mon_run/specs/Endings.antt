-- How far a run comes in its plan, how it ends, and what its lines came to.
use Rattle.std.specs.Prelude.{◌≡◌, ◌<◌, ◌==◌, ◌||◌, ◌⊎◌, ℕ, Bool, true, false, List, [], ◌∷◌, ◌++◌, length, Option, ◌≤◌}
use Rattle.std.specs.Prelude.{IfSome, Some, Ok, option_map}
use Rattle.std.specs.List.{AllByRecursion, flat_map}
use Rattle.mon_value.specs.declared.histories.Histories.{Histories}
use Rattle.run_traces.specs.declared.traces.LineTrace.{LineTrace}
use Rattle.weave_core.specs.Schedules.{Printed}
use Rattle.history_book.specs.Histories.{AreFronts}
use Rattle.know.specs.Endings.{Ending}
use Rattle.mon_config.specs.Configs.{config_in}
use Rattle.mon_config.specs.declared.config.Config.{Config}
use Rattle.mon_script.specs.Scripts.{script_in}
use Rattle.mon_script.specs.declared.script.ScriptLine.{ScriptLine}
use Rattle.mon_topo.specs.HeldHistories.{AreHeld}
use Rattle.run_traces.specs.Headline.{ScriptHolds}
use Rattle.mon_run.specs.Steps.{Rose, Ask, End, Miss, Plan, Print, Seek, Step, Write, is_of_line, plan, read_text}
use Rattle.mon_run.specs.Outside.{AreOf, Files, FolderState, Told, asking, SinkState, written_then}
use Rattle.mon_run.specs.Plans.{IsWovenBy, behind_first, came, contents_of, first_content, forms_of, run_plan, Command}
use Rattle.mon_run.specs.Plans.{command_of}
use Rattle.mon_run.specs.declared.outside.folder.Asked.{Asked}
use Rattle.mon_run.specs.declared.words.Verb.TheVariants as verb

-- How far a run comes in its plan, and how it ends.

-- ---- what was done

-- a run: its folder, its sink, and what the lines that ran came to
pub record Progress : Type 0 where
  pub folder : FolderState
  pub sink : SinkState
  pub ends : List LineTrace

abbrev pub progress : FolderState → SinkState → List LineTrace → Progress
progress folder sink ends = record { folder = folder; sink = sink; ends = ends }

abbrev pub read_in : Step → List Asked
read_in (Ask name content) = asking name false ∷ []
read_in (Seek name) = asking name false ∷ []
read_in (Miss name) = asking name true ∷ []
read_in (End trace) = []
read_in (Print text) = []
read_in (Write text) = []

abbrev pub given_in : Step → Files
given_in (Ask name content) = (name, content) ∷ []
given_in (Seek name) = []
given_in (Miss name) = []
given_in (End trace) = []
given_in (Print text) = []
given_in (Write text) = []

abbrev pub end_in : Step → List LineTrace
end_in (Ask name content) = []
end_in (Seek name) = []
end_in (Miss name) = []
end_in (End trace) = trace ∷ []
end_in (Print text) = []
end_in (Write text) = []

abbrev pub text_of_step : Step → List ℕ
text_of_step (Ask name content) = []
text_of_step (Seek name) = []
text_of_step (Miss name) = []
text_of_step (End trace) = []
text_of_step (Print text) = text
text_of_step (Write text) = text

-- The steps were done, and nothing else: just their files were asked for and gave this, their lines ended and their texts
-- were written, in their order. A folder that tells its files beforehand gave what they hold
pub record Did (steps : List Step) (before after : Progress) : Type 0 where
  pub files : after.folder.files ≡ before.folder.files
  pub asked : after.folder.asked ≡ before.folder.asked ++ flat_map read_in steps
  pub gave : after.folder.gave ≡ before.folder.gave ++ flat_map given_in steps
  pub so : Told before.folder (λ files. AreOf files (flat_map given_in steps))
  pub ends : after.ends ≡ before.ends ++ flat_map end_in steps
  pub wrote : after.sink.written ≡ written_then (flat_map text_of_step steps) before.sink.written

-- ---- how far a run comes

-- a write failed: the steps before it were done, and of its own text a front was written, and not all
pub record CutShort (steps : List Step) (before after : Progress) : Type 0 where
  pub done : List Step
  pub step : Step
  pub left : List Step
  pub split : steps ≡ done ++ step ∷ left
  pub front : List ℕ
  pub rest : List ℕ
  pub cut : text_of_step step ≡ front ++ rest
  pub some : 0 < length rest
  pub did : Did (done ++ Write front ∷ []) before after

-- what is left of a plan is no line's
abbrev pub AreNoLines : List Step → Type 0
AreNoLines = AllByRecursion (λ step. is_of_line step ≡ false)

-- memory ran out: the steps before were done, and what is left is no line's, so each line that came to something has
-- its text, and of a block that was cut no line came to anything
pub record Starved (steps : List Step) (before after : Progress) : Type 0 where
  pub done : List Step
  pub left : List Step
  pub split : steps ≡ done ++ left
  pub whole : AreNoLines left
  pub did : Did done before after

-- A run follows a plan: it does all of it; or a write failed, and the count of the sink's faults rose (status
-- 5); or memory ran out (status 6).
abbrev pub Follows : Plan → ℕ → Progress → Progress → Type 0
Follows p status before after =
    ((status ≡ p.status) × Did p.steps before after)
    ⊎ (((status ≡ 5) × CutShort p.steps before after × Rose before.sink.faults after.sink.faults)
    ⊎ ((status ≡ 6) × Starved p.steps before after))

-- A run could not read a file of its plan, and follows the plan that ends there with a text that says so
-- (status 4): the folder's faults rose, and the name is that of the last read that failed.
pub record Misses (p : Plan) (status : ℕ) (before after : Progress) : Type 0 where
  pub done : List Step
  pub name : List ℕ
  pub left : List Step
  pub split : p.steps ≡ done ++ Seek name ∷ left
  pub follows : Follows (plan (done ++ Miss name ∷ Write (read_text name) ∷ []) 4) status before after
  pub rose : Rose before.folder.faults after.folder.faults
  pub last : after.folder.last ≡ name

-- a run is what its plan says, as far as its folder, its sink and memory let it come
abbrev pub RunIs : Plan → ℕ → Progress → Progress → Type 0
RunIs p status before after = Follows p status before after ⊎ Misses p status before after

-- ---- causes, over any folder and sink

-- the last of the reads failed: the count of the folder's faults rose, and the read is told with its name
pub record LastFailed (before after : FolderState) : Type 0 where
  pub earlier : List Asked
  pub asked : after.asked ≡ earlier ++ asking after.last true ∷ []
  pub rose : Rose before.faults after.faults

-- the statuses of a run
abbrev pub is_status : ℕ → Bool
is_status status =
    (status == 0) || ((status == 1) || ((status == 2)
    || ((status == 3) || ((status == 4) || ((status == 5) || ((status == 6) || ((status == 7) || (status == 8))))))))

-- What the lines of a run's script came to, and what its caller had seen at the end: which the headline holds of.

-- the histories that a script's caller had seen, where a store was made
abbrev pub seen_by : Option Ending → Option Histories
seen_by = option_map (λ (ended : Ending). ended.seen)

-- The headline holds of the lines that ran, over all that the script's caller had seen at the end; or, where memory ran
-- out early, over what it had seen before the part in which it did. The histories at the end bear one another out: what
-- a range acknowledged, its leaves took. No line beyond the script came to anything. What the lines' files held is what
-- the reads gave, one after another
pub record LinesTell (early : Type 0) (config : Config) (reads : Files) (script : List ScriptLine) (ended : Histories)
    (traces : List LineTrace) : Type 0 where
  pub known : Histories
  pub front : AreFronts known ended
  pub whole : early ⊎ (known ≡ ended)
  pub few : length traces ≤ length script
  pub held : AreHeld config.schemas config.topology config.range_points ended
  pub holds : ScriptHolds config (contents_of (forms_of script) reads) known script traces

-- a text is a script over the zones of the configuration
pub record ScriptTells (config : Config) (text : List ℕ) (early : Type 0) (reads : Files) (ended : Histories)
    (traces : List LineTrace) : Type 0 where
  pub script : List ScriptLine
  pub script_is : script_in config.topology text ≡ Ok script
  pub lines : LinesTell early config reads script ended traces

-- a command runs a script under a configuration: the second file that was read, and the first
pub record CommandTells (what : Command) (early : Type 0) (reads : Files) (ended : Histories) (traces : List LineTrace)
    : Type 0 where
  pub verb_is : what.verb ≡ verb.Run
  pub config : Config
  pub config_is : config_in (first_content reads) ≡ Ok config
  pub script : ScriptTells config (first_content (behind_first reads)) early (behind_first (behind_first reads)) ended
      traces

-- A store was made, so the words are such a command, and this holds of its lines
pub record RunTells (words : List (List ℕ)) (early : Type 0) (reads : Files) (ended : Histories)
    (traces : List LineTrace) : Type 0 where
  pub what : Command
  pub command_is : command_of words ≡ Some what
  pub command : CommandTells what early reads ended traces

-- The whole run.

-- A run of these words is what their plan says, by what its reads gave, what its lines came to and what its script's
-- caller had seen at the end; and where a store was made, so the headline holds of its lines. Where it came to the end
-- of a schedule, `woven` is what that printed; without it, the plan of a schedule ends for want of memory before anything
-- is written.
pub record Runs (words : List (List ℕ)) (status : ℕ) (ended : Option Histories) (before after : Progress) : Type 0
  where
    pub reads : Files
    pub gave : after.folder.gave ≡ before.folder.gave ++ reads
    pub woven : Option Printed
    pub printed : IfSome woven (IsWovenBy reads)
    pub is : RunIs (run_plan (came woven ended after.ends) reads words) status before after
    pub holds : IfSome ended (λ seen. RunTells words (status ≡ 6) reads seen after.ends)
