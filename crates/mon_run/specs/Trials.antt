-- Trials: the made input of a number is run from memory, and what is said of that run.
use Rattle.std.specs.Prelude.{◌≡◌, ℕ, ◌==◌, ◌||◌, Bool, List, [], ◌∷◌, map, codes, Option, Some, None, if◌then◌else◌}
use Rattle.mon_script.specs.Made.{made_config, made_points, made_script}
use Rattle.mon_value.specs.Same.{same_text}
use Rattle.mon_value.specs.declared.histories.Histories.{Histories}
use Rattle.mon_run.specs.Endings.{Follows, Progress, Runs, progress}
use Rattle.mon_run.specs.Outside.{Files, FolderState, calm_folder_state, SinkState, sink_state}
use Rattle.mon_run.specs.Plans.{number_in}
use Rattle.mon_run.specs.Steps.{End, Plan, ending, plan, plan_behind}
use Rattle.run_traces.specs.declared.traces.LineTrace.{LineTrace}
use Rattle.trials.specs.Summaries.{summary_text}

-- ---- words

-- `trial` and a number
abbrev pub trial_number : List (List ℕ) → Option ℕ
trial_number (word ∷ number ∷ []) = if same_text word (codes "trial") then number_in number else None
trial_number words = None

-- ---- the run of the made input

-- the words that run it
abbrev pub made_words : List (List ℕ)
made_words = codes "run" ∷ codes "config.json" ∷ codes "script.txt" ∷ []

-- its files
abbrev pub made_files : ℕ → Files
made_files number =
    (codes "config.json", made_config)
    ∷ (codes "p0.csv", made_points number 0)
    ∷ (codes "p1.csv", made_points number 1)
    ∷ (codes "p2.csv", made_points number 2)
    ∷ (codes "p3.csv", made_points number 3)
    ∷ (codes "script.txt", made_script)
    ∷ []

-- before the run: a folder that holds them and never fails, and a sink that took nothing so far, both in memory
abbrev pub trial_start : ℕ → Progress
trial_start number = progress (calm_folder_state (made_files number) [] []) (sink_state (Some []) 0) []

-- ---- what is said of it

-- all lines ran
abbrev pub ran_all : ℕ → Bool
ran_all status = (status == 0) || (status == 7)

-- the run said in a text of its own why it ended before
abbrev pub says_why : ℕ → Bool
says_why status = (status == 1) || ((status == 2) || ((status == 3) || (status == 8)))

-- Where all lines ran, the summary is written; where the run said why not, what it printed. Else memory ran out
abbrev pub trial_end : ℕ → List LineTrace → List ℕ → Plan
trial_end status traces printed =
    if ran_all status then ending status (summary_text traces printed)
    else if says_why status then ending status printed
    else plan [] 6

-- the lines end, and the rest is written behind all of them
abbrev pub trial_plan : ℕ → List LineTrace → List ℕ → Plan
trial_plan status traces printed = plan_behind (map (λ trace. End trace) traces) (trial_end status traces printed)

-- The made input of a number ran from memory, and its lines came to what is told; and then what is said of that run was
-- written
pub record Tries (number status : ℕ) (ended : Option Histories) (before after : Progress) : Type 0 where
  pub code : ℕ
  pub folder : FolderState
  pub sink : SinkState
  pub printed : List ℕ
  pub took : sink.written ≡ Some printed
  pub ran : Runs made_words code ended (trial_start number) (progress folder sink after.ends)
  pub said : Follows (trial_plan code after.ends printed) status before after

-- ---- any words

-- what a run of words is, by the number of its trial if it is one
abbrev pub IsRunBy : Option ℕ → List (List ℕ) → ℕ → Option Histories → Progress → Progress → Type 0
IsRunBy (Some number) words status ended before after = Tries number status ended before after
IsRunBy None words status ended before after = Runs words status ended before after

-- what a run of these words is
abbrev pub IsRun : List (List ℕ) → ℕ → Option Histories → Progress → Progress → Type 0
IsRun words status ended before after = IsRunBy (trial_number words) words status ended before after
