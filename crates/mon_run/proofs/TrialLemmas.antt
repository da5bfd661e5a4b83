-- Trials: what was done, and the status behind it.
use Rattle.std.proofs.Common.{◌≡◌, ◌∙◌, ◌==◌, ℕ, true, false, cond, List, [], ◌∷◌, ◌++◌, map, Option, Some, None}
use Rattle.std.proofs.Common.{inl, inr, refl, sym, ap, subst, append-nil}
use Rattle.std.proofs.lemmas.Bool.{false≢true}
use Rattle.std.specs.List.{flat_map}
use Rattle.mon_script.specs.Made.{made_pieces}
use Rattle.mon_run.specs.Endings.{AreNoLines, Did, Follows, Progress, Runs, end_in, given_in, progress, read_in}
use Rattle.mon_run.specs.Endings.{seen_by, text_of_step}
use Rattle.mon_run.specs.Steps.{Rose, End, Plan, Step, Write, ending, plan, plan_behind}
use Rattle.mon_run.specs.Outside.{AreOf, FolderState, calm_folder_state, SinkState, Takes, TakesFront, sink_state}
use Rattle.mon_run.specs.Outside.{written_then}
use Rattle.mon_run.specs.Plans.{Command, came, command_of, made_number, number_plan, run_plan}
use Rattle.mon_run.specs.Trials.{Tries, made_files, made_words, ran_all, says_why, trial_end, trial_plan, trial_start}
use Rattle.mon_run.specs.declared.outcome.Outcome.{Outcome}
use Rattle.mon_run.specs.declared.stop.Stop.TheVariants as stop
use Rattle.mon_run.specs.within.Tried.{RanMade}
use Rattle.mon_run.proofs.MadeLemmas.{no_lines}
use Rattle.mon_run.proofs.SinkLemmas.{nothing_written}
use Rattle.mon_run.proofs.StepLemmas.{did_none, did_then, none_chosen, stops_behind}
use Rattle.run_traces.specs.declared.traces.LineTrace.{LineTrace}
use Rattle.trials.specs.Summaries.{summary_text}

-- ---- lines end

abbrev ends_of : List LineTrace → List Step
ends_of = map (λ trace. End trace)

no_reads : (traces : List LineTrace) → flat_map read_in (ends_of traces) ≡ []
no_reads [] = refl
no_reads (trace ∷ traces) = no_reads traces

no_files : (traces : List LineTrace) → flat_map given_in (ends_of traces) ≡ []
no_files [] = refl
no_files (trace ∷ traces) = no_files traces

no_texts : (traces : List LineTrace) → flat_map text_of_step (ends_of traces) ≡ []
no_texts [] = refl
no_texts (trace ∷ traces) = no_texts traces

all_ends : (traces : List LineTrace) → flat_map end_in (ends_of traces) ≡ traces
all_ends [] = refl
all_ends (trace ∷ traces) = ap (λ more. trace ∷ more) (all_ends traces)

pub lines_end : (traces : List LineTrace) (folder : FolderState) (sink : SinkState)
    → Did (ends_of traces) (progress folder sink []) (progress folder sink traces)
lines_end traces folder sink = record {
  files = refl;
  asked = sym (append-nil folder.asked) ∙ ap (λ more. folder.asked ++ more) (sym (no_reads traces));
  gave = sym (append-nil folder.gave) ∙ ap (λ more. folder.gave ++ more) (sym (no_files traces));
  so = λ files told. subst (AreOf files) (sym (no_files traces)) tt;
  ends = sym (all_ends traces);
  wrote = nothing_written sink.written ∙ ap (λ more. written_then more sink.written) (sym (no_texts traces));
}

-- behind steps that wrote nothing, a plan is followed in the same way
pub follows_behind : (xs : List Step) (p : Plan) (status : ℕ) (before mid after : Progress) → Did xs before mid
    → mid.sink ≡ before.sink → Follows p status mid after → Follows (plan_behind xs p) status before after
follows_behind xs p status before mid after did same (inl done) = inl (done.0, did_then did done.1)
follows_behind xs p status before mid after did same (inr (inl cut)) = inr (inl (
  cut.0,
  stops_behind p after stop.WriteFailed did cut.1,
  subst (λ (sink : SinkState). Rose sink.faults after.sink.faults) same cut.2,
))
follows_behind xs p status before mid after did same (inr (inr short)) =
    inr (inr (short.0, stops_behind p after stop.OutOfMemory did short.1))

pub trial_said : (code status : ℕ) (traces : List LineTrace) (printed : List ℕ) (folder : FolderState)
    (before after : SinkState)
    → Follows (trial_end code traces printed) status (progress folder before traces) (progress folder after traces)
    → Follows (trial_plan code traces printed) status (progress folder before []) (progress folder after traces)
trial_said code status traces printed folder before after follows =
    follows_behind (ends_of traces) (trial_end code traces printed) status (progress folder before [])
    (progress folder before traces) (progress folder after traces) (lines_end traces folder before) refl follows

-- ---- texts

-- a front of it
pub text_cut : (status : ℕ) (text : List ℕ) (folder : FolderState) (ends : List LineTrace) (before after : SinkState)
    → TakesFront text before after → Rose before.faults after.faults
    → Follows (ending status text) 5 (progress folder before ends) (progress folder after ends)
text_cut status text folder ends before after takes rose = inr (inl (
  refl,
  record {
    done = [];
    step = Write text;
    left = [];
    split = refl;
    front = takes.front;
    rest = takes.rest;
    cut = takes.split;
    some = takes.some;
    did = record {
      files = refl;
      asked = sym (append-nil folder.asked);
      gave = sym (append-nil folder.gave);
      so = λ files told. tt;
      ends = sym (append-nil ends);
      wrote = takes.takes ∙ ap (λ more. written_then more before.written) (sym (append-nil takes.front));
    };
  },
  rose,
))

-- memory ran out in front of what was to be said
pub says_nothing : (p : Plan) (folder : FolderState) (ends : List LineTrace) (sink : SinkState) → AreNoLines p.steps
    → Follows p 6 (progress folder sink ends) (progress folder sink ends)
says_nothing p folder ends sink none = inr (inr (
  refl,
  record {
    done = [];
    left = p.steps;
    split = refl;
    whole = none;
    did = did_none (progress folder sink ends);
  },
))

-- what is said of a run is no line's
none_said : (status : ℕ) (traces : List LineTrace) (printed : List ℕ)
    → AreNoLines (trial_end status traces printed).steps
none_said status traces printed =
    none_chosen (ran_all status) (ending status (summary_text traces printed))
    (cond (says_why status) (ending status printed) (plan [] 6)) (refl, tt)
    (none_chosen (says_why status) (ending status printed) (plan [] 6) (refl, tt) tt)

pub nothing_said : (status : ℕ) (traces : List LineTrace) (printed : List ℕ) (folder : FolderState)
    (ends : List LineTrace) (sink : SinkState)
    → Follows (trial_end status traces printed) 6 (progress folder sink ends) (progress folder sink ends)
nothing_said status traces printed folder ends sink =
    says_nothing (trial_end status traces printed) folder ends sink (none_said status traces printed)

-- ---- the run from memory

pub ran_made : (number : ℕ) (words : List (List ℕ)) (folder behind : FolderState) (sink after : SinkState)
    (outcome : Outcome) → words ≡ made_words → folder ≡ calm_folder_state (made_files number) [] []
    → sink ≡ sink_state (Some []) 0
    → Runs words outcome.status (seen_by outcome.ended) (progress folder sink []) (progress behind after outcome.lines)
    → RanMade number after outcome
ran_made number words folder behind sink after outcome by_words by_folder by_sink ran = record {
  folder = behind;
  ran = subst (λ (w : List (List ℕ)). Runs w outcome.status (seen_by outcome.ended)
      (trial_start number) (progress behind after outcome.lines)) by_words
      (subst (λ (before : Progress). Runs words outcome.status (seen_by outcome.ended) before
      (progress behind after outcome.lines)) (λ i. progress (by_folder i) (by_sink i) []) ran);
}

none_numbered : (number : Option ℕ) (what : Option Command)
    → AreNoLines (number_plan (came None None []) [] number what).steps
none_numbered (Some number) what = no_lines (made_pieces number)
none_numbered None None = (refl, tt)
none_numbered None (Some what) = (refl, tt)

-- memory ran out before the run
pub not_tried : (number : ℕ) (folder : FolderState) (sink : SinkState) (lines : List LineTrace) → lines ≡ []
    → Tries number 6 None (progress folder sink []) (progress folder sink lines)
not_tried number folder sink lines none = subst (λ (ends : List LineTrace).
    Tries number 6 None (progress folder sink []) (progress folder sink ends)) (sym none) (record {
      code = 6;
      folder = calm_folder_state (made_files number) [] [];
      sink = sink_state (Some []) 0;
      printed = [];
      took = refl;
      ran = record {
        reads = [];
        gave = refl;
        woven = None;
        printed = tt;
        is = inl (says_nothing (run_plan (came None None []) [] made_words)
            (calm_folder_state (made_files number) [] []) [] (sink_state (Some []) 0)
            (none_numbered (made_number made_words) (command_of made_words)));
        holds = tt;
      };
      said = says_nothing (trial_plan 6 [] []) folder [] sink tt;
    })

-- ---- statuses

-- a trial's folder never fails
pub is_none_of : (status : ℕ) → status ≡ 4 → (status == 4) ≡ false → ⊥
is_none_of status four other = false≢true (sym other ∙ ap (λ (n : ℕ). n == 4) four)

-- ---- trials

-- the made input ran, and then what is said of it was said
pub tried : (number status : ℕ) (outcome : Outcome) (sink : SinkState) (printed : List ℕ) (folder : FolderState)
    (before after : SinkState) → sink.written ≡ Some printed → RanMade number sink outcome
    → Follows (trial_end outcome.status outcome.lines printed) status (progress folder before outcome.lines)
    (progress folder after outcome.lines)
    → Tries number status (seen_by outcome.ended) (progress folder before []) (progress folder after outcome.lines)
tried number status outcome sink printed folder before after took made follows = record {
  code = outcome.status;
  folder = made.folder;
  sink = sink;
  printed = printed;
  took = took;
  ran = made.ran;
  said = trial_said outcome.status status outcome.lines printed folder before after follows;
}
