-- How a run ends: as its plan says, or where it could not go on.
use Rattle.std.proofs.Common.{◌≡◌, ◌∙◌, ◌≤◌, inl, inr, ℕ, true, false, List, [], ◌∷◌, ◌++◌, Bool, Result, Ok, Err}
use Rattle.std.proofs.Common.{IfOk, IfErr, refl, sym, ap, subst, append_assoc, append-nil, arith}
use Rattle.mon_run.specs.Endings.{CutShort, Did, Follows, LastFailed, Progress, RunIs, Starved}
use Rattle.mon_run.specs.Steps.{Rose, Miss, Plan, Step, Write, ending, plan, plan_behind, read_text}
use Rattle.mon_run.specs.Outside.{SinkState, FolderState, asking}
use Rattle.mon_value.specs.declared.refusals.Refusal.{Refusal}
use Rattle.mon_value.specs.declared.refusals.Refusal.TheVariants as refusal
use Rattle.mon_config.specs.declared.faults.ConfigFault.{ConfigFault}
use Rattle.mon_script.specs.declared.faults.ScriptFault.{ScriptFault}
use Rattle.mon_run.specs.declared.runs.Run.{Run}
use Rattle.mon_run.specs.declared.stop.Stop.{Stop}
use Rattle.mon_run.specs.declared.stop.Stop.TheVariants as stop
use Rattle.mon_run.specs.within.Stops.{Causes, Closes, Continues, Counts, Done, Says, SaysText, Stops, StopsAtRead}
use Rattle.mon_run.specs.within.Stops.{StopsBefore, config_stop, is_silent, script_stop}
use Rattle.mon_run.proofs.StepLemmas.{did_by, did_then}

-- ---- counts of faults

pub rose_later : (x y z : ℕ) → Rose x y → y ≤ z → Rose x z
rose_later x y z (inl less) le = inl (omega arith)
rose_later x y z (inr last) le = inr (omega arith)

pub rose_earlier : (x y z : ℕ) → x ≤ y → Rose y z → Rose x z
rose_earlier x y z le (inl less) = inl (omega arith)
rose_earlier x y z le (inr last) = inr last

pub last_earlier : (before mid after : FolderState) → before.faults ≤ mid.faults → LastFailed mid after
    → LastFailed before after
last_earlier before mid after le failed = record {
  earlier = failed.earlier;
  asked = failed.asked;
  rose =
      rose_earlier before.faults mid.faults after.faults le failed.rose;
}

pub counts_then : {before mid after : Progress} → Counts before mid → Counts mid after → Counts before after
counts_then first second = record {
  reads = let a = first.reads in let b = second.reads in omega arith;
  writes =
      let a = first.writes in let b = second.writes in omega arith;
}

pub causes_earlier : (before mid after : Progress) (stopped : Stop) → Counts before mid → Causes stopped mid after
    → Causes stopped before after
causes_earlier before mid after (stop.CannotRead name) counts causes =
    (causes.0, last_earlier before.folder mid.folder after.folder counts.reads causes.1)
causes_earlier before mid after stop.WriteFailed counts causes = rose_earlier before.sink.faults mid.sink.faults
    after.sink.faults counts.writes causes
causes_earlier before mid after stop.OutOfMemory counts causes = tt
causes_earlier before mid after stop.Usage counts causes = tt
causes_earlier before mid after (stop.Config fault) counts causes = tt
causes_earlier before mid after (stop.Script fault) counts causes = tt
causes_earlier before mid after (stop.Schedule fault) counts causes = tt
causes_earlier before mid after (stop.TooLong name) counts causes = tt

-- a configuration or a script that is refused is a cause of its own
pub refused_config : (fault : Refusal ConfigFault) (before after : Progress) → Causes (config_stop fault) before after
refused_config (refusal.Fault fault) before after = tt
refused_config refusal.OutOfMemory before after = tt

pub refused_script : (fault : Refusal ScriptFault) (before after : Progress) → Causes (script_stop fault) before after
refused_script (refusal.Fault fault) before after = tt
refused_script refusal.OutOfMemory before after = tt

-- the last read failed, under this name
pub last_read_failed : (name : List ℕ) {before after : FolderState} → after.asked ≡ before.asked ++ asking name true
    ∷ [] → Rose before.faults after.faults → after.last ≡ name → LastFailed before after
last_read_failed name {before} {after} asked rose last = record {
  earlier = before.asked;
  asked = asked ∙ ap (λ (n : List ℕ). before.asked ++ asking n true ∷ []) (sym last);
  rose = rose;
}

-- a run that goes on, and goes on
pub continues_then : {F O : Type 0} {folder : F → FolderState} {sink : O → SinkState} {before mid after : Run F O}
    → Continues folder sink before mid → Continues folder sink mid after → Continues folder sink before after
continues_then first second = record {
  folder_kept = second.folder_kept ∙ first.folder_kept;
  out_kept = second.out_kept ∙ first.out_kept;
  log_kept = second.log_kept ∙ first.log_kept;
  counts = counts_then first.counts second.counts;
}

-- ---- the end of a plan

abbrev steps_in : Plan → List Step
steps_in p = p.steps

-- a run says its own text behind its steps
follows_own : (before mid after : Progress) (p : Plan) (done : List Step) (code : ℕ) (text : List ℕ) (status : ℕ)
    → p ≡ plan_behind done (ending code text) → Did done before mid → before.sink.faults ≤ mid.sink.faults →
    SaysText code text status mid after → Follows p status before after
follows_own before mid after p done code text status is did counts (inl said) =
    inl (said.0 ∙ sym (ap (λ (q : Plan). q.status) is), did_by (sym (ap steps_in is)) (did_then did said.1))
follows_own before mid after p done code text status is did counts (inr (inl cut)) =
    inr (inl (
      cut.0,
      record {
        done = done;
        step = Write text;
        left = [];
        split = ap steps_in is;
        front = cut.1.front;
        rest = cut.1.rest;
        cut = cut.1.split;
        some = cut.1.some;
        did = did_then did cut.1.did;
      },
      rose_earlier before.sink.faults mid.sink.faults after.sink.faults counts cut.2,
    ))
follows_own before mid after p done code text status is did counts (inr (inr starved)) =
    inr (inr (
      starved.0,
      record {
        done = done;
        left = Write text ∷ [];
        split = ap steps_in is;
        whole = (refl, tt);
        did = did_by (append-nil done)
            (did_then did starved.1);
      },
    ))

ends_before : (p : Plan) (before mid after : Progress) (code : ℕ) (text : List ℕ) (status : ℕ) → StopsBefore p code
    text before mid → before.sink.faults ≤ mid.sink.faults → SaysText code text status mid after
    → RunIs p status before after
ends_before p before mid after code text status stops counts says = inl (follows_own before mid after p stops.done code
    text status stops.split stops.did counts says)

missed_plan : (done : List Step) (name : List ℕ) → plan (done ++ Miss name ∷ Write (read_text name) ∷ []) 4
    ≡ plan_behind (done ++ Miss name ∷ []) (ending 4 (read_text name))
missed_plan done name = ap (λ (steps : List Step). plan steps 4)
    (sym (append_assoc done (Miss name ∷ []) (Write (read_text name) ∷ [])))

ends_at_read : (p : Plan) (before mid after : Progress) (name : List ℕ) (status : ℕ) → StopsAtRead p.steps name before
    mid → Counts before mid → (mid.folder.last ≡ name) × LastFailed before.folder mid.folder → after.folder
    ≡ mid.folder →
    SaysText 4 (read_text name) status mid after → RunIs p status before after
ends_at_read p before mid after name status stops counts causes same says = inr (record {
  done = stops.done;
  name = name;
  left = stops.left;
  split = stops.split;
  follows = follows_own before mid after (plan (stops.done ++ Miss name ∷ Write (read_text name) ∷ []) 4)
      (stops.done ++ Miss name ∷ []) 4 (read_text name) status (missed_plan stops.done name) stops.did counts.writes
      says;
  rose = subst (λ (f : FolderState). Rose before.folder.faults f.faults) (sym same) causes.1.rose;
  last = ap (λ (f : FolderState). f.last) same ∙ causes.0;
})

ends_cut : (p : Plan) (before mid after : Progress) (status : ℕ) → CutShort p.steps before mid
    → Rose before.sink.faults mid.sink.faults → mid.sink.faults ≤ after.sink.faults → (status ≡ 5) × Did [] mid after
    → RunIs p status before after
ends_cut p before mid after status cut rose le closes = inl (inr (inl (
  closes.0,
  record {
    done = cut.done;
    step = cut.step;
    left = cut.left;
    split = cut.split;
    front = cut.front;
    rest = cut.rest;
    cut = cut.cut;
    some = cut.some;
    did = did_by (append-nil (cut.done ++ Write cut.front ∷ [])) (did_then cut.did closes.1);
  },
  rose_later before.sink.faults mid.sink.faults after.sink.faults rose le,
)))

ends_starved : (p : Plan) (before mid after : Progress) (status : ℕ) → Starved p.steps before mid → (status ≡ 6)
    × Did [] mid after → RunIs p status before after
ends_starved p before mid after status starved closes = inl (inr (inr (
  closes.0,
  record {
    done = starved.done;
    left = starved.left;
    split = starved.split;
    whole = starved.whole;
    did = did_by (append-nil starved.done)
        (did_then starved.did closes.1);
  },
)))

-- however a run ended, it is what its plan says as far as it came
pub run_ended : (p : Plan) (before mid after : Progress) (ended : Result Bool Stop) (status : ℕ)
    → IfOk ended (λ refused. Done p refused before mid) → IfErr ended (λ stopped. Stops p stopped before mid)
    → IfErr ended (λ stopped. Causes stopped before mid) →
    Counts before mid → Counts mid after → after.folder ≡ mid.folder → Closes ended status mid after
    → RunIs p status before after
run_ended p before mid after (Ok refused) status done stops causes counts later same closes =
    inl (inl (closes.0 ∙ done.status, did_by (append-nil p.steps) (did_then done.did closes.1)))
run_ended p before mid after (Err stop.Usage) status done stops causes counts later same closes = ends_before p before
    mid after 1 _ status stops counts.writes closes
run_ended p before mid after (Err (stop.Config fault)) status done stops causes counts later same closes =
    ends_before p before mid after 2 _ status stops counts.writes closes
run_ended p before mid after (Err (stop.Script fault)) status done stops causes counts later same closes =
    ends_before p before mid after 3 _ status stops counts.writes closes
run_ended p before mid after (Err (stop.Schedule fault)) status done stops causes counts later same closes =
    ends_before p before mid after 3 _ status stops counts.writes closes
run_ended p before mid after (Err (stop.TooLong name)) status done stops causes counts later same closes =
    ends_before p before mid after 8 _ status stops counts.writes closes
run_ended p before mid after (Err (stop.CannotRead name)) status done stops causes counts later same closes =
    ends_at_read p before mid after name status stops counts causes same closes
run_ended p before mid after (Err stop.WriteFailed) status done stops causes counts later same closes =
    ends_cut p before mid after status stops causes later.writes closes
run_ended p before mid after (Err stop.OutOfMemory) status done stops causes counts later same closes = ends_starved p
    before mid after status stops closes

-- ---- closing

pub closes_says : (before after : Progress) (stopped : Stop) (status : ℕ) → is_silent stopped ≡ false
    → Says stopped status before after → Closes (Err stopped) status before after
closes_says before after stop.WriteFailed status silent says = absurd cc
closes_says before after stop.OutOfMemory status silent says = absurd cc
closes_says before after stop.Usage status silent says = says
closes_says before after (stop.Config fault) status silent says = says
closes_says before after (stop.Script fault) status silent says = says
closes_says before after (stop.Schedule fault) status silent says = says
closes_says before after (stop.CannotRead name) status silent says = says
closes_says before after (stop.TooLong name) status silent says = says
