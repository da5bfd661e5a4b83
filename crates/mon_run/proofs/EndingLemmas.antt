-- How the lines of a script end over a store, and what they then tell.
use Rattle.std.proofs.Common.{◌≡◌, ◌∙◌, ◌⊎◌, ◌||◌, inl, inr, ℕ, Bool, true, false, cond}
use Rattle.std.proofs.Common.{Option, Some, None, IfSome, List, [], ◌∷◌, ◌++◌, drop, length, take, Result, Ok, Err}
use Rattle.std.proofs.Common.{refl, sym, ap, subst, append-nil, arith}
use Rattle.std.proofs.lemmas.List.{length-map}
use Rattle.std.proofs.lemmas.List.FromFn.{length-range_with_len}
use Rattle.std.specs.List.{list_any, range_with_len}
use Rattle.history_book.specs.Histories.{AreFronts}
use Rattle.mon_config.specs.declared.config.Config.{Config}
use Rattle.mon_script.specs.Scripts.{script_in}
use Rattle.mon_script.specs.declared.faults.ScriptFault.{ScriptFault}
use Rattle.mon_script.specs.declared.script.ScriptLine.{ScriptLine}
use Rattle.mon_topo.specs.HeldHistories.{AreHeld, first_histories, first_leaf_history, first_range_history}
use Rattle.mon_topo.specs.Zones.{leaves_in, ranges_in}
use Rattle.mon_topo.specs.declared.zones.ZoneSpec.{ZoneSpec}
use Rattle.mon_value.specs.Answers.{Withholds}
use Rattle.mon_value.specs.declared.histories.Histories.{Histories}
use Rattle.mon_value.specs.declared.refusals.Refusal.{Refusal}
use Rattle.mon_value.specs.declared.refusals.Refusal.TheVariants as refusal
use Rattle.mon_run.specs.Endings.{AreNoLines, Progress, LinesTell, RunTells, ScriptTells}
use Rattle.mon_run.specs.Outside.{Files}
use Rattle.mon_run.specs.Plans.{contents_of, forms_of, left_plan, lines_by, lines_plan, parts_plan, reads_behind}
use Rattle.mon_run.specs.Plans.{script_plan, store_plan}
use Rattle.mon_run.specs.Steps.{Plan, end_status, plan, plan_behind}
use Rattle.mon_run.specs.declared.stop.Stop.{Stop}
use Rattle.mon_run.specs.declared.stop.Stop.TheVariants as stop
use Rattle.mon_run.specs.within.Lines.{LinesHalt, LinesRan, LinesStopped, ScriptEnds, TextEnds, placed_by}
use Rattle.mon_run.specs.within.Stops.{Closes, Done, Ends, Stops, script_stop}
use Rattle.mon_run.proofs.EndLemmas.{refused_script}
use Rattle.part_runs.proofs.GrownLemmas.{fronts_grown, grown_fronts, grown_none}
use Rattle.mon_run.proofs.PartLemmas.{behind_all}
use Rattle.mon_run.proofs.PlainPlans.{plain_plan}
use Rattle.mon_run.proofs.StepLemmas.{did_by, did_none}
use Rattle.run_theory.specs.Parts.{Part}
use Rattle.run_traces.specs.Headline.{RunHolds, ScriptHolds}
use Rattle.run_traces.specs.LineClaims.{AllRan, HaveGrown}
use Rattle.run_traces.specs.LineDues.{AreDue, asked_parts, is_refused, lines_status}
use Rattle.run_traces.specs.LineTexts.{line_text}
use Rattle.run_traces.specs.RanLines.{OwnPlace, RanLine, parts_of, ran_lines}
use Rattle.run_traces.specs.declared.traces.LineTrace.{LineTrace}
use Rattle.run_traces.specs.declared.line_files.LineFiles.{LineFiles}
use Rattle.standing.specs.DueLists.{standing_state}
use Rattle.running_query.proofs.GoingLemmas.{same_fronts}

-- ---- the laws of runs

abbrev pub Begun : Type 0
Begun = (config : Config) → AllRan config (first_histories config.topology) []

abbrev pub Hold : Type 0
Hold = (config : Config) (ended whole : Histories) (parts : List (Part RanLine))
    → AreFronts (first_histories config.topology) ended → AreFronts ended whole
    → AreHeld config.schemas config.topology config.range_points whole → AllRan config ended parts
    → RunHolds config ended parts

abbrev ok_of : Bool → Result Bool Stop
ok_of refused = Ok refused

abbrev err_of : Stop → Result Bool Stop
err_of stopped = Err stopped

-- ---- how many histories there are

pub first_leaves : (zones : List ZoneSpec) → length (first_histories zones).leaves ≡ length (leaves_in zones)
first_leaves zones = length-map (range_with_len 0 (length (leaves_in zones))) (first_leaf_history zones)
    ∙ length-range_with_len 0 (length (leaves_in zones))

pub first_ranges : (zones : List ZoneSpec) → length (first_histories zones).ranges ≡ length (ranges_in zones)
first_ranges zones = length-map (range_with_len 0 (length (ranges_in zones))) (first_range_history zones)
    ∙ length-range_with_len 0 (length (ranges_in zones))

-- ---- the status

refused_ran : (lines : List ScriptLine) (contents : List LineFiles) (traces : List LineTrace)
    → length contents ≡ length lines → length traces ≡ length lines
    → list_any (λ (line : RanLine). is_refused line.trace) (ran_lines lines contents traces []) ≡ list_any is_refused
    traces
refused_ran [] contents [] held same = refl
refused_ran [] contents (trace ∷ traces) held same = absurd cc
refused_ran (line ∷ lines) [] traces held same = absurd cc
refused_ran (line ∷ lines) (content ∷ contents) [] held same = absurd cc
refused_ran (line ∷ lines) (content ∷ contents) (trace ∷ traces) held same =
    ap (λ (b : Bool). is_refused trace || b)
    (refused_ran lines contents traces (omega (arith, held)) (omega (arith, same)))

status_by : (refused : Bool) → end_status refused ≡ cond refused 7 0
status_by true = refl
status_by false = refl

status_is : (lines : List ScriptLine) (contents : List LineFiles) (traces : List LineTrace) (refused : Bool)
    → length contents ≡ length lines → length traces ≡ length lines → refused ≡ list_any is_refused traces
    → end_status refused ≡ lines_status (ran_lines lines contents traces [])
status_is lines contents traces refused held same is =
    status_by refused ∙ ap (λ (b : Bool). cond b 7 0) (is ∙ sym (refused_ran lines contents traces held same))

early_as : (ended : Histories) (stopped : Stop) (known : Histories) → (stopped ≡ stop.OutOfMemory) ⊎ (known ≡ ended)
    → (err_of stopped ≡ Err stop.OutOfMemory) ⊎ (known ≡ ended)
early_as ended stopped known (inl same) = inl (ap err_of same)
early_as ended stopped known (inr same) = inr same

-- ---- all lines ran

abbrev first : Config → Histories
first config = first_histories config.topology

module _ (config : Config) (lines : List ScriptLine) (ended : Histories) (before after : Progress)
    (fresh : before.ends ≡ []) (begun : Begun) (hold : Hold)
    (sound : AreHeld config.schemas config.topology config.range_points ended)
    (dues : AreDue config.schemas (standing_state [] None) lines after.ends) where
  traces_are : (traces : List LineTrace) → after.ends ≡ before.ends ++ traces → traces ≡ after.ends
  traces_are traces ends = sym (ends ∙ ap (λ (front : List LineTrace). front ++ traces) fresh)

  -- the headline holds of the lines that ran
  holds : (reads : Files) (known : Histories) (traces : List LineTrace) (places : List (List OwnPlace))
      → traces ≡ after.ends → AreFronts known ended → HaveGrown (first config) known
      → ((parts : List (Part RanLine)) → AllRan config (first config) parts
      → AllRan config known (parts ++ asked_parts (parts_of (placed_by reads places lines traces))))
      → ScriptHolds config (contents_of (forms_of lines) reads) known lines traces
  holds reads known traces places same front grown ran = record {
    places = places;
    run = hold config known ended (asked_parts (parts_of (placed_by reads places lines traces)))
        (fronts_grown (first config) known grown) front sound (ran [] (begun config));
    dues = subst (AreDue config.schemas (standing_state [] None) lines) (sym same) dues;
  }

  module _ (ran : LinesRan config lines (first config) ended before after) where
    -- what the reads gave is what the lines' files held
    contents_are : contents_of (forms_of lines) ran.given ≡ ran.contents
    contents_are =
        (λ i. contents_of (sym (append-nil (forms_of lines)) i) (sym (append-nil ran.given) i))
        ∙ ran.have.held [] []
        ∙ append-nil ran.contents

    lines_are : (places : List (List OwnPlace))
        → placed_by ran.given places lines ran.traces ≡ ran_lines lines ran.contents ran.traces places
    lines_are places = ap (λ (contents : List LineFiles). ran_lines lines contents ran.traces places) contents_are

    all_held : length ran.contents ≡ length lines
    all_held = ran.have.count ∙ length-map lines (λ (line : ScriptLine). line.what)

    whole_plan : (status : ℕ) → lines_plan config ran.given ended status lines ran.traces
        ≡ plan_behind (ran.did ended (grown_none ended)).steps (plan [] status)
    whole_plan status =
        plain_plan config ended lines (contents_of (forms_of lines) ran.given) ran.traces ran.places
        (left_plan status (drop (length ran.traces) lines)
        (reads_behind (forms_of (take (length ran.traces) lines)) ran.given))
        ∙ (λ i. parts_plan (line_text config ended) (parts_of (lines_are ran.places i))
        (left_plan status (behind_all ran.traces lines ran.count i)
        (reads_behind (forms_of (take (length ran.traces) lines)) ran.given)))
        ∙ (ran.did ended (grown_none ended)).same (plan [] status)

    done : (refused : Bool) → refused ≡ list_any is_refused after.ends
        → Done (store_plan config ran.given (Some ended) lines after.ends) refused before after
    done refused is =
        let same : ran.traces ≡ after.ends = traces_are ran.traces ran.ends in
        let steps = (ran.did ended (grown_none ended)).steps in
        let whole = whole_plan (lines_status (lines_by config ran.given lines ran.traces)) in
        subst (λ (traces : List LineTrace). Done (store_plan config ran.given (Some ended) lines traces) refused before
        after) same
        (record {
          status = status_is lines ran.contents ran.traces refused all_held ran.count
              (is ∙ ap (list_any is_refused) (sym same))
              ∙ ap lines_status (sym (lines_are []))
              ∙ sym (ap (λ (p : Plan). p.status) whole);
          did = did_by (sym (ap (λ (p : Plan). p.steps) whole ∙ append-nil steps))
              (ran.did ended (grown_none ended)).did;
        })

    -- all lines ran
    pub script_done : (refused : Bool) → refused ≡ list_any is_refused after.ends
        → ScriptEnds config lines (Some ended) (Ok refused) before after
    script_done refused is = record {
      reads = ran.given;
      gave = ran.gave;
      ends = record { completes = done refused is; halts = tt };
      tells = subst (λ (traces : List LineTrace). LinesTell (ok_of refused ≡ Err stop.OutOfMemory) config ran.given lines
          ended traces) (traces_are ran.traces ran.ends)
          (record {
            known = ended;
            front = same_fronts ended;
            whole = inr refl;
            few = omega (arith, ran.count);
            held = sound;
            holds = holds ran.given ended ran.traces ran.places (traces_are ran.traces ran.ends) (same_fronts ended)
                ran.grown
                (λ parts all. subst (λ (one : List RanLine). AllRan config ended (parts ++ asked_parts (parts_of one)))
                (sym (lines_are ran.places)) (ran.ran parts all));
          });
    }

  -- where lines stop they stop in a plan that asks for no places
  stopped_by : {stopped : Stop} (stops : LinesStopped config lines stopped (first config) ended before after)
      → HaveGrown stops.known ended → (status : ℕ)
      → Stops (lines_plan config stops.reads ended status lines stops.traces) stopped before after
  stopped_by {stopped} stops grown status =
      subst (λ (p : Plan). Stops p stopped before after)
      (sym (plain_plan config ended lines (contents_of (forms_of lines) stops.reads) stops.traces stops.places
      (left_plan status (drop (length stops.traces) lines)
      (reads_behind (forms_of (take (length stops.traces) lines)) stops.reads))))
      (stops.stops ended grown status)

  -- a line stopped the run
  pub script_halted : (stopped : Stop) → length ended.leaves ≡ length (first config).leaves
      → length ended.ranges ≡ length (first config).ranges
      → LinesHalt config lines (first config) ended stopped before after
      → ScriptEnds config lines (Some ended) (Err stopped) before after
  script_halted stopped leaves ranges halts =
      let stops = halts.told in
      record {
        reads = stops.reads;
        gave = stops.gave;
        ends = record {
          completes = tt;
          halts = record {
            stops = subst (λ (traces : List LineTrace). Stops (store_plan config stops.reads (Some ended) lines traces)
                stopped before after) (traces_are stops.traces stops.ends)
                (stopped_by stops (grown_fronts stops.known ended stops.front (leaves ∙ sym stops.grown.leaves)
                (ranges ∙ sym stops.grown.ranges)) (lines_status (lines_by config stops.reads lines stops.traces)));
            causes = halts.causes;
          };
        };
        tells = subst (λ (traces : List LineTrace). LinesTell (err_of stopped ≡ Err stop.OutOfMemory) config stops.reads
            lines ended traces) (traces_are stops.traces stops.ends)
            (record {
              known = stops.known;
              front = stops.front;
              whole = early_as ended stopped stops.known stops.whole;
              few = stops.few;
              held = sound;
              holds = holds stops.reads stops.known stops.traces stops.places (traces_are stops.traces stops.ends)
                  stops.front stops.grown stops.ran;
            });
      }

-- ---- no store was made

pub script_unmade : (config : Config) (lines : List ScriptLine) (known : Option Histories) {before : Progress}
    (after : Progress) → known ≡ None → after ≡ before
    → ScriptEnds config lines known (Err stop.OutOfMemory) before after
script_unmade config lines known {before} after none same =
    subst (λ (k : Option Histories). ScriptEnds config lines k (Err stop.OutOfMemory) before after) (sym none)
    (subst (λ (p : Progress). ScriptEnds config lines None (Err stop.OutOfMemory) before p) (sym same)
    (record {
      reads = [];
      gave = sym (append-nil before.folder.gave);
      ends = record {
        completes = tt;
        halts = record {
          stops = record { done = []; left = []; split = refl; whole = tt; did = did_none before };
          causes = tt;
        };
      };
      tells = tt;
    }))

-- ---- texts

pub text_spelled : (config : Config) (text : List ℕ) (lines : List ScriptLine) (known : Option Histories)
    (ended : Result Bool Stop) {before : Progress} (after : Progress) → script_in config.topology text ≡ Ok lines
    → ScriptEnds config lines known ended before after → TextEnds config text known ended before after
text_spelled config text lines known ended {before} after spelled script = record {
  reads = script.reads;
  gave = script.gave;
  ends = subst (λ (read : Result (List ScriptLine) ScriptFault).
      Ends (script_plan config script.reads known after.ends read) ended before after) (sym spelled) script.ends;
  tells = by known script.tells;
}
  where
    by : (known : Option Histories)
        → IfSome known
        (λ histories. LinesTell (ended ≡ Err stop.OutOfMemory) config script.reads lines histories after.ends)
        → IfSome known
        (λ histories. ScriptTells config text (ended ≡ Err stop.OutOfMemory) script.reads histories after.ends)
    by None tells = tt
    by (Some histories) tells = record { script = lines; script_is = spelled; lines = tells }

-- where no store was made, a script's plan has no line
none_stored : (config : Config) (traces : List LineTrace) (read : Result (List ScriptLine) ScriptFault)
    → AreNoLines (script_plan config [] None traces read).steps
none_stored config traces (Ok script) = tt
none_stored config traces (Err fault) = (refl, tt)

pub text_refused : (config : Config) (text : List ℕ) (fault : Refusal ScriptFault) (known : Option Histories)
    {before : Progress} (after : Progress) → known ≡ None → after ≡ before
    → Withholds fault (script_in config.topology text)
    → TextEnds config text known (Err (script_stop fault)) before after
text_refused config text fault known {before} after none same withheld =
    subst (λ (k : Option Histories). TextEnds config text k (Err (script_stop fault)) before after) (sym none)
    (subst (λ (p : Progress). TextEnds config text None (Err (script_stop fault)) before p) (sym same)
    (record {
      reads = [];
      gave = sym (append-nil before.folder.gave);
      ends = record {
        completes = tt;
        halts = record {
          stops = stopped fault withheld;
          causes = refused_script fault before before;
        };
      };
      tells = tt;
    }))
  where
    stopped : (why : Refusal ScriptFault) → Withholds why (script_in config.topology text)
        → Stops (script_plan config [] None before.ends (script_in config.topology text)) (script_stop why) before
        before
    stopped (refusal.Fault why) is = record {
      done = [];
      split = ap (script_plan config [] None before.ends) is;
      did = did_none before;
    }
    stopped refusal.OutOfMemory is = record {
      done = [];
      left = (script_plan config [] None before.ends (script_in config.topology text)).steps;
      split = refl;
      whole = none_stored config before.ends (script_in config.topology text);
      did = did_none before;
    }

-- ---- runs

lines_tell : {early other : Type 0} {config : Config} {reads : Files} {script : List ScriptLine} {ended : Histories}
    {traces : List LineTrace} → (early → other) → LinesTell early config reads script ended traces
    → LinesTell other config reads script ended traces
lines_tell {early} {other} {config} {reads} {script} {ended} as_other tells = record {
  known = tells.known;
  front = tells.front;
  whole = elim tells.whole [
    | inl was ↦ inl (as_other was)
    | inr same ↦ inr same
  ];
  few = tells.few;
  held = tells.held;
  holds = tells.holds;
}

-- where memory ran out, the status says so
pub run_tells : {early other : Type 0} {words : List (List ℕ)} {reads : Files} {ended : Histories}
    {traces : List LineTrace} → (early → other) → RunTells words early reads ended traces
    → RunTells words other reads ended traces
run_tells as_other tells = record {
  what = tells.what;
  command_is = tells.command_is;
  command = record {
    verb_is = tells.command.verb_is;
    config = tells.command.config;
    config_is = tells.command.config_is;
    script = record {
      script = tells.command.script.script;
      script_is = tells.command.script.script_is;
      lines = lines_tell as_other tells.command.script.lines;
    };
  };
}

pub starved_status : (ended : Result Bool Stop) (status : ℕ) (before after : Progress)
    → Closes ended status before after → ended ≡ Err stop.OutOfMemory → status ≡ 6
starved_status ended status before after closes is =
    (subst (λ (e : Result Bool Stop). Closes e status before after) is closes).0
