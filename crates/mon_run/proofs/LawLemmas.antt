-- What the status of a run says: which plans end with it, and what is written by then.
use Rattle.std.proofs.Common.{◌≡◌, ◌∙◌, ◌⊎◌, ◌≤◌, inl, inr, ℕ, Bool, true, false, cond, List, [], ◌∷◌, ◌++◌, length, map}
use Rattle.std.proofs.Common.{Option, Some, None, Result, Ok, Err, drop, take, refl, sym, ap, subst, append-nil, append_assoc}
use Rattle.std.proofs.Common.{IfSome, arith, suc, zero}
use Rattle.std.specs.List.{flat_map, list_any}
use Rattle.std.proofs.lemmas.Grind.{flat_map-append}
use Rattle.mon_config.specs.Configs.{config_in}
use Rattle.mon_config.specs.declared.config.Config.{Config}
use Rattle.mon_config.specs.declared.faults.ConfigFault.{ConfigFault}
use Rattle.mon_script.specs.Scripts.{script_in}
use Rattle.mon_script.specs.declared.faults.ScriptFault.{ScriptFault}
use Rattle.mon_script.specs.declared.forms.LineForm.{LineForm}
use Rattle.mon_script.specs.declared.script.ScriptLine.{ScriptLine}
use Rattle.mon_value.specs.declared.histories.Histories.{Histories}
use Rattle.mon_run.specs.Endings.{Did, Progress, RunIs, Runs, RunTells, end_in, read_in, text_of_step}
use Rattle.mon_run.specs.Laws.{CameToItsEnd, EndsAreReached, WasNone, WordsAreNone, lines_text}
use Rattle.mon_run.specs.Outside.{Files, written_then}
use Rattle.mon_run.specs.Plans.{Came, Command, behind_first, block_steps, came, command_of, command_plan, config_plan}
use Rattle.mon_run.specs.Plans.{contents_of, file_plan, first_content, forms_of, left_plan, lines_by, lines_plan, lines_read}
use Rattle.mon_run.specs.Plans.{made_number, named_read, next_forms, number_plan, one_read, part_plan, parts_plan}
use Rattle.mon_run.specs.Plans.{reads_behind}
use Rattle.mon_run.specs.Plans.{run_plan, schedule_end, schedule_plan, script_plan, seek_one, sought, store_plan}
use Rattle.mon_run.specs.Steps.{Ask, End, Plan, Print, Step, Write, ending, is_too_long, next_read, plan, plan_behind}
use Rattle.mon_run.specs.Steps.{read_plan, too_long_text, usage_text}
use Rattle.mon_run.specs.declared.words.Verb.{Verb}
use Rattle.mon_run.specs.declared.words.Verb.TheVariants as verb
use Rattle.mon_script.specs.Blocks.{mark_of}
use Rattle.run_theory.specs.Parts.{Alone, Beside, Part, all_lines, lines_of}
use Rattle.run_traces.specs.LineDues.{is_refused, lines_status}
use Rattle.run_traces.specs.LineTexts.{line_text}
use Rattle.run_traces.specs.LineAsks.{FileNames, files_of}
use Rattle.run_traces.specs.RanLines.{RanLine, parts_of}
use Rattle.run_traces.specs.declared.traces.LineTrace.{LineTrace}
use Rattle.run_traces.specs.declared.line_files.LineFiles.{LineFiles}
use Rattle.schedule_lines.specs.declared.calls.ScheduleFault.{ScheduleFault}
use Rattle.weave_core.specs.Schedules.{Printed}

abbrev texts_in : List Step → List ℕ
texts_in = flat_map text_of_step

-- ---- plans whose status is neither that of a file too long nor of memory

module _ (P : ℕ → Type 0) (not_long : P 8 → ⊥) (not_starved : P 6 → ⊥) where
  -- a plan goes on as another one, behind these texts
  record GoesOn (whole : Plan) (texts : List ℕ) (rest : Plan) : Type 0 where
    same : rest.status ≡ whole.status
    texts_are : texts_in whole.steps ≡ texts ++ texts_in rest.steps

  chosen : (b : Bool) (name : List ℕ) (rest : Plan) → P (cond b (ending 8 (too_long_text name)) rest).status
      → GoesOn (cond b (ending 8 (too_long_text name)) rest) [] rest
  chosen true name rest is = absurd (not_long is)
  chosen false name rest is = record { same = refl; texts_are = refl }

  read_on : (name content : List ℕ) (rest : Plan) → P (read_plan name content rest).status
      → GoesOn (read_plan name content rest) [] rest
  read_on name content rest is =
      let on = chosen (is_too_long content) name rest is in
      record { same = on.same; texts_are = on.texts_are }

  one_on : (name : Option (List ℕ)) (content : List ℕ) (rest : Plan) → P (one_read name content rest).status
      → GoesOn (one_read name content rest) [] rest
  one_on None content rest is = record { same = refl; texts_are = refl }
  one_on (Some name) content rest is = read_on name content rest is

  named_on : (names : FileNames) (content : LineFiles) (rest : Plan) → P (named_read names content rest).status
      → GoesOn (named_read names content rest) [] rest
  named_on names content rest is =
      let first = one_on names.first content.first (one_read names.second content.second rest) is in
      let second = one_on names.second content.second rest (subst P (sym first.same) is) in
      record { same = second.same ∙ first.same; texts_are = first.texts_are ∙ second.texts_are }

  lines_on : (forms : List LineForm) (contents : List LineFiles) (rest : Plan)
      → P (lines_read forms contents rest).status → GoesOn (lines_read forms contents rest) [] rest
  lines_on [] contents rest is = record { same = refl; texts_are = refl }
  lines_on (what ∷ forms) [] rest is = record { same = refl; texts_are = refl }
  lines_on (what ∷ forms) (content ∷ contents) rest is =
      let first = named_on (files_of what) content (lines_read forms contents rest) is in
      let second = lines_on forms contents rest (subst P (sym first.same) is) in
      record { same = second.same ∙ first.same; texts_are = first.texts_are ∙ second.texts_are }

  ends_silent : (lines : List RanLine) (rest : List Step)
      → texts_in (map (λ line. End line.trace) lines ++ rest) ≡ texts_in rest
  ends_silent [] rest = refl
  ends_silent (line ∷ lines) rest = ends_silent lines rest

  prints_texts : (text : RanLine → List ℕ) (lines : List RanLine) (rest : List Step)
      → texts_in (map (λ line. Print (text line)) lines ++ rest) ≡ flat_map text lines ++ texts_in rest
  prints_texts text [] rest = refl
  prints_texts text (line ∷ lines) rest =
      ap (λ (more : List ℕ). text line ++ more) (prints_texts text lines rest)
      ∙ sym (append_assoc (text line) (flat_map text lines) (texts_in rest))

  block_texts : (text : RanLine → List ℕ) (lines : List RanLine) (rest : List Step)
      → texts_in (block_steps text lines ++ rest) ≡ flat_map text lines ++ texts_in rest
  block_texts text lines rest =
      ap texts_in (append_assoc (map (λ line. End line.trace) lines) _ rest)
      ∙ ends_silent lines _
      ∙ prints_texts text lines rest

  part_on : (text : RanLine → List ℕ) (part : Part RanLine) (rest : Plan) → P (part_plan text part rest).status
      → GoesOn (part_plan text part rest) (flat_map text (lines_of part)) rest
  part_on text (Alone line) rest is =
      let on = named_on (files_of line.what) line.content
      (plan_behind (End line.trace ∷ Print (text line) ∷ []) rest) is in
      record {
        same = on.same;
        texts_are = on.texts_are ∙ ap (λ (front : List ℕ). front ++ texts_in rest.steps) (sym (append-nil (text line)));
      }
  part_on text (Beside lines) rest is =
      let on = lines_on (map (λ line. line.what) lines) (map (λ line. line.content) lines)
      (plan_behind (block_steps text lines) rest) is in
      record { same = on.same; texts_are = on.texts_are ∙ block_texts text lines rest.steps }

  parts_on : (text : RanLine → List ℕ) (parts : List (Part RanLine)) (rest : Plan)
      → P (parts_plan text parts rest).status
      → GoesOn (parts_plan text parts rest) (flat_map text (all_lines parts)) rest
  parts_on text [] rest is = record { same = refl; texts_are = refl }
  parts_on text (part ∷ parts) rest is =
      let first = part_on text part (parts_plan text parts rest) is in
      let second = parts_on text parts rest (subst P (sym first.same) is) in
      record {
        same = second.same ∙ first.same;
        texts_are = first.texts_are
            ∙ ap (λ (more : List ℕ). flat_map text (lines_of part) ++ more) second.texts_are
            ∙ sym (append_assoc (flat_map text (lines_of part)) (flat_map text (all_lines parts)) (texts_in rest.steps))
            ∙ ap (λ (front : List ℕ). front ++ texts_in rest.steps)
            (sym (flat_map-append text (lines_of part) (all_lines parts)));
      }

  -- where a file is to be read, one was
  sought_by : (name : Option (List ℕ)) (reads : Files) (rest : Files → Plan)
      → ((more : Files) → P (rest more).status → ⊥) → P (seek_one name reads rest).status → ⊥
  sought_by None reads rest none is = none reads is
  sought_by (Some name) [] rest none is = not_starved is
  sought_by (Some name) (read ∷ reads) rest none is =
      none reads (subst P (sym (read_on name read.1 (rest reads) is).same) is)

  never_sought : (forms : List LineForm) (reads : Files) → P (sought forms reads).status → ⊥
  never_sought [] reads is = not_starved is
  never_sought (what ∷ forms) reads is =
      sought_by (files_of what).first reads (λ left. seek_one (files_of what).second left (sought forms))
      (λ left. sought_by (files_of what).second left (sought forms) (never_sought forms)) is

  none_left : (status : ℕ) (lines : List ScriptLine) (reads : Files) → P (left_plan status lines reads).status
      → lines ≡ []
  none_left status [] reads is = refl
  none_left status (line ∷ lines) reads is =
      absurd (never_sought (next_forms (mark_of line.what) line.what lines) reads is)

  -- all lines of a script ran
  record AllRan (config : Config) (seen : Histories) (reads : Files) (script : List ScriptLine)
      (traces : List LineTrace) (p : Plan) : Type 0 where
    left : drop (length traces) script ≡ []
    status_is : lines_status (lines_by config reads script traces) ≡ p.status
    texts_are : texts_in p.steps ≡ lines_text config seen (lines_by config reads script traces)

  script_on : (config : Config) (seen : Histories) (reads : Files) (script : List ScriptLine)
      (traces : List LineTrace) → P (store_plan config reads (Some seen) script traces).status
      → AllRan config seen reads script traces (store_plan config reads (Some seen) script traces)
  script_on config seen reads script traces is =
      let ran = lines_by config reads script traces in
      let behind = reads_behind (forms_of (take (length traces) script)) reads in
      let rest = left_plan (lines_status ran) (drop (length traces) script) behind in
      let on = parts_on (line_text config seen) (parts_of ran) rest is in
      let left = none_left (lines_status ran) (drop (length traces) script) behind (subst P (sym on.same) is) in
      record {
        left = left;
        status_is = sym (ap (λ (lines : List ScriptLine). (left_plan (lines_status ran) lines behind).status) left)
            ∙ on.same;
        texts_are = on.texts_are
            ∙ ap (λ (lines : List ScriptLine). lines_text config seen ran
            ++ texts_in (left_plan (lines_status ran) lines behind).steps) left
            ∙ append-nil (lines_text config seen ran);
      }

-- ---- the run of a script that came to its end

abbrev IsWhole : ℕ → Type 0
IsWhole status = (status ≡ 0) ⊎ (status ≡ 7)

is_not : (n : ℕ) → ((n ≡ 0) → ⊥) → ((n ≡ 7) → ⊥) → IsWhole n → ⊥
is_not n first second (inl is) = first is
is_not n first second (inr is) = second is

not_eight : IsWhole 8 → ⊥
not_eight = is_not 8 (λ e. absurd cc) (λ e. absurd cc)

not_six : IsWhole 6 → ⊥
not_six = is_not 6 (λ e. absurd cc) (λ e. absurd cc)

not_five : IsWhole 5 → ⊥
not_five = is_not 5 (λ e. absurd cc) (λ e. absurd cc)

not_four : IsWhole 4 → ⊥
not_four = is_not 4 (λ e. absurd cc) (λ e. absurd cc)

not_three : IsWhole 3 → ⊥
not_three = is_not 3 (λ e. absurd cc) (λ e. absurd cc)

not_two : IsWhole 2 → ⊥
not_two = is_not 2 (λ e. absurd cc) (λ e. absurd cc)

-- a run whose status is none of those that cut it short did all of its plan
record DidAll (p : Plan) (status : ℕ) (before after : Progress) : Type 0 where
  same : status ≡ p.status
  did : Did p.steps before after

did_all : (P : ℕ → Type 0) → (P 4 → ⊥) → (P 5 → ⊥) → (P 6 → ⊥) → (p : Plan) (status : ℕ) (before after : Progress)
    → P status → RunIs p status before after → DidAll p status before after
did_all P four five six p status before after is (inl (inl all)) = record { same = all.0; did = all.1 }
did_all P four five six p status before after is (inl (inr (inl cut))) = absurd (five (subst P cut.0 is))
did_all P four five six p status before after is (inl (inr (inr starved))) = absurd (six (subst P starved.0 is))
did_all P four five six p status before after is (inr misses) = elim misses.follows [
  | inl all ↦ absurd (four (subst P all.0 is))
  | inr (inl cut) ↦ absurd (five (subst P cut.0 is))
  | inr (inr starved) ↦ absurd (six (subst P starved.0 is))
]

-- words that are a command ask for no number
none_made : (words : List (List ℕ)) (what : Command) → command_of words ≡ Some what → made_number words ≡ None
none_made [] what is = absurd cc
none_made (a ∷ []) what is = absurd cc
none_made (a ∷ b ∷ []) what is = absurd cc
none_made (a ∷ b ∷ d ∷ []) what is = refl
none_made (a ∷ b ∷ d ∷ e ∷ rest) what is = absurd cc

module _ (status : ℕ) (whole : IsWhole status) where
  -- where no store was made, no plan comes to an end
  unmade_script : (config : Config) (reads : Files) (traces : List LineTrace)
      (read : Result (List ScriptLine) ScriptFault) → status ≡ (script_plan config reads None traces read).status → ⊥
  unmade_script config reads traces (Ok script) is = not_six (subst IsWhole is whole)
  unmade_script config reads traces (Err fault) is = not_three (subst IsWhole is whole)

  unmade_config : (of : Came) (what : Command) (read : Result Config ConfigFault) (reads : Files)
      → of.ended ≡ None → what.verb ≡ verb.Run → status ≡ (config_plan of what read reads).status → ⊥
  unmade_config of what (Err fault) reads none runs is = not_two (subst IsWhole is whole)
  unmade_config of what (Ok config) [] none runs is = not_six (subst IsWhole is whole)
  unmade_config of what (Ok config) (file ∷ reads) none runs is =
      let rest = file_plan of config what.verb file.1 reads in
      let on = read_on IsWhole not_eight not_six what.file file.1 rest (subst IsWhole is whole) in
      unmade_script config reads of.traces (script_in config.topology file.1)
      (is ∙ sym on.same
      ∙ ap (λ (v : Verb). (file_plan of config v file.1 reads).status) runs
      ∙ ap (λ (e : Option Histories). (script_plan config reads e of.traces (script_in config.topology file.1)).status)
      none)

  unmade : (of : Came) (what : Command) (reads : Files) → of.ended ≡ None → what.verb ≡ verb.Run
      → status ≡ (command_plan of reads (Some what)).status → ⊥
  unmade of what [] none runs is = not_six (subst IsWhole is whole)
  unmade of what (file ∷ reads) none runs is =
      let rest = config_plan of what (config_in file.1) reads in
      let on = read_on IsWhole not_eight not_six what.config file.1 rest (subst IsWhole is whole) in
      unmade_config of what (config_in file.1) reads none runs (is ∙ sym on.same)

  -- where one was, the script is the second file, under the first
  made_end : (of : Came) (what : Command) (seen : Histories) (config : Config) (script : List ScriptLine) (reads : Files)
      → of.ended ≡ Some seen → what.verb ≡ verb.Run → config_in (first_content reads) ≡ Ok config
      → script_in config.topology (first_content (behind_first reads)) ≡ Ok script
      → status ≡ (command_plan of reads (Some what)).status
      → AllRan IsWhole not_eight not_six config seen (behind_first (behind_first reads)) script of.traces
      (command_plan of reads (Some what))
  made_end of what seen config script [] made runs first second is = absurd (not_six (subst IsWhole is whole))
  made_end of what seen config script (file ∷ []) made runs first second is =
      let rest = config_plan of what (config_in file.1) [] in
      let on = read_on IsWhole not_eight not_six what.config file.1 rest (subst IsWhole is whole) in
      absurd (not_six (subst IsWhole (is ∙ sym on.same
      ∙ ap (λ answer. (config_plan of what answer []).status) first) whole))
  made_end of what seen config script (file ∷ other ∷ reads) made runs first second is =
      let rest = config_plan of what (config_in file.1) (other ∷ reads) in
      let on = read_on IsWhole not_eight not_six what.config file.1 rest (subst IsWhole is whole) in
      let more = read_plan what.file other.1 (file_plan of config what.verb other.1 reads) in
      let then : rest ≡ more = ap (λ answer. config_plan of what answer (other ∷ reads)) first in
      let there : IsWhole more.status = subst IsWhole (is ∙ sym on.same ∙ ap (λ (p : Plan). p.status) then) whole in
      let next = read_on IsWhole not_eight not_six what.file other.1 (file_plan of config what.verb other.1 reads) there in
      let last : file_plan of config what.verb other.1 reads ≡ store_plan config reads (Some seen) script of.traces =
      ap (λ (v : Verb). file_plan of config v other.1 reads) runs
      ∙ ap (script_plan config reads of.ended of.traces) second
      ∙ ap (λ (e : Option Histories). store_plan config reads e script of.traces) made in
      let all = script_on IsWhole not_eight not_six config seen reads script of.traces
      (subst IsWhole (ap (λ (p : Plan). p.status) last) (subst IsWhole (sym next.same) there)) in
      record {
        left = all.left;
        status_is = all.status_is ∙ ap (λ (p : Plan). p.status) (sym last) ∙ next.same
            ∙ ap (λ (p : Plan). p.status) (sym then) ∙ on.same;
        texts_are = on.texts_are ∙ ap (λ (p : Plan). texts_in p.steps) then ∙ next.texts_are
            ∙ ap (λ (p : Plan). texts_in p.steps) last ∙ all.texts_are;
      }

no_fewer : {X : Type 0} (count : ℕ) (lines : List X) → drop count lines ≡ [] → length lines ≤ count
no_fewer count [] none = omega arith
no_fewer zero (line ∷ lines) none = absurd cc
no_fewer (suc count) (line ∷ lines) none = let rest = no_fewer count lines none in omega (arith, rest)

pub end_reached : EndsAreReached
end_reached words what status ended before after is runs fresh ran whole =
    by ended refl
  where
    of : Came
    of = came ran.woven ended after.ends

    planned : run_plan of ran.reads words ≡ command_plan of ran.reads (Some what)
    planned = ap (λ (n : Option ℕ). number_plan of ran.reads n (command_of words)) (none_made words what is)
        ∙ ap (command_plan of ran.reads) is

    done : DidAll (run_plan of ran.reads words) status before after
    done = did_all IsWhole not_four not_five not_six (run_plan of ran.reads words) status before after whole ran.is

    there : status ≡ (command_plan of ran.reads (Some what)).status
    there = done.same ∙ ap (λ (p : Plan). p.status) planned

    reached : (seen : Histories) → ended ≡ Some seen → RunTells words (status ≡ 6) ran.reads seen after.ends
        → CameToItsEnd status ended before after
    reached seen made tells =
        let script = tells.command.script in
        let all = made_end status whole of what seen tells.command.config script.script ran.reads made runs
        tells.command.config_is script.script_is there in
        let many = no_fewer (length after.ends) script.script all.left in
        record {
          reads = ran.reads;
          gave = ran.gave;
          config = tells.command.config;
          config_is = tells.command.config_is;
          script = script.script;
          script_is = script.script_is;
          seen = seen;
          ended_is = made;
          each = omega (arith, script.lines.few, many);
          wrote = done.did.wrote ∙ ap (λ (text : List ℕ). written_then text before.sink.written)
              (ap (λ (p : Plan). texts_in p.steps) planned ∙ all.texts_are);
          status_is = there ∙ sym all.status_is;
        }

    by : (e : Option Histories) → ended ≡ e → CameToItsEnd status ended before after
    by None none = absurd (unmade status whole of what ran.reads none runs there)
    by (Some seen) made = reached seen made
        (subst (λ (e : Option Histories). IfSome e (λ h. RunTells words (status ≡ 6) ran.reads h after.ends)) made ran.holds)

-- ---- words that are none

abbrev IsOne : ℕ → Type 0
IsOne status = status ≡ 1

lines_status_one : (b : Bool) → IsOne (cond b 7 0) → ⊥
lines_status_one true is = absurd cc
lines_status_one false is = absurd cc

store_one : (config : Config) (reads : Files) (ended : Option Histories) (traces : List LineTrace)
    (read : Result (List ScriptLine) ScriptFault) → IsOne (script_plan config reads ended traces read).status → ⊥
store_one config reads ended traces (Err fault) is = absurd cc
store_one config reads None traces (Ok script) is = absurd cc
store_one config reads (Some seen) traces (Ok script) is =
    let all = script_on IsOne (λ e. absurd cc) (λ e. absurd cc) config seen reads script traces is in
    lines_status_one (list_any (λ (line : RanLine). is_refused line.trace) (lines_by config reads script traces))
    (all.status_is ∙ is)

schedule_one : (woven : Option Printed) → IsOne (schedule_plan woven).status → ⊥
schedule_one None is = absurd cc
schedule_one (Some woven) is = by woven.fault is
  where
    by : (fault : Option ScheduleFault) → IsOne (schedule_end fault).status → ⊥
    by None is = absurd cc
    by (Some fault) is = absurd cc

file_one : (of : Came) (config : Config) (what : Verb) (content : List ℕ) (reads : Files)
    → IsOne (file_plan of config what content reads).status → ⊥
file_one of config verb.Run content reads is =
    store_one config reads of.ended of.traces (script_in config.topology content) is
file_one of config verb.Weave content reads is = schedule_one of.woven is

config_one : (of : Came) (what : Command) (read : Result Config ConfigFault) (reads : Files)
    → IsOne (config_plan of what read reads).status → ⊥
config_one of what (Err fault) reads is = absurd cc
config_one of what (Ok config) [] is = absurd cc
config_one of what (Ok config) (file ∷ reads) is =
    let on = read_on IsOne (λ e. absurd cc) (λ e. absurd cc) what.file file.1
    (file_plan of config what.verb file.1 reads) is in
    file_one of config what.verb file.1 reads (on.same ∙ is)

command_one : (of : Came) (what : Command) (reads : Files) → IsOne (command_plan of reads (Some what)).status → ⊥
command_one of what [] is = absurd cc
command_one of what (file ∷ reads) is =
    let on = read_on IsOne (λ e. absurd cc) (λ e. absurd cc) what.config file.1
    (config_plan of what (config_in file.1) reads) is in
    config_one of what (config_in file.1) reads (on.same ∙ is)

pub words_none : WordsAreNone
words_none words ended before after ran = by (made_number words) refl (command_of words) refl
  where
    of : Came
    of = came ran.woven ended after.ends

    done : DidAll (run_plan of ran.reads words) 1 before after
    done = did_all IsOne (λ e. absurd cc) (λ e. absurd cc) (λ e. absurd cc) (run_plan of ran.reads words) 1 before after
        refl ran.is

    planned : (n : Option ℕ) → made_number words ≡ n → (c : Option Command) → command_of words ≡ c
        → run_plan of ran.reads words ≡ number_plan of ran.reads n c
    planned n number c command =
        ap (λ (m : Option ℕ). number_plan of ran.reads m (command_of words)) number
        ∙ ap (number_plan of ran.reads n) command

    by : (n : Option ℕ) → made_number words ≡ n → (c : Option Command) → command_of words ≡ c → WasNone words before after
    by (Some number) is c command =
        let same : 1 ≡ 0 = done.same ∙ ap (λ (p : Plan). p.status) (planned (Some number) is c command) in
        absurd (omega (arith, same))
    by None number (Some what) is =
        absurd (command_one of what ran.reads
        (sym (done.same ∙ ap (λ (p : Plan). p.status) (planned None number (Some what) is))))
    by None number None command =
        let did : Did (Write usage_text ∷ []) before after =
        subst (λ (p : Plan). Did p.steps before after) (planned None number None command) done.did in
        record {
          number = number;
          command = command;
          asked = did.asked ∙ append-nil before.folder.asked;
          ends = did.ends ∙ append-nil before.ends;
          wrote = did.wrote ∙ ap (λ (text : List ℕ). written_then text before.sink.written) (append-nil usage_text);
        }
