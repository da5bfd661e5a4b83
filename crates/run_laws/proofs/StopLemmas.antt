-- Each plan of a run ends with a file that is too long, or with another status than its own and that of a failed read.
use Rattle.std.proofs.Common.{◌≡◌, ◌∙◌, ◌⊎◌, inl, inr, ℕ, nat_eq, Bool, true, false, ◌||◌, cond, List, [], ◌∷◌, ◌++◌, map}
use Rattle.std.proofs.Common.{Option, Some, None, Result, Ok, Err, drop, length, take, refl, sym, ap, subst, append-nil}
use Rattle.std.proofs.Common.{append_assoc, arith}
use Rattle.std.specs.Prelude.{codes, option_map}
use Rattle.std.specs.List.{flat_map, list_any}
use Rattle.std.proofs.lemmas.Bool.{false≢true}
use Rattle.std.proofs.lemmas.Grind.{flat_map-append}
use Rattle.mon_config.specs.Configs.{config_in}
use Rattle.mon_config.specs.declared.config.Config.{Config}
use Rattle.mon_config.specs.declared.faults.ConfigFault.{ConfigFault}
use Rattle.mon_script.specs.Blocks.{mark_of}
use Rattle.mon_script.specs.Scripts.{script_in}
use Rattle.mon_script.specs.declared.faults.ScriptFault.{ScriptFault}
use Rattle.mon_script.specs.declared.forms.LineForm.{LineForm}
use Rattle.mon_script.specs.declared.script.ScriptLine.{ScriptLine}
use Rattle.mon_value.specs.declared.histories.Histories.{Histories}
use Rattle.mon_run.specs.Endings.{Did, Progress, RunIs, given_in, read_in, text_of_step}
use Rattle.mon_run.specs.Outside.{Files, asking, written_then}
use Rattle.mon_value.specs.Same.{same_text}
use Rattle.mon_run.specs.Plans.{Came, Command, block_steps, came, command, command_of, command_plan, config_plan, file_plan}
use Rattle.mon_run.specs.Plans.{forms_of, left_plan, lines_by, lines_read, made_number, named_read, next_forms}
use Rattle.mon_run.specs.Plans.{number_plan, part_plan, parts_plan, reads_behind, run_plan, schedule_end, schedule_plan}
use Rattle.mon_run.specs.Plans.{one_read as named_one, script_plan, seek_one, sought, store_plan, verb_named}
use Rattle.mon_run.specs.Steps.{Ask, End, Miss, Plan, Print, Step, Write, ending, is_too_long, plan_behind}
use Rattle.mon_run.specs.Steps.{read_plan, read_text, too_long_text}
use Rattle.mon_run.specs.declared.outside.folder.Asked.{Asked}
use Rattle.run_theory.specs.Parts.{Alone, Beside, Part}
use Rattle.run_traces.specs.LineAsks.{FileNames, files_of}
use Rattle.run_traces.specs.declared.line_files.LineFiles.{LineFiles}
use Rattle.run_traces.specs.LineDues.{is_refused, lines_status}
use Rattle.run_traces.specs.LineTexts.{line_text}
use Rattle.run_traces.specs.RanLines.{RanLine, parts_of}
use Rattle.run_traces.specs.declared.traces.LineTrace.{LineTrace}
use Rattle.schedule_lines.specs.declared.calls.ScheduleFault.{ScheduleFault}
use Rattle.weave_core.specs.Schedules.{Printed}
use Rattle.run_laws.specs.Stops.{CouldNotRead, FilesTooLong, ReadsFailed, WasTooLong}

-- the statuses of plans that end with no file too long
abbrev is_calm : ℕ → Bool
is_calm n = nat_eq n 0 || (nat_eq n 1 || (nat_eq n 2 || (nat_eq n 3 || (nat_eq n 6 || nat_eq n 7))))

record EndsLong (p : Plan) : Type 0 where
  pub front : List Step
  pub name : List ℕ
  pub content : List ℕ
  pub long : is_too_long content ≡ true
  pub steps_are : p.steps ≡ front ++ Ask name content ∷ Write (too_long_text name) ∷ []

abbrev Ends : Plan → Type 0
Ends p = (is_calm p.status ≡ true) ⊎ ((p.status ≡ 8) × EndsLong p)

-- ---- plans

behind : (steps : List Step) (p : Plan) → Ends p → Ends (plan_behind steps p)
behind steps p (inl calm) = inl calm
behind steps p (inr long) = inr (
  long.0,
  record {
    front = steps ++ long.1.front;
    name = long.1.name;
    content = long.1.content;
    long = long.1.long;
    steps_are = ap (λ (more : List Step). steps ++ more) long.1.steps_are
        ∙ sym (append_assoc steps long.1.front
        (Ask long.1.name long.1.content ∷ Write (too_long_text long.1.name) ∷ []));
  },
)

read_by : (b : Bool) (name content : List ℕ) (rest : Plan) → is_too_long content ≡ b → Ends rest
    → Ends (plan_behind (Ask name content ∷ []) (cond b (ending 8 (too_long_text name)) rest))
read_by true name content rest long ends =
    inr (refl, record { front = []; name = name; content = content; long = long; steps_are = refl })
read_by false name content rest long ends = behind (Ask name content ∷ []) rest ends

one_read : (name content : List ℕ) (rest : Plan) → Ends rest → Ends (read_plan name content rest)
one_read name content rest ends = read_by (is_too_long content) name content rest refl ends

one_named : (name : Option (List ℕ)) (content : List ℕ) (rest : Plan) → Ends rest
    → Ends (named_one name content rest)
one_named None content rest ends = ends
one_named (Some name) content rest ends = one_read name content rest ends

both_named : (names : FileNames) (content : LineFiles) (rest : Plan) → Ends rest → Ends (named_read names content rest)
both_named names content rest ends =
    one_named names.first content.first (named_one names.second content.second rest)
    (one_named names.second content.second rest ends)

all_read : (forms : List LineForm) (contents : List LineFiles) (rest : Plan) → Ends rest
    → Ends (lines_read forms contents rest)
all_read [] contents rest ends = ends
all_read (what ∷ forms) [] rest ends = ends
all_read (what ∷ forms) (content ∷ contents) rest ends =
    both_named (files_of what) content (lines_read forms contents rest) (all_read forms contents rest ends)

one_part : (text : RanLine → List ℕ) (part : Part RanLine) (rest : Plan) → Ends rest → Ends (part_plan text part rest)
one_part text (Alone line) rest ends =
    both_named (files_of line.what) line.content (plan_behind (End line.trace ∷ Print (text line) ∷ []) rest)
    (behind (End line.trace ∷ Print (text line) ∷ []) rest ends)
one_part text (Beside lines) rest ends =
    all_read (map (λ line. line.what) lines) (map (λ line. line.content) lines)
    (plan_behind (block_steps text lines) rest) (behind (block_steps text lines) rest ends)

all_parts : (text : RanLine → List ℕ) (parts : List (Part RanLine)) (rest : Plan) → Ends rest
    → Ends (parts_plan text parts rest)
all_parts text [] rest ends = ends
all_parts text (part ∷ parts) rest ends =
    one_part text part (parts_plan text parts rest) (all_parts text parts rest ends)

one_sought : (name : Option (List ℕ)) (reads : Files) (rest : Files → Plan) → ((more : Files) → Ends (rest more))
    → Ends (seek_one name reads rest)
one_sought None reads rest ends = ends reads
one_sought (Some name) [] rest ends = inl refl
one_sought (Some name) (read ∷ reads) rest ends = one_read name read.1 (rest reads) (ends reads)

all_sought : (forms : List LineForm) (reads : Files) → Ends (sought forms reads)
all_sought [] reads = inl refl
all_sought (what ∷ forms) reads =
    one_sought (files_of what).first reads (λ left. seek_one (files_of what).second left (sought forms))
    (λ left. one_sought (files_of what).second left (sought forms) (all_sought forms))

left : (status : ℕ) (lines : List ScriptLine) (reads : Files) → is_calm status ≡ true
    → Ends (left_plan status lines reads)
left status [] reads calm = inl calm
left status (line ∷ lines) reads calm = all_sought (next_forms (mark_of line.what) line.what lines) reads

refused_or_not : (b : Bool) → is_calm (cond b 7 0) ≡ true
refused_or_not true = refl
refused_or_not false = refl

stored : (config : Config) (reads : Files) (ended : Option Histories) (script : List ScriptLine)
    (traces : List LineTrace) → Ends (store_plan config reads ended script traces)
stored config reads None script traces = inl refl
stored config reads (Some seen) script traces =
    let ran = lines_by config reads script traces in
    all_parts (line_text config seen) (parts_of ran)
    (left_plan (lines_status ran) (drop (length traces) script)
    (reads_behind (forms_of (take (length traces) script)) reads))
    (left (lines_status ran) (drop (length traces) script)
    (reads_behind (forms_of (take (length traces) script)) reads)
    (refused_or_not (list_any (λ (line : RanLine). is_refused line.trace) ran)))

scripted : (config : Config) (reads : Files) (ended : Option Histories) (traces : List LineTrace)
    (read : Result (List ScriptLine) ScriptFault) → Ends (script_plan config reads ended traces read)
scripted config reads ended traces (Err fault) = inl refl
scripted config reads ended traces (Ok script) = stored config reads ended script traces

schedule_ends : (fault : Option ScheduleFault) → Ends (schedule_end fault)
schedule_ends None = inl refl
schedule_ends (Some fault) = inl refl

scheduled : (woven : Option Printed) → Ends (schedule_plan woven)
scheduled None = inl refl
scheduled (Some woven) = behind (Write woven.text ∷ []) (schedule_end woven.fault) (schedule_ends woven.fault)

configured : (of : Came) (what : Command)
    → ((config : Config) (content : List ℕ) (reads : Files) → Ends (file_plan of config what.verb content reads))
    → (read : Result Config ConfigFault) (reads : Files) → Ends (config_plan of what read reads)
configured of what ends (Err fault) reads = inl refl
configured of what ends (Ok config) [] = inl refl
configured of what ends (Ok config) (file ∷ reads) =
    one_read what.file file.1 (file_plan of config what.verb file.1 reads) (ends config file.1 reads)

commanded : (of : Came) (reads : Files) (what : Command)
    → ((config : Config) (content : List ℕ) (reads : Files) → Ends (file_plan of config what.verb content reads))
    → Ends (command_plan of reads (Some what))
commanded of [] what ends = inl refl
commanded of (file ∷ reads) what ends =
    one_read what.config file.1 (config_plan of what (config_in file.1) reads)
    (configured of what ends (config_in file.1) reads)

-- what was found
abbrev has : {V : Type 0} → Option V → Bool
has (Some v) = true
has None = false

abbrev found_in : {V : Type 0} (found : Option V) → has found ≡ true → V
found_in (Some v) is = v
found_in None is = absurd (false≢true is)

-- one of two, or none
one_of : {V : Type 0} (F : Option V → Type 0) (a b : V) (c d : Bool) → F (Some a) → F (Some b) → F None
    → F (cond c (Some a) (cond d (Some b) None))
one_of F a b true d first second none = first
one_of F a b false true first second none = second
one_of F a b false false first second none = none

worded : (of : Came) (reads : Files) (words : List (List ℕ)) → Ends (command_plan of reads (command_of words))
worded of reads [] = inl refl
worded of reads (word ∷ []) = inl refl
worded of reads (word ∷ config ∷ []) = inl refl
worded of reads (word ∷ config ∷ file ∷ []) =
    let run = found_in (verb_named (codes "run")) refl in
    let weave = found_in (verb_named (codes "weave")) refl in
    one_of (λ found. Ends (command_plan of reads (option_map (λ what. command what config file) found))) run weave
    (same_text word (codes "run")) (same_text word (codes "weave"))
    (commanded of reads (command run config file)
    (λ config content reads. scripted config reads of.ended of.traces (script_in config.topology content)))
    (commanded of reads (command weave config file) (λ config content reads. scheduled of.woven))
    (inl refl)
worded of reads (word ∷ config ∷ file ∷ more ∷ words) = inl refl

numbered : (of : Came) (reads : Files) (number : Option ℕ) (words : List (List ℕ))
    → Ends (number_plan of reads number (command_of words))
numbered of reads (Some number) words = inl refl
numbered of reads None words = worded of reads words

-- ---- what was done

missed : (done : List Step) (name : List ℕ) (before after : Progress)
    → Did (done ++ Miss name ∷ Write (read_text name) ∷ []) before after → after.folder.last ≡ name
    → CouldNotRead before after
missed done name before after did last =
    let stop : List Step = Miss name ∷ Write (read_text name) ∷ [] in
    record {
      name = name;
      last = last;
      earlier = before.folder.asked ++ flat_map read_in done;
      asked = did.asked
          ∙ ap (λ (more : List Asked). before.folder.asked ++ more) (flat_map-append read_in done stop)
          ∙ sym (append_assoc before.folder.asked (flat_map read_in done) (asking name true ∷ []));
      text = flat_map text_of_step done;
      wrote = did.wrote ∙ ap (λ (t : List ℕ). written_then t before.sink.written)
          (flat_map-append text_of_step done stop
          ∙ ap (λ (more : List ℕ). flat_map text_of_step done ++ more) (append-nil (read_text name)));
    }

too_long : (p : Plan) (before after : Progress) → Did p.steps before after → EndsLong p → WasTooLong before after
too_long p before after did long =
    let stop : List Step = Ask long.name long.content ∷ Write (too_long_text long.name) ∷ [] in
    record {
      name = long.name;
      content = long.content;
      long = long.long;
      earlier = before.folder.gave ++ flat_map given_in long.front;
      gave = did.gave
          ∙ ap (λ (steps : List Step). before.folder.gave ++ flat_map given_in steps) long.steps_are
          ∙ ap (λ (more : Files). before.folder.gave ++ more) (flat_map-append given_in long.front stop)
          ∙ sym (append_assoc before.folder.gave (flat_map given_in long.front) ((long.name, long.content) ∷ []));
      text = flat_map text_of_step long.front;
      wrote = did.wrote ∙ ap (λ (t : List ℕ). written_then t before.sink.written)
          (ap (λ (steps : List Step). flat_map text_of_step steps) long.steps_are
          ∙ flat_map-append text_of_step long.front stop
          ∙ ap (λ (more : List ℕ). flat_map text_of_step long.front ++ more)
          (append-nil (too_long_text long.name)));
    }

by_four : (p : Plan) (before after : Progress) → Ends p → RunIs p 4 before after → CouldNotRead before after
by_four p before after (inl calm) (inl (inl all)) =
    absurd (false≢true (subst (λ n. is_calm n ≡ true) (sym all.0) calm))
by_four p before after (inr long) (inl (inl all)) =
    let same : 4 ≡ 8 = all.0 ∙ long.0 in absurd (omega (arith, same))
by_four p before after ends (inl (inr (inl cut))) = let same : 4 ≡ 5 = cut.0 in absurd (omega (arith, same))
by_four p before after ends (inl (inr (inr starved))) = let same : 4 ≡ 6 = starved.0 in absurd (omega (arith, same))
by_four p before after ends (inr misses) = elim misses.follows [
  | inl all ↦ missed misses.done misses.name before after all.1 misses.last
  | inr (inl cut) ↦ let same : 4 ≡ 5 = cut.0 in absurd (omega (arith, same))
  | inr (inr starved) ↦ let same : 4 ≡ 6 = starved.0 in absurd (omega (arith, same))
]

by_eight : (p : Plan) (before after : Progress) → Ends p → RunIs p 8 before after → WasTooLong before after
by_eight p before after (inl calm) (inl (inl all)) =
    absurd (false≢true (subst (λ n. is_calm n ≡ true) (sym all.0) calm))
by_eight p before after (inr long) (inl (inl all)) = too_long p before after all.1 long.1
by_eight p before after ends (inl (inr (inl cut))) = let same : 8 ≡ 5 = cut.0 in absurd (omega (arith, same))
by_eight p before after ends (inl (inr (inr starved))) = let same : 8 ≡ 6 = starved.0 in absurd (omega (arith, same))
by_eight p before after ends (inr misses) = elim misses.follows [
  | inl all ↦ let same : 8 ≡ 4 = all.0 in absurd (omega (arith, same))
  | inr (inl cut) ↦ let same : 8 ≡ 5 = cut.0 in absurd (omega (arith, same))
  | inr (inr starved) ↦ let same : 8 ≡ 6 = starved.0 in absurd (omega (arith, same))
]

pub reads_failed : ReadsFailed
reads_failed words ended before after ran =
    let of : Came = came ran.woven ended after.ends in
    by_four (run_plan of ran.reads words) before after
    (numbered of ran.reads (made_number words) words) ran.is

pub files_too_long : FilesTooLong
files_too_long words ended before after ran =
    let of : Came = came ran.woven ended after.ends in
    by_eight (run_plan of ran.reads words) before after
    (numbered of ran.reads (made_number words) words) ran.is
