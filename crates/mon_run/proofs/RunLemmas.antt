-- The parts of a run: a file, a schedule, a configuration, a command.
use Rattle.std.proofs.Common.{◌≡◌, ◌∙◌, ◌⊎◌, inl, inr, ℕ, Bool, false, cond, List, [], ◌∷◌, ◌++◌, Option, Some, None}
use Rattle.std.proofs.Common.{IfSome, Result, Ok, Err, IfOk, IfErr, refl, sym, ap, subst, append_assoc, append-nil}
use Rattle.std.specs.Bool.{⊤}
use Rattle.mon_value.specs.Answers.{Withholds}
use Rattle.mon_value.specs.declared.histories.Histories.{Histories}
use Rattle.mon_value.specs.declared.refusals.Refusal.{Refusal}
use Rattle.mon_value.specs.declared.refusals.Refusal.TheVariants as refusal
use Rattle.mon_config.specs.Configs.{config_in}
use Rattle.mon_config.specs.declared.config.Config.{Config}
use Rattle.mon_config.specs.declared.faults.ConfigFault.{ConfigFault}
use Rattle.mon_run.specs.Endings.{AreNoLines, CutShort, Did, Progress, Starved, CommandTells, RunTells, ScriptTells}
use Rattle.mon_run.specs.Endings.{seen_by, text_of_step}
use Rattle.mon_run.specs.Steps.{Ask, Plan, Seek, Step, Write, is_too_long, next_read, plan_behind}
use Rattle.mon_run.specs.Outside.{Files, FolderState}
use Rattle.mon_run.specs.Plans.{Came, Command, IsWovenBy, came, command, command_of, command_plan, config_plan, file_plan}
use Rattle.mon_run.specs.Plans.{first_content, made_number, made_plan, number_plan, schedule_end, schedule_plan}
use Rattle.mon_run.specs.declared.runs.Run.{Run}
use Rattle.mon_run.specs.declared.stop.Stop.{Stop}
use Rattle.mon_run.specs.declared.stop.Stop.TheVariants as stop
use Rattle.mon_run.specs.declared.words.Verb.{Verb}
use Rattle.mon_run.specs.declared.words.Verb.TheVariants as verb
use Rattle.mon_run.specs.within.Lines.{NamedTells, TextEnds, TextTells}
use Rattle.mon_run.specs.within.Stops.{ConfigStops, Counts, Done, Ends, Halts, HaltsBy, HasConfig, Stops, Tells, Weaves}
use Rattle.mon_run.specs.within.Stops.{WriteStops, WroteFront, config_stop, files_plan, named_plan, noted, words_plan}
use Rattle.weave_core.specs.Schedules.{IsPrinted, Printed}
use Rattle.schedule_lines.specs.declared.calls.ScheduleFault.{ScheduleFault}
use Rattle.mon_run.proofs.EndLemmas.{causes_earlier, refused_config}
use Rattle.mon_run.proofs.SinkLemmas.{nothing_written}
use Rattle.mon_run.proofs.StepLemmas.{did_none, did_then, done_behind, gave_nothing, not_long, stops_behind}

-- ---- in the middle of a part

-- memory ran out behind the first steps of a plan
pub starved_at : {p : Plan} (xs : List Step) (rest : Plan) {before after : Progress} → p ≡ plan_behind xs rest
    → AreNoLines rest.steps → Did xs before after → Starved p.steps before after
starved_at xs rest is whole did = record {
  done = xs;
  left = rest.steps;
  split = ap (λ (q : Plan). q.steps) is;
  whole = whole;
  did = did;
}

-- the last text of a part was cut
pub cut_at : {p : Plan} (xs : List Step) (step : Step) (rest : Plan) {before mid after : Progress}
    → p ≡ plan_behind (xs ++ step ∷ []) rest → Did xs before mid → WroteFront (text_of_step step) mid after
    → CutShort p.steps before after
cut_at xs step rest is did cut = record {
  done = xs;
  step = step;
  left = rest.steps;
  split = ap (λ (q : Plan). q.steps) is ∙ append_assoc xs (step ∷ []) rest.steps;
  front = cut.front;
  rest = cut.rest;
  cut = cut.split;
  some = cut.some;
  did = did_then did cut.did;
}

-- ---- ends of parts

-- a part stopped, and the stop was handed on
pub ends_stopped : (p : Plan) (ended : Result Bool Stop) (stopped : Stop) {before after : Progress}
    → (s : Stop) × (ended ≡ Err s) × (s ≡ stopped) → Halts p stopped before after → Ends p ended before after
ends_stopped p ended stopped {before} {after} (s, is, same) halts = record {
  completes = subst (λ (r : Result Bool Stop). IfOk r (λ refused. Done p refused before after))
      (sym (is ∙ ap Err same)) tt;
  halts = subst (λ (r : Result Bool Stop). IfErr r (λ (t : Stop). Halts p t before after)) (sym (is ∙ ap Err same))
      halts;
}

-- where no store was made, nothing is told of it
pub none_told : (known : Option Histories) (Claim : Histories → Type 0) → known ≡ None → IfSome known Claim
none_told known Claim none = subst (λ (k : Option Histories). IfSome k Claim) (sym none) tt

-- so did one that had not come to a schedule's end, nor to a store
pub weaves_stopped : (plan : Came → Files → Plan) (may : Files → Printed → Type 0) (tells : Tells)
    (known : Option Histories) (ended : Result Bool Stop) (stopped : Stop) {before : Progress} (after : Progress)
    → known ≡ None → (s : Stop) × (ended ≡ Err s) × (s ≡ stopped)
    → HaltsBy (plan (came None known after.ends)) stopped before after
    → Weaves plan may tells known ended before after
weaves_stopped plan may tells known ended stopped {before} after none stops halts = record {
  reads = halts.reads;
  gave = halts.gave;
  woven = None;
  printed = tt;
  told = none_told known (λ histories. tells (ended ≡ Err stop.OutOfMemory) halts.reads histories after.ends) none;
  ends = ends_stopped (plan (came None known after.ends) halts.reads) ended stopped stops halts.halts;
}

-- nothing was noted
pub none_noted : {F O : Type 0} (run : Run F O) → run.log.now.ended ≡ None → noted run ≡ None
none_noted run none = ap seen_by none

-- what is told is handed on
pub told_as : (known : Option Histories) (P Q : Histories → Type 0) → ((histories : Histories) → P histories → Q
    histories)
    → IfSome known P → IfSome known Q
told_as None P Q hand told = tt
told_as (Some histories) P Q hand told = hand histories told

-- a part ends as another one does behind steps
pub ends_behind : {p whole : Plan} (steps : List Step) (ended : Result Bool Stop) {before mid : Progress}
    (after : Progress) → whole ≡ plan_behind steps p → Did steps before mid → Counts before mid → Ends p ended mid after
    → Ends whole ended before after
ends_behind {p} {whole} steps (Ok refused) {before} after is did counts ends = record {
  completes = subst (λ (q : Plan). Done q refused before after) (sym is) (done_behind did ends.completes);
  halts = tt;
}
ends_behind {p} {whole} steps (Err stopped) {before} {mid} after is did counts ends = record {
  completes = tt;
  halts = record {
    stops = subst (λ (q : Plan). Stops q stopped before after) (sym is)
        (stops_behind p after stopped did ends.halts.stops);
    causes = causes_earlier before mid after stopped counts ends.halts.causes;
  };
}

-- what was read behind a read
pub gave_behind : (read : List ℕ × List ℕ) (before reads : Files) {mid after : Files} → mid ≡ before ++ read ∷ []
    → after ≡ mid ++ reads → after ≡ before ++ read ∷ reads
gave_behind read before reads first second =
    second ∙ ap (λ (front : Files). front ++ reads) first ∙ append_assoc before (read ∷ []) reads

-- ---- schedules

-- a schedule's text was cut
pub schedule_cut : (woven : Printed) (text : List ℕ) (stopped : Stop) {before after : Progress} → text ≡ woven.text
    → WriteStops text stopped before after → Halts (schedule_plan (Some woven)) stopped before after
schedule_cut woven text stopped {before} {after} same stops =
    let cut : WroteFront woven.text before after = subst (λ (t : List ℕ). WroteFront t before after) same stops.front in
    subst (λ (s : Stop). Halts (schedule_plan (Some woven)) s before after) (sym stops.failed)
    (record {
      stops = cut_at [] (Write woven.text) (schedule_end woven.fault) refl (did_none before) cut;
      causes = stops.rose;
    })

-- it was written, and a line is refused
pub schedule_refused : (woven : Printed) (text : List ℕ) (fault : ScheduleFault) {before after : Progress} → text
    ≡ woven.text → woven.fault ≡ Some fault → Did (Write text ∷ []) before after
    → Halts (schedule_plan (Some woven)) (stop.Schedule fault) before after
schedule_refused woven text fault {before} {after} same is did = record {
  stops = record {
    done = Write woven.text ∷ [];
    split = ap (λ (f : Option ScheduleFault). plan_behind (Write woven.text ∷ []) (schedule_end f)) is;
    did = subst (λ (t : List ℕ). Did (Write t ∷ []) before after) same did;
  };
  causes = tt;
}

-- it was written, and no line is refused
pub schedule_done : (woven : Printed) (text : List ℕ) {before after : Progress} → text ≡ woven.text → woven.fault
    ≡ None → Did (Write text ∷ []) before after → Done (schedule_plan (Some woven)) false before after
schedule_done woven text {before} {after} same is did =
    subst (λ (f : Option ScheduleFault). Done (plan_behind (Write woven.text ∷ []) (schedule_end f)) false before
    after) (sym is)
    (record { status = refl; did = subst (λ (t : List ℕ). Did (Write t ∷ []) before after) same did })

-- ---- configurations, and the files behind them

-- behind a configuration that wants memory, nothing was read
none_configured : (of : Came) (what : Command) (read : Result Config ConfigFault)
    → AreNoLines (config_plan of what read []).steps
none_configured of what (Ok config) = (refl, tt)
none_configured of what (Err fault) = (refl, tt)

-- a configuration is refused, or wants memory
files_refused : (of : Came) (what : Command) (content : List ℕ) {before after : Progress} (fault : Refusal ConfigFault)
    → is_too_long content ≡ false → Withholds fault (config_in content)
    → Did (Ask what.config content ∷ []) before after
    → Stops (files_plan what of ((what.config, content) ∷ [])) (config_stop fault) before after
files_refused of what content (refusal.Fault fault) short is did = record {
  done = Ask what.config content ∷ [];
  split = not_long what.config content (config_plan of what (config_in content) []) short
      ∙ ap (λ answer. plan_behind (Ask what.config content ∷ []) (config_plan of what answer [])) is;
  did = did;
}
files_refused of what content refusal.OutOfMemory short is did =
    starved_at (Ask what.config content ∷ []) (config_plan of what (config_in content) [])
    (not_long what.config content (config_plan of what (config_in content) []) short)
    (none_configured of what (config_in content)) did

pub config_refused : (name content : List ℕ) {before after : Progress} (fault : Refusal ConfigFault)
    → is_too_long content ≡ false → Withholds fault (config_in content) → Did (Ask name content ∷ []) before after
    → ConfigStops name (config_stop fault) before after
config_refused name content {before} {after} fault short is did = λ verb file of. record {
  reads = (name, content) ∷ [];
  gave = did.gave;
  halts = record {
    stops = files_refused of (command verb name file) content fault short is did;
    causes = refused_config fault before after;
  };
}

-- the second file was run under the configuration that the first one is
pub files_weave : (what : Command) (read : Config) (known : Option Histories) (ended : Result Bool Stop)
    {before mid : Progress} (after : Progress) → HasConfig what.config read before mid → Counts before mid
    → Weaves (named_plan read what.verb what.file) (λ reads. IsPrinted read (first_content reads))
    (NamedTells what.verb read) known ended mid after
    → Weaves (files_plan what) IsWovenBy (CommandTells what) known ended before after
files_weave what read known ended {before} {mid} after config counts weaves =
    let of : Came = came weaves.woven known after.ends in
    record {
      reads = (what.config, config.content) ∷ weaves.reads;
      gave = gave_behind (what.config, config.content) before.folder.gave weaves.reads config.did.gave weaves.gave;
      woven = weaves.woven;
      printed = by weaves.woven weaves.printed;
      told = told_as known
          (λ histories. NamedTells what.verb read (ended ≡ Err stop.OutOfMemory) weaves.reads histories after.ends)
          (λ histories. CommandTells what (ended ≡ Err stop.OutOfMemory) ((what.config, config.content) ∷ weaves.reads)
          histories after.ends)
          (λ histories tells. record {
            verb_is = tells.0;
            config = read;
            config_is = config.is;
            script = tells.1;
          }) weaves.told;
      ends = ends_behind (Ask what.config config.content ∷ []) ended after
          (not_long what.config config.content (config_plan of what (config_in config.content) weaves.reads) config.short
          ∙ ap (λ answer. plan_behind (Ask what.config config.content ∷ []) (config_plan of what answer weaves.reads))
          config.is)
          config.did counts weaves.ends;
    }
  where
    by : (woven : Option Printed) → IfSome woven (IsPrinted read (first_content weaves.reads))
        → IfSome woven (IsWovenBy ((what.config, config.content) ∷ weaves.reads))
    by None printed = tt
    by (Some woven) printed = λ other answer.
        let both : Ok read ≡ Ok other = sym config.is ∙ answer in
        let same : read ≡ other = cc in
        subst (λ (c : Config). IsPrinted c (first_content weaves.reads) woven) same printed

-- what was read of the second file was run under a configuration
pub named_weave : (read : Config) (what : Verb) (name text : List ℕ) (known : Option Histories)
    (ended : Result Bool Stop) {before mid : Progress} (after : Progress) → is_too_long text ≡ false
    → Did (Ask name text ∷ []) before mid → Counts before mid
    → Weaves (λ of. file_plan of read what text) (λ reads. IsPrinted read text) (TextTells what read text)
    known ended mid after
    → Weaves (named_plan read what name) (λ reads. IsPrinted read (first_content reads)) (NamedTells what read)
    known ended before after
named_weave read what name text known ended {before} {mid} after short did counts weaves =
    let of : Came = came weaves.woven known after.ends in
    record {
      reads = (name, text) ∷ weaves.reads;
      gave = gave_behind (name, text) before.folder.gave weaves.reads did.gave weaves.gave;
      woven = weaves.woven;
      printed = weaves.printed;
      told = weaves.told;
      ends = ends_behind (Ask name text ∷ []) ended after
          (not_long name text (file_plan of read what text weaves.reads) short) did counts weaves.ends;
    }

-- a text was run as a script
pub text_weave : (read : Config) (text : List ℕ) (known : Option Histories) (ended : Result Bool Stop)
    {before : Progress} (after : Progress) → TextEnds read text known ended before after
    → Weaves (λ of. file_plan of read verb.Run text) (λ reads. IsPrinted read text)
    (TextTells verb.Run read text) known ended before after
text_weave read text known ended {before} after script = record {
  reads = script.reads;
  gave = script.gave;
  woven = None;
  printed = tt;
  told = told_as known
      (λ histories. ScriptTells read text (ended ≡ Err stop.OutOfMemory) script.reads histories after.ends)
      (λ histories. TextTells verb.Run read text (ended ≡ Err stop.OutOfMemory) script.reads histories after.ends)
      (λ histories tells. (refl, tells)) script.tells;
  ends = script.ends;
}

-- a text was run as a schedule
pub schedule_weave : (read : Config) (text : List ℕ) (known : Option Histories) (ended : Result Bool Stop)
    {before : Progress} (after : Progress) → known ≡ None
    → Weaves (λ of reads. schedule_plan of.woven) (λ reads. IsPrinted read text) (λ early reads histories traces. ⊤)
    known ended before after
    → Weaves (λ of. file_plan of read verb.Weave text) (λ reads. IsPrinted read text)
    (TextTells verb.Weave read text) known ended before after
schedule_weave read text known ended {before} after none weaves = record {
  reads = weaves.reads;
  gave = weaves.gave;
  woven = weaves.woven;
  printed = weaves.printed;
  told = none_told known (λ histories. TextTells verb.Weave read text (ended ≡ Err stop.OutOfMemory) weaves.reads histories
      after.ends) none;
  ends = weaves.ends;
}

-- ---- words

-- the words are a command, which ended
pub words_weave : (words : List (List ℕ)) (what : Command) (known : Option Histories) (ended : Result Bool Stop)
    {before : Progress} (after : Progress) → made_number words ≡ None → Some what ≡ command_of words
    → Weaves (files_plan what) IsWovenBy (CommandTells what) known ended before after
    → Weaves (words_plan words) IsWovenBy (RunTells words) known ended before after
words_weave words what known ended {before} after none is weaves =
    let of : Came = came weaves.woven known after.ends in
    record {
      reads = weaves.reads;
      gave = weaves.gave;
      woven = weaves.woven;
      printed = weaves.printed;
      told = told_as known
          (λ histories. CommandTells what (ended ≡ Err stop.OutOfMemory) weaves.reads histories after.ends)
          (λ histories. RunTells words (ended ≡ Err stop.OutOfMemory) weaves.reads histories after.ends)
          (λ histories tells. record { what = what; command_is = sym is; command = tells }) weaves.told;
      ends = subst (λ (number : Option ℕ). Ends (number_plan of weaves.reads number (command_of words)) ended
          before after) (sym none)
          (subst (λ (c : Option Command). Ends (command_plan of weaves.reads c) ended before after) is weaves.ends);
    }

-- the words ask for the input of a number
pub words_made : (words : List (List ℕ)) (number : ℕ) (known : Option Histories) (ended : Result Bool Stop)
    {before : Progress} (after : Progress) → known ≡ None → Some number ≡ made_number words
    → after.folder ≡ before.folder → Ends (made_plan number) ended before after
    → Weaves (words_plan words) IsWovenBy (RunTells words) known ended before after
words_made words number known ended {before} after nothing is same ends = record {
  reads = [];
  gave = gave_nothing (ap (λ (f : FolderState). f.gave) same);
  woven = None;
  printed = tt;
  told = none_told known (λ histories. RunTells words (ended ≡ Err stop.OutOfMemory) [] histories after.ends) nothing;
  ends = subst (λ (n : Option ℕ). Ends (number_plan (came None known after.ends) [] n (command_of words))
      ended before after) is ends;
}

abbrev usage_stop : Result Bool Stop
usage_stop = Err stop.Usage

-- the words are none
pub words_refused : (words : List (List ℕ)) (known : Option Histories) (p : Progress) → known ≡ None
    → made_number words ≡ None → command_of words ≡ None
    → Weaves (words_plan words) IsWovenBy (RunTells words) known (Err stop.Usage) p p
words_refused words known p nothing number none = record {
  reads = [];
  gave = sym (append-nil p.folder.gave);
  woven = None;
  printed = tt;
  told = none_told known (λ histories. RunTells words (usage_stop ≡ Err stop.OutOfMemory) [] histories p.ends) nothing;
  ends = record {
    completes = tt;
    halts = record {
      stops = record {
        done = [];
        split = ap (λ (n : Option ℕ). number_plan (came None known p.ends) [] n (command_of words)) number
            ∙ ap (command_plan (came None known p.ends) []) none;
        did = did_none p;
      };
      causes = tt;
    };
  };
}

-- ---- a read

-- a read stopped for want of memory, before it was told or behind it
pub read_starved : (name : List ℕ) (rest : List ℕ → Files → Plan) {before after : Progress}
    → Did [] before after ⊎ Did (Seek name ∷ []) before after → Starved (next_read [] name rest).steps before after
read_starved name rest (inl did) =
    record { done = []; left = Seek name ∷ []; split = refl; whole = (refl, tt); did = did }
read_starved name rest (inr did) = record { done = Seek name ∷ []; left = []; split = refl; whole = tt; did = did }

-- nothing was read
pub unread : {before after : Progress} → after.folder.files ≡ before.folder.files
    → after.folder.asked ≡ before.folder.asked → after.folder.gave ≡ before.folder.gave → after.ends ≡ before.ends
    → after.sink.written ≡ before.sink.written → Did [] before after
unread {before} files asked gave ends written = record {
  files = files;
  asked = asked ∙ sym (append-nil before.folder.asked);
  gave = gave ∙ sym (append-nil before.folder.gave);
  so = λ files told. tt;
  ends = ends ∙ sym (append-nil before.ends);
  wrote = written ∙ nothing_written before.sink.written;
}

-- ---- what a write leaves

pub err_weaker : {T : Type 0} (result : Result T Stop) (P Q : Stop → Type 0) → ((stopped : Stop) → P stopped
    → Q stopped) → IfErr result P → IfErr result Q
err_weaker (Ok value) P Q weaker holds = tt
err_weaker (Err stopped) P Q weaker holds = weaker stopped holds

pub ok_weaker : (result : Result Bool Stop) (P Q : Bool → Type 0) → ((refused : Bool) → P refused → Q refused)
    → IfOk result P → IfOk result Q
ok_weaker (Ok refused) P Q weaker holds = weaker refused holds
ok_weaker (Err stopped) P Q weaker holds = tt

-- what a call that failed leaves, where its stop is handed on
pub handed_on : {T : Type 0} (result : Result T Stop) (P : Stop → Type 0) (stopped : Stop) → (s : Stop)
    × (result ≡ Err s) × (s ≡ stopped) → P stopped → IfErr result P
handed_on {T} result P stopped (s, is, same) holds = subst (λ (r : Result T Stop). IfErr r P) (sym is)
    (subst P (sym same) holds)
