-- How a line alone, and the lines of a block, ran; and how a part and a script end.
use Rattle.std.proofs.Common.{◌≡◌, ◌∙◌, inl, inr, ℕ, suc, List, [], ◌∷◌, ◌++◌, length, map, Option, None, true, false}
use Rattle.std.proofs.Common.{refl, sym, ap, subst, append_assoc, append-nil, arith}
use Rattle.std.specs.List.{flat_map}
use Rattle.history_book.specs.Histories.{AreFronts}
use Rattle.know.specs.Knowledge.{Knowledge}
use Rattle.mon_config.specs.declared.config.Config.{Config}
use Rattle.mon_script.specs.Blocks.{mark_of}
use Rattle.mon_script.specs.declared.forms.LineForm.{LineForm}
use Rattle.mon_script.specs.declared.forms.LineForm.TheVariants as form
use Rattle.mon_script.specs.declared.places.Mark.TheVariants as mark
use Rattle.mon_script.specs.declared.script.ScriptLine.{ScriptLine}
use Rattle.mon_value.specs.declared.histories.Histories.{Histories}
use Rattle.mon_run.specs.Endings.{Did, Progress, end_in, given_in, read_in, text_of_step}
use Rattle.mon_run.specs.Outside.{AreOf, Files, FolderState, SinkState, written_then}
use Rattle.mon_run.specs.Plans.{forms_of, left_plan, line_read, lines_read, part_plan, sought}
use Rattle.mon_run.specs.Steps.{End, Plan, Print, Step, Write, plan_behind}
use Rattle.mon_run.specs.declared.outside.folder.Asked.{Asked}
use Rattle.mon_run.specs.declared.stop.Stop.{Stop}
use Rattle.mon_run.specs.declared.stop.Stop.TheVariants as stop
use Rattle.mon_run.specs.within.Lines.{AloneHalts, AloneRan, BlockHalts, BlockRan}
use Rattle.mon_run.specs.within.Lines.{FileRead, FileStops, FilesRead, FilesStop, HaveGiven, HaveRead, LinesHalt, LinesRanTo}
use Rattle.mon_run.specs.within.Lines.{LinesStopped, PartCut, PartDone, PartWent, StoppedEarly, TextsStop}
use Rattle.mon_run.specs.within.Lines.{alone_in, block_in, block_traces, part_contents, part_forms, prints}
use Rattle.mon_run.specs.within.Stops.{Counts, HaltsBy, Stops, WriteStops}
use Rattle.mon_run.proofs.BlockLemmas.{IsBlock, IsLine}
use Rattle.mon_run.proofs.EndLemmas.{causes_earlier}
use Rattle.mon_run.proofs.LineLemmas.{lines_cut, lines_early, lines_went}
use Rattle.mon_run.proofs.PartLemmas.{all_act, alone_left, alone_part, block_ends, block_left, block_part}
use Rattle.mon_run.proofs.PartLemmas.{IsPart, ran_both, ran_contents, ran_forms}
use Rattle.mon_run.proofs.ReadingLemmas.{forms_both, have_both, have_idle, read_starves}
use Rattle.mon_run.proofs.RunLemmas.{cut_at}
use Rattle.mon_run.proofs.SinkLemmas.{nothing_written}
use Rattle.mon_run.proofs.StepLemmas.{did_by, did_none, did_print, did_then, plan_twice, stops_behind}
use Rattle.part_runs.specs.PartsDone.{PartTells}
use Rattle.run_theory.specs.Parts.{Part, lines_of}
use Rattle.run_traces.specs.LineClaims.{HaveGrown}
use Rattle.run_traces.specs.LineTexts.{line_text}
use Rattle.run_traces.specs.LineAsks.{files_of, unnamed}
use Rattle.run_traces.specs.RanLines.{OwnPlace, RanLine, no_files, ran_lines}
use Rattle.run_traces.specs.declared.traces.LineTrace.{LineTrace}
use Rattle.run_traces.specs.declared.traces.LineTrace.TheVariants as came
use Rattle.run_traces.specs.declared.line_files.LineFiles.{LineFiles}
use Rattle.running_query.proofs.GoingLemmas.{same_fronts}

-- ---- a part that ran, or was cut in its texts

module _ {config : Config} {part : Part RanLine} {traces : List LineTrace} {texts : List (List ℕ)}
    {know known : Knowledge} (steps : List Step) (did : PartTells config part texts know known)
    (same : (later : Histories) → HaveGrown known.seen later → (rest : Plan)
    → part_plan (line_text config later) part rest ≡ plan_behind steps (plan_behind (prints texts) rest))
    (given : Files) (have : HaveGiven (part_forms part) (part_contents part) given) where
  part_done : {before after : Progress} → after.ends ≡ before.ends ++ traces
      → after.folder.gave ≡ before.folder.gave ++ given
      → PartDone config part traces know.seen known.seen before after
  part_done ends gave = record {
    ends = ends;
    given = given;
    gave = gave;
    have = have;
    grown = did.grown;
    ran = did.ran;
  }

  pub part_went : {before mid : Progress} (after : Progress) → after.ends ≡ before.ends ++ traces
      → after.folder.gave ≡ before.folder.gave ++ given → Did steps before mid → Did (prints texts) mid after
      → PartWent config part traces know.seen known.seen before after
  part_went after ends gave first second = record {
    done = part_done ends gave;
    did = λ later grown. record {
      steps = steps ++ prints texts;
      same = λ rest. same later grown rest ∙ plan_twice steps (prints texts) rest;
      did = did_then first second;
    };
  }

  pub part_cut : {before mid : Progress} (after : Progress) (stopped : Stop) → after.ends ≡ before.ends ++ traces
      → after.folder.gave ≡ before.folder.gave ++ given → Did steps before mid
      → ((rest : Plan) → Stops (plan_behind (prints texts) rest) stopped mid after)
      → PartCut config part traces know.seen known.seen before after stopped
  part_cut {before} after stopped ends gave first stops = record {
    done = part_done ends gave;
    stops = λ later grown rest.
        subst (λ (p : Plan). Stops p stopped before after) (sym (same later grown rest))
        (stops_behind (plan_behind (prints texts) rest) after stopped first (stops rest));
  }

-- ---- stops before a part came to something

pub early_read : {forms : List LineForm} (known : Histories) (stopped : Stop) {before after : Progress}
    → after.ends ≡ before.ends → HaltsBy (sought forms) stopped before after
    → StoppedEarly forms known known stopped before after
early_read known stopped ends halts = record {
  ends = ends;
  front = same_fronts known;
  whole = inr refl;
  halts = halts;
}

pub early_starved : {forms : List LineForm} {contents : List LineFiles} (from ended : Histories)
    {before after : Progress} → after.ends ≡ before.ends → AreFronts from ended → HaveRead forms contents before after
    → StoppedEarly forms from ended stop.OutOfMemory before after
early_starved {forms} from ended {before} {after} ends front read = record {
  ends = ends;
  front = front;
  whole = inl refl;
  halts = subst (λ (f : List LineForm). HaltsBy (sought f) stop.OutOfMemory before after) (append-nil forms)
      (read_starves [] read);
}

-- behind steps that change nothing
pub read_still : {forms : List LineForm} {contents : List LineFiles} {before mid after : Progress}
    → HaveRead forms contents before mid → Did [] mid after → HaveRead forms contents before after
read_still read did = record {
  given = read.given;
  gave = did.gave ∙ append-nil _ ∙ read.gave;
  have = read.have;
  read = record {
    steps = read.read.steps;
    same = read.read.same;
    did = did_by (append-nil read.read.steps) (did_then read.read.did did);
  };
}

-- what was given is so behind steps that read nothing
still_gave : (before given : Files) {mid after : Files} → mid ≡ before ++ given → after ≡ mid ++ []
    → after ≡ before ++ given
still_gave before given {mid} gave still = still ∙ append-nil mid ∙ gave

-- ---- a line alone

alone_same : (config : Config) (what : LineForm) (content : LineFiles) (trace : LineTrace) (own : List OwnPlace)
    (text : List ℕ) (later : Histories) {before after : Progress} (read : FileRead what content before after)
    → map (line_text config later) (lines_of (alone_in what content trace own)) ≡ text ∷ [] → (rest : Plan)
    → part_plan (line_text config later) (alone_in what content trace own) rest
    ≡ plan_behind (read.read.steps ++ End trace ∷ []) (plan_behind (prints (text ∷ [])) rest)
alone_same config what content trace own text later read prints_so rest =
    ap (λ (texts : List (List ℕ)). line_read what content (plan_behind (End trace ∷ prints texts) rest)) prints_so
    ∙ read.read.same (plan_behind (End trace ∷ Print text ∷ []) rest)
    ∙ plan_twice read.read.steps (End trace ∷ Print text ∷ []) rest
    ∙ ap (λ (steps : List Step). plan_behind steps rest)
    (sym (append_assoc read.read.steps (End trace ∷ []) (Print text ∷ [])))
    ∙ sym (plan_twice (read.read.steps ++ End trace ∷ []) (Print text ∷ []) rest)

module _ {config : Config} {what : LineForm} {content : LineFiles} {trace : LineTrace} {own : List OwnPlace}
    {text : List ℕ} {know known : Knowledge} {before read ended : Progress}
    (has_read : FileRead what content before read)
    (did : PartTells config (alone_in what content trace own) (text ∷ []) know known)
    (ends : Did (End trace ∷ []) read ended) (first : read.ends ≡ before.ends) where
  same : (later : Histories) → HaveGrown known.seen later → (rest : Plan)
      → part_plan (line_text config later) (alone_in what content trace own) rest
      ≡ plan_behind (has_read.read.steps ++ End trace ∷ []) (plan_behind (prints (text ∷ [])) rest)
  same later grown rest = alone_same config what content trace own text later has_read (did.prints later grown) rest

  ended_behind : ended.ends ≡ before.ends ++ trace ∷ []
  ended_behind = ends.ends ∙ ap (λ (xs : List LineTrace). xs ++ trace ∷ []) first

  gave_there : ended.folder.gave ≡ before.folder.gave ++ has_read.given
  gave_there = still_gave before.folder.gave has_read.given has_read.gave ends.gave

  pub alone_ran : (after : Progress) → Did (Write text ∷ []) ended after → after.ends ≡ ended.ends
      → AloneRan config what know.seen known.seen before after
  alone_ran after wrote last = record {
    content = content;
    trace = trace;
    own = own;
    went = part_went (has_read.read.steps ++ End trace ∷ []) did same has_read.given has_read.have after
        (last ∙ ended_behind) (still_gave before.folder.gave has_read.given gave_there wrote.gave) (did_then has_read.read.did ends)
        (did_print text wrote);
  }

  pub alone_cut : (after : Progress) (stopped : Stop) → Counts before ended → after.ends ≡ ended.ends
      → after.folder ≡ ended.folder → WriteStops text stopped ended after
      → AloneHalts config what know.seen known.seen stopped before after
  alone_cut after stopped counts last kept stops = subst
      (λ (s : Stop). AloneHalts config what know.seen known.seen s before after) (sym stops.failed)
      (record {
        told = inr (record {
          content = content;
          trace = trace;
          own = own;
          cut = part_cut (has_read.read.steps ++ End trace ∷ []) did same has_read.given has_read.have after
              stop.WriteFailed (last ∙ ended_behind) (ap (λ (f : FolderState). f.gave) kept ∙ gave_there)
              (did_then has_read.read.did ends)
              (λ rest. cut_at [] (Print text) rest refl (did_none ended) stops.front);
        });
        causes = causes_earlier before ended after stop.WriteFailed counts stops.rose;
      })

-- its file stopped it
pub alone_unread : (config : Config) (what : LineForm) (known : Histories) (stopped : Stop) {before after : Progress}
    → after.ends ≡ before.ends → FileStops what stopped before after
    → AloneHalts config what known known stopped before after
alone_unread config what known stopped ends stops = record {
  told = inl (early_read known stopped ends (stops []));
  causes = (stops []).halts.causes;
}

-- memory ran out
pub alone_starved : (config : Config) (what : LineForm) {content : LineFiles} (from ended : Histories)
    {before after : Progress} → after.ends ≡ before.ends → AreFronts from ended → FileRead what content before after
    → AloneHalts config what from ended stop.OutOfMemory before after
alone_starved config what from ended ends front read = record {
  told = inl (early_starved from ended ends front read);
  causes = tt;
}

-- ---- a block

no_items : {A : Type 0} (of : Step → List A) → ((trace : LineTrace) → of (End trace) ≡ []) → (traces : List LineTrace)
    → [] ≡ flat_map of (map (λ trace. End trace) traces)
no_items of none [] = refl
no_items of none (trace ∷ traces) =
    no_items of none traces ∙ (λ i. sym (none trace) i ++ flat_map of (map (λ t. End t) traces))

ended_all : (traces : List LineTrace) → traces ≡ flat_map end_in (map (λ trace. End trace) traces)
ended_all [] = refl
ended_all (trace ∷ traces) = ap (λ (more : List LineTrace). trace ∷ more) (ended_all traces)

-- what lines came to was noted, and nothing else was done
pub did_end : (traces : List LineTrace) {before after : Progress} → after.folder ≡ before.folder
    → after.sink ≡ before.sink → after.ends ≡ before.ends ++ traces → Did (map (λ trace. End trace) traces) before after
did_end traces {before} {after} folder sink ends = record {
  files = ap (λ (f : FolderState). f.files) folder;
  asked = ap (λ (f : FolderState). f.asked) folder ∙ sym (append-nil before.folder.asked)
      ∙ ap (λ (more : List Asked). before.folder.asked ++ more) (no_items read_in (λ trace. refl) traces);
  gave = ap (λ (f : FolderState). f.gave) folder ∙ sym (append-nil before.folder.gave)
      ∙ ap (λ (more : Files). before.folder.gave ++ more) (no_items given_in (λ trace. refl) traces);
  so = λ files told. subst (AreOf files) (no_items given_in (λ trace. refl) traces) tt;
  ends = ends ∙ ap (λ (more : List LineTrace). before.ends ++ more) (ended_all traces);
  wrote = ap (λ (s : SinkState). s.written) sink ∙ nothing_written before.sink.written
      ∙ ap (λ (more : List ℕ). written_then more before.sink.written) (no_items text_of_step (λ trace. refl) traces);
}

-- nothing is read by texts
no_reads : (texts : List (List ℕ)) → flat_map given_in (prints texts) ≡ []
no_reads [] = refl
no_reads (text ∷ texts) = no_reads texts

block_same : (config : Config) (lines : List ScriptLine) (contents : List LineFiles) (traces : List LineTrace)
    (places : List (List OwnPlace)) (texts : List (List ℕ)) (later : Histories) {before after : Progress}
    (read : HaveRead (forms_of lines) contents before after) → length contents ≡ length lines
    → length traces ≡ length lines
    → map (line_text config later) (lines_of (block_in lines contents traces places)) ≡ texts → (rest : Plan)
    → part_plan (line_text config later) (block_in lines contents traces places) rest
    ≡ plan_behind (read.read.steps ++ map (λ trace. End trace) (block_traces traces)) (plan_behind (prints texts) rest)
block_same config lines contents traces places texts later read held count prints_so rest =
    let ends : List Step = map (λ trace. End trace) (block_traces traces) in
    (λ i. lines_read (ran_forms lines contents traces places held count i)
    (ran_contents lines contents traces places held count i)
    (plan_behind (block_ends (line_text config later) lines contents traces places texts held count prints_so i) rest))
    ∙ read.read.same (plan_behind (ends ++ prints texts) rest)
    ∙ plan_twice read.read.steps (ends ++ prints texts) rest
    ∙ ap (λ (steps : List Step). plan_behind steps rest) (sym (append_assoc read.read.steps ends (prints texts)))
    ∙ sym (plan_twice (read.read.steps ++ ends) (prints texts) rest)

block_have : (lines : List ScriptLine) (contents : List LineFiles) (traces : List LineTrace)
    (places : List (List OwnPlace)) (given : Files) → length contents ≡ length lines → length traces ≡ length lines
    → HaveGiven (forms_of lines) contents given
    → HaveGiven (part_forms (block_in lines contents traces places))
    (part_contents (block_in lines contents traces places)) given
block_have lines contents traces places given held count have =
    subst (λ (forms : List LineForm). HaveGiven forms (part_contents (block_in lines contents traces places)) given)
    (sym (ran_forms lines contents traces places held count))
    (subst (λ (c : List LineFiles). HaveGiven (forms_of lines) c given)
    (sym (ran_contents lines contents traces places held count)) have)

module _ (config : Config) (lines : List ScriptLine) (contents : List LineFiles) (traces : List LineTrace)
    (places : List (List OwnPlace)) (texts : List (List ℕ)) (know known : Knowledge) (before read ended : Progress)
    (has_read : FilesRead lines contents before read) (held : length contents ≡ length lines)
    (count : length traces ≡ length lines) (placed : length places ≡ length lines)
    (did : PartTells config (block_in lines contents traces places) texts know known)
    (ends : Did (map (λ trace. End trace) (block_traces traces)) read ended) (first : read.ends ≡ before.ends)
    (noted : ended.ends ≡ read.ends ++ block_traces traces) where
  block_plan : (later : Histories) → HaveGrown known.seen later → (rest : Plan)
      → part_plan (line_text config later) (block_in lines contents traces places) rest
      ≡ plan_behind (has_read.read.steps ++ map (λ trace. End trace) (block_traces traces))
      (plan_behind (prints texts) rest)
  block_plan later grown rest =
      block_same config lines contents traces places texts later has_read held count (did.prints later grown) rest

  block_noted : ended.ends ≡ before.ends ++ block_traces traces
  block_noted = noted ∙ ap (λ (xs : List LineTrace). xs ++ block_traces traces) first

  block_gave : ended.folder.gave ≡ before.folder.gave ++ has_read.given
  block_gave = still_gave before.folder.gave has_read.given has_read.gave
      (ends.gave ∙ ap (λ (more : Files). read.folder.gave ++ more)
      (sym (no_items given_in (λ trace. refl) (block_traces traces))))

  pub block_ran : (after : Progress) → Did (prints texts) ended after → after.ends ≡ ended.ends
      → BlockRan config lines know.seen known.seen before after
  block_ran after wrote last = record {
    contents = contents;
    traces = traces;
    places = places;
    held = held;
    count = count;
    placed = placed;
    went = part_went (has_read.read.steps ++ map (λ trace. End trace) (block_traces traces)) did block_plan
        has_read.given (block_have lines contents traces places has_read.given held count has_read.have) after
        (last ∙ block_noted)
        (still_gave before.folder.gave has_read.given block_gave (wrote.gave ∙ ap (λ (more : Files). ended.folder.gave ++ more) (no_reads texts)))
        (did_then has_read.read.did ends) wrote;
  }

  pub block_cut : (after : Progress) (stopped : Stop) → Counts before ended → after.ends ≡ ended.ends
      → after.folder ≡ ended.folder → TextsStop texts stopped ended after
      → BlockHalts config lines know.seen known.seen stopped before after
  block_cut after stopped counts last kept stops = record {
    told = inr (record {
      contents = contents;
      traces = traces;
      places = places;
      held = held;
      count = count;
      placed = placed;
      cut = part_cut (has_read.read.steps ++ map (λ trace. End trace) (block_traces traces)) did block_plan
          has_read.given (block_have lines contents traces places has_read.given held count has_read.have) after stopped
          (last ∙ block_noted) (ap (λ (f : FolderState). f.gave) kept ∙ block_gave) (did_then has_read.read.did ends)
          stops.stops;
    });
    causes = causes_earlier before ended after stopped counts stops.causes;
  }

pub block_unread : (config : Config) (lines : List ScriptLine) (known : Histories) (stopped : Stop)
    {before after : Progress} → after.ends ≡ before.ends → FilesStop lines stopped before after
    → BlockHalts config lines known known stopped before after
block_unread config lines known stopped ends stops = record {
  told = inl (early_read known stopped ends stops);
  causes = stops.halts.causes;
}

pub block_starved : (config : Config) (lines : List ScriptLine) (contents : List LineFiles) (from ended : Histories)
    {before after : Progress} → after.ends ≡ before.ends → AreFronts from ended
    → FilesRead lines contents before after → BlockHalts config lines from ended stop.OutOfMemory before after
block_starved config lines contents from ended ends front read = record {
  told = inl (early_starved from ended ends front read);
  causes = tt;
}

-- ---- a part of a script

pub alone_to : {config : Config} {line : ScriptLine} {behind : List ScriptLine} {from known : Histories}
    {before after : Progress} (left : List ScriptLine) → IsLine line behind → behind ≡ left
    → AloneRan config line.what from known before after
    → LinesRanTo config (line ∷ behind) left from known before after
alone_to {config} {line} left is rest alone = record {
  part = line ∷ [];
  split = ap (λ (more : List ScriptLine). line ∷ more) rest;
  ran = lines_went (line ∷ []) (alone.content ∷ []) (alone.own ∷ []) alone.went.done.given alone.went.done.have refl
      refl
      (alone_part (record { what = line.what; content = alone.content; trace = alone.trace; own = alone.own }) is.acts)
      alone.went alone.went.done.gave;
}

pub alone_halts : {config : Config} {line : ScriptLine} {behind : List ScriptLine} {from known : Histories}
    {before after : Progress} (stopped : Stop) → IsLine line behind
    → AloneHalts config line.what from known stopped before after
    → LinesHalt config (line ∷ behind) from known stopped before after
alone_halts {config} {line} {behind} {from} {known} stopped is halts = record {
  told = elim halts.told [
    | inl early ↦ lines_early config line behind (line.what ∷ []) from known stopped
        (λ status reads. alone_left status line behind reads is.acts) early
    | inr late ↦ lines_cut (line ∷ []) (late.content ∷ []) (late.own ∷ []) late.cut.done.given late.cut.done.have refl
        refl (alone_part (record { what = line.what; content = late.content; trace = late.trace; own = late.own }) is.acts)
        behind stopped (same_fronts known) late.cut late.cut.done.gave
  ];
  causes = halts.causes;
}

-- the lines of a block, with the one that begins it and the one that ends it
abbrev pub block_lines : ScriptLine → ScriptLine → List ScriptLine → List ScriptLine
block_lines line end lines = line ∷ (lines ++ end ∷ [])

-- what their files held, and the places of their own entries
abbrev block_contents : List LineFiles → List LineFiles
block_contents contents = no_files ∷ (contents ++ no_files ∷ [])

abbrev block_places : List (List OwnPlace) → List (List OwnPlace)
block_places places = [] ∷ (places ++ [] ∷ [])

pub block_whole : (line : ScriptLine) (behind lines left : List ScriptLine) (is : IsBlock line behind lines left)
    → line ∷ behind ≡ block_lines line is.ends.end lines ++ left
block_whole line behind lines left is = ap (λ (rest : List ScriptLine). line ∷ rest)
    (is.ends.split ∙ sym (append_assoc lines (is.ends.end ∷ []) left))

counted : {X : Type 0} (last : X) (end : ScriptLine) (xs : List X) (lines : List ScriptLine)
    → length xs ≡ length lines → length (xs ++ last ∷ []) ≡ length (lines ++ end ∷ [])
counted last end [] [] count = refl
counted last end [] (other ∷ lines) count = absurd cc
counted last end (x ∷ xs) [] count = absurd cc
counted last end (x ∷ xs) (other ∷ lines) count =
    ap (λ (n : ℕ). suc n) (counted last end xs lines (omega (arith, count)))

pub block_count : (line end : ScriptLine) (traces : List LineTrace) (lines : List ScriptLine)
    → length traces ≡ length lines → length (block_traces traces) ≡ length (block_lines line end lines)
block_count line end traces lines count = ap (λ (n : ℕ). suc n) (counted came.Done end traces lines count)

block_placed : (line end : ScriptLine) (places : List (List OwnPlace)) (lines : List ScriptLine)
    → length places ≡ length lines → length (block_places places) ≡ length (block_lines line end lines)
block_placed line end places lines placed = ap (λ (n : ℕ). suc n) (counted [] end places lines placed)

-- what begins a block, and what ends it, names no file
opens_none : (what : LineForm) → mark_of what ≡ mark.Opens → files_of what ≡ unnamed
opens_none (form.Feed name) is = absurd cc
opens_none (form.Pour first second) is = absurd cc
opens_none (form.Ask asked) is = refl
opens_none (form.Follow moments text) is = refl
opens_none (form.Control control) is = refl
opens_none (form.Standing line) is = refl
opens_none (form.Block what) is = refl

closes_none : (what : LineForm) → mark_of what ≡ mark.Closes → files_of what ≡ unnamed
closes_none (form.Feed name) is = absurd cc
closes_none (form.Pour first second) is = absurd cc
closes_none (form.Ask asked) is = refl
closes_none (form.Follow moments text) is = refl
closes_none (form.Control control) is = refl
closes_none (form.Standing line) is = refl
closes_none (form.Block what) is = refl

-- what was read for the lines of a block was read for it with what begins it and what ends it
block_given : (line : ScriptLine) (behind lines left : List ScriptLine) (contents : List LineFiles) (given : Files)
    (is : IsBlock line behind lines left) → HaveGiven (forms_of lines) contents given
    → HaveGiven (forms_of (block_lines line is.ends.end lines)) (block_contents contents) given
block_given line behind lines left contents given is have =
    subst (λ (forms : List LineForm). HaveGiven (line.what ∷ forms) (block_contents contents) given)
    (sym (forms_both lines (is.ends.end ∷ [])))
    (subst (HaveGiven (line.what ∷ (forms_of lines ++ is.ends.end.what ∷ [])) (block_contents contents))
    (append-nil given)
    (have_both (have_idle line.what (opens_none line.what is.opens))
    (have_both have (have_idle is.ends.end.what (closes_none is.ends.end.what is.ends.closes)))))

-- what was read for a block is what was read for its lines
block_lines_have : (lines : List ScriptLine) (contents : List LineFiles) (traces : List LineTrace)
    (places : List (List OwnPlace)) (given : Files) → length contents ≡ length lines → length traces ≡ length lines
    → HaveGiven (part_forms (block_in lines contents traces places))
    (part_contents (block_in lines contents traces places)) given
    → HaveGiven (forms_of lines) contents given
block_lines_have lines contents traces places given held count have =
    subst (λ (forms : List LineForm). HaveGiven forms contents given)
    (ran_forms lines contents traces places held count)
    (subst (λ (c : List LineFiles). HaveGiven (part_forms (block_in lines contents traces places)) c given)
    (ran_contents lines contents traces places held count) have)

abbrev idle_line : ScriptLine → RanLine
idle_line line = record { what = line.what; content = no_files; trace = came.Done; own = [] }

block_is : (line : ScriptLine) (behind lines left : List ScriptLine) (contents : List LineFiles)
    (traces : List LineTrace) (places : List (List OwnPlace)) (is : IsBlock line behind lines left)
    → length contents ≡ length lines → length traces ≡ length lines → length places ≡ length lines
    → IsPart (ran_lines (block_lines line is.ends.end lines) (block_contents contents) (block_traces traces)
    (block_places places)) (block_in lines contents traces places)
block_is line behind lines left contents traces places is held count placed =
    subst (λ (ran : List RanLine). IsPart ran (block_in lines contents traces places))
    (sym (ap (λ (ran : List RanLine). idle_line line ∷ ran)
    (ran_both lines (is.ends.end ∷ []) contents (no_files ∷ []) traces (came.Done ∷ []) places ([] ∷ []) held count
    placed)))
    (block_part (idle_line line) (idle_line is.ends.end) (ran_lines lines contents traces places)
    is.opens is.ends.closes (all_act lines contents traces places is.ends.acts))

pub block_to : {config : Config} {line : ScriptLine} {behind : List ScriptLine} {from known : Histories}
    {before after : Progress} (lines left : List ScriptLine) → IsBlock line behind lines left
    → BlockRan config lines from known before after
    → LinesRanTo config (line ∷ behind) left from known before after
block_to {config} {line} {behind} lines left is block =
    let done = block.went.done in
    record {
      part = block_lines line is.ends.end lines;
      split = block_whole line behind lines left is;
      ran = lines_went (block_lines line is.ends.end lines) (block_contents block.contents) (block_places block.places)
          done.given
          (block_given line behind lines left block.contents done.given is
          (block_lines_have lines block.contents block.traces block.places done.given block.held block.count done.have))
          (block_count line is.ends.end block.traces lines block.count)
          (block_placed line is.ends.end block.places lines block.placed)
          (block_is line behind lines left block.contents block.traces block.places is block.held block.count
          block.placed) block.went done.gave;
    }

pub block_halts : {config : Config} {line : ScriptLine} {behind : List ScriptLine} {from known : Histories}
    {before after : Progress} (lines left : List ScriptLine) → IsBlock line behind lines left → (stopped : Stop)
    → BlockHalts config lines from known stopped before after
    → LinesHalt config (line ∷ behind) from known stopped before after
block_halts {config} {line} {behind} {from} {known} {before} {after} lines left is stopped halts = record {
  told = elim halts.told [
    | inl early ↦ lines_early config line behind (forms_of lines) from known stopped
        (λ status reads. ap (λ (rest : List ScriptLine). left_plan status (line ∷ rest) reads) is.ends.split
        ∙ block_left status line is.ends.end lines left reads is.opens is.ends.acts is.ends.closes) early
    | inr late ↦ subst (λ (all : List ScriptLine). LinesStopped config all stopped from known before after)
        (sym (block_whole line behind lines left is))
        (lines_cut (block_lines line is.ends.end lines) (block_contents late.contents) (block_places late.places)
        late.cut.done.given
        (block_given line behind lines left late.contents late.cut.done.given is
        (block_lines_have lines late.contents late.traces late.places late.cut.done.given late.held late.count
        late.cut.done.have))
        (block_count line is.ends.end late.traces lines late.count)
        (block_placed line is.ends.end late.places lines late.placed)
        (block_is line behind lines left late.contents late.traces late.places is late.held late.count late.placed) left
        stopped (same_fronts known) late.cut late.cut.done.gave)
  ];
  causes = halts.causes;
}
