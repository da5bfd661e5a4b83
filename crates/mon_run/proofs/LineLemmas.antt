-- Lines that ran, part behind part, and how a part ran.
use Rattle.std.proofs.Common.{◌≡◌, ◌≤◌, ◌∙◌, inr, ℕ, ◌+◌, List, [], ◌∷◌, ◌++◌, length, drop, take, refl, sym, ap, subst}
use Rattle.std.proofs.Common.{append_assoc, append-nil, arith}
use Rattle.std.proofs.lemmas.List.{length-append, length-map}
use Rattle.std.proofs.lemmas.List.Concat.{flat_map-append}
use Rattle.history_book.specs.Histories.{AreFronts}
use Rattle.mon_config.specs.declared.config.Config.{Config}
use Rattle.mon_script.specs.declared.forms.LineForm.{LineForm}
use Rattle.mon_script.specs.declared.script.ScriptLine.{ScriptLine}
use Rattle.mon_value.specs.declared.histories.Histories.{Histories}
use Rattle.mon_run.specs.Endings.{Progress}
use Rattle.mon_run.specs.Outside.{Files}
use Rattle.mon_run.specs.Plans.{contents_of, forms_of, left_plan, part_plan, parts_plan}
use Rattle.mon_run.specs.Plans.{reads_behind, sought}
use Rattle.mon_run.specs.Steps.{Plan, plan_behind}
use Rattle.mon_run.specs.declared.stop.Stop.{Stop}
use Rattle.mon_run.specs.within.Lines.{HaveGiven, LinesHalt, LinesRan, LinesRanTo, LinesStopped, PartCut, PartDone}
use Rattle.mon_run.specs.within.Lines.{PartWent, StandApart, StoppedEarly, placed_by, placed_plan}
use Rattle.mon_run.specs.within.Stops.{Counts, Ran, Stops}
use Rattle.mon_run.proofs.EndLemmas.{causes_earlier}
use Rattle.part_runs.proofs.GrownLemmas.{grown_none, grown_then}
use Rattle.mon_run.proofs.PartLemmas.{IsPart, behind_both, behind_first, front_both, part_apart, part_whole, plans_both}
use Rattle.mon_run.proofs.PartLemmas.{ran_both, ran_first, ran_none}
use Rattle.mon_run.proofs.ReadingLemmas.{behind_append, forms_both, have_both, have_none, plans_ran}
use Rattle.mon_run.proofs.StepLemmas.{did_none, plan_twice, stops_behind}
use Rattle.run_theory.specs.Parts.{Part}
use Rattle.run_traces.specs.LineClaims.{AllRan}
use Rattle.run_traces.specs.LineDues.{asked_part, asked_parts}
use Rattle.run_traces.specs.LineTexts.{line_text}
use Rattle.run_traces.specs.RanLines.{OwnPlace, RanLine, parts_of, ran_lines}
use Rattle.run_traces.specs.declared.traces.LineTrace.{LineTrace}
use Rattle.run_traces.specs.declared.line_files.LineFiles.{LineFiles}

abbrev Parts : Type 0
Parts = List (Part RanLine)

-- ---- lines behind lines

-- parts behind parts, where ticks count as the queries that they asked
asked_behind : (config : Config) (known : Histories) (parts one other : Parts)
    → AllRan config known ((parts ++ asked_parts one) ++ asked_parts other)
    → AllRan config known (parts ++ asked_parts (one ++ other))
asked_behind config known parts one other ran =
    subst (λ (all : Parts). AllRan config known (parts ++ all)) (sym (flat_map-append asked_part one other))
    (subst (AllRan config known) (append_assoc parts (asked_parts one) (asked_parts other)) ran)

-- as many contents as lines
held_count : (lines : List ScriptLine) {contents : List LineFiles} {given : Files}
    → HaveGiven (forms_of lines) contents given → length contents ≡ length lines
held_count lines have = have.count ∙ length-map lines (λ (line : ScriptLine). line.what)

-- what lines say, and others
lines_given : (lines more : List ScriptLine) {contents others : List LineFiles} {given behind : Files}
    → HaveGiven (forms_of lines) contents given → HaveGiven (forms_of more) others behind
    → HaveGiven (forms_of (lines ++ more)) (contents ++ others) (given ++ behind)
lines_given lines more {contents} {others} {given} {behind} first second =
    subst (λ (forms : List LineForm). HaveGiven forms (contents ++ others) (given ++ behind))
    (sym (forms_both lines more)) (have_both first second)

-- no line ran
pub none_ran : (config : Config) (known : Histories) (p : Progress) → LinesRan config [] known known p p
none_ran config known p = record {
  contents = [];
  traces = [];
  places = [];
  ends = sym (append-nil p.ends);
  count = refl;
  placed = refl;
  given = [];
  gave = sym (append-nil p.folder.gave);
  have = have_none;
  apart = λ more. refl;
  grown = grown_none known;
  ran = λ parts ran. subst (AllRan config known) (sym (append-nil parts)) ran;
  did = λ later grown. record { steps = []; same = λ rest. refl; did = did_none p };
}

module _ {config : Config} {lines more : List ScriptLine} {from mid known : Histories} {before now after : Progress}
  where
    pub more_ran : LinesRan config lines from mid before now → LinesRan config more mid known now after
        → LinesRan config (lines ++ more) from known before after
    more_ran first second = record {
      contents = first.contents ++ second.contents;
      traces = first.traces ++ second.traces;
      places = first.places ++ second.places;
      ends = second.ends ∙ ap (λ (ends : List LineTrace). ends ++ second.traces) first.ends
          ∙ append_assoc before.ends first.traces second.traces;
      count = length-append first.traces second.traces
          ∙ (λ i. first.count i + second.count i) ∙ sym (length-append lines more);
      placed = length-append first.places second.places
          ∙ (λ i. first.placed i + second.placed i) ∙ sym (length-append lines more);
      given = first.given ++ second.given;
      gave = second.gave ∙ ap (λ (reads : Files). reads ++ second.given) first.gave
          ∙ append_assoc before.folder.gave first.given second.given;
      have = lines_given lines more first.have second.have;
      apart = subst StandApart (sym both) apart;
      grown = grown_then first.grown second.grown;
      ran = λ parts ran.
          subst (λ (all : List RanLine). AllRan config known (parts ++ asked_parts (parts_of all))) (sym both)
          (subst (λ (all : Parts). AllRan config known (parts ++ asked_parts all)) (sym (first.apart other))
          (asked_behind config known parts (parts_of one) (parts_of other)
          (second.ran (parts ++ asked_parts (parts_of one)) (first.ran parts ran))));
      did = λ later grown.
          let went = plans_ran (first.did later (grown_then second.grown grown)) (second.did later grown) in
          record {
            steps = went.steps;
            same = λ rest.
                ap (λ (all : List RanLine). parts_plan (line_text config later) (parts_of all) rest) both
                ∙ ap (λ (all : Parts). parts_plan (line_text config later) all rest) (first.apart other)
                ∙ plans_both (line_text config later) (parts_of one) (parts_of other) rest
                ∙ went.same rest;
            did = went.did;
          };
    }
      where
        one : List RanLine
        one = ran_lines lines first.contents first.traces first.places

        other : List RanLine
        other = ran_lines more second.contents second.traces second.places

        both : ran_lines (lines ++ more) (first.contents ++ second.contents) (first.traces ++ second.traces)
            (first.places ++ second.places) ≡ one ++ other
        both = ran_both lines more first.contents second.contents first.traces second.traces first.places second.places
            (held_count lines first.have) first.count first.placed

        apart : StandApart (one ++ other)
        apart rest =
            ap parts_of (append_assoc one other rest)
            ∙ first.apart (other ++ rest)
            ∙ ap (λ (parts : Parts). parts_of one ++ parts) (second.apart rest)
            ∙ sym (append_assoc (parts_of one) (parts_of other) (parts_of rest))
            ∙ ap (λ (parts : Parts). parts ++ parts_of rest) (sym (first.apart other))

    pub stopped_behind : (stopped : Stop) → LinesRan config lines from mid before now
        → LinesStopped config more stopped mid known now after
        → LinesStopped config (lines ++ more) stopped from known before after
    stopped_behind stopped first second = record {
      traces = first.traces ++ second.traces;
      places = first.places ++ second.places;
      ends = second.ends ∙ ap (λ (ends : List LineTrace). ends ++ second.traces) first.ends
          ∙ append_assoc before.ends first.traces second.traces;
      few = subst (λ (n : ℕ). n ≤ length (lines ++ more)) (sym (length-append first.traces second.traces))
          (subst (λ (n : ℕ). length first.traces + length second.traces ≤ n) (sym (length-append lines more))
          (let count = first.count in let behind = second.few in omega (arith, count, behind)));
      reads = reads;
      gave = second.gave ∙ ap (λ (front : Files). front ++ second.reads) first.gave
          ∙ append_assoc before.folder.gave first.given second.reads;
      known = second.known;
      grown = grown_then first.grown second.grown;
      front = second.front;
      whole = second.whole;
      ran = λ parts ran.
          subst (λ (all : List RanLine). AllRan config second.known (parts ++ asked_parts (parts_of all))) (sym both)
          (subst (λ (all : Parts). AllRan config second.known (parts ++ asked_parts all)) (sym (first.apart other))
          (asked_behind config second.known parts (parts_of one) (parts_of other)
          (second.ran (parts ++ asked_parts (parts_of one)) (first.ran parts ran))));
      stops = λ later grown status.
          let went = first.did later (grown_then second.grown grown) in
          let rest : Plan = placed_plan config second.reads second.places later status more second.traces in
          let left : Plan = left_plan status (drop (length second.traces) more)
          (reads_behind (forms_of (take (length second.traces) more)) second.reads) in
          subst (λ (p : Plan). Stops p stopped before after)
          (sym ((λ i. parts_plan (line_text config later) (parts_of (both i))
          (left_plan status (behind_both first.traces lines more second.traces first.count i) (reads_left i)))
          ∙ ap (λ (all : Parts). parts_plan (line_text config later) all left) (first.apart other)
          ∙ plans_both (line_text config later) (parts_of one) (parts_of other) left
          ∙ went.same rest))
          (stops_behind rest after stopped went.did (second.stops later grown status));
    }
      where
        reads : Files
        reads = first.given ++ second.reads

        one : List RanLine
        one = ran_lines lines first.contents first.traces first.places

        other : List RanLine
        other = placed_by second.reads second.places more second.traces

        both : placed_by reads (first.places ++ second.places) (lines ++ more) (first.traces ++ second.traces)
            ≡ one ++ other
        both =
            ap (λ (contents : List LineFiles). ran_lines (lines ++ more) contents (first.traces ++ second.traces)
            (first.places ++ second.places))
            (ap (λ (forms : List LineForm). contents_of forms reads) (forms_both lines more)
            ∙ first.have.held (forms_of more) second.reads)
            ∙ ran_both lines more first.contents (contents_of (forms_of more) second.reads) first.traces second.traces
            first.places second.places (held_count lines first.have) first.count first.placed

        reads_left : reads_behind (forms_of (take (length (first.traces ++ second.traces)) (lines ++ more))) reads
            ≡ reads_behind (forms_of (take (length second.traces) more)) second.reads
        reads_left =
            ap (λ (front : List ScriptLine). reads_behind (forms_of front) reads)
            (front_both first.traces lines more second.traces first.count)
            ∙ ap (λ (forms : List LineForm). reads_behind forms reads)
            (forms_both lines (take (length second.traces) more))
            ∙ behind_append (forms_of lines) (forms_of (take (length second.traces) more)) reads
            ∙ ap (reads_behind (forms_of (take (length second.traces) more))) (first.have.behind second.reads)

-- ---- a part as lines

module _ {config : Config} {part : Part RanLine} {traces : List LineTrace} {from known : Histories}
    {before after : Progress} (lines : List ScriptLine) (contents : List LineFiles) (places : List (List OwnPlace))
    (given : Files) (have : HaveGiven (forms_of lines) contents given) (count : length traces ≡ length lines)
    (placed : length places ≡ length lines) (is : IsPart (ran_lines lines contents traces places) part) where
  part_ran : PartDone config part traces from known before after → (parts : Parts) → AllRan config from parts
      → AllRan config known (parts ++ asked_parts (parts_of (ran_lines lines contents traces places)))
  part_ran done parts ran =
      subst (λ (all : Parts). AllRan config known (parts ++ asked_parts all))
      (sym (part_whole (ran_lines lines contents traces places) part is))
      (subst (λ (all : Parts). AllRan config known (parts ++ all)) (sym (append-nil (asked_part part)))
      (done.ran parts ran))

  pub lines_went : PartWent config part traces from known before after
      → after.folder.gave ≡ before.folder.gave ++ given → LinesRan config lines from known before after
  lines_went went gave = record {
    contents = contents;
    traces = traces;
    places = places;
    ends = went.done.ends;
    count = count;
    placed = placed;
    given = given;
    gave = gave;
    have = have;
    apart = part_apart (ran_lines lines contents traces places) part is;
    grown = went.done.grown;
    ran = part_ran went.done;
    did = λ later grown.
        let did = went.did later grown in
        record {
          steps = did.steps;
          same = λ rest.
              ap (λ (all : Parts). parts_plan (line_text config later) all rest)
              (part_whole (ran_lines lines contents traces places) part is)
              ∙ did.same rest;
          did = did.did;
        };
  }

  pub lines_cut : (left : List ScriptLine) (stopped : Stop) → AreFronts known known
      → PartCut config part traces from known before after stopped
      → after.folder.gave ≡ before.folder.gave ++ given
      → LinesStopped config (lines ++ left) stopped from known before after
  lines_cut left stopped fronts cut gave = record {
    traces = traces;
    places = places;
    ends = cut.done.ends;
    few = omega (arith, count, length-append lines left);
    reads = given;
    gave = gave;
    known = known;
    grown = cut.done.grown;
    front = fronts;
    whole = inr refl;
    ran = λ parts ran.
        subst (λ (all : List RanLine). AllRan config known (parts ++ asked_parts (parts_of all))) (sym first)
        (part_ran cut.done parts ran);
    stops = λ later grown status.
        let rest : Plan = left_plan status (drop (length traces) (lines ++ left))
        (reads_behind (forms_of (take (length traces) (lines ++ left))) given) in
        subst (λ (p : Plan). Stops p stopped before after)
        (sym (ap (λ (all : List RanLine). parts_plan (line_text config later) (parts_of all) rest) first
        ∙ ap (λ (all : Parts). parts_plan (line_text config later) all rest)
        (part_whole (ran_lines lines contents traces places) part is)))
        (cut.stops later grown rest);
  }
    where
      first : placed_by given places (lines ++ left) traces ≡ ran_lines lines contents traces places
      first =
          ap (λ (held : List LineFiles). ran_lines (lines ++ left) held traces places)
          (ap (λ (forms : List LineForm). contents_of forms given) (forms_both lines left)
          ∙ ap (contents_of (forms_of lines ++ forms_of left)) (sym (append-nil given))
          ∙ have.held (forms_of left) [])
          ∙ ran_first lines left contents (contents_of (forms_of left) []) traces places (held_count lines have) count
          placed

-- a run stopped before its next part came to something
pub lines_early : (config : Config) (line : ScriptLine) (behind : List ScriptLine) (forms : List LineForm)
    (from ended : Histories) (stopped : Stop) {before after : Progress}
    → ((status : ℕ) (reads : Files) → left_plan status (line ∷ behind) reads ≡ sought forms reads)
    → StoppedEarly forms from ended stopped before after
    → LinesStopped config (line ∷ behind) stopped from ended before after
lines_early config line behind forms from ended stopped {before} {after} next early = record {
  traces = [];
  places = [];
  ends = early.ends ∙ sym (append-nil before.ends);
  few = omega arith;
  reads = early.halts.reads;
  gave = early.halts.gave;
  known = from;
  grown = grown_none from;
  front = early.front;
  whole = early.whole;
  ran = λ parts ran.
      subst (λ (all : List RanLine). AllRan config from (parts ++ asked_parts (parts_of all))) (sym none)
      (subst (AllRan config from) (sym (append-nil parts)) ran);
  stops = λ later grown status.
      subst (λ (p : Plan). Stops p stopped before after)
      (sym (ap (λ (all : List RanLine). parts_plan (line_text config later) (parts_of all)
      (left_plan status (line ∷ behind) early.halts.reads)) none ∙ next status early.halts.reads))
      early.halts.halts.stops;
}
  where
    none : placed_by early.halts.reads [] (line ∷ behind) [] ≡ []
    none = ran_none (line ∷ behind) (contents_of (forms_of (line ∷ behind)) early.halts.reads) []

-- ---- the loop over parts

abbrev pub Lines : Type 0
Lines = List ScriptLine

-- no part ran so far
pub ran_to_none : (config : Config) (lines : Lines) (known : Histories) (p : Progress)
    → LinesRanTo config lines lines known known p p
ran_to_none config lines known p = record { part = []; split = refl; ran = none_ran config known p }

-- one more
pub ran_further : {config : Config} {lines left rest : Lines} {from mid known : Histories} {before now : Progress}
    (after : Progress) → LinesRanTo config lines left from mid before now
    → LinesRanTo config left rest mid known now after → LinesRanTo config lines rest from known before after
ran_further {config} {lines} {left} {rest} after one other = record {
  part = one.part ++ other.part;
  split = one.split ∙ ap (λ (xs : Lines). one.part ++ xs) other.split
      ∙ sym (append_assoc one.part other.part rest);
  ran = more_ran one.ran other.ran;
}

-- all of them
pub all_ran_to : {config : Config} {lines left : Lines} {from known : Histories} {before after : Progress}
    → left ≡ [] → LinesRanTo config lines left from known before after
    → LinesRan config lines from known before after
all_ran_to {config} {lines} {left} {from} {known} {before} {after} none one =
    subst (λ (all : Lines). LinesRan config all from known before after)
    (sym (one.split ∙ ap (λ (xs : Lines). one.part ++ xs) none ∙ append-nil one.part)) one.ran

-- the next one stopped
pub lines_halt : {config : Config} {lines left : Lines} {from mid known : Histories} {before now : Progress}
    (after : Progress) (stopped : Stop) → Counts before now → LinesRanTo config lines left from mid before now
    → LinesHalt config left mid known stopped now after → LinesHalt config lines from known stopped before after
lines_halt {config} {lines} {left} {from} {mid} {known} {before} {now} after stopped counts one halts = record {
  told = subst (λ (all : Lines). LinesStopped config all stopped from known before after) (sym one.split)
      (stopped_behind stopped one.ran halts.told);
  causes = causes_earlier before now after stopped counts halts.causes;
}
