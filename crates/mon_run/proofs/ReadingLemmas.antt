-- The files of lines, as they are read.
use Rattle.std.proofs.Common.{◌≡◌, ◌∙◌, ◌+◌, ℕ, List, [], ◌∷◌, ◌++◌, length, map, Option, Some, None, false, refl, sym}
use Rattle.std.proofs.Common.{ap, subst, append_assoc, append-nil, arith}
use Rattle.std.proofs.lemmas.List.{length-append}
use Rattle.mon_script.specs.declared.forms.LineForm.{LineForm}
use Rattle.mon_script.specs.declared.forms.LineForm.TheVariants as form
use Rattle.mon_script.specs.declared.script.ScriptLine.{ScriptLine}
use Rattle.mon_run.specs.Endings.{Did, Progress}
use Rattle.mon_run.specs.Outside.{Files}
use Rattle.mon_run.specs.Plans.{content_next, contents_of, forms_of, line_read, lines_read, named_read, one_behind}
use Rattle.mon_run.specs.Plans.{one_next, one_read, reads_behind, reads_next, seek, seek_one, sought}
use Rattle.mon_run.specs.Steps.{Ask, Plan, Print, Step, Write, is_too_long, next_read, plan_behind, read_plan}
use Rattle.mon_run.specs.declared.stop.Stop.{Stop}
use Rattle.mon_run.specs.declared.stop.Stop.TheVariants as stop
use Rattle.mon_run.specs.within.Lines.{FileStops, FilesStop, HaveGiven, HaveRead, TextsStop, prints}
use Rattle.mon_run.specs.within.Stops.{Counts, HaltsBy, Ran, ReadStops, Stops, WriteStops}
use Rattle.mon_run.proofs.EndLemmas.{causes_earlier}
use Rattle.mon_run.proofs.RunLemmas.{cut_at}
use Rattle.mon_run.proofs.StepLemmas.{did_by, did_none, did_print, did_then, none_sought, not_long, plan_twice, starved}
use Rattle.mon_run.proofs.StepLemmas.{stops_behind}
use Rattle.run_traces.specs.LineAsks.{FileNames, files_of, unnamed}
use Rattle.run_traces.specs.RanLines.{no_files, one_file}
use Rattle.run_traces.specs.declared.line_files.LineFiles.{LineFiles}

-- ---- parts of a plan, one behind the other

pub plans_ran : {first second : Plan → Plan} {before mid after : Progress} → Ran first before mid
    → Ran second mid after → Ran (λ rest. first (second rest)) before after
plans_ran {first} {second} one other = record {
  steps = one.steps ++ other.steps;
  same = λ rest. ap first (other.same rest) ∙ one.same (plan_behind other.steps rest)
      ∙ plan_twice one.steps other.steps rest;
  did = did_then one.did other.did;
}

-- ---- what the reads of lines gave

abbrev Contents : Type 0
Contents = List LineFiles

-- what the read of a file gave
abbrev given_one : Option (List ℕ) → List ℕ → Files
given_one None content = []
given_one (Some name) content = (name, content) ∷ []

-- what those of a line's files gave
abbrev given_for : FileNames → LineFiles → Files
given_for names content = given_one names.first content.first ++ given_one names.second content.second

-- a file that isn't named holds nothing
pub record AreNamed (names : FileNames) (content : LineFiles) : Type 0 where
  pub first : names.first ≡ None → content.first ≡ []
  pub second : names.second ≡ None → content.second ≡ []

first_next : (name : Option (List ℕ)) (content : List ℕ) (more : Files) (rest : List ℕ → Files → Contents)
    → (name ≡ None → content ≡ []) → one_next name (given_one name content ++ more) rest ≡ rest content more
first_next None content more rest none = ap (λ (c : List ℕ). rest c more) (sym (none refl))
first_next (Some name) content more rest none = refl

next_content : (names : FileNames) (content : LineFiles) (more : Files) (rest : Files → Contents) → AreNamed names content
    → content_next names (given_for names content ++ more) rest ≡ content ∷ rest more
next_content names content more rest none =
    ap (λ (reads : Files). content_next names reads rest)
    (append_assoc (given_one names.first content.first) (given_one names.second content.second) more)
    ∙ first_next names.first content.first (given_one names.second content.second ++ more)
    (λ one left. one_next names.second left (λ other behind. record { first = one; second = other } ∷ rest behind))
    none.first
    ∙ first_next names.second content.second more
    (λ other behind. record { first = content.first; second = other } ∷ rest behind) none.second

first_behind : (name : Option (List ℕ)) (content : List ℕ) (more : Files) (rest : Files → Files)
    → one_behind name (given_one name content ++ more) rest ≡ rest more
first_behind None content more rest = refl
first_behind (Some name) content more rest = refl

next_behind : (names : FileNames) (content : LineFiles) (more : Files) (rest : Files → Files)
    → reads_next names (given_for names content ++ more) rest ≡ rest more
next_behind names content more rest =
    ap (λ (reads : Files). reads_next names reads rest)
    (append_assoc (given_one names.first content.first) (given_one names.second content.second) more)
    ∙ first_behind names.first content.first (given_one names.second content.second ++ more)
    (λ left. one_behind names.second left rest)
    ∙ first_behind names.second content.second more rest

first_seek : (name : Option (List ℕ)) (content : List ℕ) (more : Files) (rest : Files → Plan)
    → seek_one name (given_one name content ++ more) rest ≡ one_read name content (rest more)
first_seek None content more rest = refl
first_seek (Some name) content more rest = refl

next_seek : (names : FileNames) (content : LineFiles) (more : Files) (rest : Files → Plan)
    → seek names (given_for names content ++ more) rest ≡ named_read names content (rest more)
next_seek names content more rest =
    ap (λ (reads : Files). seek names reads rest)
    (append_assoc (given_one names.first content.first) (given_one names.second content.second) more)
    ∙ first_seek names.first content.first (given_one names.second content.second ++ more)
    (λ left. seek_one names.second left rest)
    ∙ ap (one_read names.first content.first) (first_seek names.second content.second more rest)

-- of no line
pub have_none : HaveGiven [] [] []
have_none = record {
  count = refl;
  held = λ others more. refl;
  behind = λ more. refl;
  seeks = λ others more. refl;
}

-- of one
pub have_one : (what : LineForm) (content : LineFiles) → AreNamed (files_of what) content
    → HaveGiven (what ∷ []) (content ∷ []) (given_for (files_of what) content)
have_one what content none = record {
  count = refl;
  held = λ others more. next_content (files_of what) content more (contents_of others) none;
  behind = λ more. next_behind (files_of what) content more (reads_behind []);
  seeks = λ others more. next_seek (files_of what) content more (sought others);
}

-- of one that names no file
pub have_idle : (what : LineForm) → files_of what ≡ unnamed → HaveGiven (what ∷ []) (no_files ∷ []) []
have_idle what none =
    subst (λ (names : FileNames). HaveGiven (what ∷ []) (no_files ∷ []) (given_for names no_files)) none
    (have_one what no_files (record { first = λ same. refl; second = λ same. refl }))

one_by : (name : Option (List ℕ)) (reads : Files) (first rest whole : Files → Files)
    → ((more : Files) → whole more ≡ rest (first more)) → one_behind name reads whole ≡ rest (one_behind name reads first)
one_by None reads first rest whole same = same reads
one_by (Some name) [] first rest whole same = same []
one_by (Some name) (read ∷ reads) first rest whole same = same reads

behind_by : (names : FileNames) (reads : Files) (first rest whole : Files → Files)
    → ((more : Files) → whole more ≡ rest (first more))
    → reads_next names reads whole ≡ rest (reads_next names reads first)
behind_by names reads first rest whole same =
    one_by names.first reads (λ left. one_behind names.second left first) rest
    (λ left. one_behind names.second left whole) (λ left. one_by names.second left first rest whole same)

pub behind_append : (forms others : List LineForm) (reads : Files)
    → reads_behind (forms ++ others) reads ≡ reads_behind others (reads_behind forms reads)
behind_append [] others reads = refl
behind_append (what ∷ forms) others reads =
    behind_by (files_of what) reads (reads_behind forms) (reads_behind others) (reads_behind (forms ++ others))
    (behind_append forms others)

reads_both : (forms others : List LineForm) (contents more : Contents) (rest : Plan) → length contents ≡ length forms
    → lines_read (forms ++ others) (contents ++ more) rest ≡ lines_read forms contents (lines_read others more rest)
reads_both [] others [] more rest same = refl
reads_both [] others (content ∷ contents) more rest same = absurd cc
reads_both (what ∷ forms) others [] more rest same = absurd cc
reads_both (what ∷ forms) others (content ∷ contents) more rest same =
    ap (line_read what content) (reads_both forms others contents more rest (omega (arith, same)))

-- of lines, and of others
pub have_both : {forms others : List LineForm} {contents more : Contents} {given behind : Files}
    → HaveGiven forms contents given → HaveGiven others more behind
    → HaveGiven (forms ++ others) (contents ++ more) (given ++ behind)
have_both {forms} {others} {contents} {more} {given} {behind} first second = record {
  count = length-append contents more ∙ (λ i. first.count i + second.count i) ∙ sym (length-append forms others);
  held = λ rest reads.
      (λ i. contents_of (append_assoc forms others rest i) (append_assoc given behind reads i))
      ∙ first.held (others ++ rest) (behind ++ reads)
      ∙ ap (λ (c : Contents). contents ++ c) (second.held rest reads)
      ∙ sym (append_assoc contents more (contents_of rest reads));
  behind = λ reads.
      ap (reads_behind (forms ++ others)) (append_assoc given behind reads)
      ∙ behind_append forms others (given ++ (behind ++ reads))
      ∙ ap (reads_behind others) (first.behind (behind ++ reads))
      ∙ second.behind reads;
  seeks = λ rest reads.
      (λ i. sought (append_assoc forms others rest i) (append_assoc given behind reads i))
      ∙ first.seeks (others ++ rest) (behind ++ reads)
      ∙ ap (lines_read forms contents) (second.seeks rest reads)
      ∙ sym (reads_both forms others contents more (sought rest reads) first.count);
}

-- ---- files that were read

pub read_both : {forms others : List LineForm} {contents more : Contents} {before mid after : Progress}
    → HaveRead forms contents before mid → HaveRead others more mid after
    → HaveRead (forms ++ others) (contents ++ more) before after
read_both {forms} {others} {contents} {more} {before} first second =
    let both = plans_ran first.read second.read in
    record {
      given = first.given ++ second.given;
      gave = second.gave ∙ ap (λ (reads : Files). reads ++ second.given) first.gave
          ∙ append_assoc before.folder.gave first.given second.given;
      have = have_both first.have second.have;
      read = record {
        steps = both.steps;
        same = λ rest. reads_both forms others contents more rest first.have.count ∙ both.same rest;
        did = both.did;
      };
    }

-- a feed's file
pub feed_read : (name content : List ℕ) (kept : LineFiles) {before after : Progress} → kept ≡ one_file content
    → is_too_long content ≡ false → Did (Ask name content ∷ []) before after
    → HaveRead (form.Feed name ∷ []) (kept ∷ []) before after
feed_read name content kept {before} {after} same short did =
    subst (λ (c : LineFiles). HaveRead (form.Feed name ∷ []) (c ∷ []) before after) (sym same)
    (record {
      given = (name, content) ∷ [];
      gave = did.gave;
      have = have_one (form.Feed name) (one_file content)
          (record { first = λ none. absurd cc; second = λ none. refl });
      read = record { steps = Ask name content ∷ []; same = λ rest. not_long name content rest short; did = did };
    })

pub feed_stops : (name : List ℕ) (stopped : Stop) {before after : Progress} → ReadStops name stopped before after
    → FileStops (form.Feed name) stopped before after
feed_stops name stopped stops = λ others. stops (λ content. sought others)

-- those of a pour
module _ (first second one : List ℕ) (short : is_too_long one ≡ false) {before mid : Progress}
    (did : Did (Ask first one ∷ []) before mid) where
  pub pour_read : (other : List ℕ) (kept : LineFiles) {after : Progress} → kept ≡ record { first = one; second = other }
      → is_too_long other ≡ false → Did (Ask second other ∷ []) mid after
      → HaveRead (form.Pour first second ∷ []) (kept ∷ []) before after
  pour_read other kept {after} same short_too then =
      let both = did_then did then in
      subst (λ (c : LineFiles). HaveRead (form.Pour first second ∷ []) (c ∷ []) before after) (sym same)
      (record {
        given = (first, one) ∷ (second, other) ∷ [];
        gave = both.gave;
        have = have_one (form.Pour first second) (record { first = one; second = other })
            (record { first = λ none. absurd cc; second = λ none. absurd cc });
        read = record {
          steps = Ask first one ∷ Ask second other ∷ [];
          same = λ rest. not_long first one (read_plan second other rest) short
              ∙ ap (plan_behind (Ask first one ∷ [])) (not_long second other rest short_too);
          did = both;
        };
      })

  pub second_stops : (stopped : Stop) {after : Progress} → Counts before mid → ReadStops second stopped mid after
      → FileStops (form.Pour first second) stopped before after
  second_stops stopped {after} counts stops = λ others.
      let halts = stops (λ content. sought others) in
      let left = next_read halts.reads second (λ content. sought others) in
      record {
        reads = (first, one) ∷ halts.reads;
        gave = halts.gave ∙ ap (λ (reads : Files). reads ++ halts.reads) did.gave
            ∙ append_assoc before.folder.gave ((first, one) ∷ []) halts.reads;
        halts = record {
          stops = subst (λ (p : Plan). Stops p stopped before after) (sym (not_long first one left short))
              (stops_behind left after stopped did halts.halts.stops);
          causes = causes_earlier before mid after stopped counts halts.halts.causes;
        };
      }

pub first_stops : (first second : List ℕ) (stopped : Stop) {before after : Progress}
    → ReadStops first stopped before after → FileStops (form.Pour first second) stopped before after
first_stops first second stopped stops =
    λ others. stops (λ content left. seek_one (Some second) left (sought others))

-- another line has none
pub other_read : (what other : LineForm) (content : LineFiles) (p : Progress) → what ≡ other → files_of other ≡ unnamed
    → content ≡ no_files → HaveRead (what ∷ []) (content ∷ []) p p
other_read what other content p is none empty =
    subst (λ (w : LineForm). HaveRead (w ∷ []) (content ∷ []) p p) (sym is)
    (subst (λ (c : LineFiles). HaveRead (other ∷ []) (c ∷ []) p p) (sym empty)
    (record {
      given = [];
      gave = sym (append-nil p.folder.gave);
      have = have_idle other none;
      read = record {
        steps = [];
        same = λ rest. ap (λ (names : FileNames). named_read names no_files rest) none;
        did = did_none p;
      };
    }))

-- behind them memory ran out
pub read_starves : {forms : List LineForm} {contents : Contents} (others : List LineForm) {before after : Progress}
    → HaveRead forms contents before after → HaltsBy (sought (forms ++ others)) stop.OutOfMemory before after
read_starves {forms} {contents} others {before} {after} has = record {
  reads = has.given;
  gave = has.gave;
  halts = record {
    stops = subst (λ (p : Plan). Stops p stop.OutOfMemory before after)
        (sym (ap (sought (forms ++ others)) (sym (append-nil has.given)) ∙ has.have.seeks others []
        ∙ has.read.same (sought others [])))
        (starved has.read.steps (sought others []) (none_sought others []) has.read.did);
    causes = tt;
  };
}

-- ---- the files of lines

-- the files in front were read, and these are left
pub record ReadTo (lines left : List ScriptLine) (contents : Contents) (before now : Progress) : Type 0 where
  pub front : List ScriptLine
  pub split : lines ≡ front ++ left
  pub read : HaveRead (forms_of front) contents before now

pub forms_both : (front left : List ScriptLine) → forms_of (front ++ left) ≡ forms_of front ++ forms_of left
forms_both [] left = refl
forms_both (line ∷ front) left = ap (λ (forms : List LineForm). line.what ∷ forms) (forms_both front left)

pub read_none : (lines : List ScriptLine) (p : Progress) → ReadTo lines lines [] p p
read_none lines p = record {
  front = [];
  split = refl;
  read = record {
    given = [];
    gave = sym (append-nil p.folder.gave);
    have = have_none;
    read = record { steps = []; same = λ rest. refl; did = did_none p };
  };
}

pub read_more : {lines left rest : List ScriptLine} {contents more : Contents} (line : ScriptLine)
    (content : LineFiles) {before now : Progress} (after : Progress) → left ≡ line ∷ rest
    → ReadTo lines left contents before now → more ≡ contents ++ content ∷ []
    → HaveRead (line.what ∷ []) (content ∷ []) now after → ReadTo lines rest more before after
read_more {lines} {left} {rest} {contents} {more} line content {before} {now} after is so_far added read = record {
  front = so_far.front ++ line ∷ [];
  split = so_far.split ∙ ap (λ (l : List ScriptLine). so_far.front ++ l) is
      ∙ sym (append_assoc so_far.front (line ∷ []) rest);
  read = subst (λ (c : Contents). HaveRead (forms_of (so_far.front ++ line ∷ [])) c before after) (sym added)
      (subst (λ (f : List LineForm). HaveRead f (contents ++ content ∷ []) before after)
      (sym (forms_both so_far.front (line ∷ []))) (read_both so_far.read read));
}

pub read_all : {lines left : List ScriptLine} {contents : Contents} {before now : Progress} → left ≡ []
    → ReadTo lines left contents before now → HaveRead (forms_of lines) contents before now
read_all {lines} {left} {contents} {before} {now} none so_far =
    let all : lines ≡ so_far.front = so_far.split ∙ ap (λ (l : List ScriptLine). so_far.front ++ l) none
    ∙ append-nil so_far.front in
    subst (λ (l : List ScriptLine). HaveRead (forms_of l) contents before now) (sym all) so_far.read

-- what the lines say, by what those in front say
forms_whole : {lines left : List ScriptLine} {contents : Contents} (line : ScriptLine) (rest : List ScriptLine)
    {before now : Progress} → left ≡ line ∷ rest → (so_far : ReadTo lines left contents before now)
    → forms_of lines ≡ forms_of so_far.front ++ line.what ∷ forms_of rest
forms_whole line rest is so_far =
    ap forms_of (so_far.split ∙ ap (λ (l : List ScriptLine). so_far.front ++ l) is)
    ∙ forms_both so_far.front (line ∷ rest)

-- a read stopped them
pub reads_stop : {lines left : List ScriptLine} {contents : Contents} (line : ScriptLine) (rest : List ScriptLine)
    {before now : Progress} (after : Progress) (stopped : Stop) → Counts before now → left ≡ line ∷ rest
    → ReadTo lines left contents before now → FileStops line.what stopped now after → FilesStop lines stopped before after
reads_stop {lines} {left} {contents} line rest {before} {now} after stopped counts is so_far stops =
    let others : List LineForm = forms_of rest in
    let has = so_far.read in
    let halts = stops others in
    record {
      reads = has.given ++ halts.reads;
      gave = halts.gave ∙ ap (λ (reads : Files). reads ++ halts.reads) has.gave
          ∙ append_assoc before.folder.gave has.given halts.reads;
      halts = record {
        stops = subst (λ (p : Plan). Stops p stopped before after)
            (sym (ap (λ (f : List LineForm). sought f (has.given ++ halts.reads)) (forms_whole line rest is so_far)
            ∙ has.have.seeks (line.what ∷ others) halts.reads
            ∙ has.read.same (sought (line.what ∷ others) halts.reads)))
            (stops_behind (sought (line.what ∷ others) halts.reads) after stopped has.read.did halts.halts.stops);
        causes = causes_earlier before now after stopped counts halts.halts.causes;
      };
    }

-- memory ran out between two
pub reads_starved : {lines left : List ScriptLine} {contents : Contents} (line : ScriptLine) (rest : List ScriptLine)
    {content : LineFiles} {before now after : Progress} → left ≡ line ∷ rest → ReadTo lines left contents before now
    → HaveRead (line.what ∷ []) (content ∷ []) now after → FilesStop lines stop.OutOfMemory before after
reads_starved {lines} {left} line rest {content} {before} {now} {after} is so_far read =
    subst (λ (f : List LineForm). HaltsBy (sought f) stop.OutOfMemory before after)
    (append_assoc (forms_of so_far.front) (line.what ∷ []) (forms_of rest) ∙ sym (forms_whole line rest is so_far))
    (read_starves (forms_of rest) (read_both so_far.read read))

-- ---- texts

-- the texts in front were written
pub record WroteTo (texts left : List (List ℕ)) (before now : Progress) : Type 0 where
  pub front : List (List ℕ)
  pub split : texts ≡ front ++ left
  pub did : Did (prints front) before now

prints_both : (front left : List (List ℕ)) → prints (front ++ left) ≡ prints front ++ prints left
prints_both [] left = refl
prints_both (text ∷ front) left = ap (λ (steps : List Step). Print text ∷ steps) (prints_both front left)

pub wrote_none : (texts : List (List ℕ)) (p : Progress) → WroteTo texts texts p p
wrote_none texts p = record { front = []; split = refl; did = did_none p }

pub wrote_more : {texts left rest : List (List ℕ)} (text written : List ℕ) {before now : Progress} (after : Progress)
    → left ≡ text ∷ rest → written ≡ text → WroteTo texts left before now → Did (Write written ∷ []) now after
    → WroteTo texts rest before after
wrote_more {texts} {left} {rest} text written {before} {now} after is same so_far did = record {
  front = so_far.front ++ text ∷ [];
  split = so_far.split ∙ ap (λ (l : List (List ℕ)). so_far.front ++ l) is
      ∙ sym (append_assoc so_far.front (text ∷ []) rest);
  did = did_by (sym (prints_both so_far.front (text ∷ [])))
      (did_then so_far.did (did_print text (subst (λ (t : List ℕ). Did (Write t ∷ []) now after) same did)));
}

pub wrote_all : {texts left : List (List ℕ)} {before now : Progress} → left ≡ [] → WroteTo texts left before now
    → Did (prints texts) before now
wrote_all {texts} {left} none so_far =
    did_by (ap prints (sym (so_far.split ∙ ap (λ (l : List (List ℕ)). so_far.front ++ l) none
    ∙ append-nil so_far.front))) so_far.did

pub texts_stop : {texts left rest : List (List ℕ)} (text written : List ℕ) {before now : Progress} (after : Progress)
    (stopped : Stop) → Counts before now → left ≡ text ∷ rest → written ≡ text → WroteTo texts left before now
    → WriteStops written stopped now after → TextsStop texts stopped before after
texts_stop {texts} {left} {rest} text written {before} {now} after stopped counts is same so_far stops =
    let cut = subst (λ (t : List ℕ). WriteStops t stopped now after) same stops in
    subst (λ (s : Stop). TextsStop texts s before after) (sym stops.failed)
    (record {
      stops = λ more.
          let whole : plan_behind (prints texts) more
          ≡ plan_behind (prints so_far.front ++ Print text ∷ []) (plan_behind (prints rest) more) =
          ap (λ (t : List (List ℕ)). plan_behind (prints t) more)
          (so_far.split ∙ ap (λ (l : List (List ℕ)). so_far.front ++ l) is)
          ∙ ap (λ (steps : List Step). plan_behind steps more)
          (prints_both so_far.front (text ∷ rest)
          ∙ sym (append_assoc (prints so_far.front) (Print text ∷ []) (prints rest)))
          ∙ sym (plan_twice (prints so_far.front ++ Print text ∷ []) (prints rest) more) in
          cut_at (prints so_far.front) (Print text) (plan_behind (prints rest) more) whole so_far.did cut.front;
      causes = causes_earlier before now after stop.WriteFailed counts stops.rose;
    })
