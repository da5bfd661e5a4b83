-- The parts of lines that ran, and the plans of parts.
use Rattle.std.proofs.Common.{◌≡◌, ◌∙◌, ℕ, List, [], ◌∷◌, ◌++◌, length, map, drop, take, cond, true, Some, None, refl}
use Rattle.std.proofs.Common.{sym, ap, append_assoc, append-nil, arith}
use Rattle.std.specs.List.{AllByRecursion}
use Rattle.mon_script.specs.Blocks.{ends_by, mark_of}
use Rattle.mon_script.specs.declared.forms.LineForm.{LineForm}
use Rattle.mon_script.specs.declared.places.Mark.{Mark}
use Rattle.mon_script.specs.declared.places.Mark.TheVariants as mark
use Rattle.mon_script.specs.declared.script.ScriptLine.{ScriptLine}
use Rattle.mon_run.specs.Outside.{Files}
use Rattle.mon_run.specs.Plans.{block_forms, block_steps, forms_of, left_plan, next_forms, part_plan, parts_plan, sought}
use Rattle.mon_run.specs.Steps.{End, Plan, Print, Step}
use Rattle.mon_run.specs.within.Lines.{StandApart, block_traces, prints}
use Rattle.mon_run.proofs.BlockLemmas.{Acts}
use Rattle.run_theory.specs.Parts.{Alone, Beside, Part}
use Rattle.run_traces.specs.RanLines.{OwnPlace, RanLine, acts_by, block_behind, part_at, parts_from, parts_of, ran_lines}
use Rattle.run_traces.specs.declared.traces.LineTrace.{LineTrace}
use Rattle.run_traces.specs.declared.traces.LineTrace.TheVariants as came
use Rattle.run_traces.specs.declared.line_files.LineFiles.{LineFiles}

-- ---- lines that ran

abbrev ran_line : ScriptLine → LineFiles → LineTrace → List OwnPlace → List RanLine → List RanLine
ran_line line content trace own ran = record { what = line.what; content = content; trace = trace; own = own } ∷ ran

pub ran_both : (lines more : List ScriptLine) (contents others : List LineFiles) (traces behind : List LineTrace)
    (places further : List (List OwnPlace)) → length contents ≡ length lines → length traces ≡ length lines
    → length places ≡ length lines
    → ran_lines (lines ++ more) (contents ++ others) (traces ++ behind) (places ++ further)
    ≡ ran_lines lines contents traces places ++ ran_lines more others behind further
ran_both [] more [] others [] behind [] further held same placed = refl
ran_both [] more (content ∷ contents) others traces behind places further held same placed = absurd cc
ran_both [] more [] others (trace ∷ traces) behind places further held same placed = absurd cc
ran_both [] more [] others [] behind (own ∷ places) further held same placed = absurd cc
ran_both (line ∷ lines) more [] others traces behind places further held same placed = absurd cc
ran_both (line ∷ lines) more (content ∷ contents) others [] behind places further held same placed = absurd cc
ran_both (line ∷ lines) more (content ∷ contents) others (trace ∷ traces) behind [] further held same placed =
    absurd cc
ran_both (line ∷ lines) more (content ∷ contents) others (trace ∷ traces) behind (own ∷ places) further held same
    placed =
    ap (ran_line line content trace own)
    (ran_both lines more contents others traces behind places further (omega (arith, held)) (omega (arith, same))
    (omega (arith, placed)))

pub ran_none : (lines : List ScriptLine) (contents : List LineFiles) (places : List (List OwnPlace))
    → ran_lines lines contents [] places ≡ []
ran_none [] contents places = refl
ran_none (line ∷ lines) [] places = refl
ran_none (line ∷ lines) (content ∷ contents) places = refl

pub ran_first : (lines more : List ScriptLine) (contents others : List LineFiles) (traces : List LineTrace)
    (places : List (List OwnPlace)) → length contents ≡ length lines → length traces ≡ length lines
    → length places ≡ length lines
    → ran_lines (lines ++ more) (contents ++ others) traces places ≡ ran_lines lines contents traces places
ran_first lines more contents others traces places held same placed =
    (λ i. ran_lines (lines ++ more) (contents ++ others) (sym (append-nil traces) i) (sym (append-nil places) i))
    ∙ ran_both lines more contents others traces [] places [] held same placed
    ∙ ap (λ (ran : List RanLine). ran_lines lines contents traces places ++ ran) (ran_none more others [])
    ∙ append-nil (ran_lines lines contents traces places)

-- what they say, what their files held, and what they came to
pub ran_forms : (lines : List ScriptLine) (contents : List LineFiles) (traces : List LineTrace)
    (places : List (List OwnPlace)) → length contents ≡ length lines → length traces ≡ length lines
    → map (λ (line : RanLine). line.what) (ran_lines lines contents traces places) ≡ forms_of lines
ran_forms [] contents traces places held same = refl
ran_forms (line ∷ lines) [] traces places held same = absurd cc
ran_forms (line ∷ lines) (content ∷ contents) [] places held same = absurd cc
ran_forms (line ∷ lines) (content ∷ contents) (trace ∷ traces) [] held same =
    ap (λ (forms : List LineForm). line.what ∷ forms)
    (ran_forms lines contents traces [] (omega (arith, held)) (omega (arith, same)))
ran_forms (line ∷ lines) (content ∷ contents) (trace ∷ traces) (own ∷ places) held same =
    ap (λ (forms : List LineForm). line.what ∷ forms)
    (ran_forms lines contents traces places (omega (arith, held)) (omega (arith, same)))

pub ran_contents : (lines : List ScriptLine) (contents : List LineFiles) (traces : List LineTrace)
    (places : List (List OwnPlace)) → length contents ≡ length lines → length traces ≡ length lines
    → map (λ (line : RanLine). line.content) (ran_lines lines contents traces places) ≡ contents
ran_contents [] [] traces places held same = refl
ran_contents [] (content ∷ contents) traces places held same = absurd cc
ran_contents (line ∷ lines) [] traces places held same = absurd cc
ran_contents (line ∷ lines) (content ∷ contents) [] places held same = absurd cc
ran_contents (line ∷ lines) (content ∷ contents) (trace ∷ traces) [] held same =
    ap (λ (rest : List LineFiles). content ∷ rest)
    (ran_contents lines contents traces [] (omega (arith, held)) (omega (arith, same)))
ran_contents (line ∷ lines) (content ∷ contents) (trace ∷ traces) (own ∷ places) held same =
    ap (λ (rest : List LineFiles). content ∷ rest)
    (ran_contents lines contents traces places (omega (arith, held)) (omega (arith, same)))

pub ran_ends : (lines : List ScriptLine) (contents : List LineFiles) (traces : List LineTrace)
    (places : List (List OwnPlace)) → length contents ≡ length lines → length traces ≡ length lines
    → map (λ (line : RanLine). End line.trace) (ran_lines lines contents traces places)
    ≡ map (λ trace. End trace) traces
ran_ends [] contents [] places held same = refl
ran_ends [] contents (trace ∷ traces) places held same = absurd cc
ran_ends (line ∷ lines) [] traces places held same = absurd cc
ran_ends (line ∷ lines) (content ∷ contents) [] places held same = absurd cc
ran_ends (line ∷ lines) (content ∷ contents) (trace ∷ traces) [] held same =
    ap (λ (steps : List Step). End trace ∷ steps)
    (ran_ends lines contents traces [] (omega (arith, held)) (omega (arith, same)))
ran_ends (line ∷ lines) (content ∷ contents) (trace ∷ traces) (own ∷ places) held same =
    ap (λ (steps : List Step). End trace ∷ steps)
    (ran_ends lines contents traces places (omega (arith, held)) (omega (arith, same)))

pub behind_both : {X : Type 0} (traces : List LineTrace) (lines more : List X) (others : List LineTrace)
    → length traces ≡ length lines → drop (length (traces ++ others)) (lines ++ more) ≡ drop (length others) more
behind_both [] [] more others same = refl
behind_both [] (line ∷ lines) more others same = absurd cc
behind_both (trace ∷ traces) [] more others same = absurd cc
behind_both (trace ∷ traces) (line ∷ lines) more others same = behind_both traces lines more others (omega (
  arith,
  same,
))

pub front_both : {X : Type 0} (traces : List LineTrace) (lines more : List X) (others : List LineTrace)
    → length traces ≡ length lines
    → take (length (traces ++ others)) (lines ++ more) ≡ lines ++ take (length others) more
front_both [] [] more others same = refl
front_both [] (line ∷ lines) more others same = absurd cc
front_both (trace ∷ traces) [] more others same = absurd cc
front_both {X} (trace ∷ traces) (line ∷ lines) more others same =
    ap (λ (rest : List X). line ∷ rest) (front_both traces lines more others (omega (arith, same)))

pub behind_all : {X : Type 0} (traces : List LineTrace) (lines : List X) → length traces ≡ length lines
    → drop (length traces) lines ≡ []
behind_all [] [] same = refl
behind_all [] (line ∷ lines) same = absurd cc
behind_all (trace ∷ traces) [] same = absurd cc
behind_all (trace ∷ traces) (line ∷ lines) same = behind_all traces lines (omega (arith, same))

pub behind_first : {X : Type 0} (traces : List LineTrace) (lines more : List X) → length traces ≡ length lines
    → drop (length traces) (lines ++ more) ≡ more
behind_first [] [] more same = refl
behind_first [] (line ∷ lines) more same = absurd cc
behind_first (trace ∷ traces) [] more same = absurd cc
behind_first (trace ∷ traces) (line ∷ lines) more same = behind_first traces lines more (omega (arith, same))

-- ---- parts

-- lines are just a part, whatever stands behind them
abbrev pub IsPart : List RanLine → Part RanLine → Type 0
IsPart lines part = (more : List RanLine) → parts_of (lines ++ more) ≡ part ∷ parts_of more

pub part_whole : (lines : List RanLine) (part : Part RanLine) → IsPart lines part → parts_of lines ≡ part ∷ []
part_whole lines part is = ap parts_of (sym (append-nil lines)) ∙ is []

pub part_apart : (lines : List RanLine) (part : Part RanLine) → IsPart lines part → StandApart lines
part_apart lines part is = λ more.
    is more ∙ ap (λ (parts : List (Part RanLine)). parts ++ parts_of more) (sym (part_whole lines part is))

alone_by : (line : RanLine) (more : List RanLine) (what : Mark) → acts_by what ≡ true
    → part_at None line what ++ parts_from (block_behind None line what) more ≡ Alone line ∷ parts_of more
alone_by line more mark.Acts is = refl
alone_by line more mark.Lone is = refl
alone_by line more mark.Opens is = absurd cc
alone_by line more mark.Closes is = absurd cc

pub alone_part : (line : RanLine) → acts_by (mark_of line.what) ≡ true → IsPart (line ∷ []) (Alone line)
alone_part line acts = λ more. alone_by line more (mark_of line.what) acts

within_by : (before : List RanLine) (line : RanLine) (rest : List RanLine) (what : Mark) → what ≡ mark.Acts
    → part_at (Some before) line what ++ parts_from (block_behind (Some before) line what) rest
    ≡ parts_from (Some (before ++ line ∷ [])) rest
within_by before line rest mark.Acts is = refl
within_by before line rest mark.Opens is = absurd cc
within_by before line rest mark.Closes is = absurd cc
within_by before line rest mark.Lone is = absurd cc

-- lines that act go on a block
abbrev ActsThere : RanLine → Type 0
ActsThere line = mark_of line.what ≡ mark.Acts

within : (before lines rest : List RanLine) → AllByRecursion ActsThere lines
    → parts_from (Some before) (lines ++ rest) ≡ parts_from (Some (before ++ lines)) rest
within before [] rest acts = ap (λ (lines : List RanLine). parts_from (Some lines) rest) (sym (append-nil before))
within before (line ∷ lines) rest acts =
    within_by before line (lines ++ rest) (mark_of line.what) acts.0
    ∙ within (before ++ line ∷ []) lines rest acts.1
    ∙ ap (λ (xs : List RanLine). parts_from (Some xs) rest) (append_assoc before (line ∷ []) lines)

closes_by : (lines : List RanLine) (end : RanLine) (more : List RanLine) (what : Mark) → what ≡ mark.Closes
    → part_at (Some lines) end what ++ parts_from (block_behind (Some lines) end what) more ≡ Beside lines ∷ parts_of
    more
closes_by lines end more mark.Closes is = refl
closes_by lines end more mark.Opens is = absurd cc
closes_by lines end more mark.Acts is = absurd cc
closes_by lines end more mark.Lone is = absurd cc

begins_by : (begin : RanLine) (rest : List RanLine) (what : Mark) → what ≡ mark.Opens
    → part_at None begin what ++ parts_from (block_behind None begin what) rest ≡ parts_from (Some []) rest
begins_by begin rest mark.Opens is = refl
begins_by begin rest mark.Closes is = absurd cc
begins_by begin rest mark.Acts is = absurd cc
begins_by begin rest mark.Lone is = absurd cc

pub block_part : (begin end : RanLine) (lines : List RanLine) → mark_of begin.what ≡ mark.Opens
    → mark_of end.what ≡ mark.Closes → AllByRecursion ActsThere lines
    → IsPart (begin ∷ (lines ++ end ∷ [])) (Beside lines)
block_part begin end lines opens closes acts = λ more.
    begins_by begin ((lines ++ end ∷ []) ++ more) (mark_of begin.what) opens
    ∙ ap (parts_from (Some [])) (append_assoc lines (end ∷ []) more)
    ∙ within [] lines (end ∷ more) acts
    ∙ closes_by lines end more (mark_of end.what) closes

pub all_act : (lines : List ScriptLine) (contents : List LineFiles) (traces : List LineTrace)
    (places : List (List OwnPlace)) → AllByRecursion Acts lines
    → AllByRecursion ActsThere (ran_lines lines contents traces places)
all_act [] contents traces places acts = tt
all_act (line ∷ lines) [] traces places acts = tt
all_act (line ∷ lines) (content ∷ contents) [] places acts = tt
all_act (line ∷ lines) (content ∷ contents) (trace ∷ traces) [] acts =
    (acts.0, all_act lines contents traces [] acts.1)
all_act (line ∷ lines) (content ∷ contents) (trace ∷ traces) (own ∷ places) acts =
    (acts.0, all_act lines contents traces places acts.1)

-- ---- plans

pub plans_both : (text : RanLine → List ℕ) (parts more : List (Part RanLine)) (rest : Plan)
    → parts_plan text (parts ++ more) rest ≡ parts_plan text parts (parts_plan text more rest)
plans_both text [] more rest = refl
plans_both text (part ∷ parts) more rest = ap (part_plan text part) (plans_both text parts more rest)

at_end : (what : Mark) (p q : List LineForm) → what ≡ mark.Closes → cond (ends_by what) p q ≡ p
at_end mark.Closes p q is = refl
at_end mark.Opens p q is = absurd cc
at_end mark.Acts p q is = absurd cc
at_end mark.Lone p q is = absurd cc

before_end : (what : Mark) (p q : List LineForm) → what ≡ mark.Acts → cond (ends_by what) p q ≡ q
before_end mark.Acts p q is = refl
before_end mark.Opens p q is = absurd cc
before_end mark.Closes p q is = absurd cc
before_end mark.Lone p q is = absurd cc

-- the lines of a block are those up to its end
pub block_says : (lines : List ScriptLine) (end : ScriptLine) (rest : List ScriptLine)
    → AllByRecursion Acts lines → mark_of end.what ≡ mark.Closes
    → block_forms (lines ++ end ∷ rest) ≡ forms_of lines
block_says [] end rest acts closes = at_end (mark_of end.what) [] (end.what ∷ block_forms rest) closes
block_says (line ∷ lines) end rest acts closes =
    before_end (mark_of line.what) [] (line.what ∷ block_forms (lines ++ end ∷ rest)) acts.0
    ∙ ap (λ (forms : List LineForm). line.what ∷ forms) (block_says lines end rest acts.1 closes)

next_by : (what : Mark) (form : LineForm) (lines : List ScriptLine) → acts_by what ≡ true
    → next_forms what form lines ≡ form ∷ []
next_by mark.Acts form lines is = refl
next_by mark.Lone form lines is = refl
next_by mark.Opens form lines is = absurd cc
next_by mark.Closes form lines is = absurd cc

-- what is left begins with a line that stands alone
pub alone_left : (status : ℕ) (line : ScriptLine) (behind : List ScriptLine) (reads : Files)
    → acts_by (mark_of line.what) ≡ true → left_plan status (line ∷ behind) reads ≡ sought (line.what ∷ []) reads
alone_left status line behind reads acts =
    ap (λ (forms : List LineForm). sought forms reads) (next_by (mark_of line.what) line.what behind acts)

opens_by : (what : Mark) (form : LineForm) (lines : List ScriptLine) → what ≡ mark.Opens
    → next_forms what form lines ≡ block_forms lines
opens_by mark.Opens form lines is = refl
opens_by mark.Closes form lines is = absurd cc
opens_by mark.Acts form lines is = absurd cc
opens_by mark.Lone form lines is = absurd cc

-- or with a block
pub block_left : (status : ℕ) (line end : ScriptLine) (lines left : List ScriptLine) (reads : Files)
    → mark_of line.what ≡ mark.Opens → AllByRecursion Acts lines → mark_of end.what ≡ mark.Closes
    → left_plan status (line ∷ (lines ++ end ∷ left)) reads ≡ sought (forms_of lines) reads
block_left status line end lines left reads opens acts closes =
    ap (λ (forms : List LineForm). sought forms reads)
    (opens_by (mark_of line.what) line.what (lines ++ end ∷ left) opens ∙ block_says lines end left acts closes)

-- ---- the steps of a block

ends_both : (traces others : List LineTrace)
    → map (λ trace. End trace) (traces ++ others) ≡ map (λ trace. End trace) traces ++ map (λ trace. End trace) others
ends_both [] others = refl
ends_both (trace ∷ traces) others = ap (λ (steps : List Step). End trace ∷ steps) (ends_both traces others)

-- where its lines print these texts
pub block_ends : (text : RanLine → List ℕ) (lines : List ScriptLine) (contents : List LineFiles)
    (traces : List LineTrace) (places : List (List OwnPlace)) (texts : List (List ℕ))
    → length contents ≡ length lines → length traces ≡ length lines
    → map text (ran_lines lines contents traces places) ≡ texts
    → block_steps text (ran_lines lines contents traces places)
    ≡ map (λ trace. End trace) (block_traces traces) ++ prints texts
block_ends text lines contents traces places texts held same is =
    let ran : List RanLine = ran_lines lines contents traces places in
    let ends : List Step = map (λ trace. End trace) traces in
    ap (λ (front : List Step). End came.Done ∷ (front ++ End came.Done ∷ map (λ line. Print (text line)) ran))
    (ran_ends lines contents traces places held same)
    ∙ ap (λ (back : List Step). End came.Done ∷ (ends ++ End came.Done ∷ back)) (written text ran texts is)
    ∙ ap (λ (steps : List Step). End came.Done ∷ steps) (sym (append_assoc ends (End came.Done ∷ []) (prints texts)))
    ∙ ap (λ (steps : List Step). End came.Done ∷ (steps ++ prints texts)) (sym (ends_both traces (came.Done ∷ [])))
  where
    written : (text : RanLine → List ℕ) (lines : List RanLine) (texts : List (List ℕ)) → map text lines ≡ texts
        → map (λ line. Print (text line)) lines ≡ prints texts
    written text lines texts is = both text lines ∙ ap prints is
      where
        both : (text : RanLine → List ℕ) (lines : List RanLine)
            → map (λ line. Print (text line)) lines ≡ prints (map text lines)
        both text [] = refl
        both text (line ∷ lines) = ap (λ (steps : List Step). Print (text line) ∷ steps) (both text lines)
