-- The blocks of a script that was read.
use Rattle.std.proofs.Common.{◌≡◌, ℕ, ◌+◌, ◌||◌, ◌==◌, nat_lt, Option, Some, None, Bool, true, false, cond, List, [], ◌∷◌}
use Rattle.std.proofs.Common.{◌++◌, Result, Ok, Err, refl, sym, ap, subst, arith, ◌∙◌}
use Rattle.std.specs.Prelude.{codes}
use Rattle.std.proofs.lemmas.Bool.Decides.{nat_tests}
use Rattle.mon_script.specs.Blocks.{AreInBlocks, StandsBefore, has_end, mark_of, next_place, one_more}
use Rattle.mon_script.specs.Blocks.{stand_at}
use Rattle.mon_script.specs.Forms.{Said, form_of}
use Rattle.mon_script.specs.Lines.{is_remark}
use Rattle.mon_script.specs.Scripts.{lines_read, line_read, numbered, read_as, said_read, script_from}
use Rattle.mon_script.specs.declared.faults.ScriptFault.{ScriptFault}
use Rattle.mon_script.specs.declared.faults.ScriptKind.{ScriptKind}
use Rattle.mon_script.specs.declared.faults.ScriptKind.TheVariants as kind
use Rattle.mon_script.specs.declared.forms.BlockMark.TheVariants as block
use Rattle.mon_script.specs.declared.forms.LineForm.{LineForm}
use Rattle.mon_script.specs.declared.forms.LineForm.TheVariants as form
use Rattle.mon_script.specs.declared.places.Mark.{Mark}
use Rattle.mon_script.specs.declared.places.Mark.TheVariants as mark
use Rattle.mon_script.specs.declared.places.TheConstants.{MOST_LINES, MOST_LINES_OF_BLOCK}
use Rattle.mon_script.specs.declared.script.LineRead.{LineRead}
use Rattle.mon_script.specs.declared.script.ScriptLine.{ScriptLine}
use Rattle.mon_topo.specs.declared.zones.ZoneSpec.{ZoneSpec}
use Rattle.mon_value.proofs.SameLemmas.{same_text-Decides}
use Rattle.mon_value.specs.Answers.{◌>>=◌}
use Rattle.mon_value.specs.Same.{same_text}

-- where a line stands in a block, some line behind ends it
abbrev IsClosed : Option ℕ → List (List ℕ) → Type 0
IsClosed None lines = Unit {0}
IsClosed (Some count) lines = has_end lines ≡ true

abbrev is_end : List ℕ → Bool
is_end line = same_text line (codes "end")

-- ---- the line that ends a block

end_says : (zones : List ZoneSpec) (line : List ℕ) → is_end line ≡ true → form_of zones line ≡ Ok (form.Block block.End)
end_says zones line is =
    subst (λ (text : List ℕ). form_of zones text ≡ Ok (form.Block block.End)) (sym ((same_text-Decides line (codes "end")).0 is)) refl

remark_is_none : (line : List ℕ) → is_remark line ≡ true → is_end line ≡ false
remark_is_none [] is = refl
remark_is_none (byte ∷ line) is =
    let hash : byte ≡ 35 = grind (arith, nat_tests, is) in
    subst (λ (b : ℕ). is_end (b ∷ line) ≡ false) (sym hash) refl

acts_is_none : (zones : List ZoneSpec) (line : List ℕ) (what : LineForm) (b : Bool) → form_of zones line ≡ Ok what
    → mark_of what ≡ mark.Acts → is_end line ≡ b → b ≡ false
acts_is_none zones line what false says acts is = refl
acts_is_none zones line what true says acts is =
    let ends : form_of zones line ≡ Ok (form.Block block.End) = end_says zones line is in
    let same : what ≡ form.Block block.End = cc in
    let closes : mark.Closes ≡ mark.Acts = sym (ap mark_of same) ∙ acts in
    absurd cc

behind_none : (line : List ℕ) (left : List (List ℕ)) → is_end line ≡ false → has_end (line ∷ left) ≡ true
    → has_end left ≡ true
behind_none line left none has = ap (λ b. b || has_end left) (sym none) ∙ has

-- ---- a line and those behind it

abbrev LinesOf : Type 0
LinesOf = Result (List ScriptLine) ScriptFault

abbrev Reads : Type 0
Reads = (next : Option ℕ) → LinesOf

-- what is read of the lines behind stands right, from wherever some line behind ends the block
abbrev StandBehind : List (List ℕ) → Reads → Type 0
StandBehind left reads = (next : Option ℕ) (lines : List ScriptLine) → IsClosed next left → reads next ≡ Ok lines
    → AreInBlocks next lines

-- where a line may stand, by the next one's place
record MayStand (place : Option ℕ) (what : Mark) (next : Option ℕ) (left : List (List ℕ)) : Type 0 where
  closed : IsClosed next left
  stands : (rest : List ScriptLine) → AreInBlocks next rest → StandsBefore place what (λ n. AreInBlocks n rest)

abbrev bad_place : ScriptKind → Result (Option ℕ) ScriptKind
bad_place why = Err why

if_some : {X : Type 0} (test : Bool) (x : X) (why : ScriptKind) (y : X) → cond test (Ok x) (Err why) ≡ Ok y
    → (test ≡ true) × (x ≡ y)
if_some true x why y e = (refl, cc)
if_some false x why y e = absurd cc

if_none : {X : Type 0} (test : Bool) (x : X) (why : ScriptKind) (y : X) → cond test (Err why) (Ok x) ≡ Ok y
    → (test ≡ false) × (x ≡ y)
if_none false x why y e = (refl, cc)
if_none true x why y e = absurd cc

never_stands : (one : Result (Option ℕ) ScriptKind) (why : ScriptKind) (next : Option ℕ)
    → one >>= (λ (n : Option ℕ). bad_place why) ≡ Ok next → ⊥
never_stands (Ok n) why next e = absurd cc
never_stands (Err other) why next e = absurd cc

may_stand : (place : Option ℕ) (what : Mark) (next : Option ℕ) (line : List ℕ) (left : List (List ℕ))
    → IsClosed place (line ∷ left) → (what ≡ mark.Acts → is_end line ≡ false) → next_place place what left ≡ Ok next
    → MayStand place what next left
may_stand None mark.Opens next line left closed acts e =
    let both = if_some (has_end left) (Some 0) kind.NoEnd next e in
    subst (λ (n : Option ℕ). MayStand None mark.Opens n left) both.1
    (record { closed = both.0; stands = λ lines rest. rest })
may_stand None mark.Closes next line left closed acts e = absurd cc
may_stand None mark.Acts next line left closed acts e =
    let same : None ≡ next = cc in
    subst (λ (n : Option ℕ). MayStand None mark.Acts n left) same
    (record { closed = tt; stands = λ lines rest. rest })
may_stand None mark.Lone next line left closed acts e =
    let same : None ≡ next = cc in
    subst (λ (n : Option ℕ). MayStand None mark.Lone n left) same
    (record { closed = tt; stands = λ lines rest. rest })
may_stand (Some count) mark.Opens next line left closed acts e = absurd cc
may_stand (Some count) mark.Closes next line left closed acts e =
    let both = if_none (count == 0) None kind.NoEnd next e in
    subst (λ (n : Option ℕ). MayStand (Some count) mark.Closes n left) both.1
    (record { closed = tt; stands = λ lines rest. (grind (arith, nat_tests, both.0), rest) })
may_stand (Some count) mark.Acts next line left closed acts e =
    let both = if_some (nat_lt count MOST_LINES_OF_BLOCK) (Some (count + 1)) kind.BlockFull next e in
    subst (λ (n : Option ℕ). MayStand (Some count) mark.Acts n left) both.1
    (record {
      closed = behind_none line left (acts refl) closed;
      stands = λ lines rest. (grind (arith, nat_tests, both.0), rest);
    })
may_stand (Some count) mark.Lone next line left closed acts e =
    absurd (never_stands (one_more count) kind.NotInBlock next e)

-- ---- a line that was read

-- a line that was read, with the lines behind it
record Reading (place : Option ℕ) (read : LineRead) (left : List (List ℕ)) : Type 0 where
  closed : IsClosed read.next left
  stands : (number : ℕ) (rest : List ScriptLine) → AreInBlocks read.next rest
      → AreInBlocks place (lines_read number read.what ++ rest)

bound_ok : {X Y : Type 0} (x : Result X ScriptKind) (f : X → Result Y ScriptKind) (y : Y) → x >>= f ≡ Ok y
    → (v : X) × (x ≡ Ok v) × (f v ≡ Ok y)
bound_ok (Ok v) f y e = (v, refl, e)
bound_ok (Err why) f y e = absurd cc

passed : (next : Option ℕ) (test : Bool) (v : Option ℕ) → cond test (Err kind.TooManyLines) (Ok next) ≡ Ok v → next ≡ v
passed next true v e = absurd cc
passed next false v e = cc

stood : (number : ℕ) (place : Option ℕ) (what : Mark) (left : List (List ℕ)) (next : Option ℕ)
    → stand_at number place what left ≡ Ok next → next_place place what left ≡ Ok next
stood number place what left next e =
    let bound = bound_ok (next_place place what left) _ next e in
    bound.1 ∙ ap (λ (n : Option ℕ). Ok n) (passed bound.0 (nat_lt MOST_LINES number) next bound.2)

form_reading : (zones : List ZoneSpec) (number : ℕ) (place : Option ℕ) (line : List ℕ) (left : List (List ℕ))
    (what : LineForm) (read : LineRead) → IsClosed place (line ∷ left) → form_of zones line ≡ Ok what
    → said_read number place (Ok what) left ≡ Ok read → Reading place read left
form_reading zones number place line left what read closed says e =
    let bound = bound_ok (stand_at number place (mark_of what) left) _ read e in
    let next = bound.0 in
    let same : read_as (Some what) next ≡ read = (let there = bound.2 in cc) in
    let may = may_stand place (mark_of what) next line left closed
    (λ acts. acts_is_none zones line what (is_end line) says acts refl)
    (stood number place (mark_of what) left next bound.1) in
    subst (λ (r : LineRead). Reading place r left) same
    (record { closed = may.closed; stands = λ n rest all. may.stands rest all })

said_reading : (zones : List ZoneSpec) (number : ℕ) (place : Option ℕ) (line : List ℕ) (left : List (List ℕ))
    (said : Said) (read : LineRead) → IsClosed place (line ∷ left) → form_of zones line ≡ said
    → said_read number place said left ≡ Ok read → Reading place read left
said_reading zones number place line left (Ok what) read closed says e =
    form_reading zones number place line left what read closed says e
said_reading zones number place line left (Err why) read closed says e = absurd cc

closed_behind : (place : Option ℕ) (line : List ℕ) (left : List (List ℕ)) → IsClosed place (line ∷ left)
    → is_end line ≡ false → IsClosed place left
closed_behind None line left closed none = tt
closed_behind (Some count) line left closed none = behind_none line left none closed

remark_reading : (number : ℕ) (place : Option ℕ) (line : List ℕ) (left : List (List ℕ)) (read : LineRead)
    → IsClosed place (line ∷ left) → is_remark line ≡ true
    → cond (nat_lt MOST_LINES number) (Err kind.TooManyLines) (Ok (read_as None place)) ≡ Ok read
    → Reading place read left
remark_reading number place line left read closed is e =
    subst (λ (r : LineRead). Reading place r left)
    (if_none (nat_lt MOST_LINES number) (read_as None place) kind.TooManyLines read e).1
    (record { closed = closed_behind place line left closed (remark_is_none line is); stands = λ n rest all. all })

either_reading : (zones : List ZoneSpec) (number : ℕ) (place : Option ℕ) (line : List ℕ) (left : List (List ℕ))
    (remark : Bool) (read : LineRead) → IsClosed place (line ∷ left) → is_remark line ≡ remark
    → cond remark (cond (nat_lt MOST_LINES number) (Err kind.TooManyLines) (Ok (read_as None place)))
    (said_read number place (form_of zones line) left) ≡ Ok read
    → Reading place read left
either_reading zones number place line left true read closed is e =
    remark_reading number place line left read closed is e
either_reading zones number place line left false read closed is e =
    said_reading zones number place line left (form_of zones line) read closed refl e

-- ---- scripts

step : (place : Option ℕ) (number : ℕ) (one : Result LineRead ScriptKind) (left : List (List ℕ)) (reads : Reads)
    (script : List ScriptLine) → ((read : LineRead) → one ≡ Ok read → Reading place read left)
    → StandBehind left reads
    → numbered number one >>= (λ read. reads read.next >>= λ lines. Ok (lines_read number read.what ++ lines))
    ≡ Ok script
    → AreInBlocks place script
step place number (Err why) left reads script each all e = absurd cc
step place number (Ok read) left reads script each all e = behind (reads read.next) refl e
  where
    one : Reading place read left
    one = each read refl

    behind : (rest : LinesOf) → reads read.next ≡ rest
        → rest >>= (λ lines. Ok (lines_read number read.what ++ lines)) ≡ Ok script → AreInBlocks place script
    behind (Err fault) is e = absurd cc
    behind (Ok lines) is e =
        let same : lines_read number read.what ++ lines ≡ script = cc in
        subst (λ (s : List ScriptLine). AreInBlocks place s) same
        (one.stands number lines (all read.next lines one.closed is))

-- from a place in a block that some line ends, or outside of blocks, a script stands right
pub script_blocks : (zones : List ZoneSpec) (number : ℕ) (place : Option ℕ) (lines : List (List ℕ))
    (script : List ScriptLine) → IsClosed place lines → script_from zones number place lines ≡ Ok script
    → AreInBlocks place script
script_blocks zones number None [] script closed e =
    let same : [] ≡ script = cc in subst (λ (s : List ScriptLine). AreInBlocks None s) same tt
script_blocks zones number (Some count) [] script closed e = absurd cc
script_blocks zones number place (line ∷ left) script closed e =
    step place number (line_read zones number place line left) left
    (λ next. script_from zones (number + 1) next left) script
    (λ read is. either_reading zones number place line left (is_remark line) read closed refl is)
    (λ next. script_blocks zones (number + 1) next left) e
