-- How the lines of a script are cut into parts.
use Rattle.std.proofs.Common.{◌≡◌, ◌∙◌, ◌≤◌, ◌+◌, ℕ, cond, true, Some, None, option_map, List}
use Rattle.std.proofs.Common.{[], ◌∷◌, ◌++◌, length, refl, sym, ap, subst, arith}
use Rattle.std.proofs.lemmas.List.{length-append}
use Rattle.std.specs.List.{AllByRecursion}
use Rattle.mon_script.specs.Blocks.{AreInBlocks, StandsBefore, cut_block, ends_by, mark_of}
use Rattle.mon_script.specs.declared.places.Mark.{Mark}
use Rattle.mon_script.specs.declared.places.Mark.TheVariants as mark
use Rattle.mon_script.specs.declared.places.TheConstants.{MOST_LINES_OF_BLOCK}
use Rattle.mon_script.specs.declared.script.ScriptLine.{ScriptLine}
use Rattle.run_traces.specs.RanLines.{acts_by}
use Rattle.mon_run.specs.within.Blocks.{Cut, block_behind, cut_by, left_behind, left_by}
use Rattle.mon_value.proofs.PlainLemmas.{all_front, all_back}

abbrev pub Acts : ScriptLine → Type 0
Acts line = mark_of line.what ≡ mark.Acts

-- a block ends behind so many lines, and the rest stands outside of blocks
pub record BlockEnds (count : ℕ) (lines block rest : List ScriptLine) : Type 0 where
  pub end : ScriptLine
  pub split : lines ≡ block ++ end ∷ rest
  pub closes : mark_of end.what ≡ mark.Closes
  pub acts : AllByRecursion Acts block
  pub few : count + length block ≤ MOST_LINES_OF_BLOCK
  pub blocks : AreInBlocks None rest

record Found (count : ℕ) (lines : List ScriptLine) (cut : Cut) : Type 0 where
  block : List ScriptLine
  rest : List ScriptLine
  cut_is : cut ≡ Some (block, rest)
  ends : BlockEnds count lines block rest

abbrev onto : ScriptLine → List ScriptLine × List ScriptLine → List ScriptLine × List ScriptLine
onto line cut = (line ∷ cut.0, cut.1)

found_by : (count : ℕ) (line : ScriptLine) (lines : List ScriptLine) (what : Mark) → mark_of line.what ≡ what
    → count ≤ MOST_LINES_OF_BLOCK → StandsBefore (Some count) what (λ next. AreInBlocks next lines)
    → (AreInBlocks (Some (count + 1)) lines → count + 1 ≤ MOST_LINES_OF_BLOCK → Found (count + 1) lines (cut_block
    lines))
    → Found count (line ∷ lines) (cond (ends_by what) (Some ([], lines)) (option_map (onto line) (cut_block lines)))
found_by count line lines mark.Opens is few stands later = absurd stands
found_by count line lines mark.Closes is few stands later = record {
  block = [];
  rest = lines;
  cut_is = refl;
  ends = record {
    end = line;
    split = refl;
    closes = is;
    acts = tt;
    few = omega (arith, few);
    blocks = stands.1;
  };
}
found_by count line lines mark.Lone is few stands later = absurd stands
found_by count line lines mark.Acts is few stands later =
    let found = later stands.1 (omega (arith, stands.0)) in
    record {
      block = line ∷ found.block;
      rest = found.rest;
      cut_is = ap (option_map (onto line)) found.cut_is;
      ends = record {
        end = found.ends.end;
        split = ap (λ (xs : List ScriptLine). line ∷ xs) found.ends.split;
        closes = found.ends.closes;
        acts = (is, found.ends.acts);
        few = omega (arith, found.ends.few);
        blocks = found.ends.blocks;
      };
    }

found : (count : ℕ) (lines : List ScriptLine) → count ≤ MOST_LINES_OF_BLOCK → AreInBlocks (Some count) lines
    → Found count lines (cut_block lines)
found count [] few stands = absurd stands
found count (line ∷ lines) few stands =
    found_by count line lines (mark_of line.what) refl few stands
    (λ rest more. found (count + 1) lines more rest)

-- ---- the part that a line begins

-- a line begins a block
pub record IsBlock (line : ScriptLine) (behind lines left : List ScriptLine) : Type 0 where
  pub opens : mark_of line.what ≡ mark.Opens
  pub ends : BlockEnds 0 behind lines left
  pub left_is : left_behind line behind ≡ left

-- a line stands alone
pub record IsLine (line : ScriptLine) (behind : List ScriptLine) : Type 0 where
  pub acts : acts_by (mark_of line.what) ≡ true
  pub blocks : AreInBlocks None behind
  pub left_is : left_behind line behind ≡ behind

block_by : (line : ScriptLine) (behind lines left : List ScriptLine) (what : Mark) → mark_of line.what ≡ what
    → StandsBefore None what (λ next. AreInBlocks next behind) → cut_by what behind ≡ Some (lines, left)
    → left_by (cut_by what behind) behind ≡ left_behind line behind → IsBlock line behind lines left
block_by line behind lines left mark.Opens is stands cut same =
    let found = found 0 behind (omega arith) stands in
    let both : Some (found.block, found.rest) ≡ Some (lines, left) = sym found.cut_is ∙ cut in
    let pair : (found.block, found.rest) ≡ (lines, left) = cc in
    record {
      opens = is;
      ends = subst (λ (p : List ScriptLine × List ScriptLine). BlockEnds 0 behind p.0 p.1) pair found.ends;
      left_is = sym same ∙ ap (λ (c : Cut). left_by c behind) cut;
    }
block_by line behind lines left mark.Closes is stands cut same = absurd stands
block_by line behind lines left mark.Acts is stands cut same = absurd cc
block_by line behind lines left mark.Lone is stands cut same = absurd cc

pub is_block : (line : ScriptLine) (behind lines left : List ScriptLine) → AreInBlocks None (line ∷ behind)
    → block_behind line behind ≡ Some (lines, left) → IsBlock line behind lines left
is_block line behind lines left stands cut = block_by line behind lines left (mark_of line.what) refl stands cut refl

abbrev some_cut : List ScriptLine → List ScriptLine → Cut
some_cut lines left = Some (lines, left)

no_cut : {X : Type 0} (lines left : List ScriptLine) → some_cut lines left ≡ None → X
no_cut lines left is = absurd cc

line_by : (line : ScriptLine) (behind : List ScriptLine) (what : Mark) → mark_of line.what ≡ what
    → StandsBefore None what (λ next. AreInBlocks next behind) → cut_by what behind ≡ None
    → left_by (cut_by what behind) behind ≡ left_behind line behind → IsLine line behind
line_by line behind mark.Opens is stands none same =
    let found = found 0 behind (omega arith) stands in
    no_cut found.block found.rest (sym found.cut_is ∙ none)
line_by line behind mark.Closes is stands none same = absurd stands
line_by line behind mark.Acts is stands none same =
    record { acts = ap acts_by is; blocks = stands; left_is = sym same }
line_by line behind mark.Lone is stands none same =
    record { acts = ap acts_by is; blocks = stands; left_is = sym same }

pub is_line : (line : ScriptLine) (behind : List ScriptLine) → AreInBlocks None (line ∷ behind)
    → block_behind line behind ≡ None → IsLine line behind
is_line line behind stands none = line_by line behind (mark_of line.what) refl stands none refl

-- ---- the lines behind a part

-- what holds of all lines holds of those of a block
pub block_all : (P : ScriptLine → Type 0) (line : ScriptLine) (behind lines left : List ScriptLine)
    → IsBlock line behind lines left → AllByRecursion P (line ∷ behind) → AllByRecursion P lines
block_all P line behind lines left is all =
    all_front P lines (is.ends.end ∷ left) (subst (AllByRecursion P) is.ends.split all.1)

record GoesOn (P : ScriptLine → Type 0) (left : List ScriptLine) : Type 0 where
  all : AllByRecursion P left
  blocks : AreInBlocks None left

goes_on : (P : ScriptLine → Type 0) (line : ScriptLine) (behind : List ScriptLine) (cut : Cut)
    → block_behind line behind ≡ cut → AreInBlocks None (line ∷ behind) → AllByRecursion P (line ∷ behind)
    → GoesOn P (left_behind line behind)
goes_on P line behind None is stands all =
    let one = is_line line behind stands is in
    subst (GoesOn P) (sym one.left_is) (record { all = all.1; blocks = one.blocks })
goes_on P line behind (Some cut) is stands all =
    let block = is_block line behind cut.0 cut.1 stands is in
    subst (GoesOn P) (sym block.left_is) (record {
      all = (all_back P cut.0 (block.ends.end ∷ cut.1) (subst (AllByRecursion P) block.ends.split all.1)).1;
      blocks = block.ends.blocks;
    })

-- what holds of all lines holds of those that are left
pub left_all : (P : ScriptLine → Type 0) (line : ScriptLine) (behind : List ScriptLine)
    → AreInBlocks None (line ∷ behind) → AllByRecursion P (line ∷ behind) → AllByRecursion P (left_behind line behind)
left_all P line behind stands all = (goes_on P line behind (block_behind line behind) refl stands all).all

pub left_blocks : (line : ScriptLine) (behind : List ScriptLine) → AreInBlocks None (line ∷ behind)
    → AreInBlocks None (left_behind line behind)
left_blocks line behind stands = (goes_on (λ l. Unit {0}) line behind (block_behind line behind) refl stands
    (all_trivial (line ∷ behind))).blocks
  where
    all_trivial : (lines : List ScriptLine) → AllByRecursion (λ l. Unit {0}) lines
    all_trivial [] = tt
    all_trivial (l ∷ lines) = (tt, all_trivial lines)

shorter : (line : ScriptLine) (behind : List ScriptLine) (cut : Cut) → block_behind line behind ≡ cut
    → AreInBlocks None (line ∷ behind) → length (left_behind line behind) ≤ length behind
shorter line behind None is stands =
    let one = is_line line behind stands is in
    subst (λ (left : List ScriptLine). length left ≤ length behind) (sym one.left_is) (omega arith)
shorter line behind (Some cut) is stands =
    let block = is_block line behind cut.0 cut.1 stands is in
    let all : length behind ≡ length cut.0 + length (block.ends.end ∷ cut.1) =
    ap length block.ends.split ∙ length-append cut.0 (block.ends.end ∷ cut.1) in
    subst (λ (left : List ScriptLine). length left ≤ length behind) (sym block.left_is) (omega (arith, all))

-- fewer lines are left
pub left_shorter : (line : ScriptLine) (behind : List ScriptLine) → AreInBlocks None (line ∷ behind)
    → length (left_behind line behind) ≤ length behind
left_shorter line behind stands = shorter line behind (block_behind line behind) refl stands
