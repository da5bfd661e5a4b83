-- Sums without a fault are typed as computing them asks.
use Rattle.std.proofs.lemmas.Bool.{not-false}
use Rattle.std.proofs.Common.{◌≡◌, ◌∙◌, ◌≤◌, ℕ, ◌+◌, not, cond, nat_le, Option, Some, None, List, [], ◌∷◌, max, subst}
use Rattle.std.proofs.Common.{refl, ap, sym, arith}
use Rattle.std.specs.Prelude.{IsSome, IsSomeAnd, is_none, option_and_then}
use Rattle.std.specs.List.{AllByRecursion, flat_map}
use Rattle.mon_value.specs.declared.columns.Column.{Column}
use Rattle.mon_value.specs.declared.limits.TheConstants.{NUMBER_BITS}
use Rattle.mon_value.specs.declared.values.ValueType.{ValueType}
use Rattle.mon_value.specs.declared.values.ValueType.TheVariants as type
use Rattle.mql_ast.specs.Rows.{column_named, HasShares, IsTypedSum, percentile_width}
use Rattle.mql_ast.specs.Rows as asked
use Rattle.mql_ast.specs.Trees as tree
use Rattle.mql_ast.specs.Trees.{ItemTree, SumTree}
use Rattle.mql_ast.specs.declared.names.Name.{Name}
use Rattle.typed_trees.specs.declared.faults.TypeKind.TheVariants.{UnknownColumn}
use Rattle.typed_trees.specs.declared.widths.Width.{Width}
use Rattle.typed_trees.specs.Faults.{fault_where}
use Rattle.typed_trees.specs.Items.{item_sum_faults, operand_faults, optional_width_faults, percentile_faults}
use Rattle.typed_trees.specs.Items.{percentile_faults_of, sum_width, width_of_type, width_together}
use Rattle.typed_trees.specs.Soundness.{HasLiterals}
use Rattle.typed_trees.specs.Branches.{added_width, point_width, width_of}
use Rattle.typed_rows.proofs.KnownSums.{width_known}
use Rattle.typed_rows.proofs.SumBounds.{AreLawful, IsLawful, both_by, not_wide, sum_within}
use Rattle.typed_rows.proofs.ValueRows.{no_cells}
use Rattle.typed_trees.proofs.FetchColumnLemmas.{both_none}
use Rattle.mon_value.proofs.PlainLemmas.{same_item}
use Rattle.typed_rows.proofs.TypedGridLemmas.{no_test}

number_cell : (of : ValueType) (own w : Width) → width_of_type of own ≡ Some w
    → asked.column_bits of own.cell ≡ Some w.cell
number_cell type.Int own w e = ap (λ (v : Width). Some v.cell) (same_item own w e)
number_cell type.Bool own w e = absurd cc
number_cell type.Text own w e = absurd cc
number_cell (type.Dist bounds) own w e = absurd cc

column_width : (o : Option Column) (w : Width)
    → option_and_then (λ (c : Column). width_of_type c.of (width_of c)) o ≡ Some w
    → option_and_then (λ (c : Column). asked.column_bits c.of c.cell_bits) o ≡ Some w.cell
column_width None w e = absurd cc
column_width (Some c) w e = number_cell c.of (width_of c) w e

-- a percentile without a fault is of distributions that are narrow enough
percentile_of_type : (of : ValueType) (bits at : ℕ) → percentile_faults_of of bits at ≡ []
    → percentile_width of bits ≡ Some NUMBER_BITS
percentile_of_type type.Int bits at e = absurd cc
percentile_of_type type.Bool bits at e = absurd cc
percentile_of_type type.Text bits at e = absurd cc
percentile_of_type (type.Dist bounds) bits at e =
    ap (λ b. cond b (Some NUMBER_BITS) None) (not-false (nat_le bits 119) (no_test (not (nat_le bits 119)) at _ e))

percentile_column : (o : Option Column) (at : ℕ) → percentile_faults o at ≡ []
    → option_and_then (λ (c : Column). percentile_width c.of c.cell_bits) o ≡ Some NUMBER_BITS
percentile_column None at e = absurd cc
percentile_column (Some c) at e = percentile_of_type c.of c.cell_bits at e

both_widths : (a b : Option ℕ) (x y : ℕ) → a ≡ Some x → b ≡ Some y → asked.bits_together a b ≡ Some (max x y + 1)
both_widths a b x y e f =
    ap (λ o. asked.bits_together o b) e ∙ ap (λ o. asked.bits_together (Some x) o) f

-- two operands together, without a fault
together : (a b : Option Width) (c d : Option ℕ) (w : Width) (at : ℕ) → width_together a b ≡ Some w
    → optional_width_faults at (width_together a b) ≡ []
    → ((v : Width) → a ≡ Some v → (c ≡ Some v.cell) × IsLawful v)
    → ((v : Width) → b ≡ Some v → (d ≡ Some v.cell) × IsLawful v)
    → asked.bits_together c d ≡ Some w.cell
together a b c d w at e none left right =
    let two = both_by a b w e in
    let P : Option Width → Type 0 = λ o. optional_width_faults at o ≡ [] in
    let narrow : w.total ≤ 126 = not_wide at w (subst P e none) in
    let l = left two.left two.of_left in
    let r = right two.right two.of_right in
    let Q : Width → Type 0 = λ v. v.total ≤ 126 in
    let own : (added_width two.left two.right).total ≤ 126 = subst Q (sym two.is) narrow in
    let exact : max two.left.cell two.right.cell + 1 ≡ (added_width two.left two.right).cell =
    omega (arith, own, l.1.ordered, r.1.ordered, l.1.narrow, r.1.narrow) in
    both_widths c d two.left.cell two.right.cell l.0 r.0 ∙ ap Some (exact ∙ ap (λ (v : Width). v.cell) two.is)

lawful_width : (columns : List Column) → AreLawful columns → (e : SumTree) → HasLiterals e
    → operand_faults columns e ≡ [] → (w : Width)
    → sum_width columns e ≡ Some w → IsLawful w
lawful_width columns lawful e literal none w is =
    (sum_within columns [] (no_cells columns) lawful e literal none w is).1

-- the width that computing asks for is that of typing
width_same : (columns : List Column) → AreLawful columns → (e : SumTree) → HasLiterals e
    → operand_faults columns e ≡ [] → (w : Width)
    → sum_width columns e ≡ Some w → asked.sum_bits e columns ≡ Some w.cell
width_same columns lawful (tree.Column name) literal none w is = column_width (column_named name.text columns) w is
width_same columns lawful (tree.Number at z) literal none w is =
    ap (λ (v : Width). Some v.cell) (same_item point_width w is)
width_same columns lawful (tree.Plus left right) literal none w is =
    let first = both_none (operand_faults columns left) _ none in
    let second = both_none (operand_faults columns right) _ first.1 in
    together (sum_width columns left) (sum_width columns right) (asked.sum_bits left columns)
    (asked.sum_bits right columns) w _ is second.1
    (λ v e. (
      width_same columns lawful left literal.0 first.0 v e,
      lawful_width columns lawful left literal.0
          first.0 v e,
    ))
    (λ v e. (
      width_same columns lawful right literal.1 second.0 v e,
      lawful_width columns lawful right literal.1
          second.0 v e,
    ))
width_same columns lawful (tree.Minus left right) literal none w is =
    let first = both_none (operand_faults columns left) _ none in
    let second = both_none (operand_faults columns right) _ first.1 in
    together (sum_width columns left) (sum_width columns right) (asked.sum_bits left columns)
    (asked.sum_bits right columns) w _ is second.1
    (λ v e. (
      width_same columns lawful left literal.0 first.0 v e,
      lawful_width columns lawful left literal.0
          first.0 v e,
    ))
    (λ v e. (
      width_same columns lawful right literal.1 second.0 v e,
      lawful_width columns lawful right literal.1
          second.0 v e,
    ))
width_same columns lawful (tree.Percentile at name p) literal none w is =
    percentile_column (column_named name.text columns) name.at none
    ∙ ap (λ (v : Width). Some v.cell) (same_item point_width w is)

narrow_width : (o : Option ℕ) (bits : ℕ) → o ≡ Some bits → bits ≤ 126 → IsSomeAnd o (λ n. n ≤ 126)
narrow_width o bits e h =
    let P : Option ℕ → Type 0 = λ p. IsSomeAnd p (λ n. n ≤ 126) in
    subst P (sym e) h

number_typed : (columns : List Column) → AreLawful columns → (e : SumTree) → HasLiterals e
    → operand_faults columns e ≡ []
    → IsSomeAnd (asked.sum_bits e columns) (λ n. n ≤ 126)
number_typed columns lawful e literal none =
    let known = width_known columns e none in
    let width = lawful_width columns lawful e literal none known.width known.is in
    narrow_width (asked.sum_bits e columns) known.width.cell
    (width_same columns lawful e literal none known.width known.is)
    (omega (arith, width.ordered, width.narrow))

named_there : (o : Option Column) (at : ℕ) → fault_where (is_none o) at UnknownColumn ≡ [] → IsSome o
named_there None at e = absurd cc
named_there (Some c) at e = refl

sum_typed : (columns : List Column) → AreLawful columns → (label : Option Name) (e : SumTree) → HasLiterals e
    → item_sum_faults columns (record { name = label; sum = e }) ≡ [] → IsTypedSum e columns
sum_typed columns lawful label (tree.Column name) literal none =
    named_there (column_named name.text columns) name.at none
sum_typed columns lawful label (tree.Number at z) literal none =
    number_typed columns lawful (tree.Number at z) literal none
sum_typed columns lawful label (tree.Plus left right) literal none =
    number_typed columns lawful (tree.Plus left right) literal none
sum_typed columns lawful label (tree.Minus left right) literal none =
    number_typed columns lawful (tree.Minus left right) literal none
sum_typed columns lawful label (tree.Percentile at name p) literal none =
    number_typed columns lawful (tree.Percentile at name p) literal none

pub sums_typed : (columns : List Column) → AreLawful columns → (items : List ItemTree)
    → AllByRecursion (λ (item : ItemTree). HasLiterals item.sum) items
    → AllByRecursion (λ (item : ItemTree). HasShares item.sum) items → flat_map (item_sum_faults columns) items ≡ []
    → AllByRecursion (λ (item : ItemTree). IsTypedSum item.sum columns × HasShares item.sum) items
sums_typed columns lawful [] literals shares none = tt
sums_typed columns lawful (item ∷ items) literals shares none =
    let parts = both_none (item_sum_faults columns item) (flat_map (item_sum_faults columns) items) none in (
      (sum_typed columns lawful item.name item.sum literals.0 parts.0, shares.0),
      sums_typed columns lawful items
          literals.1 shares.1 parts.1,
    )
