-- Typed sums can be computed in every row whose cells are within the widths of their columns.
use Rattle.std.proofs.Common.{◌≡◌, ◌≤◌, ℕ, zero, suc, ◌+◌, ◌*◌, ◌^◌, max, ℤ, Bool, true, false, not, ◌&&◌, ◌||◌}
use Rattle.std.proofs.Common.{nat_le, List, [], ◌∷◌, ◌++◌, length, sum, Option, Some, None, option_and_then, slice_get}
use Rattle.std.proofs.Common.{unsigned_abs, refl, sym, ap, subst, ◌∙◌, arith, if◌then◌else◌}
use Rattle.std.specs.List.{AllByRecursion}
use Rattle.std.specs.Option.{option_map_or}
use Rattle.std.proofs.Math.Nat.{pow-suc}
use Rattle.std.proofs.Math.Pow.{pow_mono}
use Rattle.std.proofs.lemmas.Bool.{leb-true}
use Rattle.std.proofs.lemmas.Option.{none-some, same_Some}
use Rattle.mon_value.specs.Tables.{FitColumns, HasType}
use Rattle.mon_value.specs.Groups.{counts_in, number_in}
use Rattle.mon_value.specs.Values.{magnitude}
use Rattle.mon_value.specs.declared.columns.Column.{Column}
use Rattle.mon_value.specs.declared.values.Value.{Value}
use Rattle.mon_value.specs.declared.values.Value.TheVariants as value
use Rattle.mon_value.specs.declared.values.ValueType.{ValueType}
use Rattle.mon_value.specs.declared.values.ValueType.TheVariants as type
use Rattle.mql_ast.specs.Rows.{cell_named, column_named, place_of, bounds_named, bucket_bounds, CanCompute, FitWidths}
use Rattle.mql_ast.specs.Rows.{HasBound, HasShares, column_bits, percentile_width, sum_bits, widest_percentile}
use Rattle.mql_ast.specs.Rows.{bits_together}
use Rattle.mql_ast.specs.Trees as tree
use Rattle.mql_ast.specs.Trees.{SumTree}
use Rattle.mon_expr.specs.BoundSums.{CanDivide, CanTake, terms_size}
use Rattle.mon_expr.specs.SumTerms.{terms_of}
use Rattle.mon_expr.specs.declared.bound_sums.SignedTerm.{SignedTerm}

-- ---- what stands in a column

pub record Stands (column : Column) (cells : List Value) (place : ℕ) : Type 0 where
  pub cell : Value
  pub is : slice_get cells place ≡ Some cell
  pub typed : HasType column.of cell
  pub bounded : HasBound column.of
  pub within : magnitude cell ≤ 2 ^ column.cell_bits

stands_at : (columns : List Column) (cells : List Value) (place : ℕ) (column : Column) →
    AllByRecursion (λ column. HasBound column.of) columns → FitColumns columns cells → FitWidths columns cells →
    slice_get columns place ≡ Some column →
    Stands column cells place
stands_at [] cells place column bounded shaped widths is = absurd (none-some column is)
stands_at (first ∷ columns) [] place column bounded shaped widths is = absurd shaped
stands_at (first ∷ columns) (cell ∷ cells) zero column bounded shaped widths is =
    let same : first ≡ column = same_Some first column is in
    record {
      cell = cell;
      is = refl;
      typed = subst (λ c. HasType c.of cell) same shaped.0;
      bounded = subst (λ c. HasBound c.of) same bounded.0;
      within = subst (λ c. magnitude cell ≤ 2 ^ c.cell_bits) same widths.0;
    }
stands_at (first ∷ columns) (cell ∷ cells) (suc place) column bounded shaped widths is =
    let s = stands_at columns cells place column bounded.1 shaped.1 widths.1 is in
    record { cell = s.cell; is = s.is; typed = s.typed; bounded = s.bounded; within = s.within }

pub stands : (columns : List Column) (cells : List Value) (place : ℕ) (column : Column) → CanCompute columns cells →
    slice_get columns place ≡ Some column → Stands column cells place
stands columns cells place column can is = stands_at columns cells place column can.bounded can.shaped can.widths is

-- ---- widths

pub record Found {T : Type 0} (o : Option T) (f : T → Option ℕ) (w : ℕ) : Type 0 where
  pub item : T
  pub is : o ≡ Some item
  pub gives : f item ≡ Some w

pub found : {T : Type 0} (o : Option T) (f : T → Option ℕ) (w : ℕ) → option_and_then f o ≡ Some w → Found o f w
found None f w e = absurd (none-some w e)
found (Some item) f w e = record { item = item; is = refl; gives = e }

pub record Together (left right : Option ℕ) (w : ℕ) : Type 0 where
  pub u : ℕ
  pub v : ℕ
  pub left_is : left ≡ Some u
  pub right_is : right ≡ Some v
  pub is : max u v + 1 ≡ w

pub together : (left right : Option ℕ) (w : ℕ) → bits_together left right ≡ Some w → Together left right w
together None right w e = absurd (none-some w e)
together (Some u) None w e = absurd (none-some w e)
together (Some u) (Some v) w e = record {
  u = u;
  v = v;
  left_is = refl;
  right_is = refl;
  is = same_Some
      (max u v + 1) w e;
}

two_widths : (a b u v w : ℕ) → a ≤ 2 ^ u → b ≤ 2 ^ v → max u v + 1 ≡ w → a + b ≤ 2 ^ w
two_widths a b u v w p q is =
    let left : 2 ^ u ≤ 2 ^ (max u v) = pow_mono (omega arith) in
    let right : 2 ^ v ≤ 2 ^ (max u v) = pow_mono (omega arith) in
    let next : max u v + 1 ≡ suc (max u v) = omega arith in
    let twice : 2 ^ (suc (max u v)) ≡ 2 ^ (max u v) * 2 = pow-suc 2 (max u v) in
    let both : a + b ≤ 2 ^ (suc (max u v)) = omega (arith, p, q, left, right, twice) in
    subst (λ n. a + b ≤ 2 ^ n) (sym next ∙ is) both

-- ---- sizes

size-append : (xs ys : List SignedTerm) (cells : List Value) →
    terms_size (xs ++ ys) cells ≡ terms_size xs cells + terms_size ys cells
size-append [] ys cells = omega arith
size-append (x ∷ xs) ys cells = omega (arith, size-append xs ys cells)

number_within : (o : Option Value) (cell : Value) (bound : ℕ) → o ≡ Some cell → magnitude cell ≤ bound →
    option_map_or unsigned_abs (option_and_then number_in o) 0 ≤ bound
number_within o (value.Int z) bound is within = rw is within
number_within o (value.Bool p) bound is within = rw is (omega arith)
number_within o (value.Text s) bound is within = rw is (omega arith)
number_within o (value.Dist counts) bound is within = rw is (omega arith)

number_bits_are : (of : ValueType) (bits w : ℕ) → column_bits of bits ≡ Some w → bits ≡ w
number_bits_are type.Int bits w e = same_Some bits w e
number_bits_are type.Bool bits w e = absurd (none-some w e)
number_bits_are type.Text bits w e = absurd (none-some w e)
number_bits_are (type.Dist bounds) bits w e = absurd (none-some w e)

pub record IsDivided (of : ValueType) (bits w : ℕ) : Type 0 where
  pub bounds : List ℤ
  pub is : of ≡ type.Dist bounds
  pub narrow : bits ≤ 119
  pub short : w ≡ 63

pub divided : (of : ValueType) (bits w : ℕ) → percentile_width of bits ≡ Some w → IsDivided of bits w
divided type.Int bits w e = absurd (none-some w e)
divided type.Bool bits w e = absurd (none-some w e)
divided type.Text bits w e = absurd (none-some w e)
divided (type.Dist bounds) bits w e = by (nat_le bits widest_percentile) refl e
  where
    by : (b : Bool) → nat_le bits widest_percentile ≡ b → (if b then Some 63 else None) ≡ Some w →
        IsDivided (type.Dist bounds) bits w
    by true narrow e = record {
      bounds = bounds;
      is = refl;
      narrow = leb-true bits 119 narrow;
      short = sym
          (same_Some 63 w e);
    }
    by false narrow e = absurd (none-some w e)

pub size_within : (minus : Bool) (sum : SumTree) (columns : List Column) (cells : List Value) (w : ℕ) →
    CanCompute columns cells → sum_bits sum columns ≡ Some w →
    terms_size (terms_of minus sum columns) cells ≤ 2 ^ w
size_within minus (tree.Column name) columns cells w can e =
    let f = found (column_named name.text columns) (λ column. column_bits column.of column.cell_bits) w e in
    let s = stands columns cells (place_of name.text columns) f.item can f.is in
    let bits : f.item.cell_bits ≡ w = number_bits_are f.item.of f.item.cell_bits w f.gives in
    let within : option_map_or unsigned_abs (option_and_then number_in (cell_named name.text columns cells)) 0 ≤ 2 ^ w =
    number_within (cell_named name.text columns cells) s.cell (2 ^ w) s.is (subst
    (λ n. magnitude s.cell ≤ 2 ^ n) bits s.within) in
    omega (arith, within)
size_within minus (tree.Number at z) columns cells w can e = let same : 63 ≡ w = same_Some 63 w e in
    subst (λ n. 2 ^ 63 + 0 ≤ 2 ^ n) same (omega arith)
size_within minus (tree.Plus left right) columns cells w can e =
    let t = together (sum_bits left columns) (sum_bits right columns) w e in
    let split : terms_size (terms_of minus left columns ++ terms_of minus right columns) cells
    ≡ terms_size (terms_of minus left columns) cells + terms_size (terms_of minus right columns) cells =
    size-append (terms_of minus left columns) (terms_of minus right columns) cells in
    rw split (two_widths (terms_size (terms_of minus left columns) cells) (terms_size
    (terms_of minus right columns) cells) t.u t.v w
    (size_within minus left columns cells t.u can t.left_is)
    (size_within minus right columns cells t.v can t.right_is) t.is)
size_within minus (tree.Minus left right) columns cells w can e =
    let t = together (sum_bits left columns) (sum_bits right columns) w e in
    let split : terms_size (terms_of minus left columns ++ terms_of (not minus) right columns) cells
    ≡ terms_size (terms_of minus left columns) cells + terms_size (terms_of (not minus) right columns) cells =
    size-append (terms_of minus left columns) (terms_of (not minus) right columns) cells in
    rw split (two_widths (terms_size (terms_of minus left columns) cells) (terms_size (terms_of
    (not minus) right columns) cells) t.u t.v w
    (size_within minus left columns cells t.u can t.left_is) (size_within
    (not minus) right columns cells t.v can t.right_is) t.is)
size_within minus (tree.Percentile at name p) columns cells w can e =
    let f = found (column_named name.text columns) (λ column. percentile_width column.of column.cell_bits) w e in
    let d = divided f.item.of f.item.cell_bits w f.gives in
    subst (λ n. 2 ^ 63 + 0 ≤ 2 ^ n) (sym d.short) (omega arith)

-- ---- percentiles

taken-append : (cells : List Value) (xs ys : List SignedTerm) →
    AllByRecursion (λ signed. CanTake signed.term cells) xs →
    AllByRecursion (λ signed. CanTake signed.term cells) ys →
    AllByRecursion (λ signed. CanTake signed.term cells) (xs ++ ys)
taken-append cells [] ys p q = q
taken-append cells (x ∷ xs) ys p q = (p.0, taken-append cells xs ys p.1 q)

can_divide : (of : ValueType) (bounds : List ℤ) (cell : Value) (counts : List ℕ) (bits p : ℕ) →
    of ≡ type.Dist bounds → HasType of cell → HasBound of → bits ≤ 119 → magnitude cell ≤ 2 ^ bits →
    1 ≤ p → p ≤ 100 → counts_in cell ≡ Some counts → CanDivide (bucket_bounds of) p counts
can_divide type.Int bounds cell counts bits p is typed bounded narrow within low high held = absurd cc
can_divide type.Bool bounds cell counts bits p is typed bounded narrow within low high held = absurd cc
can_divide type.Text bounds cell counts bits p is typed bounded narrow within low high held = absurd cc
can_divide (type.Dist bs) bounds (value.Int z) counts bits p is typed bounded narrow within low high held = absurd typed
can_divide (type.Dist bs) bounds (value.Bool b) counts bits p is typed bounded narrow within low high held = absurd
    typed
can_divide (type.Dist bs) bounds (value.Text s) counts bits p is typed bounded narrow within low high held = absurd
    typed
can_divide (type.Dist bs) bounds (value.Dist cs) counts bits p is typed bounded narrow within low high held =
    let same : cs ≡ counts = same_Some cs counts held in
    let widest : 2 ^ bits ≤ 2 ^ 119 = pow_mono narrow in
    record {
      from_one = low;
      to_hundred = high;
      bounded = bounded;
      buckets = ap length (sym same) ∙ typed;
      total = subst (λ cs. sum cs ≤ 2 ^ 119) same (omega (arith, within, widest));
    }

pub taken : (minus : Bool) (sum : SumTree) (columns : List Column) (cells : List Value) (w : ℕ) →
    CanCompute columns cells → sum_bits sum columns ≡ Some w → HasShares sum →
    AllByRecursion (λ signed. CanTake signed.term cells) (terms_of minus sum columns)
taken minus (tree.Column name) columns cells w can e shares = (tt, tt)
taken minus (tree.Number at z) columns cells w can e shares = (tt, tt)
taken minus (tree.Plus left right) columns cells w can e shares =
    let t = together (sum_bits left columns) (sum_bits right columns) w e in
    taken-append cells (terms_of minus left columns) (terms_of minus right columns)
    (taken minus left columns cells t.u can t.left_is shares.0)
    (taken minus right columns cells t.v can t.right_is shares.1)
taken minus (tree.Minus left right) columns cells w can e shares =
    let t = together (sum_bits left columns) (sum_bits right columns) w e in
    taken-append cells (terms_of minus left columns) (terms_of (not minus) right columns)
    (taken minus left columns cells t.u can t.left_is shares.0) (taken
    (not minus) right columns cells t.v can t.right_is shares.1)
taken minus (tree.Percentile at name p) columns cells w can e shares =
    let f = found (column_named name.text columns) (λ column. percentile_width column.of column.cell_bits) w e in
    let d = divided f.item.of f.item.cell_bits w f.gives in
    let s = stands columns cells (place_of name.text columns) f.item can f.is in
    let bounds : bounds_named name.text columns ≡ bucket_bounds f.item.of = ap (λ o. option_map_or
    (λ column. bucket_bounds column.of) o []) f.is in (
      λ counts held. subst (λ bounds. CanDivide bounds p counts) (sym bounds)
          (can_divide f.item.of d.bounds s.cell counts f.item.cell_bits p d.is s.typed s.bounded d.narrow s.within
          shares.0 shares.1 (ap (option_and_then counts_in) (sym s.is) ∙ held)),
      tt,
    )

-- ---- when there is no value

pub is_some-both : (a b c d : Bool) → a ≡ not c → b ≡ not d → (a && b) ≡ not (c || d)
is_some-both a b true d e f = rw e refl
is_some-both a b false d e f = rw e f
