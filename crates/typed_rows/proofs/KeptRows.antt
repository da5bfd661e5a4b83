-- Operations that keep rows as they are: filters and tops.
use Rattle.std.proofs.Common.{◌≡◌, ◌∙◌, ◌≤◌, ℕ, ◌+◌, Bool, true, false, cond, List, [], ◌∷◌, ◌++◌, map, take, zero}
use Rattle.std.proofs.Common.{suc, refl, ap, sym, arith}
use Rattle.std.specs.List.{AllByRecursion, filter, flat_map, sum_by}
use Rattle.std.specs.Ordering.{is_gt}
use Rattle.std.proofs.lemmas.List.Sums.{sum_by-append, sum_by-cons, sum_by-le-sum_by, sum_by-take-le}
use Rattle.std.proofs.lemmas.List.Sorted.{sum_by-IsPermutation}
use Rattle.mon_value.specs.Groups.{group_key, group_keys, rows_by_group, rows_in, rank_cmp, top_rows}
use Rattle.mon_value.specs.Same.{same_row}
use Rattle.mon_value.specs.Order.{sorted_list, sorted_list_with}
use Rattle.mon_value.specs.declared.columns.Column.{Column}
use Rattle.mon_value.specs.declared.tables.TimedRow.{TimedRow}
use Rattle.mon_value.proofs.SameLemmas.{same_row-Decides}
use Rattle.mon_value.proofs.SortingLemmas.{sorted_list-permutation}
use Rattle.std.specs.declared.cmp.Ordering.{Ordering}
use Rattle.typed_trees.specs.Soundness.{FitTable}
use Rattle.typed_rows.proofs.GroupSums.{group_sums_within}
use Rattle.typed_rows.proofs.Totals.{TotalsFit-fewer, counted, sum_by-filter-le}
use Rattle.mon_value.proofs.PlainLemmas.{all_append}

-- ---- what holds of all items

kept_by : {A : Type 0} (P : A → Type 0) (b : Bool) (x : A) (xs : List A) → P x → AllByRecursion P xs
    → AllByRecursion P (cond b (x ∷ xs) xs)
kept_by P true x xs h all = (h, all)
kept_by P false x xs h all = all

pub all-filter : {A : Type 0} (P : A → Type 0) (p : A → Bool) (xs : List A) → AllByRecursion P xs
    → AllByRecursion P (filter p xs)
all-filter P p [] all = tt
all-filter P p (x ∷ xs) all = kept_by P (p x) x (filter p xs) all.0 (all-filter P p xs all.1)

pub all-take : {A : Type 0} (P : A → Type 0) (n : ℕ) (xs : List A) → AllByRecursion P xs
    → AllByRecursion P (take n xs)
all-take P zero [] all = tt
all-take P zero (x ∷ xs) all = tt
all-take P (suc n) [] all = tt
all-take P (suc n) (x ∷ xs) all = (all.0, all-take P n xs all.1)

placed_by : {A : Type 0} (P : A → Type 0) (b : Bool) (x y : A) (xs later : List A) → P x → P y → AllByRecursion P xs
    → AllByRecursion P later → AllByRecursion P (cond b (y ∷ later) (x ∷ y ∷ xs))
placed_by P true x y xs later hx hy all rest = (hy, rest)
placed_by P false x y xs later hx hy all rest = (hx, (hy, all))

all-sorted_with : {A : Type 0} (P : A → Type 0) (order : A → A → Ordering) (x : A) (xs : List A) → P x
    → AllByRecursion P xs → AllByRecursion P (sorted_list_with order x xs)
all-sorted_with P order x [] h all = (h, tt)
all-sorted_with P order x (y ∷ xs) h all =
    placed_by P (is_gt (order x y)) x y xs (sorted_list_with order x xs) h all.0 all.1
    (all-sorted_with P order x xs h all.1)

pub all-sorted : {A : Type 0} (P : A → Type 0) (order : A → A → Ordering) (xs : List A) → AllByRecursion P xs
    → AllByRecursion P (sorted_list order xs)
all-sorted P order [] all = tt
all-sorted P order (x ∷ xs) all = all-sorted_with P order x (sorted_list order xs) all.0 (all-sorted P order xs all.1)

-- ---- filters

pub FitTable-filter : (columns : List Column) (p : TimedRow → Bool) (rows : List TimedRow) → FitTable columns rows
    → FitTable columns (filter p rows)
FitTable-filter columns p rows fit = record {
  shaped = all-filter _ p rows fit.shaped;
  widths = all-filter _ p rows fit.widths;
  totals = λ time. TotalsFit-fewer time rows (filter p rows) (λ place. sum_by-filter-le (counted time place) p rows)
      0 columns (fit.totals time);
}

-- ---- tops

-- the rows that come first of each group
abbrev firsts : ℕ → ℕ → TimedRow × List TimedRow → List TimedRow
firsts n column group = take n (sorted_list (rank_cmp column) group.1)

all-firsts : (P : TimedRow → Type 0) (n column : ℕ) (rows : List TimedRow) (keys : List TimedRow)
    → AllByRecursion P rows
    → AllByRecursion P (flat_map (firsts n column) (map (λ key. (key, rows_in [] key rows)) keys))
all-firsts P n column rows [] all = tt
all-firsts P n column rows (key ∷ keys) all =
    all_append P (firsts n column (key, rows_in [] key rows)) _
    (all-take P n (sorted_list (rank_cmp column) (rows_in [] key rows))
    (all-sorted P (rank_cmp column) (rows_in [] key rows)
    (all-filter P (λ row. same_row key (group_key [] row)) rows all)))
    (all-firsts P n column rows keys all)

pub sum_by-flat_map : {A B : Type 0} (f : B → ℕ) (g : A → List B) (xs : List A)
    → sum_by f (flat_map g xs) ≡ sum_by (λ x. sum_by f (g x)) xs
sum_by-flat_map f g [] = refl
sum_by-flat_map f g (x ∷ xs) =
    sum_by-append f (g x) (flat_map g xs) ∙ ap (λ n. sum_by f (g x) + n) (sum_by-flat_map f g xs)
    ∙ sym (sum_by-cons (λ y. sum_by f (g y)) x xs)

first_sum : (f : TimedRow → ℕ) (n column : ℕ) (rows : List TimedRow)
    → sum_by f (take n (sorted_list (rank_cmp column) rows)) ≤ sum_by f rows
first_sum f n column rows =
    omega (
      arith,
      sum_by-take-le f (sorted_list (rank_cmp column) rows) n,
      sum_by-IsPermutation f rows (sorted_list (rank_cmp column) rows)
          (sorted_list-permutation (rank_cmp column) rows),
    )

top_sum : (f : TimedRow → ℕ) (n column : ℕ) (rows : List TimedRow) → sum_by f (top_rows n column rows) ≤ sum_by f rows
top_sum f n column rows =
    let fewer : sum_by (λ (group : TimedRow × List TimedRow). sum_by f (firsts n column group))
    (rows_by_group [] rows)
    ≤ sum_by (λ (group : TimedRow × List TimedRow). sum_by f group.1) (rows_by_group [] rows) =
    sum_by-le-sum_by (λ (group : TimedRow × List TimedRow). sum_by f (firsts n column group))
    (λ group. sum_by f group.1)
    (rows_by_group [] rows) (λ group. first_sum f n column group.1) in
    let within : sum_by (λ (group : TimedRow × List TimedRow). sum_by f group.1) (rows_by_group [] rows) ≤ sum_by f
    rows =
    group_sums_within same_row same_row-Decides (group_key []) f rows in
    omega (arith, sum_by-flat_map f (firsts n column) (rows_by_group [] rows), fewer, within)

pub FitTable-top : (columns : List Column) (n column : ℕ) (rows : List TimedRow) → FitTable columns rows
    → FitTable columns (top_rows n column rows)
FitTable-top columns n column rows fit = record {
  shaped = all-firsts _ n column rows (group_keys [] rows) fit.shaped;
  widths = all-firsts _ n column rows (group_keys [] rows) fit.widths;
  totals = λ time. TotalsFit-fewer time rows (top_rows n column rows)
      (λ place. top_sum (counted time place) n column rows) 0 columns (fit.totals time);
}
