-- Operations on the same rows in another order.
use Rattle.std.proofs.Common.{◌≡◌, ℕ, List, [], ◌∷◌, ◌++◌, map, take, Option, option_map, sym, ap, ◌∙◌}
use Rattle.std.specs.Prelude.{IsPermutation, slice_get}
use Rattle.std.specs.Cmp.{IsTotalOrder}
use Rattle.std.specs.Cmp.Lexicographic.{slice_cmp}
use Rattle.std.specs.List.{AllByRecursion, filter_map, flat_map}
use Rattle.std.specs.Ordering.{int_eq}
use Rattle.std.proofs.lemmas.Cmp.{back_total, lists_total, on_total, then_total}
use Rattle.std.proofs.lemmas.List.Folds.{flat_map-map}
use Rattle.std.proofs.lemmas.List.Sorted.{IsPermutation-map, IsPermutation-trans, sum_by-IsPermutation}
use Rattle.mon_value.proofs.AggregateLemmas.{greatest_of-permutation, item_count-permutation, least_of-permutation}
use Rattle.mon_value.proofs.AggregateLemmas.{mean_of-permutation, sum_of-permutation, where_any-permutation}
use Rattle.mon_value.proofs.CountsLemmas.{merged_of-permutation}
use Rattle.mon_value.proofs.OrderLemmas.{both_Equal, value_total}
use Rattle.mon_value.proofs.PermutationLemmas.{filter-permutation, flat_map-alike, flat_map-permutation}
use Rattle.mon_value.proofs.RowOrderLemmas.{row_exact, row_total}
use Rattle.mon_value.proofs.SameLemmas.{same_row-Decides}
use Rattle.mon_value.proofs.SortingLemmas.{sorted_list-alike}
use Rattle.mon_value.specs.Groups.{sum_of, CanGroup, SumsFit, UnlessCount, rows_at, aggregate_made, cells_at, column_of}
use Rattle.mon_value.specs.Groups.{counts_in, group_key, group_keys, group_row, group_rows, number_in, numbers_in}
use Rattle.mon_value.specs.Groups.{rows_in, rank_cmp, top_rows}
use Rattle.mon_value.specs.Tables.{FitColumns, is_pair, pair_of, pairs_of}
use Rattle.mon_value.specs.Order.{TellsApart, row_cmp, value_cmp, sorted_list}
use Rattle.mon_value.specs.Same.{same_row}
use Rattle.mon_value.specs.Values.{magnitude}
use Rattle.mon_value.specs.declared.aggregates.Aggregate.{Aggregate}
use Rattle.mon_value.specs.declared.aggregates.AggregateKind.{AggregateKind}
use Rattle.mon_value.specs.declared.aggregates.AggregateKind.TheVariants as kind
use Rattle.mon_value.specs.declared.columns.Column.{Column}
use Rattle.mon_value.specs.declared.tables.TimedRow.{TimedRow}
use Rattle.mon_value.specs.declared.values.Value.{Value}
use Rattle.mon_value.specs.declared.values.Value.TheVariants as value
use Rattle.mon_meaning.proofs.FilterLemmas.{all-permutation, filter_map-permutation, flat_map-agree, map-map}
use Rattle.mon_meaning.proofs.KeyOrders as orders
use Rattle.mon_fold.proofs.GroupBounds.{unless_count}
use Rattle.mon_value.proofs.PlainLemmas.{map_same}

-- ---- groups

column_alike : (column : ℕ) (xs ys : List TimedRow) → IsPermutation xs ys → IsPermutation (column_of column xs)
    (column_of column ys)
column_alike column xs ys same = filter_map-permutation (λ (row : TimedRow). slice_get row.cells column) xs ys same

numbers_alike : (column : ℕ) (xs ys : List TimedRow) → IsPermutation xs ys
    → IsPermutation (numbers_in (column_of column xs)) (numbers_in (column_of column ys))
numbers_alike column xs ys same = filter_map-permutation number_in (column_of column xs) (column_of column ys)
    (column_alike column xs ys same)

made_alike : (what : AggregateKind) (column : ℕ) (xs ys : List TimedRow) → IsPermutation xs ys
    → aggregate_made what column xs ≡ aggregate_made what column ys
made_alike kind.Sum column xs ys same =
    let n = numbers_in (column_of column xs) in
    let m = numbers_in (column_of column ys) in
    let alike = numbers_alike column xs ys same in
    ap (option_map value.Int) (where_any-permutation n m (sum_of n) (sum_of m) alike (sum_of-permutation n m alike))
made_alike kind.Count column xs ys same =
    ap (option_map value.Int) (where_any-permutation xs ys _ _ same (item_count-permutation xs ys same))
made_alike kind.Min column xs ys same =
    ap (option_map value.Int) (least_of-permutation _ _ (numbers_alike column xs ys same))
made_alike kind.Max column xs ys same =
    ap (option_map value.Int) (greatest_of-permutation _ _ (numbers_alike column xs ys same))
made_alike kind.Mean column xs ys same =
    ap (option_map value.Int) (mean_of-permutation _ _ (numbers_alike column xs ys same))
made_alike kind.Merge column xs ys same =
    ap (option_map value.Dist) (merged_of-permutation _ _
    (filter_map-permutation counts_in (column_of column xs) (column_of column ys) (column_alike column xs ys same)))

group_alike : (with : List Aggregate) (key : TimedRow) (xs ys : List TimedRow) → IsPermutation xs ys
    → group_row with (key, xs) ≡ group_row with (key, ys)
group_alike with key xs ys same =
    ap (λ (f : Aggregate → Option Value). record { time = key.time; cells = key.cells ++ filter_map f with })
    (λ i aggregate. made_alike aggregate.what aggregate.column xs ys same i)

-- the groups of the same rows
pub group_rows-permutation : (by : List ℕ) (with : List Aggregate) (xs ys : List TimedRow) → IsPermutation xs ys
    → IsPermutation (group_rows by with xs) (group_rows by with ys)
group_rows-permutation by with xs ys same =
    let G : List TimedRow → TimedRow → TimedRow = λ rows key. group_row with (key, rows_in by key rows) in
    let keys : IsPermutation (group_keys by xs) (group_keys by ys) =
    orders.keys_of-permutation same_row same_row-Decides (group_key by) xs ys same in
    let left : group_rows by with xs ≡ map (G xs) (group_keys by xs) =
    map-map (group_row with) (λ key. (key, rows_in by key xs)) (group_keys by xs) in
    let right : group_rows by with ys ≡ map (G xs) (group_keys by ys) =
    map-map (group_row with) (λ key. (key, rows_in by key ys)) (group_keys by ys)
    ∙ sym (map_same (G xs) (G ys) (λ key. group_alike with key (rows_in by key xs) (rows_in by key ys)
    (filter-permutation (λ row. same_row key (group_key by row)) xs ys same)) (group_keys by ys)) in
    rw (left, right) (IsPermutation-map (G xs) (group_keys by xs) (group_keys by ys) keys)

-- ---- tops

pub rank_total : (column : ℕ) → IsTotalOrder (rank_cmp column)
rank_total column =
    then_total (back_total (on_total (λ (row : TimedRow). cells_at (column ∷ []) row.cells) (lists_total value_total)))
    row_total

pub rank_exact : (column : ℕ) → TellsApart (rank_cmp column)
rank_exact column a b h =
    row_exact a b (both_Equal (slice_cmp value_cmp (cells_at (column ∷ []) b.cells) (cells_at (column ∷ []) a.cells))
    (row_cmp a b) h).1

-- the rows that come first of the same rows
pub top_rows-permutation : (n column : ℕ) (xs ys : List TimedRow) → IsPermutation xs ys
    → IsPermutation (top_rows n column xs) (top_rows n column ys)
top_rows-permutation n column xs ys same =
    let firsts : TimedRow × List TimedRow → List TimedRow = λ group. take n (sorted_list (rank_cmp column) group.1) in
    let F : List TimedRow → TimedRow → List TimedRow = λ rows key. firsts (key, rows_in [] key rows) in
    let keys : IsPermutation (group_keys [] xs) (group_keys [] ys) =
    orders.keys_of-permutation same_row same_row-Decides (group_key []) xs ys same in
    let left : top_rows n column xs ≡ flat_map (F xs) (group_keys [] xs) =
    flat_map-map firsts (λ key. (key, rows_in [] key xs)) (group_keys [] xs) in
    let right : top_rows n column ys ≡ flat_map (F xs) (group_keys [] ys) =
    flat_map-map firsts (λ key. (key, rows_in [] key ys)) (group_keys [] ys)
    ∙ sym (flat_map-agree (F xs) (F ys) (λ key. ap (take n)
    (sorted_list-alike (rank_cmp column) (rank_total column) (rank_exact column) (rows_in [] key xs) (rows_in [] key ys)
    (filter-permutation (λ row. same_row key (group_key [] row)) xs ys same))) (group_keys [] ys)) in
    rw (left, right) (flat_map-permutation (F xs) (group_keys [] xs) (group_keys [] ys) keys)

-- ---- joins

pub pairs-permutation : (lefts rights : List Column) (xs ys us vs : List TimedRow) → IsPermutation xs ys
    → IsPermutation us vs
    → IsPermutation (flat_map (pairs_of lefts rights us) xs) (flat_map (pairs_of lefts rights vs) ys)
pairs-permutation lefts rights xs ys us vs left right =
    IsPermutation-trans _ _ _ (flat_map-permutation (pairs_of lefts rights us) xs ys left)
    (flat_map-alike (pairs_of lefts rights us) (pairs_of lefts rights vs)
    (λ row. IsPermutation-map (pair_of lefts rights row) _ _ (filter-permutation (is_pair lefts rights row) us vs
    right)) ys)

-- ---- which tables can be grouped

sums_alike : (xs ys : List TimedRow) → IsPermutation xs ys → (column : ℕ) → SumsFit xs column → SumsFit ys column
sums_alike xs ys same column fit time =
    let at : IsPermutation (rows_at time xs) (rows_at time ys) = filter-permutation (λ (row : TimedRow).
    int_eq row.time time) xs ys same in
    let equal = sum_by-IsPermutation magnitude _ _ (column_alike column (rows_at time xs) (rows_at time ys) at) in
    rw equal (fit time)

all_sums : (xs ys : List TimedRow) → IsPermutation xs ys → (with : List Aggregate)
    → AllByRecursion (λ (aggregate : Aggregate). UnlessCount aggregate.what (SumsFit xs aggregate.column)) with
    → AllByRecursion (λ (aggregate : Aggregate). UnlessCount aggregate.what (SumsFit ys aggregate.column)) with
all_sums xs ys same [] all = tt
all_sums xs ys same (aggregate ∷ with) all = (
  unless_count aggregate.what (SumsFit xs aggregate.column) (SumsFit ys aggregate.column)
      (sums_alike xs ys same aggregate.column) all.0,
  all_sums xs ys same with all.1,
)

pub CanGroup-permutation : (columns : List Column) (by : List ℕ) (with : List Aggregate) (xs ys : List TimedRow)
    → IsPermutation xs ys
    → CanGroup columns by with xs → CanGroup columns by with ys
CanGroup-permutation columns by with xs ys same can = record {
  shaped = all-permutation (λ (row : TimedRow). FitColumns columns row.cells) xs ys same can.shaped;
  listed = can.listed;
  taken = can.taken;
  sums = all_sums xs ys same with can.sums;
}
