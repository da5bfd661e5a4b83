-- Groups of rows that can be grouped together can be merged.
use Rattle.std.proofs.lemmas.Bool.{or_parts}
use Rattle.std.proofs.Common.{◌≡◌, ◌≤◌, ℕ, ℤ, true, false, List, [], ◌∷◌, ◌++◌, map, length, IfSome, refl}
use Rattle.std.proofs.Common.{sym, ap, subst, ◌∙◌, arith}
use Rattle.std.specs.List.{AllByRecursion, IsDistinct, list_any}
use Rattle.std.specs.Map.{keys_of, lookup}
use Rattle.std.proofs.lemmas.List.Elements.{filter-append}
use Rattle.mon_value.specs.Tables.{FitColumns}
use Rattle.mon_value.specs.Groups.{CanGroup, rows_at, SumsFit, UnlessCount, group_key, group_keys, rows_in}
use Rattle.mon_value.specs.Values.{greatest_sum}
use Rattle.mon_value.specs.Same.{same_row}
use Rattle.mon_value.specs.declared.aggregates.Aggregate.{Aggregate}
use Rattle.mon_value.specs.declared.columns.Column.{Column}
use Rattle.mon_value.specs.declared.tables.TimedRow.{TimedRow}
use Rattle.mon_value.proofs.GroupLemmas.{has, look_up, rows_some}
use Rattle.mon_value.proofs.KeyedLemmas as keyed
use Rattle.mon_value.proofs.SameLemmas.{same_row-Decides}
use Rattle.mon_fold.proofs.GroupBounds.{all_in_group, group_fewer, group_total, groups_are}
use Rattle.mon_fold.proofs.GroupBounds.{if_there, parts_at, parts_can, sums_at, total-append, total_in, unless_count}
use Rattle.mon_fold.proofs.KeptGroups.{can_merge_apart}
use Rattle.mon_value.proofs.PlainLemmas.{all_front, all_back}
use Rattle.mon_fold.specs.PartialGroups.{CanMergeGroups, CanMergeParts, CanTakeGroup, partial_groups, PartialGroup}
use Rattle.mon_fold.specs.PartialGroups.{parts_over}

-- ---- keys that differ

apart_all : (key : TimedRow) (keys : List TimedRow) → list_any (same_row key) keys ≡ false
    → AllByRecursion (λ other. same_row key other ≡ false) keys
apart_all key [] none = tt
apart_all key (k ∷ keys) none =
    let parts = or_parts (same_row key k) (list_any (same_row key) keys) none in
    (parts.0, apart_all key keys parts.1)

keys_apart : (by : List ℕ) (keys : List TimedRow) → keyed.Distinct same_row same_row-Decides (group_key by) keys
    → IsDistinct same_row keys
unfolding IsDistinct
keys_apart by [] distinct = tt
keys_apart by (key ∷ keys) distinct = (apart_all key keys distinct.0, keys_apart by keys distinct.1)

keys_are : (by : List ℕ) (with : List Aggregate) (rows keys : List TimedRow)
    → keys_of (map (parts_at by with rows) keys) ≡ keys
keys_are by with rows [] = refl
keys_are by with rows (key ∷ keys) = ap (λ rest. key ∷ rest) (keys_are by with rows keys)

-- ---- rows in two parts

module _ (columns : List Column) (by : List ℕ) (with : List Aggregate) (xs ys : List TimedRow)
    (can : CanGroup columns by with (xs ++ ys)) (few : length (xs ++ ys) ≤ greatest_sum) where
  both : (key : TimedRow) → rows_in by key (xs ++ ys) ≡ rows_in by key xs ++ rows_in by key ys
  both key = filter-append (λ (row : TimedRow). same_row key (group_key by row)) xs ys

  merge_both : (key : TimedRow) → has by key (group_keys by xs) ≡ true
      → CanMergeParts (parts_over with (rows_in by key xs)) (parts_over with (rows_in by key ys))
  merge_both key there =
      let some = rows_in by key xs in
      let more = rows_in by key ys in
      let split = both key in
      let shaped = subst (AllByRecursion (λ (r : TimedRow). FitColumns columns r.cells)) split
      (all_in_group (λ (r : TimedRow). FitColumns columns r.cells) by key (xs ++ ys) can.shaped) in
      let fewer : length (some ++ more) ≤ greatest_sum =
      omega (arith, ap (λ (rows : List TimedRow). length rows) split, group_fewer by key (xs ++ ys)) in
      let least = λ (place : ℕ). subst (λ (rows : List TimedRow). total_in place rows ≤ total_in place
      (rows_at key.time (xs ++ ys))) split (group_total by key place (xs ++ ys)) in
      parts_can columns some more shaped (rows_some by key xs there) fewer with can.taken
      (sums_at with (xs ++ ys) (some ++ more) key.time least can.sums)

  pub can_take : (key : TimedRow) → CanTakeGroup (partial_groups by with xs) (parts_at by with ys key)
  can_take key =
      let keys = group_keys by xs in
      let parts = λ (k : TimedRow). parts_over with (rows_in by k xs) in
      let more = parts_over with (rows_in by key ys) in
      let b = has by key keys in
      let found = ap (lookup (same_row key)) (groups_are by with xs keys) ∙ look_up by parts key keys b refl in
      subst (λ r. IfSome r (λ kept. CanMergeParts kept more)) (sym found)
      (if_there b (parts key) (λ kept. CanMergeParts kept more) (λ there. merge_both key there))

  take_each : (keys : List TimedRow) → AllByRecursion (CanTakeGroup (partial_groups by with xs))
      (map (parts_at by with ys) keys)
  take_each [] = tt
  take_each (key ∷ keys) = (can_take key, take_each keys)

  pub groups_can_merge : CanMergeGroups (partial_groups by with xs) (partial_groups by with ys)
  groups_can_merge =
      let keys = group_keys by ys in
      let groups : List PartialGroup = map (parts_at by with ys) keys in
      let apart = keys_apart by keys (keyed.keys_distinct same_row same_row-Decides (group_key by) ys) in
      let distinct = subst (λ (ks : List TimedRow). IsDistinct same_row ks) (sym (keys_are by with ys keys)) apart in
      subst (λ (gs : List PartialGroup). CanMergeGroups (partial_groups by with xs) gs)
      (sym (groups_are by with ys keys))
      (can_merge_apart (partial_groups by with xs) groups distinct (take_each keys))

-- ---- some of the rows

fewer_fit : (with : List Aggregate) (rows some : List TimedRow)
    → ((place : ℕ) (time : ℤ) → total_in place (rows_at time some) ≤ total_in place (rows_at time rows))
    → AllByRecursion (λ (aggregate : Aggregate). UnlessCount aggregate.what (SumsFit rows aggregate.column)) with
    → AllByRecursion (λ (aggregate : Aggregate). UnlessCount aggregate.what (SumsFit some aggregate.column)) with
fewer_fit [] rows some least fits = tt
fewer_fit (aggregate ∷ with) rows some least fits =
    let place = aggregate.column in
    let at_each : SumsFit rows place → SumsFit some place = λ fit time. let whole = fit time in
    omega (arith, least place time) in (
      unless_count aggregate.what (SumsFit rows place) (SumsFit some place) at_each fits.0,
      fewer_fit with rows some least fits.1,
    )

pub first_can : (columns : List Column) (by : List ℕ) (with : List Aggregate) (xs ys : List TimedRow)
    → CanGroup columns by with (xs ++ ys) → CanGroup columns by with xs
first_can columns by with xs ys can = record {
  shaped = all_front (λ (row : TimedRow). FitColumns columns row.cells) xs ys can.shaped;
  listed = can.listed;
  taken = can.taken;
  sums = fewer_fit with (xs ++ ys) xs (λ place time. omega (arith, total-append place time xs ys)) can.sums;
}

pub second_can : (columns : List Column) (by : List ℕ) (with : List Aggregate) (xs ys : List TimedRow)
    → CanGroup columns by with (xs ++ ys) → CanGroup columns by with ys
second_can columns by with xs ys can = record {
  shaped = all_back (λ (row : TimedRow). FitColumns columns row.cells) xs ys can.shaped;
  listed = can.listed;
  taken = can.taken;
  sums = fewer_fit with (xs ++ ys) ys (λ place time. omega (arith, total-append place time xs ys)) can.sums;
}
