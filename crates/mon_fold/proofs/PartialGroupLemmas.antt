-- Partial groups and the rows that they stand for.
use Rattle.std.proofs.Common.{◌+◌, ◌<◌, get_or, take, ◌≡◌, ℕ, ℤ, Bool, true, false, cond, List, [], ◌∷◌, ◌++◌, map}
use Rattle.std.proofs.Common.{length, Option, Some, slice_get, refl, sym, ap, ◌∙◌}
use Rattle.std.specs.Int.{int_div_euclid}
use Rattle.std.specs.List.{cons_option, filter_map}
use Rattle.std.specs.Option.{option_map}
use Rattle.std.proofs.lemmas.List.{take_more}
use Rattle.std.proofs.lemmas.List.Elements.{filter_map-append}
use Rattle.mon_value.specs.Groups.{sum_of, item_count, merged_of, counts_of, aggregate_made, column_of, counts_in}
use Rattle.mon_value.specs.Groups.{distributions_in, group_key, group_row, group_rows, number_in, numbers_in}
use Rattle.mon_value.specs.Groups.{rows_by_group}
use Rattle.mon_value.specs.Same.{same_row}
use Rattle.mon_value.specs.declared.aggregates.Aggregate.{Aggregate}
use Rattle.mon_value.specs.declared.aggregates.AggregateKind.{AggregateKind}
use Rattle.mon_value.specs.declared.aggregates.AggregateKind.TheVariants as kind
use Rattle.mon_value.specs.declared.tables.TimedRow.{TimedRow}
use Rattle.mon_value.specs.declared.values.Value.TheVariants as value
use Rattle.mon_value.proofs.AggregateLemmas.{item_count-append, sum_of-append}
use Rattle.mon_value.proofs.CountsLemmas.{counts_added-nil, counts_of-append}
use Rattle.mon_value.proofs.GroupLemmas.{merged_rows, merged_rows_by_group, RowGroup, own_group, rows_by_group-push}
use Rattle.mon_value.proofs.GroupLemmas.{with_rows}
use Rattle.mon_fold.specs.declared.aggregate_parts.AggregatePart.TheVariants as part
use Rattle.mon_value.proofs.NumberPartLemmas.{greatest_of-append, least_of-append, sums-append, where_counted}
use Rattle.mon_fold.specs.PartialGroups.{combined_counts, merged_groups, merged_part, merged_parts, part_finished}
use Rattle.mon_fold.specs.PartialGroups.{part_over, partial_groups, PartialGroup, parts_over, row_finished, with_group}

-- ---- one aggregate

pub column_of-append : (column : ℕ) (xs ys : List TimedRow) → column_of column (xs ++ ys) ≡ column_of column xs
    ++ column_of column ys
column_of-append column xs ys = filter_map-append (λ (row : TimedRow). slice_get row.cells column) xs ys

pub numbers-append : (column : ℕ) (xs ys : List TimedRow) → numbers_in (column_of column (xs ++ ys))
    ≡ numbers_in (column_of column xs) ++ numbers_in (column_of column ys)
numbers-append column xs ys = ap numbers_in (column_of-append column xs ys) ∙ filter_map-append number_in
    (column_of column xs) (column_of column ys)

pub distributions-append : (column : ℕ) (xs ys : List TimedRow) → distributions_in (column_of column (xs ++ ys))
    ≡ distributions_in (column_of column xs) ++ distributions_in (column_of column ys)
distributions-append column xs ys = ap distributions_in (column_of-append column xs ys) ∙ filter_map-append counts_in
    (column_of column xs) (column_of column ys)

merged_of-append : (xs ys : List (List ℕ)) → combined_counts (merged_of xs) (merged_of ys) ≡ merged_of (xs ++ ys)
merged_of-append [] ys = refl
merged_of-append (x ∷ xs) [] = ap (λ counts. Some counts) (sym (counts_added-nil (counts_of (x ∷ xs)))
    ∙ sym (counts_of-append (x ∷ xs) []))
merged_of-append (x ∷ xs) (y ∷ ys) = ap Some (sym (counts_of-append (x ∷ xs) (y ∷ ys)))

-- two parts together stand for the rows of both
pub part_joins : (what : AggregateKind) (column : ℕ) (xs ys : List TimedRow) → merged_part (part_over what column xs)
    (part_over what column ys) ≡ part_over what column (xs ++ ys)
part_joins kind.Sum column xs ys =
    rw (numbers-append column xs ys) (ap (λ sum. part.Sum (record { sum = sum }))
    (sums-append (numbers_in (column_of column xs)) (numbers_in (column_of column ys))))
part_joins kind.Count column xs ys = ap (λ number. part.Count (record { number = number }))
    (sym (item_count-append xs ys))
part_joins kind.Min column xs ys =
    rw (numbers-append column xs ys) (ap (λ least. part.Min (record { least = least }))
    (least_of-append (numbers_in (column_of column xs)) (numbers_in (column_of column ys))))
part_joins kind.Max column xs ys =
    rw (numbers-append column xs ys) (ap (λ greatest. part.Max (record { greatest = greatest }))
    (greatest_of-append (numbers_in (column_of column xs)) (numbers_in (column_of column ys))))
part_joins kind.Mean column xs ys =
    let a = numbers_in (column_of column xs) in
    let b = numbers_in (column_of column ys) in
    let sums = sum_of-append a b in
    let numbers = item_count-append a b in
    rw (numbers-append column xs ys) (λ i. part.Mean (record { sum = sym sums i; number = sym numbers i }))
part_joins kind.Merge column xs ys =
    rw (distributions-append column xs ys) (ap part.Merge (merged_of-append (distributions_in (column_of column xs))
    (distributions_in (column_of column ys))))

-- a part that stands for rows finishes to what the aggregate makes of them
part_finishes : (what : AggregateKind) (column : ℕ) (rows : List TimedRow) → part_finished (part_over what column rows)
    ≡ aggregate_made what column rows
part_finishes kind.Sum column rows = refl
part_finishes kind.Count column rows = ap (λ (z : Option ℤ). option_map value.Int z)
    (where_counted rows (item_count rows))
part_finishes kind.Min column rows = refl
part_finishes kind.Max column rows = refl
part_finishes kind.Mean column rows =
    let numbers = numbers_in (column_of column rows) in
    ap (λ (z : Option ℤ). option_map value.Int z)
    (where_counted numbers (int_div_euclid (sum_of numbers) (item_count numbers)))
part_finishes kind.Merge column rows = refl

-- ---- the aggregates of a group

pub parts_join : (with : List Aggregate) (xs ys : List TimedRow) → merged_parts (parts_over with xs)
    (parts_over with ys) ≡ parts_over with (xs ++ ys)
parts_join [] xs ys = refl
parts_join (aggregate ∷ with) xs ys =
    let first = part_joins aggregate.what aggregate.column xs ys in
    let rest = parts_join with xs ys in
    λ i. first i ∷ rest i

parts_finish : (with : List Aggregate) (rows : List TimedRow)
    → filter_map part_finished (parts_over with rows) ≡ filter_map (λ (aggregate : Aggregate). aggregate_made
    aggregate.what aggregate.column rows) with
parts_finish [] rows = refl
parts_finish (aggregate ∷ with) rows =
    let first = part_finishes aggregate.what aggregate.column rows in
    let rest = parts_finish with rows in
    λ i. cons_option (first i) (rest i)

-- ---- groups

module _ (with : List Aggregate) where
  -- a group of rows with the parts that stand for them
  abbrev pub in_parts : RowGroup → PartialGroup
  in_parts group = (group.0, parts_over with group.1)

  step : (b : Bool) (new group : RowGroup) (groups : List RowGroup) (rest : List PartialGroup) → rest ≡ map in_parts
      (with_rows groups new)
      → cond b ((group.0, merged_parts (parts_over with group.1) (parts_over with new.1)) ∷ map in_parts groups)
      (in_parts group ∷ rest)
      ≡ map in_parts (cond b ((group.0, group.1 ++ new.1) ∷ groups) (group ∷ with_rows groups new))
  step true new group groups rest is = ap (λ parts. (group.0, parts) ∷ map in_parts groups)
      (parts_join with group.1 new.1)
  step false new group groups rest is = ap (λ more. in_parts group ∷ more) is

  -- groups with a group more stand for the rows with its rows
  pub with_group-in_parts : (groups : List RowGroup) (new : RowGroup) → with_group (map in_parts groups) (in_parts new)
      ≡ map in_parts (with_rows groups new)
  with_group-in_parts [] new = refl
  with_group-in_parts (group ∷ groups) new =
      step (same_row new.0 group.0) new group groups (with_group (map in_parts groups) (in_parts new))
      (with_group-in_parts groups new)

  -- groups with all of the others stand for the rows of both
  merged-in_parts : (groups others : List RowGroup) → merged_groups (map in_parts groups) (map in_parts others)
      ≡ map in_parts (merged_rows groups others)
  merged-in_parts groups [] = refl
  merged-in_parts groups (new ∷ others) =
      ap (λ gs. merged_groups gs (map in_parts others)) (with_group-in_parts groups new) ∙ merged-in_parts
      (with_rows groups new) others

  pub groups_merge : (by : List ℕ) (xs ys : List TimedRow) → merged_groups (partial_groups by with xs)
      (partial_groups by with ys) ≡ partial_groups by with (xs ++ ys)
  groups_merge by xs ys =
      merged-in_parts (rows_by_group by xs) (rows_by_group by ys) ∙ ap (map in_parts) (merged_rows_by_group by xs ys)

  -- one more row
  pub partial_groups-push : (by : List ℕ) (rows : List TimedRow) (row : TimedRow)
      → with_group (partial_groups by with rows) (group_key by row, parts_over with (row ∷ [])) ≡ partial_groups by
      with (rows ++ row ∷ [])
  partial_groups-push by rows row =
      with_group-in_parts (rows_by_group by rows) (own_group by row) ∙ ap (map in_parts)
      (sym (rows_by_group-push by rows row))

  finish_each : (groups : List RowGroup) → map row_finished (map in_parts groups) ≡ map (group_row with) groups
  finish_each [] = refl
  finish_each (group ∷ groups) =
      let cells = ap (λ more. group.0.cells ++ more) (parts_finish with group.1) in
      let rest = finish_each groups in
      λ i. record { time = group.0.time; cells = cells i } ∷ rest i

  -- the groups of rows finish to the rows grouped
  pub groups_finish : (by : List ℕ) (rows : List TimedRow) → map row_finished (partial_groups by with rows)
      ≡ group_rows by with rows
  groups_finish by rows = finish_each (rows_by_group by rows)

-- ---- a loop over rows

module _ (by : List ℕ) (with : List Aggregate) (rows : List TimedRow) (i : ℕ) (row : TimedRow)
    (is : row ≡ get_or rows i row) (h : i < length rows)
    (old new : List PartialGroup) (put : new ≡ with_group old (group_key by row, parts_over with (row ∷ []))) where
  pub made_by_row : old ≡ partial_groups by with (take i rows) → new ≡ partial_groups by with (take (i + 1) rows)
  made_by_row made =
      let own : PartialGroup = (group_key by row, parts_over with (row ∷ [])) in
      put ∙ ap (λ groups. with_group groups own) made ∙ partial_groups-push with by (take i rows) row
      ∙ ap (partial_groups by with) (ap (λ (r : TimedRow). take i rows ++ r ∷ []) is ∙ sym (take_more rows i row h))
