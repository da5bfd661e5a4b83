-- The parts of rows in another order.
use Rattle.std.proofs.Common.{◌≡◌, ◌∙◌, ◌++◌, ℕ, List, [], ◌∷◌, refl, sym, ap, subst}
use Rattle.std.specs.List.{flat_map}
use Rattle.std.specs.List.Sorted.{IsPermutation}
use Rattle.mon_value.specs.Groups.{column_of, distributions_in}
use Rattle.mon_value.specs.Groups.{numbers_in, sum_of}
use Rattle.mon_value.specs.declared.aggregates.Aggregate.{Aggregate}
use Rattle.mon_value.specs.declared.aggregates.AggregateKind.{AggregateKind}
use Rattle.mon_value.specs.declared.aggregates.AggregateKind.TheVariants as kind
use Rattle.mon_value.specs.declared.tables.TimedRow.{TimedRow}
use Rattle.mon_value.proofs.AggregateLemmas.{greatest_of-permutation, item_count-permutation, least_of-permutation}
use Rattle.mon_value.proofs.AggregateLemmas.{sum_of-permutation, where_any-permutation}
use Rattle.mon_value.proofs.CountsLemmas.{merged_of-permutation}
use Rattle.mon_value.proofs.PermutationLemmas.{flat_map-permutation}
use Rattle.mon_fold.proofs.PartialGroupLemmas.{distributions-append, numbers-append}
use Rattle.mon_fold.specs.PartialGroups.{part_over, parts_over}
use Rattle.mon_fold.specs.declared.aggregate_parts.AggregatePart.TheVariants as part

module _ (column : ℕ) where
  numbers_by_row : (rows : List TimedRow)
      → numbers_in (column_of column rows) ≡ flat_map (λ row. numbers_in (column_of column (row ∷ []))) rows
  numbers_by_row [] = refl
  numbers_by_row (row ∷ rows) =
      numbers-append column (row ∷ []) rows
      ∙ ap (λ rest. numbers_in (column_of column (row ∷ [])) ++ rest) (numbers_by_row rows)

  distributions_by_row : (rows : List TimedRow)
      → distributions_in (column_of column rows) ≡ flat_map (λ row. distributions_in (column_of column (row ∷ []))) rows
  distributions_by_row [] = refl
  distributions_by_row (row ∷ rows) =
      distributions-append column (row ∷ []) rows
      ∙ ap (λ rest. distributions_in (column_of column (row ∷ [])) ++ rest) (distributions_by_row rows)

  module _ (xs ys : List TimedRow) (same : IsPermutation xs ys) where
    pub numbers_alike : IsPermutation (numbers_in (column_of column xs)) (numbers_in (column_of column ys))
    numbers_alike =
        let row_numbers = λ (row : TimedRow). numbers_in (column_of column (row ∷ [])) in
        subst (λ l. IsPermutation l (numbers_in (column_of column ys))) (sym (numbers_by_row xs))
        (subst (λ l. IsPermutation (flat_map row_numbers xs) l) (sym (numbers_by_row ys))
        (flat_map-permutation row_numbers xs ys same))

    pub distributions_alike : IsPermutation (distributions_in (column_of column xs)) (distributions_in (column_of column ys))
    distributions_alike =
        let row_counts = λ (row : TimedRow). distributions_in (column_of column (row ∷ [])) in
        subst (λ l. IsPermutation l (distributions_in (column_of column ys))) (sym (distributions_by_row xs))
        (subst (λ l. IsPermutation (flat_map row_counts xs) l) (sym (distributions_by_row ys))
        (flat_map-permutation row_counts xs ys same))

    pub part_alike : (what : AggregateKind) → part_over what column xs ≡ part_over what column ys
    part_alike kind.Sum =
        let n = numbers_in (column_of column xs) in
        let m = numbers_in (column_of column ys) in
        ap (λ sum. part.Sum (record { sum = sum }))
        (where_any-permutation n m (sum_of n) (sum_of m) numbers_alike (sum_of-permutation n m numbers_alike))
    part_alike kind.Count = ap (λ number. part.Count (record { number = number })) (item_count-permutation xs ys same)
    part_alike kind.Min = ap (λ least. part.Min (record { least = least })) (least_of-permutation _ _ numbers_alike)
    part_alike kind.Max =
        ap (λ greatest. part.Max (record { greatest = greatest })) (greatest_of-permutation _ _ numbers_alike)
    part_alike kind.Mean =
        let n = numbers_in (column_of column xs) in
        let m = numbers_in (column_of column ys) in
        let sums = sum_of-permutation n m numbers_alike in
        let counts = item_count-permutation n m numbers_alike in
        λ i. part.Mean (record { sum = sums i; number = counts i })
    part_alike kind.Merge = ap part.Merge (merged_of-permutation _ _ distributions_alike)

pub parts_alike : (with : List Aggregate) (xs ys : List TimedRow) → IsPermutation xs ys → parts_over with xs ≡ parts_over with ys
parts_alike [] xs ys same = refl
parts_alike (aggregate ∷ with) xs ys same =
    let first = part_alike aggregate.column xs ys same aggregate.what in
    let rest = parts_alike with xs ys same in
    λ i. first i ∷ rest i
