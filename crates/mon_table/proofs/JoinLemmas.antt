-- Joins of tables whose rows come in another order have the same rows.
use Rattle.std.proofs.Common.{List, IsPermutation}
use Rattle.std.proofs.lemmas.List.Sorted.{IsPermutation-trans, IsPermutation-map}
use Rattle.mon_value.proofs.PermutationLemmas.{filter-permutation, flat_map-alike, flat_map-permutation}
use Rattle.mon_value.specs.Tables.{is_pair, pair_of, pairs_of}
use Rattle.mon_value.specs.declared.columns.Column.{Column}
use Rattle.mon_value.specs.declared.tables.TimedRow.{TimedRow}
use Rattle.mon_table.specs.Bags.{JoinsAlike}

pairs_alike : (lefts rights : List Column) (rows others : List TimedRow) → IsPermutation rows others → (left : TimedRow)
    → IsPermutation (pairs_of lefts rights rows left) (pairs_of lefts rights others left)
pairs_alike lefts rights rows others same left =
    IsPermutation-map (pair_of lefts rights left) _ _ (filter-permutation (is_pair lefts rights left) rows others same)

-- the rows of both tables in another order
pub joins_alike : (lefts rights : List Column) (rows rows' others others' : List TimedRow) → JoinsAlike lefts rights
    rows rows' others others'
joins_alike lefts rights rows rows' others others' left right =
    let pairs = pairs_of lefts rights others in
    let pairs' = pairs_of lefts rights others' in
    IsPermutation-trans _ _ _ (flat_map-permutation pairs rows rows' left)
    (flat_map-alike pairs pairs' (pairs_alike lefts rights others others' right) rows')
