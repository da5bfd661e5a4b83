-- The series of rows of which some have keys of one kind, and the others of another.
use Rattle.std.proofs.Common.{◌≡◌, ◌∙◌, List, ◌++◌, map, sym, ap}
use Rattle.std.specs.List.{AllByRecursion}
use Rattle.std.proofs.lemmas.List.{map-append}
use Rattle.mon_value.proofs.SameLemmas.{same_series-Decides}
use Rattle.mon_value.specs.Same.{items_by_key, same_series}
use Rattle.mon_value.specs.LeafHistories.{key_of_row, points_by_series}
use Rattle.mon_value.specs.declared.rows.Point.{Point}
use Rattle.mon_value.specs.declared.rows.Row.{Row}
use Rattle.mon_value.specs.declared.rows.SeriesKey.{SeriesKey}
use Rattle.mon_meaning.proofs.ApartKeys.{items_by_key-apart}
use Rattle.mon_value.proofs.SourceLemmas.{by_items}

abbrev SeriesGroup : Type 0
SeriesGroup = SeriesKey × List Point

abbrev points_in : SeriesKey × List Row → SeriesGroup
points_in group = (group.0, map (λ (row : Row). row.point) group.1)

module _ (P Q : SeriesKey → Type 0) (apart : (key : SeriesKey) → P key → Q key → ⊥) where
  pub series-apart : (xs ys : List Row) → AllByRecursion (λ (row : Row). P row.key) xs
      → AllByRecursion (λ (row : Row). Q row.key) ys
      → points_by_series (xs ++ ys) ≡ points_by_series xs ++ points_by_series ys
  series-apart xs ys p q =
      let left = by_items xs in
      let right = by_items ys in
      by_items (xs ++ ys)
      ∙ ap (map points_in) (items_by_key-apart same_series same_series-Decides key_of_row P Q apart xs ys p q)
      ∙ map-append points_in (items_by_key same_series key_of_row xs) (items_by_key same_series key_of_row ys)
      ∙ (λ i. sym left i ++ sym right i)
