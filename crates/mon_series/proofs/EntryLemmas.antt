-- What an entry of the map says of the rows that are seen, and a row that comes.
use Rattle.std.proofs.Common.{◌≡◌, ◌∙◌, ◌<ℤ◌, ℕ, true, List, [], ◌∷◌, ◌++◌, Some, Option, IfSome, sym, ap, subst}
use Rattle.std.proofs.Common.{slice_get, filter}
use Rattle.std.specs.Map.{lookup}
use Rattle.mon_value.proofs.SameLemmas.{same_series-test}
use Rattle.mon_value.specs.Grids.{EndsRise}
use Rattle.mon_value.specs.LeafHistories.{last_end, points_by_series, points_of, series_of}
use Rattle.mon_value.specs.contracts.rows.SeriesKeyPartialEq.TheImpl as derived
use Rattle.mon_value.specs.declared.rows.Row.{Row}
use Rattle.mon_value.specs.declared.rows.SeriesKey.{SeriesKey}
use Rattle.mon_series.specs.HeldSeries.{all_series}
use Rattle.mon_series.specs.SeriesMaps.{hidden_held, series_held}
use Rattle.mon_series.specs.SeriesPoints.{SeriesPoints, all_points}
use Rattle.mon_series.specs.SlotViews.{SlotView, with_row}
use Rattle.mon_series.specs.declared.placing.Place.{Place}
use Rattle.mon_series.specs.within.Hidden.{slot_of, stands}
use Rattle.mon_series.specs.within.KeptRows.{AreRowsKept}
use Rattle.mon_series.specs.within.Metrics.{Index}
use Rattle.mon_series.specs.within.Places.{Group, rows_at_places}
use Rattle.mon_series.proofs.GroupLemmas.{group_by_series, group_of}
use Rattle.mon_series.proofs.HeldLemmas.{Entries, held_entry}
use Rattle.mon_series.proofs.HiddenLemmas.{all_at}
use Rattle.mon_series.proofs.HiddenRows.{comes_to_stand, hidden_found, kept_more, points_kept}
use Rattle.mon_series.proofs.KeptLemmas as plain

module _ (entries : Entries) {places : List Place} {index : Index} {slot : SlotView}
    (kept : AreRowsKept (series_held entries) places index)
    (seen : slot_of (series_held entries) (hidden_held entries) places ≡ slot) where
  rows_seen : rows_at_places (series_held entries) places ≡ slot.rows
  rows_seen = ap (λ (s : SlotView). s.rows) seen

  numbered : (at : ℕ) (key : SeriesKey) (series : SeriesPoints) → slice_get entries at ≡ Some (key, series)
      → (slice_get (series_of slot.rows) at ≡ Some key) × (all_points series ≡ points_of key slot.rows)
  numbered at key series there =
      plain.numbered kept.placed rows_seen at key (all_points series)
      (held_entry all_points entries at key series there)

  -- the points that stand are those of the kept rows
  own_points : (at : ℕ) (key : SeriesKey) (series : SeriesPoints) → slice_get entries at ≡ Some (key, series)
      → lookup (derived.eq-value.it key) entries ≡ Some series → series.points ≡ points_of key slot.kept
  own_points at key series there found =
      points_kept (hidden_held entries) key series (rows_at_places (series_held entries) places)
      (hidden_found entries key series (ap (λ test. lookup test entries) (sym (same_series-test key)) ∙ found))
      ((numbered at key series there).1 ∙ ap (points_of key) (sym rows_seen))
      (all_at (λ (group : Group). EndsRise group.1) (series_held entries) at (key, all_points series) kept.rising
      (held_entry all_points entries at key series there))
      ∙ ap (λ (s : SlotView). points_of key s.kept) seen

  pub points_numbered : (at : ℕ) (key : SeriesKey) (series : SeriesPoints) → slice_get entries at ≡ Some (key, series)
      → lookup (derived.eq-value.it key) entries ≡ Some series
      → IfSome (slice_get (series_of slot.rows) at) (λ key. series.points ≡ points_of key slot.kept)
  points_numbered at key series there found =
      subst (λ (o : Option SeriesKey). IfSome o (λ key. series.points ≡ points_of key slot.kept))
      (sym (numbered at key series there).0) (own_points at key series there found)

  pub entry_kept : (at : ℕ) (key : SeriesKey) (series : SeriesPoints) → slice_get entries at ≡ Some (key, series)
      → lookup (derived.eq-value.it key) entries ≡ Some series
      → slice_get (all_series slot.rows slot.kept) at ≡ Some (key, series.points)
  entry_kept at key series there found =
      group_of (λ key. points_of key slot.kept) (series_of slot.rows) at key (numbered at key series there).0
      ∙ (λ i. Some (key, sym (own_points at key series there found) i))

  pub entry_all : (at : ℕ) (key : SeriesKey) (series : SeriesPoints) → slice_get entries at ≡ Some (key, series)
      → slice_get (points_by_series slot.rows) at ≡ Some (key, all_points series)
  entry_all at key series there =
      let number = numbered at key series there in
      group_by_series slot.rows at key number.0 ∙ (λ i. Some (key, sym number.1 i))

  -- a row comes, and no other is hidden
  pub slot_more : (groups' hidden' : List Group) (places' : List Place) (row : Row)
      → IfSome (last_end (points_of row.key slot.rows)) (λ last. last <ℤ row.point.end)
      → stands hidden' ≡ stands (hidden_held entries)
      → rows_at_places groups' places' ≡ rows_at_places (series_held entries) places ++ row ∷ []
      → slot_of groups' hidden' places' ≡ with_row slot row
  slot_more groups' hidden' places' row later same rows =
      let all : List Row = rows_at_places (series_held entries) places in
      let stood : stands (hidden_held entries) row ≡ true =
      comes_to_stand entries all row kept.rising kept.placed.grouped
      (subst (λ rs. IfSome (last_end (points_of row.key rs)) (λ last. last <ℤ row.point.end)) (sym rows_seen) later) in
      let few = (λ i. filter (same i) (rows i)) ∙ kept_more (hidden_held entries) all row stood in
      (λ i. record { rows = rows i; kept = few i }) ∙ ap (λ (s : SlotView). with_row s row) seen
