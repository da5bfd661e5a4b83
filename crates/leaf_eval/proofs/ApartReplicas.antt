-- The series that are held for replicas which share none are those of their kept rows, in another order.
use Rattle.std.proofs.lemmas.Bool.{or_from}
use Rattle.std.proofs.Common.{◌≡◌, ◌∙◌, ◌||◌, true, false, List, [], ◌∷◌, ◌++◌, map, refl, sym, ap}
use Rattle.std.specs.Borrow.{Bor}
use Rattle.std.specs.Prelude.{IsPermutation}
use Rattle.std.specs.List.{AllByRecursion, flat_map}
use Rattle.std.proofs.lemmas.List.Folds.{list_any-append}
use Rattle.std.proofs.lemmas.List.Sorted.{IsPermutation-append, IsPermutation-refl}
use Rattle.mon_value.proofs.SameLemmas.{same_series-Decides}
use Rattle.mon_value.specs.Same.{same_series}
use Rattle.mon_value.specs.LeafHistories.{IsWellFormed, points_by_series, series_of}
use Rattle.mon_value.specs.declared.histories.Entry.{Entry}
use Rattle.mon_value.specs.declared.positions.RangeSlot.{RangeSlot}
use Rattle.mon_value.specs.declared.rows.Point.{Point}
use Rattle.mon_value.specs.declared.rows.Row.{Row}
use Rattle.mon_value.specs.declared.rows.SeriesKey.{SeriesKey}
use Rattle.mon_series.specs.HeldSeries.{held_series, rows_in_order}
use Rattle.mon_series.specs.SlotViews.{SlotView}
use Rattle.mon_meaning.specs.Central.{all_held}
use Rattle.mon_meaning.proofs.ApartSeries.{series-apart}
use Rattle.mon_meaning.proofs.HeldSeriesLemmas.{held_in_order}
use Rattle.mon_value.proofs.PlainLemmas.{all_append, all_back, all_front, not_both, or_true}
use Rattle.leaf_eval.specs.Replicas.{AreReplicasApart, ShareNoSeries, has_series, kept_rows_of, view_of}
use Rattle.leaf_eval.proofs.KeptSeries.{all_in_order, covers, shares_none}
use Rattle.mon_meaning.specs.ReadableSlots.{slot_rows}
use Rattle.typed_trees.specs.Nodes.{TypedTree}
use Rattle.typed_trees.specs.Soundness.{IsTyped}
use Rattle.mon_schema.specs.Fits.{fits}

abbrev SeriesGroup : Type 0
SeriesGroup = SeriesKey × List Point

-- ---- a series has its own rows

weaker : (P Q : Row → Type 0) (rows : List Row) → ((row : Row) → P row → Q row) → AllByRecursion P rows
    → AllByRecursion Q rows
weaker P Q [] more all = tt
weaker P Q (row ∷ rows) more all = (more row all.0, weaker P Q rows more all.1)

own_series : (rows : List Row) → AllByRecursion (λ row. has_series rows row.key ≡ true) rows
own_series [] = tt
own_series (row ∷ rows) = (
  ap (λ b. b || has_series rows row.key) ((same_series-Decides row.key row.key).1 refl),
  weaker (λ other. has_series rows other.key ≡ true) (λ other. has_series (row ∷ rows) other.key ≡ true) rows
      (λ other has. ap (λ b. same_series other.key row.key || b) has ∙ or_true (same_series other.key row.key))
      (own_series rows),
)

-- ---- two sides that share none

two_apart : (rows others : List Row) → ShareNoSeries rows others
    → points_by_series (rows ++ others) ≡ points_by_series rows ++ points_by_series others
two_apart rows others none =
    series-apart (λ key. has_series others key ≡ false) (λ key. has_series others key ≡ true)
    (λ key. not_both (has_series others key)) rows others none (own_series others)

none_of_none : (rows : List Row) → ShareNoSeries rows []
none_of_none [] = tt
none_of_none (row ∷ rows) = (refl, none_of_none rows)

none_of_both : (rows others more : List Row) → ShareNoSeries rows others → ShareNoSeries rows more → ShareNoSeries rows
    (others ++ more)
none_of_both [] others more none left = tt
none_of_both (row ∷ rows) others more none left = (
  list_any-append (λ (other : Row). same_series row.key other.key) others more
      ∙ or_from (has_series others row.key) (has_series more row.key) none.0 left.0,
  none_of_both rows others more none.1 left.1,
)

-- ---- replicas

module _ (history : List Entry) (formed : IsWellFormed history) where
  abbrev keys_of : RangeSlot → List SeriesKey
  keys_of own = series_of (view_of history own).rows

  -- the kept rows of a replica, series by series in the order of all its rows
  abbrev ordered : RangeSlot → List Row
  ordered own = rows_in_order (keys_of own) (kept_rows_of history own)

  -- and those of several, one after another: the rows whose series are held
  abbrev pub held_source : List RangeSlot → List Row
  held_source replicas = flat_map ordered replicas

  abbrev AreOthers : List Row → List RangeSlot → Type 0
  AreOthers rows replicas = AllByRecursion (λ other. ShareNoSeries rows (kept_rows_of history other)) replicas

  none_of_kept : (rows : List Row) (replicas : List RangeSlot) → AreOthers rows replicas
      → ShareNoSeries rows (slot_rows history replicas)
  none_of_kept rows [] all = none_of_none rows
  none_of_kept rows (other ∷ replicas) all =
      none_of_both rows (kept_rows_of history other) (slot_rows history replicas) all.0
      (none_of_kept rows replicas all.1)

  none_of_ordered : (rows : List Row) (replicas : List RangeSlot) → AreOthers rows replicas
      → ShareNoSeries rows (held_source replicas)
  none_of_ordered rows [] all = none_of_none rows
  none_of_ordered rows (other ∷ replicas) all =
      none_of_both rows (ordered other) (held_source replicas)
      (shares_none (keys_of other) rows (kept_rows_of history other) all.0)
      (none_of_ordered rows replicas all.1)

  apart_ordered : (own : RangeSlot) (replicas : List RangeSlot) → AreOthers (kept_rows_of history own) replicas
      → points_by_series (held_source (own ∷ replicas))
      ≡ points_by_series (ordered own) ++ points_by_series (held_source replicas)
  apart_ordered own replicas apart =
      two_apart (ordered own) (held_source replicas)
      (all_in_order (λ row. has_series (held_source replicas) row.key ≡ false) (keys_of own) (kept_rows_of history own)
      (none_of_ordered (kept_rows_of history own) replicas apart))

  by_replicas : (replicas : List RangeSlot) → AreReplicasApart history replicas
      → flat_map (λ (view : SlotView). held_series view.rows view.kept) (map (view_of history) replicas)
      ≡ points_by_series (held_source replicas)
  by_replicas [] apart = refl
  by_replicas (own ∷ replicas) apart =
      let first = (held_in_order (view_of history own).rows (kept_rows_of history own)
      (covers own.range own.slot history formed)).0 in
      (λ i. sym first i ++ by_replicas replicas apart.1 i) ∙ sym (apart_ordered own replicas apart.0)

  held_by : (held : List (Bor SlotView)) → all_held held
      ≡ flat_map (λ (view : SlotView). held_series view.rows view.kept) (map (λ rows. rows.now) held)
  held_by [] = refl
  held_by (rows ∷ held) =
      ap (λ (rest : List SeriesGroup). held_series rows.now.rows rows.now.kept ++ rest) (held_by held)

  -- the series that are held for replicas are those of rows
  pub replicas_held : (held : List (Bor SlotView)) (replicas : List RangeSlot) → AreReplicasApart history replicas
      → map (λ rows. rows.now) held ≡ map (view_of history) replicas
      → all_held held ≡ points_by_series (held_source replicas)
  replicas_held held replicas apart same =
      held_by held ∙ ap (flat_map (λ (view : SlotView). held_series view.rows view.kept)) same
      ∙ by_replicas replicas apart

  -- which are the kept rows, with their series in another order
  pub source_in_order : (replicas : List RangeSlot) → AreReplicasApart history replicas
      → IsPermutation (points_by_series (slot_rows history replicas)) (points_by_series (held_source replicas))
  source_in_order [] apart = IsPermutation-refl []
  source_in_order (own ∷ replicas) apart =
      let kept = kept_rows_of history own in
      let first = (held_in_order (view_of history own).rows kept (covers own.range own.slot history formed)).1 in
      let left = two_apart kept (slot_rows history replicas) (none_of_kept kept replicas apart.0) in
      rw (left, apart_ordered own replicas apart.0)
      (IsPermutation-append _ _ _ _ first (source_in_order replicas apart.1))

  -- what holds of the kept rows holds of them
  all_source : (P : Row → Type 0) (replicas : List RangeSlot) → AllByRecursion P (slot_rows history replicas)
      → AllByRecursion P (held_source replicas)
  all_source P [] all = tt
  all_source P (own ∷ replicas) all =
      let kept = kept_rows_of history own in
      all_append P (ordered own) (held_source replicas)
      (all_in_order P (keys_of own) kept (all_front P kept (slot_rows history replicas) all))
      (all_source P replicas (all_back P kept (slot_rows history replicas) all))

  pub typed_source : (typed : TypedTree) (replicas : List RangeSlot) → IsTyped typed (slot_rows history replicas)
      → IsTyped typed (held_source replicas)
  typed_source typed replicas is = record {
    held = is.held;
    query = is.query;
    metrics = is.metrics;
    spelled = is.spelled;
    durations = is.durations;
    is = is.is;
    fit = all_source (λ row. fits is.held row ≡ true) replicas is.fit;
  }
