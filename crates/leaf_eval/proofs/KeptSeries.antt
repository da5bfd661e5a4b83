-- The kept rows of a replica, series by series in the order of all its rows.
use Rattle.std.proofs.Common.{◌≡◌, ◌<◌, Bool, true, false, cond, List, [], ◌∷◌, length, refl, ap, arith}
use Rattle.std.specs.List.{AllByRecursion as All}
use Rattle.std.proofs.lemmas.Bool.{or_from, or_parts}
use Rattle.mon_meaning.proofs.HeldSeriesLemmas.{Covers}
use Rattle.mon_series.specs.HeldSeries.{rows_in_order}
use Rattle.mon_value.proofs.KeptRowLemmas.{kept_all}
use Rattle.mon_value.proofs.KeyedLemmas as keyed
use Rattle.mon_value.proofs.PlainLemmas.{all_append}
use Rattle.mon_value.proofs.SameLemmas.{same_series-Decides}
use Rattle.mon_value.specs.LeafHistories.{IsWellFormed, key_of_row, kept_rows, replica_rows, rows_of, series_of}
use Rattle.mon_value.specs.Same.{same_series}
use Rattle.mon_value.specs.declared.histories.Entry.{Entry}
use Rattle.mon_value.specs.declared.positions.Range.{Range}
use Rattle.mon_value.specs.declared.positions.Slot.{Slot}
use Rattle.mon_value.specs.declared.rows.Row.{Row}
use Rattle.mon_value.specs.declared.rows.SeriesKey.{SeriesKey}
use Rattle.leaf_eval.specs.Replicas.{ShareNoSeries, has_series}

-- ---- what holds of rows holds of them series by series

module _ (P : Row → Type 0) where
  own_by : (b : Bool) (row : Row) (rows : List Row) → P row → All P rows → All P (cond b (row ∷ rows) rows)
  own_by true row rows here all = (here, all)
  own_by false row rows here all = all

  of_one : (key : SeriesKey) (rows : List Row) → All P rows → All P (rows_of key rows)
  of_one key [] all = tt
  of_one key (row ∷ rows) all = own_by (same_series key row.key) row (rows_of key rows) all.0 (of_one key rows all.1)

  pub all_in_order : (keys : List SeriesKey) (rows : List Row) → All P rows → All P (rows_in_order keys rows)
  all_in_order [] rows all = tt
  all_in_order (key ∷ keys) rows all =
      all_append P (rows_of key rows) (rows_in_order keys rows) (of_one key rows all) (all_in_order keys rows all)

-- ---- rows of other series

-- a row is of another series
abbrev IsOther : SeriesKey → Row → Type 0
IsOther key row = same_series key row.key ≡ false

others_all : (key : SeriesKey) (rows : List Row) → has_series rows key ≡ false → All (IsOther key) rows
others_all key [] none = tt
others_all key (row ∷ rows) none =
    let parts = or_parts (same_series key row.key) (has_series rows key) none in
    (parts.0, others_all key rows parts.1)

all_others : (key : SeriesKey) (rows : List Row) → All (IsOther key) rows → has_series rows key ≡ false
all_others key [] all = refl
all_others key (row ∷ rows) all =
    or_from (same_series key row.key) (has_series rows key) all.0 (all_others key rows all.1)

pub shares_none : (keys : List SeriesKey) (rows others : List Row) → ShareNoSeries rows others
    → ShareNoSeries rows (rows_in_order keys others)
shares_none keys [] others none = tt
shares_none keys (row ∷ rows) others none = (
  all_others row.key (rows_in_order keys others)
      (all_in_order (IsOther row.key) keys others (others_all row.key others none.0)),
  shares_none keys rows others none.1,
)

-- ---- each series that keeps a row has one

without : (key : SeriesKey) (row : Row) (rows : List Row) (b : Bool) → same_series key row.key ≡ b
    → cond b (row ∷ rows_of key rows) (rows_of key rows) ≡ [] → (b ≡ false) × (rows_of key rows ≡ [])
without key row rows true e none = absurd cc
without key row rows false e none = (refl, none)

apart_all : (key : SeriesKey) (rows : List Row) → rows_of key rows ≡ [] → All (IsOther key) rows
apart_all key [] none = tt
apart_all key (row ∷ rows) none =
    let parts = without key row rows (same_series key row.key) refl none in
    (parts.0, apart_all key rows parts.1)

all_apart : (key : SeriesKey) (rows : List Row) → All (IsOther key) rows → rows_of key rows ≡ []
all_apart key [] all = refl
all_apart key (row ∷ rows) all =
    let b = same_series key row.key in
    here b all.0 (all_apart key rows all.1)
  where
    here : (b : Bool) → b ≡ false → rows_of key rows ≡ [] → cond b (row ∷ rows_of key rows) (rows_of key rows) ≡ []
    here true e rest = absurd cc
    here false e rest = rest

module _ (range : Range) (slot : Slot) (history : List Entry) (formed : IsWellFormed history) where
  abbrev own_rows : List Row
  own_rows = replica_rows range slot history

  abbrev own_kept : List Row
  own_kept = kept_rows range slot history

  covers_by : (key : SeriesKey) (b : Bool)
      → keyed.has same_series same_series-Decides key_of_row key (series_of own_rows) ≡ b
      → keyed.has same_series same_series-Decides key_of_row key (series_of own_kept) ≡ true → b ≡ true
  covers_by key true e has = refl
  covers_by key false e has =
      let none = keyed.items_none same_series same_series-Decides key_of_row key own_rows e in
      let kept = kept_all range slot (IsOther key) history formed (apart_all key own_rows none) in
      let nothing = ap length (all_apart key own_kept kept) in
      let some : 0 < length (rows_of key own_kept) =
      keyed.items_some same_series same_series-Decides key_of_row key own_kept has in
      absurd (omega (arith, nothing, some))

  pub covers : Covers (series_of own_rows) own_kept
  covers key has =
      covers_by key (keyed.has same_series same_series-Decides key_of_row key (series_of own_rows)) refl has
