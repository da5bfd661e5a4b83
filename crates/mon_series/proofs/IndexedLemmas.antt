-- Rows that are kept with the numbers of their series, after a push and in a copy.
use Rattle.std.proofs.Common.{◌≡◌, ◌∙◌, ◌+◌, ◌<◌, ◌^◌, ℕ, List, [], ◌∷◌, ◌++◌, length, slice_get, Some, Result, Ok}
use Rattle.std.proofs.Common.{Err, OnErr, OnOk, refl, sym, ap, subst}
use Rattle.std.specs.Map.{keys_of}
use Rattle.mon_value.specs.LeafHistories.{points_of, series_of}
use Rattle.mon_value.specs.declared.rows.Row.{Row}
use Rattle.mon_value.specs.declared.rows.SeriesKey.{SeriesKey}
use Rattle.mon_series.specs.SeriesMaps.{series_held}
use Rattle.mon_series.specs.declared.placing.Place.{Place}
use Rattle.mon_series.specs.SlotViews.{SlotView}
use Rattle.mon_series.specs.within.Hidden.{slot_of}
use Rattle.mon_series.specs.within.KeptRows.{AreRowsKept}
use Rattle.mon_series.specs.within.Metrics.{HasSeriesNumbers, Index, NumbersKeys, SameNumbers, TakesNumber}
use Rattle.mon_series.specs.within.Places.{Group, TakesRow, place_at, rows_at_places, with_point_at}
use Rattle.mon_series.proofs.HeldLemmas.{Entries}
use Rattle.mon_series.proofs.HiddenRows.{AreRising, rising_grown, rising_new}
use Rattle.mon_series.proofs.KeptLemmas.{IsPushed, new_pushed, unchanged}
use Rattle.mon_series.proofs.MetricLemmas.{numbers_known, numbers_new, series_keys}
use Rattle.mon_series.proofs.PlaceLemmas.{keys_in}

numbered_by : (index : Index) (rows rows' : List Row) → rows' ≡ rows → HasSeriesNumbers index rows
    → HasSeriesNumbers index rows'
numbered_by index rows rows' same has = subst (HasSeriesNumbers index) (sym same) has

-- nothing came, and there may be room for a number more
pub stays_kept : {groups groups' : List Group} {places places' : List Place} {index room : Index}
    → AreRowsKept groups places index → SameNumbers index room
    → groups' ≡ groups → places' ≡ places → AreRowsKept groups' places' room
stays_kept {groups} {groups'} {places} {places'} {index} {room} kept more same stayed =
    let as_before = unchanged kept.placed same stayed in record {
      placed = as_before.0;
      rising = subst AreRising (sym same) kept.rising;
      numbered = numbered_by room (rows_at_places groups places) (rows_at_places groups' places') as_before.1
          (λ metric. more metric
          ∙ kept.numbered metric);
    }

-- the ends rise where a row came that its series takes, and where none did
pub rising_known : {E : Type 0} (groups groups' : List Group) (at : ℕ) (row : Row) (result : Result (Unit {0}) E)
    → AreRising groups → TakesRow (slice_get groups at) row
    → OnOk result (groups' ≡ with_point_at groups at row.point) → OnErr result (groups' ≡ groups) → AreRising groups'
rising_known groups groups' at row (Ok done) rising takes grown same =
    subst AreRising (sym grown) (rising_grown groups at row rising takes)
rising_known groups groups' at row (Err error) rising takes grown same = subst AreRising (sym same) rising

-- where no row came, the same are seen
pub slot_stays : {E : Type 0} (groups groups' hidden hidden' : List Group) (places places' : List Place)
    (slot : SlotView) (result : Result (Unit {0}) E)
    → OnErr result (groups' ≡ groups) → OnErr result (places' ≡ places) → hidden' ≡ hidden
    → slot_of groups hidden places ≡ slot → OnErr result (slot_of groups' hidden' places' ≡ slot)
slot_stays groups groups' hidden hidden' places places' slot (Ok done) same stayed hides seen = tt
slot_stays groups groups' hidden hidden' places places' slot (Err error) same stayed hides seen = (λ i. slot_of (same i) (hides i) (stayed i)) ∙ seen

-- a row of a series that is there came, or none
pub known_kept : {E : Type 0} {groups groups' : List Group} {places places' : List Place} {index : Index}
    {rows : List Row} (row : Row) (at : ℕ)
    (result : Result (Unit {0}) E) → AreRowsKept groups places index → rows_at_places groups places ≡ rows
    → slice_get (series_of rows) at ≡ Some row.key → AreRising groups'
    → IsPushed row groups groups' places places' result → AreRowsKept groups' places' index
known_kept {E} {groups} {groups'} {places} {places'} {index} {rows} row at (Ok done) kept seen there rising pushed = record {
  placed = pushed.kept;
  rising = rising;
  numbered = numbered_by index (rows ++ row ∷ []) (rows_at_places groups' places')
      (pushed.rows ∙ ap (λ (rs : List Row). rs ++ row ∷ []) seen)
      (numbers_known index rows row at there
      (numbered_by index (rows_at_places groups places) rows (sym seen) kept.numbered));
}
known_kept {E} {groups} {groups'} {places} {places'} {index} {rows} row at (Err error) kept seen there rising pushed = record {
  placed = pushed.kept;
  rising = rising;
  numbered = numbered_by index (rows_at_places groups places) (rows_at_places groups' places')
      pushed.same kept.numbered;
}

-- the first row of a series came
pub first_kept : {groups groups' : List Group} {places places' : List Place} {index : Index} {rows : List Row}
    (row : Row) (room new : Index)
    (number count : ℕ) → AreRowsKept groups places index → rows_at_places groups places ≡ rows
    → points_of row.key rows ≡ []
    → number ≡ length (series_of rows) → SameNumbers index room → TakesNumber room new row.key.metric number → count
    ≡ length groups
    → groups' ≡ groups ++ (row.key, row.point ∷ []) ∷ [] → places' ≡ places ++ place_at count 0 ∷ [] → count
    + 1 < 2 ^ 32
    → AreRowsKept groups' places' new × (rows_at_places groups' places' ≡ rows ++ row ∷ [])
first_kept {groups} {groups'} {places} {places'} {index} {rows} row room new number count kept seen first number_is
    stays more count_is grown placed few =
    let done : Result (Unit {0}) (Unit {0}) = Ok tt in
    let pushed : IsPushed row groups groups' places places' done =
    new_pushed kept.placed seen row groups' places' done first grown
    (placed ∙ ap (λ n. places ++ place_at n 0 ∷ []) count_is) (subst (λ (n : ℕ). n + 1 < 2 ^ 32) count_is few) tt tt in
    let all : rows_at_places groups' places' ≡ rows ++ row ∷ [] = pushed.rows
    ∙ ap (λ (rs : List Row). rs ++ row ∷ []) seen in
    let has : HasSeriesNumbers room rows =
    λ metric. stays metric ∙ numbered_by index (rows_at_places groups places) rows (sym seen) kept.numbered metric in (
      record {
        placed = pushed.kept;
        rising = subst AreRising (sym grown) (rising_new groups row.key row.point kept.rising);
        numbered = numbered_by new (rows ++ row ∷ []) (rows_at_places groups' places') all
            (numbers_new room new rows row number first number_is has more);
      },
      all,
    )

keys_held : (entries : Entries) → keys_of entries ≡ keys_in (series_held entries)
keys_held [] = refl
keys_held (entry ∷ entries) = ap (λ (keys : List SeriesKey). entry.0 ∷ keys) (keys_held entries)

-- copies of the series and the places, and numbers of their own
pub copy_kept : {groups' : List Group} {places places' : List Place} {index new : Index} (entries : Entries)
    → AreRowsKept (series_held entries) places index
    → groups' ≡ series_held entries → places' ≡ places → NumbersKeys new (keys_of entries)
    → AreRowsKept groups' places' new
copy_kept {groups'} {places} {places'} {index} {new} entries kept same stayed numbers =
    let as_before = unchanged kept.placed same stayed in
    let keys : keys_of entries ≡ series_of (rows_at_places groups' places') =
    keys_held entries ∙ ap keys_in kept.placed.grouped ∙ series_keys (rows_at_places (series_held entries) places)
    ∙ ap series_of (sym as_before.1) in
    record {
      placed = as_before.0;
      rising = subst AreRising (sym same) kept.rising;
      numbered = subst (NumbersKeys new) keys numbers;
    }
