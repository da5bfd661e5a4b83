-- A row more at the end of the rows that are kept, and what a look-up finds in them.
use Rattle.std.proofs.Common.{◌≡◌, ◌∙◌, Bool, true, false, cond, ◌<◌, ◌<ℤ◌, ◌^◌, ◌+◌, ℕ, zero, suc, Option, Some, None}
use Rattle.std.proofs.Common.{IfSome, List, [], ◌∷◌, ◌++◌, length, Result, Ok, Err, OnOk, OnErr, refl, sym, ap, subst}
use Rattle.std.proofs.Common.{arith, slice_get}
use Rattle.std.specs.Map.{lookup}
use Rattle.std.proofs.lemmas.List.{length-append, length-map}
use Rattle.mon_value.proofs.KeyedLemmas as keyed
use Rattle.mon_value.proofs.SameLemmas.{same_series-Decides}
use Rattle.mon_value.proofs.SourceLemmas.{has_series, lookup-points_by_series, points_by_series-push, points_found}
use Rattle.mon_value.proofs.SourceLemmas.{points_missing, with_point}
use Rattle.mon_value.specs.Same.{same_series}
use Rattle.mon_value.specs.LeafHistories.{key_of_row, last_end, points_by_series, points_of, rows_of, series_of}
use Rattle.mon_value.specs.declared.rows.Point.{Point}
use Rattle.mon_value.specs.declared.rows.Row.{Row}
use Rattle.mon_value.specs.declared.rows.SeriesKey.{SeriesKey}
use Rattle.mon_series.specs.declared.placing.Place.{Place}
use Rattle.mon_series.specs.within.Places.{HaveRows, Group, AreGroupsKept, TakesRow, count_at, place_at, row_at}
use Rattle.mon_series.specs.within.Places.{rows_at_places, with_point_at}
use Rattle.mon_series.proofs.GroupLemmas.{IsFirst, first_by_series, found_first, group_by_series, grown_first}
use Rattle.mon_series.proofs.GroupLemmas.{grown_last, series_number}
use Rattle.mon_series.proofs.PlaceLemmas.{Keeps, keeps_grown, keeps_new, keys_in, row_grown, row_new}
use Rattle.mon_series.proofs.PlaceLemmas.{rows_added, rows_kept, there_added}
use Rattle.mon_series.proofs.MetricLemmas.{series_keys}

-- what is kept after a push, and which rows it has
pub record IsPushed {E : Type 0} (row : Row) (groups groups' : List Group) (places places' : List Place)
    (result : Result (Unit {0}) E) : Type 0 where
  pub kept : AreGroupsKept groups' places'
  pub rows : OnOk result (rows_at_places groups' places' ≡ rows_at_places groups places ++ row ∷ [])
  pub same : OnErr result (rows_at_places groups' places' ≡ rows_at_places groups places)

-- all is kept as it was
pub unchanged : {groups groups' : List Group} {places places' : List Place} → AreGroupsKept groups places → groups'
    ≡ groups
    → places' ≡ places
    → AreGroupsKept groups' places' × (rows_at_places groups' places' ≡ rows_at_places groups places)
unchanged {groups} {groups'} {places} {places'} kept same stayed = (
  subst (λ (ps : List Place). AreGroupsKept groups' ps) (sym stayed)
      (subst (λ (gs : List Group). AreGroupsKept gs places) (sym same)
      kept),
  (λ i. rows_at_places (same i) (stayed i)),
)

-- a row came: its place is there, and whatever was there stays
grown_by : {groups groups' : List Group} {places places' : List Place} (row : Row) (series point : ℕ)
    → AreGroupsKept groups places → Keeps groups groups'
    → row_at groups' series point ≡ Some row → groups' ≡ with_point groups row.key row.point → places' ≡ places
    ++ place_at series point ∷ []
    → length groups' < 2 ^ 32 → AreGroupsKept groups' places'
    × (rows_at_places groups' places' ≡ rows_at_places groups places ++ row ∷ [])
grown_by {groups} {groups'} {places} {places'} row series point kept keeps there grown placed few =
    let stays = rows_kept groups groups' places keeps kept.there in
    let rows : rows_at_places groups' places' ≡ rows_at_places groups places ++ row ∷ [] =
    ap (rows_at_places groups') placed ∙ rows_added groups' places series point row there
    ∙ ap (λ (rs : List Row). rs ++ row ∷ []) stays.0 in (
      record {
        grouped = grown ∙ ap (λ (gs : List Group). with_point gs row.key row.point) kept.grouped
            ∙ sym (points_by_series-push (rows_at_places groups places) row) ∙ ap points_by_series (sym rows);
        there = subst (HaveRows groups') (sym placed) (there_added groups' places series point row there stays.1);
        few = few;
      },
      rows,
    )

-- ---- a row of a series that is kept

count_same : (groups : List Group) (at : ℕ) (point : Point) → length (with_point_at groups at point) ≡ length groups
count_same [] at point = refl
count_same (g ∷ groups) zero point = refl
count_same (g ∷ groups) (suc at) point = ap suc (count_same groups at point)

some_group : (a b : Group) → Some a ≡ Some b → a ≡ b
some_group a b e = cc

points_same : (key : SeriesKey) (points other : List Point) → ◌≡◌ {A = Option Group} (Some (key, points))
    (Some (key, other)) → points ≡ other
points_same key points other e = ap (λ (g : Group). g.1) (some_group (key, points) (key, other) e)

some_point : (a b : Point) → Some a ≡ Some b → a ≡ b
some_point a b e = cc

-- a group that takes a row
pub takes_parts : (group : Option Group) (row : Row) (key : SeriesKey) (points : List Point) → group
    ≡ Some (key, points) → TakesRow group row
    → IfSome (last_end points) (λ last. last <ℤ row.point.end)
takes_parts None row key points e takes = absurd cc
takes_parts (Some group) row key points e takes =
    let same : group ≡ (key, points) = cc in
    subst (λ (ps : List Point). IfSome (last_end ps) (λ last. last <ℤ row.point.end)) (ap (λ (g : Group). g.1) same)
    takes.1

pub last_none : (points : List Point) → None ≡ last_end points → points ≡ []
last_none [] e = refl
last_none (point ∷ points) e = absurd (some_last point points (sym e))
  where
    some_last : (point : Point) (points : List Point) → last_end (point ∷ points) ≡ None → ⊥
    some_last point [] e = cc
    some_last point (next ∷ points) e = some_last next points e

some_points : (key : SeriesKey) (rows : List Row) → has_series key (series_of rows) ≡ true → points_of key rows ≡ [] → ⊥
some_points key rows has none =
    let some = keyed.items_some same_series same_series-Decides key_of_row key rows has in
    let count = length-map (rows_of key rows) (λ (row : Row). row.point) in
    omega (arith, some, count, ap length none)

module _ {groups : List Group} {places : List Place} {rows : List Row} (kept : AreGroupsKept groups places)
    (seen : rows_at_places groups places ≡ rows) where
  grouped : groups ≡ points_by_series rows
  grouped = kept.grouped ∙ ap points_by_series seen

  -- the group of a series' number
  pub group_there : (at : ℕ) (key : SeriesKey) → slice_get (series_of rows) at ≡ Some key → slice_get groups at
      ≡ Some (key, points_of key rows)
  group_there at key there = ap (λ (gs : List Group). slice_get gs at) grouped ∙ group_by_series rows at key there

  pub takes_row : (at : ℕ) (row : Row) → slice_get (series_of rows) at ≡ Some row.key
      → IfSome (last_end (points_of row.key rows)) (λ last. last <ℤ row.point.end) → TakesRow (slice_get groups at) row
  takes_row at row there later =
      subst (λ (g : Option Group). TakesRow g row) (sym (group_there at row.key there)) (refl, later)

  pub known_pushed : {E : Type 0} (row : Row) (groups' : List Group) (places' : List Place) (at : ℕ)
      (result : Result (Unit {0}) E)
      → slice_get (series_of rows) at ≡ Some row.key
      → OnOk result (groups' ≡ with_point_at groups at row.point) → OnOk result (places' ≡ places
      ++ place_at at (count_at groups at) ∷ [])
      → OnErr result (groups' ≡ groups) → OnErr result (places' ≡ places) → IsPushed row groups groups' places places'
      result
  known_pushed row groups' places' at (Err error) there grown placed same stayed =
      let as_before = unchanged kept same stayed in record { kept = as_before.0; rows = tt; same = as_before.1 }
  known_pushed row groups' places' at (Ok done) there grown placed same stayed =
      let first : IsFirst row.key groups at = subst (λ (gs : List Group). IsFirst row.key gs at) (sym grouped)
      (first_by_series rows at row.key there) in
      let key : slice_get (keys_in groups) at ≡ Some row.key =
      ap (λ (gs : List Group). slice_get (keys_in gs) at) grouped ∙ ap (λ (ks : List SeriesKey). slice_get ks at)
      (series_keys rows) ∙ there in
      let few : length groups' < 2 ^ 32 = subst (λ (n : ℕ). n < 2 ^ 32)
      (sym (ap length grown ∙ count_same groups at row.point)) kept.few in
      let took = grown_by row at (count_at groups at) kept
      (subst (Keeps groups) (sym grown) (keeps_grown groups at row.point))
      (subst (λ (gs : List Group). row_at gs at (count_at groups at) ≡ Some row) (sym grown)
      (row_grown groups at row.key row.point key))
      (grown ∙ grown_first row.key groups at row.point first) placed few in
      record { kept = took.0; rows = took.1; same = tt }

  -- ---- the first row of a series

  pub no_group : (key : SeriesKey) → points_of key rows ≡ [] → lookup (same_series key) groups ≡ None
  no_group key none = ap (lookup (same_series key)) grouped ∙ lookup-points_by_series key rows
      ∙ by (has_series key (series_of rows)) refl
    where
      by : (b : Bool) → has_series key (series_of rows) ≡ b → cond b (Some (points_of key rows)) None ≡ None
      by false e = refl
      by true e = absurd (some_points key rows e none)

  pub new_pushed : {E : Type 0} (row : Row) (groups' : List Group) (places' : List Place)
      (result : Result (Unit {0}) E) → points_of row.key rows ≡ []
      → OnOk result (groups' ≡ groups ++ (row.key, row.point ∷ []) ∷ []) → OnOk result (places' ≡ places
      ++ place_at (length groups) 0 ∷ [])
      → OnOk result (length groups + 1 < 2 ^ 32) → OnErr result (groups' ≡ groups) → OnErr result (places' ≡ places)
      → IsPushed row groups groups' places places' result
  new_pushed row groups' places' (Err error) none grown placed few same stayed =
      let as_before = unchanged kept same stayed in record { kept = as_before.0; rows = tt; same = as_before.1 }
  new_pushed row groups' places' (Ok done) none grown placed few same stayed =
      let count = ap length grown ∙ length-append groups ((row.key, row.point ∷ []) ∷ []) in
      let took = grown_by row (length groups) 0 kept
      (subst (Keeps groups) (sym grown) (keeps_new groups ((row.key, row.point ∷ []) ∷ [])))
      (subst (λ (gs : List Group). row_at gs (length groups) 0 ≡ Some row) (sym grown)
      (row_new groups row.key row.point))
      (grown ∙ grown_last row.key groups row.point (no_group row.key none)) placed
      (subst (λ (n : ℕ). n < 2 ^ 32) (sym count) few) in
      record { kept = took.0; rows = took.1; same = tt }

  -- ---- look-ups

  pub found_points : (key : SeriesKey) (at : ℕ) (other : SeriesKey) (points : List Point) → IsFirst key groups at
      → slice_get groups at ≡ Some (other, points)
      → (slice_get (series_of rows) at ≡ Some key) × (points_of key rows ≡ points)
  found_points key at other points first there =
      let found = found_first key groups at other points first there in (
        series_number groups rows at other points grouped there ∙ ap (λ (k : SeriesKey). Some k) (sym found.0),
        points_found key rows points (ap (lookup (same_series key)) (sym grouped) ∙ found.1),
      )

  pub found_none : (key : SeriesKey) → lookup (same_series key) groups ≡ None → points_of key rows ≡ []
  found_none key none = points_missing key rows (ap (lookup (same_series key)) (sym grouped) ∙ none)

  -- the key and the points of a number
  pub numbered : (at : ℕ) (key : SeriesKey) (points : List Point) → slice_get groups at ≡ Some (key, points)
      → (slice_get (series_of rows) at ≡ Some key) × (points ≡ points_of key rows)
  numbered at key points there =
      let number = series_number groups rows at key points grouped there in
      (number, points_same key points (points_of key rows) (sym there ∙ group_there at key number))
