-- Rows at places, as groups grow by a point.
use Rattle.std.proofs.Common.{◌≡◌, ◌∙◌, ℕ, zero, suc, true, false, Option, Some, None, option_map, List, [], ◌∷◌, ◌++◌, map}
use Rattle.std.proofs.Common.{length, take, ◌+◌, arith, refl, sym, ap, slice_get}
use Rattle.std.specs.Prelude.{is_some}
use Rattle.mon_value.specs.declared.rows.Point.{Point}
use Rattle.mon_value.specs.declared.rows.Row.{Row}
use Rattle.mon_value.specs.declared.rows.SeriesKey.{SeriesKey}
use Rattle.mon_series.specs.declared.placing.Place.{Place}
use Rattle.mon_series.specs.within.Places.{HaveRows, Group, count_at, place_at, row_at, row_of_parts, rows_at_places}
use Rattle.mon_series.specs.within.Places.{with_point_at, with_found_row}
use Rattle.mon_value.proofs.PlainLemmas.{get_next}

-- ---- lists

pub take_next : {X : Type 0} (xs : List X) (n : ℕ) (x : X) → slice_get xs n ≡ Some x
    → take (n + 1) xs ≡ take n xs ++ x ∷ []
take_next [] n x there = absurd cc
take_next (y ∷ xs) zero x there = let same : y ≡ x = cc in ap (λ z. z ∷ []) same
take_next (y ∷ xs) (suc n) x there =
    let same : suc n + 1 ≡ suc (n + 1) = omega arith in
    ap (λ k. take k (y ∷ xs)) same ∙ ap (λ more. y ∷ more) (take_next xs n x there)

-- the keys of groups
abbrev pub keys_in : List Group → List SeriesKey
keys_in groups = map (λ (group : Group). group.0) groups

-- ---- a row that is there stays

-- whatever row is at a place in groups is there in others too
abbrev pub Keeps : List Group → List Group → Type 0
Keeps groups groups' = (series point : ℕ) (row : Row) → row_at groups series point ≡ Some row → row_at groups' series
    point ≡ Some row

row_kept : (key : SeriesKey) (points more : List Point) (n : ℕ) (row : Row) → option_map (row_of_parts key)
    (slice_get points n) ≡ Some row
    → option_map (row_of_parts key) (slice_get (points ++ more) n) ≡ Some row
row_kept key [] more n row e = absurd cc
row_kept key (p ∷ points) more zero row e = e
row_kept key (p ∷ points) more (suc n) row e = row_kept key points more n row e

-- a point more at the end of a group
pub keeps_grown : (groups : List Group) (at : ℕ) (point : Point) → Keeps groups (with_point_at groups at point)
keeps_grown [] at point series n row e = e
keeps_grown (g ∷ groups) zero point zero n row e = row_kept g.0 g.1 (point ∷ []) n row e
keeps_grown (g ∷ groups) zero point (suc series) n row e = e
keeps_grown (g ∷ groups) (suc at) point zero n row e = e
keeps_grown (g ∷ groups) (suc at) point (suc series) n row e = keeps_grown groups at point series n row e

-- a group more at the end
pub keeps_new : (groups more : List Group) → Keeps groups (groups ++ more)
keeps_new [] more series point row e = absurd cc
keeps_new (g ∷ groups) more zero point row e = e
keeps_new (g ∷ groups) more (suc series) point row e = keeps_new groups more series point row e

-- ---- the row that is new

some_key : (a b : SeriesKey) → Some a ≡ Some b → a ≡ b
some_key a b e = cc

pub row_grown : (groups : List Group) (at : ℕ) (key : SeriesKey) (point : Point) → slice_get (keys_in groups) at
    ≡ Some key
    → row_at (with_point_at groups at point) at (count_at groups at) ≡ Some (row_of_parts key point)
row_grown [] at key point there = absurd cc
row_grown (g ∷ groups) zero key point there =
    ap (option_map (row_of_parts g.0)) (get_next g.1 point) ∙ ap (λ (k : SeriesKey). Some (row_of_parts k point))
    (some_key g.0 key there)
row_grown (g ∷ groups) (suc at) key point there = row_grown groups at key point there

pub row_new : (groups : List Group) (key : SeriesKey) (point : Point) → row_at (groups ++ (key, point ∷ []) ∷ [])
    (length groups) 0 ≡ Some (row_of_parts key point)
row_new [] key point = refl
row_new (g ∷ groups) key point = row_new groups key point

-- ---- rows at places

there_at : (o : Option Row) → is_some o ≡ true → (row : Row) × (o ≡ Some row)
there_at None e = absurd cc
there_at (Some row) e = (row, refl)

pub rows_kept : (groups groups' : List Group) (places : List Place) → Keeps groups groups' → HaveRows groups places
    → (rows_at_places groups' places ≡ rows_at_places groups places) × HaveRows groups' places
rows_kept groups groups' [] keeps there = (refl, tt)
rows_kept groups groups' (place ∷ places) keeps there =
    let found = there_at (row_at groups place.series place.point) there.0 in
    let again : row_at groups' place.series place.point ≡ Some found.0 = keeps place.series place.point found.0
    found.1 in
    let rest = rows_kept groups groups' places keeps there.1 in (
      (λ i. with_found_row ((again ∙ sym found.1) i) (rest.0 i)),
      (ap is_some again, rest.1),
    )

pub rows_added : (groups : List Group) (places : List Place) (series point : ℕ) (row : Row) → row_at groups series
    point ≡ Some row
    → rows_at_places groups (places ++ place_at series point ∷ []) ≡ rows_at_places groups places ++ row ∷ []
rows_added groups [] series point row e = ap (λ (o : Option Row). with_found_row o []) e
rows_added groups (place ∷ places) series point row e =
    ap (with_found_row (row_at groups place.series place.point)) (rows_added groups places series point row e)
    ∙ by (row_at groups place.series place.point)
  where
    by : (o : Option Row) → with_found_row o (rows_at_places groups places ++ row ∷ [])
        ≡ with_found_row o (rows_at_places groups places)
        ++ row ∷ []
    by None = refl
    by (Some first) = refl

pub there_added : (groups : List Group) (places : List Place) (series point : ℕ) (row : Row) → row_at groups series
    point ≡ Some row
    → HaveRows groups places → HaveRows groups (places ++ place_at series point ∷ [])
there_added groups [] series point row e there = (ap is_some e, tt)
there_added groups (place ∷ places) series point row e there =
    (there.0, there_added groups places series point row e there.1)

-- as many rows as places
pub rows_count : (groups : List Group) (places : List Place) → HaveRows groups places
    → length (rows_at_places groups places)
    ≡ length places
rows_count groups [] there = refl
rows_count groups (place ∷ places) there =
    let found = there_at (row_at groups place.series place.point) there.0 in
    ap (λ (o : Option Row). length (with_found_row o (rows_at_places groups places))) found.1
    ∙ ap suc (rows_count groups places there.1)

-- a place that is listed has a row, with the same number
pub row_listed : (groups : List Group) (places : List Place) (n : ℕ) (place : Place) → HaveRows groups places
    → slice_get places n ≡ Some place
    → (row : Row) × (row_at groups place.series place.point ≡ Some row) × (slice_get (rows_at_places groups places) n
    ≡ Some row)
row_listed groups [] n place there listed = absurd cc
row_listed groups (first ∷ places) zero place there listed =
    let same : first ≡ place = cc in
    let found = there_at (row_at groups first.series first.point) there.0 in (
      found.0,
      ap (λ (p : Place). row_at groups p.series p.point) (sym same) ∙ found.1,
      ap (λ (o : Option Row). slice_get (with_found_row o (rows_at_places groups places)) zero) found.1,
    )
row_listed groups (first ∷ places) (suc n) place there listed =
    let found = there_at (row_at groups first.series first.point) there.0 in
    let rest = row_listed groups places n place there.1 listed in (
      rest.0,
      rest.1,
      ap (λ (o : Option Row). slice_get (with_found_row o (rows_at_places groups places)) (suc n))
          found.1 ∙ rest.2,
    )

-- a row at a place is the point of that number in the group of that number
pub row_parts : (groups : List Group) (series point : ℕ) (row : Row) → row_at groups series point ≡ Some row
    → (group : Group) × (slice_get groups series ≡ Some group) × (row.key ≡ group.0)
    × (slice_get group.1 point ≡ Some row.point)
row_parts [] series point row e = absurd cc
row_parts (g ∷ groups) zero point row e =
    let parts = by g.0 (slice_get g.1 point) row e in (g, refl, parts.0, parts.1)
  where
    by : (key : SeriesKey) (o : Option Point) (row : Row) → option_map (row_of_parts key) o ≡ Some row
        → (row.key ≡ key) × (o ≡ Some row.point)
    by key None row e = absurd cc
    by key (Some p) row e =
        let same : row_of_parts key p ≡ row = cc in
        (sym (ap (λ (r : Row). r.key) same), ap (λ (r : Row). Some r.point) same)
row_parts (g ∷ groups) (suc series) point row e = row_parts groups series point row e

-- the rows at the first so many places, with one more
pub rows_next : (groups : List Group) (places : List Place) (n : ℕ) (place : Place) (row : Row)
    → slice_get places n ≡ Some place → row_at groups place.series place.point ≡ Some row
    → rows_at_places groups (take (n + 1) places) ≡ rows_at_places groups (take n places) ++ row ∷ []
rows_next groups places n place row listed there =
    ap (rows_at_places groups) (take_next places n place listed)
    ∙ rows_added groups (take n places) place.series place.point row there

-- ---- the row at a place, by the group of its series

pub row_from : (groups : List Group) (series n : ℕ) (key : SeriesKey) (points : List Point) (point : Point)
    → slice_get groups series ≡ Some (key, points) → slice_get points n ≡ Some point
    → row_at groups series n ≡ Some (row_of_parts key point)
row_from [] series n key points point there found = absurd cc
row_from (g ∷ groups) zero n key points point there found =
    let same : g ≡ (key, points) = cc in
    ap (λ (h : Group). option_map (row_of_parts h.0) (slice_get h.1 n)) same ∙ ap (option_map (row_of_parts key)) found
row_from (g ∷ groups) (suc series) n key points point there found =
    row_from groups series n key points point there found

pub no_group_there : (groups : List Group) (series n : ℕ) → is_some (row_at groups series n) ≡ true
    → slice_get groups series ≡ None → ⊥
no_group_there [] series n there none = absurd cc
no_group_there (g ∷ groups) zero n there none = absurd cc
no_group_there (g ∷ groups) (suc series) n there none = no_group_there groups series n there none

pub no_point_there : (groups : List Group) (series n : ℕ) (key : SeriesKey) (points : List Point)
    → is_some (row_at groups series n) ≡ true → slice_get groups series ≡ Some (key, points)
    → slice_get points n ≡ None → ⊥
no_point_there [] series n key points there group none = absurd cc
no_point_there (g ∷ groups) zero n key points there group none =
    let same : g ≡ (key, points) = cc in
    let gone : row_at (g ∷ groups) zero n ≡ None =
    ap (λ (h : Group). option_map (row_of_parts h.0) (slice_get h.1 n)) same
    ∙ ap (option_map (row_of_parts key)) none in
    let no : is_some (row_at (g ∷ groups) zero n) ≡ false = ap is_some gone in
    absurd cc
no_point_there (g ∷ groups) (suc series) n key points there group none =
    no_point_there groups series n key points there group none
