-- Rows of a table by the places that each series has there.
use Rattle.std.specs.Prelude.{ℕ, suc, false, nat_eq, nat_lt, ◌≡◌, ◌≤◌, ◌+◌, List, [], ◌∷◌, ◌++◌, length, map, set, slice_get}
use Rattle.std.specs.Prelude.{IsPermutation, IfSome, if◌then◌else◌, Vec, vec_capacity}
use Rattle.std.specs.List.{AllByRecursion, filter_map, flat_map}
use Rattle.std.specs.declared.alloc.Global.{Global}
use Rattle.mon_value.specs.declared.tables.TimedRow.{TimedRow}

-- the rows at places, in their order
abbrev pub placed : List TimedRow → List ℕ → List TimedRow
placed rows at = filter_map (slice_get rows) at

-- all places of a table, in its order
abbrev pub all_places : List TimedRow → List ℕ
all_places [] = []
all_places (row ∷ rows) = 0 ∷ map suc (all_places rows)

-- no place is that one
abbrev pub AreOthers : ℕ → List ℕ → Type 0
AreOthers place at = AllByRecursion (λ other. nat_eq place other ≡ false) at

-- the rows of each series, by the places that it has
abbrev pub series_of : List TimedRow → List (List ℕ) → List (List TimedRow)
series_of rows places = map (placed rows) places

-- each place of a table is one of the places, and is so once
abbrev pub AreAllPlaces : List TimedRow → List (List ℕ) → Type 0
AreAllPlaces rows places = IsPermutation (flat_map (λ at. at) places) (all_places rows)

-- rows with one in the place of that which stands there, or else behind them
abbrev pub put_at : ℕ → TimedRow → List TimedRow → List TimedRow
put_at n row rows = if nat_lt n (length rows) then set rows n row else rows ++ row ∷ []

-- the places of each series, as the lists that they are
abbrev pub places_seen : List (Vec ℕ Global) → List (List ℕ)
places_seen places = map (λ at. at.items) places

-- there is room for so many places more of a series
abbrev pub HasRoomAt : ℕ → ℕ → List (Vec ℕ Global) → Type 0
HasRoomAt series more places = IfSome (slice_get places series) (λ at. length at.items + more ≤ vec_capacity at)
