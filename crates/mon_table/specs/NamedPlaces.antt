-- The places of columns, kept under their names.
use Rattle.std.specs.Prelude.{◌≡◌, ℕ, Bool, List, [], ◌∷◌, ◌++◌, Option, Some, None, Vec, if◌then◌else◌}
use Rattle.std.specs.Borrow.{Bor}
use Rattle.std.specs.declared.alloc.Global.{Global}
use Rattle.indexmap.specs.IndexMap.{IndexMap, get}
use Rattle.mon_value.specs.Same.{same_text}
use Rattle.mon_value.specs.declared.columns.Column.{Column}
use Rattle.mon_table.specs.Places.{right_places_of}

abbrev pub same_name : Bor (List ℕ) → Bor (List ℕ) → Bool
same_name a b = same_text a.now b.now

-- the places of an entry, none where there is no entry
abbrev pub places_under : Option (Vec ℕ Global) → List ℕ
places_under None = []
places_under (Some places) = places.items

-- places under names
abbrev pub PlaceMap : Type 0 → Type 0
PlaceMap S = IndexMap (Bor (List ℕ)) (Vec ℕ Global) S

-- each name has just the places of the columns of that name
abbrev pub KnowsPlaces : {S : Type 0} → List Column → PlaceMap S → Type 0
KnowsPlaces columns kept =
    (name : Bor (List ℕ)) → places_under (get same_name kept name) ≡ right_places_of name.now 0 columns

-- a place goes behind those of its name, and no other name has another place
abbrev pub AddsPlace : {S : Type 0} → PlaceMap S → PlaceMap S → List ℕ → ℕ → Type 0
AddsPlace before after name place =
    (other : Bor (List ℕ)) → places_under (get same_name after other)
    ≡ places_under (get same_name before other) ++ (if same_text other.now name then place ∷ [] else [])
