-- The places of columns, kept under their names.
use Rattle.std.specs.Prelude.{◌≡◌, ℕ, Bool, List, Some, None, if◌then◌else◌}
use Rattle.std.specs.Borrow.{Bor}
use Rattle.std.specs.Option.{option_or}
use Rattle.indexmap.specs.IndexMap.{IndexMap, get}
use Rattle.mon_value.specs.Same.{same_text}
use Rattle.mon_value.specs.declared.columns.Column.{Column}
use Rattle.typed_trees.specs.Groupings.{place_found}

abbrev pub same_name : Bor (List ℕ) → Bor (List ℕ) → Bool
same_name a b = same_text a.now b.now

-- places under names
abbrev pub PlaceMap : Type 0 → Type 0
PlaceMap S = IndexMap (Bor (List ℕ)) ℕ S

-- each name has the first place at which it stands
abbrev pub KnowsPlaces : {S : Type 0} → List Column → PlaceMap S → Type 0
KnowsPlaces columns places = (name : Bor (List ℕ)) → get same_name places name ≡ place_found name.now columns

-- a name that had no place has one, and every other name the one that it had
abbrev pub AddsPlace : {S : Type 0} → PlaceMap S → PlaceMap S → List ℕ → ℕ → Type 0
AddsPlace before after name place =
    (other : Bor (List ℕ)) → get same_name after other
    ≡ option_or (get same_name before other) (if same_text other.now name then Some place else None)
