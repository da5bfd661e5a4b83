-- Divisions of rows into zones and leaves: the leaves of a zone share no target, and no location stands in two zones.
use Rattle.std.specs.Prelude.{◌≡◌, ℕ, Bool, false, List, [], ◌∷◌, ◌++◌, map}
use Rattle.std.specs.List.{AllByRecursion, list_any}
use Rattle.std.specs.Option.{option_map_or}
use Rattle.mon_value.specs.Same.{same_text}
use Rattle.mon_meaning.specs.ReadableSlots.{AreApart, ShareNoTarget}
use Rattle.mon_value.specs.declared.rows.Row.{Row}
use Rattle.mon_schema.specs.Fits.{TellsLocation}
use Rattle.mon_schema.specs.Names.{SchemaLists}
use Rattle.mon_topo.specs.Locations.{location_of}
use Rattle.typed_trees.specs.Nodes.{TypedTree}
use Rattle.typed_trees.specs.Soundness.{IsTyped}

abbrev pub lies_at : SchemaLists → List ℕ → Row → Bool
lies_at held location row = option_map_or (same_text location) (location_of held row.key.target) false

-- whether a location has a row
abbrev pub has_location : SchemaLists → List Row → List ℕ → Bool
has_location held rows location = list_any (lies_at held location) rows

-- no location has rows on both sides
abbrev pub ShareNoLocation : SchemaLists → List Row → List Row → Type 0
ShareNoLocation held rows others =
    AllByRecursion (λ row. option_map_or (has_location held others) (location_of held row.key.target) false ≡ false)
    rows

-- the rows of all children
abbrev pub together : List (List Row) → List Row
together [] = []
together (child ∷ children) = child ++ together children

-- the rows of all zones, each of which is a list of leaves with their rows
abbrev pub all_rows : List (List (List Row)) → List Row
all_rows zones = together (map together zones)

-- rows of a typed query, divided into zones and leaves
pub record IsDivided (typed : TypedTree) (zones : List (List (List Row))) : Type 0 where
  pub of : IsTyped typed (all_rows zones)
  pub located : AllByRecursion TellsLocation of.held.targets
  pub leaves_apart : AllByRecursion (AreApart ShareNoTarget) zones
  pub zones_apart : AreApart (ShareNoLocation of.held) (map together zones)
