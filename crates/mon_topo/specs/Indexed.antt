-- How zones are kept to be looked up: what each map and list beside them has.
use Rattle.std.specs.Prelude.{ℕ, ◌+◌, ◌≡◌, List, [], ◌∷◌, ◌++◌, length, map, Option, option_map, if◌then◌else◌}
use Rattle.std.specs.List.{filter_map, list_any, position_from}
use Rattle.std.specs.Map.{keys_of, lookup}
use Rattle.mon_value.specs.Same.{same_text}
use Rattle.mon_value.specs.declared.positions.Leaf.{Leaf}
use Rattle.mon_topo.specs.declared.names.Names.{Names}
use Rattle.mon_topo.specs.declared.spans.ZoneSpan.{ZoneSpan}
use Rattle.mon_topo.specs.declared.zones.ZoneSpec.{ZoneSpec}
use Rattle.mon_value.specs.Histories.{leaf_numbered}
use Rattle.mon_topo.specs.Zones.{leaves_in, leaves_named, ranges_in}

-- ---- names with numbers

-- a name that is new goes to the end with its number
abbrev pub with_name : List (List ℕ × ℕ) → List ℕ → ℕ → List (List ℕ × ℕ)
with_name entries name n = if list_any (same_text name) (keys_of entries) then entries else entries ++ (name, n) ∷ []

-- texts that are numbered on from n
abbrev pub numbered_texts : ℕ → List (List ℕ) → List (List ℕ × ℕ)
numbered_texts n [] = []
numbered_texts n (text ∷ texts) = (text, n) ∷ numbered_texts (n + 1) texts

-- texts that have one number
abbrev pub all_numbered : ℕ → List (List ℕ) → List (List ℕ × ℕ)
all_numbered n = map (λ text. (text, n))

-- the locations of zones that are numbered on from i, each with the number of its zone
abbrev pub numbered_locations : ℕ → List ZoneSpec → List (List ℕ × ℕ)
numbered_locations i [] = []
numbered_locations i (zone ∷ zones) = all_numbered i zone.locations ++ numbered_locations (i + 1) zones

-- each text is found with what it is to be found with
abbrev pub Finds : List (List ℕ × ℕ) → (List ℕ → Option ℕ) → Type 0
Finds entries found = (text : List ℕ) → lookup (same_text text) entries ≡ found text

-- a text of the list is found with the place at which it first stands
abbrev pub FindsPlaces : List (List ℕ × ℕ) → List (List ℕ) → Type 0
FindsPlaces entries texts = Finds entries (λ text. position_from (same_text text) 0 texts)

-- ---- what is kept of zones

-- names with those of one zone more, which has the number i
abbrev pub with_zone_names : Names → ℕ → ZoneSpec → Names
with_zone_names names i zone = record {
  zones = names.zones ++ (zone.name, i) ∷ [];
  locations = names.locations ++ all_numbered i zone.locations;
  leaves = names.leaves ++ numbered_texts (length names.leaves) zone.leaves;
}

-- the names of zones
abbrev pub names_of_zones : List ZoneSpec → Names
names_of_zones zones = record {
  zones = numbered_texts 0 (map (λ zone. zone.name) zones);
  locations = numbered_locations 0 zones;
  leaves = numbered_texts 0 (leaves_in zones);
}

-- where the leaves and the ranges of each zone begin, and how many there are, behind so many of earlier zones
abbrev pub spans_from : ℕ → ℕ → List ZoneSpec → List ZoneSpan
spans_from leaf range [] = []
spans_from leaf range (zone ∷ zones) =
    record {
      first_leaf = leaf;
      leaves = length zone.leaves;
      first_range = range;
      ranges = length zone.ranges;
    } ∷ spans_from (leaf + length zone.leaves) (range + length zone.ranges) zones

-- the leaves of names that are found
abbrev pub leaves_found : List (List ℕ × ℕ) → List (List ℕ) → List Leaf
leaves_found entries = filter_map (λ name. option_map leaf_numbered (lookup (same_text name) entries))

-- the leaves that hold each range at first
abbrev pub all_replicas : List ZoneSpec → List (List Leaf)
all_replicas zones = map (λ range. leaves_named zones range.leaves) (ranges_in zones)
