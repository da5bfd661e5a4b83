-- The leaves and ranges of zones, and what these resolve to in a round.
use Rattle.std.specs.Prelude.{ℕ, ◌+◌, ◌≤◌, ◌<◌, ◌^◌, nat_le, nat_lt, Bool, ◌&&◌, List, length, map, true, false, ◌-◌}
use Rattle.std.specs.Prelude.{set, not, [], ◌∷◌, ◌++◌, filter, get_or, Option, Some, None, if◌then◌else◌}
use Rattle.std.specs.List.{range_with_len}
use Rattle.mon_value.specs.declared.positions.Leaf.{Leaf}
use Rattle.mon_value.specs.declared.positions.Range.{Range}
use Rattle.mon_topo.specs.declared.zones.ZoneSpec.{ZoneSpec}
use Rattle.mon_value.specs.Histories.{leaf_numbered, range_numbered, zone_numbered, same_leaf}
use Rattle.mon_topo.specs.Zones.{first_leaf, first_range, zone_at}
use Rattle.typed_trees.specs.Nodes.{TypedTree, typed_tree}
use Rattle.typed_trees.specs.declared.plans.Plan.{Plan}
use Rattle.mon_value.specs.declared.positions.RangeSlot.{RangeSlot}
use Rattle.mon_value.specs.declared.positions.Slot.{Slot}
use Rattle.plan_split.specs.Meeting.{flag_at}
use Rattle.query_traces.specs.declared.areas.Area.{Area}
use Rattle.query_traces.specs.declared.looks.Look.{Look}
use Rattle.query_traces.specs.declared.answers.Resolved.{Resolved}

-- The leaves and the ranges of each zone, by their numbers.

-- the zone of a number
abbrev pub area_of : List ZoneSpec → ℕ → Area
area_of zones i = record {
  zone = zone_numbered i;
  first_leaf = leaf_numbered (first_leaf zones i);
  leaves = length (zone_at zones i).leaves;
  first_range = range_numbered (first_range zones i);
  ranges = length (zone_at zones i).ranges;
}

-- all zones
abbrev pub areas_of : List ZoneSpec → List Area
areas_of zones = map (area_of zones) (range_with_len 0 (length zones))

-- a leaf of a zone, by its place there
abbrev pub leaf_at : Area → ℕ → Leaf
leaf_at area place = leaf_numbered (area.first_leaf.0 + place)

-- a range of a zone, by its place there
abbrev pub range_at : Area → ℕ → Range
range_at area place = range_numbered (area.first_range.0 + place)

-- whether a leaf is one of a zone's
abbrev pub has_leaf : Area → Leaf → Bool
has_leaf area leaf = nat_le area.first_leaf.0 leaf.0 && nat_lt leaf.0 (area.first_leaf.0 + area.leaves)

-- the numbers of a zone are small
pub record IsSmall (area : Area) : Type 0 where
  pub leaves : area.leaves ≤ 64
  pub leaf_numbers : area.first_leaf.0 + area.leaves < 2 ^ 32
  pub range_numbers : area.first_range.0 + area.ranges < 2 ^ 32

-- What a query knows of a leaf.

abbrev pub unread_look : ℕ → Look
unread_look cut = record { cut = cut; read = false; sent = 0 }

abbrev pub read_at : ℕ → ℕ → Look
read_at cut sent = record { cut = cut; read = true; sent = sent }

-- What stays the same through a query: its plan, the zones that it is asked of, and the limit of its load.

pub record QuerySetting : Type 0 where
  pub plan : Plan
  pub areas : List Area
  pub limit : ℕ

-- the typed tree of the query
abbrev pub typed_of : QuerySetting → TypedTree
typed_of setting = typed_tree setting.plan.typed

-- What the ranges of a zone resolve to in a round.

-- a zone, and what those of its ranges that are behind resolved to
pub record Round : Type 0 where
  pub area : Area
  pub resolved : List Resolved

abbrev pub round_of : Area → Round
round_of area = record { area = area; resolved = [] }

abbrev pub next_range : Round → Option Range
next_range round =
    if nat_lt (length round.resolved) round.area.ranges then Some (range_at round.area (length round.resolved))
    else None

abbrev pub resolution : Range → Slot → Leaf → Resolved
resolution range slot leaf = record { range = range; slot = slot; leaf = leaf }

abbrev pub with_slot : Round → Range → Slot → Leaf → Round
with_slot round range slot leaf = record {
  area = round.area;
  resolved = round.resolved ++ resolution range slot leaf ∷ [];
}

abbrev pub slot_of : Resolved → RangeSlot
slot_of resolved = record { range = resolved.range; slot = resolved.slot }

-- the slots that lie on a leaf
abbrev pub slots_on : Leaf → List Resolved → List RangeSlot
slots_on leaf resolved = map slot_of (filter (λ one. same_leaf one.leaf leaf) resolved)

-- the same for each leaf of a zone
abbrev pub slots_by_leaf : Area → List Resolved → List (List RangeSlot)
slots_by_leaf area resolved = map (λ place. slots_on (leaf_at area place) resolved) (range_with_len 0 area.leaves)

-- a slot more on a leaf, where it is one of the zone's
abbrev pub slot_added_at : Area → List (List RangeSlot) → Leaf → RangeSlot → List (List RangeSlot)
slot_added_at area slots leaf slot =
    if has_leaf area leaf
    then set slots (leaf.0 - area.first_leaf.0) (get_or slots (leaf.0 - area.first_leaf.0) [] ++ slot ∷ [])
    else slots

abbrev pub is_none : List RangeSlot → Bool
is_none [] = true
is_none (slot ∷ slots) = false

-- whether the leaf at a place of the zone is to be visited: a slot lies on it, and it is let in
abbrev pub is_to_visit : Round → List Bool → ℕ → Bool
is_to_visit round let_in place =
    not (is_none (get_or (slots_by_leaf round.area round.resolved) place [])) && flag_at let_in place

-- the leaves that are to be visited, in their order
abbrev pub leaves_to_visit : Round → List Bool → List Leaf
leaves_to_visit round let_in =
    map (leaf_at round.area) (filter (is_to_visit round let_in) (range_with_len 0 round.area.leaves))
