-- One history for each leaf and one for each range, by their numbers.
use Rattle.std.specs.Prelude.{ℕ, nat_eq, Bool, nat_lt, List, [], ◌∷◌, length, if◌then◌else◌}
use Rattle.std.specs.List.{slice_index_or}
use Rattle.mon_value.specs.declared.positions.Leaf.{Leaf}
use Rattle.mon_value.specs.declared.positions.Range.{Range}
use Rattle.mon_value.specs.declared.positions.Slot.{Slot}
use Rattle.mon_value.specs.declared.positions.Zone.{Zone}
use Rattle.mon_value.specs.declared.histories.Entry.{Entry}
use Rattle.mon_value.specs.declared.histories.Histories.{Histories}
use Rattle.mon_value.specs.declared.histories.RangeEntry.{RangeEntry}

-- Zones, leaves, ranges and slots by their numbers.

abbrev pub zone_numbered : ℕ → Zone
zone_numbered n = record { 0 = n }

abbrev pub leaf_numbered : ℕ → Leaf
leaf_numbered n = record { 0 = n }

abbrev pub range_numbered : ℕ → Range
range_numbered n = record { 0 = n }

abbrev pub same_leaf : Leaf → Leaf → Bool
same_leaf a b = nat_eq a.0 b.0

abbrev pub same_range : Range → Range → Bool
same_range a b = nat_eq a.0 b.0

abbrev pub same_slot : Slot → Slot → Bool
same_slot a b = nat_eq a.0 b.0

-- Of two lists of how far something is, place by place, the farther one.

-- of two the farther one, by how far each of them is
abbrev pub farther : {X : Type 0} → (X → ℕ) → X → X → X
farther far a b = if nat_lt (far a) (far b) then b else a

-- place by place
abbrev pub farther_each : {X : Type 0} → (X → ℕ) → List X → List X → List X
farther_each far [] others = others
farther_each far (x ∷ xs) [] = x ∷ xs
farther_each far (x ∷ xs) (other ∷ others) = farther far x other ∷ farther_each far xs others

-- the longer one of two lists
abbrev pub longer : {X : Type 0} → List X → List X → List X
longer xs ys = farther length xs ys

-- of each two lists the longer one
abbrev pub longer_each : {X : Type 0} → List (List X) → List (List X) → List (List X)
longer_each xss yss = farther_each length xss yss

-- One history for each leaf and one for each range: a single one, and what two callers have seen together.

abbrev pub leaf_history : Histories → Leaf → List Entry
leaf_history seen leaf = slice_index_or seen.leaves leaf.0 []

abbrev pub range_history : Histories → Range → List RangeEntry
range_history seen range = slice_index_or seen.ranges range.0 []

-- of each history the longer one
abbrev pub joined_histories : Histories → Histories → Histories
joined_histories seen other =
    record { leaves = longer_each seen.leaves other.leaves; ranges = longer_each seen.ranges other.ranges }
