-- Which rows of a replica stand, gone over from the last turn back, with the greatest bound met so far.
use Rattle.std.specs.Prelude.{ℕ, ◌-◌, ℤ, int_lt, Bool, false, List, [], ◌∷◌, length, map, take, Option, Some, None}
use Rattle.std.specs.Prelude.{if◌then◌else◌}
use Rattle.std.specs.List.{flat_map}
use Rattle.mon_value.specs.LeafHistories.{same_replica}
use Rattle.mon_value.specs.Turns.{Turn, Adds, Hides}
use Rattle.mon_value.specs.declared.histories.Entry.{Entry}
use Rattle.mon_value.specs.declared.histories.Entry.TheVariants as entry
use Rattle.mon_value.specs.declared.positions.Range.{Range}
use Rattle.mon_value.specs.declared.positions.Slot.{Slot}
use Rattle.mon_value.specs.declared.rows.Row.{Row}

-- the greater of a bound and one that there may be
abbrev pub with_bound : ℤ → Option ℤ → ℤ
with_bound bound None = bound
with_bound bound (Some other) = if int_lt bound other then other else bound

-- whether an end is below a bound that there may be
abbrev pub is_below : Option ℤ → ℤ → Bool
is_below None end = false
is_below (Some bound) end = int_lt end bound

-- the rows that stand among the last turns, and the greatest bound there
pub record Standing : Type 0 where
  pub rows : List Row
  pub bound : Option ℤ

abbrev pub none_standing : Standing
none_standing = record { rows = []; bound = None }

-- with the turn in front of them
abbrev pub behind_turn : Turn → Standing → Standing
behind_turn (Adds row) last = record {
  rows = if is_below last.bound row.point.end then last.rows else row ∷ last.rows;
  bound = last.bound;
}
behind_turn (Hides bound) last = record { rows = last.rows; bound = Some (with_bound bound last.bound) }

-- and with several turns in front of them, from the last one back
abbrev pub behind_turns : List Turn → Standing → Standing
behind_turns [] last = last
behind_turns (turn ∷ turns) last = behind_turn turn (behind_turns turns last)

-- what an entry does to the rows of a replica, where those with which it begins come one by one too
abbrev pub entry_steps : Range → Slot → Entry → List Turn
entry_steps range slot (entry.Opened pass other place rows) =
    if same_replica range slot other place then map Adds rows else []
entry_steps range slot (entry.Put pass other place row) =
    if same_replica range slot other place then Adds row ∷ [] else []
entry_steps range slot (entry.Trim pass other place before) =
    if same_replica range slot other place then Hides before ∷ [] else []
entry_steps range slot (entry.Down pass) = []
entry_steps range slot (entry.Up pass) = []

abbrev pub replica_steps : Range → Slot → List Entry → List Turn
replica_steps range slot = flat_map (entry_steps range slot)

-- all items but the last so many
abbrev pub but_last : {A : Type 0} → ℕ → List A → List A
but_last count items = take (length items - count) items
