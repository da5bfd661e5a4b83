-- How replicas are kept: each under its range and slot, with the rows that it has; and entries that were brought to
-- them.
use Rattle.std.specs.Prelude.{◌≡◌, ◌<ℤ◌, ℕ, ℤ, true, List, [], ◌∷◌, ◌++◌, length, take, nat_lt, is_some, slice_get, Option}
use Rattle.std.specs.Prelude.{Bool, Some, None, option_map, IfSome, if◌then◌else◌}
use Rattle.std.specs.List.{AllByRecursion, position}
use Rattle.std.specs.Map.{keys_of, lookup}
use Rattle.indexmap.specs.Layout.{set_value_at}
use Rattle.mon_value.specs.LeafHistories.{IsWellFormed, MayFollow, same_replica, last_end, points_of}
use Rattle.mon_value.specs.declared.histories.Entry.{Entry}
use Rattle.mon_value.specs.declared.histories.Entry.TheVariants as entry
use Rattle.mon_value.specs.declared.positions.Range.{Range}
use Rattle.mon_value.specs.declared.positions.Slot.{Slot}
use Rattle.mon_value.specs.declared.rows.Row.{Row}
use Rattle.mon_value.specs.declared.rows.SeriesKey.{SeriesKey}
use Rattle.mon_value.specs.Turns.{Turn, Adds, added_row, after_turn}
use Rattle.mon_series.specs.SlotViews.{SlotView, all_kept}
use Rattle.leaf_store.specs.LeafStates.{opened_rows}
use Rattle.leaf_store.specs.declared.kept.Kept.{Kept}
use Rattle.leaf_store.specs.declared.kept.Kept.TheVariants as kept
use Rattle.leaf_store.specs.declared.replicas.Replica.{Replica}

-- replicas with their rows
abbrev pub Replicas : Type 0
Replicas = List (Replica × SlotView)

-- the rows that are held for a replica
abbrev pub rows_held : Replicas → Range → Slot → Option SlotView
rows_held replicas range slot = lookup (λ replica. same_replica range slot replica.range replica.slot) replicas

-- the place of a replica
abbrev pub place_in : Replicas → Replica → Option ℕ
place_in replicas replica =
    position (λ other. same_replica replica.range replica.slot other.range other.slot) (keys_of replicas)

-- all rows that came to a replica, none where it isn't held
abbrev pub rows_if_held : Option SlotView → List Row
rows_if_held None = []
rows_if_held (Some held) = held.rows

-- the rows of a replica that are kept, none where it isn't held
abbrev pub kept_if_held : Option SlotView → List Row
kept_if_held None = []
kept_if_held (Some held) = held.kept

-- the rows of a replica that is a certain one
abbrev pub rows_if : Range → Slot → Option (Replica × SlotView) → Option SlotView
rows_if range slot None = None
rows_if range slot (Some held) = if same_replica range slot held.0.range held.0.slot then Some held.1 else None

-- just the replicas that a history opened are held, with their rows
abbrev pub HoldsHistory : Replicas → List Entry → Type 0
HoldsHistory replicas history = (range : Range) → (slot : Slot)
    → rows_held replicas range slot ≡ opened_rows range slot history

-- ---- entries that are kept

-- the first so many rows, if there are so many
abbrev pub front_rows : ℕ → List Row → Option (List Row)
front_rows count rows = if nat_lt (length rows) count then None else Some (take count rows)

abbrev pub opened_entry : ℕ → ℕ → Option (Replica × SlotView) → Option Entry
opened_entry pass count None = None
opened_entry pass count (Some held) =
    option_map (entry.Opened pass held.0.range held.0.slot) (front_rows count held.1.rows)

abbrev pub put_entry : ℕ → ℕ → Option (Replica × SlotView) → Option Entry
put_entry pass row None = None
put_entry pass row (Some held) = option_map (entry.Put pass held.0.range held.0.slot) (slice_get held.1.rows row)

abbrev pub trim_entry : ℕ → ℤ → Option (Replica × SlotView) → Option Entry
trim_entry pass before None = None
trim_entry pass before (Some held) = Some (entry.Trim pass held.0.range held.0.slot before)

-- the entry that is kept
abbrev pub entry_of : Replicas → Kept → Option Entry
entry_of replicas (kept.Opened pass number count) = opened_entry pass count (slice_get replicas number)
entry_of replicas (kept.Put pass number row) = put_entry pass row (slice_get replicas number)
entry_of replicas (kept.Trim pass number before) = trim_entry pass before (slice_get replicas number)
entry_of replicas (kept.Down pass) = Some (entry.Down pass)
entry_of replicas (kept.Up pass) = Some (entry.Up pass)

abbrev pub with_first : Option Entry → List Entry → List Entry
with_first None entries = entries
with_first (Some entry) entries = entry ∷ entries

-- the entries that are kept
abbrev pub shown_entries : Replicas → List Kept → List Entry
shown_entries replicas [] = []
shown_entries replicas (k ∷ ks) = with_first (entry_of replicas k) (shown_entries replicas ks)

-- each of them can be told by what its replica has
abbrev pub AllHaveRows : Replicas → List Kept → Type 0
AllHaveRows replicas ks = AllByRecursion (λ k. is_some (entry_of replicas k) ≡ true) ks

-- ---- a turn or a replica more

-- a row ends later than those of its series
abbrev pub IsLater : Row → List Row → Type 0
IsLater row rows = IfSome (last_end (points_of row.key rows)) (λ last. last <ℤ row.point.end)

-- a replica is held, and takes a row that ends later than those of its series
abbrev pub CanPut : Replicas → Replica → Row → Type 0
CanPut replicas replica row =
    (held : SlotView) × (rows_held replicas replica.range replica.slot ≡ Some held) × IsLater row held.rows

-- whether some row is of a series
abbrev pub has_row_of : SeriesKey → List Row → Bool
has_row_of key rows = is_some (last_end (points_of key rows))

-- a replica has a row of a series
abbrev pub HasSeries : Replicas → Replica → SeriesKey → Type 0
HasSeries replicas replica key = (held : SlotView) × (rows_held replicas replica.range replica.slot ≡ Some held)
    × (has_row_of key held.rows ≡ true)

-- a replica's rows after a turn: one came, or fewer are kept
abbrev pub with_turn : Turn → SlotView → SlotView
with_turn turn held = record { rows = held.rows ++ added_row turn; kept = after_turn held.kept turn }

-- the replica of a number had a turn
pub record IsTurned (old new : Replicas) (replica : Replica) (turn : Turn) (number : ℕ) : Type 0 where
  pub held : SlotView
  pub there : slice_get old number ≡ Some (replica, held)
  pub each : (range : Range) → (slot : Slot) → rows_held new range slot
      ≡ option_map (λ held. if same_replica range slot replica.range replica.slot then with_turn turn held else held)
      (rows_held old range slot)
  pub changed : new ≡ set_value_at old number (with_turn turn held)

-- the replica of a number has a row more, which has its number too
pub record IsPut (old new : Replicas) (replica : Replica) (row : Row) (number place : ℕ) : Type 0 where
  pub turned : IsTurned old new replica (Adds row) number
  pub place_is : place ≡ length turned.held.rows

-- no replica of this range and slot is held
abbrev pub IsNewReplica : Replicas → Replica → Type 0
IsNewReplica replicas replica = rows_held replicas replica.range replica.slot ≡ None

-- a replica more, with its rows
pub record IsReplicaAdded (old new : Replicas) (replica : Replica) (rows : List Row) (number count : ℕ) : Type 0 where
  pub number_is : number ≡ length old
  pub count_is : count ≡ length rows
  pub grown : new ≡ old ++ (replica, all_kept rows) ∷ []

-- an entry may come to a history that was brought to the replicas
pub record CanSettle (replicas : Replicas) (last : Entry) : Type 0 where
  pub history : List Entry
  pub formed : IsWellFormed history
  pub holds : HoldsHistory replicas history
  pub follows : MayFollow history last

-- each entry that was kept is kept, and so is one more, which was brought to the replicas too
pub record SettlesEntry (old new : Replicas) (last : Entry) (own : Kept) : Type 0 where
  pub keeps : (k : Kept) (e : Entry) → entry_of old k ≡ Some e → entry_of new k ≡ Some e
  pub own_is : entry_of new own ≡ Some last
  pub holds : (history : List Entry) → IsWellFormed history → MayFollow history last → HoldsHistory old history
      → HoldsHistory new (history ++ last ∷ [])

-- ---- a history in two parts: what is kept, and what is left

pub record IsInTwoParts (replicas : Replicas) (ks : List Kept) (left : List Entry) : Type 0 where
  pub there : AllHaveRows replicas ks
  pub formed : IsWellFormed (shown_entries replicas ks ++ left)
  pub holds : HoldsHistory replicas (shown_entries replicas ks)

abbrev pub SameHistory : Replicas → List Kept → List Entry → Replicas → List Kept → List Entry → Type 0
SameHistory old ks left new more rest = shown_entries new more ++ rest ≡ shown_entries old ks ++ left
