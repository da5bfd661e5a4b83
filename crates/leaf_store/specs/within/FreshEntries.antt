-- Entries that aren't with their replicas yet.
use Rattle.std.specs.Prelude.{◌≡◌, ℕ, List, [], ◌∷◌, ◌++◌, map, Some, IfSome, slice_get}
use Rattle.mon_value.specs.LeafHistories.{series_of}
use Rattle.mon_value.specs.declared.histories.Entry.{Entry}
use Rattle.mon_value.specs.declared.histories.Entry.TheVariants as entry
use Rattle.leaf_store.specs.LeafStates.{HasNumber}
use Rattle.leaf_store.specs.declared.fresh.FreshEntry.{FreshEntry}
use Rattle.leaf_store.specs.within.Replicas.{Replicas, rows_held, rows_if_held}

-- the entries themselves
abbrev pub entries_in : List FreshEntry → List Entry
entries_in fresh = map (λ one. one.entry) fresh

-- where a number stands beside an entry, it is that of its row's series behind the history in front of it
abbrev pub AreNumbered : List Entry → List FreshEntry → Type 0
AreNumbered history [] = Unit {0}
AreNumbered history (one ∷ fresh) =
    IfSome one.series (HasNumber history one.entry) × AreNumbered (history ++ one.entry ∷ []) fresh

-- an entry puts a row, whose series has a number among those that are kept of its replica
abbrev pub HasKeptNumber : Replicas → Entry → ℕ → Type 0
HasKeptNumber replicas (entry.Opened pass range slot rows) number = ⊥
HasKeptNumber replicas (entry.Put pass range slot row) number =
    slice_get (series_of (rows_if_held (rows_held replicas range slot))) number ≡ Some row.key
HasKeptNumber replicas (entry.Trim pass range slot before) number = ⊥
HasKeptNumber replicas (entry.Down pass) number = ⊥
HasKeptNumber replicas (entry.Up pass) number = ⊥
