-- What an owner is once it raised a set of buckets at a place, and what it needs for that.
use Rattle.std.specs.Prelude.{◌≡◌, ℕ, ◌&&◌, ◌||◌, nat_lt, Bool, true, List, ◌++◌}
use Rattle.std.specs.List.{list_any}
use Rattle.know.specs.Sound.{is_known}
use Rattle.leaf_store.specs.LeafStates.{is_unraised}
use Rattle.mon_hints.specs.Places.{same_place}
use Rattle.leaf_cell.specs.Rest.{is_raised}
use Rattle.raise_table.specs.Places.{bit_of}
use Rattle.raise_table.specs.Seats as hints
use Rattle.mon_schema.specs.Names.{SchemaLists}
use Rattle.mon_value.specs.declared.histories.Entry.{Entry}
use Rattle.mon_value.specs.declared.rows.Row.{Row}
use Rattle.mon_hints.specs.declared.places.Place.{Place}
use Rattle.mon_hints.specs.declared.places.Place.TheVariants as at
use Rattle.raise_table.specs.declared.places.ZoneLeaf.{ZoneLeaf}
use Rattle.raise_table.specs.declared.views.Note.{Note}
use Rattle.raise_table.specs.declared.views.Raised.{Raised}

-- Each bucket of the set was raised at the place and is known there, no other was raised, and nothing was forgotten
pub record HasRaisedAt (place : Place) (set : ℕ → Bool) (old new : hints.Owner) : Type 0 where
  pub leaf : new.leaf ≡ old.leaf
  pub notes : new.hints.notes ≡ old.hints.notes
  pub more : List Note
  pub known : new.hints.known ≡ old.hints.known ++ more
  pub raised : (other : Place) (bucket : ℕ) → is_raised other bucket new.raised
      ≡ (is_raised other bucket old.raised || (same_place place other && set bucket))
  pub leads : (bucket : ℕ) → set bucket ≡ true → is_known new.hints place bucket (bit_of new.leaf place) ≡ true

-- the numbers of a set below another
abbrev pub set_below : (ℕ → Bool) → ℕ → ℕ → Bool
set_below set from bucket = set bucket && nat_lt bucket from

-- a leaf may raise all of a set: at the root, and in its own zone what it raised at the root
abbrev pub MayRaiseAll : ZoneLeaf → List Raised → Place → (ℕ → Bool) → Type 0
MayRaiseAll leaf raised at.Root set = Unit {0}
MayRaiseAll leaf raised (at.Zone zone) set =
    (zone ≡ leaf.zone) × ((bucket : ℕ) → set bucket ≡ true → is_raised at.Root bucket raised ≡ true)

-- whether a series of some rows has a bucket that no series of a history has
abbrev pub rows_unraised : ℕ → SchemaLists → List Entry → List Row → ℕ → Bool
rows_unraised buckets held history rows bucket = list_any (λ row. is_unraised buckets held history row.key bucket) rows

-- Each bucket of the set was raised at the root and in the leaf's zone, and no other, and nothing was forgotten
pub record HasRaisedRow (set : ℕ → Bool) (old new : hints.Owner) : Type 0 where
  pub leaf : new.leaf ≡ old.leaf
  pub more : List Note
  pub known : new.hints.known ≡ old.hints.known ++ more
  pub root : (bucket : ℕ) → is_raised at.Root bucket new.raised ≡ (is_raised at.Root bucket old.raised || set bucket)
  pub zone : (bucket : ℕ) → is_raised (at.Zone old.leaf.zone) bucket new.raised
      ≡ (is_raised (at.Zone old.leaf.zone) bucket old.raised || set bucket)
