-- What holds of a leaf where its lock is free.
use Rattle.std.specs.Prelude.{◌≡◌, ℕ, ◌&&◌, Bool, List, None, nat_eq}
use Rattle.std.specs.List.{list_any}
use Rattle.mon_hints.specs.Places.{same_place}
use Rattle.leaf_store.specs.LeafStates.{key_buckets}
use Rattle.leaf_store.specs.LeafStates as store
use Rattle.mon_hints.specs.Hints.{history_buckets}
use Rattle.mon_hints.specs.Formulas.{is_among}
use Rattle.mon_topo.specs.Settings.{Setting}
use Rattle.mon_value.specs.Histories.{leaf_history, leaf_numbered}
use Rattle.owners.specs.Owners as owners
use Rattle.raise_table.specs.Seats as hints
use Rattle.raise_table.specs.Tables.{RaiseIdentity}
use Rattle.mon_hints.specs.declared.places.Place.{Place}
use Rattle.mon_hints.specs.declared.places.Place.TheVariants as at
use Rattle.raise_table.specs.declared.views.Raised.{Raised}

-- whether a bucket was raised at a place
abbrev pub is_raised : Place → ℕ → List Raised → Bool
is_raised place bucket = list_any (λ raised. same_place raised.place place && nat_eq raised.bucket bucket)

-- the leaf goes by the store's schemas and buckets
pub record GoesBy (setting : Setting) (raise : RaiseIdentity) (leaf : store.LeafView) : Type 0 where
  pub schemas : leaf.schemas ≡ setting.held
  pub number : leaf.buckets ≡ raise.buckets
  pub buckets : setting.buckets_of ≡ key_buckets leaf.buckets leaf.schemas

-- the owner raised just these buckets, at the root and in its leaf's zone
pub record HasRaised (owner : hints.Owner) (buckets : List ℕ) : Type 0 where
  pub root : (bucket : ℕ) → is_raised at.Root bucket owner.raised ≡ is_among bucket buckets
  pub zone : (bucket : ℕ) → is_raised (at.Zone owner.leaf.zone) bucket owner.raised ≡ is_among bucket buckets

-- The owner's copy is the state's history, whose buckets are raised and no others; the state has promised as much as
-- the owner; and no guest is there
pub record IsAtRest (setting : Setting) (raise : RaiseIdentity) (leaf : ℕ) (state : store.LeafView)
    (owner : owners.LeafView) : Type 0 where
  pub leaf_is : owner.leaf ≡ leaf_numbered leaf
  pub free : owner.book.guest ≡ None
  pub history : leaf_history owner.book.seen owner.leaf ≡ state.history
  pub promised : state.promised ≡ owner.book.promised
  pub raised : HasRaised owner.hints (history_buckets setting.buckets_of state.history)
  pub goes_by : GoesBy setting raise state
