-- What the seats of a raise table know, and what its steps make of that.
use Rattle.std.specs.Prelude.{◌≡◌, ℕ, ◌^◌, List, [], ◌∷◌, ◌++◌}
use Rattle.std.specs.List.{Contains}
use Rattle.std.specs.Int.{bit_at}
use Rattle.mon_hints.specs.declared.places.Place.{Place}
use Rattle.mon_hints.specs.declared.places.Place.TheVariants as at
use Rattle.raise_table.specs.declared.places.ZoneLeaf.{ZoneLeaf}
use Rattle.raise_table.specs.declared.views.Note.{Note}
use Rattle.raise_table.specs.declared.views.Raised.{Raised}
use Rattle.raise_table.specs.declared.views.Hints.{Hints}
use Rattle.raise_table.specs.Places.{bit_of}

-- ---- hints

abbrev pub note : Place → ℕ → ℕ → Note
note place bucket bits = record { place = place; bucket = bucket; bits = bits }

-- the bit is known to be in the word of a place and a bucket
abbrev pub Knows : Hints → Place → ℕ → ℕ → Type 0
Knows hints place bucket bit =
    (known : Note) × Contains hints.known known
    × (known.place ≡ place) × (known.bucket ≡ bucket) × (bit_at known.bits bit ≡ 1)

-- a number has every bit that is known of the word of a place and a bucket
abbrev pub HasKnown : Hints → Place → ℕ → ℕ → Type 0
HasKnown hints place bucket found = (bit : ℕ) → Knows hints place bucket bit → bit_at found bit ≡ 1

-- every bit that a number has is known to be in the word of a place and a bucket
abbrev pub KnowsAll : Hints → Place → ℕ → ℕ → Type 0
KnowsAll hints place bucket found = (bit : ℕ) → bit_at found bit ≡ 1 → Knows hints place bucket bit

-- the second knows what the first knows
abbrev pub KnowsAsMuch : Hints → Hints → Type 0
KnowsAsMuch hints other = (place : Place) (bucket bit : ℕ) → Knows hints place bucket bit → Knows other place bucket bit

-- nothing is known, and nothing was loaded
abbrev pub no_hints : Hints
no_hints = record { known = []; notes = [] }

-- a word was loaded: it is noted, and its bits are known
abbrev pub after_load : Place → ℕ → ℕ → Hints → Hints
after_load place bucket found hints = record {
  known = hints.known ++ note place bucket found ∷ [];
  notes = hints.notes ++ note place bucket found ∷ [];
}

-- bits were set: they are known, and nothing is noted
abbrev pub after_set : Place → ℕ → ℕ → Hints → Hints
after_set place bucket bits hints = record { known = hints.known ++ note place bucket bits ∷ []; notes = hints.notes }

-- what a seat that is split off has: all that is known, and no notes
abbrev pub without_notes : Hints → Hints
without_notes hints = record { known = hints.known; notes = [] }

-- what both know, with the notes of both
abbrev pub met : Hints → Hints → Hints
met hints other = record { known = hints.known ++ other.known; notes = hints.notes ++ other.notes }

-- ---- owners

abbrev pub raised_at : Place → ℕ → Raised
raised_at place bucket = record { place = place; bucket = bucket }

-- An owner's seat: its leaf, what it knows, and the buckets that it raised, each with the place
pub record Owner : Type 0 where
  pub leaf : ZoneLeaf
  pub hints : Hints
  pub raised : List Raised

-- an owner that did nothing so far
abbrev pub new_owner : ZoneLeaf → Owner
new_owner leaf = record { leaf = leaf; hints = no_hints; raised = [] }

-- A leaf raises at the root, and in its own zone what it raised at the root
abbrev pub MayRaise : ZoneLeaf → List Raised → Place → ℕ → Type 0
MayRaise leaf raised at.Root bucket = Unit {0}
MayRaise leaf raised (at.Zone zone) bucket = (zone ≡ leaf.zone) × Contains raised (raised_at at.Root bucket)

-- the owner set its bit in the word of a place and a bucket
abbrev pub after_raise : Place → ℕ → Owner → Owner
after_raise place bucket owner = record {
  leaf = owner.leaf;
  hints = after_set place bucket (2 ^ bit_of owner.leaf place) owner.hints;
  raised = owner.raised ++ raised_at place bucket ∷ [];
}

-- the owner learned what another knew
abbrev pub after_meet : Hints → Owner → Owner
after_meet other owner = record { leaf = owner.leaf; hints = met owner.hints other; raised = owner.raised }
