-- What a seat knows after a step.
use Rattle.std.proofs.Common.{◌≡◌, ℕ, ◌^◌, [], ◌∷◌, refl, sym, subst}
use Rattle.std.proofs.lemmas.List.Elements.{Contains-append_left, Contains-append_right, Contains-push}
use Rattle.std.proofs.lemmas.Nat.Bits.{bit_at-pow_same}
use Rattle.mon_hints.specs.declared.places.Place.{Place}
use Rattle.raise_table.specs.declared.views.Hints.{Hints}
use Rattle.raise_table.specs.Places.{bit_of}
use Rattle.raise_table.specs.Seats.{Knows, KnowsAll, KnowsAsMuch, Owner, after_load, after_meet, after_raise, met}
use Rattle.raise_table.specs.Seats.{note, without_notes}

knows_after_load : (place : Place) (bucket found : ℕ) (hints : Hints) → KnowsAll (after_load place bucket found hints)
    place bucket found
knows_after_load place bucket found hints bit is =
    (note place bucket found, Contains-push hints.known (note place bucket found), refl, refl, is)

as_much_after_load : (place : Place) (bucket found : ℕ) (hints : Hints) → KnowsAsMuch hints
    (after_load place bucket found hints)
as_much_after_load place bucket found hints p b bit k =
    (k.0, Contains-append_left hints.known (note place bucket found ∷ []) k.0 k.1, k.2, k.3, k.4)

knows_after_raise : (place : Place) (bucket : ℕ) (owner : Owner) → Knows (after_raise place bucket owner).hints place
    bucket (bit_of owner.leaf place)
knows_after_raise place bucket owner = let bit = bit_of owner.leaf place in (
  note place bucket (2 ^ bit),
  Contains-push owner.hints.known (note place bucket (2 ^ bit)),
  refl,
  refl,
  bit_at-pow_same bit,
)

as_much_after_raise : (place : Place) (bucket : ℕ) (owner : Owner) → KnowsAsMuch owner.hints
    (after_raise place bucket owner).hints
as_much_after_raise place bucket owner p b bit k = (
  k.0,
  Contains-append_left owner.hints.known (note place bucket (2 ^ bit_of owner.leaf place) ∷ []) k.0 k.1,
  k.2,
  k.3,
  k.4,
)

as_much_before_meet : (hints other : Hints) → KnowsAsMuch hints (met hints other)
as_much_before_meet hints other p b bit k = (k.0, Contains-append_left hints.known other.known k.0 k.1, k.2, k.3, k.4)

as_much_of_other : (hints other : Hints) → KnowsAsMuch other (met hints other)
as_much_of_other hints other p b bit k = (k.0, Contains-append_right hints.known other.known k.0 k.1, k.2, k.3, k.4)

-- ---- the same of what contracts say

pub load_learns : (place : Place) (bucket found : ℕ) (before after : Hints) → after ≡ after_load place bucket found
    before → KnowsAll after place bucket found
load_learns place bucket found before after e = subst (λ h. KnowsAll h place bucket found) (sym e)
    (knows_after_load place bucket found before)

pub load_keeps : (place : Place) (bucket found : ℕ) (before after : Hints) → after ≡ after_load place bucket found
    before → KnowsAsMuch before after
load_keeps place bucket found before after e = subst (KnowsAsMuch before) (sym e) (as_much_after_load place bucket
    found before)

pub raise_learns : (place : Place) (bucket : ℕ) (before after : Owner) → after ≡ after_raise place bucket before
    → Knows after.hints place bucket (bit_of before.leaf place)
raise_learns place bucket before after e = subst (λ (o : Owner). Knows o.hints place bucket (bit_of before.leaf place))
    (sym e) (knows_after_raise place bucket before)

pub raise_keeps : (place : Place) (bucket : ℕ) (before after : Owner) → after ≡ after_raise place bucket before
    → KnowsAsMuch before.hints after.hints
raise_keeps place bucket before after e = subst (λ (o : Owner). KnowsAsMuch before.hints o.hints) (sym e)
    (as_much_after_raise place bucket before)

pub split_knows : (before after : Hints) → after ≡ without_notes before → KnowsAsMuch before after
split_knows before after e = subst (KnowsAsMuch before) (sym e) (λ place bucket bit k. k)

pub meet_knows_both : (before other after : Hints) → after ≡ met before other → KnowsAsMuch before after
    × KnowsAsMuch other after
meet_knows_both before other after e = (
  subst (KnowsAsMuch before) (sym e) (as_much_before_meet before other),
  subst (KnowsAsMuch other) (sym e)
      (as_much_of_other before other),
)

pub owner_knows_both : (other : Hints) (before after : Owner) → after ≡ after_meet other before
    → KnowsAsMuch before.hints after.hints × KnowsAsMuch other after.hints
owner_knows_both other before after e = subst (λ (o : Owner). KnowsAsMuch before.hints o.hints × KnowsAsMuch other
    o.hints) (sym e)
    (as_much_before_meet before.hints other, as_much_of_other before.hints other)
