-- What keeps the raise rule: a change of what a seat knows, a seat that comes, an owner that raises a bucket.
use Rattle.std.proofs.Common.{◌≡◌, ℕ, ◌^◌, ◌<◌, ◌⊎◌, inl, inr, List, [], ◌∷◌, ◌++◌, length, set, refl, sym, ap, ◌∙◌}
use Rattle.std.proofs.Common.{subst, arith}
use Rattle.std.specs.Prelude.{bit_or}
use Rattle.std.specs.Int.{bit_at}
use Rattle.std.specs.List.{Contains}
use mathlib.Core.Option.{some}
use lib.ListN.{get_elem?}
use Rattle.std.proofs.lemmas.List.{length-set}
use Rattle.std.proofs.lemmas.List.Elements.{Contains-append_left, Contains-push, Contains-push_cases}
use Rattle.mon_hints.specs.declared.places.Place.{Place}
use Rattle.mon_hints.specs.declared.places.Place.TheVariants as at
use Rattle.raise_table.specs.declared.places.ZoneLeaf.{ZoneLeaf}
use Rattle.raise_table.specs.declared.views.Hints.{Hints}
use Rattle.raise_table.specs.declared.views.Note.{Note}
use Rattle.raise_table.specs.declared.views.Raised.{Raised}
use Rattle.raise_table.specs.declared.views.SeatView.{SeatView}
use Rattle.raise_table.specs.Places.{bit_of, word_at, word_number}
use Rattle.raise_table.specs.Seats.{MayRaise, raised_at}
use Rattle.raise_table.specs.RaiseRule.{KeepsRaiseRule, KnowsTrueBits, RaisedBit, RaisedInOrder}
use Rattle.raise_table.specs.Steps.{raising}
use Rattle.raise_table.proofs.WordLemmas.{after, bit_cases, bit_is_set, bit_stays, power_bit}
use Rattle.raise_table.proofs.SeatLemmas.{owners_came, owners_changed, seat_before, seat_came_cases, seat_cases}
use Rattle.raise_table.proofs.SeatLemmas.{seat_changed, seat_stays}

pub none_contained : {X : Type 0} (xs : List X) (x : X) → xs ≡ [] → Contains xs x → ⊥
none_contained xs x e has = let none : has.0 < 0 = subst (λ l. has.0 < length l) e has.1 in omega arith

one_contained : {X : Type 0} (xs : List X) (y x : X) → xs ≡ y ∷ [] → Contains xs x → y ≡ x
one_contained xs y x e has = elim (Contains-push_cases [] y x (subst (λ l. Contains l x) e has))
    [ inl none ↦ absurd (none_contained [] x refl none) | inr is ↦ is ]

-- ---- what is known

abbrev pub with_hints : Hints → SeatView → SeatView
with_hints hints seat = record { hints = hints; leaves = seat.leaves; raised = seat.raised }

abbrev pub bare : Hints → SeatView
bare hints = record { hints = hints; leaves = []; raised = [] }

pub no_hints_are_true : (words : List ℕ) (seat : SeatView) → seat.hints.known ≡ [] → KnowsTrueBits words seat
no_hints_are_true words seat none place bucket bit knows = absurd (none_contained seat.hints.known knows.0 none knows.1)

-- one note more
pub true_with : (words : List ℕ) (seat : SeatView) (n : Note) (notes : List Note) (raised : List Raised)
    → KnowsTrueBits words seat
    → ((bit : ℕ) → bit_at n.bits bit ≡ 1 → bit_at (word_at words n.place n.bucket) bit ≡ 1)
    → KnowsTrueBits words (record {
      hints = record { known = seat.hints.known ++ n ∷ []; notes = notes };
      leaves =
          seat.leaves;
      raised = raised;
    })
true_with words seat n notes raised true new place bucket bit knows = elim (Contains-push_cases seat.hints.known n
    knows.0 knows.1) [
      | inl old ↦ true place bucket bit (knows.0, old, knows.2, knows.3, knows.4)
      | inr e ↦ let is : bit_at (word_at words knows.0.place knows.0.bucket) bit ≡ 1
          = subst (λ (m : Note). bit_at m.bits bit ≡ 1 → bit_at (word_at words m.place m.bucket) bit ≡ 1) e (new bit)
          knows.4 in
          subst (λ (z : Place × ℕ). bit_at (word_at words z.0 z.1) bit ≡ 1) (λ i. (knows.2 i, knows.3 i)) is
    ]

-- ---- the rule

-- a seat knows other bits, which are in the words
pub keeps_hints : (zones words : List ℕ) (seats : List SeatView) (id : ℕ) (v : SeatView) (hints : Hints)
    → KeepsRaiseRule zones words seats → get_elem? seats id ≡ some v
    → KnowsTrueBits words (with_hints hints v) → KeepsRaiseRule zones words (set seats id (with_hints hints v))
keeps_hints zones words seats id v hints rule is true = let w = with_hints hints v in record {
  sized = rule.sized;
  known = λ seat has. elim (seat_cases seats id w seat has) [
    | inl e ↦ subst (KnowsTrueBits words) e true
    | inr old ↦
        rule.known seat old
  ];
  set = λ seat place bucket bit has raised. elim (seat_cases seats id w seat has) [
    | inl e ↦ rule.set v place bucket bit (id, is) (subst (λ (s : SeatView). RaisedBit s place bucket bit) (sym e)
        raised)
    | inr old ↦ rule.set seat place bucket bit old raised
  ];
  raised = λ place bucket bit low found. let by = rule.raised place bucket bit low found in
      elim (seat_stays seats id v w by.0 is by.1) [
        | inl e ↦ (w, seat_changed seats id v w is, subst (λ (s : SeatView). RaisedBit s place bucket bit) (sym e) by.2)
        | inr stays ↦ (by.0, stays, by.2)
      ];
  ordered = λ seat has. elim (seat_cases seats id w seat has) [
    | inl e ↦ subst RaisedInOrder e (rule.ordered v (id, is))
    | inr old ↦ rule.ordered seat old
  ];
  owned = λ leaf. let s = owners_changed leaf seats id v w is in let o = rule.owned leaf in omega arith;
}

-- a seat comes that owns no leaf
pub keeps_new : (zones words : List ℕ) (seats : List SeatView) (hints : Hints) → KeepsRaiseRule zones words seats
    → KnowsTrueBits words (bare hints)
    → KeepsRaiseRule zones words (seats ++ bare hints ∷ [])
keeps_new zones words seats hints rule true = let w = bare hints in record {
  sized = rule.sized;
  known = λ seat has. elim (seat_came_cases seats w seat has) [
    | inl old ↦ rule.known seat old
    | inr e ↦ subst
        (KnowsTrueBits words) e true
  ];
  set = λ seat place bucket bit has raised. elim (seat_came_cases seats w seat has) [
    | inl old ↦ rule.set seat place bucket bit old raised
    | inr e ↦ absurd (none_contained seat.leaves raised.0 (sym (ap (λ (s : SeatView). s.leaves) e)) raised.1)
  ];
  raised = λ place bucket bit low found. let by = rule.raised place bucket bit low found in
      (by.0, seat_before seats w by.0 by.1, by.2);
  ordered = λ seat has. elim (seat_came_cases seats w seat has) [
    | inl old ↦ rule.ordered seat old
    | inr e ↦ λ leaf raised own did. absurd (none_contained seat.leaves leaf (sym (ap (λ (s : SeatView). s.leaves) e))
        own)
  ];
  owned = λ leaf. owners_came leaf seats w ∙ (let o = rule.owned leaf in omega arith);
}

-- ---- an owner raises a bucket

may_still : (leaf : ZoneLeaf) (raised : List Raised) (new : Raised) (place : Place) (bucket : ℕ) → MayRaise leaf raised
    place bucket → MayRaise leaf (raised ++ new ∷ []) place bucket
may_still leaf raised new at.Root bucket may = may
may_still leaf raised new (at.Zone zone) bucket may =
    (may.0, Contains-append_left raised (new ∷ []) (raised_at at.Root bucket) may.1)

module _ (zones words : List ℕ) (seats : List SeatView) (id : ℕ) (v : SeatView) (leaf : ZoneLeaf) (place : Place)
    (bucket : ℕ) (rule : KeepsRaiseRule zones words seats)
    (is : get_elem? seats id ≡ some v) (own : v.leaves ≡ leaf ∷ []) (may : MayRaise leaf v.raised place bucket)
    (low : bucket < 4096) (within : word_number place bucket < length words) where
  abbrev bit : ℕ
  bit = bit_of leaf place

  abbrev w : SeatView
  w = raising place bucket (2 ^ bit) v

  abbrev words' : List ℕ
  words' = after words place bucket bit low within

  owns : Contains v.leaves leaf
  owns = subst (λ l. Contains l leaf) (sym own) (Contains-push [] leaf)

  raised_more : (p : Place) (b i : ℕ) → RaisedBit v p b i → RaisedBit w p b i
  raised_more p b i r = (
    r.0,
    r.1,
    r.2,
    r.3,
    Contains-append_left v.raised (raised_at place bucket ∷ []) r.3 r.4,
    r.5,
    r.6,
  )

  raised_cases : (p : Place) (b i : ℕ) → RaisedBit w p b i → RaisedBit v p b i
      ⊎ ((place ≡ p) × (bucket ≡ b) × (bit_of leaf p ≡ i))
  raised_cases p b i r = elim (Contains-push_cases v.raised (raised_at place bucket) r.3 r.4) [
    | inl old ↦ inl (r.0, r.1, r.2, r.3, old, r.5, r.6)
    | inr e ↦ inr (
      ap (λ (x : Raised). x.place) e ∙ r.5,
      ap (λ (x : Raised). x.bucket) e ∙ r.6,
      ap (λ (l : ZoneLeaf). bit_of l p) (one_contained v.leaves leaf r.0 own r.1) ∙ r.2,
    )
  ]

  stays : (p : Place) (b i : ℕ) → bit_at (word_at words p b) i ≡ 1 → bit_at (word_at words' p b) i ≡ 1
  stays = bit_stays words place bucket bit low within

  true_stays : (seat : SeatView) → KnowsTrueBits words seat → KnowsTrueBits words' seat
  true_stays seat true p b i knows = stays p b i (true p b i knows)

  true_own : KnowsTrueBits words' w
  true_own = true_with words' v (record { place = place; bucket = bucket; bits = 2 ^ bit }) v.hints.notes w.raised
      (true_stays v (rule.known v (id, is)))
      (λ i found. subst (λ n. bit_at (word_at words' place bucket) n ≡ 1) (sym (power_bit bit i found))
      (bit_is_set words place bucket bit low within))

  set_own : (p : Place) (b i : ℕ) → RaisedBit w p b i → bit_at (word_at words' p b) i ≡ 1
  set_own p b i r = elim (raised_cases p b i r) [
    | inl old ↦ stays p b i (rule.set v p b i (id, is) old)
    | inr new ↦ subst (λ (z : Place × ℕ). bit_at (word_at words' z.0 z.1) i ≡ 1) (λ k. (new.0 k, new.1 k))
        (subst (λ n. bit_at (word_at words' place bucket) n ≡ 1) (ap (bit_of leaf) new.0 ∙ new.2)
        (bit_is_set words place bucket bit low within))
  ]

  ordered_own : RaisedInOrder w
  ordered_own l r has did = elim (Contains-push_cases v.raised (raised_at place bucket) r did) [
    | inl old ↦ may_still l v.raised (raised_at place bucket) r.place r.bucket (rule.ordered v (id, is) l r has old)
    | inr e ↦ subst (λ (x : Raised). MayRaise l w.raised x.place x.bucket) e
        (may_still l v.raised (raised_at place bucket) place bucket
        (subst (λ (x : ZoneLeaf). MayRaise x v.raised place bucket) (one_contained v.leaves leaf l own has) may))
  ]

  pub keeps_raise : KeepsRaiseRule zones words' (set seats id w)
  keeps_raise = record {
    sized = length-set words (word_number place bucket) (bit_or (word_at words place bucket) (2 ^ bit)) ∙ rule.sized;
    known = λ seat has. elim (seat_cases seats id w seat has) [
      | inl e ↦ subst (KnowsTrueBits words') e true_own
      | inr
          old ↦ true_stays seat (rule.known seat old)
    ];
    set = λ seat p b i has raised. elim (seat_cases seats id w seat has) [
      | inl e ↦ set_own p b i (subst (λ (s : SeatView). RaisedBit s p b i) (sym e) raised)
      | inr old ↦ stays p b i (rule.set seat p b i old raised)
    ];
    raised = λ p b i low' found. elim (bit_cases words place bucket bit low within p b i low' found) [
      | inl was ↦ let by = rule.raised p b i low' was in elim (seat_stays seats id v w by.0 is by.1) [
        | inl e ↦ (
          w,
          seat_changed seats id v w is,
          raised_more p b i (subst (λ (s : SeatView). RaisedBit s p b i)
              (sym e) by.2),
        )
        | inr there ↦ (by.0, there, by.2)
      ]
      | inr new ↦ (
        w,
        seat_changed seats id v w is,
        (
          leaf,
          owns,
          ap (bit_of leaf) new.0 ∙ sym new.2,
          raised_at place bucket,
          Contains-push v.raised (raised_at place bucket),
          sym new.0,
          sym new.1,
        ),
      )
    ];
    ordered = λ seat has. elim (seat_cases seats id w seat has) [
      | inl e ↦ subst RaisedInOrder e ordered_own
      | inr old ↦
          rule.ordered seat old
    ];
    owned = λ l. let s = owners_changed l seats id v w is in let o = rule.owned l in omega arith;
  }
