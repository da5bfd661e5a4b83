-- A leaf's owner raises one bucket of a set after the other, from the least one up.
use Rattle.std.proofs.Common.{◌≡◌, ℕ, suc, ◌+◌, ◌^◌, Bool, true, false, ◌||◌, ◌&&◌, List, [], ◌∷◌, ◌++◌}
use Rattle.std.proofs.Common.{refl, sym, ap, subst, ◌∙◌, arith, inl, inr, append-nil, nat_lt}
use Rattle.std.specs.Prelude.{nat_eq}
use Rattle.std.specs.List.{Contains, list_any}
use Rattle.std.specs.Int.{bit_at}
use Rattle.std.proofs.lemmas.Bool.{and_parts, or_cases, or_left, or_right, eqb-true}
use Rattle.std.proofs.lemmas.Bool.Decides.{nat_tests}
use Rattle.std.proofs.lemmas.List.{append_assoc}
use Rattle.std.proofs.lemmas.List.Folds.{list_any-append}
use Rattle.std.proofs.lemmas.Nat.Bits.{bit_at-pow_same}
use Rattle.know.specs.Sound.{is_known, note_has_bit}
use Rattle.leaf_cell.specs.Raising.{HasRaisedAt, MayRaiseAll, set_below}
use Rattle.leaf_cell.specs.Rest.{is_raised}
use Rattle.mon_hints.specs.BucketSets.{HasNone, IsNext}
use Rattle.mon_hints.specs.Places.{place_number, same_place}
use Rattle.mon_value.specs.Histories.{zone_numbered}
use Rattle.mon_value.specs.declared.positions.Zone.{Zone}
use Rattle.raise_table.specs.Places.{bit_of}
use Rattle.raise_table.specs.Seats.{MayRaise, Owner, after_raise, note, raised_at}
use Rattle.mon_hints.specs.declared.places.Place.{Place}
use Rattle.mon_hints.specs.declared.places.Place.TheVariants as at
use Rattle.raise_table.specs.declared.views.Raised.{Raised}
use Rattle.leaf_store.proofs.BucketLemmas.{below_none}
use Rattle.mon_value.proofs.PlainLemmas.{equal_itself}

-- ---- tests

pub one_number : (a b : Place) → place_number a ≡ place_number b → a ≡ b
one_number at.Root at.Root e = refl
one_number at.Root (at.Zone b) e = absurd (omega (arith, e))
one_number (at.Zone a) at.Root e = absurd (omega (arith, e))
one_number (at.Zone a) (at.Zone b) e =
    let same : a.0 ≡ b.0 = omega (arith, e) in
    ap (λ (z : Zone). at.Zone z) (ap zone_numbered same)

pub one_place : (a b : Place) → same_place a b ≡ true → a ≡ b
one_place a b e = one_number a b (eqb-true (place_number a) (place_number b) e)

pub same_self : (a : Place) → same_place a a ≡ true
same_self a = equal_itself (place_number a)

and_one : (a b c : Bool) → a ≡ true → b ≡ true → c ≡ true → (a && (b && c)) ≡ true
and_one true true true x y z = refl
and_one false b c x y z = absurd cc
and_one true false c x y z = absurd cc
and_one true true false x y z = absurd cc

-- ---- what was raised is in the list

one_raised : (place : Place) (bucket : ℕ) (raised : Raised)
    → (same_place raised.place place && nat_eq raised.bucket bucket) ≡ true → raised ≡ raised_at place bucket
one_raised place bucket raised e =
    let parts = and_parts (same_place raised.place place) (nat_eq raised.bucket bucket) e in
    let p : raised.place ≡ place = one_place raised.place place parts.0 in
    let b : raised.bucket ≡ bucket = eqb-true raised.bucket bucket parts.1 in
    λ i. record { place = p i; bucket = b i }

pub contained : (place : Place) (bucket : ℕ) (raised : List Raised) → is_raised place bucket raised ≡ true
    → Contains raised (raised_at place bucket)
contained place bucket [] e = absurd cc
contained place bucket (one ∷ more) e =
    elim (or_cases (same_place one.place place && nat_eq one.bucket bucket) (is_raised place bucket more) e) [
      | inl here ↦ (0, omega arith, one_raised place bucket one here)
      | inr later ↦
          let found = contained place bucket more later in (suc found.0, omega (arith, found.1), found.2)
    ]

-- ---- one bucket more

grows : (here below one after : Bool) → (one ≡ true → here ≡ true) → (one ≡ true → after ≡ true)
    → (one ≡ false → below ≡ false → after ≡ true → here ≡ false) → (below ≡ true → after ≡ true)
    → (here && after) ≡ ((here && below) || one)
grows true true true true p q r s = refl
grows true true true false p q r s = let a : false ≡ true = q refl in absurd cc
grows true true false true p q r s = refl
grows true true false false p q r s = let a : false ≡ true = s refl in absurd cc
grows true false true true p q r s = refl
grows true false true false p q r s = let a : false ≡ true = q refl in absurd cc
grows true false false true p q r s = let a : true ≡ false = r refl refl refl in absurd cc
grows true false false false p q r s = refl
grows false below true after p q r s = let a : false ≡ true = p refl in absurd cc
grows false below false after p q r s = refl

added : (old at_place before one after : Bool) → after ≡ (before || one)
    → ((old || (at_place && before)) || ((at_place && one) || false)) ≡ (old || (at_place && after))
added true at_place before one after e = refl
added false true true one after e = sym e
added false true false true after e = sym e
added false true false false after e = sym e
added false false before one after e = refl

none_there : (old at_place here below : Bool) → below ≡ false → old ≡ (old || (at_place && (here && below)))
none_there true at_place here below e = refl
none_there false true true below e = sym e
none_there false true false below e = refl
none_there false false here below e = refl

all_there : (here below : Bool) → (below ≡ false → here ≡ false) → (here && below) ≡ here
all_there true true e = refl
all_there true false e = let a : true ≡ false = e refl in absurd cc
all_there false below e = refl

module _ (place : Place) (set : ℕ → Bool) (old : Owner) where
  pub raises_none : HasRaisedAt place (set_below set 0) old old
  raises_none = record {
    leaf = refl;
    notes = refl;
    more = [];
    known = sym (append-nil old.hints.known);
    raised = λ other bucket. none_there (is_raised other bucket old.raised) (same_place place other) (set bucket)
        (nat_lt bucket 0) (below_none bucket);
    leads = λ bucket e. let below : nat_lt bucket 0 ≡ true = (and_parts (set bucket) (nat_lt bucket 0) e).1 in
        let none = below_none bucket in absurd cc;
  }

  module _ (now : Owner) (from : ℕ) (so_far : HasRaisedAt place (set_below set from) old now) where
    module _ (next : ℕ) (is : IsNext set from next) (new : Owner) (e : new ≡ after_raise place next now) where
      one_more : (bucket : ℕ) → set_below set (next + 1) bucket ≡ (set_below set from bucket || nat_eq next bucket)
      one_more bucket = grows (set bucket) (nat_lt bucket from) (nat_eq next bucket) (nat_lt bucket (next + 1))
          (λ one. ap set (sym (eqb-true next bucket one)) ∙ is.among)
          (λ one. let same = eqb-true next bucket one in grind (arith, nat_tests))
          (λ apart low high. is.least bucket (grind (arith, nat_tests)) (grind (arith, nat_tests)))
          (λ low. let reached = is.reached in grind (arith, nat_tests))

      abbrev pub last : Owner
      last = after_raise place next now

      raised_then : (other : Place) (bucket : ℕ) → is_raised other bucket last.raised
          ≡ (is_raised other bucket old.raised || (same_place place other && set_below set (next + 1) bucket))
      raised_then other bucket =
          list_any-append (λ (one : Raised). same_place one.place other && nat_eq one.bucket bucket) now.raised
          (raised_at place next ∷ [])
          ∙ ap (λ b. b || ((same_place place other && nat_eq next bucket) || false)) (so_far.raised other bucket)
          ∙ added (is_raised other bucket old.raised) (same_place place other) (set_below set from bucket)
          (nat_eq next bucket) (set_below set (next + 1) bucket) (one_more bucket)

      abbrev bit : ℕ
      bit = bit_of now.leaf place

      leads_then : (bucket : ℕ) → set_below set (next + 1) bucket ≡ true → is_known last.hints place bucket bit ≡ true
      leads_then bucket there =
          list_any-append (note_has_bit place bucket bit) now.hints.known (note place next (2 ^ bit) ∷ [])
          ∙ elim (or_cases (set_below set from bucket) (nat_eq next bucket) (sym (one_more bucket) ∙ there)) [
            | inl before ↦ or_left (is_known now.hints place bucket bit)
                (list_any (note_has_bit place bucket bit) (note place next (2 ^ bit) ∷ [])) (so_far.leads bucket before)
            | inr one ↦ or_right (is_known now.hints place bucket bit)
                (list_any (note_has_bit place bucket bit) (note place next (2 ^ bit) ∷ []))
                (or_left (note_has_bit place bucket bit (note place next (2 ^ bit))) false
                (and_one (same_place place place) (nat_eq next bucket) (nat_eq (bit_at (2 ^ bit) bit) 1)
                (same_self place) one (ap (λ n. nat_eq n 1) (bit_at-pow_same bit))))
          ]

      pub raises_next : HasRaisedAt place (set_below set (next + 1)) old new
      raises_next = subst (HasRaisedAt place (set_below set (next + 1)) old) (sym e) (record {
        leaf = so_far.leaf;
        notes = so_far.notes;
        more = so_far.more ++ note place next (2 ^ bit) ∷ [];
        known = ap (λ notes. notes ++ note place next (2 ^ bit) ∷ []) so_far.known
            ∙ append_assoc old.hints.known so_far.more (note place next (2 ^ bit) ∷ []);
        raised = raised_then;
        leads = leads_then;
      })

    pub raises_all : HasNone set from → HasRaisedAt place set old now
    raises_all none = record {
      leaf = so_far.leaf;
      notes = so_far.notes;
      more = so_far.more;
      known = so_far.known;
      raised = λ other bucket. so_far.raised other bucket
          ∙ ap (λ b. is_raised other bucket old.raised || (same_place place other && b)) (all_of bucket);
      leads = λ bucket there. so_far.leads bucket (all_of bucket ∙ there);
    } where
      all_of : (bucket : ℕ) → set_below set from bucket ≡ set bucket
      all_of bucket = all_there (set bucket) (nat_lt bucket from)
          (λ high. none bucket (grind (arith, nat_tests)))

pub may_next : (place : Place) (set so_far : ℕ → Bool) (old now : Owner) (bucket : ℕ)
    → MayRaiseAll old.leaf old.raised place set → HasRaisedAt place so_far old now → set bucket ≡ true
    → MayRaise now.leaf now.raised place bucket
may_next at.Root set so_far old now bucket may h is = tt
may_next (at.Zone zone) set so_far old now bucket may h is = (
  may.0 ∙ sym (ap (λ l. l.zone) h.leaf),
  contained at.Root bucket now.raised (h.raised at.Root bucket
      ∙ or_left (is_raised at.Root bucket old.raised) (same_place (at.Zone zone) at.Root && so_far bucket)
      (may.1 bucket is)),
)
