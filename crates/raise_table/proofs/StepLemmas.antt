-- Each kind of step of a table keeps the raise rule.
use Rattle.std.proofs.Common.{◌≡◌, ℕ, ◌+◌, ◌^◌, ◌<◌, inl, inr, List, [], ◌∷◌, ◌++◌, drop, take, length, get_or, set}
use Rattle.std.proofs.Common.{refl, sym, ap, ◌∙◌, subst, arith, cond}
use Rattle.std.specs.Prelude.{bit_or}
use Rattle.std.specs.Int.{bit_at}
use mathlib.Core.Option.{none}
use Rattle.std.proofs.lemmas.List.{set-get_or}
use Rattle.std.proofs.lemmas.List.Elements.{Contains-append_cases}
use Rattle.std.proofs.lemmas.List.Sums.{sum_by-take-drop}
use Rattle.atomic_table.specs.Table.{Allows, Joins, Splits, State, keeps, step}
use Rattle.atomic_table.proofs.Lists.{set_again, set_else}
use Rattle.mon_hints.specs.declared.places.Place.{Place}
use Rattle.raise_table.specs.declared.places.ZoneLeaf.{ZoneLeaf}
use Rattle.raise_table.specs.declared.views.Hints.{Hints}
use Rattle.raise_table.specs.declared.views.SeatView.{SeatView}
use Rattle.raise_table.specs.Places.{bit_of, bucket_of_word, place_of_word, word_at, word_count, word_number}
use Rattle.raise_table.specs.Seats.{HasKnown, MayRaise, Owner, after_load, after_raise, met, no_hints, note}
use Rattle.raise_table.specs.Seats.{without_notes}
use Rattle.raise_table.specs.RaiseRule.{KeepsRaiseRule, KnowsTrueBits, same_zone_leaf, times_leaf}
use Rattle.raise_table.specs.Steps.{Loads, RaisesBucket, Seated, after_deal, dealt, view_after_load, meeting, raising}
use Rattle.raise_table.specs.Steps.{spent_view}
use Rattle.raise_table.specs.Steps.{split_off}
use Rattle.raise_table.proofs.WordLemmas.{bucket_found, place_found, word_numbered}
use Rattle.raise_table.proofs.SeatLemmas.{owners_came, owners_changed, seat_before, seat_came_cases, seat_cases}
use Rattle.raise_table.proofs.SeatLemmas.{seat_stays}
use Rattle.raise_table.proofs.RaiseLemmas.{keeps_hints, keeps_new, keeps_raise, no_hints_are_true, none_contained}
use Rattle.raise_table.proofs.RaiseLemmas.{true_with, with_hints}

abbrev pub holds : List ℕ → State (Unit {0}) SeatView → Type 0
holds zones state = KeepsRaiseRule zones state.words state.views

-- what contracts see of an owner's seat
abbrev pub owner_of : ZoneLeaf → SeatView → Owner
owner_of leaf seat = record { leaf = leaf; hints = seat.hints; raised = seat.raised }

pub keeps_load : (zones : List ℕ) (slots id : ℕ) (me : Seated) (word : ℕ) → Allows (holds zones) slots id me word
    (λ n. n) (Loads (step slots word 0 0 none) me)
keeps_load zones slots id me word s rule _ is _ =
    let found : ℕ = get_or s.words word 0 in
    let place = place_of_word word in
    let bucket = bucket_of_word word in
    let here : word_at s.words place bucket ≡ found = ap (λ i. get_or s.words i 0) (word_numbered word) in
    let known : HasKnown me.0.hints place bucket found = λ bit knows. subst (λ n. bit_at n bit ≡ 1) here
    (rule.known me.0 (id, is) place bucket bit knows) in
    let w = view_after_load place bucket found me.0 in
    let true : KnowsTrueBits s.words w = true_with s.words me.0 (note place bucket found) w.hints.notes me.0.raised
    (rule.known me.0 (id, is)) (λ bit has. subst (λ n. bit_at n bit ≡ 1) (sym here) has) in (
      w,
      keeps,
      tt,
      subst (λ (ws : List ℕ). KeepsRaiseRule zones ws (set s.views id w)) (sym (set-get_or s.words word 0))
          (keeps_hints zones s.words s.views id me.0 w.hints rule is true),
      (known, refl),
    )

-- what a load tells, at the place and the bucket of its word
pub loaded_view : (me me' : Seated) (place : Place) (bucket word found : ℕ) → bucket < 4096 → word ≡ word_number place
    bucket
    → me' ≡ (view_after_load (place_of_word word) (bucket_of_word word) found me.0, me.1) → me'.0.hints
    ≡ after_load place bucket found
    me.0.hints
loaded_view me me' place bucket word found low number is = ap (λ (m : Seated). m.0.hints) is
    ∙ (λ i. after_load ((ap place_of_word number ∙ place_found place bucket low) i)
    ((ap bucket_of_word number ∙ bucket_found place bucket low) i) found me.0.hints)

pub loaded_known : (hints : Hints) (place : Place) (bucket word found : ℕ) → bucket < 4096 → word ≡ word_number place
    bucket
    → HasKnown hints (place_of_word word) (bucket_of_word word) found → HasKnown hints place bucket found
loaded_known hints place bucket word found low number known = subst (λ (z : Place × ℕ). HasKnown hints z.0 z.1 found)
    (λ i. (
      (ap place_of_word number ∙ place_found place bucket low) i,
      (ap bucket_of_word number ∙ bucket_found place bucket low)
          i,
    )) known

-- what a raise tells, at the place and the bucket of its word
raise_tells : (place : Place) (bucket word bits power : ℕ) (v : SeatView) → bucket < 4096 → word ≡ word_number place
    bucket → bits ≡ power
    → raising place bucket power v ≡ raising (place_of_word word) (bucket_of_word word) bits v
raise_tells place bucket word bits power v low number is =
    λ i. raising ((sym (place_found place bucket low) ∙ ap place_of_word (sym number)) i)
    ((sym (bucket_found place bucket low) ∙ ap bucket_of_word (sym number)) i) (sym is i) v

-- what the owner's seat is after it
pub raised_view : (leaf : ZoneLeaf) (me me' : Seated) (place : Place) (bucket word bits : ℕ) → bucket < 4096 → word
    ≡ word_number place bucket → bits ≡ 2 ^ bit_of leaf place
    → me' ≡ (raising (place_of_word word) (bucket_of_word word) bits me.0, me.1)
    → owner_of leaf me'.0 ≡ after_raise place bucket
    (owner_of leaf me.0)
raised_view leaf me me' place bucket word bits low number power is =
    ap (λ (m : Seated). owner_of leaf m.0) is
    ∙ sym (ap (owner_of leaf) (raise_tells place bucket word bits (2 ^ bit_of leaf place) me.0 low number power))

pub keeps_fetch_or : (zones : List ℕ) (slots id : ℕ) (me : Seated) (leaf : ZoneLeaf) (place : Place)
    (bucket word bits : ℕ)
    → me.0.leaves ≡ leaf ∷ [] → MayRaise leaf me.0.raised place bucket → bucket < 4096 → word ≡ word_number place
    bucket → word < word_count zones → bits ≡ 2 ^ bit_of leaf place
    → Allows (holds zones) slots id me word (λ n. bit_or n bits) (RaisesBucket (step slots word bits 0 none) me)
keeps_fetch_or zones slots id me leaf place bucket word bits own may low number within power s rule _ is _ =
    let w = raising place bucket (2 ^ bit_of leaf place) me.0 in
    let within' : word_number place bucket < length s.words = let e : length s.words ≡ word_count zones = rule.sized in
    let n : word ≡ word_number place bucket = number in omega arith in
    let tells = raise_tells place bucket word bits (2 ^ bit_of leaf place) me.0 low number power in (
      w,
      keeps,
      tt,
      subst (λ (z : ℕ × ℕ). KeepsRaiseRule zones (set s.words z.0 (bit_or (get_or s.words z.0 0) z.1))
          (set s.views id w)) (λ i. (sym number i, sym power i))
          (keeps_raise zones s.words s.views id me.0 leaf place bucket rule is own may low within'),
      ap (λ (v : SeatView). (v, me.1)) tells,
    )

pub keeps_split : (zones : List ℕ) (id : ℕ) (v : SeatView) → Splits {S = Unit {0}} (holds zones) id v v (split_off v)
keeps_split zones id v s rule is = subst (λ (seats : List SeatView). KeepsRaiseRule zones s.words
    (seats ++ split_off v ∷ [])) (sym (set_again s.views id v is))
    (keeps_new zones s.words s.views (without_notes v.hints) rule (rule.known v (id, is)))

-- a leaf is dealt out
pub keeps_deal : (zones : List ℕ) (id : ℕ) (v : SeatView) → v.hints ≡ no_hints → v.raised ≡ [] → Splits {S = Unit {0}}
    (holds zones) id v (after_deal v) (dealt v)
keeps_deal zones id v idle calm s rule is = let left = after_deal v in let right = dealt v in
    let seats = set s.views id left in
    let bare_left : KnowsTrueBits s.words left = no_hints_are_true s.words left (ap (λ h. h.known) idle) in
    record {
      sized = rule.sized;
      known = λ seat has. elim (seat_came_cases seats right seat has) [
        | inl here ↦ elim (seat_cases s.views id left seat here) [
          | inl e ↦ subst (KnowsTrueBits s.words) e bare_left
          | inr old ↦ rule.known seat old
        ]
        | inr e ↦ subst (KnowsTrueBits s.words) e (no_hints_are_true s.words right refl)
      ];
      set = λ seat place bucket bit has raised. elim (seat_came_cases seats right seat has) [
        | inl here ↦ elim (seat_cases s.views id left seat here) [
          | inl e ↦ absurd (none_contained seat.raised raised.3 (sym (ap (λ (u : SeatView). u.raised) e) ∙ calm)
              raised.4)
          | inr old ↦ rule.set seat place bucket bit old raised
        ]
        | inr e ↦ absurd (none_contained seat.raised raised.3 (sym (ap (λ (u : SeatView). u.raised) e)) raised.4)
      ];
      raised = λ place bucket bit low found. let by = rule.raised place bucket bit low found in
          elim (seat_stays s.views id v left by.0 is by.1) [
            | inl e ↦ absurd (none_contained by.0.raised by.2.3 (sym (ap (λ (u : SeatView). u.raised) e) ∙ calm) by.2.4)
            | inr stays ↦ (by.0, seat_before seats right by.0 stays, by.2)
          ];
      ordered = λ seat has leaf raised own did. elim (seat_came_cases seats right seat has) [
        | inl here ↦ elim (seat_cases s.views id left seat here) [
          | inl e ↦ absurd (none_contained seat.raised raised (sym (ap (λ (u : SeatView). u.raised) e) ∙ calm) did)
          | inr old ↦ rule.ordered seat old leaf raised own did
        ]
        | inr e ↦ absurd (none_contained seat.raised raised (sym (ap (λ (u : SeatView). u.raised) e)) did)
      ];
      owned = λ leaf. owners_came leaf seats right ∙ (
          let c = owners_changed leaf s.views id v left is in
          let o = rule.owned leaf in
          let t : times_leaf leaf (take 1 v.leaves) + times_leaf leaf (drop 1 v.leaves)
          ≡ times_leaf leaf v.leaves = sum_by-take-drop
          (λ other. cond (same_zone_leaf leaf other) 1 0) v.leaves 1 in
          omega arith
          );
    }

pub keeps_meet : (zones : List ℕ) (id other : ℕ) (v u : SeatView) → u.leaves ≡ [] → u.raised ≡ []
    → Joins {S = Unit {0}} (holds zones) id v other u (meeting v u) spent_view
keeps_meet zones id other v u landless idle s rule is apart is' =
    let theirs : KnowsTrueBits s.words u =
    rule.known u (other, sym (set_else s.views id other (meeting v u) apart) ∙ is') in
    let both : KnowsTrueBits s.words (meeting v u) = λ place bucket bit knows.
    elim (Contains-append_cases v.hints.known u.hints.known knows.0 knows.1) [
      | inl mine ↦ rule.known v (id, is) place bucket bit (knows.0, mine, knows.2, knows.3, knows.4)
      | inr known ↦ theirs place bucket bit (knows.0, known, knows.2, knows.3, knows.4)
    ] in
    let first = keeps_hints zones s.words s.views id v (met v.hints u.hints) rule is both in
    let gone : with_hints no_hints u
    ≡ spent_view = λ i. record { hints = no_hints; leaves = landless i; raised = idle i } in
    subst (λ (w : SeatView). KeepsRaiseRule zones s.words (set (set s.views id (meeting v u)) other w)) gone
    (keeps_hints zones s.words (set s.views id (meeting v u)) other u no_hints first is'
    (no_hints_are_true s.words (with_hints no_hints u) refl))
