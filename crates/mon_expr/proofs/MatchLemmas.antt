-- The computed match is the relation.
use Rattle.std.proofs.Common.{◌≡◌, ◌↔◌, ℕ, Bool, true, IsTrue, List, [], ◌∷◌, ◌++◌, take, drop, length, refl, sym, ap}
use Rattle.std.proofs.Common.{◌∙◌, subst, inl, inr}
use Rattle.std.specs.Prelude.{nat_eq}
use Rattle.std.specs.List.{starts_with}
use Rattle.std.proofs.lemmas.Bool.{or_cases, or_left, or_right, and_parts, and_from, false≢true}
use Rattle.std.proofs.lemmas.List.{take_at, drop_at, take-append-drop, append_assoc}
use Rattle.mon_value.proofs.SameLemmas.{same_text-Decides, same_text-itself}
use Rattle.mon_value.specs.Same.{IsMatch, last_piece, next_piece, holds_behind, is_match, same_text}

-- what holds behind a front
behind_front : (test : List ℕ → Bool) (front rest : List ℕ) → test rest ≡ true →
    holds_behind test (front ++ rest) ≡ true
behind_front test [] [] e = e
behind_front test [] (byte ∷ rest) e = or_left (test (byte ∷ rest)) (holds_behind test rest) e
behind_front test (byte ∷ front) rest e = or_right (test (byte ∷ front ++ rest)) (holds_behind test (front ++ rest))
    (behind_front test front rest e)

-- ---- from the relation

at_front : (piece rest : List ℕ) → starts_with nat_eq (piece ++ rest) piece ≡ true
at_front piece rest = ap (same_text piece) (take_at piece rest (length piece) refl) ∙ same_text-itself piece

computed_next : (piece between rest : List ℕ) (pieces : List (List ℕ)) → is_match pieces rest ≡ true →
    is_match (piece ∷ pieces) (piece ++ between ++ rest) ≡ true
computed_next piece between rest [] e = absurd (false≢true e)
computed_next piece between rest (next ∷ pieces) e =
    ap (is_match (piece ∷ next ∷ pieces)) (append_assoc piece between rest)
    ∙ and_from (starts_with nat_eq (piece ++ (between ++ rest)) piece) (holds_behind (is_match (next ∷ pieces))
    (drop (length piece) (piece ++ (between ++ rest))))
    (at_front piece (between ++ rest))
    (ap (holds_behind (is_match (next ∷ pieces))) (drop_at piece (between ++ rest) (length piece) refl)
    ∙ behind_front (is_match (next ∷ pieces)) between rest e)

pub match_computed : (pieces : List (List ℕ)) (text : List ℕ) → IsMatch pieces text → is_match pieces text ≡ true
match_computed _ _ (last_piece {piece}) = same_text-itself piece
match_computed _ _ (next_piece {piece} {rest} {pieces} between m) = computed_next piece between rest pieces
    (match_computed pieces rest m)

-- ---- to the relation

pub record Cut (test : List ℕ → Bool) (text : List ℕ) : Type 0 where
  pub between : List ℕ
  pub rest : List ℕ
  pub whole : between ++ rest ≡ text
  pub holds : test rest ≡ true

cut : (test : List ℕ → Bool) (text : List ℕ) → holds_behind test text ≡ true → Cut test text
cut test [] e = record { between = []; rest = []; whole = refl; holds = e }
cut test (byte ∷ bytes) e = elim (or_cases (test (byte ∷ bytes)) (holds_behind test bytes) e) [
  | inl now ↦ record { between = []; rest = byte ∷ bytes; whole = refl; holds = now }
  | inr later ↦ let c = cut test bytes later in record {
    between = byte ∷ c.between;
    rest = c.rest;
    whole = ap
        (λ t. byte ∷ t) c.whole;
    holds = c.holds;
  }
]

pub match_related : (pieces : List (List ℕ)) (text : List ℕ) → is_match pieces text ≡ true → IsMatch pieces text
match_related [] text e = absurd (false≢true e)
match_related (piece ∷ []) text e = subst (IsMatch (piece ∷ [])) ((same_text-Decides piece text).0 e) last_piece
match_related (piece ∷ next ∷ pieces) text e =
    let back = drop (length piece) text in
    let parts = and_parts (starts_with nat_eq text piece) (holds_behind (is_match (next ∷ pieces)) back) e in
    let front : piece ≡ take (length piece) text = (same_text-Decides piece (take (length piece) text)).0 parts.0 in
    let c = cut (is_match (next ∷ pieces)) back parts.1 in
    let whole : piece ++ c.between ++ c.rest ≡ text =
    append_assoc piece c.between c.rest ∙ ap (λ t. piece ++ t) c.whole ∙ ap (λ t. t ++ back) front
    ∙ take-append-drop (length piece) text in
    subst (IsMatch (piece ∷ next ∷ pieces)) whole (next_piece c.between (match_related (next ∷ pieces) c.rest c.holds))

pub matches_exactly : (pieces : List (List ℕ)) (text : List ℕ) (truth : Bool) → truth ≡ is_match pieces text →
    IsTrue truth ↔ IsMatch pieces text
matches_exactly pieces text truth e = (
  λ t. match_related pieces text (sym e ∙ t),
  λ m. e
      ∙ match_computed pieces text m,
)
