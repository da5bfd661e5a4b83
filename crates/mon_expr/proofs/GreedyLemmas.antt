-- Taking each piece at its first place finds what there is.
use Rattle.std.proofs.Common.{inl, inr, suc, ◌≡◌, ℕ, ◌-◌, Bool, true, false, ◌&&◌, ◌||◌, List, [], ◌∷◌, ◌++◌, drop}
use Rattle.std.proofs.Common.{length, refl, sym, ap, ◌∙◌, arith, Option, Some, None, if◌then◌else◌}
use Rattle.std.specs.Prelude.{nat_eq}
use Rattle.std.specs.List.{starts_with, ends_with}
use Rattle.std.specs.Option.{option_map_or, option_and_then}
use Rattle.std.proofs.lemmas.Bool.{cases_lt, false_from_ne_true, true≢false}
use Rattle.std.proofs.lemmas.List.{nil_from_length}
use Rattle.mon_value.proofs.SameLemmas.{same_text-Decides}
use Rattle.mon_value.specs.Same.{holds_behind, is_match, same_text}
use Rattle.mon_expr.proofs.BehindLemmas.{behind_later, behind_more}
use Rattle.mon_expr.proofs.FindLemmas.{drop-nil}
use Rattle.mon_expr.specs.Greedy.{rest_behind, rest_behind_all}

-- the piece stands here, or else only further on
taken_here : (here now later : Bool) → (later ≡ true → now ≡ true) →
    (here && now || later) ≡ (if here then now else later)
taken_here true true later h = refl
taken_here true false true h = sym (h refl)
taken_here true false false h = refl
taken_here false now later h = refl

map_here : (test : List ℕ → Bool) (here : Bool) (text : List ℕ) (rest : Option (List ℕ)) (later : Bool) →
    later ≡ option_map_or test rest false →
    (if here then test text else later) ≡ option_map_or test (if here then Some text else rest) false
map_here test true text rest later e = refl
map_here test false text rest later e = e

at_end : (test : List ℕ → Bool) (here : Bool) (rest : List ℕ) → rest ≡ [] →
    (here && test rest) ≡ option_map_or test (if here then Some [] else None) false
at_end test true rest e = ap test e
at_end test false rest e = refl

one_piece : (test : List ℕ → Bool) (piece text : List ℕ) →
    holds_behind (λ t. starts_with nat_eq t piece && holds_behind test (drop (length piece) t)) text
    ≡ option_map_or (holds_behind test) (rest_behind piece text) false
one_piece test piece [] = at_end (holds_behind test) (starts_with nat_eq [] piece) (drop (length piece) [])
    (drop-nil (length piece))
one_piece test piece (byte ∷ bytes) =
    let here = starts_with nat_eq (byte ∷ bytes) piece in
    let later = holds_behind (λ t. starts_with nat_eq t piece && holds_behind test (drop (length piece) t)) bytes in
    taken_here here (holds_behind test (drop (length piece) (byte ∷ bytes))) later
    (λ e. behind_more test (length piece) byte bytes (behind_later test (λ t. starts_with nat_eq t piece)
    (length piece) bytes e))
    ∙ map_here (holds_behind test) here (drop (length piece) (byte ∷ bytes)) (rest_behind piece bytes) later
    (one_piece test piece bytes)

-- ---- the last piece

unequal : (s t : List ℕ) → (length s ≡ length t → ⊥) → same_text s t ≡ false
unequal s t differ = false_from_ne_true (same_text s t) (λ e. differ (ap length ((same_text-Decides s t).0 e)))

or_none : (x y : Bool) → y ≡ false → (x || y) ≡ x
or_none true y e = refl
or_none false y e = e

or_other : (x y : Bool) → x ≡ false → (x || y) ≡ y
or_other true y e = absurd (true≢false e)
or_other false y e = refl

last_ends : (last text : List ℕ) → holds_behind (is_match (last ∷ [])) text ≡ ends_with nat_eq text last
last_ends last [] = ap (same_text last) (sym (drop-nil (0 - length last)))
last_ends last (byte ∷ bytes) = elim (cases_lt (length bytes) (length last)) [
  | inl short ↦
      let none : length bytes - length last ≡ 0 = omega arith in
      let whole : suc (length bytes) - length last ≡ 0 = omega arith in
      or_none (same_text last (byte ∷ bytes)) (holds_behind (is_match (last ∷ [])) bytes)
      (last_ends last bytes ∙ ap (λ n. same_text last (drop n bytes)) none
      ∙ unequal last bytes (λ e. omega (arith, e, short)))
      ∙ ap (λ n. same_text last (drop n (byte ∷ bytes))) (sym whole)
  | inr long ↦
      let further : suc (length bytes - length last) ≡ suc (length bytes) - length last = omega arith in
      or_other (same_text last (byte ∷ bytes)) (holds_behind (is_match (last ∷ [])) bytes) (unequal last
      (byte ∷ bytes) (λ e. omega (arith, e, long)))
      ∙ last_ends last bytes ∙ ap (λ n. same_text last (drop n (byte ∷ bytes))) further
]

-- ---- all pieces

then_rest : (test ends : List ℕ → Bool) (pieces : List (List ℕ)) (rest : Option (List ℕ)) →
    ((text : List ℕ) → test text ≡ option_map_or ends (rest_behind_all pieces text) false) →
    option_map_or test rest false ≡ option_map_or ends (option_and_then (rest_behind_all pieces) rest) false
then_rest test ends pieces None e = refl
then_rest test ends pieces (Some text) e = e text

pub greedy_finds : (pieces : List (List ℕ)) (last text : List ℕ) →
    holds_behind (is_match (pieces ++ last ∷ [])) text
    ≡ option_map_or (λ rest. ends_with nat_eq rest last) (rest_behind_all pieces text) false
greedy_finds [] last text = last_ends last text
greedy_finds (piece ∷ []) last text =
    one_piece (is_match (last ∷ [])) piece text
    ∙ then_rest (holds_behind (is_match (last ∷ []))) (λ rest. ends_with nat_eq rest last) []
    (rest_behind piece text) (greedy_finds [] last)
greedy_finds (piece ∷ next ∷ pieces) last text =
    one_piece (is_match (next ∷ pieces ++ last ∷ [])) piece text
    ∙ then_rest (holds_behind (is_match (next ∷ pieces ++ last ∷ []))) (λ rest. ends_with nat_eq rest last)
    (next ∷ pieces) (rest_behind piece text) (greedy_finds (next ∷ pieces) last)

-- no piece at all matches no text
pub nothing_matches : (pieces : List (List ℕ)) (text : List ℕ) → length pieces ≡ 0 →
    false ≡ holds_behind (is_match pieces) text
nothing_matches pieces text none = rw (nil_from_length pieces none) (behind_nothing text)
  where
    behind_nothing : (text : List ℕ) → false ≡ holds_behind (is_match []) text
    behind_nothing [] = refl
    behind_nothing (byte ∷ bytes) = behind_nothing bytes

-- what is found behind all pieces but the last tells whether the last follows at the end
pub ends_tell : (pieces between : List (List ℕ)) (last text : List ℕ) (rest : Option (List ℕ)) →
    pieces ≡ between ++ last ∷ [] → rest ≡ rest_behind_all between text →
    option_map_or (λ rest. ends_with nat_eq rest last) rest false ≡ holds_behind (is_match pieces) text
ends_tell pieces between last text rest whole found =
    ap (λ r. option_map_or (λ rest. ends_with nat_eq rest last) r false) found
    ∙ sym (greedy_finds between last text) ∙ ap (λ ps. holds_behind (is_match ps) text) (sym whole)
