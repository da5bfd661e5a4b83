-- What a search for a piece finds.
use Rattle.std.proofs.Common.{◌≡◌, ℕ, zero, suc, ◌+◌, ◌<◌, ◌≤◌, min, true, List, [], ◌∷◌, take, drop, length, refl}
use Rattle.std.proofs.Common.{sym, ap, ◌∙◌, arith, Some, None}
use Rattle.std.specs.Prelude.{nat_eq, slice_index}
use Rattle.std.specs.List.{starts_with}
use Rattle.std.proofs.lemmas.Bool.{false_from_ne_true}
use Rattle.std.proofs.lemmas.List.{same_lists, get_or-take, length-take, length-take-le, get_or_default}
use Rattle.mon_value.proofs.SameLemmas.{same_text-Decides}
use Rattle.memchr.specs.Find.{FindsNeedle, Nowhere, OccursAt}
use Rattle.mon_expr.specs.Greedy.{rest_behind}

-- ---- a piece at the front

front_occurs : (text piece : List ℕ) → starts_with nat_eq text piece ≡ true → OccursAt text piece 0
front_occurs text piece e =
    let same : piece ≡ take (length piece) text = (same_text-Decides piece (take (length piece) text)).0 e in
    let long : length piece ≡ min (length piece) (length text) = ap length same ∙ length-take (length piece) text in
    record {
      fits = omega (arith, long);
      reads = λ j below. let e : 0 + j ≡ j = omega arith in rw e (sym (get_or-take (length piece) text j 0 below)
          ∙ ap (λ xs. slice_index xs j) (sym same));
    }

occurs_front : (text piece : List ℕ) → OccursAt text piece 0 → starts_with nat_eq text piece ≡ true
occurs_front text piece o =
    let fits : length piece ≤ length text = omega (arith, o.fits) in
    (same_text-Decides piece (take (length piece) text)).1
    (same_lists piece (take (length piece) text) (sym (length-take-le (length piece) text fits))
    (λ k d below. let e : 0 + k ≡ k = omega arith in let within : k < length text = omega arith in
    get_or_default piece k d 0 below ∙ sym (o.reads k below) ∙ ap (slice_index text) e
    ∙ get_or_default text k 0 d within ∙ sym (get_or-take (length piece) text k d below)))

-- ---- a piece further on

later_occurs : (byte : ℕ) (text piece : List ℕ) (k : ℕ) → OccursAt text piece k → OccursAt (byte ∷ text) piece (suc k)
later_occurs byte text piece k o = record {
  fits = omega (arith, o.fits);
  reads = λ j below. let e : suc k + j ≡ suc (k + j) = omega arith in ap (slice_index (byte ∷ text)) e
      ∙ o.reads j below;
}

occurs_later : (byte : ℕ) (text piece : List ℕ) (k : ℕ) → OccursAt (byte ∷ text) piece (suc k) → OccursAt text piece k
occurs_later byte text piece k o = record {
  fits = omega (arith, o.fits);
  reads = λ j below. let e : suc k + j ≡ suc (k + j) = omega arith in ap (slice_index (byte ∷ text)) (sym e)
      ∙ o.reads j below;
}

-- ---- the search

pub drop-nil : (n : ℕ) → drop {A = ℕ} n [] ≡ []
drop-nil zero = refl
drop-nil (suc n) = refl

behind_none : (piece text : List ℕ) → Nowhere (OccursAt text piece) 0 (length text + 1) → rest_behind piece text ≡ None
behind_none piece [] none = rw (false_from_ne_true (starts_with nat_eq [] piece) (λ e. none 0 (omega arith)
    (omega arith) (front_occurs [] piece e))) refl
behind_none piece (byte ∷ bytes) none =
    rw (false_from_ne_true (starts_with nat_eq (byte ∷ bytes) piece) (λ e. none 0 (omega arith) (omega arith)
    (front_occurs (byte ∷ bytes) piece e)))
    (behind_none piece bytes (λ k low high o. none (suc k) (omega arith) (omega arith)
    (later_occurs byte bytes piece k o)))

behind_some : (piece text : List ℕ) (k : ℕ) → Nowhere (OccursAt text piece) 0 k → OccursAt text piece k →
    rest_behind piece text ≡ Some (drop (k + length piece) text)
behind_some piece [] zero before o = rw (occurs_front [] piece o) (ap Some (sym (drop-nil (0 + length piece))))
behind_some piece [] (suc k) before o = absurd (omega (arith, o.fits))
behind_some piece (byte ∷ bytes) zero before o =
    let e : length piece ≡ 0 + length piece = omega arith in
    rw (occurs_front (byte ∷ bytes) piece o) (ap (λ n. Some (drop n (byte ∷ bytes))) e)
behind_some piece (byte ∷ bytes) (suc k) before o =
    let e : suc (k + length piece) ≡ suc k + length piece = omega arith in
    rw (false_from_ne_true (starts_with nat_eq (byte ∷ bytes) piece) (λ e. before 0 (omega arith) (omega arith)
    (front_occurs (byte ∷ bytes) piece e)))
    (behind_some piece bytes k (λ j low high found. before (suc j) (omega arith) (omega arith)
    (later_occurs byte bytes piece j found)) (occurs_later byte bytes piece k o)
    ∙ ap (λ n. Some (drop n (byte ∷ bytes))) e)

pub behind_found : (piece text : List ℕ) (place : ℕ) → FindsNeedle text piece 0 (Some place) →
    rest_behind piece text ≡ Some (drop (place + length piece) text)
behind_found piece text place found = behind_some piece text place found.0.before found.1

pub behind_missing : (piece text : List ℕ) → FindsNeedle text piece 0 None → rest_behind piece text ≡ None
behind_missing piece text missing = behind_none piece text missing
