-- From what the script's caller had seen before a part and behind it to what the part's lines made.
use Rattle.std.proofs.Common.{◌≡◌, ℕ, suc, ◌+◌, ◌≤◌, nat_eq, Bool, true, false, ◌||◌, List}
use Rattle.std.proofs.Common.{[], ◌∷◌, ◌++◌, length, filter}
use Rattle.std.proofs.Common.{drop, refl, sym, ap, ◌∙◌, subst, arith, cond}
use Rattle.std.specs.List.{AllByRecursion, list_any}
use mathlib.Core.List.{IsPrefix}
use Rattle.std.proofs.lemmas.List.{append-nil, drop_at, take_all, length-append}
use Rattle.std.proofs.lemmas.List.Elements.{filter-append}
use Rattle.run_theory.specs.Parts.{between}
use Rattle.run_theory.proofs.Marks.{all_as}

module _ {X : Type 0} where
  abbrev tail_of : List X → List X
  tail_of [] = []
  tail_of (x ∷ xs) = xs

  -- what stands behind the same front is the same
  pub behind_front : (front a b : List X) → front ++ a ≡ front ++ b → a ≡ b
  behind_front [] a b e = e
  behind_front (x ∷ front) a b e = behind_front front a b (ap tail_of e)

  -- what was seen since is the rest behind what had been seen
  pub between_rest : (before after : List X) (p : IsPrefix before after)
      → between (length before) (length after) after ≡ p.0
  between_rest before after p =
      ap (drop (length before)) (take_all (length after) after (omega arith) ∙ sym p.1)
      ∙ drop_at before p.0 (length before) refl

  pub all_behind_front : (P : X → Type 0) (front rest : List X) → AllByRecursion P (front ++ rest)
      → AllByRecursion P rest
  all_behind_front P [] rest all = all
  all_behind_front P (x ∷ front) rest all = all_behind_front P front rest all.1

  -- where a filter keeps nothing, nothing passes
  none_kept : (p : X → Bool) (x : X) (xs : List X) (b : Bool) → p x ≡ b → cond b (x ∷ filter p xs) (filter p xs) ≡ []
      → (p x ≡ false) × (filter p xs ≡ [])
  none_kept p x xs true e none = absurd (let l : suc (length (filter p xs)) ≡ 0 = ap length none in omega arith)
  none_kept p x xs false e none = (e, none)

  pub none_passes : (p : X → Bool) (xs : List X) → filter p xs ≡ [] → AllByRecursion (λ x. p x ≡ false) xs
  none_passes p [] none = tt
  none_passes p (x ∷ xs) none =
      let two = none_kept p x xs (p x) refl none in (two.0, none_passes p xs two.1)

  pub both_all : (P Q : X → Type 0) (xs : List X) → AllByRecursion P xs → AllByRecursion Q xs
      → AllByRecursion (λ x. P x × Q x) xs
  both_all P Q [] p q = tt
  both_all P Q (x ∷ xs) p q = ((p.0, q.0), both_all P Q xs p.1 q.1)

-- none of some numbers, but one of them or of others: then of the others
one_of_others : (n : ℕ) (old new : List ℕ) → AllByRecursion (λ m. nat_eq n m ≡ false) old
    → list_any (nat_eq n) (old ++ new) ≡ true → list_any (nat_eq n) new ≡ true
one_of_others n [] new none has = has
one_of_others n (m ∷ old) new none has =
    one_of_others n old new none.1 (sym (ap (λ b. b || list_any (nat_eq n) (old ++ new)) none.0) ∙ has)

module _ {E : Type 0} (under : E → ℕ) where
  abbrev of_number : ℕ → E → Bool
  of_number n e = nat_eq (under e) n

  -- a number under which as much stood before as behind has nothing in between
  pub none_between : (before after : List E) (p : IsPrefix before after) (n : ℕ)
      → filter (of_number n) after ≡ filter (of_number n) before → filter (of_number n) p.0 ≡ []
  none_between before after p n same = behind_front (filter (of_number n) before) (filter (of_number n) p.0) []
      (sym (filter-append (of_number n) before p.0) ∙ ap (filter (of_number n)) p.1 ∙ same
      ∙ sym (append-nil (filter (of_number n) before)))

  -- what a caller wrote since stands in between, if it has seen all that it wrote
  pub exact_from : (before after own made : List E) (n : ℕ) → IsPrefix before after
      → filter (of_number n) before ≡ own → filter (of_number n) after ≡ own ++ made
      → filter (of_number n) (between (length before) (length after) after) ≡ made
  exact_from before after own made n p first then =
      ap (filter (of_number n)) (between_rest before after p)
      ∙ behind_front own (filter (of_number n) p.0) made
      (ap (λ w. w ++ filter (of_number n) p.0) (sym first) ∙ sym (filter-append (of_number n) before p.0)
      ∙ ap (filter (of_number n)) p.1 ∙ then)

  none_of : (rest : List E) (old : List ℕ)
      → AllByRecursion (λ n. filter (of_number n) rest ≡ []) old
      → AllByRecursion (λ e. AllByRecursion (λ n. nat_eq (under e) n ≡ false) old) rest
  none_of [] old none = tt
  none_of (e ∷ rest) old none = (
    all_as (λ n. filter (of_number n) (e ∷ rest) ≡ []) (λ n. nat_eq (under e) n ≡ false)
        (λ n is. (none_passes (of_number n) (e ∷ rest) is).0) old none,
    none_of rest old
        (all_as (λ n. filter (of_number n) (e ∷ rest) ≡ []) (λ n. filter (of_number n) rest ≡ [])
        (λ n is. (none_kept (of_number n) e rest (of_number n e) refl is).1) old none),
  )

  -- where each entry that was seen is under an old number or a new one, and nothing more was under the old ones, what
  -- came in between is under the new ones
  pub theirs_from : (before after : List E) (old new : List ℕ) → IsPrefix before after
      → AllByRecursion (λ n. filter (of_number n) after ≡ filter (of_number n) before) old
      → AllByRecursion (λ e. list_any (nat_eq (under e)) (old ++ new) ≡ true) after
      → AllByRecursion (λ e. list_any (nat_eq (under e)) new ≡ true) (between (length before) (length after) after)
  theirs_from before after old new p same covered =
      let rest = p.0 in
      let here = all_behind_front (λ e. list_any (nat_eq (under e)) (old ++ new) ≡ true) before rest
      (subst (AllByRecursion (λ e. list_any (nat_eq (under e)) (old ++ new) ≡ true)) (sym p.1) covered) in
      let none = none_of rest old
      (all_as (λ n. filter (of_number n) after ≡ filter (of_number n) before) (λ n. filter (of_number n) rest ≡ [])
      (λ n is. none_between before after p n is) old same) in
      subst (AllByRecursion (λ e. list_any (nat_eq (under e)) new ≡ true)) (sym (between_rest before after p))
      (all_as
      (λ e. AllByRecursion (λ n. nat_eq (under e) n ≡ false) old × (list_any (nat_eq (under e)) (old ++ new) ≡ true))
      (λ e. list_any (nat_eq (under e)) new ≡ true)
      (λ e two. one_of_others (under e) old new two.0 two.1) rest
      (both_all (λ e. AllByRecursion (λ n. nat_eq (under e) n ≡ false) old)
      (λ e. list_any (nat_eq (under e)) (old ++ new) ≡ true) rest none here))

-- ---- what was seen under a number, as more is seen

module _ {X : Type 0} where
  empty_by : (xs : List X) → length xs ≤ 0 → xs ≡ []
  empty_by [] le = refl
  empty_by (x ∷ xs) le = absurd (omega arith)

  front_whole : (own front rest : List X) → front ++ rest ≡ own → length own ≤ length front → front ≡ own
  front_whole own front rest e long =
      let n : length front + length rest ≡ length own = sym (length-append front rest) ∙ ap length e in
      sym (append-nil front) ∙ ap (λ w. front ++ w) (sym (empty_by rest (omega arith))) ∙ e

  -- who had seen all that it wrote still has, as long as what it wrote goes on no farther than that
  pub still_seen : (p : X → Bool) (before after own : List X) → IsPrefix before after → filter p before ≡ own
      → IsPrefix (filter p after) own → filter p after ≡ own
  still_seen p before after own goes first within =
      let e : filter p before ++ filter p goes.0 ≡ filter p after = sym (filter-append p before goes.0)
      ∙ ap (filter p) goes.1 in
      let l : length (filter p before) + length (filter p goes.0) ≡ length (filter p after)
      = sym (length-append (filter p before) (filter p goes.0)) ∙ ap length e in
      let m : length (filter p before) ≡ length own = ap length first in
      front_whole own (filter p after) within.0 within.1 (omega arith)
