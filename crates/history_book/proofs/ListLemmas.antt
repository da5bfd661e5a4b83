-- Beginnings of lists, what a filter keeps of them, and the longer of two.
use Rattle.std.proofs.Common.{◌≡◌, ℕ, zero, suc, ◌+◌, ◌<◌, ◌≤◌, Bool, true, false, List, [], ◌∷◌, ◌++◌, length, map}
use Rattle.std.proofs.Common.{filter, get_or, refl, sym, ap, ◌∙◌, subst, arith, nat_lt, cond}
use Rattle.std.specs.List.{Contains}
use mathlib.Core.List.{IsPrefix}
use Rattle.std.proofs.lemmas.Bool.Decides.{nat_tests}
use Rattle.std.proofs.lemmas.List.{append-nil, append_assoc, length-append, length-map, nil_from_length}
use Rattle.std.proofs.lemmas.List.Elements.{Contains-append_left, filter-append}
use Rattle.mon_value.specs.Histories.{longer}
use Rattle.history_book.specs.Histories.{added_at}

module _ {X : Type 0} where
  pub prefix_refl : (xs : List X) → IsPrefix xs xs
  prefix_refl xs = ([], append-nil xs)

  pub prefix_nil : (xs : List X) → IsPrefix [] xs
  prefix_nil xs = (xs, refl)

  pub prefix_trans : (xs ys zs : List X) → IsPrefix xs ys → IsPrefix ys zs → IsPrefix xs zs
  prefix_trans xs ys zs p q = (p.0 ++ q.0, sym (append_assoc xs p.0 q.0) ∙ ap (λ w. w ++ q.0) p.1 ∙ q.1)

  pub prefix_push : (xs ys : List X) (y : X) → IsPrefix xs ys → IsPrefix xs (ys ++ y ∷ [])
  prefix_push xs ys y p = prefix_trans xs ys (ys ++ y ∷ []) p (y ∷ [], refl)

  pub prefix_length : (xs ys : List X) → IsPrefix xs ys → length xs ≤ length ys
  prefix_length xs ys p = let e : length xs + length p.0 ≡ length ys = sym (length-append xs p.0) ∙ ap length p.1 in
      omega arith

  pub prefix_contains : (xs ys : List X) (x : X) → IsPrefix xs ys → Contains xs x → Contains ys x
  prefix_contains xs ys x p has = subst (λ w. Contains w x) p.1 (Contains-append_left xs p.0 x has)

  -- a beginning that is as long as the whole
  pub prefix_whole : (xs ys : List X) → IsPrefix xs ys → length ys ≤ length xs → xs ≡ ys
  prefix_whole xs ys p long =
      let e : length xs + length p.0 ≡ length ys = sym (length-append xs p.0) ∙ ap length p.1 in
      let none : p.0 ≡ [] = nil_from_length p.0 (omega arith) in
      sym (append-nil xs) ∙ ap (λ w. xs ++ w) (sym none) ∙ p.1

  abbrev tail : List X → List X
  tail [] = []
  tail (x ∷ xs) = xs

  prefix_tail : (x y : X) (xs ys : List X) → IsPrefix (x ∷ xs) (y ∷ ys) → (x ≡ y) × IsPrefix xs ys
  prefix_tail x y xs ys p = (ap (λ w. get_or w 0 x) p.1, (p.0, ap tail p.1))

  -- of two beginnings the shorter begins the longer
  pub prefix_both : (xs ys zs : List X) → IsPrefix xs zs → IsPrefix ys zs → length xs ≤ length ys → IsPrefix xs ys
  prefix_both [] ys zs p q short = prefix_nil ys
  prefix_both (x ∷ xs) [] zs p q short = absurd (omega arith)
  prefix_both (x ∷ xs) (y ∷ ys) [] p q short = absurd (let n = prefix_length (x ∷ xs) [] p in omega arith)
  prefix_both (x ∷ xs) (y ∷ ys) (z ∷ zs) p q short =
      let a = prefix_tail x z xs zs p in
      let b = prefix_tail y z ys zs q in
      let r = prefix_both xs ys zs a.1 b.1 (omega arith) in
      (r.0, (λ i. (a.0 ∙ sym b.0) i ∷ r.1 i))

  pub prefix_filter : (p : X → Bool) (xs ys : List X) → IsPrefix xs ys → IsPrefix (filter p xs) (filter p ys)
  prefix_filter p xs ys f = (filter p f.0, sym (filter-append p xs f.0) ∙ ap (filter p) f.1)

  -- what a filter keeps of the whole, it keeps of a beginning and of what lies between
  pub filter_between : (p : X → Bool) (xs ys zs : List X) → IsPrefix xs ys → IsPrefix ys zs → filter p zs ≡ filter p xs
      → filter p zs ≡ filter p ys
  filter_between p xs ys zs a b e =
      let low = prefix_length (filter p xs) (filter p ys) (prefix_filter p xs ys a) in
      let same : length (filter p zs) ≡ length (filter p xs) = ap length e in
      sym (prefix_whole (filter p ys) (filter p zs) (prefix_filter p ys zs b) (omega arith))

  -- ---- the longer of two

  longer_by : (xs ys : List X) (b : Bool) → nat_lt (length xs) (length ys) ≡ b
      → (P : List X → Type 0) → (b ≡ true → P ys) → (b ≡ false → P xs) → P (longer xs ys)
  longer_by xs ys true e P more less = subst (λ c. P (cond c ys xs)) (sym e) (more refl)
  longer_by xs ys false e P more less = subst (λ c. P (cond c ys xs)) (sym e) (less refl)

  -- one of the two, and not the shorter
  pub longer_cases : (xs ys : List X) (P : List X → Type 0) → (length xs < length ys → P ys)
      → (length ys ≤ length xs → P xs) → P
      (longer xs ys)
  longer_cases xs ys P more less =
      longer_by xs ys (nat_lt (length xs) (length ys)) refl P
      (λ e. more (grind (arith, nat_tests))) (λ e. less (grind (arith, nat_tests)))

  pub longer_within : (xs ys zs : List X) → IsPrefix xs zs → IsPrefix ys zs → IsPrefix (longer xs ys) zs
  longer_within xs ys zs p q = longer_cases xs ys (λ w. IsPrefix w zs) (λ _. q) (λ _. p)

  pub longer_first : (xs ys zs : List X) → IsPrefix xs zs → IsPrefix ys zs → IsPrefix xs (longer xs ys)
  longer_first xs ys zs p q = longer_cases xs ys (IsPrefix xs) (λ l. prefix_both xs ys zs p q (omega arith))
      (λ _. prefix_refl xs)

  pub longer_second : (xs ys zs : List X) → IsPrefix xs zs → IsPrefix ys zs → IsPrefix ys (longer xs ys)
  longer_second xs ys zs p q = longer_cases xs ys (IsPrefix ys) (λ _. prefix_refl ys) (λ l. prefix_both ys xs zs q p l)

  -- the whole is no shorter than a beginning
  pub longer_whole : (xs ys : List X) → IsPrefix ys xs → longer xs ys ≡ xs
  longer_whole xs ys p = longer_cases xs ys (λ w. w ≡ xs) (λ l. absurd (let n = prefix_length ys xs p in omega arith))
      (λ _. refl)

  -- ---- an item more at one place

  pub added_here : (n : ℕ) (x : X) (xss : List (List X)) → get_or (added_at n x xss) n [] ≡ get_or xss n [] ++ x ∷ []
  added_here zero x [] = refl
  added_here zero x (xs ∷ xss) = refl
  added_here (suc n) x [] = added_here n x []
  added_here (suc n) x (xs ∷ xss) = added_here n x xss

  pub added_else : (n m : ℕ) (x : X) (xss : List (List X)) → (m ≡ n → ⊥) → get_or (added_at n x xss) m []
      ≡ get_or xss m []
  added_else zero zero x [] apart = absurd (apart refl)
  added_else zero (suc m) x [] apart = refl
  added_else zero zero x (xs ∷ xss) apart = absurd (apart refl)
  added_else zero (suc m) x (xs ∷ xss) apart = refl
  added_else (suc n) zero x [] apart = refl
  added_else (suc n) (suc m) x [] apart = added_else n m x [] (λ e. apart (ap suc e))
  added_else (suc n) zero x (xs ∷ xss) apart = refl
  added_else (suc n) (suc m) x (xs ∷ xss) apart = added_else n m x xss (λ e. apart (ap suc e))

-- ---- lists under a constructor

map_longer_by : {X Y : Type 0} (f : X → Y) (xs ys : List X) (b : Bool) → map f (cond b ys xs) ≡ cond b (map f ys)
    (map f xs)
map_longer_by f xs ys true = refl
map_longer_by f xs ys false = refl

pub map_longer : {X Y : Type 0} (f : X → Y) (xs ys : List X) → map f (longer xs ys) ≡ longer (map f xs) (map f ys)
map_longer f xs ys =
    let e : nat_lt (length (map f xs)) (length (map f ys)) ≡ nat_lt
    (length xs) (length ys) = (λ i. nat_lt (length-map xs f i) (length-map ys f i)) in
    map_longer_by f xs ys (nat_lt (length xs) (length ys)) ∙ ap (λ b. cond b (map f ys) (map f xs)) (sym e)

-- a beginning under a constructor that can be undone is one without it
pub prefix_unmapped : {X Y : Type 0} (f : X → Y) (undo : Y → X → X) → ((x d : X) → undo (f x) d ≡ x) → (xs ys : List X)
    → IsPrefix
    (map f xs) (map f ys) → IsPrefix xs ys
prefix_unmapped f undo back [] ys p = prefix_nil ys
prefix_unmapped f undo back (x ∷ xs) [] p = absurd (let n = prefix_length (f x ∷ map f xs) [] p in omega arith)
prefix_unmapped f undo back (x ∷ xs) (y ∷ ys) p =
    let a = prefix_tail (f x) (f y) (map f xs) (map f ys) p in
    let r = prefix_unmapped f undo back xs ys a.1 in
    let e : x ≡ y = sym (back x x) ∙ ap (λ w. undo w x) a.0 ∙ back y x in
    (r.0, (λ i. e i ∷ r.1 i))
