-- Facts of truth values, numbers, options, results and lists that the kit doesn't have.
use Rattle.std.proofs.Common.{◌≡◌, ◌∙◌, ◌+◌, ◌<◌, ◌≤◌, ◌==◌, ◌&&◌, ◌||◌, ◌∷◌, [], ◌++◌}
use Rattle.std.proofs.Common.{Bool, List, arith, cond, false, length, suc, true, filter, refl, subst, sym, zero, Some}
use Rattle.std.specs.List.{Contains, AllByRecursion, sum_by, cons_option, filter_map, flat_map, range_with_len}
use Rattle.std.proofs.Common.{slice_get, ap, ℕ, None, nat_eq, map, Err, IfOk, Ok, OnOk, is_ok, Option, not, take}
use Rattle.std.proofs.lemmas.Bool.Decides.{nat_tests}
use Rattle.std.proofs.lemmas.List.Sums.{sum_by-cons}
use Rattle.std.specs.Prelude.{Result, option_to_list, is_some}
use mathlib.Core.List.{IsPrefix}
use Rattle.std.proofs.lemmas.List.{map-append}
use Rattle.std.proofs.lemmas.List.Filters.{length-filter_both}
use Rattle.std.proofs.lemmas.List.Elements.{Contains-append_left, Contains-append_right}
use Rattle.std.proofs.Common.{get_or, replicate, nat_lt}

pub contains_past : {X : Type 0} (b : Bool) (y : X) (xs : List X) (x : X) → Contains xs x → Contains (cond b (y ∷ xs) xs) x
contains_past true y xs x has = (suc has.0, (let w : has.0 < length xs = has.1 in omega arith), has.2)
contains_past false y xs x has = has

pub contains_kept : {X : Type 0} (test : X → Bool) (xs : List X) (x : X) → Contains xs x → test x ≡ true
    → Contains (filter test xs) x
contains_kept test [] x has passes = absurd (let none : has.0 < 0 = has.1 in omega arith)
contains_kept test (y ∷ xs) x (zero, within, e) passes =
    subst (λ z. Contains (filter test (z ∷ xs)) x) (sym e) (subst
    (λ b. Contains (cond b (x ∷ filter test xs) (filter test xs)) x) (sym passes) (0, omega arith, refl))
contains_kept test (y ∷ xs) x (suc k, within, e) passes =
    contains_past (test y) y (filter test xs) x (contains_kept test xs x (k, omega arith, e) passes)

pub all_front : {X : Type 0} (P : X → Type 0) (xs ys : List X) → AllByRecursion P (xs ++ ys) → AllByRecursion P xs
all_front P [] ys all = tt
all_front P (x ∷ xs) ys all = (all.0, all_front P xs ys all.1)

pub get_next : {X : Type 0} (xs : List X) (x : X) → slice_get (xs ++ x ∷ []) (length xs) ≡ Some x
get_next [] x = refl
get_next (y ∷ xs) x = get_next xs x

pub all_back : {X : Type 0} (P : X → Type 0) (xs ys : List X) → AllByRecursion P (xs ++ ys) → AllByRecursion P ys
all_back P [] ys all = all
all_back P (x ∷ xs) ys all = all_back P xs ys all.1

pub all_push : {A : Type 0} (P : A → Type 0) (xs : List A) (x : A) → AllByRecursion P xs → P x
    → AllByRecursion P (xs ++ x ∷ [])
all_push P [] x all own = (own, tt)
all_push P (y ∷ xs) x all own = (all.0, all_push P xs x all.1 own)

pub and_spread : (a b c : Bool) → ((a && c) || (b && c)) ≡ ((a || b) && c)
and_spread true true true = refl
and_spread true true false = refl
and_spread true false true = refl
and_spread true false false = refl
and_spread false true true = refl
and_spread false true false = refl
and_spread false false c = refl

pub get_back : {A : Type 0} (xs ys : List A) (k : ℕ) → slice_get (xs ++ ys) (length xs + k) ≡ slice_get ys k
get_back [] ys k =
    let here : 0 + k ≡ k = omega arith in
    ap (λ n. slice_get ys n) here
get_back (x ∷ xs) ys k =
    let moved : suc (length xs) + k ≡ suc (length xs + k) = omega arith in
    ap (λ n. slice_get (x ∷ (xs ++ ys)) n) moved ∙ get_back xs ys k

pub and_true : (b : Bool) → (b && true) ≡ b
and_true true = refl
and_true false = refl

pub equal_numbers : (n m : ℕ) → (n == m) ≡ true → n ≡ m
equal_numbers n m e = grind (arith, nat_tests)

pub nothing_is : {A : Type 0} (x : A) → None ≡ Some x → ⊥
nothing_is x e = cc

pub get_front : {A : Type 0} (xs ys : List A) (place : ℕ) (x : A) → slice_get xs place ≡ Some x
    → slice_get (xs ++ ys) place ≡ Some x
get_front [] ys place x e = absurd (nothing_is x e)
get_front (y ∷ xs) ys zero x e = e
get_front (y ∷ xs) ys (suc place) x e = get_front xs ys place x e

pub equal_itself : (n : ℕ) → nat_eq n n ≡ true
equal_itself n = grind (arith, nat_tests)

pub get_within : {X : Type 0} (xs : List X) (n : ℕ) (x : X) → slice_get xs n ≡ Some x → n < length xs
get_within [] n x e = absurd cc
get_within (y ∷ xs) zero x e = omega arith
get_within (y ∷ xs) (suc n) x e = let later = get_within xs n x e in omega (arith, later)

-- two facts of each time
pub all_both : {A : Type 0} (P Q : A → Type 0) (xs : List A) → AllByRecursion P xs → AllByRecursion Q xs
    → AllByRecursion (λ x. P x × Q x) xs
all_both P Q [] p q = tt
all_both P Q (x ∷ xs) p q = ((p.0, q.0), all_both P Q xs p.1 q.1)

pub sum_by-map : {X Y : Type 0} (f : Y → ℕ) (g : X → Y) (xs : List X) → sum_by f (map g xs) ≡ sum_by (λ x. f (g x)) xs
sum_by-map f g [] = refl
sum_by-map f g (x ∷ xs) =
    sum_by-cons f (g x) (map g xs) ∙ ap (λ n. f (g x) + n) (sum_by-map f g xs) ∙ sym (sum_by-cons (λ y. f (g y)) x xs)

pub if_ok_on : {X F : Type 0} (P Q : X → Type 0) → ((x : X) → P x → Q x) → (r : Result X F) → IfOk r P → IfOk r Q
if_ok_on P Q on (Ok x) h = on x h
if_ok_on P Q on (Err why) h = tt

pub not_both : (b : Bool) → b ≡ false → b ≡ true → ⊥
not_both b e f = cc

pub and_assoc : (p q r : Bool) → ((p && q) && r) ≡ (p && (q && r))
and_assoc true q r = refl
and_assoc false q r = refl

pub all_last : {X : Type 0} (P : X → Type 0) (xs : List X) (x : X) → AllByRecursion P (xs ++ x ∷ []) → P x
all_last P [] x all = all.0
all_last P (y ∷ xs) x all = all_last P xs x all.1

pub and_implied : (b k : Bool) → (b ≡ true → k ≡ true) → (b && k) ≡ b
and_implied true k h = h refl
and_implied false k h = refl

-- what a call that succeeded says
pub ok_claim : {V E : Type 0} (P : Type 0) (r : Result V E) → is_ok r ≡ true → OnOk r P → P
ok_claim P (Ok value) ok claim = claim
ok_claim P (Err error) ok claim = absurd cc

pub one_more : {B : Type 0} (o : Option B) (ys : List B) (n : ℕ) → length ys ≤ n → length (cons_option o ys) ≤ suc n
one_more None ys n few = omega (arith, few)
one_more (Some y) ys n few = omega (arith, few)

pub filter_map-few : {A B : Type 0} (f : A → Option B) (xs : List A) → length (filter_map f xs) ≤ length xs
filter_map-few f [] = omega arith
filter_map-few f (x ∷ xs) = one_more (f x) (filter_map f xs) (length xs) (filter_map-few f xs)

pub prefix_map : {X Y : Type 0} (f : X → Y) (xs ys : List X) → IsPrefix xs ys → IsPrefix (map f xs) (map f ys)
prefix_map f xs ys p = (map f p.0, sym (map-append f xs p.0) ∙ ap (map f) p.1)

pub some_not_none : {X : Type 0} (x : X) → Some x ≡ None → ⊥
some_not_none x e = absurd (cc)

pub or_false : (p : Bool) → (p || false) ≡ p
or_false true = refl
or_false false = refl

pub and_both : (a b : Bool) → (a && b) ≡ true → (a ≡ true) × (b ≡ true)
and_both true b e = (refl, e)
and_both false b e = absurd cc

pub or_assoc : (a b c : Bool) → ((a || b) || c) ≡ (a || (b || c))
or_assoc true b c = refl
or_assoc false b c = refl

pub all_append : {A : Type 0} (P : A → Type 0) (xs ys : List A) → AllByRecursion P xs → AllByRecursion P ys
    → AllByRecursion P (xs ++ ys)
all_append P [] ys f g = g
all_append P (x ∷ xs) ys f g = (f.0, all_append P xs ys f.1 g)

pub filter-few : {A : Type 0} (p : A → Bool) (xs : List A) → length (filter p xs) ≤ length xs
filter-few p xs = omega (arith, length-filter_both p (λ x. not (p x)) (λ x. refl) xs)

pub in_flat_map : {X Y : Type 0} (f : X → List Y) (xs : List X) (x : X) (y : Y) → Contains xs x → Contains (f x) y
    → Contains (flat_map f xs) y
in_flat_map f [] x y there here = absurd (omega (arith, there.1))
in_flat_map f (first ∷ xs) x y (zero, l, e) here =
    Contains-append_left (f first) (flat_map f xs) y (subst (λ z. Contains (f z) y) (sym e) here)
in_flat_map f (first ∷ xs) x y (suc k, l, e) here =
    Contains-append_right (f first) (flat_map f xs) y (in_flat_map f xs x y (k, omega (arith, l), e) here)

pub contains_none : {X : Type 0} (x : X) → Contains [] x → ⊥
contains_none x has = let below : has.0 < 0 = has.1 in omega arith

pub or_true : (b : Bool) → (b || true) ≡ true
or_true true = refl
or_true false = refl

pub in_map : {X Y : Type 0} (f : X → Y) (xs : List X) (x : X) → Contains xs x → Contains (map f xs) (f x)
in_map f [] x there = absurd (omega (arith, there.1))
in_map f (first ∷ xs) x (zero, l, e) = (zero, omega arith, ap f e)
in_map f (first ∷ xs) x (suc k, l, e) = Contains-append_right (f first ∷ []) (map f xs) (f x)
    (in_map f xs x (k, omega (arith, l), e))

pub take_nothing : {A : Type 0} (n : ℕ) (xs : List A) → xs ≡ [] → take n xs ≡ []
take_nothing zero [] e = refl
take_nothing (suc n) [] e = refl
take_nothing n (x ∷ xs) e = absurd cc

pub all_flat : {A B : Type 0} (P : B → Type 0) (f : A → List B) (xs : List A)
    → AllByRecursion (λ x. AllByRecursion P (f x)) xs → AllByRecursion P (flat_map f xs)
all_flat P f [] all = tt
all_flat P f (x ∷ xs) all = all_append P (f x) (flat_map f xs) all.0 (all_flat P f xs all.1)

pub equal_means : (a b : ℕ) → nat_eq a b ≡ true → a ≡ b
equal_means a b same = grind (arith, nat_tests)

pub same_item : {A : Type 0} (x y : A) → Some x ≡ Some y → x ≡ y
same_item x y h = cc

pub all_unmapped : {A B : Type 0} (P : B → Type 0) (f : A → B) (xs : List A) → AllByRecursion P (map f xs)
    → AllByRecursion (λ x. P (f x)) xs
all_unmapped P f [] all = tt
all_unmapped P f (x ∷ xs) all = (all.0, all_unmapped P f xs all.1)

pub get_or-front : {X : Type 0} (xs ys : List X) (i : ℕ) (d : X) → i < length xs → get_or (xs ++ ys) i d ≡ get_or xs i d
get_or-front [] ys i d there = absurd (omega arith)
get_or-front (x ∷ xs) ys zero d there = refl
get_or-front (x ∷ xs) ys (suc i) d there = get_or-front xs ys i d (omega arith)

pub first_given : {A B : Type 0} (f : A → Option B) (x : A) (xs : List A) (o : Option B)
    → f x ≡ o → option_to_list o ++ filter_map f xs ≡ filter_map f (x ∷ xs)
first_given f x xs None e = rw e refl
first_given f x xs (Some y) e = rw e refl

pub map_same : {A B : Type 0} (f g : A → B) → ((x : A) → f x ≡ g x) → (xs : List A) → map f xs ≡ map g xs
map_same f g same [] = refl
map_same f g same (x ∷ xs) = ap (λ y. y ∷ map f xs) (same x) ∙ ap (λ ys. g x ∷ ys) (map_same f g same xs)

pub and_false : (p : Bool) → (p && false) ≡ false
and_false true = refl
and_false false = refl

pub map-replicate : {X Y : Type 0} (f : X → Y) (n : ℕ) (x : X) → map f (replicate n x) ≡ replicate n (f x)
map-replicate f zero x = refl
map-replicate f (suc n) x = ap (λ rest. f x ∷ rest) (map-replicate f n x)

pub range_last : (a n j : ℕ) → a + n ≡ j → range_with_len a (suc n) ≡ range_with_len a n ++ j ∷ []
range_last a zero j e = let same : a ≡ j = omega (arith, e) in ap (λ k. k ∷ []) same
range_last a (suc n) j e = ap (λ (l : List ℕ). a ∷ l) (range_last (a + 1) n j (omega (arith, e)))

pub absent : {X : Type 0} (o : Option X) → is_some o ≡ false → o ≡ None
absent None h = refl
absent (Some x) h = absurd cc

pub less : (a b : ℕ) → a < b → nat_lt a b ≡ true
less a b h = grind (arith, nat_tests)

pub at_least : (a b : ℕ) → nat_lt a b ≡ false → b ≤ a
at_least a b e = grind (arith, nat_tests)
