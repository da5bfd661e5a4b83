-- Numbers and durations that were read are read again where they are printed.
use Rattle.std.proofs.Common.{◌≡◌, ℕ, zero, suc, ℤ, pos, negsuc, ◌+◌, ◌-◌, ◌*◌, ◌/◌, ◌%◌, ◌^◌, ◌<◌, ◌≤◌, Bool, true}
use Rattle.std.proofs.Common.{false, ◌==◌, ◌||◌, ◌&&◌, not, nat_le, ltb, List, [], ◌∷◌, ◌++◌, refl, sym, ap, subst}
use Rattle.std.proofs.Common.{◌∙◌, arith, cond, if◌then◌else◌, Option, Some, None, option_and_then, append_assoc}
use Rattle.std.specs.Fmt.{decimal, signed_decimal}
use Rattle.std.proofs.lemmas.Fmt.{decimal_by_steps, decimal_digit}
use Rattle.std.proofs.lemmas.Bool.Decides.{nat_tests}
use Rattle.std.proofs.lemmas.Bool.{leb-true, le-leb, eqb-true}
use Rattle.mql_ast.specs.Tokens.{is_blank, is_digit, Rest, first_of, head, behind, skip, digits_from, positive_at}
use Rattle.mql_ast.specs.Tokens.{number_at, minus, signed_at, unit_seconds, longest, with_unit, duration_at}
use Rattle.std.proofs.Math.Nat.{mul-le-mul_left}
use Rattle.mql_ast.specs.Printed.{duration_text}
use Rattle.mql_ast.proofs.TokensPrinted.{if_true, if_false, followed, From, place_behind, place_push}
use Rattle.mql_ast.proofs.TokensPrinted.{rest_behind, regrouped, no_blank}
use Rattle.mon_value.proofs.PlainLemmas.{same_item}

digits_step : (most v w : ℕ) (t u : Bool) (o : Option (ℕ × Rest)) (end r : Rest) (n : ℕ) → v ≤ w → v ≤ most
    → nat_le w most ≡ u →
    (w ≤ most → o ≡ Some (n, r) → (w ≤ n) × (n ≤ most)) → (if t then (if u then o else None) else Some (v, end))
    ≡ Some (n, r) → (v ≤ n) × (n ≤ most)
digits_step most v w true true o end r n grows low e f h = let x = f (leb-true w most e) h in (omega (arith, x.0), x.1)
digits_step most v w true false o end r n grows low e f h = absurd (cc)
digits_step most v w false u o end r n grows low e f h = let same : v ≡ n = ap (λ p. p.0) (same_item (v, end) (n, r) h) in
    (omega arith, omega arith)

digits_read : (most v at : ℕ) (bs : List ℕ) (r : Rest) (n : ℕ) → v ≤ most → digits_from most v at bs ≡ Some (n, r)
    → (v ≤ n) × (n ≤ most)
digits_read most v at [] r n low h = let same : v ≡ n = ap (λ p. p.0) (same_item (v, record { at = at; bytes = [] }) (n, r)
    h) in (omega arith, omega arith)
digits_read most v at (b ∷ bs) r n low h =
    digits_step most v (v * 10 + (b - 48)) (is_digit b) (nat_le (v * 10 + (b - 48)) most)
    (digits_from most (v * 10 + (b - 48)) (at + 1) bs) (record { at = at; bytes = b ∷ bs }) r n (omega arith) low
    refl
    (λ fits e. digits_read most (v * 10 + (b - 48)) (at + 1) bs r n fits e) h

first_digit : (b : ℕ) → (is_digit b && not (b == 48)) ≡ true → (49 ≤ b) × (b ≤ 57)
first_digit b h = (grind (arith, nat_tests), grind (arith, nat_tests))

positive_step : (t : Bool) (most v at : ℕ) (bs : List ℕ) (r : Rest) (n : ℕ) → (t ≡ true → v ≤ most)
    → (if t then digits_from most v at bs else None) ≡ Some (n, r) → (t ≡ true) × (v ≤ n) × (n ≤ most)
positive_step true most v at bs r n low h = let x = digits_read most v at bs r n (low refl) h in (refl, x.0, x.1)
positive_step false most v at bs r n low h = absurd (cc)

pub positive_lawful : (most : ℕ) → 9 ≤ most → (s r : Rest) (n : ℕ) → positive_at most s ≡ Some (n, r) → (1 ≤ n)
    × (n ≤ most)
positive_lawful most nine s r n h =
    let t = skip s in
    let x = positive_step (is_digit (head t) && not (head t == 48)) most (head t - 48) (behind t).at (behind t).bytes r
    n (λ e. let d = first_digit (head t) e in omega (arith, d.1)) h in
    let d = first_digit (head t) x.0 in
    (omega (arith, d.0, x.1), x.2)

number_step : (t : Bool) (most : ℕ) (s q r : Rest) (n : ℕ) → 9 ≤ most → (if t then Some (0, q) else positive_at most s)
    ≡ Some (n, r) → n ≤ most
number_step true most s q r n nine h = let none : 0 ≡ n = ap (λ p. p.0) (same_item (0, q) (n, r) h) in omega arith
number_step false most s q r n nine h = (positive_lawful most nine s r n h).1

pub number_lawful : (most : ℕ) → 9 ≤ most → (s r : Rest) (n : ℕ) → number_at most s ≡ Some (n, r) → n ≤ most
number_lawful most nine s r n h = number_step (head (skip s) == 48) most s (behind (skip s)) r n nine h

digits_off : (most v at : ℕ) (rest : List ℕ) → is_digit (first_of rest) ≡ false → digits_from most v at rest
    ≡ Some (v, record { at = at; bytes = rest })
digits_off most v at [] h = refl
digits_off most v at (b ∷ bs) h = if_false (is_digit b) _ _ h

digit_on : (most v w at b : ℕ) (bs : List ℕ) → is_digit b ≡ true → v * 10 + (b - 48) ≡ w → w ≤ most → digits_from most
    v at (b ∷ bs) ≡ digits_from most w (at + 1) bs
digit_on most v w at b bs h e low =
    if_true (is_digit b) _ _ h ∙ ap (λ x. if nat_le x most then digits_from most x (at + 1) bs else None) e
    ∙ if_true (nat_le w most) _ _ (le-leb w most low)

-- digits that are read as a number from 1 on
record AreDigits (n : ℕ) (digits : List ℕ) : Type 0 where
  pub first : ℕ
  pub others : List ℕ
  pub is : digits ≡ first ∷ others
  pub low : 49 ≤ first
  pub high : first ≤ 57
  pub read : (most at : ℕ) (rest : List ℕ) → n ≤ most → digits_from most (first - 48) at (others ++ rest) ≡ digits_from
      most n (place_behind at others) rest

one_digit : (n : ℕ) → n < 10 → 1 ≤ n → AreDigits n ((48 + n) ∷ [])
one_digit n small h = record {
  first = 48 + n;
  others = [];
  is = refl;
  low = omega arith;
  high = omega arith;
  read = λ most at rest low. ap (λ v. digits_from most v at rest) (omega arith);
}

is_last_digit : (n : ℕ) → is_digit (48 + n % 10) ≡ true
is_last_digit n = let small : n % 10 < 10 = omega arith in grind (arith, nat_tests)

more_digits : (n : ℕ) (digits : List ℕ) → 10 ≤ n → AreDigits (n / 10) digits
    → AreDigits n (digits ++ (48 + n % 10) ∷ [])
more_digits n digits big d =
    let last = 48 + n % 10 in
    record {
      first = d.first;
      others = d.others ++ last ∷ [];
      is = ap (λ t. t ++ last ∷ []) d.is;
      low = d.low;
      high = d.high;
      read = λ most at rest low.
          ap (λ t. digits_from most (d.first - 48) at t) (append_assoc d.others (last ∷ []) rest)
          ∙ d.read most at (last ∷ rest) (omega arith)
          ∙ digit_on most (n / 10) n (place_behind at d.others) last rest (is_last_digit n) (omega arith) low
          ∙ ap (λ p. digits_from most n p rest) (sym (place_push at last d.others));
    }

decimal_digits : (n : ℕ) → n < 2 ^ 64 → 1 ≤ n → AreDigits n (decimal n)
decimal_digits = decimal_by_steps (λ n ds. 1 ≤ n → AreDigits n ds) one_digit (λ n ds big d h. more_digits n ds big
    (d (omega arith)))

digit_no_blank : (b : ℕ) → 48 ≤ b → b ≤ 57 → (is_digit b ≡ true) × ((b == 45) ≡ false)
digit_no_blank b low high = (grind (arith, nat_tests), grind (arith, nat_tests))

-- how the decimal digits of a number begin
record BeginsWithDigit (digits : List ℕ) : Type 0 where
  pub first : ℕ
  pub others : List ℕ
  pub is : digits ≡ first ∷ others
  pub digit : is_digit first ≡ true

begins_with_digit : (n : ℕ) → n < 2 ^ 64 → BeginsWithDigit (decimal n)
begins_with_digit n small = elim (◌==◌ n 0) as (λ t. (n == 0) ≡ t → BeginsWithDigit (decimal n)) [
  | true ↦ (λ e. let none : n ≡ 0 = eqb-true n 0 e in record {
    first = 48;
    others = [];
    is = ap decimal none
        ∙ decimal_digit 0 (omega arith);
    digit = refl;
  })
  | false ↦ (λ e. let one : 1 ≤ n = grind (arith, nat_tests) in let d = decimal_digits n small one in
      record {
        first = d.first;
        others = d.others;
        is = d.is;
        digit = (digit_no_blank d.first (omega (arith, d.low))
            d.high).0;
      })
] refl

digit_passes : (b : ℕ) → 49 ≤ b → b ≤ 57 → (is_digit b && not (b == 48)) ≡ true
digit_passes b low high = grind (arith, nat_tests)

pub digit_is_no_blank : (b : ℕ) → is_digit b ≡ true → is_blank b ≡ false
digit_is_no_blank b h = grind (arith, nat_tests)

digit_is_no_minus : (b : ℕ) → is_digit b ≡ true → (b == 45) ≡ false
digit_is_no_minus b h = grind (arith, nat_tests)

-- a number from 1 on that stands here is read
positive_here : (most n at : ℕ) (rest : List ℕ) → 1 ≤ n → n ≤ most → n < 2 ^ 64 → is_digit (first_of rest) ≡ false →
    positive_at most (record { at = at; bytes = decimal n ++ rest }) ≡ Some (n, rest_behind at (decimal n) rest)
positive_here most n at rest one low small e =
    let d = decimal_digits n small one in
    let digit = (digit_no_blank d.first (omega (arith, d.low)) d.high).0 in
    ap (λ t. positive_at most (record { at = at; bytes = t ++ rest })) d.is
    ∙ ap (λ t. if is_digit (head t) && not (head t == 48) then digits_from most (head t - 48) (behind t).at
    (behind t).bytes else None) (no_blank at d.first (d.others ++ rest) (digit_is_no_blank d.first digit))
    ∙ if_true (is_digit d.first && not (d.first == 48)) _ _ (digit_passes d.first d.low d.high)
    ∙ d.read most (at + 1) rest low
    ∙ digits_off most n (place_behind (at + 1) d.others) rest e
    ∙ ap (λ t. Some (n, rest_behind at t rest)) (sym d.is)

pub positive_printed : (most n : ℕ) → 1 ≤ n → n ≤ most → n < 2 ^ 64 → (s : Rest) (rest : List ℕ)
    → is_digit (first_of rest) ≡ false → (f : From s (decimal n ++ rest)) →
    positive_at most s ≡ Some (n, rest_behind f.at (decimal n) rest)
positive_printed most n one low small s rest e f =
    ap (λ t. if is_digit (head t) && not (head t == 48) then digits_from most (head t - 48) (behind t).at
    (behind t).bytes else None) f.is
    ∙ positive_here most n f.at rest one low small e

abbrev number_read : ℕ → Rest → Option (ℕ × Rest)
number_read most t = if head t == 48 then Some (0, behind t) else (if is_digit (head t)
    && not (head t == 48) then digits_from most (head t - 48) (behind t).at (behind t).bytes else None)

number_here : (t : Bool) (most n at : ℕ) (rest : List ℕ) → (n == 0) ≡ t → n ≤ most → n < 2 ^ 64
    → is_digit (first_of rest) ≡ false →
    number_at most (record { at = at; bytes = decimal n ++ rest }) ≡ Some (n, rest_behind at (decimal n) rest)
number_here true most n at rest z low small e =
    let none : n ≡ 0 = eqb-true n 0 z in
    let is : decimal n ≡ 48 ∷ [] = ap decimal none ∙ decimal_digit 0 (omega arith) in
    ap (λ t. number_at most (record { at = at; bytes = t ++ rest })) is
    ∙ ap (λ t. number_read most t) (no_blank at 48 rest refl)
    ∙ ap (λ m. Some (m, rest_behind at (48 ∷ []) rest)) (sym none)
    ∙ ap (λ t. Some (n, rest_behind at t rest)) (sym is)
number_here false most n at rest z low small e =
    let one : 1 ≤ n = grind (arith, nat_tests) in
    let d = decimal_digits n small one in
    let digit = (digit_no_blank d.first (omega (arith, d.low)) d.high).0 in
    let high : (d.first == 48) ≡ false = grind (arith, nat_tests, d.low) in
    ap (λ t. number_at most (record { at = at; bytes = t ++ rest })) d.is
    ∙ ap (λ t. if head t == 48 then Some (0, behind t) else positive_at most
    (record { at = at; bytes = d.first ∷ (d.others ++ rest) })) (no_blank at d.first (d.others ++ rest)
    (digit_is_no_blank d.first digit))
    ∙ if_false (d.first == 48) _ _ high
    ∙ ap (λ t. positive_at most (record { at = at; bytes = t ++ rest })) (sym d.is)
    ∙ positive_here most n at rest one low small e

pub number_printed : (most n at : ℕ) (rest : List ℕ) → n ≤ most → n < 2 ^ 64 → is_digit (first_of rest) ≡ false →
    number_at most (record { at = at; bytes = decimal n ++ rest }) ≡ Some (n, rest_behind at (decimal n) rest)
number_printed most n at rest low small e = number_here (n == 0) most n at rest refl low small e

-- a number of 64 bits with its sign
pub data InRange : ℤ → Type 0 where
  above : {n : ℕ} → n ≤ 2 ^ 63 - 1 → InRange (pos n)
  below : {n : ℕ} → suc n ≤ 2 ^ 63 → InRange (negsuc n)

minus_suc : (n : ℕ) → minus (suc n) ≡ negsuc n
minus_suc n =
    let test : ltb 0 (suc n) ≡ true = grind (arith, nat_tests) in
    if_true (ltb 0 (suc n)) (negsuc (suc n - 1)) (pos (0 - suc n)) test ∙ ap negsuc (omega arith)

minus_in_range : (n : ℕ) → n ≤ 2 ^ 63 → InRange (minus n)
minus_in_range zero h = above (omega arith)
minus_in_range (suc n) h = subst InRange (sym (minus_suc n)) (below h)

signed_step : (t : Bool) (o p : Option (ℕ × Rest)) (z : ℤ) (r : Rest) → ((n : ℕ) (q : Rest) → o ≡ Some (n, q)
    → n ≤ 2 ^ 63) → ((n : ℕ) (q : Rest) → p ≡ Some (n, q) → n ≤ 2 ^ 63 - 1) →
    cond {A = Option (ℤ × Rest)} t (option_and_then (λ n. Some (minus n.0, n.1)) o)
    (option_and_then (λ n. Some (pos n.0, n.1)) p) ≡ Some (z, r) → InRange z
signed_step true o p z r f g h =
    let x = followed o (λ n. Some (minus n.0, n.1)) (z, r) h in
    let same : minus x.0.0 ≡ z = ap (λ p. p.0) (same_item (minus x.0.0, x.0.1) (z, r) x.2) in
    subst InRange same (minus_in_range x.0.0 (f x.0.0 x.0.1 x.1))
signed_step false o p z r f g h =
    let x = followed p (λ n. Some (pos n.0, n.1)) (z, r) h in
    let same : pos x.0.0 ≡ z = ap (λ p. p.0) (same_item (pos x.0.0, x.0.1) (z, r) x.2) in
    subst InRange same (above (g x.0.0 x.0.1 x.1))

pub signed_lawful : (s r : Rest) (z : ℤ) → signed_at s ≡ Some (z, r) → InRange z
signed_lawful s r z h =
    signed_step (head (skip s) == 45) (number_at (2 ^ 63) (behind (skip s))) (number_at (2 ^ 63 - 1) s) z r
    (λ n q e. number_lawful (2 ^ 63) (omega arith) (behind (skip s)) q n e) (λ n q e. number_lawful (2 ^ 63 - 1)
    (omega arith) s q n e) h

abbrev signed_of : Rest → Rest → Option (ℤ × Rest)
signed_of s t = if head t == 45 then option_and_then (λ n. Some (minus n.0, n.1)) (number_at (2 ^ 63) (behind t))
    else option_and_then (λ n. Some (pos n.0, n.1)) (number_at (2 ^ 63 - 1) s)

pub signed_here : (z : ℤ) → InRange z → (at : ℕ) (rest : List ℕ) → is_digit (first_of rest) ≡ false →
    signed_at (record { at = at; bytes = signed_decimal z ++ rest }) ≡ Some (z, rest_behind at (signed_decimal z) rest)
signed_here (pos n) (above low) at rest e =
    let d = begins_with_digit n (omega (arith, low)) in
    let s : Rest = record { at = at; bytes = d.first ∷ (d.others ++ rest) } in
    ap (λ t. signed_at (record { at = at; bytes = t ++ rest })) d.is
    ∙ ap (λ t. signed_of s t) (no_blank at d.first (d.others ++ rest) (digit_is_no_blank d.first d.digit))
    ∙ if_false (d.first == 45) _ _ (digit_is_no_minus d.first d.digit)
    ∙ ap (λ t. option_and_then (λ n. Some (pos n.0, n.1))
    (number_at (2 ^ 63 - 1) (record { at = at; bytes = t ++ rest }))) (sym d.is)
    ∙ ap (λ o. option_and_then (λ n. Some (pos n.0, n.1)) o) (number_printed (2 ^ 63 - 1) n at rest low
    (omega (arith, low)) e)
signed_here (negsuc n) (below low) at rest e =
    let s : Rest = record { at = at; bytes = 45 ∷ (decimal (suc n) ++ rest) } in
    ap (λ t. signed_of s t) (no_blank at 45 (decimal (suc n) ++ rest) refl)
    ∙ ap (λ o. option_and_then (λ n. Some (minus n.0, n.1)) o) (number_printed (2 ^ 63) (suc n) (at + 1) rest low
    (omega (arith, low)) e)
    ∙ ap (λ z. Some (z, rest_behind at (signed_decimal (negsuc n)) rest)) (minus_suc n)

-- a number that is read after what stands here, whatever blanks stand before it
signed_from : (s t : Rest) → skip s ≡ skip t → signed_at s ≡ signed_at t
signed_from s t h =
    ap (λ u. if head u == 45 then option_and_then (λ n. Some (minus n.0, n.1)) (number_at (2 ^ 63) (behind u))
    else option_and_then (λ n. Some (pos n.0, n.1)) (number_read (2 ^ 63 - 1) u)) h

pub signed_printed : (z : ℤ) → InRange z → (s : Rest) (rest : List ℕ) → is_digit (first_of rest) ≡ false
    → (f : From s (signed_decimal z ++ rest)) →
    signed_at s ≡ Some (z, rest_behind f.at (signed_decimal z) rest)
signed_printed z range s rest e f = signed_from s (record { at = f.at; bytes = signed_decimal z ++ rest }) f.is
    ∙ signed_here z range f.at rest e

-- how a printed number begins
pub record BeginsNumber (text : List ℕ) : Type 0 where
  pub first : ℕ
  pub others : List ℕ
  pub is : text ≡ first ∷ others
  pub begins : (first == 45 || is_digit first) ≡ true

digit_begins : (b : ℕ) → is_digit b ≡ true → (b == 45 || is_digit b) ≡ true
digit_begins b h = grind (arith, nat_tests)

pub number_begins : (z : ℤ) → InRange z → BeginsNumber (signed_decimal z)
number_begins (pos n) (above low) = let d = begins_with_digit n (omega (arith, low)) in
    record { first = d.first; others = d.others; is = d.is; begins = digit_begins d.first d.digit }
number_begins (negsuc n) (below low) = record { first = 45; others = decimal (suc n); is = refl; begins = refl }

-- a duration in seconds
pub data IsDuration : ℤ → Type 0 where
  seconds : {n : ℕ} → 1 ≤ n → n ≤ longest → IsDuration (pos n)

product_from_one : (n u : ℕ) → 1 ≤ n → 1 ≤ u → 1 ≤ n * u
product_from_one n u h k = omega (arith, mul-le-mul_left n k)

unit_step : (t v : Bool) (n u : ℕ) (q r : Rest) (z : ℤ) → (u == 0) ≡ t → nat_le (n * u) longest ≡ v → 1 ≤ n →
    cond {A = Option (ℤ × Rest)} t None (cond {A = Option (ℤ × Rest)} v (Some (pos (n * u), q)) None) ≡ Some (z, r)
    → IsDuration z
unit_step true v n u q r z e f one h = absurd (cc)
unit_step false true n u q r z e f one h =
    let same : pos (n * u) ≡ z = ap (λ p. p.0) (same_item (pos (n * u), q) (z, r) h) in
    let some : 1 ≤ u = grind (arith, nat_tests) in
    subst IsDuration same (seconds (product_from_one n u one some) (leb-true (n * u) longest f))
unit_step false false n u q r z e f one h = absurd (cc)

pub duration_lawful : (s r : Rest) (z : ℤ) → duration_at s ≡ Some (z, r) → IsDuration z
duration_lawful s r z h =
    let x = followed (positive_at longest s) with_unit (z, r) h in
    let u = unit_seconds (head x.0.1) in
    unit_step (u == 0) (nat_le (x.0.0 * u) longest) x.0.0 u (behind x.0.1) r z refl refl
    (positive_lawful longest (omega arith) s x.0.1 x.0.0 x.1).0 x.2

duration_of : (n : ℕ) (s : Rest) (rest : List ℕ) → 1 ≤ n → n ≤ longest → (f : From s (decimal n ++ (115 ∷ rest))) →
    duration_at s ≡ Some (pos n, rest_behind f.at (decimal n ++ 115 ∷ []) rest)
duration_of n s rest one low f =
    ap (λ o. option_and_then with_unit o) (positive_printed longest n one low (omega (arith, low)) s (115 ∷ rest) refl
    f)
    ∙ ap (λ m. cond {A = Option (ℤ × Rest)} (nat_le m longest)
    (Some (pos m, record { at = place_behind f.at (decimal n) + 1; bytes = rest })) None) (omega arith)
    ∙ if_true (nat_le n longest) _ _ (le-leb n longest low)
    ∙ ap (λ p. Some (pos n, record { at = p; bytes = rest })) (sym (place_push f.at 115 (decimal n)))

pub duration_printed : (z : ℤ) → IsDuration z → (s : Rest) (rest : List ℕ) → (f : From s (duration_text z ++ rest)) →
    duration_at s ≡ Some (z, rest_behind f.at (duration_text z) rest)
duration_printed (pos n) (seconds one low) s rest f = duration_of n s rest one low
    (regrouped f (append_assoc (decimal n) (115 ∷ []) rest))
duration_printed (negsuc n) h s rest f = elim h [ ]
