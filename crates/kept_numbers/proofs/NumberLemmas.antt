-- Numbers of which one comes or goes.
use Rattle.std.proofs.Common.{◌≡◌, ◌∙◌, ◌+◌, ◌-◌, ◌<◌, ◌≤◌, ℕ, ℤ, ◌<ℤ◌, Bool, true, false, cond, Option, Some, None, List, []}
use Rattle.std.proofs.Common.{◌∷◌, length, IfSome, IsSome, OnErr, OnOk, Result, Ok, Err, refl, sym, ap, subst, arith}
use Rattle.std.specs.Prelude.{unwrap_or}
use Rattle.std.specs.Map.{lookup}
use Rattle.std.specs.Ordering.{MatchOrdering, int_cmp, is_gt, is_lt}
use Rattle.std.specs.declared.cmp.Ordering.{Ordering}
use Rattle.std.specs.declared.cmp.Ordering.TheVariants.{Less, Equal, Greater}
use Rattle.std.proofs.lemmas.Cmp.{int_ranked}
use Rattle.std.proofs.lemmas.Int.{ints}
use Rattle.mon_value.specs.Groups.{greatest_of, least_of}
use Rattle.kept_numbers.specs.HowOften.{AreNumbersOf, how_often, is_number}
use Rattle.kept_numbers.proofs.OrderedLemmas.{count, count_cons, greatest_is, itself, least_is, number_is}

abbrev Entries : Type 0
Entries = List (ℤ × ℕ)

-- what is found of each number, where one was written
abbrev pub IsWritten : Entries → Entries → ℤ → Option ℕ → Type 0
IsWritten entries new number o =
    (z : ℤ) → lookup (is_number z) new ≡ cond (is_number number z) o (lookup (is_number z) entries)

module _ (entries new : Entries) (number : ℤ) (numbers : List ℤ) where
  -- ---- one comes

  module _ (n : ℕ) (is : n ≡ how_often number entries) (made : IsWritten entries new number (Some (n + 1)))
      (are : AreNumbersOf numbers entries) where
    added_by : (z : ℤ) (b : Bool) → is_number number z ≡ b
        → cond b 1 0 + count z numbers ≡ unwrap_or (cond b (Some (n + 1)) (lookup (is_number z) entries)) 0
    added_by z true e =
        let same = ap (λ y. how_often y entries) (number_is number z e) in
        let often = are.often z in
        omega (arith, is, same, often)
    added_by z false e = let often = are.often z in omega (arith, often)

    some_by : (z : ℤ) (b : Bool) → IfSome (cond b (Some (n + 1)) (lookup (is_number z) entries)) (λ m. 0 < m)
    some_by z true = omega arith
    some_by z false = are.some z

    pub added : AreNumbersOf (number ∷ numbers) new
    added = record {
      often = λ z.
          count_cons z number numbers ∙ added_by z (is_number number z) refl ∙ sym (ap (λ o. unwrap_or o 0) (made z));
      some = λ z. subst (λ o. IfSome o (λ m. 0 < m)) (sym (made z)) (some_by z (is_number number z));
    }

  -- ---- one goes

  module _ (are : AreNumbersOf (number ∷ numbers) entries) where
    often_before : (z : ℤ) → cond (is_number number z) 1 0 + count z numbers ≡ how_often z entries
    often_before z = sym (count_cons z number numbers) ∙ are.often z

    own_before : 1 + count number numbers ≡ how_often number entries
    own_before = ap (λ b. cond b 1 0 + count number numbers) (sym (itself number)) ∙ often_before number

    left_by : (o : Option ℕ) → unwrap_or o 0 ≡ count number numbers → (z : ℤ) (b : Bool) → is_number number z ≡ b
        → count z numbers ≡ unwrap_or (cond b o (lookup (is_number z) entries)) 0
    left_by o own z true e = ap (λ y. count y numbers) (sym (number_is number z e)) ∙ sym own
    left_by o own z false e =
        let before = often_before z in
        let none : ◌≡◌ {A = ℕ} (cond (is_number number z) 1 0) 0 = ap (λ b. cond b 1 0) e in
        omega (arith, before, none)

    still_by : (o : Option ℕ) → IfSome o (λ m. 0 < m) → (z : ℤ) (b : Bool)
        → IfSome (cond b o (lookup (is_number z) entries)) (λ m. 0 < m)
    still_by o own z true = own
    still_by o own z false = are.some z

    pub taken : (o : Option ℕ) → unwrap_or o 0 ≡ count number numbers → IfSome o (λ m. 0 < m)
        → IsWritten entries new number o → AreNumbersOf numbers new
    taken o own some made = record {
      often = λ z. left_by o own z (is_number number z) refl ∙ sym (ap (λ r. unwrap_or r 0) (made z));
      some = λ z. subst (λ r. IfSome r (λ m. 0 < m)) (sym (made z)) (still_by o some z (is_number number z));
    }

pub taken_some : (entries new : Entries) (number : ℤ) (n : ℕ) → n ≡ how_often number entries → 1 < n
    → IsWritten entries new number (Some (n - 1))
    → (numbers : List ℤ) → AreNumbersOf (number ∷ numbers) entries → AreNumbersOf numbers new
taken_some entries new number n is more made numbers are =
    let own = own_before entries new number numbers are in
    taken entries new number numbers are (Some (n - 1)) (omega (arith, own, is)) (omega (arith, more)) made

pub taken_last : (entries new : Entries) (number : ℤ) (n : ℕ) → n ≡ how_often number entries → n ≤ 1
    → IsWritten entries new number None
    → (numbers : List ℤ) → AreNumbersOf (number ∷ numbers) entries → AreNumbersOf numbers new
taken_last entries new number n is few made numbers are =
    let own = own_before entries new number numbers are in
    taken entries new number numbers are None (omega (arith, own, is, few)) tt made

-- ---- how many

count_most : (z : ℤ) (xs : List ℤ) → count z xs ≤ length xs
count_most z [] = omega arith
count_most z (x ∷ xs) = most_by z x xs (is_number x z) refl (count_most z xs) where
  most_by : (z x : ℤ) (xs : List ℤ) (b : Bool) → is_number x z ≡ b → count z xs ≤ length xs
      → count z (x ∷ xs) ≤ length (x ∷ xs)
  most_by z x xs true e rest =
      let one : ◌≡◌ {A = ℕ} (cond (is_number x z) 1 0) 1 = ap (λ b. cond b 1 0) e in
      omega (arith, count_cons z x xs, one, rest)
  most_by z x xs false e rest =
      let none : ◌≡◌ {A = ℕ} (cond (is_number x z) 1 0) 0 = ap (λ b. cond b 1 0) e in
      omega (arith, count_cons z x xs, none, rest)

pub often_few : (numbers : List ℤ) (entries : Entries) (number : ℤ) (n most : ℕ) → n ≡ how_often number entries
    → AreNumbersOf numbers entries → length numbers + 1 < most → n + 1 < most
often_few numbers entries number n most is are few =
    let often = are.often number in
    omega (arith, is, often, few, count_most number numbers)

-- ---- the least and the greatest

found : (o : Option ℕ) (n : ℕ) → o ≡ Some n → IfSome o (λ m. 0 < m) → 0 < unwrap_or o 0
found None n is some = absurd cc
found (Some m) n is some = some

above_by : (x y : ℤ) (r : Ordering) → MatchOrdering r (x <ℤ y) (x ≡ y) (y <ℤ x) → is_gt r ≡ false → y <ℤ x → ⊥
above_by x y Less m e below = absurd (omega (arith, ints, m, below))
above_by x y Equal m e below = absurd (omega (arith, ints, m, below))
above_by x y Greater m e below = absurd cc

below_by : (x y : ℤ) (r : Ordering) → MatchOrdering r (x <ℤ y) (x ≡ y) (y <ℤ x) → is_lt r ≡ false → x <ℤ y → ⊥
below_by x y Less m e above = absurd cc
below_by x y Equal m e above = absurd (omega (arith, ints, m, above))
below_by x y Greater m e above = absurd (omega (arith, ints, m, above))

absent_by : (o : Option ℕ) → (IsSome o → ⊥) → unwrap_or o 0 ≡ 0
absent_by None none = refl
absent_by (Some m) none = absurd (none refl)

module _ (entries : Entries) (x : ℤ) (n : ℕ) (is : lookup (is_number x) entries ≡ Some n) where
  pub least : ((q : ℤ) → IsSome (lookup (is_number q) entries) → is_gt (int_cmp x q) ≡ false)
      → (numbers : List ℤ) → AreNumbersOf numbers entries → Some x ≡ least_of numbers
  least lowest numbers are = sym (least_is numbers entries x are.often (record {
    comes = found (lookup (is_number x) entries) n is (are.some x);
    none_below = λ y below. absent_by (lookup (is_number y) entries) (λ there.
        above_by x y (int_cmp x y) (int_ranked x y (int_cmp x y) refl) (lowest y there) below);
  }))

  pub greatest : ((q : ℤ) → IsSome (lookup (is_number q) entries) → is_lt (int_cmp x q) ≡ false)
      → (numbers : List ℤ) → AreNumbersOf numbers entries → Some x ≡ greatest_of numbers
  greatest highest numbers are = sym (greatest_is numbers entries x are.often (record {
    comes = found (lookup (is_number x) entries) n is (are.some x);
    none_above = λ y above. absent_by (lookup (is_number y) entries) (λ there.
        below_by x y (int_cmp x y) (int_ranked x y (int_cmp x y) refl) (highest y there) above);
  }))

-- where there is no entry there is no number
pub nothing : (entries : Entries) (numbers : List ℤ) → entries ≡ [] → AreNumbersOf numbers entries → numbers ≡ []
nothing entries [] none are = refl
nothing entries (x ∷ numbers) none are =
    let often = are.often x in
    let own = count_cons x x numbers in
    let one : ◌≡◌ {A = ℕ} (cond (is_number x x) 1 0) 1 = ap (λ b. cond b 1 0) (itself x) in
    let empty : how_often x entries ≡ 0 = ap (how_often x) none in
    absurd (omega (arith, often, own, one, empty))

pub no_entries : {A : Type 0} (entries : List A) → (0 < length entries → ⊥) → entries ≡ []
no_entries [] none = refl
no_entries (entry ∷ entries) none = absurd (none (omega arith))

pub settled : {V E P Q : Type 0} (r : Result V E) → OnOk r P → OnErr r Q → (Q → ⊥) → P
settled (Ok value) holds refused never = holds
settled (Err fault) holds refused never = absurd (never refused)

pub there : (o : Option ℕ) → 0 < unwrap_or o 0 → o ≡ None → ⊥
there None some is = absurd (omega (arith, some))
there (Some n) some is = absurd cc
