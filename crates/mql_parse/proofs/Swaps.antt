-- Two texts that are the same up to a number, with 1 in its place in the second, and the same byte behind both.
use Rattle.std.proofs.Common.{◌≡◌, ◌⊎◌, inl, inr, ℕ, ◌+◌, ◌≤◌, Bool, true, false, ◌==◌, ◌&&◌, not, List, [], ◌∷◌, ◌++◌}
use Rattle.std.proofs.Common.{length, refl, sym, ◌∙◌, subst, arith, if◌then◌else◌}
use Rattle.std.proofs.lemmas.Bool.{false≢true}
use Rattle.std.proofs.lemmas.Bool.Decides.{nat_tests}
use Rattle.mql_ast.specs.Tokens.{is_blank, is_digit, Rest, first_of, behind_first, behind_blanks, head, behind, skip}
use Rattle.mql_parse.specs.FaultNumbers.{AreDigits}

-- a digit from 1 to 9
abbrev pub counts : ℕ → Bool
counts b = is_digit b && not (b == 48)

-- a number by its first digit and the others, the byte behind it with its place in the first text, and what follows
pub record Swap : Type 0 where
  pub at : ℕ
  pub digit : ℕ
  pub digits : List ℕ
  pub byte : ℕ
  pub after : List ℕ
  pub more : List ℕ
  pub begins : counts digit ≡ true
  pub goes_on : AreDigits digits

abbrev pub numbered : Swap → List ℕ
numbered x = x.digit ∷ (x.digits ++ x.byte ∷ x.after)

abbrev pub with_one : Swap → List ℕ
with_one x = 49 ∷ x.byte ∷ x.more

-- what is left of both in front of the number
pub record Ahead (x : Swap) (s t : Rest) : Type 0 where
  pub common : List ℕ
  pub bytes : s.bytes ≡ common ++ numbered x
  pub others : t.bytes ≡ common ++ with_one x
  pub place : s.at + length common + 1 + length x.digits ≡ x.at

-- what is left of both behind it
pub record AtByte (x : Swap) (s t : Rest) : Type 0 where
  pub bytes : s.bytes ≡ x.byte ∷ x.after
  pub others : t.bytes ≡ x.byte ∷ x.more
  pub place : s.at ≡ x.at

abbrev pub Pair : Swap → Rest → Rest → Type 0
Pair x s t = Ahead x s t ⊎ AtByte x s t

abbrev pub rest_at : ℕ → List ℕ → Rest
rest_at at bs = record { at = at; bytes = bs }

pub ahead : (x : Swap) (common : List ℕ) (m n : ℕ) → m + length common + 1 + length x.digits ≡ x.at →
    Ahead x (rest_at m (common ++ numbered x)) (rest_at n (common ++ with_one x))
ahead x common m n h = record { common = common; bytes = refl; others = refl; place = h }

pub at_byte : (x : Swap) (m n : ℕ) → m ≡ x.at → AtByte x (rest_at m (x.byte ∷ x.after)) (rest_at n (x.byte ∷ x.more))
at_byte x m n h = record { bytes = refl; others = refl; place = h }

-- what holds of any two rests that face each other so
pub over_pair : (x : Swap) (P : Rest → Rest → Type 0) →
    ((common : List ℕ) (m n : ℕ) → m + length common + 1 + length x.digits ≡ x.at →
    P (rest_at m (common ++ numbered x)) (rest_at n (common ++ with_one x))) →
    ((m n : ℕ) → m ≡ x.at → P (rest_at m (x.byte ∷ x.after)) (rest_at n (x.byte ∷ x.more))) →
    (s t : Rest) → Pair x s t → P s t
over_pair x P f g s t (inl c) =
    subst (λ bs. P (rest_at s.at bs) t) (sym c.bytes)
    (subst (λ bs. P (rest_at s.at (c.common ++ numbered x)) (rest_at t.at bs)) (sym c.others)
    (f c.common s.at t.at c.place))
over_pair x P f g s t (inr c) =
    subst (λ bs. P (rest_at s.at bs) t) (sym c.bytes)
    (subst (λ bs. P (rest_at s.at (x.byte ∷ x.after)) (rest_at t.at bs)) (sym c.others) (g s.at t.at c.place))

-- a test that tells no digit from 1 to 9 from another
abbrev pub Blind : (ℕ → Bool) → Type 0
Blind test = (d : ℕ) → counts d ≡ true → test d ≡ test 49

pub false_unless : (t : Bool) → (t ≡ true → ⊥) → t ≡ false
false_unless true h = absurd (h refl)
false_unless false h = refl

pub no_count : (d k : ℕ) → counts d ≡ true → counts k ≡ false → (d == k) ≡ false
no_count d k h g = false_unless (d == k) (λ e. grind (arith, nat_tests))

pub blind_sign : (k : ℕ) → counts k ≡ false → Blind (λ b. b == k)
blind_sign k g d h = no_count d k h g ∙ sym (no_count 49 k refl g)

pub head_alike : (x : Swap) (test : ℕ → Bool) → Blind test → (s t : Rest) → Pair x s t → test (head t) ≡ test (head s)
head_alike x test blind = over_pair x (λ s t. test (head t) ≡ test (head s)) (λ common m n h. of_common common)
    (λ m n h. refl)
  where
    of_common : (common : List ℕ) → test (first_of (common ++ with_one x)) ≡ test (first_of (common ++ numbered x))
    of_common [] = sym (blind x.digit x.begins)
    of_common (c ∷ common) = refl

count_no_blank : (d : ℕ) → counts d ≡ true → is_blank d ≡ false
count_no_blank d h = grind (arith, nat_tests)

pub blanks_on : (n at : ℕ) (bs : List ℕ) → n ≤ at → n ≤ (behind_blanks at bs).at
blanks_on n at [] h = h
blanks_on n at (b ∷ bs) h = either (is_blank b) (blanks_on n (at + 1) bs (omega (arith, h)))
  where
    either : (t : Bool) → n ≤ (behind_blanks (at + 1) bs).at →
        n ≤ (if t then behind_blanks (at + 1) bs else rest_at at (b ∷ bs)).at
    either true k = k
    either false k = h

blanks_ahead : (x : Swap) (common : List ℕ) (m n : ℕ) → m + length common + 1 + length x.digits ≡ x.at →
    Pair x (behind_blanks m (common ++ numbered x)) (behind_blanks n (common ++ with_one x))
blanks_ahead x [] m n h =
    subst (λ t. Pair x (if t then behind_blanks (m + 1) (x.digits ++ x.byte ∷ x.after) else rest_at m (numbered x))
    (rest_at n (with_one x))) (sym (count_no_blank x.digit x.begins)) (inl (ahead x [] m n h))
blanks_ahead x (c ∷ common) m n h = either (is_blank c) (blanks_ahead x common (m + 1) (n + 1) (omega (arith, h)))
  where
    either : (t : Bool) →
        Pair x (behind_blanks (m + 1) (common ++ numbered x)) (behind_blanks (n + 1) (common ++ with_one x)) →
        Pair x (if t then behind_blanks (m + 1) (common ++ numbered x) else rest_at m (c ∷ (common ++ numbered x)))
        (if t then behind_blanks (n + 1) (common ++ with_one x) else rest_at n (c ∷ (common ++ with_one x)))
    either true k = k
    either false k = inl (ahead x (c ∷ common) m n h)

blanks_at : (x : Swap) (m n : ℕ) → m ≡ x.at → (behind_blanks m (x.byte ∷ x.after)).at ≤ x.at →
    Pair x (behind_blanks m (x.byte ∷ x.after)) (behind_blanks n (x.byte ∷ x.more))
blanks_at x m n h = either (is_blank x.byte)
  where
    either : (t : Bool) →
        (if t then behind_blanks (m + 1) x.after else rest_at m (x.byte ∷ x.after)).at ≤ x.at →
        Pair x (if t then behind_blanks (m + 1) x.after else rest_at m (x.byte ∷ x.after))
        (if t then behind_blanks (n + 1) x.more else rest_at n (x.byte ∷ x.more))
    either true l = absurd (omega (arith, h, l, blanks_on (m + 1) (m + 1) x.after (omega arith)))
    either false l = inr (at_byte x m n h)

pub skip_pair : (x : Swap) (s t : Rest) → Pair x s t → (skip s).at ≤ x.at → Pair x (skip s) (skip t)
unfolding skip
skip_pair x = over_pair x (λ s t. (skip s).at ≤ x.at → Pair x (skip s) (skip t))
    (λ common m n h l. blanks_ahead x common m n h) (blanks_at x)

pub behind_pair : (x : Swap) (s t : Rest) → Pair x s t → counts (head s) ≡ false → (behind s).at ≤ x.at →
    Pair x (behind s) (behind t)
behind_pair x = over_pair x (λ s t. counts (head s) ≡ false → (behind s).at ≤ x.at → Pair x (behind s) (behind t))
    of_common (λ m n h e l. absurd (omega (arith, h, l)))
  where
    of_common : (common : List ℕ) (m n : ℕ) → m + length common + 1 + length x.digits ≡ x.at →
        counts (first_of (common ++ numbered x)) ≡ false → (behind_first m (common ++ numbered x)).at ≤ x.at →
        Pair x (behind_first m (common ++ numbered x)) (behind_first n (common ++ with_one x))
    of_common [] m n h e l = absurd (false≢true (sym e ∙ x.begins))
    of_common (c ∷ common) m n h e l = inl (ahead x common (m + 1) (n + 1) (omega (arith, h)))
