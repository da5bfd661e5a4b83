-- What a reader expects comes first, or a text that goes on there with a line's end and another token is refused.
use Rattle.std.proofs.Common.{◌≡◌, ◌⊎◌, inl, inr, ℕ, ◌+◌, ◌<◌, ◌≤◌, Bool, true, false, ◌==◌, List, [], ◌∷◌, refl, sym}
use Rattle.std.proofs.Common.{ap, ◌∙◌, subst, arith, if◌then◌else◌, Result, Ok, Err}
use Rattle.std.proofs.lemmas.Bool.{false≢true, cases_lt}
use Rattle.std.proofs.Math.Nat.{eq-or-lt_of_le}
use Rattle.mon_value.specs.Answers.{◌>>=◌}
use Rattle.mql_ast.specs.Tokens.{is_alphabet, Rest, first_of, behind_first, head, behind, skip}
use Rattle.mql_parse.specs.declared.faults.ParseFault.{ParseFault}
use Rattle.mql_parse.specs.declared.faults.ParseKind.{ParseKind}
use Rattle.mql_parse.specs.declared.faults.ParseKind.TheVariants.{BadToken, Expected}
use Rattle.mql_parse.specs.declared.faults.What.{What}
use Rattle.mql_parse.specs.Outcomes.{Outcome, fault, kind_of_fault, unexpected_fault, sign, map_outcome, up_to_sign}
use Rattle.mql_parse.specs.Steadiness.{here, next, Reaches, Steady, unit_read}
use Rattle.mql_parse.proofs.FirstWords.{allowed, leads, allowed_later}
use Rattle.mql_parse.proofs.Spots.{beyond}
pub use Rattle.mql_parse.proofs.Spots.{Spot, instead, Splits, splits, over_splits, splits_head, splits_behind}
pub use Rattle.mql_parse.proofs.Spots.{splits_blank, splits_skip, splits_beyond}
use Rattle.mql_parse.proofs.Steady.{skip_on, steady_by, steady_from, steady_to, steady_bind, steady_ok, steady_if}
use Rattle.mql_parse.proofs.Steady.{steady_skip, steady_behind, steady_unexpected, steady_fault, head_test, next_test}
use Rattle.mql_parse.proofs.Steady.{steady_here, steady_next, pass_bind, unit_if}

-- this word allows the one at the spot
abbrev pub Begun : Spot → What → Type 0
Begun x w = allowed w x.word ≡ true

pub begun_later : (x : Spot) (v w : What) → leads v w ≡ true → Begun x v → Begun x w
begun_later x v w h g = allowed_later v w x.word h g

abbrev pub Failed : {A : Type 0} → Outcome A → Type 0
Failed (Ok y) = ⊥
Failed (Err f) = Unit {0}

pub failed_bind : {A B : Type 0} (o : Outcome A) (on : A × Rest → Outcome B) → Failed o → Failed (o >>= on)
failed_bind (Ok y) on h = absurd h
failed_bind (Err f) on h = tt

-- the same was read in the second text, up to the same place before the spot
abbrev pub ReadSame : {A : Type 0} → Spot → A → Rest → Outcome A → Type 0
ReadSame x a r other = (q : Rest) × ((other ≡ Ok (a, q)) × Splits x r q)

-- a part that ends at the spot is the same in the second text, or the second goes on with it there; a fault at the spot
-- expects what comes first, or the second is refused
abbrev pub MeetsOutcome : {A : Type 0} → Spot → (Rest → ℕ) → (A → Type 0) → Outcome A → Outcome A → Type 0
MeetsOutcome x to G (Ok y) other = to y.1 ≤ x.at → ReadSame x y.0 y.1 other ⊎ ((to y.1 ≡ x.at) × G y.0)
MeetsOutcome x to G (Err f) other =
    f.at ≡ x.at → (w : What) → f.kind ≡ Expected w → Begun x w ⊎ Failed other

-- what is claimed of a part that is read at the spot, where its first byte there is one that the word allows
abbrev pub WentOutcome : {A : Type 0} → Spot → (Rest → ℕ) → (A → Type 0) → Outcome A → Type 0
WentOutcome x to G (Ok y) = to y.1 ≤ x.at → (to y.1 ≡ x.at) × G y.0
WentOutcome x to G (Err f) = f.at ≡ x.at → (w : What) → f.kind ≡ Expected w → Begun x w

pub went_meets : {A : Type 0} (x : Spot) (to : Rest → ℕ) (G : A → Type 0) (o p : Outcome A) → WentOutcome x to G o →
    MeetsOutcome x to G o p
went_meets x to G (Ok y) p h = λ l. inr (h l)
went_meets x to G (Err f) p h = λ e w k. inl (h e w k)

pub record Meets {A : Type 0} (x : Spot) (from to : Rest → ℕ) (G : A → Type 0) (read : Rest → Outcome A) : Type 0 where
  pub steady : Steady from to read
  pub agrees : (s t : Rest) → Splits x s t → MeetsOutcome x to G (read s) (read t)

-- the same where a first place lies before the spot
pub record Before {A : Type 0} (x : Spot) (from to : Rest → ℕ) (G : A → Type 0) (read : Rest → Outcome A) : Type 0 where
  pub steady : Steady from to read
  pub agrees : (s t : Rest) → Splits x s t → from s < x.at → MeetsOutcome x to G (read s) (read t)

pub before_of : {A : Type 0} (x : Spot) (from to : Rest → ℕ) (G : A → Type 0) (read : Rest → Outcome A) →
    Meets x from to G read → Before x from to G read
before_of x from to G read k = record { steady = k.steady; agrees = λ s t c l. k.agrees s t c }

-- a part whose first token is of this word, or of a later one
abbrev pub FirstOutcome : {A : Type 0} → Spot → (Rest → ℕ) → What → Outcome A → Type 0
FirstOutcome x to w (Ok y) = x.at < to y.1
FirstOutcome x to w (Err f) = f.at ≡ x.at → (v : What) → f.kind ≡ Expected v → v ≡ w

pub record First {A : Type 0} (x : Spot) (from to : Rest → ℕ) (w : What) (read : Rest → Outcome A) : Type 0 where
  pub names : (s : Rest) → from s ≡ x.at → FirstOutcome x to w (read s)
  pub refuses : (s t : Rest) → Splits x s t → from s ≡ x.at → Begun x w ⊎ Failed (read t)

-- no more than was read
abbrev pub NoMore : {A : Type 0} → A → Type 0
NoMore a = ⊥

-- where what was looked at lies beyond the spot, nothing is claimed
pub beyond_meets : {A : Type 0} (x : Spot) (to : Rest → ℕ) (G : A → Type 0) (n : ℕ) (o p : Outcome A) →
    Reaches to n o → x.at < n → MeetsOutcome x to G o p
beyond_meets x to G n (Ok y) p h l = λ k. absurd (omega (arith, h, l, k))
beyond_meets x to G n (Err f) p h l = λ e w k. absurd (omega (arith, h, l, e))

pub beyond_went : {A : Type 0} (x : Spot) (to : Rest → ℕ) (G : A → Type 0) (n : ℕ) (o : Outcome A) →
    Reaches to n o → x.at < n → WentOutcome x to G o
beyond_went x to G n (Ok y) h l = λ k. absurd (omega (arith, h, l, k))
beyond_went x to G n (Err f) h l = λ e w k. absurd (omega (arith, h, l, e))

pub beyond_first : {A : Type 0} (x : Spot) (to : Rest → ℕ) (w : What) (n : ℕ) (o : Outcome A) → Reaches to n o →
    x.at < n → FirstOutcome x to w o
beyond_first x to w n (Ok y) h l = omega (arith, h, l)
beyond_first x to w n (Err f) h l = λ e v k. absurd (omega (arith, h, l, e))

-- a first part at the spot
pub first_went : {A : Type 0} (x : Spot) (to : Rest → ℕ) (G : A → Type 0) (w : What) (o : Outcome A) →
    FirstOutcome x to w o → Begun x w → WentOutcome x to G o
first_went x to G w (Ok y) h g = λ l. absurd (omega (arith, h, l))
first_went x to G w (Err f) h g = λ e v k. subst (Begun x) (sym (h e v k)) g

pub first_meets : {A : Type 0} (x : Spot) (to : Rest → ℕ) (G : A → Type 0) (w : What) (o p : Outcome A) →
    FirstOutcome x to w o → Begun x w ⊎ Failed p → MeetsOutcome x to G o p
first_meets x to G w (Ok y) p h g = λ l. absurd (omega (arith, h, l))
first_meets x to G w (Err f) p h (inl g) = λ e v k. inl (subst (Begun x) (sym (h e v k)) g)
first_meets x to G w (Err f) p h (inr g) = λ e v k. inr g

-- one reader behind another
module _ {A B : Type 0} (x : Spot) (mid to : Rest → ℕ) (G : A → Type 0) (H : B → Type 0) (on : A × Rest → Outcome B)
    (g : (a : A) → Meets x mid to H (λ r. on (a, r)))
    (went : (a : A) (r : Rest) → G a → mid r ≡ x.at → WentOutcome x to H (on (a, r))) where
  bind_on : (a : A) (r : Rest) (p : Outcome A) → ReadSame x a r p → MeetsOutcome x to H (on (a, r)) (p >>= on)
  bind_on a r p c = subst (λ z. MeetsOutcome x to H (on (a, r)) (z >>= on)) (sym c.1.0) ((g a).agrees r c.0 c.1.1)

  bind_meets : (o p : Outcome A) → MeetsOutcome x mid G o p → MeetsOutcome x to H (o >>= on) (p >>= on)
  bind_meets (Ok (a, r)) p h = either (cases_lt x.at (mid r))
    where
      same : ReadSame x a r p ⊎ ((mid r ≡ x.at) × G a) → MeetsOutcome x to H (on (a, r)) (p >>= on)
      same (inl c) = bind_on a r p c
      same (inr c) = went_meets x to H (on (a, r)) (p >>= on) (went a r c.1 c.0)

      either : (x.at < mid r) ⊎ (mid r ≤ x.at) → MeetsOutcome x to H (on (a, r)) (p >>= on)
      either (inl l) = beyond_meets x to H (mid r) (on (a, r)) (p >>= on) ((g a).steady.reaches r) l
      either (inr l) = same (h l)
  bind_meets (Err f) p h = λ e w k. by_part w (h e w k)
    where
      by_part : (w : What) → Begun x w ⊎ Failed p → Begun x w ⊎ Failed (p >>= on)
      by_part w (inl b) = inl b
      by_part w (inr b) = inr (failed_bind p on b)

pub meets_bind : {A B : Type 0} (x : Spot) (from mid to : Rest → ℕ) (G : A → Type 0) (H : B → Type 0)
    (read : Rest → Outcome A) (on : A × Rest → Outcome B) → Meets x from mid G read →
    ((a : A) → Meets x mid to H (λ r. on (a, r))) →
    ((a : A) (r : Rest) → G a → mid r ≡ x.at → WentOutcome x to H (on (a, r))) →
    Meets x from to H (λ s. read s >>= on)
meets_bind x from mid to G H read on f g went = record {
  steady = steady_bind from mid to read on f.steady (λ a. (g a).steady);
  agrees = λ s t c. bind_meets x mid to G H on g went (read s) (read t) (f.agrees s t c);
}

-- what goes on with a part that ends at the spot alone
pub meets_then : {A B : Type 0} (x : Spot) (from mid to : Rest → ℕ) (H : B → Type 0)
    (read : Rest → Outcome A) (on : A × Rest → Outcome B) → Meets x from mid NoMore read →
    ((a : A) → Meets x mid to H (λ r. on (a, r))) → Meets x from to H (λ s. read s >>= on)
meets_then x from mid to H read on f g =
    meets_bind x from mid to NoMore H read on f g (λ a r n e. absurd n)

pub meets_ok : {A : Type 0} (x : Spot) (place : Rest → ℕ) (G : A → Type 0) (a : A) →
    Meets x place place G (λ s. Ok (a, s))
meets_ok x place G a = record { steady = steady_ok place a; agrees = λ s t c l. inl (t, (refl, c)) }

pub meets_map : {A B : Type 0} (x : Spot) (from to : Rest → ℕ) (G : A → Type 0) (H : B → Type 0) (f : A → B)
    (read : Rest → Outcome A) → ((a : A) → G a → H (f a)) → Meets x from to G read →
    Meets x from to H (λ s. map_outcome f (read s))
meets_map x from to G H f read h k =
    meets_bind x from to to G H read (λ y. Ok (f y.0, y.1)) k (λ a. meets_ok x to H (f a)) (λ a r n e l. (e, h a n))

-- what goes on with a part goes on with what it is part of
pub meets_by : {A : Type 0} (x : Spot) (from to : Rest → ℕ) (G : A → Type 0) (read as_read : Rest → Outcome A) →
    ((s : Rest) → read s ≡ as_read s) → Meets x from to G as_read → Meets x from to G read
meets_by x from to G read as_read h k = record {
  steady = steady_by from to read as_read h k.steady;
  agrees = λ s t c. subst (λ o. MeetsOutcome x to G o (read t)) (sym (h s))
      (subst (λ o. MeetsOutcome x to G (as_read s) o) (sym (h t)) (k.agrees s t c));
}

pub before_by : {A : Type 0} (x : Spot) (from to : Rest → ℕ) (G : A → Type 0) (read as_read : Rest → Outcome A) →
    ((s : Rest) → read s ≡ as_read s) → Before x from to G as_read → Before x from to G read
before_by x from to G read as_read h k = record {
  steady = steady_by from to read as_read h k.steady;
  agrees = λ s t c l. subst (λ o. MeetsOutcome x to G o (read t)) (sym (h s))
      (subst (λ o. MeetsOutcome x to G (as_read s) o) (sym (h t)) (k.agrees s t c l));
}

pub first_by : {A : Type 0} (x : Spot) (from to : Rest → ℕ) (w : What) (read as_read : Rest → Outcome A) →
    ((s : Rest) → read s ≡ as_read s) → First x from to w as_read → First x from to w read
first_by x from to w read as_read h k = record {
  names = λ s e. subst (FirstOutcome x to w) (sym (h s)) (k.names s e);
  refuses = λ s t c e. subst (λ o. Begun x w ⊎ Failed o) (sym (h t)) (k.refuses s t c e);
}

-- a reader that looks farther at once
pub meets_from : {A : Type 0} (x : Spot) (to : Rest → ℕ) (G : A → Type 0) (read : Rest → Outcome A) →
    Meets x next to G read → Meets x here to G read
meets_from x to G read k = record { steady = steady_from to read k.steady; agrees = k.agrees }

wider : {A : Type 0} (x : Spot) (G : A → Type 0) (o p : Outcome A) → MeetsOutcome x here NoMore o p →
    MeetsOutcome x next G o p
wider x G (Ok y) p h = λ l. by_part (h (omega (arith, l, skip_on y.1)))
  where
    by_part : ReadSame x y.0 y.1 p ⊎ ((y.1.at ≡ x.at) × ⊥) → ReadSame x y.0 y.1 p ⊎ ((next y.1 ≡ x.at) × G y.0)
    by_part (inl c) = inl c
    by_part (inr c) = absurd c.1
wider x G (Err f) p h = h

-- a token, behind which blanks may come
pub meets_to : {A : Type 0} (x : Spot) (from : Rest → ℕ) (G : A → Type 0) (read : Rest → Outcome A) →
    Meets x from here NoMore read → Meets x from next G read
meets_to x from G read k = record {
  steady = steady_to from read k.steady;
  agrees = λ s t c. wider x G (read s) (read t) (k.agrees s t c);
}

-- a reader that is at fault here
pub kind_names : (w : What) (bs : List ℕ) (v : What) → kind_of_fault w bs ≡ Expected v → v ≡ w
kind_names w [] v h = cc
kind_names w (b ∷ bs) v h = either (is_alphabet b) h
  where
    either : (t : Bool) → (if t then Expected w else BadToken) ≡ Expected v → v ≡ w
    either true k = cc
    either false k = absurd (cc)

pub first_unexpected : {A : Type 0} (x : Spot) (to : Rest → ℕ) (w : What) →
    First {A = A} x next to w (λ s. Err (unexpected_fault w (skip s)))
first_unexpected x to w = record {
  names = λ s h e v k. kind_names w (skip s).bytes v k;
  refuses = λ s t c h. inr tt;
}

-- by the byte that stands behind blanks
pub passed_far : {A : Type 0} (x : Spot) (to : Rest → ℕ) (w : What) (test : ℕ → Bool) → test 0 ≡ false →
    (read : Rest → Outcome A) → Steady here to read → (s : Rest) → next s ≡ x.at → test (head (skip s)) ≡ true →
    FirstOutcome x to w (read (behind (skip s)))
passed_far x to w test z read k s h e =
    beyond_first x to w (behind (skip s)).at (read (behind (skip s))) (k.reaches (behind (skip s)))
    (omega (arith, h, of_bytes (skip s).at (skip s).bytes e))
  where
    of_bytes : (at : ℕ) (bs : List ℕ) → test (first_of bs) ≡ true → at + 1 ≤ (behind_first at bs).at
    of_bytes at [] g = absurd (false≢true (sym z ∙ g))
    of_bytes at (b ∷ bs) g = omega arith

pub if_first : {A : Type 0} (x : Spot) (to : Rest → ℕ) (w : What) (t : Bool) (o p : Outcome A) →
    (t ≡ true → FirstOutcome x to w o) → FirstOutcome x to w p → FirstOutcome x to w (if t then o else p)
if_first x to w true o p h k = h refl
if_first x to w false o p h k = k

if_refuses : {A : Type 0} (x : Spot) (w : What) (t : Bool) (o p : Outcome A) → (t ≡ true → Begun x w ⊎ Failed o) →
    Begun x w ⊎ Failed p → Begun x w ⊎ Failed (if t then o else p)
if_refuses x w true o p h k = h refl
if_refuses x w false o p h k = k

-- where the reader behind the test may refuse what stands at the spot
pub first_if_or : {A : Type 0} (x : Spot) (to : Rest → ℕ) (w : What) (test : ℕ → Bool) (read other : Rest → Outcome A) →
    ((s : Rest) → next s ≡ x.at → test (head (skip s)) ≡ true → FirstOutcome x to w (read s)) →
    ((t : Rest) → skip t ≡ beyond x → test x.byte ≡ true → Begun x w ⊎ Failed (read t)) → First x next to w other →
    First x next to w (λ s. if test (head (skip s)) then read s else other s)
first_if_or x to w test read other far begun k = record {
  names = λ s h. if_first x to w (test (head (skip s))) (read s) (other s) (far s h) (k.names s h);
  refuses = λ s t c h. subst (λ b. Begun x w ⊎ Failed (if test b then read t else other t))
      (sym (ap head (splits_beyond x s t c h)))
      (if_refuses x w (test x.byte) (read t) (other t) (begun t (splits_beyond x s t c h)) (k.refuses s t c h));
}

pub first_if : {A : Type 0} (x : Spot) (to : Rest → ℕ) (w : What) (test : ℕ → Bool) (read other : Rest → Outcome A) →
    ((s : Rest) → next s ≡ x.at → test (head (skip s)) ≡ true → FirstOutcome x to w (read s)) →
    (test x.byte ≡ true → Begun x w) → First x next to w other →
    First x next to w (λ s. if test (head (skip s)) then read s else other s)
first_if x to w test read other far begun k = first_if_or x to w test read other far (λ t e h. inl (begun h)) k

pub if_same : {A : Type 0} (x : Spot) (to : Rest → ℕ) (G : A → Type 0) (t u : Bool) (o o' p p' : Outcome A) → u ≡ t →
    MeetsOutcome x to G o o' → MeetsOutcome x to G p p' →
    MeetsOutcome x to G (if t then o else p) (if u then o' else p')
if_same x to G true u o o' p p' h f g =
    subst (λ b. MeetsOutcome x to G o (if b then o' else p')) (sym h) f
if_same x to G false u o o' p p' h f g =
    subst (λ b. MeetsOutcome x to G p (if b then o' else p')) (sym h) g

-- before the spot, at it and beyond it
pub by_place : {P : Type 0} (n m : ℕ) → (n < m → P) → (n ≡ m → P) → (m < n → P) → P
by_place {P = P} n m f g h = either (cases_lt m n)
  where
    inner : (n ≡ m) ⊎ (n < m) → P
    inner (inl e) = g e
    inner (inr l) = f l

    either : (m < n) ⊎ (n ≤ m) → P
    either (inl l) = h l
    either (inr l) = inner (eq-or-lt_of_le l)

-- a part that is read before the spot, and whose first token is of this word, or of a later one
pub meets_of : {A : Type 0} (x : Spot) (from to : Rest → ℕ) (G : A → Type 0) (w : What) (read : Rest → Outcome A) →
    First x from to w read → Before x from to G read → Meets x from to G read
meets_of x from to G w read first k = record {
  steady = k.steady;
  agrees = λ s t c. by_place (from s) x.at (λ l. k.agrees s t c l)
      (λ e. first_meets x to G w (read s) (read t) (first.names s e) (first.refuses s t c e))
      (λ l. beyond_meets x to G (from s) (read s) (read t) (k.steady.reaches s) l);
}

pub first_on : {A B : Type 0} (x : Spot) (mid to : Rest → ℕ) (w : What) (o : Outcome A) (on : A × Rest → Outcome B) →
    FirstOutcome x mid w o → ((a : A) → Steady mid to (λ r. on (a, r))) → FirstOutcome x to w (o >>= on)
first_on x mid to w (Ok (a, r)) on h g = beyond_first x to w (mid r) (on (a, r)) ((g a).reaches r) h
first_on x mid to w (Err f) on h g = h

pub first_bind : {A B : Type 0} (x : Spot) (from mid to : Rest → ℕ) (w : What) (read : Rest → Outcome A)
    (on : A × Rest → Outcome B) → First x from mid w read → ((a : A) → Steady mid to (λ r. on (a, r))) →
    First x from to w (λ s. read s >>= on)
first_bind {A = A} {B = B} x from mid to w read on f g = record {
  names = λ s h. first_on x mid to w (read s) on (f.names s h) g;
  refuses = λ s t c h. refuse (read t) (f.refuses s t c h);
}
  where
    refuse : (o : Outcome A) → Begun x w ⊎ Failed o → Begun x w ⊎ Failed (o >>= on)
    refuse o (inl b) = inl b
    refuse o (inr b) = inr (failed_bind o on b)

-- choices by a byte
pub before_if : {A : Type 0} (x : Spot) (to : Rest → ℕ) (G : A → Type 0) (test : ℕ → Bool)
    (read other : Rest → Outcome A) → Before x next to G read → Before x next to G other →
    Before x next to G (λ s. if test (head (skip s)) then read s else other s)
before_if x to G test read other f g = record {
  steady = steady_if next to (λ s. test (head (skip s))) read other (next_test test) f.steady g.steady;
  agrees = λ s t c l. if_same x to G (test (head (skip s))) (test (head (skip t))) (read s) (read t) (other s) (other t)
      (ap test (splits_head x (skip s) (skip t) (splits_skip x s t c l) l)) (f.agrees s t c l) (g.agrees s t c l);
}

pub before_if_here : {A : Type 0} (x : Spot) (to : Rest → ℕ) (G : A → Type 0) (test : ℕ → Bool)
    (read other : Rest → Outcome A) → Before x here to G read → Before x here to G other →
    Before x here to G (λ s. if test (head s) then read s else other s)
before_if_here x to G test read other f g = record {
  steady = steady_if here to (λ s. test (head s)) read other (head_test test) f.steady g.steady;
  agrees = λ s t c l. if_same x to G (test (head s)) (test (head t)) (read s) (read t) (other s) (other t)
      (ap test (splits_head x s t c l)) (f.agrees s t c l) (g.agrees s t c l);
}

-- behind blanks, behind a byte and behind both
pub before_skip : {A : Type 0} (x : Spot) (to : Rest → ℕ) (G : A → Type 0) (read : Rest → Outcome A) →
    Before x here to G read → Before x next to G (λ s. read (skip s))
before_skip x to G read k = record {
  steady = steady_skip to read k.steady;
  agrees = λ s t c l. k.agrees (skip s) (skip t) (splits_skip x s t c l) l;
}

pub before_behind : {A : Type 0} (x : Spot) (to : Rest → ℕ) (G : A → Type 0) (read : Rest → Outcome A) →
    Meets x here to G read → Before x here to G (λ s. read (behind s))
before_behind x to G read k = record {
  steady = steady_behind to read k.steady;
  agrees = λ s t c l. k.agrees (behind s) (behind t) (splits_behind x s t c l);
}

pub before_behind_skip : {A : Type 0} (x : Spot) (to : Rest → ℕ) (G : A → Type 0) (read : Rest → Outcome A) →
    Meets x here to G read → Before x next to G (λ s. read (behind (skip s)))
before_behind_skip x to G read k = before_skip x to G (λ s. read (behind s)) (before_behind x to G read k)

pub before_part_behind : {A : Type 0} (x : Spot) (to : Rest → ℕ) (G : A → Type 0) (read : Rest → Outcome A) →
    Meets x next to G read → Before x next to G (λ s. read (behind (skip s)))
before_part_behind x to G read k = before_behind_skip x to G read (meets_from x to G read k)

pub before_unexpected : {A : Type 0} (x : Spot) (to : Rest → ℕ) (G : A → Type 0) (w : What) →
    Before {A = A} x here to G (λ s. Err (unexpected_fault w s))
before_unexpected x to G w = record {
  steady = steady_unexpected to w;
  agrees = λ s t c l e. absurd (omega (arith, l, e));
}

pub before_fault : {A : Type 0} (x : Spot) (to : Rest → ℕ) (G : A → Type 0) (kind : ParseKind) →
    Before {A = A} x here to G (λ s. Err (fault kind s))
before_fault x to G kind = record {
  steady = steady_fault to kind;
  agrees = λ s t c l e. absurd (omega (arith, l, e));
}

-- a reader behind another, before the spot
pub before_bind : {A B : Type 0} (x : Spot) (from mid to : Rest → ℕ) (G : A → Type 0) (H : B → Type 0)
    (read : Rest → Outcome A) (on : A × Rest → Outcome B) → Before x from mid G read →
    ((a : A) → Meets x mid to H (λ r. on (a, r))) →
    ((a : A) (r : Rest) → G a → mid r ≡ x.at → WentOutcome x to H (on (a, r))) →
    Before x from to H (λ s. read s >>= on)
before_bind x from mid to G H read on f g went = record {
  steady = steady_bind from mid to read on f.steady (λ a. (g a).steady);
  agrees = λ s t c l. bind_meets x mid to G H on g went (read s) (read t) (f.agrees s t c l);
}

pub before_then : {A B : Type 0} (x : Spot) (from mid to : Rest → ℕ) (H : B → Type 0) (read : Rest → Outcome A)
    (on : A × Rest → Outcome B) → Before x from mid NoMore read → ((a : A) → Meets x mid to H (λ r. on (a, r))) →
    Before x from to H (λ s. read s >>= on)
before_then x from mid to H read on f g = before_bind x from mid to NoMore H read on f g (λ a r n e. absurd n)

-- readers of what is left alone
pub meets_behind_pass : {B : Type 0} (x : Spot) (from mid to : Rest → ℕ) (H : B → Type 0)
    (pass : Rest → Result Rest ParseFault) (on : Rest → Outcome B) →
    Meets x from mid NoMore (λ s. unit_read (pass s)) → Meets x mid to H on →
    Meets x from to H (λ s. pass s >>= on)
meets_behind_pass x from mid to H pass on f g =
    meets_by x from to H (λ s. pass s >>= on) (λ s. unit_read (pass s) >>= λ y. on y.1) (λ s. pass_bind (pass s) on)
    (meets_then x from mid to H (λ s. unit_read (pass s)) (λ y. on y.1) f (λ a. g))

pub before_behind_pass : {B : Type 0} (x : Spot) (from mid to : Rest → ℕ) (H : B → Type 0)
    (pass : Rest → Result Rest ParseFault) (on : Rest → Outcome B) →
    Before x from mid NoMore (λ s. unit_read (pass s)) → Meets x mid to H on →
    Before x from to H (λ s. pass s >>= on)
before_behind_pass x from mid to H pass on f g =
    before_by x from to H (λ s. pass s >>= on) (λ s. unit_read (pass s) >>= λ y. on y.1) (λ s. pass_bind (pass s) on)
    (before_then x from mid to H (λ s. unit_read (pass s)) (λ y. on y.1) f (λ a. g))

pub first_behind_pass : {B : Type 0} (x : Spot) (from mid to : Rest → ℕ) (w : What)
    (pass : Rest → Result Rest ParseFault) (on : Rest → Outcome B) →
    First x from mid w (λ s. unit_read (pass s)) → Steady mid to on → First x from to w (λ s. pass s >>= on)
first_behind_pass x from mid to w pass on f g =
    first_by x from to w (λ s. pass s >>= on) (λ s. unit_read (pass s) >>= λ y. on y.1) (λ s. pass_bind (pass s) on)
    (first_bind x from mid to w (λ s. unit_read (pass s)) (λ y. on y.1) f (λ a. g))

-- a sign
abbrev sign_read : ℕ → What → Rest → Outcome (Unit {0})
sign_read b w s = if head (skip s) == b then Ok (tt, behind (skip s)) else Err (unexpected_fault w (skip s))

sign_is : (b : ℕ) (w : What) (s : Rest) → unit_read (sign b w s) ≡ sign_read b w s
sign_is b w s = unit_if (head (skip s) == b) (Ok (behind (skip s))) (Err (unexpected_fault w (skip s)))

sign_far : (x : Spot) (b : ℕ) (w : What) → (0 == b) ≡ false → (s : Rest) → next s ≡ x.at →
    (head (skip s) == b) ≡ true → FirstOutcome {A = Unit {0}} x here w (Ok (tt, behind (skip s)))
sign_far x b w z s e k =
    passed_far {A = Unit {0}} x here w (λ c. c == b) z (λ s. Ok (tt, s)) (steady_ok here tt) s e k

pub first_sign : (x : Spot) (b : ℕ) (w : What) → (0 == b) ≡ false → ((x.byte == b) ≡ true → Begun x w) →
    First x next here w (λ s. unit_read (sign b w s))
first_sign x b w z h =
    first_by x next here w (λ s. unit_read (sign b w s)) (sign_read b w) (sign_is b w)
    (first_if x here w (λ c. c == b) (λ s. Ok (tt, behind (skip s))) (λ s. Err (unexpected_fault w (skip s)))
    (sign_far x b w z) h (first_unexpected x here w))

pub before_sign : (x : Spot) (b : ℕ) (w : What) → Before x next here NoMore (λ s. unit_read (sign b w s))
before_sign x b w =
    before_by x next here NoMore (λ s. unit_read (sign b w s)) (sign_read b w) (sign_is b w)
    (before_if x here NoMore (λ c. c == b) (λ s. Ok (tt, behind (skip s))) (λ s. Err (unexpected_fault w (skip s)))
    (before_behind_skip x here NoMore (λ s. Ok (tt, s)) (meets_ok x here NoMore tt))
    (before_skip x here NoMore (λ s. Err (unexpected_fault w s)) (before_unexpected x here NoMore w)))

pub meets_sign : (x : Spot) (b : ℕ) (w : What) → (0 == b) ≡ false → ((x.byte == b) ≡ true → Begun x w) →
    Meets x next here NoMore (λ s. unit_read (sign b w s))
meets_sign x b w z h =
    meets_of x next here NoMore w (λ s. unit_read (sign b w s)) (first_sign x b w z h) (before_sign x b w)

pub before_map : {A B : Type 0} (x : Spot) (from to : Rest → ℕ) (f : A → B) (read : Rest → Outcome A) →
    Before x from to NoMore read → Before x from to NoMore (λ s. map_outcome f (read s))
before_map x from to f read k =
    before_then x from to to NoMore read (λ y. Ok (f y.0, y.1)) k (λ a. meets_ok x to NoMore (f a))

-- the place of what stands behind blanks
pub before_next : {A : Type 0} (x : Spot) (to : Rest → ℕ) (G : A → Type 0) (read : ℕ → Rest → Outcome A) →
    ((n : ℕ) → Before x next to G (read n)) → Before x next to G (λ s. read (skip s).at s)
before_next x to G read k = record {
  steady = steady_next to read (λ n. (k n).steady);
  agrees = λ s t c l. subst (λ n. MeetsOutcome x to G (read (skip s).at s) (read n t))
      (sym (splits_skip x s t c l).place) ((k (skip s).at).agrees s t c l);
}

pub first_next : {A : Type 0} (x : Spot) (to : Rest → ℕ) (w : What) (read : ℕ → Rest → Outcome A) →
    ((n : ℕ) → First x next to w (read n)) → First x next to w (λ s. read (skip s).at s)
first_next x to w read k =
    record { names = λ s h. (k (skip s).at).names s h; refuses = λ s t c h. (k (skip t).at).refuses s t c h }

pub before_here : {A : Type 0} (x : Spot) (to : Rest → ℕ) (G : A → Type 0) (read : ℕ → Rest → Outcome A) →
    ((n : ℕ) → Before x here to G (read n)) → Before x here to G (λ s. read s.at s)
before_here x to G read k = record {
  steady = steady_here to read (λ n. (k n).steady);
  agrees = λ s t c l. subst (λ n. MeetsOutcome x to G (read s.at s) (read n t)) (sym c.place)
      ((k s.at).agrees s t c l);
}

-- what lies beyond the spot, blanks aside
pub first_wider : {A : Type 0} (x : Spot) (w : What) (o : Outcome A) → FirstOutcome x here w o → FirstOutcome x next w o
first_wider x w (Ok y) h = omega (arith, h, skip_on y.1)
first_wider x w (Err f) h = h

pub first_to : {A : Type 0} (x : Spot) (from : Rest → ℕ) (w : What) (read : Rest → Outcome A) →
    First x from here w read → First x from next w read
first_to x from w read k =
    record { names = λ s h. first_wider x w (read s) (k.names s h); refuses = k.refuses }

pub before_to : {A : Type 0} (x : Spot) (from : Rest → ℕ) (G : A → Type 0) (read : Rest → Outcome A) →
    Before x from here NoMore read → Before x from next G read
before_to x from G read k = record {
  steady = steady_to from read k.steady;
  agrees = λ s t c l. wider x G (read s) (read t) (k.agrees s t c l);
}

pub sign_to : (x : Spot) (b : ℕ) (w : What) → (0 == b) ≡ false → ((x.byte == b) ≡ true → Begun x w) →
    Meets x next next NoMore (λ s. unit_read (sign b w s))
sign_to x b w z h = meets_to x next NoMore (λ s. unit_read (sign b w s)) (meets_sign x b w z h)

-- a part up to a sign, which is expected where nothing goes on the part
pub meets_up_to : {A : Type 0} (x : Spot) (from : Rest → ℕ) (G : A → Type 0) (H : A → Type 0) (b : ℕ) (w : What)
    (read : Rest → Outcome A) → (0 == b) ≡ false → ((x.byte == b) ≡ true → Begun x w) → ((a : A) → G a → Begun x w) →
    Meets x from next G read → Meets x from next H (λ s. up_to_sign b w (read s))
meets_up_to x from G H b w read z h goes k =
    meets_bind x from next next G H read (λ y. sign b w y.1 >>= λ r. Ok (y.0, r)) k
    (λ a. meets_behind_pass x next next next H (sign b w) (λ r. Ok (a, r)) (sign_to x b w z h) (meets_ok x next H a))
    (λ a r g e. first_went x next H w (sign b w r >>= λ q. Ok (a, q))
    ((first_behind_pass x next next next w (sign b w) (λ q. Ok (a, q))
    (first_to x next w (λ s. unit_read (sign b w s)) (first_sign x b w z h)) (steady_ok next a)).names r e)
    (goes a g))
