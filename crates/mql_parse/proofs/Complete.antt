-- What the grammar has is read so, part by part.
use Rattle.std.proofs.Common.{◌≡◌, ℕ, ℤ, Bool, true, false, ◌==◌, ◌||◌, ◌&&◌, not, List, ◌∷◌, refl, sym, ap, ◌∙◌}
use Rattle.std.proofs.Common.{if◌then◌else◌, Option, Some, None, option_and_then, Result, Ok, Err}
use Rattle.std.specs.Result.{result_ok}
use Rattle.std.proofs.lemmas.Bool.{false≢true, eqb-true, or_left, or_right}
use Rattle.mon_value.specs.Answers.{◌>>=◌}
use Rattle.mql_ast.specs.declared.names.Name.{Name}
use Rattle.mql_ast.specs.Tokens.{is_digit, Rest, head, behind, skip, sign_at, past, name_at, metric_at, positive_at}
use Rattle.mql_ast.specs.Tokens.{number_at, signed_at, duration_at}
use Rattle.mql_parse.specs.declared.faults.What.{What}
use Rattle.mql_parse.specs.Outcomes.{Outcome, exact, sign, map_outcome, up_to_sign}
use Rattle.mql_parse.specs.Repeats.{Turn, Done, repetition}
use Rattle.mql_parse.specs.TokenReading as reading
use Rattle.mql_parse.proofs.BehindLemmas.{chosen_any, sign_taken}
use Rattle.mql_parse.proofs.Links.{sign_links, past_links, name_links, metric_links, positive_links, signed_links}
use Rattle.mql_parse.proofs.Links.{duration_links}
use Rattle.mql_parse.proofs.Loops.{loop_ends}
use Rattle.mql_parse.proofs.ByteLemmas.{and_first}

pub read_of : {A F : Type 0} (o : Option A) (r : Result A F) (x : A) → o ≡ result_ok r → o ≡ Some x → r ≡ Ok x
read_of o (Ok y) x e f = cc
read_of o (Err g) x e f = absurd (cc)

-- tokens
pub sign_read : (b : ℕ) (w : What) (s r : Rest) → sign_at b s ≡ Some r → sign b w s ≡ Ok r
sign_read b w s r e = read_of (sign_at b s) (sign b w s) r (sign_links b w s) e

pub exact_read : (w : What) (cs : List ℕ) (s r : Rest) → past cs s ≡ Some r → exact w cs s ≡ Ok r
exact_read w cs s r e = read_of (past cs s) (exact w cs s) r (past_links w cs s) e

pub name_read : (s r : Rest) (n : Name) → name_at s ≡ Some (n, r) → reading.name s ≡ Ok (n, r)
name_read s r n e = read_of (name_at s) (reading.name s) (n, r) (name_links s) e

pub metric_read : (s r : Rest) (n : Name) → metric_at s ≡ Some (n, r) → reading.metric s ≡ Ok (n, r)
metric_read s r n e = read_of (metric_at s) (reading.metric s) (n, r) (metric_links s) e

pub positive_read : (most : ℕ) (s r : Rest) (n : ℕ) → positive_at most s ≡ Some (n, r) →
    reading.positive most s ≡ Ok (n, r)
positive_read most s r n e = read_of (positive_at most s) (reading.positive most s) (n, r) (positive_links most s) e

pub signed_read : (s r : Rest) (z : ℤ) → signed_at s ≡ Some (z, r) → reading.signed_reading s ≡ Ok (z, r)
signed_read s r z e = read_of (signed_at s) (reading.signed_reading s) (z, r) (signed_links s) e

pub duration_read : (s r : Rest) (z : ℤ) → duration_at s ≡ Some (z, r) → reading.duration s ≡ Ok (z, r)
duration_read s r z e = read_of (duration_at s) (reading.duration s) (z, r) (duration_links s) e

-- what is read behind a part that was read
pub bound : {A B F : Type 0} (o : Result A F) (f : A → Result B F) (x : A) (z : Result B F) → o ≡ Ok x → f x ≡ z →
    (o >>= f) ≡ z
bound o f x z e h = ap (λ p. p >>= f) e ∙ h

pub mapped : {A B : Type 0} (f : A → B) (o : Outcome A) (x : A) (r : Rest) → o ≡ Ok (x, r) →
    map_outcome f o ≡ Ok (f x, r)
mapped f o x r e = ap (map_outcome f) e

pub up_to_read : {A : Type 0} (b : ℕ) (w : What) (o : Outcome A) (x : A) (k r : Rest) → o ≡ Ok (x, k) →
    sign_at b k ≡ Some r → up_to_sign b w o ≡ Ok (x, r)
up_to_read b w o x k r e h =
    bound o _ (x, k) (Ok (x, r)) e (bound (sign b w k) _ r (Ok (x, r)) (sign_read b w k r h) refl)

-- turns that end at once
pub ends_here : {A : Type 0} (turn : A → Rest → Turn A) (a b : A) (s r : Rest) → turn a s ≡ Done b r →
    repetition turn a s ≡ Ok (b, r)
ends_here turn a b s r e = loop_ends turn a b s r (repetition turn a s) e refl

-- a byte that passes one test and not another
pub other_byte : (b c x : ℕ) → (c == b) ≡ false → (x == c) ≡ true → (x == b) ≡ false
other_byte b c x z h = ap (λ y. y == b) (eqb-true x c h) ∙ z

pub passes : (test : ℕ → Bool) (c : ℕ) → test c ≡ true → (x : ℕ) → (x == c) ≡ true → test x ≡ true
passes test c z x h = ap test (eqb-true x c h) ∙ z

pub not_that_byte : (test : ℕ → Bool) (c : ℕ) → test c ≡ false → (x : ℕ) → test x ≡ true → (x == c) ≡ false
not_that_byte test c z x h = either (x == c) (λ e. ap test (eqb-true x c e))
  where
    either : (t : Bool) → (t ≡ true → test x ≡ test c) → t ≡ false
    either true f = absurd (false≢true (sym z ∙ sym (f refl) ∙ h))
    either false f = refl

-- a sign stands here, and so no other
pub other_sign : (b c : ℕ) → (c == b) ≡ false → (s r : Rest) → sign_at c s ≡ Some r → (head (skip s) == b) ≡ false
other_sign b c z s r e = other_byte b c (head (skip s)) z (sign_taken c s r e).0

-- the first of some bytes, and the others
pub first_past : (c : ℕ) (cs : List ℕ) (s r : Rest) → past (c ∷ cs) s ≡ Some r →
    ((head s == c) ≡ true) × (past cs (behind s) ≡ Some r)
first_past c cs s r e = chosen_any (head s == c) (past cs (behind s)) r e

-- a token that one of two readings gives
pub if_chosen : {A P : Type 0} (t : Bool) (o p : Option A) (x : A) → (t ≡ true → o ≡ Some x → P) →
    (t ≡ false → p ≡ Some x → P) → (if t then o else p) ≡ Some x → P
if_chosen true o p x f g e = f refl e
if_chosen false o p x f g e = g refl e

pub and_then_given : {A B : Type 0} (o : Option A) (f : A → Option B) (x : B) → option_and_then f o ≡ Some x →
    (y : A) × ((o ≡ Some y) × (f y ≡ Some x))
and_then_given None f x e = absurd (cc)
and_then_given (Some y) f x e = (y, (refl, e))

-- a number begins with a digit, or with a sign
number_begins : (most : ℕ) (s : Rest) (x : ℕ × Rest) → number_at most s ≡ Some x → is_digit (head (skip s)) ≡ true
number_begins most s x e =
    let b = head (skip s) in
    if_chosen (b == 48) (Some (0, behind (skip s))) (positive_at most s) x
    (λ h _. passes is_digit 48 refl b h)
    (λ _ f. and_first (is_digit b) (not (b == 48)) (chosen_any (is_digit b && not (b == 48)) _ x f).0) e

pub signed_begins : (s : Rest) (x : ℤ × Rest) → signed_at s ≡ Some x →
    (head (skip s) == 45 || is_digit (head (skip s))) ≡ true
signed_begins s x e =
    let b = head (skip s) in
    if_chosen (b == 45) _ _ x (λ h _. or_left (b == 45) (is_digit b) h)
    (λ _ f. let n = and_then_given _ _ x f in or_right (b == 45) (is_digit b) (number_begins _ s n.0 n.1.0)) e
