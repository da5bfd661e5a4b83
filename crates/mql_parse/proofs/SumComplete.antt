-- A sum of the grammar is read as its tree.
use Rattle.std.proofs.Common.{◌≡◌, ℕ, ℤ, suc, Bool, true, false, ◌==◌, ◌||◌, codes, refl, sym, ap, ◌∙◌, arith}
use Rattle.std.proofs.Common.{if◌then◌else◌, Some, Ok}
use Rattle.std.proofs.lemmas.Bool.{or_from}
use Rattle.std.proofs.lemmas.Bool.Decides.{nat_tests}
use Rattle.mon_value.specs.Answers.{◌>>=◌}
use Rattle.mql_ast.specs.declared.names.Name.{Name}
use Rattle.mql_ast.specs.Trees.{SumTree, Column, Number, Plus, Minus, Percentile}
use Rattle.mql_ast.specs.Tokens.{is_letter, is_digit, Rest, head, behind, skip, sign_at, name_at, positive_at}
use Rattle.mql_ast.specs.Tokens.{signed_at, word_here}
use Rattle.mql_ast.specs.Grammar.{Sum, one_term, plus, minus, Term, column, number, percentile, sum_in_parentheses}
use Rattle.mql_parse.specs.declared.faults.What.TheVariants as what
use Rattle.mql_parse.specs.Outcomes.{Outcome, sign}
use Rattle.mql_parse.specs.Repeats.{Done, Again, goes_on, repetition}
use Rattle.mql_parse.specs.TokenReading as reading
use Rattle.mql_parse.specs.SumReading as sums
use Rattle.mql_parse.specs.SumReading.{SumSeen, as_sum_seen, is_percentile}
use Rattle.mql_parse.specs.Behind.{Behind}
use Rattle.mql_parse.proofs.BehindLemmas.{behind_behind, sign_behind, sign_taken}
use Rattle.mql_parse.proofs.Sound.{repeated_again}
use Rattle.mql_parse.proofs.SumSound.{term_behind}
use Rattle.mql_parse.proofs.Complete.{bound, mapped, sign_read, name_read, positive_read, signed_read, ends_here}
use Rattle.mql_parse.proofs.Complete.{not_that_byte, other_sign, signed_begins}
use Rattle.mql_parse.proofs.ByteLemmas.{chosen, if_true, if_false}

-- a name that stands here, and its place
pub name_taken : (s r : Rest) (n : Name) → name_at s ≡ Some (n, r) →
    (is_letter (head (skip s)) ≡ true) × (word_here (skip s) ≡ (n, r))
name_taken s r n e = chosen (is_letter (head (skip s))) (word_here (skip s)) (n, r) e

pub place_of_name : (s r : Rest) (n : Name) → name_at s ≡ Some (n, r) → n.at ≡ (skip s).at
place_of_name s r n e = sym (ap (λ y. y.0.at) (name_taken s r n e).1)

pub letter_is_no_digit : (b : ℕ) → is_letter b ≡ true → is_digit b ≡ false
letter_is_no_digit b h = grind (arith, nat_tests)

-- no parenthesis stands behind a name
abbrev pub Uncalled : Rest → Type 0
Uncalled r = (head (skip r) == 40) ≡ false

-- a term is read, and whether it is the bare word `percentile`
abbrev TermRead : ℕ → Rest → Rest → SumTree → Type 0
TermRead d s r e = (b : Bool) × (sums.term d s ≡ Ok (as_sum_seen e b, r))

-- the reading of a sum goes on from its terms so far
abbrev SumGoesOn : ℕ → Rest → Rest → SumTree → Type 0
SumGoesOn d s r e = (b : Bool) × (sums.sum d s ≡ repetition (sums.term_turn (sums.term d)) (as_sum_seen e b) r)

word_term : (group : Rest → Rest → Outcome SumSeen) (s : Rest) → is_letter (head (skip s)) ≡ true →
    sums.term_with group s ≡ sums.word_read (word_here (skip s))
unfolding sums.term_with
word_term group s h =
    let b = head (skip s) in
    if_false (b == 40) _ _ (not_that_byte is_letter 40 refl b h)
    ∙ if_false (b == 45 || is_digit b) _ _ (or_from (b == 45) (is_digit b) (not_that_byte is_letter 45 refl b h)
    (letter_is_no_digit b h))
    ∙ if_true (is_letter b) _ _ h

named_term : (d : ℕ) (s r : Rest) (n : Name) → name_at s ≡ Some (n, r) → sums.term d s ≡ sums.word_read (n, r)
named_term d s r n e = let t = name_taken s r n e in word_term (sums.sum_group d) s t.0 ∙ ap sums.word_read t.1

-- a name without a parenthesis
uncalled_word : (t u : Bool) (call : Outcome SumSeen) (e : SumTree) (r : Rest) → u ≡ false →
    (if t then (if u then call else Ok (as_sum_seen e true, r)) else Ok (as_sum_seen e false, r))
    ≡ Ok (as_sum_seen e t, r)
uncalled_word true u call e r h = if_false u call _ h
uncalled_word false u call e r h = refl

column_read : (d : ℕ) (s r : Rest) (n : Name) → name_at s ≡ Some (n, r) → Uncalled r → TermRead d s r (Column n)
column_read d s r n e u = (
  is_percentile n.text,
  named_term d s r n e ∙ uncalled_word (is_percentile n.text) (head (skip r) == 40)
      (sums.percentile n.at (behind (skip r))) (Column n) r u,
)

percentile_read : (at : ℕ) (b c e f r : Rest) (n : Name) (p : ℕ) → name_at b ≡ Some (n, c) → sign_at 44 c ≡ Some e →
    positive_at 100 e ≡ Some (p, f) → sign_at 41 f ≡ Some r →
    sums.percentile at b ≡ Ok (as_sum_seen (Percentile at n p) false, r)
unfolding sums.percentile
percentile_read at b c e f r n p h4 h5 h6 h7 =
    bound (reading.name b) _ (n, c) _ (name_read b c n h4)
    (bound (sign 44 what.Comma c) _ e _ (sign_read 44 what.Comma c e h5)
    (bound (reading.positive 100 e) _ (p, f) _ (positive_read 100 e f p h6)
    (bound (sign 41 what.CloseParenthesis f) _ r _ (sign_read 41 what.CloseParenthesis f r h7) refl)))

called_word : (w : Name) (a b : Rest) → w.text ≡ codes "percentile" → sign_at 40 a ≡ Some b →
    sums.word_read (w, a) ≡ sums.percentile w.at b
called_word w a b h2 h3 =
    let t = sign_taken 40 a b h3 in
    let word : is_percentile w.text ≡ true = ap is_percentile h2 in
    if_true (is_percentile w.text) _ _ word ∙ if_true (head (skip a) == 40) _ _ t.0 ∙ ap (sums.percentile w.at) t.1

number_read : (d : ℕ) (s r : Rest) (z : ℤ) → signed_at s ≡ Some (z, r) →
    sums.term d s ≡ Ok (as_sum_seen (Number (skip s).at z) false, r)
unfolding sums.term_with
number_read d s r z e =
    let b = head (skip s) in
    let h = signed_begins s (z, r) e in
    if_false (b == 40) _ _ (not_that_byte (λ x. x == 45 || is_digit x) 40 refl b h)
    ∙ if_true (b == 45 || is_digit b) _ _ h
    ∙ mapped (λ z. as_sum_seen (Number (skip s).at z) false) (reading.signed_reading s) z r (signed_read s r z e)

-- a sum ends where no further sign stands
turn_ends : (term : Rest → Outcome SumSeen) (a : SumSeen) (s : Rest) → (head (skip s) == 43) ≡ false →
    (head (skip s) == 45) ≡ false → sums.term_turn term a s ≡ Done a s
unfolding sums.term_turn
turn_ends term a s h g = if_false (head (skip s) == 43) _ _ h ∙ if_false (head (skip s) == 45) _ _ g

sum_ends : (d : ℕ) (a : SumSeen) (s : Rest) → (head (skip s) == 43) ≡ false → (head (skip s) == 45) ≡ false →
    repetition (sums.term_turn (sums.term d)) a s ≡ Ok (a, s)
sum_ends d a s h g = ends_here (sums.term_turn (sums.term d)) a a s s (turn_ends (sums.term d) a s h g)

-- a sum in parentheses is read a level deeper
group_here : (d : ℕ) (s m : Rest) → sign_at 40 s ≡ Some m → sums.term (suc d) s ≡ (sums.sum d m >>= sums.sum_end)
unfolding sums.term_with sums.sum_group
group_here d s m e = let t = sign_taken 40 s m e in
    if_true (head (skip s) == 40) _ _ t.0 ∙ ap (λ n. sums.sum d n >>= sums.sum_end) t.1

group_read : (d : ℕ) (s m k r : Rest) (e : SumTree) (b : Bool) → sign_at 40 s ≡ Some m →
    sums.sum d m ≡ repetition (sums.term_turn (sums.term d)) (as_sum_seen e b) k → sign_at 41 k ≡ Some r →
    sums.term (suc d) s ≡ Ok (as_sum_seen e false, r)
group_read d s m k r e b h1 h h2 =
    group_here d s m h1
    ∙ bound (sums.sum d m) sums.sum_end (as_sum_seen e b, k) _
    (h ∙ sum_ends d (as_sum_seen e b) k (other_sign 43 41 refl k r h2) (other_sign 45 41 refl k r h2))
    (bound (sign 41 (sums.behind_sum b) k) _ r _ (sign_read 41 (sums.behind_sum b) k r h2) refl)

-- a further term
plus_turn : (term : Rest → Outcome SumSeen) (l e : SumTree) (b c : Bool) (m k r : Rest) → sign_at 43 m ≡ Some k →
    term k ≡ Ok (as_sum_seen e c, r) →
    sums.term_turn term (as_sum_seen l b) m ≡ Again (as_sum_seen (Plus l e) c) r
unfolding sums.term_turn
plus_turn term l e b c m k r h g =
    let t = sign_taken 43 m k h in
    if_true (head (skip m) == 43) _ _ t.0 ∙ ap (λ o. goes_on (sums.sum_plus (as_sum_seen l b)) o) (ap term t.1 ∙ g)

minus_turn : (term : Rest → Outcome SumSeen) (l e : SumTree) (b c : Bool) (m k r : Rest) → sign_at 45 m ≡ Some k →
    term k ≡ Ok (as_sum_seen e c, r) →
    sums.term_turn term (as_sum_seen l b) m ≡ Again (as_sum_seen (Minus l e) c) r
unfolding sums.term_turn
minus_turn term l e b c m k r h g =
    let t = sign_taken 45 m k h in
    if_false (head (skip m) == 43) _ _ (other_sign 43 45 refl m k h) ∙ if_true (head (skip m) == 45) _ _ t.0
    ∙ ap (λ o. goes_on (sums.sum_minus (as_sum_seen l b)) o) (ap term t.1 ∙ g)

first_term : (d : ℕ) (s r : Rest) (e : SumTree) → TermRead d s r e → SumGoesOn d s r e
unfolding sums.sum_with
first_term d s r e t = (t.0, bound (sums.term d s) _ (as_sum_seen e t.0, r) _ t.1 refl)

next_plus : (d : ℕ) (s m k r : Rest) (l e : SumTree) → SumGoesOn d s m l → sign_at 43 m ≡ Some k → TermRead d k r e →
    Behind k r → SumGoesOn d s r (Plus l e)
next_plus d s m k r l e S h t f = (
  t.0,
  S.1 ∙ repeated_again (sums.term_turn (sums.term d)) (as_sum_seen l S.0) (as_sum_seen (Plus l e) t.0) m r
      (plus_turn (sums.term d) l e S.0 t.0 m k r h t.1) (behind_behind m k r (sign_behind 43 refl m k h) f),
)

next_minus : (d : ℕ) (s m k r : Rest) (l e : SumTree) → SumGoesOn d s m l → sign_at 45 m ≡ Some k → TermRead d k r e →
    Behind k r → SumGoesOn d s r (Minus l e)
next_minus d s m k r l e S h t f = (
  t.0,
  S.1 ∙ repeated_again (sums.term_turn (sums.term d)) (as_sum_seen l S.0) (as_sum_seen (Minus l e) t.0) m r
      (minus_turn (sums.term d) l e S.0 t.0 m k r h t.1) (behind_behind m k r (sign_behind 45 refl m k h) f),
)

mutual
  sum_goes_on : {d : ℕ} {s r : Rest} {e : SumTree} → Sum d s r e → Uncalled r → SumGoesOn d s r e
  sum_goes_on {d = d} {s = s} {r = r} {e = e} (one_term t) u = first_term d s r e (term_read t u)
  sum_goes_on {d = d} {s = s} {r = r} (plus {m = m} {k = k} {l = l} {e = e} S h t) u =
      next_plus d s m k r l e (sum_goes_on S (other_sign 40 43 refl m k h)) h (term_read t u) (term_behind t)
  sum_goes_on {d = d} {s = s} {r = r} (minus {m = m} {k = k} {l = l} {e = e} S h t) u =
      next_minus d s m k r l e (sum_goes_on S (other_sign 40 45 refl m k h)) h (term_read t u) (term_behind t)

  term_read : {d : ℕ} {s r : Rest} {e : SumTree} → Term d s r e → Uncalled r → TermRead d s r e
  term_read {d = d} {s = s} {r = r} (column {n = n} h) u = column_read d s r n h u
  term_read {d = d} {s = s} {r = r} (number {z = z} h) u = (false, number_read d s r z h)
  term_read {d = d} {s = s} {r = r} (percentile {a = a} {b = b} {c = c} {e = e} {f = f} {w = w} {n = n} {p = p} h1 h2
      h3 h4 h5 h6 h7) u = (
        false,
        named_term d s a w h1 ∙ called_word w a b h2 h3 ∙ percentile_read w.at b c e f r n p h4 h5 h6 h7
            ∙ ap (λ at. Ok (as_sum_seen (Percentile at n p) false, r)) (place_of_name s a w h1),
      )
  term_read {s = s} {r = r} (sum_in_parentheses {d = d} {m = m} {k = k} {e = e} h1 S h2) u =
      let inner = sum_goes_on S (other_sign 40 41 refl k r h2) in
      (false, group_read d s m k r e inner.0 h1 inner.1 h2)

-- no sign stands here that a sum may go on with
abbrev pub SumEnds : Rest → Type 0
SumEnds r = ((head (skip r) == 40) ≡ false) × (((head (skip r) == 43) ≡ false) × ((head (skip r) == 45) ≡ false))

pub sum_ends_before : (c : ℕ) → (c == 40) ≡ false → (c == 43) ≡ false → (c == 45) ≡ false → (s r : Rest) →
    sign_at c s ≡ Some r → SumEnds s
sum_ends_before c a b z s r e = (other_sign 40 c a s r e, (other_sign 43 c b s r e, other_sign 45 c z s r e))

-- each sum of the grammar is read as its tree
pub sum_read : {d : ℕ} {s r : Rest} {e : SumTree} → Sum d s r e → SumEnds r →
    (b : Bool) × (sums.sum d s ≡ Ok (as_sum_seen e b, r))
sum_read {d = d} {s = s} {r = r} {e = e} S u =
    let inner = sum_goes_on S u.0 in
    (inner.0, inner.1 ∙ sum_ends d (as_sum_seen e inner.0) r u.1.0 u.1.1)
