-- A sum that is read is one of the grammar.
use Rattle.std.proofs.Common.{◌≡◌, ℕ, zero, suc, ◌-◌, arith, true, ◌==◌, ◌||◌, ◌&&◌, List, [], ◌∷◌, codes}
use Rattle.std.proofs.Common.{refl, ap, if◌then◌else◌, Some, None, Ok, Err, nat_eq}
use Rattle.std.specs.Result.{IfOk}
use Rattle.std.proofs.lemmas.Bool.{eqb-true}
use Rattle.std.specs.Cmp.Lexicographic.{pointwise}
use Rattle.mon_value.specs.Answers.{◌>>=◌}
use Rattle.mql_ast.specs.declared.names.Name.{Name}
use Rattle.mql_ast.specs.Trees.{SumTree}
use Rattle.mql_ast.specs.Tokens.{is_letter, is_digit, Rest, head, behind, skip, sign_at, name_at, positive_at}
use Rattle.mql_ast.specs.Tokens.{signed_at, word_here}
use Rattle.mql_ast.specs.Grammar.{Sum, one_term, plus, minus, Term, column, number, percentile, sum_in_parentheses}
use Rattle.mql_parse.specs.declared.faults.What.TheVariants as what
use Rattle.mql_parse.specs.declared.faults.ParseKind.TheVariants.{TooDeep}
use Rattle.mql_parse.specs.Outcomes.{Outcome, fault, sign}
use Rattle.mql_parse.specs.Repeats.{Done, goes_on}
use Rattle.mql_parse.specs.TokenReading as reading
use Rattle.mql_parse.specs.SumReading as sums
use Rattle.mql_parse.specs.SumReading.{SumSeen, is_percentile}
use Rattle.mql_parse.specs.Behind.{Behind}
use Rattle.mql_parse.specs.Soundness.{OfTurn}
use Rattle.mql_parse.proofs.BehindLemmas.{behind_behind, sign_behind, name_behind}
use Rattle.mql_parse.proofs.Within.{some_given, positive_within, signed_within}
use Rattle.mql_parse.proofs.Sound.{if_sound, bind_sound, sign_sound, name_sound, positive_sound, signed_sound}
use Rattle.mql_parse.proofs.Sound.{sign_here, changed_sound, repeated_sound, if_turn, if_ok_weaker, goes_on_behind}
use Rattle.mon_value.proofs.PlainLemmas.{and_both}

-- what is left behind a sum and a term
mutual
  pub sum_behind : {d : ℕ} {s r : Rest} {e : SumTree} → Sum d s r e → Behind s r
  sum_behind (one_term t) = term_behind t
  sum_behind {s = s} {r = r} (plus {m = m} {k = k} l e t) =
      behind_behind s m r (sum_behind l) (behind_behind m k r (sign_behind 43 refl m k e) (term_behind t))
  sum_behind {s = s} {r = r} (minus {m = m} {k = k} l e t) =
      behind_behind s m r (sum_behind l) (behind_behind m k r (sign_behind 45 refl m k e) (term_behind t))

  pub term_behind : {d : ℕ} {s r : Rest} {e : SumTree} → Term d s r e → Behind s r
  term_behind {s = s} {r = r} (column {n = n} e) = name_behind s r n e
  term_behind {s = s} {r = r} (number {z = z} e) =
      some_given (signed_at s) (λ x. Behind s x.1) (z, r) (signed_within s) e
  term_behind {s = s} {r = r} (percentile {a = a} {b = b} {c = c} {e = e} {f = f} {w = w} {n = n} {p = p} h1 h2 h3 h4
      h5 h6 h7) =
      behind_behind s a r (name_behind s a w h1)
      (behind_behind a b r (sign_behind 40 refl a b h3)
      (behind_behind b c r (name_behind b c n h4) (behind_behind c e r (sign_behind 44 refl c e h5)
      (behind_behind e f r (some_given (positive_at 100 e) (λ x. Behind e x.1) (p, f) (positive_within 100 e) h6)
      (sign_behind 41 refl f r h7)))))
  term_behind {s = s} {r = r} (sum_in_parentheses {m = m} {k = k} h1 t h2) =
      behind_behind s m r (sign_behind 40 refl s m h1) (behind_behind m k r (sum_behind t) (sign_behind 41 refl k r h2))

abbrev pub IsTerm : ℕ → Rest → SumSeen × Rest → Type 0
IsTerm d s x = Term d s x.1 x.0.sum

abbrev pub IsSum : ℕ → Rest → SumSeen × Rest → Type 0
IsSum d s x = Sum d s x.1 x.0.sum

-- the words are compared byte by byte
pub same_word : (xs ys : List ℕ) → pointwise nat_eq xs ys ≡ true → xs ≡ ys
same_word [] [] h = refl
same_word [] (y ∷ ys) h = cc
same_word (x ∷ xs) [] h = cc
same_word (x ∷ xs) (y ∷ ys) h =
    let both = and_both (nat_eq x y) (pointwise nat_eq xs ys) h in
    let first : x ≡ y = eqb-true x y both.0 in
    let others : xs ≡ ys = same_word xs ys both.1 in
    cc

percentile_sound : (d : ℕ) (s a b : Rest) (w : Name) → name_at s ≡ Some (w, a) → w.text ≡ codes "percentile" →
    sign_at 40 a ≡ Some b → IfOk (sums.percentile (skip s).at b) (IsTerm d s)
unfolding sums.percentile
percentile_sound d s a b w h1 h2 h3 =
    bind_sound (reading.name b) _ (λ x. name_at b ≡ Some x) _ (name_sound b) (λ x h4.
    bind_sound (sign 44 what.Comma x.1) _ (λ r. sign_at 44 x.1 ≡ Some r) _ (sign_sound 44 what.Comma x.1) (λ e h5.
    bind_sound (reading.positive 100 e) _ (λ y. positive_at 100 e ≡ Some y) _ (positive_sound 100 e) (λ y h6.
    bind_sound (sign 41 what.CloseParenthesis y.1) _ (λ r. sign_at 41 y.1 ≡ Some r) _
    (sign_sound 41 what.CloseParenthesis y.1) (λ r h7.
    percentile h1 h2 h3 h4 h5 h6 h7))))

word_sound : (d : ℕ) (s : Rest) → name_at s ≡ Some (word_here (skip s)) → IfOk (sums.word_read (word_here (skip s)))
    (IsTerm d s)
word_sound d s e =
    let word = word_here (skip s) in
    if_sound (is_percentile word.0.text) _ _ (IsTerm d s)
    (λ h. if_sound (head (skip word.1) == 40) _ _ (IsTerm d s)
    (λ g. percentile_sound d s word.1 (behind (skip word.1)) word.0 e (same_word _ _ h) (sign_here 40 word.1 g))
    (λ g. column e))
    (λ h. column e)

pub name_here : (s : Rest) → is_letter (head (skip s)) ≡ true → name_at s ≡ Some (word_here (skip s))
name_here s h = ap (λ t. if t then Some (word_here (skip s)) else None) h

module _ (d : ℕ) (group : Rest → Rest → Outcome SumSeen) (grouped : (s m : Rest) → sign_at 40 s ≡ Some m →
    IfOk (group (skip s) m) (IsTerm d s)) where
  term_sound_with : (s : Rest) → IfOk (sums.term_with group s) (IsTerm d s)
  unfolding sums.term_with
  term_sound_with s =
      let b = head (skip s) in
      if_sound (b == 40) _ _ (IsTerm d s) (λ h. grouped s (behind (skip s)) (sign_here 40 s h))
      (λ h. if_sound (b == 45 || is_digit b) _ _ (IsTerm d s)
      (λ g. changed_sound _ (reading.signed_reading s) (λ x. signed_at s ≡ Some x) (IsTerm d s) (signed_sound s)
      (λ x e. number e))
      (λ g. if_sound (is_letter b) _ _ (IsTerm d s) (λ l. word_sound d s (name_here s l)) (λ l. tt)))

module _ (d : ℕ) (term : Rest → Outcome SumSeen) (termed : (s : Rest) → IfOk (term s) (IsTerm d s)) where
  goes_on_sound : (f : SumSeen → SumSeen) (s m k : Rest) → Behind m k →
      ((x : SumSeen × Rest) → Term d k x.1 x.0.sum → Sum d s x.1 (f x.0).sum) →
      OfTurn (goes_on f (term k)) (λ a r. Sum d s r a.sum) (λ a r. Sum d s r a.sum × Behind m r)
  goes_on_sound f s m k b h = either (term k) (termed k)
    where
      either : (o : Outcome SumSeen) → IfOk o (IsTerm d k) → OfTurn (goes_on f o) (λ a r. Sum d s r a.sum)
          (λ a r. Sum d s r a.sum × Behind m r)
      either (Ok x) t = (h x t, behind_behind m k x.1 b (term_behind t))
      either (Err e) t = tt

  turn_sound : (s : Rest) (a : SumSeen) (m : Rest) → Sum d s m a.sum →
      OfTurn (sums.term_turn term a m) (λ a r. Sum d s r a.sum) (λ a r. Sum d s r a.sum × Behind m r)
  unfolding sums.term_turn
  turn_sound s a m S =
      let t = skip m in
      if_turn (head t == 43) _ _ _ _
      (λ h. let e = sign_here 43 m h in goes_on_sound (sums.sum_plus a) s m (behind t)
      (sign_behind 43 refl m (behind t) e) (λ x T. plus S e T))
      (λ h. if_turn (head t == 45) _ _ _ _
      (λ g. let e = sign_here 45 m g in goes_on_sound (sums.sum_minus a) s m (behind t)
      (sign_behind 45 refl m (behind t) e) (λ x T. minus S e T))
      (λ g. S))

  sum_sound_with : (s : Rest) → IfOk (sums.sum_with term s) (IsSum d s)
  unfolding sums.sum_with
  sum_sound_with s =
      bind_sound (term s) _ (IsTerm d s) (IsSum d s) (termed s)
      (λ first T. repeated_sound (sums.term_turn term) (λ a r. Sum d s r a.sum) (λ a r. Sum d s r a.sum)
      (turn_sound s) first.0 first.1 (one_term T))

group_sound : (d : ℕ) (s m : Rest) → sign_at 40 s ≡ Some m → IfOk (sums.sum_group d (skip s) m) (IsTerm d s)
unfolding sums.sum_group
group_sound zero s m e = tt
group_sound (suc d) s m e =
    bind_sound (sums.sum_with (sums.term_with (sums.sum_group d)) m) sums.sum_end (IsSum d m) (IsTerm (suc d) s)
    (sum_sound_with d (sums.term_with (sums.sum_group d)) (term_sound_with d (sums.sum_group d) (group_sound d)) m)
    (λ x S. bind_sound (sign 41 (sums.behind_sum x.0.bare) x.1) _ (λ r. sign_at 41 x.1 ≡ Some r) (IsTerm (suc d) s)
    (sign_sound 41 _ x.1) (λ r h. sum_in_parentheses e S h))

pub term_sound : (d : ℕ) (s : Rest) → IfOk (sums.term d s) (IsTerm d s)
term_sound d = term_sound_with d (sums.sum_group d) (group_sound d)

pub sum_sound : (d : ℕ) (s : Rest) → IfOk (sums.sum d s) (IsSum d s)
sum_sound d = sum_sound_with d (sums.term d) (term_sound d)

term_reads_on : (d : ℕ) (s : Rest) → IfOk (sums.term d s) (λ x. Behind s x.1)
term_reads_on d s = if_ok_weaker (sums.term d s) (IsTerm d s) _ (λ x t. term_behind t) (term_sound d s)

pub term_turn_behind : (d : ℕ) (a : SumSeen) (s : Rest) → OfTurn (sums.term_turn (sums.term d) a s) (λ b r. Unit {0})
    (λ b r. Behind s r)
unfolding sums.term_turn
term_turn_behind d a s =
    let t = skip s in
    if_turn (head t == 43) _ _ _ _ (λ h. goes_on_behind (sums.sum_plus a) (sums.term d (behind t)) s (behind t)
    (sign_behind 43 refl s (behind t) (sign_here 43 s h)) (term_reads_on d (behind t)))
    (λ h. if_turn (head t == 45) _ (Done a s) _ _ (λ g. goes_on_behind (sums.sum_minus a) (sums.term d (behind t)) s
    (behind t) (sign_behind 45 refl s (behind t) (sign_here 45 s g)) (term_reads_on d (behind t))) (λ g. tt))

-- a sum in parentheses is read a level deeper
pub sum_group_deeper : (d : ℕ) (here s : Rest) → (d ≡ 0 → ⊥) →
    sums.sum_group d here s ≡ (sums.sum (d - 1) s >>= sums.sum_end)
unfolding sums.sum_group
sum_group_deeper zero here s h = absurd (h refl)
sum_group_deeper (suc d) here s h = ap (λ n. sums.sum n s >>= sums.sum_end) (omega arith)

pub sum_group_too_deep : (d : ℕ) (here s : Rest) → d ≡ 0 → sums.sum_group d here s ≡ Err (fault TooDeep here)
unfolding sums.sum_group
sum_group_too_deep zero here s h = refl
sum_group_too_deep (suc d) here s h = absurd (omega (arith, h))
