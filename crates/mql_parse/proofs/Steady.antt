-- Readers that look no farther than they tell.
use Rattle.std.proofs.Common.{◌≡◌, ℕ, ◌+◌, ◌<◌, ◌≤◌, Bool, true, false, ◌==◌, List, [], ◌∷◌, ◌++◌, length, refl, sym}
use Rattle.std.proofs.Common.{ap, subst, arith, if◌then◌else◌, Result, Ok, Err}
use Rattle.mon_value.specs.Answers.{◌>>=◌}
use Rattle.mql_ast.specs.Tokens.{is_blank, Rest, first_of, behind_first, behind_blanks, head, behind, skip}
use Rattle.mql_parse.specs.declared.faults.ParseFault.{ParseFault}
use Rattle.mql_parse.specs.declared.faults.ParseKind.{ParseKind}
use Rattle.mql_parse.specs.declared.faults.What.{What}
use Rattle.mql_parse.specs.Outcomes.{Outcome, unexpected_fault, fault, sign, map_outcome, up_to_sign}
use Rattle.mql_parse.specs.Steadiness.{Shares, here, next, ReadAlike, AgreesBefore, Reaches, Steady, unit_read}
use Rattle.mql_parse.specs.Steadiness.{SteadyPass}
use Rattle.mql_parse.specs.Steadiness.{SteadyTest}
use Rattle.mql_parse.proofs.Swaps.{blanks_on}

-- what holds of any two rests that begin with the same bytes
pub over_common : (e : ℕ) (P : Rest → Rest → Type 0) →
    ((common after other : List ℕ) (at : ℕ) → at + length common ≡ e → P (record { at = at; bytes = common ++ after })
    (record { at = at; bytes = common ++ other })) → (s t : Rest) → Shares e s t → P s t
over_common e P h s t c =
    subst (λ bs. P (record { at = s.at; bytes = bs }) t) (sym c.bytes)
    (subst (λ n. P (record { at = s.at; bytes = c.common ++ c.after }) (record { at = n; bytes = t.bytes }))
    (sym c.place)
    (subst (λ bs. P (record { at = s.at; bytes = c.common ++ c.after }) (record { at = s.at; bytes = bs }))
    (sym c.others)
    (h c.common c.after c.other s.at c.ends)))

pub shares : (common after other : List ℕ) (at e : ℕ) → at + length common ≡ e →
    Shares e (record { at = at; bytes = common ++ after }) (record { at = at; bytes = common ++ other })
shares common after other at e h = record
    { common = common; after = after; other = other; bytes = refl; others = refl; place = refl; ends = h }

first_on : (at : ℕ) (bs : List ℕ) → at ≤ (behind_first at bs).at
first_on at [] = omega arith
first_on at (b ∷ bs) = omega arith

pub behind_on : (s : Rest) → s.at ≤ (behind s).at
behind_on s = first_on s.at s.bytes

pub passed_on : (t : Bool) (at n : ℕ) (bs : List ℕ) (r : Rest) → n ≤ at → n ≤ r.at →
    n ≤ (if t then r else record { at = at; bytes = bs }).at
passed_on true at n bs r h k = k
passed_on false at n bs r h k = h

pub skip_on : (s : Rest) → s.at ≤ (skip s).at
unfolding skip
skip_on s = blanks_on s.at s.at s.bytes (omega arith)

behind_shared : (e : ℕ) (common after other : List ℕ) (at : ℕ) → at + length common ≡ e → at < e →
    Shares e (behind_first at (common ++ after)) (behind_first at (common ++ other))
behind_shared e [] after other at h l = absurd (omega (arith, h, l))
behind_shared e (c ∷ common) after other at h l = shares common after other (at + 1) e (omega (arith, h))

pub shares_behind : (e : ℕ) (s t : Rest) → Shares e s t → s.at < e → Shares e (behind s) (behind t)
shares_behind e = over_common e (λ s t. s.at < e → Shares e (behind s) (behind t)) (behind_shared e)

head_shared : (e : ℕ) (common after other : List ℕ) (at : ℕ) → at + length common ≡ e → at < e →
    first_of (common ++ other) ≡ first_of (common ++ after)
head_shared e [] after other at h l = absurd (omega (arith, h, l))
head_shared e (c ∷ common) after other at h l = refl

pub shares_head : (e : ℕ) (s t : Rest) → Shares e s t → s.at < e → head t ≡ head s
shares_head e = over_common e (λ s t. s.at < e → head t ≡ head s) (head_shared e)

-- what is left behind a byte that passes a test, or here
pub passed_shared : (t : Bool) (e : ℕ) (s s' r r' : Rest) → Shares e s s' → (r.at < e → Shares e r r') →
    (if t then r else s).at < e → Shares e (if t then r else s) (if t then r' else s')
passed_shared true e s s' r r' c f l = f l
passed_shared false e s s' r r' c f l = c

blanks_shared : (e : ℕ) (common after other : List ℕ) (at : ℕ) → at + length common ≡ e →
    (behind_blanks at (common ++ after)).at < e → Shares e (behind_blanks at (common ++ after))
    (behind_blanks at (common ++ other))
blanks_shared e [] after other at h l = absurd (omega (arith, h, l, blanks_on at at after (omega arith)))
blanks_shared e (c ∷ common) after other at h l =
    passed_shared (is_blank c) e (record { at = at; bytes = c ∷ (common ++ after) })
    (record { at = at; bytes = c ∷ (common ++ other) }) (behind_blanks (at + 1) (common ++ after))
    (behind_blanks (at + 1) (common ++ other))
    (shares (c ∷ common) after other at e h) (blanks_shared e common after other (at + 1) (omega (arith, h))) l

pub shares_skip : (e : ℕ) (s t : Rest) → Shares e s t → (skip s).at < e → Shares e (skip s) (skip t)
unfolding skip
shares_skip e = over_common e (λ s t. (skip s).at < e → Shares e (skip s) (skip t)) (blanks_shared e)

-- an outcome that looks at a farther place looks at this one
pub reaches_before : {A : Type 0} (to : Rest → ℕ) (n m : ℕ) (o : Outcome A) → n ≤ m → Reaches to m o → Reaches to n o
reaches_before to n m (Ok x) h k = omega (arith, h, k)
reaches_before to n m (Err f) h k = omega (arith, h, k)

-- what is looked at may be taken to stand before the end of what is the same
pub agrees_within : {A : Type 0} (to : Rest → ℕ) (e n : ℕ) (o p : Outcome A) → Reaches to n o →
    (n < e → AgreesBefore to e o p) → AgreesBefore to e o p
agrees_within to e n (Ok x) p h f = λ l. f (omega (arith, h, l)) l
agrees_within to e n (Err x) p h f = λ l. f (omega (arith, h, l)) l

-- a reader that is the same
pub steady_by : {A : Type 0} (from to : Rest → ℕ) (read as_read : Rest → Outcome A) →
    ((s : Rest) → read s ≡ as_read s) → Steady from to as_read → Steady from to read
steady_by from to read as_read h k = record {
  reaches = λ s. subst (λ o. Reaches to (from s) o) (sym (h s)) (k.reaches s);
  agrees = λ e s t c. subst (λ o. AgreesBefore to e o (read t)) (sym (h s))
      (subst (λ o. AgreesBefore to e (as_read s) o) (sym (h t)) (k.agrees e s t c));
}

-- a reader that looks farther at once
pub steady_from : {A : Type 0} (to : Rest → ℕ) (read : Rest → Outcome A) → Steady next to read → Steady here to read
steady_from to read k = record {
  reaches = λ s. reaches_before to s.at (skip s).at (read s) (skip_on s) (k.reaches s);
  agrees = k.agrees;
}

wider_reaches : {A : Type 0} (n : ℕ) (o : Outcome A) → Reaches here n o → Reaches next n o
wider_reaches n (Ok x) h = omega (arith, h, skip_on x.1)
wider_reaches n (Err f) h = h

wider_agrees : {A : Type 0} (e : ℕ) (o p : Outcome A) → AgreesBefore here e o p → AgreesBefore next e o p
wider_agrees e (Ok x) p h = λ l. h (omega (arith, l, skip_on x.1))
wider_agrees e (Err f) p h = h

-- a reader that looks less far than it might
pub steady_to : {A : Type 0} (from : Rest → ℕ) (read : Rest → Outcome A) → Steady from here read → Steady from next read
steady_to from read k = record {
  reaches = λ s. wider_reaches (from s) (read s) (k.reaches s);
  agrees = λ e s t c. wider_agrees e (read s) (read t) (k.agrees e s t c);
}

-- what is read in any case
pub steady_ok : {A : Type 0} (place : Rest → ℕ) (a : A) → Steady place place (λ s. Ok (a, s))
steady_ok place a = record { reaches = λ s. omega arith; agrees = λ e s t c l. (t, (refl, c)) }

-- a fault here
pub steady_fault : {A : Type 0} (to : Rest → ℕ) (kind : ParseKind) → Steady {A = A} here to (λ s. Err (fault kind s))
steady_fault to kind = record {
  reaches = λ s. omega arith;
  agrees = λ e s t c l. ap (λ n. Err (record { at = n; kind = kind })) c.place;
}

unexpected_shared : (w : What) (e : ℕ) (common after other : List ℕ) (at : ℕ) → at + length common ≡ e → at < e →
    unexpected_fault w (record { at = at; bytes = common ++ other }) ≡ unexpected_fault w
    (record { at = at; bytes = common ++ after })
unexpected_shared w e [] after other at h l = absurd (omega (arith, h, l))
unexpected_shared w e (c ∷ common) after other at h l = refl

pub shares_unexpected : (w : What) (e : ℕ) (s t : Rest) → Shares e s t → s.at < e → unexpected_fault w t
    ≡ unexpected_fault w s
shares_unexpected w e =
    over_common e (λ s t. s.at < e → unexpected_fault w t ≡ unexpected_fault w s) (unexpected_shared w e)

pub steady_unexpected : {A : Type 0} (to : Rest → ℕ) (w : What)
    → Steady {A = A} here to (λ s. Err (unexpected_fault w s))
steady_unexpected to w = record {
  reaches = λ s. omega arith;
  agrees = λ e s t c l. ap (λ f. Err f) (shares_unexpected w e s t c l);
}

-- one reader behind another
module _ {A B : Type 0} (mid to : Rest → ℕ) (on : A × Rest → Outcome B) (g : (a : A) → Steady mid to (λ r. on (a, r)))
  where
    bind_reaches : (n : ℕ) (o : Outcome A) → Reaches mid n o → Reaches to n (o >>= on)
    bind_reaches n (Ok (a, r)) h = reaches_before to n (mid r) (on (a, r)) h ((g a).reaches r)
    bind_reaches n (Err f) h = h

    bind_agrees : (e : ℕ) (o p : Outcome A) → AgreesBefore mid e o p → AgreesBefore to e (o >>= on) (p >>= on)
    bind_agrees e (Ok (a, r)) p h = agrees_within to e (mid r) (on (a, r)) (p >>= on) ((g a).reaches r)
        (λ l. let alike : ReadAlike e a r p = h l in
        subst (λ z. AgreesBefore to e (on (a, r)) (z >>= on)) (sym alike.1.0) ((g a).agrees e r alike.0 alike.1.1))
    bind_agrees e (Err f) p h = λ l. ap (λ z. z >>= on) (h l)

pub steady_bind : {A B : Type 0} (from mid to : Rest → ℕ) (read : Rest → Outcome A) (on : A × Rest → Outcome B) →
    Steady from mid read → ((a : A) → Steady mid to (λ r. on (a, r))) → Steady from to (λ s. read s >>= on)
steady_bind from mid to read on f g = record {
  reaches = λ s. bind_reaches mid to on g (from s) (read s) (f.reaches s);
  agrees = λ e s t c. bind_agrees mid to on g e (read s) (read t) (f.agrees e s t c);
}

pub steady_map : {A B : Type 0} (from to : Rest → ℕ) (f : A → B) (read : Rest → Outcome A) → Steady from to read →
    Steady from to (λ s. map_outcome f (read s))
steady_map from to f read k = steady_bind from to to read (λ x. Ok (f x.0, x.1)) k (λ a. steady_ok to (f a))

-- a reader behind one of what is left
pub pass_bind : {B : Type 0} (o : Result Rest ParseFault) (on : Rest → Outcome B) →
    (o >>= on) ≡ (unit_read o >>= λ x. on x.1)
pass_bind (Ok r) on = refl
pass_bind (Err f) on = refl

pub pass_pass : (o : Result Rest ParseFault) (on : Rest → Result Rest ParseFault) →
    unit_read (o >>= on) ≡ (unit_read o >>= λ x. unit_read (on x.1))
pass_pass (Ok r) on = refl
pass_pass (Err f) on = refl

pub steady_behind_pass : {B : Type 0} (from mid to : Rest → ℕ) (pass : Rest → Result Rest ParseFault)
    (on : Rest → Outcome B) → SteadyPass from mid pass → Steady mid to on → Steady from to (λ s. pass s >>= on)
steady_behind_pass from mid to pass on f g =
    steady_by from to (λ s. pass s >>= on) (λ s. unit_read (pass s) >>= λ x. on x.1) (λ s. pass_bind (pass s) on)
    (steady_bind from mid to (λ s. unit_read (pass s)) (λ x. on x.1) f (λ a. g))

pub steady_passes : (from mid to : Rest → ℕ) (pass on : Rest → Result Rest ParseFault) → SteadyPass from mid pass →
    SteadyPass mid to on → SteadyPass from to (λ s. pass s >>= on)
steady_passes from mid to pass on f g =
    steady_by from to (λ s. unit_read (pass s >>= on)) (λ s. unit_read (pass s) >>= λ x. unit_read (on x.1))
    (λ s. pass_pass (pass s) on)
    (steady_bind from mid to (λ s. unit_read (pass s)) (λ x. unit_read (on x.1)) f (λ a. g))

-- tests
pub head_test : (test : ℕ → Bool) → SteadyTest here (λ s. test (head s))
head_test test e s t c l = ap test (shares_head e s t c l)

pub next_test : (test : ℕ → Bool) → SteadyTest next (λ s. test (head (skip s)))
next_test test e s t c l = ap test (shares_head e (skip s) (skip t) (shares_skip e s t c l) l)

pub if_reaches : {A : Type 0} (to : Rest → ℕ) (n : ℕ) (t : Bool) (o p : Outcome A) → Reaches to n o → Reaches to n p →
    Reaches to n (if t then o else p)
if_reaches to n true o p h k = h
if_reaches to n false o p h k = k

pub if_agrees : {A : Type 0} (to : Rest → ℕ) (e : ℕ) (t u : Bool) (o o' p p' : Outcome A) → u ≡ t
    → AgreesBefore to e o o' →
    AgreesBefore to e p p' → AgreesBefore to e (if t then o else p) (if u then o' else p')
if_agrees to e true u o o' p p' h f g = subst (λ b. AgreesBefore to e o (if b then o' else p')) (sym h) f
if_agrees to e false u o o' p p' h f g = subst (λ b. AgreesBefore to e p (if b then o' else p')) (sym h) g

pub steady_if : {A : Type 0} (from to : Rest → ℕ) (test : Rest → Bool) (read other : Rest → Outcome A) →
    SteadyTest from test → Steady from to read → Steady from to other →
    Steady from to (λ s. if test s then read s else other s)
steady_if from to test read other h f g = record {
  reaches = λ s. if_reaches to (from s) (test s) (read s) (other s) (f.reaches s) (g.reaches s);
  agrees = λ e s t c. agrees_within to e (from s) (if test s then read s else other s)
      (if test t then read t else other t)
      (if_reaches to (from s) (test s) (read s) (other s) (f.reaches s) (g.reaches s))
      (λ l. if_agrees to e (test s) (test t) (read s) (read t) (other s) (other t) (h e s t c l) (f.agrees e s t c)
      (g.agrees e s t c));
}

-- what is read behind blanks, and behind a byte
pub steady_skip : {A : Type 0} (to : Rest → ℕ) (read : Rest → Outcome A) → Steady here to read →
    Steady next to (λ s. read (skip s))
steady_skip to read k = record {
  reaches = λ s. k.reaches (skip s);
  agrees = λ e s t c. agrees_within to e (skip s).at (read (skip s)) (read (skip t)) (k.reaches (skip s))
      (λ l. k.agrees e (skip s) (skip t) (shares_skip e s t c l));
}

pub steady_behind : {A : Type 0} (to : Rest → ℕ) (read : Rest → Outcome A) → Steady here to read →
    Steady here to (λ s. read (behind s))
steady_behind to read k = record {
  reaches = λ s. reaches_before to s.at (behind s).at (read (behind s)) (behind_on s) (k.reaches (behind s));
  agrees = λ e s t c. agrees_within to e s.at (read (behind s)) (read (behind t))
      (reaches_before to s.at (behind s).at (read (behind s)) (behind_on s) (k.reaches (behind s)))
      (λ l. k.agrees e (behind s) (behind t) (shares_behind e s t c l));
}

-- what is read behind blanks and a byte
pub steady_behind_skip : {A : Type 0} (to : Rest → ℕ) (read : Rest → Outcome A) → Steady here to read →
    Steady next to (λ s. read (behind (skip s)))
steady_behind_skip to read k = steady_skip to (λ t. read (behind t)) (steady_behind to read k)

pub steady_part_behind : {A : Type 0} (to : Rest → ℕ) (read : Rest → Outcome A) → Steady next to read →
    Steady next to (λ s. read (behind (skip s)))
steady_part_behind to read k = steady_behind_skip to read (steady_from to read k)

-- what does not depend on what is left
pub constant_test : (from : Rest → ℕ) (t : Bool) → SteadyTest from (λ s. t)
constant_test from t e r s c l = refl

-- what speaks of the place where it stands
pub steady_here : {A : Type 0} (to : Rest → ℕ) (read : ℕ → Rest → Outcome A) → ((n : ℕ) → Steady here to (read n)) →
    Steady here to (λ s. read s.at s)
steady_here to read k = record {
  reaches = λ s. (k s.at).reaches s;
  agrees = λ e s t c. subst (λ n. AgreesBefore to e (read s.at s) (read n t)) (sym c.place) ((k s.at).agrees e s t c);
}

pub steady_next : {A : Type 0} (to : Rest → ℕ) (read : ℕ → Rest → Outcome A) → ((n : ℕ) → Steady next to (read n)) →
    Steady next to (λ s. read (skip s).at s)
steady_next to read k = record {
  reaches = λ s. (k (skip s).at).reaches s;
  agrees = λ e s t c. agrees_within to e (skip s).at (read (skip s).at s) (read (skip t).at t)
      ((k (skip s).at).reaches s)
      (λ l. subst (λ n. AgreesBefore to e (read (skip s).at s) (read n t)) (sym (shares_skip e s t c l).place)
      ((k (skip s).at).agrees e s t c));
}

-- a sign, and a part up to a sign
pub unit_if : (t : Bool) (o p : Result Rest ParseFault) →
    unit_read (if t then o else p) ≡ (if t then unit_read o else unit_read p)
unit_if true o p = refl
unit_if false o p = refl

pub steady_sign : (b : ℕ) (w : What) → SteadyPass next here (sign b w)
steady_sign b w =
    steady_by next here (λ s. unit_read (sign b w s))
    (λ s. if head (skip s) == b then Ok (tt, behind (skip s)) else Err (unexpected_fault w (skip s)))
    (λ s. unit_if (head (skip s) == b) (Ok (behind (skip s))) (Err (unexpected_fault w (skip s))))
    (steady_if next here (λ s. head (skip s) == b) (λ s. Ok (tt, behind (skip s)))
    (λ s. Err (unexpected_fault w (skip s)))
    (next_test (λ c. c == b))
    (steady_skip here (λ s. Ok (tt, behind s)) (steady_behind here (λ s. Ok (tt, s)) (steady_ok here tt)))
    (steady_skip here (λ s. Err (unexpected_fault w s)) (steady_unexpected here w)))

pub sign_next : (b : ℕ) (w : What) → SteadyPass next next (sign b w)
sign_next b w = steady_to next (λ s. unit_read (sign b w s)) (steady_sign b w)

pub steady_up_to : {A : Type 0} (from : Rest → ℕ) (b : ℕ) (w : What) (read : Rest → Outcome A) → Steady from next read →
    Steady from here (λ s. up_to_sign b w (read s))
steady_up_to from b w read k = steady_bind from next here read (λ x. sign b w x.1 >>= λ r. Ok (x.0, r)) k
    (λ a. steady_behind_pass next here here (sign b w) (λ r. Ok (a, r)) (steady_sign b w) (steady_ok here a))
