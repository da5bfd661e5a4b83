-- Parts that are read as often as they come: what they expect comes first.
use Rattle.std.proofs.Common.{◌≡◌, ◌⊎◌, inl, inr, ℕ, zero, suc, ◌+◌, ◌<◌, ◌≤◌, Bool, true, false, ◌==◌, List, [], ◌∷◌}
use Rattle.std.proofs.Common.{◌++◌, length, refl, sym, ap, ◌∙◌, subst, arith, if◌then◌else◌, Ok, Err}
use Rattle.std.proofs.lemmas.Bool.{false≢true, cases_lt}
use Rattle.mon_value.specs.Answers.{◌>>=◌}
use Rattle.mql_ast.specs.Tokens.{Rest, first_of, behind_first, head, behind, skip}
use Rattle.mql_parse.specs.declared.faults.What.{What}
use Rattle.mql_parse.specs.Outcomes.{Outcome, unexpected_fault, map_outcome}
use Rattle.mql_parse.specs.Repeats.{Turn, Done, Again, Stuck, turn_outcome, goes_on, repetition, list_or_end, on_read}
use Rattle.mql_parse.specs.Repeats.{list_turn}
use Rattle.mql_parse.specs.Behind.{Behind}
use Rattle.mql_parse.specs.Soundness.{OfTurn}
use Rattle.mql_parse.specs.Steadiness.{here, next, Reaches, Steady, SteadyTurn}
use Rattle.mql_parse.proofs.BehindLemmas.{behind_is_shorter}
use Rattle.mql_parse.proofs.Loops.{GoesBehind}
use Rattle.mql_parse.proofs.Sound.{repeated_turn}
use Rattle.mql_parse.proofs.Steady.{steady_by, steady_from, steady_if, steady_ok, next_test}
use Rattle.mql_parse.proofs.TurnSteady.{turn_to, list_turn_steady, steady_repetition}
use Rattle.mql_parse.proofs.Firsts.{Spot, Splits, splits_head, splits_skip, splits_beyond, Begun, Failed, MeetsOutcome}
use Rattle.mql_parse.proofs.Firsts.{WentOutcome, went_meets, Meets, Before, FirstOutcome, First, NoMore, beyond_meets}
use Rattle.mql_parse.proofs.Firsts.{beyond_went, beyond_first, first_bind, first_went, passed_far, meets_by}
use Rattle.mql_parse.proofs.Firsts.{meets_bind, meets_ok, meets_of, by_place, if_same, first_by, first_if}
use Rattle.mql_parse.proofs.Firsts.{first_unexpected, before_if, before_part_behind, before_skip, before_unexpected}

-- what may be left out: behind it the second text goes on at the spot
either_at : {A : Type 0} (x : Spot) (G : A → Type 0) (t u : Bool) (o o' q q' : Outcome A) →
    (t ≡ true → (p : Outcome A) → MeetsOutcome x next G o p) → (u ≡ true → WentOutcome x next G q) →
    MeetsOutcome x next G q q' → MeetsOutcome x next G (if t then o else q) (if u then o' else q')
either_at x G true u o o' q q' far more same = far refl (if u then o' else q')
either_at x G false true o o' q q' far more same = went_meets x next G q o' (more refl)
either_at x G false false o o' q q' far more same = same

pub meets_either : {A : Type 0} (x : Spot) (G : A → Type 0) (test : ℕ → Bool) (read other : Rest → Outcome A) →
    Before x next next G read →
    ((s : Rest) → next s ≡ x.at → test (head (skip s)) ≡ true → (p : Outcome A) → MeetsOutcome x next G (read s) p) →
    Meets x next next G other →
    (test x.byte ≡ true → (s : Rest) → next s ≡ x.at → WentOutcome x next G (other s)) →
    Meets x next next G (λ s. if test (head (skip s)) then read s else other s)
meets_either x G test read other f far g more =
    let whole = λ (s : Rest). if test (head (skip s)) then read s else other s in
    let steady = steady_if next next (λ s. test (head (skip s))) read other (next_test test) f.steady g.steady in
    record {
      steady = steady;
      agrees = λ s t c. by_place (next s) x.at
          (λ l. if_same x next G (test (head (skip s))) (test (head (skip t))) (read s) (read t) (other s) (other t)
          (ap test (splits_head x (skip s) (skip t) (splits_skip x s t c l) l)) (f.agrees s t c l) (g.agrees s t c))
          (λ e. either_at x G (test (head (skip s))) (test (head (skip t))) (read s) (read t) (other s) (other t)
          (far s e) (λ h. more (sym (ap test (ap head (splits_beyond x s t c e))) ∙ h) s e) (g.agrees s t c))
          (λ l. beyond_meets x next G (next s) (whole s) (whole t) (steady.reaches s) l);
    }

pub went_either : {A : Type 0} (x : Spot) (G : A → Type 0) (t : Bool) (o q : Outcome A) →
    (t ≡ true → WentOutcome x next G o) → WentOutcome x next G q → WentOutcome x next G (if t then o else q)
went_either x G true o q far h = far refl
went_either x G false o q far h = h

-- by what does not depend on what is left
pub meets_choice : {A : Type 0} (x : Spot) (from to : Rest → ℕ) (G : A → Type 0) (t : Bool)
    (read other : Rest → Outcome A) → Meets x from to G read → Meets x from to G other →
    Meets x from to G (λ s. if t then read s else other s)
meets_choice x from to G true read other f g = f
meets_choice x from to G false read other f g = g

-- what is read behind a byte that is there lies beyond the spot
behind_far : (x : Spot) (test : ℕ → Bool) → test 0 ≡ false → (s : Rest) → next s ≡ x.at →
    test (head (skip s)) ≡ true → x.at < (behind (skip s)).at
behind_far x test z s h e = omega (arith, h, of_bytes (skip s).at (skip s).bytes e)
  where
    of_bytes : (at : ℕ) (bs : List ℕ) → test (first_of bs) ≡ true → at + 1 ≤ (behind_first at bs).at
    of_bytes at [] g = absurd (false≢true (sym z ∙ g))
    of_bytes at (b ∷ bs) g = omega arith

pub skip_far : {A : Type 0} (x : Spot) (to : Rest → ℕ) (G : A → Type 0) (test : ℕ → Bool) → test 0 ≡ false →
    (read : Rest → Outcome A) → Steady here to read → (s : Rest) → next s ≡ x.at → test (head (skip s)) ≡ true →
    (p : Outcome A) → MeetsOutcome x to G (read (behind (skip s))) p
skip_far x to G test z read k s h e p =
    beyond_meets x to G (behind (skip s)).at (read (behind (skip s))) p (k.reaches (behind (skip s)))
    (behind_far x test z s h e)

pub skip_went : {A : Type 0} (x : Spot) (to : Rest → ℕ) (G : A → Type 0) (test : ℕ → Bool) → test 0 ≡ false →
    (read : Rest → Outcome A) → Steady here to read → (s : Rest) → next s ≡ x.at → test (head (skip s)) ≡ true →
    WentOutcome x to G (read (behind (skip s)))
skip_went x to G test z read k s h e =
    beyond_went x to G (behind (skip s)).at (read (behind (skip s))) (k.reaches (behind (skip s)))
    (behind_far x test z s h e)

-- a turn as what it read, and whether more may come
abbrev pub turn_read : {A : Type 0} → Turn A → Outcome (A × Bool)
turn_read (Done a r) = Ok ((a, false), r)
turn_read (Again a r) = Ok ((a, true), r)
turn_read (Stuck f) = Err f

abbrev pub OfState : {A : Type 0} → (A → Type 0) → A × Bool → Type 0
OfState G y = G y.0

-- at the spot no turn goes on without a byte
abbrev pub Stopped : {A : Type 0} → (A → Type 0) → A × Bool → Type 0
Stopped G (a, true) = ⊥
Stopped G (a, false) = G a

abbrev goes_further : {A : Type 0} → Outcome (A × Bool) → Bool
goes_further (Ok y) = y.0.1
goes_further (Err f) = false

abbrev state_read : {A : Type 0} → Outcome (A × Bool) → Outcome A
state_read (Ok y) = Ok (y.0.0, y.1)
state_read (Err f) = Err f

pub turn_if_read : {A : Type 0} (t : Bool) (u v : Turn A) →
    turn_read (if t then u else v) ≡ (if t then turn_read u else turn_read v)
turn_if_read true u v = refl
turn_if_read false u v = refl

pub goes_on_read : {A B : Type 0} (f : B → A) (o : Outcome B) →
    turn_read (goes_on f o) ≡ map_outcome (λ y. (f y, true)) o
goes_on_read f (Ok y) = refl
goes_on_read f (Err e) = refl

pub on_read_read : {A B : Type 0} (f : A × Rest → Turn B) (o : Outcome A) →
    turn_read (on_read f o) ≡ (o >>= λ y. turn_read (f y))
on_read_read f (Ok y) = refl
on_read_read f (Err e) = refl

-- turns up to one that ends
module _ {A : Type 0} (x : Spot) (G : A → Type 0) (turn : A → Rest → Turn A) (behind : GoesBehind turn)
    (steady : (a : A) → SteadyTurn next next (turn a))
    (meets : (a : A) (s t : Rest) → Splits x s t → MeetsOutcome x next (OfState G) (turn_read (turn a s))
    (turn_read (turn a t)))
    (went : (a : A) (r : Rest) → G a → next r ≡ x.at → WentOutcome x next (Stopped G) (turn_read (turn a r))) where
  abbrev rest_of_turns : A → Rest → Outcome A
  rest_of_turns a s = repetition turn a s

  reached : (a : A) (s : Rest) → Reaches next (next s) (repetition turn a s)
  reached a s = (steady_repetition next turn behind steady a).reaches s

  -- a turn that goes on at the spot goes beyond it
  turn_went : (u : Turn A) → WentOutcome x next (Stopped G) (turn_read u) →
      WentOutcome x next G (turn_outcome u rest_of_turns)
  turn_went (Done b r) h = h
  turn_went (Again b r) h = either (cases_lt x.at (next r))
    where
      either : (x.at < next r) ⊎ (next r ≤ x.at) → WentOutcome x next G (repetition turn b r)
      either (inl l) = beyond_went x next G (next r) (repetition turn b r) (reached b r) l
      either (inr l) = absurd (h l).1
  turn_went (Stuck f) h = h

  pub repetition_went : (a : A) (r : Rest) → G a → next r ≡ x.at → WentOutcome x next G (repetition turn a r)
  repetition_went a r g e =
      subst (WentOutcome x next G) (sym (repeated_turn turn behind a r)) (turn_went (turn a r) (went a r g e))

  done_same : (b : A) (q : Rest) (v : Turn A) → turn_read v ≡ Ok ((b, false), q) →
      turn_outcome v rest_of_turns ≡ Ok (b, q)
  done_same b q (Done c r) h = ap state_read h
  done_same b q (Again c r) h = absurd (false≢true (sym (ap goes_further h)))
  done_same b q (Stuck f) h = absurd (cc)

  again_same : (b : A) (q : Rest) (v : Turn A) → turn_read v ≡ Ok ((b, true), q) →
      turn_outcome v rest_of_turns ≡ repetition turn b q
  again_same b q (Done c r) h = absurd (false≢true (ap goes_further h))
  again_same b q (Again c r) h = ap (λ o. state_read o >>= λ y. repetition turn y.0 y.1) h
  again_same b q (Stuck f) h = absurd (cc)

  failed_same : (v : Turn A) → Failed (turn_read v) → Failed (turn_outcome v rest_of_turns)
  failed_same (Done c r) h = absurd h
  failed_same (Again c r) h = absurd h
  failed_same (Stuck f) h = tt

  turn_meets : (s : Rest) (u v : Turn A) → OfTurn u (λ b r. Unit {0}) (λ b r. Behind s r) →
      MeetsOutcome x next (OfState G) (turn_read u) (turn_read v) →
      ((b : A) (r q : Rest) → length r.bytes < length s.bytes → Splits x r q → MeetsOutcome x next G
      (repetition turn b r) (repetition turn b q)) →
      MeetsOutcome x next G (turn_outcome u rest_of_turns) (turn_outcome v rest_of_turns)
  turn_meets s (Done b r) v h k ih = λ l. by_part (k l)
    where
      by_part : ((q : Rest) × ((turn_read v ≡ Ok ((b, false), q)) × Splits x r q)) ⊎ ((next r ≡ x.at) × G b) →
          ((q : Rest) × ((turn_outcome v rest_of_turns ≡ Ok (b, q)) × Splits x r q)) ⊎ ((next r ≡ x.at) × G b)
      by_part (inl c) = inl (c.0, (done_same b c.0 v c.1.0, c.1.1))
      by_part (inr c) = inr c
  turn_meets s (Again b r) v h k ih = either (cases_lt x.at (next r))
    where
      by_part : ((q : Rest) × ((turn_read v ≡ Ok ((b, true), q)) × Splits x r q)) ⊎ ((next r ≡ x.at) × G b) →
          MeetsOutcome x next G (repetition turn b r) (turn_outcome v rest_of_turns)
      by_part (inl c) = subst (MeetsOutcome x next G (repetition turn b r)) (sym (again_same b c.0 v c.1.0))
          (ih b r c.0 (behind_is_shorter s r h) c.1.1)
      by_part (inr c) =
          went_meets x next G (repetition turn b r) (turn_outcome v rest_of_turns) (repetition_went b r c.1 c.0)

      either : (x.at < next r) ⊎ (next r ≤ x.at) → MeetsOutcome x next G (repetition turn b r)
          (turn_outcome v rest_of_turns)
      either (inl l) =
          beyond_meets x next G (next r) (repetition turn b r) (turn_outcome v rest_of_turns) (reached b r) l
      either (inr l) = by_part (k l)
  turn_meets s (Stuck f) v h k ih = λ e w d. by_part w (k e w d)
    where
      by_part : (w : What) → Begun x w ⊎ Failed (turn_read v) → Begun x w ⊎ Failed (turn_outcome v rest_of_turns)
      by_part w (inl b) = inl b
      by_part w (inr b) = inr (failed_same v b)

  turns_meet : (most : ℕ) (a : A) (s t : Rest) → length s.bytes < most → Splits x s t →
      MeetsOutcome x next G (repetition turn a s) (repetition turn a t)
  turns_meet zero a s t l c = absurd (omega (arith, l))
  turns_meet (suc most) a s t l c =
      subst (λ o. MeetsOutcome x next G o (repetition turn a t)) (sym (repeated_turn turn behind a s))
      (subst (λ o. MeetsOutcome x next G (turn_outcome (turn a s) rest_of_turns) o)
      (sym (repeated_turn turn behind a t))
      (turn_meets s (turn a s) (turn a t) (behind a s) (meets a s t c)
      (λ b r q h d. turns_meet most b r q (omega (arith, h, l)) d)))

  turn_first : (w : What) (u : Turn A) → FirstOutcome x next w (turn_read u) →
      FirstOutcome x next w (turn_outcome u rest_of_turns)
  turn_first w (Done b r) h = h
  turn_first w (Again b r) h = beyond_first x next w (next r) (repetition turn b r) (reached b r) h
  turn_first w (Stuck f) h = h

  turn_refuses : (w : What) (v : Turn A) → Begun x w ⊎ Failed (turn_read v) →
      Begun x w ⊎ Failed (turn_outcome v rest_of_turns)
  turn_refuses w v (inl b) = inl b
  turn_refuses w v (inr b) = inr (failed_same v b)

  -- what the first turn begins with
  pub repetition_first : (w : What) (a : A) → First x next next w (λ s. turn_read (turn a s)) →
      First x next next w (λ s. repetition turn a s)
  repetition_first w a k = record {
    names = λ s h. subst (FirstOutcome x next w) (sym (repeated_turn turn behind a s))
        (turn_first w (turn a s) (k.names s h));
    refuses = λ s t c h. subst (λ o. Begun x w ⊎ Failed o) (sym (repeated_turn turn behind a t))
        (turn_refuses w (turn a t) (k.refuses s t c h));
  }

  pub meets_repetition : (a : A) → Meets x next next G (λ s. repetition turn a s)
  meets_repetition a = record {
    steady = steady_repetition next turn behind steady a;
    agrees = λ s t c. turns_meet (suc (length s.bytes)) a s t (omega arith) c;
  }

-- a part of a list, behind which one sign goes on and another ends
abbrev pub list_state : {A : Type 0} → ℕ → ℕ → What → A → Rest → Outcome (A × Bool)
list_state between close w all r =
    if head (skip r) == between then Ok ((all, true), behind (skip r)) else
    (if head (skip r) == close then Ok ((all, false), behind (skip r)) else Err (unexpected_fault w (skip r)))

list_shape : {A : Type 0} (close : ℕ) (w : What) (so_far : List A) (a : A) (r : Rest) →
    turn_read (list_or_end close w so_far (a, r)) ≡ list_state 44 close w (so_far ++ a ∷ []) r
list_shape close w so_far a r =
    let all = so_far ++ a ∷ [] in
    let t = skip r in
    turn_if_read (head t == 44) (Again all (behind t))
    (if head t == close then Done all (behind t) else Stuck (unexpected_fault w t))
    ∙ ap (λ o. if head t == 44 then Ok ((all, true), behind t) else o)
    (turn_if_read (head t == close) (Done all (behind t)) (Stuck (unexpected_fault w t)))

module _ {A : Type 0} (x : Spot) (between close : ℕ) (w : What) (n : (0 == between) ≡ false)
    (z : (0 == close) ≡ false) (goes : (x.byte == between) ≡ true → Begun x w)
    (closes : (x.byte == close) ≡ true → Begun x w) where
  state_first : (all : A) → First x next next w (list_state between close w all)
  state_first all =
      first_if x next w (λ b. b == between) (λ r. Ok ((all, true), behind (skip r))) _
      (λ s e h. passed_far {A = A × Bool} x next w (λ b. b == between) n (λ r. Ok ((all, true), r))
      (steady_from next (λ r. Ok ((all, true), r)) (steady_ok next (all, true))) s e h)
      goes
      (first_if x next w (λ b. b == close) (λ r. Ok ((all, false), behind (skip r)))
      (λ r. Err (unexpected_fault w (skip r)))
      (λ s e h. passed_far {A = A × Bool} x next w (λ b. b == close) z (λ r. Ok ((all, false), r))
      (steady_from next (λ r. Ok ((all, false), r)) (steady_ok next (all, false))) s e h)
      closes (first_unexpected x next w))

  state_before : (all : A) → Before x next next (OfState NoMore) (list_state between close w all)
  state_before all =
      let G = OfState NoMore in
      before_if x next G (λ b. b == between) (λ r. Ok ((all, true), behind (skip r))) _
      (before_part_behind x next G (λ r. Ok ((all, true), r)) (meets_ok x next G (all, true)))
      (before_if x next G (λ b. b == close) (λ r. Ok ((all, false), behind (skip r)))
      (λ r. Err (unexpected_fault w (skip r)))
      (before_part_behind x next G (λ r. Ok ((all, false), r)) (meets_ok x next G (all, false)))
      (before_skip x next G (λ r. Err (unexpected_fault w r)) (before_unexpected x next G w)))

  -- a turn that reads a part, and then what stands behind it
  pub part_meets : {P : Type 0} (G : P → Type 0) (part : Rest → Outcome P) (on : P × Rest → Turn A) (all : P → A) →
      ((a : P) (r : Rest) → turn_read (on (a, r)) ≡ list_state between close w (all a) r) →
      ((a : P) → G a → Begun x w) → Meets x next next G part →
      Meets x next next (OfState NoMore) (λ s. turn_read (on_read on (part s)))
  part_meets G part on all shape further k =
      meets_by x next next (OfState NoMore) (λ s. turn_read (on_read on (part s)))
      (λ s. part s >>= λ y. turn_read (on y)) (λ s. on_read_read on (part s))
      (meets_bind x next next next G (OfState NoMore) part (λ y. turn_read (on y)) k
      (λ a. meets_by x next next (OfState NoMore) (λ r. turn_read (on (a, r))) (list_state between close w (all a))
      (shape a)
      (meets_of x next next (OfState NoMore) w (list_state between close w (all a)) (state_first (all a))
      (state_before (all a))))
      (λ a r g e. subst (WentOutcome x next (OfState NoMore)) (sym (shape a r))
      (first_went x next (OfState NoMore) w (list_state between close w (all a) r) ((state_first (all a)).names r e)
      (further a g))))

-- the first part of a turn
pub first_part : {A P : Type 0} (x : Spot) (w : What) (part : Rest → Outcome P) (on : P × Rest → Turn A) →
    First x next next w part → ((a : P) → Steady next next (λ r. turn_read (on (a, r)))) →
    First x next next w (λ s. turn_read (on_read on (part s)))
first_part x w part on k g =
    first_by x next next w (λ s. turn_read (on_read on (part s))) (λ s. part s >>= λ y. turn_read (on y))
    (λ s. on_read_read on (part s)) (first_bind x next next next w part (λ y. turn_read (on y)) k g)

module _ {A : Type 0} (x : Spot) (P : A → Type 0) (close : ℕ) (w : What) (part : Rest → Outcome A)
    (z : (0 == close) ≡ false) (comma : (x.byte == 44) ≡ true → Begun x w)
    (closes : (x.byte == close) ≡ true → Begun x w) (goes : (a : A) → P a → Begun x w)
    (k : Meets x next next P part) (moves : GoesBehind (list_turn close w part)) where
  list_steady : (so_far : List A) → SteadyTurn next next (list_turn close w part so_far)
  list_steady so_far =
      turn_to next (list_turn close w part so_far) (list_turn_steady close w part so_far k.steady)

  list_meets : (so_far : List A) (s t : Rest) → Splits x s t → MeetsOutcome x next (OfState NoMore)
      (turn_read (list_turn close w part so_far s)) (turn_read (list_turn close w part so_far t))
  list_meets so_far s t c =
      (part_meets x 44 close w refl z comma closes P part (list_or_end close w so_far) (λ a. so_far ++ a ∷ [])
      (λ a r. list_shape close w so_far a r) goes k).agrees s t c

  pub meets_list : Meets x next next NoMore (λ s. repetition (list_turn close w part) [] s)
  meets_list = meets_repetition x NoMore (list_turn close w part) moves list_steady list_meets
      (λ so_far r g e. absurd g) []

  pub first_list : (v : What) → First x next next v part →
      First x next next v (λ s. repetition (list_turn close w part) [] s)
  first_list v first = repetition_first x NoMore (list_turn close w part) moves list_steady list_meets
      (λ so_far r g e. absurd g) v []
      (first_part x v part (list_or_end close w []) first
      (λ a. steady_by next next (λ r. turn_read (list_or_end close w [] (a, r))) (list_state 44 close w (a ∷ []))
      (λ r. list_shape close w [] a r) (state_before x 44 close w refl z comma closes (a ∷ [])).steady))
