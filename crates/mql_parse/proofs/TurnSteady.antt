-- Turns that look no farther than they tell, and readers that take them.
use Rattle.std.proofs.Common.{◌≡◌, ℕ, zero, suc, ◌<◌, ◌≤◌, Bool, true, false, ◌==◌, List, [], ◌∷◌, ◌++◌, length, refl}
use Rattle.std.proofs.Common.{sym, ap, subst, arith, if◌then◌else◌, Ok, Err}
use Rattle.mql_ast.specs.Tokens.{Rest, head, behind, skip}
use Rattle.mql_parse.specs.declared.faults.What.{What}
use Rattle.mql_parse.specs.Outcomes.{Outcome, unexpected_fault}
use Rattle.mql_parse.specs.Repeats.{Turn, Done, Again, Stuck, turn_outcome, goes_on, repetition, list_or_end, on_read}
use Rattle.mql_parse.specs.Repeats.{list_turn}
use Rattle.mql_parse.specs.Behind.{Behind}
use Rattle.mql_parse.specs.Soundness.{OfTurn}
use Rattle.mql_parse.specs.Steadiness.{Shares, here, next, ReadAlike, AgreesBefore, Reaches, Steady, TurnAgrees}
use Rattle.mql_parse.specs.Steadiness.{TurnReaches}
use Rattle.mql_parse.specs.Steadiness.{SteadyTurn, SteadyTest}
use Rattle.mql_parse.proofs.BehindLemmas.{behind_is_shorter}
use Rattle.mql_parse.proofs.Loops.{GoesBehind}
use Rattle.mql_parse.proofs.Sound.{repeated_turn}
use Rattle.mql_parse.proofs.Steady.{skip_on, behind_on, shares_skip, shares_behind, shares_unexpected, next_test}
use Rattle.mql_parse.proofs.Steady.{reaches_before, agrees_within, steady_part_behind}

pub turn_reaches_before : {A : Type 0} (to : Rest → ℕ) (n m : ℕ) (u : Turn A) → n ≤ m → TurnReaches to m u →
    TurnReaches to n u
turn_reaches_before to n m (Done a r) h k = omega (arith, h, k)
turn_reaches_before to n m (Again a r) h k = omega (arith, h, k)
turn_reaches_before to n m (Stuck f) h k = omega (arith, h, k)

turn_agrees_within : {A : Type 0} (to : Rest → ℕ) (e n : ℕ) (u v : Turn A) → TurnReaches to n u →
    (n < e → TurnAgrees to e u v) → TurnAgrees to e u v
turn_agrees_within to e n (Done a r) v h f = λ l. f (omega (arith, h, l)) l
turn_agrees_within to e n (Again a r) v h f = λ l. f (omega (arith, h, l)) l
turn_agrees_within to e n (Stuck x) v h f = λ l. f (omega (arith, h, l)) l

pub turn_done : {A : Type 0} (place : Rest → ℕ) (a : A) → SteadyTurn place place (λ s. Done a s)
turn_done place a = record { reaches = λ s. omega arith; agrees = λ e s t c l. (t, (refl, c)) }

pub turn_again : {A : Type 0} (to : Rest → ℕ) (a : A) → SteadyTurn next to (λ s. Again a s)
turn_again to a = record { reaches = λ s. omega arith; agrees = λ e s t c l. (t, (refl, c)) }

pub turn_stuck : {A : Type 0} (to : Rest → ℕ) (w : What)
    → SteadyTurn {A = A} here to (λ s. Stuck (unexpected_fault w s))
turn_stuck to w = record {
  reaches = λ s. omega arith;
  agrees = λ e s t c l. ap (λ f. Stuck f) (shares_unexpected w e s t c l);
}

-- a turn that looks less far than it might
wider_reaches : {A : Type 0} (n : ℕ) (u : Turn A) → TurnReaches here n u → TurnReaches next n u
wider_reaches n (Done a r) h = omega (arith, h, skip_on r)
wider_reaches n (Again a r) h = h
wider_reaches n (Stuck f) h = h

wider_agrees : {A : Type 0} (e : ℕ) (u v : Turn A) → TurnAgrees here e u v → TurnAgrees next e u v
wider_agrees e (Done a r) v h = λ l. h (omega (arith, l, skip_on r))
wider_agrees e (Again a r) v h = h
wider_agrees e (Stuck f) v h = h

pub turn_to : {A : Type 0} (from : Rest → ℕ) (turn : Rest → Turn A) → SteadyTurn from here turn →
    SteadyTurn from next turn
turn_to from turn k = record {
  reaches = λ s. wider_reaches (from s) (turn s) (k.reaches s);
  agrees = λ e s t c. wider_agrees e (turn s) (turn t) (k.agrees e s t c);
}

-- a turn that looks farther at once
pub turn_from : {A : Type 0} (to : Rest → ℕ) (turn : Rest → Turn A) → SteadyTurn next to turn → SteadyTurn here to turn
turn_from to turn k = record {
  reaches = λ s. turn_reaches_before to s.at (skip s).at (turn s) (skip_on s) (k.reaches s);
  agrees = k.agrees;
}

pub turn_skip : {A : Type 0} (to : Rest → ℕ) (turn : Rest → Turn A) → SteadyTurn here to turn →
    SteadyTurn next to (λ s. turn (skip s))
turn_skip to turn k = record {
  reaches = λ s. k.reaches (skip s);
  agrees = λ e s t c. turn_agrees_within to e (skip s).at (turn (skip s)) (turn (skip t)) (k.reaches (skip s))
      (λ l. k.agrees e (skip s) (skip t) (shares_skip e s t c l));
}

pub turn_behind : {A : Type 0} (to : Rest → ℕ) (turn : Rest → Turn A) → SteadyTurn here to turn →
    SteadyTurn here to (λ s. turn (behind s))
turn_behind to turn k = record {
  reaches = λ s. turn_reaches_before to s.at (behind s).at (turn (behind s)) (behind_on s) (k.reaches (behind s));
  agrees = λ e s t c. turn_agrees_within to e s.at (turn (behind s)) (turn (behind t))
      (turn_reaches_before to s.at (behind s).at (turn (behind s)) (behind_on s) (k.reaches (behind s)))
      (λ l. k.agrees e (behind s) (behind t) (shares_behind e s t c l));
}

pub turn_behind_skip : {A : Type 0} (to : Rest → ℕ) (turn : Rest → Turn A) → SteadyTurn here to turn →
    SteadyTurn next to (λ s. turn (behind (skip s)))
turn_behind_skip to turn k = turn_skip to (λ t. turn (behind t)) (turn_behind to turn k)

if_reaches : {A : Type 0} (to : Rest → ℕ) (n : ℕ) (t : Bool) (u v : Turn A) → TurnReaches to n u → TurnReaches to n v →
    TurnReaches to n (if t then u else v)
if_reaches to n true u v h k = h
if_reaches to n false u v h k = k

if_agrees : {A : Type 0} (to : Rest → ℕ) (e : ℕ) (t t' : Bool) (u u' v v' : Turn A) → t' ≡ t → TurnAgrees to e u u' →
    TurnAgrees to e v v' → TurnAgrees to e (if t then u else v) (if t' then u' else v')
if_agrees to e true t' u u' v v' h f g = subst (λ b. TurnAgrees to e u (if b then u' else v')) (sym h) f
if_agrees to e false t' u u' v v' h f g = subst (λ b. TurnAgrees to e v (if b then u' else v')) (sym h) g

pub turn_if : {A : Type 0} (from to : Rest → ℕ) (test : Rest → Bool) (turn other : Rest → Turn A) →
    SteadyTest from test → SteadyTurn from to turn → SteadyTurn from to other →
    SteadyTurn from to (λ s. if test s then turn s else other s)
turn_if from to test turn other h f g = record {
  reaches = λ s. if_reaches to (from s) (test s) (turn s) (other s) (f.reaches s) (g.reaches s);
  agrees = λ e s t c. turn_agrees_within to e (from s) (if test s then turn s else other s)
      (if test t then turn t else other t)
      (if_reaches to (from s) (test s) (turn s) (other s) (f.reaches s) (g.reaches s))
      (λ l. if_agrees to e (test s) (test t) (turn s) (turn t) (other s) (other t) (h e s t c l) (f.agrees e s t c)
      (g.agrees e s t c));
}

-- a turn that goes on with what was read
goes_on_reaches : {A B : Type 0} (to : Rest → ℕ) (f : A → B) (n : ℕ) (o : Outcome A) → Reaches next n o →
    TurnReaches to n (goes_on f o)
goes_on_reaches to f n (Ok x) h = h
goes_on_reaches to f n (Err x) h = h

goes_on_agrees : {A B : Type 0} (to : Rest → ℕ) (f : A → B) (e : ℕ) (o p : Outcome A) → AgreesBefore next e o p →
    TurnAgrees to e (goes_on f o) (goes_on f p)
goes_on_agrees to f e (Ok x) p h = λ l. let alike : ReadAlike e x.0 x.1 p = h l in
    (alike.0, (ap (goes_on f) alike.1.0, alike.1.1))
goes_on_agrees to f e (Err x) p h = λ l. ap (goes_on f) (h l)

pub turn_goes_on : {A B : Type 0} (from to : Rest → ℕ) (f : A → B) (read : Rest → Outcome A) → Steady from next read →
    SteadyTurn from to (λ s. goes_on f (read s))
turn_goes_on from to f read k = record {
  reaches = λ s. goes_on_reaches to f (from s) (read s) (k.reaches s);
  agrees = λ e s t c. goes_on_agrees to f e (read s) (read t) (k.agrees e s t c);
}

-- a turn that goes on with a part behind blanks and a byte
pub turn_part_behind : {A B : Type 0} (to : Rest → ℕ) (f : A → B) (read : Rest → Outcome A) → Steady next next read →
    SteadyTurn next to (λ s. goes_on f (read (behind (skip s))))
turn_part_behind to f read k = turn_goes_on next to f (λ s. read (behind (skip s))) (steady_part_behind next read k)

-- a turn behind what was read
module _ {A B : Type 0} (mid to : Rest → ℕ) (f : A × Rest → Turn B) (g : (a : A) → SteadyTurn mid to (λ r. f (a, r)))
  where
    on_read_reaches : (n : ℕ) (o : Outcome A) → Reaches mid n o → TurnReaches to n (on_read f o)
    on_read_reaches n (Ok (a, r)) h = turn_reaches_before to n (mid r) (f (a, r)) h ((g a).reaches r)
    on_read_reaches n (Err x) h = h

    on_read_agrees : (e : ℕ) (o p : Outcome A) → AgreesBefore mid e o p → TurnAgrees to e (on_read f o) (on_read f p)
    on_read_agrees e (Ok (a, r)) p h = turn_agrees_within to e (mid r) (f (a, r)) (on_read f p) ((g a).reaches r)
        (λ l. let alike : ReadAlike e a r p = h l in
        subst (λ z. TurnAgrees to e (f (a, r)) (on_read f z)) (sym alike.1.0) ((g a).agrees e r alike.0 alike.1.1))
    on_read_agrees e (Err x) p h = λ l. ap (on_read f) (h l)

pub turn_on_read : {A B : Type 0} (from mid to : Rest → ℕ) (f : A × Rest → Turn B) (read : Rest → Outcome A) →
    Steady from mid read → ((a : A) → SteadyTurn mid to (λ r. f (a, r))) → SteadyTurn from to (λ s. on_read f (read s))
turn_on_read from mid to f read k g = record {
  reaches = λ s. on_read_reaches mid to f g (from s) (read s) (k.reaches s);
  agrees = λ e s t c. on_read_agrees mid to f g e (read s) (read t) (k.agrees e s t c);
}

-- a part of a list
pub list_or_end_steady : {A : Type 0} (close : ℕ) (w : What) (so_far : List A) (a : A) →
    SteadyTurn next here (λ r. list_or_end close w so_far (a, r))
list_or_end_steady close w so_far a =
    let all = so_far ++ a ∷ [] in
    turn_if next here (λ r. head (skip r) == 44) (λ r. Again all (behind (skip r)))
    (λ r. if head (skip r) == close then Done all (behind (skip r)) else Stuck (unexpected_fault w (skip r)))
    (next_test (λ b. b == 44))
    (turn_behind_skip here (λ t. Again all t) (turn_from here (λ t. Again all t) (turn_again here all)))
    (turn_if next here (λ r. head (skip r) == close) (λ r. Done all (behind (skip r)))
    (λ r. Stuck (unexpected_fault w (skip r))) (next_test (λ b. b == close))
    (turn_behind_skip here (λ t. Done all t) (turn_done here all))
    (turn_skip here (λ t. Stuck (unexpected_fault w t)) (turn_stuck here w)))

pub list_turn_steady : {A : Type 0} (close : ℕ) (w : What) (part : Rest → Outcome A) (so_far : List A) →
    Steady next next part → SteadyTurn next here (list_turn close w part so_far)
list_turn_steady close w part so_far k = turn_on_read next next here (list_or_end close w so_far) part k
    (list_or_end_steady close w so_far)

-- turns up to one that ends
module _ {A : Type 0} (to : Rest → ℕ) (turn : A → Rest → Turn A) (behind : GoesBehind turn)
    (steady : (a : A) → SteadyTurn next to (turn a)) where
  abbrev rest_of_turns : A → Rest → Outcome A
  rest_of_turns a s = repetition turn a s

  -- what holds of a turn, where it holds of turns over fewer bytes
  turn_outcome_reaches : (s : Rest) (n : ℕ) (u : Turn A) → OfTurn u (λ b r. Unit {0}) (λ b r. Behind s r) →
      TurnReaches to n u → ((b : A) (r : Rest) → length r.bytes < length s.bytes →
      Reaches to (next r) (repetition turn b r)) → Reaches to n (turn_outcome u rest_of_turns)
  turn_outcome_reaches s n (Done b r) h k ih = k
  turn_outcome_reaches s n (Again b r) h k ih = reaches_before to n (next r) (repetition turn b r) k
      (ih b r (behind_is_shorter s r h))
  turn_outcome_reaches s n (Stuck f) h k ih = k

  repetition_reaches_within : (most : ℕ) (a : A) (s : Rest) → length s.bytes ≤ most →
      Reaches to (next s) (repetition turn a s)
  repetition_reaches_within zero a s l = subst (λ o. Reaches to (next s) o) (sym (repeated_turn turn behind a s))
      (turn_outcome_reaches s (next s) (turn a s) (behind a s) ((steady a).reaches s)
      (λ b r h. absurd (omega (arith, h, l))))
  repetition_reaches_within (suc most) a s l = subst (λ o. Reaches to (next s) o) (sym (repeated_turn turn behind a s))
      (turn_outcome_reaches s (next s) (turn a s) (behind a s) ((steady a).reaches s)
      (λ b r h. repetition_reaches_within most b r (omega (arith, h, l))))

  repetition_reaches : (a : A) (s : Rest) → Reaches to (next s) (repetition turn a s)
  repetition_reaches a s = repetition_reaches_within (length s.bytes) a s (omega arith)

  turn_outcome_agrees : (s : Rest) (e : ℕ) (u v : Turn A) → OfTurn u (λ b r. Unit {0}) (λ b r. Behind s r) →
      TurnAgrees to e u v →
      ((b : A) (r q : Rest) → length r.bytes < length s.bytes → Shares e r q → AgreesBefore to e (repetition turn b r)
      (repetition turn b q)) → AgreesBefore to e (turn_outcome u rest_of_turns) (turn_outcome v rest_of_turns)
  turn_outcome_agrees s e (Done b r) v h k ih = λ l.
      ((k l).0, (ap (λ z. turn_outcome z rest_of_turns) (k l).1.0, (k l).1.1))
  turn_outcome_agrees s e (Again b r) v h k ih = agrees_within to e (next r) (repetition turn b r)
      (turn_outcome v rest_of_turns) (repetition_reaches b r)
      (λ l. subst (λ z. AgreesBefore to e (repetition turn b r) (turn_outcome z rest_of_turns)) (sym (k l).1.0)
      (ih b r (k l).0 (behind_is_shorter s r h) (k l).1.1))
  turn_outcome_agrees s e (Stuck f) v h k ih = λ l. ap (λ z. turn_outcome z rest_of_turns) (k l)

  repetition_agrees_by : (a : A) (s t : Rest) (e : ℕ) → AgreesBefore to e (turn_outcome (turn a s) rest_of_turns)
      (turn_outcome (turn a t) rest_of_turns) → AgreesBefore to e (repetition turn a s) (repetition turn a t)
  repetition_agrees_by a s t e h = subst (λ o. AgreesBefore to e o (repetition turn a t))
      (sym (repeated_turn turn behind a s))
      (subst (λ o. AgreesBefore to e (turn_outcome (turn a s) rest_of_turns) o) (sym (repeated_turn turn behind a t)) h)

  repetition_agrees_within : (most : ℕ) (a : A) (s t : Rest) (e : ℕ) → length s.bytes ≤ most → Shares e s t →
      AgreesBefore to e (repetition turn a s) (repetition turn a t)
  repetition_agrees_within zero a s t e l c = repetition_agrees_by a s t e
      (turn_outcome_agrees s e (turn a s) (turn a t) (behind a s) ((steady a).agrees e s t c)
      (λ b r q h g. absurd (omega (arith, h, l))))
  repetition_agrees_within (suc most) a s t e l c = repetition_agrees_by a s t e
      (turn_outcome_agrees s e (turn a s) (turn a t) (behind a s) ((steady a).agrees e s t c)
      (λ b r q h g. repetition_agrees_within most b r q e (omega (arith, h, l)) g))

  pub steady_repetition : (a : A) → Steady next to (λ s. repetition turn a s)
  steady_repetition a = record {
    reaches = λ s. repetition_reaches a s;
    agrees = λ e s t c. repetition_agrees_within (length s.bytes) a s t e (omega arith) c;
  }
