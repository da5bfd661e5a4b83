-- Predicates are read with more levels as with fewer, but where fewer were too few.
use Rattle.std.proofs.Common.{◌≡◌, ℕ, zero, suc, ◌<◌, Bool, true, false, ◌==◌, refl, arith}
use Rattle.mql_ast.specs.Trees.{PredicateTree, Not, And, Or}
use Rattle.mql_ast.specs.Tokens.{is_letter, Rest, head, behind, skip}
use Rattle.mql_parse.specs.declared.faults.What.{What}
use Rattle.mql_parse.specs.declared.faults.What.TheVariants as what
use Rattle.mql_parse.specs.Outcomes.{Outcome, unexpected_fault}
use Rattle.mql_parse.specs.Repeats.{Done, Stuck, repetition}
use Rattle.mql_parse.specs.PredicateReading as predicates
use Rattle.mql_parse.specs.PredicateReading.{Deeper, Opposite, Group}
use Rattle.mql_parse.specs.Steadiness.{next}
use Rattle.mql_parse.proofs.PredicateSound.{and_turn_behind, or_turn_behind}
use Rattle.mql_parse.proofs.PipeSound.{filter_turn_behind}
use Rattle.mql_parse.proofs.Steady.{steady_from}
use Rattle.mql_parse.proofs.TurnSteady.{steady_repetition}
use Rattle.mql_parse.proofs.PredicateSteady.{negation_steady, and_turn_steady, or_turn_steady, conjunction_steady}
use Rattle.mql_parse.proofs.PredicateSteady.{deeper_steady_by, filter_turn_steady}
use Rattle.mql_parse.proofs.Shallow.{unexpected_shallow, if_shallow, done_shallow, stuck_shallow}
use Rattle.mql_parse.proofs.ShallowParts.{condition_shallow}
use Rattle.mql_parse.proofs.Deepens.{Deepens, TurnDeepens, deepens_same, deepens_if, deepens_bind, deepens_map}
use Rattle.mql_parse.proofs.Deepens.{deepens_up_to, deepens_fault, turn_deepens_same, turn_deepens_if, goes_on_deepens}
use Rattle.mql_parse.proofs.Deepens.{deepens_repetition}

negation_deepens_with : (opposite opposite' group group' : Rest → Rest → Outcome PredicateTree) →
    ((t : Rest) → (head t == 33) ≡ true → Deepens next (opposite t (behind t)) (opposite' t (behind t))) →
    ((t : Rest) → (head t == 40) ≡ true → Deepens next (group t (behind t)) (group' t (behind t))) → (s : Rest) →
    Deepens next (predicates.negation_with opposite group s) (predicates.negation_with opposite' group' s)
unfolding predicates.negation_with
negation_deepens_with opposite opposite' group group' k g s =
    let t = skip s in
    deepens_if next (head t == 33) _ _ _ _ (k t)
    (λ _. deepens_if next (head t == 40) _ _ _ _ (g t)
    (λ _. deepens_same next _ (if_shallow (is_letter (head t)) _ _ (condition_shallow t)
    (unexpected_shallow what.Name t))))

-- a part behind the second of two signs
double_deepens : (b : ℕ) (w : What) (join : PredicateTree → PredicateTree → PredicateTree)
    (part part' : Rest → Outcome PredicateTree) → ((s : Rest) → Deepens next (part s) (part' s)) →
    (left : PredicateTree) (s : Rest) →
    TurnDeepens next (predicates.double_turn b w join part left s) (predicates.double_turn b w join part' left s)
double_deepens b w join part part' k left s =
    let m = behind (skip s) in
    turn_deepens_if next (head (skip s) == b) _ _ _ _
    (turn_deepens_if next (head m == b) _ _ _ _ (goes_on_deepens next (join left) _ _ (k (behind m)))
    (turn_deepens_same next (Stuck (unexpected_fault w m)) (stuck_shallow w m)))
    (turn_deepens_same next (Done left s) (done_shallow left s))

and_turn_deepens : (part part' : Rest → Outcome PredicateTree) → ((s : Rest) → Deepens next (part s) (part' s)) →
    (left : PredicateTree) (s : Rest) →
    TurnDeepens next (predicates.and_turn part left s) (predicates.and_turn part' left s)
unfolding predicates.and_turn
and_turn_deepens part part' k left s = double_deepens 38 what.And And part part' k left s

or_turn_deepens : (part part' : Rest → Outcome PredicateTree) → ((s : Rest) → Deepens next (part s) (part' s)) →
    (left : PredicateTree) (s : Rest) →
    TurnDeepens next (predicates.or_turn part left s) (predicates.or_turn part' left s)
unfolding predicates.or_turn
or_turn_deepens part part' k left s = double_deepens 124 what.Or Or part part' k left s

-- predicates of negations that are read with more levels as with fewer
module _ (d e : ℕ) (negations : (s : Rest) → Deepens next (predicates.negation d s) (predicates.negation e s)) where
  conjunction_deepens_by : (s : Rest) → Deepens next (predicates.conjunction d s) (predicates.conjunction e s)
  unfolding predicates.conjunction_with
  conjunction_deepens_by s =
      let fewer = predicates.and_turn (predicates.negation d) in
      let more = predicates.and_turn (predicates.negation e) in
      let steady = and_turn_steady (predicates.negation e) (negation_steady e) in
      deepens_bind next next (predicates.negation d s) (predicates.negation e s)
      (λ first. repetition fewer first.0 first.1) (λ first. repetition more first.0 first.1) (negations s)
      (steady_repetition next more (and_turn_behind e) steady)
      (λ x. deepens_repetition next fewer more (and_turn_behind d) (and_turn_behind e) steady
      (and_turn_deepens (predicates.negation d) (predicates.negation e) negations) x.0 x.1)

  disjunction_deepens_by : (s : Rest) → Deepens next (predicates.disjunction d s) (predicates.disjunction e s)
  unfolding predicates.disjunction_with
  disjunction_deepens_by s =
      let fewer = predicates.or_turn (predicates.conjunction d) in
      let more = predicates.or_turn (predicates.conjunction e) in
      let steady = or_turn_steady (predicates.conjunction e) (conjunction_steady e) in
      deepens_bind next next (predicates.conjunction d s) (predicates.conjunction e s)
      (λ first. repetition fewer first.0 first.1) (λ first. repetition more first.0 first.1) (conjunction_deepens_by s)
      (steady_repetition next more (or_turn_behind e) steady)
      (λ x. deepens_repetition next fewer more (or_turn_behind d) (or_turn_behind e) steady
      (or_turn_deepens (predicates.conjunction d) (predicates.conjunction e) conjunction_deepens_by) x.0 x.1)

  deeper_deepens_by : (way : Deeper) (s : Rest) → Deepens next (predicates.deeper_with (predicates.negation d) way s)
      (predicates.deeper_with (predicates.negation e) way s)
  deeper_deepens_by Opposite s = deepens_map next Not (predicates.negation d s) (predicates.negation e s) (negations s)
  deeper_deepens_by Group s =
      deepens_up_to 41 what.CloseParenthesis (predicates.disjunction d s) (predicates.disjunction e s)
      (disjunction_deepens_by s)

abbrev sign_of : Deeper → ℕ
sign_of Opposite = 33
sign_of Group = 40

not_none : (way : Deeper) → (0 == sign_of way) ≡ false
not_none Opposite = refl
not_none Group = refl

-- what stands behind a sign that goes a level deeper, from the sign
deeper_deepens : (d e : ℕ) → d < e → (way : Deeper) (t : Rest) → (head t == sign_of way) ≡ true →
    Deepens next (predicates.deeper d way t (behind t)) (predicates.deeper e way t (behind t))
unfolding predicates.deeper
deeper_deepens zero zero l way t h = absurd (omega (arith, l))
deeper_deepens (suc d) zero l way t h = absurd (omega (arith, l))
deeper_deepens zero (suc e) l way t h =
    let inner = predicates.deeper_with (predicates.negation e) way in
    deepens_fault next (sign_of way) t inner (steady_from next inner (deeper_steady_by e way (negation_steady e)))
    (not_none way) h
deeper_deepens (suc d) (suc e) l way t h =
    let under : d < e = omega (arith, l) in
    deeper_deepens_by d e (negation_deepens_with (predicates.deeper d Opposite) (predicates.deeper e Opposite)
    (predicates.deeper d Group) (predicates.deeper e Group) (deeper_deepens d e under Opposite)
    (deeper_deepens d e under Group)) way (behind t)

conjunction_deepens : (d e : ℕ) → d < e → (s : Rest) →
    Deepens next (predicates.conjunction d s) (predicates.conjunction e s)
conjunction_deepens d e l =
    conjunction_deepens_by d e (negation_deepens_with (predicates.deeper d Opposite) (predicates.deeper e Opposite)
    (predicates.deeper d Group) (predicates.deeper e Group) (deeper_deepens d e l Opposite)
    (deeper_deepens d e l Group))

-- a filter's predicate, and the bar behind it
filter_turn_deepens : (part part' : Rest → Outcome PredicateTree) → ((s : Rest) → Deepens next (part s) (part' s)) →
    (left : PredicateTree × Bool) (s : Rest) →
    TurnDeepens next (predicates.filter_turn part left s) (predicates.filter_turn part' left s)
unfolding predicates.filter_turn
filter_turn_deepens part part' k left s =
    let m = behind (skip s) in
    turn_deepens_if next (head (skip s) == 124) _ _ _ _
    (turn_deepens_if next (head m == 124) _ _ _ _
    (goes_on_deepens next (λ right. (Or left.0 right, false)) _ _ (k (behind m)))
    (turn_deepens_same next (Done (left.0, true) m) (done_shallow (left.0, true) m)))
    (turn_deepens_same next (Done (left.0, false) s) (done_shallow (left.0, false) s))

pub predicate_deepens : (d e : ℕ) → d < e → (s : Rest) →
    Deepens next (predicates.predicate d s) (predicates.predicate e s)
unfolding predicates.predicate
predicate_deepens d e l s =
    let fewer = predicates.filter_turn (predicates.conjunction d) in
    let more = predicates.filter_turn (predicates.conjunction e) in
    let steady = filter_turn_steady (predicates.conjunction e) (conjunction_steady e) in
    deepens_bind next next (predicates.conjunction d s) (predicates.conjunction e s)
    (λ first. repetition fewer (first.0, false) first.1) (λ first. repetition more (first.0, false) first.1)
    (conjunction_deepens d e l s)
    (λ first. steady_repetition next more (filter_turn_behind e) steady (first, false))
    (λ x. deepens_repetition next fewer more (filter_turn_behind d) (filter_turn_behind e) steady
    (filter_turn_deepens (predicates.conjunction d) (predicates.conjunction e) (conjunction_deepens d e l))
    (x.0, false) x.1)
