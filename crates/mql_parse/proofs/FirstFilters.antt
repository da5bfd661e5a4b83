-- What negations, chains of conditions and filters expect comes first.
use Rattle.std.proofs.Common.{◌≡◌, ℕ, zero, suc, Bool, true, false, ◌==◌, refl, sym, ap, ◌∙◌, subst, if◌then◌else◌, Ok}
use Rattle.std.proofs.Common.{Err}
use Rattle.mql_ast.specs.Trees.{PredicateTree, Not, And, Or}
use Rattle.mql_ast.specs.Tokens.{is_letter, Rest, head, behind, skip}
use Rattle.mql_parse.specs.declared.faults.ParseKind.TheVariants.{TooDeep}
use Rattle.mql_parse.specs.declared.faults.What.{What}
use Rattle.mql_parse.specs.declared.faults.What.TheVariants as what
use Rattle.mql_parse.specs.Outcomes.{Outcome, unexpected_fault, map_outcome}
use Rattle.mql_parse.specs.Repeats.{Done, Stuck, goes_on, repetition}
use Rattle.mql_parse.specs.PredicateReading as predicates
use Rattle.mql_parse.specs.PredicateReading.{Deeper, Opposite, Group}
use Rattle.mql_parse.specs.Steadiness.{here, next}
use Rattle.mql_parse.proofs.PredicateSound.{and_turn_behind, or_turn_behind}
use Rattle.mql_parse.proofs.PipeSound.{filter_turn_behind}
use Rattle.mql_parse.proofs.Steady.{steady_from}
use Rattle.mql_parse.proofs.PredicateSteady.{and_turn_steady, or_turn_steady, deeper_steady_by, negation_steady}
use Rattle.mql_parse.proofs.PredicateSteady.{filter_turn_steady}
use Rattle.mql_parse.proofs.TurnSteady.{steady_repetition}
use Rattle.mql_parse.proofs.Firsts.{Spot, Splits, Begun, begun_later, WentOutcome, Meets, Before, FirstOutcome, First}
use Rattle.mql_parse.proofs.Firsts.{NoMore, passed_far, first_wider, first_bind, meets_bind, meets_ok, meets_map}
use Rattle.mql_parse.proofs.Firsts.{meets_of, meets_from, meets_to, meets_by, meets_up_to, first_if, first_unexpected}
use Rattle.mql_parse.proofs.Firsts.{before_of, before_if, before_skip, before_behind, before_behind_skip}
use Rattle.mql_parse.proofs.Firsts.{before_unexpected, before_fault}
use Rattle.mql_parse.proofs.FirstBytes.{at_byte, opening_begins, closing_begins, bar_begins, exclamation_begins}
use Rattle.mql_parse.proofs.FirstTokens.{meets_unexpected, meets_if_here, far_behind}
use Rattle.mql_parse.proofs.FirstTurns.{meets_either, went_either, skip_far, skip_went, turn_read, OfState, Stopped}
use Rattle.mql_parse.proofs.FirstTurns.{turn_if_read, goes_on_read, meets_repetition, repetition_went}
use Rattle.mql_parse.proofs.FirstPredicates.{condition_meets, condition_far}

-- a sign that goes a level deeper is refused for the depth where it stands, or else behind it
deeper_far : (x : Spot) (d : ℕ) (way : Deeper) (b : ℕ) → (0 == b) ≡ false → (s : Rest) → next s ≡ x.at →
    (head (skip s) == b) ≡ true → FirstOutcome x next what.Name (predicates.deeper d way (skip s) (behind (skip s)))
unfolding predicates.deeper
deeper_far x zero way b z s e h = λ d v k. absurd (cc)
deeper_far x (suc d) way b z s e h =
    let inner = predicates.deeper_with (predicates.negation d) way in
    passed_far x next what.Name (λ c. c == b) z inner
    (steady_from next inner (deeper_steady_by d way (negation_steady d))) s e h

negation_first : (x : Spot) (d : ℕ) → First x next next what.Name (predicates.negation d)
unfolding predicates.negation_with
negation_first x d =
    first_if x next what.Name (λ b. b == 33) _ _ (deeper_far x d Opposite 33 refl)
    (exclamation_begins x what.Name refl)
    (first_if x next what.Name (λ b. b == 40) _ _ (deeper_far x d Group 40 refl)
    (opening_begins x what.Name refl)
    (first_if x next what.Name is_letter (λ s. predicates.condition (skip s))
    (λ s. Err (unexpected_fault what.Name (skip s)))
    (λ s e h. first_wider x what.Name (predicates.condition (skip s)) (condition_far x s e h))
    (λ h. refl) (first_unexpected x next what.Name)))

negation_before_with : (x : Spot) (opposite group : Rest → Rest → Outcome PredicateTree) →
    Before x here next NoMore (λ t. opposite t (behind t)) → Before x here next NoMore (λ t. group t (behind t)) →
    Before x next next NoMore (predicates.negation_with opposite group)
unfolding predicates.negation_with
negation_before_with x opposite group f g =
    before_if x next NoMore (λ b. b == 33) _ _ (before_skip x next NoMore (λ t. opposite t (behind t)) f)
    (before_if x next NoMore (λ b. b == 40) _ _ (before_skip x next NoMore (λ t. group t (behind t)) g)
    (before_if x next NoMore is_letter (λ s. predicates.condition (skip s))
    (λ s. Err (unexpected_fault what.Name (skip s)))
    (before_skip x next NoMore predicates.condition
    (before_of x here next NoMore predicates.condition (meets_to x here NoMore predicates.condition
    (condition_meets x))))
    (before_skip x next NoMore (λ t. Err (unexpected_fault what.Name t)) (before_unexpected x next NoMore what.Name))))

-- what may go on a chain
abbrev pub AndGoes : Spot → PredicateTree → Type 0
AndGoes x p = Begun x what.And

abbrev pub OrGoes : Spot → PredicateTree → Type 0
OrGoes x p = Begun x what.Bar

-- a further part behind a sign that is written twice
abbrev second_sign : ℕ → What → (PredicateTree → PredicateTree) → (Rest → Outcome PredicateTree) → Rest →
    Outcome (PredicateTree × Bool)
second_sign b w join part u =
    if head u == b then map_outcome (λ y. (join y, true)) (part (behind u)) else Err (unexpected_fault w u)

abbrev double_state : ℕ → What → (PredicateTree → PredicateTree) → (Rest → Outcome PredicateTree) → PredicateTree →
    Rest → Outcome (PredicateTree × Bool)
double_state b w join part left s =
    if head (skip s) == b then second_sign b w join part (behind (skip s)) else Ok ((left, false), s)

double_shape : (b : ℕ) (w : What) (join : PredicateTree → PredicateTree → PredicateTree)
    (part : Rest → Outcome PredicateTree) (left : PredicateTree) (s : Rest) →
    turn_read (predicates.double_turn b w join part left s) ≡ double_state b w (join left) part left s
double_shape b w join part left s =
    let u = behind (skip s) in
    let on = goes_on (join left) (part (behind u)) in
    turn_if_read (head (skip s) == b) (if head u == b then on else Stuck (unexpected_fault w u)) (Done left s)
    ∙ ap (λ o. if head (skip s) == b then o else Ok ((left, false), s))
    (turn_if_read (head u == b) on (Stuck (unexpected_fault w u))
    ∙ ap (λ o. if head u == b then o else Err (unexpected_fault w u)) (goes_on_read (join left) (part (behind u))))

module _ (x : Spot) (P G : PredicateTree → Type 0) (b : ℕ) (w : What)
    (join : PredicateTree → PredicateTree → PredicateTree) (part : Rest → Outcome PredicateTree)
    (z : (0 == b) ≡ false) (blank : (10 == b) ≡ false) (goes : (left y : PredicateTree) → P y → G (join left y))
    (begins : (left : PredicateTree) → (x.byte == b) ≡ true → G left) (k : Meets x next next P part) where
  second_meets : (left : PredicateTree) → Meets x here next (OfState G) (second_sign b w (join left) part)
  second_meets left =
      let further = λ (u : Rest). map_outcome (λ y. (join left y, true)) (part u) in
      let there : Meets x next next (OfState G) further =
      meets_map x next next P (OfState G) (λ y. (join left y, true)) part (goes left) k in
      meets_if_here x next (OfState G) (λ c. c == b) (λ u. further (behind u)) (λ u. Err (unexpected_fault w u)) blank
      (far_behind x next (OfState G) (λ c. c == b) z further (steady_from next further there.steady))
      (before_behind x next (OfState G) further (meets_from x next (OfState G) further there))
      (meets_unexpected x next (OfState G) w)

  pub double_meets : (left : PredicateTree) →
      Meets x next next (OfState G) (λ s. turn_read (predicates.double_turn b w join part left s))
  double_meets left =
      let second = second_sign b w (join left) part in
      meets_by x next next (OfState G) (λ s. turn_read (predicates.double_turn b w join part left s))
      (double_state b w (join left) part left) (double_shape b w join part left)
      (meets_either x (OfState G) (λ c. c == b) (λ s. second (behind (skip s))) (λ s. Ok ((left, false), s))
      (before_behind_skip x next (OfState G) second (second_meets left))
      (skip_far x next (OfState G) (λ c. c == b) z second (second_meets left).steady)
      (meets_ok x next (OfState G) (left, false)) (λ h s e l. (e, begins left h)))

  pub double_went : (left : PredicateTree) (r : Rest) → G left → next r ≡ x.at →
      WentOutcome x next (Stopped G) (turn_read (predicates.double_turn b w join part left r))
  double_went left r g e =
      subst (WentOutcome x next (Stopped G)) (sym (double_shape b w join part left r))
      (went_either x (Stopped G) (head (skip r) == b) _ (Ok ((left, false), r))
      (λ h. skip_went x next (Stopped G) (λ c. c == b) z (second_sign b w (join left) part) (second_meets left).steady r
      e h) (λ l. (e, g)))

-- `&&`
and_begins : (x : Spot) → (x.byte == 38) ≡ true → Begun x what.And
and_begins x = at_byte x what.And what.And 38 refl refl

conjunction_meets_by : (x : Spot) (d : ℕ) → Meets x next next NoMore (predicates.negation d) →
    Meets x next next (AndGoes x) (predicates.conjunction d)
unfolding predicates.conjunction_with predicates.and_turn
conjunction_meets_by x d k =
    let turn = predicates.and_turn (predicates.negation d) in
    let meets = λ (left : PredicateTree) (s t : Rest) (c : Splits x s t). (double_meets x NoMore (AndGoes x) 38 what.And
    And (predicates.negation d) refl refl (λ l y n. absurd n) (λ l h. and_begins x h) k left).agrees s t c in
    let went = λ (left : PredicateTree) (r : Rest). double_went x NoMore (AndGoes x) 38 what.And And
    (predicates.negation d) refl refl (λ l y n. absurd n) (λ l h. and_begins x h) k left r in
    meets_bind x next next next NoMore (AndGoes x) (predicates.negation d)
    (λ first. repetition turn first.0 first.1) k
    (meets_repetition x (AndGoes x) turn (and_turn_behind d) (and_turn_steady (predicates.negation d) k.steady) meets
    went)
    (λ a r n e. absurd n)

and_then_bar : (x : Spot) → Begun x what.And → Begun x what.Bar
and_then_bar x g = begun_later x what.And what.Bar refl g

disjunction_meets_by : (x : Spot) (d : ℕ) → Meets x next next NoMore (predicates.negation d) →
    Meets x next next (OrGoes x) (predicates.disjunction d)
unfolding predicates.disjunction_with predicates.or_turn
disjunction_meets_by x d k =
    let part = predicates.conjunction d in
    let parts = conjunction_meets_by x d k in
    let turn = predicates.or_turn part in
    let meets = λ (left : PredicateTree) (s t : Rest) (c : Splits x s t). (double_meets x (AndGoes x) (OrGoes x) 124
    what.Or Or part refl refl (λ l y g. and_then_bar x g) (λ l h. bar_begins x what.Bar refl h) parts left).agrees s t
    c in
    let went = λ (left : PredicateTree) (r : Rest). double_went x (AndGoes x) (OrGoes x) 124 what.Or Or part refl refl
    (λ l y g. and_then_bar x g) (λ l h. bar_begins x what.Bar refl h) parts left r in
    meets_bind x next next next (AndGoes x) (OrGoes x) part (λ first. repetition turn first.0 first.1) parts
    (meets_repetition x (OrGoes x) turn (or_turn_behind d) (or_turn_steady part parts.steady) meets went)
    (λ a r g e. repetition_went x (OrGoes x) turn (or_turn_behind d) (or_turn_steady part parts.steady) meets went a r
    (and_then_bar x g) e)

deeper_meets_by : (x : Spot) (d : ℕ) (way : Deeper) → Meets x next next NoMore (predicates.negation d) →
    Meets x next next NoMore (predicates.deeper_with (predicates.negation d) way)
deeper_meets_by x d Opposite k = meets_map x next next NoMore NoMore Not (predicates.negation d) (λ y h. h) k
deeper_meets_by x d Group k =
    meets_up_to x next (OrGoes x) NoMore 41 what.CloseParenthesis (predicates.disjunction d) refl
    (closing_begins x what.CloseParenthesis refl)
    (λ p g. begun_later x what.Bar what.CloseParenthesis refl g) (disjunction_meets_by x d k)

negation_meets_with : (x : Spot) (d : ℕ) →
    Before x here next NoMore (λ t. predicates.deeper d Opposite t (behind t)) →
    Before x here next NoMore (λ t. predicates.deeper d Group t (behind t)) →
    Meets x next next NoMore (predicates.negation d)
negation_meets_with x d f g =
    meets_of x next next NoMore what.Name (predicates.negation d) (negation_first x d)
    (negation_before_with x (predicates.deeper d Opposite) (predicates.deeper d Group) f g)

deeper_before : (x : Spot) (d : ℕ) (way : Deeper) →
    Before x here next NoMore (λ t. predicates.deeper d way t (behind t))
unfolding predicates.deeper
deeper_before x zero way = before_fault x next NoMore TooDeep
deeper_before x (suc d) way =
    let inner = predicates.deeper_with (predicates.negation d) way in
    before_behind x next NoMore inner
    (meets_from x next NoMore inner
    (deeper_meets_by x d way
    (negation_meets_with x d (deeper_before x d Opposite) (deeper_before x d Group))))

negation_meets : (x : Spot) (d : ℕ) → Meets x next next NoMore (predicates.negation d)
negation_meets x d = negation_meets_with x d (deeper_before x d Opposite) (deeper_before x d Group)

conjunction_meets : (x : Spot) (d : ℕ) → Meets x next next (AndGoes x) (predicates.conjunction d)
conjunction_meets x d = conjunction_meets_by x d (negation_meets x d)

-- a filter's predicate, and the bar behind it
abbrev pub BarGoes : Spot → Bool → Type 0
BarGoes x true = ⊥
BarGoes x false = Begun x what.Bar

abbrev pub FilterGoes : Spot → PredicateTree × Bool → Type 0
FilterGoes x y = BarGoes x y.1

abbrev filter_second : (Rest → Outcome PredicateTree) → PredicateTree → Rest → Outcome ((PredicateTree × Bool) × Bool)
filter_second part left u =
    if head u == 124 then map_outcome (λ right. ((Or left right, false), true)) (part (behind u))
    else Ok (((left, true), false), u)

abbrev filter_state : (Rest → Outcome PredicateTree) → PredicateTree → Rest → Outcome ((PredicateTree × Bool) × Bool)
filter_state part left s =
    if head (skip s) == 124 then filter_second part left (behind (skip s)) else Ok (((left, false), false), s)

filter_shape : (part : Rest → Outcome PredicateTree) (left : PredicateTree × Bool) (s : Rest) →
    turn_read (predicates.filter_turn part left s) ≡ filter_state part left.0 s
unfolding predicates.filter_turn
filter_shape part left s =
    let u = behind (skip s) in
    let join : PredicateTree → PredicateTree × Bool = λ right. (Or left.0 right, false) in
    let on = goes_on join (part (behind u)) in
    turn_if_read (head (skip s) == 124) (if head u == 124 then on else Done (left.0, true) u) (Done (left.0, false) s)
    ∙ ap (λ o. if head (skip s) == 124 then o else Ok (((left.0, false), false), s))
    (turn_if_read (head u == 124) on (Done (left.0, true) u)
    ∙ ap (λ o. if head u == 124 then o else Ok (((left.0, true), false), u)) (goes_on_read join (part (behind u))))

module _ (x : Spot) (part : Rest → Outcome PredicateTree) (k : Meets x next next (AndGoes x) part) where
  filter_second_meets : (left : PredicateTree) →
      Meets x here next (OfState (FilterGoes x)) (filter_second part left)
  filter_second_meets left =
      let G = OfState (FilterGoes x) in
      let further = λ (u : Rest). map_outcome (λ right. ((Or left right, false), true)) (part u) in
      let there : Meets x next next G further =
      meets_map x next next (AndGoes x) G (λ right. ((Or left right, false), true)) part (λ y g. and_then_bar x g) k in
      meets_if_here x next G (λ c. c == 124) (λ u. further (behind u)) (λ u. Ok (((left, true), false), u)) refl
      (far_behind x next G (λ c. c == 124) refl further (steady_from next further there.steady))
      (before_behind x next G further (meets_from x next G further there))
      (meets_from x next G (λ u. Ok (((left, true), false), u)) (meets_ok x next G ((left, true), false)))

  filter_meets : (left : PredicateTree × Bool) →
      Meets x next next (OfState (FilterGoes x)) (λ s. turn_read (predicates.filter_turn part left s))
  filter_meets left =
      let G = OfState (FilterGoes x) in
      let second = filter_second part left.0 in
      meets_by x next next G (λ s. turn_read (predicates.filter_turn part left s)) (filter_state part left.0)
      (filter_shape part left)
      (meets_either x G (λ c. c == 124) (λ s. second (behind (skip s))) (λ s. Ok (((left.0, false), false), s))
      (before_behind_skip x next G second (filter_second_meets left.0))
      (skip_far x next G (λ c. c == 124) refl second (filter_second_meets left.0).steady)
      (meets_ok x next G ((left.0, false), false)) (λ h s e l. (e, bar_begins x what.Bar refl h)))

  filter_went : (left : PredicateTree × Bool) (r : Rest) → FilterGoes x left → next r ≡ x.at →
      WentOutcome x next (Stopped (FilterGoes x)) (turn_read (predicates.filter_turn part left r))
  filter_went left r g e =
      let G = Stopped (FilterGoes x) in
      subst (WentOutcome x next G) (sym (filter_shape part left r))
      (went_either x G (head (skip r) == 124) _ (Ok (((left.0, false), false), r))
      (λ h. skip_went x next G (λ c. c == 124) refl (filter_second part left.0) (filter_second_meets left.0).steady r e
      h) (λ l. (e, bar_of left.1 g)))
    where
      bar_of : (t : Bool) → BarGoes x t → Begun x what.Bar
      bar_of true h = absurd h
      bar_of false h = h

-- a predicate begins with a name
pub predicate_meets : (x : Spot) (d : ℕ) → Meets x next next (FilterGoes x) (predicates.predicate d)
unfolding predicates.predicate
predicate_meets x d =
    let part = predicates.conjunction d in
    let parts = conjunction_meets x d in
    let turn = predicates.filter_turn part in
    let meets = λ (left : PredicateTree × Bool) (s t : Rest) (c : Splits x s t).
    (filter_meets x part parts left).agrees s t c in
    meets_bind x next next next (AndGoes x) (FilterGoes x) part
    (λ first. repetition turn (first.0, false) first.1) parts
    (λ first. meets_repetition x (FilterGoes x) turn (filter_turn_behind d) (filter_turn_steady part parts.steady) meets
    (filter_went x part parts) (first, false))
    (λ a r g e. repetition_went x (FilterGoes x) turn (filter_turn_behind d) (filter_turn_steady part parts.steady)
    meets (filter_went x part parts) (a, false) r (and_then_bar x g) e)

pub predicate_first : (x : Spot) (d : ℕ) → First x next next what.Name (predicates.predicate d)
unfolding predicates.predicate predicates.conjunction_with
predicate_first x d =
    let part = predicates.conjunction d in
    let parts = conjunction_meets x d in
    first_bind x next next next what.Name part
    (λ first. repetition (predicates.filter_turn part) (first.0, false) first.1)
    (first_bind x next next next what.Name (predicates.negation d)
    (λ first. repetition (predicates.and_turn (predicates.negation d)) first.0 first.1) (negation_first x d)
    (steady_repetition next (predicates.and_turn (predicates.negation d)) (and_turn_behind d)
    (and_turn_steady (predicates.negation d) (negation_steady d))))
    (λ first. steady_repetition next (predicates.filter_turn part) (filter_turn_behind d)
    (filter_turn_steady part parts.steady) (first, false))
