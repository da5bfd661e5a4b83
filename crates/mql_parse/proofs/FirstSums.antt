-- What sums and items expect comes first.
use Rattle.std.proofs.Common.{◌≡◌, ℕ, zero, suc, Bool, true, false, ◌==◌, ◌||◌, refl, sym, ap, ◌∙◌, subst}
use Rattle.std.proofs.Common.{if◌then◌else◌, Ok, Err}
use Rattle.mon_value.specs.Answers.{◌>>=◌}
use Rattle.mql_ast.specs.declared.names.Name.{Name}
use Rattle.mql_ast.specs.Trees.{ItemTree, Column, Number, Percentile}
use Rattle.mql_ast.specs.Tokens.{is_letter, is_digit, Rest, head, behind, skip, word_here}
use Rattle.mql_parse.specs.declared.faults.ParseKind.TheVariants.{TooDeep}
use Rattle.mql_parse.specs.declared.faults.What.{What}
use Rattle.mql_parse.specs.declared.faults.What.TheVariants as what
use Rattle.mql_parse.specs.Outcomes.{Outcome, unexpected_fault, sign, map_outcome}
use Rattle.mql_parse.specs.Repeats.{Done, goes_on, repetition}
use Rattle.mql_parse.specs.TokenReading as reading
use Rattle.mql_parse.specs.SumReading as sums
use Rattle.mql_parse.specs.SumReading.{SumSeen, as_sum_seen, is_percentile}
use Rattle.mql_parse.specs.Steadiness.{here, next, unit_read}
use Rattle.mql_parse.proofs.SumSound.{term_turn_behind}
use Rattle.mql_parse.proofs.ListSound.{items_turn_behind}
use Rattle.mql_parse.proofs.Steady.{steady_from, steady_ok, steady_bind}
use Rattle.mql_parse.proofs.SumSteady.{term_turn_steady, sum_end_steady, sum_steady}
use Rattle.mql_parse.proofs.FirstWords.{admits, leads}
use Rattle.mql_parse.proofs.Firsts.{Spot, Splits, Begun, begun_later, WentOutcome, Meets, Before, FirstOutcome, First}
use Rattle.mql_parse.proofs.Firsts.{NoMore, passed_far, first_went, meets_then, meets_bind, meets_ok, meets_map}
use Rattle.mql_parse.proofs.Firsts.{meets_of, meets_from, meets_to, meets_by, meets_behind_pass, first_if, first_to}
use Rattle.mql_parse.proofs.Firsts.{first_wider, first_sign, first_behind_pass, first_unexpected, before_of, before_if}
use Rattle.mql_parse.proofs.Firsts.{before_skip, before_behind, before_part_behind, before_unexpected, before_fault}
use Rattle.mql_parse.proofs.Firsts.{before_map, before_next, before_to, sign_to}
use Rattle.mql_parse.proofs.FirstBytes.{comma_begins, opening_begins, closing_begins, close_bracket_begins}
use Rattle.mql_parse.proofs.FirstBytes.{colon_begins, plus_begins, minus_begins, minus_or_digit}
use Rattle.mql_parse.proofs.FirstTokens.{meets_word, meets_name, first_word}
use Rattle.mql_parse.proofs.FirstNumbers.{meets_positive, before_signed, signed_far, map_first}
use Rattle.mql_parse.proofs.FirstTurns.{meets_either, went_either, meets_choice, skip_far, skip_went, turn_read}
use Rattle.mql_parse.proofs.FirstTurns.{OfState, Stopped, turn_if_read, goes_on_read, meets_repetition}
use Rattle.mql_parse.proofs.FirstTurns.{repetition_went, meets_list}

-- what may go on a sum: a sign, or a parenthesis behind a bare `percentile`
abbrev pub sum_on : Bool → What
sum_on bare = if bare then what.OpenParenthesis else what.Plus

abbrev pub SumGoes : Spot → SumSeen → Type 0
SumGoes x seen = Begun x (sum_on seen.bare)

sum_on_leads : (bare : Bool) → leads what.Plus (sum_on bare) ≡ true
sum_on_leads true = refl
sum_on_leads false = refl

percentile_meets : (x : Spot) (at : ℕ) → Meets x next next (SumGoes x) (sums.percentile at)
unfolding sums.percentile
percentile_meets x at =
    meets_then x next next next (SumGoes x) reading.name _ (meets_to x next NoMore reading.name (meets_name x))
    (λ column. meets_behind_pass x next next next (SumGoes x) (sign 44 what.Comma) _
    (sign_to x 44 what.Comma refl (comma_begins x what.Comma refl))
    (meets_then x next next next (SumGoes x) (reading.positive 100) _
    (meets_to x next NoMore (reading.positive 100) (meets_positive x 100))
    (λ p. meets_behind_pass x next next next (SumGoes x) (sign 41 what.CloseParenthesis) _
    (sign_to x 41 what.CloseParenthesis refl (closing_begins x what.CloseParenthesis refl))
    (meets_ok x next (SumGoes x) (as_sum_seen (Percentile at column p) false)))))

word_read_meets : (x : Spot) (word : Name) → Meets x next next (SumGoes x) (λ r. sums.word_read (word, r))
word_read_meets x word =
    meets_choice x next next (SumGoes x) (is_percentile word.text) _ (λ r. Ok (as_sum_seen (Column word) false, r))
    (meets_either x (SumGoes x) (λ b. b == 40) (λ r. sums.percentile word.at (behind (skip r)))
    (λ r. Ok (as_sum_seen (Column word) true, r))
    (before_part_behind x next (SumGoes x) (sums.percentile word.at) (percentile_meets x word.at))
    (skip_far x next (SumGoes x) (λ b. b == 40) refl (sums.percentile word.at)
    (steady_from next (sums.percentile word.at) (percentile_meets x word.at).steady))
    (meets_ok x next (SumGoes x) (as_sum_seen (Column word) true))
    (λ h s e l. (e, opening_begins x what.OpenParenthesis refl h)))
    (meets_ok x next (SumGoes x) (as_sum_seen (Column word) false))

word_term_meets : (x : Spot) → Meets x here next (SumGoes x) (λ t. sums.word_read (word_here t))
word_term_meets x = meets_then x here next next (SumGoes x) (λ t. Ok (word_here t)) sums.word_read
    (meets_to x here NoMore (λ t. Ok (word_here t)) (meets_word x)) (word_read_meets x)

number_term_before : (x : Spot) → Before x next next (SumGoes x) sums.number_term
number_term_before x =
    before_next x next (SumGoes x) (λ n s. map_outcome (λ z. as_sum_seen (Number n z) false) (reading.signed_reading s))
    (λ n. before_to x next (SumGoes x)
    (λ s. map_outcome (λ z. as_sum_seen (Number n z) false) (reading.signed_reading s))
    (before_map x next here (λ z. as_sum_seen (Number n z) false) reading.signed_reading (before_signed x)))

-- a term begins with a name
term_first_with : (x : Spot) (group : Rest → Rest → Outcome SumSeen) →
    ((s : Rest) → next s ≡ x.at → (head (skip s) == 40) ≡ true →
    FirstOutcome x next what.Name (group (skip s) (behind (skip s)))) →
    First x next next what.Name (sums.term_with group)
unfolding sums.term_with
term_first_with x group k =
    first_if x next what.Name (λ b. b == 40) (λ s. group (skip s) (behind (skip s))) _ k
    (opening_begins x what.Name refl)
    (first_if x next what.Name (λ b. b == 45 || is_digit b) sums.number_term _
    (λ s e h. map_first x next what.Name (λ z. as_sum_seen (Number (skip s).at z) false) (reading.signed_reading s)
    (first_wider x what.Name (reading.signed_reading s) (signed_far x what.Name s e h)))
    (minus_or_digit x what.Name refl refl)
    (first_if x next what.Name is_letter (λ s. sums.word_read (word_here (skip s)))
    (λ s. Err (unexpected_fault what.Name (skip s)))
    (first_word x next sums.word_read what.Name (λ a. steady_from next (λ r. sums.word_read (a, r))
    (word_read_meets x a).steady))
    (λ h. refl) (first_unexpected x next what.Name)))

term_before_with : (x : Spot) (group : Rest → Rest → Outcome SumSeen) →
    Before x here next (SumGoes x) (λ t. group t (behind t)) →
    Before x next next (SumGoes x) (sums.term_with group)
unfolding sums.term_with
term_before_with x group k =
    before_if x next (SumGoes x) (λ b. b == 40) (λ s. group (skip s) (behind (skip s))) _
    (before_skip x next (SumGoes x) (λ t. group t (behind t)) k)
    (before_if x next (SumGoes x) (λ b. b == 45 || is_digit b) sums.number_term _ (number_term_before x)
    (before_if x next (SumGoes x) is_letter (λ s. sums.word_read (word_here (skip s)))
    (λ s. Err (unexpected_fault what.Name (skip s)))
    (before_skip x next (SumGoes x) (λ t. sums.word_read (word_here t))
    (before_of x here next (SumGoes x) (λ t. sums.word_read (word_here t)) (word_term_meets x)))
    (before_skip x next (SumGoes x) (λ t. Err (unexpected_fault what.Name t))
    (before_unexpected x next (SumGoes x) what.Name))))

-- further terms
abbrev term_state : (Rest → Outcome SumSeen) → SumSeen → Rest → Outcome (SumSeen × Bool)
term_state term left s =
    if head (skip s) == 43 then map_outcome (λ y. (sums.sum_plus left y, true)) (term (behind (skip s))) else
    (if head (skip s) == 45 then map_outcome (λ y. (sums.sum_minus left y, true)) (term (behind (skip s)))
    else Ok ((left, false), s))

term_shape : (term : Rest → Outcome SumSeen) (left : SumSeen) (s : Rest) →
    turn_read (sums.term_turn term left s) ≡ term_state term left s
unfolding sums.term_turn
term_shape term left s =
    let t = skip s in
    let plus = goes_on (sums.sum_plus left) (term (behind t)) in
    let minus = goes_on (sums.sum_minus left) (term (behind t)) in
    turn_if_read (head t == 43) plus (if head t == 45 then minus else Done left s)
    ∙ ap (λ o. if head t == 43 then o else turn_read (if head t == 45 then minus else Done left s))
    (goes_on_read (sums.sum_plus left) (term (behind t)))
    ∙ ap (λ o. if head t == 43 then map_outcome (λ y. (sums.sum_plus left y, true)) (term (behind t)) else o)
    (turn_if_read (head t == 45) minus (Done left s)
    ∙ ap (λ o. if head t == 45 then o else Ok ((left, false), s))
    (goes_on_read (sums.sum_minus left) (term (behind t))))

module _ (x : Spot) (term : Rest → Outcome SumSeen) (k : Meets x next next (SumGoes x) term) where
  part_meets : (join : SumSeen → SumSeen) → ((y : SumSeen) → SumGoes x y → SumGoes x (join y)) →
      Meets x next next (OfState (SumGoes x)) (λ s. map_outcome (λ y. (join y, true)) (term s))
  part_meets join h = meets_map x next next (SumGoes x) (OfState (SumGoes x)) (λ y. (join y, true)) term h k

  signs_go : (left : SumSeen) → Begun x what.Plus → SumGoes x left
  signs_go left g = begun_later x what.Plus (sum_on left.bare) (sum_on_leads left.bare) g

  term_turn_meets : (left : SumSeen) →
      Meets x next next (OfState (SumGoes x)) (λ s. turn_read (sums.term_turn term left s))
  term_turn_meets left =
      let G = OfState (SumGoes x) in
      let plus = part_meets (sums.sum_plus left) (λ y g. g) in
      let minus = part_meets (sums.sum_minus left) (λ y g. g) in
      let last : (s : Rest) → Begun x what.Plus → next s ≡ x.at → WentOutcome x next G (Ok ((left, false), s)) =
      λ s g e l. (e, signs_go left g) in
      meets_by x next next G (λ s. turn_read (sums.term_turn term left s)) (term_state term left)
      (term_shape term left)
      (meets_either x G (λ b. b == 43) (λ s. map_outcome (λ y. (sums.sum_plus left y, true)) (term (behind (skip s)))) _
      (before_part_behind x next G (λ s. map_outcome (λ y. (sums.sum_plus left y, true)) (term s)) plus)
      (skip_far x next G (λ b. b == 43) refl (λ s. map_outcome (λ y. (sums.sum_plus left y, true)) (term s))
      (steady_from next _ plus.steady))
      (meets_either x G (λ b. b == 45) (λ s. map_outcome (λ y. (sums.sum_minus left y, true)) (term (behind (skip s))))
      (λ s. Ok ((left, false), s))
      (before_part_behind x next G (λ s. map_outcome (λ y. (sums.sum_minus left y, true)) (term s)) minus)
      (skip_far x next G (λ b. b == 45) refl (λ s. map_outcome (λ y. (sums.sum_minus left y, true)) (term s))
      (steady_from next _ minus.steady))
      (meets_ok x next G (left, false))
      (λ h s e. last s (minus_begins x what.Plus refl h) e))
      (λ h s e. went_either x G (head (skip s) == 45) _ (Ok ((left, false), s))
      (λ g. skip_went x next G (λ b. b == 45) refl (λ s. map_outcome (λ y. (sums.sum_minus left y, true)) (term s))
      (steady_from next _ minus.steady) s e g)
      (last s (plus_begins x what.Plus refl h) e)))

  term_turn_went : (left : SumSeen) (r : Rest) → SumGoes x left → next r ≡ x.at →
      WentOutcome x next (Stopped (SumGoes x)) (turn_read (sums.term_turn term left r))
  term_turn_went left r g e =
      let G = Stopped (SumGoes x) in
      subst (WentOutcome x next G) (sym (term_shape term left r))
      (went_either x G (head (skip r) == 43) _ _
      (λ h. skip_went x next G (λ b. b == 43) refl (λ s. map_outcome (λ y. (sums.sum_plus left y, true)) (term s))
      (steady_from next _ (part_meets (sums.sum_plus left) (λ y g. g)).steady) r e h)
      (went_either x G (head (skip r) == 45) _ (Ok ((left, false), r))
      (λ h. skip_went x next G (λ b. b == 45) refl (λ s. map_outcome (λ y. (sums.sum_minus left y, true)) (term s))
      (steady_from next _ (part_meets (sums.sum_minus left) (λ y g. g)).steady) r e h)
      (λ l. (e, g))))

sum_meets_by : (x : Spot) (d : ℕ) → Meets x next next (SumGoes x) (sums.term d) →
    Meets x next next (SumGoes x) (sums.sum d)
unfolding sums.sum_with
sum_meets_by x d k =
    let turn = sums.term_turn (sums.term d) in
    let meets = λ (left : SumSeen) (s t : Rest) (c : Splits x s t).
    (term_turn_meets x (sums.term d) k left).agrees s t c in
    let went = λ (left : SumSeen) (r : Rest). term_turn_went x (sums.term d) k left r in
    meets_bind x next next next (SumGoes x) (SumGoes x) (sums.term d) (λ first. repetition turn first.0 first.1) k
    (meets_repetition x (SumGoes x) turn (term_turn_behind d) (term_turn_steady (sums.term d) k.steady) meets went)
    (repetition_went x (SumGoes x) turn (term_turn_behind d) (term_turn_steady (sums.term d) k.steady) meets went)

-- what stands behind a sum in parentheses
behind_sum_admits : (bare : Bool) → admits (sums.behind_sum bare) what.CloseParenthesis ≡ true
behind_sum_admits true = refl
behind_sum_admits false = refl

behind_sum_goes : (x : Spot) (bare : Bool) → Begun x (sum_on bare) → Begun x (sums.behind_sum bare)
behind_sum_goes x true g = g
behind_sum_goes x false g = begun_later x what.Plus what.CloseParenthesis refl g

sum_end_first : (x : Spot) (inner : SumSeen) →
    First x next next (sums.behind_sum inner.bare) (λ r. sums.sum_end (inner, r))
sum_end_first x inner =
    let w = sums.behind_sum inner.bare in
    first_behind_pass x next next next w (sign 41 w) (λ r. Ok (as_sum_seen inner.sum false, r))
    (first_to x next w (λ s. unit_read (sign 41 w s))
    (first_sign x 41 w refl (closing_begins x w (behind_sum_admits inner.bare))))
    (steady_ok next (as_sum_seen inner.sum false))

sum_end_meets : (x : Spot) (inner : SumSeen) → Meets x next next (SumGoes x) (λ r. sums.sum_end (inner, r))
sum_end_meets x inner =
    let w = sums.behind_sum inner.bare in
    meets_behind_pass x next next next (SumGoes x) (sign 41 w) (λ r. Ok (as_sum_seen inner.sum false, r))
    (sign_to x 41 w refl (closing_begins x w (behind_sum_admits inner.bare)))
    (meets_ok x next (SumGoes x) (as_sum_seen inner.sum false))

group_meets_by : (x : Spot) (d : ℕ) → Meets x next next (SumGoes x) (sums.sum d) →
    Meets x next next (SumGoes x) (λ s. sums.sum d s >>= sums.sum_end)
group_meets_by x d k =
    meets_bind x next next next (SumGoes x) (SumGoes x) (sums.sum d) sums.sum_end k (sum_end_meets x)
    (λ inner r g e. first_went x next (SumGoes x) (sums.behind_sum inner.bare) (sums.sum_end (inner, r))
    ((sum_end_first x inner).names r e) (behind_sum_goes x inner.bare g))

-- a group is refused for its depth at its parenthesis, or else behind it
group_far : (x : Spot) (d : ℕ) (s : Rest) → next s ≡ x.at → (head (skip s) == 40) ≡ true →
    FirstOutcome x next what.Name (sums.sum_group d (skip s) (behind (skip s)))
unfolding sums.sum_group
group_far x zero s e h = λ d v k. absurd (cc)
group_far x (suc d) s e h =
    let inner = λ (r : Rest). sums.sum d r >>= sums.sum_end in
    passed_far x next what.Name (λ b. b == 40) refl inner
    (steady_from next inner (steady_bind next next next (sums.sum d) sums.sum_end (sum_steady d) sum_end_steady)) s e h

term_first : (x : Spot) (d : ℕ) → First x next next what.Name (sums.term d)
term_first x d = term_first_with x (sums.sum_group d) (group_far x d)

sum_meets_with : (x : Spot) (d : ℕ) → Before x here next (SumGoes x) (λ t. sums.sum_group d t (behind t)) →
    Meets x next next (SumGoes x) (sums.sum d)
sum_meets_with x d k = sum_meets_by x d
    (meets_of x next next (SumGoes x) what.Name (sums.term d) (term_first x d) (term_before_with x (sums.sum_group d)
    k))

group_before : (x : Spot) (d : ℕ) → Before x here next (SumGoes x) (λ t. sums.sum_group d t (behind t))
unfolding sums.sum_group
group_before x zero = before_fault x next (SumGoes x) TooDeep
group_before x (suc d) =
    let inner = λ (s : Rest). sums.sum d s >>= sums.sum_end in
    before_behind x next (SumGoes x) inner
    (meets_from x next (SumGoes x) inner (group_meets_by x d (sum_meets_with x d (group_before x d))))

pub sum_meets : (x : Spot) (d : ℕ) → Meets x next next (SumGoes x) (sums.sum d)
sum_meets x d = sum_meets_with x d (group_before x d)

-- items
sum_on_close : (x : Spot) (bare : Bool) → Begun x (sum_on bare) → Begun x what.CloseBracket
sum_on_close x true g = begun_later x what.OpenParenthesis what.CloseBracket refl g
sum_on_close x false g = begun_later x what.Plus what.CloseBracket refl g

labelled_meets : (x : Spot) (d : ℕ) (label : Name) → Meets x next next (λ i. Begun x what.CloseBracket)
    (λ r. map_outcome (sums.labelled_sum label) (sums.sum d r))
labelled_meets x d label =
    meets_map x next next (SumGoes x) (λ i. Begun x what.CloseBracket) (sums.labelled_sum label) (sums.sum d)
    (λ seen g. sum_on_close x seen.bare g) (sum_meets x d)

item_meets : (x : Spot) (d : ℕ) → Meets x next next (λ i. Begun x what.CloseBracket) (sums.item_with (sums.sum d))
unfolding sums.item_with
item_meets x d =
    let G = λ (i : ItemTree). Begun x what.CloseBracket in
    meets_then x next next next G reading.name (sums.item_behind (sums.sum d))
    (meets_to x next NoMore reading.name (meets_name x))
    (λ label. meets_either x G (λ b. b == 58)
    (λ r. map_outcome (sums.labelled_sum label) (sums.sum d (behind (skip r)))) (λ r. Ok (sums.single label, r))
    (before_part_behind x next G (λ r. map_outcome (sums.labelled_sum label) (sums.sum d r)) (labelled_meets x d label))
    (skip_far x next G (λ b. b == 58) refl (λ r. map_outcome (sums.labelled_sum label) (sums.sum d r))
    (steady_from next _ (labelled_meets x d label).steady))
    (meets_ok x next G (sums.single label))
    (λ h s e l. (e, colon_begins x what.CloseBracket refl refl h)))

pub items_meets : (x : Spot) (d : ℕ) → Meets x next next NoMore (sums.items d)
unfolding sums.items_with_sum
items_meets x d =
    meets_list x (λ i. Begun x what.CloseBracket) 93 what.CloseBracket (sums.item_with (sums.sum d)) refl
    (comma_begins x what.CloseBracket refl) (close_bracket_begins x what.CloseBracket refl)
    (λ i g. g) (item_meets x d) (items_turn_behind d)
