-- Sums and items behind a number.
use Rattle.std.proofs.Common.{◌≡◌, ℕ, zero, suc, Bool, true, false, ◌==◌, ◌||◌, [], refl, sym, arith, Ok, Err}
use Rattle.std.proofs.lemmas.Bool.Decides.{nat_tests}
use Rattle.mon_value.specs.Answers.{◌>>=◌}
use Rattle.mql_ast.specs.declared.names.Name.{Name}
use Rattle.mql_ast.specs.Trees.{Column, Number, Percentile}
use Rattle.mql_ast.specs.Tokens.{is_letter, is_digit, Rest, head, behind, skip, word_here}
use Rattle.mql_parse.specs.declared.faults.ParseKind.TheVariants.{TooDeep}
use Rattle.mql_parse.specs.declared.faults.What.TheVariants as what
use Rattle.mql_parse.specs.Outcomes.{Outcome, fault, unexpected_fault, sign, map_outcome}
use Rattle.mql_parse.specs.Repeats.{Done, goes_on, repetition, list_turn}
use Rattle.mql_parse.specs.TokenReading as reading
use Rattle.mql_parse.specs.SumReading as sums
use Rattle.mql_parse.specs.SumReading.{SumSeen, as_sum_seen, is_percentile}
use Rattle.mql_parse.specs.Steadiness.{here, next}
use Rattle.mql_parse.proofs.SumSound.{term_turn_behind}
use Rattle.mql_parse.proofs.ListSound.{items_turn_behind}
use Rattle.mql_parse.proofs.Follows.{Swap, Blind, Any, Follows, Taken, ok_any, follows_fault, follows_unexpected}
use Rattle.mql_parse.proofs.Follows.{follows_from, follows_to, follows_bind, follows_then, follows_map}
use Rattle.mql_parse.proofs.Follows.{follows_behind_pass, AlikeTests, next_tests, follows_if, follows_skip, taken}
use Rattle.mql_parse.proofs.Follows.{part_taken, next_taken, follows_next, sign_follows}
use Rattle.mql_parse.proofs.FollowTurns.{FollowsTurn, follows_done, follows_goes_on, turn_next_taken}
use Rattle.mql_parse.proofs.FollowTurns.{list_turn_follows, repetition_follows}
use Rattle.mql_parse.proofs.FollowTokens.{AlikeNames, name_itself, word_follows, name_next, positive_next_follows}
use Rattle.mql_parse.proofs.FollowTokens.{signed_follows, blind_letter}

percentile_follows : (x : Swap) (m n : ℕ) → Follows x next next Any (sums.percentile m) (sums.percentile n)
unfolding sums.percentile
percentile_follows x m n =
    follows_bind x next next next AlikeNames Any reading.name reading.name _ _ name_itself (name_next x)
    (λ a b g. follows_behind_pass x next next next Any (sign 44 what.Comma) (sign 44 what.Comma) _ _
    (sign_follows x 44 what.Comma what.Comma refl)
    (follows_then x next next next Any (reading.positive 100) (reading.positive 100) _ _ (positive_next_follows x 100)
    (λ p q. follows_behind_pass x next next next Any (sign 41 what.CloseParenthesis) (sign 41 what.CloseParenthesis) _ _
    (sign_follows x 41 what.CloseParenthesis what.CloseParenthesis refl)
    (ok_any x next (as_sum_seen (Percentile m a p) false) (as_sum_seen (Percentile n b q) false)))))

pub constant_tests : (x : Swap) (from : Rest → ℕ) (t u : Bool) → u ≡ t → AlikeTests x from (λ s. t) (λ s. u)
constant_tests x from t u h r s c l = h

word_read_follows : (x : Swap) (a b : Name) → AlikeNames a b →
    Follows x next next Any (λ r. sums.word_read (a, r)) (λ r. sums.word_read (b, r))
word_read_follows x a b g =
    follows_if x next next Any (λ r. is_percentile a.text) (λ r. is_percentile b.text) _ _
    (λ r. Ok (as_sum_seen (Column a) false, r)) (λ r. Ok (as_sum_seen (Column b) false, r))
    (constant_tests x next (is_percentile a.text) (is_percentile b.text) (sym g.1))
    (next_taken x 40 next Any (λ t. sums.percentile a.at (behind t)) (λ t. sums.percentile b.at (behind t))
    (λ r. Ok (as_sum_seen (Column a) true, r)) (λ r. Ok (as_sum_seen (Column b) true, r)) refl
    (part_taken x 40 next Any (sums.percentile a.at) (sums.percentile b.at) refl (percentile_follows x a.at b.at))
    (ok_any x next (as_sum_seen (Column a) true) (as_sum_seen (Column b) true)))
    (ok_any x next (as_sum_seen (Column a) false) (as_sum_seen (Column b) false))

word_term_follows : (x : Swap) →
    Follows x here next Any (λ t. sums.word_read (word_here t)) (λ t. sums.word_read (word_here t))
word_term_follows x =
    follows_bind x here next next AlikeNames Any (λ t. Ok (word_here t)) (λ t. Ok (word_here t)) sums.word_read
    sums.word_read name_itself
    (follows_to x here AlikeNames (λ t. Ok (word_here t)) (λ t. Ok (word_here t)) (word_follows x))
    (word_read_follows x)

number_term_follows : (x : Swap) → Follows x next next Any sums.number_term sums.number_term
number_term_follows x =
    let read = λ (n : ℕ) (s : Rest). map_outcome (λ z. as_sum_seen (Number n z) false) (reading.signed_reading s) in
    follows_next x next Any read read
    (λ m n. follows_map x next next (λ z. as_sum_seen (Number m z) false) (λ z. as_sum_seen (Number n z) false)
    reading.signed_reading reading.signed_reading
    (follows_to x next Any reading.signed_reading reading.signed_reading (signed_follows x)))

pub blind_start : Blind (λ b. b == 45 || is_digit b)
blind_start d h = grind (arith, nat_tests)

term_follows_with : (x : Swap) (group : Rest → Rest → Outcome SumSeen) →
    Taken x 40 next Any (λ t. group t (behind t)) (λ t. group t (behind t)) →
    Follows x next next Any (sums.term_with group) (sums.term_with group)
unfolding sums.term_with
term_follows_with x group k =
    next_taken x 40 next Any (λ t. group t (behind t)) (λ t. group t (behind t)) _ _ refl k
    (follows_if x next next Any (λ s. head (skip s) == 45 || is_digit (head (skip s)))
    (λ s. head (skip s) == 45 || is_digit (head (skip s))) sums.number_term sums.number_term _ _
    (next_tests x (λ b. b == 45 || is_digit b) blind_start) (number_term_follows x)
    (follows_if x next next Any (λ s. is_letter (head (skip s))) (λ s. is_letter (head (skip s)))
    (λ s. sums.word_read (word_here (skip s))) (λ s. sums.word_read (word_here (skip s)))
    (λ s. Err (unexpected_fault what.Name (skip s))) (λ s. Err (unexpected_fault what.Name (skip s)))
    (next_tests x is_letter blind_letter)
    (follows_skip x next Any (λ t. sums.word_read (word_here t)) (λ t. sums.word_read (word_here t))
    (word_term_follows x))
    (follows_skip x next Any (λ t. Err (unexpected_fault what.Name t)) (λ t. Err (unexpected_fault what.Name t))
    (follows_unexpected x next Any what.Name what.Name))))

term_turn_follows : (x : Swap) (term : Rest → Outcome SumSeen) → Follows x next next Any term term →
    (a b : SumSeen) → FollowsTurn x next Any (sums.term_turn term a) (sums.term_turn term b)
unfolding sums.term_turn
term_turn_follows x term k a b =
    turn_next_taken x 43 Any (λ t. goes_on (sums.sum_plus a) (term t)) (λ t. goes_on (sums.sum_plus b) (term t)) _ _
    refl (joined (sums.sum_plus a) (sums.sum_plus b))
    (turn_next_taken x 45 Any (λ t. goes_on (sums.sum_minus a) (term t)) (λ t. goes_on (sums.sum_minus b) (term t))
    (λ s. Done a s) (λ s. Done b s) refl (joined (sums.sum_minus a) (sums.sum_minus b))
    (follows_done x Any a b tt))
  where
    joined : (f g : SumSeen → SumSeen) → FollowsTurn x here Any (λ t. goes_on f (term t)) (λ t. goes_on g (term t))
    joined f g = follows_goes_on x here Any f g term term (λ c d. tt) (follows_from x next Any term term k)

sum_follows_by : (x : Swap) (d : ℕ) → Follows x next next Any (sums.term d) (sums.term d) →
    Follows x next next Any (sums.sum d) (sums.sum d)
unfolding sums.sum_with
sum_follows_by x d k =
    let on : SumSeen × Rest → Outcome SumSeen = λ first. repetition (sums.term_turn (sums.term d)) first.0 first.1 in
    follows_then x next next next Any (sums.term d) (sums.term d) on on k
    (λ a b. repetition_follows x Any (sums.term_turn (sums.term d)) (term_turn_behind d) (λ c. tt)
    (λ c e g. term_turn_follows x (sums.term d) k c e) a b tt)

sum_end_follows : (x : Swap) (a b : SumSeen) →
    Follows x next next Any (λ r. sums.sum_end (a, r)) (λ r. sums.sum_end (b, r))
sum_end_follows x a b =
    let w = sums.behind_sum a.bare in
    let v = sums.behind_sum b.bare in
    follows_behind_pass x next next next Any (sign 41 w) (sign 41 v) (λ r. Ok (as_sum_seen a.sum false, r))
    (λ r. Ok (as_sum_seen b.sum false, r)) (sign_follows x 41 w v refl)
    (ok_any x next (as_sum_seen a.sum false) (as_sum_seen b.sum false))

-- a sum in parentheses, from the first
group_follows : (x : Swap) (d : ℕ) →
    Taken x 40 next Any (λ t. sums.sum_group d t (behind t)) (λ t. sums.sum_group d t (behind t))
unfolding sums.sum_group
group_follows x zero =
    taken x 40 next Any (λ t. Err (fault TooDeep t)) (λ t. Err (fault TooDeep t)) (follows_fault x next Any TooDeep)
group_follows x (suc d) =
    let inner = λ (s : Rest). sums.sum d s >>= sums.sum_end in
    part_taken x 40 next Any inner inner refl
    (follows_then x next next next Any (sums.sum d) (sums.sum d) sums.sum_end sums.sum_end
    (sum_follows_by x d (term_follows_with x (sums.sum_group d) (group_follows x d))) (sum_end_follows x))

sum_follows : (x : Swap) (d : ℕ) → Follows x next next Any (sums.sum d) (sums.sum d)
sum_follows x d = sum_follows_by x d (term_follows_with x (sums.sum_group d) (group_follows x d))

-- items
item_behind_follows : (x : Swap) (d : ℕ) (a b : Name) →
    Follows x next next Any (λ r. sums.item_behind (sums.sum d) (a, r)) (λ r. sums.item_behind (sums.sum d) (b, r))
item_behind_follows x d a b =
    let one = λ (s : Rest). map_outcome (sums.labelled_sum a) (sums.sum d s) in
    let two = λ (s : Rest). map_outcome (sums.labelled_sum b) (sums.sum d s) in
    next_taken x 58 next Any (λ t. one (behind t)) (λ t. two (behind t)) (λ r. Ok (sums.single a, r))
    (λ r. Ok (sums.single b, r)) refl
    (part_taken x 58 next Any one two refl
    (follows_map x next next (sums.labelled_sum a) (sums.labelled_sum b) (sums.sum d) (sums.sum d) (sum_follows x d)))
    (ok_any x next (sums.single a) (sums.single b))

item_follows : (x : Swap) (d : ℕ) →
    Follows x next next Any (sums.item_with (sums.sum d)) (sums.item_with (sums.sum d))
unfolding sums.item_with
item_follows x d =
    follows_bind x next next next AlikeNames Any reading.name reading.name (sums.item_behind (sums.sum d))
    (sums.item_behind (sums.sum d)) name_itself (name_next x) (λ a b g. item_behind_follows x d a b)

pub items_follows : (x : Swap) (d : ℕ) → Follows x next next Any (sums.items d) (sums.items d)
unfolding sums.items_with_sum
items_follows x d =
    let item = sums.item_with (sums.sum d) in
    repetition_follows x Any (list_turn 93 what.CloseBracket item) (items_turn_behind d) (λ a. tt)
    (λ a b g. list_turn_follows x 93 what.CloseBracket item refl (item_follows x d) a b) [] [] tt
