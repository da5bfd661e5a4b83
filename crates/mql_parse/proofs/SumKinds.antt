-- The kinds of faults in sums and items.
use Rattle.std.proofs.Common.{◌≡◌, ℕ, zero, suc, true, false, ◌==◌, ◌||◌, [], refl, None, Ok, Err}
use Rattle.mon_value.specs.Answers.{◌>>=◌}
use Rattle.mql_ast.specs.declared.names.Name.{Name}
use Rattle.mql_ast.specs.Trees.{Column, Number}
use Rattle.mql_ast.specs.Tokens.{is_letter, is_digit, Rest, head, behind, skip, word_here}
use Rattle.mql_parse.specs.declared.faults.What.TheVariants as what
use Rattle.mql_parse.specs.Outcomes.{Outcome, unexpected_fault, sign, map_outcome}
use Rattle.mql_parse.specs.Repeats.{Done, goes_on, repetition, list_turn}
use Rattle.mql_parse.specs.TokenReading as reading
use Rattle.mql_parse.specs.SumReading as sums
use Rattle.mql_parse.specs.SumReading.{SumSeen, as_sum_seen, is_percentile}
use Rattle.mql_parse.proofs.SumSound.{term_turn_behind}
use Rattle.mql_parse.proofs.ListSound.{items_turn_behind}
use Rattle.mql_parse.proofs.KindFits.{Fits, TurnFits, outside_itself, outside_before, fits_before, bind_fits, map_fits}
use Rattle.mql_parse.proofs.KindFits.{pass_then, if_fits, if_turn, skip_outside, behind_fits, skip_fits, part_fits}
use Rattle.mql_parse.proofs.KindFits.{unexpected_next, deep_fits, sign_fits, turn_part_fits, list_turn_fits}
use Rattle.mql_parse.proofs.KindFits.{repetition_fits}
use Rattle.mql_parse.proofs.TokenKinds.{word_outside, name_fits, positive_fits, signed_fits}

percentile_fits : (at : ℕ) (s : Rest) → Fits None s (sums.percentile at s)
unfolding sums.percentile
percentile_fits at s =
    bind_fits None s (reading.name s) _ (name_fits s)
    (λ column r. pass_then r (sign 44 what.Comma r) _ (sign_fits 44 refl refl what.Comma r)
    (λ comma. bind_fits None comma (reading.positive 100 comma) _ (positive_fits 100 comma)
    (λ p k. pass_then k (sign 41 what.CloseParenthesis k) _ (sign_fits 41 refl refl what.CloseParenthesis k)
    outside_itself)))

word_read_fits : (word : Name) (r : Rest) → Fits None r (sums.word_read (word, r))
word_read_fits word r =
    if_fits None r (is_percentile word.text) _ (Ok (as_sum_seen (Column word) false, r))
    (λ _. if_fits None r (head (skip r) == 40) (sums.percentile word.at (behind (skip r)))
    (Ok (as_sum_seen (Column word) true, r))
    (λ h. part_fits (λ b. b == 40) refl refl r h (sums.percentile word.at (behind (skip r)))
    (percentile_fits word.at (behind (skip r)))) (λ _. outside_itself r))
    (λ _. outside_itself r)

term_fits_with : (group : Rest → Rest → Outcome SumSeen) →
    ((t : Rest) → (head t == 40) ≡ true → Fits None t (group t (behind t))) → (s : Rest) →
    Fits None s (sums.term_with group s)
unfolding sums.term_with
term_fits_with group k s =
    let t = skip s in
    let word = word_here t in
    if_fits None s (head t == 40) (group t (behind t)) _ (λ h. skip_fits s (group t (behind t)) (k t h))
    (λ _. if_fits None s (head t == 45 || is_digit (head t)) (sums.number_term s) _
    (λ _. map_fits None s (λ z. as_sum_seen (Number t.at z) false) (reading.signed_reading s) (signed_fits s))
    (λ _. if_fits None s (is_letter (head t)) (sums.word_read word) (Err (unexpected_fault what.Name t))
    (λ _. fits_before None s word.1 (sums.word_read word)
    (outside_before None s t word.1 (skip_outside s) (word_outside t)) (word_read_fits word.0 word.1))
    (λ _. unexpected_next what.Name s)))

term_turn_fits : (term : Rest → Outcome SumSeen) → ((s : Rest) → Fits None s (term s)) → (left : SumSeen) (s : Rest) →
    TurnFits s (sums.term_turn term left s)
unfolding sums.term_turn
term_turn_fits term k left s =
    if_turn s (head (skip s) == 43) (goes_on (sums.sum_plus left) (term (behind (skip s)))) _
    (λ h. turn_part_fits (λ b. b == 43) refl refl s h (sums.sum_plus left) term k)
    (λ _. if_turn s (head (skip s) == 45) (goes_on (sums.sum_minus left) (term (behind (skip s)))) (Done left s)
    (λ h. turn_part_fits (λ b. b == 45) refl refl s h (sums.sum_minus left) term k) (λ _. outside_itself s))

sum_fits_by : (d : ℕ) → ((s : Rest) → Fits None s (sums.term d s)) → (s : Rest) → Fits None s (sums.sum d s)
unfolding sums.sum_with
sum_fits_by d k s = bind_fits None s (sums.term d s)
    (λ first. repetition (sums.term_turn (sums.term d)) first.0 first.1) (k s)
    (repetition_fits (sums.term_turn (sums.term d)) (term_turn_behind d) (term_turn_fits (sums.term d) k))

sum_end_fits : (inner : SumSeen) (r : Rest) → Fits None r (sums.sum_end (inner, r))
sum_end_fits inner r = let w = sums.behind_sum inner.bare in pass_then r (sign 41 w r)
    (λ k. Ok (as_sum_seen inner.sum false, k)) (sign_fits 41 refl refl w r) outside_itself

group_fits : (d : ℕ) (t : Rest) → (head t == 40) ≡ true → Fits None t (sums.sum_group d t (behind t))
unfolding sums.sum_group
group_fits zero t h = deep_fits 40 refl refl t h
group_fits (suc d) t h =
    behind_fits (λ b. b == 40) refl refl t h (sums.sum d (behind t) >>= sums.sum_end)
    (bind_fits None (behind t) (sums.sum d (behind t)) sums.sum_end
    (sum_fits_by d (term_fits_with (sums.sum_group d) (group_fits d)) (behind t)) sum_end_fits)

sum_fits : (d : ℕ) (s : Rest) → Fits None s (sums.sum d s)
sum_fits d = sum_fits_by d (term_fits_with (sums.sum_group d) (group_fits d))

item_behind_fits : (d : ℕ) (label : Name) (r : Rest) → Fits None r (sums.item_behind (sums.sum d) (label, r))
item_behind_fits d label r =
    let labelled = map_outcome (sums.labelled_sum label) (sums.sum d (behind (skip r))) in
    if_fits None r (head (skip r) == 58) labelled (Ok (sums.single label, r))
    (λ h. part_fits (λ b. b == 58) refl refl r h labelled
    (map_fits None (behind (skip r)) (sums.labelled_sum label) (sums.sum d (behind (skip r)))
    (sum_fits d (behind (skip r))))) (λ _. outside_itself r)

item_fits : (d : ℕ) (s : Rest) → Fits None s (sums.item_with (sums.sum d) s)
unfolding sums.item_with
item_fits d s = bind_fits None s (reading.name s) (sums.item_behind (sums.sum d)) (name_fits s) (item_behind_fits d)

pub items_fits : (d : ℕ) (s : Rest) → Fits None s (sums.items d s)
unfolding sums.items_with_sum
items_fits d s = repetition_fits (list_turn 93 what.CloseBracket (sums.item_with (sums.sum d))) (items_turn_behind d)
    (list_turn_fits 93 refl refl what.CloseBracket (sums.item_with (sums.sum d)) (item_fits d)) [] s
