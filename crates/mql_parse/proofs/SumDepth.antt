-- Sums and items are read with more levels as with fewer, but where fewer were too few.
use Rattle.std.proofs.Common.{◌≡◌, ℕ, zero, suc, ◌<◌, true, false, ◌==◌, ◌||◌, [], refl, arith, Ok}
use Rattle.mon_value.specs.Answers.{◌>>=◌}
use Rattle.mql_ast.specs.declared.names.Name.{Name}
use Rattle.mql_ast.specs.Tokens.{is_letter, is_digit, Rest, head, behind, skip, word_here}
use Rattle.mql_parse.specs.declared.faults.What.TheVariants as what
use Rattle.mql_parse.specs.Outcomes.{Outcome, sign}
use Rattle.mql_parse.specs.Repeats.{Done, repetition, list_or_end, list_turn}
use Rattle.mql_parse.specs.TokenReading as reading
use Rattle.mql_parse.specs.SumReading as sums
use Rattle.mql_parse.specs.SumReading.{SumSeen, as_sum_seen}
use Rattle.mql_parse.specs.Steadiness.{here, next, SteadyTurn}
use Rattle.mql_parse.proofs.SumSound.{term_turn_behind}
use Rattle.mql_parse.proofs.ListSound.{items_turn_behind}
use Rattle.mql_parse.proofs.Steady.{steady_from, steady_bind}
use Rattle.mql_parse.proofs.TurnSteady.{list_or_end_steady, list_turn_steady, steady_repetition}
use Rattle.mql_parse.proofs.SumSteady.{term_steady_with, group_steady, term_turn_steady, sum_end_steady, sum_steady}
use Rattle.mql_parse.proofs.SumSteady.{item_steady}
use Rattle.mql_parse.proofs.Shallow.{Shallow, ok_shallow, unexpected_shallow, if_shallow, bind_shallow, sign_shallow}
use Rattle.mql_parse.proofs.Shallow.{name_shallow, done_shallow, list_or_end_shallow}
use Rattle.mql_parse.proofs.ShallowParts.{word_read_shallow, number_term_shallow}
use Rattle.mql_parse.proofs.Deepens.{Deepens, TurnDeepens, deepens_same, deepens_ok, deepens_if, deepens_bind}
use Rattle.mql_parse.proofs.Deepens.{deepens_behind, deepens_map, deepens_fault, turn_deepens_same, turn_deepens_if}
use Rattle.mql_parse.proofs.Deepens.{goes_on_deepens, on_read_deepens, deepens_repetition}

term_deepens_with : (group group' : Rest → Rest → Outcome SumSeen) →
    ((t : Rest) → (head t == 40) ≡ true → Deepens next (group t (behind t)) (group' t (behind t))) →
    (s : Rest) → Deepens next (sums.term_with group s) (sums.term_with group' s)
unfolding sums.term_with
term_deepens_with group group' k s =
    let t = skip s in
    deepens_if next (head t == 40) _ _ _ _ (k t)
    (λ _. deepens_same next _ (if_shallow (head t == 45 || is_digit (head t)) _ _ (number_term_shallow s)
    (if_shallow (is_letter (head t)) _ _ (word_read_shallow (word_here t)) (unexpected_shallow what.Name t))))

term_turn_deepens : (term term' : Rest → Outcome SumSeen) → ((s : Rest) → Deepens next (term s) (term' s)) →
    (left : SumSeen) (s : Rest) → TurnDeepens next (sums.term_turn term left s) (sums.term_turn term' left s)
unfolding sums.term_turn
term_turn_deepens term term' k left s =
    let t = skip s in
    turn_deepens_if next (head t == 43) _ _ _ _ (goes_on_deepens next (sums.sum_plus left) _ _ (k (behind t)))
    (turn_deepens_if next (head t == 45) _ _ _ _ (goes_on_deepens next (sums.sum_minus left) _ _ (k (behind t)))
    (turn_deepens_same next (Done left s) (done_shallow left s)))

term_turns_steady : (e : ℕ) (left : SumSeen) → SteadyTurn next next (sums.term_turn (sums.term e) left)
term_turns_steady e = term_turn_steady (sums.term e) (term_steady_with (sums.sum_group e) (group_steady e))

sum_deepens_by : (d e : ℕ) → ((s : Rest) → Deepens next (sums.term d s) (sums.term e s)) → (s : Rest) →
    Deepens next (sums.sum d s) (sums.sum e s)
unfolding sums.sum_with
sum_deepens_by d e k s =
    deepens_bind next next (sums.term d s) (sums.term e s)
    (λ first. repetition (sums.term_turn (sums.term d)) first.0 first.1)
    (λ first. repetition (sums.term_turn (sums.term e)) first.0 first.1) (k s)
    (steady_repetition next (sums.term_turn (sums.term e)) (term_turn_behind e) (term_turns_steady e))
    (λ x. deepens_repetition next (sums.term_turn (sums.term d)) (sums.term_turn (sums.term e)) (term_turn_behind d)
    (term_turn_behind e) (term_turns_steady e) (term_turn_deepens (sums.term d) (sums.term e) k) x.0 x.1)

sum_end_shallow : (x : SumSeen × Rest) → Shallow (sums.sum_end x)
sum_end_shallow x =
    let w = sums.behind_sum x.0.bare in
    bind_shallow (sign 41 w x.1) (λ r. Ok (as_sum_seen x.0.sum false, r)) (sign_shallow 41 w x.1)
    (λ r. ok_shallow (as_sum_seen x.0.sum false, r))

-- a sum in parentheses, from the first
group_deepens : (d e : ℕ) → d < e → (t : Rest) → (head t == 40) ≡ true →
    Deepens next (sums.sum_group d t (behind t)) (sums.sum_group e t (behind t))
unfolding sums.sum_group
group_deepens zero zero l t h = absurd (omega (arith, l))
group_deepens (suc d) zero l t h = absurd (omega (arith, l))
group_deepens zero (suc e) l t h =
    let inner = λ (s : Rest). sums.sum e s >>= sums.sum_end in
    deepens_fault next 40 t inner
    (steady_from next inner (steady_bind next next next (sums.sum e) sums.sum_end (sum_steady e) sum_end_steady)) refl h
group_deepens (suc d) (suc e) l t h =
    let m = behind t in
    deepens_bind next next (sums.sum d m) (sums.sum e m) sums.sum_end sums.sum_end
    (sum_deepens_by d e (term_deepens_with (sums.sum_group d) (sums.sum_group e)
    (group_deepens d e (omega (arith, l)))) m)
    sum_end_steady (λ x. deepens_same next (sums.sum_end x) (sum_end_shallow x))

sum_deepens : (d e : ℕ) → d < e → (s : Rest) → Deepens next (sums.sum d s) (sums.sum e s)
sum_deepens d e l =
    sum_deepens_by d e (term_deepens_with (sums.sum_group d) (sums.sum_group e) (group_deepens d e l))

-- items
item_behind_deepens : (d e : ℕ) → d < e → (first : Name × Rest) →
    Deepens next (sums.item_behind (sums.sum d) first) (sums.item_behind (sums.sum e) first)
item_behind_deepens d e l first =
    let m = behind (skip first.1) in
    deepens_if next (head (skip first.1) == 58) _ _ _ _
    (λ _. deepens_map next (sums.labelled_sum first.0) (sums.sum d m) (sums.sum e m) (sum_deepens d e l m))
    (λ _. deepens_ok next (sums.single first.0, first.1))

item_deepens : (d e : ℕ) → d < e → (s : Rest) →
    Deepens next (sums.item_with (sums.sum d) s) (sums.item_with (sums.sum e) s)
unfolding sums.item_with
item_deepens d e l s =
    deepens_behind next (reading.name s) (sums.item_behind (sums.sum d)) (sums.item_behind (sums.sum e))
    (name_shallow s)
    (item_behind_deepens d e l)

pub items_deepens : (d e : ℕ) → d < e → (s : Rest) → Deepens here (sums.items d s) (sums.items e s)
unfolding sums.items_with_sum
items_deepens d e l s =
    let w = what.CloseBracket in
    let fewer = sums.item_with (sums.sum d) in
    let more = sums.item_with (sums.sum e) in
    deepens_repetition here (list_turn 93 w fewer) (list_turn 93 w more) (items_turn_behind d) (items_turn_behind e)
    (λ so_far. list_turn_steady 93 w more so_far (item_steady e))
    (λ so_far m. on_read_deepens next here (list_or_end 93 w so_far) (fewer m) (more m) (item_deepens d e l m)
    (list_or_end_steady 93 w so_far) (list_or_end_shallow 93 w so_far)) [] s
