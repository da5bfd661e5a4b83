-- Pipes are read with more levels as with fewer, but where fewer were too few.
use Rattle.std.proofs.Common.{◌≡◌, ℕ, zero, suc, ◌<◌, Bool, true, false, ◌==◌, List, [], ◌∷◌, ◌++◌, codes, refl, arith}
use Rattle.std.proofs.Common.{Err}
use Rattle.mql_ast.specs.Trees.{Filter, Value, Every, Within, OpTree, PipeTree, Flow, SourceTree}
use Rattle.mql_ast.specs.Tokens.{Rest, head, behind, skip}
use Rattle.mql_parse.specs.declared.faults.What.TheVariants as what
use Rattle.mql_parse.specs.Outcomes.{Outcome, unexpected_fault, exact, sign, map_outcome}
use Rattle.mql_parse.specs.Repeats.{Done, Again, Stuck, repetition}
use Rattle.mql_parse.specs.SumReading as sums
use Rattle.mql_parse.specs.PredicateReading as predicates
use Rattle.mql_parse.specs.PipeReading as pipes
use Rattle.mql_parse.specs.Steadiness.{next}
use Rattle.mql_parse.proofs.PipeSound.{operation_turn_behind, branch_turn_behind}
use Rattle.mql_parse.proofs.Steady.{steady_from, steady_to, steady_map}
use Rattle.mql_parse.proofs.TurnSteady.{turn_again, turn_to}
use Rattle.mql_parse.proofs.PipeSteady.{operations_steady, operation_turn_steady, branch_behind_steady}
use Rattle.mql_parse.proofs.PipeSteady.{branch_turn_steady, branches_how_steady, behind_first_steady}
use Rattle.mql_parse.proofs.PipeSteady.{branches_steady_by, pipe_steady}
use Rattle.mql_parse.proofs.Shallow.{ShallowTurn, unexpected_shallow, if_shallow, exact_shallow, sign_shallow}
use Rattle.mql_parse.proofs.Shallow.{if_turn_shallow, done_shallow, again_shallow, stuck_shallow}
use Rattle.mql_parse.proofs.ShallowParts.{word_apart_shallow, align_shallow, group_by_shallow, top_shallow}
use Rattle.mql_parse.proofs.ShallowParts.{duration_deed_shallow, branches_how_shallow, fetch_shallow}
use Rattle.mql_parse.proofs.Deepens.{Deepens, TurnDeepens, deepens_same, deepens_if, deepens_bind, deepens_behind}
use Rattle.mql_parse.proofs.Deepens.{deepens_map, deepens_to, deepens_fault, turn_deepens_same, turn_deepens_if}
use Rattle.mql_parse.proofs.Deepens.{on_read_deepens, deepens_repetition}
use Rattle.mql_parse.proofs.SumDepth.{items_deepens}
use Rattle.mql_parse.proofs.PredicateDepth.{predicate_deepens}

-- operations
value_deepens : (d e : ℕ) → d < e → (t : Rest) → Deepens next (pipes.value d t) (pipes.value e t)
unfolding pipes.value
value_deepens d e l t =
    deepens_behind next (exact what.Operation (codes "value") t) _ _ (exact_shallow what.Operation (codes "value") t)
    (λ word. deepens_behind next (sign 91 what.OpenBracket word) _ _ (sign_shallow 91 what.OpenBracket word)
    (λ m. deepens_map next Value (sums.items d m) (sums.items e m)
    (deepens_to (sums.items d m) (sums.items e m) (items_deepens d e l m))))

deed_deepens : (d e : ℕ) → d < e → (t : Rest) → Deepens next (pipes.deed_here d t) (pipes.deed_here e t)
unfolding pipes.deed_here
deed_deepens d e l t =
    deepens_if next (head t == 97) _ _ _ _ (λ _. deepens_same next (pipes.align t) (align_shallow t))
    (λ _. deepens_if next (head t == 103) _ _ _ _ (λ _. deepens_same next (pipes.group_by t) (group_by_shallow t))
    (λ _. deepens_if next (head t == 118) _ _ _ _ (λ _. value_deepens d e l t)
    (λ _. deepens_same next _ (if_shallow (head t == 116) _ _ (top_shallow t)
    (if_shallow (head t == 101) _ _ (duration_deed_shallow Every (codes "every") t)
    (if_shallow (head t == 119) _ _ (duration_deed_shallow Within (codes "within") t)
    (unexpected_shallow what.Operation t)))))))

operation_deepens : (d e : ℕ) → d < e → (s : Rest) → Deepens next (pipes.operation d s) (pipes.operation e s)
unfolding pipes.operation
operation_deepens d e l s =
    let t = skip s in
    deepens_if next (head t == 102) _ _ _ _
    (λ _. deepens_behind next (pipes.word_apart (codes "filter") what.Name t) _ _
    (word_apart_shallow (codes "filter") what.Name t)
    (λ m. deepens_map next (λ x. (pipes.op_at t.at (Filter x.0), x.1)) (predicates.predicate d m)
    (predicates.predicate e m) (predicate_deepens d e l m)))
    (λ _. deepens_map next (λ deed. (pipes.op_at t.at deed, false)) (pipes.deed_here d t) (pipes.deed_here e t)
    (deed_deepens d e l t))

operation_from_deepens : (d e : ℕ) → d < e → (ops : List OpTree) (s : Rest) →
    TurnDeepens next (pipes.operation_from d ops s) (pipes.operation_from e ops s)
operation_from_deepens d e l ops s =
    on_read_deepens next next (λ x. Again (pipes.with_op ops x.0) x.1) (pipes.operation d s) (pipes.operation e s)
    (operation_deepens d e l s) (λ x. turn_again next (pipes.with_op ops x))
    (λ x. again_shallow (pipes.with_op ops x.0) x.1)

operation_turn_deepens : (d e : ℕ) → d < e → (read : List OpTree × Bool) (s : Rest) →
    TurnDeepens next (pipes.operation_turn d read s) (pipes.operation_turn e read s)
unfolding pipes.operation_turn
operation_turn_deepens d e l read s =
    turn_deepens_if next read.1 _ _ _ _ (operation_from_deepens d e l read.0 s)
    (turn_deepens_if next (head (skip s) == 124) _ _ _ _ (operation_from_deepens d e l read.0 (behind (skip s)))
    (turn_deepens_same next (Done read s) (done_shallow read s)))

operations_deepens : (d e : ℕ) → d < e → (s : Rest) → Deepens next (pipes.operations d s) (pipes.operations e s)
unfolding pipes.operations
operations_deepens d e l s =
    deepens_map next (λ x. x.0) (repetition (pipes.operation_turn d) ([], false) s)
    (repetition (pipes.operation_turn e) ([], false) s)
    (deepens_repetition next (pipes.operation_turn d) (pipes.operation_turn e) (operation_turn_behind d)
    (operation_turn_behind e) (operation_turn_steady e) (operation_turn_deepens d e l) ([], false) s)

-- branches
branch_behind_shallow : (so_far : List PipeTree) (x : PipeTree × Rest) → ShallowTurn (pipes.branch_behind so_far x)
branch_behind_shallow so_far x =
    let t = skip x.1 in
    let all = so_far ++ x.0 ∷ [] in
    if_turn_shallow (head t == 59) (Again all (behind t)) _ (again_shallow all (behind t))
    (if_turn_shallow (head t == 125) (Done all (behind t)) (Stuck (unexpected_fault what.CloseBrace t))
    (done_shallow all (behind t)) (stuck_shallow what.CloseBrace t))

branch_turn_deepens : (pipe pipe' : Rest → Outcome PipeTree) → ((s : Rest) → Deepens next (pipe s) (pipe' s)) →
    (so_far : List PipeTree) (s : Rest) →
    TurnDeepens next (pipes.branch_turn pipe so_far s) (pipes.branch_turn pipe' so_far s)
unfolding pipes.branch_turn
branch_turn_deepens pipe pipe' k so_far s =
    on_read_deepens next next (pipes.branch_behind so_far) (pipe s) (pipe' s) (k s)
    (λ p. turn_to next (λ r. pipes.branch_behind so_far (p, r)) (branch_behind_steady so_far p))
    (branch_behind_shallow so_far)

branches_deepens_by : (d e : ℕ) → ((s : Rest) → Deepens next (pipes.pipe d s) (pipes.pipe e s)) → (at : ℕ) (s : Rest) →
    Deepens next (pipes.branches_with (pipes.pipe d) at s) (pipes.branches_with (pipes.pipe e) at s)
unfolding pipes.branches_with
branches_deepens_by d e k at s =
    let fewer = pipes.branch_turn (pipes.pipe d) in
    let more = pipes.branch_turn (pipes.pipe e) in
    let how = λ (all : List PipeTree × Rest). pipes.branches_how at all.0 all.1 in
    deepens_bind next next (pipes.pipe d s) (pipes.pipe e s) _ _ (k s)
    (behind_first_steady e (pipe_steady e) at)
    (λ first. let w = pipes.behind_branch first.0 in
    deepens_behind next (sign 59 w first.1) _ _ (sign_shallow 59 w first.1)
    (λ m. deepens_bind next next (repetition fewer (first.0 ∷ []) m) (repetition more (first.0 ∷ []) m) how how
    (deepens_repetition next fewer more (branch_turn_behind d) (branch_turn_behind e)
    (branch_turn_steady (pipes.pipe e) (pipe_steady e)) (branch_turn_deepens (pipes.pipe d) (pipes.pipe e) k)
    (first.0 ∷ []) m)
    (λ all. steady_to next (pipes.branches_how at all) (branches_how_steady at all))
    (λ all. deepens_same next (how all) (branches_how_shallow at all.0 all.1))))

source_deepens_with : (group group' : Rest → Rest → Outcome SourceTree) →
    ((t : Rest) → (head t == 123) ≡ true → Deepens next (group t (behind t)) (group' t (behind t))) → (s : Rest) →
    Deepens next (pipes.source_with group s) (pipes.source_with group' s)
unfolding pipes.source_with
source_deepens_with group group' k s =
    let t = skip s in
    deepens_if next (head t == 102) _ _ _ _ (λ _. deepens_same next (pipes.fetch t) (fetch_shallow t))
    (λ _. deepens_if next (head t == 123) _ _ _ _ (k t)
    (λ _. deepens_same next (Err (unexpected_fault what.Fetch t)) (unexpected_shallow what.Fetch t)))

pipe_deepens_with : (d e : ℕ) → d < e →
    ((t : Rest) → (head t == 123) ≡ true →
    Deepens next (pipes.pipe_group d t (behind t)) (pipes.pipe_group e t (behind t))) → (s : Rest) →
    Deepens next (pipes.pipe d s) (pipes.pipe e s)
unfolding pipes.pipe_with
pipe_deepens_with d e l k s =
    deepens_bind next next (pipes.source d s) (pipes.source e s)
    (λ source. map_outcome (λ ops. Flow source.0 ops) (pipes.operations d source.1))
    (λ source. map_outcome (λ ops. Flow source.0 ops) (pipes.operations e source.1))
    (source_deepens_with (pipes.pipe_group d) (pipes.pipe_group e) k s)
    (λ source. steady_map next next (λ ops. Flow source ops) (pipes.operations e) (operations_steady e))
    (λ source. deepens_map next (λ ops. Flow source.0 ops) (pipes.operations d source.1)
    (pipes.operations e source.1) (operations_deepens d e l source.1))

-- branches, from their brace
group_deepens : (d e : ℕ) → d < e → (t : Rest) → (head t == 123) ≡ true →
    Deepens next (pipes.pipe_group d t (behind t)) (pipes.pipe_group e t (behind t))
unfolding pipes.pipe_group
group_deepens zero zero l t h = absurd (omega (arith, l))
group_deepens (suc d) zero l t h = absurd (omega (arith, l))
group_deepens zero (suc e) l t h =
    let inner = pipes.branches_with (pipes.pipe e) t.at in
    deepens_fault next 123 t inner (steady_from next inner (branches_steady_by e (pipe_steady e) t.at)) refl h
group_deepens (suc d) (suc e) l t h =
    let under : d < e = omega (arith, l) in
    branches_deepens_by d e (pipe_deepens_with d e under (group_deepens d e under)) t.at (behind t)

pub pipe_deepens : (d e : ℕ) → d < e → (s : Rest) → Deepens next (pipes.pipe d s) (pipes.pipe e s)
pipe_deepens d e l = pipe_deepens_with d e l (group_deepens d e l)
