-- The kinds of faults in operations and pipes.
use Rattle.std.proofs.Common.{◌≡◌, ℕ, ℤ, zero, suc, Bool, true, false, ◌==◌, List, [], ◌∷◌, ◌++◌, codes, refl, None}
use Rattle.std.proofs.Common.{Ok, Err}
use Rattle.mon_value.specs.Answers.{◌>>=◌}
use Rattle.mon_value.specs.declared.aligners.Aligner.TheVariants as aligner
use Rattle.mql_ast.specs.declared.pipes.How.{How}
use Rattle.mql_ast.specs.declared.pipes.How.TheVariants as how
use Rattle.mql_ast.specs.Trees.{PredicateTree, DeedTree, Filter, Align, GroupBy, Value, Top, Every, Within, OpTree}
use Rattle.mql_ast.specs.Trees.{PipeTree, Flow, SourceTree, Fetch, Branches, branches}
use Rattle.mql_ast.specs.Tokens.{Rest, head, behind, skip}
use Rattle.mql_parse.specs.declared.faults.What.{What}
use Rattle.mql_parse.specs.declared.faults.What.TheVariants as what
use Rattle.mql_parse.specs.Outcomes.{Outcome, unexpected_fault, exact, sign, apart, map_outcome, up_to_sign}
use Rattle.mql_parse.specs.Repeats.{Done, Again, Stuck, repetition}
use Rattle.mql_parse.specs.TokenReading as reading
use Rattle.mql_parse.specs.SumReading as sums
use Rattle.mql_parse.specs.PredicateReading as predicates
use Rattle.mql_parse.specs.Folds as folds
use Rattle.mql_parse.specs.PipeReading as pipes
use Rattle.mql_parse.proofs.PipeSound.{operation_turn_behind, branch_turn_behind}
use Rattle.mql_parse.proofs.KindFits.{Fits, TurnFits, outside_itself, turn_before, bind_fits, map_fits, pass_then}
use Rattle.mql_parse.proofs.KindFits.{pass_pass, if_fits, if_turn, part_outside, behind_fits, skip_fits}
use Rattle.mql_parse.proofs.KindFits.{unexpected_fits, unexpected_next, deep_fits, sign_fits, up_to_fits, on_read_fits}
use Rattle.mql_parse.proofs.KindFits.{repetition_fits}
use Rattle.mql_parse.proofs.TokenKinds.{plain_bytes, exact_fits, apart_fits, name_fits, metric_fits, positive_fits}
use Rattle.mql_parse.proofs.TokenKinds.{duration_fits}
use Rattle.mql_parse.proofs.SumKinds.{items_fits}
use Rattle.mql_parse.proofs.PredicateKinds.{predicate_fits}
use Rattle.mql_parse.proofs.FoldKinds.{names_fits, aggregates_fits}

-- a keyword, and what stands behind it
word_then : {A : Type 0} (word : List ℕ) → plain_bytes word ≡ true → (w : What) (t : Rest) (read : Rest → Outcome A) →
    ((m : Rest) → Fits None m (read m)) → Fits None t (pipes.word_apart word w t >>= read)
word_then word h w t read k = pass_then t (pipes.word_apart word w t) read
    (pass_pass t (exact what.Operation word t) (apart w) (exact_fits what.Operation word h t) (apart_fits w)) k

aligned_for_fits : (word : List ℕ) → plain_bytes word ≡ true → (t : Rest) → Fits None t (pipes.aligned_for word t)
aligned_for_fits word h t =
    pass_then t (exact what.Aligner word t) _ (exact_fits what.Aligner word h t)
    (λ m. pass_then m (sign 40 what.OpenParenthesis m) (λ k. up_to_sign 41 what.CloseParenthesis (reading.duration k))
    (sign_fits 40 refl refl what.OpenParenthesis m)
    (λ k. up_to_fits 41 refl refl what.CloseParenthesis k (reading.duration k) (duration_fits k)))

aligner_fits : (t : Rest) → Fits None t (pipes.aligner_here t)
aligner_fits t =
    if_fits None t (head t == 100) (map_outcome (λ z. Align (aligner.Delta z)) (pipes.aligned_for (codes "delta") t)) _
    (λ _. map_fits None t (λ z. Align (aligner.Delta z)) (pipes.aligned_for (codes "delta") t)
    (aligned_for_fits (codes "delta") refl t))
    (λ _. if_fits None t (head t == 110)
    (map_outcome (λ z. Align (aligner.NextOlder z)) (pipes.aligned_for (codes "next_older") t))
    (Err (unexpected_fault what.Aligner t))
    (λ _. map_fits None t (λ z. Align (aligner.NextOlder z)) (pipes.aligned_for (codes "next_older") t)
    (aligned_for_fits (codes "next_older") refl t)) (λ _. unexpected_fits what.Aligner t))

align_fits : (t : Rest) → Fits None t (pipes.align t)
unfolding pipes.align
align_fits t = word_then (codes "align") refl what.Aligner t (λ m. pipes.aligner_here (skip m))
    (λ m. skip_fits m (pipes.aligner_here (skip m)) (aligner_fits (skip m)))

group_by_fits : (t : Rest) → Fits None t (pipes.group_by t)
unfolding pipes.group_by
group_by_fits t =
    pass_then t (exact what.Operation (codes "group_by") t) _ (exact_fits what.Operation (codes "group_by") refl t)
    (λ word. pass_then word (sign 91 what.OpenBracket word) _ (sign_fits 91 refl refl what.OpenBracket word)
    (λ bracket. bind_fits None bracket (folds.names bracket) _ (names_fits bracket)
    (λ ns r. pass_then r (sign 44 what.Comma r) (λ comma. map_outcome (λ all. GroupBy ns all) (folds.aggregates comma))
    (sign_fits 44 refl refl what.Comma r)
    (λ comma. map_fits None comma (λ all. GroupBy ns all) (folds.aggregates comma) (aggregates_fits comma)))))

value_fits : (d : ℕ) (t : Rest) → Fits None t (pipes.value d t)
unfolding pipes.value
value_fits d t =
    pass_then t (exact what.Operation (codes "value") t) _ (exact_fits what.Operation (codes "value") refl t)
    (λ word. pass_then word (sign 91 what.OpenBracket word) (λ bracket. map_outcome Value (sums.items d bracket))
    (sign_fits 91 refl refl what.OpenBracket word)
    (λ bracket. map_fits None bracket Value (sums.items d bracket) (items_fits d bracket)))

top_fits : (t : Rest) → Fits None t (pipes.top t)
unfolding pipes.top
top_fits t =
    word_then (codes "top") refl what.Number t _
    (λ word. bind_fits None word (reading.positive 16777216 word) _ (positive_fits 16777216 word)
    (λ n r. pass_then r (sign 44 what.Comma r) (λ comma. map_outcome (λ column. Top n column) (reading.name comma))
    (sign_fits 44 refl refl what.Comma r)
    (λ comma. map_fits None comma (λ column. Top n column) (reading.name comma) (name_fits comma))))

duration_deed_fits : (deed : ℤ → DeedTree) (word : List ℕ) → plain_bytes word ≡ true → (t : Rest) →
    Fits None t (pipes.duration_deed deed word t)
unfolding pipes.duration_deed
duration_deed_fits deed word h t = word_then word h what.Number t (λ m. map_outcome deed (reading.duration m))
    (λ m. map_fits None m deed (reading.duration m) (duration_fits m))

deed_fits : (d : ℕ) (t : Rest) → Fits None t (pipes.deed_here d t)
unfolding pipes.deed_here
deed_fits d t =
    if_fits None t (head t == 97) (pipes.align t) _ (λ _. align_fits t)
    (λ _. if_fits None t (head t == 103) (pipes.group_by t) _ (λ _. group_by_fits t)
    (λ _. if_fits None t (head t == 118) (pipes.value d t) _ (λ _. value_fits d t)
    (λ _. if_fits None t (head t == 116) (pipes.top t) _ (λ _. top_fits t)
    (λ _. if_fits None t (head t == 101) (pipes.duration_deed Every (codes "every") t) _
    (λ _. duration_deed_fits Every (codes "every") refl t)
    (λ _. if_fits None t (head t == 119) (pipes.duration_deed Within (codes "within") t)
    (Err (unexpected_fault what.Operation t)) (λ _. duration_deed_fits Within (codes "within") refl t)
    (λ _. unexpected_fits what.Operation t))))))

filter_fits : (d : ℕ) (t : Rest) → Fits None t (pipes.filter_here d t)
filter_fits d t =
    let filtered : PredicateTree × Bool → OpTree × Bool = λ x. (pipes.op_at t.at (Filter x.0), x.1) in
    word_then (codes "filter") refl what.Name t (λ m. map_outcome filtered (predicates.predicate d m))
    (λ m. map_fits None m filtered (predicates.predicate d m) (predicate_fits d m))

operation_fits : (d : ℕ) (s : Rest) → Fits None s (pipes.operation d s)
unfolding pipes.operation
operation_fits d s =
    let t = skip s in
    let unbarred : DeedTree → OpTree × Bool = λ deed. (pipes.op_at t.at deed, false) in
    if_fits None s (head t == 102) (pipes.filter_here d t) (map_outcome unbarred (pipes.deed_here d t))
    (λ _. skip_fits s (pipes.filter_here d t) (filter_fits d t))
    (λ _. skip_fits s (map_outcome unbarred (pipes.deed_here d t))
    (map_fits None t unbarred (pipes.deed_here d t) (deed_fits d t)))

operation_from_fits : (d : ℕ) (ops : List OpTree) (s : Rest) → TurnFits s (pipes.operation_from d ops s)
operation_from_fits d ops s = on_read_fits s (λ x. Again (pipes.with_op ops x.0) x.1) (pipes.operation d s)
    (operation_fits d s) (λ x r. outside_itself r)

operation_turn_fits : (d : ℕ) (read : List OpTree × Bool) (s : Rest) → TurnFits s (pipes.operation_turn d read s)
unfolding pipes.operation_turn
operation_turn_fits d read s =
    if_turn s read.1 (pipes.operation_from d read.0 s) _ (λ _. operation_from_fits d read.0 s)
    (λ _. if_turn s (head (skip s) == 124) (pipes.operation_from d read.0 (behind (skip s))) (Done read s)
    (λ h. turn_before s (behind (skip s)) (pipes.operation_from d read.0 (behind (skip s)))
    (part_outside (λ b. b == 124) refl refl s h) (operation_from_fits d read.0 (behind (skip s))))
    (λ _. outside_itself s))

operations_fits : (d : ℕ) (s : Rest) → Fits None s (pipes.operations d s)
unfolding pipes.operations
operations_fits d s = map_fits None s (λ x. x.0) (repetition (pipes.operation_turn d) ([], false) s)
    (repetition_fits (pipes.operation_turn d) (operation_turn_behind d) (operation_turn_fits d) ([], false) s)

-- sources
how_word_fits : (h : How) (word : List ℕ) → plain_bytes word ≡ true → (t : Rest) →
    Fits None t (exact what.How word t >>= λ r. Ok (h, r))
how_word_fits h word plain t = pass_then t (exact what.How word t) (λ r. Ok (h, r)) (exact_fits what.How word plain t)
    outside_itself

how_fits : (t : Rest) → Fits None t (pipes.how_here t)
how_fits t =
    if_fits None t (head t == 106) _ _ (λ _. how_word_fits how.Join (codes "join") refl t)
    (λ _. if_fits None t (head t == 117) _ (Err (unexpected_fault what.How t))
    (λ _. how_word_fits how.Union (codes "union") refl t) (λ _. unexpected_fits what.How t))

branches_how_fits : (at : ℕ) (all : List PipeTree) (s : Rest) → Fits None s (pipes.branches_how at all s)
unfolding pipes.branches_how
branches_how_fits at all s =
    pass_then s (sign 124 what.Bar s)
    (λ m. map_outcome (λ by. Branches at (branches all) by (skip m).at) (pipes.how_here (skip m)))
    (sign_fits 124 refl refl what.Bar s)
    (λ m. map_fits None m (λ by. Branches at (branches all) by (skip m).at) (pipes.how_here (skip m))
    (skip_fits m (pipes.how_here (skip m)) (how_fits (skip m))))

fetch_fits : (t : Rest) → Fits None t (pipes.fetch t)
unfolding pipes.fetch
fetch_fits t =
    pass_then t (exact what.Fetch (codes "fetch") t) _ (exact_fits what.Fetch (codes "fetch") refl t)
    (λ word. pass_then word (apart what.Name word) _ (apart_fits what.Name word)
    (λ space. bind_fits None space (reading.name space) _ (name_fits space)
    (λ schema r. skip_fits r _ (pass_then (skip r) (exact what.Colons (codes "::") (skip r))
    (λ colons. map_outcome (λ m. Fetch t.at schema m) (reading.metric colons))
    (exact_fits what.Colons (codes "::") refl (skip r))
    (λ colons. map_fits None colons (λ m. Fetch t.at schema m) (reading.metric colons) (metric_fits colons))))))

branch_turn_fits : (pipe : Rest → Outcome PipeTree) → ((s : Rest) → Fits None s (pipe s)) → (so_far : List PipeTree)
    (s : Rest) → TurnFits s (pipes.branch_turn pipe so_far s)
unfolding pipes.branch_turn
branch_turn_fits pipe k so_far s = on_read_fits s (pipes.branch_behind so_far) (pipe s) (k s)
    (λ p r. let all = so_far ++ p ∷ [] in
    if_turn r (head (skip r) == 59) (Again all (behind (skip r))) _ (λ h. part_outside (λ b. b == 59) refl refl r h)
    (λ _. if_turn r (head (skip r) == 125) (Done all (behind (skip r)))
    (Stuck (unexpected_fault what.CloseBrace (skip r)))
    (λ h. part_outside (λ b. b == 125) refl refl r h) (λ _. unexpected_next what.CloseBrace r)))

branches_fits_by : (d : ℕ) → ((s : Rest) → Fits None s (pipes.pipe d s)) → (at : ℕ) (s : Rest) →
    Fits None s (pipes.branches_with (pipes.pipe d) at s)
unfolding pipes.branches_with
branches_fits_by d k at s =
    bind_fits None s (pipes.pipe d s) _ (k s)
    (λ first r. pass_then r (sign 59 (pipes.behind_branch first) r) _
    (sign_fits 59 refl refl (pipes.behind_branch first) r)
    (λ more. bind_fits None more (repetition (pipes.branch_turn (pipes.pipe d)) (first ∷ []) more) _
    (repetition_fits (pipes.branch_turn (pipes.pipe d)) (branch_turn_behind d) (branch_turn_fits (pipes.pipe d) k)
    (first ∷ []) more)
    (λ all m. branches_how_fits at all m)))

source_fits_with : (group : Rest → Rest → Outcome SourceTree) →
    ((t : Rest) → (head t == 123) ≡ true → Fits None t (group t (behind t))) → (s : Rest) →
    Fits None s (pipes.source_with group s)
unfolding pipes.source_with
source_fits_with group k s =
    let t = skip s in
    if_fits None s (head t == 102) (pipes.fetch t) _ (λ _. skip_fits s (pipes.fetch t) (fetch_fits t))
    (λ _. if_fits None s (head t == 123) (group t (behind t)) (Err (unexpected_fault what.Fetch t))
    (λ h. skip_fits s (group t (behind t)) (k t h)) (λ _. unexpected_next what.Fetch s))

pipe_fits_with : (group : Rest → Rest → Outcome SourceTree) →
    ((t : Rest) → (head t == 123) ≡ true → Fits None t (group t (behind t))) → (d : ℕ) (s : Rest) →
    Fits None s (pipes.pipe_with group d s)
unfolding pipes.pipe_with
pipe_fits_with group k d s =
    bind_fits None s (pipes.source_with group s)
    (λ source. map_outcome (λ ops. Flow source.0 ops) (pipes.operations d source.1)) (source_fits_with group k s)
    (λ source r. map_fits None r (λ ops. Flow source ops) (pipes.operations d r) (operations_fits d r))

group_fits : (d : ℕ) (t : Rest) → (head t == 123) ≡ true → Fits None t (pipes.pipe_group d t (behind t))
unfolding pipes.pipe_group
group_fits zero t h = deep_fits 123 refl refl t h
group_fits (suc d) t h =
    behind_fits (λ b. b == 123) refl refl t h (pipes.branches_with (pipes.pipe d) t.at (behind t))
    (branches_fits_by d (pipe_fits_with (pipes.pipe_group d) (group_fits d) d) t.at (behind t))

pub pipe_fits : (d : ℕ) (s : Rest) → Fits None s (pipes.pipe d s)
pipe_fits d = pipe_fits_with (pipes.pipe_group d) (group_fits d) d
