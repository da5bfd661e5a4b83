-- Operations and pipes are read without looking behind them.
use Rattle.std.proofs.Common.{ℕ, ℤ, zero, suc, Bool, false, ◌==◌, List, [], ◌∷◌, ◌++◌, codes, if◌then◌else◌, Ok, Err}
use Rattle.mon_value.specs.Answers.{◌>>=◌}
use Rattle.mon_value.specs.declared.aligners.Aligner.TheVariants as aligner
use Rattle.mql_ast.specs.declared.names.Name.{Name}
use Rattle.mql_ast.specs.declared.pipes.How.{How}
use Rattle.mql_ast.specs.declared.pipes.How.TheVariants as how
use Rattle.mql_ast.specs.Trees.{PredicateTree, DeedTree, Filter, Align, GroupBy, Value, Top, Every, Within, OpTree}
use Rattle.mql_ast.specs.Trees.{PipeTree, Flow, SourceTree, Fetch, Branches, branches}
use Rattle.mql_ast.specs.Tokens.{Rest, head, behind, skip}
use Rattle.mql_parse.specs.declared.faults.ParseKind.TheVariants.{TooDeep}
use Rattle.mql_parse.specs.declared.faults.What.{What}
use Rattle.mql_parse.specs.declared.faults.What.TheVariants as what
use Rattle.mql_parse.specs.Outcomes.{Outcome, unexpected_fault, exact, sign, apart, map_outcome, up_to_sign}
use Rattle.mql_parse.specs.Repeats.{Done, Again, Stuck, repetition}
use Rattle.mql_parse.specs.TokenReading as reading
use Rattle.mql_parse.specs.SumReading as sums
use Rattle.mql_parse.specs.PredicateReading as predicates
use Rattle.mql_parse.specs.Folds as folds
use Rattle.mql_parse.specs.PipeReading as pipes
use Rattle.mql_parse.specs.Steadiness.{here, next, Steady, SteadyPass, SteadyTurn}
use Rattle.mql_parse.proofs.PipeSound.{operation_turn_behind, branch_turn_behind}
use Rattle.mql_parse.proofs.Steady.{steady_from, steady_to, steady_ok, steady_fault, steady_unexpected, steady_bind}
use Rattle.mql_parse.proofs.Steady.{steady_map, steady_behind_pass, steady_passes, steady_sign, sign_next}
use Rattle.mql_parse.proofs.Steady.{steady_up_to, head_test, next_test, constant_test, steady_if, steady_skip}
use Rattle.mql_parse.proofs.Steady.{steady_behind, steady_here, steady_next}
use Rattle.mql_parse.proofs.TurnSteady.{turn_done, turn_again, turn_stuck, turn_from, turn_to, turn_if, turn_skip}
use Rattle.mql_parse.proofs.TurnSteady.{turn_behind_skip, turn_on_read, steady_repetition}
use Rattle.mql_parse.proofs.TokenSteady.{exact_steady, apart_steady, name_steady, name_next, metric_steady}
use Rattle.mql_parse.proofs.TokenSteady.{positive_next, duration_steady}
use Rattle.mql_parse.proofs.SumSteady.{items_steady}
use Rattle.mql_parse.proofs.PredicateSteady.{predicate_steady}
use Rattle.mql_parse.proofs.FoldSteady.{names_steady, aggregates_steady}

word_apart_steady : (word : List ℕ) (w : What) → SteadyPass here here (pipes.word_apart word w)
word_apart_steady word w = steady_passes here here here (exact what.Operation word) (apart w)
    (exact_steady what.Operation word) (apart_steady w)

-- a keyword, and what stands behind it
word_then : {A : Type 0} (to : Rest → ℕ) (word : List ℕ) (w : What) (read : Rest → Outcome A) → Steady next to read →
    Steady here to (λ t. pipes.word_apart word w t >>= read)
word_then to word w read k = steady_behind_pass here here to (pipes.word_apart word w) read (word_apart_steady word w)
    (steady_from to read k)

aligned_for_steady : (word : List ℕ) → Steady here here (pipes.aligned_for word)
aligned_for_steady word =
    let closed = λ (k : Rest). up_to_sign 41 what.CloseParenthesis (reading.duration k) in
    let opened = λ (m : Rest). sign 40 what.OpenParenthesis m >>= closed in
    steady_behind_pass here here here (exact what.Aligner word) opened (exact_steady what.Aligner word)
    (steady_from here opened (steady_behind_pass next here here (sign 40 what.OpenParenthesis) closed
    (steady_sign 40 what.OpenParenthesis)
    (steady_from here closed (steady_up_to next 41 what.CloseParenthesis reading.duration
    (steady_to next reading.duration duration_steady)))))

aligner_steady : Steady here here pipes.aligner_here
aligner_steady =
    steady_if here here (λ t. head t == 100)
    (λ t. map_outcome (λ z. Align (aligner.Delta z)) (pipes.aligned_for (codes "delta") t)) _
    (head_test (λ b. b == 100))
    (steady_map here here (λ z. Align (aligner.Delta z)) (pipes.aligned_for (codes "delta"))
    (aligned_for_steady (codes "delta")))
    (steady_if here here (λ t. head t == 110)
    (λ t. map_outcome (λ z. Align (aligner.NextOlder z)) (pipes.aligned_for (codes "next_older") t))
    (λ t. Err (unexpected_fault what.Aligner t)) (head_test (λ b. b == 110))
    (steady_map here here (λ z. Align (aligner.NextOlder z)) (pipes.aligned_for (codes "next_older"))
    (aligned_for_steady (codes "next_older"))) (steady_unexpected here what.Aligner))

align_steady : Steady here here pipes.align
unfolding pipes.align
align_steady = word_then here (codes "align") what.Aligner (λ m. pipes.aligner_here (skip m))
    (steady_skip here pipes.aligner_here aligner_steady)

group_by_steady : Steady here next pipes.group_by
unfolding pipes.group_by
group_by_steady =
    let folded = λ (ns : List Name) (k : Rest). map_outcome (λ all. GroupBy ns all) (folds.aggregates k) in
    let behind_names = λ (ns : List Name) (r : Rest). sign 44 what.Comma r >>= folded ns in
    let named = λ (m : Rest). folds.names m >>= λ columns. behind_names columns.0 columns.1 in
    let opened = λ (m : Rest). sign 91 what.OpenBracket m >>= named in
    steady_behind_pass here here next (exact what.Operation (codes "group_by")) opened
    (exact_steady what.Operation (codes "group_by"))
    (steady_from next opened (steady_behind_pass next next next (sign 91 what.OpenBracket) named
    (sign_next 91 what.OpenBracket)
    (steady_bind next next next folds.names (λ columns. behind_names columns.0 columns.1)
    (steady_to next folds.names names_steady)
    (λ ns. steady_behind_pass next next next (sign 44 what.Comma) (folded ns) (sign_next 44 what.Comma)
    (steady_map next next (λ all. GroupBy ns all) folds.aggregates aggregates_steady)))))

value_steady : (d : ℕ) → Steady here here (pipes.value d)
unfolding pipes.value
value_steady d =
    let opened = λ (m : Rest). sign 91 what.OpenBracket m >>= λ r. map_outcome Value (sums.items d r) in
    steady_behind_pass here here here (exact what.Operation (codes "value")) opened
    (exact_steady what.Operation (codes "value"))
    (steady_from here opened (steady_behind_pass next next here (sign 91 what.OpenBracket)
    (λ r. map_outcome Value (sums.items d r)) (sign_next 91 what.OpenBracket)
    (steady_map next here Value (sums.items d) (items_steady d))))

top_steady : Steady here here pipes.top
unfolding pipes.top
top_steady =
    let behind_number = λ (n : ℕ) (r : Rest). sign 44 what.Comma r >>= λ k. map_outcome (λ column. Top n column)
    (reading.name k) in
    let counted = λ (m : Rest). reading.positive 16777216 m >>= λ n. behind_number n.0 n.1 in
    word_then here (codes "top") what.Number counted
    (steady_bind next next here (reading.positive 16777216) (λ n. behind_number n.0 n.1) (positive_next 16777216)
    (λ n. steady_behind_pass next next here (sign 44 what.Comma)
    (λ k. map_outcome (λ column. Top n column) (reading.name k)) (sign_next 44 what.Comma)
    (steady_map next here (λ column. Top n column) reading.name name_steady)))

duration_deed_steady : (deed : ℤ → DeedTree) (word : List ℕ) → Steady here here (pipes.duration_deed deed word)
unfolding pipes.duration_deed
duration_deed_steady deed word = word_then here word what.Number (λ m. map_outcome deed (reading.duration m))
    (steady_map next here deed reading.duration duration_steady)

deed_steady : (d : ℕ) → Steady here next (pipes.deed_here d)
unfolding pipes.deed_here
deed_steady d =
    steady_if here next (λ t. head t == 97) pipes.align _ (head_test (λ b. b == 97))
    (steady_to here pipes.align align_steady)
    (steady_if here next (λ t. head t == 103) pipes.group_by _ (head_test (λ b. b == 103)) group_by_steady
    (steady_if here next (λ t. head t == 118) (pipes.value d) _ (head_test (λ b. b == 118))
    (steady_to here (pipes.value d) (value_steady d))
    (steady_if here next (λ t. head t == 116) pipes.top _ (head_test (λ b. b == 116))
    (steady_to here pipes.top top_steady)
    (steady_if here next (λ t. head t == 101) (pipes.duration_deed Every (codes "every")) _ (head_test (λ b. b == 101))
    (steady_to here (pipes.duration_deed Every (codes "every")) (duration_deed_steady Every (codes "every")))
    (steady_if here next (λ t. head t == 119) (pipes.duration_deed Within (codes "within"))
    (λ t. Err (unexpected_fault what.Operation t)) (head_test (λ b. b == 119))
    (steady_to here (pipes.duration_deed Within (codes "within")) (duration_deed_steady Within (codes "within")))
    (steady_unexpected next what.Operation))))))

filter_steady : (d : ℕ) → Steady here next (pipes.filter_here d)
filter_steady d =
    let filtered : ℕ → PredicateTree × Bool → OpTree × Bool = λ n x. (pipes.op_at n (Filter x.0), x.1) in
    let read = λ (n : ℕ) (t : Rest). pipes.word_apart (codes "filter") what.Name t >>= λ m. map_outcome (filtered n)
    (predicates.predicate d m) in
    steady_here next read
    (λ n. word_then next (codes "filter") what.Name (λ m. map_outcome (filtered n) (predicates.predicate d m))
    (steady_map next next (filtered n) (predicates.predicate d) (predicate_steady d)))

operation_steady : (d : ℕ) → Steady next next (pipes.operation d)
unfolding pipes.operation
operation_steady d =
    let unbarred : ℕ → DeedTree → OpTree × Bool = λ n deed. (pipes.op_at n deed, false) in
    let other = λ (n : ℕ) (t : Rest). map_outcome (unbarred n) (pipes.deed_here d t) in
    steady_skip next (λ t. if head t == 102 then pipes.filter_here d t else other t.at t)
    (steady_if here next (λ t. head t == 102) (pipes.filter_here d) (λ t. other t.at t) (head_test (λ b. b == 102))
    (filter_steady d)
    (steady_here next other (λ n. steady_map here next (unbarred n) (pipes.deed_here d) (deed_steady d))))

operation_from_steady : (d : ℕ) (ops : List OpTree) → SteadyTurn next next (pipes.operation_from d ops)
operation_from_steady d ops = turn_on_read next next next (λ x. Again (pipes.with_op ops x.0) x.1) (pipes.operation d)
    (operation_steady d) (λ x. turn_again next (pipes.with_op ops x))

pub operation_turn_steady : (d : ℕ) (read : List OpTree × Bool) → SteadyTurn next next (pipes.operation_turn d read)
unfolding pipes.operation_turn
operation_turn_steady d read =
    turn_if next next (λ s. read.1) (pipes.operation_from d read.0) _ (constant_test next read.1)
    (operation_from_steady d read.0)
    (turn_if next next (λ s. head (skip s) == 124) (λ s. pipes.operation_from d read.0 (behind (skip s)))
    (λ s. Done read s) (next_test (λ b. b == 124))
    (turn_behind_skip next (pipes.operation_from d read.0)
    (turn_from next (pipes.operation_from d read.0) (operation_from_steady d read.0))) (turn_done next read))

pub operations_steady : (d : ℕ) → Steady next next (pipes.operations d)
unfolding pipes.operations
operations_steady d =
    steady_map next next (λ x. x.0) (λ s. repetition (pipes.operation_turn d) ([], false) s)
    (steady_repetition next (pipes.operation_turn d) (operation_turn_behind d) (operation_turn_steady d)
    ([], false))

-- sources
how_word_steady : (h : How) (word : List ℕ) → Steady here here (λ t. exact what.How word t >>= λ r. Ok (h, r))
how_word_steady h word = steady_behind_pass here here here (exact what.How word) (λ r. Ok (h, r))
    (exact_steady what.How word) (steady_ok here h)

how_steady : Steady here here pipes.how_here
how_steady =
    steady_if here here (λ t. head t == 106) _ _ (head_test (λ b. b == 106)) (how_word_steady how.Join (codes "join"))
    (steady_if here here (λ t. head t == 117) _ (λ t. Err (unexpected_fault what.How t)) (head_test (λ b. b == 117))
    (how_word_steady how.Union (codes "union")) (steady_unexpected here what.How))

pub branches_how_steady : (at : ℕ) (all : List PipeTree) → Steady next here (pipes.branches_how at all)
unfolding pipes.branches_how
branches_how_steady at all =
    let joined = λ (n : ℕ) (m : Rest). map_outcome (λ by. Branches at (branches all) by n) (pipes.how_here (skip m)) in
    let by_how = λ (m : Rest). joined (skip m).at m in
    steady_behind_pass next next here (sign 124 what.Bar) by_how (sign_next 124 what.Bar)
    (steady_next here joined (λ n. steady_map next here (λ by. Branches at (branches all) by n)
    (λ m. pipes.how_here (skip m)) (steady_skip here pipes.how_here how_steady)))

-- a fetch from behind its word
abbrev pub behind_fetch : ℕ → Rest → Outcome SourceTree
behind_fetch n word = do
  space ← apart what.Name word
  schema ← reading.name space
  colons ← exact what.Colons (codes "::") (skip schema.1)
  map_outcome (λ m. Fetch n schema.0 m) (reading.metric colons)

pub fetch_steady_by : (n : ℕ) (word : List ℕ) → Steady here here (λ t. exact what.Fetch word t >>= behind_fetch n)
fetch_steady_by n word =
    let metric_of = λ (schema : Name) (k : Rest). map_outcome (λ m. Fetch n schema m) (reading.metric k) in
    let colons = λ (schema : Name) (r : Rest). exact what.Colons (codes "::") (skip r) >>= metric_of schema in
    let named = λ (space : Rest). reading.name space >>= λ schema. colons schema.0 schema.1 in
    steady_behind_pass here here here (exact what.Fetch word) (behind_fetch n) (exact_steady what.Fetch word)
    (steady_behind_pass here here here (apart what.Name) named (apart_steady what.Name)
    (steady_from here named (steady_bind next next here reading.name (λ schema. colons schema.0 schema.1) name_next
    (λ schema. steady_skip here (λ t. exact what.Colons (codes "::") t >>= metric_of schema)
    (steady_behind_pass here here here (exact what.Colons (codes "::")) (metric_of schema)
    (exact_steady what.Colons (codes "::"))
    (steady_from here (metric_of schema)
    (steady_map next here (λ m. Fetch n schema m) reading.metric metric_steady)))))))

fetch_steady : Steady here here pipes.fetch
unfolding pipes.fetch
fetch_steady =
    steady_here here (λ n t. exact what.Fetch (codes "fetch") t >>= behind_fetch n)
    (λ n. fetch_steady_by n (codes "fetch"))

pub branch_behind_steady : (so_far : List PipeTree) (pipe : PipeTree) →
    SteadyTurn next here (λ r. pipes.branch_behind so_far (pipe, r))
branch_behind_steady so_far pipe =
    let all = so_far ++ pipe ∷ [] in
    turn_if next here (λ r. head (skip r) == 59) (λ r. Again all (behind (skip r))) _ (next_test (λ b. b == 59))
    (turn_behind_skip here (λ t. Again all t) (turn_from here (λ t. Again all t) (turn_again here all)))
    (turn_if next here (λ r. head (skip r) == 125) (λ r. Done all (behind (skip r)))
    (λ r. Stuck (unexpected_fault what.CloseBrace (skip r))) (next_test (λ b. b == 125))
    (turn_behind_skip here (λ t. Done all t) (turn_done here all))
    (turn_skip here (λ t. Stuck (unexpected_fault what.CloseBrace t)) (turn_stuck here what.CloseBrace)))

pub branch_turn_steady : (pipe : Rest → Outcome PipeTree) → Steady next next pipe → (so_far : List PipeTree) →
    SteadyTurn next next (pipes.branch_turn pipe so_far)
unfolding pipes.branch_turn
branch_turn_steady pipe k so_far = turn_on_read next next next (pipes.branch_behind so_far) pipe k
    (λ p. turn_to next (λ r. pipes.branch_behind so_far (p, r)) (branch_behind_steady so_far p))

-- what stands behind the first of several branches
pub behind_first_steady : (d : ℕ) → Steady next next (pipes.pipe d) → (at : ℕ) (first : PipeTree) →
    Steady next next (λ r. sign 59 (pipes.behind_branch first) r >>= λ more.
    repetition (pipes.branch_turn (pipes.pipe d)) (first ∷ []) more >>= λ all. pipes.branches_how at all.0 all.1)
behind_first_steady d k at first =
    let how = λ (all : List PipeTree × Rest). pipes.branches_how at all.0 all.1 in
    let further = λ (more : Rest). repetition (pipes.branch_turn (pipes.pipe d)) (first ∷ []) more >>= how in
    steady_behind_pass next next next (sign 59 (pipes.behind_branch first)) further
    (sign_next 59 (pipes.behind_branch first))
    (steady_bind next next next (λ more. repetition (pipes.branch_turn (pipes.pipe d)) (first ∷ []) more) how
    (steady_repetition next (pipes.branch_turn (pipes.pipe d)) (branch_turn_behind d)
    (branch_turn_steady (pipes.pipe d) k) (first ∷ []))
    (λ all. steady_to next (pipes.branches_how at all) (branches_how_steady at all)))

pub branches_steady_by : (d : ℕ) → Steady next next (pipes.pipe d) → (at : ℕ) →
    Steady next next (pipes.branches_with (pipes.pipe d) at)
unfolding pipes.branches_with
branches_steady_by d k at = steady_bind next next next (pipes.pipe d) _ k (behind_first_steady d k at)

source_steady_with : (group : Rest → Rest → Outcome SourceTree) → Steady here next (λ t. group t (behind t)) →
    Steady next next (pipes.source_with group)
unfolding pipes.source_with
source_steady_with group k =
    steady_if next next (λ s. head (skip s) == 102) (λ s. pipes.fetch (skip s)) _ (next_test (λ b. b == 102))
    (steady_skip next pipes.fetch (steady_to here pipes.fetch fetch_steady))
    (steady_if next next (λ s. head (skip s) == 123) (λ s. group (skip s) (behind (skip s)))
    (λ s. Err (unexpected_fault what.Fetch (skip s))) (next_test (λ b. b == 123))
    (steady_skip next (λ t. group t (behind t)) k)
    (steady_skip next (λ t. Err (unexpected_fault what.Fetch t)) (steady_unexpected next what.Fetch)))

pipe_steady_with : (group : Rest → Rest → Outcome SourceTree) → Steady here next (λ t. group t (behind t)) → (d : ℕ) →
    Steady next next (pipes.pipe_with group d)
unfolding pipes.pipe_with
pipe_steady_with group k d =
    steady_bind next next next (pipes.source_with group)
    (λ source. map_outcome (λ ops. Flow source.0 ops) (pipes.operations d source.1)) (source_steady_with group k)
    (λ source. steady_map next next (λ ops. Flow source ops) (pipes.operations d) (operations_steady d))

-- branches, from their brace
group_steady : (d : ℕ) → Steady here next (λ t. pipes.pipe_group d t (behind t))
unfolding pipes.pipe_group
group_steady zero = steady_fault next TooDeep
group_steady (suc d) =
    let inner = λ (at : ℕ) (s : Rest). pipes.branches_with (pipes.pipe d) at s in
    steady_here next (λ at t. inner at (behind t))
    (λ at. steady_behind next (inner at)
    (steady_from next (inner at) (branches_steady_by d (pipe_steady_with (pipes.pipe_group d) (group_steady d) d)
    at)))

pub pipe_steady : (d : ℕ) → Steady next next (pipes.pipe d)
pipe_steady d = pipe_steady_with (pipes.pipe_group d) (group_steady d) d
