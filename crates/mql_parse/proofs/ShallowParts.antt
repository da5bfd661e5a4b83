-- What is read with no regard to the levels is at no fault of the depth: parts of operations.
use Rattle.std.proofs.Common.{ℕ, ℤ, ◌==◌, ◌||◌, List, [], ◌∷◌, ◌++◌, codes, Option, Some, None}
use Rattle.mql_ast.specs.declared.names.Name.{Name}
use Rattle.mql_ast.specs.declared.predicates.Comparison.{Comparison}
use Rattle.mql_ast.specs.declared.predicates.Comparison.TheVariants as comparison
use Rattle.mql_ast.specs.declared.operations.Aggregate.{Aggregate}
use Rattle.mql_ast.specs.declared.operations.FoldWord.{FoldWord}
use Rattle.mql_ast.specs.declared.operations.FoldWord.TheVariants as fold
use Rattle.mql_ast.specs.Trees.{DeedTree, PipeTree}
use Rattle.mql_ast.specs.Tokens.{is_digit, Rest, head, behind, skip, word_here}
use Rattle.mql_parse.specs.declared.faults.What.{What}
use Rattle.mql_parse.specs.declared.faults.What.TheVariants as what
use Rattle.mql_parse.specs.Outcomes.{exact, sign, apart}
use Rattle.mql_parse.specs.Repeats.{Again, Done, list_turn}
use Rattle.mql_parse.specs.TokenReading as reading
use Rattle.mql_parse.specs.SumReading as sums
use Rattle.mql_parse.specs.PredicateReading as predicates
use Rattle.mql_parse.specs.PredicateReading.{Compared, WithValue, WithPattern}
use Rattle.mql_parse.specs.Folds as folds
use Rattle.mql_parse.specs.PipeReading as pipes
use Rattle.mql_parse.proofs.Shallow.{Shallow, ShallowTurn, ok_shallow, unexpected_shallow, if_shallow, bind_shallow}
use Rattle.mql_parse.proofs.Shallow.{map_shallow, exact_shallow, sign_shallow, apart_shallow, up_to_shallow}
use Rattle.mql_parse.proofs.Shallow.{name_shallow, metric_shallow, positive_shallow, signed_shallow, duration_shallow}
use Rattle.mql_parse.proofs.Shallow.{text_shallow, pattern_shallow, on_read_shallow, if_turn_shallow, done_shallow}
use Rattle.mql_parse.proofs.Shallow.{again_shallow, repetition_shallow, list_turn_shallow}

-- sums
percentile_shallow : (at : ℕ) (s : Rest) → Shallow (sums.percentile at s)
unfolding sums.percentile
percentile_shallow at s =
    bind_shallow (reading.name s) _ (name_shallow s)
    (λ column. bind_shallow (sign 44 what.Comma column.1) _ (sign_shallow 44 what.Comma column.1)
    (λ comma. bind_shallow (reading.positive 100 comma) _ (positive_shallow 100 comma)
    (λ p. bind_shallow (sign 41 what.CloseParenthesis p.1) _ (sign_shallow 41 what.CloseParenthesis p.1)
    (λ r. ok_shallow _))))

pub word_read_shallow : (word : Name × Rest) → Shallow (sums.word_read word)
word_read_shallow word =
    if_shallow (sums.is_percentile word.0.text) _ _
    (if_shallow (head (skip word.1) == 40) _ _ (percentile_shallow word.0.at (behind (skip word.1))) (ok_shallow _))
    (ok_shallow _)

pub number_term_shallow : (s : Rest) → Shallow (sums.number_term s)
number_term_shallow s = map_shallow _ (reading.signed_reading s) (signed_shallow s)

-- predicates
maybe_equal_shallow : (without with : Comparison) (s : Rest) → Shallow (predicates.maybe_equal without with s)
maybe_equal_shallow without with s = if_shallow (head s == 61) _ _ (ok_shallow _) (ok_shallow _)

comparison_shallow : (s : Rest) → Shallow (predicates.comparison_kind s)
unfolding predicates.comparison_kind
comparison_shallow s =
    let t = skip s in
    let m = behind t in
    if_shallow (head t == 61) (predicates.behind_equals m) _
    (if_shallow (head m == 61) _ _ (ok_shallow _)
    (if_shallow (head m == 126) _ _ (ok_shallow _) (unexpected_shallow what.Comparison m)))
    (if_shallow (head t == 33) _ _
    (bind_shallow (exact what.Comparison (codes "=") m) _ (exact_shallow what.Comparison (codes "=") m)
    (λ r. ok_shallow _))
    (if_shallow (head t == 60) _ _ (maybe_equal_shallow comparison.Less comparison.AtMost m)
    (if_shallow (head t == 62) _ _ (maybe_equal_shallow comparison.Greater comparison.AtLeast m)
    (unexpected_shallow what.Comparison t))))

value_shallow : (s : Rest) → Shallow (predicates.literal_value s)
unfolding predicates.literal_value
value_shallow s =
    let t = skip s in
    if_shallow (head t == 34) _ _ (map_shallow _ (reading.text (behind t)) (text_shallow (behind t)))
    (if_shallow (head t == 116) _ _
    (bind_shallow (exact what.Truth (codes "true") t) _ (exact_shallow what.Truth (codes "true") t)
    (λ r. ok_shallow _))
    (if_shallow (head t == 102) _ _
    (bind_shallow (exact what.Truth (codes "false") t) _ (exact_shallow what.Truth (codes "false") t)
    (λ r. ok_shallow _))
    (if_shallow (head t == 45 || is_digit (head t)) _ _ (map_shallow _ (reading.signed_reading s) (signed_shallow s))
    (unexpected_shallow what.Text t))))

how_shallow : (column : Name) (x : Compared × Rest) → Shallow (predicates.compares_how column x)
how_shallow column (WithValue how, s) = map_shallow _ (predicates.literal_value s) (value_shallow s)
how_shallow column (WithPattern, s) =
    bind_shallow (sign 34 what.Text s) _ (sign_shallow 34 what.Text s)
    (λ q. map_shallow _ (reading.pattern q) (pattern_shallow q))

pub condition_shallow : (t : Rest) → Shallow (predicates.condition t)
unfolding predicates.condition
condition_shallow t =
    bind_shallow (predicates.comparison_kind (word_here t).1) _ (comparison_shallow (word_here t).1)
    (how_shallow (word_here t).0)

-- names and aggregates
names_shallow : (s : Rest) → Shallow (folds.names s)
unfolding folds.names
names_shallow s =
    if_shallow (head (skip s) == 93) _ _ (ok_shallow _)
    (repetition_shallow (list_turn 93 what.CloseBracket reading.name)
    (list_turn_shallow 93 what.CloseBracket reading.name name_shallow) [] s)

read_as_shallow : (word : FoldWord) (rest : List ℕ) (s : Rest) → Shallow (folds.fold_word_from word rest s)
read_as_shallow word rest s =
    bind_shallow (exact what.Aggregate rest s) _ (exact_shallow what.Aggregate rest s) (λ r. ok_shallow _)

fold_behind_m_shallow : (s : Rest) → Shallow (folds.fold_behind_m s)
unfolding folds.fold_behind_m
fold_behind_m_shallow s =
    let m = behind s in
    if_shallow (head s == 105) _ _ (read_as_shallow fold.Min (codes "n") m)
    (if_shallow (head s == 97) _ _ (read_as_shallow fold.Max (codes "x") m)
    (if_shallow (head s == 101) _ _
    (if_shallow (head m == 97) _ _ (read_as_shallow fold.Mean (codes "n") (behind m))
    (if_shallow (head m == 114) _ _ (read_as_shallow fold.Merge (codes "ge") (behind m))
    (unexpected_shallow what.Aggregate m)))
    (unexpected_shallow what.Aggregate s)))

fold_here_shallow : (s : Rest) → Shallow (folds.fold_here s)
unfolding folds.fold_here
fold_here_shallow s =
    if_shallow (head s == 99) _ _ (read_as_shallow fold.Count (codes "count") s)
    (if_shallow (head s == 115) _ _ (read_as_shallow fold.Sum (codes "sum") s)
    (if_shallow (head s == 97) _ _ (read_as_shallow fold.Aggregate (codes "aggregate") s)
    (if_shallow (head s == 109) _ _ (fold_behind_m_shallow (behind s)) (unexpected_shallow what.Aggregate s))))

some_column_shallow : (s : Rest) → Shallow (folds.some_column s)
some_column_shallow s = map_shallow Some (reading.name s) (name_shallow s)

folded_column_shallow : (word : FoldWord) (s : Rest) → Shallow (folds.fold_column word s)
folded_column_shallow fold.Count s = ok_shallow _
folded_column_shallow fold.Sum s = some_column_shallow s
folded_column_shallow fold.Min s = some_column_shallow s
folded_column_shallow fold.Max s = some_column_shallow s
folded_column_shallow fold.Mean s = some_column_shallow s
folded_column_shallow fold.Merge s = some_column_shallow s
folded_column_shallow fold.Aggregate s = some_column_shallow s

fold_call_shallow : (at : ℕ) (label : Option Name) (word : FoldWord) (s : Rest) →
    Shallow (folds.fold_call at label word s)
unfolding folds.fold_call
fold_call_shallow at label word s =
    map_shallow _ _ (up_to_shallow 41 what.CloseParenthesis (folds.fold_column word s) (folded_column_shallow word s))

labelled_fold_shallow : (label : Name) (s : Rest) → Shallow (folds.labelled_fold label s)
labelled_fold_shallow label s =
    bind_shallow (folds.fold_here (skip s)) _ (fold_here_shallow (skip s))
    (λ word. bind_shallow (sign 40 what.OpenParenthesis word.1) _ (sign_shallow 40 what.OpenParenthesis word.1)
    (λ m. fold_call_shallow (skip s).at (Some label) word.0 m))

bare_fold_shallow : (at : ℕ) (word : Option FoldWord) (t : Rest) → Shallow (folds.bare_fold at word t)
bare_fold_shallow at None t = unexpected_shallow what.Colon t
bare_fold_shallow at (Some word) t =
    if_shallow (head t == 40) _ _ (fold_call_shallow at None word (behind t))
    (unexpected_shallow what.OpenParenthesis t)

aggregate_shallow : (s : Rest) → Shallow (folds.aggregate s)
unfolding folds.aggregate
aggregate_shallow s =
    bind_shallow (reading.name s) _ (name_shallow s)
    (λ first. if_shallow (head (skip first.1) == 58) _ _ (labelled_fold_shallow first.0 (behind (skip first.1)))
    (bare_fold_shallow first.0.at (folds.fold_of first.0.text) (skip first.1)))

aggregate_turn_shallow : (so_far : List Aggregate) (s : Rest) → ShallowTurn (folds.aggregate_turn so_far s)
unfolding folds.aggregate_turn
aggregate_turn_shallow so_far s =
    on_read_shallow (folds.aggregates_on so_far) (folds.aggregate s) (aggregate_shallow s)
    (λ x. if_turn_shallow (head (skip x.1) == 44) (Again (so_far ++ x.0 ∷ []) (behind (skip x.1)))
    (Done (so_far ++ x.0 ∷ []) x.1) (again_shallow _ _) (done_shallow _ _))

aggregates_shallow : (s : Rest) → Shallow (folds.aggregates s)
unfolding folds.aggregates
aggregates_shallow s = repetition_shallow folds.aggregate_turn aggregate_turn_shallow [] s

-- operations
pub word_apart_shallow : (word : List ℕ) (w : What) (t : Rest) → Shallow (pipes.word_apart word w t)
word_apart_shallow word w t =
    bind_shallow (exact what.Operation word t) _ (exact_shallow what.Operation word t) (λ m. apart_shallow w m)

aligned_for_shallow : (word : List ℕ) (t : Rest) → Shallow (pipes.aligned_for word t)
aligned_for_shallow word t =
    bind_shallow (exact what.Aligner word t) _ (exact_shallow what.Aligner word t)
    (λ end. bind_shallow (sign 40 what.OpenParenthesis end) _ (sign_shallow 40 what.OpenParenthesis end)
    (λ m. up_to_shallow 41 what.CloseParenthesis (reading.duration m) (duration_shallow m)))

aligner_shallow : (t : Rest) → Shallow (pipes.aligner_here t)
aligner_shallow t =
    if_shallow (head t == 100) _ _ (map_shallow _ _ (aligned_for_shallow (codes "delta") t))
    (if_shallow (head t == 110) _ _ (map_shallow _ _ (aligned_for_shallow (codes "next_older") t))
    (unexpected_shallow what.Aligner t))

pub align_shallow : (t : Rest) → Shallow (pipes.align t)
unfolding pipes.align
align_shallow t =
    bind_shallow (pipes.word_apart (codes "align") what.Aligner t) _
    (word_apart_shallow (codes "align") what.Aligner t) (λ m. aligner_shallow (skip m))

pub group_by_shallow : (t : Rest) → Shallow (pipes.group_by t)
unfolding pipes.group_by
group_by_shallow t =
    bind_shallow (exact what.Operation (codes "group_by") t) _ (exact_shallow what.Operation (codes "group_by") t)
    (λ word. bind_shallow (sign 91 what.OpenBracket word) _ (sign_shallow 91 what.OpenBracket word)
    (λ bracket. bind_shallow (folds.names bracket) _ (names_shallow bracket)
    (λ columns. bind_shallow (sign 44 what.Comma columns.1) _ (sign_shallow 44 what.Comma columns.1)
    (λ comma. map_shallow _ (folds.aggregates comma) (aggregates_shallow comma)))))

pub top_shallow : (t : Rest) → Shallow (pipes.top t)
unfolding pipes.top
top_shallow t =
    bind_shallow (pipes.word_apart (codes "top") what.Number t) _ (word_apart_shallow (codes "top") what.Number t)
    (λ word. bind_shallow (reading.positive 16777216 word) _ (positive_shallow 16777216 word)
    (λ n. bind_shallow (sign 44 what.Comma n.1) _ (sign_shallow 44 what.Comma n.1)
    (λ comma. map_shallow _ (reading.name comma) (name_shallow comma))))

pub duration_deed_shallow : (deed : ℤ → DeedTree) (word : List ℕ) (t : Rest) →
    Shallow (pipes.duration_deed deed word t)
unfolding pipes.duration_deed
duration_deed_shallow deed word t =
    bind_shallow (pipes.word_apart word what.Number t) _ (word_apart_shallow word what.Number t)
    (λ m. map_shallow deed (reading.duration m) (duration_shallow m))

-- sources
how_here_shallow : (t : Rest) → Shallow (pipes.how_here t)
how_here_shallow t =
    if_shallow (head t == 106) _ _
    (bind_shallow (exact what.How (codes "join") t) _ (exact_shallow what.How (codes "join") t) (λ r. ok_shallow _))
    (if_shallow (head t == 117) _ _
    (bind_shallow (exact what.How (codes "union") t) _ (exact_shallow what.How (codes "union") t) (λ r. ok_shallow _))
    (unexpected_shallow what.How t))

pub branches_how_shallow : (at : ℕ) (all : List PipeTree) (s : Rest) → Shallow (pipes.branches_how at all s)
unfolding pipes.branches_how
branches_how_shallow at all s =
    bind_shallow (sign 124 what.Bar s) _ (sign_shallow 124 what.Bar s)
    (λ m. map_shallow _ (pipes.how_here (skip m)) (how_here_shallow (skip m)))

pub fetch_shallow : (t : Rest) → Shallow (pipes.fetch t)
unfolding pipes.fetch
fetch_shallow t =
    bind_shallow (exact what.Fetch (codes "fetch") t) _ (exact_shallow what.Fetch (codes "fetch") t)
    (λ word. bind_shallow (apart what.Name word) _ (apart_shallow what.Name word)
    (λ space. bind_shallow (reading.name space) _ (name_shallow space)
    (λ schema. bind_shallow (exact what.Colons (codes "::") (skip schema.1)) _
    (exact_shallow what.Colons (codes "::") (skip schema.1))
    (λ colons. map_shallow _ (reading.metric colons) (metric_shallow colons)))))
