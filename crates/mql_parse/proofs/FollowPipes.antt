-- Sources and pipes behind a number.
use Rattle.std.proofs.Common.{◌≡◌, ℕ, zero, suc, true, List, [], ◌∷◌, ◌++◌, codes, refl, Ok, Err}
use Rattle.mon_value.specs.Answers.{◌>>=◌}
use Rattle.mql_ast.specs.declared.names.Name.{Name}
use Rattle.mql_ast.specs.declared.pipes.How.{How}
use Rattle.mql_ast.specs.declared.pipes.How.TheVariants as how
use Rattle.mql_ast.specs.Trees.{PipeTree, Flow, SourceTree, Fetch, Branches, branches}
use Rattle.mql_ast.specs.Tokens.{Rest, behind, skip}
use Rattle.mql_parse.specs.declared.faults.ParseKind.TheVariants.{TooDeep}
use Rattle.mql_parse.specs.declared.faults.What.TheVariants as what
use Rattle.mql_parse.specs.Outcomes.{Outcome, fault, unexpected_fault, exact, sign, apart, map_outcome}
use Rattle.mql_parse.specs.Repeats.{Done, Again, Stuck, repetition}
use Rattle.mql_parse.specs.TokenReading as reading
use Rattle.mql_parse.specs.PipeReading as pipes
use Rattle.mql_parse.specs.Steadiness.{here, next}
use Rattle.mql_parse.proofs.PipeSound.{branch_turn_behind}
use Rattle.mql_parse.proofs.PipeSteady.{behind_fetch}
use Rattle.mql_parse.proofs.Follows.{Swap, Any, Follows, Taken, ok_any, follows_fault, follows_unexpected}
use Rattle.mql_parse.proofs.Follows.{follows_from, follows_to, follows_then, follows_map, follows_behind_pass}
use Rattle.mql_parse.proofs.Follows.{follows_skip, taken, follows_taken, next_taken, follows_here, follows_next}
use Rattle.mql_parse.proofs.Follows.{sign_follows, part_taken}
use Rattle.mql_parse.proofs.FollowTurns.{FollowsTurn, follows_done, follows_again, follows_stuck, turn_follows_from}
use Rattle.mql_parse.proofs.FollowTurns.{turn_follows_skip, turn_next_taken, follows_on_read, repetition_follows}
use Rattle.mql_parse.proofs.FollowTokens.{no_counts, exact_follows, apart_follows, metric_follows}
use Rattle.mql_parse.proofs.FollowFolds.{name_any}
use Rattle.mql_parse.proofs.FollowDeeds.{operations_follows}

abbrev how_word : How → List ℕ → Rest → Outcome How
how_word h word t = exact what.How word t >>= λ r. Ok (h, r)

how_word_follows : (x : Swap) (h : How) (word : List ℕ) → no_counts word ≡ true →
    Follows x here here Any (how_word h word) (how_word h word)
how_word_follows x h word n =
    follows_behind_pass x here here here Any (exact what.How word) (exact what.How word) (λ r. Ok (h, r))
    (λ r. Ok (h, r)) (exact_follows x what.How word n) (ok_any x here h h)

how_follows : (x : Swap) → Follows x here here Any pipes.how_here pipes.how_here
how_follows x =
    follows_taken x 106 here Any (how_word how.Join (codes "join")) (how_word how.Join (codes "join")) _ _ refl
    (taken x 106 here Any _ _ (how_word_follows x how.Join (codes "join") refl))
    (follows_taken x 117 here Any (how_word how.Union (codes "union")) (how_word how.Union (codes "union"))
    (λ t. Err (unexpected_fault what.How t)) (λ t. Err (unexpected_fault what.How t)) refl
    (taken x 117 here Any _ _ (how_word_follows x how.Union (codes "union") refl))
    (follows_unexpected x here Any what.How what.How))

branches_how_follows : (x : Swap) (m n : ℕ) (one two : List PipeTree) →
    Follows x next next Any (pipes.branches_how m one) (pipes.branches_how n two)
unfolding pipes.branches_how
branches_how_follows x m n one two =
    let joined = λ (all : List PipeTree) (at k : ℕ) (s : Rest). map_outcome (λ by. Branches at (branches all) by k)
    (pipes.how_here (skip s)) in
    let by_how = λ (all : List PipeTree) (at : ℕ) (s : Rest). joined all at (skip s).at s in
    follows_behind_pass x next next next Any (sign 124 what.Bar) (sign 124 what.Bar) (by_how one m) (by_how two n)
    (sign_follows x 124 what.Bar what.Bar refl)
    (follows_next x next Any (joined one m) (joined two n)
    (λ k l. follows_map x next next (λ by. Branches m (branches one) by k) (λ by. Branches n (branches two) by l)
    (λ s. pipes.how_here (skip s)) (λ s. pipes.how_here (skip s))
    (follows_skip x next Any pipes.how_here pipes.how_here
    (follows_to x here Any pipes.how_here pipes.how_here (how_follows x)))))

-- a fetch from behind its word
behind_fetch_follows : (x : Swap) (m n : ℕ) → Follows x here next Any (behind_fetch m) (behind_fetch n)
behind_fetch_follows x m n =
    let metric_of = λ (at : ℕ) (schema : Name) (k : Rest). map_outcome (λ y. Fetch at schema y) (reading.metric k) in
    let colons = λ (at : ℕ) (schema : Name) (r : Rest). exact what.Colons (codes "::") (skip r) >>=
    metric_of at schema in
    let named = λ (at : ℕ) (space : Rest). reading.name space >>= λ schema. colons at schema.0 schema.1 in
    follows_behind_pass x here here next Any (apart what.Name) (apart what.Name) (named m) (named n)
    (apart_follows x what.Name)
    (follows_from x next Any (named m) (named n)
    (follows_then x next next next Any reading.name reading.name (λ schema. colons m schema.0 schema.1)
    (λ schema. colons n schema.0 schema.1) (name_any x)
    (λ a b. follows_skip x next Any (λ t. exact what.Colons (codes "::") t >>= metric_of m a)
    (λ t. exact what.Colons (codes "::") t >>= metric_of n b)
    (follows_behind_pass x here here next Any (exact what.Colons (codes "::")) (exact what.Colons (codes "::"))
    (metric_of m a) (metric_of n b) (exact_follows x what.Colons (codes "::") refl)
    (follows_from x next Any (metric_of m a) (metric_of n b)
    (follows_map x next next (λ y. Fetch m a y) (λ y. Fetch n b y) reading.metric reading.metric
    (follows_to x next Any reading.metric reading.metric (metric_follows x))))))))

fetch_follows : (x : Swap) → Follows x here next Any pipes.fetch pipes.fetch
unfolding pipes.fetch
fetch_follows x =
    let read = λ (n : ℕ) (t : Rest). exact what.Fetch (codes "fetch") t >>= behind_fetch n in
    follows_here x next Any read read
    (λ m n. follows_behind_pass x here here next Any (exact what.Fetch (codes "fetch"))
    (exact what.Fetch (codes "fetch")) (behind_fetch m) (behind_fetch n)
    (exact_follows x what.Fetch (codes "fetch") refl) (behind_fetch_follows x m n))

branch_behind_follows : (x : Swap) (one two : List PipeTree) (a b : PipeTree) →
    FollowsTurn x next Any (λ r. pipes.branch_behind one (a, r)) (λ r. pipes.branch_behind two (b, r))
branch_behind_follows x one two a b =
    let all = one ++ a ∷ [] in
    let both = two ++ b ∷ [] in
    turn_next_taken x 59 Any (λ r. Again all r) (λ r. Again both r) _ _ refl
    (turn_follows_from x Any (λ r. Again all r) (λ r. Again both r) (follows_again x Any all both tt))
    (turn_next_taken x 125 Any (λ r. Done all r) (λ r. Done both r)
    (λ r. Stuck (unexpected_fault what.CloseBrace (skip r)))
    (λ r. Stuck (unexpected_fault what.CloseBrace (skip r))) refl
    (turn_follows_from x Any (λ r. Done all r) (λ r. Done both r) (follows_done x Any all both tt))
    (turn_follows_skip x Any (λ t. Stuck (unexpected_fault what.CloseBrace t))
    (λ t. Stuck (unexpected_fault what.CloseBrace t))
    (follows_stuck x Any what.CloseBrace)))

branch_turn_follows : (x : Swap) (pipe : Rest → Outcome PipeTree) → Follows x next next Any pipe pipe →
    (one two : List PipeTree) → FollowsTurn x next Any (pipes.branch_turn pipe one) (pipes.branch_turn pipe two)
unfolding pipes.branch_turn
branch_turn_follows x pipe k one two =
    follows_on_read x next Any Any (pipes.branch_behind one) (pipes.branch_behind two) pipe pipe (λ a. tt) k
    (λ a b g. branch_behind_follows x one two a b)

-- what stands behind the first of several branches
behind_first_follows : (x : Swap) (d : ℕ) → Follows x next next Any (pipes.pipe d) (pipes.pipe d) → (m n : ℕ)
    (one two : PipeTree) →
    Follows x next next Any (λ r. sign 59 (pipes.behind_branch one) r >>= λ more.
    repetition (pipes.branch_turn (pipes.pipe d)) (one ∷ []) more >>= λ all. pipes.branches_how m all.0 all.1)
    (λ r. sign 59 (pipes.behind_branch two) r >>= λ more.
    repetition (pipes.branch_turn (pipes.pipe d)) (two ∷ []) more >>= λ all. pipes.branches_how n all.0 all.1)
behind_first_follows x d k m n one two =
    let turn = pipes.branch_turn (pipes.pipe d) in
    let how_at = λ (at : ℕ) (all : List PipeTree × Rest). pipes.branches_how at all.0 all.1 in
    let further = λ (at : ℕ) (first : PipeTree) (more : Rest). repetition turn (first ∷ []) more >>= how_at at in
    follows_behind_pass x next next next Any (sign 59 (pipes.behind_branch one)) (sign 59 (pipes.behind_branch two))
    (further m one) (further n two)
    (sign_follows x 59 (pipes.behind_branch one) (pipes.behind_branch two) refl)
    (follows_then x next next next Any (λ more. repetition turn (one ∷ []) more)
    (λ more. repetition turn (two ∷ []) more) (how_at m) (how_at n)
    (repetition_follows x Any turn (branch_turn_behind d) (λ a. tt)
    (λ a b g. branch_turn_follows x (pipes.pipe d) k a b) (one ∷ []) (two ∷ []) tt)
    (λ a b. branches_how_follows x m n a b))

branches_follows_by : (x : Swap) (d : ℕ) → Follows x next next Any (pipes.pipe d) (pipes.pipe d) → (m n : ℕ) →
    Follows x next next Any (pipes.branches_with (pipes.pipe d) m) (pipes.branches_with (pipes.pipe d) n)
unfolding pipes.branches_with
branches_follows_by x d k m n =
    follows_then x next next next Any (pipes.pipe d) (pipes.pipe d) _ _ k (behind_first_follows x d k m n)

source_follows_with : (x : Swap) (group : Rest → Rest → Outcome SourceTree) →
    Taken x 123 next Any (λ t. group t (behind t)) (λ t. group t (behind t)) →
    Follows x next next Any (pipes.source_with group) (pipes.source_with group)
unfolding pipes.source_with
source_follows_with x group k =
    next_taken x 102 next Any pipes.fetch pipes.fetch _ _ refl (taken x 102 next Any _ _ (fetch_follows x))
    (next_taken x 123 next Any (λ t. group t (behind t)) (λ t. group t (behind t))
    (λ s. Err (unexpected_fault what.Fetch (skip s))) (λ s. Err (unexpected_fault what.Fetch (skip s))) refl k
    (follows_skip x next Any (λ t. Err (unexpected_fault what.Fetch t)) (λ t. Err (unexpected_fault what.Fetch t))
    (follows_unexpected x next Any what.Fetch what.Fetch)))

pipe_follows_with : (x : Swap) (group : Rest → Rest → Outcome SourceTree) →
    Taken x 123 next Any (λ t. group t (behind t)) (λ t. group t (behind t)) → (d : ℕ) →
    Follows x next next Any (pipes.pipe_with group d) (pipes.pipe_with group d)
unfolding pipes.pipe_with
pipe_follows_with x group k d =
    let on : SourceTree × Rest → Outcome PipeTree =
    λ source. map_outcome (λ ops. Flow source.0 ops) (pipes.operations d source.1) in
    follows_then x next next next Any (pipes.source_with group) (pipes.source_with group) on on
    (source_follows_with x group k)
    (λ a b. follows_map x next next (λ ops. Flow a ops) (λ ops. Flow b ops) (pipes.operations d) (pipes.operations d)
    (operations_follows x d))

-- branches behind their brace, from a place that each text has for itself
abbrev placed : ℕ → ℕ → Rest → Outcome SourceTree
placed d at s = pipes.branches_with (pipes.pipe d) at s

placed_taken : (x : Swap) (d : ℕ) → ((m n : ℕ) → Follows x next next Any (placed d m) (placed d n)) →
    Taken x 123 next Any (λ t. placed d t.at (behind t)) (λ t. placed d t.at (behind t))
placed_taken x d k = record {
  reaches = λ s. (part_taken x 123 next Any (placed d s.at) (placed d s.at) refl (k s.at s.at)).reaches s;
  follows = λ s t. (part_taken x 123 next Any (placed d s.at) (placed d t.at) refl (k s.at t.at)).follows s t;
}

-- branches, from their brace
group_follows : (x : Swap) (d : ℕ) →
    Taken x 123 next Any (λ t. pipes.pipe_group d t (behind t)) (λ t. pipes.pipe_group d t (behind t))
unfolding pipes.pipe_group
group_follows x zero =
    taken x 123 next Any (λ t. Err (fault TooDeep t)) (λ t. Err (fault TooDeep t)) (follows_fault x next Any TooDeep)
group_follows x (suc d) =
    placed_taken x d
    (branches_follows_by x d (pipe_follows_with x (pipes.pipe_group d) (group_follows x d) d))

pub pipe_follows : (x : Swap) (d : ℕ) → Follows x next next Any (pipes.pipe d) (pipes.pipe d)
pipe_follows x d = pipe_follows_with x (pipes.pipe_group d) (group_follows x d) d
