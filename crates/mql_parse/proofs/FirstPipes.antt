-- What pipes expect comes first.
use Rattle.std.proofs.Common.{◌≡◌, ℕ, zero, suc, Bool, true, false, ◌==◌, List, [], ◌∷◌, ◌++◌, codes, refl, sym, ap}
use Rattle.std.proofs.Common.{◌∙◌, subst, if◌then◌else◌, Ok, Err}
use Rattle.mon_value.specs.Answers.{◌>>=◌}
use Rattle.mql_ast.specs.declared.names.Name.{Name}
use Rattle.mql_ast.specs.declared.pipes.How.{How}
use Rattle.mql_ast.specs.declared.pipes.How.TheVariants as how
use Rattle.mql_ast.specs.Trees.{OpTree, PipeTree, Flow, SourceTree, Fetch, Branches, branches}
use Rattle.mql_ast.specs.Tokens.{Rest, head, behind, skip, metric_name}
use Rattle.mql_parse.specs.declared.faults.ParseKind.TheVariants.{TooDeep}
use Rattle.mql_parse.specs.declared.faults.What.TheVariants as what
use Rattle.mql_parse.specs.Outcomes.{Outcome, unexpected_fault, exact, sign, map_outcome}
use Rattle.mql_parse.specs.Repeats.{Done, Again, Stuck, repetition}
use Rattle.mql_parse.specs.TokenReading as reading
use Rattle.mql_parse.specs.PipeReading as pipes
use Rattle.mql_parse.specs.Steadiness.{here, next, unit_read}
use Rattle.mql_parse.proofs.PipeSound.{operation_turn_behind, branch_turn_behind}
use Rattle.mql_parse.proofs.Steady.{steady_from}
use Rattle.mql_parse.proofs.PipeSteady.{operation_turn_steady, branch_turn_steady, behind_fetch, pipe_steady}
use Rattle.mql_parse.proofs.PipeSteady.{branches_steady_by}
use Rattle.mql_parse.proofs.FirstWords.{admits}
use Rattle.mql_parse.proofs.Firsts.{Spot, Begun, begun_later, WentOutcome, Meets, Before, FirstOutcome, First, NoMore}
use Rattle.mql_parse.proofs.Firsts.{passed_far, first_went, first_to, first_next, first_bind, first_behind_pass}
use Rattle.mql_parse.proofs.Firsts.{first_if, first_sign, first_unexpected, meets_then, meets_bind, meets_ok}
use Rattle.mql_parse.proofs.Firsts.{meets_map, meets_of, meets_from, meets_to, meets_by, meets_behind_pass, before_of}
use Rattle.mql_parse.proofs.Firsts.{before_if, before_skip, before_behind, before_part_behind, before_unexpected}
use Rattle.mql_parse.proofs.Firsts.{before_fault, before_here, before_map, before_next, sign_to}
use Rattle.mql_parse.proofs.FirstBytes.{at_byte, at_bytes, slash_begins, bar_begins, colon_begins, semicolon_begins}
use Rattle.mql_parse.proofs.FirstBytes.{open_brace_begins, close_brace_begins}
use Rattle.mql_parse.proofs.FirstTokens.{all_solid, meets_exact, first_exact, meets_apart, first_name, meets_name}
use Rattle.mql_parse.proofs.FirstNumbers.{meets_metric_from}
use Rattle.mql_parse.proofs.FirstTurns.{meets_either, went_either, skip_far, skip_went, turn_read, OfState, Stopped}
use Rattle.mql_parse.proofs.FirstTurns.{turn_if_read, on_read_read, meets_repetition, list_state, part_meets}
use Rattle.mql_parse.proofs.FirstKeywords.{Keyword, keyword, keyword_here, first_keyword, before_keyword, first_map}
use Rattle.mql_parse.proofs.FirstDeeds.{op_on, OnBar, OpGoes, operation_meets}

-- operations
abbrev pub OpsGoes : Spot → List OpTree → Type 0
OpsGoes x ops = Begun x (op_on (pipes.groups_last ops))

abbrev pub BarredGoes : Spot → List OpTree × Bool → Type 0
BarredGoes x read = OnBar x read.1 (pipes.groups_last read.0)

pub last_groups : (so_far : Bool) (ops : List OpTree) (op : OpTree) →
    pipes.last_groups so_far (ops ++ op ∷ []) ≡ pipes.is_group_by op.what
last_groups so_far [] op = refl
last_groups so_far (first ∷ ops) op = last_groups (pipes.is_group_by first.what) ops op

op_on_admits : (groups : Bool) → admits (op_on groups) what.Bar ≡ true
op_on_admits true = refl
op_on_admits false = refl

abbrev read_on : List OpTree → OpTree × Bool → (List OpTree × Bool) × Bool
read_on ops read = (pipes.with_op ops read, true)

further : ℕ → List OpTree → Rest → Outcome ((List OpTree × Bool) × Bool)
further d ops s = map_outcome (read_on ops) (pipes.operation d s)

further_shape : (d : ℕ) (ops : List OpTree) (s : Rest) → turn_read (pipes.operation_from d ops s) ≡ further d ops s
unfolding further
further_shape d ops s = on_read_read (λ y. Again (pipes.with_op ops y.0) y.1) (pipes.operation d s)

further_meets : (x : Spot) (d : ℕ) (ops : List OpTree) → Meets x next next (OfState (BarredGoes x)) (further d ops)
unfolding further
further_meets x d ops =
    meets_map x next next (OpGoes x) (OfState (BarredGoes x)) (read_on ops) (pipes.operation d)
    (λ y g. subst (OnBar x y.1) (sym (last_groups false ops y.0)) g) (operation_meets x d)

abbrev ops_state : ℕ → List OpTree × Bool → Rest → Outcome ((List OpTree × Bool) × Bool)
ops_state d read s =
    if read.1 then further d read.0 s else
    (if head (skip s) == 124 then further d read.0 (behind (skip s)) else Ok ((read, false), s))

ops_shape : (d : ℕ) (read : List OpTree × Bool) (s : Rest) →
    turn_read (pipes.operation_turn d read s) ≡ ops_state d read s
unfolding pipes.operation_turn
ops_shape d read s =
    let t = skip s in
    let behind_bar = if head t == 124 then pipes.operation_from d read.0 (behind t) else Done read s in
    turn_if_read read.1 (pipes.operation_from d read.0 s) behind_bar
    ∙ ap (λ o. if read.1 then o else turn_read behind_bar) (further_shape d read.0 s)
    ∙ ap (λ o. if read.1 then further d read.0 s else o)
    (turn_if_read (head t == 124) (pipes.operation_from d read.0 (behind t)) (Done read s)
    ∙ ap (λ o. if head t == 124 then o else Ok ((read, false), s)) (further_shape d read.0 (behind t)))

bar_or_done : (x : Spot) (d : ℕ) (ops : List OpTree) → Meets x next next (OfState (BarredGoes x))
    (λ s. if head (skip s) == 124 then further d ops (behind (skip s)) else Ok (((ops, false), false), s))
bar_or_done x d ops =
    let G = OfState (BarredGoes x) in
    meets_either x G (λ b. b == 124) (λ s. further d ops (behind (skip s))) (λ s. Ok (((ops, false), false), s))
    (before_part_behind x next G (further d ops) (further_meets x d ops))
    (skip_far x next G (λ b. b == 124) refl (further d ops) (steady_from next (further d ops)
    (further_meets x d ops).steady))
    (meets_ok x next G ((ops, false), false))
    (λ h s e l. (e, bar_begins x (op_on (pipes.groups_last ops)) (op_on_admits (pipes.groups_last ops)) h))

ops_state_meets : (x : Spot) (d : ℕ) (ops : List OpTree) (bar : Bool) →
    Meets x next next (OfState (BarredGoes x)) (ops_state d (ops, bar))
ops_state_meets x d ops true = further_meets x d ops
ops_state_meets x d ops false = bar_or_done x d ops

operation_turn_meets : (x : Spot) (d : ℕ) (read : List OpTree × Bool) →
    Meets x next next (OfState (BarredGoes x)) (λ s. turn_read (pipes.operation_turn d read s))
operation_turn_meets x d (ops, bar) =
    meets_by x next next (OfState (BarredGoes x)) (λ s. turn_read (pipes.operation_turn d (ops, bar) s))
    (ops_state d (ops, bar)) (ops_shape d (ops, bar)) (ops_state_meets x d ops bar)

ops_state_went : (x : Spot) (d : ℕ) (ops : List OpTree) (bar : Bool) (r : Rest) → BarredGoes x (ops, bar) →
    next r ≡ x.at → WentOutcome x next (Stopped (BarredGoes x)) (ops_state d (ops, bar) r)
ops_state_went x d ops true r g e = absurd g
ops_state_went x d ops false r g e =
    let G = Stopped (BarredGoes x) in
    went_either x G (head (skip r) == 124) _ (Ok (((ops, false), false), r))
    (λ h. skip_went x next G (λ b. b == 124) refl (further d ops)
    (steady_from next (further d ops) (further_meets x d ops).steady) r e h) (λ l. (e, g))

operation_turn_went : (x : Spot) (d : ℕ) (read : List OpTree × Bool) (r : Rest) → BarredGoes x read →
    next r ≡ x.at → WentOutcome x next (Stopped (BarredGoes x)) (turn_read (pipes.operation_turn d read r))
operation_turn_went x d (ops, bar) r g e =
    subst (WentOutcome x next (Stopped (BarredGoes x))) (sym (ops_shape d (ops, bar) r))
    (ops_state_went x d ops bar r g e)

-- operations may be gone on where the last one may, or by a bar
on_bar_all : (x : Spot) (bar groups : Bool) → OnBar x bar groups → Begun x (op_on groups)
on_bar_all x true groups h = absurd h
on_bar_all x false groups h = h

operations_meets : (x : Spot) (d : ℕ) → Meets x next next (OpsGoes x) (pipes.operations d)
unfolding pipes.operations
operations_meets x d =
    meets_map x next next (BarredGoes x) (OpsGoes x) (λ read. read.0)
    (λ s. repetition (pipes.operation_turn d) ([], false) s)
    (λ read g. on_bar_all x read.1 (pipes.groups_last read.0) g)
    (meets_repetition x (BarredGoes x) (pipes.operation_turn d) (operation_turn_behind d) (operation_turn_steady d)
    (λ read s t c. (operation_turn_meets x d read).agrees s t c) (operation_turn_went x d) ([], false))

-- how branches are combined
how_keyword : (x : Spot) (c : ℕ) (cs : List ℕ) (h : How) → (0 == c) ≡ false → all_solid (c ∷ cs) ≡ true →
    Keyword x NoMore c cs (λ t. exact what.How (c ∷ cs) t >>= λ r. Ok (h, r))
how_keyword x c cs h z k = keyword x NoMore what.How c cs (λ r. Ok (h, r)) z k
    (meets_to x here NoMore (λ r. Ok (h, r)) (meets_ok x here NoMore h))

how_first : (x : Spot) → First x next next what.How (λ m. pipes.how_here (skip m))
how_first x =
    first_keyword x NoMore what.How 106 (codes "oin") _ _ (how_keyword x 106 (codes "oin") how.Join refl refl)
    (λ h k. at_byte x what.How what.How 106 refl refl h)
    (first_keyword x NoMore what.How 117 (codes "nion") _ (λ m. Err (unexpected_fault what.How (skip m)))
    (how_keyword x 117 (codes "nion") how.Union refl refl)
    (λ h k. at_byte x what.How what.How 117 refl refl h)
    (first_unexpected x next what.How))

how_before : (x : Spot) → Before x next next NoMore (λ m. pipes.how_here (skip m))
how_before x =
    before_keyword x NoMore 106 (codes "oin") _ _ (how_keyword x 106 (codes "oin") how.Join refl refl)
    (before_keyword x NoMore 117 (codes "nion") _ (λ m. Err (unexpected_fault what.How (skip m)))
    (how_keyword x 117 (codes "nion") how.Union refl refl)
    (before_skip x next NoMore (λ t. Err (unexpected_fault what.How t)) (before_unexpected x next NoMore what.How)))

abbrev named_at : ℕ → List PipeTree → ℕ → Rest → Outcome SourceTree
named_at at all n m = map_outcome (λ by. Branches at (branches all) by n) (pipes.how_here (skip m))

abbrev joined : ℕ → List PipeTree → Rest → Outcome SourceTree
joined at all m = map_outcome (λ by. Branches at (branches all) by (skip m).at) (pipes.how_here (skip m))

branches_how_meets : (x : Spot) (at : ℕ) (all : List PipeTree) → Meets x next next NoMore (pipes.branches_how at all)
unfolding pipes.branches_how
branches_how_meets x at all =
    meets_behind_pass x next next next NoMore (sign 124 what.Bar) (joined at all)
    (sign_to x 124 what.Bar refl (bar_begins x what.Bar refl))
    (meets_of x next next NoMore what.How (joined at all)
    (first_next x next what.How (named_at at all)
    (λ n. first_map x what.How (λ by. Branches at (branches all) by n) (λ m. pipes.how_here (skip m)) (how_first x)))
    (before_next x next NoMore (named_at at all)
    (λ n. before_map x next next (λ by. Branches at (branches all) by n) (λ m. pipes.how_here (skip m))
    (how_before x))))

-- a fetch
abbrev behind_slash : ℕ → Rest → Outcome Name
behind_slash n slash = reading.metric_from true slash.at slash.bytes >>= λ y. Ok (metric_name n y.0, y.1)

metric_read : (x : Spot) (n : ℕ) → Meets x here here NoMore (behind_slash n)
metric_read x n = meets_map x here here NoMore NoMore (metric_name n)
    (λ slash. reading.metric_from true slash.at slash.bytes) (λ y h. h) (meets_metric_from x true)

abbrev metric_at : ℕ → Rest → Outcome Name
metric_at n t = exact what.Metric (codes "/") t >>= behind_slash n

metric_keyword : (x : Spot) → Keyword x NoMore 47 [] (λ t. metric_at t.at t)
metric_keyword x = keyword_here x NoMore 47 [] metric_at
    (λ n. keyword x NoMore what.Metric 47 [] (behind_slash n) refl refl
    (meets_to x here NoMore (behind_slash n) (metric_read x n)))

metric_meets : (x : Spot) → Meets x next next NoMore reading.metric
unfolding reading.metric
metric_meets x =
    meets_of x next next NoMore what.Metric (λ s. metric_at (skip s).at (skip s))
    (first_next x next what.Metric (λ n s. metric_at n (skip s))
    (λ n. first_behind_pass x next here next what.Metric (λ s. exact what.Metric (codes "/") (skip s))
    (behind_slash n)
    (first_exact x what.Metric 47 [] refl
    (slash_begins x what.Metric refl))
    (meets_to x here NoMore (behind_slash n) (metric_read x n)).steady))
    (before_skip x next NoMore (λ t. metric_at t.at t)
    (before_of x here next NoMore (λ t. metric_at t.at t) (metric_keyword x).meets))

abbrev metric_of : ℕ → Name → Rest → Outcome SourceTree
metric_of n schema k = map_outcome (λ m. Fetch n schema m) (reading.metric k)

abbrev colons : ℕ → Name → Rest → Outcome SourceTree
colons n schema r = exact what.Colons (codes "::") (skip r) >>= metric_of n schema

colons_meets : (x : Spot) (n : ℕ) (schema : Name) → Meets x next next NoMore (colons n schema)
colons_meets x n schema =
    let metric : Meets x next next NoMore (metric_of n schema) =
    meets_map x next next NoMore NoMore (λ m. Fetch n schema m) reading.metric (λ y h. h) (metric_meets x) in
    let on = metric_of n schema in
    meets_of x next next NoMore what.Colons (colons n schema)
    (first_behind_pass x next here next what.Colons (λ s. exact what.Colons (codes "::") (skip s)) on
    (first_exact x what.Colons 58 (58 ∷ []) refl
    (colon_begins x what.Colons refl refl))
    (steady_from next on metric.steady))
    (before_skip x next NoMore (λ t. exact what.Colons (codes "::") t >>= on)
    (before_of x here next NoMore (λ t. exact what.Colons (codes "::") t >>= on)
    (meets_behind_pass x here here next NoMore (exact what.Colons (codes "::")) on
    (meets_exact x what.Colons (codes "::") refl) (meets_from x next NoMore on metric))))

abbrev named : ℕ → Rest → Outcome SourceTree
named n space = reading.name space >>= λ schema. colons n schema.0 schema.1

fetch_keyword : (x : Spot) → Keyword x NoMore 102 (codes "etch") pipes.fetch
unfolding pipes.fetch
fetch_keyword x =
    keyword_here x NoMore 102 (codes "etch") (λ n t. exact what.Fetch (codes "fetch") t >>= behind_fetch n)
    (λ n. keyword x NoMore what.Fetch 102 (codes "etch") (behind_fetch n) refl refl
    (meets_apart x next NoMore what.Name (named n)
    (first_bind x next next next what.Name reading.name (λ schema. colons n schema.0 schema.1)
    (first_to x next what.Name reading.name (first_name x)) (λ schema. (colons_meets x n schema).steady))
    (meets_then x next next next NoMore reading.name (λ schema. colons n schema.0 schema.1)
    (meets_to x next NoMore reading.name (meets_name x)) (colons_meets x n))))

-- sources and pipes
abbrev pub PipeGoes : Spot → PipeTree → Type 0
PipeGoes x pipe = OpsGoes x (pipes.ops_of pipe)

branch_shape : (so_far : List PipeTree) (pipe : PipeTree) (r : Rest) →
    turn_read (pipes.branch_behind so_far (pipe, r)) ≡ list_state 59 125 what.CloseBrace (so_far ++ pipe ∷ []) r
branch_shape so_far pipe r =
    let all = so_far ++ pipe ∷ [] in
    let t = skip r in
    turn_if_read (head t == 59) (Again all (behind t))
    (if head t == 125 then Done all (behind t) else Stuck (unexpected_fault what.CloseBrace t))
    ∙ ap (λ o. if head t == 59 then Ok ((all, true), behind t) else o)
    (turn_if_read (head t == 125) (Done all (behind t)) (Stuck (unexpected_fault what.CloseBrace t)))

branch_turn_meets : (x : Spot) (pipe : Rest → Outcome PipeTree) → Meets x next next (PipeGoes x) pipe →
    (so_far : List PipeTree) → Meets x next next (OfState NoMore) (λ s. turn_read (pipes.branch_turn pipe so_far s))
unfolding pipes.branch_turn
branch_turn_meets x pipe k so_far =
    part_meets x 59 125 what.CloseBrace refl refl (semicolon_begins x what.CloseBrace refl)
    (close_brace_begins x what.CloseBrace refl) (PipeGoes x) pipe (pipes.branch_behind so_far)
    (λ p. so_far ++ p ∷ []) (λ p r. branch_shape so_far p r)
    (λ p g. close_goes (pipes.groups_last (pipes.ops_of p)) g) k
  where
    close_goes : (groups : Bool) → Begun x (op_on groups) → Begun x what.CloseBrace
    close_goes true g = begun_later x what.Comma what.CloseBrace refl g
    close_goes false g = begun_later x what.Bar what.CloseBrace refl g

-- behind the first branch
abbrev behind_first_branch : ℕ → ℕ → PipeTree × Rest → Outcome SourceTree
behind_first_branch d at first =
    sign 59 (pipes.behind_branch first.0) first.1 >>= λ more.
    repetition (pipes.branch_turn (pipes.pipe d)) (first.0 ∷ []) more >>= λ all. pipes.branches_how at all.0 all.1

branch_on_admits : (groups : Bool) → admits (if groups then what.Comma else what.Semicolon) what.Semicolon ≡ true
branch_on_admits true = refl
branch_on_admits false = refl

branch_goes : (x : Spot) (groups : Bool) → Begun x (op_on groups) →
    Begun x (if groups then what.Comma else what.Semicolon)
branch_goes x true g = g
branch_goes x false g = begun_later x what.Bar what.Semicolon refl g

further_branches : (x : Spot) (d at : ℕ) → Meets x next next (PipeGoes x) (pipes.pipe d) → (first : PipeTree) →
    Meets x next next NoMore (λ more. repetition (pipes.branch_turn (pipes.pipe d)) (first ∷ []) more >>=
    λ all. pipes.branches_how at all.0 all.1)
further_branches x d at k first =
    meets_then x next next next NoMore (λ more. repetition (pipes.branch_turn (pipes.pipe d)) (first ∷ []) more)
    (λ all. pipes.branches_how at all.0 all.1)
    (meets_repetition x NoMore (pipes.branch_turn (pipes.pipe d)) (branch_turn_behind d)
    (branch_turn_steady (pipes.pipe d) k.steady)
    (λ so_far s t c. (branch_turn_meets x (pipes.pipe d) k so_far).agrees s t c) (λ so_far r g e. absurd g)
    (first ∷ []))
    (branches_how_meets x at)

branches_meets : (x : Spot) (d at : ℕ) → Meets x next next (PipeGoes x) (pipes.pipe d) →
    Meets x next next NoMore (pipes.branches_with (pipes.pipe d) at)
unfolding pipes.branches_with
branches_meets x d at k =
    let word = λ (first : PipeTree). pipes.behind_branch first in
    let begins = λ (first : PipeTree). semicolon_begins x (word first)
    (branch_on_admits (pipes.groups_last (pipes.ops_of first))) in
    meets_bind x next next next (PipeGoes x) NoMore (pipes.pipe d) (behind_first_branch d at) k
    (λ first. meets_behind_pass x next next next NoMore (sign 59 (word first)) _
    (sign_to x 59 (word first) refl (begins first)) (further_branches x d at k first))
    (λ first r g e. first_went x next NoMore (word first) (behind_first_branch d at (first, r))
    ((first_behind_pass x next next next (word first) (sign 59 (word first)) _
    (first_to x next (word first) (λ s. unit_read (sign 59 (word first) s))
    (first_sign x 59 (word first) refl (begins first)))
    (further_branches x d at k first).steady).names r e)
    (branch_goes x (pipes.groups_last (pipes.ops_of first)) g))

-- a brace is refused for its depth where it stands, or else behind it
group_far : (x : Spot) (d : ℕ) (s : Rest) → next s ≡ x.at → (head (skip s) == 123) ≡ true →
    FirstOutcome x next what.Fetch (pipes.pipe_group d (skip s) (behind (skip s)))
unfolding pipes.pipe_group
group_far x zero s e h = λ d v k. absurd (cc)
group_far x (suc d) s e h =
    let inner = pipes.branches_with (pipes.pipe d) (skip s).at in
    passed_far x next what.Fetch (λ b. b == 123) refl inner
    (steady_from next inner (branches_steady_by d (pipe_steady d) (skip s).at)) s e h

source_first : (x : Spot) (d : ℕ) → First x next next what.Fetch (pipes.source d)
unfolding pipes.source_with
source_first x d =
    first_keyword x NoMore what.Fetch 102 (codes "etch") pipes.fetch _ (fetch_keyword x)
    (at_bytes x what.Fetch what.Fetch 102 101 refl refl)
    (first_if x next what.Fetch (λ b. b == 123) (λ s. pipes.pipe_group d (skip s) (behind (skip s)))
    (λ s. Err (unexpected_fault what.Fetch (skip s))) (group_far x d) (open_brace_begins x what.Fetch refl)
    (first_unexpected x next what.Fetch))

source_before : (x : Spot) (d : ℕ) → Before x here next NoMore (λ t. pipes.pipe_group d t (behind t)) →
    Before x next next NoMore (pipes.source d)
unfolding pipes.source_with
source_before x d k =
    before_keyword x NoMore 102 (codes "etch") pipes.fetch _ (fetch_keyword x)
    (before_if x next NoMore (λ b. b == 123) (λ s. pipes.pipe_group d (skip s) (behind (skip s)))
    (λ s. Err (unexpected_fault what.Fetch (skip s)))
    (before_skip x next NoMore (λ t. pipes.pipe_group d t (behind t)) k)
    (before_skip x next NoMore (λ t. Err (unexpected_fault what.Fetch t)) (before_unexpected x next NoMore what.Fetch)))

pipe_meets_with : (x : Spot) (d : ℕ) → Before x here next NoMore (λ t. pipes.pipe_group d t (behind t)) →
    Meets x next next (PipeGoes x) (pipes.pipe d)
unfolding pipes.pipe_with
pipe_meets_with x d k =
    meets_then x next next next (PipeGoes x) (pipes.source d)
    (λ source. map_outcome (λ ops. Flow source.0 ops) (pipes.operations d source.1))
    (meets_of x next next NoMore what.Fetch (pipes.source d) (source_first x d) (source_before x d k))
    (λ source. meets_map x next next (OpsGoes x) (PipeGoes x) (λ ops. Flow source ops) (pipes.operations d) (λ ops g. g)
    (operations_meets x d))

group_before : (x : Spot) (d : ℕ) → Before x here next NoMore (λ t. pipes.pipe_group d t (behind t))
unfolding pipes.pipe_group
group_before x zero = before_fault x next NoMore TooDeep
group_before x (suc d) =
    let inner = λ (at : ℕ) (s : Rest). pipes.branches_with (pipes.pipe d) at s in
    before_here x next NoMore (λ at t. inner at (behind t))
    (λ at. before_behind x next NoMore (inner at)
    (meets_from x next NoMore (inner at) (branches_meets x d at (pipe_meets_with x d (group_before x d)))))

pub pipe_meets : (x : Spot) (d : ℕ) → Meets x next next (PipeGoes x) (pipes.pipe d)
pipe_meets x d = pipe_meets_with x d (group_before x d)
