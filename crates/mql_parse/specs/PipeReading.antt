-- How operations, pipes and whole texts are read.
use Rattle.std.specs.Prelude.{ℕ, ℤ, zero, suc, Bool, true, false, ◌==◌, nat_lt, List, [], ◌∷◌, ◌++◌, length, codes}
use Rattle.std.specs.Prelude.{Result, Ok, Err, if◌then◌else◌}
use Rattle.mon_value.specs.Answers.{◌>>=◌}
use Rattle.mon_value.specs.declared.aligners.Aligner.TheVariants as aligner
use Rattle.mql_ast.specs.declared.pipes.How.{How}
use Rattle.mql_ast.specs.declared.pipes.How.TheVariants as how
use Rattle.mql_ast.specs.Trees.{DeedTree, Filter, Align, GroupBy, Value, Top, Every, Within, OpTree, PipeTree, Flow}
use Rattle.mql_ast.specs.Trees.{SourceTree, Fetch, Branches, branches}
use Rattle.mql_ast.specs.Tokens.{Rest, head, behind, skip}
use Rattle.mql_ast.specs.Grammar.{start, levels, longest_text}
use Rattle.mql_parse.specs.declared.faults.ParseFault.{ParseFault}
use Rattle.mql_parse.specs.declared.faults.ParseKind.TheVariants.{Expected, TooDeep, TooLong}
use Rattle.mql_parse.specs.declared.faults.What.{What}
use Rattle.mql_parse.specs.declared.faults.What.TheVariants as what
use Rattle.mql_parse.specs.Outcomes.{Outcome, fault, unexpected_fault, exact, sign, apart, map_outcome, up_to_sign}
use Rattle.mql_parse.specs.Repeats.{Turn, Done, Again, Stuck, on_read, repetition}
use Rattle.mql_parse.specs.TokenReading.{name, metric, positive, duration}
use Rattle.mql_parse.specs.SumReading.{items}
use Rattle.mql_parse.specs.PredicateReading.{predicate}
use Rattle.mql_parse.specs.Folds.{aggregates, names}

-- a keyword behind which a name or a number comes, which needs a blank
abbrev pub word_apart : List ℕ → What → Rest → Result Rest ParseFault
word_apart word next t = exact what.Operation word t >>= λ m. apart next m

-- the duration of an aligner of this word, which stands here
abbrev pub aligned_for : List ℕ → Rest → Outcome ℤ
aligned_for word t = do
  end ← exact what.Aligner word t
  open_parenthesis ← sign 40 what.OpenParenthesis end
  up_to_sign 41 what.CloseParenthesis (duration open_parenthesis)

-- an aligner and its duration, from the aligner's first byte on
abbrev pub aligner_here : Rest → Outcome DeedTree
aligner_here t =
    if head t == 100 then map_outcome (λ z. Align (aligner.Delta z)) (aligned_for (codes "delta") t) else
    (if head t == 110 then map_outcome (λ z. Align (aligner.NextOlder z)) (aligned_for (codes "next_older") t) else
    Err (unexpected_fault what.Aligner t))

unfoldable pub align : Rest → Outcome DeedTree
align t = word_apart (codes "align") what.Aligner t >>= λ m. aligner_here (skip m)

unfoldable pub group_by : Rest → Outcome DeedTree
group_by t = do
  word ← exact what.Operation (codes "group_by") t
  bracket ← sign 91 what.OpenBracket word
  columns ← names bracket
  comma ← sign 44 what.Comma columns.1
  map_outcome (λ all. GroupBy columns.0 all) (aggregates comma)

unfoldable pub value : ℕ → Rest → Outcome DeedTree
value d t = do
  word ← exact what.Operation (codes "value") t
  bracket ← sign 91 what.OpenBracket word
  map_outcome Value (items d bracket)

unfoldable pub top : Rest → Outcome DeedTree
top t = do
  word ← word_apart (codes "top") what.Number t
  n ← positive 16777216 word
  comma ← sign 44 what.Comma n.1
  map_outcome (λ column. Top n.0 column) (name comma)

unfoldable pub duration_deed : (ℤ → DeedTree) → List ℕ → Rest → Outcome DeedTree
duration_deed deed word t = word_apart word what.Number t >>= λ m. map_outcome deed (duration m)

-- an operation other than a filter, from its first byte on
unfoldable pub deed_here : ℕ → Rest → Outcome DeedTree
deed_here d t =
    let b = head t in
    if b == 97 then align t else
    (if b == 103 then group_by t else
    (if b == 118 then value d t else
    (if b == 116 then top t else
    (if b == 101 then duration_deed Every (codes "every") t else
    (if b == 119 then duration_deed Within (codes "within") t else Err (unexpected_fault what.Operation t))))))

abbrev pub op_at : ℕ → DeedTree → OpTree
op_at at deed = record { at = at; what = deed }

-- a filter, whose word stands here
abbrev pub filter_here : ℕ → Rest → Outcome (OpTree × Bool)
filter_here d t =
    word_apart (codes "filter") what.Name t >>= λ m.
    map_outcome (λ x. (op_at t.at (Filter x.0), x.1)) (predicate d m)

-- an operation from behind its bar, and whether the next bar was read too
unfoldable pub operation : ℕ → Rest → Outcome (OpTree × Bool)
operation d s =
    let t = skip s in
    if head t == 102 then filter_here d t else map_outcome (λ deed. (op_at t.at deed, false)) (deed_here d t)

abbrev pub with_op : List OpTree → OpTree × Bool → List OpTree × Bool
with_op ops read = (ops ++ read.0 ∷ [], read.1)

abbrev pub operation_from : ℕ → List OpTree → Rest → Turn (List OpTree × Bool)
operation_from d ops s = on_read (λ x. Again (with_op ops x.0) x.1) (operation d s)

-- a further operation, whose bar was read or stands here
unfoldable pub operation_turn : ℕ → List OpTree × Bool → Rest → Turn (List OpTree × Bool)
operation_turn d read s =
    if read.1 then operation_from d read.0 s else
    (if head (skip s) == 124 then operation_from d read.0 (behind (skip s)) else Done read s)

unfoldable pub operations : ℕ → Rest → Outcome (List OpTree)
operations d s = map_outcome (λ x. x.0) (repetition (operation_turn d) ([], false) s)

-- from the word's first byte on
abbrev pub how_here : Rest → Outcome How
how_here t =
    if head t == 106 then (exact what.How (codes "join") t >>= λ r. Ok (how.Join, r)) else
    (if head t == 117 then (exact what.How (codes "union") t >>= λ r. Ok (how.Union, r)) else
    Err (unexpected_fault what.How t))

-- what becomes of branches that were read, behind their last brace
unfoldable pub branches_how : ℕ → List PipeTree → Rest → Outcome SourceTree
branches_how at pipes s =
    sign 124 what.Bar s >>= λ m.
    map_outcome (λ by. Branches at (branches pipes) by (skip m).at) (how_here (skip m))

unfoldable pub fetch : Rest → Outcome SourceTree
fetch t = do
  word ← exact what.Fetch (codes "fetch") t
  space ← apart what.Name word
  schema ← name space
  colons ← exact what.Colons (codes "::") (skip schema.1)
  map_outcome (λ m. Fetch t.at schema.0 m) (metric colons)

abbrev pub is_group_by : DeedTree → Bool
is_group_by (GroupBy columns all) = true
is_group_by (Filter predicate) = false
is_group_by (Align by) = false
is_group_by (Value all) = false
is_group_by (Top n column) = false
is_group_by (Every seconds) = false
is_group_by (Within seconds) = false

abbrev pub last_groups : Bool → List OpTree → Bool
last_groups so_far [] = so_far
last_groups so_far (op ∷ ops) = last_groups (is_group_by op.what) ops

-- whether the last operation is one that a further aggregate may go on
abbrev pub groups_last : List OpTree → Bool
groups_last ops = last_groups false ops

abbrev pub ops_of : PipeTree → List OpTree
ops_of (Flow source ops) = ops

-- what may come behind the first of several branches, where it is not another operation
abbrev pub behind_branch : PipeTree → What
behind_branch pipe = if groups_last (ops_of pipe) then what.Comma else what.Semicolon

-- what may come behind a whole query
abbrev pub behind_query : PipeTree → What
behind_query pipe = if groups_last (ops_of pipe) then what.Comma else what.Bar

-- a further branch, behind which a semicolon goes on and a brace ends
abbrev pub branch_behind : List PipeTree → PipeTree × Rest → Turn (List PipeTree)
branch_behind so_far read =
    let t = skip read.1 in
    if head t == 59 then Again (so_far ++ read.0 ∷ []) (behind t) else
    (if head t == 125 then Done (so_far ++ read.0 ∷ []) (behind t) else Stuck (unexpected_fault what.CloseBrace t))

unfoldable pub branch_turn : (Rest → Outcome PipeTree) → List PipeTree → Rest → Turn (List PipeTree)
branch_turn pipe so_far s = on_read (branch_behind so_far) (pipe s)

-- branches from behind their brace
unfoldable pub branches_with : (Rest → Outcome PipeTree) → ℕ → Rest → Outcome SourceTree
branches_with pipe at s = do
  first ← pipe s
  more ← sign 59 (behind_branch first.0) first.1
  all ← repetition (branch_turn pipe) (first.0 ∷ []) more
  branches_how at all.0 all.1

unfoldable pub source_with : (Rest → Rest → Outcome SourceTree) → Rest → Outcome SourceTree
source_with group s =
    let t = skip s in
    if head t == 102 then fetch t else
    (if head t == 123 then group t (behind t) else Err (unexpected_fault what.Fetch t))

unfoldable pub pipe_with : (Rest → Rest → Outcome SourceTree) → ℕ → Rest → Outcome PipeTree
pipe_with group d s = source_with group s >>= λ source. map_outcome (λ ops. Flow source.0 ops) (operations d source.1)

-- branches from behind their brace, which stands here
unfoldable pub pipe_group : ℕ → Rest → Rest → Outcome SourceTree
pipe_group zero here s = Err (fault TooDeep here)
pipe_group (suc d) here s = branches_with (pipe_with (pipe_group d) d) here.at s

abbrev pub source : ℕ → Rest → Outcome SourceTree
source d = source_with (pipe_group d)

abbrev pub pipe : ℕ → Rest → Outcome PipeTree
pipe d = pipe_with (pipe_group d) d

-- a pipe up to the end of the text
abbrev pub query_end_in : PipeTree → Rest → List ℕ → Result PipeTree ParseFault
query_end_in tree r [] = Ok tree
query_end_in tree r (b ∷ bs) = Err (unexpected_fault (behind_query tree) (skip r))

abbrev pub query_end : PipeTree × Rest → Result PipeTree ParseFault
query_end read = query_end_in read.0 read.1 read.1.bytes

-- the tree of a text of at most so many levels, or its fault
unfoldable pub query_within : ℕ → List ℕ → Result PipeTree ParseFault
query_within d text =
    if (skip (start text)).at == 0 then (pipe d (start text) >>= query_end)
    else Err (fault (Expected what.Fetch) (start text))

abbrev pub query : List ℕ → Result PipeTree ParseFault
query text = query_within levels text

unfoldable pub text_outcome : List ℕ → Result PipeTree ParseFault
text_outcome text =
    if nat_lt longest_text (length text) then Err (record { at = longest_text; kind = TooLong }) else query text
