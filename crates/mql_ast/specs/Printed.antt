-- The text that a tree is printed as: single blanks, and no more parentheses than its shape needs.
use Rattle.std.specs.Prelude.{ℕ, ℤ, ◌==◌, ◌||◌, Bool, true, false, List, [], ◌∷◌, ◌++◌, map, codes, Option, Some, None}
use Rattle.std.specs.Prelude.{if◌then◌else◌}
use Rattle.std.specs.Fmt.{decimal, signed_decimal}
use Rattle.mon_value.specs.Values.{truth_text}
use Rattle.mon_value.specs.declared.values.FieldValue.{FieldValue}
use Rattle.mon_value.specs.declared.values.FieldValue.TheVariants as field
use Rattle.mon_value.specs.declared.aligners.Aligner.{Aligner}
use Rattle.mon_value.specs.declared.aligners.Aligner.TheVariants as aligner
use Rattle.mql_ast.specs.declared.names.Name.{Name}
use Rattle.mql_ast.specs.declared.predicates.Comparison.{Comparison}
use Rattle.mql_ast.specs.declared.predicates.Comparison.TheVariants as comparison
use Rattle.mql_ast.specs.declared.predicates.Literal.{Literal}
use Rattle.mql_ast.specs.declared.predicates.Pattern.{Pattern}
use Rattle.mql_ast.specs.declared.operations.Aggregate.{Aggregate}
use Rattle.mql_ast.specs.declared.operations.FoldWord.{FoldWord}
use Rattle.mql_ast.specs.declared.operations.FoldWord.TheVariants as fold
use Rattle.mql_ast.specs.declared.pipes.How.{How}
use Rattle.mql_ast.specs.declared.pipes.How.TheVariants as how
use Rattle.mql_ast.specs.Trees.{SumTree, Column, Number, Plus, Minus, Percentile, PredicateTree, Compare, Like, Not}
use Rattle.mql_ast.specs.Trees.{And, Or, ItemTree, DeedTree, Filter, Align, GroupBy, Value, Top, Every, Within, OpTree}
use Rattle.mql_ast.specs.Trees.{PipeTree, Flow, SourceTree, Fetch, Branches, BranchTrees, NoBranch, Branch}

-- a sign with a backslash before it where it is one of the marks
abbrev pub sign_text : (ℕ → Bool) → ℕ → List ℕ
sign_text marks c = if marks c then 92 ∷ c ∷ [] else c ∷ []

abbrev pub escaped_text : (ℕ → Bool) → List ℕ → List ℕ
escaped_text marks [] = []
escaped_text marks (c ∷ cs) = sign_text marks c ++ escaped_text marks cs

-- what stands behind a backslash in a text in quotes
abbrev pub is_text_mark : ℕ → Bool
is_text_mark c = c == 34 || c == 92

-- what stands behind a backslash in a pattern: . * + ? ( ) [ ] { } | ^ $ and the backslash
abbrev pub is_pattern_mark : ℕ → Bool
is_pattern_mark c =
    c == 46 || c == 42 || c == 43 || c == 63 || c == 40 || c == 41 || c == 91 || c == 93
    || c == 123 || c == 125 || c == 124 || c == 94 || c == 36 || c == 92

abbrev pub quotation : List ℕ → List ℕ
quotation bytes = codes "\"" ++ (escaped_text is_text_mark bytes ++ codes "\"")

-- each text behind the separator
abbrev pub each_behind : List ℕ → List (List ℕ) → List ℕ
each_behind separator [] = []
each_behind separator (x ∷ xs) = separator ++ (x ++ each_behind separator xs)

-- texts with a separator between each two
abbrev pub separated_texts : List ℕ → List (List ℕ) → List ℕ
separated_texts separator [] = []
separated_texts separator (x ∷ xs) = x ++ each_behind separator xs

abbrev pub in_parentheses : Bool → List ℕ → List ℕ
in_parentheses true text = codes "(" ++ (text ++ codes ")")
in_parentheses false text = text

-- the text before which a pattern's pieces are put in quotes
abbrev pub pattern_signs : List (List ℕ) → List ℕ
pattern_signs pieces = separated_texts (codes ".*") (map (escaped_text is_pattern_mark) pieces)

abbrev pub value_text : FieldValue → List ℕ
value_text (field.Int z) = signed_decimal z
value_text (field.Bool b) = truth_text b
value_text (field.Text bytes) = quotation bytes

abbrev pub comparison_text : Comparison → List ℕ
comparison_text comparison.Equal = codes "=="
comparison_text comparison.NotEqual = codes "!="
comparison_text comparison.Less = codes "<"
comparison_text comparison.AtMost = codes "<="
comparison_text comparison.Greater = codes ">"
comparison_text comparison.AtLeast = codes ">="

abbrev pub condition_text : Name → Comparison → Literal → List ℕ
condition_text column how literal =
    column.text ++ (codes " " ++ (comparison_text how ++ (codes " " ++ value_text literal.value)))

abbrev pub likeness_text : Name → Pattern → List ℕ
likeness_text column pattern = column.text ++ (codes " =~ " ++ quotation (pattern_signs pattern.pieces))

-- a predicate where what binds at least so close needs no parentheses: 0 is `||`, 1 is `&&`, 2 is `!`
abbrev pub predicate_text : ℕ → PredicateTree → List ℕ
predicate_text level (Compare column how literal) = condition_text column how literal
predicate_text level (Like column pattern) = likeness_text column pattern
predicate_text level (Not inner) = codes "!" ++ predicate_text 2 inner
predicate_text level (And left right) =
    in_parentheses (level == 2) (predicate_text 1 left ++ (codes " && " ++ predicate_text 2 right))
predicate_text level (Or left right) =
    in_parentheses (level == 1 || level == 2) (predicate_text 0 left ++ (codes " || " ++ predicate_text 1 right))

-- which share of a column's values a percentile takes
abbrev pub share_text : ℕ → List ℕ
share_text p = codes ", " ++ (decimal p ++ codes ")")

-- a sum, as an operand of another or as a whole
abbrev pub sum_text : Bool → SumTree → List ℕ
sum_text operand (Column column) = column.text
sum_text operand (Number at value) = signed_decimal value
sum_text operand (Plus left right) =
    in_parentheses operand (sum_text false left ++ (codes " + " ++ sum_text true right))
sum_text operand (Minus left right) =
    in_parentheses operand (sum_text false left ++ (codes " - " ++ sum_text true right))
sum_text operand (Percentile at column p) =
    codes "percentile(" ++ (column.text ++ share_text p)

-- a name of its own, where there is one
abbrev pub label_text : Option Name → List ℕ
label_text None = []
label_text (Some name) = name.text ++ codes ": "

abbrev pub item_text : ItemTree → List ℕ
item_text item = label_text item.name ++ sum_text false item.sum

abbrev pub fold_text : FoldWord → List ℕ
fold_text fold.Count = codes "count"
fold_text fold.Sum = codes "sum"
fold_text fold.Min = codes "min"
fold_text fold.Max = codes "max"
fold_text fold.Mean = codes "mean"
fold_text fold.Merge = codes "merge"
fold_text fold.Aggregate = codes "aggregate"

abbrev pub column_text : Option Name → List ℕ
column_text None = []
column_text (Some column) = column.text

abbrev pub aggregate_text : Aggregate → List ℕ
aggregate_text aggregate =
    label_text aggregate.name
    ++ (fold_text aggregate.fold ++ (codes "(" ++ (column_text aggregate.column ++ codes ")")))

abbrev pub duration_text : ℤ → List ℕ
duration_text seconds = signed_decimal seconds ++ codes "s"

-- an increase is written as the delta that it is read from
abbrev pub aligner_text : Aligner → List ℕ
aligner_text (aligner.Delta seconds) = codes "delta(" ++ (duration_text seconds ++ codes ")")
aligner_text (aligner.Increase seconds) = codes "delta(" ++ (duration_text seconds ++ codes ")")
aligner_text (aligner.NextOlder seconds) = codes "next_older(" ++ (duration_text seconds ++ codes ")")

abbrev pub name_text : Name → List ℕ
name_text name = name.text

abbrev pub comma : List ℕ
comma = codes ", "

abbrev pub deed_text : DeedTree → List ℕ
deed_text (Filter predicate) = codes "filter " ++ predicate_text 0 predicate
deed_text (Align by) = codes "align " ++ aligner_text by
deed_text (GroupBy names aggregates) =
    codes "group_by [" ++ (separated_texts comma (map name_text names)
    ++ (codes "], " ++ separated_texts comma (map aggregate_text aggregates)))
deed_text (Value items) = codes "value [" ++ (separated_texts comma (map item_text items) ++ codes "]")
deed_text (Top n column) = codes "top " ++ (decimal n ++ (codes ", " ++ column.text))
deed_text (Every seconds) = codes "every " ++ duration_text seconds
deed_text (Within seconds) = codes "within " ++ duration_text seconds

-- operations, each behind a bar
abbrev pub ops_text : List OpTree → List ℕ
ops_text [] = []
ops_text (op ∷ ops) = codes " | " ++ (deed_text op.what ++ ops_text ops)

abbrev pub how_text : How → List ℕ
how_text how.Join = codes "join"
how_text how.Union = codes "union"

abbrev pub fetch_text : Name → Name → List ℕ
fetch_text schema metric = codes "fetch " ++ (schema.text ++ (codes "::" ++ metric.text))

abbrev mutual
  pub pipe_text : PipeTree → List ℕ
  pipe_text (Flow source ops) = source_text source ++ ops_text ops

  pub source_text : SourceTree → List ℕ
  source_text (Fetch at schema metric) = fetch_text schema metric
  source_text (Branches at pipes by by_at) = codes "{" ++ (branches_text pipes ++ (codes "} | " ++ how_text by))

  pub branches_text : BranchTrees → List ℕ
  branches_text NoBranch = []
  branches_text (Branch first rest) = pipe_text first ++ further_text rest

  -- branches, each behind a semicolon
  pub further_text : BranchTrees → List ℕ
  further_text NoBranch = []
  further_text (Branch first rest) = codes "; " ++ (pipe_text first ++ further_text rest)
