-- Trees apart from their places: 0 stands for each place.
use Rattle.std.specs.Prelude.{◌≡◌, ℕ, List, map, Option, Some, None}
use Rattle.mql_ast.specs.declared.names.Name.{Name}
use Rattle.mql_ast.specs.declared.predicates.Literal.{Literal}
use Rattle.mql_ast.specs.declared.predicates.Pattern.{Pattern}
use Rattle.mql_ast.specs.declared.operations.Aggregate.{Aggregate}
use Rattle.mql_ast.specs.Grammar.{SpellsAtLength}
use Rattle.mql_ast.specs.Trees.{SumTree, Column, Number, Plus, Minus, Percentile, PredicateTree, Compare, Like, Not}
use Rattle.mql_ast.specs.Trees.{And, Or, ItemTree, DeedTree, Filter, Align, GroupBy, Value, Top, Every, Within, OpTree}
use Rattle.mql_ast.specs.Trees.{PipeTree, Flow, SourceTree, Fetch, Branches, BranchTrees, NoBranch, Branch}

abbrev pub name_content : Name → Name
name_content name = record { at = 0; text = name.text }

abbrev pub label_content : Option Name → Option Name
label_content None = None
label_content (Some name) = Some (name_content name)

abbrev pub sum_content : SumTree → SumTree
sum_content (Column column) = Column (name_content column)
sum_content (Number at value) = Number 0 value
sum_content (Plus left right) = Plus (sum_content left) (sum_content right)
sum_content (Minus left right) = Minus (sum_content left) (sum_content right)
sum_content (Percentile at column p) = Percentile 0 (name_content column) p

abbrev pub literal_content : Literal → Literal
literal_content literal = record { at = 0; value = literal.value }

abbrev pub pattern_content : Pattern → Pattern
pattern_content pattern = record { at = 0; pieces = pattern.pieces }

abbrev pub predicate_content : PredicateTree → PredicateTree
predicate_content (Compare column how literal) = Compare (name_content column) how (literal_content literal)
predicate_content (Like column pattern) = Like (name_content column) (pattern_content pattern)
predicate_content (Not inner) = Not (predicate_content inner)
predicate_content (And left right) = And (predicate_content left) (predicate_content right)
predicate_content (Or left right) = Or (predicate_content left) (predicate_content right)

abbrev pub item_content : ItemTree → ItemTree
item_content item = record { name = label_content item.name; sum = sum_content item.sum }

abbrev pub aggregate_content : Aggregate → Aggregate
aggregate_content aggregate = record {
  at = 0;
  name = label_content aggregate.name;
  fold = aggregate.fold;
  column = label_content aggregate.column;
}

abbrev pub deed_content : DeedTree → DeedTree
deed_content (Filter predicate) = Filter (predicate_content predicate)
deed_content (Align by) = Align by
deed_content (GroupBy names aggregates) = GroupBy (map name_content names) (map aggregate_content aggregates)
deed_content (Value items) = Value (map item_content items)
deed_content (Top n column) = Top n (name_content column)
deed_content (Every seconds) = Every seconds
deed_content (Within seconds) = Within seconds

abbrev pub op_content : OpTree → OpTree
op_content op = record { at = 0; what = deed_content op.what }

abbrev mutual
  pub pipe_content : PipeTree → PipeTree
  pipe_content (Flow source ops) = Flow (source_content source) (map op_content ops)

  pub source_content : SourceTree → SourceTree
  source_content (Fetch at schema metric) = Fetch 0 (name_content schema) (name_content metric)
  source_content (Branches at pipes how how_at) = Branches 0 (branches_content pipes) how 0

  pub branches_content : BranchTrees → BranchTrees
  branches_content NoBranch = NoBranch
  branches_content (Branch first rest) = Branch (pipe_content first) (branches_content rest)

-- a tree that is this one but for its places spells the text
pub record SpellsButForPlaces (tree : PipeTree) (text : List ℕ) : Type 0 where
  pub other : PipeTree
  pub same : pipe_content other ≡ pipe_content tree
  pub spelled : SpellsAtLength other text
