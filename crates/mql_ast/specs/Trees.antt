-- The trees of query texts, apart from where they lie in memory.
use Rattle.std.specs.Prelude.{ℕ, ℤ, List, [], ◌∷◌, map, Option}
use Rattle.mon_value.specs.declared.aligners.Aligner.{Aligner}
use Rattle.mql_ast.specs.declared.names.Name.{Name}
use Rattle.mql_ast.specs.declared.predicates.Comparison.{Comparison}
use Rattle.mql_ast.specs.declared.predicates.Literal.{Literal}
use Rattle.mql_ast.specs.declared.predicates.Pattern.{Pattern}
use Rattle.mql_ast.specs.declared.predicates.Predicate.{Predicate}
use Rattle.mql_ast.specs.declared.predicates.Predicate.TheVariants as predicate
use Rattle.mql_ast.specs.declared.expressions.Expr.{Expr}
use Rattle.mql_ast.specs.declared.expressions.Expr.TheVariants as expr
use Rattle.mql_ast.specs.declared.operations.Item.{Item}
use Rattle.mql_ast.specs.declared.operations.Aggregate.{Aggregate}
use Rattle.mql_ast.specs.declared.operations.OpKind.{OpKind}
use Rattle.mql_ast.specs.declared.operations.OpKind.TheVariants as kind
use Rattle.mql_ast.specs.declared.operations.Op.{Op}
use Rattle.mql_ast.specs.declared.pipes.How.{How}
use Rattle.mql_ast.specs.declared.pipes.Pipe.{Pipe}
use Rattle.mql_ast.specs.declared.pipes.Source.{Source, Row_of-Pipe, end_of-Pipe, more_of-Pipe}
use Rattle.mql_ast.specs.declared.pipes.Source.TheVariants as source
use Rattle.mql_ast.specs.declared.pipes.Query.{Query}

-- what an item computes
pub data SumTree : Type 0 where
  Column : Name → SumTree
  Number : ℕ → ℤ → SumTree
  Plus : SumTree → SumTree → SumTree
  Minus : SumTree → SumTree → SumTree
  Percentile : ℕ → Name → ℕ → SumTree

-- what a filter asks of a row
pub data PredicateTree : Type 0 where
  Compare : Name → Comparison → Literal → PredicateTree
  Like : Name → Pattern → PredicateTree
  Not : PredicateTree → PredicateTree
  And : PredicateTree → PredicateTree → PredicateTree
  Or : PredicateTree → PredicateTree → PredicateTree

-- a column that `value` gives
pub record ItemTree : Type 0 where
  pub name : Option Name
  pub sum : SumTree

-- what an operation does
pub data DeedTree : Type 0 where
  Filter : PredicateTree → DeedTree
  Align : Aligner → DeedTree
  GroupBy : List Name → List Aggregate → DeedTree
  Value : List ItemTree → DeedTree
  Top : ℕ → Name → DeedTree
  Every : ℤ → DeedTree
  Within : ℤ → DeedTree

-- an operation, with the place of its word
pub record OpTree : Type 0 where
  pub at : ℕ
  pub what : DeedTree

-- a pipe: a source, and operations on it; a source: a fetch, or branches
mutual
  pub data PipeTree : Type 0 where
    Flow : SourceTree → List OpTree → PipeTree

  pub data SourceTree : Type 0 where
    Fetch : ℕ → Name → Name → SourceTree
    Branches : ℕ → BranchTrees → How → ℕ → SourceTree

  pub data BranchTrees : Type 0 where
    NoBranch : BranchTrees
    Branch : PipeTree → BranchTrees → BranchTrees

abbrev pub branches : List PipeTree → BranchTrees
branches [] = NoBranch
branches (p ∷ ps) = Branch p (branches ps)

-- the tree that an expression is
abbrev pub sum_tree : Expr → SumTree
sum_tree (expr.Column column) = Column column
sum_tree (expr.Number at value) = Number at value
sum_tree (expr.Plus' p left q right) = Plus (sum_tree left) (sum_tree right)
sum_tree (expr.Minus' p left q right) = Minus (sum_tree left) (sum_tree right)
sum_tree (expr.Percentile at column p) = Percentile at column p

-- the tree that a predicate is
abbrev pub predicate_tree : Predicate → PredicateTree
predicate_tree (predicate.Compare column how literal) = Compare column how literal
predicate_tree (predicate.Like column pattern) = Like column pattern
predicate_tree (predicate.Not' p inner) = Not (predicate_tree inner)
predicate_tree (predicate.And' p left q right) = And (predicate_tree left) (predicate_tree right)
predicate_tree (predicate.Or' p left q right) = Or (predicate_tree left) (predicate_tree right)

abbrev pub item_tree : Item → ItemTree
item_tree item = record { name = item.name; sum = sum_tree item.sum }

abbrev pub deed_tree : OpKind → DeedTree
deed_tree (kind.Filter predicate) = Filter (predicate_tree predicate)
deed_tree (kind.Align aligner) = Align aligner
deed_tree (kind.GroupBy names aggregates) = GroupBy names aggregates
deed_tree (kind.Value items) = Value (map item_tree items)
deed_tree (kind.Top n column) = Top n column
deed_tree (kind.Every seconds) = Every seconds
deed_tree (kind.Within seconds) = Within seconds

abbrev pub op_tree : Op → OpTree
op_tree op = record { at = op.at; what = deed_tree op.what }

-- the tree that a source is, and those of its branches
abbrev mutual
  pub source_tree : Source → SourceTree
  source_tree (source.Fetch at schema metric) = Fetch at schema metric
  source_tree (source.Branches' at shape all how how_at) = Branches at (branch_trees all) how how_at

  pub branch_trees : {m : _} → Row_of-Pipe m → BranchTrees
  branch_trees end_of-Pipe = NoBranch
  branch_trees (more_of-Pipe first ops rest) = Branch (Flow (source_tree first) (map op_tree ops)) (branch_trees rest)

-- the tree that a pipe is
abbrev pub pipe_tree : Pipe → PipeTree
pipe_tree pipe = Flow (source_tree pipe.source) (map op_tree pipe.ops)

-- the tree that a query is
abbrev pub query_tree : Query → PipeTree
query_tree query = pipe_tree query.pipe
