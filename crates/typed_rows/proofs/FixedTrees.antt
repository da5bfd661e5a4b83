-- Each node of a typed query tells what is fixed in its table.
use Rattle.std.proofs.Common.{◌≡◌, ℕ, ℤ, Option, Some, None, List, [], ◌∷◌, Ok, refl, subst}
use Rattle.mon_value.specs.declared.schemas.Kind.{Kind}
use Rattle.mon_schema.specs.Names.{SchemaLists}
use Rattle.mql_ast.specs.Trees as tree
use Rattle.mql_ast.specs.Trees.{BranchTrees, DeedTree, OpTree, PipeTree, SourceTree}
use Rattle.mql_ast.specs.declared.pipes.How.{How}
use Rattle.mql_ast.specs.declared.pipes.How.TheVariants as how
use Rattle.typed_trees.specs.FixedColumns.{AreFixed}
use Rattle.typed_trees.specs.Nodes.{NodeTree, TypedTree}
use Rattle.typed_trees.specs.Times.{every_said, query_times}
use Rattle.typed_trees.specs.Typing.{Part, aligned_by_default, aligned_tree, branch_node, branches_node, deed_part}
use Rattle.typed_trees.specs.Typing.{further_node, ops_part, pipe_part, source_part, typing}
use Rattle.typed_trees.proofs.FetchColumnLemmas.{typed_without_faults}

aligned_fixed : (every : ℤ) (points : Option Kind) (input : NodeTree) → AreFixed input
    → AreFixed (aligned_by_default every points input)
aligned_fixed every None input own = own
aligned_fixed every (Some of) input own = (refl, own)

deed_fixed : (held : SchemaLists) (every : ℤ) (points : Option Kind) (input : NodeTree) → AreFixed input → (at : ℕ)
    (what : DeedTree) → AreFixed (deed_part held every (record { tree = input; points = points }) at what).tree
deed_fixed held every points input own at (tree.Filter predicate) = (refl, own)
deed_fixed held every points input own at (tree.Align by) = (refl, own)
deed_fixed held every points input own at (tree.GroupBy names aggregates) =
    (refl, aligned_fixed every points input own)
deed_fixed held every points input own at (tree.Value items) = (refl, aligned_fixed every points input own)
deed_fixed held every points input own at (tree.Top most column) = (refl, aligned_fixed every points input own)
deed_fixed held every points input own at (tree.Every seconds) = own
deed_fixed held every points input own at (tree.Within seconds) = own

ops_fixed : (held : SchemaLists) (every : ℤ) (part : Part) → AreFixed part.tree → (ops : List OpTree)
    → AreFixed (ops_part held every part ops).tree
ops_fixed held every part own [] = own
ops_fixed held every part own (op ∷ ops) =
    ops_fixed held every (deed_part held every part op.at op.what)
    (deed_fixed held every part.points part.tree own op.at op.what) ops

branch_fixed : (held : SchemaLists) (by : How) (at : ℕ) (left right : NodeTree) → AreFixed left → AreFixed right
    → AreFixed (branch_node held by at left right)
branch_fixed held how.Join at left right own other = (refl, (own, other))
branch_fixed held how.Union at left right own other = (refl, (own, other))

mutual
  pipe_fixed : (held : SchemaLists) (every : ℤ) (pipe : PipeTree) → AreFixed (pipe_part held every pipe).tree
  pipe_fixed held every (tree.Flow source ops) =
      ops_fixed held every (source_part held every source) (source_fixed held every source) ops

  source_fixed : (held : SchemaLists) (every : ℤ) (source : SourceTree)
      → AreFixed (source_part held every source).tree
  source_fixed held every (tree.Fetch at schema metric) = refl
  source_fixed held every (tree.Branches at pipes by by_at) = branches_fixed held every by by_at pipes

  branches_fixed : (held : SchemaLists) (every : ℤ) (by : How) (at : ℕ) (pipes : BranchTrees)
      → AreFixed (branches_node held every by at pipes)
  branches_fixed held every by at tree.NoBranch = refl
  branches_fixed held every by at (tree.Branch first rest) =
      let part = pipe_part held every first in
      further_fixed held every by at (aligned_tree every part)
      (aligned_fixed every part.points part.tree (pipe_fixed held every first)) rest

  further_fixed : (held : SchemaLists) (every : ℤ) (by : How) (at : ℕ) (left : NodeTree) → AreFixed left
      → (pipes : BranchTrees) → AreFixed (further_node held every by at left pipes)
  further_fixed held every by at left own tree.NoBranch = own
  further_fixed held every by at left own (tree.Branch next rest) =
      let part = pipe_part held every next in
      let right = aligned_tree every part in
      further_fixed held every by at (branch_node held by at left right)
      (branch_fixed held by at left right own
      (aligned_fixed every part.points part.tree (pipe_fixed held every next))) rest

-- each node of a typed query tells what is fixed in its table
pub query_fixed : (held : SchemaLists) (query : PipeTree) (typed : TypedTree) → typing held query ≡ Ok typed
    → AreFixed typed.tree
query_fixed held query typed is =
    let from = typed_without_faults held query typed is in
    let every = every_said (query_times query) in
    let part = pipe_part held every query in
    subst (λ (t : TypedTree). AreFixed t.tree) from.1
    (aligned_fixed every part.points part.tree (pipe_fixed held every query))
