-- The fetches of a typed query, with the filters on them, have the columns of their schemas.
use Rattle.std.proofs.Common.{◌≡◌, ℕ, ℤ, false, List, [], ◌∷◌, ◌++◌, Option, Some, None, Ok, refl, subst}
use Rattle.std.specs.List.{AllByRecursion}
use Rattle.mon_schema.specs.Names.{SchemaLists}
use Rattle.mon_value.specs.declared.schemas.Kind.{Kind}
use Rattle.mon_value.specs.declared.aligners.Aligner.{Aligner}
use Rattle.mql_ast.specs.Trees as tree
use Rattle.mql_ast.specs.Trees.{BranchTrees, DeedTree, OpTree, PipeTree, SourceTree}
use Rattle.mql_ast.specs.declared.pipes.How.{How}
use Rattle.mql_ast.specs.declared.pipes.How.TheVariants as how
use Rattle.typed_trees.specs.declared.faults.TypeFault.{TypeFault}
use Rattle.typed_trees.specs.Faults.{earlier_fault, first_fault, first_with}
use Rattle.typed_trees.specs.Nodes.{NodeTree, TypedTree, columns_of}
use Rattle.typed_trees.specs.Plans.{HasFetchColumns, fetches}
use Rattle.typed_trees.specs.Times.{every_said, pipe_order_faults, query_times, times_faults}
use Rattle.typed_trees.specs.Typing.{Part, align_faults, align_node, aligned_as, aligned_tree, branch_faults}
use Rattle.typed_trees.specs.Typing.{branch_node}
use Rattle.typed_trees.specs.Typing.{branches_faults, branches_node, deed_faults, deed_part, filter_node, further_faults}
use Rattle.typed_trees.specs.Typing.{further_node, ops_faults, ops_part, pipe_faults, pipe_part, query_faults}
use Rattle.typed_trees.specs.Typing.{source_faults, source_part, typed_query, typing, tree_or_fault}

-- ---- no faults

pub both_none : (some more : List TypeFault) → some ++ more ≡ [] → (some ≡ []) × (more ≡ [])
both_none [] more e = (refl, e)
both_none (fault ∷ some) more e = absurd (cc)

some_first : (fault : TypeFault) (faults : List TypeFault) → first_with (Some fault) faults ≡ None → ⊥
some_first fault [] e = cc
some_first fault (next ∷ faults) e = some_first (earlier_fault (Some fault) next) faults e

pub none_first : (faults : List TypeFault) → first_fault faults ≡ None → faults ≡ []
none_first [] e = refl
none_first (fault ∷ faults) e = absurd (some_first fault faults e)

unless_ok : (fault : Option TypeFault) (typed typed' : TypedTree) → tree_or_fault fault typed ≡ Ok typed'
    → (fault ≡ None) × (typed ≡ typed')
unless_ok None typed typed' e = (refl, cc)
unless_ok (Some fault) typed typed' e = absurd (cc)

-- what has a type is the typed tree, and has no fault
pub typed_without_faults : (held : SchemaLists) (query : PipeTree) (typed : TypedTree) → typing held query ≡ Ok typed
    → (query_faults held query ≡ []) × (typed_query held query ≡ typed)
unfolding typing
typed_without_faults held query typed e =
    let ok = unless_ok (first_fault (query_faults held query)) (typed_query held query) typed e in
    (none_first (query_faults held query) ok.0, ok.1)

-- ---- parts

-- of a table, its fetches have their columns; of points, it is a fetch that has them
abbrev pub PartHas : SchemaLists → Option Kind → NodeTree → Type 0
PartHas held None part = AllByRecursion (HasFetchColumns held) (fetches part)
PartHas held (Some of) part = HasFetchColumns held part

abbrev pub Has : SchemaLists → Part → Type 0
Has held part = PartHas held part.points part.tree

append_has : (held : SchemaLists) (some more : List NodeTree) → AllByRecursion (HasFetchColumns held) some
    → AllByRecursion (HasFetchColumns held) more → AllByRecursion (HasFetchColumns held) (some ++ more)
append_has held [] more all others = others
append_has held (fetch ∷ some) more all others = (all.0, append_has held some more all.1 others)

aligned_has : (held : SchemaLists) (every : ℤ) (points : Option Kind) (part : NodeTree) → PartHas held points part
    → AllByRecursion (HasFetchColumns held) (fetches (aligned_tree every (record { tree = part; points = points })))
aligned_has held every None part has = has
aligned_has held every (Some of) part has = (has, tt)

filter_has : (held : SchemaLists) (at : ℕ) (by : tree.PredicateTree) (points : Option Kind) (part : NodeTree)
    → PartHas held points part → PartHas held points (filter_node at by part)
filter_has held at by None part has = has
filter_has held at by (Some of) part has = (refl, has)

align_has : (held : SchemaLists) (at : ℕ) (by : Aligner) (points : Option Kind) (part : NodeTree)
    → PartHas held points part → align_faults points at by ≡ []
    → AllByRecursion (HasFetchColumns held) (fetches (align_node (Some at) (aligned_as points by) part))
align_has held at by None part has none = absurd (cc)
align_has held at by (Some of) part has none = (has, tt)

deed_has : (held : SchemaLists) (every : ℤ) (part : Part) (at : ℕ) (deed : DeedTree) → Has held part
    → deed_faults every part at deed ≡ [] → Has held (deed_part held every part at deed)
deed_has held every part at (tree.Filter by) has none = filter_has held at by part.points part.tree has
deed_has held every part at (tree.Align by) has none = align_has held at by part.points part.tree has none
deed_has held every part at (tree.GroupBy names aggregates) has none =
    aligned_has held every part.points part.tree has
deed_has held every part at (tree.Value items) has none = aligned_has held every part.points part.tree has
deed_has held every part at (tree.Top most column) has none = aligned_has held every part.points part.tree has
deed_has held every part at (tree.Every seconds) has none = has
deed_has held every part at (tree.Within seconds) has none = has

ops_have : (held : SchemaLists) (every : ℤ) (part : Part) (ops : List OpTree) → Has held part
    → ops_faults held every part ops ≡ [] → Has held (ops_part held every part ops)
ops_have held every part [] has none = has
ops_have held every part (op ∷ ops) has none =
    let nones = both_none (deed_faults every part op.at op.what)
    (ops_faults held every (deed_part held every part op.at op.what) ops) none in
    ops_have held every (deed_part held every part op.at op.what) ops
    (deed_has held every part op.at op.what has nones.0) nones.1

branch_has : (held : SchemaLists) (by : How) (at : ℕ) (left right : NodeTree)
    → AllByRecursion (HasFetchColumns held) (fetches left) → AllByRecursion (HasFetchColumns held) (fetches right)
    → AllByRecursion (HasFetchColumns held) (fetches (branch_node held by at left right))
branch_has held how.Join at left right all others = append_has held (fetches left) (fetches right) all others
branch_has held how.Union at left right all others = append_has held (fetches left) (fetches right) all others

-- ---- whole queries

mutual
  pipe_has : (held : SchemaLists) (every : ℤ) (pipe : PipeTree) → pipe_faults held every pipe ≡ []
      → Has held (pipe_part held every pipe)
  pipe_has held every (tree.Flow source ops) none =
      let nones = both_none (source_faults held every source) (ops_faults held every (source_part held every source)
      ops)
      none in
      ops_have held every (source_part held every source) ops (source_has held every source nones.0) nones.1

  source_has : (held : SchemaLists) (every : ℤ) (source : SourceTree) → source_faults held every source ≡ []
      → Has held (source_part held every source)
  source_has held every (tree.Fetch at schema metric) none = refl
  source_has held every (tree.Branches at pipes by by_at) none = branches_have held every by by_at pipes none

  branches_have : (held : SchemaLists) (every : ℤ) (by : How) (at : ℕ) (pipes : BranchTrees)
      → branches_faults held every by at pipes ≡ []
      → AllByRecursion (HasFetchColumns held) (fetches (branches_node held every by at pipes))
  branches_have held every by at tree.NoBranch none = tt
  branches_have held every by at (tree.Branch first rest) none =
      let left = aligned_tree every (pipe_part held every first) in
      let nones = both_none (pipe_faults held every first) (further_faults held every by at left rest) none in
      further_have held every by at left rest
      (aligned_has held every (pipe_part held every first).points (pipe_part held every first).tree
      (pipe_has held every first nones.0)) nones.1

  further_have : (held : SchemaLists) (every : ℤ) (by : How) (at : ℕ) (left : NodeTree) (pipes : BranchTrees)
      → AllByRecursion (HasFetchColumns held) (fetches left) → further_faults held every by at left pipes ≡ []
      → AllByRecursion (HasFetchColumns held) (fetches (further_node held every by at left pipes))
  further_have held every by at left tree.NoBranch has none = has
  further_have held every by at left (tree.Branch next rest) has none =
      let right = aligned_tree every (pipe_part held every next) in
      let further = further_faults held every by at (branch_node held by at left right) rest in
      let faults = branch_faults held by at (columns_of left) (columns_of right) in
      let first = both_none (pipe_faults held every next) (faults ++ further) none in
      let second = both_none faults further first.1 in
      further_have held every by at (branch_node held by at left right) rest
      (branch_has held by at left right has
      (aligned_has held every (pipe_part held every next).points (pipe_part held every next).tree
      (pipe_has held every next first.0))) second.1

query_has : (held : SchemaLists) (query : PipeTree) → query_faults held query ≡ []
    → AllByRecursion (HasFetchColumns held) (fetches (typed_query held query).tree)
query_has held query none =
    let every = every_said (query_times query) in
    let faults = pipe_faults held every query in
    let nones = both_none (times_faults (query_times query)) faults
    (both_none (pipe_order_faults false query) (times_faults (query_times query) ++ faults) none).1 in
    aligned_has held every (pipe_part held every query).points (pipe_part held every query).tree
    (pipe_has held every query nones.1)

-- below each alignment of a typed query stands a fetch of its schemas' columns, with filters over these
pub fetches_have_columns : (held : SchemaLists) (query : PipeTree) (typed : TypedTree) → typing held query ≡ Ok typed
    → AllByRecursion (HasFetchColumns held) (fetches typed.tree)
fetches_have_columns held query typed e =
    let known = typed_without_faults held query typed e in
    subst (λ (t : TypedTree). AllByRecursion (HasFetchColumns held) (fetches t.tree)) known.1
    (query_has held query known.0)
