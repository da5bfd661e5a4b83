-- What a query without a fault gives.
use Rattle.std.proofs.Common.{◌≡◌, ◌∙◌, ℕ, ℤ, false, Option, None, Ok, ap, refl, sym}
use Rattle.mon_schema.specs.Names.{SchemaLists}
use Rattle.mql_ast.specs.Trees.{PipeTree}
use Rattle.mql_ast.specs.declared.pipes.How.{How}
use Rattle.mql_ast.specs.declared.pipes.How.TheVariants as how
use Rattle.typed_trees.specs.declared.faults.TypeFault.{TypeFault}
use Rattle.typed_trees.specs.declared.times.Times.{Times}
use Rattle.typed_trees.specs.Faults.{first_fault, first_with}
use Rattle.typed_trees.specs.Nodes.{NodeTree, TypedTree}
use Rattle.typed_trees.specs.Times.{every_said, pipe_order_faults, query_times, times_faults, within_said}
use Rattle.typed_trees.specs.Typing.{aligned_tree, branch_info, branch_node, joint_node, pipe_faults, pipe_part}
use Rattle.typed_trees.specs.Typing.{query_faults, tree_or_fault, typed_query, typing}
use Rattle.typed_columns.proofs.FaultLemmas.{first_with-three}

-- two tables are brought together by what is told of them
pub branch_made : (held : SchemaLists) (by : How) (at : ℕ) (left right : NodeTree)
    → joint_node by (branch_info held by at left right) left right ≡ branch_node held by at left right
branch_made held how.Join at left right = refl
branch_made held how.Union at left right = refl

-- the order of `every` and `within`, the times and the parts are looked through one after another
pub no_fault : (held : SchemaLists) (query : PipeTree) (times : Times) (every : ℤ)
    (first second third : Option TypeFault)
    → times ≡ query_times query → every ≡ every_said times
    → first ≡ first_with None (pipe_order_faults false query) → second ≡ first_with first (times_faults times)
    → third ≡ first_with second (pipe_faults held every query) → third ≡ None
    → first_fault (query_faults held query) ≡ None
no_fault held query times every first second third t e a b c none =
    let step = every_said (query_times query) in
    let by_times : second ≡ first_with first (times_faults (query_times query)) = b
    ∙ ap (λ (said : Times). first_with first (times_faults said)) t in
    let same : every ≡ step = e ∙ ap every_said t in
    sym (first_with-three None first second (pipe_order_faults false query) (times_faults (query_times query))
    (pipe_faults held step query) a by_times)
    ∙ sym (ap (λ (z : ℤ). first_with second (pipe_faults held z query)) same) ∙ sym c ∙ none

made : NodeTree → ℤ → ℤ → TypedTree
made tree every within = record { tree = tree; every = every; within = within }

-- such a query has the tree
pub typing-typed : (held : SchemaLists) (query : PipeTree) (tree : NodeTree) (every within : ℤ)
    → first_fault (query_faults held query) ≡ None
    → aligned_tree (every_said (query_times query)) (pipe_part held (every_said (query_times query)) query) ≡ tree
    → every_said (query_times query) ≡ every → within_said (query_times query) ≡ within
    → typing held query ≡ Ok (record { tree = tree; every = every; within = within })
unfolding typing made
typing-typed held query tree every within none t e w =
    let step = every_said (query_times query) in
    let reach = within_said (query_times query) in
    ap (λ (f : Option TypeFault). tree_or_fault f (typed_query held query)) none
    ∙ ap (λ (n : NodeTree). Ok (made n step reach)) t
    ∙ ap (λ (z : ℤ). Ok (made tree z reach)) e
    ∙ ap (λ (z : ℤ). Ok (made tree every z)) w
