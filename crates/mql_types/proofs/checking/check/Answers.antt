use Rattle.std.proofs.Common.{◌≡◌, ◌∙◌, ℤ, None, false, ap, sym, rules, to_z, of_z, w64}
use Rattle.mql_ast.specs.Trees.{query_tree}
use Rattle.typed_trees.specs.Faults.{first_with}
use Rattle.typed_trees.specs.Nodes.{node_tree}
use Rattle.mql_types.specs.PartViews.{part_view}
use Rattle.typed_trees.specs.Times.{every_said, pipe_order_faults, query_times, within_said}
use Rattle.typed_trees.specs.Typing.{Part, aligned_tree, pipe_part}
use Rattle.mql_types.proofs.TypingLemmas.{no_fault, typing-typed}
use Rattle.mql_types.proofs.checking.check.Goals as goal

pub returns-in-None : goal.returns-in-None
returns-in-None c =
    let held = c.args.schemas.now in
    let query = query_tree c.args.query.now in
    let times = c.hear_pipe.new.times in
    let every = c.every.result in
    let step = every_said (query_times query) in
    let said : times ≡ query_times query = search rules in
    let plain : to_z w64 (of_z w64 every) ≡ every = search rules in
    let same : to_z w64 (of_z w64 every) ≡ step = plain ∙ c.every.ensures.every ∙ ap every_said said in
    let ordered : c.hear_pipe.new.found.first ≡ first_with None (pipe_order_faults false query) = search rules in
    let none = no_fault held query times (to_z w64 (of_z w64 every)) c.hear_pipe.new.found.first
    c.tell_many.new.found.first c.pipe_part.new.found.first
    said (plain
    ∙ c.every.ensures.every) ordered c.tell_many.ensures.faults c.in_ok-part.ensures.faults c.in-None.is in
    let part : part_view c.in_ok-part.part ≡ pipe_part held step query = c.in_ok-part.ensures.part
    ∙ ap (λ (z : ℤ). pipe_part held z query) same in
    let tree : node_tree c.in_ok-tree.tree ≡ aligned_tree step (pipe_part held step query) =
    c.in_ok-tree.ensures.node
    ∙ ap (λ (p : Part). aligned_tree (to_z w64 (of_z w64 (to_z w64 (of_z w64 every)))) p) part
    ∙ ap (λ (z : ℤ). aligned_tree (to_z w64 (of_z w64 z)) (pipe_part held step query)) plain
    ∙ ap (λ (z : ℤ). aligned_tree z (pipe_part held step query)) same in
    record {
      typed = typing-typed held query (node_tree c.typed_by.result.tree) c.typed_by.result.every
          c.typed_by.result.within none
          (sym (c.typed_by.ensures.tree ∙ tree)) (sym (c.typed_by.ensures.every
          ∙ ap every_said said)) (sym (c.typed_by.ensures.within ∙ ap within_said said));
    }
