use Rattle.std.proofs.Common.{◌≡◌, ◌∙◌, ◌<◌, ◌+◌, ◌++◌, ◌∷◌, [], ap, map, refl, sym, arith}
use Rattle.std.proofs.Math.Logic.{⊎_elim}
use Rattle.std.proofs.lemmas.Result.{on_ok_weaker}
use Rattle.mql_ast.specs.Trees.{item_tree, predicate_tree}
use Rattle.typed_trees.specs.ExplanationParts.{nodes}
use Rattle.typed_trees.specs.Nodes as node
use Rattle.typed_trees.specs.Nodes.{node_tree}
use Rattle.typed_trees.specs.Levels as spec
use Rattle.typed_trees.specs.Levels.{top_parts}
use Rattle.typed_trees.specs.declared.nodes.Node.{Node}
use Rattle.mon_meaning.specs.TopParts.{parts_seen, up_to}
use Rattle.mon_meaning.specs.within.PartsToCome.{as_rows, nodes_left, part_nodes, parts_left, parts_of_part}
use Rattle.mon_meaning.proofs.PartsToComeLemmas.{below, fewer, one_source, put_first, rows_parts}
use Rattle.mon_meaning.proofs.parts_up.add_below.Goals as goal

pub returns-in-Fetch-clause-parts : goal.returns-in-Fetch-clause-parts
returns-in-Fetch-clause-parts c =
    let here = up_to c.args.highest in
    let tree = node_tree c.args.node.now in
    let alone : top_parts here tree ≡ as_rows tree ∷ [] =
    ⊎_elim (λ fetch. let is = ap node_tree fetch.3 in ap (top_parts here) is ∙ ap (λ t. as_rows t ∷ []) (sym is))
    (λ align. let is = ap node_tree align.3 in ap (top_parts here) is ∙ ap (λ t. as_rows t ∷ []) (sym is))
    c.in-Fetch.is in
    one_source c.add_source.result (parts_seen c.args.parts.now.items) (parts_seen c.add_source.new.parts.items)
    (parts_left here c.args.rest.now.items) here tree alone c.add_source.ensures.added

pub returns-in-Fetch-clause-less : goal.returns-in-Fetch-clause-less
returns-in-Fetch-clause-less c =
    let tree = node_tree c.args.node.now in
    let rest = nodes_left c.args.rest.now.items in
    let less : rest < rest + nodes tree =
    ⊎_elim (λ fetch. let is = ap (λ (n : Node). nodes (node_tree n)) fetch.3 in omega (arith, is))
    (λ align. let is = ap (λ (n : Node). nodes (node_tree n)) align.3 in omega (arith, is)) c.in-Fetch.is in
    on_ok_weaker c.add_source.result (λ _. less) c.add_source.ensures.added

pub returns-in-Filter-clause-parts : goal.returns-in-Filter-clause-parts
returns-in-Filter-clause-parts c =
    let here = up_to c.args.highest in
    let w = c.in-Filter in
    let tree = node_tree c.args.node.now in
    let input = node_tree w.input.value in
    let all : top_parts here tree ≡ top_parts here input =
    ⊎_elim (λ filter. below here tree (node.Filter filter.0 (predicate_tree filter.1) input) (top_parts here input)
    (ap node_tree filter.2) c.requires.higher refl)
    (λ value. below here tree (node.Value value.0 (map item_tree value.1) input) (top_parts here input)
    (ap node_tree value.2) c.requires.higher refl) w.is in
    put_first c.put_part-in-Filter.result (parts_seen c.args.parts.now.items) _ (top_parts here tree)
    (parts_left here c.args.rest.now.items)
    (parts_left here c.put_part-in-Filter.new.rest.items)
    (ap (parts_of_part here) (c.of_rows.ensures.part ∙ ap (λ (n : Node). as_rows (node_tree n)) c.deref-in-Filter.ensures)
    ∙ rows_parts here input ∙ sym all) (c.put_part-in-Filter.ensures.left here)

pub returns-in-Filter-clause-less : goal.returns-in-Filter-clause-less
returns-in-Filter-clause-less c =
    let w = c.in-Filter in
    let tree = node_tree c.args.node.now in
    let input = node_tree w.input.value in
    let part = part_nodes c.of_rows.result in
    let inner : part ≡ nodes input =
    ap (λ (p : spec.TopPart). nodes p.1) (c.of_rows.ensures.part ∙ ap (λ (n : Node). as_rows (node_tree n))
    c.deref-in-Filter.ensures) in
    let all : nodes tree ≡ nodes input + 1 =
    ⊎_elim (λ filter. ap (λ (n : Node). nodes (node_tree n)) filter.2)
    (λ value. ap (λ (n : Node). nodes (node_tree n)) value.2) w.is in
    let few : part < nodes tree = omega (arith, inner, all) in
    fewer c.put_part-in-Filter.result part (nodes tree) (nodes_left c.args.rest.now.items)
    (nodes_left c.put_part-in-Filter.new.rest.items) few c.put_part-in-Filter.ensures.nodes

pub returns-in-GroupBy-clause-parts : goal.returns-in-GroupBy-clause-parts
returns-in-GroupBy-clause-parts c =
    let here = up_to c.args.highest in
    let w = c.in-GroupBy in
    let tree = node_tree c.args.node.now in
    let input = node_tree w.input.value in
    let own = spec.ToGroup w.by w.with in
    let all : top_parts here tree ≡ parts_of_part here (own, input) =
    below here tree (node.GroupBy w.info w.by w.with input) (parts_of_part here (own, input)) (ap node_tree w.is)
    c.requires.higher refl in
    put_first c.put_part.result (parts_seen c.args.parts.now.items) _ (top_parts here tree)
    (parts_left here c.args.rest.now.items)
    (parts_left here c.put_part.new.rest.items)
    (ap (λ (n : Node). parts_of_part here (own, node_tree n)) c.deref.ensures ∙ sym all)
    (c.put_part.ensures.left here)

pub returns-in-GroupBy-clause-less : goal.returns-in-GroupBy-clause-less
returns-in-GroupBy-clause-less c =
    let w = c.in-GroupBy in
    let tree = node_tree c.args.node.now in
    let input = node_tree w.input.value in
    let part = nodes (node_tree c.deref.result.now) in
    let inner : part ≡ nodes input = ap (λ (n : Node). nodes (node_tree n)) c.deref.ensures in
    let all : nodes tree ≡ nodes input + 1 = ap (λ (n : Node). nodes (node_tree n)) w.is in
    let few : part < nodes tree = omega (arith, inner, all) in
    fewer c.put_part.result part (nodes tree) (nodes_left c.args.rest.now.items)
    (nodes_left c.put_part.new.rest.items) few c.put_part.ensures.nodes

pub returns-in-Top-clause-parts : goal.returns-in-Top-clause-parts
returns-in-Top-clause-parts c =
    let here = up_to c.args.highest in
    let w = c.in-Top in
    let tree = node_tree c.args.node.now in
    let input = node_tree w.input.value in
    let own = spec.ToCut w.most w.column in
    let all : top_parts here tree ≡ parts_of_part here (own, input) =
    below here tree (node.Top w.info w.most w.column input) (parts_of_part here (own, input)) (ap node_tree w.is)
    c.requires.higher refl in
    put_first c.put_part-in-Top.result (parts_seen c.args.parts.now.items) _ (top_parts here tree)
    (parts_left here c.args.rest.now.items)
    (parts_left here c.put_part-in-Top.new.rest.items)
    (ap (λ (n : Node). parts_of_part here (own, node_tree n)) c.deref-in-Top.ensures ∙ sym all)
    (c.put_part-in-Top.ensures.left here)

pub returns-in-Top-clause-less : goal.returns-in-Top-clause-less
returns-in-Top-clause-less c =
    let w = c.in-Top in
    let tree = node_tree c.args.node.now in
    let input = node_tree w.input.value in
    let part = nodes (node_tree c.deref-in-Top.result.now) in
    let inner : part ≡ nodes input = ap (λ (n : Node). nodes (node_tree n)) c.deref-in-Top.ensures in
    let all : nodes tree ≡ nodes input + 1 = ap (λ (n : Node). nodes (node_tree n)) w.is in
    let few : part < nodes tree = omega (arith, inner, all) in
    fewer c.put_part-in-Top.result part (nodes tree) (nodes_left c.args.rest.now.items)
    (nodes_left c.put_part-in-Top.new.rest.items) few c.put_part-in-Top.ensures.nodes

pub returns-in-Join-clause-parts : goal.returns-in-Join-clause-parts
returns-in-Join-clause-parts c =
    let here = up_to c.args.highest in
    let w = c.in-Join in
    let tree = node_tree c.args.node.now in
    let left = node_tree w.left.value in
    let right = node_tree w.right.value in
    let both = top_parts here left ++ top_parts here right in
    let all : top_parts here tree ≡ both =
    ⊎_elim (λ joined. below here tree (node.Join joined.0 left right) both (ap node_tree joined.1)
    c.requires.higher refl)
    (λ united. below here tree (node.Union united.0 left right) both (ap node_tree united.1)
    c.requires.higher refl) w.is in
    put_first c.put_sides.result (parts_seen c.args.parts.now.items) _ (top_parts here tree)
    (parts_left here c.args.rest.now.items)
    (parts_left here c.put_sides.new.rest.items)
    (ap (λ (n : Node). top_parts here (node_tree n) ++ top_parts here (node_tree c.deref-in-Join-2.result.now))
    c.deref-in-Join.ensures
    ∙ ap (λ (n : Node). top_parts here left ++ top_parts here (node_tree n)) c.deref-in-Join-2.ensures ∙ sym all)
    (c.put_sides.ensures.left here)

pub returns-in-Join-clause-less : goal.returns-in-Join-clause-less
returns-in-Join-clause-less c =
    let w = c.in-Join in
    let tree = node_tree c.args.node.now in
    let left = nodes (node_tree c.deref-in-Join.result.now) in
    let right = nodes (node_tree c.deref-in-Join-2.result.now) in
    let inner_left : left ≡ nodes (node_tree w.left.value) =
    ap (λ (n : Node). nodes (node_tree n)) c.deref-in-Join.ensures in
    let inner_right : right ≡ nodes (node_tree w.right.value) = ap (λ (n : Node). nodes (node_tree n))
    c.deref-in-Join-2.ensures in
    let all : nodes tree ≡ nodes (node_tree w.left.value) + nodes (node_tree w.right.value) + 1 =
    ⊎_elim (λ joined. ap (λ (n : Node). nodes (node_tree n)) joined.1)
    (λ united. ap (λ (n : Node). nodes (node_tree n)) united.1) w.is in
    let few : left + right < nodes tree = omega (arith, inner_left, inner_right, all) in
    fewer c.put_sides.result (left + right) (nodes tree) (nodes_left c.args.rest.now.items)
    (nodes_left c.put_sides.new.rest.items) few c.put_sides.ensures.nodes
