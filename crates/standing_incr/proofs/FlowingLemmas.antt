-- Operations that work row by row make of rows what they make of each.
use Rattle.std.proofs.Common.{◌≡◌, ◌∙◌, ◌++◌, ◌+◌, ◌<◌, ◌≤◌, ℕ, zero, suc, Bool, true, false, cond, Option, Some, None, IfSome, List, [], ◌∷◌}
use Rattle.std.proofs.Common.{Bor, drop, get_or, length, slice_get, refl, sym, ap, subst, arith}
use Rattle.std.specs.List.{AllByRecursion, cons_option, filter, filter_map}
use Rattle.std.proofs.lemmas.List.Elements.{filter_map-append}
use Rattle.mon_value.specs.declared.tables.TimedRow.{TimedRow}
use Rattle.mql_ast.specs.Rows.{predicate_truth}
use Rattle.typed_trees.specs.Meaning.{value_row}
use Rattle.typed_trees.specs.Nodes as node
use Rattle.typed_trees.specs.Nodes.{NodeTree, columns_of, node_tree}
use Rattle.typed_trees.specs.declared.nodes.Node.{Node}
use Rattle.mon_meaning.specs.within.Paths.{trees_of}
use Rattle.mon_meaning.specs.Operations.{CanOperate, operation_rows}
use Rattle.mon_meaning.specs.within.Sides.{HasOneSide}
use Rattle.kept_laws.specs.Flowing.{WorksByRow}
use Rattle.kept_exchanges.specs.Exchanges.{comes, gones}
use Rattle.kept_exchanges.specs.Flows.{CanFlow, CanFlowBoth, row_flowing, row_made, rows_flowing}
use Rattle.kept_exchanges.specs.declared.exchanges.Exchange.{Exchange}
use Rattle.kept_exchanges.proofs.FlowLemmas.{none_flows}
use Rattle.standing_incr.specs.Ways.{CanGoThrough, rows_through}

-- ---- one operation

kept_if : (b : Bool) (row : TimedRow) (xs ys : List TimedRow) → xs ≡ ys
    → cond b (row ∷ xs) xs ≡ cons_option (slice_get (cond b (row ∷ []) []) 0) ys
kept_if true row xs ys e = ap (λ l. row ∷ l) e
kept_if false row xs ys e = e

filter_each : (test : TimedRow → Bool) (rows : List TimedRow)
    → filter test rows ≡ filter_map (λ row. slice_get (filter test (row ∷ [])) 0) rows
filter_each test [] = refl
filter_each test (row ∷ rows) =
    kept_if (test row) row (filter test rows) (filter_map (λ one. slice_get (filter test (one ∷ [])) 0) rows)
    (filter_each test rows)

given_if : (o : Option TimedRow) (xs ys : List TimedRow) → xs ≡ ys
    → cons_option o xs ≡ cons_option (slice_get (cons_option o []) 0) ys
given_if None xs ys e = e
given_if (Some row) xs ys e = ap (λ l. row ∷ l) e

given_each : (f : TimedRow → Option TimedRow) (rows : List TimedRow)
    → filter_map f rows ≡ filter_map (λ row. slice_get (filter_map f (row ∷ [])) 0) rows
given_each f [] = refl
given_each f (row ∷ rows) =
    given_if (f row) (filter_map f rows) (filter_map (λ one. slice_get (filter_map f (one ∷ [])) 0) rows)
    (given_each f rows)

made_each : (tree : NodeTree) (rows : List TimedRow) → WorksByRow tree
    → operation_rows tree rows [] ≡ filter_map (λ row. row_made tree (Some row)) rows
made_each (node.Fetch info schema metric) rows works = absurd works
made_each (node.Filter info by input) rows works =
    filter_each (λ (row : TimedRow). predicate_truth by info.columns row.cells) rows
made_each (node.Align info by input) rows works = absurd works
made_each (node.GroupBy info by with input) rows works = absurd works
made_each (node.Value info items input) rows works = given_each (value_row (columns_of input) items) rows
made_each (node.Top info most column input) rows works = absurd works
made_each (node.Join info left right) rows works = absurd works
made_each (node.Union info left right) rows works = absurd works

-- an operation can be done on each of the rows that it can be done on
operates_each : (tree : NodeTree) (rows : List TimedRow) → WorksByRow tree → CanOperate tree rows []
    → AllByRecursion (λ row. CanOperate tree (row ∷ []) []) rows
operates_each tree [] works can = tt
operates_each (node.Fetch info schema metric) (row ∷ rows) works can = absurd works
operates_each (node.Filter info by input) (row ∷ rows) works can =
    (tt, operates_each (node.Filter info by input) rows works tt)
operates_each (node.Align info by input) (row ∷ rows) works can = absurd works
operates_each (node.GroupBy info by with input) (row ∷ rows) works can = absurd works
operates_each (node.Value info items input) (row ∷ rows) works can =
    ((can.0, (can.1.0, tt)), operates_each (node.Value info items input) rows works (can.0, can.1.1))
operates_each (node.Top info most column input) (row ∷ rows) works can = absurd works
operates_each (node.Join info left right) (row ∷ rows) works can = absurd works
operates_each (node.Union info left right) (row ∷ rows) works can = absurd works

-- ---- one after another

chained_if : (tree : NodeTree) (o : Option TimedRow) (xs : List TimedRow)
    → filter_map (λ row. row_made tree (Some row)) (cons_option o xs)
    ≡ cons_option (row_made tree o) (filter_map (λ row. row_made tree (Some row)) xs)
chained_if tree None xs = refl
chained_if tree (Some row) xs = refl

chained : (tree : NodeTree) (above : List NodeTree) (rows : List TimedRow)
    → filter_map (λ row. row_made tree (Some row)) (rows_flowing above rows) ≡ rows_flowing (tree ∷ above) rows
chained tree above [] = refl
chained tree above (row ∷ rows) =
    chained_if tree (row_flowing above (Some row)) (rows_flowing above rows)
    ∙ ap (cons_option (row_made tree (row_flowing above (Some row)))) (chained tree above rows)

all_flow : (rows : List TimedRow) → rows ≡ rows_flowing [] rows
all_flow [] = refl
all_flow (row ∷ rows) = ap (λ l. row ∷ l) (all_flow rows)

pub through_each : (above : List NodeTree) (rows : List TimedRow) → AllByRecursion WorksByRow above
    → rows_through above rows ≡ rows_flowing above rows
through_each [] rows work = all_flow rows
through_each (tree ∷ above) rows work =
    ap (λ (some : List TimedRow). operation_rows tree some []) (through_each above rows work.1)
    ∙ made_each tree (rows_flowing above rows) work.0
    ∙ chained tree above rows

doable_if : (tree : NodeTree) (o : Option TimedRow) (xs : List TimedRow) → HasOneSide tree
    → AllByRecursion (λ row. CanOperate tree (row ∷ []) []) (cons_option o xs)
    → IfSome o (λ one. HasOneSide tree × CanOperate tree (one ∷ []) [])
    × AllByRecursion (λ row. CanOperate tree (row ∷ []) []) xs
doable_if tree None xs one all = (tt, all)
doable_if tree (Some row) xs one all = ((one, all.0), all.1)

each_can : (tree : NodeTree) (above : List NodeTree) (rows : List TimedRow) → HasOneSide tree
    → AllByRecursion (λ row. CanOperate tree (row ∷ []) []) (rows_flowing above rows)
    → AllByRecursion (λ row. CanFlow above (Some row)) rows
    → AllByRecursion (λ row. CanFlow (tree ∷ above) (Some row)) rows
each_can tree above [] one all rest = tt
each_can tree above (row ∷ rows) one all rest =
    let here = doable_if tree (row_flowing above (Some row)) (rows_flowing above rows) one all in
    ((here.0, rest.0), each_can tree above rows one here.1 rest.1)

pub all_can_flow : (above : List NodeTree) (rows : List TimedRow) → AllByRecursion WorksByRow above
    → CanGoThrough above rows → AllByRecursion (λ row. CanFlow above (Some row)) rows
all_can_flow [] [] work can = tt
all_can_flow [] (row ∷ rows) work can = (tt, all_can_flow [] rows work tt)
all_can_flow (tree ∷ above) rows work can =
    each_can tree above rows can.0.0
    (subst (AllByRecursion (λ row. CanOperate tree (row ∷ []) [])) (through_each above rows work.1)
    (operates_each tree (rows_through above rows) work.0 can.0.1))
    (all_can_flow above rows work.1 can.1)

-- ---- exchanges

none_can : (above : List NodeTree) → CanFlow above None
none_can [] = tt
none_can (tree ∷ above) = (
  subst (λ o. IfSome o (λ one. HasOneSide tree × CanOperate tree (one ∷ []) [])) (sym (none_flows above)) tt,
  none_can above,
)

gone_if : (above : List NodeTree) (o : Option TimedRow) (rows : List TimedRow)
    → AllByRecursion (λ row. CanFlow above (Some row)) (cons_option o rows)
    → CanFlow above o × AllByRecursion (λ row. CanFlow above (Some row)) rows
gone_if above None rows all = (none_can above, all)
gone_if above (Some row) rows all = (all.0, all.1)

pub both_can_flow : (above : List NodeTree) (exchanges : List Exchange)
    → AllByRecursion (λ row. CanFlow above (Some row)) (gones exchanges)
    → AllByRecursion (λ row. CanFlow above (Some row)) (comes exchanges)
    → AllByRecursion (CanFlowBoth above) exchanges
both_can_flow above [] gone come = tt
both_can_flow above (exchange ∷ exchanges) gone come =
    let here = gone_if above exchange.gone (gones exchanges) gone in
    (record { gone = here.0; come = come.0 }, both_can_flow above exchanges here.1 come.1)

pub flowing_both : (above : List NodeTree) (rows others : List TimedRow)
    → rows_flowing above (rows ++ others) ≡ rows_flowing above rows ++ rows_flowing above others
flowing_both above rows others = filter_map-append (λ (row : TimedRow). row_flowing above (Some row)) rows others

-- ---- the nodes that a loop looks at

pub work_next : (nodes : List (Bor Node)) (i : ℕ) (d : Bor Node) → i < length nodes
    → WorksByRow (node_tree (get_or nodes i d).now) → AllByRecursion WorksByRow (trees_of (drop (i + 1) nodes))
    → AllByRecursion WorksByRow (trees_of (drop i nodes))
work_next [] i d h here rest = absurd (omega arith)
work_next (one ∷ nodes) zero d h here rest = (here, rest)
work_next (one ∷ nodes) (suc i) d h here rest =
    let next : suc i + 1 ≡ suc (i + 1) = omega arith in
    work_next nodes i d (omega arith) here
    (subst (λ n. AllByRecursion WorksByRow (trees_of (drop n (one ∷ nodes)))) next rest)

pub work_end : (nodes : List (Bor Node)) (i : ℕ) → length nodes ≤ i → AllByRecursion WorksByRow (trees_of (drop i nodes))
work_end [] zero h = tt
work_end [] (suc i) h = tt
work_end (one ∷ nodes) zero h = absurd (omega arith)
work_end (one ∷ nodes) (suc i) h = work_end nodes i (omega arith)
