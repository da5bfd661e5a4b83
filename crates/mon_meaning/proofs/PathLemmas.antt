-- The way down a tree, and how many nodes it has.
use Rattle.std.proofs.Common.{◌≡◌, ◌≤◌, ◌+◌, List, [], ◌∷◌, ◌++◌, refl, subst, arith}
use Rattle.mon_value.specs.declared.grids.Grid.{Grid}
use Rattle.typed_trees.specs.Nodes as node
use Rattle.typed_trees.specs.Nodes.{NodeTree}
use Rattle.typed_trees.specs.ExplanationParts.{nodes}
use Rattle.mon_meaning.specs.within.Paths.{Leads, first_input, own_load}
use Rattle.mon_meaning.specs.within.Readiness.{IsNodeReady}
use Rattle.mon_meaning.specs.within.SeriesMeaning.{SeriesGroup, load_by_series}

-- a node more
pub Leads-push : (above : List NodeTree) (top end : NodeTree) → Leads above top end → Leads (above ++ end ∷ []) top
    (first_input end)
Leads-push [] top end e = (e, refl)
Leads-push (node ∷ above) top end leads = (leads.0, Leads-push above (first_input node) end leads.1)

-- the last node taken off
pub Leads-pop : (above : List NodeTree) (last top end : NodeTree) → Leads (above ++ last ∷ []) top end
    → Leads above top last × (first_input last ≡ end)
Leads-pop [] last top end leads = (leads.0, leads.1)
Leads-pop (node ∷ above) last top end leads =
    let rest = Leads-pop above last (first_input node) end leads.1 in ((leads.0, rest.0), rest.1)

first_ready : (grid : Grid) (series : List SeriesGroup) (tree : NodeTree) → IsNodeReady grid tree series
    → IsNodeReady grid (first_input tree) series
first_ready grid series (node.Fetch info schema metric) ready = ready
first_ready grid series (node.Filter info by input) ready = ready
first_ready grid series (node.Align info by input) ready = ready
first_ready grid series (node.GroupBy info by with input) ready = ready.1
first_ready grid series (node.Value info items input) ready = ready.1.1
first_ready grid series (node.Top info most column input) ready = ready
first_ready grid series (node.Join info left right) ready = ready.1.1.0
first_ready grid series (node.Union info left right) ready = ready.0

-- what a tree can be evaluated to, each node on the way down can
pub ready_below : (grid : Grid) (series : List SeriesGroup) (above : List NodeTree) (top end : NodeTree)
    → Leads above top end
    → IsNodeReady grid top series → IsNodeReady grid end series
ready_below grid series [] top end e ready = subst (λ tree. IsNodeReady grid tree series) e ready
ready_below grid series (node ∷ above) top end leads ready =
    ready_below grid series above (first_input node) end leads.1
    (first_ready grid series node (subst (λ tree. IsNodeReady grid tree series) leads.0 ready))

first_smaller : (tree : NodeTree) → nodes (first_input tree) ≤ nodes tree
first_smaller (node.Fetch info schema metric) = omega arith
first_smaller (node.Filter info by input) = omega arith
first_smaller (node.Align info by input) = omega arith
first_smaller (node.GroupBy info by with input) = omega arith
first_smaller (node.Value info items input) = omega arith
first_smaller (node.Top info most column input) = omega arith
first_smaller (node.Join info left right) = omega arith
first_smaller (node.Union info left right) = omega arith

pub smaller_below : (above : List NodeTree) (top end : NodeTree) → Leads above top end → nodes end ≤ nodes top
smaller_below [] top end e = rw e (omega arith)
smaller_below (node ∷ above) top end leads =
    let rest = smaller_below above (first_input node) end leads.1 in
    rw leads.0 (omega (arith, rest, first_smaller node))

-- the load of a tree is that of what flows in first, and its own
pub own_loads : (grid : Grid) (series : List SeriesGroup) (tree : NodeTree)
    → load_by_series grid tree series ≡ load_by_series grid (first_input tree) series + own_load grid tree series
own_loads grid series (node.Fetch info schema metric) = omega arith
own_loads grid series (node.Filter info by input) = omega arith
own_loads grid series (node.Align info by input) = omega arith
own_loads grid series (node.GroupBy info by with input) = omega arith
own_loads grid series (node.Value info items input) = omega arith
own_loads grid series (node.Top info most column input) = omega arith
own_loads grid series (node.Join info left right) = omega arith
own_loads grid series (node.Union info left right) = omega arith
