-- A query without a fault: its tree's nodes have the columns of their rules.
use Rattle.std.proofs.lemmas.Bool.{not-false}
use Rattle.std.proofs.Common.{◌≡◌, ◌∙◌, ℕ, ℤ, Bool, true, false, not, cond, Option, Some, None, Ok, List, [], ◌∷◌}
use Rattle.std.proofs.Common.{◌++◌, map, subst, refl, ap, sym}
use Rattle.std.specs.Prelude.{is_none}
use Rattle.std.specs.List.{AllByRecursion, flat_map}
use Rattle.mon_value.specs.Grids.{seconds_of, IsDuration}
use Rattle.mon_value.specs.Same.{same_text}
use Rattle.mon_value.specs.declared.aligners.Aligner.{Aligner}
use Rattle.mon_value.specs.declared.aligners.Aligner.TheVariants as aligner
use Rattle.mon_value.specs.declared.columns.Column.{Column}
use Rattle.mon_value.specs.declared.schemas.Kind.{Kind}
use Rattle.mon_value.specs.declared.schemas.Kind.TheVariants as kind
use Rattle.mon_value.specs.declared.schemas.MetricSchema.{MetricSchema}
use Rattle.mon_value.specs.declared.schemas.TargetSchema.{TargetSchema}
use Rattle.mon_schema.specs.Faults.{is_kind_met}
use Rattle.mon_schema.specs.Names.{SchemaLists, metric_named, target_named}
use Rattle.mql_ast.specs.Trees as tree
use Rattle.mql_ast.specs.Trees.{BranchTrees, DeedTree, ItemTree, OpTree, PipeTree, PredicateTree, SourceTree}
use Rattle.mql_ast.specs.Rows.{HasShares}
use Rattle.mql_ast.specs.declared.names.Name.{Name}
use Rattle.mql_ast.specs.declared.operations.Aggregate.{Aggregate}
use Rattle.mql_ast.specs.declared.pipes.How.{How}
use Rattle.mql_ast.specs.declared.pipes.How.TheVariants as how
use Rattle.typed_trees.specs.declared.faults.TypeKind.TheVariants.{BranchColumns, UnknownMetric, UnknownSchema}
use Rattle.typed_trees.specs.declared.nodes.NodeInfo.{NodeInfo}
use Rattle.typed_trees.specs.Branches.{join_columns, pair_faults, same_columns, union_columns, wide_faults}
use Rattle.typed_trees.specs.Branches.{width_faults}
use Rattle.typed_trees.specs.Branches.{width_of}
use Rattle.typed_trees.specs.Times.{HasDuration, HasDurations, branch_ops, every_said, pipe_ops, pipe_order_faults}
use Rattle.typed_trees.specs.Times.{query_times, source_ops, times_faults}
use Rattle.typed_trees.specs.Faults.{fault_where}
use Rattle.typed_trees.specs.Fetches.{fetch_columns, fetch_faults, kind_of, unknown_faults}
use Rattle.typed_trees.specs.Groupings.{aggregate_faults, aggregate_name, group_faults}
use Rattle.typed_trees.specs.Items.{item_sum_faults, reserved_names, taken_faults, value_faults}
use Rattle.typed_trees.specs.Nodes as node
use Rattle.typed_trees.specs.Nodes.{NodeTree, TypedTree, columns_of}
use Rattle.mon_schema.specs.Fits.{IsHeld}
use Rattle.typed_trees.specs.Soundness.{AreBranchesSpelled, AreOpsSpelled, HasLiterals, IsDeedSpelled, IsPipeSpelled}
use Rattle.typed_trees.specs.Soundness.{IsSourceSpelled}
use Rattle.typed_trees.specs.Typing.{Part, align_faults, align_node, aligned_as, aligned_by_default, aligned_tree}
use Rattle.typed_trees.specs.Typing.{branch_faults, branch_node, branches_faults, branches_node, deed_faults, deed_part}
use Rattle.typed_trees.specs.Typing.{delta_faults, delta_of}
use Rattle.typed_trees.specs.Typing.{default_aligner, fetch_part, further_faults, further_node, ops_faults, ops_part}
use Rattle.typed_trees.specs.Typing.{pipe_faults, pipe_part, source_faults, source_part, typing}
use Rattle.typed_rows.proofs.AlignedValues.{Takes}
use Rattle.typed_rows.proofs.FetchedTrees.{ArePoints, columns_fetched_are}
use Rattle.typed_rows.proofs.JoinedRows.{IsNarrow, all-front, all-map}
use Rattle.typed_rows.proofs.SumBounds.{not_wide}
use Rattle.typed_trees.proofs.FetchColumnLemmas.{typed_without_faults, both_none}
use Rattle.typed_rows.proofs.TypedTrees.{AreRows}
use Rattle.mon_value.proofs.PlainLemmas.{nothing_is, same_item}
use Rattle.typed_rows.proofs.TypedGridLemmas.{no_test}

-- ---- parts

-- points of a metric of a kind
record ArePointsOf (held : SchemaLists) (of : Kind) (tree : NodeTree) : Type 0 where
  target : TargetSchema
  found : MetricSchema
  metric : IsHeld found
  kind_is : found.kind ≡ of
  points : ArePoints held target found tree

-- a part whose nodes have the columns of their rules
abbrev IsRuled : SchemaLists → Option Kind → NodeTree → Type 0
IsRuled held None tree = AreRows held tree
IsRuled held (Some of) tree = ArePointsOf held of tree

abbrev IsRuledPart : SchemaLists → Part → Type 0
IsRuledPart held part = IsRuled held part.points part.tree

-- ---- alignments

delta_met : (found : MetricSchema) → IsHeld found → found.kind ≡ kind.Delta
    → is_kind_met kind.Delta found.value ≡ true
delta_met found metric is =
    let P : Kind → Type 0 = λ of. is_kind_met of found.value ≡ true in
    subst P is metric.met

total_met : (found : MetricSchema) → IsHeld found → found.kind ≡ kind.Cumulative
    → is_kind_met kind.Cumulative found.value ≡ true
total_met found metric is =
    let P : Kind → Type 0 = λ of. is_kind_met of found.value ≡ true in
    subst P is metric.met

default_takes : (every : ℤ) (of : Kind) (found : MetricSchema) → IsHeld found → found.kind ≡ of
    → Takes (default_aligner every of) found.value
default_takes every kind.Gauge found metric is = tt
default_takes every kind.Delta found metric is = delta_met found metric is
default_takes every kind.Cumulative found metric is = total_met found metric is

default_duration : (every : ℤ) (of : Kind) → IsDuration every → IsDuration (seconds_of (default_aligner every of))
default_duration every kind.Gauge long = long
default_duration every kind.Delta long = long
default_duration every kind.Cumulative long = long

-- what isn't aligned is aligned by the step of the times
aligned_ruled : (held : SchemaLists) (every : ℤ) → IsDuration every → (points : Option Kind) (tree : NodeTree)
    → IsRuled held points tree
    → AreRows held (aligned_by_default every points tree)
aligned_ruled held every long None tree own = own
aligned_ruled held every long (Some of) tree own = record {
  target = own.target;
  found = own.found;
  metric = own.metric;
  takes = default_takes every of own.found own.metric own.kind_is;
  duration = default_duration every of long;
  points = own.points;
  is = refl;
}

-- the delta of a metric without a fault is one that its values can be taken into
delta_takes : (seconds : ℤ) (of : Kind) (at : ℕ) (found : MetricSchema) → IsHeld found → found.kind ≡ of
    → delta_faults of at ≡ [] → Takes (delta_of of seconds) found.value
delta_takes seconds kind.Gauge at found metric is none = absurd cc
delta_takes seconds kind.Delta at found metric is none = delta_met found metric is
delta_takes seconds kind.Cumulative at found metric is none = total_met found metric is

delta_duration : (seconds : ℤ) (of : Kind) → IsDuration seconds → IsDuration (seconds_of (delta_of of seconds))
delta_duration seconds kind.Gauge long = long
delta_duration seconds kind.Delta long = long
delta_duration seconds kind.Cumulative long = long

as_takes : (of : Kind) (by : Aligner) (at : ℕ) (found : MetricSchema) → IsHeld found → found.kind ≡ of
    → align_faults (Some of) at by ≡ [] → Takes (aligned_as (Some of) by) found.value
as_takes of (aligner.Delta seconds) at found metric is none = delta_takes seconds of at found metric is none
as_takes of (aligner.Increase seconds) at found metric is none = delta_takes seconds of at found metric is none
as_takes of (aligner.NextOlder seconds) at found metric is none = tt

as_duration : (of : Kind) (by : Aligner) → IsDuration (seconds_of by)
    → IsDuration (seconds_of (aligned_as (Some of) by))
as_duration of (aligner.Delta seconds) long = delta_duration seconds of long
as_duration of (aligner.Increase seconds) long = delta_duration seconds of long
as_duration of (aligner.NextOlder seconds) long = long

-- an alignment without a fault
align_ruled : (held : SchemaLists) (at : ℕ) (by : Aligner) → IsDuration (seconds_of by)
    → (points : Option Kind) (input : NodeTree) → IsRuled held points input
    → align_faults points at by ≡ [] → AreRows held (align_node (Some at) (aligned_as points by) input)
align_ruled held at by long None input own none = absurd cc
align_ruled held at by long (Some of) input own none = record {
  target = own.target;
  found = own.found;
  metric = own.metric;
  takes = as_takes of by at own.found own.metric own.kind_is none;
  duration = as_duration of by long;
  points = own.points;
  is = refl;
}

-- ---- filters

filter_ruled : (held : SchemaLists) (info : NodeInfo) (by : PredicateTree) (points : Option Kind) (input : NodeTree)
    → columns_of input ≡ info.columns
    → IsRuled held points input → IsRuled held points (node.Filter info by input)
filter_ruled held info by None input is own = (is, own)
filter_ruled held info by (Some of) input is own = record {
  target = own.target;
  found = own.found;
  metric = own.metric;
  kind_is = own.kind_is;
  points = (sym is ∙ columns_fetched_are held own.target own.found input own.points, own.points);
}

-- ---- operations

group_none : (columns : List Column) (names : List Name) (aggregates : List Aggregate)
    → group_faults columns names aggregates ≡ []
    → flat_map (aggregate_faults columns) aggregates ≡ []
group_none columns names aggregates none =
    (both_none (flat_map (unknown_faults columns) names) (flat_map (aggregate_faults columns) aggregates)
    (both_none (taken_faults reserved_names (names ++ map aggregate_name aggregates)) _ none).1).1

value_none : (columns : List Column) (items : List ItemTree) → value_faults columns items ≡ []
    → flat_map (item_sum_faults columns) items ≡ []
value_none columns items none = (both_none _ (flat_map (item_sum_faults columns) items) none).1

deed_ruled : (held : SchemaLists) (every : ℤ) → IsDuration every → (points : Option Kind) (input : NodeTree)
    → IsRuled held points input → (at : ℕ) (what : DeedTree)
    → IsDeedSpelled what → HasDuration what
    → deed_faults every (record { tree = input; points = points }) at what ≡ []
    → IsRuledPart held (deed_part held every (record { tree = input; points = points }) at what)
deed_ruled held every long points input own at (tree.Filter predicate) spelled duration none =
    filter_ruled held _ predicate points input refl own
deed_ruled held every long points input own at (tree.Align by) spelled duration none =
    align_ruled held at by duration points input own none
deed_ruled held every long points input own at (tree.GroupBy names aggregates) spelled duration none =
    let rows = aligned_by_default every points input in (
      record {
        names = names;
        aggregates = aggregates;
        counts = spelled;
        none = group_none (columns_of rows) names aggregates none;
        places = refl;
        makes = refl;
        is = refl;
      },
      aligned_ruled held every long points input own,
    )
deed_ruled held every long points input own at (tree.Value items) spelled duration none =
    let rows = aligned_by_default every points input in (
      record {
        literals = all-map (λ (item : ItemTree). HasLiterals item.sum × HasShares item.sum)
            (λ (item : ItemTree). HasLiterals item.sum) items (λ item p. p.0) spelled;
        shares = all-map (λ (item : ItemTree). HasLiterals item.sum × HasShares item.sum)
            (λ (item : ItemTree). HasShares item.sum) items (λ item p. p.1) spelled;
        none = value_none (columns_of rows) items none;
        is = refl;
      },
      aligned_ruled held every long points input own,
    )
deed_ruled held every long points input own at (tree.Top most column) spelled duration none =
    (refl, aligned_ruled held every long points input own)
deed_ruled held every long points input own at (tree.Every seconds) spelled duration none = own
deed_ruled held every long points input own at (tree.Within seconds) spelled duration none = own

abbrev OpsHaveDurations : List OpTree → Type 0
OpsHaveDurations ops = AllByRecursion (λ (op : OpTree). HasDuration op.what) ops

ops_ruled : (held : SchemaLists) (every : ℤ) → IsDuration every → (part : Part) → IsRuledPart held part
    → (ops : List OpTree) → AreOpsSpelled ops
    → OpsHaveDurations ops → ops_faults held every part ops ≡ [] → IsRuledPart held (ops_part held every part ops)
ops_ruled held every long part own [] spelled durations none = own
ops_ruled held every long part own (op ∷ ops) spelled durations none =
    let parts = both_none (deed_faults every part op.at op.what)
    (ops_faults held every (deed_part held every part op.at op.what) ops) none in
    ops_ruled held every long (deed_part held every part op.at op.what)
    (deed_ruled held every long part.points part.tree own op.at op.what spelled.0 durations.0 parts.0) ops
    spelled.1 durations.1 parts.1

-- ---- fetches

held_by : (b : Bool) (first : MetricSchema) (o : Option MetricSchema) (found : MetricSchema) → IsHeld first
    → ((m : MetricSchema) → o ≡ Some m → IsHeld m) → cond b (Some first) o ≡ Some found → IsHeld found
held_by true first o found own rest e = subst IsHeld (same_item first found e) own
held_by false first o found own rest e = rest found e

named_held : (name : List ℕ) (metrics : List MetricSchema) → AllByRecursion IsHeld metrics → (found : MetricSchema)
    → metric_named name metrics ≡ Some found
    → IsHeld found
named_held name [] all found e = absurd (nothing_is found e)
named_held name (m ∷ metrics) all found e =
    held_by (same_text name m.name) m (metric_named name metrics) found all.0
    (λ other is. named_held name metrics all.1 other is) e

fetch_by : (held : SchemaLists) → AllByRecursion IsHeld held.metrics → (info : NodeInfo) (schema metric : List ℕ)
    → (t : Option TargetSchema) → target_named schema held.targets ≡ t → (m : Option MetricSchema)
    → metric_named metric held.metrics ≡ m
    → is_none t ≡ false → is_none m ≡ false → info.columns ≡ fetch_columns t m
    → ArePointsOf held (kind_of m) (node.Fetch info schema metric)
fetch_by held metrics info schema metric None t_is m m_is t_none m_none is = absurd cc
fetch_by held metrics info schema metric (Some target) t_is None m_is t_none m_none is = absurd cc
fetch_by held metrics info schema metric (Some target) t_is (Some found) m_is t_none m_none is = record {
  target = target;
  found = found;
  metric = named_held metric held.metrics metrics found m_is;
  kind_is = refl;
  points = (is, (t_is, m_is));
}

fetch_ruled : (held : SchemaLists) → AllByRecursion IsHeld held.metrics → (at : ℕ) (schema metric : Name)
    → fetch_faults held at schema metric ≡ []
    → IsRuledPart held (fetch_part held at schema metric)
fetch_ruled held metrics at schema metric none =
    let first = both_none (fault_where (is_none (target_named schema.text held.targets)) schema.at UnknownSchema) _
    none in
    let second = both_none (fault_where (is_none (metric_named metric.text held.metrics)) metric.at UnknownMetric) _
    first.1 in
    fetch_by held metrics _ schema.text metric.text (target_named schema.text held.targets) refl
    (metric_named metric.text held.metrics) refl
    (no_test _ _ _ first.0) (no_test _ _ _ second.0) refl

-- ---- joins and unions

narrow_columns : (at : ℕ) (columns : List Column) → wide_faults at columns ≡ [] → AllByRecursion IsNarrow columns
narrow_columns at [] none = tt
narrow_columns at (c ∷ cs) none =
    let parts = both_none (width_faults at (width_of c)) (wide_faults at cs) none in
    (not_wide at (width_of c) parts.0, narrow_columns at cs parts.1)

branch_ruled : (held : SchemaLists) (by : How) (at : ℕ) (left right : NodeTree) → AreRows held left
    → AreRows held right
    → branch_faults held by at (columns_of left) (columns_of right) ≡ []
    → AreRows held (branch_node held by at left right)
branch_ruled held how.Join at left right own other none =
    let parts = both_none (pair_faults at (columns_of left) (columns_of right)) _ none in (
      record {
        narrow = narrow_columns at (join_columns held (columns_of left) (columns_of right)) parts.1;
        is =
            refl;
      },
      (own, other),
    )
branch_ruled held how.Union at left right own other none =
    let parts = both_none (fault_where (not (same_columns (columns_of left) (columns_of right))) at BranchColumns) _
    none in (
      record {
        same = not-false (same_columns (columns_of left) (columns_of right)) (no_test _ _ _ parts.0);
        narrow = narrow_columns at (union_columns held (columns_of left) (columns_of right)) parts.1;
        is = refl;
      },
      (own, other),
    )

-- ---- pipes

mutual
  pipe_ruled : (held : SchemaLists) → AllByRecursion IsHeld held.metrics → (every : ℤ) → IsDuration every
      → (pipe : PipeTree) → IsPipeSpelled pipe
      → OpsHaveDurations (pipe_ops pipe) → pipe_faults held every pipe ≡ []
      → IsRuledPart held (pipe_part held every pipe)
  pipe_ruled held metrics every long (tree.Flow source ops) spelled durations none =
      let parts = both_none (source_faults held every source)
      (ops_faults held every (source_part held every source) ops) none in
      let times = all-front (λ (op : OpTree). HasDuration op.what) (source_ops source) ops durations in
      ops_ruled held every long (source_part held every source)
      (source_ruled held metrics every long source spelled.0 times.0 parts.0) ops spelled.1
      times.1 parts.1

  source_ruled : (held : SchemaLists) → AllByRecursion IsHeld held.metrics → (every : ℤ) → IsDuration every
      → (source : SourceTree) → IsSourceSpelled source
      → OpsHaveDurations (source_ops source) → source_faults held every source ≡ []
      → IsRuledPart held (source_part held every source)
  source_ruled held metrics every long (tree.Fetch at schema metric) spelled durations none =
      fetch_ruled held metrics at schema metric none
  source_ruled held metrics every long (tree.Branches at pipes by by_at) spelled durations none =
      branches_ruled held metrics every long by by_at pipes spelled durations none

  branches_ruled : (held : SchemaLists) → AllByRecursion IsHeld held.metrics → (every : ℤ) → IsDuration every
      → (by : How) (at : ℕ) (pipes : BranchTrees)
      → AreBranchesSpelled pipes → OpsHaveDurations (branch_ops pipes) → branches_faults held every by at pipes ≡ []
      → AreRows held (branches_node held every by at pipes)
  branches_ruled held metrics every long by at tree.NoBranch spelled durations none = tt
  branches_ruled held metrics every long by at (tree.Branch first rest) spelled durations none =
      let parts = both_none (pipe_faults held every first) _ none in
      let times = all-front (λ (op : OpTree). HasDuration op.what) (pipe_ops first) (branch_ops rest) durations in
      let part = pipe_part held every first in
      further_ruled held metrics every long by at (aligned_tree every part)
      (aligned_ruled held every long part.points part.tree
      (pipe_ruled held metrics every long first spelled.0 times.0 parts.0)) rest spelled.1 times.1
      parts.1

  further_ruled : (held : SchemaLists) → AllByRecursion IsHeld held.metrics → (every : ℤ) → IsDuration every
      → (by : How) (at : ℕ) (left : NodeTree)
      → AreRows held left → (pipes : BranchTrees) → AreBranchesSpelled pipes → OpsHaveDurations (branch_ops pipes)
      → further_faults held every by at left pipes ≡ [] → AreRows held (further_node held every by at left pipes)
  further_ruled held metrics every long by at left own tree.NoBranch spelled durations none = own
  further_ruled held metrics every long by at left own (tree.Branch next rest) spelled durations none =
      let part = pipe_part held every next in
      let right = aligned_tree every part in
      let parts = both_none (pipe_faults held every next) _ none in
      let more = both_none (branch_faults held by at (columns_of left) (columns_of right))
      (further_faults held every by at (branch_node held by at left right) rest) parts.1 in
      let times = all-front (λ (op : OpTree). HasDuration op.what) (pipe_ops next) (branch_ops rest) durations in
      let other = aligned_ruled held every long part.points part.tree
      (pipe_ruled held metrics every long next spelled.0 times.0 parts.0) in
      further_ruled held metrics every long by at (branch_node held by at left right)
      (branch_ruled held by at left right own other more.0) rest spelled.1
      times.1 more.1

-- ---- whole queries

-- the nodes of a typed query have the columns of their rules
pub query_ruled : (held : SchemaLists) → AllByRecursion IsHeld held.metrics → (query : PipeTree)
    → IsPipeSpelled query → HasDurations query
    → (typed : TypedTree) → typing held query ≡ Ok typed → IsDuration typed.every → AreRows held typed.tree
query_ruled held metrics query spelled durations typed is long =
    let from = typed_without_faults held query typed is in
    let every = every_said (query_times query) in
    let same : typed.every ≡ every = ap (λ (t : TypedTree). t.every) (sym from.1) in
    let step : IsDuration every = subst IsDuration same long in
    let first = both_none (pipe_order_faults false query) _ from.0 in
    let second = both_none (times_faults (query_times query)) (pipe_faults held every query) first.1 in
    let part = pipe_part held every query in
    let P : TypedTree → Type 0 = λ t. AreRows held t.tree in
    subst P from.1
    (aligned_ruled held every step part.points part.tree
    (pipe_ruled held metrics every step query spelled durations second.1))
