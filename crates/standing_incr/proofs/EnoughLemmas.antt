-- What a typed query means over what is held of rows is what it means over all of them.
use Rattle.std.proofs.Common.{◌≡◌, ◌≤ℤ◌, ◌≤◌, ℕ, ℤ, pos, true, List, [], ◌∷◌, Result, Ok, Err, subst, arith}
use Rattle.std.specs.Prelude.{IsPermutation, nat_le}
use Rattle.std.specs.List.{AllByRecursion}
use Rattle.std.proofs.lemmas.Bool.{and_parts, false≢true}
use Rattle.std.proofs.lemmas.Int.{ints}
use Rattle.std.proofs.lemmas.List.Sorted.{IsPermutation-sym, IsPermutation-trans}
use Rattle.mon_value.specs.LeafHistories.{IsSource}
use Rattle.mon_value.specs.declared.refusals.Refusal.{Refusal}
use Rattle.mon_value.specs.declared.refusals.Refusal.TheVariants as refusal
use Rattle.mon_value.specs.declared.rows.Row.{Row}
use Rattle.mon_value.specs.declared.tables.Table.{Table}
use Rattle.mon_schema.specs.Fits.{fits}
use Rattle.mon_schema.specs.Names.{SchemaLists}
use Rattle.typed_trees.proofs.FetchColumnLemmas.{fetches_have_columns}
use Rattle.typed_trees.specs.Meaning.{load, meaning}
use Rattle.typed_trees.specs.Nodes as node
use Rattle.typed_trees.specs.Nodes.{NodeTree, TypedTree}
use Rattle.typed_trees.specs.Plans.{HasFetchColumns, fetches}
use Rattle.typed_trees.specs.Soundness.{IsTyped}
use Rattle.typed_rows.proofs.TypedGridLemmas.{typed_grid}
use Rattle.mon_meaning.specs.Central.{IsAnswer}
use Rattle.mon_meaning.specs.Incremental.{group_count, is_incremental, is_one_path}
use Rattle.mon_meaning.specs.declared.meter.OverLimit.{OverLimit}
use Rattle.mon_meaning.proofs.FlowLemmas.{flows_met}
use Rattle.standing_incr.specs.HeldRows.{held_of}
use Rattle.standing_incr.proofs.HeldLemmas.{FlowMeets, TreeFlowMeets, loads_held, rows_held}

rows_flow : (held : SchemaLists) (input : NodeTree) → HasFetchColumns held input → (rows : List Row)
    → AllByRecursion (λ row. fits held row ≡ true) rows → FlowMeets input rows
rows_flow held input has [] all = tt
rows_flow held input has (row ∷ rows) all =
    ((λ flow. flows_met held row all.0 input has flow), rows_flow held input has rows all.1)

tree_flows : (held : SchemaLists) (rows : List Row) → AllByRecursion (λ row. fits held row ≡ true) rows
    → (tree : NodeTree) → is_one_path tree ≡ true → AllByRecursion (HasFetchColumns held) (fetches tree)
    → TreeFlowMeets tree rows
tree_flows held rows fit (node.Fetch info schema metric) path has = tt
tree_flows held rows fit (node.Filter info by input) path has = tree_flows held rows fit input path has
tree_flows held rows fit (node.Align info by input) path has = rows_flow held input has.0 rows fit
tree_flows held rows fit (node.GroupBy info by with input) path has = tree_flows held rows fit input path has
tree_flows held rows fit (node.Value info items input) path has = tree_flows held rows fit input path has
tree_flows held rows fit (node.Top info most column input) path has = tree_flows held rows fit input path has
tree_flows held rows fit (node.Join info left right) path has = absurd (false≢true path)
tree_flows held rows fit (node.Union info left right) path has = absurd (false≢true path)

pub one_path : (tree : NodeTree) → is_incremental tree ≡ true → is_one_path tree ≡ true
one_path tree e = (and_parts (is_one_path tree) (nat_le (group_count tree) 1) e).0

module _ (typed : TypedTree) (rows : List Row) (moment later : ℤ) (incremental : is_incremental typed.tree ≡ true)
    (of : IsTyped typed rows) (source : IsSource rows) (from : pos 0 ≤ℤ moment) (order : moment ≤ℤ later) where
  flow : TreeFlowMeets typed.tree rows
  flow =
      tree_flows of.held rows of.fit typed.tree (one_path typed.tree incremental)
      (fetches_have_columns of.held of.query typed of.is)

  pub meaning_enough : IsPermutation (meaning typed (held_of typed moment rows) later) (meaning typed rows later)
  meaning_enough =
      rows_held typed moment later (typed_grid of.held of.query typed later of.durations of.is (omega (arith, ints)))
      order typed.tree (one_path typed.tree incremental) rows source flow

  pub load_enough : load typed (held_of typed moment rows) later ≡ load typed rows later
  load_enough =
      loads_held typed moment later (typed_grid of.held of.query typed later of.durations of.is (omega (arith, ints)))
      order typed.tree (one_path typed.tree incremental) rows source flow

  pub answer_enough : (limit : ℕ) (answer : Result Table (Refusal OverLimit))
      → IsAnswer typed (held_of typed moment rows) later limit answer → IsAnswer typed rows later limit answer
  answer_enough limit (Ok table) is = record {
    columns = is.columns;
    rows =
        IsPermutation-trans _ _ _ (IsPermutation-sym _ _ meaning_enough) is.rows;
    within = subst (λ (n : ℕ). n ≤ limit) load_enough is.within;
  }
  answer_enough limit (Err (refusal.Fault over)) is = record {
    above = is.above;
    most = subst (λ (n : ℕ). over.load ≤ n) load_enough is.most;
  }
  answer_enough limit (Err refusal.OutOfMemory) is = tt
