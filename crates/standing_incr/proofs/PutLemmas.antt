-- A row that is put into the tables: what its groups need, and that the tables stand with it.
use Rattle.std.proofs.Common.{◌≡◌, ◌∙◌, ◌++◌, ◌≤◌, ◌≤ℤ◌, ◌^◌, ℕ, ℤ, pos, true, Option, Some, None, IfSome, List, [], ◌∷◌, length, sym, ap, subst}
use Rattle.std.proofs.Common.{arith}
use Rattle.std.specs.Prelude.{IsPermutation}
use Rattle.std.specs.List.{AllByRecursion}
use Rattle.std.proofs.lemmas.Bool.{false≢true}
use Rattle.std.proofs.lemmas.List.Sorted.{IsPermutation-sym, IsPermutation-trans, length_permutation}
use Rattle.mon_value.specs.Groups.{CanGroup}
use Rattle.mon_value.specs.Values.{greatest_sum}
use Rattle.mon_value.specs.declared.aggregates.Aggregate.{Aggregate}
use Rattle.mon_value.specs.declared.columns.Column.{Column}
use Rattle.mon_value.specs.declared.grids.Grid.{Grid}
use Rattle.mon_value.specs.declared.limits.TheConstants.{ROW_BITS}
use Rattle.mon_value.specs.declared.rows.Row.{Row}
use Rattle.mon_value.specs.declared.tables.TimedRow.{TimedRow}
use Rattle.mon_value.proofs.PlainLemmas.{all_front, filter_map-few}
use Rattle.mon_fold.specs.PartialGroups.{GroupsSoFar, partial_groups, parts_of}
use Rattle.typed_trees.specs.Meaning.{grid_of, load, load_of, rows_meant}
use Rattle.typed_trees.specs.Nodes as node
use Rattle.typed_trees.specs.Nodes.{NodeTree, TypedTree, columns_of}
use Rattle.typed_trees.specs.Soundness.{IsEvaluable, IsTyped, IsWithinRows}
use Rattle.typed_rows.proofs.QueryLaws.{typed_evaluable}
use Rattle.mon_meaning.specs.Incremental.{is_one_path}
use Rattle.mon_meaning.specs.Standing.{AreGroupsOf}
use Rattle.mon_meaning.proofs.OperationOrders.{CanGroup-permutation}
use Rattle.kept_groups.specs.Changes as changed
use Rattle.kept_groups.specs.Changes.{AreApart, CanChange}
use Rattle.kept_groups.specs.declared.changes.Change.{Change}
use Rattle.kept_laws.specs.Flowing.{WorksByRow}
use Rattle.kept_exchanges.specs.Exchanges.{IsExchanged, comes, gones}
use Rattle.kept_exchanges.specs.Flows.{CanFlow, CanFlowBoth, row_flowing, rows_flowing}
use Rattle.kept_exchanges.specs.Traded.{AreChangesOf}
use Rattle.kept_exchanges.specs.declared.exchanges.Exchange.{Exchange}
use Rattle.standing_incr.specs.KeptTables.{AreGroupsAt, AreTablesOf, aligned_part, grouped_part}
use Rattle.standing_incr.specs.Putting.{AreExchangesOf, AreSidesOf, CanRegroup, PartsPut}
use Rattle.standing_incr.specs.Ways.{CanGoThrough, nodes_above, rows_through}
use Rattle.standing_incr.specs.declared.tables.Sides.{Sides}
use Rattle.standing_incr.specs.declared.tables.Tables.{Tables}
use Rattle.standing_incr.specs.declared.ways.Stop.TheVariants as stop
use Rattle.standing_incr.proofs.FlowingLemmas.{all_can_flow, both_can_flow, flowing_both, through_each}
use Rattle.standing_incr.proofs.ThroughLemmas.{go_through}

fewer : (a b c : ℕ) → a ≤ b → b ≤ c → a ≤ c
fewer a b c h g = omega arith

-- the rows of an alignment are at most its load
meant_few : (grid : Grid) (rows : List Row) (tree : NodeTree) → is_one_path tree ≡ true
    → length (rows_meant grid (aligned_part tree) rows) ≤ load_of grid tree rows
meant_few grid rows (node.Fetch info schema metric) path = omega arith
meant_few grid rows (node.Filter info by input) path = meant_few grid rows input path
meant_few grid rows (node.Align info by input) path = omega arith
meant_few grid rows (node.GroupBy info by with input) path = meant_few grid rows input path
meant_few grid rows (node.Value info items input) path = meant_few grid rows input path
meant_few grid rows (node.Top info most column input) path = meant_few grid rows input path
meant_few grid rows (node.Join info left right) path = absurd (false≢true path)
meant_few grid rows (node.Union info left right) path = absurd (false≢true path)

module _ (grid : Grid) (held more : List Row) (exchanges : List Exchange) (others : List TimedRow) where
  abbrev Leads : NodeTree → Type 0
  Leads tree =
      IsPermutation (rows_meant grid (aligned_part tree) held) (gones exchanges ++ others)
      × IsPermutation (rows_meant grid (aligned_part tree) more) (comes exchanges ++ others)

  module _ (by : List ℕ) (with : List Aggregate) (input : NodeTree) (groups : GroupsSoFar)
      (are : AreGroupsOf (columns_of input) by with (rows_meant grid input held) groups)
      (before : CanGoThrough (nodes_above stop.Alignment input) (gones exchanges ++ others)
      × IsPermutation (rows_meant grid input held) (rows_through (nodes_above stop.Alignment input)
      (gones exchanges ++ others)))
      (after : CanGoThrough (nodes_above stop.Alignment input) (comes exchanges ++ others)
      × IsPermutation (rows_meant grid input more) (rows_through (nodes_above stop.Alignment input)
      (comes exchanges ++ others)))
      (work : AllByRecursion WorksByRow (nodes_above stop.Alignment input)) where
    abbrev above : List NodeTree
    above = nodes_above stop.Alignment input

    flows : (some : List TimedRow)
        → rows_through above (some ++ others) ≡ rows_flowing above some ++ rows_flowing above others
    flows some = through_each above (some ++ others) work ∙ flowing_both above some others

    pub meant_before : IsPermutation (rows_meant grid input held)
        (rows_flowing above (gones exchanges) ++ rows_flowing above others)
    meant_before = subst (IsPermutation (rows_meant grid input held)) (flows (gones exchanges)) before.1

    pub meant_after : IsPermutation (rows_meant grid input more)
        (rows_flowing above (comes exchanges) ++ rows_flowing above others)
    meant_after = subst (IsPermutation (rows_meant grid input more)) (flows (comes exchanges)) after.1

    can_flow : (some : List TimedRow) → CanGoThrough above (some ++ others)
        → AllByRecursion (λ row. CanFlow above (Some row)) some
    can_flow some can =
        all_front (λ row. CanFlow above (Some row)) some others (all_can_flow above (some ++ others) work can)

    pub both_flow : AllByRecursion (CanFlowBoth above) exchanges
    both_flow =
        both_can_flow above exchanges (can_flow (gones exchanges) before.0) (can_flow (comes exchanges) after.0)

    few_flow : (some : List TimedRow) → length (rows_flowing above some ++ rows_flowing above others)
        ≤ length (some ++ others)
    few_flow some =
        subst (λ (rows : List TimedRow). length rows ≤ length (some ++ others)) (flowing_both above some others)
        (filter_map-few (λ (row : TimedRow). row_flowing above (Some row)) (some ++ others))

    module _ (few : length (comes exchanges ++ others) ≤ greatest_sum)
        (can_before : CanGroup (columns_of input) by with (rows_meant grid input held))
        (can_after : CanGroup (columns_of input) by with (rows_meant grid input more)) (changes : List Change)
        (of : AreChangesOf above by with groups.groups exchanges changes) (apart : AreApart changes) where
      goes : IsPermutation (rows_meant grid input held) (changed.gones changes ++ rows_flowing above others)
      goes =
          subst (λ (rows : List TimedRow). IsPermutation (rows_meant grid input held) (rows ++ rows_flowing above others))
          (sym of.gone) meant_before

      come : IsPermutation (rows_meant grid input more) (changed.comes changes ++ rows_flowing above others)
      come =
          subst (λ (rows : List TimedRow). IsPermutation (rows_meant grid input more) (rows ++ rows_flowing above others))
          (sym of.come) meant_after

      pub can_change : CanChange (columns_of input) by with (rows_flowing above others) changes groups.groups
      can_change = record {
        are = record {
          taken = are.taken;
          rows_are = IsPermutation-trans _ _ _ (IsPermutation-sym _ _ goes) are.rows_are;
          groups_are = ap (λ (some : GroupsSoFar). some.groups) are.groups_are;
        };
        before = CanGroup-permutation (columns_of input) by with _ _ goes can_before;
        after = CanGroup-permutation (columns_of input) by with _ _ come can_after;
        few =
            subst (λ (rows : List TimedRow). length (rows ++ rows_flowing above others) ≤ greatest_sum) (sym of.come)
            (fewer _ _ _ (few_flow (comes exchanges)) few);
        made = of.made;
        apart = apart;
      }

  -- the groups of a tree can take exchanges that lead from rows to others
  module _ (few : length (comes exchanges ++ others) ≤ greatest_sum) where
    pub can_regroup : (tree : NodeTree) → is_one_path tree ≡ true → IsEvaluable grid tree held
        → IsWithinRows (load_of grid tree held) → IsEvaluable grid tree more → IsWithinRows (load_of grid tree more)
        → Leads tree → (groups : GroupsSoFar) → AreGroupsAt grid held (grouped_part tree) (Some groups)
        → CanRegroup others (grouped_part tree) exchanges groups.groups
    can_regroup (node.Fetch info schema metric) path can small can_more small_more leads groups are = absurd are
    can_regroup (node.Filter info by input) path can small can_more small_more leads groups are =
        can_regroup input path can small can_more small_more leads groups are
    can_regroup (node.Align info by input) path can small can_more small_more leads groups are = absurd are
    can_regroup (node.GroupBy info by with input) path can small can_more small_more leads groups are =
        let before = go_through grid held input stop.Alignment path can.1 small (gones exchanges ++ others) leads.0 in
        let after =
        go_through grid more input stop.Alignment path can_more.1 small_more (comes exchanges ++ others) leads.1 in
        λ work. (
          both_flow by with input groups are before after work,
          λ changes of apart.
              can_change by with input groups are before after work few (can.0 small) (can_more.0 small_more) changes of
              apart,
        )
    can_regroup (node.Value info items input) path can small can_more small_more leads groups are =
        can_regroup input path can.1.1 small can_more.1.1 small_more leads groups are
    can_regroup (node.Top info most column input) path can small can_more small_more leads groups are =
        can_regroup input path can small can_more small_more leads groups are
    can_regroup (node.Join info left right) path can small can_more small_more leads groups are = absurd (false≢true path)
    can_regroup (node.Union info left right) path can small can_more small_more leads groups are =
        absurd (false≢true path)

  parts_are : (columns : List Column) (by : List ℕ) (with : List Aggregate) (taken fresh : List TimedRow)
      (groups new : GroupsSoFar) → groups ≡ parts_of columns by with taken → new.columns ≡ groups.columns
      → new.kinds ≡ groups.kinds → new.groups ≡ partial_groups by with fresh → new ≡ parts_of columns by with fresh
  parts_are columns by with taken fresh groups new is one two three =
      λ i. record {
        columns = (one ∙ ap (λ (some : GroupsSoFar). some.columns) is) i;
        kinds = (two ∙ ap (λ (some : GroupsSoFar). some.kinds) is) i;
        groups = three i;
      }

  -- the parts that took them are those of the rows that they lead to
  pub parts_stand : (tree : NodeTree) → is_one_path tree ≡ true → IsEvaluable grid tree held
      → IsWithinRows (load_of grid tree held) → IsEvaluable grid tree more → IsWithinRows (load_of grid tree more)
      → Leads tree → (parts new : Option GroupsSoFar) → AreGroupsAt grid held (grouped_part tree) parts
      → PartsPut others (grouped_part tree) exchanges parts new → AreGroupsAt grid more (grouped_part tree) new
  parts_stand (node.Fetch info schema metric) path can small can_more small_more leads None new are put =
      subst (AreGroupsAt grid more (node.Fetch info schema metric)) (sym put) tt
  parts_stand (node.Fetch info schema metric) path can small can_more small_more leads (Some groups) new are put =
      absurd are
  parts_stand (node.Filter info by input) path can small can_more small_more leads parts new are put =
      parts_stand input path can small can_more small_more leads parts new are put
  parts_stand (node.Align info by input) path can small can_more small_more leads None new are put =
      subst (AreGroupsAt grid more (node.Align info by input)) (sym put) tt
  parts_stand (node.Align info by input) path can small can_more small_more leads (Some groups) new are put = absurd are
  parts_stand (node.GroupBy info by with input) path can small can_more small_more leads None new are put = absurd are
  parts_stand (node.GroupBy info by with input) path can small can_more small_more leads (Some groups) None are put =
      absurd put
  parts_stand (node.GroupBy info by with input) path can small can_more small_more leads (Some groups) (Some new) are put =
      let after =
      go_through grid more input stop.Alignment path can_more.1 small_more (comes exchanges ++ others) leads.1 in
      let before = go_through grid held input stop.Alignment path can.1 small (gones exchanges ++ others) leads.0 in
      let regrouped = put.2 in
      record {
        taken = regrouped.are.taken;
        rows_are =
            IsPermutation-trans _ _ _ (meant_after by with input groups are before after regrouped.work)
            regrouped.are.rows_are;
        groups_are =
            parts_are (columns_of input) by with are.taken regrouped.are.taken groups new are.groups_are put.0 put.1
            regrouped.are.groups_are;
      }
  parts_stand (node.Value info items input) path can small can_more small_more leads parts new are put =
      parts_stand input path can.1.1 small can_more.1.1 small_more leads parts new are put
  parts_stand (node.Top info most column input) path can small can_more small_more leads parts new are put =
      parts_stand input path can small can_more small_more leads parts new are put
  parts_stand (node.Join info left right) path can small can_more small_more leads parts new are put =
      absurd (false≢true path)
  parts_stand (node.Union info left right) path can small can_more small_more leads parts new are put =
      absurd (false≢true path)

-- ---- the tables

few_rows : (n : ℕ) → n ≤ 2 ^ ROW_BITS → n ≤ greatest_sum
few_rows n h = omega arith

module _ (typed : TypedTree) (moment : ℤ) (held : List Row) (row : Row) (path : is_one_path typed.tree ≡ true)
    (from : pos 0 ≤ℤ moment) (of : IsTyped typed (held ++ row ∷ [])) (of_held : IsTyped typed held) (tables : Tables)
    (are : AreTablesOf typed moment held tables) (sides : Sides) (so : AreSidesOf typed moment held row sides) where
  abbrev more : List Row
  more = held ++ row ∷ []

  abbrev grid : Grid
  grid = grid_of typed moment

  abbrev lead : AreExchangesOf typed moment held more sides.exchanges.items
  lead = so.lead

  small : IsWithinRows (load typed held moment)
  small = subst IsWithinRows are.load are.within

  small_more : IsWithinRows (load typed more moment)
  small_more = subst IsWithinRows so.load_is so.within

  few_come : length (comes sides.exchanges.items ++ lead.others) ≤ greatest_sum
  few_come =
      let same = length_permutation _ _ lead.after in
      let few = meant_few grid more typed.tree path in
      let most = small_more in
      few_rows _ (omega arith)

  can_by : (parts : Option GroupsSoFar) → AreGroupsAt grid held (grouped_part typed.tree) parts
      → IfSome parts (λ groups. CanRegroup lead.others (grouped_part typed.tree) sides.exchanges.items groups.groups)
  can_by None at = tt
  can_by (Some groups) at =
      can_regroup grid held more sides.exchanges.items lead.others few_come typed.tree path
      (typed_evaluable typed held moment of_held from) small (typed_evaluable typed more moment of from) small_more
      (lead.before, lead.after) groups at

  pub groups_can : IfSome tables.parts
      (λ groups. CanRegroup lead.others (grouped_part typed.tree) sides.exchanges.items groups.groups)
  groups_can = can_by tables.parts are.parts

  -- tables with what is exchanged stand for the rows with the row more
  pub tables_stand : (new : Tables) → new.load ≡ sides.load → new.table.columns ≡ tables.table.columns
      → IsExchanged sides.exchanges.items tables.table.rows new.table.rows
      → PartsPut lead.others (grouped_part typed.tree) sides.exchanges.items tables.parts new.parts
      → AreTablesOf typed moment more new
  tables_stand new loaded columns exchanged put = record {
    load = loaded ∙ so.load_is;
    within = subst (λ n. n ≤ 2 ^ ROW_BITS) (sym loaded) so.within;
    table = record {
      columns_are = columns ∙ are.table.columns_are;
      rows_are =
          IsPermutation-trans _ _ _ lead.after
          (exchanged lead.others (IsPermutation-trans _ _ _ (IsPermutation-sym _ _ lead.before) are.table.rows_are));
    };
    parts =
        parts_stand grid held more sides.exchanges.items lead.others typed.tree path
        (typed_evaluable typed held moment of_held from) small (typed_evaluable typed more moment of from) small_more
        (lead.before, lead.after) tables.parts new.parts are.parts put;
  }
