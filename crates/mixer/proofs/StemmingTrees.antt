-- The rows of a tree stem from homes of the rows that are read, which say what is fixed there, where what is done brings
-- together rows of one home.
use Rattle.std.proofs.Common.{◌≡◌, ◌∙◌, ℕ, Bool, true, Some, List, ◌++◌, filter, sym, ap, subst}
use Rattle.std.specs.Prelude.{slice_get}
use Rattle.std.specs.List.{AllByRecursion, filter_map, flat_map}
use Rattle.mon_value.specs.Groups.{group_rows}
use Rattle.mon_value.specs.Order.{field_as_value}
use Rattle.mon_value.specs.Tables.{pairs_of}
use Rattle.mon_value.specs.declared.aggregates.Aggregate as folds
use Rattle.mon_value.specs.declared.columns.Anchor.{Anchor}
use Rattle.mon_value.specs.declared.columns.Anchor.TheVariants as anchor
use Rattle.mon_value.specs.declared.columns.Column.{Column}
use Rattle.mon_value.specs.declared.grids.Grid.{Grid}
use Rattle.mon_value.specs.declared.rows.Row.{Row}
use Rattle.mon_value.specs.declared.rows.Target.{Target}
use Rattle.mon_value.specs.declared.schemas.TargetSchema.{TargetSchema}
use Rattle.mon_value.specs.declared.tables.TimedRow.{TimedRow}
use Rattle.mon_value.specs.declared.values.FieldValue.{FieldValue}
use Rattle.mon_value.specs.declared.values.Value.{Value}
use Rattle.mon_schema.specs.Fits.{fields_fit}
use Rattle.mon_schema.specs.Names.{SchemaLists, target_named}
use Rattle.mql_ast.specs.Rows.{predicate_truth}
use Rattle.mql_ast.specs.Trees.{ItemTree, PredicateTree}
use Rattle.typed_trees.specs.Branches.{common_columns, join_columns, same_columns, union_columns}
use Rattle.typed_trees.specs.Groupings.{aggregate_columns, key_columns_at}
use Rattle.typed_trees.specs.Items.{item_column, key_columns}
use Rattle.typed_trees.specs.Levels.{is_location_anchor, same_anchor}
use Rattle.typed_trees.specs.Meaning.{rows_meant, value_row}
use Rattle.typed_trees.specs.Nodes as node
use Rattle.typed_trees.specs.Nodes.{NodeTree, columns_of, fixed_of, level_of}
use Rattle.typed_trees.specs.declared.levels.Level.{Level}
use Rattle.typed_trees.specs.declared.nodes.NodeInfo.{NodeInfo}
use Rattle.typed_rows.proofs.FetchedTrees.{AllFit}
use Rattle.typed_rows.proofs.TypedTrees.{AreRows, GroupOf, ValueOf}
use Rattle.typed_trees.specs.FixedColumns.{fixed_at, fixed_by, fixed_in_both, named_in, with_fixed}
use Rattle.typed_trees.specs.declared.fixed.Fixed.{Fixed}
use Rattle.mixer.proofs.FixedHomes.{FixSays, Fixes, truth_fixes}
use Rattle.typed_trees.proofs.FixedLemmas.{all_with_fixed}
use Rattle.mixer.proofs.FixedTables.{both_left, both_right, fixed_keys, fixed_listed, joined_from_left, joined_from_right}
use Rattle.mixer.proofs.FixingTrees.{AreFixing}
use Rattle.mixer.proofs.HeldCells.{Stems, Tell}
use Rattle.mixer.proofs.LocalTrees.{IsLocal, MakesWhole}
use Rattle.typed_rows.proofs.NamedTrees.{NamedOnce}
use Rattle.mixer.proofs.PlainColumns.{aggregates_plain, items_plain}
use Rattle.mixer.proofs.StemmingPoints.{HasHome, align_stems}
use Rattle.mixer.proofs.StemmingRows.{AllStem, AreWhole, all_passing, group_stems, join_stems, stems_so, union_stems}
use Rattle.mixer.proofs.StemmingRows.{value_stems}

module _ {H : Type 0} (Says : H → Anchor → Value → Type 0) (P : H → Type 0) where
  -- rows that pass a filter
  filtered : (by : PredicateTree) (columns : List Column) (fixed : List Fixed) (rows : List TimedRow)
      → NamedOnce columns → AllStem Says (Fixes Says P fixed columns) columns rows
      → AllStem Says (Fixes Says P (with_fixed fixed (fixed_by by)) columns) columns
      (filter (λ (row : TimedRow). predicate_truth by columns row.cells) rows)
  filtered by columns fixed rows once all =
      all_passing (λ row. Stems Says (Fixes Says P fixed columns) columns row.cells)
      (λ row. Stems Says (Fixes Says P (with_fixed fixed (fixed_by by)) columns) columns row.cells)
      (λ row. predicate_truth by columns row.cells) rows
      (λ row own passed. record {
        home = own.home;
        from = (
          own.from.0,
          all_with_fixed (λ f. FixSays Says own.home f columns) fixed (fixed_by by) own.from.1
              (truth_fixes Says own.home by columns row.cells once own.holds passed),
        );
        holds = own.holds;
      }) all

  grouped : (info : NodeInfo) (by : List ℕ) (with : List folds.Aggregate) (columns : List Column)
      → GroupOf info by with columns → (fixed : List Fixed) (rows : List TimedRow)
      → AllStem Says (Fixes Says P fixed columns) columns rows
      → AreWhole info.columns (group_rows by with rows)
      → AllStem Says (Fixes Says P (named_in (key_columns_at columns by) fixed) info.columns) info.columns
      (group_rows by with rows)
  grouped info by with columns own fixed rows all whole =
      let made = group_rows by with rows in
      let listed = key_columns_at columns by in
      let plain = aggregate_columns columns own.aggregates in
      let same : listed ++ plain ≡ info.columns =
      ap (λ places. key_columns_at columns places ++ plain) (sym own.places) ∙ own.is in
      let none = aggregates_plain columns own.aggregates in
      subst (λ cs. AllStem Says (Fixes Says P (named_in listed fixed) cs) cs made) same
      (stems_so Says (Fixes Says P fixed columns) (Fixes Says P (named_in listed fixed) (listed ++ plain))
      (λ home from. (from.0, fixed_listed Says home columns plain by fixed none from.1)) (listed ++ plain) made
      (group_stems Says (Fixes Says P fixed columns) columns plain by with rows none all
      (subst (λ cs. AreWhole cs made) (sym same) whole)))

  valued : (info : NodeInfo) (items : List ItemTree) (columns : List Column) → ValueOf info items columns
      → (fixed : List Fixed) (rows : List TimedRow) → AllStem Says (Fixes Says P fixed columns) columns rows
      → AreWhole info.columns (filter_map (value_row columns items) rows)
      → AllStem Says (Fixes Says P (named_in (key_columns columns) fixed) info.columns) info.columns
      (filter_map (value_row columns items) rows)
  valued info items columns own fixed rows all whole =
      let made = filter_map (value_row columns items) rows in
      let keys = key_columns columns in
      let plain = filter_map (item_column columns) items in
      let none = items_plain columns items in
      subst (λ cs. AllStem Says (Fixes Says P (named_in keys fixed) cs) cs made) own.is
      (stems_so Says (Fixes Says P fixed columns) (Fixes Says P (named_in keys fixed) (keys ++ plain))
      (λ home from. (from.0, fixed_keys Says home columns plain fixed none from.1)) (keys ++ plain) made
      (value_stems Says (Fixes Says P fixed columns) columns plain items rows none all
      (subst (λ cs. AreWhole cs made) (sym own.is) whole)))

module _ {H : Type 0} (Says : H → Anchor → Value → Type 0) (held : SchemaLists)
    (at_least : (home : H) (a : Anchor) (x : Value) → is_location_anchor held a ≡ true → Says home a x
    → Says home anchor.Location x)
    (alike : (home : H) (a b : Anchor) (x : Value) → same_anchor a b ≡ true → Says home b x → Says home a x)
    (P : H → Type 0) where
  -- the pairs of a join, and what either side fixes
  joined : (lefts rights : List Column) → Tell Says (common_columns held lefts rights) → (some others : List Fixed)
      → (left right : List TimedRow) → AllStem Says (Fixes Says P some lefts) lefts left
      → AllStem Says (Fixes Says P others rights) rights right
      → AllStem Says (Fixes Says P (with_fixed (named_in lefts some) (named_in rights others))
      (join_columns held lefts rights)) (join_columns held lefts rights)
      (flat_map (pairs_of lefts rights right) left)
  joined lefts rights tell some others left right own other =
      let to = join_columns held lefts rights in
      let Left : H → Type 0 = Fixes Says P some lefts in
      let Right : H → Type 0 = Fixes Says P others rights in
      stems_so Says (λ home. Left home × Right home)
      (Fixes Says P (with_fixed (named_in lefts some) (named_in rights others)) to)
      (λ home from. (
        from.0.0,
        all_with_fixed (λ f. FixSays Says home f to) (named_in lefts some) (named_in rights others)
            (joined_from_left Says held at_least alike home lefts rights some from.0.1)
            (joined_from_right Says held at_least alike home lefts rights others from.1.1),
      )) to (flat_map (pairs_of lefts rights right) left)
      (join_stems Says held at_least alike Left Right lefts rights tell left right own other)

  -- the rows of both sides of a union, and what both sides fix alike
  united : (lefts rights : List Column) → same_columns lefts rights ≡ true → (some others : List Fixed)
      → (left right : List TimedRow) → AllStem Says (Fixes Says P some lefts) lefts left
      → AllStem Says (Fixes Says P others rights) rights right
      → AllStem Says (Fixes Says P (fixed_in_both some others) (union_columns held lefts rights)) (union_columns held lefts rights) (left ++ right)
  united lefts rights same some others left right own other =
      let both = fixed_in_both some others in
      let to = union_columns held lefts rights in
      let Both : H → Type 0 = Fixes Says P both to in
      union_stems Says held at_least alike Both lefts rights same left right
      (stems_so Says (Fixes Says P some lefts) Both
      (λ home from. (from.0, both_left Says held at_least alike home lefts rights same some others from.1)) lefts left
      own)
      (stems_so Says (Fixes Says P others rights) Both
      (λ home from. (from.0, both_right Says held at_least alike home lefts rights same some others from.1)) rights
      right other)

module _ {H : Type 0} (Says : H → Anchor → Value → Type 0) (held : SchemaLists) (IsHome : Target → H → Type 0)
    (of_field : (schema : TargetSchema) (target : Target) (home : H)
    → target_named target.schema held.targets ≡ Some schema → fields_fit schema.fields target.fields ≡ true
    → IsHome target home → (k : ℕ) (v : FieldValue) → slice_get target.fields k ≡ Some v
    → Says home (anchor.Field schema.name k) (field_as_value v))
    (at_least : (home : H) (a : Anchor) (x : Value) → is_location_anchor held a ≡ true → Says home a x
    → Says home anchor.Location x)
    (alike : (home : H) (a b : Anchor) (x : Value) → same_anchor a b ≡ true → Says home b x → Says home a x)
    (here : Level → Bool) (grid : Grid) (P : H → Type 0) (rows : List Row) (fit : AllFit held rows)
    (homes : AllByRecursion (λ (row : Row). HasHome Says held IsHome of_field P row.key.target) rows) where
  abbrev AllOf : NodeTree → List Fixed → List Column → Type 0
  AllOf tree fixed columns = AllStem Says (Fixes Says P fixed columns) columns (rows_meant grid tree rows)

  -- what is told to be fixed is what the rule of the node gives
  by_rule : (tree : NodeTree) → fixed_of tree ≡ fixed_at tree → AllOf tree (fixed_at tree) (columns_of tree)
      → AllOf tree (fixed_of tree) (columns_of tree)
  by_rule tree is all = subst (λ fixed. AllOf tree fixed (columns_of tree)) (sym is) all

  pub tree_stems : (tree : NodeTree) → AreRows held tree → IsLocal Says held here tree → AreFixing tree
      → here (level_of tree) ≡ true → MakesWhole grid rows tree → AllOf tree (fixed_of tree) (columns_of tree)
  tree_stems (node.Fetch info schema metric) own local fixing at whole = tt
  tree_stems (node.Filter info by input) own local fixing at whole =
      let below : AllOf input (fixed_of input) info.columns =
      subst (AllOf input (fixed_of input)) own.0 (tree_stems input own.1 local.1 fixing.1.1 (local.0 at) whole) in
      by_rule (node.Filter info by input) fixing.0
      (filtered Says P by info.columns (fixed_of input) (rows_meant grid input rows) fixing.1.0 below)
  tree_stems (node.Align info by input) own local fixing at whole =
      by_rule (node.Align info by input) fixing.0
      (align_stems Says held IsHome of_field P info by input own fixing.1 grid rows fit homes)
  tree_stems (node.GroupBy info by with input) own local fixing at whole =
      by_rule (node.GroupBy info by with input) fixing.0
      (grouped Says P info by with (columns_of input) own.0 (fixed_of input) (rows_meant grid input rows)
      (tree_stems input own.1 local.1 fixing.1 (local.0 at).0 whole.1) whole.0)
  tree_stems (node.Value info items input) own local fixing at whole =
      by_rule (node.Value info items input) fixing.0
      (valued Says P info items (columns_of input) own.0 (fixed_of input) (rows_meant grid input rows)
      (tree_stems input own.1 local.1 fixing.1 (local.0 at) whole.1) whole.0)
  tree_stems (node.Top info most column input) own local fixing at whole = absurd (local.0 at)
  tree_stems (node.Join info left right) own local fixing at whole =
      let below = local.0 at in
      let tree = node.Join info left right in
      by_rule tree fixing.0
      (subst (AllOf tree (fixed_at tree)) own.0.is
      (joined Says held at_least alike P (columns_of left) (columns_of right) below.1 (fixed_of left) (fixed_of right)
      (rows_meant grid left rows) (rows_meant grid right rows)
      (tree_stems left own.1.0 local.1.0 fixing.1.0 below.0.0 whole.0)
      (tree_stems right own.1.1 local.1.1 fixing.1.1 below.0.1 whole.1)))
  tree_stems (node.Union info left right) own local fixing at whole =
      let below = local.0 at in
      let tree = node.Union info left right in
      by_rule tree fixing.0
      (subst (AllOf tree (fixed_at tree)) own.0.is
      (united Says held at_least alike P (columns_of left) (columns_of right) own.0.same (fixed_of left)
      (fixed_of right) (rows_meant grid left rows) (rows_meant grid right rows)
      (tree_stems left own.1.0 local.1.0 fixing.1.0 below.0 whole.0)
      (tree_stems right own.1.1 local.1.1 fixing.1.1 below.1 whole.1)))
