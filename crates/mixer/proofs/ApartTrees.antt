-- A tree that is done where its rows' homes are: over rows of two sides that share no home it gives the rows of the one
-- and those of the other.
use Rattle.std.proofs.Common.{◌≡◌, ◌∙◌, ℕ, Bool, true, Some, List, [], ◌++◌, append_assoc, refl, sym, ap, subst}
use Rattle.std.specs.Prelude.{IsPermutation, slice_get}
use Rattle.std.specs.List.{AllByRecursion, filter}
use Rattle.std.proofs.lemmas.List.Elements.{filter-append, filter_map-append}
use Rattle.std.proofs.lemmas.List.Sorted.{IsPermutation-append, IsPermutation-append_right, IsPermutation-refl}
use Rattle.std.proofs.lemmas.List.Sorted.{IsPermutation-trans}
use Rattle.mon_value.specs.Order.{field_as_value}
use Rattle.mon_value.specs.declared.aligners.Aligner.{Aligner}
use Rattle.mon_value.specs.declared.columns.Anchor.{Anchor}
use Rattle.mon_value.specs.declared.columns.Anchor.TheVariants as anchor
use Rattle.mon_value.specs.declared.grids.Grid.{Grid}
use Rattle.mon_value.specs.declared.rows.Row.{Row}
use Rattle.mon_value.specs.declared.rows.SeriesKey.{SeriesKey}
use Rattle.mon_value.specs.declared.rows.Target.{Target}
use Rattle.mon_value.specs.declared.schemas.TargetSchema.{TargetSchema}
use Rattle.mon_value.specs.declared.tables.TimedRow.{TimedRow}
use Rattle.mon_value.specs.declared.values.FieldValue.{FieldValue}
use Rattle.mon_value.specs.declared.values.Value.{Value}
use Rattle.mon_value.proofs.PermutationLemmas.{filter-permutation, front_exchanged}
use Rattle.mon_schema.specs.Fits.{fields_fit}
use Rattle.mon_schema.specs.Names.{SchemaLists, target_named}
use Rattle.mql_ast.specs.Rows.{predicate_truth}
use Rattle.typed_trees.specs.Levels.{is_location_anchor, same_anchor}
use Rattle.typed_trees.specs.Meaning.{aligned_rows, is_fetched, is_point_kept, points_meant, rows_meant, value_row}
use Rattle.typed_trees.specs.Nodes as node
use Rattle.typed_trees.specs.Nodes.{NodeTree, columns_of, fixed_of, level_of}
use Rattle.typed_trees.specs.declared.levels.Level.{Level}
use Rattle.typed_rows.proofs.FetchedTrees.{AllFit}
use Rattle.typed_rows.proofs.TypedTrees.{AreRows}
use Rattle.mon_meaning.proofs.FilterLemmas.{filter_map-permutation}
use Rattle.mon_meaning.proofs.OperationOrders.{group_rows-permutation, pairs-permutation}
use Rattle.mixer.proofs.ApartRows.{aligned-apart}
use Rattle.mixer.proofs.ApartRows as apart_rows
use Rattle.mixer.proofs.FixedHomes.{Fixes}
use Rattle.mixer.proofs.LocalTrees.{IsLocal, MakesWhole}
use Rattle.mixer.proofs.FixingTrees.{AreFixing}
use Rattle.mixer.proofs.StemmingPoints.{HasHome, all_points}
use Rattle.mixer.proofs.StemmingRows.{AllStem, stems_so}
use Rattle.mixer.proofs.StemmingTrees as stemming

-- ---- lists

-- fronts and rests of two lists, put together the other way
pub middle_exchanged : {A : Type 0} (xs ys us vs : List A)
    → IsPermutation ((xs ++ ys) ++ (us ++ vs)) ((xs ++ us) ++ (ys ++ vs))
middle_exchanged xs ys us vs =
    subst (λ l. IsPermutation l ((xs ++ us) ++ (ys ++ vs))) (sym (append_assoc xs ys (us ++ vs)))
    (subst (λ l. IsPermutation (xs ++ (ys ++ (us ++ vs))) l) (sym (append_assoc xs us (ys ++ vs)))
    (IsPermutation-append_right xs (ys ++ (us ++ vs)) (us ++ (ys ++ vs)) (front_exchanged ys us vs)))

-- a list that is equal to one in another order
same_then : {A : Type 0} (xs ys zs : List A) → IsPermutation xs ys → ys ≡ zs → IsPermutation xs zs
same_then xs ys zs h e = subst (λ l. IsPermutation xs l) e h

pub equal_lists : {A : Type 0} (xs ys : List A) → xs ≡ ys → IsPermutation xs ys
equal_lists xs ys e = subst (λ l. IsPermutation xs l) e (IsPermutation-refl xs)

-- ---- points

-- the points that reach a part are those of the one side and those of the other
pub points-append : (tree : NodeTree) (xs ys : List Row)
    → points_meant tree (xs ++ ys) ≡ points_meant tree xs ++ points_meant tree ys
points-append (node.Fetch info schema metric) xs ys = filter-append (λ row. is_fetched schema metric row.key) xs ys
points-append (node.Filter info by input) xs ys =
    ap (filter (is_point_kept by info.columns)) (points-append input xs ys)
    ∙ filter-append (is_point_kept by info.columns) (points_meant input xs) (points_meant input ys)
points-append (node.Align info by input) xs ys = refl
points-append (node.GroupBy info by with input) xs ys = refl
points-append (node.Value info items input) xs ys = refl
points-append (node.Top info most column input) xs ys = refl
points-append (node.Join info left right) xs ys = refl
points-append (node.Union info left right) xs ys = refl

module _ {H : Type 0} (Says : H → Anchor → Value → Type 0) (held : SchemaLists) (IsHome : Target → H → Type 0)
    (of_field : (schema : TargetSchema) (target : Target) (home : H)
    → target_named target.schema held.targets ≡ Some schema → fields_fit schema.fields target.fields ≡ true
    → IsHome target home → (k : ℕ) (v : FieldValue) → slice_get target.fields k ≡ Some v
    → Says home (anchor.Field schema.name k) (field_as_value v))
    (one_home : (target : Target) (home other : H) → IsHome target home → IsHome target other → home ≡ other)
    (at_least : (home : H) (a : Anchor) (x : Value) → is_location_anchor held a ≡ true → Says home a x
    → Says home anchor.Location x)
    (alike : (home : H) (a b : Anchor) (x : Value) → same_anchor a b ≡ true → Says home b x → Says home a x)
    (here : Level → Bool) (grid : Grid) (P Q : H → Type 0) (apart : (home : H) → P home → Q home → ⊥)
    (xs ys : List Row) (fit : AllFit held xs) (more_fit : AllFit held ys)
    (homes : AllByRecursion (λ (row : Row). HasHome Says held IsHome of_field P row.key.target) xs)
    (more_homes : AllByRecursion (λ (row : Row). HasHome Says held IsHome of_field Q row.key.target) ys) where
  series_apart : (key : SeriesKey) → HasHome Says held IsHome of_field P key.target
      → HasHome Says held IsHome of_field Q key.target → ⊥
  series_apart key p q =
      apart q.home (subst P (one_home key.target p.home q.home p.is q.is) p.from) q.from

  pub align-apart : (by : Aligner) (input : NodeTree)
      → aligned_rows by grid (points_meant input (xs ++ ys))
      ≡ aligned_rows by grid (points_meant input xs) ++ aligned_rows by grid (points_meant input ys)
  align-apart by input =
      ap (aligned_rows by grid) (points-append input xs ys)
      ∙ aligned-apart (λ key. HasHome Says held IsHome of_field P key.target)
      (λ key. HasHome Says held IsHome of_field Q key.target) series_apart by grid (points_meant input xs)
      (points_meant input ys)
      (all_points (λ (row : Row). HasHome Says held IsHome of_field P row.key.target) input xs homes)
      (all_points (λ (row : Row). HasHome Says held IsHome of_field Q row.key.target) input ys more_homes)

  abbrev Stemming : (H → Type 0) → List Row → NodeTree → Type 0
  Stemming R rows tree =
      AllStem Says (Fixes Says R (fixed_of tree) (columns_of tree)) (columns_of tree) (rows_meant grid tree rows)

  one_stems : (tree : NodeTree) → AreRows held tree → IsLocal Says held here tree → AreFixing tree
      → here (level_of tree) ≡ true → MakesWhole grid xs tree → Stemming P xs tree
  one_stems = stemming.tree_stems Says held IsHome of_field at_least alike here grid P xs fit homes

  other_stems : (tree : NodeTree) → AreRows held tree → IsLocal Says held here tree → AreFixing tree
      → here (level_of tree) ≡ true → MakesWhole grid ys tree → Stemming Q ys tree
  other_stems = stemming.tree_stems Says held IsHome of_field at_least alike here grid Q ys more_fit more_homes

  -- without what is fixed
  plainly : (R : H → Type 0) (rows : List Row) (tree : NodeTree) → Stemming R rows tree
      → AllStem Says R (columns_of tree) (rows_meant grid tree rows)
  plainly R rows tree all =
      stems_so Says (Fixes Says R (fixed_of tree) (columns_of tree)) R (λ home from. from.0) (columns_of tree)
      (rows_meant grid tree rows) all

  pub tree-apart : (tree : NodeTree) → AreRows held tree → IsLocal Says held here tree → AreFixing tree
      → here (level_of tree) ≡ true → MakesWhole grid xs tree → MakesWhole grid ys tree
      → IsPermutation (rows_meant grid tree (xs ++ ys)) (rows_meant grid tree xs ++ rows_meant grid tree ys)
  tree-apart (node.Fetch info schema metric) own local fixing at whole more = IsPermutation-refl []
  tree-apart (node.Filter info by input) own local fixing at whole more =
      let test : TimedRow → Bool = λ row. predicate_truth by info.columns row.cells in
      let one = rows_meant grid input xs in
      let other = rows_meant grid input ys in
      same_then _ _ _
      (filter-permutation test _ (one ++ other) (tree-apart input own.1 local.1 fixing.1.1 (local.0 at) whole more))
      (filter-append test one other)
  tree-apart (node.Align info by input) own local fixing at whole more = equal_lists _ _ (align-apart by input)
  tree-apart (node.GroupBy info by with input) own local fixing at whole more =
      let below = local.0 at in
      let one = rows_meant grid input xs in
      let other = rows_meant grid input ys in
      same_then _ _ _
      (group_rows-permutation by with _ (one ++ other) (tree-apart input own.1 local.1 fixing.1 below.0 whole.1 more.1))
      (apart_rows.group_rows-apart Says P Q apart (columns_of input) by (fixed_of input) below.1 with one other
      (one_stems input own.1 local.1 fixing.1 below.0 whole.1) (other_stems input own.1 local.1 fixing.1 below.0 more.1))
  tree-apart (node.Value info items input) own local fixing at whole more =
      let one = rows_meant grid input xs in
      let other = rows_meant grid input ys in
      same_then _ _ _
      (filter_map-permutation (value_row (columns_of input) items) _ (one ++ other)
      (tree-apart input own.1 local.1 fixing.1 (local.0 at) whole.1 more.1))
      (filter_map-append (value_row (columns_of input) items) one other)
  tree-apart (node.Top info most column input) own local fixing at whole more = absurd (local.0 at)
  tree-apart (node.Join info left right) own local fixing at whole more =
      let below = local.0 at in
      let one = rows_meant grid left xs in
      let other = rows_meant grid left ys in
      let third = rows_meant grid right xs in
      let last = rows_meant grid right ys in
      same_then _ _ _
      (pairs-permutation (columns_of left) (columns_of right) _ (one ++ other) _ (third ++ last)
      (tree-apart left own.1.0 local.1.0 fixing.1.0 below.0.0 whole.0 more.0)
      (tree-apart right own.1.1 local.1.1 fixing.1.1 below.0.1 whole.1 more.1))
      (apart_rows.pairs-apart Says held at_least alike P Q apart (columns_of left) (columns_of right) below.1 one other
      third last
      (plainly P xs left (one_stems left own.1.0 local.1.0 fixing.1.0 below.0.0 whole.0))
      (plainly Q ys left (other_stems left own.1.0 local.1.0 fixing.1.0 below.0.0 more.0))
      (plainly P xs right (one_stems right own.1.1 local.1.1 fixing.1.1 below.0.1 whole.1))
      (plainly Q ys right (other_stems right own.1.1 local.1.1 fixing.1.1 below.0.1 more.1)))
  tree-apart (node.Union info left right) own local fixing at whole more =
      let below = local.0 at in
      let one = rows_meant grid left xs in
      let other = rows_meant grid left ys in
      let third = rows_meant grid right xs in
      let last = rows_meant grid right ys in
      IsPermutation-trans _ _ _
      (IsPermutation-append _ (one ++ other) _ (third ++ last)
      (tree-apart left own.1.0 local.1.0 fixing.1.0 below.0 whole.0 more.0)
      (tree-apart right own.1.1 local.1.1 fixing.1.1 below.1 whole.1 more.1))
      (middle_exchanged one other third last)
