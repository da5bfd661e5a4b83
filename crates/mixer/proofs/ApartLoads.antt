-- The work that some levels do over rows of two sides that share no home is what they do over the one, and over the
-- other.
use Rattle.std.proofs.Common.{◌≡◌, ◌∙◌, ℕ, ◌+◌, ◌&&◌, Bool, true, false, Some, List, ◌++◌, length, length-append, refl}
use Rattle.std.proofs.Common.{sym, ap, arith}
use Rattle.std.specs.Prelude.{slice_get}
use Rattle.std.specs.List.{AllByRecursion}
use Rattle.std.proofs.lemmas.List.Elements.{filter-append}
use Rattle.std.proofs.lemmas.List.Sorted.{length_permutation}
use Rattle.mon_value.specs.Order.{field_as_value}
use Rattle.mon_value.specs.declared.aligners.Aligner.{Aligner}
use Rattle.mon_value.specs.declared.columns.Anchor.{Anchor}
use Rattle.mon_value.specs.declared.columns.Anchor.TheVariants as anchor
use Rattle.mon_value.specs.declared.grids.Grid.{Grid}
use Rattle.mon_value.specs.declared.rows.Row.{Row}
use Rattle.mon_value.specs.declared.rows.Target.{Target}
use Rattle.mon_value.specs.declared.schemas.TargetSchema.{TargetSchema}
use Rattle.mon_value.specs.declared.tables.TimedRow.{TimedRow}
use Rattle.mon_value.specs.declared.values.FieldValue.{FieldValue}
use Rattle.mon_value.specs.declared.values.Value.{Value}
use Rattle.mon_schema.specs.Fits.{fields_fit}
use Rattle.mon_schema.specs.Names.{SchemaLists, target_named}
use Rattle.typed_trees.specs.LevelLoads.{counted_if, load_at}
use Rattle.typed_trees.specs.Levels.{is_location_anchor, same_anchor}
use Rattle.typed_trees.specs.Meaning.{is_reached, meets, points_reached, aligned_rows, points_meant, rows_meant}
use Rattle.typed_trees.specs.Nodes as node
use Rattle.typed_trees.specs.Nodes.{NodeTree, level_of}
use Rattle.typed_trees.specs.declared.levels.Level.{Level}
use Rattle.typed_rows.proofs.FetchedTrees.{AllFit}
use Rattle.typed_rows.proofs.TypedTrees.{AreRows}
use Rattle.mixer.proofs.ApartTrees as apart_trees
use Rattle.mixer.proofs.LocalTrees.{IsLocal, MakesWhole}
use Rattle.mixer.proofs.FixingTrees.{AreFixing}
use Rattle.mixer.proofs.StemmingPoints.{HasHome}

counted_sum : (b : Bool) (n k m : ℕ) → (b ≡ true → n ≡ k + m) → counted_if b n ≡ counted_if b k + counted_if b m
counted_sum true n k m e = e refl
counted_sum false n k m e = refl

reached-append : (grid : Grid) (by : Aligner) (input : NodeTree) (xs ys : List Row)
    → length (points_reached grid by input (xs ++ ys))
    ≡ length (points_reached grid by input xs) + length (points_reached grid by input ys)
reached-append grid by input xs ys =
    ap (λ (l : List Row). length l) (filter-append (λ row. is_reached grid by row && meets input row.key) xs ys)
    ∙ length-append (points_reached grid by input xs) (points_reached grid by input ys)

module _ {H : Type 0} (Says : H → Anchor → Value → Type 0) (held : SchemaLists) (IsHome : Target → H → Type 0)
    (of_field : (schema : TargetSchema) (target : Target) (home : H)
    → target_named target.schema held.targets ≡ Some schema → fields_fit schema.fields target.fields ≡ true
    → IsHome target home → (k : ℕ) (v : FieldValue) → slice_get target.fields k ≡ Some v
    → Says home (anchor.Field schema.name k) (field_as_value v))
    (one_home : (target : Target) (home other : H) → IsHome target home → IsHome target other → home ≡ other)
    (at_least : (home : H) (a : Anchor) (x : Value) → is_location_anchor held a ≡ true → Says home a x
    → Says home anchor.Location x)
    (alike : (home : H) (a b : Anchor) (x : Value) → same_anchor a b ≡ true → Says home b x → Says home a x)
    (here : Level → Bool) (grid : Grid) (P Q : H → Type 0) (apart : (home : H) → P home → Q home → ⊥)
    (xs ys : List Row) (fit : AllFit held xs) (more_fit : AllFit held ys)
    (homes : AllByRecursion (λ (row : Row). HasHome Says held IsHome of_field P row.key.target) xs)
    (more_homes : AllByRecursion (λ (row : Row). HasHome Says held IsHome of_field Q row.key.target) ys)
    (counts : Level → Bool) (within : (level : Level) → counts level ≡ true → here level ≡ true) where
  aligned_load : (by : Aligner) (input : NodeTree)
      → length (points_reached grid by input (xs ++ ys)) + length (aligned_rows by grid (points_meant input (xs ++ ys)))
      ≡ (length (points_reached grid by input xs) + length (aligned_rows by grid (points_meant input xs)))
      + (length (points_reached grid by input ys) + length (aligned_rows by grid (points_meant input ys)))
  aligned_load by input =
      let one = aligned_rows by grid (points_meant input xs) in
      let other = aligned_rows by grid (points_meant input ys) in
      let rows : length (aligned_rows by grid (points_meant input (xs ++ ys))) ≡ length one + length other =
      ap (λ (l : List TimedRow). length l)
      (apart_trees.align-apart Says held IsHome of_field one_home at_least alike here grid P Q apart xs ys fit more_fit
      homes more_homes by input)
      ∙ length-append one other in
      omega (arith, reached-append grid by input xs ys, rows)

  joined_load : (tree : NodeTree) → AreRows held tree → IsLocal Says held here tree → AreFixing tree
      → here (level_of tree) ≡ true → MakesWhole grid xs tree → MakesWhole grid ys tree
      → length (rows_meant grid tree (xs ++ ys)) ≡ length (rows_meant grid tree xs) + length (rows_meant grid tree ys)
  joined_load tree own local fixing at whole more =
      let one = rows_meant grid tree xs in
      let other = rows_meant grid tree ys in
      let long : length (rows_meant grid tree (xs ++ ys)) ≡ length (one ++ other) =
      sym (length_permutation _ (one ++ other)
      (apart_trees.tree-apart Says held IsHome of_field one_home at_least alike here grid P Q apart xs ys fit more_fit
      homes more_homes tree own local fixing at whole more)) in
      long ∙ length-append one other

  pub loads-apart : (tree : NodeTree) → AreRows held tree → IsLocal Says held here tree → AreFixing tree
      → MakesWhole grid xs tree → MakesWhole grid ys tree
      → load_at counts grid tree (xs ++ ys) ≡ load_at counts grid tree xs + load_at counts grid tree ys
  loads-apart (node.Fetch info schema metric) own local fixing whole more = refl
  loads-apart (node.Filter info by input) own local fixing whole more = loads-apart input own.1 local.1 fixing.1.1 whole more
  loads-apart (node.Align info by input) own local fixing whole more =
      counted_sum (counts info.level) _ _ _ (λ e. aligned_load by input)
  loads-apart (node.GroupBy info by with input) own local fixing whole more =
      loads-apart input own.1 local.1 fixing.1 whole.1 more.1
  loads-apart (node.Value info items input) own local fixing whole more = loads-apart input own.1 local.1 fixing.1 whole.1 more.1
  loads-apart (node.Top info most column input) own local fixing whole more = loads-apart input own.1 local.1 fixing.1 whole more
  loads-apart (node.Join info left right) own local fixing whole more =
      let tree = node.Join info left right in
      let pairs : counted_if (counts info.level) (length (rows_meant grid tree (xs ++ ys)))
      ≡ counted_if (counts info.level) (length (rows_meant grid tree xs))
      + counted_if (counts info.level) (length (rows_meant grid tree ys)) =
      counted_sum (counts info.level) _ _ _ (λ e. joined_load tree own local fixing (within info.level e) whole more) in
      omega (
        arith,
        loads-apart left own.1.0 local.1.0 fixing.1.0 whole.0 more.0,
        loads-apart right own.1.1 local.1.1 fixing.1.1 whole.1 more.1,
        pairs,
      )
  loads-apart (node.Union info left right) own local fixing whole more =
      omega (
        arith,
        loads-apart left own.1.0 local.1.0 fixing.1.0 whole.0 more.0,
        loads-apart right own.1.1 local.1.1 fixing.1.1 whole.1 more.1,
      )
