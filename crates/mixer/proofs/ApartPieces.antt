-- The pieces of a level over rows of two sides that share no home are those of both sides, put together.
use Rattle.std.proofs.Common.{◌≡◌, ◌∙◌, ℕ, Bool, true, false, Some, List, [], ◌∷◌, ◌++◌, map, refl, ap, subst}
use Rattle.std.specs.Prelude.{IsPermutation, slice_get}
use Rattle.std.specs.List.{AllByRecursion, filter, filter_map, flat_map}
use Rattle.std.proofs.lemmas.List.Sorted.{IsPermutation-append, IsPermutation-refl, IsPermutation-trans}
use Rattle.mon_value.specs.Groups.{group_rows, top_rows}
use Rattle.mon_value.specs.Order.{field_as_value}
use Rattle.mon_value.specs.declared.columns.Anchor.{Anchor}
use Rattle.mon_value.specs.declared.columns.Anchor.TheVariants as anchor
use Rattle.mon_value.specs.declared.grids.Grid.{Grid}
use Rattle.mon_value.specs.declared.rows.Row.{Row}
use Rattle.mon_value.specs.declared.rows.Target.{Target}
use Rattle.mon_value.specs.declared.schemas.TargetSchema.{TargetSchema}
use Rattle.mon_value.specs.declared.values.FieldValue.{FieldValue}
use Rattle.mon_value.specs.declared.values.Value.{Value}
use Rattle.mon_schema.specs.Fits.{fields_fit}
use Rattle.mon_schema.specs.Names.{SchemaLists, target_named}
use Rattle.typed_trees.specs.Levels.{is_location_anchor, same_anchor, PartUse, PieceMeant, TopPart, part_or}
use Rattle.typed_trees.specs.Levels.{piece_meant}
use Rattle.typed_trees.specs.Levels.{pieces_meant, top_parts}
use Rattle.typed_trees.specs.Meaning.{aligned_rows, points_meant, rows_meant}
use Rattle.typed_trees.specs.Nodes as node
use Rattle.typed_trees.specs.Nodes.{NodeTree, level_of}
use Rattle.typed_trees.specs.declared.levels.Level.{Level}
use Rattle.typed_rows.proofs.FetchedTrees.{AllFit}
use Rattle.typed_rows.proofs.TypedTrees.{AreRows}
use Rattle.mixer.specs.Mixing.{SamePieces, joined_pieces, no_pieces}
use Rattle.mixer.proofs.ApartTrees as apart_trees
use Rattle.mixer.proofs.LocalTrees.{IsLocal, MakesWhole}
use Rattle.mixer.proofs.FixingTrees.{AreFixing}
use Rattle.mixer.proofs.StemmingPoints.{HasHome}
use Rattle.mon_value.proofs.PlainLemmas.{all_append}

-- ---- pieces that are the same

pub SamePieces-refl : (ps : List PieceMeant) → SamePieces ps ps
SamePieces-refl [] = tt
SamePieces-refl (p ∷ ps) = (refl, (IsPermutation-refl p.1, SamePieces-refl ps))

pub SamePieces-trans : (ps qs us : List PieceMeant) → SamePieces ps qs → SamePieces qs us → SamePieces ps us
SamePieces-trans [] [] [] same more = tt
SamePieces-trans [] [] (u ∷ us) same more = absurd more
SamePieces-trans [] (q ∷ qs) us same more = absurd same
SamePieces-trans (p ∷ ps) [] us same more = absurd same
SamePieces-trans (p ∷ ps) (q ∷ qs) [] same more = absurd more
SamePieces-trans (p ∷ ps) (q ∷ qs) (u ∷ us) same more = (
  same.0 ∙ more.0,
  (IsPermutation-trans p.1 q.1 u.1 same.1.0 more.1.0, SamePieces-trans ps qs us same.1.1 more.1.1),
)

pub joined_pieces-same : (ps qs us vs : List PieceMeant) → SamePieces ps qs → SamePieces us vs
    → SamePieces (joined_pieces ps us) (joined_pieces qs vs)
joined_pieces-same [] [] us vs same more = tt
joined_pieces-same [] (q ∷ qs) us vs same more = absurd same
joined_pieces-same (p ∷ ps) [] us vs same more = absurd same
joined_pieces-same (p ∷ ps) (q ∷ qs) [] [] same more = tt
joined_pieces-same (p ∷ ps) (q ∷ qs) [] (v ∷ vs) same more = absurd more
joined_pieces-same (p ∷ ps) (q ∷ qs) (u ∷ us) [] same more = absurd more
joined_pieces-same (p ∷ ps) (q ∷ qs) (u ∷ us) (v ∷ vs) same more = (
  same.0,
  (
    IsPermutation-append p.1 q.1 u.1 v.1 same.1.0 more.1.0,
    joined_pieces-same ps qs us vs same.1.1 more.1.1,
  ),
)

-- ---- no rows

-- without rows a tree has none
pub no_rows : (grid : Grid) (tree : NodeTree) → rows_meant grid tree [] ≡ []
no_rows grid (node.Fetch info schema metric) = refl
no_rows grid (node.Filter info by input) = ap (filter _) (no_rows grid input)
no_rows grid (node.Align info by input) = ap (aligned_rows by grid) (no_points input)
  where
    no_points : (tree : NodeTree) → points_meant tree [] ≡ []
    no_points (node.Fetch info schema metric) = refl
    no_points (node.Filter info by input) = ap (filter _) (no_points input)
    no_points (node.Align info by input) = refl
    no_points (node.GroupBy info by with input) = refl
    no_points (node.Value info items input) = refl
    no_points (node.Top info most column input) = refl
    no_points (node.Join info left right) = refl
    no_points (node.Union info left right) = refl
no_rows grid (node.GroupBy info by with input) = ap (group_rows by with) (no_rows grid input)
no_rows grid (node.Value info items input) = ap (filter_map _) (no_rows grid input)
no_rows grid (node.Top info most column input) = ap (top_rows most column) (no_rows grid input)
no_rows grid (node.Join info left right) = ap (flat_map _) (no_rows grid left)
no_rows grid (node.Union info left right) =
    let one = no_rows grid left in
    let other = no_rows grid right in
    λ i. one i ++ other i

none_of : (grid : Grid) (parts : List TopPart)
    → SamePieces (map (piece_meant grid []) parts) (map (λ (part : TopPart). (part.0, [])) parts)
none_of grid [] = tt
none_of grid (part ∷ parts) = (
  refl,
  (
    subst (λ rows. IsPermutation (rows_meant grid part.1 []) rows) (no_rows grid part.1)
        (IsPermutation-refl (rows_meant grid part.1 [])),
    none_of grid parts,
  ),
)

pub pieces_none : (here : Level → Bool) (grid : Grid) (tree : NodeTree)
    → SamePieces (pieces_meant here grid tree []) (no_pieces here tree)
pieces_none here grid tree = none_of grid (top_parts here tree)

-- ---- two sides

all_or : (R : NodeTree → Type 0) (b : Bool) (use_of : PartUse) (tree : NodeTree) (rest : List TopPart)
    → (b ≡ true → R tree) → AllByRecursion (λ (part : TopPart). R part.1) rest
    → AllByRecursion (λ (part : TopPart). R part.1) (part_or b use_of tree rest)
all_or R true use_of tree rest own all = (own refl, tt)
all_or R false use_of tree rest own all = all

-- a tree whose rows over both sides are those of the one and those of the other
abbrev Splits : Grid → List Row → List Row → NodeTree → Type 0
Splits grid xs ys tree =
    IsPermutation (rows_meant grid tree (xs ++ ys)) (rows_meant grid tree xs ++ rows_meant grid tree ys)

pieces_split : (grid : Grid) (xs ys : List Row) (parts : List TopPart)
    → AllByRecursion (λ (part : TopPart). Splits grid xs ys part.1) parts
    → SamePieces (map (piece_meant grid (xs ++ ys)) parts)
    (joined_pieces (map (piece_meant grid xs) parts) (map (piece_meant grid ys) parts))
pieces_split grid xs ys [] all = tt
pieces_split grid xs ys (part ∷ parts) all = (refl, (all.0, pieces_split grid xs ys parts all.1))

module _ {H : Type 0} (Says : H → Anchor → Value → Type 0) (held : SchemaLists) (IsHome : Target → H → Type 0)
    (of_field : (schema : TargetSchema) (target : Target) (home : H)
    → target_named target.schema held.targets ≡ Some schema → fields_fit schema.fields target.fields ≡ true
    → IsHome target home → (k : ℕ) (v : FieldValue) → slice_get target.fields k ≡ Some v
    → Says home (anchor.Field schema.name k) (field_as_value v))
    (one_home : (target : Target) (home other : H) → IsHome target home → IsHome target other → home ≡ other)
    (at_least : (home : H) (a : Anchor) (x : Value) → is_location_anchor held a ≡ true → Says home a x
    → Says home anchor.Location x)
    (alike : (home : H) (a b : Anchor) (x : Value) → same_anchor a b ≡ true → Says home b x → Says home a x)
    (here : Level → Bool) (grid : Grid) (P Q : H → Type 0) (apart : (home : H) → P home → Q home → ⊥)
    (xs ys : List Row) (fit : AllFit held xs) (more_fit : AllFit held ys)
    (homes : AllByRecursion (λ (row : Row). HasHome Says held IsHome of_field P row.key.target) xs)
    (more_homes : AllByRecursion (λ (row : Row). HasHome Says held IsHome of_field Q row.key.target) ys) where
  splits : (tree : NodeTree) → AreRows held tree → IsLocal Says held here tree → AreFixing tree
      → here (level_of tree) ≡ true → MakesWhole grid xs tree → MakesWhole grid ys tree → Splits grid xs ys tree
  splits =
      apart_trees.tree-apart Says held IsHome of_field one_home at_least alike here grid P Q apart xs ys fit more_fit
      homes more_homes

  abbrev AllSplit : List TopPart → Type 0
  AllSplit parts = AllByRecursion (λ (part : TopPart). Splits grid xs ys part.1) parts

  parts_split : (tree : NodeTree) → AreRows held tree → IsLocal Says held here tree → AreFixing tree
      → MakesWhole grid xs tree → MakesWhole grid ys tree → AllSplit (top_parts here tree)
  parts_split (node.Fetch info schema metric) own local fixing whole more = (IsPermutation-refl [], tt)
  parts_split (node.Filter info by input) own local fixing whole more =
      let tree = node.Filter info by input in
      all_or (Splits grid xs ys) (here info.level) _ tree (top_parts here input)
      (λ e. splits tree own local fixing e whole more) (parts_split input own.1 local.1 fixing.1.1 whole more)
  parts_split (node.Align info by input) own local fixing whole more = (
    apart_trees.equal_lists _ _
        (apart_trees.align-apart Says held IsHome of_field one_home at_least alike here grid P Q apart xs ys fit
        more_fit homes more_homes by input),
    tt,
  )
  parts_split (node.GroupBy info by with input) own local fixing whole more =
      let tree = node.GroupBy info by with input in
      all_or (Splits grid xs ys) (here info.level) _ tree (part_or (here (level_of input)) _ input _)
      (λ e. splits tree own local fixing e whole more)
      (all_or (Splits grid xs ys) (here (level_of input)) _ input (top_parts here input)
      (λ e. splits input own.1 local.1 fixing.1 e whole.1 more.1) (parts_split input own.1 local.1 fixing.1 whole.1 more.1))
  parts_split (node.Value info items input) own local fixing whole more =
      let tree = node.Value info items input in
      all_or (Splits grid xs ys) (here info.level) _ tree (top_parts here input)
      (λ e. splits tree own local fixing e whole more) (parts_split input own.1 local.1 fixing.1 whole.1 more.1)
  parts_split (node.Top info most column input) own local fixing whole more =
      let tree = node.Top info most column input in
      all_or (Splits grid xs ys) (here info.level) _ tree (part_or (here (level_of input)) _ input _)
      (λ e. splits tree own local fixing e whole more)
      (all_or (Splits grid xs ys) (here (level_of input)) _ input (top_parts here input)
      (λ e. splits input own.1 local.1 fixing.1 e whole more) (parts_split input own.1 local.1 fixing.1 whole more))
  parts_split (node.Join info left right) own local fixing whole more =
      let tree = node.Join info left right in
      all_or (Splits grid xs ys) (here info.level) _ tree (top_parts here left ++ top_parts here right)
      (λ e. splits tree own local fixing e whole more)
      (all_append (λ (part : TopPart). Splits grid xs ys part.1) (top_parts here left) (top_parts here right)
      (parts_split left own.1.0 local.1.0 fixing.1.0 whole.0 more.0) (parts_split right own.1.1 local.1.1 fixing.1.1 whole.1 more.1))
  parts_split (node.Union info left right) own local fixing whole more =
      let tree = node.Union info left right in
      all_or (Splits grid xs ys) (here info.level) _ tree (top_parts here left ++ top_parts here right)
      (λ e. splits tree own local fixing e whole more)
      (all_append (λ (part : TopPart). Splits grid xs ys part.1) (top_parts here left) (top_parts here right)
      (parts_split left own.1.0 local.1.0 fixing.1.0 whole.0 more.0) (parts_split right own.1.1 local.1.1 fixing.1.1 whole.1 more.1))

  pub pieces-apart : (tree : NodeTree) → AreRows held tree → IsLocal Says held here tree → AreFixing tree
      → MakesWhole grid xs tree → MakesWhole grid ys tree
      → SamePieces (pieces_meant here grid tree (xs ++ ys))
      (joined_pieces (pieces_meant here grid tree xs) (pieces_meant here grid tree ys))
  pieces-apart tree own local fixing whole more =
      pieces_split grid xs ys (top_parts here tree) (parts_split tree own local fixing whole more)
