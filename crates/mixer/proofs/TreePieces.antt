-- What is made of the pieces of a tree's parts is what the tree means.
use Rattle.std.proofs.Common.{◌≡◌, ◌∙◌, ℕ, Bool, true, false, cond, List, [], ◌∷◌, ◌++◌, length, drop, map}
use Rattle.std.proofs.Common.{append_assoc, refl, sym, ap, subst}
use Rattle.std.specs.Prelude.{IsPermutation}
use Rattle.std.proofs.lemmas.List.Sorted.{IsPermutation-append}
use Rattle.mon_value.specs.Groups.{group_rows, top_rows}
use Rattle.mon_value.specs.declared.aggregates.Aggregate.{Aggregate}
use Rattle.mon_value.specs.declared.columns.Column.{Column}
use Rattle.mon_value.specs.declared.grids.Grid.{Grid}
use Rattle.mon_value.specs.declared.rows.Row.{Row}
use Rattle.mon_value.specs.declared.tables.TimedRow.{TimedRow}
use Rattle.mon_value.proofs.PermutationLemmas.{filter-permutation}
use Rattle.mql_ast.specs.Rows.{predicate_truth}
use Rattle.typed_trees.specs.Meaning.{rows_meant, value_row}
use Rattle.typed_trees.specs.Nodes as node
use Rattle.typed_trees.specs.Nodes.{NodeTree, columns_of, level_of}
use Rattle.typed_trees.specs.Levels as up
use Rattle.typed_trees.specs.Levels.{PartUse, TopPart, part_or, top_parts}
use Rattle.typed_trees.specs.declared.levels.Level.{Level}
use Rattle.mon_fold.proofs.PartialGroupLemmas.{groups_finish}
use Rattle.mon_fold.specs.PartialGroups.{GroupsSoFar, row_finished}
use Rattle.mon_fold.specs.declared.answers.Piece.{Piece}
use Rattle.mon_fold.specs.declared.answers.Piece.TheVariants as piece
use Rattle.mon_meaning.proofs.FilterLemmas.{filter_map-permutation}
use Rattle.mon_meaning.proofs.OperationOrders.{group_rows-permutation, pairs-permutation, top_rows-permutation}
use Rattle.mixer.specs.Mixing.{part_count}
use Rattle.mixer.specs.within.Mixtures.{first_piece_rows, rows_from}
use Rattle.mixer.proofs.JoinedPieces.{AllCome, ComesTo, meant_over}
use Rattle.mixer.proofs.NodePieces.{piece_here, rows_of_piece}

-- the pieces of later parts
pub come-drop : (meant : TopPart → List TimedRow) (parts more : List TopPart) (pieces : List Piece)
    → AllCome meant (parts ++ more) pieces → AllCome meant more (drop (length parts) pieces)
come-drop meant [] more [] all = all
come-drop meant [] more (p ∷ pieces) all = all
come-drop meant (part ∷ parts) more [] all = absurd all
come-drop meant (part ∷ parts) more (p ∷ pieces) all = come-drop meant parts more pieces all.1

first_of_rows : (columns : List Column) (rows : List TimedRow) (p : Piece) → ComesTo columns up.AsRows rows p
    → (pieces : List Piece) → IsPermutation rows (first_piece_rows (p ∷ pieces))
first_of_rows columns rows (piece.Table table) comes pieces = comes.rows_are
first_of_rows columns rows (piece.Groups groups) comes pieces = absurd comes

-- groups finish to their rows grouped
first_of_groups : (columns : List Column) (by : List ℕ) (with : List Aggregate) (rows : List TimedRow) (p : Piece)
    → ComesTo columns (up.ToGroup by with) rows p
    → (pieces : List Piece) → IsPermutation (group_rows by with rows) (first_piece_rows (p ∷ pieces))
first_of_groups columns by with rows (piece.Table table) comes pieces = absurd comes
first_of_groups columns by with rows (piece.Groups groups) comes pieces =
    subst (λ xs. IsPermutation (group_rows by with rows) xs)
    (sym (ap (λ (g : GroupsSoFar). map row_finished g.groups) comes.groups_are ∙ groups_finish with by comes.taken))
    (group_rows-permutation by with rows comes.taken comes.rows_are)

-- a table that was cut on the way is cut again
first_of_cut : (columns : List Column) (most column : ℕ) (rows : List TimedRow) (p : Piece)
    → ComesTo columns (up.ToCut most column) rows p
    → (pieces : List Piece) → IsPermutation (top_rows most column rows)
    (top_rows most column (first_piece_rows (p ∷ pieces)))
first_of_cut columns most column rows (piece.Table table) comes pieces = comes.firsts_are
first_of_cut columns most column rows (piece.Groups groups) comes pieces = absurd comes

module _ (grid : Grid) (source : List Row) where
  abbrev pub meant : TopPart → List TimedRow
  meant = meant_over grid source

  one_come : (use_of : PartUse) (tree : NodeTree) (more : List TopPart) (pieces : List Piece) (P : List Piece → Type 0)
      → AllCome meant ((use_of, tree) ∷ more) pieces
      → ((p : Piece) (rest : List Piece) → ComesTo (columns_of tree) use_of (rows_meant grid tree source) p
      → P (p ∷ rest))
      → P pieces
  one_come use_of tree more [] P come given = absurd come
  one_come use_of tree more (p ∷ pieces) P come given = given p pieces come.0

  rows_by : (b : Bool) (tree : NodeTree) (below more : List TopPart) (pieces : List Piece) (made : List TimedRow)
      → AllCome meant (part_or b up.AsRows tree below ++ more) pieces
      → (AllCome meant (below ++ more) pieces → IsPermutation (rows_meant grid tree source) made)
      → IsPermutation (rows_meant grid tree source) (cond b (first_piece_rows pieces) made)
  rows_by true tree below more pieces made come further =
      one_come up.AsRows tree more pieces (λ ps. IsPermutation (rows_meant grid tree source) (first_piece_rows ps)) come
      (λ p rest comes. first_of_rows (columns_of tree) (rows_meant grid tree source) p comes rest)
  rows_by false tree below more pieces made come further = further come

  group_by : (b c : Bool) (tree : NodeTree) (by : List ℕ) (with : List Aggregate) (input : NodeTree)
      (below more : List TopPart) (pieces : List Piece) (made : List TimedRow)
      → rows_meant grid tree source ≡ group_rows by with (rows_meant grid input source)
      → AllCome meant (part_or b up.AsRows tree (part_or c (up.ToGroup by with) input below) ++ more) pieces
      → (AllCome meant (below ++ more) pieces → IsPermutation (rows_meant grid tree source) made)
      → IsPermutation (rows_meant grid tree source) (cond (cond b true c) (first_piece_rows pieces) made)
  group_by true c tree by with input below more pieces made is come further =
      one_come up.AsRows tree more pieces (λ ps. IsPermutation (rows_meant grid tree source) (first_piece_rows ps)) come
      (λ p rest comes. first_of_rows (columns_of tree) (rows_meant grid tree source) p comes rest)
  group_by false true tree by with input below more pieces made is come further =
      one_come (up.ToGroup by with) input more pieces (λ ps. IsPermutation (rows_meant grid tree source)
      (first_piece_rows ps))
      come
      (λ p rest comes. subst (λ xs. IsPermutation xs (first_piece_rows (p ∷ rest))) (sym is)
      (first_of_groups (columns_of input) by with (rows_meant grid input source) p comes rest))
  group_by false false tree by with input below more pieces made is come further = further come

  -- of a part that is to be cut
  cut_by : (b : Bool) (most column : ℕ) (input : NodeTree) (below more : List TopPart) (pieces : List Piece)
      (made : List TimedRow) → (b ≡ true → made ≡ first_piece_rows pieces)
      → AllCome meant (part_or b (up.ToCut most column) input below ++ more) pieces
      → (AllCome meant (below ++ more) pieces → IsPermutation (rows_meant grid input source) made)
      → IsPermutation (top_rows most column (rows_meant grid input source)) (top_rows most column made)
  cut_by true most column input below more pieces made is come further =
      subst (λ xs. IsPermutation (top_rows most column (rows_meant grid input source)) (top_rows most column xs))
      (sym (is refl))
      (one_come (up.ToCut most column) input more pieces
      (λ ps. IsPermutation (top_rows most column (rows_meant grid input source))
      (top_rows most column (first_piece_rows ps)))
      come (λ p rest comes. first_of_cut (columns_of input) most column (rows_meant grid input source) p comes rest))
  cut_by false most column input below more pieces made is come further =
      top_rows-permutation most column _ _ (further come)

  module _ (here : Level → Bool) where
    pub first_side : (left right : NodeTree) (more : List TopPart) (pieces : List Piece)
        → AllCome meant ((top_parts here left ++ top_parts here right) ++ more) pieces
        → AllCome meant (top_parts here left ++ (top_parts here right ++ more)) pieces
    first_side left right more pieces come =
        subst (λ parts. AllCome meant parts pieces)
        (append_assoc (top_parts here left) (top_parts here right) more) come

    pub second_side : (left right : NodeTree) (more : List TopPart) (pieces : List Piece)
        → AllCome meant ((top_parts here left ++ top_parts here right) ++ more) pieces
        → AllCome meant (top_parts here right ++ more) (drop (part_count here left) pieces)
    second_side left right more pieces come =
        come-drop meant (top_parts here left) (top_parts here right ++ more) pieces (first_side left right more pieces
        come)

    -- the rows that are made are those that are meant
    pub rows_come : (tree : NodeTree) (more : List TopPart) (pieces : List Piece)
        → AllCome meant (top_parts here tree ++ more) pieces
        → IsPermutation (rows_meant grid tree source) (rows_from here tree pieces)
    rows_come (node.Fetch info schema metric) more pieces come =
        let tree = node.Fetch info schema metric in
        one_come up.AsRows tree more pieces (λ ps. IsPermutation (rows_meant grid tree source) (first_piece_rows ps))
        come
        (λ p rest comes. first_of_rows (columns_of tree) (rows_meant grid tree source) p comes rest)
    rows_come (node.Filter info by input) more pieces come =
        rows_by (here info.level) (node.Filter info by input) (top_parts here input) more pieces _ come
        (λ below. filter-permutation (λ (row : TimedRow). predicate_truth by info.columns row.cells) _ _
        (rows_come input more pieces below))
    rows_come (node.Align info by input) more pieces come =
        let tree = node.Align info by input in
        one_come up.AsRows tree more pieces (λ ps. IsPermutation (rows_meant grid tree source) (first_piece_rows ps))
        come
        (λ p rest comes. first_of_rows (columns_of tree) (rows_meant grid tree source) p comes rest)
    rows_come (node.GroupBy info by with input) more pieces come =
        group_by (here info.level) (here (level_of input)) (node.GroupBy info by with input) by with input
        (top_parts here input) more pieces _ refl come
        (λ below. group_rows-permutation by with _ _ (rows_come input more pieces below))
    rows_come (node.Value info items input) more pieces come =
        rows_by (here info.level) (node.Value info items input) (top_parts here input) more pieces _ come
        (λ below. filter_map-permutation (value_row (columns_of input) items) _ _ (rows_come input more pieces below))
    rows_come (node.Top info most column input) more pieces come =
        rows_by (here info.level) (node.Top info most column input)
        (part_or (here (level_of input)) (up.ToCut most column) input (top_parts here input)) more pieces _ come
        (λ below. cut_by (here (level_of input)) most column input (top_parts here input) more pieces
        (rows_from here input pieces) (λ e. rows_of_piece here input pieces (piece_here here input e)) below
        (λ further. rows_come input more pieces further))
    rows_come (node.Join info left right) more pieces come =
        rows_by (here info.level) (node.Join info left right) (top_parts here left ++ top_parts here right) more pieces
        _ come
        (λ below. pairs-permutation (columns_of left) (columns_of right) _ _ _ _
        (rows_come left (top_parts here right ++ more) pieces (first_side left right more pieces below))
        (rows_come right more (drop (part_count here left) pieces) (second_side left right more pieces below)))
    rows_come (node.Union info left right) more pieces come =
        rows_by (here info.level) (node.Union info left right) (top_parts here left ++ top_parts here right) more
        pieces _ come
        (λ below. IsPermutation-append _ _ _ _
        (rows_come left (top_parts here right ++ more) pieces (first_side left right more pieces below))
        (rows_come right more (drop (part_count here left) pieces) (second_side left right more pieces below)))
