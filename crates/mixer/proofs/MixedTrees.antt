-- A tree that is mixed of the tables of its topmost parts has the rows that it means.
use Rattle.std.proofs.Common.{◌≡◌, ◌∙◌, Bool, true, false, cond, List, [], ◌∷◌, ◌++◌, map, length, take, drop, refl}
use Rattle.std.proofs.Common.{sym, ap}
use Rattle.std.specs.List.{filter, filter_map, flat_map}
use Rattle.std.proofs.lemmas.List.{map-append}
use Rattle.mon_value.specs.Groups.{group_rows, top_rows}
use Rattle.mon_value.specs.Tables.{pairs_of}
use Rattle.mon_value.specs.declared.grids.Grid.{Grid}
use Rattle.mon_value.specs.declared.rows.Row.{Row}
use Rattle.mon_value.specs.declared.tables.TimedRow.{TimedRow}
use Rattle.mql_ast.specs.Rows.{predicate_truth}
use Rattle.typed_trees.specs.Meaning.{rows_meant, value_row}
use Rattle.typed_trees.specs.Nodes as node
use Rattle.typed_trees.specs.Nodes.{NodeTree, columns_of, level_of}
use Rattle.typed_trees.specs.Levels.{AsRows, PartUse, TopPart, part_or, top_parts}
use Rattle.typed_trees.specs.declared.levels.Level.{Level}
use Rattle.mixer.specs.Mixing.{first_table, part_count, parts_mixed, rows_mixed}

pub take_none : {A : Type 0} (xs : List A) → take 0 xs ≡ []
take_none [] = refl
take_none (x ∷ xs) = refl

drop_none : {A : Type 0} (xs : List A) → drop 0 xs ≡ xs
drop_none [] = refl
drop_none (x ∷ xs) = refl

pub take_parts : {A B : Type 0} (f : A → B) (xs ys : List A) → take (length xs) (map f (xs ++ ys)) ≡ map f xs
take_parts f [] ys = take_none (map f ys)
take_parts f (x ∷ xs) ys = ap (λ rest. f x ∷ rest) (take_parts f xs ys)

pub drop_parts : {A B : Type 0} (f : A → B) (xs ys : List A) → drop (length xs) (map f (xs ++ ys)) ≡ map f ys
drop_parts f [] ys = drop_none (map f ys)
drop_parts f (x ∷ xs) ys = drop_parts f xs ys

module _ (grid : Grid) (rows : List Row) where
  abbrev table_of : TopPart → List TimedRow
  table_of part = rows_meant grid part.1 rows

  -- the tables of a tree's topmost parts
  abbrev pub tables_of : (Level → Bool) → NodeTree → List (List TimedRow)
  tables_of here tree = map table_of (top_parts here tree)

  one_by : (b : Bool) (tree : NodeTree) (rest : List TopPart) → b ≡ true
      → map table_of (part_or b AsRows tree rest) ≡ rows_meant grid tree rows ∷ []
  one_by true tree rest e = refl
  one_by false tree rest e = absurd cc

  -- a tree that is done here is its own part
  one_table : (here : Level → Bool) (tree : NodeTree) → here (level_of tree) ≡ true
      → tables_of here tree ≡ rows_meant grid tree rows ∷ []
  one_table here (node.Fetch info schema metric) e = refl
  one_table here (node.Filter info by input) e = one_by (here info.level) (node.Filter info by input) _ e
  one_table here (node.Align info by input) e = refl
  one_table here (node.GroupBy info by with input) e = one_by (here info.level) (node.GroupBy info by with input) _ e
  one_table here (node.Value info items input) e = one_by (here info.level) (node.Value info items input) _ e
  one_table here (node.Top info most column input) e = one_by (here info.level) (node.Top info most column input) _ e
  one_table here (node.Join info left right) e = one_by (here info.level) (node.Join info left right) _ e
  one_table here (node.Union info left right) e = one_by (here info.level) (node.Union info left right) _ e

  used_by : (b : Bool) (use_of : PartUse) (tree : NodeTree) (rest : List TopPart)
      → (b ≡ true → map table_of rest ≡ rows_meant grid tree rows ∷ [])
      → map table_of (part_or b use_of tree rest) ≡ map table_of rest
  used_by true use_of tree rest one = sym (one refl)
  used_by false use_of tree rest one = refl

  -- what of a part goes up plays no part in its table
  pub any_use : (here : Level → Bool) (use_of : PartUse) (tree : NodeTree)
      → map table_of (part_or (here (level_of tree)) use_of tree (top_parts here tree)) ≡ tables_of here tree
  any_use here use_of tree = used_by (here (level_of tree)) use_of tree (top_parts here tree) (one_table here tree)

  mixed_by : (b : Bool) (tree : NodeTree) (rest : List TopPart) (make : List (List TimedRow) → List TimedRow)
      → make (map table_of rest) ≡ rows_meant grid tree rows
      → cond b (first_table (map table_of (part_or b AsRows tree rest)))
      (make (map table_of (part_or b AsRows tree rest)))
      ≡ rows_meant grid tree rows
  mixed_by true tree rest make e = refl
  mixed_by false tree rest make e = e

  pub rows_mixed-meant : (here : Level → Bool) (tree : NodeTree)
      → rows_mixed here tree (tables_of here tree) ≡ rows_meant grid tree rows
  rows_mixed-meant here (node.Fetch info schema metric) = refl
  rows_mixed-meant here (node.Filter info by input) =
      mixed_by (here info.level) (node.Filter info by input) (top_parts here input)
      (λ tables. filter (λ (row : TimedRow). predicate_truth by info.columns row.cells) (rows_mixed here input tables))
      (ap (filter (λ (row : TimedRow). predicate_truth by info.columns row.cells)) (rows_mixed-meant here input))
  rows_mixed-meant here (node.Align info by input) = refl
  rows_mixed-meant here (node.GroupBy info by with input) =
      mixed_by (here info.level) (node.GroupBy info by with input) (part_or (here (level_of input)) _ input _)
      (λ tables. group_rows by with (rows_mixed here input tables))
      (ap (λ tables. group_rows by with (rows_mixed here input tables)) (any_use here _ input)
      ∙ ap (group_rows by with) (rows_mixed-meant here input))
  rows_mixed-meant here (node.Value info items input) =
      mixed_by (here info.level) (node.Value info items input) (top_parts here input)
      (λ tables. filter_map (value_row (columns_of input) items) (rows_mixed here input tables))
      (ap (filter_map (value_row (columns_of input) items)) (rows_mixed-meant here input))
  rows_mixed-meant here (node.Top info most column input) =
      mixed_by (here info.level) (node.Top info most column input) (part_or (here (level_of input)) _ input _)
      (λ tables. top_rows most column (rows_mixed here input tables))
      (ap (λ tables. top_rows most column (rows_mixed here input tables)) (any_use here _ input)
      ∙ ap (top_rows most column) (rows_mixed-meant here input))
  rows_mixed-meant here (node.Join info left right) =
      let n = part_count here left in
      let lefts = top_parts here left in
      let rights = top_parts here right in
      let one : rows_mixed here left (take n (map table_of (lefts ++ rights))) ≡ rows_meant grid left rows =
      ap (rows_mixed here left) (take_parts table_of lefts rights) ∙ rows_mixed-meant here left in
      let other : rows_mixed here right (drop n (map table_of (lefts ++ rights))) ≡ rows_meant grid right rows =
      ap (rows_mixed here right) (drop_parts table_of lefts rights) ∙ rows_mixed-meant here right in
      mixed_by (here info.level) (node.Join info left right) (lefts ++ rights)
      (λ tables. flat_map (pairs_of (columns_of left) (columns_of right) (rows_mixed here right (drop n tables)))
      (rows_mixed here left (take n tables)))
      (λ i. flat_map (pairs_of (columns_of left) (columns_of right) (other i)) (one i))
  rows_mixed-meant here (node.Union info left right) =
      let n = part_count here left in
      let lefts = top_parts here left in
      let rights = top_parts here right in
      let one : rows_mixed here left (take n (map table_of (lefts ++ rights))) ≡ rows_meant grid left rows =
      ap (rows_mixed here left) (take_parts table_of lefts rights) ∙ rows_mixed-meant here left in
      let other : rows_mixed here right (drop n (map table_of (lefts ++ rights))) ≡ rows_meant grid right rows =
      ap (rows_mixed here right) (drop_parts table_of lefts rights) ∙ rows_mixed-meant here right in
      mixed_by (here info.level) (node.Union info left right) (lefts ++ rights)
      (λ tables. rows_mixed here left (take n tables) ++ rows_mixed here right (drop n tables))
      (λ i. one i ++ other i)

  -- ---- the parts of one level, of those of a lower one

  module _ (below here : Level → Bool) (within : (l : Level) → below l ≡ true → here l ≡ true) where
    parts_by : (b c : Bool) (tree : NodeTree) (rest more : List TopPart) → (c ≡ true → b ≡ true)
        → (whole : List (List TimedRow) → List TimedRow)
        → (make : List (List TimedRow) → List (List TimedRow))
        → whole (map table_of (part_or c AsRows tree rest)) ≡ rows_meant grid tree rows
        → make (map table_of rest) ≡ map table_of more
        → cond b (whole (map table_of (part_or c AsRows tree rest)) ∷ [])
        (make (map table_of (part_or c AsRows tree rest)))
        ≡ map table_of (part_or b AsRows tree more)
    parts_by true c tree rest more up whole make e f = ap (λ table. table ∷ []) e
    parts_by false true tree rest more up whole make e f = absurd (let no : false ≡ true = up refl in cc)
    parts_by false false tree rest more up whole make e f = f

    both_sides : (left right : NodeTree)
        → parts_mixed below here left (tables_of below left) ≡ tables_of here left
        → parts_mixed below here right (tables_of below right) ≡ tables_of here right
        → parts_mixed below here left
        (take (part_count below left) (map table_of (top_parts below left ++ top_parts below right)))
        ++ parts_mixed below here right
        (drop (part_count below left) (map table_of (top_parts below left ++ top_parts below right)))
        ≡ map table_of (top_parts here left ++ top_parts here right)
    both_sides left right e f =
        let one = ap (parts_mixed below here left)
        (take_parts table_of (top_parts below left) (top_parts below right)) ∙ e in
        let other = ap (parts_mixed below here right)
        (drop_parts table_of (top_parts below left) (top_parts below right)) ∙ f in
        (λ i. one i ++ other i) ∙ sym (map-append table_of (top_parts here left) (top_parts here right))

    pub parts_mixed-meant : (tree : NodeTree) → parts_mixed below here tree (tables_of below tree) ≡ tables_of here tree
    parts_mixed-meant (node.Fetch info schema metric) = refl
    parts_mixed-meant (node.Filter info by input) =
        let tree = node.Filter info by input in
        parts_by (here info.level) (below info.level) tree (top_parts below input) (top_parts here input)
        (within info.level) (rows_mixed below tree) (parts_mixed below here input) (rows_mixed-meant below tree)
        (parts_mixed-meant input)
    parts_mixed-meant (node.Align info by input) = refl
    parts_mixed-meant (node.GroupBy info by with input) =
        let tree = node.GroupBy info by with input in
        parts_by (here info.level) (below info.level) tree (part_or (below (level_of input)) _ input _)
        (part_or (here (level_of input)) _ input _)
        (within info.level) (rows_mixed below tree) (parts_mixed below here input) (rows_mixed-meant below tree)
        (ap (parts_mixed below here input) (any_use below _ input) ∙ parts_mixed-meant input
        ∙ sym (any_use here _ input))
    parts_mixed-meant (node.Value info items input) =
        let tree = node.Value info items input in
        parts_by (here info.level) (below info.level) tree (top_parts below input) (top_parts here input)
        (within info.level) (rows_mixed below tree) (parts_mixed below here input) (rows_mixed-meant below tree)
        (parts_mixed-meant input)
    parts_mixed-meant (node.Top info most column input) =
        let tree = node.Top info most column input in
        parts_by (here info.level) (below info.level) tree (part_or (below (level_of input)) _ input _)
        (part_or (here (level_of input)) _ input _)
        (within info.level) (rows_mixed below tree) (parts_mixed below here input) (rows_mixed-meant below tree)
        (ap (parts_mixed below here input) (any_use below _ input) ∙ parts_mixed-meant input
        ∙ sym (any_use here _ input))
    parts_mixed-meant (node.Join info left right) =
        let tree = node.Join info left right in
        parts_by (here info.level) (below info.level) tree (top_parts below left ++ top_parts below right)
        (top_parts here left ++ top_parts here right) (within info.level) (rows_mixed below tree)
        (λ tables. parts_mixed below here left (take (part_count below left) tables)
        ++ parts_mixed below here right (drop (part_count below left) tables)) (rows_mixed-meant below tree)
        (both_sides left right (parts_mixed-meant left) (parts_mixed-meant right))
    parts_mixed-meant (node.Union info left right) =
        let tree = node.Union info left right in
        parts_by (here info.level) (below info.level) tree (top_parts below left ++ top_parts below right)
        (top_parts here left ++ top_parts here right) (within info.level) (rows_mixed below tree)
        (λ tables. parts_mixed below here left (take (part_count below left) tables)
        ++ parts_mixed below here right (drop (part_count below left) tables)) (rows_mixed-meant below tree)
        (both_sides left right (parts_mixed-meant left) (parts_mixed-meant right))
