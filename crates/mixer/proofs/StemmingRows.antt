-- What each operation makes of rows that stem from homes of a kind: rows that stem from such homes.
use Rattle.std.proofs.Common.{◌≡◌, ◌∙◌, ℕ, ◌+◌, Bool, true, false, cond, Some, None, List, [], ◌∷◌, ◌++◌, map, length}
use Rattle.std.proofs.Common.{length-append, refl, sym, ap, subst, arith}
use Rattle.std.specs.List.{AllByRecursion, filter, filter_map, flat_map, list_all, list_any, zip}
use Rattle.std.specs.Ordering.{int_eq}
use Rattle.mon_value.specs.Groups.{aggregate_made, group_key, group_keys, group_row, group_rows, rows_in}
use Rattle.mon_value.specs.Tables.{Named, cells_agree, is_pair, pair_of, pairs_of}
use Rattle.mon_value.specs.Same.{same_row}
use Rattle.mon_value.specs.declared.aggregates.Aggregate.{Aggregate}
use Rattle.mon_value.specs.declared.columns.Anchor.{Anchor}
use Rattle.mon_value.specs.declared.columns.Anchor.TheVariants as anchor
use Rattle.mon_value.specs.declared.columns.Column.{Column}
use Rattle.mon_value.specs.declared.tables.TimedRow.{TimedRow}
use Rattle.mon_value.specs.declared.values.Value.{Value}
use Rattle.mon_value.proofs.SameLemmas.{same_row-Decides}
use Rattle.mon_schema.specs.Names.{SchemaLists}
use Rattle.mql_ast.specs.Rows.{meets_no_values, sum_value}
use Rattle.mql_ast.specs.Trees.{ItemTree}
use Rattle.typed_trees.specs.Branches.{common_columns, join_columns, same_columns, union_columns}
use Rattle.typed_trees.specs.Groupings.{key_columns_at}
use Rattle.typed_trees.specs.Items.{key_columns}
use Rattle.typed_trees.specs.Levels.{is_location_anchor, same_anchor}
use Rattle.typed_trees.specs.Meaning.{key_cells, value_row}
use Rattle.typed_rows.proofs.JoinedRows.{all-flat_map, all-made, all-map}
use Rattle.typed_rows.proofs.MadeCells.{all-filter_map}
use Rattle.mon_meaning.proofs.ApartKeys.{all_keys}
use Rattle.mixer.proofs.HeldCells as held_cells
use Rattle.mixer.proofs.HeldCells.{HasNoAnchor, Holds, Stems, Tell}
use Rattle.mixer.proofs.PairHomes as pair_homes
use Rattle.mon_value.proofs.PlainLemmas.{and_both, all_append, same_item}

-- each row has a cell for each column
abbrev pub AreWhole : List Column → List TimedRow → Type 0
AreWhole columns rows = AllByRecursion (λ row. length row.cells ≡ length columns) rows

kept_by : {A : Type 0} (Q : A → Type 0) (b : Bool) (x : A) (xs : List A) → (b ≡ true → Q x) → AllByRecursion Q xs
    → AllByRecursion Q (cond b (x ∷ xs) xs)
kept_by Q true x xs own all = (own refl, all)
kept_by Q false x xs own all = all

-- what holds of the items that pass a test
pub all_passing : {A : Type 0} (P Q : A → Type 0) (p : A → Bool) (xs : List A) → ((x : A) → P x → p x ≡ true → Q x)
    → AllByRecursion P xs → AllByRecursion Q (filter p xs)
all_passing P Q p [] step all = tt
all_passing P Q p (x ∷ xs) step all =
    kept_by Q (p x) x (filter p xs) (step x all.0) (all_passing P Q p xs step all.1)

-- two facts of each item, of which the one leads to the other
pub all_given : {A : Type 0} (P Q : A → Type 0) (xs : List A) → AllByRecursion (λ x. P x → Q x) xs
    → AllByRecursion P xs → AllByRecursion Q xs
all_given P Q [] lead all = tt
all_given P Q (x ∷ xs) lead all = (lead.0 all.0, all_given P Q xs lead.1 all.1)

-- the cells of a pair agree in the columns of one name
pub pair_agrees : (lefts rights : List Column) (left right : TimedRow) → is_pair lefts rights left right ≡ true
    → list_all (λ cell. list_all (λ (o : Named). cells_agree cell o) (zip rights right.cells)) (zip lefts left.cells)
    ≡ true
pair_agrees lefts rights left right e = (and_both (int_eq left.time right.time) _ e).1

module _ {H : Type 0} (Says : H → Anchor → Value → Type 0) (P : H → Type 0) where
  abbrev pub AllStem : List Column → List TimedRow → Type 0
  AllStem columns rows = AllByRecursion (λ row. Stems Says P columns row.cells) rows

  -- cells behind those that stem from a home say nothing
  stems_front : (front plain : List Column) (cells rest : List Value) → AllByRecursion HasNoAnchor plain
      → length (cells ++ rest) ≡ length (front ++ plain) → Stems Says P front cells
      → Stems Says P (front ++ plain) (cells ++ rest)
  stems_front front plain cells rest none long own =
      let same : length cells ≡ length front = held_cells.Holds-length Says own.home front cells own.holds in
      let left : length cells + length rest ≡ length cells + length plain =
      sym (length-append cells rest) ∙ long ∙ length-append front plain ∙ ap (λ n. n + length plain) (sym same) in
      record {
        home = own.home;
        from = own.from;
        holds = held_cells.Holds-append Says own.home front plain cells rest own.holds
            (held_cells.Holds-plain Says own.home plain rest none (omega (arith, left)));
      }

  -- ---- groups

  -- what tells a group stems from the home of its rows
  pub keys_stem : (columns : List Column) (by : List ℕ) (rows : List TimedRow) → AllStem columns rows
      → AllByRecursion (λ row. Stems Says P (key_columns_at columns by) (group_key by row).cells) rows
  keys_stem columns by rows all =
      all-map (λ row. Stems Says P columns row.cells)
      (λ row. Stems Says P (key_columns_at columns by) (group_key by row).cells) rows
      (λ row own. record {
        home = own.home;
        from = own.from;
        holds = held_cells.Holds-places Says own.home columns row.cells own.holds by;
      }) all

  groups_stem : (listed plain : List Column) (with : List Aggregate) (by : List ℕ) (rows : List TimedRow)
      → AllByRecursion HasNoAnchor plain → (keys : List TimedRow)
      → AllByRecursion (λ key. Stems Says P listed key.cells) keys
      → AreWhole (listed ++ plain) (map (group_row with) (map (λ key. (key, rows_in by key rows)) keys))
      → AllStem (listed ++ plain) (map (group_row with) (map (λ key. (key, rows_in by key rows)) keys))
  groups_stem listed plain with by rows none [] all whole = tt
  groups_stem listed plain with by rows none (key ∷ keys) all whole = (
    stems_front listed plain key.cells
        (filter_map (λ aggregate. aggregate_made aggregate.what aggregate.column (rows_in by key rows)) with) none
        whole.0 all.0,
    groups_stem listed plain with by rows none keys all.1 whole.1,
  )

  pub group_stems : (columns plain : List Column) (by : List ℕ) (with : List Aggregate) (rows : List TimedRow)
      → AllByRecursion HasNoAnchor plain → AllStem columns rows
      → AreWhole (key_columns_at columns by ++ plain) (group_rows by with rows)
      → AllStem (key_columns_at columns by ++ plain) (group_rows by with rows)
  group_stems columns plain by with rows none all whole =
      let listed = key_columns_at columns by in
      groups_stem listed plain with by rows none (group_keys by rows)
      (all_keys same_row same_row-Decides (group_key by) (λ key. Stems Says P listed key.cells) rows
      (keys_stem columns by rows all)) whole

  -- ---- values

  row_by : (b : Bool) (x y : TimedRow) → cond b None (Some x) ≡ Some y → x ≡ y
  row_by true x y e = absurd cc
  row_by false x y e = same_item x y e

  made_stems : (columns plain : List Column) (items : List ItemTree) → AllByRecursion HasNoAnchor plain
      → (row made : TimedRow) → Stems Says P columns row.cells → value_row columns items row ≡ Some made
      → length made.cells ≡ length (key_columns columns ++ plain)
      → Stems Says P (key_columns columns ++ plain) made.cells
  made_stems columns plain items none row made own is long =
      let rest = filter_map (λ (item : ItemTree). sum_value item.sum columns row.cells) items in
      let whole : TimedRow = record { time = row.time; cells = key_cells columns row.cells ++ rest } in
      let same : whole ≡ made =
      row_by (list_any (λ (item : ItemTree). meets_no_values item.sum columns row.cells) items) whole made is in
      let R : TimedRow → Type 0 = λ r. length r.cells ≡ length (key_columns columns ++ plain)
      → Stems Says P (key_columns columns ++ plain) r.cells in
      subst R same
      (λ l. stems_front (key_columns columns) plain (key_cells columns row.cells) rest none l (record {
        home = own.home;
        from = own.from;
        holds = held_cells.Holds-kept Says own.home (λ column. column.key) columns row.cells own.holds;
      })) long

  pub value_stems : (columns plain : List Column) (items : List ItemTree) (rows : List TimedRow)
      → AllByRecursion HasNoAnchor plain → AllStem columns rows
      → AreWhole (key_columns columns ++ plain) (filter_map (value_row columns items) rows)
      → AllStem (key_columns columns ++ plain) (filter_map (value_row columns items) rows)
  value_stems columns plain items rows none all whole =
      let to = key_columns columns ++ plain in
      let made = filter_map (value_row columns items) rows in
      all_given (λ (row : TimedRow). length row.cells ≡ length to) (λ row. Stems Says P to row.cells) made
      (all-filter_map (λ row. Stems Says P columns row.cells)
      (λ (row : TimedRow). length row.cells ≡ length to → Stems Says P to row.cells) (value_row columns items) rows
      (λ row made own is long. made_stems columns plain items none row made own is long) all) whole

module _ {H : Type 0} (Says : H → Anchor → Value → Type 0) where
  -- rows of homes of a kind stem from homes of a wider one
  pub stems_so : (P Q : H → Type 0) → ((home : H) → P home → Q home) → (columns : List Column) (rows : List TimedRow)
      → AllStem Says P columns rows → AllStem Says Q columns rows
  stems_so P Q so columns rows all =
      all-map (λ row. Stems Says P columns row.cells) (λ row. Stems Says Q columns row.cells) rows
      (λ row own. record { home = own.home; from = so own.home own.from; holds = own.holds }) all

module _ {H : Type 0} (Says : H → Anchor → Value → Type 0) (held : SchemaLists)
    (at_least : (home : H) (a : Anchor) (x : Value) → is_location_anchor held a ≡ true → Says home a x
    → Says home anchor.Location x)
    (alike : (home : H) (a b : Anchor) (x : Value) → same_anchor a b ≡ true → Says home b x → Says home a x)
    (P Q : H → Type 0) where
  -- ---- joins

  -- a pair stems from the home of both of its rows
  one_pair : (lefts rights : List Column) → Tell Says (common_columns held lefts rights) → (left : TimedRow)
      → Stems Says P lefts left.cells → (right : TimedRow) → Stems Says Q rights right.cells
      → is_pair lefts rights left right ≡ true
      → Stems Says (λ home. P home × Q home) (join_columns held lefts rights) (pair_of lefts rights left right).cells
  one_pair lefts rights tell left own right other pair =
      let agree = pair_homes.agree_in Says held at_least alike own.home other.home rights right.cells other.holds lefts
      left.cells own.holds (pair_agrees lefts rights left right pair) in
      let one : own.home ≡ other.home = tell own.home other.home agree.cells agree.left agree.right in
      record {
        home = own.home;
        from = (own.from, subst Q (sym one) other.from);
        holds = pair_homes.pair_holds Says held at_least alike own.home lefts rights left right own.holds
            (subst (λ h. Holds Says h rights right.cells) (sym one) other.holds);
      }

  pub join_stems : (lefts rights : List Column) → Tell Says (common_columns held lefts rights)
      → (rows others : List TimedRow) → AllStem Says P lefts rows → AllStem Says Q rights others
      → AllStem Says (λ home. P home × Q home) (join_columns held lefts rights)
      (flat_map (pairs_of lefts rights others) rows)
  join_stems lefts rights tell rows others own more =
      let to = join_columns held lefts rights in
      let R : H → Type 0 = λ home. P home × Q home in
      all-flat_map (λ row. Stems Says P lefts row.cells) (λ row. Stems Says R to row.cells)
      (pairs_of lefts rights others) rows
      (λ left l. all-made (λ right. Stems Says R to (pair_of lefts rights left right).cells)
      (λ row. Stems Says R to row.cells) (pair_of lefts rights left) (filter (is_pair lefts rights left) others)
      (λ right s. s)
      (all_passing (λ right. Stems Says Q rights right.cells)
      (λ right. Stems Says R to (pair_of lefts rights left right).cells) (is_pair lefts rights left) others
      (λ right r pair. one_pair lefts rights tell left l right r pair) more)) own

module _ {H : Type 0} (Says : H → Anchor → Value → Type 0) (held : SchemaLists)
    (at_least : (home : H) (a : Anchor) (x : Value) → is_location_anchor held a ≡ true → Says home a x
    → Says home anchor.Location x)
    (alike : (home : H) (a b : Anchor) (x : Value) → same_anchor a b ≡ true → Says home b x → Says home a x)
    (P : H → Type 0) where
  -- ---- unions

  pub union_stems : (lefts rights : List Column) → same_columns lefts rights ≡ true → (rows others : List TimedRow)
      → AllStem Says P lefts rows → AllStem Says P rights others
      → AllStem Says P (union_columns held lefts rights) (rows ++ others)
  union_stems lefts rights same rows others own more =
      let to = union_columns held lefts rights in
      all_append (λ row. Stems Says P to row.cells) rows others
      (all-map (λ row. Stems Says P lefts row.cells) (λ row. Stems Says P to row.cells) rows
      (λ row s. record {
        home = s.home;
        from = s.from;
        holds = pair_homes.left_holds Says held at_least alike s.home lefts rights row.cells same s.holds;
      }) own)
      (all-map (λ row. Stems Says P rights row.cells) (λ row. Stems Says P to row.cells) others
      (λ row s. record {
        home = s.home;
        from = s.from;
        holds = pair_homes.right_holds Says held at_least alike s.home lefts rights row.cells same s.holds;
      }) more)
