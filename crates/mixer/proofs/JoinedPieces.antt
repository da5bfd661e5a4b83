-- Pieces of several children, put together, stand for the rows of all.
use Rattle.std.proofs.Common.{◌≡◌, ◌∙◌, ◌≤◌, ℕ, List, [], ◌∷◌, ◌++◌, length, append-nil, append_assoc, sym, ap, subst}
use Rattle.std.proofs.Common.{arith}
use Rattle.std.specs.Prelude.{IsPermutation}
use Rattle.std.specs.List.{AllByRecursion, flat_map}
use Rattle.std.proofs.lemmas.List.{length-append}
use Rattle.std.proofs.lemmas.List.Sorted.{IsPermutation-append, IsPermutation-sym, IsPermutation-trans}
use Rattle.std.proofs.lemmas.List.Sorted.{length_permutation}
use Rattle.mon_value.specs.Values.{greatest_sum}
use Rattle.mon_value.specs.Groups.{top_rows}
use Rattle.mon_value.specs.declared.aggregates.Aggregate.{Aggregate}
use Rattle.mon_value.specs.declared.columns.Column.{Column}
use Rattle.mon_value.specs.declared.grids.Grid.{Grid}
use Rattle.mon_value.specs.declared.rows.Row.{Row}
use Rattle.mon_value.specs.declared.tables.Table.{Table}
use Rattle.mon_value.specs.declared.tables.TimedRow.{TimedRow}
use Rattle.typed_trees.specs.Meaning.{rows_meant}
use Rattle.typed_trees.specs.Nodes.{columns_of}
use Rattle.typed_trees.specs.Levels as up
use Rattle.typed_trees.specs.Levels.{PartUse, TopPart}
use Rattle.mon_fold.proofs.MergeableGroups as mergeable
use Rattle.mon_fold.proofs.MergeableGroups.{first_can}
use Rattle.mon_fold.proofs.PartialGroupLemmas.{groups_merge}
use Rattle.mon_fold.specs.PartialGroups.{CanMergeGroups, GroupsSoFar, merged_groups, parts_of}
use Rattle.mon_fold.specs.declared.answers.Piece.{Piece}
use Rattle.mon_fold.specs.declared.answers.Piece.TheVariants as piece
use Rattle.mon_meaning.specs.GoingUp.{CanGoUp}
use Rattle.mon_meaning.specs.Standing.{AllStandFor, AreGroupsOf, IsTableOf, StandsFor}
use Rattle.mon_meaning.proofs.OperationOrders.{CanGroup-permutation, top_rows-permutation}
use Rattle.mixer.specs.within.Joined.{AllCanJoin, CanJoin, CanJoinChildren, piece_joined, pieces_joined, with_children}
use Rattle.mixer.specs.within.ZonePieces.{piece_cut}
use Rattle.mixer.proofs.TopMerges.{top_of_top, top_of_tops}

-- ---- one part

-- a table that is cut to the rows that come first where these rows are
pub record IsCutTo (columns : List Column) (most column : ℕ) (rows : List TimedRow) (table : Table) : Type 0 where
  pub columns_are : table.columns ≡ columns
  pub firsts_are : IsPermutation (top_rows most column rows) (top_rows most column table.rows)

-- what a piece of several children has come to
abbrev pub ComesTo : List Column → PartUse → List TimedRow → Piece → Type 0
ComesTo columns up.AsRows rows (piece.Table table) = IsTableOf columns rows table
ComesTo columns up.AsRows rows (piece.Groups groups) = ⊥
ComesTo columns (up.ToGroup by with) rows (piece.Table table) = ⊥
ComesTo columns (up.ToGroup by with) rows (piece.Groups groups) = AreGroupsOf columns by with rows groups
ComesTo columns (up.ToCut most column) rows (piece.Table table) = IsCutTo columns most column rows table
ComesTo columns (up.ToCut most column) rows (piece.Groups groups) = ⊥

top_twice : (most column : ℕ) (rows : List TimedRow)
    → top_rows most column (top_rows most column rows) ≡ top_rows most column rows
top_twice most column rows =
    ap (top_rows most column) (sym (append-nil (top_rows most column rows)))
    ∙ top_of_top column most rows [] ∙ ap (top_rows most column) (append-nil rows)

-- what stands for rows has come to them
pub comes_standing : (columns : List Column) (use_of : PartUse) (rows : List TimedRow) (p : Piece)
    → StandsFor columns (use_of, rows) p → ComesTo columns use_of rows p
comes_standing columns up.AsRows rows (piece.Table table) stands = stands
comes_standing columns up.AsRows rows (piece.Groups groups) stands = absurd stands
comes_standing columns (up.ToGroup by with) rows (piece.Table table) stands = absurd stands
comes_standing columns (up.ToGroup by with) rows (piece.Groups groups) stands = stands
comes_standing columns (up.ToCut most column) rows (piece.Table table) stands = record {
  columns_are = stands.columns_are;
  firsts_are = subst (λ xs. IsPermutation xs (top_rows most column table.rows)) (top_twice most column rows)
      (top_rows-permutation most column (top_rows most column rows) table.rows stands.rows_are);
}
comes_standing columns (up.ToCut most column) rows (piece.Groups groups) stands = absurd stands

-- and once it is cut it stands for them
pub cut_stands : (columns : List Column) (use_of : PartUse) (rows : List TimedRow) (p : Piece)
    → ComesTo columns use_of rows p → StandsFor columns (use_of, rows) (piece_cut use_of p)
cut_stands columns up.AsRows rows (piece.Table table) comes = comes
cut_stands columns up.AsRows rows (piece.Groups groups) comes = absurd comes
cut_stands columns (up.ToGroup by with) rows (piece.Table table) comes = absurd comes
cut_stands columns (up.ToGroup by with) rows (piece.Groups groups) comes = comes
cut_stands columns (up.ToCut most column) rows (piece.Table table) comes =
    record { columns_are = comes.columns_are; rows_are = comes.firsts_are }
cut_stands columns (up.ToCut most column) rows (piece.Groups groups) comes = absurd comes

pub comes-permutation : (columns : List Column) (use_of : PartUse) (xs ys : List TimedRow) (p : Piece)
    → IsPermutation xs ys → ComesTo columns use_of ys p → ComesTo columns use_of xs p
comes-permutation columns up.AsRows xs ys (piece.Table table) same comes = record {
  columns_are = comes.columns_are;
  rows_are = IsPermutation-trans _ _ _ same comes.rows_are;
}
comes-permutation columns up.AsRows xs ys (piece.Groups groups) same comes = absurd comes
comes-permutation columns (up.ToGroup by with) xs ys (piece.Table table) same comes = absurd comes
comes-permutation columns (up.ToGroup by with) xs ys (piece.Groups groups) same comes = record {
  taken = comes.taken;
  rows_are = IsPermutation-trans _ _ _ same comes.rows_are;
  groups_are = comes.groups_are;
}
comes-permutation columns (up.ToCut most column) xs ys (piece.Table table) same comes = record {
  columns_are = comes.columns_are;
  firsts_are = IsPermutation-trans _ _ _ (top_rows-permutation most column xs ys same) comes.firsts_are;
}
comes-permutation columns (up.ToCut most column) xs ys (piece.Groups groups) same comes = absurd comes

-- rows that a piece can be made of, and not too many
abbrev pub CanCome : List Column → PartUse → List TimedRow → Type 0
CanCome columns use_of rows = CanGoUp columns use_of rows × (length rows ≤ greatest_sum)

groups_joined : (columns : List Column) (by : List ℕ) (with : List Aggregate) (xs ys : List TimedRow)
    (groups others : GroupsSoFar) → groups ≡ parts_of columns by with xs → others ≡ parts_of columns by with ys
    → record {
      columns = groups.columns;
      kinds = groups.kinds;
      groups = merged_groups groups.groups others.groups;
    } ≡ parts_of columns by with (xs ++ ys)
groups_joined columns by with xs ys groups others one other =
    let merged : merged_groups groups.groups others.groups ≡ (parts_of columns by with (xs ++ ys)).groups =
    (λ i. merged_groups (one i).groups (other i).groups) ∙ groups_merge with by xs ys in
    λ i. record { columns = (one i).columns; kinds = (one i).kinds; groups = merged i }

-- two pieces, put together
pub come_together : (columns : List Column) (use_of : PartUse) (xs ys : List TimedRow) (p q : Piece)
    → ComesTo columns use_of xs p → ComesTo columns use_of ys q → CanCome columns use_of (xs ++ ys)
    → CanJoin p q × ComesTo columns use_of (xs ++ ys) (piece_joined p q)
come_together columns up.AsRows xs ys (piece.Table table) (piece.Table other) one two can = (
  tt,
  record {
    columns_are = one.columns_are;
    rows_are = IsPermutation-append _ _ _ _ one.rows_are two.rows_are;
  },
)
come_together columns up.AsRows xs ys (piece.Table table) (piece.Groups groups) one two can = absurd two
come_together columns up.AsRows xs ys (piece.Groups groups) q one two can = absurd one
come_together columns (up.ToGroup by with) xs ys (piece.Table table) q one two can = absurd one
come_together columns (up.ToGroup by with) xs ys (piece.Groups groups) (piece.Table table) one two can = absurd two
come_together columns (up.ToGroup by with) xs ys (piece.Groups groups) (piece.Groups others) one two can =
    let us = one.taken in
    let vs = two.taken in
    let same : IsPermutation (xs ++ ys) (us ++ vs) = IsPermutation-append _ _ _ _ one.rows_are two.rows_are in
    let count = length_permutation _ _ same in
    let merges = mergeable.groups_can_merge columns by with us vs
    (CanGroup-permutation columns by with (xs ++ ys) (us ++ vs) same can.0) (subst (λ n. n ≤ greatest_sum) (sym count)
    can.1) in
    let first : groups ≡ parts_of columns by with us = one.groups_are in
    let second : others ≡ parts_of columns by with vs = two.groups_are in (
      (
        ap (λ (g : GroupsSoFar). g.columns) first ∙ sym (ap (λ (g : GroupsSoFar). g.columns) second),
        (
          ap (λ (g : GroupsSoFar). g.kinds) first ∙ sym (ap (λ (g : GroupsSoFar). g.kinds) second),
          subst (λ (g : GroupsSoFar). CanMergeGroups g.groups others.groups) (sym first)
              (subst (λ (g : GroupsSoFar). CanMergeGroups (parts_of columns by with us).groups g.groups) (sym second)
              merges),
        ),
      ),
      record {
        taken = us ++ vs;
        rows_are = same;
        groups_are = groups_joined columns by with us vs groups others first
            second;
      },
    )
come_together columns (up.ToCut most column) xs ys (piece.Table table) (piece.Table other) one two can =
    let firsts : List TimedRow → List TimedRow = top_rows most column in
    let both : IsPermutation (firsts (firsts xs ++ firsts ys)) (firsts (firsts table.rows ++ firsts other.rows)) =
    top_rows-permutation most column _ _ (IsPermutation-append _ _ _ _ one.firsts_are two.firsts_are) in (
      tt,
      record {
        columns_are = one.columns_are;
        firsts_are = IsPermutation-trans _ _ _
            (IsPermutation-sym (firsts (firsts xs ++ firsts ys)) (firsts (xs ++ ys)) (top_of_tops column most xs ys))
            (IsPermutation-trans _ _ _ both (top_of_tops column most table.rows other.rows));
      },
    )
come_together columns (up.ToCut most column) xs ys (piece.Table table) (piece.Groups groups) one two can = absurd two
come_together columns (up.ToCut most column) xs ys (piece.Groups groups) q one two can = absurd one

-- ---- all parts

-- there is a piece for each part, which has come to some rows of it
abbrev pub AllCome : (TopPart → List TimedRow) → List TopPart → List Piece → Type 0
AllCome meant [] [] = Unit {0}
AllCome meant [] (p ∷ pieces) = ⊥
AllCome meant (part ∷ parts) [] = ⊥
AllCome meant (part ∷ parts) (p ∷ pieces) =
    ComesTo (columns_of part.1) part.0 (meant part) p × AllCome meant parts pieces

abbrev pub AllCanCome : (TopPart → List TimedRow) → List TopPart → Type 0
AllCanCome meant parts = AllByRecursion (λ part. CanCome (columns_of part.1) part.0 (meant part)) parts

abbrev pub meant_over : Grid → List Row → TopPart → List TimedRow
meant_over grid source part = rows_meant grid part.1 source

pub all_standing : (grid : Grid) (source : List Row) (parts : List TopPart) (pieces : List Piece)
    → AllStandFor grid source parts pieces → AllCome (meant_over grid source) parts pieces
all_standing grid source [] [] all = tt
all_standing grid source [] (p ∷ pieces) all = absurd all
all_standing grid source (part ∷ parts) [] all = absurd all
all_standing grid source (part ∷ parts) (p ∷ pieces) all =
    (comes_standing (columns_of part.1) part.0 _ p all.0, all_standing grid source parts pieces all.1)

pub all_come-permutation : (meant other : TopPart → List TimedRow) (parts : List TopPart) (pieces : List Piece)
    → AllByRecursion (λ part. IsPermutation (meant part) (other part)) parts → AllCome other parts pieces
    → AllCome meant parts pieces
all_come-permutation meant other [] [] same all = tt
all_come-permutation meant other [] (p ∷ pieces) same all = absurd all
all_come-permutation meant other (part ∷ parts) [] same all = absurd all
all_come-permutation meant other (part ∷ parts) (p ∷ pieces) same all = (
  comes-permutation (columns_of part.1) part.0 _ _ p same.0 all.0,
  all_come-permutation meant other parts pieces
      same.1 all.1,
)

abbrev both : (TopPart → List TimedRow) → (TopPart → List TimedRow) → TopPart → List TimedRow
both meant other part = meant part ++ other part

pub all_together : (meant other : TopPart → List TimedRow) (parts : List TopPart) (pieces others : List Piece)
    → AllCome meant parts pieces → AllCome other parts others → AllCanCome (both meant other) parts
    → AllCanJoin pieces others × AllCome (both meant other) parts (pieces_joined pieces others)
all_together meant other [] [] others one two can = (tt, tt)
all_together meant other [] (p ∷ pieces) others one two can = absurd one
all_together meant other (part ∷ parts) [] others one two can = absurd one
all_together meant other (part ∷ parts) (p ∷ pieces) [] one two can = absurd two
all_together meant other (part ∷ parts) (p ∷ pieces) (q ∷ others) one two can =
    let first = come_together (columns_of part.1) part.0 (meant part) (other part) p q one.0 two.0 can.0 in
    let rest = all_together meant other parts pieces others one.1 two.1 can.1 in
    ((first.0, rest.0), (first.1, rest.1))

pub can_go_up_first : (columns : List Column) (use_of : PartUse) (xs ys : List TimedRow) → CanGoUp columns use_of
    (xs ++ ys)
    → CanGoUp columns use_of xs
can_go_up_first columns up.AsRows xs ys can = tt
can_go_up_first columns (up.ToGroup by with) xs ys can = first_can columns by with xs ys can
can_go_up_first columns (up.ToCut most column) xs ys can = tt

first_can_come : (meant other : TopPart → List TimedRow) (parts : List TopPart) → AllCanCome (both meant other) parts
    → AllCanCome meant parts
first_can_come meant other [] can = tt
first_can_come meant other (part ∷ parts) can =
    let count = length-append (meant part) (other part) in
    let most = can.0.1 in (
      (can_go_up_first (columns_of part.1) part.0 (meant part) (other part) can.0.0, omega (arith, count, most)),
      first_can_come meant other parts can.1,
    )

-- ---- all children

abbrev pub rows_over : Grid → List (List Row) → TopPart → List TimedRow
rows_over grid leaves part = flat_map (rows_meant grid part.1) leaves

-- each child has a piece for each part
abbrev pub AllChildren : Grid → List TopPart → List (List Row) → List (List Piece) → Type 0
AllChildren grid parts [] [] = Unit {0}
AllChildren grid parts [] (child ∷ children) = ⊥
AllChildren grid parts (rows ∷ leaves) [] = ⊥
AllChildren grid parts (rows ∷ leaves) (child ∷ children) =
    AllStandFor grid rows parts child × AllChildren grid parts leaves children

pub children_together : (grid : Grid) (parts : List TopPart) (meant : TopPart → List TimedRow)
    (leaves : List (List Row))
    (pieces : List Piece) (children : List (List Piece)) → AllCome meant parts pieces → AllChildren grid parts leaves
    children
    → AllCanCome (both meant (rows_over grid leaves)) parts
    → CanJoinChildren pieces children × AllCome (both meant (rows_over grid leaves)) parts
    (with_children pieces children)
children_together grid parts meant [] pieces [] come all can = (
  tt,
  subst (λ (f : TopPart → List TimedRow). AllCome f parts pieces) (sym (λ i part. append-nil (meant part) i))
      come,
)
children_together grid parts meant [] pieces (child ∷ children) come all can = absurd all
children_together grid parts meant (rows ∷ leaves) pieces [] come all can = absurd all
children_together grid parts meant (rows ∷ leaves) pieces (child ∷ children) come all can =
    let own : TopPart → List TimedRow = meant_over grid rows in
    let rest : TopPart → List TimedRow = rows_over grid leaves in
    let apart : both (both meant own) rest ≡ both meant (rows_over grid (rows ∷ leaves)) =
    λ i part. append_assoc (meant part) (own part) (rest part) i in
    let can_all : AllCanCome (both (both meant own) rest) parts =
    subst (λ (f : TopPart → List TimedRow). AllCanCome f parts) (sym apart) can in
    let first = all_together meant own parts pieces child come (all_standing grid rows parts child all.0)
    (first_can_come (both meant own) rest parts can_all) in
    let more = children_together grid parts (both meant own) leaves (pieces_joined pieces child) children first.1 all.1
    can_all in (
      (first.0, more.0),
      subst (λ (f : TopPart → List TimedRow). AllCome f parts (with_children pieces (child ∷ children))) apart more.1,
    )
