-- Mixing tables whose rows stand in another order gives tables whose rows stand in another order.
use Rattle.std.proofs.Common.{ℕ, zero, suc, Bool, true, false, cond, List, [], ◌∷◌, ◌++◌, take, drop}
use Rattle.std.specs.Prelude.{IsPermutation}
use Rattle.std.proofs.lemmas.List.Sorted.{IsPermutation-append, IsPermutation-refl}
use Rattle.mon_value.specs.declared.tables.TimedRow.{TimedRow}
use Rattle.mon_value.proofs.PermutationLemmas.{filter-permutation}
use Rattle.mql_ast.specs.Rows.{predicate_truth}
use Rattle.typed_trees.specs.Meaning.{value_row}
use Rattle.typed_trees.specs.Nodes as node
use Rattle.typed_trees.specs.Nodes.{NodeTree, columns_of}
use Rattle.typed_trees.specs.Levels.{PieceMeant}
use Rattle.typed_trees.specs.declared.levels.Level.{Level}
use Rattle.mon_meaning.proofs.FilterLemmas.{filter_map-permutation}
use Rattle.mon_meaning.proofs.OperationOrders.{group_rows-permutation, pairs-permutation, top_rows-permutation}
use Rattle.mixer.specs.Mixing.{SamePieces, first_table, part_count, parts_mixed, piece_rows, rows_mixed}

-- tables one by one, whose rows may stand in another order
abbrev pub SameTables : List (List TimedRow) → List (List TimedRow) → Type 0
SameTables [] [] = Unit {0}
SameTables [] (other ∷ others) = ⊥
SameTables (rows ∷ tables) [] = ⊥
SameTables (rows ∷ tables) (other ∷ others) = IsPermutation rows other × SameTables tables others

pub same_rows : (ps qs : List PieceMeant) → SamePieces ps qs → SameTables (piece_rows ps) (piece_rows qs)
same_rows [] [] same = tt
same_rows [] (q ∷ qs) same = absurd same
same_rows (p ∷ ps) [] same = absurd same
same_rows (p ∷ ps) (q ∷ qs) same = (same.1.0, same_rows ps qs same.1.1)

same_first : (ps qs : List (List TimedRow)) → SameTables ps qs → IsPermutation (first_table ps) (first_table qs)
same_first [] [] same = IsPermutation-refl []
same_first [] (q ∷ qs) same = absurd same
same_first (p ∷ ps) [] same = absurd same
same_first (p ∷ ps) (q ∷ qs) same = same.0

pub same_take : (n : ℕ) (ps qs : List (List TimedRow)) → SameTables ps qs → SameTables (take n ps) (take n qs)
same_take zero [] [] same = tt
same_take (suc n) [] [] same = tt
same_take n [] (q ∷ qs) same = absurd same
same_take n (p ∷ ps) [] same = absurd same
same_take zero (p ∷ ps) (q ∷ qs) same = tt
same_take (suc n) (p ∷ ps) (q ∷ qs) same = (same.0, same_take n ps qs same.1)

pub same_drop : (n : ℕ) (ps qs : List (List TimedRow)) → SameTables ps qs → SameTables (drop n ps) (drop n qs)
same_drop zero [] [] same = tt
same_drop (suc n) [] [] same = tt
same_drop n [] (q ∷ qs) same = absurd same
same_drop n (p ∷ ps) [] same = absurd same
same_drop zero (p ∷ ps) (q ∷ qs) same = same
same_drop (suc n) (p ∷ ps) (q ∷ qs) same = same_drop n ps qs same.1

pub same_append : (ps qs us vs : List (List TimedRow)) → SameTables ps qs → SameTables us vs
    → SameTables (ps ++ us) (qs ++ vs)
same_append [] [] us vs same more = more
same_append [] (q ∷ qs) us vs same more = absurd same
same_append (p ∷ ps) [] us vs same more = absurd same
same_append (p ∷ ps) (q ∷ qs) us vs same more = (same.0, same_append ps qs us vs same.1 more)

same_if : (b : Bool) (xs ys us vs : List TimedRow) → IsPermutation xs ys → IsPermutation us vs
    → IsPermutation (cond b xs us) (cond b ys vs)
same_if true xs ys us vs same more = same
same_if false xs ys us vs same more = more

pub rows_mixed-same : (here : Level → Bool) (tree : NodeTree) (ps qs : List (List TimedRow)) → SameTables ps qs
    → IsPermutation (rows_mixed here tree ps) (rows_mixed here tree qs)
rows_mixed-same here (node.Fetch info schema metric) ps qs same = same_first ps qs same
rows_mixed-same here (node.Filter info by input) ps qs same =
    same_if (here info.level) _ _ _ _ (same_first ps qs same)
    (filter-permutation (λ (row : TimedRow). predicate_truth by info.columns row.cells) _ _
    (rows_mixed-same here input ps qs same))
rows_mixed-same here (node.Align info by input) ps qs same = same_first ps qs same
rows_mixed-same here (node.GroupBy info by with input) ps qs same =
    same_if (here info.level) _ _ _ _ (same_first ps qs same)
    (group_rows-permutation by with _ _ (rows_mixed-same here input ps qs same))
rows_mixed-same here (node.Value info items input) ps qs same =
    same_if (here info.level) _ _ _ _ (same_first ps qs same)
    (filter_map-permutation (value_row (columns_of input) items) _ _ (rows_mixed-same here input ps qs same))
rows_mixed-same here (node.Top info most column input) ps qs same =
    same_if (here info.level) _ _ _ _ (same_first ps qs same)
    (top_rows-permutation most column _ _ (rows_mixed-same here input ps qs same))
rows_mixed-same here (node.Join info left right) ps qs same =
    let n = part_count here left in
    same_if (here info.level) _ _ _ _ (same_first ps qs same)
    (pairs-permutation (columns_of left) (columns_of right) _ _ _ _
    (rows_mixed-same here left (take n ps) (take n qs) (same_take n ps qs same))
    (rows_mixed-same here right (drop n ps) (drop n qs) (same_drop n ps qs same)))
rows_mixed-same here (node.Union info left right) ps qs same =
    let n = part_count here left in
    same_if (here info.level) _ _ _ _ (same_first ps qs same)
    (IsPermutation-append _ _ _ _
    (rows_mixed-same here left (take n ps) (take n qs) (same_take n ps qs same))
    (rows_mixed-same here right (drop n ps) (drop n qs) (same_drop n ps qs same)))

tables_if : (b : Bool) (xs ys us vs : List (List TimedRow)) → SameTables xs ys → SameTables us vs
    → SameTables (cond b xs us) (cond b ys vs)
tables_if true xs ys us vs same more = same
tables_if false xs ys us vs same more = more

pub parts_mixed-same : (below here : Level → Bool) (tree : NodeTree) (ps qs : List (List TimedRow)) → SameTables ps qs
    → SameTables (parts_mixed below here tree ps) (parts_mixed below here tree qs)
parts_mixed-same below here (node.Fetch info schema metric) ps qs same = (same_first ps qs same, tt)
parts_mixed-same below here (node.Filter info by input) ps qs same =
    tables_if (here info.level) _ _ _ _ (rows_mixed-same below (node.Filter info by input) ps qs same, tt)
    (parts_mixed-same below here input ps qs same)
parts_mixed-same below here (node.Align info by input) ps qs same = (same_first ps qs same, tt)
parts_mixed-same below here (node.GroupBy info by with input) ps qs same =
    tables_if (here info.level) _ _ _ _ (rows_mixed-same below (node.GroupBy info by with input) ps qs same, tt)
    (parts_mixed-same below here input ps qs same)
parts_mixed-same below here (node.Value info items input) ps qs same =
    tables_if (here info.level) _ _ _ _ (rows_mixed-same below (node.Value info items input) ps qs same, tt)
    (parts_mixed-same below here input ps qs same)
parts_mixed-same below here (node.Top info most column input) ps qs same =
    tables_if (here info.level) _ _ _ _ (rows_mixed-same below (node.Top info most column input) ps qs same, tt)
    (parts_mixed-same below here input ps qs same)
parts_mixed-same below here (node.Join info left right) ps qs same =
    let n = part_count below left in
    let halves : NodeTree → NodeTree → List (List TimedRow) → List (List TimedRow) =
    λ l r tables. parts_mixed below here l (take n tables) ++ parts_mixed below here r (drop n tables) in
    tables_if (here info.level) (rows_mixed below (node.Join info left right) ps ∷ [])
    (rows_mixed below (node.Join info left right) qs ∷ []) (halves left right ps) (halves left right qs)
    (rows_mixed-same below (node.Join info left right) ps qs same, tt)
    (same_append _ _ _ _ (parts_mixed-same below here left (take n ps) (take n qs) (same_take n ps qs same))
    (parts_mixed-same below here right (drop n ps) (drop n qs) (same_drop n ps qs same)))
parts_mixed-same below here (node.Union info left right) ps qs same =
    let n = part_count below left in
    let halves : NodeTree → NodeTree → List (List TimedRow) → List (List TimedRow) =
    λ l r tables. parts_mixed below here l (take n tables) ++ parts_mixed below here r (drop n tables) in
    tables_if (here info.level) (rows_mixed below (node.Union info left right) ps ∷ [])
    (rows_mixed below (node.Union info left right) qs ∷ []) (halves left right ps) (halves left right qs)
    (rows_mixed-same below (node.Union info left right) ps qs same, tt)
    (same_append _ _ _ _ (parts_mixed-same below here left (take n ps) (take n qs) (same_take n ps qs same))
    (parts_mixed-same below here right (drop n ps) (drop n qs) (same_drop n ps qs same)))
