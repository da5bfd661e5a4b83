-- The rows that come first at each time, as a map of times holds them.
use Rattle.std.proofs.Common.{◌≡◌, ℕ, ℤ, ◌&&◌, Bool, true, false, List, [], ◌∷◌, ◌++◌, map, append-nil, append_assoc}
use Rattle.std.proofs.Common.{Vec, take, Bor, IsPermutation, refl, sym, ap, ◌∙◌}
use Rattle.std.specs.Ordering.{int_eq, is_lt}
use Rattle.std.specs.declared.alloc.Global.{Global}
use Rattle.std.specs.declared.cmp.Ordering.{Ordering}
use Rattle.std.specs.Cmp.{IsStrictWeakOrder}
use Rattle.std.specs.Fn.{Called, ComparesAs}
use Rattle.std.specs.List.Sorted.{IsSortedBy}
use Rattle.std.proofs.lemmas.Fn.{always_returns_same}
use Rattle.std.proofs.lemmas.List.MinMax.{ranks_by}
use Rattle.mon_value.proofs.GroupLemmas.{merged_rows, own_group, rows_by_group-push}
use Rattle.mon_value.specs.Groups.{rows_by_group, rank_cmp}
use Rattle.mon_value.proofs.SortingLemmas.{sorted_list-sorted}
use Rattle.mon_value.specs.Same.{same_row}
use Rattle.mon_value.specs.Order.{sorted_list}
use Rattle.mon_value.specs.declared.tables.TimedRow.{TimedRow}
use Rattle.mon_meaning.proofs.OperationOrders.{rank_exact, rank_total}
use denote.Param.Members.{Mut}

-- the group of a time
abbrev pub time_row : ℤ → TimedRow
time_row time = record { time = time; cells = [] }

pub same_time : (a b : ℤ) → int_eq a b ≡ same_row (time_row a) (time_row b)
same_time a b = by (int_eq a b)
  where
    by : (c : Bool) → c ≡ (c && true)
    by true = refl
    by false = refl

abbrev pub rows_held : Vec TimedRow Global → List TimedRow
rows_held rows = rows.items

-- what a sort by rank leaves
pub sorted_by_rank : (column : _) {F : Type 0} {g : Mut F (Bor TimedRow × (Bor TimedRow × Unit {0})) Ordering} {f : F}
    (xs ys : List TimedRow)
    → IsPermutation xs ys
    → ((lt : TimedRow → TimedRow → Bool) → IsStrictWeakOrder lt → ComparesAs g lt f → IsSortedBy lt ys)
    → ((a : Bor TimedRow × (Bor TimedRow × Unit {0})) (r : Ordering) (f' : F) → Called g f a r f'
    → (r ≡ rank_cmp column a.0.now a.1.0.now) × (f' ≡ f))
    → ys ≡ sorted_list (rank_cmp column) xs
sorted_by_rank column {g = g} {f = f} xs ys kept up h =
    sorted_list-sorted (rank_cmp column) (rank_total column) (rank_exact column) xs ys kept
    (up (λ x y. is_lt (rank_cmp column x y)) (ranks_by (rank_total column) (λ row. row))
    (always_returns_same g (λ a r. is_lt r ≡ is_lt (rank_cmp column a.0.now a.1.0.now)) f
    (λ a r f' k. (ap is_lt (h a r f' k).0, (h a r f' k).1))))

-- the first rows of a group
abbrev pub first_of : ℕ → ℕ → TimedRow × List TimedRow → List TimedRow
first_of most column group = take most (sorted_list (rank_cmp column) group.1)

merged_on : (xs ys : List TimedRow) → merged_rows (rows_by_group [] xs) (map (own_group []) ys) ≡ rows_by_group []
    (xs ++ ys)
merged_on xs [] = ap (rows_by_group []) (sym (append-nil xs))
merged_on xs (y ∷ ys) =
    ap (λ groups. merged_rows groups (map (own_group []) ys)) (sym (rows_by_group-push [] xs y))
    ∙ merged_on (xs ++ y ∷ []) ys
    ∙ ap (rows_by_group []) (append_assoc xs (y ∷ []) ys)

-- rows put in one after another are grouped
pub all_merged : (rows : List TimedRow) → merged_rows [] (map (own_group []) rows) ≡ rows_by_group [] rows
all_merged rows = merged_on [] rows
