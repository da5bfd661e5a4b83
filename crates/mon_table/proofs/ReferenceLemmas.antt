-- References to rows in the order of the rows.
use Rattle.std.proofs.Common.{◌≡◌, ◌+◌, ◌<◌, List, [], ◌∷◌, length, map, Bor, IsPermutation, ◌∙◌, arith}
use Rattle.std.specs.List.Sorted.{IsSorted}
use Rattle.std.specs.Ordering.{is_lt}
use Rattle.std.specs.declared.cmp.Ordering.{Ordering}
use Rattle.std.proofs.lemmas.List.{get_or-map, length-map}
use Rattle.std.proofs.lemmas.List.Sorted.{IsPermutation-map}
use Rattle.mon_value.proofs.RowOrderLemmas.{sorted_rows-sorted}
use Rattle.mon_value.specs.Order.{sorted_rows}
use Rattle.mon_value.specs.contracts.tables.TimedRowOrd.TheImpl as derived
use Rattle.mon_value.specs.declared.tables.TimedRow.{TimedRow}
use Rattle.mon_table.specs.References.{rows_behind}

-- what is made of sorted items is sorted, where they are ordered by it
IsSorted-map : {A B : Type 0} (f : A → B) (order : B → B → Ordering) (xs : List A)
    → IsSorted (λ (a b : A). order (f a) (f b)) xs → IsSorted order (map f xs)
IsSorted-map f order [] sorted k d low high = absurd (omega arith)
IsSorted-map f order (x ∷ xs) sorted k d low high =
    let within : k + 1 < length (x ∷ xs) = omega (arith, length-map (x ∷ xs) f) in
    let next = get_or-map f (x ∷ xs) (k + 1) x d within in
    let this = get_or-map f (x ∷ xs) k x d (omega arith) in
    (λ i. is_lt (order (next i) (this i))) ∙ sorted k x low within

-- what a sort of references by the derived order leaves
pub sorted_references : (references ordered : List (Bor TimedRow)) → IsPermutation references ordered
    → IsSorted (λ (a b : Bor TimedRow). derived.cmp-value.it a.now b.now) ordered → rows_behind ordered ≡ sorted_rows
    (rows_behind references)
sorted_references references ordered kept sorted =
    sorted_rows-sorted (rows_behind references) (rows_behind ordered) (IsPermutation-map (λ row. row.now) references
    ordered kept) (IsSorted-map (λ row. row.now) derived.cmp-value.it ordered sorted)
