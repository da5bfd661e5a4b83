-- The order of rows is total, tells apart what is not equal, and is that of the derived comparison.
use Rattle.std.proofs.Common.{◌≡◌, List, IsPermutation, refl, subst}
use Rattle.std.specs.Cmp.{IsTotalOrder}
use Rattle.std.specs.Cmp.Lexicographic.{slice_cmp}
use Rattle.std.specs.List.Sorted.{IsSorted}
use Rattle.std.specs.Ordering.{int_cmp, ordering_then}
use Rattle.std.specs.declared.cmp.Ordering.{Ordering}
use Rattle.std.proofs.lemmas.Cmp.{int_cmp_total, lists_total, on_total, then_total}
use Rattle.std.proofs.lemmas.Map.Lookups.{exact_signed}
use Rattle.mon_value.proofs.OrderLemmas.{both_Equal, value_total, exact_values, exact_lists}
use Rattle.mon_value.proofs.SortingLemmas.{sorted_list-alike, sorted_list-sorted}
use Rattle.mon_value.specs.Order.{TellsApart, row_cmp, sorted_rows, value_cmp}
use Rattle.mon_value.specs.declared.tables.TimedRow.{TimedRow}
use Rattle.mon_value.specs.declared.values.Value.{Value}
use Rattle.mon_value.specs.declared.values.Value.TheVariants as value
use Rattle.mon_value.specs.contracts.tables.TimedRowOrd.TheImpl as derived
use Rattle.mon_value.specs.contracts.values.ValueOrd.TheImpl as derived_value

pub row_total : IsTotalOrder row_cmp
row_total = then_total (on_total (λ (r : TimedRow). r.time) int_cmp_total) (on_total (λ (r : TimedRow). r.cells)
    (lists_total value_total))

pub row_exact : TellsApart row_cmp
row_exact a b h =
    let parts = both_Equal (int_cmp a.time b.time) (slice_cmp value_cmp a.cells b.cells) h in
    let time = exact_signed a.time b.time parts.0 in
    let cells = exact_lists value_cmp exact_values a.cells b.cells parts.1 in
    λ i. record { time = time i; cells = cells i }

-- rows in another order have the same order
pub sorted_rows-alike : (xs ys : List TimedRow) → IsPermutation xs ys → sorted_rows xs ≡ sorted_rows ys
sorted_rows-alike = sorted_list-alike row_cmp row_total row_exact

-- ---- the derived order

cmp-value_cmp : (v w : Value) → derived_value.cmp-value.it v w ≡ value_cmp v w
cmp-value_cmp (value.Int y) (value.Int z) = refl
cmp-value_cmp (value.Int y) (value.Bool q) = refl
cmp-value_cmp (value.Int y) (value.Text t) = refl
cmp-value_cmp (value.Int y) (value.Dist d) = refl
cmp-value_cmp (value.Bool p) (value.Int z) = refl
cmp-value_cmp (value.Bool p) (value.Bool q) = refl
cmp-value_cmp (value.Bool p) (value.Text t) = refl
cmp-value_cmp (value.Bool p) (value.Dist d) = refl
cmp-value_cmp (value.Text s) (value.Int z) = refl
cmp-value_cmp (value.Text s) (value.Bool q) = refl
cmp-value_cmp (value.Text s) (value.Text t) = refl
cmp-value_cmp (value.Text s) (value.Dist d) = refl
cmp-value_cmp (value.Dist c) (value.Int z) = refl
cmp-value_cmp (value.Dist c) (value.Bool q) = refl
cmp-value_cmp (value.Dist c) (value.Text t) = refl
cmp-value_cmp (value.Dist c) (value.Dist d) = refl

pub cmp-row_cmp : derived.cmp-value.it ≡ row_cmp
cmp-row_cmp = λ i a b. ordering_then (int_cmp a.time b.time) (slice_cmp (λ v w. cmp-value_cmp v w i) a.cells b.cells)

-- what a sort by the derived order leaves
pub sorted_rows-sorted : (xs ys : List TimedRow) → IsPermutation xs ys → IsSorted derived.cmp-value.it ys → ys
    ≡ sorted_rows xs
sorted_rows-sorted xs ys kept sorted =
    sorted_list-sorted row_cmp row_total row_exact xs ys kept (subst (λ (order : TimedRow → TimedRow → Ordering).
    IsSorted order ys) cmp-row_cmp sorted)
