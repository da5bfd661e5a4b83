-- Marks in their order, and query by query.
use Rattle.std.proofs.Common.{◌≡◌, ◌∙◌, ◌+◌, ◌*◌, ◌++◌, ◌∷◌, [], ℕ, ℤ, List, Option, map, pos}
use Rattle.std.proofs.Common.{IsPermutation, refl, sym, ap, append_assoc}
use Rattle.std.proofs.lemmas.Cmp.{int_cmp_total, nat_cmp_total, on_total, then_total}
use Rattle.std.proofs.lemmas.List.{map-append}
use Rattle.std.proofs.lemmas.List.FromFn.{map-range_with_len_more}
use Rattle.std.proofs.lemmas.Map.Lookups.{exact_pairs, exact_signed, exact_unsigned}
use Rattle.std.specs.Cmp.{IsTotalOrder}
use Rattle.std.specs.List.{range_with_len}
use Rattle.std.specs.List.Sorted.{IsSorted}
use Rattle.std.specs.Ordering.{int_cmp, nat_cmp}
use Rattle.mon_value.proofs.SortingLemmas.{sorted_list-sorted}
use Rattle.mon_value.specs.Order.{TellsApart, sorted_list}
use Rattle.standing.specs.DueLists.{Mark, due_times, mark_cmp, marked, marks_from, seconds}
use Rattle.standing.specs.declared.queries.StandingQuery.{StandingQuery}

mark_total : IsTotalOrder mark_cmp
mark_total = then_total (on_total (λ (m : Mark). m.0) int_cmp_total) (on_total (λ (m : Mark). m.1) nat_cmp_total)

mark_exact : TellsApart mark_cmp
mark_exact = exact_pairs int_cmp nat_cmp exact_signed exact_unsigned

-- what a sort leaves is the sorted list
pub marks_sorted : (xs ys : List Mark) → IsPermutation xs ys → IsSorted mark_cmp ys → ys ≡ sorted_list mark_cmp xs
marks_sorted = sorted_list-sorted mark_cmp mark_total mark_exact

-- one multiple more
pub marks_more : (period first i n : ℕ) (before : List Mark) →
    before ++ marked n (map (λ k. pos (period * k)) (range_with_len first (i + 1)))
    ≡ (before ++ marked n (map (λ k. pos (period * k)) (range_with_len first i)))
    ++ (pos (period * (first + i)), n) ∷ []
marks_more period first i n before =
    let time : ℕ → ℤ = λ k. pos (period * k) in
    let times : List ℤ = map time (range_with_len first i) in
    let last : List ℤ = time (first + i) ∷ [] in
    ap (λ (ts : List ℤ). before ++ marked n ts) (map-range_with_len_more time first i (first + i) refl)
    ∙ ap (λ (ms : List Mark). before ++ ms) (map-append (λ (t : ℤ). (t, n)) times last)
    ∙ sym (append_assoc before (marked n times) (marked n last))

-- the marks of a query, and of those behind it
pub marks_next : (n : ℕ) (last : Option ℤ) (moment : ℤ) (query : StandingQuery) (queries : List StandingQuery)
    (before : List Mark) → (before ++ marked n (due_times last moment (seconds query.period)))
    ++ marks_from (n + 1) last moment queries ≡ before ++ marks_from n last moment (query ∷ queries)
marks_next n last moment query queries before =
    append_assoc before (marked n (due_times last moment (seconds query.period)))
    (marks_from (n + 1) last moment queries)
