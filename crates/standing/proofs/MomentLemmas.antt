-- Queries are due at moments that are no less than 0.
use Rattle.std.proofs.Common.{◌≡◌, ℕ, ◌+◌, ◌*◌, ℤ, pos, ◌≤ℤ◌, Bool, true, false, cond, List, [], ◌∷◌, ◌++◌, map, Option}
use Rattle.std.proofs.Common.{Some, None, slice_get, option_map, Ok, subst, arith}
use Rattle.std.specs.List.{AllByRecursion, cons_option, filter_map}
use Rattle.std.specs.Ordering.{is_gt}
use Rattle.std.proofs.lemmas.Int.{ints}
use Rattle.mon_value.specs.Order.{sorted_list, sorted_list_with}
use Rattle.standing.specs.DueLists.{Mark, due_answer, due_fault, due_list, due_marks, due_of, due_times}
use Rattle.standing.specs.DueLists.{mark_cmp, marked, marks_from, seconds, unless}
use Rattle.standing.specs.declared.dues.Due.{Due}
use Rattle.standing.specs.declared.faults.DueFault.{DueFault}
use Rattle.standing.specs.declared.queries.StandingQuery.{StandingQuery}
use Rattle.mon_value.proofs.PlainLemmas.{all_append}

abbrev IsMoment : Mark → Type 0
IsMoment mark = pos 0 ≤ℤ mark.0

abbrev pub HasMoment : Due → Type 0
HasMoment due = pos 0 ≤ℤ due.at

counted : (n : ℕ) → pos 0 ≤ℤ pos n
counted n = grind (arith, ints)

-- ---- marks

times_marked : (n : ℕ) (times : List ℤ) → AllByRecursion (λ time. pos 0 ≤ℤ time) times
    → AllByRecursion IsMoment (marked n times)
times_marked n [] all = tt
times_marked n (time ∷ times) all = (all.0, times_marked n times all.1)

multiples : (period : ℕ) (numbers : List ℕ)
    → AllByRecursion (λ time. pos 0 ≤ℤ time) (map (λ k. pos (period * k)) numbers)
multiples period [] = tt
multiples period (k ∷ numbers) = (counted (period * k), multiples period numbers)

times_counted : (last : Option ℤ) (moment : ℤ) (period : ℕ)
    → AllByRecursion (λ time. pos 0 ≤ℤ time) (due_times last moment period)
times_counted None moment period = (counted _, tt)
times_counted (Some last) moment period = multiples period _

from_counted : (n : ℕ) (last : Option ℤ) (moment : ℤ) (queries : List StandingQuery)
    → AllByRecursion IsMoment (marks_from n last moment queries)
from_counted n last moment [] = tt
from_counted n last moment (query ∷ queries) =
    all_append IsMoment (marked n (due_times last moment (seconds query.period)))
    (marks_from (n + 1) last moment queries)
    (times_marked n (due_times last moment (seconds query.period)) (times_counted last moment (seconds query.period)))
    (from_counted (n + 1) last moment queries)

-- ---- in order

inserted : (after : Bool) (mark next : Mark) (rest marks : List Mark) → IsMoment mark → IsMoment next
    → AllByRecursion IsMoment marks → AllByRecursion IsMoment rest
    → AllByRecursion IsMoment (cond after (next ∷ rest) (mark ∷ next ∷ marks))
inserted true mark next rest marks here there all behind = (there, behind)
inserted false mark next rest marks here there all behind = (here, (there, all))

sorted_with : (mark : Mark) (marks : List Mark) → IsMoment mark → AllByRecursion IsMoment marks
    → AllByRecursion IsMoment (sorted_list_with mark_cmp mark marks)
sorted_with mark [] here all = (here, tt)
sorted_with mark (next ∷ marks) here all =
    inserted (is_gt (mark_cmp mark next)) mark next (sorted_list_with mark_cmp mark marks) marks here all.0 all.1
    (sorted_with mark marks here all.1)

sorted_all : (marks : List Mark) → AllByRecursion IsMoment marks
    → AllByRecursion IsMoment (sorted_list mark_cmp marks)
sorted_all [] all = tt
sorted_all (mark ∷ marks) all = sorted_with mark (sorted_list mark_cmp marks) all.0 (sorted_all marks all.1)

-- ---- queries

due_with : (mark : Mark) (query : Option StandingQuery) (dues : List Due) → IsMoment mark
    → AllByRecursion HasMoment dues
    → AllByRecursion HasMoment
    (cons_option (option_map (λ query. record { name = query.name; at = mark.0; text = query.text }) query) dues)
due_with mark (Some query) dues here all = (here, all)
due_with mark None dues here all = all

all_due : (queries : List StandingQuery) (marks : List Mark) → AllByRecursion IsMoment marks
    → AllByRecursion HasMoment (filter_map (due_of queries) marks)
all_due queries [] all = tt
all_due queries (mark ∷ marks) all =
    due_with mark (slice_get queries mark.1) (filter_map (due_of queries) marks) all.0 (all_due queries marks all.1)

taken : (fault : Option DueFault) (all dues : List Due) → AllByRecursion HasMoment all → unless fault all ≡ Ok dues
    → AllByRecursion HasMoment dues
taken None all dues moments is = let same : all ≡ dues = cc in subst (AllByRecursion HasMoment) same moments
taken (Some why) all dues moments is = absurd cc

-- whatever is due is due at a moment
pub due_moments : (last : Option ℤ) (moment : ℤ) (queries : List StandingQuery) (dues : List Due)
    → due_answer last moment queries ≡ Ok dues → AllByRecursion HasMoment dues
due_moments last moment queries dues is =
    taken (due_fault last moment queries) (due_list last moment queries) dues
    (all_due queries (due_marks last moment queries)
    (sorted_all (marks_from 0 last moment queries) (from_counted 0 last moment queries))) is
