-- Places of rows in runs.
use Rattle.std.proofs.Common.{◌≡◌, ◌∙◌, ◌+◌, ◌-◌, ◌<◌, ◌≤◌, ◌^◌, ℕ, zero, suc, inl, inr, false, List, [], ◌∷◌, ◌++◌}
use Rattle.std.proofs.Common.{Some, length, slice_get, get_or, refl, sym, ap, arith, append_assoc, subst, leb}
use Rattle.std.specs.List.{AllByRecursion, AllWithin}
use Rattle.std.specs.List.Sorted.{IsNonDecreasingBy}
use Rattle.std.proofs.lemmas.Bool.{cases_eq}
use Rattle.std.proofs.lemmas.Bool.Decides.{nat_tests}
use Rattle.std.proofs.lemmas.List.{length-append}
use Rattle.mon_value.proofs.PlainLemmas.{all_push, get_back, get_front, get_next}
use Rattle.mon_series.specs.declared.order.Run.{Run}
use Rattle.mon_series.specs.declared.placing.Place.{Place}
use Rattle.mon_series.specs.within.Orders.{AreRuns, BeginInOrder, IsShortPlace, first_number, first_places, place_in}
use Rattle.mon_series.specs.within.Orders.{places_of}

-- ---- how many there are

pub run_count : (run : Run) (count : ℕ) → length (first_places run count) ≡ count
run_count run zero = refl
run_count run (suc count) =
    let both = length-append (first_places run count) (place_in run count ∷ []) in
    let fewer = run_count run count in
    omega arith

-- as many places as rows
pub all_count : (runs : List Run) (last : Run) (end : ℕ) → BeginInOrder runs last → last.first ≤ end
    → first_number runs last + length (places_of runs last end) ≡ end
all_count [] last end ordered ends =
    let own = run_count last (end - last.first) in
    omega arith
all_count (run ∷ runs) last end ordered ends =
    let many = first_number runs last - run.first in
    let own = run_count run many in
    let rest = all_count runs last end ordered.1 ends in
    let both = length-append (first_places run many) (places_of runs last end) in
    let up = ordered.0 in
    omega arith

-- ---- a place more

-- the last run is longer by a row
first_kept : (runs : List Run) (last longer : Run) → longer.first ≡ last.first
    → first_number runs longer ≡ first_number runs last
first_kept [] last longer same = same
first_kept (run ∷ runs) last longer same = refl

ordered_longer : (runs : List Run) (last longer : Run) → longer.first ≡ last.first → BeginInOrder runs last
    → BeginInOrder runs longer
ordered_longer [] last longer same ordered = tt
ordered_longer (run ∷ runs) last longer same ordered = (
  subst (λ n. run.first ≤ n) (sym (first_kept runs last longer same)) ordered.0,
  ordered_longer runs last longer same ordered.1,
)

pub places_longer : (runs : List Run) (last longer : Run) (place : Place) (count : ℕ) → longer.first ≡ last.first
    → last.first ≤ count
    → first_places longer (count - last.first + 1) ≡ first_places last (count - last.first) ++ place ∷ []
    → places_of runs longer (count + 1) ≡ places_of runs last count ++ place ∷ []
places_longer [] last longer place count same ends is =
    let more : count + 1 - longer.first ≡ count - last.first + 1 = omega (arith, same, ends) in
    ap (first_places longer) more ∙ is
places_longer (run ∷ runs) last longer place count same ends is =
    (λ i. first_places run (first_kept runs last longer same i - run.first)
    ++ places_longer runs last longer place count same ends is i)
    ∙ sym (append_assoc (first_places run (first_number runs last - run.first)) (places_of runs last count)
    (place ∷ []))

pub runs_longer : (runs : List Run) (last longer : Run) (place : Place) (count : ℕ) → AreRuns runs last count
    → IsShortPlace place → count + 1 < 2 ^ 32 → longer.first ≡ last.first
    → first_places longer (count - last.first + 1) ≡ first_places last (count - last.first) ++ place ∷ []
    → AreRuns runs longer (count + 1)
runs_longer runs last longer place count old short few same is =
    let ends = old.ends in
    let within : longer.first ≤ count + 1 = omega (arith, same, ends) in
    record {
      begins = first_kept runs last longer same ∙ old.begins;
      ordered = ordered_longer runs last longer same old.ordered;
      ends = within;
      few = few;
      short = subst (AllByRecursion IsShortPlace) (sym (places_longer runs last longer place count same ends is))
          (all_push IsShortPlace (places_of runs last count) place old.short short);
    }

-- a row begins a run behind the last one
first_behind : (runs : List Run) (last next : Run) → first_number (runs ++ last ∷ []) next ≡ first_number runs last
first_behind [] last next = refl
first_behind (run ∷ runs) last next = refl

ordered_more : (runs : List Run) (last next : Run) → last.first ≤ next.first → BeginInOrder runs last
    → BeginInOrder (runs ++ last ∷ []) next
ordered_more [] last next up ordered = (up, tt)
ordered_more (run ∷ runs) last next up ordered = (
  subst (λ n. run.first ≤ n) (sym (first_behind runs last next)) ordered.0,
  ordered_more runs last next up ordered.1,
)

pub places_more : (runs : List Run) (last next : Run) (place : Place) (count : ℕ) → next.first ≡ count
    → first_places next 1 ≡ place ∷ []
    → places_of (runs ++ last ∷ []) next (count + 1) ≡ places_of runs last count ++ place ∷ []
places_more [] last next place count begins is =
    let one : count + 1 - next.first ≡ 1 = omega (arith, begins) in
    (λ i. first_places last (begins i - last.first) ++ (ap (first_places next) one ∙ is) i)
places_more (run ∷ runs) last next place count begins is =
    (λ i. first_places run (first_behind runs last next i - run.first)
    ++ places_more runs last next place count begins is i)
    ∙ sym (append_assoc (first_places run (first_number runs last - run.first)) (places_of runs last count)
    (place ∷ []))

pub runs_more : (runs : List Run) (last next : Run) (place : Place) (count : ℕ) → AreRuns runs last count
    → IsShortPlace place → count + 1 < 2 ^ 32 → next.first ≡ count → first_places next 1 ≡ place ∷ []
    → AreRuns (runs ++ last ∷ []) next (count + 1)
runs_more runs last next place count old short few begins is =
    let ends = old.ends in
    let up : last.first ≤ next.first = omega (arith, begins, ends) in
    let within : next.first ≤ count + 1 = omega (arith, begins) in
    record {
      begins = first_behind runs last next ∙ old.begins;
      ordered = ordered_more runs last next up old.ordered;
      ends = within;
      few = few;
      short = subst (AllByRecursion IsShortPlace) (sym (places_more runs last next place count begins is))
          (all_push IsShortPlace (places_of runs last count) place old.short short);
    }

-- ---- the place of a number

run_place : (run : Run) (count number : ℕ) → number < count
    → slice_get (first_places run count) number ≡ Some (place_in run number)
run_place run zero number within = absurd (omega arith)
run_place run (suc count) number within =
    elim (cases_eq number count) [
      | inl same ↦
          let place : length (first_places run count) ≡ number = run_count run count ∙ sym same in
          ap (slice_get (first_places run (suc count))) (sym place)
          ∙ get_next (first_places run count) (place_in run count)
          ∙ ap (λ n. Some (place_in run n)) (sym same)
      | inr other ↦
          let before : number < count = omega (arith, within, other) in
          get_front (first_places run count) (place_in run count ∷ []) number (place_in run number)
          (run_place run count number before)
    ]

-- all runs begin no earlier than the first one
first_below : (runs : List Run) (last : Run) → BeginInOrder runs last → first_number runs last ≤ last.first
first_below [] last ordered = omega arith
first_below (run ∷ runs) last ordered =
    let rest = first_below runs last ordered.1 in
    let up = ordered.0 in
    omega arith

first_before : (runs : List Run) (last : Run) (at : ℕ) (d : Run) → BeginInOrder runs last → at < length runs
    → first_number runs last ≤ (get_or runs at d).first
first_before [] last at d ordered within = absurd (omega arith)
first_before (run ∷ runs) last zero d ordered within = omega arith
first_before (run ∷ runs) last (suc at) d ordered within =
    let rest = first_before runs last at d ordered.1 (omega arith) in
    let up = ordered.0 in
    omega arith

pub begin_rising : (runs : List Run) (last : Run) → BeginInOrder runs last
    → IsNonDecreasingBy (λ (run : Run). run.first) runs
begin_rising [] last ordered i j d up within = absurd (omega arith)
begin_rising (run ∷ runs) last ordered zero zero d up within = omega arith
begin_rising (run ∷ runs) last ordered (suc i) zero d up within = absurd (omega arith)
begin_rising (run ∷ runs) last ordered zero (suc j) d up within =
    let rest = first_before runs last j d ordered.1 (omega arith) in
    let next = ordered.0 in
    omega arith
begin_rising (run ∷ runs) last ordered (suc i) (suc j) d up within =
    begin_rising runs last ordered.1 i j d (omega arith) (omega arith)

-- what is behind a run's places
behind_run : (run last : Run) (runs : List Run) (end number : ℕ) (place : Place) → run.first ≤ first_number runs last
    → first_number runs last ≤ number
    → slice_get (places_of runs last end) (number - first_number runs last) ≡ Some place
    → slice_get (places_of (run ∷ runs) last end) (number - run.first) ≡ Some place
behind_run run last runs end number place up within is =
    let many = first_number runs last - run.first in
    let own = run_count run many in
    let behind : number - run.first ≡ length (first_places run many) + (number - first_number runs last) =
    omega (arith, own, up, within) in
    ap (slice_get (places_of (run ∷ runs) last end)) behind
    ∙ get_back (first_places run many) (places_of runs last end) (number - first_number runs last) ∙ is

-- a row of the last run
pub last_place : (runs : List Run) (last : Run) (end number : ℕ) → BeginInOrder runs last → last.first ≤ number
    → number < end
    → slice_get (places_of runs last end) (number - first_number runs last) ≡ Some (place_in last (number - last.first))
last_place [] last end number ordered below within =
    run_place last (end - last.first) (number - last.first) (omega (arith, below, within))
last_place (run ∷ runs) last end number ordered below within =
    let first = first_below runs last ordered.1 in
    behind_run run last runs end number (place_in last (number - last.first)) ordered.0 (omega (arith, first, below))
    (last_place runs last end number ordered.1 below within)

-- the runs that are left begin behind a number
next_later : (runs : List Run) (last : Run) (number : ℕ) → number < last.first
    → AllWithin (λ (run : Run). leb run.first number ≡ false) runs 0 (length runs)
    → number < first_number runs last
next_later [] last number behind later = behind
next_later (run ∷ runs) last number behind later =
    let next = later 0 run (omega arith) (omega arith) in
    grind (arith, nat_tests)

-- a row of another run
pub inner_place : (runs : List Run) (last : Run) (end number at : ℕ) (d : Run) → BeginInOrder runs last
    → at < length runs → (get_or runs at d).first ≤ number → number < last.first
    → AllWithin (λ (run : Run). leb run.first number ≡ false) runs (at + 1) (length runs)
    → slice_get (places_of runs last end) (number - first_number runs last)
    ≡ Some (place_in (get_or runs at d) (number - (get_or runs at d).first))
inner_place [] last end number at d ordered there below behind later = absurd (omega arith)
inner_place (run ∷ runs) last end number zero d ordered there below behind later =
    let next = next_later runs last number behind (λ k e low high. later (suc k) e (omega arith) (omega arith)) in
    get_front (first_places run (first_number runs last - run.first)) (places_of runs last end) (number - run.first)
    (place_in run (number - run.first))
    (run_place run (first_number runs last - run.first) (number - run.first) (omega (arith, next, below)))
inner_place (run ∷ runs) last end number (suc at) d ordered there below behind later =
    let first = first_before runs last at d ordered.1 (omega arith) in
    behind_run run last runs end number (place_in (get_or runs at d) (number - (get_or runs at d).first)) ordered.0
    (omega (arith, first, below))
    (inner_place runs last end number at d ordered.1 (omega arith) below behind
    (λ k e low high. later (suc k) e (omega arith) (omega arith)))

-- some run begins by each number
pub some_begun : (runs : List Run) (last : Run) (number begun : ℕ) → first_number runs last ≡ 0 → number < last.first
    → AllWithin (λ (run : Run). leb run.first number ≡ false) runs begun (length runs) → 1 ≤ begun
some_begun runs last number zero begins behind later =
    let none = next_later runs last number behind later in
    absurd (omega (arith, begins, none))
some_begun runs last number (suc begun) begins behind later = omega arith

-- what holds of all holds of the one of a number
pub all_get : {A : Type 0} (P : A → Type 0) (xs : List A) (i : ℕ) (x : A) → AllByRecursion P xs
    → slice_get xs i ≡ Some x → P x
all_get P [] i x all is = absurd cc
all_get P (y ∷ xs) zero x all is =
    let same : y ≡ x = cc in
    subst P same all.0
all_get P (y ∷ xs) (suc i) x all is = all_get P xs i x all.1 is
