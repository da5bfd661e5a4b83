-- The times of a grid.
use Rattle.std.proofs.Common.{◌≡◌, ℕ, zero, suc, ◌+◌, ◌-◌, ◌*◌, ◌/◌, ◌<◌, ◌≤◌, ℤ, pos, ◌+ℤ◌, ◌-ℤ◌, ◌<ℤ◌, ◌≤ℤ◌, ◌↔◌}
use Rattle.std.proofs.Common.{◌%◌, [], ◌∷◌, length, get_or, unsigned_abs, refl, ap, inl, inr, arith}
use Rattle.std.proofs.Math.Nat.{mul_comm, mul-le-mul_left}
use Rattle.std.proofs.lemmas.Bool.{cases_eq, cases_lt}
use Rattle.std.specs.List.{AllByRecursion}
use Rattle.std.proofs.lemmas.Int.{ints}
use Rattle.mon_value.specs.declared.grids.Grid.{Grid}
use Rattle.mon_value.specs.Grids.{IsLawfulGrid, time_count, times_back, grid_times}

pub length-times_back : (n : ℕ) (t e : ℤ) → length (times_back n t e) ≡ n
length-times_back zero t e = refl
length-times_back (suc n) t e = omega (arith, length-times_back n (t -ℤ e) e)

pub more_times : (n p : ℕ) → suc n * p ≡ n * p + p
more_times n p = omega arith

-- times that are above a low one by so many steps stay above it
module _ (e low high : ℤ) (p : ℕ) (step : e ≡ pos p) where
  between_back : (n : ℕ) (t : ℤ) (g : ℕ) → t ≡ low +ℤ pos g → n * p < g + p → 0 < n → t ≤ℤ high
      → AllByRecursion (λ time. (low <ℤ time) × (time ≤ℤ high)) (times_back n t e)
  between_back zero t g at above some under = tt
  between_back (suc zero) t g at above some under = ((omega (arith, ints), under), tt)
  between_back (suc (suc n)) t g at above some under =
      let many = more_times (suc n) p in
      let more = more_times n p in
      let next : p ≤ g = omega arith in (
        (omega (arith, ints), under),
        between_back (suc n) (t -ℤ e) (g - p) (omega (arith, ints)) (omega arith) (omega arith) (omega (arith, ints)),
      )

-- so many steps reach past the seconds, and one step less does not
count_reaches : (w p : ℕ) → 1 ≤ p → ((w + (p - 1)) / p) * p < w + p
count_reaches w p some = omega (arith, mul_comm ((w + (p - 1)) / p) p)

pub count_some : (w p : ℕ) → 1 ≤ w → 1 ≤ p → 0 < (w + (p - 1)) / p
count_some w p some more =
    let whole : p * ((w + (p - 1)) / p) + (w + (p - 1)) % p ≡ w + (p - 1) = omega arith in
    let left : (w + (p - 1)) % p < p = omega arith in
    elim (cases_eq ((w + (p - 1)) / p) 0) [
      | inl none ↦ let nothing : p * ((w + (p - 1)) / p) ≡ 0 = rw none (omega arith) in absurd (omega arith)
      | inr other ↦ omega arith
    ]

-- each time of a grid is above `within` seconds before the moment, and at most the moment
pub grid_between : (grid : Grid) → IsLawfulGrid grid
    → AllByRecursion (λ time. ((grid.moment -ℤ grid.within) <ℤ time) × (time ≤ℤ grid.moment)) (grid_times grid)
grid_between grid lawful =
    let every = lawful.every in
    let within = lawful.within in
    between_back grid.every (grid.moment -ℤ grid.within) grid.moment (unsigned_abs grid.every) (omega (arith, ints))
    (time_count grid) grid.moment (unsigned_abs grid.within) (omega (arith, ints))
    (count_reaches (unsigned_abs grid.within) (unsigned_abs grid.every) (omega (arith, ints)))
    (count_some (unsigned_abs grid.within) (unsigned_abs grid.every) (omega (arith, ints)) (omega (arith, ints)))
    (omega (arith, ints))

-- a time is above the seconds before the moment exactly where it is one of the first so many
pub counted_exactly : (k w p : ℕ) → 1 ≤ p → (k < (w + (p - 1)) / p) ↔ (k * p < w)
counted_exactly k w p some =
    let n = (w + (p - 1)) / p in
    let whole : p * n + (w + (p - 1)) % p ≡ w + (p - 1) = omega arith in
    let left : (w + (p - 1)) % p < p = omega arith in (
      λ below. let most = mul-le-mul_left {m = suc k} {n = n} p (omega arith) in let more = more_times k p in
          omega (arith, mul_comm p (suc k)),
      λ above. elim (cases_lt k n) [
        | inl below ↦ below
        | inr past ↦ let most = mul-le-mul_left {m = n} {n = k} p past in absurd (omega (arith, mul_comm p k))
      ],
    )

-- the times, one by one
pub get_or-times_back : (n k : ℕ) (t e d : ℤ) (p : ℕ) → e ≡ pos p → k < n → get_or (times_back n t e) k d
    ≡ t -ℤ pos (k * p)
get_or-times_back zero k t e d p step below = absurd (omega arith)
get_or-times_back (suc n) zero t e d p step below = omega (arith, ints)
get_or-times_back (suc n) (suc k) t e d p step below =
    let rest = get_or-times_back n k (t -ℤ e) e d p step (omega arith) in
    let more = more_times k p in
    omega (arith, ints)

count_once : (p : ℕ) → 1 ≤ p → (p + (p - 1)) / p ≡ 1
count_once p some =
    let first = (counted_exactly 0 p p some).1 (omega arith) in
    elim (cases_lt 1 ((p + (p - 1)) / p)) [
      | inl more ↦ let second = (counted_exactly 1 p p some).0 more in absurd (omega arith)
      | inr once ↦ omega arith
    ]

-- a grid whose steps are as long as its reach
pub one_time : (grid : Grid) → grid.every ≡ grid.within → pos 1 ≤ℤ grid.within → grid_times grid ≡ grid.moment ∷ []
one_time grid same some =
    let p = unsigned_abs grid.within in
    let equal : unsigned_abs grid.every ≡ p = ap unsigned_abs same in
    let least : 1 ≤ p = omega (arith, ints) in
    let once : (p + (p - 1)) / p ≡ 1 = count_once p least in
    rw (equal, once)
