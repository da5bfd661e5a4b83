-- Until when queries are due at no moment.
use Rattle.std.proofs.Common.{◌≡◌, ◌∙◌, ◌<◌, ◌≤◌, ◌+◌, ◌-◌, ◌*◌, ◌/◌, ◌++◌, ◌∷◌, [], ℕ, ℤ, List, Option, Some, None}
use Rattle.std.proofs.Common.{map, pos, refl, ap, arith}
use Rattle.std.proofs.Math.Nat.{div-lt_iff_lt-mul, lt-mul-div-succ}
use Rattle.std.proofs.lemmas.List.Sums.{sum_by-cons}
use Rattle.std.specs.List.{AllByRecursion, range_with_len}
use Rattle.standing.specs.DueLists.{HasPeriod, due_count, due_times, marked, marks_from, seconds}
use Rattle.standing.specs.DueLists.{times_due}
use Rattle.standing.specs.QuietMoments.{IsOnward, IsQuietUntil}
use Rattle.standing.specs.declared.queries.StandingQuery.{StandingQuery}
use Rattle.mon_value.proofs.PlainLemmas.{all_append}

-- a lower bound is one too
pub lower : (last : Option ℤ) (bound lowest : ℕ) (query : StandingQuery) → lowest ≤ bound
    → IsQuietUntil last bound query → IsQuietUntil last lowest query
lower last bound lowest query less quiet = λ moment below. quiet moment (omega (arith, less, below))

pub lowered : (last : Option ℤ) (bound lowest : ℕ) (queries : List StandingQuery) → lowest ≤ bound
    → AllByRecursion (IsQuietUntil last bound) queries → AllByRecursion (IsQuietUntil last lowest) queries
lowered last bound lowest [] less all = tt
lowered last bound lowest (query ∷ queries) less all =
    (lower last bound lowest query less all.0, lowered last bound lowest queries less all.1)

-- a query more, under the lower one of two bounds
pub lowered_with : (last : Option ℤ) (bound other lowest : ℕ) (queries : List StandingQuery) (query : StandingQuery)
    → lowest ≤ bound → lowest ≤ other → AllByRecursion (IsQuietUntil last bound) queries → IsQuietUntil last other query
    → AllByRecursion (IsQuietUntil last lowest) (queries ++ query ∷ [])
lowered_with last bound other lowest queries query before here all quiet =
    all_append (IsQuietUntil last lowest) queries (query ∷ []) (lowered last bound lowest queries before all)
    (lower last other lowest query here quiet, tt)

-- ---- below the bound nothing is due

pub none_due : (last : Option ℤ) (moment : ℤ) (bound : ℕ) (queries : List StandingQuery) → seconds moment < bound
    → AllByRecursion (IsQuietUntil last bound) queries → due_count last moment queries ≡ 0
none_due last moment bound [] below all = refl
none_due last moment bound (query ∷ queries) below all =
    sum_by-cons (times_due last moment) query queries
    ∙ (λ i. all.0 moment below i + none_due last moment bound queries below all.1 i)

no_times : (last : Option ℤ) (moment : ℤ) (query : StandingQuery) → times_due last moment query ≡ 0
    → due_times last moment (seconds query.period) ≡ []
no_times None moment query none = absurd (omega (arith, none))
no_times (Some last) moment query none =
    ap (λ count. map (λ k. pos (seconds query.period * k))
    (range_with_len (seconds last / seconds query.period + 1) count)) none

pub none_marked : (n : ℕ) (last : Option ℤ) (moment : ℤ) (bound : ℕ) (queries : List StandingQuery)
    → seconds moment < bound → AllByRecursion (IsQuietUntil last bound) queries
    → marks_from n last moment queries ≡ []
none_marked n last moment bound [] below all = refl
none_marked n last moment bound (query ∷ queries) below all =
    (λ i. marked n (no_times last moment query (all.0 moment below) i)
    ++ none_marked (n + 1) last moment bound queries below all.1 i)

-- ---- behind a moment

onward : (last moment later period : ℕ) → 0 < period → last ≤ moment → later / period - last / period ≡ 0
    → later / period - moment / period ≡ 0
onward last moment later period some before none =
    let less : last < (moment / period + 1) * period =
    (let above : moment < period * (moment / period + 1) = lt-mul-div-succ moment some in
    let turned : period * (moment / period + 1) ≡ (moment / period + 1) * period = grind arith in
    omega (arith, before, above, turned)) in
    let least : last / period < moment / period + 1 = (div-lt_iff_lt-mul some).1 less in
    omega (arith, none, least)

quiet_behind : (last : Option ℤ) (moment : ℤ) (bound : ℕ) (query : StandingQuery) → HasPeriod query
    → IsOnward last moment → IsQuietUntil last bound query → IsQuietUntil (Some moment) bound query
quiet_behind None moment bound query has before quiet = λ later below. absurd (omega (arith, quiet later below))
quiet_behind (Some last) moment bound query has before quiet = λ later below.
    onward (seconds last) (seconds moment) (seconds later) (seconds query.period) has before (quiet later below)

pub all_behind : (last : Option ℤ) (moment : ℤ) (bound : ℕ) (queries : List StandingQuery)
    → AllByRecursion HasPeriod queries → IsOnward last moment → AllByRecursion (IsQuietUntil last bound) queries
    → AllByRecursion (IsQuietUntil (Some moment) bound) queries
all_behind last moment bound [] has before all = tt
all_behind last moment bound (query ∷ queries) has before all =
    (quiet_behind last moment bound query has.0 before all.0, all_behind last moment bound queries has.1 before all.1)
