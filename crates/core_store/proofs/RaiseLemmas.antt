-- Buckets that are to be raised are below the number of buckets.
use Rattle.std.proofs.lemmas.Bool.{or_right}
use Rattle.std.proofs.Common.{◌≡◌, ◌∙◌, ℕ, ◌<◌, ◌||◌, ◌==◌, Bool, true, false, List, [], ◌∷◌, refl, sym, subst, arith}
use Rattle.std.proofs.lemmas.Bool.Decides.{nat_tests}
use Rattle.leaf_store.proofs.BucketLemmas.{AllBelow, unraised_below}
use Rattle.leaf_store.specs.LeafStates.{AreToRaise, is_unraised}
use Rattle.mon_config.specs.declared.config.Config.{Config}
use Rattle.mon_hints.specs.Formulas.{is_among}
use Rattle.mon_value.specs.declared.rows.SeriesKey.{SeriesKey}
use Rattle.core_store.specs.Agreements.{IsServed}
use Rattle.core_store.specs.declared.leaves.LeafSeat.{LeafSeat}

first_by : (x : ℕ) (rest b : Bool) → (x == x) ≡ b → (b || rest) ≡ true
first_by x rest true same = refl
first_by x rest false same = absurd (grind (arith, nat_tests))

pub all_among : (count : ℕ) (xs : List ℕ) → ((x : ℕ) → is_among x xs ≡ true → x < count) → AllBelow count xs
all_among count [] h = tt
all_among count (x ∷ xs) h =
    (h x (first_by x (is_among x xs) (x == x) refl), all_among count xs (λ y e. h y (or_right (y == x) (is_among y xs) e)))

pub all_below : (config : Config) (seat : LeafSeat) (key : SeriesKey) (buckets : List ℕ) → IsServed config
    → seat.state.buckets ≡ config.buckets → AreToRaise seat.state key buckets → AllBelow config.buckets buckets
all_below config seat key buckets served same raise =
    all_among config.buckets buckets (λ bucket e.
    unraised_below config.buckets bucket seat.state.schemas key served.limited.some seat.state.history
    (subst (λ (n : ℕ). is_unraised n seat.state.schemas seat.state.history key bucket ≡ true) same
    (sym (raise.same bucket) ∙ e)))
