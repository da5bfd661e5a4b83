-- The bucket in which a percentile lies.
use Rattle.std.proofs.Common.{◌≡◌, ◌≢◌, ℕ, zero, suc, ◌+◌, ◌*◌, ◌<◌, ◌≤◌, Bool, true, false, nat_le, not, ℤ, List, []}
use Rattle.std.proofs.Common.{◌∷◌, length, get_or, take, sum, Some, refl, ap, ◌∙◌, arith, add-one, zero-add, pos, ◌-◌}
use Rattle.std.proofs.Common.{min, take_all, cond, int_lt, ◌≤ℤ◌, None, ◌==◌}
use Rattle.std.proofs.lemmas.Bool.{false≢true}
use Rattle.std.proofs.lemmas.Int.{ints}
use Rattle.std.specs.List.{prefix_len}
use Rattle.std.specs.Int.Signed.{≤ℤ_refl}
use Rattle.std.proofs.lemmas.List.Sums.{position_or_len_is, sum_by_more}
use Rattle.std.proofs.lemmas.Bool.Decides.{nat_tests}
use Rattle.mon_value.specs.Groups.{bounds_rise, running_counts, percentile_bucket, upper_bound, percentile_of}
use Rattle.mon_value.specs.Groups.{PercentilesRise}
use Rattle.mon_value.proofs.CountsLemmas.{sum-cons}
use Rattle.mon_value.proofs.PlainLemmas.{and_both}

length-running_counts : (before : ℕ) (counts : List ℕ) → length (running_counts before counts) ≡ length counts
length-running_counts before [] = refl
length-running_counts before (x ∷ xs) = ap suc (length-running_counts (before + x) xs)

-- the running count of a bucket is the sum of the counts up to it
get_or-running_counts : (before : ℕ) (counts : List ℕ) (k : ℕ) → k < length counts
    → get_or (running_counts before counts) k 0 ≡ before + sum (take (suc k) counts)
get_or-running_counts before [] k h = absurd (omega arith)
get_or-running_counts before (x ∷ xs) zero h = omega (arith, sum-cons x [])
get_or-running_counts before (x ∷ xs) (suc k) h =
    omega (arith, get_or-running_counts (before + x) xs k (omega arith), sum-cons x (take (suc k) xs))

reached : (a b : ℕ) → a ≤ b → nat_le a b ≡ true
reached a b h = grind (arith, nat_tests)

not_reached : (a b : ℕ) → b < a → nat_le a b ≡ false
not_reached a b h = grind (arith, nat_tests)

-- the bucket is the first that has its share
percentile_bucket-is : (counts : List ℕ) (p n : ℕ) → n < length counts → ((k : ℕ) → k < n → sum (take (k + 1) counts)
    * 100 < p * sum counts) → p * sum counts ≤ sum (take (n + 1) counts) * 100 → percentile_bucket counts p ≡ n
percentile_bucket-is counts p n within below share =
    let long = length-running_counts 0 counts in
    let running : (k : ℕ) → k ≤ n → get_or (running_counts 0 counts) k 0 ≡ sum (take (k + 1) counts) =
    λ k h. rw add-one (get_or-running_counts 0 counts k (omega arith) ∙ zero-add _) in
    position_or_len_is _ (running_counts 0 counts) n 0 (omega arith)
    (λ k h. rw (running k (omega arith)) (not_reached _ _ (below k h)))
    (λ h. rw (running n (omega arith)) (reached _ _ share))

percentile_of-bucket : (counts : List ℕ) (bounds : List ℤ) (p n : ℕ) → sum counts ≢ 0 → percentile_bucket counts p ≡ n
    → percentile_of counts bounds p ≡ Some (upper_bound bounds n)
percentile_of-bucket counts bounds p n some e = grind (arith, nat_tests)

-- what a pass over the buckets knows where it has passed n of them
pub record HasPassed (counts : List ℕ) (bounds : List ℤ) (p n share : ℕ) : Type 0 where
  pub buckets : length counts ≡ length bounds + 1
  pub some : sum counts ≢ 0
  pub share_is : share ≡ p * sum counts
  pub below : (k : ℕ) → k < n → sum (take (k + 1) counts) * 100 < share

-- the first bucket with its share has a bound
pub percentile_of-found : (counts : List ℕ) (bounds : List ℤ) (p n share : ℕ) → HasPassed counts bounds p n share
    → n < length bounds → share ≤ (sum (take n counts) + get_or counts n 0) * 100 → percentile_of counts bounds p
    ≡ Some (get_or bounds n (pos 0))
percentile_of-found counts bounds p n share h within reaches =
    let inside : n < length counts = omega (arith, h.buckets) in
    let next : sum (take (n + 1) counts) ≡ sum (take n counts) + get_or counts n 0 =
    sum_by_more (λ (x : ℕ). x) counts n 0 inside in
    let here =
    percentile_bucket-is counts p n inside (λ k passed. omega (arith, h.below k passed, h.share_is))
    (omega (arith, h.share_is)) in
    let bucket : min n (length bounds - 1) ≡ n = omega arith in
    percentile_of-bucket counts bounds p n h.some here ∙ ap (λ (k : ℕ). Some (get_or bounds k (pos 0))) bucket

-- the last bucket is the first with its share
pub percentile_of-last : (counts : List ℕ) (bounds : List ℤ) (p share : ℕ) → HasPassed counts bounds p (length bounds)
    share → 0 < length bounds → p ≤ 100 → percentile_of counts bounds p
    ≡ Some (get_or bounds (length bounds - 1) (pos 0))
percentile_of-last counts bounds p share h bounded hundred =
    let n = length bounds in
    let whole : take (n + 1) counts ≡ counts = take_all (n + 1) counts (omega (arith, h.buckets)) in
    let most : p * sum counts ≤ sum (take (n + 1) counts) * 100 = rw whole (grind arith) in
    let here =
    percentile_bucket-is counts p n (omega (arith, h.buckets))
    (λ k passed. omega (arith, h.below k passed, h.share_is)) most in
    let bucket : min n (length bounds - 1) ≡ length bounds - 1 = omega arith in
    percentile_of-bucket counts bounds p n h.some here ∙ ap (λ (k : ℕ). Some (get_or bounds k (pos 0))) bucket

-- ---- a greater percentile

longer : (s t : Bool) → (s ≡ true → t ≡ true) → (m n : ℕ) → m ≤ n → cond s (1 + m) 0 ≤ cond t (1 + n) 0
longer true true h m n l = omega arith
longer true false h m n l = absurd (false≢true (h refl))
longer false true h m n l = omega arith
longer false false h m n l = omega arith

still_below : (a b n : ℕ) → a ≤ b → not (nat_le a n) ≡ true → not (nat_le b n) ≡ true
still_below a b n h e = grind (arith, nat_tests)

-- a test that passes more goes at least as far
prefix_len-wider : (f g : ℕ → Bool) → ((n : ℕ) → f n ≡ true → g n ≡ true) → (xs : List ℕ) → prefix_len f xs
    ≤ prefix_len g xs
prefix_len-wider f g wider [] = omega arith
prefix_len-wider f g wider (x ∷ xs) = longer (f x) (g x) (wider x) (prefix_len f xs) (prefix_len g xs)
    (prefix_len-wider f g wider xs)

percentile_bucket-le : (counts : List ℕ) (p q : ℕ) → p ≤ q → percentile_bucket counts p ≤ percentile_bucket counts q
percentile_bucket-le counts p q h =
    prefix_len-wider (λ n. not (nat_le (p * sum counts) (n * 100))) (λ n. not (nat_le (q * sum counts) (n * 100)))
    (λ n e. still_below (p * sum counts) (q * sum counts) (n * 100) (grind arith) e) (running_counts 0 counts)

-- ---- bounds that rise

below_le : (a b c : ℤ) → int_lt a b ≡ true → b ≤ℤ c → a ≤ℤ c
below_le a b c h l = grind (arith, ints)

-- the first bound is at most each
first-le : (bound : ℤ) (bounds : List ℤ) → bounds_rise (bound ∷ bounds) ≡ true → (j : ℕ) → j < length (bound ∷ bounds)
    → bound ≤ℤ get_or (bound ∷ bounds) j (pos 0)
first-le bound bounds h zero within = ≤ℤ_refl bound
first-le bound [] h (suc j) within = absurd (omega arith)
first-le bound (next ∷ bounds) h (suc j) within =
    let both = and_both (int_lt bound next) (bounds_rise (next ∷ bounds)) h in
    below_le bound next (get_or (next ∷ bounds) j (pos 0)) both.0 (first-le next bounds both.1 j (omega arith))

-- a later bound is at least an earlier one
bounds-le : (bounds : List ℤ) → bounds_rise bounds ≡ true → (i j : ℕ) → i ≤ j → j < length bounds → get_or bounds i
    (pos 0) ≤ℤ get_or bounds j (pos 0)
bounds-le [] h i j l within = absurd (omega arith)
bounds-le (bound ∷ bounds) h zero j l within = first-le bound bounds h j within
bounds-le (bound ∷ bounds) h (suc i) zero l within = absurd (omega arith)
bounds-le (bound ∷ []) h (suc i) (suc j) l within = absurd (omega arith)
bounds-le (bound ∷ next ∷ bounds) h (suc i) (suc j) l within =
    bounds-le (next ∷ bounds) (and_both (int_lt bound next) (bounds_rise (next ∷ bounds)) h).1 i j (omega arith)
    (omega arith)

upper_bound-le : (bounds : List ℤ) → bounds_rise bounds ≡ true → (i j : ℕ) → i ≤ j → upper_bound bounds i ≤ℤ
    upper_bound bounds j
upper_bound-le [] h i j l = ≤ℤ_refl (pos 0)
upper_bound-le (bound ∷ bounds) h i j l =
    let last = length (bound ∷ bounds) - 1 in
    bounds-le (bound ∷ bounds) h (min i last) (min j last) (omega arith) (omega arith)

value_if_some : (none : Bool) (u y : ℤ) → cond none None (Some u) ≡ Some y → u ≡ y
value_if_some true u y h = cc
value_if_some false u y h = cc

pub percentile_of-le : (counts : List ℕ) (bounds : List ℤ) → bounds_rise bounds ≡ true → PercentilesRise counts bounds
percentile_of-le counts bounds h p q y z l first second =
    let at_p = value_if_some (sum counts == 0) (upper_bound bounds (percentile_bucket counts p)) y first in
    let at_q = value_if_some (sum counts == 0) (upper_bound bounds (percentile_bucket counts q)) z second in
    rw (← at_p, ← at_q) (upper_bound-le bounds h (percentile_bucket counts p) (percentile_bucket counts q)
    (percentile_bucket-le counts p q l))
