-- Made input, a step further.
use Rattle.std.proofs.Common.{◌≡◌, ◌∙◌, ℕ, zero, suc, ◌+◌, ◌*◌, List, ◌++◌, refl, sym, ap, arith, append_assoc}
use Rattle.std.proofs.Common.{append-nil}
use Rattle.std.specs.List.{flat_map, range_with_len}
use Rattle.mon_script.specs.Made.{next_number, number_before, number_behind, rounds, tasks}

-- ---- numbers

pub behind_next : (k x : ℕ) → number_behind (k + 1) x ≡ next_number (number_behind k x)
behind_next k x =
    let e : k + 1 ≡ suc k = omega arith in ap (λ i. number_behind i x) e

pub behind_more : (k i x : ℕ) → number_behind (k + i) x ≡ number_behind k (number_behind i x)
behind_more zero i x = let e : zero + i ≡ i = omega arith in ap (λ j. number_behind j x) e
behind_more (suc k) i x =
    let e : suc k + i ≡ suc (k + i) = omega arith in
    ap (λ j. number_behind j x) e ∙ ap next_number (behind_more k i x)

-- ---- lists by places

texts_suc : (f : ℕ → List ℕ) (a n : ℕ) → flat_map f (range_with_len a (suc n)) ≡ flat_map f (range_with_len a n)
    ++ f (a + n)
texts_suc f a zero = let e : a ≡ a + zero = omega arith in append-nil (f a) ∙ ap f e
texts_suc f a (suc n) =
    let e : a + 1 + n ≡ a + suc n = omega arith in
    ap (λ (texts : List ℕ). f a ++ texts) (texts_suc f (a + 1) n)
    ∙ sym (append_assoc (f a) (flat_map f (range_with_len (a + 1) n)) (f (a + 1 + n)))
    ∙ ap (λ (k : ℕ). (f a ++ flat_map f (range_with_len (a + 1) n)) ++ f k) e

-- one place more, behind what was there before
pub texts_more : (f : ℕ → List ℕ) (n : ℕ) (before : List ℕ) → before ++ flat_map f (range_with_len 0 (n + 1))
    ≡ (before ++ flat_map f (range_with_len 0 n)) ++ f n
texts_more f n before =
    let e : n + 1 ≡ suc n = omega arith in
    let here : 0 + n ≡ n = omega arith in
    ap (λ k. before ++ flat_map f (range_with_len 0 k)) e
    ∙ ap (λ (texts : List ℕ). before ++ texts) (texts_suc f 0 n)
    ∙ sym (append_assoc before (flat_map f (range_with_len 0 n)) (f (0 + n)))
    ∙ ap (λ k. (before ++ flat_map f (range_with_len 0 n)) ++ f k) here

pub tasks_are : tasks ≡ 500
unfolding tasks
tasks_are = refl

pub rounds_are : rounds ≡ 100
unfolding rounds
rounds_are = refl

-- the number before the next round
pub round_more : (n file round : ℕ) → number_behind tasks (number_before n file round)
    ≡ number_before n file (round + 1)
round_more n file round =
    let many : tasks ≡ 500 = tasks_are in
    let e : tasks + (50000 * file + 500 * round) ≡ 50000 * file + 500 * (round + 1) = omega arith in
    sym (behind_more tasks (50000 * file + 500 * round) n) ∙ ap (λ k. number_behind k n) e
