-- Conditions that lead to earlier ones.
use Rattle.std.proofs.Common.{◌≡◌, ℕ, suc, ◌+◌, ◌<◌, ◌≤◌, Bool, true, false, ◌&&◌, List, [], ◌∷◌, ◌++◌, take, drop}
use Rattle.std.proofs.Common.{length, reverse, get_or, refl, sym, ap, ◌∙◌, arith, if◌then◌else◌}
use Rattle.std.proofs.lemmas.Bool.{and_parts, lt-ltb, ltb-true, ne_eqb, eq-eqb}
use Rattle.std.proofs.lemmas.List.{append_assoc, drop_more, length-append, length-reverse, length-take-le}
use Rattle.std.proofs.lemmas.List.{reverse-append, take-append-drop}
use Rattle.mon_value.specs.declared.columns.Column.{Column}
use Rattle.mon_value.specs.declared.values.Value.{Value}
use Rattle.mql_ast.specs.Trees.{PredicateTree}
use Rattle.mql_ast.specs.Rows.{predicate_truth}
use Rattle.mon_expr.specs.ConditionLists.{answer, are_ordered, condition_truth, is_at, is_before, next_of}
use Rattle.mon_expr.proofs.NextPlaces.{conditions_left}
use Rattle.mon_expr.specs.declared.condition_lists.Condition.{Condition}
use Rattle.mon_expr.specs.declared.condition_lists.Next.{Next}
use Rattle.mon_expr.specs.declared.condition_lists.Next.TheVariants as next

-- ---- places

pub before_more : (n : Next) (place further : ℕ) → is_before n place ≡ true → place ≤ further →
    is_before n further ≡ true
before_more (next.Answer truth) place further e le = refl
before_more (next.Condition at) place further e le = let below : at < place = ltb-true at place e in
    lt-ltb at further (omega (arith, below, le))

not_at : (n : Next) (place further : ℕ) → is_before n place ≡ true → place ≤ further → is_at n further ≡ false
not_at (next.Answer truth) place further e le = refl
not_at (next.Condition at) place further e le = let below : at < place = ltb-true at place e in
    ne_eqb at further (λ same. omega (arith, below, le, same))

-- what later conditions lead to plays no part where an earlier one is entered
answer_kept : (later earlier : List Condition) (cells : List Value) (n : Next) →
    is_before n (length earlier) ≡ true → answer (later ++ earlier) cells n ≡ answer earlier cells n
answer_kept [] earlier cells n before = refl
answer_kept (condition ∷ later) earlier cells n before =
    let long : length (later ++ earlier) ≡ length later + length earlier = length-append later earlier in
    rw (not_at n (length earlier) (length (later ++ earlier)) before (omega (
      arith,
      long,
    ))) (answer_kept later earlier cells n before)

-- ---- a step

either_before : (truth : Bool) (at_true at_false : Next) (place : ℕ) → is_before at_true place ≡ true →
    is_before at_false place ≡ true → is_before (if truth then at_true else at_false) place ≡ true
either_before true at_true at_false place e f = e
either_before false at_true at_false place e f = f

next_before : (condition : Condition) (earlier : List Condition) (cells : List Value) →
    are_ordered (condition ∷ earlier) ≡ true → is_before (next_of condition cells) (length earlier) ≡ true
next_before condition earlier cells ordered =
    let all = and_parts (is_before condition.if_true (length earlier) && is_before condition.if_false
    (length earlier)) (are_ordered earlier) ordered in
    let both = and_parts (is_before condition.if_true (length earlier)) (is_before condition.if_false
    (length earlier)) all.0 in
    either_before (condition_truth condition cells) condition.if_true condition.if_false (length earlier) both.0 both.1

ordered_behind : (later earlier : List Condition) → are_ordered (later ++ earlier) ≡ true → are_ordered earlier ≡ true
ordered_behind [] earlier ordered = ordered
ordered_behind (condition ∷ later) earlier ordered =
    ordered_behind later earlier (and_parts (is_before condition.if_true (length
    (later ++ earlier)) && is_before condition.if_false (length (later ++ earlier))) (are_ordered
    (later ++ earlier)) ordered).1

entered : (condition : Condition) (earlier : List Condition) (cells : List Value) →
    are_ordered (condition ∷ earlier) ≡ true →
    answer (condition ∷ earlier) cells (next.Condition (length earlier))
    ≡ answer (condition ∷ earlier) cells (next_of condition cells)
entered condition earlier cells ordered =
    rw (eq-eqb (length earlier) (length earlier) refl)
    (rw (not_at (next_of condition cells) (length earlier) (length earlier)
    (next_before condition earlier cells ordered) (omega arith)) refl)

-- a list around one of its conditions, from the last one back
around : (conditions : List Condition) (at : ℕ) (condition : Condition) → at < length conditions →
    condition ≡ get_or conditions at condition →
    reverse conditions ≡ reverse (drop (at + 1) conditions) ++ condition ∷ reverse (take at conditions)
around conditions at condition below is =
    let front = take at conditions in
    let back = drop (at + 1) conditions in
    let whole : front ++ condition ∷ back ≡ conditions =
    ap (λ x. front ++ x ∷ back) is ∙ ap (λ t. front ++ t) (sym (drop_more conditions at condition below))
    ∙ take-append-drop at conditions in
    sym (ap reverse whole) ∙ reverse-append front (condition ∷ back)
    ∙ ap (λ t. t ++ reverse front) (reverse-append (condition ∷ []) back)
    ∙ append_assoc (reverse back) (condition ∷ []) (reverse front)

pub record Steps (conditions : List Condition) (at : ℕ) (condition : Condition) (cells : List Value) : Type 0 where
  pub same : answer (reverse conditions) cells (next_of condition cells)
      ≡ answer (reverse conditions) cells (next.Condition at)
  pub before : is_before (next_of condition cells) at ≡ true

pub steps : (conditions : List Condition) (at : ℕ) (condition : Condition) (cells : List Value) →
    at < length conditions → condition ≡ get_or conditions at condition →
    are_ordered (reverse conditions) ≡ true → Steps conditions at condition cells
steps conditions at condition cells below is ordered =
    let earlier = reverse (take at conditions) in
    let later = reverse (drop (at + 1) conditions) in
    let n = next_of condition cells in
    let split : reverse conditions ≡ later ++ condition ∷ earlier = around conditions at condition below is in
    let place : length earlier ≡ at = length-reverse (take at conditions)
    ∙ length-take-le at conditions (omega (arith, below)) in
    let long : length (condition ∷ earlier) ≡ suc (length earlier) = refl in
    let here : are_ordered (condition ∷ earlier) ≡ true = ordered_behind later (condition ∷ earlier) (ap are_ordered
    (sym split) ∙ ordered) in
    let first : is_before n (length earlier) ≡ true = next_before condition earlier cells here in
    let within : is_before (next.Condition (length earlier)) (length (condition ∷ earlier))
    ≡ true = lt-ltb (length earlier) (suc (length earlier)) (omega arith) in
    record {
      same =
          ap (λ conditions. answer conditions cells n) split
          ∙ answer_kept later (condition ∷ earlier) cells n (before_more n (length earlier) (suc
          (length earlier)) first (omega arith))
          ∙ sym (entered condition earlier cells here)
          ∙ sym (answer_kept later (condition ∷ earlier) cells (next.Condition (length earlier)) within)
          ∙ ap (λ conditions. answer conditions cells (next.Condition (length earlier))) (sym split)
          ∙ ap (λ at. answer (reverse conditions) cells (next.Condition at)) place;
      before = ap (is_before n) (sym place) ∙ first;
    }

pub answered : (conditions : List Condition) (cells : List Value) (truth : Bool) →
    answer conditions cells (next.Answer truth) ≡ truth
answered [] cells truth = refl
answered (condition ∷ earlier) cells truth = answered earlier cells truth

pub fewer_left : (n : Next) (at : ℕ) → is_before n at ≡ true → conditions_left n < at + 1
fewer_left (next.Answer truth) at before = omega arith
fewer_left (next.Condition further) at before = let below : further < at = ltb-true further at before in
    omega (arith, below)

-- ---- conditions of a predicate that are added

-- what is left to be added of a predicate, and what comes next in either case
pub record Remains (predicate : PredicateTree) (columns : List Column) (at_true at_false : Next) (old : List Condition)
    (rest : PredicateTree) (if_true if_false : Next) (conditions : List Condition) : Type 0 where
  pub longer : length old ≤ length conditions
  pub ordered : are_ordered (reverse conditions) ≡ true
  pub true_before : is_before if_true (length conditions) ≡ true
  pub false_before : is_before if_false (length conditions) ≡ true
  pub kept : (cells : List Value) (n : Next) → is_before n (length old) ≡ true →
      answer (reverse conditions) cells n ≡ answer (reverse old) cells n
  pub decided : (cells : List Value) →
      (if predicate_truth rest columns cells then answer (reverse conditions) cells if_true else answer
      (reverse conditions) cells if_false)
      ≡ (if predicate_truth predicate columns cells then answer (reverse old) cells at_true else answer
      (reverse old) cells at_false)

-- ---- the loop over conditions

pub leads_on : (conditions : List Condition) (n further : Next) (at : ℕ) (condition : Condition)
    (cells : List Value) (whole : Bool) →
    are_ordered (reverse conditions) ≡ true → condition ≡ get_or conditions at condition → n ≡ next.Condition at →
    further ≡ next_of condition cells →
    (answer (reverse conditions) cells n ≡ whole) × (is_before n (length conditions) ≡ true) →
    (answer (reverse conditions) cells further ≡ whole) × (is_before further (length conditions) ≡ true)
leads_on conditions n further at condition cells whole ordered is here there kept =
    let below : at < length conditions = ltb-true at (length conditions) (ap (λ n. is_before n (length conditions))
    (sym here) ∙ kept.1) in
    let s = steps conditions at condition cells below is ordered in (
      ap (answer (reverse conditions) cells) there ∙ s.same ∙ ap (answer (reverse conditions) cells) (sym here)
          ∙ kept.0,
      ap (λ n. is_before n (length conditions)) there ∙ before_more (next_of condition cells) at
          (length conditions) s.before (omega (arith, below)),
    )

pub leads_down : (conditions : List Condition) (n further : Next) (at : ℕ) (condition : Condition)
    (cells : List Value) →
    are_ordered (reverse conditions) ≡ true → condition ≡ get_or conditions at condition → n ≡ next.Condition at →
    further ≡ next_of condition cells →
    is_before n (length conditions) ≡ true → conditions_left further < conditions_left n
leads_down conditions n further at condition cells ordered is here there kept =
    let below : at < length conditions = ltb-true at (length conditions) (ap (λ n. is_before n (length conditions))
    (sym here) ∙ kept) in
    let s = steps conditions at condition cells below is ordered in
    let fewer : conditions_left further < at + 1 = fewer_left further at (ap (λ n. is_before n at) there ∙ s.before) in
    let left : conditions_left n ≡ at + 1 = ap conditions_left here in
    omega (arith, fewer, left)
