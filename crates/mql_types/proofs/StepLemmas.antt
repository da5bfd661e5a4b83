-- Up to which place the operations of a pipe have steps.
use Rattle.std.proofs.Common.{◌≡◌, ◌∙◌, ℕ, ◌+◌, ◌||◌, Bool, true, false, zero, suc, cond, nat_lt, List, [], ◌∷◌, ◌++◌}
use Rattle.std.proofs.Common.{Option, map, drop, refl, ap, sym, arith}
use Rattle.std.proofs.lemmas.Bool.Decides.{nat_tests}
use Rattle.typed_columns.proofs.FaultLemmas.{first_with-append}
use Rattle.mql_ast.specs.declared.operations.Op.{Op}
use Rattle.mql_ast.specs.Trees.{OpTree, op_tree}
use Rattle.typed_trees.specs.declared.faults.TypeFault.{TypeFault}
use Rattle.typed_trees.specs.Faults.{first_with}
use Rattle.typed_trees.specs.Times.{have_steps, is_every, is_step, is_within_deed, order_fault, order_faults}
use Rattle.typed_trees.specs.Times.{steps_length}

-- the length up to the last step, where the operations from a place on are still to be looked at
abbrev pub length_behind : ℕ → ℕ → List OpTree → ℕ
length_behind steps place ops = cond (have_steps ops) (place + steps_length ops) steps

none : (b c : Bool) (n : ℕ) → (b || c) ≡ false → cond (b || c) (n + 1) 0 ≡ 0
none b c n h = rw h refl

-- without a step there is no length
pub steps_length-none : (ops : List OpTree) → have_steps ops ≡ false → steps_length ops ≡ 0
steps_length-none [] h = refl
steps_length-none (op ∷ ops) h = none (is_step op.what) (have_steps ops) (steps_length ops) h

pub length_behind-all : (ops : List OpTree) → length_behind 0 0 ops ≡ steps_length ops
length_behind-all ops = by_any (have_steps ops) (steps_length ops) (steps_length-none ops)
  where
    by_any : (b : Bool) (n : ℕ) → (b ≡ false → n ≡ 0) → cond b (0 + n) 0 ≡ n
    by_any true n none = omega arith
    by_any false n none = sym (none refl)

-- the operation at a place is looked at
pub length_behind-step : (steps place : ℕ) (op : OpTree) (ops : List OpTree)
    → length_behind (cond (is_step op.what) (place + 1) steps) (place + 1) ops ≡ length_behind steps place (op ∷ ops)
length_behind-step steps place op ops =
    by_step (is_step op.what) (have_steps ops) (steps_length ops) steps place (steps_length-none ops)
  where
    by_step : (here later : Bool) (n steps place : ℕ) → (later ≡ false → n ≡ 0)
        → cond later (place + 1 + n) (cond here (place + 1) steps)
        ≡ cond (here || later) (place + cond (here || later) (n + 1) 0) steps
    by_step true true n steps place none = omega arith
    by_step true false n steps place none = omega (arith, none refl)
    by_step false true n steps place none = omega arith
    by_step false false n steps place none = refl

-- behind a place there are steps where the length goes on behind it
pub have_steps-drop : (k : ℕ) (ops : List Op)
    → have_steps (map op_tree (drop k ops)) ≡ nat_lt k (steps_length (map op_tree ops))
have_steps-drop zero [] = refl
have_steps-drop (suc k) [] = grind (arith, nat_tests)
have_steps-drop zero (op ∷ ops) =
    at_front (is_step (op_tree op).what || have_steps (map op_tree ops)) (steps_length (map op_tree ops))
  where
    at_front : (b : Bool) (n : ℕ) → b ≡ nat_lt 0 (cond b (n + 1) 0)
    at_front true n = grind (arith, nat_tests)
    at_front false n = refl
have_steps-drop (suc k) (op ∷ ops) =
    have_steps-drop k ops
    ∙ behind_front (is_step (op_tree op).what) (have_steps (map op_tree ops)) (steps_length (map op_tree ops)) k
    (steps_length-none (map op_tree ops))
  where
    behind_front : (here later : Bool) (n k : ℕ) → (later ≡ false → n ≡ 0)
        → nat_lt k n ≡ nat_lt (suc k) (cond (here || later) (n + 1) 0)
    behind_front true later n k none = grind (arith, nat_tests)
    behind_front false true n k none = grind (arith, nat_tests)
    behind_front false false n k none = grind (arith, nat_tests, none refl)

-- an operation is told where it is misplaced, and then those behind it
pub order_step : (branch every within misplaced every' within' : Bool) (op : OpTree) (rest : List OpTree)
    (found found' : Option TypeFault) → misplaced ≡ (branch || have_steps rest) → every' ≡ (every || is_every op.what)
    → within' ≡ (within || is_within_deed op.what)
    → found' ≡ first_with found (order_fault op.what misplaced every within op.at)
    → first_with found' (order_faults branch every' within' rest)
    ≡ first_with found (order_faults branch every within (op ∷ rest))
order_step branch every within misplaced every' within' op rest found found' m e w f =
    let own : Bool → List TypeFault = λ b. order_fault op.what b every within op.at in
    ap (λ first. first_with first (order_faults branch every' within' rest)) f
    ∙ sym (first_with-append found (own misplaced) (order_faults branch every' within' rest))
    ∙ ap (λ b. first_with found (own b ++ order_faults branch every' within' rest)) m
    ∙ ap (λ b. first_with found (own (branch || have_steps rest) ++ order_faults branch b within' rest)) e
    ∙ ap
    (λ b. first_with found
    (own (branch || have_steps rest) ++ order_faults branch (every || is_every op.what) b rest))
    w

pub ruleset steps = (length_behind-all, length_behind-step, have_steps-drop, first_with-append)
