-- Rows that stand, by the greatest bound behind them.
use Rattle.std.proofs.Common.{◌≡◌, ◌∙◌, ◌<◌, ℕ, zero, suc, ℤ, int_lt, Bool, true, false, cond, ◌||◌, List, [], ◌∷◌, ◌++◌}
use Rattle.std.proofs.Common.{map, length, take, slice_get, Option, Some, None, IfSome, refl, sym, ap, append-nil}
use Rattle.std.proofs.Common.{append_assoc, arith}
use Rattle.std.proofs.lemmas.Int.{ints}
use Rattle.mon_value.proofs.PlainLemmas.{or_false}
use Rattle.mon_value.proofs.StandingLemmas.{standing, stands_exactly}
use Rattle.mon_value.specs.Turns.{Turn, Adds, Hides, after_turns, ends_before, is_hidden_by}
use Rattle.mon_value.specs.declared.rows.Row.{Row}
use Rattle.leaf_store.specs.within.FromBehind.{Standing, behind_turn, behind_turns, is_below, none_standing, with_bound}

-- ---- the greatest bound

-- the greatest bound among turns
abbrev greatest : List Turn → Option ℤ
greatest [] = None
greatest (Adds row ∷ turns) = greatest turns
greatest (Hides bound ∷ turns) = Some (with_bound bound (greatest turns))

up_to : (e a b : ℤ) → int_lt e a ≡ true → int_lt a b ≡ true → int_lt e b ≡ true
up_to e a b h l = grind (arith, ints)

up_over : (e a b : ℤ) → int_lt e b ≡ true → int_lt a b ≡ false → int_lt e a ≡ true
up_over e a b h l = grind (arith, ints)

or_first : (b c : Bool) → (b ≡ true → c ≡ true) → (b || c) ≡ c
or_first true c h = sym (h refl)
or_first false c h = refl

or_second : (b c : Bool) → (c ≡ true → b ≡ true) → (b || c) ≡ b
or_second true c h = refl
or_second false true h = let no = h refl in absurd cc
or_second false false h = refl

either_by : (e a b : ℤ) (c : Bool) → int_lt a b ≡ c → (int_lt e a || int_lt e b) ≡ int_lt e (cond c b a)
either_by e a b true h = or_first (int_lt e a) (int_lt e b) (λ l. up_to e a b l h)
either_by e a b false h = or_second (int_lt e a) (int_lt e b) (λ l. up_over e a b l h)

either : (bound : ℤ) (other : Option ℤ) (row : Row)
    → (ends_before bound row || is_below other row.point.end) ≡ is_below (Some (with_bound bound other)) row.point.end
either bound None row = or_false (ends_before bound row)
either bound (Some other) row = either_by row.point.end bound other (int_lt bound other) refl

-- a row is hidden by some turns where it ends before their greatest bound
hidden_by_greatest : (turns : List Turn) (row : Row) → is_hidden_by turns row ≡ is_below (greatest turns) row.point.end
hidden_by_greatest [] row = refl
hidden_by_greatest (Adds other ∷ turns) row = hidden_by_greatest turns row
hidden_by_greatest (Hides bound ∷ turns) row =
    ap (λ b. ends_before bound row || b) (hidden_by_greatest turns row) ∙ either bound (greatest turns) row

-- ---- from behind

one_or_none : (b : Bool) (row : Row) (rows : List Row) → cond b rows (row ∷ rows) ≡ cond b [] (row ∷ []) ++ rows
one_or_none true row rows = refl
one_or_none false row rows = refl

as_standing : (turns : List Turn)
    → behind_turns turns none_standing ≡ record { rows = standing turns; bound = greatest turns }
as_standing [] = refl
as_standing (Adds row ∷ turns) =
    let same : cond (is_below (greatest turns) row.point.end) (standing turns) (row ∷ standing turns)
    ≡ standing (Adds row ∷ turns) =
    one_or_none (is_below (greatest turns) row.point.end) row (standing turns)
    ∙ ap (λ b. cond b [] (row ∷ []) ++ standing turns) (sym (hidden_by_greatest turns row)) in
    ap (behind_turn (Adds row)) (as_standing turns)
    ∙ ap (λ (rows : List Row). record { rows = rows; bound = greatest turns }) same
as_standing (Hides bound ∷ turns) = ap (behind_turn (Hides bound)) (as_standing turns)

-- from behind, with one bound, just the rows that stand are met
pub stands_from_behind : (turns : List Turn) → after_turns [] turns ≡ (behind_turns turns none_standing).rows
stands_from_behind turns =
    stands_exactly turns [] ∙ sym (ap (λ (s : Standing). s.rows) (as_standing turns))

pub behind_turns-append : (turns more : List Turn) (last : Standing)
    → behind_turns (turns ++ more) last ≡ behind_turns turns (behind_turns more last)
behind_turns-append [] more last = refl
behind_turns-append (turn ∷ turns) more last = ap (behind_turn turn) (behind_turns-append turns more last)

-- ---- rows that come one by one

pub added_all : (rows more : List Row) → after_turns rows (map Adds more) ≡ rows ++ more
added_all rows [] = sym (append-nil rows)
added_all rows (row ∷ more) = added_all (rows ++ row ∷ []) more ∙ append_assoc rows (row ∷ []) more

added_at : (rows : List Row) (n : ℕ) (old new : Standing) → n < length rows
    → IfSome (slice_get rows n) (λ row. new ≡ behind_turn (Adds row) old)
    → behind_turns (map Adds (take (suc n) rows)) old ≡ behind_turns (map Adds (take n rows)) new
added_at [] n old new below added = absurd (omega (arith, below))
added_at (row ∷ rows) zero old new below added = sym added
added_at (row ∷ rows) (suc n) old new below added =
    ap (behind_turn (Adds row)) (added_at rows n old new (omega (arith, below)) added)

-- the next of the first rows, from behind
pub added_next : (rows : List Row) (m n : ℕ) (old new : Standing) → m ≡ suc n → n < length rows
    → IfSome (slice_get rows n) (λ row. new ≡ behind_turn (Adds row) old)
    → behind_turns (map Adds (take n rows)) new ≡ behind_turns (map Adds (take m rows)) old
added_next rows m n old new next below added =
    sym (added_at rows n old new below added)
    ∙ ap (λ (k : ℕ). behind_turns (map Adds (take k rows)) old) (sym next)
