-- Rows after turns: what stands, what is hidden, and what holds of all rows that came holds of those that stand.
use Rattle.std.proofs.Common.{◌≡◌, ◌∙◌, zero, suc, ℤ, Bool, true, false, not, cond, ◌||◌, List, [], ◌∷◌, ◌++◌}
use Rattle.std.proofs.Common.{refl, sym, ap, subst, append-nil, append_assoc, inl, inr, arith}
use Rattle.std.specs.Prelude.{filter, Contains}
use Rattle.std.specs.List.{AllByRecursion as All}
use Rattle.std.proofs.lemmas.Bool.{or_left, or_right}
use Rattle.std.proofs.lemmas.List.Concat.{flat_map-append}
use Rattle.std.proofs.lemmas.List.Elements.{Contains-append_left, Contains-append_right, Contains-push}
use Rattle.mon_value.specs.Turns.{Turn, Adds, Hides, added_row, added_rows, after_turn, after_turns, ends_before, hides}
use Rattle.mon_value.specs.Turns.{is_hidden_by, StandsOrIsHidden}
use Rattle.mon_value.specs.LeafHistories.{EndsBefore, IsSource}
use Rattle.mon_value.specs.declared.rows.Row.{Row}

pub after_turns-append : (rows : List Row) (turns more : List Turn) →
    after_turns rows (turns ++ more) ≡ after_turns (after_turns rows turns) more
after_turns-append rows [] more = refl
after_turns-append rows (turn ∷ turns) more = after_turns-append (after_turn rows turn) turns more

pub added_rows-append : (turns more : List Turn) → added_rows (turns ++ more) ≡ added_rows turns ++ added_rows more
added_rows-append turns more = flat_map-append added_row turns more

-- ---- a row that came stands, or some bound hides it

filtered_front : (test : Row → Bool) (first row : Row) (rows : List Row) (b : Bool) → Contains (filter test rows) row
    → Contains (cond b (first ∷ filter test rows) (filter test rows)) row
filtered_front test first row rows true there = Contains-append_right (first ∷ []) (filter test rows) row there
filtered_front test first row rows false there = there

pub passes : (test : Row → Bool) (row : Row) (rows : List Row) → test row ≡ true → Contains rows row
    → Contains (filter test rows) row
passes test row [] is there = absurd (omega (arith, there.1))
passes test row (first ∷ rows) is (zero, l, e) =
    let own : test first ≡ true = ap test e ∙ is in
    subst (λ (b : Bool). Contains (cond b (first ∷ filter test rows) (filter test rows)) row) (sym own)
    (zero, omega arith, e)
passes test row (first ∷ rows) is (suc k, l, e) =
    filtered_front test first row rows (test first) (passes test row rows is (k, omega (arith, l), e))

after_bound : (bound : ℤ) (row : Row) (rows : List Row) (b : Bool) → ends_before bound row ≡ b → Contains rows row
    → StandsOrIsHidden (after_turn rows (Hides bound)) (Hides bound ∷ []) row
after_bound bound row rows true is there = inr (or_left (ends_before bound row) false is)
after_bound bound row rows false is there =
    inl (passes (λ (one : Row). not (ends_before bound one)) row rows (ap not is) there)

after_one : (turn : Turn) (row : Row) (rows : List Row) → Contains rows row
    → StandsOrIsHidden (after_turn rows turn) (turn ∷ []) row
after_one (Adds other) row rows there = inl (Contains-append_left rows (other ∷ []) row there)
after_one (Hides bound) row rows there = after_bound bound row rows (ends_before bound row) refl there

-- hidden by the first turn, or by a later one
first_hides : (turn : Turn) (turns : List Turn) (row : Row) → is_hidden_by (turn ∷ []) row ≡ true
    → is_hidden_by (turn ∷ turns) row ≡ true
first_hides turn turns row is = by (hides row turn) is
  where
    by : (b : Bool) → (b || false) ≡ true → (b || is_hidden_by turns row) ≡ true
    by true h = refl
    by false h = absurd cc

later_hides : (turn : Turn) (turns : List Turn) (row : Row) → is_hidden_by turns row ≡ true
    → is_hidden_by (turn ∷ turns) row ≡ true
later_hides turn turns row is = or_right (hides row turn) (is_hidden_by turns row) is

later : (turn : Turn) (turns : List Turn) (rows : List Row) (row : Row) → StandsOrIsHidden rows turns row
    → StandsOrIsHidden rows (turn ∷ turns) row
later turn turns rows row h =
    elim h [
      | inl stands ↦ inl stands
      | inr hidden ↦ inr (later_hides turn turns row hidden)
    ]

-- of rows that stand
pub still_stands : (turns : List Turn) (rows : List Row) (row : Row) → Contains rows row
    → StandsOrIsHidden (after_turns rows turns) turns row
still_stands [] rows row there = inl there
still_stands (turn ∷ turns) rows row there =
    elim (after_one turn row rows there) [
      | inl stands ↦ later turn turns (after_turns (after_turn rows turn) turns) row
          (still_stands turns (after_turn rows turn) row stands)
      | inr hidden ↦ inr (first_hides turn turns row hidden)
    ]

-- of rows that come
pub came_stands : (turns : List Turn) (rows : List Row) (row : Row) → Contains (added_rows turns) row
    → StandsOrIsHidden (after_turns rows turns) turns row
came_stands [] rows row there = absurd (omega (arith, there.1))
came_stands (Adds first ∷ turns) rows row (zero, l, e) =
    later (Adds first) turns (after_turns (rows ++ first ∷ []) turns) row
    (still_stands turns (rows ++ first ∷ []) row
    (subst (λ (one : Row). Contains (rows ++ first ∷ []) one) e (Contains-push rows first)))
came_stands (Adds first ∷ turns) rows row (suc k, l, e) =
    later (Adds first) turns (after_turns (rows ++ first ∷ []) turns) row
    (came_stands turns (rows ++ first ∷ []) row (k, omega (arith, l), e))
came_stands (Hides bound ∷ turns) rows row there =
    later (Hides bound) turns (after_turns (after_turn rows (Hides bound)) turns) row
    (came_stands turns (after_turn rows (Hides bound)) row there)

-- ---- what holds of rows and of those that come, and stays where some are left out, holds of what stands

pub through_turns : (Q : List Row → Type 0)
    → ((test : Row → Bool) (xs ys : List Row) → Q (xs ++ ys) → Q (filter test xs ++ ys))
    → (turns : List Turn) (rows more : List Row) → Q (rows ++ (added_rows turns ++ more))
    → Q (after_turns rows turns ++ more)
through_turns Q fewer [] rows more h = h
through_turns Q fewer (Adds row ∷ turns) rows more h =
    through_turns Q fewer turns (rows ++ row ∷ []) more
    (subst Q (sym (append_assoc rows (row ∷ []) (added_rows turns ++ more))) h)
through_turns Q fewer (Hides bound ∷ turns) rows more h =
    through_turns Q fewer turns (after_turn rows (Hides bound)) more
    (fewer (λ (one : Row). not (ends_before bound one)) rows (added_rows turns ++ more) h)

all_fewer_by : (P : Row → Type 0) (b : Bool) (x : Row) (xs ys : List Row) → P x → All P (xs ++ ys)
    → All P (cond b (x ∷ xs) xs ++ ys)
all_fewer_by P true x xs ys p h = (p, h)
all_fewer_by P false x xs ys p h = h

all_fewer : (P : Row → Type 0) (test : Row → Bool) (xs ys : List Row) → All P (xs ++ ys)
    → All P (filter test xs ++ ys)
all_fewer P test [] ys h = h
all_fewer P test (x ∷ xs) ys h = all_fewer_by P (test x) x (filter test xs) ys h.0 (all_fewer P test xs ys h.1)

source_fewer_by : (b : Bool) (x : Row) (xs ys : List Row) → All (EndsBefore x) (xs ++ ys) → IsSource (xs ++ ys)
    → IsSource (cond b (x ∷ xs) xs ++ ys)
source_fewer_by true x xs ys all h = (all, h)
source_fewer_by false x xs ys all h = h

source_fewer : (test : Row → Bool) (xs ys : List Row) → IsSource (xs ++ ys) → IsSource (filter test xs ++ ys)
source_fewer test [] ys h = h
source_fewer test (x ∷ xs) ys h =
    source_fewer_by (test x) x (filter test xs) ys (all_fewer (EndsBefore x) test xs ys h.0)
    (source_fewer test xs ys h.1)

-- what stands is a source, and goes on as all rows do
pub standing_source : (turns : List Turn) (rows more : List Row) → IsSource (rows ++ (added_rows turns ++ more))
    → IsSource (after_turns rows turns ++ more)
standing_source = through_turns IsSource source_fewer

-- what holds of each row that came holds of each that stands
pub standing_all : (P : Row → Type 0) (turns : List Turn) (rows : List Row) → All P (rows ++ added_rows turns)
    → All P (after_turns rows turns)
standing_all P turns rows h =
    subst (All P) (append-nil (after_turns rows turns))
    (through_turns (All P) (all_fewer P) turns rows []
    (subst (λ (xs : List Row). All P (rows ++ xs)) (sym (append-nil (added_rows turns))) h))
