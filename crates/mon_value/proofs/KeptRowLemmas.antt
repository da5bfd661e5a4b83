-- The rows of a replica of a well-formed history: those with which it began, then those of its turns; and what of them
-- is kept.
use Rattle.std.proofs.Common.{◌≡◌, ◌∙◌, ℕ, zero, suc, ◌<◌, Bool, true, false, cond, ◌||◌, List, [], ◌∷◌}
use Rattle.std.proofs.Common.{◌++◌, length, refl, sym, ap, subst, append-nil, append_assoc, ◌⊎◌, inl, inr, arith}
use Rattle.std.specs.Prelude.{Contains}
use Rattle.std.specs.List.{AllByRecursion as All}
use Rattle.std.proofs.lemmas.List.Concat.{flat_map-append}
use Rattle.std.proofs.lemmas.List.Elements.{Contains-push_cases}
use Rattle.mon_value.specs.Turns.{Turn, Adds, Hides, added_rows, StandsOrIsHidden}
use Rattle.mon_value.specs.LeafHistories.{GoesOn, IsSource, IsWellFormed, MayFollow, begun_rows, entry_rows, entry_turns}
use Rattle.mon_value.specs.LeafHistories.{first_rows, is_opened, kept_rows, replica_rows, replica_turns, same_replica}
use Rattle.mon_value.specs.declared.histories.Entry.{Entry}
use Rattle.mon_value.specs.declared.histories.Entry.TheVariants as entry
use Rattle.mon_value.specs.declared.positions.Range.{Range}
use Rattle.mon_value.specs.declared.positions.Slot.{Slot}
use Rattle.mon_value.specs.declared.rows.Row.{Row}
use Rattle.mon_value.proofs.LeafHistoryLemmas.{opened_more, opened_same, replica_rows-push, same_replica-itself}
use Rattle.mon_value.proofs.TurnLemmas.{added_rows-append, came_stands, standing_all, standing_source}
use Rattle.mon_value.proofs.TurnLemmas.{still_stands}

pub first_rows-push : (range : Range) (slot : Slot) (history : List Entry) (last : Entry) →
    first_rows range slot (history ++ last ∷ []) ≡ first_rows range slot history ++ begun_rows range slot last
first_rows-push range slot history last =
    flat_map-append (begun_rows range slot) history (last ∷ [])
    ∙ ap (λ rows. first_rows range slot history ++ rows) (append-nil (begun_rows range slot last))

pub replica_turns-push : (range : Range) (slot : Slot) (history : List Entry) (last : Entry) →
    replica_turns range slot (history ++ last ∷ []) ≡ replica_turns range slot history ++ entry_turns range slot last
replica_turns-push range slot history last =
    flat_map-append (entry_turns range slot) history (last ∷ [])
    ∙ ap (λ turns. replica_turns range slot history ++ turns) (append-nil (entry_turns range slot last))

-- a replica began before its turns came: its rows are the first ones and then those that came; and one that wasn't
-- opened has neither
pub record IsInTurn (range : Range) (slot : Slot) (history : List Entry) : Type 0 where
  pub rows : replica_rows range slot history
      ≡ first_rows range slot history ++ added_rows (replica_turns range slot history)
  pub none : is_opened range slot history ≡ false
      → (first_rows range slot history ≡ []) × (replica_turns range slot history ≡ [])

-- ---- a replica that began is opened

opened_at : (r other : Range) (slot place : Slot) (pass : ℕ) (rows : List Row) (history : List Entry)
    → is_opened r slot history ≡ true → is_opened r slot (entry.Opened pass other place rows ∷ history) ≡ true
opened_at r other slot place pass rows history rest = by (same_replica r slot other place)
  where
    by : (b : Bool) → (b || is_opened r slot history) ≡ true
    by true = refl
    by false = rest

opened_behind : (r : Range) (slot : Slot) (e : Entry) (history : List Entry)
    → is_opened r slot history ≡ true → is_opened r slot (e ∷ history) ≡ true
opened_behind r slot (entry.Opened pass other place rows) history rest =
    opened_at r other slot place pass rows history rest
opened_behind r slot (entry.Put pass other place row) history rest = rest
opened_behind r slot (entry.Trim pass other place before) history rest = rest
opened_behind r slot (entry.Down pass) history rest = rest
opened_behind r slot (entry.Up pass) history rest = rest

pub opened_there : (r : Range) (slot : Slot) (pass : ℕ) (rows : List Row) (history : List Entry)
    → Contains history (entry.Opened pass r slot rows) → is_opened r slot history ≡ true
opened_there r slot pass rows [] there = absurd (omega (arith, there.1))
opened_there r slot pass rows (first ∷ history) (zero, l, e) =
    subst (λ (one : Entry). is_opened r slot (one ∷ history) ≡ true) (sym e)
    (ap (λ b. b || is_opened r slot history) (same_replica-itself r slot))
opened_there r slot pass rows (first ∷ history) (suc k, l, e) =
    opened_behind r slot first history (opened_there r slot pass rows history (k, omega (arith, l), e))

-- ---- one entry more

-- (the lists alone: all rows, the first ones, the turns)
with_first : (b : Bool) (all first rows : List Row) (turns : List Turn) → all ≡ first ++ added_rows turns
    → (b ≡ true → (first ≡ []) × (turns ≡ []))
    → all ++ cond b rows [] ≡ (first ++ cond b rows []) ++ added_rows (turns ++ [])
with_first true all first rows turns e none =
    let n = none refl in
    let before : all ++ rows ≡ (first ++ added_rows turns) ++ rows = ap (λ xs. xs ++ rows) e in
    let bare : (first ++ added_rows turns) ++ rows ≡ rows = λ i. (n.0 i ++ added_rows (n.1 i)) ++ rows in
    let after : (first ++ rows) ++ added_rows (turns ++ []) ≡ rows ++ [] = λ i. (n.0 i ++ rows) ++ added_rows (n.1 i ++ [])
    in
    before ∙ bare ∙ sym (append-nil rows) ∙ sym after
with_first false all first rows turns e none =
    let same : first ++ added_rows turns ≡ (first ++ []) ++ added_rows (turns ++ []) =
    λ i. sym (append-nil first) i ++ added_rows (sym (append-nil turns) i) in
    append-nil all ∙ e ∙ same

with_turn : (b : Bool) (all first : List Row) (turns : List Turn) (turn : Turn) → all ≡ first ++ added_rows turns
    → all ++ cond b (added_rows (turn ∷ [])) [] ≡ (first ++ []) ++ added_rows (turns ++ cond b (turn ∷ []) [])
with_turn true all first turns turn e =
    ap (λ xs. xs ++ added_rows (turn ∷ [])) e
    ∙ append_assoc first (added_rows turns) (added_rows (turn ∷ []))
    ∙ ap (λ xs. first ++ xs) (sym (added_rows-append turns (turn ∷ [])))
    ∙ ap (λ xs. xs ++ added_rows (turns ++ turn ∷ [])) (sym (append-nil first))
with_turn false all first turns turn e =
    let same : first ++ added_rows turns ≡ (first ++ []) ++ added_rows (turns ++ []) =
    λ i. sym (append-nil first) i ++ added_rows (sym (append-nil turns) i) in
    append-nil all ∙ e ∙ same

nothing_more : (all first : List Row) (turns : List Turn) → all ≡ first ++ added_rows turns
    → all ++ [] ≡ (first ++ []) ++ added_rows (turns ++ [])
nothing_more all first turns e =
    let same : first ++ added_rows turns ≡ (first ++ []) ++ added_rows (turns ++ []) =
    λ i. sym (append-nil first) i ++ added_rows (sym (append-nil turns) i) in
    append-nil all ∙ e ∙ same

no_bound : (b : Bool) (all : List Row) → all ++ [] ≡ all ++ cond b [] []
no_bound true all = refl
no_bound false all = refl

module _ (range : Range) (slot : Slot) where
  abbrev All_of : List Entry → List Row
  All_of history = replica_rows range slot history

  abbrev First_of : List Entry → List Row
  First_of history = first_rows range slot history

  abbrev Turns_of : List Entry → List Turn
  Turns_of history = replica_turns range slot history

  -- the three lists after an entry
  joined : (history : List Entry) (e : Entry)
      → All_of history ++ entry_rows range slot e
      ≡ (First_of history ++ begun_rows range slot e) ++ added_rows (Turns_of history ++ entry_turns range slot e)
      → All_of (history ++ e ∷ []) ≡ First_of (history ++ e ∷ []) ++ added_rows (Turns_of (history ++ e ∷ []))
  joined history e h =
      replica_rows-push range slot history e ∙ h
      ∙ sym (λ i. first_rows-push range slot history e i ++ added_rows (replica_turns-push range slot history e i))

  in_turn_rows : (history : List Entry) (e : Entry) → MayFollow history e → IsInTurn range slot history
      → All_of (history ++ e ∷ []) ≡ First_of (history ++ e ∷ []) ++ added_rows (Turns_of (history ++ e ∷ []))
  in_turn_rows history (entry.Opened pass other place rows) may h =
      joined history (entry.Opened pass other place rows)
      (with_first (same_replica range slot other place) (All_of history) (First_of history) rows (Turns_of history) h.rows
      (λ same. h.none (opened_same range other slot place history same ∙ may.1)))
  in_turn_rows history (entry.Put pass other place row) may h =
      joined history (entry.Put pass other place row)
      (with_turn (same_replica range slot other place) (All_of history) (First_of history) (Turns_of history) (Adds row)
      h.rows)
  in_turn_rows history (entry.Trim pass other place before) may h =
      joined history (entry.Trim pass other place before)
      (no_bound (same_replica range slot other place) (All_of history)
      ∙ with_turn (same_replica range slot other place) (All_of history) (First_of history) (Turns_of history)
      (Hides before) h.rows)
  in_turn_rows history (entry.Down pass) may h =
      joined history (entry.Down pass) (nothing_more (All_of history) (First_of history) (Turns_of history) h.rows)
  in_turn_rows history (entry.Up pass) may h =
      joined history (entry.Up pass) (nothing_more (All_of history) (First_of history) (Turns_of history) h.rows)

  -- what was not opened before, and is not by the entry
  abbrev IsBare : List Entry → Type 0
  IsBare history = (First_of history ≡ []) × (Turns_of history ≡ [])

  bare_on : (history : List Entry) (e : Entry) → begun_rows range slot e ≡ [] → entry_turns range slot e ≡ []
      → IsBare history → IsBare (history ++ e ∷ [])
  bare_on history e none still h = (
    first_rows-push range slot history e ∙ (λ i. h.0 i ++ none i),
    replica_turns-push range slot history e ∙ (λ i. h.1 i ++ still i),
  )

  off : {X : Type 0} (b : Bool) (xs : List X) → (b ≡ true → ⊥) → cond b xs [] ≡ []
  off true xs never = absurd (never refl)
  off false xs never = refl

  never : (a b : Bool) → (a || (b || false)) ≡ false → (a ≡ false) × (b ≡ true → ⊥)
  never true b h = absurd cc
  never false true h = absurd cc
  never false false h = (refl, λ e. absurd cc)

  quiet : (a : Bool) → (a || false) ≡ false → a ≡ false
  quiet true h = absurd cc
  quiet false h = refl

  in_turn_none : (history : List Entry) (e : Entry) → MayFollow history e → IsInTurn range slot history
      → is_opened range slot (history ++ e ∷ []) ≡ false → IsBare (history ++ e ∷ [])
  in_turn_none history (entry.Opened pass other place rows) may h none =
      let apart = never (is_opened range slot history) (same_replica range slot other place)
      (sym (opened_more range slot history (entry.Opened pass other place rows ∷ [])) ∙ none) in
      bare_on history (entry.Opened pass other place rows) (off (same_replica range slot other place) rows apart.1) refl
      (h.none apart.0)
  in_turn_none history (entry.Put pass other place row) may h none =
      let bare = quiet (is_opened range slot history)
      (sym (opened_more range slot history (entry.Put pass other place row ∷ [])) ∙ none) in
      bare_on history (entry.Put pass other place row) refl
      (off (same_replica range slot other place) (Adds row ∷ [])
      (λ same. (let there : is_opened range slot history ≡ true = opened_same range other slot place history same ∙ may.1
      in absurd cc))) (h.none bare)
  in_turn_none history (entry.Trim pass other place before) may h none =
      let bare = quiet (is_opened range slot history)
      (sym (opened_more range slot history (entry.Trim pass other place before ∷ [])) ∙ none) in
      bare_on history (entry.Trim pass other place before) refl
      (off (same_replica range slot other place) (Hides before ∷ [])
      (λ same. (let there : is_opened range slot history ≡ true = opened_same range other slot place history same ∙ may.1 in
      absurd cc))) (h.none bare)
  in_turn_none history (entry.Down pass) may h none =
      bare_on history (entry.Down pass) refl refl
      (h.none (quiet (is_opened range slot history)
      (sym (opened_more range slot history (entry.Down pass ∷ [])) ∙ none)))
  in_turn_none history (entry.Up pass) may h none =
      bare_on history (entry.Up pass) refl refl
      (h.none (quiet (is_opened range slot history)
      (sym (opened_more range slot history (entry.Up pass ∷ [])) ∙ none)))

  in_turn_from : (before history : List Entry) → GoesOn before history → IsInTurn range slot before
      → IsInTurn range slot (before ++ history)
  in_turn_from before [] goes h = subst (IsInTurn range slot) (sym (append-nil before)) h
  in_turn_from before (e ∷ history) goes h =
      subst (IsInTurn range slot) (append_assoc before (e ∷ []) history)
      (in_turn_from (before ++ e ∷ []) history goes.1
      (record { rows = in_turn_rows before e goes.0 h; none = in_turn_none before e goes.0 h }))

  pub in_turn : (history : List Entry) → IsWellFormed history → IsInTurn range slot history
  in_turn history formed = in_turn_from [] history formed (record { rows = refl; none = λ e. (refl, refl) })

  -- ---- the rows with which it began

  -- whatever entry opened it had just its first rows
  abbrev IsBegunSo : List Entry → Type 0
  IsBegunSo history = (pass : ℕ) (rows : List Row) → Contains history (entry.Opened pass range slot rows)
      → First_of history ≡ rows

  begins_here : (history : List Entry) (pass : ℕ) (rows : List Row) → IsInTurn range slot history
      → MayFollow history (entry.Opened pass range slot rows)
      → First_of (history ++ entry.Opened pass range slot rows ∷ []) ≡ rows
  begins_here history pass rows h may =
      first_rows-push range slot history (entry.Opened pass range slot rows)
      ∙ (λ i. (h.none may.1).0 i ++ cond (same_replica-itself range slot i) rows [])

  begun_nothing : (history : List Entry) (e : Entry) → is_opened range slot history ≡ true → MayFollow history e
      → begun_rows range slot e ≡ []
  begun_nothing history (entry.Opened pass other place rows) there may =
      off (same_replica range slot other place) rows
      (λ same. (let none : is_opened range slot history ≡ false = opened_same range other slot place history same ∙ may.1
      in absurd cc))
  begun_nothing history (entry.Put pass other place row) there may = refl
  begun_nothing history (entry.Trim pass other place before) there may = refl
  begun_nothing history (entry.Down pass) there may = refl
  begun_nothing history (entry.Up pass) there may = refl

  begun_on : (history : List Entry) (e : Entry) → MayFollow history e → IsInTurn range slot history → IsBegunSo history
      → IsBegunSo (history ++ e ∷ [])
  begun_on history e may h so pass rows there =
      elim (Contains-push_cases history e (entry.Opened pass range slot rows) there) [
        | inl old ↦ first_rows-push range slot history e
            ∙ (λ i. so pass rows old i
            ++ begun_nothing history e (opened_there range slot pass rows history old) may i)
            ∙ append-nil rows
        | inr new ↦ subst (λ (x : Entry). First_of (history ++ x ∷ []) ≡ rows) (sym new)
            (begins_here history pass rows h (subst (λ (x : Entry). MayFollow history x) new may))
      ]

  begun_from : (before history : List Entry) → GoesOn before history → IsInTurn range slot before → IsBegunSo before
      → IsBegunSo (before ++ history)
  begun_from before [] goes h so = subst IsBegunSo (sym (append-nil before)) so
  begun_from before (e ∷ history) goes h so =
      subst IsBegunSo (append_assoc before (e ∷ []) history)
      (begun_from (before ++ e ∷ []) history goes.1
      (record { rows = in_turn_rows before e goes.0 h; none = in_turn_none before e goes.0 h })
      (begun_on before e goes.0 h so))

  pub first_rows_are : (history : List Entry) → IsWellFormed history → IsBegunSo history
  first_rows_are history formed =
      begun_from [] history formed (record { rows = refl; none = λ e. (refl, refl) })
      (λ pass rows there. absurd (let l : there.0 < 0 = there.1 in omega arith))

  -- ---- what is kept

  -- what holds of each row of a replica holds of each that is kept
  pub kept_all : (P : Row → Type 0) (history : List Entry) → IsWellFormed history → All P (replica_rows range slot history)
      → All P (kept_rows range slot history)
  kept_all P history formed h =
      standing_all P (Turns_of history) (First_of history) (subst (All P) (in_turn history formed).rows h)

  -- the kept rows are a source
  pub kept_source : (history : List Entry) → IsWellFormed history → IsSource (replica_rows range slot history)
      → IsSource (kept_rows range slot history)
  kept_source history formed h =
      subst IsSource (append-nil (kept_rows range slot history))
      (standing_source (Turns_of history) (First_of history) []
      (subst IsSource ((in_turn history formed).rows
      ∙ ap (λ xs. First_of history ++ xs) (sym (append-nil (added_rows (Turns_of history))))) h))

  either_side : (xs ys : List Row) (row : Row) → Contains (xs ++ ys) row → Contains xs row ⊎ Contains ys row
  either_side [] ys row there = inr there
  either_side (x ∷ xs) ys row (zero, l, e) = inl (zero, omega arith, e)
  either_side (x ∷ xs) ys row (suc k, l, e) =
      elim (either_side xs ys row (k, omega (arith, l), e)) [
        | inl left ↦ (let m : left.0 < length xs = left.1 in inl (suc left.0, omega arith, left.2))
        | inr right ↦ inr right
      ]

  -- each row of a replica is kept, or a trim of the replica is above its end
  pub kept_or_trimmed : (history : List Entry) → IsWellFormed history → (row : Row)
      → Contains (replica_rows range slot history) row
      → StandsOrIsHidden (kept_rows range slot history) (replica_turns range slot history) row
  kept_or_trimmed history formed row there =
      elim (either_side (First_of history) (added_rows (Turns_of history)) row
      (subst (λ (rows : List Row). Contains rows row) (in_turn history formed).rows there)) [
        | inl first ↦ still_stands (Turns_of history) (First_of history) row first
        | inr came ↦ came_stands (Turns_of history) (First_of history) row came
      ]
