-- Rows that stand or are hidden, as rows and turns grow; and what holds of a replica's rows, of those that are kept.
use Rattle.std.proofs.Common.{◌≡◌, ◌∙◌, zero, suc, ◌⊎◌, inl, inr, Bool, true, false, cond, List, [], ◌∷◌, ◌++◌}
use Rattle.std.proofs.Common.{ℤ, sym, ap, subst, arith}
use Rattle.std.specs.Prelude.{Contains}
use Rattle.std.specs.List.{AllByRecursion as All, flat_map}
use Rattle.std.proofs.lemmas.Bool.{or_cases, or_left, or_right}
use Rattle.std.proofs.lemmas.List.Folds.{list_any-append}
use Rattle.mon_topo.proofs.FrontLemmas.{begins_to, behind}
use Rattle.mon_topo.proofs.RangeHistoryLemmas.{all_append, all_back, all_front}
use Rattle.mon_topo.proofs.TurnsSinceLemmas.{range_turns-append}
use Rattle.mon_topo.specs.HeldHistories.{BeginsWith}
use Rattle.mon_topo.specs.RangeHistories.{range_turns}
use Rattle.mon_value.proofs.KeptRowLemmas.{kept_or_trimmed}
use Rattle.mon_value.proofs.TurnLemmas.{added_rows-append, standing_all}
use Rattle.mon_value.specs.LeafHistories.{IsWellFormed, begun_rows, entry_rows, entry_turns, first_rows, kept_rows}
use Rattle.mon_value.specs.LeafHistories.{replica_rows, replica_turns, same_replica}
use Rattle.mon_value.specs.Turns.{Adds, Hides, StandsOrIsHidden, Turn, added_rows, hides, is_hidden_by}
use Rattle.mon_value.specs.declared.histories.Entry.{Entry}
use Rattle.mon_value.specs.declared.histories.Entry.TheVariants as entry
use Rattle.mon_value.specs.declared.histories.RangeEntry.{RangeEntry}
use Rattle.mon_value.specs.declared.positions.Range.{Range}
use Rattle.mon_value.specs.declared.positions.Slot.{Slot}
use Rattle.mon_value.specs.declared.rows.Row.{Row}

-- ---- bounds among more turns

pub hidden_more : (turns more : List Turn) (row : Row) → is_hidden_by turns row ≡ true
    → is_hidden_by (turns ++ more) row ≡ true
hidden_more turns more row is =
    list_any-append (hides row) turns more ∙ or_left (is_hidden_by turns row) (is_hidden_by more row) is

pub hidden_behind : (turns more : List Turn) (row : Row) → is_hidden_by more row ≡ true
    → is_hidden_by (turns ++ more) row ≡ true
hidden_behind turns more row is =
    list_any-append (hides row) turns more ∙ or_right (is_hidden_by turns row) (is_hidden_by more row) is

pub either_hides : (turns more : List Turn) (row : Row) → is_hidden_by (turns ++ more) row ≡ true
    → (is_hidden_by turns row ≡ true) ⊎ (is_hidden_by more row ≡ true)
either_hides turns more row is =
    or_cases (is_hidden_by turns row) (is_hidden_by more row) (sym (list_any-append (hides row) turns more) ∙ is)

pub hidden_in : {X : Type 0} (turns_of : X → List Turn) (xs : List X) (x : X) (row : Row) → Contains xs x
    → is_hidden_by (turns_of x) row ≡ true → is_hidden_by (flat_map turns_of xs) row ≡ true
hidden_in turns_of [] x row there is = absurd (omega (arith, there.1))
hidden_in turns_of (first ∷ xs) x row (zero, l, e) is =
    hidden_more (turns_of first) (flat_map turns_of xs) row (ap (λ one. is_hidden_by (turns_of one) row) e ∙ is)
hidden_in turns_of (first ∷ xs) x row (suc k, l, e) is =
    hidden_behind (turns_of first) (flat_map turns_of xs) row
    (hidden_in turns_of xs x row (k, omega (arith, l), e) is)

-- by a range's history that goes on
pub hidden_on : (history front : List RangeEntry) (row : Row) → BeginsWith history front
    → is_hidden_by (range_turns front) row ≡ true → is_hidden_by (range_turns history) row ≡ true
hidden_on history front row begins is =
    ap (λ (turns : List Turn). is_hidden_by turns row)
    (ap range_turns (begins_to history front begins) ∙ range_turns-append front (behind history front))
    ∙ hidden_more (range_turns front) (range_turns (behind history front)) row is

-- a row stands or is hidden among more rows, and by more turns
pub shown_on : (rows others : List Row) (turns more : List Turn) (row : Row)
    → (Contains rows row → Contains others row)
    → (is_hidden_by turns row ≡ true → is_hidden_by more row ≡ true)
    → StandsOrIsHidden rows turns row → StandsOrIsHidden others more row
shown_on rows others turns more row stands hidden (inl there) = inl (stands there)
shown_on rows others turns more row stands hidden (inr is) = inr (hidden is)

-- ---- rows that are kept

module _ (P : Row → Type 0) (range : Range) (slot : Slot) where
  came_by : (b : Bool) (row : Row) → All P (cond b (row ∷ []) []) → All P (added_rows (cond b (Adds row ∷ []) []))
  came_by true row all = all
  came_by false row all = all

  none_came : (b : Bool) (before : ℤ) → All P (added_rows (cond b (Hides before ∷ []) []))
  none_came true before = record {}
  none_came false before = record {}

  entry_parts : (e : Entry) → All P (entry_rows range slot e)
      → All P (begun_rows range slot e) × All P (added_rows (entry_turns range slot e))
  entry_parts (entry.Opened pass other place rows) all = (all, record {})
  entry_parts (entry.Put pass other place row) all = (record {}, came_by (same_replica range slot other place) row all)
  entry_parts (entry.Trim pass other place before) all =
      (record {}, none_came (same_replica range slot other place) before)
  entry_parts (entry.Down pass) all = (record {}, record {})
  entry_parts (entry.Up pass) all = (record {}, record {})

  history_parts : (history : List Entry) → All P (replica_rows range slot history)
      → All P (first_rows range slot history) × All P (added_rows (replica_turns range slot history))
  history_parts [] all = (record {}, record {})
  history_parts (e ∷ history) all =
      let own = entry_parts e (all_front P (entry_rows range slot e) (replica_rows range slot history) all) in
      let rest = history_parts history (all_back P (entry_rows range slot e) (replica_rows range slot history) all) in (
        all_append P (begun_rows range slot e) (first_rows range slot history) own.0 rest.0,
        subst (All P) (sym (added_rows-append (entry_turns range slot e) (replica_turns range slot history)))
            (all_append P (added_rows (entry_turns range slot e)) (added_rows (replica_turns range slot history)) own.1
            rest.1),
      )

  -- what holds of each row of a replica holds of each that is kept, in any history
  pub kept_among : (history : List Entry) → All P (replica_rows range slot history)
      → All P (kept_rows range slot history)
  kept_among history all =
      let parts = history_parts history all in
      standing_all P (replica_turns range slot history) (first_rows range slot history)
      (all_append P (first_rows range slot history) (added_rows (replica_turns range slot history)) parts.0 parts.1)

-- at a cut: a row of a replica is kept, or a trim of the replica hides it; or some other bound does
pub kept_or_hidden : (range : Range) (slot : Slot) (own : List Entry) (bounds : List Turn) → IsWellFormed own
    → (row : Row) → StandsOrIsHidden (replica_rows range slot own) bounds row
    → StandsOrIsHidden (kept_rows range slot own) (replica_turns range slot own ++ bounds) row
kept_or_hidden range slot own bounds formed row (inl there) =
    let kept = kept_rows range slot own in
    let turns = replica_turns range slot own in
    shown_on kept kept turns (turns ++ bounds) row (λ stands. stands) (hidden_more turns bounds row)
    (kept_or_trimmed range slot own formed row there)
kept_or_hidden range slot own bounds formed row (inr hidden) =
    inr (hidden_behind (replica_turns range slot own) bounds row hidden)
