-- Which entries may follow a history, by what is kept of it.
use Rattle.std.proofs.Common.{◌≡◌, ◌∙◌, ◌<ℤ◌, Bool, true, false, cond, Some, None, IfSome, List, [], ◌∷◌, ◌++◌}
use Rattle.std.proofs.Common.{refl, sym, subst, append-nil, append_assoc}
use Rattle.mon_value.proofs.LeafHistoryLemmas.{IsWellFormed-push, no_rows, parts_same, replica_rows-push}
use Rattle.mon_value.specs.LeafHistories.{GoesOn, IsWellFormed, MayFollow, entry_rows, is_down, is_opened, replica_rows}
use Rattle.mon_value.specs.LeafHistories.{same_replica, IsSource, last_end, points_of}
use Rattle.mon_value.specs.declared.histories.Entry.{Entry}
use Rattle.mon_value.specs.declared.histories.Entry.TheVariants as entry
use Rattle.mon_value.specs.declared.positions.Range.{Range}
use Rattle.mon_value.specs.declared.positions.Slot.{Slot}
use Rattle.mon_value.specs.declared.rows.Row.{Row}
use Rattle.mon_series.proofs.SourceEnds.{source_later}
use Rattle.mon_series.specs.SlotViews.{SlotView}
use Rattle.leaf_store.specs.LeafStates.{slot_view}
use Rattle.leaf_store.specs.declared.replicas.Replica.{Replica}
use Rattle.leaf_store.specs.within.Follows.{CanTakeRow}
use Rattle.leaf_store.specs.within.Replicas.{CanPut, HoldsHistory, IsNewReplica, Replicas}
use Rattle.leaf_store.specs.within.States.{AllSwitches}
use Rattle.leaf_store.proofs.StepLemmas.{switches_rows, opened_held, unopened_held}
use Rattle.mon_value.proofs.SourceMoreLemmas.{source_more}

-- ---- the rows of a replica are a source

own_put : (range : Range) (slot : Slot) (before : List Entry) (other : Range) (place : Slot) (row : Row) (b : Bool)
    → same_replica range slot other place ≡ b → IsSource (replica_rows range slot before)
    → IsSource (replica_rows other place before ++ row ∷ []) → IsSource (replica_rows range slot before
    ++ cond b (row ∷ []) [])
own_put range slot before other place row true same source more =
    let both = parts_same range other slot place same in
    subst (λ (rows : List Row). IsSource (rows ++ row ∷ [])) (λ i. replica_rows (sym both.0 i) (sym both.1 i) before)
    more
own_put range slot before other place row false same source more =
    subst IsSource (sym (append-nil (replica_rows range slot before))) source

own_opened : (range : Range) (slot : Slot) (before : List Entry) (other : Range) (place : Slot) (rows : List Row)
    (b : Bool)
    → same_replica range slot other place ≡ b → IsWellFormed before → IsSource (replica_rows range slot before)
    → is_opened other place before ≡ false → IsSource rows → IsSource (replica_rows range slot before ++ cond b rows [])
own_opened range slot before other place rows true same formed source never own =
    let both = parts_same range other slot place same in
    let none : replica_rows range slot before ≡ [] =
    (λ i. replica_rows (both.0 i) (both.1 i) before) ∙ no_rows other place before formed never in
    subst (λ (front : List Row). IsSource (front ++ rows)) (sym none) own
own_opened range slot before other place rows false same formed source never own =
    subst IsSource (sym (append-nil (replica_rows range slot before))) source

entry_source : (range : Range) (slot : Slot) (before : List Entry) (e : Entry) → IsWellFormed before → MayFollow before
    e
    → IsSource (replica_rows range slot before) → IsSource (replica_rows range slot before ++ entry_rows range slot e)
entry_source range slot before (entry.Opened pass other place rows) formed may source =
    own_opened range slot before other place rows (same_replica range slot other place) refl formed source may.1 may.2
entry_source range slot before (entry.Put pass other place row) formed may source =
    own_put range slot before other place row (same_replica range slot other place) refl source may.2
entry_source range slot before (entry.Trim pass other place bound) formed may source = subst IsSource
    (sym (append-nil (replica_rows range slot before))) source
entry_source range slot before (entry.Down pass) formed may source = subst IsSource
    (sym (append-nil (replica_rows range slot before))) source
entry_source range slot before (entry.Up pass) formed may source = subst IsSource
    (sym (append-nil (replica_rows range slot before))) source

source_from : (range : Range) (slot : Slot) (before history : List Entry) → IsWellFormed before → GoesOn before history
    → IsSource (replica_rows range slot before) → IsSource (replica_rows range slot (before ++ history))
source_from range slot before [] formed goes source =
    subst (λ (es : List Entry). IsSource (replica_rows range slot es)) (sym (append-nil before)) source
source_from range slot before (e ∷ history) formed goes source =
    subst (λ (es : List Entry). IsSource (replica_rows range slot es)) (append_assoc before (e ∷ []) history)
    (source_from range slot (before ++ e ∷ []) history (IsWellFormed-push before e formed goes.0) goes.1
    (subst IsSource (sym (replica_rows-push range slot before e)) (entry_source range slot before e formed goes.0
    source)))

-- the rows of each replica of a well-formed history are a source
pub rows_source : (range : Range) (slot : Slot) (history : List Entry) → IsWellFormed history
    → IsSource (replica_rows range slot history)
rows_source range slot history formed = source_from range slot [] history tt formed tt

-- ---- what may follow, by what is kept

-- the replicas of a settled leaf are those of its whole history
pub settled_holds : (replicas : Replicas) (first left : List Entry) → HoldsHistory replicas first → AllSwitches left
    → HoldsHistory replicas (first ++ left)
settled_holds replicas first left holds all = λ range slot. holds range slot
    ∙ sym (switches_rows range slot first left all)

held_parts : (b : Bool) (own held : SlotView) → cond b (Some own) None ≡ Some held → (b ≡ true) × (own ≡ held)
held_parts true own held is = (refl, cc)
held_parts false own held is = absurd cc

held_none : (b : Bool) (own : SlotView) → cond b (Some own) None ≡ None → b ≡ false
held_none true own is = absurd cc
held_none false own is = refl

-- a replica that isn't held was never opened
pub never_opened : (replicas : Replicas) (history : List Entry) (replica : Replica) → HoldsHistory replicas history
    → IsNewReplica replicas replica
    → is_opened replica.range replica.slot history ≡ false
never_opened replicas history replica holds fresh =
    let range = replica.range in
    let slot = replica.slot in
    held_none (is_opened range slot history) (slot_view range slot history) (sym (holds range slot) ∙ fresh)

pub is_new_there : (replicas : Replicas) (history : List Entry) (replica : Replica) → HoldsHistory replicas history
    → is_opened replica.range replica.slot history ≡ false → IsNewReplica replicas replica
is_new_there replicas history replica holds never =
    let range = replica.range in
    let slot = replica.slot in
    holds range slot ∙ unopened_held (is_opened range slot history) (slot_view range slot history) never

by_no : (b : Bool) → (b ≡ false → ⊥) → b ≡ true
by_no true never = refl
by_no false never = absurd (never refl)

-- one that is held was
pub was_opened : (replicas : Replicas) (history : List Entry) (replica : Replica) → HoldsHistory replicas history
    → (IsNewReplica replicas replica → ⊥) → is_opened replica.range replica.slot history ≡ true
was_opened replicas history replica holds held =
    by_no (is_opened replica.range replica.slot history)
    (λ never. held (is_new_there replicas history replica holds never))

pub opened_there : (replicas : Replicas) (history : List Entry) (replica : Replica) → HoldsHistory replicas history
    → is_opened replica.range replica.slot history ≡ true → IsNewReplica replicas replica → ⊥
opened_there replicas history replica holds opened fresh =
    let never = never_opened replicas history replica holds fresh in absurd cc

-- a row that its replica takes may be put
pub can_take : (replicas : Replicas) (history : List Entry) (replica : Replica) (row : Row) → IsWellFormed history
    → HoldsHistory replicas history → is_down history ≡ false → CanPut replicas replica row → CanTakeRow history replica
    row
can_take replicas history replica row formed holds up can =
    let range = replica.range in
    let slot = replica.slot in
    let held = held_parts (is_opened range slot history) (slot_view range slot history) can.0
    (sym (holds range slot) ∙ can.1) in (
      up,
      held.0,
      source_more (replica_rows range slot history) row (rows_source range slot history formed)
          (subst (λ (held : SlotView). IfSome (last_end (points_of row.key held.rows)) (λ last. last <ℤ row.point.end))
          (sym held.1) can.2),
    )

pub takes_row : (replicas : Replicas) (history : List Entry) (replica : Replica) (row : Row) → HoldsHistory replicas
    history
    → CanTakeRow history replica row → CanPut replicas replica row
takes_row replicas history replica row holds can =
    let range = replica.range in
    let slot = replica.slot in
    let held = slot_view range slot history in (
      held,
      holds range slot ∙ opened_held (is_opened range slot history) held can.1,
      source_later held.rows row can.2,
    )
