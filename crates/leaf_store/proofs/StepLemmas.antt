-- Entries that are brought to their replicas one by one, and the rows that are kept at a cut.
use Rattle.std.proofs.Common.{◌≡◌, ◌∙◌, ◌≤◌, ◌<◌, ◌+◌, ◌-◌, ℕ, ℤ, zero, suc, Bool, true, false, cond, Option, Some, None}
use Rattle.std.proofs.Common.{IfSome, List, [], ◌∷◌, ◌++◌, length, take, drop, get_or, slice_get, refl, sym, ap, subst}
use Rattle.std.proofs.Common.{append_assoc, append-nil, arith}
use Rattle.std.specs.Prelude.{is_some}
use Rattle.std.proofs.lemmas.List.{length-append, take-append-drop, take-append-le, take_more}
use Rattle.std.proofs.lemmas.Option.{get_or_from_slice_get, slice_get_within}
use Rattle.std.proofs.Math.Seq.{take-append-add}
use Rattle.mon_series.proofs.SourceEnds.{source_later}
use Rattle.mon_series.specs.SlotViews.{SlotView}
use Rattle.mon_value.specs.LeafHistories.{IsWellFormed, entry_rows, entry_turns, is_opened, is_switch, kept_rows}
use Rattle.mon_value.specs.LeafHistories.{replica_rows}
use Rattle.mon_value.specs.Turns.{Turn, after_turns}
use Rattle.mon_value.specs.declared.histories.Entry.{Entry}
use Rattle.mon_value.specs.declared.histories.Entry.TheVariants as entry
use Rattle.mon_value.specs.declared.positions.Range.{Range}
use Rattle.mon_value.specs.declared.positions.Slot.{Slot}
use Rattle.mon_value.specs.declared.rows.Row.{Row}
use Rattle.leaf_store.specs.LeafStates.{opened_rows, slot_view}
use Rattle.leaf_store.specs.declared.kept.Kept.{Kept}
use Rattle.leaf_store.specs.declared.replicas.Replica.{Replica}
use Rattle.leaf_store.specs.within.FromBehind.{Standing, behind_turns, entry_steps, replica_steps}
use Rattle.leaf_store.specs.within.Replicas.{AllHaveRows, CanPut, CanSettle, IsInTwoParts, HoldsHistory, IsNewReplica}
use Rattle.leaf_store.specs.within.Replicas.{Replicas, SettlesEntry, entry_of, kept_if_held, rows_held, rows_if_held}
use Rattle.leaf_store.specs.within.Replicas.{shown_entries}
use Rattle.leaf_store.specs.within.States.{AllSwitches}
use Rattle.leaf_store.proofs.EntryLemmas.{shown_count, shown_kept, shown_push, shown_take, there_push}
use Rattle.leaf_store.proofs.FromBehindLemmas.{behind_turns-append}
use Rattle.leaf_store.proofs.KeptStepLemmas.{kept_both, steps-push}
use Rattle.mon_value.proofs.KeptRowLemmas.{in_turn}
use Rattle.mon_value.proofs.LeafHistoryLemmas.{follows, front}
use Rattle.leaf_store.proofs.ReplicaLemmas.{switch_rows}

-- the rows that are kept for a replica that was opened are those that the history brought to it
pub rows_there : (range : Range) (slot : Slot) (replicas : Replicas) (history : List Entry)
    → rows_held replicas range slot ≡ opened_rows range slot history → is_opened range slot history ≡ true
    → rows_if_held (rows_held replicas range slot) ≡ replica_rows range slot history
rows_there range slot replicas history held opened =
    ap rows_if_held held
    ∙ ap (λ b. rows_if_held (cond b (Some (slot_view range slot history)) None)) opened

-- ---- one entry

pub can_settle : (replicas : Replicas) (ks : List Kept) (e : Entry) (rest : List Entry)
    → IsInTwoParts replicas ks (e ∷ rest)
    → CanSettle replicas e
can_settle replicas ks e rest holds = record {
  history = shown_entries replicas ks;
  formed = front (shown_entries replicas ks) (e ∷ rest) holds.formed;
  holds = holds.holds;
  follows = follows (shown_entries replicas ks) e rest holds.formed;
}

-- the entries that are shown then
pub shown_then : (old new : Replicas) (ks : List Kept) (own : Kept) (e : Entry) (rest : List Entry)
    → IsInTwoParts old ks (e ∷ rest) → SettlesEntry old new e own
    → shown_entries new (ks ++ own ∷ []) ≡ shown_entries old ks ++ e ∷ []
shown_then old new ks own e rest holds settles =
    shown_push new ks own e settles.own_is
    ∙ ap (λ (es : List Entry). es ++ e ∷ []) (shown_kept old new ks settles.keeps holds.there).0

pub settled : (old new : Replicas) (ks : List Kept) (own : Kept) (e : Entry) (rest : List Entry)
    → IsInTwoParts old ks (e ∷ rest) → SettlesEntry old new e own
    → IsInTwoParts new (ks ++ own ∷ []) rest
    × (shown_entries new (ks ++ own ∷ []) ++ rest ≡ shown_entries old ks ++ e ∷ rest)
settled old new ks own e rest holds settles =
    let stays = shown_kept old new ks settles.keeps holds.there in
    let now = shown_then old new ks own e rest holds settles in
    let all : shown_entries new (ks ++ own ∷ []) ++ rest ≡ shown_entries old ks ++ e ∷ rest =
    ap (λ (es : List Entry). es ++ rest) now ∙ append_assoc (shown_entries old ks) (e ∷ []) rest in (
      record {
        there = there_push new ks own e settles.own_is stays.1;
        formed = subst IsWellFormed (sym all) holds.formed;
        holds = subst (HoldsHistory new) (sym now)
            (settles.holds (shown_entries old ks) (front (shown_entries old ks) (e ∷ rest) holds.formed)
            (follows (shown_entries old ks) e rest holds.formed) holds.holds);
      },
      all,
    )

-- ---- what an entry asks of the replicas

pub opened_held : (b : Bool) (rows : SlotView) → b ≡ true → cond b (Some rows) None ≡ Some rows
opened_held true rows e = refl
opened_held false rows e = absurd cc

pub unopened_held : (b : Bool) (rows : SlotView) → b ≡ false → cond b (Some rows) None ≡ None
unopened_held true rows e = absurd cc
unopened_held false rows e = refl

pub can_put : (replicas : Replicas) (pass : ℕ) (replica : Replica) (row : Row) → CanSettle replicas
    (entry.Put pass replica.range replica.slot row)
    → CanPut replicas replica row
can_put replicas pass replica row can =
    let held = slot_view replica.range replica.slot can.history in (
      held,
      can.holds replica.range replica.slot ∙ opened_held (is_opened replica.range replica.slot can.history) held
          can.follows.1,
      source_later held.rows row can.follows.2,
    )

pub can_trim : (replicas : Replicas) (pass : ℕ) (replica : Replica) (before : ℤ) → CanSettle replicas
    (entry.Trim pass replica.range replica.slot before)
    → is_some (rows_held replicas replica.range replica.slot) ≡ true
can_trim replicas pass replica before can =
    ap is_some (can.holds replica.range replica.slot
    ∙ opened_held (is_opened replica.range replica.slot can.history)
    (slot_view replica.range replica.slot can.history) can.follows.1)

pub is_new : (replicas : Replicas) (pass : ℕ) (replica : Replica) (rows : List Row) → CanSettle replicas
    (entry.Opened pass replica.range replica.slot rows)
    → IsNewReplica replicas replica
is_new replicas pass replica rows can =
    can.holds replica.range replica.slot
    ∙ unopened_held (is_opened replica.range replica.slot can.history) (slot_view replica.range replica.slot can.history)
    can.follows.1

-- ---- entries without rows

switch_opens : (range : Range) (slot : Slot) (e : Entry) → is_switch e ≡ true → (is_opened range slot (e ∷ []) ≡ false)
    × (entry_rows range slot e ≡ []) × (entry_turns range slot e ≡ [])
switch_opens range slot (entry.Opened pass other place rows) is = absurd cc
switch_opens range slot (entry.Put pass other place row) is = absurd cc
switch_opens range slot (entry.Trim pass other place before) is = absurd cc
switch_opens range slot (entry.Down pass) is = (refl, refl, refl)
switch_opens range slot (entry.Up pass) is = (refl, refl, refl)

pub switches_rows : (range : Range) (slot : Slot) (history left : List Entry) → AllSwitches left → opened_rows range
    slot (history ++ left) ≡ opened_rows range slot history
switches_rows range slot history [] all = ap (opened_rows range slot) (append-nil history)
switches_rows range slot history (e ∷ left) all =
    let none = switch_opens range slot e all.0 in
    ap (opened_rows range slot) (sym (append_assoc history (e ∷ []) left))
    ∙ switches_rows range slot (history ++ e ∷ []) left all.1
    ∙ switch_rows range slot history e none.0 none.1 none.2

-- ---- the next of those that were gone over, from behind

pub there_at : (replicas : Replicas) (ks : List Kept) (i : ℕ) (d : Kept) → AllHaveRows replicas ks → i < length ks
    → is_some (entry_of replicas (get_or ks i d)) ≡ true
there_at replicas [] i d there below = absurd (omega arith)
there_at replicas (k ∷ ks) zero d there below = there.0
there_at replicas (k ∷ ks) (suc i) d there below = there_at replicas ks i d there.1 (omega arith)

-- a list's first so many and the next one
pub take_next : {A : Type 0} (items : List A) (n : ℕ) (item : A) → slice_get items n ≡ Some item
    → take (n + 1) items ≡ take n items ++ item ∷ []
take_next items n item e =
    take_more items n item (slice_get_within items n item e) ∙ ap (λ one. take n items ++ one ∷ [])
    (get_or_from_slice_get items n item item e)

-- a kept entry that is there, by its number
pub there_by : (replicas : Replicas) (ks : List Kept) (n : ℕ) (k : Kept) → AllHaveRows replicas ks
    → slice_get ks n ≡ Some k → is_some (entry_of replicas k) ≡ true
there_by replicas ks n k there is =
    subst (λ (own : Kept). is_some (entry_of replicas own) ≡ true) (get_or_from_slice_get ks n k k is)
    (there_at replicas ks n k there (slice_get_within ks n k is))

module _ (range : Range) (slot : Slot) (replicas : Replicas) where
  abbrev steps_of : List Kept → List Turn
  steps_of ks = replica_steps range slot (shown_entries replicas ks)

  gathered_by : (ks : List Kept) (n : ℕ) (k : Kept) (o : Option Entry) (old new : Standing) → entry_of replicas k ≡ o
      → is_some o ≡ true → IfSome o (λ e. new ≡ behind_turns (entry_steps range slot e) old)
      → slice_get ks n ≡ Some k
      → behind_turns (steps_of (take (n + 1) ks)) old ≡ behind_turns (steps_of (take n ks)) new
  gathered_by ks n k None old new is there gathered at = absurd cc
  gathered_by ks n k (Some e) old new is there gathered at =
      let front = take n ks in
      let shown : shown_entries replicas (take (n + 1) ks) ≡ shown_entries replicas front ++ e ∷ [] =
      ap (shown_entries replicas) (take_next ks n k at) ∙ shown_push replicas front k e is in
      ap (λ (es : List Entry). behind_turns (replica_steps range slot es) old) shown
      ∙ ap (λ steps. behind_turns steps old) (steps-push range slot (shown_entries replicas front) e)
      ∙ behind_turns-append (steps_of front) (entry_steps range slot e) old
      ∙ ap (behind_turns (steps_of front)) (sym gathered)

  pub gathered_next : (ks : List Kept) (n : ℕ) (k : Kept) (old new : Standing) → AllHaveRows replicas ks
      → slice_get ks n ≡ Some k
      → IfSome (entry_of replicas k) (λ e. new ≡ behind_turns (entry_steps range slot e) old)
      → behind_turns (replica_steps range slot (shown_entries replicas (take (n + 1) ks))) old
      ≡ behind_turns (replica_steps range slot (shown_entries replicas (take n ks))) new
  gathered_next ks n k old new there at gathered =
      gathered_by ks n k (entry_of replicas k) old new refl (there_by replicas ks n k there at) gathered at

-- ---- rows that are kept at a cut

pub rows_early : (range : Range) (slot : Slot) (replicas : Replicas) (ks : List Kept) (left : List Entry) (cut : ℕ)
    → AllHaveRows replicas ks → cut < length ks
    → kept_rows range slot (shown_entries replicas (take cut ks)) ≡ kept_rows range slot
    (take cut (shown_entries replicas ks ++ left))
rows_early range slot replicas ks left cut there less =
    let within : cut ≤ length (shown_entries replicas ks) = omega (arith, less, shown_count replicas ks there) in
    ap (kept_rows range slot) ((shown_take replicas ks cut there).0
    ∙ sym (take-append-le cut (shown_entries replicas ks) left within))

-- the first so many entries are a history that a leaf can have
pub formed_early : (replicas : Replicas) (ks : List Kept) (cut : ℕ) → AllHaveRows replicas ks
    → IsWellFormed (shown_entries replicas ks) → IsWellFormed (shown_entries replicas (take cut ks))
formed_early replicas ks cut there formed =
    let es = shown_entries replicas ks in
    subst IsWellFormed (sym (shown_take replicas ks cut there).0)
    (front (take cut es) (drop cut es) (subst IsWellFormed (sym (take-append-drop cut es)) formed))

kept_held : (b : Bool) (own : SlotView) (held : Option SlotView) → held ≡ cond b (Some own) None
    → (b ≡ false → own.kept ≡ []) → kept_if_held held ≡ own.kept
kept_held true own held is none = ap kept_if_held is
kept_held false own held is none = ap kept_if_held is ∙ sym (none refl)

pub rows_late : (range : Range) (slot : Slot) (replicas : Replicas) (ks : List Kept) (left : List Entry) (cut : ℕ)
    → IsInTwoParts replicas ks left → length ks ≤ cut
    → after_turns (kept_if_held (rows_held replicas range slot))
    (replica_steps range slot (take (cut - length ks) left))
    ≡ kept_rows range slot (take cut (shown_entries replicas ks ++ left))
rows_late range slot replicas ks left cut holds more =
    let first = shown_entries replicas ks in
    let some = take (cut - length ks) left in
    let formed = front first left holds.formed in
    let count = shown_count replicas ks holds.there in
    let all = kept_held (is_opened range slot first) (slot_view range slot first) (rows_held replicas range slot)
    (holds.holds range slot)
    (λ never. let none = (in_turn range slot first formed).none never in λ i. after_turns (none.0 i) (none.1 i)) in
    let sum : cut ≡ length first + (cut - length ks) = omega (arith, more, count) in
    let both : IsWellFormed (first ++ some) =
    front (first ++ some) (drop (cut - length ks) left)
    (subst IsWellFormed (ap (λ (es : List Entry). first ++ es) (sym (take-append-drop (cut - length ks) left))
    ∙ sym (append_assoc first some (drop (cut - length ks) left))) holds.formed) in
    ap (λ (rows : List Row). after_turns rows (replica_steps range slot some)) all
    ∙ sym (kept_both range slot first some formed both)
    ∙ ap (kept_rows range slot) (sym (take-append-add first left (cut - length ks)))
    ∙ ap (λ n. kept_rows range slot (take n (first ++ left))) (sym sum)

-- what is left of a cut behind the entries that are kept is among those that are left
pub cut_left : (replicas : Replicas) (ks : List Kept) (left : List Entry) (cut : ℕ) → AllHaveRows replicas ks → cut
    ≤ length (shown_entries replicas ks ++ left)
    → length ks ≤ cut → cut - length ks ≤ length left
cut_left replicas ks left cut there within more =
    let count = length-append (shown_entries replicas ks) left in
    omega (arith, within, more, count, shown_count replicas ks there)
