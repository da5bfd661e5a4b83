-- The kept rows of a replica, entry by entry.
use Rattle.std.proofs.Common.{◌≡◌, ◌∙◌, Bool, true, false, cond, List, [], ◌∷◌, ◌++◌, map, refl, sym}
use Rattle.std.proofs.Common.{ap, subst, append-nil, append_assoc}
use Rattle.std.proofs.lemmas.List.Concat.{flat_map-append}
use Rattle.mon_value.proofs.KeptRowLemmas.{IsInTurn, first_rows-push, in_turn, replica_turns-push}
use Rattle.mon_value.proofs.LeafHistoryLemmas.{IsWellFormed-push, opened_same}
use Rattle.mon_value.proofs.TurnLemmas.{after_turns-append}
use Rattle.mon_value.specs.LeafHistories.{GoesOn, IsWellFormed, MayFollow, begun_rows, entry_turns, first_rows}
use Rattle.mon_value.specs.LeafHistories.{kept_rows, replica_turns, same_replica}
use Rattle.mon_value.specs.Turns.{Turn, Adds, after_turns}
use Rattle.mon_value.specs.declared.histories.Entry.{Entry}
use Rattle.mon_value.specs.declared.histories.Entry.TheVariants as entry
use Rattle.mon_value.specs.declared.positions.Range.{Range}
use Rattle.mon_value.specs.declared.positions.Slot.{Slot}
use Rattle.mon_value.specs.declared.rows.Row.{Row}
use Rattle.leaf_store.specs.within.FromBehind.{behind_turns, entry_steps, none_standing, replica_steps}
use Rattle.leaf_store.proofs.FromBehindLemmas.{added_all, stands_from_behind}

-- what is left of a history goes on behind its front
goes_at : (before first more : List Entry) → GoesOn before (first ++ more) → GoesOn (before ++ first) more
goes_at before [] more goes = subst (λ (es : List Entry). GoesOn es more) (sym (append-nil before)) goes
goes_at before (e ∷ first) more goes =
    subst (λ (es : List Entry). GoesOn es more) (append_assoc before (e ∷ []) first)
    (goes_at (before ++ e ∷ []) first more goes.1)

module _ (range : Range) (slot : Slot) where
  pub steps-push : (history : List Entry) (e : Entry)
      → replica_steps range slot (history ++ e ∷ []) ≡ replica_steps range slot history ++ entry_steps range slot e
  steps-push history e =
      flat_map-append (entry_steps range slot) history (e ∷ [])
      ∙ ap (λ steps. replica_steps range slot history ++ steps) (append-nil (entry_steps range slot e))

  -- behind an entry that brings no first rows
  pub kept_on : (history : List Entry) (e : Entry) → begun_rows range slot e ≡ []
      → kept_rows range slot (history ++ e ∷ []) ≡ after_turns (kept_rows range slot history) (entry_turns range slot e)
  kept_on history e none =
      let first : first_rows range slot (history ++ e ∷ []) ≡ first_rows range slot history =
      first_rows-push range slot history e ∙ ap (λ (rows : List Row). first_rows range slot history ++ rows) none
      ∙ append-nil (first_rows range slot history) in
      (λ i. after_turns (first i) (replica_turns-push range slot history e i))
      ∙ after_turns-append (first_rows range slot history) (replica_turns range slot history) (entry_turns range slot e)

  -- a replica that begins has just the rows that it takes over
  begins : (b : Bool) (first rows : List Row) (turns : List Turn) → (b ≡ true → (first ≡ []) × (turns ≡ []))
      → after_turns (first ++ cond b rows []) (turns ++ []) ≡ after_turns (after_turns first turns) (cond b (map Adds rows) [])
  begins true first rows turns none =
      let both = none refl in
      (λ i. after_turns (both.0 i ++ rows) (both.1 i ++ []))
      ∙ sym (added_all [] rows)
      ∙ sym (λ i. after_turns (after_turns (both.0 i) (both.1 i)) (map Adds rows))
  begins false first rows turns none = λ i. after_turns (append-nil first i) (append-nil turns i)

  -- behind any entry that may follow
  pub kept_after : (history : List Entry) (e : Entry) → IsInTurn range slot history → MayFollow history e
      → kept_rows range slot (history ++ e ∷ []) ≡ after_turns (kept_rows range slot history) (entry_steps range slot e)
  kept_after history (entry.Opened pass other place rows) turn may =
      (λ i. after_turns (first_rows-push range slot history (entry.Opened pass other place rows) i)
      (replica_turns-push range slot history (entry.Opened pass other place rows) i))
      ∙ begins (same_replica range slot other place) (first_rows range slot history) rows
      (replica_turns range slot history)
      (λ same. turn.none (opened_same range other slot place history same ∙ may.1))
  kept_after history (entry.Put pass other place row) turn may = kept_on history (entry.Put pass other place row) refl
  kept_after history (entry.Trim pass other place before) turn may =
      kept_on history (entry.Trim pass other place before) refl
  kept_after history (entry.Down pass) turn may = kept_on history (entry.Down pass) refl
  kept_after history (entry.Up pass) turn may = kept_on history (entry.Up pass) refl

  kept_from : (before history : List Entry) → IsWellFormed before → GoesOn before history
      → kept_rows range slot (before ++ history)
      ≡ after_turns (kept_rows range slot before) (replica_steps range slot history)
  kept_from before [] formed goes = ap (kept_rows range slot) (append-nil before)
  kept_from before (e ∷ history) formed goes =
      ap (kept_rows range slot) (sym (append_assoc before (e ∷ []) history))
      ∙ kept_from (before ++ e ∷ []) history (IsWellFormed-push before e formed goes.0) goes.1
      ∙ ap (λ (rows : List Row). after_turns rows (replica_steps range slot history))
      (kept_after before e (in_turn range slot before formed) goes.0)
      ∙ sym (after_turns-append (kept_rows range slot before) (entry_steps range slot e)
      (replica_steps range slot history))

  -- the rows that are kept go on with what comes behind them
  pub kept_both : (first more : List Entry) → IsWellFormed first → IsWellFormed (first ++ more)
      → kept_rows range slot (first ++ more)
      ≡ after_turns (kept_rows range slot first) (replica_steps range slot more)
  kept_both first more formed all = kept_from first more formed (goes_at [] first more all)

  -- they are met from behind, with one bound
  pub kept_from_behind : (history : List Entry) → IsWellFormed history
      → (behind_turns (replica_steps range slot history) none_standing).rows ≡ kept_rows range slot history
  kept_from_behind history formed =
      sym (stands_from_behind (replica_steps range slot history)) ∙ sym (kept_from [] history tt formed)
