-- What the entries of a turn bring to the replicas of its range, and their pass.
use Rattle.std.proofs.Common.{◌≡◌, ℕ, false, [], ◌∷◌, ◌++◌, refl, ap, ◌∙◌, cond, nat_eq, eq-eqb}
use Rattle.std.specs.Prelude.{◌&&◌}
use Rattle.history_book.specs.declared.views.BookEntry.TheVariants as one
use Rattle.history_book.specs.Histories.{book_entry_pass}
use Rattle.mon_topo.specs.RangeHistories.{turn_ack}
use Rattle.mon_value.proofs.LeafHistoryLemmas.{same_replica-itself}
use Rattle.mon_value.specs.LeafHistories.{is_opened, replica_rows, replica_turns, same_replica, turn_entry}
use Rattle.mon_value.specs.Turns.{Turn, Adds, Hides, added_rows}
use Rattle.mon_value.specs.declared.histories.Ack.{Ack}
use Rattle.mon_value.specs.declared.positions.Range.{Range}
use Rattle.mon_value.specs.declared.positions.Slot.{Slot}
use Rattle.range_cell.proofs.CallLemmas.{BringNothing}

module _ (pass : ℕ) (range : Range) (place : Slot) where
  -- to its own one the turn
  pub own_turn : (turn : Turn) → replica_turns range place (turn_entry pass range place turn ∷ []) ≡ turn ∷ []
  own_turn (Adds row) = ap (λ b. cond b (Adds row ∷ []) [] ++ []) (same_replica-itself range place)
  own_turn (Hides bound) = ap (λ b. cond b (Hides bound ∷ []) [] ++ []) (same_replica-itself range place)

  pub own_rows : (turn : Turn) → replica_rows range place (turn_entry pass range place turn ∷ []) ≡ added_rows (turn ∷ [])
  own_rows (Adds row) = ap (λ b. cond b (row ∷ []) [] ++ []) (same_replica-itself range place)
  own_rows (Hides bound) = refl

  -- to one in another slot nothing
  pub others_nothing : (turn : Turn) (slot : Slot) → nat_eq slot.0 place.0 ≡ false
      → BringNothing range slot (turn_entry pass range place turn ∷ [])
  others_nothing turn slot apart = by turn
    where
      test : same_replica range slot range place ≡ false
      test = ap (λ b. b && nat_eq slot.0 place.0) (eq-eqb range.0 range.0 refl) ∙ apart

      by : (one : Turn) → BringNothing range slot (turn_entry pass range place one ∷ [])
      by (Adds row) = (ap (λ b. cond b (Adds row ∷ []) [] ++ []) test, ap (λ b. cond b (row ∷ []) [] ++ []) test)
      by (Hides bound) = (ap (λ b. cond b (Hides bound ∷ []) [] ++ []) test, refl)

  -- and it opens none
  pub opens_none : (turn : Turn) (slot : Slot) → is_opened range slot (turn_entry pass range place turn ∷ []) ≡ false
  opens_none (Adds row) slot = refl
  opens_none (Hides bound) slot = refl

-- it is acknowledged under the number of its pass
pub ack_pass : (pass : ℕ) (turn : Turn) (ack : Ack) → book_entry_pass (one.Range (turn_ack pass turn ack)) ≡ pass
ack_pass pass (Adds row) ack = refl
ack_pass pass (Hides bound) ack = refl
