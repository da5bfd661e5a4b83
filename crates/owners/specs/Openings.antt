-- What a caller must have to open a replica on a leaf, and what it has then.
use Rattle.std.specs.Prelude.{◌≡◌, ◌<◌, false, List, [], ◌∷◌, Some, Contains, length}
use Rattle.history_book.specs.Seats.{hand_of, times_range}
use Rattle.know.specs.declared.answers.Found.{Found}
use Rattle.know.specs.Knowledge.{Knowledge}
use Rattle.mon_topo.specs.HeldHistories.{IsAtHome}
use Rattle.mon_topo.specs.Settings.{Setting}
use Rattle.mon_topo.specs.Zones.{leaves_in}
use Rattle.mon_value.specs.Histories.{leaf_history}
use Rattle.mon_value.specs.LeafHistories.{is_opened, IsSource}
use Rattle.mon_value.specs.declared.histories.Entry.{Entry}
use Rattle.mon_value.specs.declared.positions.Leaf.{Leaf}
use Rattle.mon_value.specs.declared.positions.Range.{Range}
use Rattle.mon_value.specs.declared.positions.Slot.{Slot}
use Rattle.mon_value.specs.declared.rows.Row.{Row}
use Rattle.owners.specs.Calls.{AnswersAt}
use Rattle.owners.specs.Puts.{pass_of}

-- The caller may open a replica with these rows: it has a number and holds the range, the leaf is there, and all that
-- it has seen has no such replica there; the rows are a source, and lie in the range
pub record MayOpen (setting : Setting) (know : Knowledge) (leaf : Leaf) (range : Range) (slot : Slot)
    (rows : List Row) : Type 0 where
  pub there : leaf.0 < length (leaves_in setting.zones)
  pub number : (hand_of know.purse).own ≡ Some (pass_of know)
  pub holds : 0 < times_range range know.purse.holds
  pub new : is_opened range slot (leaf_history know.seen leaf) ≡ false
  pub home : (row : Row) → Contains rows row → IsAtHome setting.held setting.zones range row
  pub source : IsSource rows

-- the replica was opened, or the leaf was down
abbrev pub HasOpened : Leaf → Entry → Found → Knowledge → Knowledge → Type 0
HasOpened leaf entry found before after =
    AnswersAt leaf (entry ∷ []) before.purse.rooms before.purse.rooms found before after
