-- What the looks of a query change of what its caller knows.
use Rattle.std.specs.Prelude.{◌≡◌, ℕ, List, ◌++◌}
use Rattle.history_book.specs.Histories.{AreFronts}
use Rattle.history_book.specs.Seats.{times_lost}
use Rattle.history_book.specs.declared.views.LengthNote.{LengthNote}
use Rattle.know.specs.Knowledge.{Knowledge}
use Rattle.know.specs.Sound.{IsSound, known_view}
use Rattle.mon_topo.specs.Settings.{Setting}
use Rattle.mon_topo.specs.Views.{View}
use Rattle.raise_table.specs.Seats.{KnowsAsMuch}
use Rattle.raise_table.specs.declared.views.Note.{Note}

-- a caller's knowledge as a query sees it
abbrev pub view_of : Setting → Knowledge → View
view_of store know = known_view store know.hints know.seen

-- More is seen, known and noted; number, own entries, record, stock, lost numbers, rooms and held ranges are as before;
-- what is seen is held and led to
pub record GoesOn (store : Setting) (before after : Knowledge) : Type 0 where
  pub fronts : AreFronts before.seen after.seen
  pub knows : KnowsAsMuch before.hints after.hints
  pub own : after.purse.own ≡ before.purse.own
  pub met : after.purse.met ≡ before.purse.met
  pub stock : after.purse.stock ≡ before.purse.stock
  pub lost : (n : ℕ) → times_lost n after.purse ≡ times_lost n before.purse
  pub rooms : after.purse.rooms ≡ before.purse.rooms
  pub holds : after.purse.holds ≡ before.purse.holds
  pub lengths : List LengthNote
  pub lengths_are : after.purse.notes ≡ before.purse.notes ++ lengths
  pub words : List Note
  pub words_are : after.hints.notes ≡ before.hints.notes ++ words
  pub sound : IsSound store after.hints after.seen
