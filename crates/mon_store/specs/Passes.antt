-- What holds of a caller of a store between its calls.
use Rattle.std.specs.Prelude.{◌≡◌, [], filter, Some, Contains}
use Rattle.history_book.specs.Histories.{AreFronts, entries, is_under}
use Rattle.history_book.specs.Seats.{IsPurseBorneOut, hand_of, kept_in}
use Rattle.history_book.specs.declared.views.History.{History}
use Rattle.history_book.specs.declared.views.Kept.{Kept}
use Rattle.know.specs.Knowledge.{Knowledge}
use Rattle.mon_topo.specs.HeldHistories.{first_histories, AreWithin}
use Rattle.mon_topo.specs.Settings.{Setting}
use Rattle.owners.specs.Puts.{pass_of}

-- of each number whose entries it keeps, it has seen just these
abbrev pub HasSeenItsOwn : Knowledge → Type 0
HasSeenItsOwn know = (kept : Kept) (history : History) → Contains (kept_in know.purse) kept
    → filter (is_under kept.number) (entries know.seen history) ≡ entries kept.own history

-- It has a number, holds no range and no room at a leaf, has seen each range opened on its first replicas, has seen just
-- the entries that it keeps, and what it has seen bears out its purse
pub record IsPass (setting : Setting) (know : Knowledge) : Type 0 where
  pub number : (hand_of know.purse).own ≡ Some (pass_of know)
  pub holds : know.purse.holds ≡ []
  pub rooms : know.purse.rooms ≡ []
  pub begun : AreWithin (first_histories setting.zones) know.seen
  pub exact : HasSeenItsOwn know
  pub borne_out : IsPurseBorneOut know.seen know.purse

-- A caller owns what it owned, and has seen at least as much
pub record OwnsTheSame (before after : Knowledge) : Type 0 where
  pub fronts : AreFronts before.seen after.seen
  pub own : after.purse.own ≡ before.purse.own
  pub met : after.purse.met ≡ before.purse.met
  pub stock : after.purse.stock ≡ before.purse.stock
  pub lost : after.purse.lost ≡ before.purse.lost
  pub rooms : after.purse.rooms ≡ before.purse.rooms
  pub holds : after.purse.holds ≡ before.purse.holds
