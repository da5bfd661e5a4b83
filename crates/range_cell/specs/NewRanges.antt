-- A range before it has a lock, whose first caller holds it; and what the caller has once its first replicas are
-- opened.
use Rattle.std.specs.Prelude.{◌≡◌, ℕ, List, [], ◌∷◌, ◌++◌, ◌+◌, option_map}
use Rattle.history_book.specs.Histories.{AreFronts, added_at}
use Rattle.history_book.specs.Seats.{Owner, length_note}
use Rattle.history_book.specs.declared.views.Kept.{Kept}
use Rattle.history_book.specs.declared.views.Purse.{Purse}
use Rattle.know.specs.Knowledge.{Knowledge}
use Rattle.mon_value.specs.Histories.{joined_histories, range_history}
use Rattle.mon_value.specs.declared.histories.Histories.{Histories}
use Rattle.mon_value.specs.declared.histories.RangeEntry.{RangeEntry}
use Rattle.mon_value.specs.declared.positions.Range.{Range}
use Rattle.owners.specs.Owners.{RangeView}
use Rattle.raise_table.specs.Seats.{KnowsAsMuch}
use Rattle.range_cell.specs.Calls.{HasBegun}
use Rattle.range_cell.specs.Rest.{others}

-- the range, and what its owner has seen: of the range's own history all
pub record NewRangeView : Type 0 where
  pub range : Range
  pub seen : Histories

abbrev pub new_range_of : RangeView → NewRangeView
new_range_of owner = record { range = owner.range; seen = owner.book.seen }

-- The caller came to a range without replicas and went with it; both have seen just what either had seen
pub record HasBeenLent (leaves : ℕ) (range : Range) (owned : Histories) (now : NewRangeView) (before after : Knowledge)
    : Type 0 where
  pub same_range : now.range ≡ range
  pub begun : HasBegun leaves range [] before after
  pub seen : after.seen ≡ joined_histories owned before.seen
  pub both : now.seen ≡ after.seen

-- ---- entries one after another

-- the list of a number has these items more
abbrev pub added_all : {X : Type 0} → ℕ → List X → List (List X) → List (List X)
added_all n [] xss = xss
added_all n (x ∷ xs) xss = added_all n xs (added_at n x xss)

-- a range's history has these entries more
abbrev pub with_entries : Range → List RangeEntry → Histories → Histories
with_entries range entries seen = record { leaves = seen.leaves; ranges = added_all range.0 entries seen.ranges }

-- they were appended under a number
abbrev pub kept_with_entries : Range → List RangeEntry → Kept → Kept
kept_with_entries range entries kept = record { number = kept.number; own = with_entries range entries kept.own }

abbrev pub purse_with_entries : Range → List RangeEntry → Purse → Purse
purse_with_entries range entries purse = record {
  own = option_map (kept_with_entries range entries) purse.own;
  met = purse.met;
  stock = purse.stock;
  lost = purse.lost;
  notes = purse.notes;
  rooms = purse.rooms;
  holds = purse.holds;
}

-- an owner whose guest appended them
abbrev pub after_entries : Range → List RangeEntry → Owner → Owner
after_entries range entries owner = record {
  history = owner.history;
  seen = with_entries range entries owner.seen;
  promised = owner.promised;
  held = owner.held;
  notes = owner.notes;
  guest = option_map (purse_with_entries range entries) owner.guest;
}

-- ---- the first replicas

-- The entries came to the range's history in their order, as the caller's own, and it holds the range no more; it has
-- seen just what the owner or itself had seen, with them
pub record HasOpenedFirst (leaves : ℕ) (range : NewRangeView) (entries : List RangeEntry) (before after : Knowledge)
    : Type 0 where
  pub seen : after.seen ≡ with_entries range.range entries (joined_histories range.seen before.seen)
  pub fronts : AreFronts before.seen after.seen
  pub whole : range_history after.seen range.range ≡ entries
  pub notes : after.purse.notes ≡ before.purse.notes ++ length_note (leaves + range.range.0) 0 ∷ []
  pub own : after.purse.own ≡ option_map (kept_with_entries range.range entries) before.purse.own
  pub met : after.purse.met ≡ before.purse.met
  pub stock : after.purse.stock ≡ before.purse.stock
  pub lost : after.purse.lost ≡ before.purse.lost
  pub rooms : after.purse.rooms ≡ before.purse.rooms
  pub holding : after.purse.holds ≡ others range.range before.purse.holds
  pub hint_notes : after.hints.notes ≡ before.hints.notes
  pub knows : KnowsAsMuch before.hints after.hints
  pub handed : after.handed ≡ before.handed
