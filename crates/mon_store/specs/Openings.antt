-- How far a store is, while its first replicas are opened one by one.
use Rattle.std.specs.Prelude.{◌≡◌, ◌<◌, ℕ, nat_lt, List, [], length, set, slice_get, Some, false, map}
use Rattle.std.specs.Prelude.{if◌then◌else◌}
use Rattle.history_book.specs.Books.{BookIdentity}
use Rattle.history_book.specs.Histories.{AreFronts, empty_histories, histories_in}
use Rattle.history_book.specs.Numbers.{numbers_between}
use Rattle.history_book.specs.Seats.{Owner, new_owner, times_range}
use Rattle.history_book.specs.declared.numbers.TheConstants.{NUMBER_END}
use Rattle.history_book.specs.declared.views.History.TheVariants as of
use Rattle.history_book.specs.declared.views.Kept.{Kept}
use Rattle.know.specs.Knowledge.{Knowledge}
use Rattle.leaf_cell.specs.NewLeaves.{HasOpened, NewLeafView, own_history}
use Rattle.mon_topo.specs.HeldHistories.{first_range_history, opened_up_to}
use Rattle.mon_topo.specs.Zones.{leaves_in}
use Rattle.mon_topo.specs.declared.zones.ZoneSpec.{ZoneSpec}
use Rattle.mon_value.specs.Histories.{leaf_history, range_history, leaf_numbered, range_numbered}
use Rattle.mon_value.specs.LeafHistories.{is_down, is_opened}
use Rattle.mon_value.specs.declared.histories.Entry.{Entry}
use Rattle.mon_value.specs.declared.histories.Histories.{Histories}
use Rattle.mon_value.specs.declared.histories.RangeEntry.{RangeEntry}
use Rattle.mon_value.specs.declared.positions.Leaf.{Leaf}
use Rattle.mon_value.specs.declared.positions.Range.{Range}
use Rattle.mon_value.specs.declared.positions.Slot.{Slot}
use Rattle.raise_table.specs.Places as places
use Rattle.raise_table.specs.Seats as hints
use Rattle.raise_table.specs.Tables.{RaiseIdentity}
use Rattle.range_cell.specs.Rest.{others}

-- each history is the same in both
pub record AreSame (a b : Histories) : Type 0 where
  pub leaves : (leaf : Leaf) → leaf_history a leaf ≡ leaf_history b leaf
  pub ranges : (range : Range) → range_history a range ≡ range_history b range

-- the ranges before one have all their first replicas
abbrev pub opened_range : List ZoneSpec → ℕ → ℕ → List RangeEntry
opened_range zones range n = if nat_lt n range then first_range_history zones n else []

-- the first replicas of the ranges before one are opened, and on the leaves those of this range in slots below one
pub record IsOpenedUpTo (zones : List ZoneSpec) (range slot : ℕ) (seen : Histories) : Type 0 where
  pub leaves : (n : ℕ) → n < length (leaves_in zones)
      → leaf_history seen (leaf_numbered n) ≡ opened_up_to zones range slot n
  pub ranges : (n : ℕ) → range_history seen (range_numbered n) ≡ opened_range zones range n

-- the leaf's owner has seen no more than the first caller has, and of the leaf's own history all
pub record IsNewLeafAt (seen : Histories) (n : ℕ) (leaf : NewLeafView) : Type 0 where
  pub leaf_is : leaf.leaf ≡ leaf_numbered n
  pub fronts : AreFronts leaf.seen seen
  pub whole : leaf_history leaf.seen (leaf_numbered n) ≡ leaf_history seen (leaf_numbered n)

pub record AreNewLeaves (zones : List ZoneSpec) (seen : Histories) (leaves : List NewLeafView) : Type 0 where
  pub count : length leaves ≡ length (leaves_in zones)
  pub each : (n : ℕ) (leaf : NewLeafView) → slice_get leaves n ≡ Some leaf → IsNewLeafAt seen n leaf

-- all that the first caller has seen is its own, under the number 0, and all other numbers are left
pub record IsOpener (know : Knowledge) : Type 0 where
  pub kept : Kept
  pub own : know.purse.own ≡ Some kept
  pub number : kept.number ≡ 0
  pub entries : AreSame kept.own know.seen
  pub met : know.purse.met ≡ []
  pub stock : know.purse.stock ≡ numbers_between 1 NUMBER_END
  pub lost : know.purse.lost ≡ []
  pub rooms : know.purse.rooms ≡ []
  pub handed : know.handed ≡ 0

-- it holds this range and no other
pub record HoldsOnly (range : Range) (know : Knowledge) : Type 0 where
  pub some : 0 < times_range range know.purse.holds
  pub only : others range know.purse.holds ≡ []

pub record IsOpening (zones : List ZoneSpec) (range slot : ℕ) (leaves : List NewLeafView) (know : Knowledge)
    : Type 0 where
  pub seen : IsOpenedUpTo zones range slot know.seen
  pub new : AreNewLeaves zones know.seen leaves
  pub opener : IsOpener know

-- one leaf took an opening
pub record HasOpenedAt (leaf : Leaf) (opened : Entry) (old new : List NewLeafView) (before after : Knowledge)
    : Type 0 where
  pub was : NewLeafView
  pub now : NewLeafView
  pub there : slice_get old leaf.0 ≡ Some was
  pub changed : new ≡ set old leaf.0 now
  pub took : HasOpened was now opened before after

-- ---- what there is before the first replica

-- a leaf of a new store: its owner has seen nothing
abbrev pub first_leaf : ℕ → ℕ → ℕ → NewLeafView
first_leaf leaves ranges n = record { leaf = leaf_numbered n; seen = empty_histories leaves ranges }

-- the owner of a range's history
abbrev pub range_book : BookIdentity → ℕ → Owner
range_book book n = new_owner book.leaves book.ranges (of.Range (range_numbered n))

-- the owners of all histories, leaves first
abbrev pub all_owners : BookIdentity → List Owner
all_owners book = map (new_owner book.leaves book.ranges) (histories_in book.leaves book.ranges)

-- the owners of all leaves' bits, and of all histories, leaves first
pub record AreOwners (raise : RaiseIdentity) (book : BookIdentity) (bits : List hints.Owner) (owners : List Owner)
    : Type 0 where
  pub bits_are : bits ≡ map hints.new_owner (places.leaves_in raise.zones)
  pub owners_are : owners ≡ all_owners book

-- a leaf is up, and a replica is not opened there
pub record IsBareAt (range : Range) (slot : Slot) (leaf : Leaf) (leaves : List NewLeafView) : Type 0 where
  pub here : NewLeafView
  pub there : slice_get leaves leaf.0 ≡ Some here
  pub up : is_down (own_history here) ≡ false
  pub unopened : is_opened range slot (own_history here) ≡ false
