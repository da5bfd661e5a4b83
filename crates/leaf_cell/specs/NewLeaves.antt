-- A leaf before it has a lock, and what a caller has that opened a replica there.
use Rattle.std.specs.Prelude.{◌≡◌, List, [], ◌∷◌}
use Rattle.history_book.specs.declared.views.BookEntry.TheVariants as one
use Rattle.history_book.specs.declared.views.History.TheVariants as of
use Rattle.history_book.specs.Histories.{with_book_entry}
use Rattle.know.specs.Knowledge.{Knowledge}
use Rattle.mon_value.specs.Histories.{joined_histories, leaf_history}
use Rattle.mon_value.specs.declared.histories.Entry.{Entry}
use Rattle.mon_value.specs.declared.histories.Histories.{Histories}
use Rattle.mon_value.specs.declared.positions.Leaf.{Leaf}
use Rattle.owners.specs.Calls.{HasCalled}
use Rattle.owners.specs.Owners as owners

-- the leaf, and what its owner has seen: of the leaf's own history all
pub record NewLeafView : Type 0 where
  pub leaf : Leaf
  pub seen : Histories

abbrev pub new_leaf_of : owners.LeafView → NewLeafView
new_leaf_of owner = record { leaf = owner.leaf; seen = owner.book.seen }

abbrev pub own_history : NewLeafView → List Entry
own_history leaf = leaf_history leaf.seen leaf.leaf

-- The entry came to the leaf's history, as the caller's own; and the owner and the caller have seen just what either
-- had seen, with this entry
pub record HasOpened (leaf now : NewLeafView) (opened : Entry) (before after : Knowledge) : Type 0 where
  pub same_leaf : now.leaf ≡ leaf.leaf
  pub seen : after.seen
      ≡ with_book_entry (of.Leaf leaf.leaf) (one.Leaf opened) (joined_histories leaf.seen before.seen)
  pub both : now.seen ≡ after.seen
  pub called : HasCalled leaf.leaf (own_history leaf) (opened ∷ []) before after
  pub rooms_are : after.purse.rooms ≡ before.purse.rooms
  pub handed : after.handed ≡ before.handed
