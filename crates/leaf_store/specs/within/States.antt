-- How a leaf's state is kept: its history in two parts, and beside them what is told without going over them.
use Rattle.std.specs.Prelude.{◌≡◌, ℕ, ◌+◌, ◌<◌, ◌≤◌, true, List, ◌++◌, length, drop, vec_capacity}
use Rattle.std.specs.List.{AllByRecursion, count_by}
use Rattle.mon_hints.specs.BucketSets.{is_set}
use Rattle.mon_hints.specs.Formulas.{is_among}
use Rattle.mon_value.specs.LeafHistories.{is_down, is_switch}
use Rattle.mon_value.specs.declared.histories.Entry.{Entry}
use Rattle.mon_value.specs.declared.limits.TheConstants.{MOST_BUCKETS, MOST_SWITCHES}
use Rattle.mon_hints.specs.Hints.{history_buckets}
use Rattle.leaf_store.specs.LeafStates.{key_buckets, LeafView}
use Rattle.leaf_store.specs.declared.leaf_state.LeafState.TheInside.{Inside}
use Rattle.leaf_store.specs.within.FreshEntries.{AreNumbered, entries_in}
use Rattle.leaf_store.specs.within.Replicas.{IsInTwoParts, shown_entries}

-- the entries that are left, which weren't brought to their replicas yet
abbrev pub left_of : Inside → List Entry
left_of leaf = entries_in (drop leaf.moved leaf.fresh.items)

abbrev pub history_inside : Inside → List Entry
history_inside leaf = shown_entries leaf.replicas.entries leaf.kept.items ++ left_of leaf

abbrev pub leaf_view : Inside → LeafView
leaf_view leaf = record {
  schemas = leaf.schemas;
  buckets = leaf.buckets;
  history = history_inside leaf;
  promised = leaf.promised;
  settled = leaf.settled;
}

-- entries without rows
abbrev pub AllSwitches : List Entry → Type 0
AllSwitches entries = AllByRecursion (λ entry. is_switch entry ≡ true) entries

-- what is kept was brought to the replicas, and what is left has its series' numbers; the set has the history's
-- buckets; whether the leaf is down and how many switches it may still have are those of the history; a settled leaf
-- has only switches left; and there is room for what is promised and for the switches to come
pub record IsLeafKept (leaf : Inside) : Type 0 where
  pub within : leaf.moved ≤ length leaf.fresh.items
  pub holds : IsInTwoParts leaf.replicas.entries leaf.kept.items (left_of leaf)
  pub numbered : AreNumbered (shown_entries leaf.replicas.entries leaf.kept.items) (drop leaf.moved leaf.fresh.items)
  pub raised : (bucket : ℕ) → is_set leaf.raised.words bucket
      ≡ is_among bucket (history_buckets (key_buckets leaf.buckets leaf.schemas) (history_inside leaf))
  pub down : leaf.down ≡ is_down (history_inside leaf)
  pub switches : count_by is_switch (history_inside leaf) + leaf.switches_left ≡ MOST_SWITCHES
  pub waits : leaf.settled ≡ true → AllSwitches (left_of leaf)
  pub room : length leaf.fresh.items + (leaf.promised + leaf.switches_left) ≤ vec_capacity leaf.fresh
  pub some : 0 < leaf.buckets
  pub most : leaf.buckets ≤ MOST_BUCKETS
