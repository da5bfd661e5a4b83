-- The changes of groups that exchanges come to.
use Rattle.std.specs.Prelude.{◌≡◌, ◌<ℤ◌, ℕ, List, [], ◌∷◌, ◌++◌, Option}
use Rattle.std.specs.List.{AllByRecursion}
use Rattle.std.specs.Option.{option_to_list}
use Rattle.mon_value.specs.declared.aggregates.Aggregate.{Aggregate}
use Rattle.mon_value.specs.declared.tables.TimedRow.{TimedRow}
use Rattle.mon_fold.specs.PartialGroups.{PartialGroup}
use Rattle.typed_trees.specs.Nodes.{NodeTree}
use Rattle.kept_groups.specs.Changes as groups
use Rattle.kept_groups.specs.Changes.{IsChange}
use Rattle.kept_groups.specs.declared.changes.Change.{Change}
use Rattle.kept_exchanges.specs.Exchanges.{comes, gones}
use Rattle.kept_exchanges.specs.Flows.{rows_flowing}
use Rattle.kept_exchanges.specs.declared.exchanges.Exchange.{Exchange}

-- what goes from the groups is what flows there of the rows that go, and what comes is what flows of those that come
pub record AreChangesOf (above : List NodeTree) (by : List ℕ) (with : List Aggregate) (begun : List PartialGroup)
    (exchanges : List Exchange) (changes : List Change) : Type 0 where
  pub gone : groups.gones changes ≡ rows_flowing above (gones exchanges)
  pub come : groups.comes changes ≡ rows_flowing above (comes exchanges)
  pub made : AllByRecursion (IsChange by with begun) changes

-- the change of a row that comes in the place of another stands behind the others
pub record HasTraded (by : List ℕ) (with : List Aggregate) (begun : List PartialGroup) (gone come : Option TimedRow)
    (before after : List Change) : Type 0 where
  pub gone_is : groups.gones after ≡ groups.gones before ++ option_to_list gone
  pub come_is : groups.comes after ≡ groups.comes before ++ option_to_list come
  pub made : AllByRecursion (IsChange by with begun) before → AllByRecursion (IsChange by with begun) after

-- the times of changes rise
abbrev pub Rise : List Change → Type 0
Rise [] = Unit {0}
Rise (change ∷ []) = Unit {0}
Rise (change ∷ next ∷ changes) = (change.key.time <ℤ next.key.time) × Rise (next ∷ changes)
