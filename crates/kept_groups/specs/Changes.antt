-- Changes of groups: rows that come, or take the place of others.
use Rattle.std.specs.Prelude.{◌≡◌, ◌≤◌, ◌++◌, [], ◌∷◌, ℕ, false, List, length, map, IfSome, IsNone}
use Rattle.std.specs.List.{AllByRecursion, filter_map}
use Rattle.std.specs.Map.{lookup}
use Rattle.mon_value.specs.Groups.{CanGroup, group_key}
use Rattle.mon_value.specs.Same.{same_row}
use Rattle.mon_value.specs.Values.{greatest_sum}
use Rattle.mon_value.specs.declared.aggregates.Aggregate.{Aggregate}
use Rattle.mon_value.specs.declared.columns.Column.{Column}
use Rattle.mon_value.specs.declared.tables.TimedRow.{TimedRow}
use Rattle.mon_fold.specs.PartialGroups.{PartialGroup, parts_over}
use Rattle.kept_groups.specs.Trades.{AreGroupsOver, AreTold}
use Rattle.kept_groups.specs.declared.changes.Change.{Change}

-- the rows that go
abbrev pub gones : List Change → List TimedRow
gones changes = filter_map (λ change. change.gone) changes

-- the rows that come
abbrev pub comes : List Change → List TimedRow
comes changes = map (λ change. change.come) changes

-- a row that comes has the key; one that goes has it too, and the parts of the group tell what they are without it
pub record IsChange (by : List ℕ) (with : List Aggregate) (groups : List PartialGroup) (change : Change) : Type 0 where
  pub come_key : group_key by change.come ≡ change.key
  pub gone_key : IfSome change.gone (λ gone. group_key by gone ≡ change.key)
  pub told : IfSome change.gone
      (λ gone. IfSome (lookup (same_row change.key) groups) (AreTold with gone change.come))
  pub parts_are : IsNone change.gone → change.parts ≡ parts_over with (change.come ∷ [])

-- each change is of another group
abbrev pub AreApart : List Change → Type 0
AreApart [] = Unit {0}
AreApart (change ∷ changes) = AllByRecursion (λ other. same_row change.key other.key ≡ false) changes × AreApart changes

-- groups of rows that can be changed: the rows before and after can be grouped
pub record CanChange (columns : List Column) (by : List ℕ) (with : List Aggregate) (rest : List TimedRow)
    (changes : List Change) (groups : List PartialGroup) : Type 0 where
  pub are : AreGroupsOver by with (gones changes ++ rest) groups
  pub before : CanGroup columns by with (gones changes ++ rest)
  pub after : CanGroup columns by with (comes changes ++ rest)
  pub few : length (comes changes ++ rest) ≤ greatest_sum
  pub made : AllByRecursion (IsChange by with groups) changes
  pub apart : AreApart changes
