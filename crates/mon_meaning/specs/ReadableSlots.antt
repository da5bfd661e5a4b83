-- Rows that share no target, and slots of a leaf whose rows can be read together.
use Rattle.std.specs.Prelude.{◌≡◌, Bool, false, List, [], ◌∷◌, true, map}
use Rattle.std.specs.List.{AllByRecursion, list_any, flat_map}
use Rattle.mon_value.specs.Same.{same_target}
use Rattle.mon_value.specs.declared.rows.Row.{Row}
use Rattle.mon_value.specs.declared.rows.Target.{Target}
use Rattle.mon_value.specs.LeafHistories.{is_opened, kept_rows}
use Rattle.mon_value.specs.declared.histories.Entry.{Entry}
use Rattle.mon_value.specs.declared.positions.RangeSlot.{RangeSlot}
use Rattle.typed_trees.specs.Nodes.{TypedTree}
use Rattle.typed_trees.specs.Soundness.{IsTyped}

-- Rows that share no target.

-- whether a target has a row
abbrev pub has_target : List Row → Target → Bool
has_target rows target = list_any (λ row. same_target row.key.target target) rows

-- no target has rows on both sides
abbrev pub ShareNoTarget : List Row → List Row → Type 0
ShareNoTarget rows others = AllByRecursion (λ row. has_target others row.key.target ≡ false) rows

-- each two of some children share nothing
abbrev pub AreApart : (List Row → List Row → Type 0) → List (List Row) → Type 0
AreApart Apart [] = Unit {0}
AreApart Apart (child ∷ children) = AllByRecursion (Apart child) children × AreApart Apart children

-- Slots of a leaf whose rows can be read together.

-- each was opened in the leaf's history
abbrev pub AreOpened : List Entry → List RangeSlot → Type 0
AreOpened history slots = AllByRecursion (λ (one : RangeSlot). is_opened one.range one.slot history ≡ true) slots

-- the kept rows of some slots of a leaf
abbrev pub slot_rows : List Entry → List RangeSlot → List Row
slot_rows history slots = flat_map (λ (one : RangeSlot). kept_rows one.range one.slot history) slots

-- each was opened in the leaf's history, no target has kept rows in two of them, and the query has its type over all
-- kept rows
pub record CanBeRead (typed : TypedTree) (history : List Entry) (slots : List RangeSlot) : Type 0 where
  pub opened : AreOpened history slots
  pub apart : AreApart ShareNoTarget (map (λ (one : RangeSlot). kept_rows one.range one.slot history) slots)
  pub of : IsTyped typed (slot_rows history slots)
