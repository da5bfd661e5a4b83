-- What a query is told of its looks.
use Rattle.std.specs.Prelude.{◌≡◌, ℕ, ℤ, List, [], ◌∷◌, ◌++◌, Option, Some, None, Result, Ok, Err}
use Rattle.know.specs.Knowledge.{Knowledge}
use Rattle.leaf_cell.specs.PlanVisits.{HasFoundSo}
use Rattle.leaf_cell.specs.declared.plan_reader.VisitFault.{VisitFault}
use Rattle.leaf_cell.specs.declared.plan_reader.VisitFault.TheVariants as fault
use Rattle.leaf_cell.specs.declared.plan_reader.Visited.{Visited}
use Rattle.leaf_cell.specs.declared.plan_reader.Visited.TheVariants as visited
use Rattle.leaf_eval.specs.declared.visits.Visit.{Visit}
use Rattle.leaf_eval.specs.declared.visits.Visit.TheVariants as visit
use Rattle.mon_hints.specs.declared.places.Place.{Place}
use Rattle.mon_topo.specs.Settings.{Setting}
use Rattle.mon_topo.specs.Sights.{sight_of}
use Rattle.mon_value.specs.declared.positions.Leaf.{Leaf}
use Rattle.mon_value.specs.declared.positions.Range.{Range}
use Rattle.mon_value.specs.declared.positions.RangeSlot.{RangeSlot}
use Rattle.mon_value.specs.declared.positions.SlotLeaf.{SlotLeaf}
use Rattle.typed_trees.specs.declared.plans.Plan.{Plan}
use Rattle.query_traces.specs.SeenSights.{seen_of}
use Rattle.query_traces.specs.declared.asks.Told.{Told}
use Rattle.query_traces.specs.declared.asks.Told.TheVariants as told
use Rattle.raise_table.specs.Seats.{HasKnown, note}
use Rattle.range_cell.specs.Calls.{HasResolved}

-- the word has every bit that was known, and is told with how far was seen before; it is noted
pub record IsWordTold (place : Place) (bucket : ℕ) (before after : Knowledge) (answer : Told) : Type 0 where
  pub word : ℕ
  pub is : answer ≡ told.Word word (seen_of (sight_of before.seen))
  pub known : HasKnown before.hints place bucket word
  pub noted : after.hints.notes ≡ before.hints.notes ++ note place bucket word ∷ []
  pub lengths : after.purse.notes ≡ before.purse.notes
  pub handed : after.handed ≡ before.handed

-- ---- ranges

abbrev pub slot_told : Option SlotLeaf → Told
slot_told None = told.NoSlot
slot_told (Some replica) = told.Slot replica.slot replica.leaf

-- a range was found to resolve so
pub record FindsSo (leaves : ℕ) (before after : Knowledge) (avoid : List Leaf) (range : Range) (answer : Told)
    : Type 0 where
  pub found : Option SlotLeaf
  pub resolved : HasResolved leaves range avoid found before after
  pub told : answer ≡ slot_told found

-- ---- leaves

abbrev pub visit_told : Visit → Told
visit_told (visit.Down cut) = told.Down cut
visit_told (visit.Unread cut) = told.Unread cut
visit_told (visit.Read cut answer) = told.Read cut answer
visit_told (visit.Over load cut) = told.Over load cut

-- what a query is told of what a cell told
abbrev pub told_is : Result Visited VisitFault → Told → Type 0
told_is (Ok (visited.Down cut)) answer = answer ≡ told.Down cut
told_is (Ok (visited.Unread cut)) answer = answer ≡ told.Unread cut
told_is (Ok (visited.Read cut part)) answer = answer ≡ told.Read cut part
told_is (Err (fault.Over load cut)) answer = answer ≡ told.Over load cut
told_is (Err fault.OutOfMemory) answer = ⊥

-- the whole history of a leaf was found so
pub record LooksSo (store : Setting) (plan : Plan) (moment : ℤ) (limit : ℕ) (slots : List RangeSlot) (leaf : Leaf)
    (before after : Knowledge) (answer : Told) : Type 0 where
  pub found : Visit
  pub is_so : HasFoundSo plan moment limit slots store.buckets_of leaf found before after
  pub told : answer ≡ visit_told found
