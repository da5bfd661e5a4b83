-- What a query's visit of a locked leaf finds, and what its caller has then.
use Rattle.std.specs.Prelude.{◌≡◌, ◌≤◌, ◌≤ℤ◌, ◌+◌, ◌^◌, ℕ, ℤ, pos, List, [], map, Option, Some, None, Result, Ok, Err}
use Rattle.know.specs.Knowledge.{Knowledge, stopped_count}
use Rattle.know.specs.declared.answers.Found.{Found}
use Rattle.know.specs.declared.answers.Found.TheVariants as found
use Rattle.leaf_cell.specs.declared.plan_reader.VisitFault.{VisitFault}
use Rattle.leaf_cell.specs.declared.plan_reader.VisitFault.TheVariants as fault
use Rattle.leaf_cell.specs.declared.plan_reader.Visited.{Visited}
use Rattle.leaf_cell.specs.declared.plan_reader.Visited.TheVariants as visited
use Rattle.leaf_eval.specs.Visits.{IsVisit}
use Rattle.leaf_eval.specs.declared.visits.Visit.{Visit}
use Rattle.leaf_eval.specs.declared.visits.Visit.TheVariants as visit
use Rattle.mon_hints.specs.Formulas.{all_named, formula_tree, formulas, AreAmong}
use Rattle.mon_meaning.specs.ReadableSlots.{CanBeRead}
use Rattle.mon_value.specs.declared.histories.Entry.{Entry}
use Rattle.mon_value.specs.declared.limits.TheConstants.{ROW_BITS}
use Rattle.mon_value.specs.declared.positions.Leaf.{Leaf}
use Rattle.mon_value.specs.declared.positions.RangeSlot.{RangeSlot}
use Rattle.mon_value.specs.declared.rows.SeriesKey.{SeriesKey}
use Rattle.typed_trees.specs.Nodes.{typed_tree}
use Rattle.typed_trees.specs.declared.plans.Plan.{Plan}
use Rattle.owners.specs.Calls.{HasCalled}

-- how many rows and groups a leaf sends: those of its answer, where it was read
abbrev pub sent_by : Visit → ℕ
sent_by (visit.Read cut answer) = answer.sent
sent_by other = 0

-- the count of what was handed out, which a leaf that is down leaves as it is
abbrev pub handed_by : Visit → ℕ → ℕ
handed_by (visit.Down cut) before = before
handed_by other before = stopped_count (before + sent_by other)

-- ---- what is told of it

-- a leaf that is up gives its answer, is left unread, or has a load above the limit
abbrev pub IsToldOf : Option Visit → Result Visited VisitFault → Type 0
IsToldOf (Some (visit.Down cut)) result = result ≡ Ok (visited.Down cut)
IsToldOf (Some (visit.Unread cut)) result = result ≡ Ok (visited.Unread cut)
IsToldOf (Some (visit.Read cut answer)) result = result ≡ Ok (visited.Read cut answer)
IsToldOf (Some (visit.Over load cut)) result = result ≡ Err (fault.Over load cut)
IsToldOf None result = ⊥

-- by how the call came out
abbrev pub IsAnswerOf : {F : Type 0} → Result Found F → Option Visit → Result Visited VisitFault → Type 0
IsAnswerOf (Ok found.Up) kept result = IsToldOf kept result
IsAnswerOf (Ok (found.Down cut)) kept result = result ≡ Ok (visited.Down cut)
IsAnswerOf (Err why) kept result = result ≡ Err fault.OutOfMemory

-- what is told is so of what was found, want of memory aside
abbrev pub FindsVisit : Result Visited VisitFault → (Visit → Type 0) → Type 0
FindsVisit (Ok (visited.Down cut)) Is = Is (visit.Down cut)
FindsVisit (Ok (visited.Unread cut)) Is = Is (visit.Unread cut)
FindsVisit (Ok (visited.Read cut answer)) Is = Is (visit.Read cut answer)
FindsVisit (Err (fault.Over load cut)) Is = Is (visit.Over load cut)
FindsVisit (Err fault.OutOfMemory) Is = Unit {0}

module _ (plan : Plan) (moment : ℤ) (limit : ℕ) (slots : List RangeSlot) where
  -- a plan may be asked of a leaf with this history, over these slots
  pub record MayVisit (history : List Entry) : Type 0 where
    pub listed : AreAmong (all_named (formulas (map formula_tree plan.formulas))) plan.buckets
    pub from : pos 0 ≤ℤ moment
    pub most : limit ≤ 2 ^ ROW_BITS
    pub readable : CanBeRead (typed_tree plan.typed) history slots

  module _ (buckets_of : SeriesKey → List ℕ) where
    -- a visit of a leaf with this history is kept, and so much was sent
    pub record TellsVisit (history : List Entry) (kept : Option Visit) (sent : ℕ) : Type 0 where
      pub visit : Visit
      pub is_kept : kept ≡ Some visit
      pub is_so : IsVisit plan moment limit history buckets_of slots visit
      pub sent_so : sent ≡ sent_by visit

    -- The whole history of the leaf was found so; its caller has seen all of it, noted its length, and was handed what
    -- the leaf sent
    pub record HasFoundSo (leaf : Leaf) (visit : Visit) (before after : Knowledge) : Type 0 where
      pub history : List Entry
      pub is_so : IsVisit plan moment limit history buckets_of slots visit
      pub called : HasCalled leaf history [] before after
      pub rooms_are : after.purse.rooms ≡ before.purse.rooms
      pub handed : after.handed ≡ handed_by visit before.handed
