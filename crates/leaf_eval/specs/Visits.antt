-- What a query finds at a leaf that it looks at.
use Rattle.std.specs.Prelude.{ℕ, ℤ, ◌≡◌, Bool, true, false, List, length}
use Rattle.leaf_eval.specs.declared.visits.Visit.{Visit}
use Rattle.leaf_eval.specs.declared.visits.Visit.TheVariants as visit
use Rattle.mon_hints.specs.Hints.{history_buckets}
use Rattle.mon_meaning.specs.LeafAnswers.{IsLeafPart, IsOverLeaf}
use Rattle.mon_meaning.specs.ReadableSlots.{slot_rows}
use Rattle.mon_value.specs.LeafHistories.{is_down}
use Rattle.mon_value.specs.declared.histories.Entry.{Entry}
use Rattle.mon_value.specs.declared.positions.RangeSlot.{RangeSlot}
use Rattle.mon_value.specs.declared.rows.Row.{Row}
use Rattle.mon_value.specs.declared.rows.SeriesKey.{SeriesKey}
use Rattle.typed_trees.specs.Nodes.{TypedTree, typed_tree}
use Rattle.typed_trees.specs.declared.plans.Plan.{Plan}
use Rattle.plan_split.specs.Meeting.{is_plan_met}

-- a leaf is looked at at the whole of its history, and is down then or up
pub record IsFoundAt (history : List Entry) (cut : ℕ) (down : Bool) : Type 0 where
  pub whole : cut ≡ length history
  pub is : is_down history ≡ down

-- a leaf that is read gives its part of the query over these rows, or has a load above the limit, at this cut
abbrev pub IsReadAt : TypedTree → List Row → ℤ → ℕ → ℕ → Visit → Type 0
IsReadAt typed rows moment limit cut (visit.Read found answer) =
    (found ≡ cut) × IsLeafPart typed rows moment limit answer
IsReadAt typed rows moment limit cut (visit.Over load found) =
    (found ≡ cut) × IsOverLeaf typed rows moment limit (record { load = load })
IsReadAt typed rows moment limit cut other = ⊥

module _ (plan : Plan) (moment : ℤ) (limit : ℕ) (history : List Entry) (buckets_of : SeriesKey → List ℕ)
    (slots : List RangeSlot) where
  -- whether some formula of the plan holds of the leaf's buckets
  abbrev pub is_met_there : Bool
  is_met_there = is_plan_met plan (history_buckets buckets_of history)

  -- whether the leaf is down; whether the query reads it; and its part of the query over the rows of these slots
  abbrev pub IsVisit : Visit → Type 0
  IsVisit (visit.Down cut) = IsFoundAt history cut true
  IsVisit (visit.Unread cut) = IsFoundAt history cut false × (is_met_there ≡ false)
  IsVisit (visit.Read cut answer) = IsFoundAt history cut false × (is_met_there ≡ true)
      × IsLeafPart (typed_tree plan.typed) (slot_rows history slots) moment limit answer
  IsVisit (visit.Over load cut) = IsFoundAt history cut false × (is_met_there ≡ true)
      × IsOverLeaf (typed_tree plan.typed) (slot_rows history slots) moment limit (record { load = load })
