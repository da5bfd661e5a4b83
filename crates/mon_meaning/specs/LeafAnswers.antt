-- What a leaf answers: a piece for each part that leaves do, the load of these parts, and how much is sent.
use Rattle.std.specs.Prelude.{◌≡◌, ◌<◌, ◌≤◌, ℕ, ℤ, List, sum_by, Result, Ok, Err}
use Rattle.mon_value.specs.declared.grids.Grid.{Grid}
use Rattle.mon_value.specs.declared.refusals.Refusal.{Refusal}
use Rattle.mon_value.specs.declared.refusals.Refusal.TheVariants as refusal
use Rattle.mon_value.specs.declared.rows.Row.{Row}
use Rattle.typed_trees.specs.Levels.{is_leaf, TopPart, sent_amount, top_parts}
use Rattle.typed_trees.specs.Meaning.{load_of, grid_of}
use Rattle.typed_trees.specs.Nodes.{TypedTree}
use Rattle.mon_fold.specs.declared.answers.LeafAnswer.{LeafAnswer}
use Rattle.mon_meaning.specs.Standing.{AllStandFor}
use Rattle.mon_meaning.specs.declared.meter.OverLimit.{OverLimit}

-- the load of parts over rows
abbrev pub parts_load : Grid → List Row → List TopPart → ℕ
parts_load grid source parts = sum_by (λ part. load_of grid part.1 source) parts

-- the load of a leaf's parts of a query that is asked at a moment, over the leaf's rows
abbrev pub load_in_leaf : TypedTree → List Row → ℤ → ℕ
load_in_leaf typed source moment = parts_load (grid_of typed moment) source (top_parts is_leaf typed.tree)

-- a leaf's answer over its rows
pub record IsLeafPart (typed : TypedTree) (source : List Row) (moment : ℤ) (limit : ℕ) (answer : LeafAnswer) : Type 0
  where
    pub pieces : AllStandFor (grid_of typed moment) source (top_parts is_leaf typed.tree) answer.pieces
    pub load : answer.load ≡ load_in_leaf typed source moment
    pub sent_is : answer.sent ≡ sent_amount typed source moment
    pub within : load_in_leaf typed source moment ≤ limit

-- the load of the leaf's part is above the limit; the number told lies between
pub record IsOverLeaf (typed : TypedTree) (source : List Row) (moment : ℤ) (limit : ℕ) (over : OverLimit) : Type 0 where
  pub above : limit < over.load
  pub most : over.load ≤ load_in_leaf typed source moment

abbrev pub IsRefusedByLeaf : TypedTree → List Row → ℤ → ℕ → Refusal OverLimit → Type 0
IsRefusedByLeaf typed source moment limit (refusal.Fault over) = IsOverLeaf typed source moment limit over
IsRefusedByLeaf typed source moment limit refusal.OutOfMemory = Unit {0}

-- the leaf's part of a query, or that its load is above the limit; want of memory aside
abbrev pub IsLeafAnswer : TypedTree → List Row → ℤ → ℕ → Result LeafAnswer (Refusal OverLimit) → Type 0
IsLeafAnswer typed source moment limit (Ok answer) = IsLeafPart typed source moment limit answer
IsLeafAnswer typed source moment limit (Err refused) = IsRefusedByLeaf typed source moment limit refused
