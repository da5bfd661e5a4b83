-- A query that is asked of zones.
use Rattle.std.specs.Prelude.{◌≡◌, List, [], ◌∷◌, ◌++◌, Option, Some, None, Result, if◌then◌else◌}
use Rattle.mon_value.specs.declared.positions.Leaf.{Leaf}
use Rattle.mon_value.specs.declared.positions.RangeSlot.{RangeSlot}
use Rattle.query_traces.specs.declared.answers.Answer.{Answer}
use Rattle.query_traces.specs.declared.answers.RoundFault.{RoundFault}
use Rattle.query_traces.specs.declared.asks.Told.{Told}
use Rattle.query_traces.specs.declared.asks.Told.TheVariants as told
use Rattle.query_core.specs.declared.stages.Stage.{Stage}
use Rattle.query_core.specs.declared.stages.Stage.TheVariants as at
use Rattle.query_traces.specs.Rounds.{has_leaf, Round, slots_on, QuerySetting}
use Rattle.query_traces.specs.Loadings.{no_word}
use Rattle.query_core.specs.Program.{round_in}

-- with the leaves that were found down
pub record Query : Type 0 where
  pub setting : QuerySetting
  pub avoided : List Leaf
  pub stage : Stage

abbrev pub new_query : QuerySetting → Query
new_query setting = record { setting = setting; avoided = []; stage = at.Rooting no_word }

-- a leaf that was found down at its visit is avoided from then on
abbrev pub down_at : List Leaf → Stage → List Leaf
down_at avoided (at.Visiting course round visits leaf) = avoided ++ leaf ∷ []
down_at avoided stage = avoided

abbrev pub avoided_after : List Leaf → Stage → Told → List Leaf
avoided_after avoided stage (told.Down cut) = down_at avoided stage
avoided_after avoided stage answer = avoided

-- the slots of this round that resolved to a leaf
abbrev pub slots_in : Round → Leaf → List RangeSlot
slots_in round leaf = if has_leaf round.area leaf then slots_on leaf round.resolved else []

abbrev pub slots_if : Option Round → Leaf → List RangeSlot
slots_if (Some round) leaf = slots_in round leaf
slots_if None leaf = []

abbrev pub slots_of : Stage → Leaf → List RangeSlot
slots_of stage leaf = slots_if (round_in stage) leaf

-- the slots of the leaf that is visited
abbrev pub slots_visited : Stage → List RangeSlot
slots_visited (at.Visiting course round visits leaf) = slots_in round leaf
slots_visited stage = []

abbrev pub slots_at : Query → List RangeSlot
slots_at query = slots_visited query.stage

-- a query that has ended does so
abbrev pub EndsSo : Stage → Result Answer RoundFault → Type 0
EndsSo (at.Ended end) result = result ≡ end
EndsSo stage result = Unit {0}
