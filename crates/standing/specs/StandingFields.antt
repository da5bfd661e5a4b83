-- What the fields of standing queries are seen as, and what holds of them.
use Rattle.std.specs.Prelude.{◌≡◌, ◌≤ℤ◌, ℕ, List, IfSome, pos}
use Rattle.std.specs.BTreeSet.{contains}
use Rattle.std.specs.List.{AllByRecursion}
use Rattle.mon_value.specs.Order.{text_cmp}
use Rattle.standing.specs.DueLists.{is_taken, HasPeriod, StandingState, standing_state}
use Rattle.standing.specs.QuietMoments.{AreQuiet}
use Rattle.standing.specs.declared.queries.Standing.TheInside.{Inside}

abbrev pub state_of : Inside → StandingState
state_of fields = standing_state fields.queries.items fields.last

-- each query has a period, the names are those of the queries, each block of these is quiet until its next moment, and
-- the last moment is none below 0
pub record HoldTogether (fields : Inside) : Type 0 where
  pub lawful : AllByRecursion HasPeriod fields.queries.items
  pub named : (name : List ℕ) → contains text_cmp fields.names name ≡ is_taken name fields.queries.items
  pub quiet : AreQuiet fields.last fields.nexts.items fields.queries.items
  pub counted : IfSome fields.last (λ last. pos 0 ≤ℤ last)
