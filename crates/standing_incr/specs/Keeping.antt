-- What a standing result is seen as.
use Rattle.std.specs.Prelude.{ℤ, ◌≡◌, ◌≤ℤ◌, pos, true, List}
use Rattle.mon_value.specs.LeafHistories.{IsSource}
use Rattle.mon_value.specs.declared.rows.Row.{Row}
use Rattle.typed_trees.specs.Nodes.{TypedTree}
use Rattle.typed_trees.specs.declared.nodes.Typed.{Typed}
use Rattle.typed_trees.specs.Soundness.{IsTyped}
use Rattle.mon_meaning.specs.Incremental.{is_one_path}
use Rattle.standing_incr.specs.HeldRows.{held_of}
use Rattle.standing_incr.specs.KeptTables.{StandsFor}
use Rattle.standing_incr.specs.declared.tables.Standing.{Standing}

-- its query, the moment at which it stands, and the rows that it holds
pub record StandingResult : Type 0 where
  pub typed : Typed
  pub moment : ℤ
  pub held : List Row

-- what holds of the rows and the tables that are kept: the rows are a source that fits what the query was typed over,
-- all of them matter, and the tables are theirs
pub record IsStanding (typed : TypedTree) (moment : ℤ) (held : List Row) (standing : Standing) : Type 0 where
  pub path : is_one_path typed.tree ≡ true
  pub from : pos 0 ≤ℤ moment
  pub fits : IsTyped typed held
  pub source : IsSource held
  pub needed : held ≡ held_of typed moment held
  pub stands : StandsFor typed moment held standing
