-- Which rows matter, as a fetch tells it.
use Rattle.std.specs.Prelude.{◌≡◌, Bool, ◌&&◌, ℤ, Option, Some, None}
use Rattle.mon_value.specs.Grids.{IsDuration, seconds_of}
use Rattle.mon_value.specs.declared.aligners.Aligner.{Aligner}
use Rattle.mon_value.specs.declared.grids.Grid.{Grid}
use Rattle.mon_value.specs.declared.rows.Row.{Row}
use Rattle.mon_meaning.specs.within.FetchViews.{FetchesNothing, IsFetchOf, is_fetch_met, keeps}
use Rattle.mon_meaning.specs.within.Reach.{reach_start}
use Rattle.typed_trees.specs.Meaning.{grid_of}
use Rattle.typed_trees.specs.Nodes as node
use Rattle.typed_trees.specs.Nodes.{NodeTree, TypedTree}
use Rattle.standing_incr.specs.HeldRows.{looks_before}
use Rattle.standing_incr.specs.KeptTables.{aligned_part}
use Rattle.standing_incr.specs.declared.needs.Needs.{Needs}

abbrev pub is_met_by : Needs → Row → Bool
is_met_by needs row = is_fetch_met needs.fetch row.key

abbrev pub is_before_by : Needs → Row → Bool
is_before_by needs row =
    looks_before needs.by && (is_fetch_met needs.fetch row.key && keeps needs.fetch row.key row.point.value)

-- what tells which rows matter to an alignment on a grid; none where nothing flows into it
pub record AreNeedsOf (grid : Grid) (by : Aligner) (input : NodeTree) (needs : Needs) : Type 0 where
  pub fetch : IsFetchOf input needs.fetch
  pub by_is : needs.by ≡ by
  pub start : needs.start ≡ reach_start grid by

abbrev pub NeedsAt : Grid → Aligner → NodeTree → Option Needs → Type 0
NeedsAt grid by input (Some needs) = AreNeedsOf grid by input needs
NeedsAt grid by input None = FetchesNothing input

-- the same of a query's alignment
abbrev pub NeedsOfPart : Grid → NodeTree → Option Needs → Type 0
NeedsOfPart grid (node.Align info by input) needs = NeedsAt grid by input needs
NeedsOfPart grid part (Some needs) = ⊥
NeedsOfPart grid part None = Unit {0}

abbrev pub NeedsFound : TypedTree → ℤ → Option Needs → Type 0
NeedsFound typed moment needs = NeedsOfPart (grid_of typed moment) (aligned_part typed.tree) needs

-- an alignment looks back so many seconds as a query may name
abbrev pub AlignLooksBack : NodeTree → Type 0
AlignLooksBack (node.Align info by input) = IsDuration (seconds_of by)
AlignLooksBack part = Unit {0}

abbrev pub LooksBack : NodeTree → Type 0
LooksBack tree = AlignLooksBack (aligned_part tree)
