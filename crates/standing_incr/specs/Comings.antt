-- What a row more comes to: whether it is held, and whether it matters at once.
use Rattle.std.specs.Prelude.{◌≡◌, ℤ, int_le, int_lt, Bool, true, false, ◌&&◌, List, [], ◌∷◌, ◌++◌}
use Rattle.mon_value.specs.declared.rows.Row.{Row}
use Rattle.typed_trees.specs.Nodes.{TypedTree}
use Rattle.typed_trees.specs.Soundness.{IsTyped}
use Rattle.standing_incr.specs.HeldRows.{held_of}
use Rattle.standing_incr.specs.Needs.{is_before_by, is_met_by}
use Rattle.standing_incr.specs.declared.comings.Coming.{Coming}
use Rattle.standing_incr.specs.declared.comings.Coming.TheVariants as coming
use Rattle.standing_incr.specs.declared.needs.Needs.{Needs}

-- whether a row is held whatever others there are: its series meets the fetch, and it ends above the start of the reach
abbrev pub is_late : Needs → Row → Bool
is_late needs row = is_met_by needs row && int_lt needs.start row.point.end

-- whether a row may take the place of an earlier one of its series that is held
abbrev pub replaces : Needs → Row → Bool
replaces needs row = is_before_by needs row && int_le row.point.end needs.start

-- what comes of a row, as is told by what an alignment needs
abbrev pub ComesBy : Needs → ℤ → Row → Coming → Type 0
ComesBy needs moment row coming.Unheld = (is_late needs row ≡ false) × (replaces needs row ≡ false)
ComesBy needs moment row coming.Ahead =
    (is_late needs row ≡ true) × (replaces needs row ≡ false) × (int_lt moment row.point.end ≡ true)
ComesBy needs moment row coming.InReach = (is_late needs row ≡ true) × (replaces needs row ≡ false)
ComesBy needs moment row coming.AtOnce = Unit {0}

-- what comes of a row behind others: it isn't held, or it is held, perhaps beyond the moment; nothing is said of one that
-- may take the place of an earlier one
abbrev pub ComesTo : TypedTree → ℤ → Row → Coming → Type 0
ComesTo typed moment row coming.Unheld =
    (rows : List Row) → IsTyped typed (rows ++ row ∷ [])
    → held_of typed moment (rows ++ row ∷ []) ≡ held_of typed moment rows
ComesTo typed moment row coming.Ahead =
    (int_lt moment row.point.end ≡ true)
    × ((rows : List Row) → IsTyped typed (rows ++ row ∷ [])
    → held_of typed moment (rows ++ row ∷ []) ≡ held_of typed moment rows ++ row ∷ [])
ComesTo typed moment row coming.InReach =
    (rows : List Row) → IsTyped typed (rows ++ row ∷ [])
    → held_of typed moment (rows ++ row ∷ []) ≡ held_of typed moment rows ++ row ∷ []
ComesTo typed moment row coming.AtOnce = Unit {0}
