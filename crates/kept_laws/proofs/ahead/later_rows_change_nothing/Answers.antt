use Rattle.std.proofs.Common.{◌≡◌, ℤ, true, false, arith}
use Rattle.std.specs.Prelude.{int_le, int_lt}
use Rattle.std.proofs.lemmas.Int.{ints}
use Rattle.mon_value.specs.declared.rows.Row.{Row}
use Rattle.typed_trees.specs.Meaning.{grid_of}
use Rattle.typed_rows.proofs.QueryLaws.{typed_evaluable}
use Rattle.typed_rows.proofs.TypedGridLemmas.{typed_grid}
use Rattle.kept_laws.proofs.AheadLemmas.{load_ahead, rows_ahead}
use Rattle.kept_laws.proofs.ahead.later_rows_change_nothing.Goals as goal

past : (row : Row) (moment : ℤ) → int_lt moment row.point.end ≡ true → int_le row.point.end moment ≡ false
past row moment later = grind (arith, ints)

pub returns-clause-meaning : goal.returns-clause-meaning
returns-clause-meaning c typed rows row moment path of from later rise behind =
    rows_ahead (grid_of typed moment) (typed_grid of.held of.query typed moment of.durations of.is from) rows row
    (past row moment later) rise behind typed.tree path rows (typed_evaluable typed rows moment of from)

pub returns-clause-load : goal.returns-clause-load
returns-clause-load c typed rows row moment path of from later rise behind =
    load_ahead (grid_of typed moment) (typed_grid of.held of.query typed moment of.durations of.is from) rows row
    (past row moment later) rise behind typed.tree path rows (typed_evaluable typed rows moment of from)
