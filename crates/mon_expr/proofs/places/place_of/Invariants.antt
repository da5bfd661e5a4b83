-- Where the column stands among those that are left, behind those before them.
use Rattle.std.proofs.Common.{◌≡◌, ◌+◌, drop}
use Rattle.mql_ast.specs.Rows.{place_of}
use Rattle.mon_expr.proofs.places.place_of.Given as goal

abbrev pub invariant-loop-place : goal.invariant-loop-place
invariant-loop-place l = l.place + place_of l.name (drop l.place l.columns) ≡ place_of l.name l.columns
