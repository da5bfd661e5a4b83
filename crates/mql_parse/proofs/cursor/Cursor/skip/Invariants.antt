-- Behind the blanks is the same place all along.
use Rattle.std.proofs.Common.{◌≡◌, length}
use Rattle.mql_ast.specs.Tokens.{skip}
use Rattle.mql_parse.specs.Outcomes.{rest_of}
use Rattle.mql_parse.proofs.cursor.Cursor.skip.Given as goal

abbrev pub invariant-loop-from : goal.invariant-loop-from
invariant-loop-from l = skip (rest_of l.from) ≡ skip (rest_of l.fn.self)

abbrev pub decreases-loop-from : goal.decreases-loop-from
decreases-loop-from l = length l.from.bytes.now
