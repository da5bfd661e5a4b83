-- The rest of the word stands at what is left.
use Rattle.std.proofs.Common.{◌≡◌, drop}
use Rattle.mql_parse.specs.Outcomes.{rest_of, exact}
use Rattle.mql_parse.proofs.cursor.Cursor.exact.Given as goal

abbrev pub invariant-loop-expected : goal.invariant-loop-expected
invariant-loop-expected l = exact l.what (drop l.expected-index l.word) (rest_of l.from) ≡ exact l.what l.fn.word
    (rest_of l.fn.self)
