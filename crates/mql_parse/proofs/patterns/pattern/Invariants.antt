-- What is left goes on the pieces and the content so far to the same pattern.
use Rattle.std.proofs.Common.{◌≡◌, [], length}
use Rattle.mql_ast.specs.Quotes.{Whole, Plain}
use Rattle.mql_parse.specs.Steps.{open_seen, sign_seen}
use Rattle.mql_parse.specs.TokenReading.{pattern_from}
use Rattle.mql_parse.proofs.patterns.pattern.Given as goal

abbrev pub invariant-bytes : goal.invariant-bytes
invariant-bytes l =
    pattern_from (open_seen l.state) (sign_seen l.sign) l.pieces l.content.items l.from.at l.from.bytes.now
    ≡ pattern_from Whole Plain [] [] l.fn.from.at l.fn.from.bytes.now

abbrev pub decreases-bytes : goal.decreases-bytes
decreases-bytes l = length l.from.bytes.now
