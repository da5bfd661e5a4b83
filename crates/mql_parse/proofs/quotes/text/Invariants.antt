-- What is left goes on the content so far to the same text.
use Rattle.std.proofs.Common.{◌≡◌, [], length}
use Rattle.mql_ast.specs.Quotes.{Whole}
use Rattle.mql_parse.specs.Steps.{open_seen}
use Rattle.mql_parse.specs.TokenReading.{text_from}
use Rattle.mql_parse.proofs.quotes.text.Given as goal

abbrev pub invariant-bytes : goal.invariant-bytes
invariant-bytes l = text_from (open_seen l.state) l.content.items l.from.at l.from.bytes.now ≡ text_from Whole []
    l.fn.from.at l.fn.from.bytes.now

abbrev pub decreases-bytes : goal.decreases-bytes
decreases-bytes l = length l.from.bytes.now
