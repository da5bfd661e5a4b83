use Rattle.std.proofs.Common.{arith}
use Rattle.mon_hints.proofs.NextLemmas.{above_fits, first_above, none_above}
use Rattle.mon_hints.proofs.bucket_sets.bit_from.Goals as goal

pub returns-then-bits-eq0-clause-none : goal.returns-then-bits-eq0-clause-none
returns-then-bits-eq0-clause-none c = none_above c.args.word c.args.from c.if-bits-eq0.true

pub returns-else-bits-eq0-clause-least : goal.returns-else-bits-eq0-clause-least
returns-else-bits-eq0-clause-least c =
    first_above c.args.word c.args.from c.requires c.if-bits-eq0.false (above_fits c.args.word c.args.from
    (omega (arith, c.ranges.word.fits)))
