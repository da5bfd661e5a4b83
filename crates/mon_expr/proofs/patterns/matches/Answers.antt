use Rattle.std.proofs.Common.{rules}
use Rattle.mon_expr.proofs.MatchLemmas.{matches_exactly}
use Rattle.mon_expr.proofs.patterns.matches.Goals as goal

pub returns-clause-exactly : goal.returns-clause-exactly
returns-clause-exactly c = matches_exactly c.args.pattern.now.pieces c.args.text.now c.matches_pieces.result
    (search rules)
