-- What is left goes on the sum so far to the same sum.
use Rattle.std.proofs.Common.{◌≡◌, ◌+◌, ◌*◌, length}
use Rattle.mql_parse.specs.Outcomes.{rest_of}
use Rattle.mql_parse.specs.Repeats.{repetition}
use Rattle.mql_parse.specs.SumReading.{term, term_turn}
use Rattle.mql_parse.specs.Views.{sum_seen}
use Rattle.mql_parse.proofs.sums.+sums.Given as goal

abbrev pub decreases-sum : goal.decreases-sum
decreases-sum l = 5 * l.levels + 4

abbrev pub decreases-further_terms : goal.decreases-further_terms
decreases-further_terms l = 5 * l.levels + 3

abbrev pub decreases-further_term : goal.decreases-further_term
decreases-further_term l = 5 * l.levels + 2

abbrev pub decreases-term : goal.decreases-term
decreases-term l = 5 * l.levels + 1

abbrev pub decreases-group : goal.decreases-group
decreases-group l = 5 * l.levels

abbrev pub invariant-further_terms-terms : goal.invariant-further_terms-terms
invariant-further_terms-terms l =
    repetition (term_turn (term l.levels)) (sum_seen l.left) (rest_of l.from)
    ≡ repetition (term_turn (term l.fn.levels)) (sum_seen l.fn.first) (rest_of l.fn.from)

abbrev pub decreases-further_terms-terms : goal.decreases-further_terms-terms
decreases-further_terms-terms l = length l.from.bytes.now
