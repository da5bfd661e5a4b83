-- What is left goes on the predicate so far to the same predicate.
use Rattle.std.proofs.Common.{◌≡◌, ◌+◌, ◌*◌, length}
use Rattle.mql_ast.specs.Trees.{predicate_tree}
use Rattle.mql_parse.specs.Outcomes.{rest_of}
use Rattle.mql_parse.specs.Repeats.{repetition}
use Rattle.mql_parse.specs.PredicateReading.{negation, conjunction, and_turn, or_turn}
use Rattle.mql_parse.proofs.predicates.+predicates.Given as goal

abbrev pub decreases-group : goal.decreases-group
decreases-group l = 10 * l.levels + 0

abbrev pub decreases-opposite : goal.decreases-opposite
decreases-opposite l = 10 * l.levels + 0

abbrev pub decreases-negation : goal.decreases-negation
decreases-negation l = 10 * l.levels + 1

abbrev pub decreases-further_negation : goal.decreases-further_negation
decreases-further_negation l = 10 * l.levels + 2

abbrev pub decreases-further_negations : goal.decreases-further_negations
decreases-further_negations l = 10 * l.levels + 3

abbrev pub decreases-conjunction : goal.decreases-conjunction
decreases-conjunction l = 10 * l.levels + 4

abbrev pub decreases-further_conjunction : goal.decreases-further_conjunction
decreases-further_conjunction l = 10 * l.levels + 5

abbrev pub decreases-further_conjunctions : goal.decreases-further_conjunctions
decreases-further_conjunctions l = 10 * l.levels + 6

abbrev pub decreases-disjunction : goal.decreases-disjunction
decreases-disjunction l = 10 * l.levels + 7

abbrev pub invariant-further_negations-parts : goal.invariant-further_negations-parts
invariant-further_negations-parts l = repetition (and_turn (negation l.levels)) (predicate_tree l.left)
    (rest_of l.from) ≡ repetition (and_turn (negation l.fn.levels)) (predicate_tree l.fn.first) (rest_of l.fn.from)

abbrev pub decreases-further_negations-parts : goal.decreases-further_negations-parts
decreases-further_negations-parts l = length l.from.bytes.now

abbrev pub invariant-further_conjunctions-parts : goal.invariant-further_conjunctions-parts
invariant-further_conjunctions-parts l = repetition (or_turn (conjunction l.levels)) (predicate_tree l.left)
    (rest_of l.from) ≡ repetition (or_turn (conjunction l.fn.levels)) (predicate_tree l.fn.first) (rest_of l.fn.from)

abbrev pub decreases-further_conjunctions-parts : goal.decreases-further_conjunctions-parts
decreases-further_conjunctions-parts l = length l.from.bytes.now
