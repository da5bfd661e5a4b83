use Rattle.std.proofs.Common.{[], ◌∷◌}
use Rattle.typed_trees.specs.Meaning.{grid_of}
use Rattle.standing_incr.proofs.EnoughLemmas.{answer_enough, load_enough, meaning_enough}
use Rattle.standing_incr.proofs.HeldLemmas.{held_again, held_more, source_held, typed_held}
use Rattle.standing_incr.proofs.laws.held_rows_are_enough.Goals as goal

pub returns-clause-meaning : goal.returns-clause-meaning
returns-clause-meaning c typed rows moment later incremental of source from order =
    meaning_enough typed rows moment later incremental of source from order

pub returns-clause-load : goal.returns-clause-load
returns-clause-load c typed rows moment later incremental of source from order =
    load_enough typed rows moment later incremental of source from order

pub returns-clause-answer : goal.returns-clause-answer
returns-clause-answer c typed rows moment later limit answer incremental of source from order is =
    answer_enough typed rows moment later incremental of source from order limit answer is

pub returns-clause-again : goal.returns-clause-again
returns-clause-again c typed rows moment later order = held_again typed moment later order typed.tree rows

pub returns-clause-more : goal.returns-clause-more
returns-clause-more c typed rows row moment = held_more (grid_of typed moment) typed.tree rows (row ∷ [])

pub returns-clause-typed : goal.returns-clause-typed
returns-clause-typed c typed rows moment of = typed_held typed moment rows of

pub returns-clause-source : goal.returns-clause-source
returns-clause-source c typed rows moment source = source_held (grid_of typed moment) typed.tree rows source
