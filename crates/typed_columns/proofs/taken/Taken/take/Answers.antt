use Rattle.std.proofs.Common.{◌∙◌, ap, is_some}
use Rattle.typed_trees.specs.Items.{is_taken, with_name}
use Rattle.typed_columns.proofs.TakenLemmas.{found_lent, lent, lent-insert}
use Rattle.typed_columns.proofs.taken.Taken.take.Goals as goal

pub returns-clause-taken : goal.returns-clause-taken
returns-clause-taken c =
    c.is_some.ensures ∙ ap is_some c.in_ok-insert.ensures.old
    ∙ found_lent c.args.name.now c.self.inside.names.entries
    ∙ ap (is_taken c.args.name.now) c.self.view_is

pub returns-clause-names : goal.returns-clause-names
returns-clause-names c =
    ap lent c.in_ok-insert.ensures.entries
    ∙ lent-insert c.args.name c.self.inside.names.entries
    ∙ ap (λ names. with_name names c.args.name.now) c.self.view_is
