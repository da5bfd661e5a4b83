use Rattle.std.proofs.Common.{◌∙◌, ap}
use Rattle.typed_trees.specs.Items.{is_taken}
use Rattle.typed_columns.proofs.TakenLemmas.{found_lent}
use Rattle.typed_columns.proofs.taken.Taken.has.Goals as goal

pub returns : goal.returns
returns c =
    record {
      taken = c.contains_key.ensures ∙ found_lent c.args.name.now c.self.inside.names.entries
          ∙ ap (is_taken c.args.name.now) c.self.view_is;
    }
