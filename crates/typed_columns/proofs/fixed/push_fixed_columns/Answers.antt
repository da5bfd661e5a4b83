use Rattle.std.proofs.Common.{◌≡◌, ◌∙◌, ◌++◌, List, filter, ap, rules}
use Rattle.std.proofs.lemmas.Result.{on_ok_weaker}
use Rattle.mon_value.specs.declared.columns.Column.{Column}
use Rattle.typed_trees.specs.Items.{is_taken}
use Rattle.typed_columns.proofs.FixedLemmas.{fixed_columns-named}
use Rattle.typed_columns.proofs.fixed.push_fixed_columns.Goals as goal

pub returns : goal.returns
returns c =
    record {
      added = on_ok_weaker c.push_named-pushed.result
          (λ added. added
          ∙ ap (λ names. c.args.added.now ++ filter (λ (column : Column). is_taken column.name names) c.args.columns.now)
          c.in_ok-names.ensures.names
          ∙ ap (λ columns. c.args.added.now ++ columns) (fixed_columns-named c.args.columns.now c.args.fixed.now))
          c.push_named-pushed.ensures.added;
    }
