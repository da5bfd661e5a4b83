-- the values so far, in front of those of the items that are left, are all
use Rattle.std.proofs.Common.{◌≡◌, ◌++◌, drop, option_map}
use Rattle.mon_meaning.specs.within.Items.{all_values}
use Rattle.mon_meaning.proofs.value_rows.add_values.Given as goal

abbrev pub invariant-loop-item : goal.invariant-loop-item
invariant-loop-item l =
    option_map (λ more. l.values ++ more) (all_values (drop l.item-index l.items) l.cells) ≡ all_values l.items l.cells
