-- the rows so far, and the first ones of the groups that are left, are all
use Rattle.std.proofs.Common.{◌≡◌, ◌++◌}
use Rattle.std.specs.List.{flat_map}
use Rattle.std.specs.Vec.Iter.{into_iter_items}
use Rattle.mon_value.specs.Groups.{top_rows}
use Rattle.mon_meaning.specs.within.Times.{groups_at}
use Rattle.mon_meaning.proofs.TopLemmas.{first_of}
use Rattle.mon_meaning.proofs.tops.top_rows.Given as goal

abbrev pub invariant-loop-group : goal.invariant-loop-group
invariant-loop-group l =
    l.first.items ++ flat_map (first_of l.most l.column) (groups_at (into_iter_items l.group-iterator)) ≡ top_rows l.most l.column
    l.fn.rows
