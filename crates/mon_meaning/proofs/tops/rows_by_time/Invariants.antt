-- the groups so far, with the rows that are left put in, are all groups
use Rattle.std.proofs.Common.{◌≡◌, [], map}
use Rattle.std.specs.Vec.Iter.{into_iter_items}
use Rattle.mon_value.proofs.GroupLemmas.{merged_rows, own_group}
use Rattle.mon_value.specs.Groups.{rows_by_group}
use Rattle.mon_meaning.specs.within.Times.{groups_at}
use Rattle.mon_meaning.proofs.tops.rows_by_time.Given as goal

abbrev pub invariant-loop-row : goal.invariant-loop-row
invariant-loop-row l =
    merged_rows (groups_at l.groups.entries) (map (own_group []) (into_iter_items l.row-iterator)) ≡ rows_by_group []
    l.fn.rows
