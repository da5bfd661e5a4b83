-- of the rows from a place on, those that matter were found, and the series that have one before the reach
use Rattle.std.proofs.Common.{◌≡◌, ◌≤◌, drop, is_some, length, reverse}
use Rattle.std.specs.List.{list_any}
use Rattle.std.specs.Map.{lookup}
use Rattle.mon_value.specs.Same.{same_series}
use Rattle.mon_value.specs.declared.rows.SeriesKey.{SeriesKey}
use Rattle.standing_incr.specs.NeededRows.{is_earlier, needed_rows}
use Rattle.standing_incr.specs.Needs.{is_before_by, is_met_by}
use Rattle.standing_incr.proofs.needs.needed_backwards.Given as goal

abbrev pub invariant-loop-number : goal.invariant-loop-number
invariant-loop-number l = record {
  within : l.number ≤ length l.rows;
  found : reverse l.needed.items
      ≡ needed_rows (is_met_by l.needs) (is_before_by l.needs) l.needs.start (drop l.number l.rows);
  behind : (key : SeriesKey) → is_some (lookup (same_series key) l.behind.entries)
      ≡ list_any (is_earlier (is_met_by l.needs) (is_before_by l.needs) l.needs.start key) (drop l.number l.rows);
}

abbrev pub decreases-loop-number : goal.decreases-loop-number
decreases-loop-number l = l.number
