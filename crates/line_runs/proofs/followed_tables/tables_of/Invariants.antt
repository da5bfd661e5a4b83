-- the tables up to the last moment are written, whatever rows the result was made over
use Rattle.std.proofs.Common.{◌≡◌, List, string_bytes}
use Rattle.mon_script.specs.Follows.{AreLawfulMoments}
use Rattle.mon_value.specs.declared.rows.Row.{Row}
use Rattle.typed_trees.specs.Nodes.{typed_tree}
use Rattle.line_runs.specs.Following.{IsKeptOf}
use Rattle.line_runs.proofs.FollowTables.{AreSoFar}
use Rattle.line_runs.proofs.followed_tables.tables_of.Given as goal

abbrev pub invariant-loop-next : goal.invariant-loop-next
invariant-loop-next l = record {
  lawful : AreLawfulMoments l.last;
  moment : l.kept.moment ≡ l.last.first;
  query : l.kept.typed ≡ l.fn.kept.typed;
  kept : (rows : List Row) → IsKeptOf l.fn.kept rows → IsKeptOf l.kept rows;
  tables : (rows : List Row) → IsKeptOf l.fn.kept rows
      → AreSoFar (typed_tree l.fn.kept.typed) rows l.fn.moments l.limit l.last (string_bytes l.text);
}

abbrev pub decreases-loop-next : goal.decreases-loop-next
decreases-loop-next l = l.last.count
