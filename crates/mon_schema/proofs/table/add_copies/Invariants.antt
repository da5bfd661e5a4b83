-- the copies so far and the entries that are left are all
use Rattle.std.proofs.Common.{◌≡◌, ◌++◌, drop}
use Rattle.mon_schema.specs.Held.{named_entries}
use Rattle.mon_schema.proofs.table.add_copies.Given as goal

abbrev pub invariant-loop-name : goal.invariant-loop-name
invariant-loop-name g l = named_entries l.copied.entries ++ named_entries (drop l.name-index l.name-items) ≡ named_entries l.map.entries
