-- the leaves so far
use Rattle.std.proofs.Common.{◌≡◌, map, take}
use Rattle.query_traces.specs.Rounds.{unread_look}
use Rattle.query_traces.proofs.looks.unread_looks.Given as goal

abbrev pub invariant-loop-cut : goal.invariant-loop-cut
invariant-loop-cut l = l.looks.items ≡ map unread_look (take l.cut-index l.cuts)
