-- the leaves so far
use Rattle.std.proofs.Common.{◌≡◌, ◌++◌, map, take}
use Rattle.query_traces.specs.Rounds.{unread_look}
use Rattle.query_traces.proofs.looks.add_unread.Given as goal

abbrev pub invariant-loop-cut : goal.invariant-loop-cut
invariant-loop-cut l = l.looks ≡ l.fn.looks ++ map unread_look (take l.cut-index l.cuts)
