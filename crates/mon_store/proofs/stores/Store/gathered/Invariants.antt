-- the rows so far in front of those of what is left are all, and so many were handed out
use Rattle.std.proofs.Common.{◌≡◌, ◌++◌, length, drop}
use Rattle.std.specs.List.{flat_map}
use Rattle.query_traces.specs.Traces.{resolved_rows, source_of}
use Rattle.mon_store.proofs.stores.Store.gathered.Given as goal
use Rattle.mon_store.specs.Gathers.{HasBeenHanded}
use Rattle.mon_store.specs.Passes.{OwnsTheSame}

abbrev pub invariant-loop-one : goal.invariant-loop-one
invariant-loop-one g l = record {
  same : OwnsTheSame l.fn.know l.know;
  all : l.rows.items ++ flat_map (resolved_rows l.fn.know.seen l.trace) (drop l.one-index l.trace.resolved)
      ≡ source_of l.fn.know.seen l.trace;
  handed : HasBeenHanded (length l.rows.items) l.fn.know l.know;
}
