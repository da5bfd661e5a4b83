-- the queries so far were asked, and those that are left are due at moments
use Rattle.std.proofs.Common.{◌≡◌, ◌++◌, length, map}
use Rattle.std.specs.Prelude.{string_bytes}
use Rattle.std.specs.List.{AllByRecursion}
use Rattle.std.specs.Vec.Iter.{into_iter_items, into_iter_len}
use Rattle.history_book.specs.Histories.{AreFronts}
use Rattle.part_runs.specs.Ticks.{DuesAsked}
use Rattle.run_traces.specs.declared.traces.DueTrace.{DueTrace}
use Rattle.standing.proofs.MomentLemmas.{HasMoment}
use Rattle.part_runs.proofs.ticks.ask_all.Given as goal

abbrev pub invariant-loop-due : goal.invariant-loop-due
invariant-loop-due g l = record {
  moments : AllByRecursion HasMoment (into_iter_items l.due-iterator);
  asked : DuesAsked l.store l.traces.items (string_bytes l.text) l.fn.p l.p;
  all : map (λ (one : DueTrace). one.due) l.traces.items ++ into_iter_items l.due-iterator ≡ l.fn.dues;
  fronts : AreFronts l.fn.p.seen l.p.seen;
  count : into_iter_len l.due-iterator ≡ length (into_iter_items l.due-iterator);
}
