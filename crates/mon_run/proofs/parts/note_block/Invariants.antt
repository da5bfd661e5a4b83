-- what was noted so far, in front of what is left, is what begins the block and all of its lines
use Rattle.std.proofs.Common.{◌≡◌, ◌≤◌, ◌+◌, ◌∷◌, ◌++◌, length, map}
use Rattle.std.specs.Prelude.{vec_capacity, vec_len}
use Rattle.std.specs.Vec.Iter.{into_iter_items, into_iter_len}
use Rattle.line_runs.specs.declared.lines.LineRan.{LineRan}
use Rattle.run_traces.specs.declared.traces.LineTrace.TheVariants as came
use Rattle.mon_run.proofs.parts.note_block.Given as goal

abbrev pub invariant-loop-ran : goal.invariant-loop-ran
invariant-loop-ran l = record {
  count : into_iter_len l.ran-iterator ≡ length (into_iter_items l.ran-iterator);
  traces : l.traces.items ++ map (λ (ran : LineRan). ran.trace) (into_iter_items l.ran-iterator)
      ≡ l.fn.traces.items ++ came.Done ∷ map (λ (ran : LineRan). ran.trace) l.fn.rans;
  texts : l.texts.items ++ map (λ (ran : LineRan). ran.text) (into_iter_items l.ran-iterator)
      ≡ l.fn.texts.items ++ map (λ (ran : LineRan). ran.text) l.fn.rans;
  room : vec_len l.traces + (length (into_iter_items l.ran-iterator) + 1) ≤ vec_capacity l.traces;
  place : vec_len l.texts + length (into_iter_items l.ran-iterator) ≤ vec_capacity l.texts;
}
