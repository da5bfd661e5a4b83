-- the schemas so far with the targets that are left are those with all
use Rattle.std.proofs.Common.{◌≡◌, ◌+◌, length}
use Rattle.std.specs.Vec.Iter.{into_iter_items, into_iter_len}
use Rattle.mon_schema.specs.Names.{no_schemas}
use Rattle.mon_config.specs.Configs.{with_targets}
use Rattle.mon_config.proofs.held.with_targets.Given as goal

abbrev pub invariant-loop-target : goal.invariant-loop-target
invariant-loop-target l = record {
  held : with_targets l.i l.schemas (into_iter_items l.target-iterator) ≡ with_targets 0 no_schemas l.fn.targets;
  left : into_iter_len l.target-iterator ≡ length (into_iter_items l.target-iterator);
  counted : l.i + length (into_iter_items l.target-iterator) ≡ length l.fn.targets;
}
