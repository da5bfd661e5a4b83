use Rattle.std.proofs.Common.{◌≡◌, ◌++◌, string_bytes}
use Rattle.std.specs.List.{flat_map, range_with_len}
use Rattle.mon_script.specs.Made.{made_record, number_behind}
use Rattle.mon_script.proofs.generator.push_round.Given as goal

abbrev pub invariant-loop-task : goal.invariant-loop-task
invariant-loop-task l = record {
  records : string_bytes l.text ≡ string_bytes l.initial.text
      ++ flat_map (made_record l.before l.file l.round) (range_with_len 0 l.task);
  number : l.number ≡ number_behind l.task l.before;
}
