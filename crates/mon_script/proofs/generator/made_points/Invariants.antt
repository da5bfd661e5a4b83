use Rattle.std.proofs.Common.{◌≡◌, string_bytes}
use Rattle.std.specs.List.{flat_map, range_with_len}
use Rattle.mon_script.specs.Made.{made_round, number_before}
use Rattle.mon_script.proofs.generator.made_points.Given as goal

abbrev pub invariant-loop-round : goal.invariant-loop-round
invariant-loop-round l = record {
  rounds : string_bytes l.text ≡ flat_map (made_round l.number l.file) (range_with_len 0 l.round);
  number : l.before ≡ number_before l.number l.file l.round;
}
