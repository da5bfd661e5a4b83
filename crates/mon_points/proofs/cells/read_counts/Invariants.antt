-- the counts so far are those of the texts so far
use Rattle.std.proofs.Common.{◌≡◌, Some, length, take}
use Rattle.std.specs.Prelude.{◌==◌}
use Rattle.std.specs.List.{slice_split}
use Rattle.mon_value.specs.Values.{semicolon}
use Rattle.mon_points.specs.Records.{counts_of_texts}
use Rattle.mon_points.proofs.cells.read_counts.Given as goal

abbrev pub invariant-loop-part : goal.invariant-loop-part
invariant-loop-part l = counts_of_texts (take (length l.yielded) (slice_split (λ byte. byte == semicolon) l.cell))
    ≡ Some l.counts
