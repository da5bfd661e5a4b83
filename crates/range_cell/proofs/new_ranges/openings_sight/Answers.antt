use Rattle.std.proofs.Common.{◌≡◌, ◌∙◌, length, take, sym}
use Rattle.std.proofs.lemmas.List.{length-take-le}
use Rattle.mon_topo.specs.HeldHistories.{openings_from}
use Rattle.range_cell.proofs.FirstReplicaLemmas.{first_serves, length-openings}
use Rattle.range_cell.proofs.new_ranges.openings_sight.Goals as goal

pub returns : goal.returns
returns c =
    let first = c.args.first.now in
    let count : length (openings_from 0 (take c.args.count first)) ≡ c.args.count =
    length-openings 0 (take c.args.count first) ∙ length-take-le c.args.count first c.requires.within in
    record {
      sight = λ i. record {
        length = sym count i;
        first = sym (first_serves first c.args.count (record { 0 = 0 }) c.requires.some c.requires.within) i;
      };
    }
