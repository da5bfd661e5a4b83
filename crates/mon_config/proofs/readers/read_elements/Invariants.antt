-- the elements so far and those of what is left are those of the whole list
use Rattle.std.proofs.Common.{◌≡◌, drop, map}
use Rattle.serde_json.specs.View.{view}
use Rattle.mon_config.specs.Objects.{elements_in}
use Rattle.mon_config.proofs.Fronts.{with_front}
use Rattle.mon_config.proofs.readers.read_elements.Given as goal

abbrev pub invariant-loop-i : goal.invariant-loop-i
invariant-loop-i g l =
    let reads = g.R.Reader.reads in
    with_front l.items (elements_in reads l.i (map view (drop l.i l.list))) ≡ elements_in reads 0 (map view l.list)
