-- The pieces so far, with those of the answers that are left, are those of all; so are the loads.
use Rattle.std.proofs.Common.{◌≡◌, ◌+◌, ◌++◌, length, map}
use Rattle.std.specs.List.{sum_by}
use Rattle.std.specs.Vec.Iter.{into_iter_items, into_iter_len}
use Rattle.mixer.specs.declared.zone_answers.ZoneAnswer.{ZoneAnswer}
use Rattle.mixer.proofs.mixing.zone_children.Given as goal

abbrev pub invariant-loop-zone : goal.invariant-loop-zone
invariant-loop-zone l = record {
  so_far : l.children.items ++ map (λ (one : ZoneAnswer). one.pieces) (into_iter_items l.zone-iterator)
      ≡ map (λ (one : ZoneAnswer). one.pieces) l.fn.zones;
  loads : l.meter.load + sum_by (λ (one : ZoneAnswer). one.load) (into_iter_items l.zone-iterator)
      ≡ l.fn.meter.load + sum_by (λ (one : ZoneAnswer). one.load) l.fn.zones;
  limit : l.meter.limit ≡ l.fn.meter.limit;
  counted : into_iter_len l.zone-iterator ≡ length (into_iter_items l.zone-iterator);
}
