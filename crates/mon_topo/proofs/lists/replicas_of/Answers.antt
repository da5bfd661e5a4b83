use Rattle.std.proofs.Common.{◌≡◌, ◌∙◌, ◌+◌, ◌∷◌, ◌++◌, List, ap, append_assoc, arith, drop, map, sym}
use Rattle.std.proofs.lemmas.List.{drop_more, map-append}
use Rattle.mon_value.specs.declared.positions.Leaf.{Leaf}
use Rattle.mon_topo.specs.Indexed.{leaves_found}
use Rattle.mon_topo.specs.Zones.{ranges_in}
use Rattle.mon_topo.specs.declared.zones.RangeSpec.{RangeSpec}
use Rattle.mon_topo.specs.declared.zones.ZoneSpec.{ZoneSpec}
use Rattle.mon_topo.proofs.lists.replicas_of.Goals as goal

pub loop-zone-preserved : goal.loop-zone-preserved
loop-zone-preserved c =
    let zones = c.args.zones.now in
    let i = c.loop-zone.zone-index in
    let zone : ZoneSpec = c.zone-item.result in
    let rest = drop (i + 1) zones in
    let so_far = c.loop-zone.replicas.items in
    let found = λ (range : RangeSpec). leaves_found c.args.leaves.now range.leaves in
    let next : drop i zones ≡ zone ∷ rest = drop_more zones i zone (omega (arith, c.loop-zone-test.true))
    ∙ ap (λ (z : ZoneSpec). z ∷ rest) (sym c.zone-item.is) in
    let added : c.add_replicas.new.replicas.items ≡ so_far ++ map found zone.ranges =
    c.in_ok-add_replicas.ensures.added ∙ ap (λ (ranges : List RangeSpec). so_far ++ map found ranges)
    c.as_slice.ensures.items in
    ap (λ (made : List (List Leaf)). made ++ map found (ranges_in rest)) added
    ∙ append_assoc so_far (map found zone.ranges) (map found (ranges_in rest))
    ∙ ap (λ (more : List (List Leaf)). so_far ++ more) (sym (map-append found zone.ranges (ranges_in rest)))
    ∙ ap (λ (left : List ZoneSpec). so_far ++ map found (ranges_in left)) (sym next)
    ∙ c.loop-zone.invariant
