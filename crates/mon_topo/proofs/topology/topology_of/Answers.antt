use Rattle.std.proofs.Common.{◌≡◌, ◌∙◌, ℕ, List, ap, map, subst}
use Rattle.std.specs.List.{filter_map}
use Rattle.std.specs.Map.{lookup}
use Rattle.std.specs.Option.{option_map}
use Rattle.mon_value.specs.Same.{same_text}
use Rattle.mon_topo.proofs.FindsLemmas.{lookup-located, lookup-numbered}
use Rattle.mon_topo.specs.Indexed.{all_replicas, leaves_found, spans_from, FindsPlaces}
use Rattle.mon_value.specs.Histories.{leaf_numbered}
use Rattle.mon_topo.specs.Zones.{leaves_in, range_names, ranges_in}
use Rattle.mon_topo.specs.declared.names.Names.{Names}
use Rattle.mon_topo.specs.declared.zones.RangeSpec.{RangeSpec}
use Rattle.mon_topo.specs.declared.zones.ZoneSpec.{ZoneSpec}
use Rattle.mon_topo.proofs.topology.topology_of.Goals as goal

pub invariant_of-result : goal.invariant_of-result
invariant_of-result c =
    let zones = c.args.zones in
    let leaves = leaves_in zones in
    let of_location = λ (text : List ℕ). ap (λ (names : Names). lookup (same_text text) names.locations)
    c.requires.names ∙ lookup-located text 0 zones in
    let of_leaf = λ (text : List ℕ). ap (λ (names : Names). lookup (same_text text) names.leaves) c.requires.names
    ∙ lookup-numbered text 0 leaves in
    let found : map (λ (range : RangeSpec). leaves_found c.args.names.leaves range.leaves) (ranges_in zones)
    ≡ all_replicas zones =
    λ i. map (λ (range : RangeSpec). filter_map (λ (name : List ℕ). option_map leaf_numbered (of_leaf name i))
    range.leaves) (ranges_in zones) in (
      c.requires.lawful,
      c.in-Ok.ensures.spans ∙ ap (spans_from 0 0) c.as_slice.ensures.items,
      c.in-Ok.ensures.leaf_names ∙ ap leaves_in c.as_slice.ensures.items,
      c.in-Ok.ensures.replicas
          ∙ ap (λ (all : List ZoneSpec). map (λ (range : RangeSpec). leaves_found c.args.names.leaves range.leaves)
          (ranges_in all)) c.as_slice.ensures.items ∙ found,
      of_location,
      of_leaf,
      subst (λ (all : List ZoneSpec). FindsPlaces c.in-Ok.parts.ranges (range_names all)) c.as_slice.ensures.items
          c.in-Ok.ensures.ranges,
    )
