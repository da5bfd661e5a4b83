use Rattle.std.proofs.Common.{rules, ◌≡◌, ◌∙◌, ◌≤◌, ◌++◌, ◌∷◌, List, [], ap, arith, length, map, subst, sym}
use Rattle.std.proofs.lemmas.List.FromFn.{map-range_with_len_more}
use Rattle.std.specs.List.{AllByRecursion, range_with_len}
use Rattle.query_traces.specs.declared.areas.Area.{Area}
use Rattle.query_traces.specs.Rounds.{IsSmall, area_of, areas_of}
use Rattle.query_traces.proofs.AreaLemmas.{all_small, few_areas}
use Rattle.query_traces.proofs.areas.areas_of.Goals as goal

pub loop-number-preserved : goal.loop-number-preserved
loop-number-preserved c =
    let zones = c.args.topology.now in
    c.in_ok-push.ensures.items
    ∙ ap (λ (areas : List Area). areas ++ c.area_of.result ∷ []) c.loop-number.invariant
    ∙ ap (λ (area : Area). map (area_of zones) (range_with_len 0 c.loop-number.number) ++ area ∷ [])
    c.area_of.ensures.area
    ∙ sym (map-range_with_len_more (area_of zones) 0 c.loop-number.number c.loop-number.number (omega arith))

pub returns-clause-few : goal.returns-clause-few
returns-clause-few c =
    let zones = c.args.topology.now in
    let all : c.loop-number.areas.items ≡ areas_of zones = search rules in
    subst (λ (areas : List Area). length areas ≤ 64) (sym all) (few_areas zones c.zones-count.ensures.lawful)

pub returns-clause-small : goal.returns-clause-small
returns-clause-small c =
    let zones = c.args.topology.now in
    let all : c.loop-number.areas.items ≡ areas_of zones = search rules in
    subst (λ (areas : List Area). AllByRecursion IsSmall areas) (sym all) (all_small zones c.zones-count.ensures.lawful)
