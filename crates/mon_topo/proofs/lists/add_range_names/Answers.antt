use Rattle.std.proofs.Common.{◌≡◌, ◌∙◌, ◌++◌, ℕ, List, ap, arith, subst, sym}
use Rattle.std.specs.List.{position_from}
use Rattle.std.proofs.lemmas.List.{append-nil, take_all}
use Rattle.mon_value.specs.Same.{same_text}
use Rattle.mon_topo.proofs.RangeNameLemmas.{range_more}
use Rattle.mon_topo.specs.Indexed.{FindsPlaces}
use Rattle.mon_topo.specs.Zones.{names_from, range_name}
use Rattle.mon_topo.specs.declared.zones.RangeSpec.{RangeSpec}
use Rattle.mon_topo.proofs.lists.add_range_names.Goals as goal

pub loop-j-init : goal.loop-j-init
loop-j-init c before long finds text =
    finds text ∙ ap (λ (texts : List (List ℕ)). position_from (same_text text) 0 texts) (sym (append-nil before))

pub loop-j-preserved : goal.loop-j-preserved
loop-j-preserved c before long finds =
    let j = c.loop-j.j-counter in
    let name : List ℕ = c.as_bytes.result.now in
    let named : name ≡ range_name c.args.zone.now j = c.as_bytes.ensures.value ∙ c.in_ok-name.ensures.ok
    ∙ ap (λ (zone : List ℕ). range_name zone j) c.as_str.ensures.bytes in
    range_more c.loop-j.names c.add.new.self before c.args.zone.now name c.args.first j c.args.ranges.now
    (omega (arith, c.loop-j-test.true)) long named c.in_ok-_is_new.ensures.added (c.loop-j.invariant before long
    finds)

pub returns : goal.returns
returns c = record {
  added = λ before long finds. subst (λ (ranges : List RangeSpec). FindsPlaces c.loop-j.names
      (before ++ names_from c.args.zone.now 0 ranges)) (take_all c.loop-j.j-counter c.args.ranges.now
      (omega (arith, c.loop-j-test.false))) (c.loop-j.invariant before long finds);
}
