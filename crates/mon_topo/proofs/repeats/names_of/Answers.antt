use Rattle.std.proofs.Common.{◌≡◌, ◌∙◌, ◌+◌, ◌∷◌, ap, arith, drop, length, rules, subst, sym, take, Option}
use Rattle.std.proofs.lemmas.List.{drop_more}
use Rattle.mon_value.specs.Answers.{RefusesBy}
use Rattle.mon_topo.proofs.LawfulLemmas.{few}
use Rattle.mon_topo.proofs.NumberedLemmas.{length-numbered}
use Rattle.mon_topo.proofs.PlaceLemmas.{first_at-past}
use Rattle.mon_topo.proofs.RepeatLemmas.{names_more, refused_first, seen_repeat-names_of}
use Rattle.mon_topo.proofs.SizeLemmas.{parts_so_far}
use Rattle.mon_topo.specs.Faults.{duplicate, repeat_behind, first_at}
use Rattle.mon_topo.specs.Zones.{leaves_in}
use Rattle.mon_topo.specs.declared.names.Names.{Names}
use Rattle.mon_topo.specs.declared.places.Place.{Place}
use Rattle.mon_topo.specs.declared.zones.ZoneSpec.{ZoneSpec}
use Rattle.mon_topo.proofs.repeats.names_of.Goals as goal

pub add_zone-requires-clause-leaves : goal.add_zone-requires-clause-leaves
add_zone-requires-clause-leaves c =
    let zones = c.args.zones.now in
    let i = c.loop-i.i in
    let most = few zones c.requires.few in
    let so_far = parts_so_far (λ (zone : ZoneSpec). zone.leaves) zones i c.index-zones-i.result
    (omega (arith, c.loop-i-test.true)) in
    let item = ap (λ (zone : ZoneSpec). length zone.leaves) c.index-zones-i.is in
    let named = ap (λ (names : Names). length names.leaves) c.loop-i.invariant.0 ∙ length-numbered 0
    (leaves_in (take i zones)) in
    omega arith

-- a zone repeats what stood earlier
pub returns-in_err-add_zone-clause-apart : goal.returns-in_err-add_zone-clause-apart
returns-in_err-add_zone-clause-apart c =
    let zones = c.args.zones.now in
    let i = c.loop-i.i in
    let zone : ZoneSpec = c.index-zones-i.result in
    let r = c.in_err-add_zone.field-0.0 in
    let rest = drop (i + 1) zones in
    let same = seen_repeat-names_of zones i zone c.loop-i.names c.loop-i.invariant.0 in
    let here : RefusesBy r (repeat_behind zones i zone) = subst (λ (o : Option Place). RefusesBy r o) same
    c.in_err-add_zone.ensures.apart in
    let next : drop i zones ≡ zone ∷ rest = drop_more zones i zone (omega (arith, c.loop-i-test.true))
    ∙ ap (λ (z : ZoneSpec). z ∷ rest) (sym c.index-zones-i.is) in
    let whole = ap (first_at (repeat_behind zones) i) (sym next) ∙ c.loop-i.invariant.1 in
    let fact : RefusesBy r (duplicate zones) = subst (λ (o : Option Place). RefusesBy r o) whole
    (refused_first r (repeat_behind zones i zone) (first_at (repeat_behind zones) (i + 1) rest) here) in
    search rules

-- it does not
pub loop-i-preserved : goal.loop-i-preserved
loop-i-preserved c =
    let zones = c.args.zones.now in
    let i = c.loop-i.i in
    let zone : ZoneSpec = c.index-zones-i.result in
    let rest = drop (i + 1) zones in
    let same = seen_repeat-names_of zones i zone c.loop-i.names c.loop-i.invariant.0 in
    let next : drop i zones ≡ zone ∷ rest = drop_more zones i zone (omega (arith, c.loop-i-test.true))
    ∙ ap (λ (z : ZoneSpec). z ∷ rest) (sym c.index-zones-i.is) in
    let whole = ap (first_at (repeat_behind zones) i) (sym next) ∙ c.loop-i.invariant.1 in (
      names_more zones i zone c.loop-i.names c.add_zone.new.names (omega (arith, c.loop-i-test.true))
          c.index-zones-i.is c.loop-i.invariant.0 c.in_ok-add_zone.ensures.added,
      sym (first_at-past (repeat_behind zones) i zone rest (sym same ∙ c.in_ok-add_zone.ensures.apart)) ∙ whole,
    )
