use Rattle.std.proofs.Common.{rules, ◌≡◌, ◌∙◌, Err, ap, drop}
use Rattle.mon_value.specs.declared.refusals.Refusal.TheVariants as refusal
use Rattle.query_core.specs.declared.courses.Course.{Course}
use Rattle.query_core.specs.Courses.{with_zone_answer}
use Rattle.query_core.specs.Program.{next_zone}
use Rattle.query_core.proofs.MixLemmas.{asked_leaves, may_go_on, zone_goes_on, zone_stops}
use Rattle.query_core.proofs.mixing.mixed_zone.Goals as goal

pub mix_zone-requires-clause-asked : goal.mix_zone-requires-clause-asked
mix_zone-requires-clause-asked c =
    asked_leaves c.args.setting.now c.plan.result.now c.limit.result c.plan.ensures.plan c.limit.ensures.limit
    c.args.course.answers c.args.answers c.requires

pub turned-requires : goal.turned-requires
turned-requires c =
    let setting = c.args.setting.now in
    let same : c.in_ok-turn-in-Ok.turn
    ≡ next_zone (drop c.args.course.begun setting.areas) (with_zone_answer c.args.course c.in-Ok.answer) =
    c.in_ok-turn-in-Ok.ensures.turn
    ∙ ap (λ (some : Course). next_zone (drop some.begun setting.areas) some) c.in_ok-keep-in-Ok.ensures.kept in
    may_go_on setting c.plan.result.now c.limit.result c.plan.ensures.plan c.limit.ensures.limit c.args.course
    c.args.answers c.mix_zone.result c.in-Ok.answer c.in_ok-turn-in-Ok.turn c.in-Ok.is c.requires
    c.mix_zone.ensures.answer same

pub returns-in_ok-turn-in-Ok : goal.returns-in_ok-turn-in-Ok
returns-in_ok-turn-in-Ok c =
    let setting = c.args.setting.now in
    let same : c.in_ok-turn-in-Ok.turn
    ≡ next_zone (drop c.args.course.begun setting.areas) (with_zone_answer c.args.course c.in-Ok.answer) =
    c.in_ok-turn-in-Ok.ensures.turn
    ∙ ap (λ (some : Course). next_zone (drop some.begun setting.areas) some) c.in_ok-keep-in-Ok.ensures.kept in
    record {
      stage = zone_goes_on setting c.plan.result.now c.limit.result c.plan.ensures.plan c.limit.ensures.limit
          c.args.course c.args.answers c.mix_zone.result c.in-Ok.answer c.in_ok-turn-in-Ok.turn c.turned.result
          c.in-Ok.is c.mix_zone.ensures.answer same c.turned.ensures.stage;
    }

pub returns-in-Err-Fault : goal.returns-in-Err-Fault
returns-in-Err-Fault c =
    let is : c.mix_zone.result ≡ Err (refusal.Fault c.in-Err-Fault._over) = search rules in
    record {
      stage = zone_stops c.args.setting.now c.plan.result.now c.limit.result c.plan.ensures.plan c.limit.ensures.limit
          c.args.course c.args.answers c.mix_zone.result c.in-Err-Fault._over c.stopped.result is
          c.mix_zone.ensures.answer c.stopped.ensures.stage;
    }
