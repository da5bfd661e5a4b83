use Rattle.std.proofs.Common.{rules, ◌≡◌, Err}
use Rattle.mon_value.specs.declared.refusals.Refusal.TheVariants as refusal
use Rattle.query_core.proofs.MixLemmas.{root_ends, root_stops}
use Rattle.query_core.proofs.mixing.mixed_root.Goals as goal

pub returns-in-Ok : goal.returns-in-Ok
returns-in-Ok c =
    let setting = c.args.setting.now in
    record {
      stage = root_ends setting c.plan.result.now c.limit.result c.plan.ensures.plan c.limit.ensures.limit
          c.args.course c.replace-answers.result c.mix_root.result c.in-Ok.table c.answered.result
          c.replace-answers.ensures.value c.in-Ok.is c.mix_root.ensures.answer c.answered.ensures.stage;
    }

pub returns-in-Err-Fault : goal.returns-in-Err-Fault
returns-in-Err-Fault c =
    let setting = c.args.setting.now in
    let is : c.mix_root.result ≡ Err (refusal.Fault c.in-Err-Fault._over) = search rules in
    record {
      stage = root_stops setting c.plan.result.now c.limit.result c.plan.ensures.plan c.limit.ensures.limit
          c.args.course c.replace-answers.result c.mix_root.result c.in-Err-Fault._over c.stopped.result
          c.replace-answers.ensures.value is c.mix_root.ensures.answer c.stopped.ensures.stage;
    }
