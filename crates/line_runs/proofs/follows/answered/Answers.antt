use Rattle.std.proofs.Common.{rules, ◌≡◌, ℤ, IfOk, Ok, Err, subst, to_z, of_z, w64}
use Rattle.line_runs.proofs.Checkable.{can_be_checked}
use Rattle.line_runs.proofs.Ended.{held_by}
use Rattle.line_runs.proofs.Results.{ok_as}
use Rattle.line_runs.specs.Following.{IsFollowRan, IsFollowedBy, not_followed, ran_follow}
use Rattle.line_runs.specs.declared.followed_tables.NotFollowed.{NotFollowed}
use Rattle.line_runs.specs.declared.lines.LineRan.{LineRan}
use Rattle.mon_config.specs.declared.config.Config.{Config}
use Rattle.mon_script.specs.Follows.{all_moments}
use Rattle.mon_value.specs.declared.refusals.Refusal.{Refusal}
use Rattle.query_traces.specs.Traces.{source_of}
use Rattle.line_runs.proofs.follows.answered.Goals as goal

pub gathered_tables-requires-clause-can : goal.gathered_tables-requires-clause-can
gathered_tables-requires-clause-can g c =
    can_be_checked c.args.store.now c.args.store.now.range_points c.args.text.now c.args.moments.first c.args.p.now
    c.args.answer
    (held_by c.args.store.now g.N.Names.setting c.args.p.now.seen c.is_set_up.ensures.setting c.is_sound.ensures.held)
    c.requires.seen c.requires.answer

pub returns-in-Ok-clause-ran : goal.returns-in-Ok-clause-ran
returns-in-Ok-clause-ran g c =
    let same : to_z w64 (of_z w64 c.args.moments.first) ≡ c.args.moments.first = search rules in
    record {
      result = Ok c.in-Ok.text;
      ran_is = subst (λ (m : ℤ). c.ran_follow.result ≡ ran_follow m c.args.answer.trace c.in-Ok.text) same
          c.ran_follow.ensures.ran;
      followed = c.in-Ok.ensures.followed;
    }

pub returns-in-Err-Fault-clause-ran : goal.returns-in-Err-Fault-clause-ran
returns-in-Err-Fault-clause-ran g c =
    let why = c.in-Err-Fault.why in
    let rows = source_of c.args.p.now.seen c.args.answer.trace in
    let followed = subst (λ (refused : Refusal NotFollowed). IsFollowedBy c.args.store.now c.args.text.now rows
    (all_moments c.args.moments) (Err refused)) c.in-Err-Fault.field-0-is c.in-Err-Fault.ensures.followed in
    let told : IfOk c.not_followed.result (λ ran. ran ≡ not_followed c.config.result.now c.args.answer.trace why) =
    search rules in
    ok_as (λ (ran : LineRan). ran ≡ not_followed c.config.result.now c.args.answer.trace why)
    (IsFollowRan c.args.store.now c.args.moments c.args.text.now c.args.p.now c.args.answer.trace)
    c.not_followed.result
    (λ ran is. record {
      result = Err why;
      ran_is = subst (λ (config : Config). ran ≡ not_followed config c.args.answer.trace why) c.config.ensures.config is;
      followed = followed;
    }) told
