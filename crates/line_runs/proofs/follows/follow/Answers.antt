use Rattle.std.proofs.Common.{rules, ◌≡◌, IfOk, Ok, Err, ap, subst, to_z, of_z, w64}
use Rattle.line_runs.proofs.Answered.{answer_is}
use Rattle.line_runs.proofs.Ended.{at_limit, refused_ran}
use Rattle.line_runs.proofs.FollowTables.{among_all}
use Rattle.line_runs.proofs.FollowWrote.{followed_ran}
use Rattle.line_runs.specs.Questions.{IsRefusedFor}
use Rattle.mon_config.specs.declared.config.Config.{Config}
use Rattle.mon_script.specs.declared.forms.LineForm.TheVariants as form
use Rattle.mon_store.specs.Queries.{IsEnded}
use Rattle.line_runs.proofs.follows.follow.Goals as goal
use Rattle.running_query.proofs.GoingLemmas.{fronts_through}

pub answered-requires-clause-answer : goal.answered-requires-clause-answer
answered-requires-clause-answer g c =
    let same : to_z w64 (of_z w64 c.args.moments.first) ≡ c.args.moments.first = search rules in
    let most : c.config.result.now.limit ≡ c.args.store.now.limit =
    ap (λ (config : Config). config.limit) c.config.ensures.config in
    answer_is c.args.store.now c.args.text.now c.args.moments.first c.args.p.now c.query.new.p c.in-Ok.answer
    (at_limit c.args.store.now c.args.text.now c.as_bytes.result.now _ c.args.moments.first _ c.args.p.now c.query.new.p
    (Ok c.in-Ok.answer) c.as_bytes.ensures.bytes same most c.in-Ok.ensures.queried)

pub returns-in-Ok-clause-wrote : goal.returns-in-Ok-clause-wrote
returns-in-Ok-clause-wrote g c =
    let same : to_z w64 (of_z w64 c.args.moments.first) ≡ c.args.moments.first = search rules in
    let most : c.config.result.now.limit ≡ c.args.store.now.limit =
    ap (λ (config : Config). config.limit) c.config.ensures.config in
    let ended : IsEnded c.args.store.now c.args.text.now c.args.moments.first c.args.store.now.limit c.args.p.now
    c.query.new.p (Ok c.in-Ok.answer) =
    at_limit c.args.store.now c.args.text.now c.as_bytes.result.now _ c.args.moments.first _ c.args.p.now c.query.new.p
    (Ok c.in-Ok.answer) c.as_bytes.ensures.bytes same most c.in-Ok.ensures.queried in
    followed_ran g.N.Names.setting c.args.store.now c.args.p.now c.is_sound.ensures.held c.traces_stay.ensures.of
    c.traces_stay.ensures.rows c.traces_stay.ensures.found c.traces_stay.ensures.fresh c.traces_stay.ensures.read
    c.args.moments c.args.text.now c.query.new.p c.answered.new.p c.in-Ok.answer c.query.ensures.still
    c.answered.ensures.same ended c.answered.result c.answered.ensures.ran c.answered.ensures.held

pub returns-in-Ok-clause-fronts : goal.returns-in-Ok-clause-fronts
returns-in-Ok-clause-fronts g c =
    fronts_through c.args.p.now.seen c.query.new.p.seen c.answered.new.p.seen c.query.ensures.still.fronts
    c.answered.ensures.same.fronts

pub returns-in-Err-clause-wrote : goal.returns-in-Err-clause-wrote
returns-in-Err-clause-wrote g c =
    let same : to_z w64 (of_z w64 c.args.moments.first) ≡ c.args.moments.first = search rules in
    let most : c.config.result.now.limit ≡ c.args.store.now.limit =
    ap (λ (config : Config). config.limit) c.config.ensures.config in
    refused_ran g.N.Names.setting c.args.store.now c.args.p.now c.is_sound.ensures.held
    (form.Follow c.args.moments c.args.text.now) c.query.new.p c.in-Err.fault (λ told. tt)
    (among_all c.args.moments c.requires.moments) c.query.ensures.still
    (at_limit c.args.store.now c.args.text.now c.as_bytes.result.now _ c.args.moments.first _ c.args.p.now c.query.new.p
    (Err c.in-Err.fault) c.as_bytes.ensures.bytes same most c.in-Err.ensures.queried)
    c.refused.result
    (subst (λ (config : Config). IfOk c.refused.result (IsRefusedFor config.topology c.in-Err.fault))
    c.config-in-Err.ensures.config c.refused.ensures.refused)

pub returns-in-Err-clause-fronts : goal.returns-in-Err-clause-fronts
returns-in-Err-clause-fronts g c = c.query.ensures.still.fronts
