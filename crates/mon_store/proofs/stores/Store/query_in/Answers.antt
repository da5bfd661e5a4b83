use Rattle.std.proofs.Common.{rules, ◌≡◌, ℤ, Ok, to_z, of_z, w64, subst}
use Rattle.mon_config.specs.declared.config.Config.{Config}
use Rattle.query_texts.specs.TextTypes.{IsPlanOver, plan_type, text_type}
use Rattle.running_query.proofs.GoingLemmas.{same_goes}
use Rattle.mon_store.proofs.QueryLemmas.{queried}
use Rattle.mon_store.proofs.SeenTraceLemmas.{answer_seen}
use Rattle.mon_store.specs.Queries.{EndsIf, areas_in}
use Rattle.mon_store.specs.Stores.{setting_of}
use Rattle.mon_store.proofs.stores.Store.query_in.Goals as goal

pub returns-in-Ok-clause-queried : goal.returns-in-Ok-clause-queried
returns-in-Ok-clause-queried g c =
    let same : to_z w64 (of_z w64 c.args.moment) ≡ c.args.moment = search rules in
    queried c.args.self.now c.args.text.now c.args.moment c.args.limit c.args.know.now c.ask.new.know c.in-Ok.plan
    (subst (λ (f : Config). text_type f.schemas c.args.text.now ≡ Ok (plan_type c.in-Ok.plan)) c.self.view_is
    c.in-Ok.ensures.typed)
    (subst (λ (f : Config). IsPlanOver f.schemas f.buckets c.in-Ok.plan) c.self.view_is c.in-Ok.ensures.plan)
    c.ask.result
    (subst (λ (m : ℤ). EndsIf (setting_of c.args.self.now)
    (record { plan = c.in-Ok.plan; areas = areas_in c.args.self.now; limit = c.args.limit }) m c.args.know.now
    c.ask.new.know c.ask.result) same c.ask.ensures.ended)

pub returns-in-Ok-clause-seen : goal.returns-in-Ok-clause-seen
returns-in-Ok-clause-seen g c =
    answer_seen c.args.self.now g.N.Names.setting c.args.text.now c.args.moment c.args.limit c.args.know.now
    c.ask.new.know
    (subst (λ (config : Config). g.N.Names.setting ≡ setting_of config) c.self.view_is c.self.invariant.0.setting_is)
    c.ask.ensures.still c.ask.result (returns-in-Ok-clause-queried g c)

pub returns-in-Err-Fault-Parse-clause-still : goal.returns-in-Err-Fault-Parse-clause-still
returns-in-Err-Fault-Parse-clause-still g c = same_goes g.N.Names.setting c.args.know.now c.sight-sight.ensures.sound

pub returns-in-Err-Fault-Typing-clause-still : goal.returns-in-Err-Fault-Typing-clause-still
returns-in-Err-Fault-Typing-clause-still g c = same_goes g.N.Names.setting c.args.know.now c.sight-sight.ensures.sound

pub returns-in-Err-OutOfMemory-clause-still : goal.returns-in-Err-OutOfMemory-clause-still
returns-in-Err-OutOfMemory-clause-still g c = same_goes g.N.Names.setting c.args.know.now c.sight-sight.ensures.sound
