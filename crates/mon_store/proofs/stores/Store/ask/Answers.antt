use Rattle.std.proofs.Common.{rules, ◌≡◌, ℤ, sym, subst, to_z, of_z, w64}
use Rattle.mon_config.specs.declared.config.Config.{Config}
use Rattle.mon_topo.specs.Settings.{Setting}
use Rattle.query_core.specs.Machine.{Query}
use Rattle.query_texts.specs.TextTypes.{IsPlanOver}
use Rattle.running_query.proofs.GoingLemmas.{same_goes}
use Rattle.running_query.specs.Asking.{IsAskedHere}
use Rattle.mon_store.proofs.QueryLemmas.{asked_here}
use Rattle.mon_store.specs.Queries.{EndsIf, areas_in}
use Rattle.mon_store.specs.Stores.{setting_of}
use Rattle.mon_store.proofs.stores.Store.ask.Goals as goal

pub look_up-requires-clause-asked : goal.look_up-requires-clause-asked
look_up-requires-clause-asked g c =
    let same : to_z w64 (of_z w64 c.args.moment) ≡ c.args.moment = search rules in
    subst (λ (m : ℤ). IsAskedHere g.N.Names.setting g.N.RaiseName.raise c.in-Ok.machine.setting m c.args.know.now)
    (sym same)
    (subst (λ (query : Query). IsAskedHere g.N.Names.setting g.N.RaiseName.raise query.setting c.args.moment
    c.args.know.now) (sym c.in-Ok.ensures.new)
    (asked_here c.self.inside.config c.served.ensures.served c.args.plan c.args.limit
    (subst (λ (f : Config). IsPlanOver f.schemas f.buckets c.args.plan) (sym c.self.view_is) c.requires.plan)
    g.N.Names.setting g.N.RaiseName.raise c.args.moment c.args.know.now c.self.invariant.0
    c.self.inside.tables.sized.zones c.requires.moment c.requires.pass c.sight-sight.ensures.sound))

pub returns-in-Ok-clause-ended : goal.returns-in-Ok-clause-ended
returns-in-Ok-clause-ended g c =
    let same : to_z w64 (of_z w64 c.args.moment) ≡ c.args.moment = search rules in
    let ended : EndsIf g.N.Names.setting c.in-Ok.machine.setting c.args.moment c.args.know.now c.look_up.new.know
    c.look_up.result = subst (λ (m : ℤ). EndsIf g.N.Names.setting c.in-Ok.machine.setting m c.args.know.now
    c.look_up.new.know c.look_up.result) same c.look_up.ensures.ended in
    let planned : EndsIf g.N.Names.setting (record {
      plan = c.args.plan;
      areas = areas_in c.self.inside.config;
      limit = c.args.limit;
    }) c.args.moment c.args.know.now c.look_up.new.know c.look_up.result =
    subst (λ (query : Query). EndsIf g.N.Names.setting query.setting c.args.moment c.args.know.now
    c.look_up.new.know c.look_up.result) c.in-Ok.ensures.new ended in
    subst (λ (f : Config). EndsIf (setting_of f) (record {
      plan = c.args.plan;
      areas = areas_in f;
      limit = c.args.limit;
    }) c.args.moment c.args.know.now c.look_up.new.know c.look_up.result) c.self.view_is
    (subst (λ (s : Setting). EndsIf s (record {
      plan = c.args.plan;
      areas = areas_in c.self.inside.config;
      limit = c.args.limit;
    }) c.args.moment c.args.know.now c.look_up.new.know c.look_up.result) c.self.invariant.0.setting_is planned)

pub returns-in-Err-clause-still : goal.returns-in-Err-clause-still
returns-in-Err-clause-still g c = same_goes g.N.Names.setting c.args.know.now c.sight-sight.ensures.sound
