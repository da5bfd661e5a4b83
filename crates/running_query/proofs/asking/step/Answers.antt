use Rattle.std.proofs.Common.{rules, ◌≡◌, ℤ, to_z, of_z, w64, refl, sym, subst}
use Rattle.query_core.specs.Mixtures.{LeadsTo}
use Rattle.query_core.specs.Program.{ask_of}
use Rattle.query_traces.specs.Rounds.{QuerySetting}
use Rattle.running_query.proofs.FunctionLemmas.{on_ok_two}
use Rattle.running_query.proofs.StepLemmas.{may, told_on}
use Rattle.running_query.specs.Asking.{IsAnswered, IsSomewhere}
use Rattle.running_query.proofs.asking.step.Goals as goal

pub find_next-requires-clause-asked : goal.find_next-requires-clause-asked
find_next-requires-clause-asked g c =
    let same : to_z w64 (of_z w64 c.args.moment) ≡ c.args.moment = search rules in
    record {
      somewhere = subst (λ (m : ℤ). IsSomewhere g.N.Names.setting g.N.RaiseName.raise m c.args.know.now
          c.args.machine.now) (sym same) c.requires.somewhere;
      asks = refl;
    }

pub told-requires : goal.told-requires
told-requires g c =
    let w = c.requires.somewhere in
    let same : to_z w64 (of_z w64 c.args.moment) ≡ c.args.moment = search rules in
    let answered = subst (λ (m : ℤ). IsAnswered g.N.Names.setting c.args.machine.now.setting m
    c.args.know.now c.find_next.new.caller c.args.machine.now
    (ask_of c.args.machine.now.setting c.args.machine.now.stage) c.in_ok-found.found) same c.in_ok-found.ensures.told in
    may g.N.Names.setting g.N.RaiseName.raise c.args.machine.now.setting c.args.moment w.entry c.args.know.now
    c.args.machine.now w.under_way c.find_next.new.caller c.find_next.ensures.left c.in_ok-found.found
    answered.true_then

pub returns-clause-on : goal.returns-clause-on
returns-clause-on g c =
    let moment_same : to_z w64 (of_z w64 c.args.moment) ≡ c.args.moment = search rules in
    let answered = subst (λ (m : ℤ). IsAnswered g.N.Names.setting c.args.machine.now.setting m
    c.args.know.now c.find_next.new.caller c.args.machine.now
    (ask_of c.args.machine.now.setting c.args.machine.now.stage) c.in_ok-found.found) moment_same
    c.in_ok-found.ensures.told in
    on_ok_two c.told.result _ _ _ c.told.ensures.stage c.told.ensures.avoided (λ leads avoids setting entry same under.
    told_on g.N.Names.setting g.N.RaiseName.raise setting c.args.moment entry c.args.know.now c.args.machine.now under
    c.find_next.new.caller c.find_next.ensures.left c.in_ok-found.found
    (subst (λ (s : QuerySetting). IsAnswered g.N.Names.setting s c.args.moment c.args.know.now
    c.find_next.new.caller c.args.machine.now (ask_of s c.args.machine.now.stage) c.in_ok-found.found) same answered)
    c.told.new.self
    c.told.ensures.setting
    (subst (λ (s : QuerySetting). LeadsTo s c.args.machine.now.stage c.in_ok-found.found c.told.new.self.stage) same
    leads) avoids)
