use Rattle.std.proofs.Common.{rules, ◌≡◌, ℤ, IfOk, sym, subst, to_z, of_z, w64}
use Rattle.know.specs.Knowledge.{Knowledge}
use Rattle.running_query.specs.Ends.{EndsRightly}
use Rattle.running_query.specs.Looks.{GoesOn}
use Rattle.mon_store.proofs.QueryLemmas.{queried_pass, told_end}
use Rattle.mon_store.specs.Queries.{EndsIf}
use Rattle.mon_store.proofs.stores.Store.look_up.Goals as goal

pub returns-clause-ended : goal.returns-clause-ended
returns-clause-ended g c =
    let same : to_z w64 (of_z w64 c.args.moment) ≡ c.args.moment = search rules in
    subst (λ (know : Knowledge). EndsIf g.N.Names.setting c.args.machine.setting c.args.moment c.args.know.now know
    c.told.result) (sym c.confirm.ensures.kept)
    (told_end g.N.Names.setting c.args.machine.setting c.args.moment c.args.know.now c.looked_up-ended.new.know
    c.looked_up-ended.result
    (subst (λ (m : ℤ). IfOk c.looked_up-ended.result (EndsRightly g.N.Names.setting c.args.machine.setting m
    c.args.know.now c.looked_up-ended.new.know)) same c.looked_up-ended.ensures.ends) c.told.result c.told.ensures.told)

pub returns-clause-still : goal.returns-clause-still
returns-clause-still g c =
    subst (λ (know : Knowledge). GoesOn g.N.Names.setting c.args.know.now know) (sym c.confirm.ensures.kept)
    c.looked_up-ended.ensures.goes

pub returns-clause-pass : goal.returns-clause-pass
returns-clause-pass g c =
    queried_pass g.N.Names.setting c.args.know.now c.confirm.new.self c.requires.pass
    (subst (λ (know : Knowledge). GoesOn g.N.Names.setting c.args.know.now know) (sym c.confirm.ensures.kept)
    c.looked_up-ended.ensures.goes) c.confirm.ensures.borne_out
