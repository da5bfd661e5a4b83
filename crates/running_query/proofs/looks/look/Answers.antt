use Rattle.std.proofs.Common.{rules, ◌≡◌, ℤ, to_z, of_z, w64, subst}
use Rattle.leaf_cell.specs.PlanVisits.{FindsVisit, HasFoundSo}
use Rattle.leaf_eval.specs.declared.visits.Visit.{Visit}
use Rattle.running_query.proofs.TellingLemmas.{goes_by, looks_so}
use Rattle.running_query.proofs.looks.look.Goals as goal

pub returns-clause-goes : goal.returns-clause-goes
returns-clause-goes g c =
    let same : to_z w64 (of_z w64 c.args.moment) ≡ c.args.moment = search rules in
    goes_by g.N.Names.setting c.args.plan.now c.args.moment c.args.limit c.args.slots.now c.args.leaf c.args.know.now
    c.visit-found.new.know c.sight-sight.ensures.sound c.visit-found.result
    (subst (λ (m : ℤ). FindsVisit c.visit-found.result (λ (one : Visit). HasFoundSo c.args.plan.now m c.args.limit
    c.args.slots.now g.N.Names.setting.buckets_of c.args.leaf one c.args.know.now c.visit-found.new.know)) same
    c.visit-found.ensures.visited) c.visit-found.ensures.refused

pub returns-clause-looks : goal.returns-clause-looks
returns-clause-looks g c =
    let same : to_z w64 (of_z w64 c.args.moment) ≡ c.args.moment = search rules in
    looks_so g.N.Names.setting c.args.plan.now c.args.moment c.args.limit c.args.slots.now c.args.leaf c.args.know.now
    c.visit-found.new.know c.sight-sight.ensures.sound c.visit-found.result
    (subst (λ (m : ℤ). FindsVisit c.visit-found.result (λ (one : Visit). HasFoundSo c.args.plan.now m c.args.limit
    c.args.slots.now g.N.Names.setting.buckets_of c.args.leaf one c.args.know.now c.visit-found.new.know)) same
    c.visit-found.ensures.visited) c.told_of.result c.told_of.ensures.told
