use Rattle.std.proofs.Common.{rules, ◌≡◌, ℤ, IfOk, to_z, of_z, w64, subst}
use Rattle.know.specs.declared.answers.Found.{Found}
use Rattle.leaf_cell.proofs.PlanVisitLemmas.{Tells, finds}
use Rattle.leaf_cell.specs.Visits.{HasVisited}
use Rattle.mon_value.specs.Histories.{leaf_numbered}
use Rattle.leaf_cell.proofs.cells.LeafCell.visit.Goals as goal

pub returns-clause-visited : goal.returns-clause-visited
returns-clause-visited g c =
    let same : to_z w64 (of_z w64 c.args.moment) ≡ c.args.moment = search rules in
    finds c.args.plan.now c.args.moment c.args.limit c.args.slots.now g.N.Names.setting.buckets_of
    (leaf_numbered c.args.self.now) c.args.know.now c.read-called.new.know c.read-called.result
    c.read-called.new.reader.found c.answer.result
    (subst (λ (m : ℤ). IfOk c.read-called.result (λ (found : Found). HasVisited (leaf_numbered c.args.self.now)
    (Tells c.args.plan.now m c.args.limit c.args.slots.now g.N.Names.setting.buckets_of (leaf_numbered c.args.self.now)
    c.args.know.now c.read-called.new.know c.read-called.new.reader.found) found c.args.know.now
    c.read-called.new.know)) same c.read-called.ensures.visited) c.answer.ensures.answer
