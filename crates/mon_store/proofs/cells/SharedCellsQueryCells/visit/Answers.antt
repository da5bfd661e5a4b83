use Rattle.std.proofs.Common.{rules, ◌≡◌, ℕ, ℤ, subst, to_z, of_z, w64}
use Rattle.leaf_cell.specs.PlanVisits.{FindsVisit, HasFoundSo}
use Rattle.leaf_eval.specs.declared.visits.Visit.{Visit}
use Rattle.mon_value.specs.Histories.{leaf_numbered}
use Rattle.mon_store.proofs.cells.SharedCellsQueryCells.visit.Goals as goal

pub returns-clause-visited : goal.returns-clause-visited
returns-clause-visited g c =
    let same : to_z w64 (of_z w64 c.args.moment) ≡ c.args.moment = search rules in
    subst (λ (m : ℤ). FindsVisit c.visit.result (λ (one : Visit). HasFoundSo c.args.plan.now m c.args.limit
    c.args.slots.now g.N.Names.setting.buckets_of c.args.leaf one c.args.know.now c.visit.new.know)) same
    (subst (λ (n : ℕ). FindsVisit c.visit.result (λ (one : Visit). HasFoundSo c.args.plan.now
    (to_z w64 (of_z w64 c.args.moment)) c.args.limit c.args.slots.now g.N.Names.setting.buckets_of (leaf_numbered n) one
    c.args.know.now c.visit.new.know)) c.leaf_cell-cell.ensures.cell c.visit.ensures.visited)
