use Rattle.std.proofs.Common.{sym, subst}
use Rattle.history_book.specs.Histories.{AreFronts}
use Rattle.history_book.specs.Seats.{IsPurseBorneOut}
use Rattle.know.specs.Knowledge.{Knowledge}
use Rattle.mon_store.proofs.PassLemmas.{met_pass}
use Rattle.mon_store.proofs.stores.Store.meet.Goals as goal
use Rattle.mon_store.specs.Passes.{IsPass}

pub invariant_of-p : goal.invariant_of-p
invariant_of-p g c =
    let met = c.meet.ensures.met in
    subst (λ (know : Knowledge). IsPass g.N.Names.setting know) (sym met)
    (met_pass g.N.Names.setting c.other.inside.know c.p.inside.know c.other.invariant c.p.invariant
    (subst (λ (know : Knowledge). AreFronts c.p.inside.know.seen know.seen) met c.meet.ensures.fronts.0)
    (subst (λ (know : Knowledge). AreFronts c.other.inside.know.seen know.seen) met c.meet.ensures.fronts.1)
    (subst (λ (know : Knowledge). IsPurseBorneOut know.seen know.purse) met c.meet.ensures.borne_out))

pub returns-clause-fronts : goal.returns-clause-fronts
returns-clause-fronts g c = (
  subst (λ (know : Knowledge). AreFronts know.seen c.meet.new.self.seen) c.p.view_is c.meet.ensures.fronts.0,
  subst (λ (know : Knowledge). AreFronts know.seen c.meet.new.self.seen) c.other.view_is c.meet.ensures.fronts.1,
)
