use Rattle.std.proofs.Common.{◌≡◌, ◌∙◌, sym, subst}
use Rattle.history_book.specs.Seats.{IsPurseBorneOut}
use Rattle.know.specs.Knowledge.{Knowledge, after_numbering}
use Rattle.mon_store.proofs.PassLemmas.{numbered_pass}
use Rattle.mon_store.proofs.stores.Store.pass.Goals as goal
use Rattle.mon_store.specs.Passes.{IsPass}

pub invariant_of-result : goal.invariant_of-result
invariant_of-result g c =
    let numbered = c.in_ok-know.ensures.numbered in
    subst (λ (know : Knowledge). IsPass g.N.Names.setting know) (sym numbered)
    (numbered_pass g.N.Names.setting c.p.inside.know c.p.invariant
    (subst (λ (know : Knowledge). IsPurseBorneOut know.seen know.purse) numbered c.in_ok-know.ensures.borne_out))
