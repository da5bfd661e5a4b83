use Rattle.mon_store.proofs.PassLemmas.{same_owner}
use Rattle.mon_store.proofs.stores.Store.gather.Goals as goal

pub invariant_of-p : goal.invariant_of-p
invariant_of-p g c =
    same_owner g.N.Names.setting c.p.inside.know c.gather_in.new.know c.p.invariant c.gather_in.ensures.same
    c.gather_in.ensures.borne_out
