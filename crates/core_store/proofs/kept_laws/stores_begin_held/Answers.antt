use Rattle.mon_topo.proofs.FirstLemmas.{first_held, first_rows}
use Rattle.core_store.proofs.kept_laws.stores_begin_held.Goals as goal

pub returns : goal.returns
returns c = record { held = λ held zones points has. first_held zones held points has; bare = first_rows }
