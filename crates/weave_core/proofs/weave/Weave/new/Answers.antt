use Rattle.weave_core.proofs.BeginLemmas.{begins}
use Rattle.weave_core.proofs.weave.Weave.new.Goals as goal

pub returns-in-Ok : goal.returns-in-Ok
returns-in-Ok c = record {
  begins = begins c.args.config _ c.in_ok-store.ensures.shared c.in-Ok.ensures.none;
}
