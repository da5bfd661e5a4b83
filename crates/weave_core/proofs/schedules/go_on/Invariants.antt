-- so many events went, each of them where the given one was not next
use Rattle.mon_config.specs.declared.config.Config.{Config}
use Rattle.weave_core.specs.ActorAgreements.{Agrees}
use Rattle.weave_core.specs.States.{State}
use Rattle.core_store.specs.Agreements.{store_of}
use Rattle.weave_core.specs.WeaveCalls.{IsWeaveKept}
use Rattle.weave_core.proofs.TurnLemmas.{Going}
use Rattle.weave_core.proofs.schedules.go_on.Given as goal

abbrev pub invariant-loop-event : goal.invariant-loop-event
invariant-loop-event l = record {
  kept : IsWeaveKept l.weave;
  going : (config : Config) (start : State (store_of config)) → Agrees config l.fn.weave start
      → Going config start l.actor l.goal l._event l.weave;
}
