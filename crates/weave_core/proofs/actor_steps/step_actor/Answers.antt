use Rattle.std.proofs.Common.{Option}
use Rattle.weave_core.proofs.ActorStepLemmas.{query_asks_for, query_step, recover_asks_for, recover_step, refused_step}
use Rattle.weave_core.proofs.ActorStepLemmas.{retire_asks_for, retire_step, switch_asks_for, switch_step, write_step}
use Rattle.weave_core.specs.ActorSteps.{ActorSteps, QueriedSo, RecoveredSo, RetiredSo, SwitchedSo, WrittenSo}
use Rattle.weave_core.specs.declared.actors.Actor.{Actor}
use Rattle.weave_core.specs.declared.stepped.Stepped.{Stepped}
use Rattle.weave_core.proofs.actor_steps.step_actor.Goals as goal
use Rattle.mon_value.proofs.PlainLemmas.{if_ok_on}

pub query-requires : goal.query-requires
query-requires c = record {
  asking = query_asks_for c.args.store.now c.args.own c.in-Queries.querying c.in-Queries.is c.requires.somewhere;
}

pub switch-came-requires : goal.switch-came-requires
switch-came-requires c =
    let may = switch_asks_for c.args.store.now c.args.own c.in-Switches.switching c.in-Switches.is
    c.requires.somewhere in
    record { there = may.there; seated = may.seated }

pub returns-in-Switches : goal.returns-in-Switches
returns-in-Switches c = record {
  stepped = λ config state i here. if_ok_on
      (λ (pair : Actor × Option Stepped). SwitchedSo c.switch-came.new.self.config.topology c.in-Switches.switching
      c.switch-came.result c.switch-came.new.sight c.args.own.begun pair.0 pair.1)
      (λ (pair : Actor × Option Stepped). ActorSteps config state i c.switch-came.new.self c.args.own pair.0 pair.1)
      (λ pair h. switch_step config state i c.args.store.now c.args.own here c.in-Switches.switching c.in-Switches.is
      c.switch-came.new.self c.switch-came.new.sight c.switch-came.result pair.0 pair.1
      c.switch-came.ensures.switches h)
      c.switched.result c.switched.ensures.switched;
}

pub retire-came-requires : goal.retire-came-requires
retire-came-requires c =
    let may = retire_asks_for c.args.store.now c.args.own c.in-Retires.retiring c.in-Retires.is
    c.requires.somewhere in
    record { there = may.there; seated = may.seated }

pub returns-in-Retires : goal.returns-in-Retires
returns-in-Retires c = record {
  stepped = λ config state i here. if_ok_on
      (λ (pair : Actor × Option Stepped). RetiredSo c.retire-came.new.self.config.topology c.in-Retires.retiring
      c.retire-came.result c.retire-came.new.sight c.args.own.begun pair.0 pair.1)
      (λ (pair : Actor × Option Stepped). ActorSteps config state i c.retire-came.new.self c.args.own pair.0 pair.1)
      (λ pair h. retire_step config state i c.args.store.now c.args.own here c.in-Retires.retiring c.in-Retires.is
      c.retire-came.new.self c.retire-came.new.sight c.retire-came.result pair.0 pair.1
      c.retire-came.ensures.retires h)
      c.retired.result c.retired.ensures.retired;
}

pub returns-in-Refused : goal.returns-in-Refused
returns-in-Refused c = record {
  stepped = λ config state i here. refused_step config state i c.args.store.now c.args.own here c.in-Refused.text
      c.in-Refused.is c.ended-in-Refused.result c.ended-in-Refused.ensures.ended;
}

pub returns-in_ok-turn-in-Writes : goal.returns-in_ok-turn-in-Writes
returns-in_ok-turn-in-Writes c = record {
  stepped = λ config state i here. if_ok_on
      (λ (pair : Actor × Option Stepped). WrittenSo c.write.new.self.config.topology c.deed_of-deed.result
      c.in_ok-turn-in-Writes.turn c.write.new.sight c.args.own.begun pair.0 pair.1)
      (λ (pair : Actor × Option Stepped). ActorSteps config state i c.write.new.self c.args.own pair.0 pair.1)
      (λ pair h. write_step config state i c.args.store.now c.args.own here c.in-Writes.writing c.in-Writes.is
      c.deed_of-deed.result c.deed_of-deed.ensures.deed c.write.new.self c.write.new.sight c.in_ok-turn-in-Writes.turn pair.0
      pair.1
      (λ at. c.in_ok-turn-in-Writes.ensures.turn config state.core.world i at) h)
      c.written.result c.written.ensures.written;
}

pub returns-in_ok-turn-in-Queries : goal.returns-in_ok-turn-in-Queries
returns-in_ok-turn-in-Queries c = record {
  stepped = λ config state i here. if_ok_on
      (λ (pair : Actor × Option Stepped). QueriedSo c.query.new.store.config.topology c.in_ok-turn-in-Queries.turn
      c.query.new.sight c.args.own.begun pair.0 pair.1)
      (λ (pair : Actor × Option Stepped). ActorSteps config state i c.query.new.store c.args.own pair.0 pair.1)
      (λ pair h. query_step config state i c.args.store.now c.args.own here c.in-Queries.querying c.in-Queries.is
      c.query.new.store c.query.new.sight c.in_ok-turn-in-Queries.turn pair.0 pair.1
      (λ asking. c.in_ok-turn-in-Queries.ensures.turn config state.core i asking) h)
      c.queried.result c.queried.ensures.queried;
}

pub recover-requires : goal.recover-requires
recover-requires c = record {
  opening = recover_asks_for c.args.store.now c.args.own c.in-Recovers.recovering c.in-Recovers.is
      c.requires.somewhere;
}

pub returns-in_ok-turn-in-Recovers : goal.returns-in_ok-turn-in-Recovers
returns-in_ok-turn-in-Recovers c = record {
  stepped = λ config state i here. if_ok_on
      (λ (pair : Actor × Option Stepped). RecoveredSo c.recover.new.self.config.topology c.in_ok-turn-in-Recovers.turn
      c.recover.new.sight c.args.own.begun pair.0 pair.1)
      (λ (pair : Actor × Option Stepped). ActorSteps config state i c.recover.new.self c.args.own pair.0 pair.1)
      (λ pair h. recover_step config state i c.args.store.now c.args.own here c.in-Recovers.recovering c.in-Recovers.is
      c.recover.new.self c.recover.new.sight c.in_ok-turn-in-Recovers.turn pair.0 pair.1
      (λ at. c.in_ok-turn-in-Recovers.ensures.turn config state.core.world i at) h)
      c.recovered.result c.recovered.ensures.recovered;
}
