use Rattle.core_store.proofs.RecoveryLemmas.{range_seated, range_there}
use Rattle.core_store.proofs.RecoveryReturns.{ended_so, over_then}
use Rattle.core_store.proofs.store.Store.end_recovery.Goals as goal

pub finish-requires : goal.finish-requires
finish-requires c = record {
  over = over_then c.args.self.now c.args.recovering c.args.sight.now c.requires.opening c.requires.asks
      c.in-Ok.machine c.in-Ok.ensures.after;
}

pub let_go-requires : goal.let_go-requires
let_go-requires c =
    let some = c.requires.opening in
    record {
      there = range_there some.config some.world some.i c.args.self.now c.args.recovering c.args.sight.now some.opening;
      seated = range_seated some.config some.world some.i c.args.self.now c.args.recovering c.args.sight.now
          some.opening;
    }

pub returns-in-Ok : goal.returns-in-Ok
returns-in-Ok c = record {
  turn = λ config world i opening. ended_so config world i c.args.self.now c.args.recovering c.args.sight.now opening
      c.requires.asks c.in-Ok.machine c.in-Ok.ensures.after c.finish.result c.finish.ensures.end c.let_go.result
      c.let_go.new.self c.let_go.new.sight c.let_go.ensures.ended c.let_go.ensures.tells;
}
