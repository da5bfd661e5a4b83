use Rattle.std.proofs.Common.{refl}
use Rattle.line_runs.proofs.Offered.{err_of, more_offered, still_offered}
use Rattle.line_runs.proofs.store_writers.StoreWriterRowWriter.write.Goals as goal

pub returns-clause-told : goal.returns-clause-told
returns-clause-told g c = λ first offers told.
    let store = c.args.self.now.store.now in
    let caller = c.args.self.now.pass.ghost_name in
    more_offered first.store.now store store first.pass.ghost_name caller caller offers
    (record { row = c.args.row.now; answer = c.in_ok-answer.answer }) first.pass.now c.args.self.now.pass.now
    c.offer.new.p refl refl told c.in_ok-answer.ensures.answered

pub returns-in_err-answer-clause-still : goal.returns-in_err-answer-clause-still
returns-in_err-answer-clause-still g c = err_of c.from_residual.result (λ first offers told.
    let store = c.args.self.now.store.now in
    let caller = c.args.self.now.pass.ghost_name in
    still_offered first.store.now store store first.pass.ghost_name caller caller offers first.pass.now
    c.args.self.now.pass.now c.offer.new.p refl refl told c.in_err-answer.ensures.still)
