use Rattle.std.specs.Prelude.{string_bytes}
use Rattle.part_runs.proofs.TickLemmas.{kept_answers}
use Rattle.part_runs.proofs.ticks.ask_due.Goals as goal

pub returns-in-Ok-clause-asked : goal.returns-in-Ok-clause-asked
returns-in-Ok-clause-asked g c = kept_answers c.args.store.now c.args.p.now c.query_due.new.p c.args.due c.in-Ok.ran
    c.args.traces.now.items c.keep.new.traces.items (string_bytes c.args.text.now) (string_bytes c.keep.new.text)
    c.keep.result c.keep.ensures.kept c.keep.ensures.text c.in-Ok.ensures.tells c.in-Ok.ensures.stock
