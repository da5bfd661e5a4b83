use Rattle.std.proofs.Common.{rules, ◌≡◌, ℤ, [], to_z, of_z, w64, subst}
use Rattle.std.specs.Prelude.{IfOk}
use Rattle.line_runs.specs.LineWrites.{LineWrote, ran_line}
use Rattle.part_runs.proofs.AloneLemmas.{answer_tells}
use Rattle.run_traces.specs.LineAsks.{query_form}
use Rattle.run_traces.specs.RanLines.{no_files}
use Rattle.part_runs.proofs.ticks.query_due.Goals as goal

pub returns-clause-tells : goal.returns-clause-tells
returns-clause-tells g c =
    let due = c.args.due.now in
    let same : to_z w64 (of_z w64 due.at) ≡ due.at = search rules in
    let wrote = subst (λ (at : ℤ). IfOk c.run_query-ran.result (λ ran. LineWrote c.args.store.now
    (ran_line (query_form at due.text) no_files ran.trace []) ran.text c.args.p.now c.run_query-ran.new.p)) same
    c.run_query-ran.ensures.wrote in
    answer_tells c.runs_go_on.ensures.more c.texts_stay.ensures.line g.N.Names.setting c.args.store.now
    (query_form due.at due.text) no_files c.args.p.now c.run_query-ran.new.p c.is_sound.ensures.pass
    c.is_sound-2.ensures.pass c.is_sound-2.ensures.borne_out c.requires.every c.run_query-ran.result wrote
