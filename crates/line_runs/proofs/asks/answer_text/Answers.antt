use Rattle.std.proofs.Common.{rules, ◌≡◌, ◌∙◌, ◌++◌, ℕ, ℤ, List, length, IfOk, sym, subst, to_z, of_z, w64}
use Rattle.std.specs.List.{flat_map}
use Rattle.line_runs.proofs.Checkable.{can_be_checked}
use Rattle.line_runs.proofs.Ended.{held_by}
use Rattle.line_runs.proofs.Printed.{check_prints, explain_prints, query_prints}
use Rattle.line_runs.proofs.Results.{ok_as}
use Rattle.line_runs.specs.Questions.{CanBeChecked, asked_line, meant_text}
use Rattle.mon_script.specs.declared.questions.How.{How}
use Rattle.mon_script.specs.declared.questions.How.TheVariants as asked
use Rattle.mon_config.specs.declared.config.Config.{Config}
use Rattle.mon_table.specs.Tables.{printed_table}
use Rattle.mon_topo.specs.Zones.{leaves_in}
use Rattle.query_traces.specs.Traces.{source_of}
use Rattle.query_texts.specs.TextTypes.{text_type}
use Rattle.run_traces.specs.LineTexts.{leaf_lines, line_text, op_line}
use Rattle.run_traces.specs.declared.traces.LineTrace.TheVariants as came
use Rattle.line_runs.proofs.asks.answer_text.Goals as goal
use Rattle.mon_store.proofs.GatherLemmas.{owns_itself}

pub returns-in-Query-clause-text : goal.returns-in-Query-clause-text
returns-in-Query-clause-text g c =
    let line = λ (what : How). line_text c.args.store.now c.args.p.now.seen
    (asked_line what c.args.moment c.args.text.now (came.Asked c.args.moment c.args.answer.now.trace)) in
    subst (λ (what : How). IfOk c.print.result (λ (text : List ℕ). text ≡ line what)) (sym c.in-Query.is)
    (ok_as (λ (text : List ℕ). text ≡ printed_table c.args.answer.now.table)
    (λ (text : List ℕ). text ≡ line asked.Query) c.print.result
    (λ text is. is ∙ query_prints c.equal_bags_print_alike.ensures.alike c.args.store.now c.args.text.now
    c.args.moment c.args.p.now c.args.answer.now c.requires.answer) c.print.ensures.text)

pub returns-in-Query-clause-same : goal.returns-in-Query-clause-same
returns-in-Query-clause-same g c = owns_itself c.args.p.now

pub checked_text-requires-clause-can : goal.checked_text-requires-clause-can
checked_text-requires-clause-can g c =
    let same : to_z w64 (of_z w64 c.args.moment) ≡ c.args.moment = search rules in
    subst (λ (m : ℤ). CanBeChecked c.args.store.now c.args.text.now m
    (source_of c.args.p.now.seen c.args.answer.now.trace)) (sym same)
    (can_be_checked c.args.store.now c.args.store.now.range_points c.args.text.now c.args.moment c.args.p.now
    c.args.answer.now
    (held_by c.args.store.now g.N.Names.setting c.args.p.now.seen c.is_set_up.ensures.setting c.is_sound.ensures.held)
    c.requires.seen c.requires.answer)

pub returns-in-Check-clause-text : goal.returns-in-Check-clause-text
returns-in-Check-clause-text g c =
    let same : to_z w64 (of_z w64 c.args.moment) ≡ c.args.moment = search rules in
    let line = λ (what : How). line_text c.args.store.now c.args.p.now.seen
    (asked_line what c.args.moment c.args.text.now (came.Asked c.args.moment c.args.answer.now.trace)) in
    let meant = λ (m : ℤ). meant_text (text_type c.args.store.now.schemas c.args.text.now)
    (source_of c.args.p.now.seen c.args.answer.now.trace) m in
    subst (λ (what : How). IfOk c.checked_text.result (λ (text : List ℕ). text ≡ line what)) (sym c.in-Check.is)
    (ok_as (λ (text : List ℕ). text ≡ meant (to_z w64 (of_z w64 c.args.moment)))
    (λ (text : List ℕ). text ≡ line asked.Check) c.checked_text.result
    (λ text is. subst (λ (m : ℤ). text ≡ meant m) same is
    ∙ check_prints c.equal_bags_print_alike.ensures.alike c.args.store.now c.args.text.now c.args.moment c.args.p.now
    c.args.answer.now c.requires.answer) c.checked_text.ensures.text)

pub explained_text-requires-clause-read : goal.explained_text-requires-clause-read
explained_text-requires-clause-read g c =
    let held = held_by c.args.store.now g.N.Names.setting c.args.p.now.seen c.is_set_up.ensures.setting
    c.is_sound.ensures.held in
    subst (λ (config : Config). length c.args.answer.now.trace.read ≡ length (leaves_in config.topology))
    (sym c.config.ensures.config) (c.requires.answer.of.flags ∙ held.all_leaves)

pub explained_text-requires-clause-sent : goal.explained_text-requires-clause-sent
explained_text-requires-clause-sent g c =
    let held = held_by c.args.store.now g.N.Names.setting c.args.p.now.seen c.is_set_up.ensures.setting
    c.is_sound.ensures.held in
    subst (λ (config : Config). length c.args.answer.now.trace.sent ≡ length (leaves_in config.topology))
    (sym c.config.ensures.config) (c.requires.answer.of.counts ∙ held.all_leaves)

pub returns-in-Explain-clause-text : goal.returns-in-Explain-clause-text
returns-in-Explain-clause-text g c =
    let line = λ (what : How). line_text c.args.store.now c.args.p.now.seen
    (asked_line what c.args.moment c.args.text.now (came.Asked c.args.moment c.args.answer.now.trace)) in
    let printed = λ (config : Config). printed_table c.args.answer.now.table
    ++ (flat_map op_line c.args.answer.now.levels
    ++ leaf_lines c.args.answer.now.trace 0 (leaves_in config.topology)) in
    subst (λ (what : How). IfOk c.explained_text.result (λ (text : List ℕ). text ≡ line what)) (sym c.in-Explain.is)
    (ok_as (λ (text : List ℕ). text ≡ printed c.config.result.now)
    (λ (text : List ℕ). text ≡ line asked.Explain) c.explained_text.result
    (λ text is. subst (λ (config : Config). text ≡ printed config) c.config.ensures.config is
    ∙ explain_prints c.equal_bags_print_alike.ensures.alike c.args.store.now c.args.text.now c.args.moment
    c.args.p.now c.args.answer.now c.requires.answer) c.explained_text.ensures.text)

pub returns-in-Explain-clause-same : goal.returns-in-Explain-clause-same
returns-in-Explain-clause-same g c = owns_itself c.args.p.now
