use Rattle.std.proofs.Common.{rules, ◌≡◌, ℕ, ℤ, List, IfOk, sym, subst, to_z, of_z, w64}
use Rattle.line_runs.specs.Questions.{CanBeChecked, meant_text}
use Rattle.mon_config.specs.Configs.{IsLimited}
use Rattle.mon_config.specs.declared.config.Config.{Config}
use Rattle.mon_value.specs.declared.rows.Row.{Row}
use Rattle.query_traces.specs.Traces.{source_of}
use Rattle.query_texts.specs.TextTypes.{text_type}
use Rattle.line_runs.proofs.checks.checked_text.Goals as goal

pub text_over-text-requires-clause-limited : goal.text_over-text-requires-clause-limited
text_over-text-requires-clause-limited g c = subst IsLimited (sym c.config.ensures.config) c.is_set_up.ensures.limited

pub text_over-text-requires-clause-can : goal.text_over-text-requires-clause-can
text_over-text-requires-clause-can g c =
    let same : to_z w64 (of_z w64 c.args.moment) ≡ c.args.moment = search rules in
    subst (λ (m : ℤ). CanBeChecked c.config.result.now c.args.text.now m c.in-Ok.rows) (sym same)
    (subst (λ (config : Config). CanBeChecked config c.args.text.now c.args.moment c.in-Ok.rows)
    (sym c.config.ensures.config)
    (subst (CanBeChecked c.args.store.now c.args.text.now c.args.moment) (sym c.in-Ok.ensures.rows) c.requires.can))

pub returns-in-Ok-clause-text : goal.returns-in-Ok-clause-text
returns-in-Ok-clause-text g c =
    let same : to_z w64 (of_z w64 c.args.moment) ≡ c.args.moment = search rules in
    let prints = λ (config : Config) (rows : List Row) (m : ℤ). IfOk c.text_over-text.result
    (λ (text : List ℕ). text ≡ meant_text (text_type config.schemas c.args.text.now) rows m) in
    subst (λ (m : ℤ). prints c.args.store.now (source_of c.args.p.now.seen c.args.trace.now) m) same
    (subst (λ (rows : List Row). prints c.args.store.now rows (to_z w64 (of_z w64 c.args.moment)))
    c.in-Ok.ensures.rows
    (subst (λ (config : Config). prints config c.in-Ok.rows (to_z w64 (of_z w64 c.args.moment)))
    c.config.ensures.config c.text_over-text.ensures.text))
