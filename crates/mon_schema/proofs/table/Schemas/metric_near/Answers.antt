use Rattle.std.proofs.Common.{ap, sym, ◌∙◌}
use Rattle.std.specs.Option.{option_copied}
use Rattle.mon_value.specs.declared.schemas.MetricSchema.{MetricSchema}
use Rattle.mon_schema.specs.Names.{metric_named}
use Rattle.mon_schema.proofs.NamedLemmas.{lookup-first_named, no_value}
use Rattle.mon_schema.proofs.table.Schemas.metric_near.Goals as goal

pub returns-in_err-found-clause-found : goal.returns-in_err-found-clause-found
returns-in_err-found-clause-found c =
    let name = c.args.name.now in
    ap option_copied c.from_residual.ensures ∙ sym (no_value _ c.in_err-found.ensures.found)
    ∙ lookup-first_named (λ (schema : MetricSchema). schema.name) name c.self.inside.metrics.entries
    c.self.invariant.metrics ∙ ap (λ held. metric_named name held.metrics) c.self.view_is

pub returns-clause-found : goal.returns-clause-found
returns-clause-found c =
    let name = c.args.name.now in
    c.schema_at.ensures.schema ∙ c.in_ok-found.ensures.value
    ∙ lookup-first_named (λ (schema : MetricSchema). schema.name) name c.self.inside.metrics.entries
    c.self.invariant.metrics ∙ ap (λ held. metric_named name held.metrics) c.self.view_is
