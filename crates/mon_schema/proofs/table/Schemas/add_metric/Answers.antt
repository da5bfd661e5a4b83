use Rattle.std.proofs.Common.{ap, ◌∙◌, ◌≡◌, None}
use Rattle.mon_value.specs.declared.schemas.MetricSchema.{MetricSchema}
use Rattle.mon_schema.specs.Names.{metric_named}
use Rattle.mon_schema.proofs.NamedLemmas.{lookup-first_named}
use Rattle.mon_schema.proofs.FaultLemmas.{metric_named-free}
use Rattle.mon_schema.proofs.table.Schemas.add_metric.Goals as goal

-- without a fault, nothing is held under its name
pub add_new-requires : goal.add_new-requires
add_new-requires c =
    let held = c.args.self.now in
    let name = c.in-Ok.name.items in
    let free : metric_named c.args.metric.name held.metrics ≡ None = metric_named-free held c.args.metric cc in
    lookup-first_named (λ (schema : MetricSchema). schema.name) name c.self.inside.metrics.entries
    c.self.invariant.metrics
    ∙ ap (λ lists. metric_named name lists.metrics) c.self.view_is
    ∙ ap (λ text. metric_named text held.metrics) (c.in-Ok.ensures.items ∙ c.as_bytes.ensures.bytes)
    ∙ free
