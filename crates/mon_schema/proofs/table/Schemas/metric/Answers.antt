use Rattle.std.proofs.Common.{ap, ◌∙◌}
use Rattle.mon_value.specs.declared.schemas.MetricSchema.{MetricSchema}
use Rattle.mon_schema.specs.Names.{metric_named}
use Rattle.mon_schema.proofs.NamedLemmas.{lookup-first_named}
use Rattle.mon_schema.proofs.table.Schemas.metric.Goals as goal

pub returns : goal.returns
returns c =
    let name = c.args.name.now in
    record {
      found = c.get.ensures.value ∙ lookup-first_named (λ (schema : MetricSchema). schema.name) name
          _ c.self.invariant.metrics ∙ ap (λ held. metric_named name held.metrics) c.self.view_is;
    }
