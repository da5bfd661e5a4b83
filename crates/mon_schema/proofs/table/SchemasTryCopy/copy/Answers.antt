use Rattle.std.proofs.Common.{◌∙◌, subst, sym}
use Rattle.mon_schema.specs.Fits.{AreMetricsHeld, AllTellLocations}
use Rattle.mon_value.specs.declared.schemas.MetricSchema.{MetricSchema}
use Rattle.mon_value.specs.declared.schemas.TargetSchema.{TargetSchema}
use Rattle.mon_schema.proofs.NamedEntriesLemmas.{names-named_entries, schemas-named_entries}
use Rattle.mon_schema.proofs.table.SchemasTryCopy.copy.Goals as goal

pub invariant_of-result : goal.invariant_of-result
invariant_of-result c =
    let targets = c.in_ok-copied_schemas.ensures.entries in
    let metrics = c.in_ok-copied_schemas-2.ensures.entries in
    record {
      targets = names-named_entries (λ (schema : TargetSchema). schema.name) _ _ targets c.self.invariant.targets;
      metrics = names-named_entries (λ (metric : MetricSchema). metric.name) _ _ metrics c.self.invariant.metrics;
      held = subst AreMetricsHeld (sym (schemas-named_entries _ _ metrics)) c.self.invariant.held;
      located = subst AllTellLocations (sym (schemas-named_entries _ _ targets)) c.self.invariant.located;
    }

pub returns : goal.returns
returns c =
    let targets = schemas-named_entries _ _ c.in_ok-copied_schemas.ensures.entries in
    let metrics = schemas-named_entries _ _ c.in_ok-copied_schemas-2.ensures.entries in
    record { equal = (λ i. record { targets = targets i; metrics = metrics i }) ∙ c.self.view_is }
