-- What holds of a schema without a fault.
use Rattle.std.proofs.Common.{◌≡◌, ◌||◌, Bool, true, false, not, cond, Option, None}
use Rattle.std.proofs.Common.{List, [], ◌∷◌, ◌++◌, refl}
use Rattle.std.specs.Prelude.{is_some}
use Rattle.mon_value.specs.declared.schemas.TargetSchema.{TargetSchema}
use Rattle.mon_value.specs.declared.schemas.MetricSchema.{MetricSchema}
use Rattle.mon_schema.specs.Names.{SchemaLists, target_named, metric_named}
use Rattle.mon_schema.specs.Faults.{target_fault, metric_fault, is_target_over}
use Rattle.mon_schema.specs.Faults.{is_target_named, is_target_taken, is_metric_over, is_metric_named, is_metric_taken}
use Rattle.mon_schema.specs.Fits.{AreMetricsHeld, IsHeld, AllTellLocations, TellsLocation}
use Rattle.mon_value.proofs.PlainLemmas.{absent}

-- a chain of tests that ends without a fault has passed the third
past_third : {F : Type 0} (a b c : Bool) (f g h rest : Option F) → (f ≡ None → ⊥) → (g ≡ None → ⊥) → (h ≡ None → ⊥)
    → cond a f (cond b g (cond c h rest)) ≡ None → c ≡ false
past_third true b c f g h rest nf ng nh e = absurd (nf e)
past_third false true c f g h rest nf ng nh e = absurd (ng e)
past_third false false true f g h rest nf ng nh e = absurd (nh e)
past_third false false false f g h rest nf ng nh e = refl

neither : (a b : Bool) → (a || b) ≡ false → a ≡ false
neither true b h = absurd cc
neither false b h = refl

-- its name is free
pub target_named-free : (held : SchemaLists) (schema : TargetSchema)
    → target_fault held schema ≡ None → target_named schema.name held.targets ≡ None
target_named-free held schema h =
    absent (target_named schema.name held.targets)
    (neither (is_some (target_named schema.name held.targets)) _
    (past_third (is_target_over held schema) (not (is_target_named schema)) (is_target_taken held schema)
    _ _ _ _ (λ e. cc) (λ e. cc) (λ e. cc) h))

pub metric_named-free : (held : SchemaLists) (metric : MetricSchema)
    → metric_fault held metric ≡ None → metric_named metric.name held.metrics ≡ None
metric_named-free held metric h =
    absent (metric_named metric.name held.metrics)
    (neither (is_some (metric_named metric.name held.metrics)) _
    (past_third (is_metric_over held metric) (not (is_metric_named metric)) (is_metric_taken held metric)
    _ _ _ _ (λ e. cc) (λ e. cc) (λ e. cc) h))
