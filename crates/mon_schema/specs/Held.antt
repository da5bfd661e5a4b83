-- How the schemas are kept: each under its name.
use Rattle.std.specs.Prelude.{◌≡◌, ℕ, List, map, Vec}
use Rattle.std.specs.List.{AllByRecursion}
use Rattle.std.specs.declared.alloc.Global.{Global}
use Rattle.indexmap.specs.IndexMap.{values}
use Rattle.mon_schema.specs.Fits.{AreMetricsHeld, AllTellLocations}
use Rattle.mon_schema.specs.Names.{SchemaLists}
use Rattle.mon_schema.specs.declared.table.Schemas.TheInside.{Inside}

abbrev pub schema_lists : Inside → SchemaLists
schema_lists held = record { targets = values held.targets; metrics = values held.metrics }

-- each schema is kept under its name, each target schema tells where its targets are, and each metric is as schemas
-- take it
pub record AreSchemasKept (inside : Inside) : Type 0 where
  pub targets : AllByRecursion (λ entry. entry.0.items ≡ entry.1.name) inside.targets.entries
  pub metrics : AllByRecursion (λ entry. entry.0.items ≡ entry.1.name) inside.metrics.entries
  pub held : AreMetricsHeld (values inside.metrics)
  pub located : AllTellLocations (values inside.targets)

-- the entries of a map as contracts see them: each name with its schema
abbrev pub named_entries : {S : Type 0} → List (Vec ℕ Global × S) → List (List ℕ × S)
named_entries entries = map (λ entry. (entry.0.items, entry.1)) entries
