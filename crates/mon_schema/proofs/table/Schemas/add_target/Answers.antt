use Rattle.std.proofs.Common.{ap, ◌∙◌, ◌≡◌, None}
use Rattle.mon_value.specs.declared.schemas.TargetSchema.{TargetSchema}
use Rattle.mon_schema.specs.Names.{target_named}
use Rattle.mon_schema.proofs.NamedLemmas.{lookup-first_named}
use Rattle.mon_schema.proofs.FaultLemmas.{target_named-free}
use Rattle.mon_schema.proofs.table.Schemas.add_target.Goals as goal

-- without a fault, nothing is held under its name
pub add_new-requires : goal.add_new-requires
add_new-requires c =
    let held = c.args.self.now in
    let name = c.in-Ok.name.items in
    let free : target_named c.args.schema.name held.targets ≡ None = target_named-free held c.args.schema cc in
    lookup-first_named (λ (schema : TargetSchema). schema.name) name c.self.inside.targets.entries
    c.self.invariant.targets
    ∙ ap (λ lists. target_named name lists.targets) c.self.view_is
    ∙ ap (λ text. target_named text held.targets) (c.in-Ok.ensures.items ∙ c.as_bytes.ensures.bytes)
    ∙ free
