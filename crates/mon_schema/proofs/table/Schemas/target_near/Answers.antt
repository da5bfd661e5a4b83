use Rattle.std.proofs.Common.{ap, sym, ◌∙◌}
use Rattle.std.specs.Option.{option_copied}
use Rattle.mon_value.specs.declared.schemas.TargetSchema.{TargetSchema}
use Rattle.mon_schema.specs.Names.{target_named}
use Rattle.mon_schema.proofs.NamedLemmas.{lookup-first_named, no_value}
use Rattle.mon_schema.proofs.table.Schemas.target_near.Goals as goal

pub returns-in_err-found-clause-found : goal.returns-in_err-found-clause-found
returns-in_err-found-clause-found c =
    let name = c.args.name.now in
    ap option_copied c.from_residual.ensures ∙ sym (no_value _ c.in_err-found.ensures.found)
    ∙ lookup-first_named (λ (schema : TargetSchema). schema.name) name c.self.inside.targets.entries
    c.self.invariant.targets ∙ ap (λ held. target_named name held.targets) c.self.view_is

pub returns-clause-found : goal.returns-clause-found
returns-clause-found c =
    let name = c.args.name.now in
    c.schema_at.ensures.schema ∙ c.in_ok-found.ensures.value
    ∙ lookup-first_named (λ (schema : TargetSchema). schema.name) name c.self.inside.targets.entries
    c.self.invariant.targets ∙ ap (λ held. target_named name held.targets) c.self.view_is
