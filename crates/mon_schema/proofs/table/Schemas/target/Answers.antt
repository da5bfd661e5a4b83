use Rattle.std.proofs.Common.{ap, ◌∙◌}
use Rattle.mon_value.specs.declared.schemas.TargetSchema.{TargetSchema}
use Rattle.mon_schema.specs.Names.{target_named}
use Rattle.mon_schema.proofs.NamedLemmas.{lookup-first_named}
use Rattle.mon_schema.proofs.table.Schemas.target.Goals as goal

pub returns : goal.returns
returns c =
    let name = c.args.name.now in
    record {
      found = c.get.ensures.value ∙ lookup-first_named (λ (schema : TargetSchema). schema.name) name
          _ c.self.invariant.targets ∙ ap (λ held. target_named name held.targets) c.self.view_is;
    }
