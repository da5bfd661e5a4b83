use Rattle.std.proofs.Common.{◌∙◌, ap, sym}
use Rattle.std.specs.Map.{lookup}
use Rattle.mon_schema.proofs.NamedLemmas.{no_value}
use Rattle.mon_value.specs.Same.{same_text}
use Rattle.mon_topo.proofs.NameMapLemmas.{lookup-named_entries}
use Rattle.mon_topo.proofs.names.NameMap.get_near.Goals as goal

pub returns-in_err-found-clause-found : goal.returns-in_err-found-clause-found
returns-in_err-found-clause-found c =
    c.from_residual.ensures ∙ sym (no_value _ c.in_err-found.ensures.found)
    ∙ lookup-named_entries c.args.name.now c.self.inside.numbers.entries
    ∙ ap (lookup (same_text c.args.name.now)) c.self.view_is

pub returns-clause-found : goal.returns-clause-found
returns-clause-found c =
    c.number_at.ensures.number ∙ c.in_ok-found.ensures.value
    ∙ lookup-named_entries c.args.name.now c.self.inside.numbers.entries
    ∙ ap (lookup (same_text c.args.name.now)) c.self.view_is
