use Rattle.std.proofs.Common.{◌∙◌, ap}
use Rattle.std.specs.Map.{lookup}
use Rattle.mon_value.specs.Same.{same_text}
use Rattle.mon_topo.proofs.NameMapLemmas.{lookup-named_entries}
use Rattle.mon_topo.proofs.names.NameMap.get.Goals as goal

pub returns : goal.returns
returns c =
    let name = c.args.name.now in
    record {
      found = c.copied.ensures ∙ c.get.ensures.value ∙ lookup-named_entries name c.self.inside.numbers.entries
          ∙ ap (lookup (same_text name)) c.self.view_is;
    }
