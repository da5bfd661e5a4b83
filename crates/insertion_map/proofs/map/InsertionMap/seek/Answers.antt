use Rattle.std.proofs.Common.{ap, ◌∙◌}
use Rattle.std_collections.specs.Layout.HashMap.{position}
use Rattle.indexmap.proofs.MapLemmas.{index_is}
use Rattle.insertion_map.proofs.map.InsertionMap.seek.Goals as goal

pub returns-clause-index : goal.returns-clause-index
returns-clause-index g c =
    let test = g.Q.Equivalent.equivalent c.args.key in
    c.first_with.ensures.first ∙ ap (position test) c.entries-entries.ensures.entries ∙ index_is test c.args.self.now.entries
