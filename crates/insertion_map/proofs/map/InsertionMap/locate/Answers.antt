use Rattle.std.proofs.Common.{sym, ap, ◌∙◌}
use Rattle.std_collections.specs.Layout.HashMap.{position}
use Rattle.indexmap.proofs.MapLemmas.{index_is}
use Rattle.insertion_map.proofs.map.InsertionMap.locate.Goals as goal

pub returns-in-Some-clause-found : goal.returns-in-Some-clause-found
returns-in-Some-clause-found g c =
    let test = g.Q.Equivalent.equivalent c.args.key in
    sym (index_is test c.args.self.now.entries) ∙ ap (position test) (sym c.entries-entries.ensures.entries)
    ∙ sym c.first_with.ensures.first ∙ c.in-Some.is

pub returns-in-None-clause-absent : goal.returns-in-None-clause-absent
returns-in-None-clause-absent g c =
    let test = g.Q.Equivalent.equivalent c.args.key in
    sym (index_is test c.args.self.now.entries) ∙ ap (position test) (sym c.entries-entries.ensures.entries)
    ∙ sym c.first_with.ensures.first ∙ c.in-None.is
