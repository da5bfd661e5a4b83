use Rattle.std.proofs.Common.{◌≡◌, ◌∙◌, ap, sym, subst, is_some, slice_get, IfSome, rules}
use Rattle.indexmap.specs.IndexMap.{values, get_by, index_of_by}
use Rattle.indexmap.proofs.MapLemmas.{some_index, value_index}
use Rattle.insertion_map.proofs.map.InsertionMap.get_near.Goals as goal

pub returns-clause-found : goal.returns-clause-found
returns-clause-found g c =
    let test = g.Q.Equivalent.equivalent c.args.key in
    let index : c.ok.result ≡ index_of_by test c.args.self.now = search rules in
    ap is_some index ∙ some_index test c.args.self.now.entries

pub returns-clause-value : goal.returns-clause-value
returns-clause-value g c =
    let test = g.Q.Equivalent.equivalent c.args.key in
    let index : c.ok.result ≡ index_of_by test c.args.self.now = search rules in
    subst (λ r. IfSome r (λ i. slice_get (values c.args.self.now) i ≡ get_by test c.args.self.now))
    (sym index) (value_index test c.args.self.now.entries)
