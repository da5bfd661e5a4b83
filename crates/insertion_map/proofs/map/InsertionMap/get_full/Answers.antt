use Rattle.std.proofs.Common.{sym, ap, ◌∙◌}
use Rattle.std.specs.Option.{option_map}
use Rattle.std_collections.proofs.HashLookup.{get_key}
use Rattle.indexmap.proofs.MapLemmas.{Found-position, Missing-position}
use Rattle.insertion_map.proofs.map.InsertionMap.get_full.Goals as goal

pub returns-in_err-i-clause-key : goal.returns-in_err-i-clause-key
returns-in_err-i-clause-key g c =
    let m =
    Missing-position (g.Q.Equivalent.equivalent c.args.key) c.args.self.now.entries
    (sym c.get_index_of.ensures.index ∙ c.in_err-i.was) in
    ap (option_map (λ p. p.1.now)) c.from_residual.ensures ∙ sym m.key

pub returns-clause-key : goal.returns-clause-key
returns-clause-key g c =
    let f =
    Found-position (g.Q.Equivalent.equivalent c.args.key) c.args.self.now.entries _
    (sym c.get_index_of.ensures.index ∙ c.in_ok-i.was) in
    sym (f.key ∙ get_key c.args.self.now.entries _ ∙ ap (option_map (λ e. e.0)) c.pair_at.ensures)
