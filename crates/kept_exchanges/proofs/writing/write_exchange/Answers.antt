use Rattle.std.proofs.Common.{◌++◌, ◌∷◌, IsPermutation, sym, subst}
use Rattle.std.specs.Option.{option_to_list}
use Rattle.kept_exchanges.proofs.WriteLemmas.{pushed}
use Rattle.kept_exchanges.proofs.writing.write_exchange.Goals as goal

pub returns-in-None-clause-exchanged : goal.returns-in-None-clause-exchanged
returns-in-None-clause-exchanged c rest same =
    let rows = c.args.rows.now.items in
    subst (IsPermutation (c.args.exchange.come ∷ rest)) (sym c.push_reserved.ensures.items)
    (pushed rows rest c.args.exchange.come
    (subst (λ o. IsPermutation (option_to_list o ++ rest) rows) c.in-None.is same))
