use Rattle.std.proofs.Common.{rules, ◌≡◌, ◌∙◌, take, drop, length, min, ap}
use Rattle.std.proofs.lemmas.List.{drop_min, take_min}
use Rattle.standing.proofs.blocks.split_block.Goals as goal

pub returns-clause-block : goal.returns-clause-block
returns-clause-block c =
    let queries = c.args.queries.now in
    let least : c.min.result ≡ min 64 (length queries) = search rules in
    c.split_at.ensures.front ∙ ap (λ n. take n queries) least ∙ take_min 64 queries

pub returns-clause-behind : goal.returns-clause-behind
returns-clause-behind c =
    let queries = c.args.queries.now in
    let least : c.min.result ≡ min 64 (length queries) = search rules in
    c.split_at.ensures.back ∙ ap (λ n. drop n queries) least ∙ drop_min 64 queries
