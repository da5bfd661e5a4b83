use Rattle.std.proofs.Common.{◌≡◌, ◌∙◌, take, ap, rules}
use Rattle.mon_value.specs.Order.{sorted_list}
use Rattle.mon_value.specs.Groups.{rank_cmp}
use Rattle.mon_meaning.proofs.TopLemmas.{sorted_by_rank}
use Rattle.mon_meaning.proofs.tops.first_rows.Goals as goal

pub returns : goal.returns
returns c =
    let sorted : c.sort_unstable_by.new.self.items ≡ sorted_list (rank_cmp c.args.column) c.args.rows.items =
    sorted_by_rank c.args.column c.args.rows.items c.sort_unstable_by.new.self.items
    c.sort_unstable_by.ensures.permutation
    c.sort_unstable_by.ensures.sorted (λ a r f' k. (search rules, search rules)) in
    record { first = c.truncate.ensures.items ∙ ap (take c.args.most) sorted }
