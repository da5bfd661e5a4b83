use Rattle.std.proofs.Common.{◌∙◌, ap}
use Rattle.mon_value.specs.Order.{sorted_rows}
use Rattle.mon_value.proofs.RowOrderLemmas.{sorted_rows-sorted}
use Rattle.mon_table.proofs.tables.ordered.Goals as goal

pub returns : goal.returns
returns c =
    let sort = c.sort_unstable.ensures in
    record {
      order = c.from_vec.ensures.items ∙ sorted_rows-sorted c.into_vec-items.result.items
          c.sort_unstable.new.self.items sort.permutation sort.sorted ∙ ap sorted_rows c.into_vec-items.ensures.items;
    }
