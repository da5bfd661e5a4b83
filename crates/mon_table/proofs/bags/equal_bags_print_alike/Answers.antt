use Rattle.std.proofs.Common.{◌++◌, sym}
use Rattle.std.specs.Fmt.{decimal}
use Rattle.std.proofs.lemmas.List.Sorted.{length_permutation}
use Rattle.mon_table.specs.Tables.{codes, lines_of_rows, newline}
use Rattle.mon_value.proofs.RowOrderLemmas.{sorted_rows-alike}
use Rattle.mon_table.proofs.bags.equal_bags_print_alike.Goals as goal

pub returns : goal.returns
returns c = record {
  alike = λ names rows others p.
      let same = sorted_rows-alike rows others p in
      let count = sym (length_permutation rows others p) in
      λ i. lines_of_rows names (same i) ++ decimal (count i) ++ codes " rows" ++ newline;
}
