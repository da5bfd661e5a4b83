use Rattle.std.proofs.lemmas.List.Sorted.{IsPermutation-append, IsPermutation-append_comm}
use Rattle.mon_table.proofs.bags.equal_bags_unite_alike.Goals as goal

pub returns : goal.returns
returns c = record {
  alike = λ columns rows rows' others others' left right. IsPermutation-append rows rows' others others' left right;
  commute = λ columns rows others. IsPermutation-append_comm rows others;
}
