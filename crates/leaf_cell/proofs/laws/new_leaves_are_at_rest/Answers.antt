use Rattle.std.proofs.Common.{refl}
use Rattle.history_book.proofs.HistoryLemmas.{none_at}
use Rattle.leaf_cell.proofs.laws.new_leaves_are_at_rest.Goals as goal

pub returns : goal.returns
returns c = record {
  rest = λ setting raise leaf bits leaves ranges buckets. record {
    leaf_is = refl;
    free = refl;
    history = none_at leaves leaf.0;
    promised = refl;
    raised = record { root = λ bucket. refl; zone = λ bucket. refl };
    goes_by = record { schemas = refl; number = refl; buckets = buckets };
  };
}
