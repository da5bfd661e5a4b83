use Rattle.kept_exchanges.proofs.ApartLemmas.{load_apart, rows_apart}
use Rattle.kept_exchanges.proofs.apart.series_stand_apart.Goals as goal

pub returns : goal.returns
returns c = record {
  meaning = λ grid info by input key rows. rows_apart key grid by input rows;
  load = λ grid info by input key rows. load_apart key grid by input rows info;
}
