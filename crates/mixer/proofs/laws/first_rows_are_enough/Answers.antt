use Rattle.mixer.proofs.TopMerges.{top_of_top, top_of_tops}
use Rattle.mixer.proofs.laws.first_rows_are_enough.Goals as goal

pub returns : goal.returns
returns c = record {
  of_one = λ most column rows others. top_of_top column most rows others;
  of_both = λ most column rows others. top_of_tops column most rows others;
}
