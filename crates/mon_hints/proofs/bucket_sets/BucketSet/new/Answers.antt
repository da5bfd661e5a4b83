use Rattle.mon_hints.proofs.SetLemmas.{none_inserted}
use Rattle.mon_hints.proofs.bucket_sets.BucketSet.new.Goals as goal

pub returns : goal.returns
returns c = record { none = none_inserted }
