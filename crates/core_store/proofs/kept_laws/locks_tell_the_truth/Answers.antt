use Rattle.core_store.proofs.LockLemmas.{lock_true}
use Rattle.core_store.proofs.kept_laws.locks_tell_the_truth.Goals as goal

pub returns : goal.returns
returns c = record { told = lock_true }
