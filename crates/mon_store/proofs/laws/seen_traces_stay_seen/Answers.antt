use Rattle.mon_store.proofs.SeenTraceLemmas.{still_seen}
use Rattle.mon_store.proofs.laws.seen_traces_stay_seen.Goals as goal

pub returns : goal.returns
returns c = record { stay = λ zones before after trace fronts is. still_seen zones trace before after fronts is }
