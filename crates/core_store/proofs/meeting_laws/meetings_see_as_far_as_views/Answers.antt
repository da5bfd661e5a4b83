use Rattle.core_store.proofs.MeetingLemmas.{leaf_met, range_met}
use Rattle.core_store.proofs.meeting_laws.meetings_see_as_far_as_views.Goals as goal

pub returns : goal.returns
returns c = record { leaf = leaf_met; range = range_met }
