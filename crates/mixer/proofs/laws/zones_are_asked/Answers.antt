use Rattle.mixer.proofs.RefusedParts.{zone_asked}
use Rattle.mixer.proofs.laws.zones_are_asked.Goals as goal

pub returns : goal.returns
returns c = record { leaves = zone_asked }
