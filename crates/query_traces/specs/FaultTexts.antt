-- What a query prints that has no table.
use Rattle.std.specs.Prelude.{ℕ, List, ◌++◌, codes}
use Rattle.mon_topo.specs.Zones.{down_text}
use Rattle.mon_topo.specs.declared.zones.ZoneSpec.{ZoneSpec}
use Rattle.typed_trees.specs.Faults.{limit_text}
use Rattle.query_traces.specs.declared.answers.RoundFault.{RoundFault}
use Rattle.query_traces.specs.declared.answers.RoundFault.TheVariants as fault

-- why there is no table, with the names of leaves and ranges
abbrev pub round_fault_text : List ZoneSpec → RoundFault → List ℕ
round_fault_text zones (fault.NoReplica range founds) = codes "NoReplica " ++ down_text zones range founds
round_fault_text zones (fault.StepLimit limit trace) = limit_text limit
