-- the fields so far are not the location's, so it is the location of what is left
use Rattle.std.proofs.Common.{◌≡◌, drop}
use Rattle.mon_topo.specs.Locations.{location_in}
use Rattle.mon_topo.proofs.locations.location_in.Given as goal

abbrev pub invariant-loop-field : goal.invariant-loop-field
invariant-loop-field l = location_in l.fields l.values ≡ location_in (drop l.field-index l.fields) l.left
