-- the text is that of the leaves so far
use Rattle.std.proofs.Common.{◌≡◌, take, string_bytes}
use Rattle.mon_topo.specs.Zones as spec
use Rattle.mon_topo.proofs.name_texts.founds_text.Given as goal

abbrev pub invariant-loop-found : goal.invariant-loop-found
invariant-loop-found l = string_bytes l.text ≡ spec.founds_text l.topology (take l.found-index l.founds)
