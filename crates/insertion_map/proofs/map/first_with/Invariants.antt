-- the entries so far have other keys
use Rattle.std.proofs.Common.{◌≡◌, ◌+◌, drop, option_map}
use Rattle.std_collections.specs.Layout.HashMap.{position}
use Rattle.insertion_map.proofs.map.first_with.Given as goal

abbrev pub invariant-loop-i : goal.invariant-loop-i
invariant-loop-i g l =
    let test = g.Q.Equivalent.equivalent l.key in
    position test l.entries ≡ option_map (λ n. l.i + n) (position test (drop l.i l.entries))
