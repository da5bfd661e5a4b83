-- the places so far and those that are left are all
use Rattle.std.proofs.Common.{◌≡◌, ◌++◌, drop, map}
use Rattle.mon_table.proofs.places.Places.add_found.Given as goal

abbrev pub invariant-loop-right : goal.invariant-loop-right
invariant-loop-right l = record {
  lefts : l.self.lefts.items ++ map (λ right. l.place) (drop l.right-index l.found) ≡ l.initial.self.lefts.items
      ++ map (λ right. l.place) l.found;
  rights : l.self.rights.items ++ drop l.right-index l.found ≡ l.initial.self.rights.items ++ l.found;
  own : l.self.own ≡ l.initial.self.own;
}
