-- the places so far and those of the columns that are left are all
use Rattle.std.proofs.Common.{◌≡◌, ◌++◌, drop}
use Rattle.mon_table.specs.Places.{left_places, right_places}
use Rattle.mon_table.proofs.places.Places.add_named.Given as goal

abbrev pub invariant-loop-place : goal.invariant-loop-place
invariant-loop-place l = record {
  lefts : l.self.lefts.items ++ left_places l.place (drop l.place l.lefts) l.rights ≡ l.initial.self.lefts.items
      ++ left_places 0 l.lefts l.rights;
  rights : l.self.rights.items ++ right_places (drop l.place l.lefts) l.rights ≡ l.initial.self.rights.items
      ++ right_places l.lefts l.rights;
  own : l.self.own ≡ l.initial.self.own;
}
