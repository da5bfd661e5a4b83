-- the places so far and those of the marks that are left are all
use Rattle.std.proofs.Common.{◌≡◌, ◌++◌, drop}
use Rattle.mon_table.specs.Places.{unmarked}
use Rattle.mon_table.proofs.places.Places.add_unmarked.Given as goal

abbrev pub invariant-loop-place : goal.invariant-loop-place
invariant-loop-place l = record {
  lefts : l.self.lefts ≡ l.initial.self.lefts;
  rights : l.self.rights ≡ l.initial.self.rights;
  own : l.self.own.items ++ unmarked l.place (drop l.place l.marks) ≡ l.initial.self.own.items
      ++ unmarked 0 l.marks;
}
