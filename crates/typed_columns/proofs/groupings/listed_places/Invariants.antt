-- What was made, in front of what is left.
use Rattle.std.proofs.Common.{◌≡◌, ◌++◌, drop}
use Rattle.typed_trees.specs.Faults.{first_with}
use Rattle.typed_trees.specs.Groupings.{listed_places}
use Rattle.typed_trees.specs.Items.{name_texts, taken_faults, with_names}
use Rattle.typed_columns.proofs.groupings.listed_places.Given as goal

abbrev pub invariant-loop-name : goal.invariant-loop-name
invariant-loop-name l = record {
  places : l.places ++ listed_places l.columns l.taken (drop l.name-index l.names)
      ≡ listed_places l.columns l.fn.taken l.names;
  names : with_names l.taken (name_texts (drop l.name-index l.names)) ≡ with_names l.fn.taken (name_texts l.names);
  faults : first_with l.found.first (taken_faults l.taken (drop l.name-index l.names))
      ≡ first_with l.fn.found.first (taken_faults l.fn.taken l.names);
}
