-- How entries that are with their replicas are kept: in runs.
use Rattle.std.specs.Prelude.{ℕ, zero, suc, ◌+◌, ◌-◌, List, [], ◌∷◌, ◌++◌, flat_map}
use Rattle.leaf_store.specs.declared.kept.Kept.{Kept}
use Rattle.leaf_store.specs.declared.kept.Kept.TheVariants as kept
use Rattle.leaf_store.specs.declared.runs.Run.{Run}
use Rattle.leaf_store.specs.declared.runs.Run.TheVariants as run

-- so many puts of one pass to one replica, whose rows follow one another from this one on
abbrev pub puts : ℕ → ℕ → ℕ → ℕ → List Kept
puts pass replica row zero = []
puts pass replica row (suc count) = kept.Put pass replica row ∷ puts pass replica (row + 1) count

-- the entries of a run
abbrev pub run_entries : Run → List Kept
run_entries (run.Puts replica first last pass) = puts pass replica first (last + 1 - first)
run_entries (run.Opened replica count pass) = kept.Opened pass replica count ∷ []
run_entries (run.Trim replica before pass) = kept.Trim pass replica before ∷ []
run_entries (run.Down pass) = kept.Down pass ∷ []
run_entries (run.Up pass) = kept.Up pass ∷ []

-- the entries of some runs and of a last one
abbrev pub entries_of : List Run → Run → List Kept
entries_of runs last = flat_map run_entries runs ++ run_entries last
