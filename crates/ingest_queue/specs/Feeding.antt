-- A file's records on their way to the queue.
use Rattle.std.specs.Prelude.{◌≡◌, ◌+◌, ◌∷◌, ◌++◌, ℕ, Bool, List, [], Option, option_to_list}
use Rattle.ingest_queue.specs.Roles.{alone, put}
use Rattle.ingest_queue.specs.declared.roles.Role.{Role}
use Rattle.ingest_queue.specs.declared.turns.Turn.{Turn}
use Rattle.mon_points.specs.declared.records.RowRead.{RowRead}

-- the records of a file, numbered on from one
abbrev pub numbered : Bool → ℕ → List RowRead → List Turn
numbered file n [] = []
numbered file n (read ∷ reads) = record { second = file; number = n; read = read } ∷ numbered file (n + 1) reads

-- the records that were not pushed yet: the one that is held back, and those behind it
abbrev pub left_of : Option Turn × List Turn → List Turn
left_of feeder = option_to_list feeder.0 ++ feeder.1

-- all of them are of this file
abbrev pub IsOf : Bool → List Turn → Type 0
IsOf file [] = Unit {0}
IsOf file (turn ∷ turns) = (turn.second ≡ file) × IsOf file turns

-- the pass pushes this file's records alone, and those that are left are the file's last ones
pub record IsFeeding (all : Bool → List Turn) (file : Bool) (v : Role) (left : List Turn) : Type 0 where
  pub own : v ≡ alone file (put file v)
  pub behind : put file v ++ left ≡ all file
  pub of : IsOf file left
