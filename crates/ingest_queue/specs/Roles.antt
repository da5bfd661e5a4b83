-- What each pass of the queue may do and has done, and how that goes together.
use Rattle.std.specs.Prelude.{◌≡◌, ℕ, Bool, true, false, not, List, [], ◌∷◌, ◌++◌, filter}
use mathlib.Core.Option.{some}
use lib.ListN.{get_elem?}
use Rattle.ingest_queue.specs.declared.roles.Role.{Role}
use Rattle.ingest_queue.specs.declared.turns.Turn.{Turn}

-- the record is of the first file, or of the second one
abbrev pub is_of : Bool → Turn → Bool
is_of false turn = not turn.second
is_of true turn = turn.second

-- the records of one file among these
abbrev pub of_file : Bool → List Turn → List Turn
of_file file turns = filter (is_of file) turns

abbrev pub role : Bool → Bool → Bool → List Turn → List Turn → List Turn → Role
role first second pops put_first put_second got =
    record { first = first; second = second; pops = pops; put_first = put_first; put_second = put_second; got = got }

-- the pass with all rights
abbrev pub whole : List Turn → List Turn → List Turn → Role
whole one other got = role true true true one other got

abbrev pub spent : Role
spent = role false false false [] [] []

-- whether a pass may push records of this file, and those that it pushed
abbrev pub may : Bool → Role → Bool
may false v = v.first
may true v = v.second

abbrev pub put : Bool → Role → List Turn
put false v = v.put_first
put true v = v.put_second

-- the pass that may push this file's records alone
abbrev pub alone : Bool → List Turn → Role
alone false all = role true false false all [] []
alone true all = role false true false [] all []

-- what is left where that right is taken away
abbrev pub without : Bool → Role → Role
without false v = role false v.second v.pops [] v.put_second v.got
without true v = role v.first false v.pops v.put_first [] v.got

-- where it is given back
abbrev pub given : Bool → Role → List Turn → Role
given false v all = role true v.second v.pops all v.put_second v.got
given true v all = role v.first true v.pops v.put_first all v.got

-- one record more was pushed, or popped
abbrev pub sent_by : Bool → Role → Turn → Role
sent_by false v turn = role v.first v.second v.pops (v.put_first ++ turn ∷ []) v.put_second v.got
sent_by true v turn = role v.first v.second v.pops v.put_first (v.put_second ++ turn ∷ []) v.got

abbrev pub taken : Role → Turn → Role
taken v turn = role v.first v.second v.pops v.put_first v.put_second (v.got ++ turn ∷ [])

-- it has all rights
abbrev pub is_shared : Role → Type 0
is_shared v = (v.first ≡ true) × (v.second ≡ true) × (v.pops ≡ true)

-- each right belongs to one pass at most, which knows what was done by it
abbrev pub Fits : (Bool → ℕ) → ℕ → (Bool → List Turn) → List Turn → ℕ → Role → Type 0
Fits seat reader sent got port v =
    ((file : Bool) → may file v ≡ true → (port ≡ seat file) × (put file v ≡ sent file))
    × (v.pops ≡ true → (port ≡ reader) × (v.got ≡ got))

-- what was pushed of each file begins the file, and is what was popped of it and then what the queue holds of it
abbrev pub IsInOrder : (Bool → List Turn) → List Turn → List Role → Type 0
IsInOrder all items views =
    (seat : Bool → ℕ) × (reader : ℕ) × (sent : Bool → List Turn) × (got : List Turn) × (rest : Bool → List Turn)
    × ((file : Bool) → of_file file (got ++ items) ≡ sent file)
    × ((file : Bool) → sent file ++ rest file ≡ all file)
    × ((port : ℕ) (v : Role) → get_elem? views port ≡ some v → Fits seat reader sent got port v)

-- the records of either file
abbrev pub each : List Turn → List Turn → Bool → List Turn
each one other false = one
each one other true = other

-- what this pass has pushed of the record's file goes on with the record
abbrev pub IsNext : (Bool → List Turn) → Role → Turn → Type 0
IsNext all v turn = (more : List Turn) × (put turn.second v ++ turn ∷ more ≡ all turn.second)

-- these records are, file by file, the first ones of each
pub record AreFirst (all : Bool → List Turn) (got : List Turn) : Type 0 where
  pub rest : Bool → List Turn
  pub whole : (file : Bool) → of_file file got ++ rest file ≡ all file

-- the record was popped, and all that was popped begins each file
abbrev pub IsTaken : (Bool → List Turn) → Role → Turn → Role → Type 0
IsTaken all v turn w = (w ≡ taken v turn) × AreFirst all w.got

-- what the pass with all rights knows of what the queue holds
abbrev pub IsHeld : Role → List Turn → Type 0
IsHeld v items = (file : Bool) → of_file file (v.got ++ items) ≡ put file v

-- whatever was pushed was popped
abbrev pub IsEmptied : Role → Type 0
IsEmptied v = (file : Bool) → of_file file v.got ≡ put file v
