-- Which fault of a query is told, and what it prints as.
use Rattle.std.specs.Prelude.{ℕ, ◌==◌, ◌&&◌, ◌||◌, Bool, nat_lt, List, [], ◌∷◌, Option, Some, None, if◌then◌else◌, ◌++◌}
use Rattle.std.specs.Prelude.{codes}
use Rattle.std.specs.Fmt.{decimal}
use Rattle.mon_value.specs.declared.values.ValueType.{ValueType}
use Rattle.mon_value.specs.declared.values.ValueType.TheVariants as type
use Rattle.typed_trees.specs.declared.faults.TypeFault.{TypeFault}
use Rattle.typed_trees.specs.declared.faults.TypeKind.{TypeKind}
use Rattle.typed_trees.specs.declared.faults.TypeKind.TheVariants as kind
use Rattle.typed_trees.specs.declared.faults.TypeWord.{TypeWord}
use Rattle.typed_trees.specs.declared.faults.TypeWord.TheVariants as word

-- Which fault of a query is told.

-- the number of a fault's kind, by which those at one place are ordered
abbrev pub kind_number : TypeKind → ℕ
kind_number kind.UnknownSchema = 1
kind_number kind.UnknownMetric = 2
kind_number kind.UnknownColumn = 3
kind_number (kind.Mismatch found wanted) = 4
kind_number kind.NotDelta = 5
kind_number kind.NotGauge = 6
kind_number kind.DuplicateColumn = 7
kind_number kind.BranchColumns = 8
kind_number kind.TooManyTimes = 9
kind_number (kind.TooWide bits) = 10
kind_number kind.BadOrder = 11

-- whether a fault stands before another: further left, or at one place with a lesser number
abbrev pub stands_before : TypeFault → TypeFault → Bool
stands_before a b =
    nat_lt a.at b.at || ((a.at == b.at) && nat_lt (kind_number a.kind) (kind_number b.kind))

-- the first of the fault that was found and of another
abbrev pub earlier_fault : Option TypeFault → TypeFault → TypeFault
earlier_fault None fault = fault
earlier_fault (Some found) fault = if stands_before fault found then fault else found

-- the first of the fault that was found and of further ones
abbrev pub first_with : Option TypeFault → List TypeFault → Option TypeFault
first_with found [] = found
first_with found (fault ∷ faults) = first_with (Some (earlier_fault found fault)) faults

-- the fault that is told: the one furthest left, there of the least number, and of these the first in the list
abbrev pub first_fault : List TypeFault → Option TypeFault
first_fault faults = first_with None faults

abbrev pub fault_at : ℕ → TypeKind → TypeFault
fault_at at kind = record { at = at; kind = kind }

-- the fault where the test says so, and else none
abbrev pub fault_where : Bool → ℕ → TypeKind → List TypeFault
fault_where test at kind = if test then fault_at at kind ∷ [] else []

-- what a type is called
abbrev pub type_word : ValueType → TypeWord
type_word type.Int = word.Int
type_word type.Bool = word.Bool
type_word type.Text = word.Text
type_word (type.Dist bounds) = word.Dist

-- What the fault of a query prints as: one of its type, and that its load is above a limit.

-- what a type is called
abbrev pub type_word_text : TypeWord → List ℕ
type_word_text word.Int = codes "int"
type_word_text word.Bool = codes "bool"
type_word_text word.Text = codes "text"
type_word_text word.Dist = codes "dist"

-- why a query has no type
abbrev pub type_kind_text : TypeKind → List ℕ
type_kind_text kind.UnknownSchema = codes "UnknownSchema"
type_kind_text kind.UnknownMetric = codes "UnknownMetric"
type_kind_text kind.UnknownColumn = codes "UnknownColumn"
type_kind_text (kind.Mismatch found wanted) =
    codes "Mismatch " ++ (type_word_text found ++ (codes " " ++ type_word_text wanted))
type_kind_text kind.NotDelta = codes "NotDelta"
type_kind_text kind.NotGauge = codes "NotGauge"
type_kind_text kind.DuplicateColumn = codes "DuplicateColumn"
type_kind_text kind.BranchColumns = codes "BranchColumns"
type_kind_text kind.TooManyTimes = codes "TooManyTimes"
type_kind_text (kind.TooWide bits) = codes "TooWide " ++ decimal bits
type_kind_text kind.BadOrder = codes "BadOrder"

-- the place in the text, and why the query has no type
abbrev pub type_fault_text : TypeFault → List ℕ
type_fault_text fault = decimal fault.at ++ (codes " " ++ type_kind_text fault.kind)

-- the load of a query is above this limit
abbrev pub limit_text : ℕ → List ℕ
limit_text limit = codes "StepLimit " ++ decimal limit
