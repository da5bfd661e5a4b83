-- Which of the words that may come is named: the first.
use Rattle.std.specs.Prelude.{◌≡◌, ℕ, true, List, take}
use Rattle.mql_parse.specs.declared.faults.ParseFault.{ParseFault}
use Rattle.mql_parse.specs.declared.faults.ParseKind.TheVariants.{Expected}
use Rattle.mql_parse.specs.declared.faults.What.{What}
use Rattle.mql_parse.specs.WordOrder.{allows}
use Rattle.mql_parse.specs.FaultTokens.{MayStandBehind}

-- no word may come that is earlier than the one that is expected
abbrev pub IsFirst : List ℕ → What → Type 0
IsFirst front w = (v : What) → MayStandBehind front v → allows w v ≡ true

-- what is expected is the first that may come at the place of the fault
abbrev pub FirstKind : List ℕ → ParseFault → Type 0
FirstKind text f = (w : What) → f.kind ≡ Expected w → IsFirst (take f.at text) w
