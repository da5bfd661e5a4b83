-- When a number is too large: where its next byte could stand behind a smaller number.
use Rattle.std.specs.Prelude.{◌≡◌, ℕ, ◌+◌, true, ◌==◌, ◌&&◌, not, List, [], ◌∷◌, ◌++◌, length}
use Rattle.mql_ast.specs.Tokens.{is_digit}
use Rattle.mql_ast.specs.Grammar.{Begins}
use Rattle.mql_parse.specs.declared.faults.ParseFault.{ParseFault}
use Rattle.mql_parse.specs.declared.faults.ParseKind.TheVariants.{NumberTooLarge}

abbrev pub AreDigits : List ℕ → Type 0
AreDigits [] = Unit {0}
AreDigits (b ∷ bs) = (is_digit b ≡ true) × AreDigits bs

-- a number from 1 on: a digit from 1 to 9, and digits
abbrev pub IsNumber : List ℕ → Type 0
IsNumber [] = ⊥
IsNumber (b ∷ bs) = ((is_digit b && not (b == 48)) ≡ true) × AreDigits bs

-- directly behind a number of the text, at this place, stands a byte that could stand behind the number 1 in its place
pub record CouldEndSmaller (text : List ℕ) (at : ℕ) : Type 0 where
  pub before : List ℕ
  pub number : List ℕ
  pub byte : ℕ
  pub after : List ℕ
  pub is_number : IsNumber number
  pub bytes : text ≡ before ++ (number ++ byte ∷ after)
  pub place : at ≡ length before + length number
  pub smaller : Begins (before ++ 49 ∷ byte ∷ [])

-- a fault is `NumberTooLarge` exactly where its byte could stand behind a smaller number
pub record NumberKind (text : List ℕ) (f : ParseFault) : Type 0 where
  pub smaller : f.kind ≡ NumberTooLarge → CouldEndSmaller text f.at
  pub too_large : CouldEndSmaller text f.at → f.kind ≡ NumberTooLarge
