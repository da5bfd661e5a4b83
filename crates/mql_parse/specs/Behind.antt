-- What is left later on is a part of what is left now.
use Rattle.std.specs.Prelude.{◌≡◌, ℕ, ◌+◌, ◌<◌, List, ◌++◌, length}
use Rattle.mql_ast.specs.Tokens.{Rest}

-- the second is what is left of the first once these bytes are read
pub record From (s r : Rest) : Type 0 where
  pub front : List ℕ
  pub bytes : s.bytes ≡ front ++ r.bytes
  pub place : r.at ≡ s.at + length front

-- the same, where some bytes are read
pub record Behind (s r : Rest) : Type 0 where
  pub front : List ℕ
  pub bytes : s.bytes ≡ front ++ r.bytes
  pub place : r.at ≡ s.at + length front
  pub read : 0 < length front
