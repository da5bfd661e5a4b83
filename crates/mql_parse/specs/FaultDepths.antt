-- When a text is too deep: where a byte would be allowed but for the number of levels.
use Rattle.std.specs.Prelude.{◌≡◌, ℕ, ◌+◌, ◌<◌, List, [], ◌++◌, length, take}
use Rattle.mql_ast.specs.Trees.{PipeTree}
use Rattle.mql_ast.specs.Tokens.{Rest, skip}
use Rattle.mql_ast.specs.Grammar.{start, levels, Pipe}
use Rattle.mql_parse.specs.declared.faults.ParseFault.{ParseFault}
use Rattle.mql_parse.specs.declared.faults.ParseKind.TheVariants.{TooDeep}

-- the tree spells the text with at most so many levels of braces, parentheses and `!`, whatever its length
pub record SpellsWithin (d : ℕ) (tree : PipeTree) (text : List ℕ) : Type 0 where
  pub begins : skip (start text) ≡ start text
  pub end : Rest
  pub whole : Pipe d (start text) end tree
  pub ended : end.bytes ≡ []

-- the text begins some text that a tree spells with at most so many levels
pub record BeginsWithin (d : ℕ) (front : List ℕ) : Type 0 where
  pub more : List ℕ
  pub tree : PipeTree
  pub spelled : SpellsWithin d tree (front ++ more)

-- a fault is `TooDeep` exactly where the text could go on with its byte if it had more levels
pub record DepthKind (text : List ℕ) (f : ParseFault) : Type 0 where
  pub too_deep : f.kind ≡ TooDeep → (d : ℕ) → levels < d → BeginsWithin d (take (f.at + 1) text)
  pub other : (f.kind ≡ TooDeep → ⊥) → f.at < length text → (d : ℕ) → BeginsWithin d (take (f.at + 1) text) → ⊥
