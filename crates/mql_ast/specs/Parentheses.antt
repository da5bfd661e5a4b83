-- The parentheses of a text.
use Rattle.std.specs.Prelude.{◌≡◌, ◌≤◌, ℕ, ◌==◌, List, count_by}
use Rattle.mql_ast.specs.Trees.{PipeTree}
use Rattle.mql_ast.specs.Places.{pipe_content}
use Rattle.mql_ast.specs.Grammar.{SpellsAtLength}

-- how many `(` a text has
unfoldable pub parentheses : List ℕ → ℕ
parentheses text = count_by (λ b. b == 40) text

-- each text of this tree, places aside, has at least as many parentheses
abbrev pub HasFewest : PipeTree → List ℕ → Type 0
HasFewest tree printed =
    (other : PipeTree) (text : List ℕ) → pipe_content other ≡ pipe_content tree → SpellsAtLength other text →
    parentheses printed ≤ parentheses text
