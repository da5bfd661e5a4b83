-- Which book is meant, and its shape.
use Rattle.std.specs.Prelude.{◌≡◌, ℕ, ◌+◌, ◌<◌}
use Rattle.atomic_table.specs.Seated.{TableId}

-- the book itself, and how many leaves and ranges have a history in it
pub record BookIdentity : Type 0 where
  pub id : TableId
  pub leaves : ℕ
  pub ranges : ℕ

-- one word comes before those of the histories and never changes
abbrev pub word_count : ℕ → ℕ → ℕ
word_count leaves ranges = leaves + ranges + 1

abbrev pub word_of_history : ℕ → ℕ
word_of_history history = history + 1

abbrev pub IsShaped : BookIdentity → Type 0
IsShaped book = book.id.words ≡ word_count book.leaves book.ranges

abbrev pub HasHistory : BookIdentity → ℕ → Type 0
HasHistory book history = history < book.leaves + book.ranges
