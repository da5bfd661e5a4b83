-- The order of the words that may be expected: of several that may come the first is named.
use Rattle.std.specs.Prelude.{ℕ, Bool, ◌==◌, ◌||◌, ◌&&◌, nat_le, if◌then◌else◌}
use Rattle.mql_parse.specs.declared.faults.What.{What}
use Rattle.mql_parse.specs.declared.faults.What.TheVariants as what

-- where a word stands in the order
abbrev pub rank : What → ℕ
rank what.Fetch = 0
rank what.Name = 1
rank what.Metric = 2
rank what.Text = 3
rank what.Number = 4
rank what.Unit = 5
rank what.Truth = 6
rank what.Comparison = 7
rank what.Aligner = 8
rank what.Aggregate = 9
rank what.Operation = 10
rank what.How = 11
rank what.OpenBrace = 12
rank what.CloseBrace = 13
rank what.OpenBracket = 14
rank what.CloseBracket = 15
rank what.OpenParenthesis = 16
rank what.CloseParenthesis = 17
rank what.Colons = 18
rank what.Colon = 19
rank what.Comma = 20
rank what.Semicolon = 21
rank what.Bar = 22
rank what.Or = 23
rank what.And = 24
rank what.Not = 25
rank what.Plus = 26
rank what.Minus = 27

-- the words that are spelled as names are: fetch, truth, aligner, aggregate, operation, how
abbrev pub is_keyword : What → Bool
is_keyword w = rank w == 0 || rank w == 6 || (nat_le 8 (rank w) && nat_le (rank w) 11)

abbrev pub stands_alone : What → Bool
stands_alone w = is_keyword w || rank w == 5

-- whether the second word may come too where the first is expected. It is a later one; and where a keyword or a unit is
-- expected nothing else may come, but a brace where `fetch` is
abbrev pub allows : What → What → Bool
allows w v =
    if stands_alone w then rank v == rank w || (rank w == 0 && rank v == 12) else nat_le (rank w) (rank v)
