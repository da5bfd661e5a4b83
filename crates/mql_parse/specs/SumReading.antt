-- How sums and items are read.
use Rattle.std.specs.Prelude.{ℕ, zero, suc, Bool, true, false, ◌==◌, ◌||◌, List, [], codes, Some, None, Ok, Err}
use Rattle.std.specs.Prelude.{if◌then◌else◌}
use Rattle.std.specs.Cmp.Lexicographic.{pointwise}
use Rattle.std.specs.Prelude.{nat_eq}
use Rattle.mon_value.specs.Answers.{◌>>=◌}
use Rattle.mql_ast.specs.declared.names.Name.{Name}
use Rattle.mql_ast.specs.Trees.{SumTree, Column, Number, Plus, Minus, Percentile, ItemTree}
use Rattle.mql_ast.specs.Tokens.{is_letter, is_digit, Rest, head, behind, skip, word_here}
use Rattle.mql_parse.specs.declared.faults.ParseKind.TheVariants.{TooDeep}
use Rattle.mql_parse.specs.declared.faults.What.{What}
use Rattle.mql_parse.specs.declared.faults.What.TheVariants as what
use Rattle.mql_parse.specs.Outcomes.{Outcome, fault, unexpected_fault, sign, map_outcome}
use Rattle.mql_parse.specs.Repeats.{Turn, Done, goes_on, repetition, list_turn}
use Rattle.mql_parse.specs.TokenReading.{name, positive, signed_reading}

-- a sum, and whether it ends in the bare word `percentile`, behind which a parenthesis may come
pub record SumSeen : Type 0 where
  pub sum : SumTree
  pub bare : Bool

abbrev pub as_sum_seen : SumTree → Bool → SumSeen
as_sum_seen sum bare = record { sum = sum; bare = bare }

abbrev pub is_percentile : List ℕ → Bool
is_percentile word = pointwise nat_eq word (codes "percentile")

-- a percentile, from behind its parenthesis
unfoldable pub percentile : ℕ → Rest → Outcome SumSeen
percentile at s = do
  column ← name s
  comma ← sign 44 what.Comma column.1
  p ← positive 100 comma
  r ← sign 41 what.CloseParenthesis p.1
  Ok (as_sum_seen (Percentile at column.0 p.0) false, r)

-- a column, or a percentile of one
abbrev pub word_read : Name × Rest → Outcome SumSeen
word_read word =
    if is_percentile word.0.text then (if head (skip word.1) == 40 then percentile word.0.at (behind (skip word.1))
    else Ok (as_sum_seen (Column word.0) true, word.1))
    else Ok (as_sum_seen (Column word.0) false, word.1)

abbrev pub number_term : Rest → Outcome SumSeen
number_term s = map_outcome (λ z. as_sum_seen (Number (skip s).at z) false) (signed_reading s)

-- a term, where a parenthesis at its front is read so
unfoldable pub term_with : (Rest → Rest → Outcome SumSeen) → Rest → Outcome SumSeen
term_with group s =
    let t = skip s in
    let b = head t in
    if b == 40 then group t (behind t) else
    (if b == 45 || is_digit b then number_term s else
    (if is_letter b then word_read (word_here t) else Err (unexpected_fault what.Name t)))

abbrev pub sum_plus : SumSeen → SumSeen → SumSeen
sum_plus left right = as_sum_seen (Plus left.sum right.sum) right.bare

abbrev pub sum_minus : SumSeen → SumSeen → SumSeen
sum_minus left right = as_sum_seen (Minus left.sum right.sum) right.bare

-- a further term
unfoldable pub term_turn : (Rest → Outcome SumSeen) → SumSeen → Rest → Turn SumSeen
term_turn term left s =
    let t = skip s in
    if head t == 43 then goes_on (sum_plus left) (term (behind t)) else
    (if head t == 45 then goes_on (sum_minus left) (term (behind t)) else Done left s)

unfoldable pub sum_with : (Rest → Outcome SumSeen) → Rest → Outcome SumSeen
sum_with term s = term s >>= λ first. repetition (term_turn term) first.0 first.1

abbrev pub behind_sum : Bool → What
behind_sum bare = if bare then what.OpenParenthesis else what.CloseParenthesis

abbrev pub sum_end : SumSeen × Rest → Outcome SumSeen
sum_end inner = sign 41 (behind_sum inner.0.bare) inner.1 >>= λ r. Ok (as_sum_seen inner.0.sum false, r)

-- a sum in parentheses, from behind the first, which stands here
unfoldable pub sum_group : ℕ → Rest → Rest → Outcome SumSeen
sum_group zero here s = Err (fault TooDeep here)
sum_group (suc d) here s = sum_with (term_with (sum_group d)) s >>= sum_end

abbrev pub term : ℕ → Rest → Outcome SumSeen
term d = term_with (sum_group d)

abbrev pub sum : ℕ → Rest → Outcome SumSeen
sum d = sum_with (term d)

abbrev pub single : Name → ItemTree
single column = record { name = None; sum = Column column }

abbrev pub labelled_item : Name → SumTree → ItemTree
labelled_item label sum = record { name = Some label; sum = sum }

abbrev pub labelled_sum : Name → SumSeen → ItemTree
labelled_sum label read = labelled_item label read.sum

-- a name and a sum, or a single column
abbrev pub item_behind : (Rest → Outcome SumSeen) → Name × Rest → Outcome ItemTree
item_behind sum first =
    if head (skip first.1) == 58 then map_outcome (labelled_sum first.0) (sum (behind (skip first.1)))
    else Ok (single first.0, first.1)

unfoldable pub item_with : (Rest → Outcome SumSeen) → Rest → Outcome ItemTree
item_with sum s = name s >>= item_behind sum

-- items between brackets, from behind the first
unfoldable pub items_with_sum : (Rest → Outcome SumSeen) → Rest → Outcome (List ItemTree)
items_with_sum sum s = repetition (list_turn 93 what.CloseBracket (item_with sum)) [] s

abbrev pub items : ℕ → Rest → Outcome (List ItemTree)
items d = items_with_sum (sum d)
