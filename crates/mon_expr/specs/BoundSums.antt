-- What a bound expression comes to in a row, and of which expression it does.
use Rattle.std.specs.Prelude.{◌≡◌, ◌<◌, ◌≤◌, ℕ, ℤ, pos, ◌+◌, ◌^◌, ◌+ℤ◌, ◌-ℤ◌, unsigned_abs, Bool, List, [], ◌∷◌}
use Rattle.std.specs.Prelude.{length, sum, slice_get, Option, Some, None, option_map, option_and_then, if◌then◌else◌}
use Rattle.std.specs.List.{AllByRecursion}
use Rattle.std.specs.Option.{ForSome, option_map_or}
use Rattle.mon_value.specs.declared.limits.TheConstants.{NUMBER_BITS}
use Rattle.mon_value.specs.Groups.{percentile_of, number_in, counts_in}
use Rattle.mon_value.specs.Values.{greatest_sum}
use Rattle.mon_value.specs.declared.columns.Column.{Column}
use Rattle.mon_value.specs.declared.values.Value.{Value}
use Rattle.mon_value.specs.declared.values.Value.TheVariants as value
use Rattle.mql_ast.specs.Rows.{sum_value, CanCompute}
use Rattle.mql_ast.specs.Trees.{SumTree}
use Rattle.mon_expr.specs.declared.bound_sums.BoundExpr.{BoundExpr}
use Rattle.mon_expr.specs.declared.bound_sums.BoundExpr.TheVariants as bound
use Rattle.mon_expr.specs.declared.bound_sums.SignedTerm.{SignedTerm}
use Rattle.mon_expr.specs.declared.bound_sums.Term.{Term}
use Rattle.mon_expr.specs.declared.bound_sums.Term.TheVariants as term

-- the distribution at a place
abbrev pub counts_at : ℕ → List Value → Option (List ℕ)
counts_at place cells = option_and_then counts_in (slice_get cells place)

-- the number that a term is in a row
abbrev pub term_number : Term → List Value → Option ℤ
term_number (term.Column place) cells = option_and_then number_in (slice_get cells place)
term_number (term.Number z) cells = Some z
term_number (term.Percentile place bounds p) cells =
    option_and_then (λ counts. percentile_of counts bounds p) (counts_at place cells)

-- a number, or the same below zero
abbrev pub with_sign : Bool → ℤ → ℤ
with_sign minus z = if minus then pos 0 -ℤ z else z

-- two numbers added, where both are there
abbrev pub sum_of_both : Option ℤ → Option ℤ → Option ℤ
sum_of_both None other = None
sum_of_both (Some y) None = None
sum_of_both (Some y) (Some z) = Some (y +ℤ z)

abbrev pub signed_number : SignedTerm → List Value → Option ℤ
signed_number signed cells = option_map (with_sign signed.minus) (term_number signed.term cells)

-- all terms added up
abbrev pub terms_total : List SignedTerm → List Value → Option ℤ
terms_total [] cells = Some (pos 0)
terms_total (signed ∷ terms) cells = sum_of_both (signed_number signed cells) (terms_total terms cells)

-- what a bound expression comes to in a row
abbrev pub bound_value : BoundExpr → List Value → Option Value
bound_value (bound.Column place) cells = slice_get cells place
bound_value (bound.Terms terms) cells = option_map value.Int (terms_total terms cells)

-- how much a term counts at most, whether it is added or taken away: a number and a percentile have 64 bits
abbrev pub term_size : Term → List Value → ℕ
term_size (term.Column place) cells = option_map_or unsigned_abs (option_and_then number_in (slice_get cells place)) 0
term_size (term.Number z) cells = 2 ^ NUMBER_BITS
term_size (term.Percentile place bounds p) cells = 2 ^ NUMBER_BITS

abbrev pub terms_size : List SignedTerm → List Value → ℕ
terms_size [] cells = 0
terms_size (signed ∷ terms) cells = term_size signed.term cells + terms_size terms cells

-- the distribution of which a percentile is taken fits its bounds, and a hundred times its total is still a number
pub record CanDivide (bounds : List ℤ) (p : ℕ) (counts : List ℕ) : Type 0 where
  pub from_one : 1 ≤ p
  pub to_hundred : p ≤ 100
  pub bounded : 0 < length bounds
  pub buckets : length counts ≡ length bounds + 1
  pub total : sum counts ≤ 2 ^ 119

abbrev pub CanTake : Term → List Value → Type 0
CanTake (term.Column place) cells = Unit {0}
CanTake (term.Number z) cells = Unit {0}
CanTake (term.Percentile place bounds p) cells = ForSome (counts_at place cells) (CanDivide bounds p)

-- no sum of the terms is too great
pub record CanTotal (terms : List SignedTerm) (cells : List Value) : Type 0 where
  pub taken : AllByRecursion (λ signed. CanTake signed.term cells) terms
  pub small : terms_size terms cells ≤ greatest_sum

-- a row in which a bound expression can be computed
abbrev pub CanEvaluate : BoundExpr → List Value → Type 0
CanEvaluate (bound.Column place) cells = Unit {0}
CanEvaluate (bound.Terms terms) cells = CanTotal terms cells

-- a bound expression comes to what the expression over the columns comes to, and can be computed where that can
pub record IsBoundExpr (bound : BoundExpr) (sum : SumTree) (columns : List Column) : Type 0 where
  pub value : (cells : List Value) → bound_value bound cells ≡ sum_value sum columns cells
  pub computes : (cells : List Value) → CanCompute columns cells → CanEvaluate bound cells
