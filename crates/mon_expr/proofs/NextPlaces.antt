-- How many conditions may still come.
use Rattle.std.proofs.Common.{ℕ, ◌+◌}
use Rattle.mon_expr.specs.declared.condition_lists.Next.{Next}
use Rattle.mon_expr.specs.declared.condition_lists.Next.TheVariants as next

abbrev pub conditions_left : Next → ℕ
conditions_left (next.Answer truth) = 0
conditions_left (next.Condition at) = at + 1
