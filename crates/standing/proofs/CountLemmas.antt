-- How many queries are due.
use Rattle.std.proofs.Common.{◌≡◌, ◌<◌, ◌+◌, ℕ, nat_lt, false, Some, None, cond, ap, arith}
use Rattle.std.proofs.lemmas.Bool.Decides.{nat_tests}
use Rattle.standing.specs.DueLists.{too_many}
use Rattle.standing.specs.declared.faults.DueFault.TheVariants as fault
use Rattle.mon_value.proofs.PlainLemmas.{less}

not_less : (a b : ℕ) (room : ℕ) → room + b ≡ a → nat_lt a b ≡ false
not_less a b room h = grind (arith, nat_tests)

pub many : (count : ℕ) → 1000 < count → too_many count ≡ Some (fault.TooManyDue 1000)
many count h = ap (λ b. cond b (Some (fault.TooManyDue 1000)) None) (less 1000 count h)

pub not_many : (count room : ℕ) → room + count ≡ 1000 → too_many count ≡ None
not_many count room h = ap (λ b. cond b (Some (fault.TooManyDue 1000)) None) (not_less 1000 count room h)
