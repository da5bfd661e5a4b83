use Rattle.std.proofs.Common.{rules, ◌≡◌, ◌≤ℤ◌, ◌+ℤ◌, ℤ, ap, sym, subst, to_z, of_z, w64}
use Rattle.mon_script.proofs.FollowLemmas.{rises}
use Rattle.mon_script.proofs.follows.Moments.later.Goals as goal

pub returns-clause-risen : goal.returns-clause-risen
returns-clause-risen c =
    let first : to_z w64 (of_z w64 c.args.self.first) ≡ c.args.self.first = search rules in
    let period : to_z w64 (of_z w64 c.args.self.period) ≡ c.args.self.period = search rules in
    let sum : to_z w64 (of_z w64 (to_z w64 (of_z w64 c.args.self.first) +ℤ to_z w64 (of_z w64 c.args.self.period)))
    ≡ to_z w64 (of_z w64 c.args.self.first) +ℤ to_z w64 (of_z w64 c.args.self.period) = search rules in
    subst (λ (next : ℤ). c.args.self.first ≤ℤ next) (sym sum)
    (rises c.args.self.first c.args.self.period _ _ first period c.requires.lawful.period)
