use Rattle.std.proofs.Common.{◌≡◌, ◌+◌, ◌-◌, ◌≤◌, ◌<◌, ◌<ℤ◌, drop, get_or, length, refl, subst, arith}
use Rattle.kept_groups.specs.declared.changes.Change.{Change}
use Rattle.kept_exchanges.specs.Traded.{Rise}
use Rattle.kept_exchanges.proofs.TradeLemmas.{all_apart, rise_end, rise_next}
use Rattle.kept_exchanges.proofs.trading.rise.Goals as goal

pub loop-i-preserved : goal.loop-i-preserved
loop-i-preserved c =
    let changes = c.args.changes.now in
    let i = c.loop-i.i in
    let k = i - 1 in
    let one = c.index-changes-i.result in
    let before = c.index-changes-i-in-loop-i.result in
    let some = c.loop-i.invariant.some in
    let below = c.loop-i-test.true in
    let next : i ≡ k + 1 = omega arith in
    let rest : i + 1 - 1 ≡ k + 1 = omega arith in
    let first = subst (λ (change : Change). change.key.time <ℤ one.key.time) c.index-changes-i-in-loop-i.is
    (c.if-not-is_later.ensures refl) in
    let both = subst (λ (change : Change). (get_or changes k before).key.time <ℤ change.key.time) c.index-changes-i.is
    first in
    let less = subst (λ n. (get_or changes k before).key.time <ℤ (get_or changes n one).key.time) next both in
    record {
      some = omega arith;
      rise = λ left.
          c.loop-i.invariant.rise
          (rise_next changes k before one (omega arith) less (subst (λ n. Rise (drop n changes)) rest left));
    }

pub returns : goal.returns
returns c known =
    let changes = c.args.changes.now in
    let i = c.loop-i.i in
    let some = c.loop-i.invariant.some in
    let end = c.loop-i-test.false in
    let few : length changes ≤ (i - 1) + 1 = omega arith in
    all_apart changes (c.loop-i.invariant.rise (rise_end changes (i - 1) few))
