use Rattle.std.proofs.Common.{◌≡◌, ◌∙◌, ◌<◌, ◌-◌, suc, length, arith}
use Rattle.leaf_store.proofs.FromBehindLemmas.{added_next}
use Rattle.leaf_store.proofs.gathered.Gathered.add_front.Goals as goal

pub loop-number-preserved : goal.loop-number-preserved
loop-number-preserved c =
    let rows = c.args.slot.now.rows in
    let l = c.loop-number in
    let n = l.number - 1 in
    let next : l.number ≡ suc n = omega (arith, c.loop-number-test.true) in
    let below : n < length rows = omega (arith, next, l.invariant.within, c.requires.within) in
    record {
      within = omega (arith, l.invariant.within);
      gathered = added_next rows l.number n l.self c.add.new.self next below c.in_ok-add.ensures.added
          ∙ l.invariant.gathered;
    }
