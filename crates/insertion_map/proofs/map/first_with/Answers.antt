use Rattle.std.proofs.Common.{◌∙◌, sym}
use Rattle.insertion_map.proofs.SeekLemmas.{found, passed, missing}
use Rattle.insertion_map.proofs.map.first_with.Goals as goal

pub returns-then-equivalent : goal.returns-then-equivalent
returns-then-equivalent g c = record {
  first = sym (found (g.Q.Equivalent.equivalent c.args.key) c.args.entries.now c.loop-i.i c.index-entries-i.result
      c.loop-i-test.true c.index-entries-i.is (sym c.equivalent.ensures ∙ c.if-equivalent.true) c.loop-i.invariant);
}

pub loop-i-preserved : goal.loop-i-preserved
loop-i-preserved g c = passed (g.Q.Equivalent.equivalent c.args.key) c.args.entries.now c.loop-i.i
    c.index-entries-i.result
    c.loop-i-test.true c.index-entries-i.is (sym c.equivalent.ensures ∙ c.if-equivalent.false) c.loop-i.invariant

pub returns : goal.returns
returns g c = record {
  first = missing (g.Q.Equivalent.equivalent c.args.key) c.args.entries.now c.loop-i.i c.loop-i-test.false
      c.loop-i.invariant;
}
