use Rattle.std.proofs.Common.{arith, rules, refl, ◌∙◌}
use Rattle.leaf_cell.proofs.RaisingLemmas.{may_next, raises_all, raises_next, raises_none}
use Rattle.leaf_cell.specs.Raising.{set_below}
use Rattle.mon_hints.specs.BucketSets.{is_set}
use Rattle.leaf_cell.proofs.raising.raise_at.Goals as goal

pub loop-bucket-init : goal.loop-bucket-init
loop-bucket-init g c = record {
  raised = raises_none c.args.place (is_set c.args.set.now.words) c.args.owner.now.hints;
  book = refl;
  leaf = refl;
}

pub raise-requires-clause-exists : goal.raise-requires-clause-exists
raise-requires-clause-exists g c =
    omega (arith, c.requires.below c.in-Some.bucket c.in-Some.ensures.least.among)

pub raise-requires-clause-allowed : goal.raise-requires-clause-allowed
raise-requires-clause-allowed g c =
    let set = is_set c.args.set.now.words in
    may_next c.args.place set (set_below set c.loop-bucket.from) c.args.owner.now.hints c.loop-bucket.owner.hints
    c.in-Some.bucket c.requires.allowed c.loop-bucket.invariant.raised c.in-Some.ensures.least.among

pub overflow_add-from : goal.overflow_add-from
overflow_add-from g c =
    omega (arith, c.in-Some.ensures.below)

pub loop-bucket-smaller : goal.loop-bucket-smaller
loop-bucket-smaller g c =
    omega (arith, c.in-Some.ensures.below, c.in-Some.ensures.least.reached)

pub loop-bucket-preserved : goal.loop-bucket-preserved
loop-bucket-preserved g c =
    let set = is_set c.args.set.now.words in
    record {
      raised = raises_next c.args.place set c.args.owner.now.hints c.loop-bucket.owner.hints c.loop-bucket.from
          c.loop-bucket.invariant.raised c.in-Some.bucket c.in-Some.ensures.least c.raise.new.self.hints
          c.raise.ensures.raised;
      book = c.raise.ensures.book ∙ c.loop-bucket.invariant.book;
      leaf = c.raise.ensures.leaf ∙ c.loop-bucket.invariant.leaf;
    }

pub returns-clause-raised : goal.returns-clause-raised
returns-clause-raised g c =
    raises_all c.args.place (is_set c.args.set.now.words) c.args.owner.now.hints c.loop-bucket.owner.hints
    c.loop-bucket.from c.loop-bucket.invariant.raised (search rules)
