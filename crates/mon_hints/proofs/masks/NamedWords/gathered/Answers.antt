use Rattle.std.proofs.lemmas.Slice.Zip.{Zip-more, either_empty_from_Zip}
use Rattle.std.specs.Iterator.Adapters.{zip_first, zip_second}
use Rattle.std.specs.Slice.Iter.{iter_rest}
use Rattle.mon_hints.specs.Formulas.{is_among}
use Rattle.mon_hints.specs.Hints.{buckets_of_child}
use Rattle.mon_hints.proofs.WordLemmas.{all_gathered, more_gathered}
use Rattle.mon_hints.proofs.masks.NamedWords.gathered.Goals as goal

pub loop-name-preserved-then-name-bucket : goal.loop-name-preserved-then-name-bucket
loop-name-preserved-then-name-bucket c =
    let l = c.loop-name in
    let left = l.name-iterator in
    let rest = c.next.new.self in
    let more = Zip-more left rest c.next.result (c.in-Some.name, c.in-Some.word) c.in-Some.is c.next.ensures.steps in
    more_gathered c.args.bucket l.mask c.in-Some.name.now c.in-Some.word.now (iter_rest (zip_first left))
    (iter_rest (zip_second left))
    (iter_rest (zip_first rest)) (iter_rest (zip_second rest))
    (λ child. is_among c.args.bucket (buckets_of_child c.args.self.now.named.now c.args.self.now.words.now child))
    more.0 more.1 c.if-name-bucket.true l.invariant

pub returns : goal.returns
returns c =
    let l = c.loop-name in
    let left = l.name-iterator in
    record {
      bits = all_gathered c.args.bucket l.mask (iter_rest (zip_first left)) (iter_rest (zip_second left))
          (λ child. is_among c.args.bucket (buckets_of_child c.args.self.now.named.now c.args.self.now.words.now child))
          (either_empty_from_Zip left c.next.new.self c.next.result c.in-None.is c.next.ensures.steps) l.invariant;
    }
