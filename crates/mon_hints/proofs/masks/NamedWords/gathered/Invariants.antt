-- The children that were found, with those of the buckets to come.
use Rattle.std.specs.Iterator.Adapters.{zip_first, zip_second}
use Rattle.std.specs.Slice.Iter.{iter_rest}
use Rattle.mon_hints.specs.Formulas.{is_among}
use Rattle.mon_hints.specs.Hints.{buckets_of_child}
use Rattle.mon_hints.proofs.MaskLemmas.{AnyLeft}
use Rattle.mon_hints.proofs.masks.NamedWords.gathered.Given as goal

abbrev pub invariant-loop-name : goal.invariant-loop-name
invariant-loop-name l =
    AnyLeft l.mask
    (λ child. is_among l.bucket (buckets_of_child (iter_rest (zip_first l.name-iterator))
    (iter_rest (zip_second l.name-iterator)) child))
    (λ child. is_among l.bucket (buckets_of_child l.self.named.now l.self.words.now child))
