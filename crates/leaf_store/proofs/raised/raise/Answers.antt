use Rattle.mon_hints.specs.BucketSets.{is_set}
use Rattle.leaf_store.specs.LeafStates.{key_buckets}
use Rattle.leaf_store.proofs.KnownLemmas.{known_adds}
use Rattle.leaf_store.proofs.raised.raise.Goals as goal

pub returns-in-Some : goal.returns-in-Some
returns-in-Some c = record {
  added = known_adds (key_buckets c.args.buckets c.args.schemas.now) c.args.replicas.now.entries
      (is_set c.args.raised.now.words)
      c.args.entry.now c.requires.held c.in-Some.ensures.known;
}
