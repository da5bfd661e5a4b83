-- the buckets so far
use Rattle.std.proofs.Common.{◌≡◌, map, take}
use Rattle.leaf_store.specs.LeafStates.{key_buckets}
use Rattle.mon_hints.specs.Hints.{history_buckets}
use Rattle.leaf_eval.proofs.OwnWords.{own_word}
use Rattle.leaf_eval.proofs.own_buckets.own_words.Given as goal

abbrev pub invariant-loop-bucket : goal.invariant-loop-bucket
invariant-loop-bucket l =
    l.words ≡ map (own_word (history_buckets (key_buckets l.state.buckets l.state.schemas) l.state.history))
    (take l.bucket-index l.buckets)
