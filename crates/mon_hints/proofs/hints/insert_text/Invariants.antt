-- The set so far, with the buckets of the windows that are left.
use Rattle.std.proofs.Common.{◌≡◌, ◌∷◌, ◌++◌, drop}
use Rattle.mon_hints.specs.BucketSets.{is_set, with_buckets}
use Rattle.mon_hints.specs.Hints.{back, text_excerpts, windows}
use Rattle.mon_hints.specs.Labels.{buckets_behind}
use Rattle.mon_hints.proofs.hints.insert_text.Given as goal

abbrev pub invariant-loop-byte : goal.invariant-loop-byte
invariant-loop-byte l =
    with_buckets (is_set l.set.words) (buckets_behind l.buckets l.field.state
    (windows (l.first ∷ l.second ∷ (drop l.byte-index l.text ++ back))))
    ≡ with_buckets (is_set l.fn.set.words) (buckets_behind l.buckets l.field.state (text_excerpts l.text))
