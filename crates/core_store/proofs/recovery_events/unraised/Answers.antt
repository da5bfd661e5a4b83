use Rattle.std.proofs.Common.{◌≡◌, ◌∙◌, ◌+◌, ◌∷◌, ◌++◌, [], ◌||◌, ℕ, Bool, List, ap, subst, sym, take}
use Rattle.std.proofs.lemmas.List.{take_all, take_more}
use Rattle.leaf_store.specs.LeafStates.{is_unraised}
use Rattle.mon_hints.specs.BucketSets.{is_set}
use Rattle.mon_value.specs.declared.rows.Row.{Row}
use Rattle.mon_value.specs.declared.rows.SeriesKey.{SeriesKey}
use Rattle.core_store.proofs.RecoveryBuckets.{all_to_raise, is_left, row_more}
use Rattle.core_store.proofs.recovery_events.unraised.Goals as goal

pub loop-row-init : goal.loop-row-init
loop-row-init c bucket = ap (λ (set : ℕ → Bool). set bucket) c.new-set.ensures.none

pub loop-row-preserved : goal.loop-row-preserved
loop-row-preserved c =
    let state = c.args.state.now in
    let rows = c.args.rows.now in
    let i = c.loop-row.row-index in
    let row = c.row-item.result in
    let more : take (i + 1) rows ≡ take i rows ++ row ∷ [] =
    take_more rows i row c.loop-row-test.true ∙ ap (λ (x : Row). take i rows ++ x ∷ []) (sym c.row-item.is) in
    let added : (bucket : ℕ) → is_set c.add_unraised.new.set.words bucket ≡ (is_set c.loop-row.set.words bucket
    || is_unraised state.buckets state.schemas state.history row.key bucket) =
    subst (λ (key : SeriesKey). (bucket : ℕ) → is_set c.add_unraised.new.set.words bucket
    ≡ (is_set c.loop-row.set.words bucket || is_unraised state.buckets state.schemas state.history key bucket))
    c.deref.ensures c.add_unraised.ensures.added in
    λ bucket. row_more state.buckets state.schemas state.history (take i rows) row (is_set c.loop-row.set.words)
    (is_set c.add_unraised.new.set.words) c.loop-row.invariant added bucket
    ∙ ap (λ (some : List Row). is_left state.buckets state.schemas state.history some bucket) (sym more)

pub returns : goal.returns
returns c = record {
  unraised = all_to_raise c.args.state.now (take c.loop-row.row-index c.args.rows.now) c.args.rows.now
      (is_set c.loop-row.set.words) c.listed.result
      (take_all c.loop-row.row-index c.args.rows.now c.loop-row-test.false) c.loop-row.invariant
      c.listed.ensures.listed;
}
