use Rattle.std.proofs.Common.{◌≡◌, ◌∙◌, ◌+◌, ◌++◌, ◌∷◌, [], List, drop, sym, ap, subst, arith}
use Rattle.std.proofs.lemmas.List.{drop_more}
use Rattle.mon_value.proofs.LeafHistoryLemmas.{follows}
use Rattle.mon_value.specs.declared.histories.Entry.{Entry}
use Rattle.leaf_store.specs.declared.fresh.FreshEntry.{FreshEntry}
use Rattle.leaf_store.specs.declared.kept.Kept.{Kept}
use Rattle.leaf_store.specs.within.FreshEntries.{AreNumbered, entries_in}
use Rattle.leaf_store.specs.within.Replicas.{IsInTwoParts, shown_entries}
use Rattle.leaf_store.proofs.SeriesNumberLemmas.{next_number}
use Rattle.leaf_store.proofs.StepLemmas.{can_settle, settled, shown_then}
use Rattle.leaf_store.proofs.replays.settle_entries.Goals as goal

pub settle_entry-requires : goal.settle_entry-requires
settle_entry-requires c =
    let fresh = c.args.fresh.now in
    let moved = c.loop-moved.moved in
    let f : FreshEntry = c.index-fresh-moved.result in
    let rest = drop (moved + 1) fresh in
    let next : drop moved fresh ≡ f ∷ rest =
    drop_more fresh moved f (omega (arith, c.loop-moved-test.true)) ∙ ap (λ (x : FreshEntry). x ∷ rest)
    (sym c.index-fresh-moved.is) in
    let replicas = c.loop-moved.replicas.entries in
    let ks = c.loop-moved.kept.items in
    let shown = shown_entries replicas ks in
    let two = subst (λ (fs : List FreshEntry). IsInTwoParts replicas ks (entries_in fs)) next
    c.loop-moved.invariant.holds in
    let are = subst (AreNumbered shown) next c.loop-moved.invariant.numbered in
    record {
      settles = can_settle replicas ks f.entry (entries_in rest) two;
      numbered = next_number replicas shown f.entry f.series two.holds
          (follows shown f.entry (entries_in rest) two.formed) are.0;
    }

pub loop-moved-preserved : goal.loop-moved-preserved
loop-moved-preserved c =
    let fresh = c.args.fresh.now in
    let moved = c.loop-moved.moved in
    let f : FreshEntry = c.index-fresh-moved.result in
    let e = f.entry in
    let rest = drop (moved + 1) fresh in
    let next : drop moved fresh ≡ f ∷ rest =
    drop_more fresh moved f (omega (arith, c.loop-moved-test.true)) ∙ ap (λ (x : FreshEntry). x ∷ rest)
    (sym c.index-fresh-moved.is) in
    let old = c.loop-moved.replicas.entries in
    let new = c.settle_entry.new.replicas.entries in
    let ks = c.loop-moved.kept.items in
    let own = c.in_ok-own.own in
    let two = subst (λ (fs : List FreshEntry). IsInTwoParts old ks (entries_in fs)) next
    c.loop-moved.invariant.holds in
    let are = subst (AreNumbered (shown_entries old ks)) next c.loop-moved.invariant.numbered in
    let step = settled old new ks own e (entries_in rest) two c.in_ok-own.ensures.settled in
    let now = shown_then old new ks own e (entries_in rest) two c.in_ok-own.ensures.settled in
    let items = c.push.ensures.added ∙ ap (λ (all : List Kept). all ++ own ∷ []) c.in_ok-reserve_one.ensures.kept in
    record {
      within = omega (arith, c.loop-moved-test.true);
      onward = omega (arith, c.loop-moved.invariant.onward);
      holds = subst (λ (all : List Kept). IsInTwoParts new all (entries_in rest)) (sym items) step.0;
      numbered = subst (λ (all : List Kept). AreNumbered (shown_entries new all) rest) (sym items)
          (subst (λ (es : List Entry). AreNumbered es rest) (sym now) are.1);
      same = ap (λ (all : List Kept). shown_entries new all ++ entries_in rest) items ∙ step.1
          ∙ ap (λ (left : List FreshEntry). shown_entries old ks ++ entries_in left) (sym next)
          ∙ c.loop-moved.invariant.same;
    }
