-- Who holds ranges and leaves, event by event of a recovery.
use Rattle.std.proofs.Common.{◌≡◌, ◌≢◌, ℕ, Option, Some, None, List, [], ◌∷◌, refl, sym, ap, subst}
use Rattle.std.proofs.lemmas.Option.{none-some, same_Some}
use Rattle.mon_topo.specs.Settings.{Setting, zone_of_leaf}
use Rattle.mon_topo.specs.Views.{View, joined_view, of_range, with_entry, with_root_bit, with_zone_bit}
use Rattle.mon_value.specs.declared.positions.FoundDown.{FoundDown}
use Rattle.mon_value.specs.declared.positions.Leaf.{Leaf}
use Rattle.mon_value.specs.declared.positions.SlotLeaf.{SlotLeaf}
use Rattle.mon_value.specs.declared.rows.Row.{Row}
use Rattle.core_store.proofs.HolderLemmas.{leaf_changed, leaf_kept, range_changed, range_kept}
use Rattle.core_store.specs.Holders.{AreHolders, HoldsLeaf, HoldsRange, IsCopyHolding, IsCopyInside}
use Rattle.write_core.specs.CopySteps.{CanCopy, CanCopyAt, CanRecover, after_copy_event, copied_in, copy_at, copy_of}
use Rattle.write_core.specs.CopySteps.{copy_step, newcomer, next_slot, told_range}
use Rattle.write_core.specs.Recovering.{Beginning, Carrying, CopyStage, Copying, Nearing, Over, Telling, Within}
use Rattle.write_core.specs.Recovering.{copied_after, copying, found_on}
use Rattle.write_core.specs.declared.copies.CopyTold.{CopyTold}
use Rattle.write_core.specs.declared.copies.CopyTold.TheVariants.{Admits, Denies, Gives, HasRoom, Sources, WasDone}
use Rattle.write_core.specs.declared.copies.CopyTold.TheVariants.{WasDown, WasOpened}
use Rattle.write_core.specs.declared.copies.Outcome.{Outcome}
use Rattle.write_core.specs.declared.copies.Outcome.TheVariants.{Opens}
use Rattle.write_core.specs.Steps.{same_view}
use Rattle.write_core.specs.World.{Actor, Recovers, Recovery, World, at_leaf, at_range, recovers_on}

-- ---- stages that hold

holding_copying : (founds : List FoundDown) (sources : List SlotLeaf) → IsCopyHolding (copying founds sources)
holding_copying founds [] = tt
holding_copying founds (source ∷ left) = tt

holding_asked : (founds : List FoundDown) (source : SlotLeaf) (left : List SlotLeaf) (told : CopyTold)
    → IsCopyHolding (copied_after (Copying founds (source ∷ left)) told)
holding_asked founds source left (Sources replicas) = tt
holding_asked founds source left (Denies why) = tt
holding_asked founds source left (Gives rows) = tt
holding_asked founds source left HasRoom = tt
holding_asked founds source left (Admits buckets) = tt
holding_asked founds source left (WasDown cut) = holding_copying _ left
holding_asked founds source left (WasOpened slot) = tt
holding_asked founds source left WasDone = tt

holding_carried : (rows : List Row) (told : CopyTold) → IsCopyHolding (copied_after (Carrying rows) told)
holding_carried rows (Sources replicas) = tt
holding_carried rows (Denies why) = tt
holding_carried rows (Gives more) = tt
holding_carried rows HasRoom = tt
holding_carried rows (Admits buckets) = tt
holding_carried rows (WasDown cut) = tt
holding_carried rows (WasOpened slot) = tt
holding_carried rows WasDone = tt

holding_entered : (rows : List Row) (told : CopyTold) → IsCopyHolding (copied_after (Nearing rows) told)
holding_entered rows (Sources replicas) = tt
holding_entered rows (Denies why) = tt
holding_entered rows (Gives more) = tt
holding_entered rows HasRoom = tt
holding_entered rows (Admits buckets) = tt
holding_entered rows (WasDown cut) = tt
holding_entered rows (WasOpened slot) = tt
holding_entered rows WasDone = tt

-- ---- a recovery's event

module _ (setting : Setting) (world : World) (i : ℕ) (who : Recovery) (is : world.actors i ≡ Recovers who)
    (h : AreHolders world)
  where
    mine_range : (P : ℕ → Type 0) → ((r : ℕ) → HoldsRange r (Recovers who) → P r) → (r : ℕ)
        → HoldsRange r (world.actors i) → P r
    mine_range P f r held = f r (subst (λ (actor : Actor). HoldsRange r actor) is held)

    mine_leaf : (P : ℕ → Type 0) → ((l : ℕ) → HoldsLeaf l (Recovers who) → P l) → (l : ℕ)
        → HoldsLeaf l (world.actors i) → P l
    mine_leaf P f l held = f l (subst (λ (actor : Actor). HoldsLeaf l actor) is held)

    -- at a leaf, where it holds its range on, and is inside of no other leaf
    module _ (leaf : Leaf) (change : View → View) (holder : Option ℕ) (next : CopyStage) (holding : IsCopyHolding next)
        (elsewhere : (l : ℕ) → l ≢ leaf.0 → HoldsLeaf l (Recovers who) → ⊥)
        (here : (j : ℕ) → holder ≡ Some j → (j ≡ i) × ((who.leaf.0 ≡ leaf.0) × IsCopyInside next))
      where
        copied_at_leaf : AreHolders (at_leaf world i who.view leaf change holder (recovers_on who next))
        copied_at_leaf =
            let new : Actor = recovers_on who next (change (joined_view who.view (world.leaves leaf.0))) in
            record {
              range = range_kept world i h new
                  (mine_range (λ r. HoldsRange r new) (λ r held. (held.0, holding)));
              leaf = leaf_changed world i h new leaf.0 holder
                  (λ l apart held. absurd (mine_leaf (λ n. n ≢ leaf.0 → ⊥) (λ n inside apart'. elsewhere n apart'
                  inside) l held apart))
                  here;
            }

    -- at its range, where it is not inside of its leaf
    module _ (change : View → View) (holder : Option ℕ) (next : CopyStage)
        (outside : IsCopyInside who.stage → ⊥)
        (here : (j : ℕ) → holder ≡ Some j → (j ≡ i) × IsCopyHolding next) where
      copied_at_range : AreHolders (at_range world i who.view who.range change holder (recovers_on who next))
      copied_at_range =
          let new : Actor = recovers_on who next (change (joined_view who.view (world.ranges who.range.0))) in
          record {
            range = range_changed world i h new who.range.0 holder
                (λ r apart held. absurd (mine_range (λ n. n ≢ who.range.0 → ⊥) (λ n own apart'. apart' (sym own.0)) r
                held apart))
                (λ j e. ((here j e).0, (refl, (here j e).1)));
            leaf = leaf_kept world i h new
                (λ l held. absurd (mine_leaf (λ n. ⊥) (λ n inside. outside inside.1) l held));
          }

    -- who is at such a stage is not inside of its leaf
    outside_at : (stage : CopyStage) → who.stage ≡ stage → (IsCopyInside stage → ⊥) → IsCopyInside who.stage → ⊥
    outside_at stage at none inside = none (subst IsCopyInside at inside)

    no_holder : {P : Type 0} (j : ℕ) → None ≡ Some j → P
    no_holder j e = absurd (none-some j e)

    locked_holding : (told : CopyTold) → CanCopyAt setting world who Beginning told
        → IsCopyHolding (copied_after Beginning told)
    locked_holding (Sources replicas) can = holding_copying [] replicas
    locked_holding (Denies why) can = tt
    locked_holding (Gives rows) can = absurd can.1
    locked_holding HasRoom can = absurd can.1
    locked_holding (Admits buckets) can = absurd can.1
    locked_holding (WasDown cut) can = absurd can.1
    locked_holding (WasOpened slot) can = absurd can.1
    locked_holding WasDone can = absurd can.1

    newcomer_inside : (rows : List Row) (told : CopyTold) (j : ℕ) → newcomer i told ≡ Some j
        → (j ≡ i) × ((who.leaf.0 ≡ who.leaf.0) × IsCopyInside (copied_after (Nearing rows) told))
    newcomer_inside rows (Sources replicas) j e = no_holder j e
    newcomer_inside rows (Denies why) j e = no_holder j e
    newcomer_inside rows (Gives more) j e = no_holder j e
    newcomer_inside rows HasRoom j e = no_holder j e
    newcomer_inside rows (Admits buckets) j e = (sym (same_Some i j e), (refl, tt))
    newcomer_inside rows (WasDown cut) j e = no_holder j e
    newcomer_inside rows (WasOpened slot) j e = no_holder j e
    newcomer_inside rows WasDone j e = no_holder j e

    -- inside of its leaf it is inside of no other
    one_leaf : (l : ℕ) → l ≢ who.leaf.0 → HoldsLeaf l (Recovers who) → ⊥
    one_leaf l apart inside = apart (sym inside.0)

    raised_root : (rows : List Row) (bucket : ℕ) (at_root in_zone : List ℕ) (told : CopyTold) → told ≡ WasDone
        → AreHolders (copied_in setting world i who rows (bucket ∷ at_root) in_zone
        (copied_after (Within rows (bucket ∷ at_root) in_zone) told))
    raised_root rows bucket at_root in_zone told e =
        subst (λ (t : CopyTold). AreHolders (copied_in setting world i who rows (bucket ∷ at_root) in_zone
        (copied_after (Within rows (bucket ∷ at_root) in_zone) t))) (sym e)
        (copied_at_leaf who.leaf (with_root_bit (zone_of_leaf setting who.leaf) bucket) (Some i)
        (Within rows at_root in_zone) tt one_leaf (λ j same. (sym (same_Some i j same), (refl, tt))))

    raised_zone : (rows : List Row) (bucket : ℕ) (in_zone : List ℕ) (told : CopyTold) → told ≡ WasDone
        → AreHolders (copied_in setting world i who rows [] (bucket ∷ in_zone)
        (copied_after (Within rows [] (bucket ∷ in_zone)) told))
    raised_zone rows bucket in_zone told e =
        subst (λ (t : CopyTold). AreHolders (copied_in setting world i who rows [] (bucket ∷ in_zone)
        (copied_after (Within rows [] (bucket ∷ in_zone)) t))) (sym e)
        (copied_at_leaf who.leaf (with_zone_bit who.leaf bucket) (Some i) (Within rows [] in_zone) tt one_leaf
        (λ j same. (sym (same_Some i j same), (refl, tt))))

    opened_inside : (rows : List Row) (told : CopyTold)
        → told ≡ WasOpened (next_slot (of_range world.truth who.range))
        → AreHolders (copied_in setting world i who rows [] [] (copied_after (Within rows [] []) told))
    opened_inside rows told e =
        subst (λ (t : CopyTold). AreHolders (copied_in setting world i who rows [] []
        (copied_after (Within rows [] []) t))) (sym e)
        (copied_at_leaf who.leaf (with_entry who.leaf (copy_of who (of_range world.truth who.range) rows)) None
        (Telling (Opens (next_slot (of_range world.truth who.range)))) tt one_leaf (λ j same. no_holder j same))

    told_over : (outcome : Outcome) (told : CopyTold) → who.stage ≡ Telling outcome
        → AreHolders (copy_at setting world i who (Telling outcome) told)
    told_over outcome told at =
        copied_at_range (told_range who (of_range world.truth who.range) outcome) None
        (copied_after (Telling outcome) told) (outside_at (Telling outcome) at (λ inside. inside))
        (λ j e. no_holder j e)

    copy_held_at : (stage : CopyStage) (told : CopyTold) → who.stage ≡ stage → CanCopyAt setting world who stage told
        → AreHolders (copy_at setting world i who stage told)
    copy_held_at Beginning told at can =
        copied_at_range same_view (Some i) (copied_after Beginning told)
        (outside_at Beginning at (λ inside. inside))
        (λ j e. (sym (same_Some i j e), locked_holding told can))
    copy_held_at (Copying founds []) told at can = absurd can
    copy_held_at (Copying founds (source ∷ left)) told at can =
        copied_at_leaf source.leaf same_view None (copied_after (Copying founds (source ∷ left)) told)
        (holding_asked founds source left told)
        (λ l apart inside. outside_at (Copying founds (source ∷ left)) at (λ none. none) inside.1)
        (λ j e. no_holder j e)
    copy_held_at (Carrying rows) told at can =
        copied_at_leaf who.leaf same_view None (copied_after (Carrying rows) told) (holding_carried rows told)
        (λ l apart inside. outside_at (Carrying rows) at (λ none. none) inside.1) (λ j e. no_holder j e)
    copy_held_at (Nearing rows) told at can =
        copied_at_leaf who.leaf same_view (newcomer i told) (copied_after (Nearing rows) told)
        (holding_entered rows told)
        (λ l apart inside. outside_at (Nearing rows) at (λ none. none) inside.1) (newcomer_inside rows told)
    copy_held_at (Within rows (bucket ∷ at_root) in_zone) told at can =
        raised_root rows bucket at_root in_zone told can
    copy_held_at (Within rows [] (bucket ∷ in_zone)) told at can = raised_zone rows bucket in_zone told can
    copy_held_at (Within rows [] []) told at can = opened_inside rows told can
    copy_held_at (Telling outcome) told at can = told_over outcome told at
    copy_held_at (Over outcome) told at can = absurd can

-- whichever event of an actor's recovery comes
pub copy_held : (setting : Setting) (world : World) (i : ℕ) (who : Recovery) (told : CopyTold)
    → world.actors i ≡ Recovers who → AreHolders world → CanCopy setting world i told
    → AreHolders (copy_step setting world i told)
copy_held setting world i who told is h can =
    subst (λ (w : World). AreHolders w)
    (sym (ap (λ (actor : Actor). after_copy_event setting world i actor told) is))
    (copy_held_at setting world i who is h who.stage told refl
    (subst (λ (actor : Actor). CanRecover setting world actor told) is can))
