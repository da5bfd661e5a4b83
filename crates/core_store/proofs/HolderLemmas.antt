-- Who holds ranges and leaves, event by event.
use Rattle.std.proofs.Common.{◌≡◌, ◌≢◌, ℕ, Bool, true, false, cond, Option, Some, None, List, [], ◌∷◌, map, refl, sym}
use Rattle.std.proofs.Common.{ap, subst, ◌∙◌}
use Rattle.std.specs.Prelude.{option_map}
use Rattle.std.proofs.lemmas.Option.{none-some, same_Some}
use Rattle.mon_topo.specs.Settings.{Setting, zone_of_leaf}
use Rattle.mon_value.specs.declared.positions.Leaf.{Leaf}
use Rattle.mon_value.specs.declared.positions.Range.{Range}
use Rattle.core_store.specs.Holders.{AreHolders, HoldsLeaf, HoldsRange, IsHolding, leaf_inside}
use Rattle.write_core.proofs.KeepsLemmas.{changed_by, changed_same}
use Rattle.write_core.specs.Program.{Acking, Ended, Entering, Inside, Locking, Marked, Reserving, Stage, Verdict}
use Rattle.write_core.specs.Program.{after, entering, reserving}
use Rattle.write_core.specs.Rounds.{Round, again, is_through, after_look, round_marks, round_of, after_skip}
use Rattle.write_core.specs.Marks.{waiting}
use Rattle.write_core.specs.Steps.{CanCome, CanComeAt, CanGo, with_acknowledgement, entrant, step, step_at}
use Rattle.write_core.specs.Steps.{after_answer, same_view}
use Rattle.mon_topo.specs.Views.{View, joined_view, with_entry, with_root_bit, with_zone_bit}
use Rattle.write_core.specs.Events.{SwitchTold, after_retirement, after_switch, retired, retires_with, switched}
use Rattle.write_core.specs.Events.{switches_with}
use Rattle.write_core.specs.declared.retirements.Retirement.{Retirement}
use Rattle.write_core.specs.World.{Actor, Recovers, Stands, World, Writer, Writes, at_leaf, at_range, put_of}
use Rattle.write_core.specs.World.{stands_on, with_value_at, writes_on}
use Rattle.write_core.specs.declared.asks.WriteTold.{WriteTold}
use Rattle.write_core.specs.declared.asks.WriteTold.TheVariants as told
use Rattle.write_core.specs.declared.marks.Fate.TheVariants as fate
use Rattle.write_core.specs.declared.marks.Mark.{Mark}

-- ---- stages that hold

holding_entering_by : (b : Bool) (round : Round) → IsHolding (cond b (Acking (Marked (round_marks round)))
    (Entering round))
holding_entering_by true round = tt
holding_entering_by false round = tt

pub holding_entering : (round : Round) → IsHolding (entering round)
holding_entering round = holding_entering_by (is_through (after_skip round)) (after_skip round)

holding_reserving_by : (b : Bool) (round : Round) → IsHolding (cond b (entering (again round)) (Reserving round))
holding_reserving_by true round = holding_entering (again round)
holding_reserving_by false round = tt

pub holding_reserving : (round : Round) → IsHolding (reserving round)
holding_reserving round = holding_reserving_by (is_through round) round

-- ---- one actor is another

-- what holds of holders where one actor and one holder are changed
module _ (world : World) (i : ℕ) (h : AreHolders world) (new : Actor) where
  pub range_kept : ((r : ℕ) → HoldsRange r (world.actors i) → HoldsRange r new) → (r j : ℕ) → world.range_holder r ≡ Some j
      → HoldsRange r (with_value_at world.actors i new j)
  range_kept keeps r j e =
      changed_by world.actors i new (λ k actor. world.range_holder r ≡ Some k → HoldsRange r actor)
      (λ own. keeps r (h.range r i own)) (λ k apart held. h.range r k held) j e

  pub leaf_kept : ((l : ℕ) → HoldsLeaf l (world.actors i) → HoldsLeaf l new) → (l j : ℕ) → world.leaf_holder l ≡ Some j
      → HoldsLeaf l (with_value_at world.actors i new j)
  leaf_kept keeps l j e =
      changed_by world.actors i new (λ k actor. world.leaf_holder l ≡ Some k → HoldsLeaf l actor)
      (λ own. keeps l (h.leaf l i own)) (λ k apart held. h.leaf l k held) j e

  pub range_changed : (range : ℕ) (holder : Option ℕ) → ((r : ℕ) → r ≢ range → HoldsRange r (world.actors i)
      → HoldsRange r new)
      → ((j : ℕ) → holder ≡ Some j → (j ≡ i) × HoldsRange range new) → (r j : ℕ)
      → with_value_at world.range_holder range holder r ≡ Some j → HoldsRange r (with_value_at world.actors i new j)
  range_changed range holder elsewhere here r j =
      changed_by world.range_holder range holder
      (λ n who. who ≡ Some j → HoldsRange n (with_value_at world.actors i new j))
      (λ e. subst (λ (k : ℕ). HoldsRange range (with_value_at world.actors i new k)) (sym (here j e).0)
      (subst (λ (actor : Actor). HoldsRange range actor) (sym (changed_same world.actors i new)) (here j e).1))
      (λ n apart e. changed_by world.actors i new (λ k actor. world.range_holder n ≡ Some k → HoldsRange n actor)
      (λ own. elsewhere n apart (h.range n i own)) (λ k other held. h.range n k held) j e) r

  pub leaf_changed : (leaf : ℕ) (holder : Option ℕ) → ((l : ℕ) → l ≢ leaf → HoldsLeaf l (world.actors i) → HoldsLeaf l new)
      → ((j : ℕ) → holder ≡ Some j → (j ≡ i) × HoldsLeaf leaf new) → (l j : ℕ)
      → with_value_at world.leaf_holder leaf holder l ≡ Some j → HoldsLeaf l (with_value_at world.actors i new j)
  leaf_changed leaf holder elsewhere here l j =
      changed_by world.leaf_holder leaf holder
      (λ n who. who ≡ Some j → HoldsLeaf n (with_value_at world.actors i new j))
      (λ e. subst (λ (k : ℕ). HoldsLeaf leaf (with_value_at world.actors i new k)) (sym (here j e).0)
      (subst (λ (actor : Actor). HoldsLeaf leaf actor) (sym (changed_same world.actors i new)) (here j e).1))
      (λ n apart e. changed_by world.actors i new (λ k actor. world.leaf_holder n ≡ Some k → HoldsLeaf n actor)
      (λ own. elsewhere n apart (h.leaf n i own)) (λ k other held. h.leaf n k held) j e) l

-- an actor that holds and is inside of what it was may be changed
pub holders_changed : (world : World) (i : ℕ) (new : Actor) → AreHolders world
    → ((r : ℕ) → HoldsRange r (world.actors i) → HoldsRange r new)
    → ((l : ℕ) → HoldsLeaf l (world.actors i) → HoldsLeaf l new)
    → AreHolders (record {
      truth = world.truth;
      leaves = world.leaves;
      ranges = world.ranges;
      leaf_holder = world.leaf_holder;
      range_holder = world.range_holder;
      actors = with_value_at world.actors i new;
      notes = world.notes;
    })
holders_changed world i new h ranges leaves =
    record { range = range_kept world i h new ranges; leaf = leaf_kept world i h new leaves }

-- ---- a write's event

module _ (setting : Setting) (world : World) (i : ℕ) (who : Writer) (is : world.actors i ≡ Writes who)
    (h : AreHolders world)
  where
    mine_range : (P : ℕ → Type 0) → ((r : ℕ) → HoldsRange r (Writes who) → P r) → (r : ℕ)
        → HoldsRange r (world.actors i) → P r
    mine_range P f r held = f r (subst (λ (actor : Actor). HoldsRange r actor) is held)

    mine_leaf : (P : ℕ → Type 0) → ((l : ℕ) → HoldsLeaf l (Writes who) → P l) → (l : ℕ) → HoldsLeaf l (world.actors i)
        → P l
    mine_leaf P f l held = f l (subst (λ (actor : Actor). HoldsLeaf l actor) is held)

    -- at a leaf, where it holds its range on, and is inside of no other leaf
    module _ (leaf : Leaf) (change : View → View) (holder : Option ℕ) (next : Stage) (holding : IsHolding next)
        (elsewhere : (l : ℕ) → l ≢ leaf.0 → HoldsLeaf l (Writes who) → ⊥)
        (here : (j : ℕ) → holder ≡ Some j → (j ≡ i) × (option_map (λ (inside : Leaf). inside.0) (leaf_inside next)
        ≡ Some leaf.0))
      where
        at_leaf_held : AreHolders (at_leaf world i who.view leaf change holder (writes_on who next))
        at_leaf_held =
            let new : Actor = writes_on who next (change (joined_view who.view (world.leaves leaf.0))) in
            record {
              range = range_kept world i h new
                  (mine_range (λ r. HoldsRange r new) (λ r held. (held.0, holding)));
              leaf = leaf_changed world i h new leaf.0 holder
                  (λ l apart held. absurd (mine_leaf (λ n. n ≢ leaf.0 → ⊥) (λ n inside apart'. elsewhere n apart'
                  inside) l held apart))
                  here;
            }

    -- at its range, where it is inside of no leaf
    module _ (change : View → View) (holder : Option ℕ) (next : Stage)
        (outside : (l : ℕ) → HoldsLeaf l (Writes who) → ⊥)
        (here : (j : ℕ) → holder ≡ Some j → (j ≡ i) × IsHolding next) where
      at_range_held : AreHolders (at_range world i who.view who.range change holder (writes_on who next))
      at_range_held =
          let new : Actor = writes_on who next (change (joined_view who.view (world.ranges who.range.0))) in
          record {
            range = range_changed world i h new who.range.0 holder
                (λ r apart held. absurd (mine_range (λ n. n ≢ who.range.0 → ⊥) (λ n own apart'. apart' (sym own.0)) r
                held apart))
                (λ j e. ((here j e).0, (refl, (here j e).1)));
            leaf = leaf_kept world i h new (λ l held. absurd (mine_leaf (λ n. ⊥) (λ n inside. outside n inside) l
                held));
          }

    not_some : {X : Type 0} (x : X) → None ≡ Some x → ⊥
    not_some x e = none-some x e

    -- who is at such a stage is inside of no leaf
    outside_at : (stage : Stage) → who.stage ≡ stage → leaf_inside stage ≡ None → (l : ℕ) → HoldsLeaf l (Writes who) → ⊥
    outside_at stage at none l inside =
        none-some l (sym (ap (option_map (λ (leaf : Leaf). leaf.0)) (ap leaf_inside at ∙ none)) ∙ inside)

    locked_held : (answer : WriteTold) → who.stage ≡ Locking → CanComeAt setting world who Locking answer
        → AreHolders (step_at setting world i who Locking answer)
    locked_held answer at can =
        at_range_held same_view (Some i) (after Locking answer) (outside_at Locking at refl)
        (λ j e. (sym (same_Some i j e), holding_locked answer can))
      where
        holding_locked : (answer : WriteTold) → CanComeAt setting world who Locking answer
            → IsHolding (after Locking answer)
        holding_locked (told.Slots replicas) can = holding_reserving (round_of (map waiting replicas))
        holding_locked (told.OldPoint last) can = tt
        holding_locked (told.RangeFull count) can = tt
        holding_locked (told.Up buckets) can = absurd can.1
        holding_locked (told.Down cut) can = absurd can.1
        holding_locked told.Done can = absurd can.1

    holding_reserved : (round : Round) (answer : WriteTold) → IsHolding (after (Reserving round) answer)
    holding_reserved round (told.Slots replicas) = tt
    holding_reserved round (told.OldPoint last) = tt
    holding_reserved round (told.RangeFull count) = tt
    holding_reserved round (told.Up buckets) = holding_reserving (after_look round fate.Ready)
    holding_reserved round (told.Down cut) = holding_reserving (after_look round (fate.Missed cut))
    holding_reserved round told.Done = tt

    reserved_held : (done left : List Mark) (answer : WriteTold) → who.stage
        ≡ Reserving (record { done = done; left = left })
        → CanComeAt setting world who (Reserving (record { done = done; left = left })) answer
        → AreHolders (step_at setting world i who (Reserving (record { done = done; left = left })) answer)
    reserved_held done [] answer at can = absurd can
    reserved_held done (mark ∷ left) answer at can =
        at_leaf_held mark.leaf same_view None (after (Reserving (record { done = done; left = mark ∷ left })) answer)
        (holding_reserved (record { done = done; left = mark ∷ left }) answer)
        (λ l apart inside. outside_at (Reserving (record { done = done; left = mark ∷ left })) at refl l inside)
        (λ j e. absurd (not_some j e))

    holding_entered : (round : Round) (answer : WriteTold) → IsHolding (after (Entering round) answer)
    holding_entered round (told.Slots replicas) = tt
    holding_entered round (told.OldPoint last) = tt
    holding_entered round (told.RangeFull count) = tt
    holding_entered round (told.Up buckets) = tt
    holding_entered round (told.Down cut) = holding_entering (after_look round (fate.Missed cut))
    holding_entered round told.Done = tt

    inside_entered : (done left : List Mark) (mark : Mark) (answer : WriteTold) (j : ℕ) → entrant i answer ≡ Some j
        → (j ≡ i) × (option_map (λ (inside : Leaf). inside.0)
        (leaf_inside (after (Entering (record { done = done; left = mark ∷ left })) answer)) ≡ Some mark.leaf.0)
    inside_entered done left mark (told.Slots replicas) j e = absurd (not_some j e)
    inside_entered done left mark (told.OldPoint last) j e = absurd (not_some j e)
    inside_entered done left mark (told.RangeFull count) j e = absurd (not_some j e)
    inside_entered done left mark (told.Up buckets) j e = (sym (same_Some i j e), refl)
    inside_entered done left mark (told.Down cut) j e = absurd (not_some j e)
    inside_entered done left mark told.Done j e = absurd (not_some j e)

    entered_held : (done left : List Mark) (answer : WriteTold) → who.stage
        ≡ Entering (record { done = done; left = left })
        → CanComeAt setting world who (Entering (record { done = done; left = left })) answer
        → AreHolders (step_at setting world i who (Entering (record { done = done; left = left })) answer)
    entered_held done [] answer at can = absurd can
    entered_held done (mark ∷ left) answer at can =
        at_leaf_held mark.leaf same_view (entrant i answer)
        (after (Entering (record { done = done; left = mark ∷ left })) answer)
        (holding_entered (record { done = done; left = mark ∷ left }) answer)
        (λ l apart inside. outside_at (Entering (record { done = done; left = mark ∷ left })) at refl l inside)
        (inside_entered done left mark answer)

    -- who is inside of a leaf is inside of no other
    inside_elsewhere : (done left : List Mark) (mark : Mark) (at_root in_zone : List ℕ)
        → who.stage ≡ Inside (record { done = done; left = mark ∷ left }) at_root in_zone → (l : ℕ) → l ≢ mark.leaf.0
        → HoldsLeaf l (Writes who) → ⊥
    inside_elsewhere done left mark at_root in_zone at l apart inside =
        apart (sym (same_Some mark.leaf.0 l
        (sym (ap (option_map (λ (leaf : Leaf). leaf.0)) (ap leaf_inside at)) ∙ inside)))

    raised_held : (done left : List Mark) (at_root in_zone : List ℕ)
        → who.stage ≡ Inside (record { done = done; left = left }) at_root in_zone
        → AreHolders (step_at setting world i who (Inside (record { done = done; left = left }) at_root in_zone)
        told.Done)
    raised_held done [] at_root in_zone at = h
    raised_held done (mark ∷ left) (bucket ∷ at_root) in_zone at =
        at_leaf_held mark.leaf (with_root_bit (zone_of_leaf setting mark.leaf) bucket) (Some i)
        (Inside (record { done = done; left = mark ∷ left }) at_root in_zone) tt
        (inside_elsewhere done left mark (bucket ∷ at_root) in_zone at) (λ j e. (sym (same_Some i j e), refl))
    raised_held done (mark ∷ left) [] (bucket ∷ in_zone) at =
        at_leaf_held mark.leaf (with_zone_bit mark.leaf bucket) (Some i)
        (Inside (record { done = done; left = mark ∷ left }) [] in_zone) tt
        (inside_elsewhere done left mark [] (bucket ∷ in_zone) at) (λ j e. (sym (same_Some i j e), refl))
    raised_held done (mark ∷ left) [] [] at =
        at_leaf_held mark.leaf (with_entry mark.leaf (put_of who mark)) None
        (entering (after_look (record { done = done; left = mark ∷ left }) fate.Took))
        (holding_entering (after_look (record { done = done; left = mark ∷ left }) fate.Took))
        (inside_elsewhere done left mark [] [] at) (λ j e. absurd (not_some j e))

    inside_held : (round : Round) (at_root in_zone : List ℕ) (answer : WriteTold) → who.stage ≡ Inside round at_root
        in_zone
        → answer ≡ told.Done → AreHolders (step_at setting world i who (Inside round at_root in_zone) answer)
    inside_held round at_root in_zone answer at done =
        subst (λ (a : WriteTold). AreHolders (step_at setting world i who (Inside round at_root in_zone) a)) (sym done)
        (raised_held round.done round.left at_root in_zone at)

    acked_held : (verdict : Verdict) (answer : WriteTold) → who.stage ≡ Acking verdict
        → AreHolders (step_at setting world i who (Acking verdict) answer)
    acked_held verdict answer at =
        at_range_held (with_acknowledgement who verdict) None (after (Acking verdict) answer)
        (outside_at (Acking verdict) at
        refl)
        (λ j e. absurd (not_some j e))

    held_at : (stage : Stage) (answer : WriteTold) → who.stage ≡ stage → CanComeAt setting world who stage answer
        → AreHolders (step_at setting world i who stage answer)
    held_at Locking answer at can = locked_held answer at can
    held_at (Reserving round) answer at can = reserved_held round.done round.left answer at can
    held_at (Entering round) answer at can = entered_held round.done round.left answer at can
    held_at (Inside round at_root in_zone) answer at can = inside_held round at_root in_zone answer at can
    held_at (Acking verdict) answer at can = acked_held verdict answer at
    held_at (Ended verdict) answer at can = absurd can

-- whichever event of an actor's write comes
pub step_held : (setting : Setting) (world : World) (i : ℕ) (who : Writer) (answer : WriteTold) → world.actors i
    ≡ Writes who
    → AreHolders world → CanCome setting world i answer → AreHolders (step setting world i answer)
step_held setting world i who answer is h can =
    subst (λ (w : World). AreHolders w) (sym (ap (λ (actor : Actor). after_answer setting world i actor answer) is))
    (held_at setting world i who is h who.stage answer refl
    (subst (λ (actor : Actor). CanGo setting world actor answer) is can))

-- ---- a switch

-- who stands by holds nothing, and switches a leaf that nobody holds then
switched_held : (world : World) (i : ℕ) (actor : Actor) (leaf : Leaf) (down : Bool) (answer : SwitchTold)
    → world.actors i ≡ actor → AreHolders world → AreHolders (switched world i actor leaf down answer)
switched_held world i (Writes writer) leaf down answer is h = h
switched_held world i (Recovers recovery) leaf down answer is h = h
switched_held world i (Stands who) leaf down answer is h =
    let new : Actor = stands_on who (switches_with leaf down who.pass answer
    (joined_view who.view (world.leaves leaf.0))) in
    record {
      range = range_kept world i h new
          (λ r held. absurd (subst (λ (actor : Actor). HoldsRange r actor) is held));
      leaf = leaf_changed world i h new leaf.0 None
          (λ l apart held. absurd (subst (λ (actor : Actor). HoldsLeaf l actor) is held))
          (λ j e. absurd (none-some j e));
    }

pub switch_held : (world : World) (i : ℕ) (leaf : Leaf) (down : Bool) (answer : SwitchTold) → AreHolders world
    → AreHolders (after_switch world i leaf down answer)
switch_held world i leaf down answer = switched_held world i (world.actors i) leaf down answer refl

-- ---- a retirement

-- nor does who retires a replica of a range that nobody holds then
retired_held : (world : World) (i : ℕ) (actor : Actor) (range : Range) (leaf : Leaf) (answer : Retirement)
    → world.actors i ≡ actor → AreHolders world → AreHolders (retired world i actor range leaf answer)
retired_held world i (Writes writer) range leaf answer is h = h
retired_held world i (Recovers recovery) range leaf answer is h = h
retired_held world i (Stands who) range leaf answer is h =
    let new : Actor = stands_on who (retires_with range who.pass answer
    (joined_view who.view (world.ranges range.0))) in
    record {
      range = range_changed world i h new range.0 None
          (λ r apart held. absurd (subst (λ (actor : Actor). HoldsRange r actor) is held))
          (λ j e. absurd (none-some j e));
      leaf = leaf_kept world i h new
          (λ l held. absurd (subst (λ (actor : Actor). HoldsLeaf l actor) is held));
    }

pub retire_held : (world : World) (i : ℕ) (range : Range) (leaf : Leaf) (answer : Retirement) → AreHolders world
    → AreHolders (after_retirement world i range leaf answer)
retire_held world i range leaf answer = retired_held world i (world.actors i) range leaf answer refl
