-- A write's turn: it has gone on in the core as what is kept of it, or another one is in its way.
use Rattle.std.proofs.Common.{◌≡◌, ℕ, true, Option, Some, None, refl, sym, ap, subst, ◌∙◌}
use Rattle.std.specs.Prelude.{◌≢◌, is_some}
use Rattle.mon_config.specs.declared.config.Config.{Config}
use Rattle.mon_value.specs.declared.positions.Leaf.{Leaf}
use Rattle.core_store.proofs.AtWorkLemmas.{looks_after}
use Rattle.core_store.specs.Writers.{IsKeyed, IsWriterSo, LooksAtOne, RaisesBelow, change_turn, writer_of}
use Rattle.core_store.specs.Agreements.{AreShared}
use Rattle.core_store.specs.Holders.{HoldsLeaf, HoldsRange, leaf_inside}
use Rattle.mon_topo.specs.Sights.{sight_of}
use Rattle.core_store.specs.NextAsks.{holder_for_actor}
use Rattle.core_store.specs.Agreements.{store_of}
use Rattle.core_store.specs.WriteEvents.{IsToldSo}
use Rattle.core_store.specs.WriteTurns.{IsAtWork, WriteWaits, WriteWent}
use Rattle.mon_topo.specs.declared.sights.Sight.{Sight}
use Rattle.core_store.specs.declared.store.Store.{Store}
use Rattle.core_store.specs.declared.writes.Writing.{Writing}
use Rattle.write_core.specs.Program.{Stage, after, ask_of}
use Rattle.write_core.specs.Steps.{CanCome, CanComeAt, step, step_at, after_answer, CanGo}
use Rattle.mon_topo.specs.Views.{View}
use Rattle.write_core.specs.World.{Actor, World, Writer, Writes, view_of, writes_on}
use Rattle.write_core.specs.declared.asks.WriteAsk.TheVariants as ask
use Rattle.write_core.specs.declared.asks.WriteTold.{WriteTold}

pub some_of : (holder : Option ℕ) → is_some holder ≡ true → (other : ℕ) × (holder ≡ Some other)
some_of None e = absurd cc
some_of (Some other) e = (other, refl)

module _ (config : Config) (world : World) (i : ℕ) (store : Store) (writing : Writing) (sight : Sight)
    (work : IsAtWork config world i store writing sight) where
  abbrev who : Writer
  who = writer_of i writing (view_of (world.actors i))

  -- ---- the event of the core

  -- what an event of a write at this stage makes of the world
  pub step_is : (stage : Stage) (answer : WriteTold) → writing.machine.stage ≡ stage
      → step (store_of config) world i answer ≡ step_at (store_of config) world i who stage answer
  step_is stage answer e =
      ap (λ (actor : Actor). after_answer (store_of config) world i actor answer) work.writer.writer
      ∙ ap (λ (s : Stage). step_at (store_of config) world i who s answer) e

  pub can_come : (stage : Stage) (answer : WriteTold) → writing.machine.stage ≡ stage
      → CanComeAt (store_of config) world who stage answer → CanCome (store_of config) world i answer
  can_come stage answer e h =
      subst (λ (actor : Actor). CanGo (store_of config) world actor answer) (sym work.writer.writer)
      (subst (λ (s : Stage). CanComeAt (store_of config) world who s answer) (sym e) h)

  -- ---- the write as it is kept

  -- it was told so, and has seen so much
  pub writer_then : (doer : Actor) (stage : Stage) (seen : View) (answer : WriteTold) (inside : Option Leaf)
      (next : Writing)
      (now : Sight) → doer ≡ writes_on who stage seen → after writing.machine.stage answer ≡ stage
      → IsToldSo answer inside writing next → inside ≡ leaf_inside stage → RaisesBelow config.buckets stage
      → now ≡ sight_of seen.seen
      → IsWriterSo config.buckets i doer next now
  writer_then doer stage seen answer inside next now doer_is stage_is told inside_is below now_is =
      let goes : next.machine.stage ≡ stage = told.stage ∙ stage_is in
      let view_is : view_of doer ≡ seen = ap view_of doer_is in
      record {
        number = told.number ∙ work.writer.number;
        key = subst IsKeyed (sym told.change) work.writer.key;
        writer = doer_is ∙ (λ k. Writes (record {
          pass = i;
          turn = change_turn (sym told.change k);
          range = sym told.range k;
          stage = sym goes k;
          view = sym view_is k;
        }));
        range = told.machine_range ∙ work.writer.range ∙ sym told.range;
        looks = subst LooksAtOne (sym told.stage) (looks_after writing.machine.stage answer work.writer.looks);
        below = subst (λ (s : Stage). RaisesBelow config.buckets s) (sym goes) below;
        inside = told.inside_of ∙ inside_is ∙ ap leaf_inside (sym goes);
        seen = now_is ∙ ap (λ (view : View). sight_of view.seen) (sym view_is);
      }

  -- ---- turns

  -- its event has come, and it goes on
  pub went_so : (answer : WriteTold) (then' : World) (new : Store) (next : Writing) (now : Sight)
      → step (store_of config) world i answer ≡ then' → CanCome (store_of config) world i answer → AreShared config
      then' new
      → IsWriterSo config.buckets i (then'.actors i) next now → ask_of next.machine.stage ≢ ask.Finished
      → next.machine.stage ≡ after writing.machine.stage answer → WriteWent config world i new writing next now
  went_so answer then' new next now is can shared writer goes_on stage = record {
    answer = answer;
    stage = stage;
    came = record {
      can = can;
      shared = subst (λ (w : World). AreShared config w new) (sym is) shared;
    };
    writer = subst (λ (w : World). IsWriterSo config.buckets i (w.actors i) next now) (sym is) writer;
    goes_on = goes_on;
  }

  -- another one holds what it needs
  pub waits_so : (holder : Option ℕ) (new : Store) (next : Writing) (now : Sight)
      → is_some holder ≡ true → holder_for_actor world (world.actors i) ≡ holder → (holder ≡ Some i → ⊥)
      → AreShared config world new → next ≡ writing → now ≡ sight → WriteWaits config world i new writing next sight now
  waits_so holder new next now some holds anothers shared same seen =
      let other = some_of holder some in
      record {
        other = other.0;
        holds = holds ∙ other.1;
        another = λ e. anothers (other.1 ∙ ap (λ (n : ℕ). Some n) e);
        shared = shared;
        writer = same;
        seen = seen;
      }

  -- who holds a range is past its lock, and who holds a leaf is inside of it
  pub not_mine_range : (range : ℕ) → (HoldsRange range (Writes who) → ⊥) → world.range_holder range ≡ Some i → ⊥
  not_mine_range range not e =
      not (subst (λ (actor : Actor). HoldsRange range actor) work.writer.writer (work.holders.range range i e))

  pub not_mine_leaf : (leaf : ℕ) → (HoldsLeaf leaf (Writes who) → ⊥) → world.leaf_holder leaf ≡ Some i → ⊥
  not_mine_leaf leaf not e =
      not (subst (λ (actor : Actor). HoldsLeaf leaf actor) work.writer.writer (work.holders.leaf leaf i e))
