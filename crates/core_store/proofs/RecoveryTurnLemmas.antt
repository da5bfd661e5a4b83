-- A recovery's turn: it has gone on in the core as what is kept of it.
use Rattle.std.proofs.Common.{◌≡◌, ◌≢◌, ◌∙◌, ℕ, true, false, List, [], ◌∷◌, Some, refl, sym, ap, subst}
use Rattle.std.specs.Prelude.{is_some}
use Rattle.mon_config.specs.declared.config.Config.{Config}
use Rattle.mon_topo.specs.Settings.{Setting}
use Rattle.mon_topo.specs.Views.{View}
use Rattle.mon_topo.specs.declared.sights.Sight.{Sight}
use Rattle.mon_value.specs.declared.positions.FoundDown.{FoundDown}
use Rattle.mon_value.specs.declared.positions.SlotLeaf.{SlotLeaf}
use Rattle.mon_value.specs.declared.rows.Row.{Row}
use Rattle.core_store.proofs.RecoveryLemmas.{copy_is}
use Rattle.core_store.specs.Recoverers.{AsksOne, recovery_of}
use Rattle.core_store.specs.RecoverTurns.{AnswersSo, IsOpening, RecoverWent, recovering_then}
use Rattle.core_store.specs.RecoverTurns.{world_after_copy}
use Rattle.core_store.specs.NextAsks.{is_copy_past_lock}
use Rattle.core_store.specs.Agreements.{store_of}
use Rattle.core_store.specs.declared.recoveries.Recovering.{Recovering}
use Rattle.core_store.specs.declared.store.Store.{Store}
use Rattle.write_core.proofs.KeepsLemmas.{changed_same}
use Rattle.write_core.specs.CopyPhases.{copy_ask_of, rows_copied}
use Rattle.write_core.specs.CopySteps.{CanCopyAt, CanRecover, copy_at}
use Rattle.write_core.specs.Recovering.{Beginning, Carrying, CopyStage, Copying, Nearing, Over, Telling, Within}
use Rattle.write_core.specs.Recovering.{copied_after, copying}
use Rattle.write_core.specs.declared.copies.CopyTold.{CopyTold}
use Rattle.write_core.specs.declared.copies.CopyTold.TheVariants.{Admits, Denies, Gives, HasRoom, Sources, WasDone}
use Rattle.write_core.specs.declared.copies.CopyTold.TheVariants.{WasDown, WasOpened}
use Rattle.write_core.specs.declared.copies.Outcome.{Outcome}
use Rattle.write_core.specs.World.{Actor, Recovery, World, recovers_on, view_of}
use Rattle.write_core.specs.declared.copies.CopyAsk.TheVariants as ask

-- ---- stages that go on

pub record GoesOn (stage : CopyStage) : Type 0 where
  pub asks : AsksOne stage
  pub past : is_copy_past_lock stage ≡ true
  pub going : copy_ask_of stage ≢ ask.Finished

on_copying : (founds : List FoundDown) (sources : List SlotLeaf) → GoesOn (copying founds sources)
on_copying founds [] = record { asks = tt; past = refl; going = λ e. absurd cc }
on_copying founds (source ∷ left) = record { asks = tt; past = refl; going = λ e. absurd cc }

on_carrying : (rows : List Row) → GoesOn (Carrying rows)
on_carrying rows = record { asks = tt; past = refl; going = λ e. absurd cc }

on_nearing : (rows : List Row) → GoesOn (Nearing rows)
on_nearing rows = record { asks = tt; past = refl; going = λ e. absurd cc }

on_within : (rows : List Row) (at_root in_zone : List ℕ) → GoesOn (Within rows at_root in_zone)
on_within rows (bucket ∷ at_root) in_zone = record { asks = tt; past = refl; going = λ e. absurd cc }
on_within rows [] (bucket ∷ in_zone) = record { asks = tt; past = refl; going = λ e. absurd cc }
on_within rows [] [] = record { asks = tt; past = refl; going = λ e. absurd cc }

on_telling : (outcome : Outcome) → GoesOn (Telling outcome)
on_telling outcome = record { asks = tt; past = refl; going = λ e. absurd cc }

module _ (setting : Setting) (world : World) (who : Recovery) where
  -- an event before the last one leads to such a stage
  go_on : (stage : CopyStage) (answer : CopyTold) → CanCopyAt setting world who stage answer
      → (copy_ask_of stage ≡ ask.Ack → ⊥) → GoesOn (copied_after stage answer)
  go_on Beginning (Sources replicas) can more = on_copying [] replicas
  go_on Beginning (Denies why) can more = on_telling _
  go_on Beginning (Gives rows) can more = absurd can.1
  go_on Beginning HasRoom can more = absurd can.1
  go_on Beginning (Admits buckets) can more = absurd can.1
  go_on Beginning (WasDown cut) can more = absurd can.1
  go_on Beginning (WasOpened slot) can more = absurd can.1
  go_on Beginning WasDone can more = absurd can.1
  go_on (Copying founds []) answer can more = absurd can
  go_on (Copying founds (source ∷ left)) (Gives rows) can more = on_carrying rows
  go_on (Copying founds (source ∷ left)) (WasDown cut) can more = on_copying _ left
  go_on (Copying founds (source ∷ left)) (Sources replicas) can more = absurd can.1
  go_on (Copying founds (source ∷ left)) (Denies why) can more = absurd can.1
  go_on (Copying founds (source ∷ left)) HasRoom can more = absurd can.1
  go_on (Copying founds (source ∷ left)) (Admits buckets) can more = absurd can.1
  go_on (Copying founds (source ∷ left)) (WasOpened slot) can more = absurd can.1
  go_on (Copying founds (source ∷ left)) WasDone can more = absurd can.1
  go_on (Carrying rows) HasRoom can more = on_nearing rows
  go_on (Carrying rows) (WasDown cut) can more = on_telling _
  go_on (Carrying rows) (Sources replicas) can more = absurd can.1
  go_on (Carrying rows) (Denies why) can more = absurd can.1
  go_on (Carrying rows) (Gives others) can more = absurd can.1
  go_on (Carrying rows) (Admits buckets) can more = absurd can.1
  go_on (Carrying rows) (WasOpened slot) can more = absurd can.1
  go_on (Carrying rows) WasDone can more = absurd can.1
  go_on (Nearing rows) (Admits buckets) can more = on_within rows buckets buckets
  go_on (Nearing rows) (WasDown cut) can more = on_telling _
  go_on (Nearing rows) (Sources replicas) can more = absurd can.1
  go_on (Nearing rows) (Denies why) can more = absurd can.1
  go_on (Nearing rows) (Gives others) can more = absurd can.1
  go_on (Nearing rows) HasRoom can more = absurd can.1
  go_on (Nearing rows) (WasOpened slot) can more = absurd can.1
  go_on (Nearing rows) WasDone can more = absurd can.1
  go_on (Within rows (bucket ∷ at_root) in_zone) answer can more =
      subst (λ (a : CopyTold). GoesOn (copied_after (Within rows (bucket ∷ at_root) in_zone) a)) (sym can)
      (on_within rows at_root in_zone)
  go_on (Within rows [] (bucket ∷ in_zone)) answer can more =
      subst (λ (a : CopyTold). GoesOn (copied_after (Within rows [] (bucket ∷ in_zone)) a)) (sym can)
      (on_within rows [] in_zone)
  go_on (Within rows [] []) answer can more =
      subst (λ (a : CopyTold). GoesOn (copied_after (Within rows [] []) a)) (sym can) (on_telling _)
  go_on (Telling outcome) answer can more = absurd (more refl)
  go_on (Over outcome) answer can more = absurd can

  -- ---- the recovery as it is then

  record StandsOn (next : CopyStage) (actor : Actor) : Type 0 where
    pub is : actor ≡ recovers_on who next (view_of actor)

  stood : (next : CopyStage) (seen : View) (actor : Actor) → actor ≡ recovers_on who next seen → StandsOn next actor
  stood next seen actor e = record {
    is = e ∙ ap (λ (v : View). recovers_on who next v) (sym (ap view_of e));
  }

  module _ (i : ℕ) where
    after_stage : (stage : CopyStage) (answer : CopyTold) → CanCopyAt setting world who stage answer
        → StandsOn (copied_after stage answer) ((copy_at setting world i who stage answer).actors i)
    after_stage Beginning answer can = stood _ _ _ (changed_same world.actors i _)
    after_stage (Copying founds []) answer can = absurd can
    after_stage (Copying founds (source ∷ left)) answer can = stood _ _ _ (changed_same world.actors i _)
    after_stage (Carrying rows) answer can = stood _ _ _ (changed_same world.actors i _)
    after_stage (Nearing rows) answer can = stood _ _ _ (changed_same world.actors i _)
    after_stage (Within rows (bucket ∷ at_root) in_zone) answer can = stood _ _ _ (changed_same world.actors i _)
    after_stage (Within rows [] (bucket ∷ in_zone)) answer can = stood _ _ _ (changed_same world.actors i _)
    after_stage (Within rows [] []) answer can = stood _ _ _ (changed_same world.actors i _)
    after_stage (Telling outcome) answer can = stood _ _ _ (changed_same world.actors i _)
    after_stage (Over outcome) answer can = absurd can

-- ---- turns

module _ (config : Config) (world : World) (i : ℕ) (store : Store) (recovering : Recovering) (sight : Sight)
    (opening : IsOpening config world i store recovering sight) where
  abbrev who' : Recovery
  who' = recovery_of i recovering (view_of (world.actors i))

  can_at : (answer : CopyTold) → CanRecover (store_of config) world (world.actors i) answer
      → CanCopyAt (store_of config) world who' recovering.machine answer
  can_at answer can =
      subst (λ (actor : Actor). CanRecover (store_of config) world actor answer) opening.recoverer.recovers can

  pub went : (new : Store) (now : Sight) (answer : CopyTold) → (copy_ask_of recovering.machine ≡ ask.Ack → ⊥)
      → AnswersSo config world i recovering new sight now (Some answer)
      → RecoverWent config world i new recovering (recovering_then recovering answer) now
  went new now answer more answered =
      let can = can_at answer answered.0.can in
      let on = go_on (store_of config) world who' recovering.machine answer can more in
      let stands : StandsOn (store_of config) world who' (copied_after recovering.machine answer)
      ((world_after_copy config world i answer).actors i)
      = subst (λ (w : World). StandsOn (store_of config) world who' (copied_after recovering.machine answer)
      (w.actors i)) (sym (copy_is config world i store recovering sight opening recovering.machine answer refl))
      (after_stage (store_of config) world who' i recovering.machine answer can) in
      record {
        answer = answer;
        came = answered.0;
        next_is = refl;
        recoverer = record {
          number = opening.recoverer.number;
          recovers = stands.is;
          asks = on.asks;
          below = answered.1;
          since = λ e. let no : false ≡ true = sym (ap is_copy_past_lock e) ∙ on.past in absurd cc;
          seen = answered.0.sight_is;
        };
        goes_on = on.going;
        past = on.past;
      }

-- ---- what is asked of the calls

pub copied_there : (stage : CopyStage) → copy_ask_of stage ≡ ask.Enter → is_some (rows_copied stage) ≡ true
copied_there Beginning e = absurd cc
copied_there (Copying founds []) e = absurd cc
copied_there (Copying founds (source ∷ left)) e = absurd cc
copied_there (Carrying rows) e = absurd cc
copied_there (Nearing rows) e = refl
copied_there (Within rows (bucket ∷ at_root) in_zone) e = absurd cc
copied_there (Within rows [] (bucket ∷ in_zone)) e = absurd cc
copied_there (Within rows [] []) e = absurd cc
copied_there (Telling outcome) e = absurd cc
copied_there (Over outcome) e = absurd cc
