-- A text's plan is asked of the store by a caller between its calls, which is between calls again when it has ended.
use Rattle.std.proofs.Common.{◌≡◌, ◌∙◌, ◌<◌, ◌≤ℤ◌, ◌^◌, ℕ, ℤ, List, pos, length, refl, sym, ap, subst, Ok, Err}
use Rattle.std.specs.List.{AllByRecursion}
use Rattle.std.specs.Prelude.{IfOk, Result, Contains, option_map, option_to_list, ◌++◌}
use Rattle.history_book.specs.Seats.{IsPurseBorneOut, hand_of, kept_in}
use Rattle.history_book.specs.declared.views.Kept.{Kept}
use Rattle.know.specs.Knowledge.{Knowledge}
use Rattle.know.specs.Sound.{IsSound}
use Rattle.mon_config.specs.declared.config.Config.{Config}
use Rattle.mon_topo.proofs.HeldLemmas.{seen_within_through}
use Rattle.mon_topo.specs.HeldHistories.{first_histories}
use Rattle.mon_topo.specs.Settings.{Setting}
use Rattle.mon_topo.specs.Zones.{leaf_counts, ranges_in}
use Rattle.typed_trees.specs.declared.plans.Plan.{Plan}
use Rattle.owners.specs.Puts.{pass_of}
use Rattle.query_traces.specs.Askings.{IsAskedOf}
use Rattle.query_traces.specs.Rounds.{QuerySetting}
use Rattle.query_traces.specs.declared.answers.Answer.{Answer}
use Rattle.query_traces.specs.declared.answers.RoundFault.{RoundFault}
use Rattle.query_traces.specs.declared.answers.RoundFault.TheVariants as round
use Rattle.query_texts.specs.TextTypes.{IsPlanOver, plan_type, text_type}
use Rattle.raise_table.specs.Tables.{RaiseIdentity}
use Rattle.running_query.specs.Asking.{IsAskedHere}
use Rattle.running_query.specs.Ends.{EndsRightly}
use Rattle.running_query.specs.Looks.{GoesOn}
use Rattle.mon_store.proofs.OwnLemmas.{still_exact}
use Rattle.know.proofs.SoundLemmas.{within_front}
use Rattle.mon_store.proofs.PassLemmas.{number_still}
use Rattle.leaf_store.proofs.BucketLemmas.{own_buckets}
use Rattle.mon_store.specs.Passes.{IsPass}
use Rattle.mon_store.specs.Queries.{EndsIf, IsQueried, IsServed, IsToldAs, areas_in}
use Rattle.mon_store.specs.Stores.{IsSetUp, setting_of}
use Rattle.mon_store.specs.declared.queries.QueryFault.{QueryFault}
use Rattle.mon_store.specs.declared.queries.QueryFault.TheVariants as fault

-- ---- what is asked

module _ (config : Config) (served : IsServed config) (plan : Plan) (limit : ℕ)
    (over : IsPlanOver config.schemas config.buckets plan) where
  abbrev setting : QuerySetting
  setting = record { plan = plan; areas = areas_in config; limit = limit }

  asked : IsAskedOf (setting_of config) setting
  asked = record {
    lawful = served.lawful;
    replicas = served.replicas;
    areas = refl;
    metrics = served.metrics;
    targets = served.targets;
    query = over.query.query;
    spelled = over.query.spelled;
    durations = over.query.durations;
    typed = over.query.is;
    buckets = config.buckets;
    hinted = λ target metric key. own_buckets config.buckets config.schemas target metric key;
    promise = over.promise;
    listed = over.listed;
  }

  pub asked_here : (store : Setting) (raise : RaiseIdentity) (moment : ℤ) (know : Knowledge)
      → IsSetUp store raise config → raise.zones ≡ leaf_counts store.zones → pos 0 ≤ℤ moment → IsPass store know
      → IsSound store know.hints know.seen → IsAskedHere store raise setting moment know
  asked_here store raise moment know set_up zones from pass sound = record {
    asked = subst (λ (s : Setting). IsAskedOf s setting) (sym set_up.setting_is) asked;
    from = from;
    some = subst (λ (n : ℕ). 0 < n) (sym set_up.buckets) set_up.limited.some;
    below = subst (λ (n : ℕ). AllByRecursion (λ (bucket : ℕ). bucket < n) plan.buckets) (sym set_up.buckets)
        over.below;
    zones = zones;
    few = subst (λ (s : Setting). length (ranges_in s.zones) < 2 ^ 32) (sym set_up.setting_is) served.few;
    free = pass.holds;
    begun = pass.begun;
    sound = sound;
  }

-- ---- what its caller is then

pub queried_pass : (store : Setting) (before after : Knowledge) → IsPass store before → GoesOn store before after
    → IsPurseBorneOut after.seen after.purse → IsPass store after
queried_pass store before after is goes borne =
    let all : kept_in after.purse ≡ kept_in before.purse = (λ i. option_to_list (goes.own i) ++ goes.met i) in
    record {
      number = number_still (hand_of after.purse).own (hand_of before.purse).own (pass_of before)
          (ap (λ o. option_map (λ (kept : Kept). kept.number) o) goes.own) is.number;
      holds = goes.holds ∙ is.holds;
      rooms = goes.rooms ∙ is.rooms;
      begun = seen_within_through (first_histories store.zones) before.seen after.seen is.begun
          (within_front before.seen after.seen goes.fronts);
      exact = λ kept history there.
          still_exact before after goes.fronts is.exact borne kept history
          (subst (λ (xs : List Kept). Contains xs kept) all there) there;
      borne_out = borne;
    }

-- ---- what is told

module _ (store : Setting) (setting : QuerySetting) (moment : ℤ) (before after : Knowledge) where
  abbrev Ends : Result Answer RoundFault → Type 0
  Ends end = EndsRightly store setting moment before after end

  pub told_end : {F : Type 0} (ended : Result (Result Answer RoundFault) F) → IfOk ended Ends
      → (result : Result Answer QueryFault) → IsToldAs ended result → EndsIf store setting moment before after result
  told_end (Ok (Ok answer)) h result told = subst (EndsIf store setting moment before after) (sym told) h
  told_end (Ok (Err (round.NoReplica range named))) h result told =
      subst (EndsIf store setting moment before after) (sym told) h
  told_end (Ok (Err (round.StepLimit most trace))) h result told =
      subst (EndsIf store setting moment before after) (sym told) h
  told_end (Err why) h result told = subst (EndsIf store setting moment before after) (sym told) tt

-- a text that has a plan ends as its query does
pub queried : (config : Config) (text : List ℕ) (moment : ℤ) (limit : ℕ) (before after : Knowledge) (plan : Plan)
    → text_type config.schemas text ≡ Ok (plan_type plan) → IsPlanOver config.schemas config.buckets plan
    → (result : Result Answer QueryFault)
    → EndsIf (setting_of config) (record { plan = plan; areas = areas_in config; limit = limit }) moment before after
    result
    → IsQueried config text moment limit before after result
queried config text moment limit before after plan typed over (Ok answer) h = record {
  setting = record { plan = plan; areas = areas_in config; limit = limit };
  of_text = record { typed = typed; plan = over; areas = refl; limit_is = refl };
  ends = h;
}
queried config text moment limit before after plan typed over (Err (fault.NoReplica range named)) h = record {
  setting = record { plan = plan; areas = areas_in config; limit = limit };
  of_text = record { typed = typed; plan = over; areas = refl; limit_is = refl };
  ends = h;
}
queried config text moment limit before after plan typed over (Err (fault.StepLimit most trace)) h = record {
  setting = record { plan = plan; areas = areas_in config; limit = limit };
  of_text = record { typed = typed; plan = over; areas = refl; limit_is = refl };
  ends = h;
}
queried config text moment limit before after plan typed over (Err (fault.Parse why)) h = absurd h
queried config text moment limit before after plan typed over (Err (fault.Typing why)) h = absurd h
queried config text moment limit before after plan typed over (Err fault.OutOfMemory) h = tt
