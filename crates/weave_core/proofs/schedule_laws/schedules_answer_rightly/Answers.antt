use Rattle.query_core.specs.declared.stages.Stage.TheVariants.{Ended}
use Rattle.weave_core.proofs.ReachedLemmas.{reached}
use Rattle.core_theory.proofs.EndedLemmas.{finds_all}
use Rattle.core_theory.proofs.ReaderLemmas.{as_new, stage_is}
use Rattle.core_theory.proofs.RecoveredLemmas.{finds_all_down, recovers_all}
use Rattle.core_store.specs.Agreements.{store_of}
use Rattle.weave_core.proofs.schedule_laws.schedules_answer_rightly.Goals as goal

pub returns : goal.returns
returns c =
    let law = c.queries_answer_rightly.ensures in
    let said = c.what_is_said_was_noted.ensures in
    record {
      woven = λ config first state lines new leads.
          (reached config (said.noted (store_of config)) (said.begins (store_of config)) first state lines new
          leads).woven;
      answered = λ config first state lines k answer new leads is ended.
          let h = reached config (said.noted (store_of config)) (said.begins (store_of config)) first state lines new
          leads in
          let own = h.asked k is in
          law.answered (store_of config) state.core.world (state.core.readers k) answer (h.woven.readers k) own.first
          own.asked own.moment ended;
      stopped = λ config first state lines k limit trace new leads is ended.
          let h = reached config (said.noted (store_of config)) (said.begins (store_of config)) first state lines new
          leads in
          let own = h.asked k is in
          law.stopped (store_of config) state.core.world (state.core.readers k) limit trace (h.woven.readers k)
          own.first own.asked own.moment ended;
      no_replica = λ config first state lines k range named new leads is ended.
          let h = reached config (said.noted (store_of config)) (said.begins (store_of config)) first state lines new
          leads in
          let own = h.asked k is in
          law.no_replica (store_of config) state.core.world (state.core.readers k) range named (h.woven.readers k)
          own.first own.asked own.moment ended;
      named = λ config first state lines k end new leads is ended.
          let h = reached config (said.noted (store_of config)) (said.begins (store_of config)) first state lines new
          leads in
          let reader = state.core.readers k in
          let own = h.woven.readers k in
          let fresh = (h.asked k is).first in
          c.ends_name_what_was_told.ensures.named (store_of config) reader.setting reader.moment
          reader.begin reader.session end (as_new (store_of config) state.core.world reader own fresh)
          (stage_is (store_of config) state.core.world reader own fresh (Ended end) ended);
      done = λ config first state lines k writer new leads is.
          c.writes_keep_the_invariant.ensures.deeds (store_of config) state.core.world k writer
          (reached config (said.noted (store_of config)) (said.begins (store_of config)) first state lines new
          leads).woven.world is;
      written = λ config first state lines k writer marks new leads is ended took.
          c.writes_keep_the_invariant.ensures.ended (store_of config) state.core.world k writer
          (reached config (said.noted (store_of config)) (said.begins (store_of config)) first state lines new
          leads).woven.world is marks ended took;
      found = λ config first state lines k new leads.
          finds_all state.core.world
          (reached config (said.noted (store_of config)) (said.begins (store_of config)) first state lines new
          leads).found k;
      all = λ config first state lines k new leads.
          finds_all_down (store_of config) state.core.world
          (reached config (said.noted (store_of config)) (said.begins (store_of config)) first state lines new
          leads).woven.world k;
      recovered = λ config first state lines k new leads.
          let h = reached config (said.noted (store_of config)) (said.begins (store_of config)) first state lines new
          leads in
          recovers_all (store_of config) state.core.world h.woven.world h.found.noted k;
    }
