use Rattle.core_theory.proofs.CoreLemmas.{new_woven, stays_woven}
use Rattle.core_theory.proofs.EndedLemmas.{go_on_finds, new_finds}
use Rattle.core_theory.proofs.RecoveredLemmas.{recovers_all}
use Rattle.core_theory.specs.Core.{core_gone_on}
use Rattle.core_theory.proofs.laws.recoveries_come_out_rightly.Goals as goal

pub returns : goal.returns
returns c =
    let said = c.what_is_said_was_noted.ensures in
    record {
      recovered = λ store core events i new can.
          recovers_all store (core_gone_on store core events).world
          (stays_woven store core events can (new_woven store core new)).world
          (go_on_finds store (said.noted store) core events can (new_woven store core new)
          (new_finds store (said.noted store) (said.begins store) core.world new.world)).noted i;
    }
