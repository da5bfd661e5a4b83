-- How a trim ends, by what its range's cell answers: what its caller has is again that of a caller between its calls.
use Rattle.std.proofs.Common.{◌≡◌, ℕ, ℤ, ◌<◌, length}
use Rattle.std.specs.Prelude.{Result, Ok, Err, IfOk, IfErr, OnErr}
use Rattle.history_book.specs.Seats.{IsPurseBorneOut}
use Rattle.know.specs.Knowledge.{Knowledge}
use Rattle.know.specs.Sound.{IsSound}
use Rattle.mon_config.specs.declared.config.Config.{Config}
use Rattle.mon_topo.specs.Settings.{Setting}
use Rattle.mon_topo.specs.Zones.{leaves_in, ranges_in}
use Rattle.mon_value.specs.Turns.{Hides}
use Rattle.mon_value.specs.declared.histories.Ack.{Ack}
use Rattle.mon_value.specs.declared.positions.Range.{Range}
use Rattle.owners.specs.Puts.{pass_of}
use Rattle.mon_store.proofs.CarriedLemmas.{asked_carried}
use Rattle.mon_store.proofs.RefusedLemmas.{none_carried, none_down, none_found, none_leaves, none_own, up_carried, up_own}
use Rattle.mon_store.proofs.TrimmedLemmas.{is_trimmed}
use Rattle.mon_store.proofs.WriteLemmas.{IsLeft, same_pass, unwritten}
use Rattle.mon_store.proofs.WrittenLemmas.{acknowledged_pass}
use Rattle.mon_store.specs.Passes.{IsPass}
use Rattle.mon_store.specs.Trims.{IsNotTrimmed, IsTrimmed}
use Rattle.mon_store.specs.Writes.{IsUnwritten}
use Rattle.range_cell.specs.Trims.{AtLock, Behind, HasNotTrimmed, HasTrimmed}
use Rattle.range_cell.specs.declared.answers.TrimFault.{TrimFault}
use Rattle.range_cell.specs.declared.answers.TrimFault.TheVariants as fault

module _ (setting : Setting) (config : Config) (leaves : ℕ) (range : Range) (bound : ℤ) (before after : Knowledge)
    (is : IsPass setting before) (borne : IsPurseBorneOut after.seen after.purse)
    (sound : IsSound setting after.hints after.seen) (counted : leaves ≡ length (leaves_in config.topology))
    (here : range.0 < length (ranges_in setting.zones)) where
  left : (f : TrimFault) → HasNotTrimmed leaves range bound (pass_of before) before after f → IsLeft before after
  left (fault.Unavailable at founds) h = record {
    carried = none_carried setting config leaves range (Hides bound) before after is counted h.history h.begun h.begins
        founds h.ends.1;
    own = none_own setting config leaves range (Hides bound) before after is counted h.history h.begun h.begins founds
        h.ends.1;
  }
  left fault.OutOfMemory (AtLock met) =
      record { carried = asked_carried setting config leaves range before after is counted met; own = met.own }
  left fault.OutOfMemory (Behind h) = record {
    carried = up_carried setting config leaves range (Hides bound) before after is counted h.history h.begun h.begins
        h.ends;
    own = up_own setting config leaves range (Hides bound) before after is counted h.history h.begun h.begins h.ends;
  }

  abbrev Trimmed : Result Ack TrimFault → Type 0
  Trimmed result = HasTrimmed leaves range bound (pass_of before) before after result

  pub ended_pass : (result : Result Ack TrimFault) → Trimmed result → IsPass setting after
  ended_pass (Ok ack) h =
      acknowledged_pass setting config leaves range (Hides bound) before after is borne sound counted here h.history
      h.begun h.begins ack h.ends
  ended_pass (Err f) h = let at = left f h in same_pass setting before after is at.carried borne at.own

  pub ended_trimmed : (result : Result Ack TrimFault) → Trimmed result
      → IfOk result (IsTrimmed config range bound before after)
  ended_trimmed (Ok ack) h =
      is_trimmed setting config leaves range bound before after is borne sound counted here h.history h.begun h.begins
      ack h.ends
  ended_trimmed (Err f) h = tt

  pub ended_nothing : (result : Result Ack TrimFault) → Trimmed result → OnErr result (IsUnwritten before after)
  ended_nothing (Ok ack) h = tt
  ended_nothing (Err f) h = let at = left f h in unwritten setting before after is at.carried borne at.own

  refused_so : (f : TrimFault) → HasNotTrimmed leaves range bound (pass_of before) before after f
      → IsNotTrimmed config range before after f
  refused_so (fault.Unavailable at founds) h = record {
    at_is = h.ends.0;
    history = h.history;
    found = none_found setting config leaves range (Hides bound) before after is counted h.history h.begun h.begins
        founds h.ends.1;
    leaves = none_leaves setting config leaves range (Hides bound) before after is counted h.history h.begun h.begins
        founds h.ends.1;
    down = none_down setting config leaves range (Hides bound) before after is counted h.history h.begun h.begins founds
        h.ends.1;
  }
  refused_so fault.OutOfMemory h = tt

  pub ended_refused : (result : Result Ack TrimFault) → Trimmed result
      → IfErr result (IsNotTrimmed config range before after)
  ended_refused (Ok ack) h = tt
  ended_refused (Err f) h = refused_so f h
