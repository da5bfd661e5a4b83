-- How a write ends, by what its range's cell answers: what its caller has is again that of a caller between its calls.
use Rattle.std.proofs.Common.{◌≡◌, ℕ, ◌<◌, length, sym, ap, subst, ◌∙◌, Some}
use Rattle.std.specs.Prelude.{Result, Ok, Err, IfOk, IfErr, OnErr}
use Rattle.history_book.specs.Books.{BookIdentity}
use Rattle.history_book.specs.Seats.{IsPurseBorneOut}
use Rattle.know.specs.Knowledge.{Knowledge}
use Rattle.know.specs.Sound.{IsSound}
use Rattle.know.specs.Tables.{AreTablesOf}
use Rattle.mon_config.specs.Configs.{range_of_key}
use Rattle.mon_config.specs.declared.config.Config.{Config}
use Rattle.mon_topo.specs.Settings.{Setting}
use Rattle.mon_topo.specs.Zones.{leaves_in, ranges_in}
use Rattle.mon_value.specs.Histories.{range_history}
use Rattle.mon_value.specs.Turns.{Adds}
use Rattle.mon_value.specs.declared.histories.Ack.{Ack}
use Rattle.mon_value.specs.declared.positions.Range.{Range}
use Rattle.mon_value.specs.declared.rows.Row.{Row}
use Rattle.owners.specs.Puts.{pass_of}
use Rattle.mon_store.proofs.CarriedLemmas.{asked_carried, asked_found}
use Rattle.mon_store.proofs.RefusedLemmas.{goes_in, is_full, is_old, none_carried, none_down, none_found, none_leaves}
use Rattle.mon_store.proofs.RefusedLemmas.{none_own, up_carried, up_own}
use Rattle.mon_store.proofs.WriteLemmas.{IsLeft, same_pass, unwritten}
use Rattle.mon_store.proofs.WrittenLemmas.{acknowledged_pass, is_written}
use Rattle.mon_store.specs.Passes.{IsPass}
use Rattle.mon_store.specs.Stores.{IsSetUp}
use Rattle.mon_store.specs.Writes.{IsRefused, IsUnwritten, IsWritten}
use Rattle.raise_table.specs.Tables.{RaiseIdentity}
use Rattle.range_cell.specs.Writes.{HasNotWritten, HasWritten, AtLock, Behind}
use Rattle.range_cell.specs.declared.answers.WriteFault.{WriteFault}
use Rattle.range_cell.specs.declared.answers.WriteFault.TheVariants as fault

module _ (setting : Setting) (raise : RaiseIdentity) (book : BookIdentity) (config : Config) (range : Range) (row : Row)
    (before after : Knowledge) (set : IsSetUp setting raise config) (sized : AreTablesOf setting raise book)
    (is : IsPass setting before) (borne : IsPurseBorneOut after.seen after.purse)
    (sound : IsSound setting after.hints after.seen) (there : range.0 < length (ranges_in config.topology))
    (in_range : range_of_key config row.key ≡ Some range) where
  abbrev leaves : ℕ
  leaves = book.leaves

  abbrev limit : ℕ
  limit = setting.points

  counted : leaves ≡ length (leaves_in config.topology)
  counted = sized.leaves ∙ ap (λ (s : Setting). length (leaves_in s.zones)) set.setting_is

  few : limit ≡ config.range_points
  few = ap (λ (s : Setting). s.points) set.setting_is

  here : range.0 < length (ranges_in setting.zones)
  here = subst (λ (s : Setting). range.0 < length (ranges_in s.zones)) (sym set.setting_is) there

  left : (f : WriteFault) → HasNotWritten leaves range row limit (pass_of before) before after f → IsLeft before after
  left fault.NoZone h = absurd h
  left (fault.OldPoint last) h =
      record { carried = asked_carried setting config leaves range before after is counted h.met; own = h.met.own }
  left (fault.RangeFull count) h =
      record { carried = asked_carried setting config leaves range before after is counted h.met; own = h.met.own }
  left (fault.Unavailable at founds) h = record {
    carried = none_carried setting config leaves range (Adds row) before after is counted h.history h.begun h.begins founds
        h.ends.1;
    own = none_own setting config leaves range (Adds row) before after is counted h.history h.begun h.begins founds h.ends.1;
  }
  left fault.OutOfMemory (AtLock met) =
      record { carried = asked_carried setting config leaves range before after is counted met; own = met.own }
  left fault.OutOfMemory (Behind h) = record {
    carried = up_carried setting config leaves range (Adds row) before after is counted h.history h.begun h.begins h.ends;
    own = up_own setting config leaves range (Adds row) before after is counted h.history h.begun h.begins h.ends;
  }

  pub ended_pass : (result : Result Ack WriteFault)
      → HasWritten leaves range row limit (pass_of before) before after result → IsPass setting after
  ended_pass (Ok ack) h =
      acknowledged_pass setting config leaves range (Adds row) before after is borne sound counted here h.history h.begun
      h.begins ack h.ends
  ended_pass (Err f) h = let at = left f h in same_pass setting before after is at.carried borne at.own

  pub ended_written : (result : Result Ack WriteFault)
      → HasWritten leaves range row limit (pass_of before) before after result
      → IfOk result (IsWritten config row before after)
  ended_written (Ok ack) h =
      is_written setting config leaves range row before after is borne sound counted here h.history h.begun
      h.begins ack h.ends in_range (goes_in limit config.range_points few h.history row _ h.takes)
  ended_written (Err f) h = tt

  pub ended_unwritten : (result : Result Ack WriteFault)
      → HasWritten leaves range row limit (pass_of before) before after result → OnErr result (IsUnwritten before after)
  ended_unwritten (Ok ack) h = tt
  ended_unwritten (Err f) h = let at = left f h in unwritten setting before after is at.carried borne at.own

  refused_so : (f : WriteFault) → HasNotWritten leaves range row limit (pass_of before) before after f
      → IsRefused config row before after f
  refused_so fault.NoZone h = absurd h
  refused_so (fault.OldPoint last) h = record {
    range = range;
    in_range = in_range;
    history = range_history after.seen range;
    found = asked_found setting config leaves range before after is counted h.met;
    cause = is_old limit config.range_points few (range_history after.seen range) row last h.why;
  }
  refused_so (fault.RangeFull count) h = record {
    range = range;
    in_range = in_range;
    history = range_history after.seen range;
    found = asked_found setting config leaves range before after is counted h.met;
    cause = is_full limit config.range_points few (range_history after.seen range) row count h.why;
  }
  refused_so (fault.Unavailable at founds) h =
      subst (λ (r : Range). IsRefused config row before after (fault.Unavailable r founds)) (sym h.ends.0)
      (record {
        range = range;
        in_range = in_range;
        history = h.history;
        found = none_found setting config leaves range (Adds row) before after is counted h.history h.begun h.begins
            founds h.ends.1;
        cause = record {
          in_range = in_range;
          free = goes_in limit config.range_points few h.history row _ h.takes;
          leaves = none_leaves setting config leaves range (Adds row) before after is counted h.history h.begun h.begins
              founds h.ends.1;
          down = none_down setting config leaves range (Adds row) before after is counted h.history h.begun h.begins
              founds h.ends.1;
        };
      })
  refused_so fault.OutOfMemory h = tt

  pub ended_refused : (result : Result Ack WriteFault)
      → HasWritten leaves range row limit (pass_of before) before after result
      → IfErr result (IsRefused config row before after)
  ended_refused (Ok ack) h = tt
  ended_refused (Err f) h = refused_so f h
