-- What a range's cell tells of its replicas that serve is what the store tells of them.
use Rattle.std.proofs.Common.{◌≡◌, ℕ, List, length}
use Rattle.std.specs.Prelude.{Result, Ok, Err, IfOk, OnErr}
use Rattle.history_book.specs.Seats.{IsPurseBorneOut}
use Rattle.know.specs.Knowledge.{Knowledge}
use Rattle.mon_config.specs.declared.config.Config.{Config}
use Rattle.mon_topo.specs.Settings.{Setting}
use Rattle.mon_topo.specs.Zones.{leaves_in}
use Rattle.mon_value.specs.Histories.{range_history}
use Rattle.mon_value.specs.declared.positions.Range.{Range}
use Rattle.mon_value.specs.declared.positions.SlotLeaf.{SlotLeaf}
use Rattle.mon_store.proofs.CarriedLemmas.{asked_carried, asked_found}
use Rattle.mon_store.proofs.WriteLemmas.{same_pass, unwritten}
use Rattle.mon_store.specs.Passes.{IsPass}
use Rattle.mon_store.specs.Serving.{IsListed}
use Rattle.mon_store.specs.Writes.{IsUnwritten}
use Rattle.range_cell.specs.Calls.{HasListed, HasMetRange}

module _ (setting : Setting) (config : Config) (leaves : ℕ) (range : Range) (before after : Knowledge)
    (is : IsPass setting before) (borne : IsPurseBorneOut after.seen after.purse)
    (counted : leaves ≡ length (leaves_in config.topology)) where
  abbrev Met : Type 0
  Met = HasMetRange leaves range before.purse.holds before after

  module _ {F : Type 0} where
    met_by : (result : Result (List SlotLeaf) F) → IfOk result (λ told. HasListed leaves range told before after)
        → OnErr result Met → Met
    met_by (Ok told) listed refused = listed.met
    met_by (Err why) listed refused = refused

    pub listed_so : (result : Result (List SlotLeaf) F)
        → IfOk result (λ told. HasListed leaves range told before after)
        → IfOk result (IsListed config range before after)
    listed_so (Ok told) h = record {
      history = range_history after.seen range;
      found = asked_found setting config leaves range before after is counted h.met;
      serve = h.serve;
    }
    listed_so (Err why) h = tt

    pub listed_pass : (result : Result (List SlotLeaf) F)
        → IfOk result (λ told. HasListed leaves range told before after) → OnErr result Met → IsPass setting after
    listed_pass result listed refused =
        let met = met_by result listed refused in
        same_pass setting before after is (asked_carried setting config leaves range before after is counted met) borne
        met.own

    pub listed_nothing : (result : Result (List SlotLeaf) F)
        → IfOk result (λ told. HasListed leaves range told before after) → OnErr result Met → IsUnwritten before after
    listed_nothing result listed refused =
        let met = met_by result listed refused in
        unwritten setting before after is (asked_carried setting config leaves range before after is counted met) borne
        met.own
