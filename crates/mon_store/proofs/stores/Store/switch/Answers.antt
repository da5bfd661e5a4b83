use Rattle.std.proofs.Common.{ℕ, ◌<◌, length, sym, subst}
use Rattle.know.specs.Knowledge.{Knowledge}
use Rattle.leaf_cell.specs.Controls.{HasControlled}
use Rattle.mon_config.specs.declared.config.Config.{Config}
use Rattle.mon_store.proofs.SwitchLemmas.{ended_nothing, ended_pass, ended_refused, ended_switched}
use Rattle.mon_store.proofs.stores.Store.switch.Goals as goal
use Rattle.mon_topo.specs.Settings.{Setting}
use Rattle.mon_topo.specs.Zones.{leaves_in}
use Rattle.mon_value.specs.Histories.{leaf_numbered}
use Rattle.owners.specs.Puts.{pass_of}

pub leaf_cell-cell-requires : goal.leaf_cell-cell-requires
leaf_cell-cell-requires g c = record {
  there = subst (λ (s : Setting). c.args.leaf.0 < length (leaves_in s.zones)) (sym c.self.invariant.0.setting_is)
      (subst (λ (config : Config). c.args.leaf.0 < length (leaves_in config.topology)) (sym c.self.view_is)
      c.requires.there);
}

pub returns : goal.returns
returns g c =
    let controlled : HasControlled c.args.leaf c.args.to (pass_of c.args.know.now) c.control-switched.result
    c.args.know.now c.confirm.new.self =
    subst (λ (know : Knowledge). HasControlled c.args.leaf c.args.to (pass_of c.args.know.now)
    c.control-switched.result c.args.know.now know) (sym c.confirm.ensures.kept)
    (subst (λ (n : ℕ). HasControlled (leaf_numbered n) c.args.to (pass_of c.args.know.now) c.control-switched.result
    c.args.know.now c.control-switched.new.know) c.leaf_cell-cell.ensures.cell c.control-switched.ensures.controlled) in
    record {
      switched = ended_switched g.N.Names.setting c.args.leaf c.args.to c.args.know.now c.confirm.new.self
          c.requires.pass c.confirm.ensures.borne_out c.control-switched.result controlled;
      refused = ended_refused g.N.Names.setting c.args.leaf c.args.to c.args.know.now c.confirm.new.self
          c.requires.pass c.confirm.ensures.borne_out c.control-switched.result controlled;
      nothing = ended_nothing g.N.Names.setting c.args.leaf c.args.to c.args.know.now c.confirm.new.self
          c.requires.pass c.confirm.ensures.borne_out c.control-switched.result controlled;
      pass = ended_pass g.N.Names.setting c.args.leaf c.args.to c.args.know.now c.confirm.new.self
          c.requires.pass c.confirm.ensures.borne_out c.control-switched.result controlled;
    }
