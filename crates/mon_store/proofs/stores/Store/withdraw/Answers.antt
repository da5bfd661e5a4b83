use Rattle.std.proofs.Common.{◌≡◌, ℕ, ◌<◌, length, sym, ap, subst, ◌∙◌}
use Rattle.know.specs.Knowledge.{Knowledge}
use Rattle.mon_config.specs.declared.config.Config.{Config}
use Rattle.mon_store.proofs.RetiredLemmas.{ended_nothing, ended_pass, ended_refused, ended_retired}
use Rattle.mon_store.proofs.stores.Store.withdraw.Goals as goal
use Rattle.mon_topo.specs.Settings.{Setting}
use Rattle.mon_topo.specs.Zones.{leaves_in, ranges_in}
use Rattle.mon_value.specs.Histories.{range_numbered}
use Rattle.owners.specs.Puts.{pass_of}
use Rattle.range_cell.specs.Retirements.{HasRetired}

pub range_cell-cell-requires : goal.range_cell-cell-requires
range_cell-cell-requires g c = record {
  there = subst (λ (s : Setting). c.args.range.0 < length (ranges_in s.zones)) (sym c.self.invariant.0.setting_is)
      (subst (λ (config : Config). c.args.range.0 < length (ranges_in config.topology)) (sym c.self.view_is)
      c.requires.there);
}

pub retire-retired-requires : goal.retire-retired-requires
retire-retired-requires g c = record { none = c.requires.pass.holds; number = c.requires.pass.number }

pub returns : goal.returns
returns g c =
    let setting = g.N.Names.setting in
    let book = g.N.BookName.book in
    let before = c.args.know.now in
    let after = c.confirm.new.self in
    let result = c.retire-retired.result in
    let retired : HasRetired book.leaves c.args.range c.args.leaf (pass_of before) before after result =
    subst (λ (know : Knowledge). HasRetired book.leaves c.args.range c.args.leaf (pass_of before) before know result)
    (sym c.confirm.ensures.kept)
    (subst (λ (n : ℕ). HasRetired book.leaves (range_numbered n) c.args.leaf (pass_of before) before
    c.retire-retired.new.know result) c.range_cell-cell.ensures.cell c.retire-retired.ensures.retired) in
    let counted : book.leaves ≡ length (leaves_in c.args.self.now.topology) =
    c.self.inside.tables.sized.leaves
    ∙ ap (λ (s : Setting). length (leaves_in s.zones)) c.self.invariant.0.setting_is
    ∙ ap (λ (f : Config). length (leaves_in f.topology)) c.self.view_is in
    record {
      retired = ended_retired setting c.args.self.now book.leaves c.args.range c.args.leaf before after
          c.requires.pass c.confirm.ensures.borne_out counted result retired;
      refused = ended_refused setting c.args.self.now book.leaves c.args.range c.args.leaf before after
          c.requires.pass c.confirm.ensures.borne_out counted result retired;
      nothing = ended_nothing setting c.args.self.now book.leaves c.args.range c.args.leaf before after
          c.requires.pass c.confirm.ensures.borne_out counted result retired;
      pass = ended_pass setting c.args.self.now book.leaves c.args.range c.args.leaf before after c.requires.pass
          c.confirm.ensures.borne_out counted result retired;
    }
