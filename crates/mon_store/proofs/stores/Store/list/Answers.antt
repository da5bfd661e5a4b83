use Rattle.std.proofs.Common.{◌≡◌, ℕ, ◌<◌, length, sym, ap, subst, ◌∙◌}
use Rattle.std.specs.Prelude.{IfOk, OnErr}
use Rattle.know.specs.Knowledge.{Knowledge}
use Rattle.mon_config.specs.declared.config.Config.{Config}
use Rattle.mon_store.proofs.ServingLemmas.{listed_nothing, listed_pass, listed_so}
use Rattle.mon_store.proofs.stores.Store.list.Goals as goal
use Rattle.mon_topo.specs.Settings.{Setting}
use Rattle.mon_topo.specs.Zones.{leaves_in, ranges_in}
use Rattle.mon_value.specs.Histories.{range_numbered}
use Rattle.range_cell.specs.Calls.{HasListed, HasMetRange}

pub range_cell-cell-requires : goal.range_cell-cell-requires
range_cell-cell-requires g c = record {
  there = subst (λ (s : Setting). c.args.range.0 < length (ranges_in s.zones)) (sym c.self.invariant.0.setting_is)
      (subst (λ (config : Config). c.args.range.0 < length (ranges_in config.topology)) (sym c.self.view_is)
      c.requires.there);
}

pub serving-told-requires : goal.serving-told-requires
serving-told-requires g c = record { none = c.requires.pass.holds }

pub returns : goal.returns
returns g c =
    let setting = g.N.Names.setting in
    let book = g.N.BookName.book in
    let before = c.args.know.now in
    let after = c.confirm.new.self in
    let result = c.serving-told.result in
    let listed : IfOk result (λ told. HasListed book.leaves c.args.range told before after) =
    subst (λ (know : Knowledge). IfOk result (λ told. HasListed book.leaves c.args.range told before know))
    (sym c.confirm.ensures.kept)
    (subst (λ (n : ℕ). IfOk result (λ told. HasListed book.leaves (range_numbered n) told before
    c.serving-told.new.know)) c.range_cell-cell.ensures.cell c.serving-told.ensures.listed) in
    let met : OnErr result (HasMetRange book.leaves c.args.range before.purse.holds before after) =
    subst (λ (know : Knowledge). OnErr result (HasMetRange book.leaves c.args.range before.purse.holds before know))
    (sym c.confirm.ensures.kept)
    (subst (λ (n : ℕ). OnErr result (HasMetRange book.leaves (range_numbered n) before.purse.holds before
    c.serving-told.new.know)) c.range_cell-cell.ensures.cell c.serving-told.ensures.refused) in
    let counted : book.leaves ≡ length (leaves_in c.args.self.now.topology) =
    c.self.inside.tables.sized.leaves
    ∙ ap (λ (s : Setting). length (leaves_in s.zones)) c.self.invariant.0.setting_is
    ∙ ap (λ (f : Config). length (leaves_in f.topology)) c.self.view_is in
    record {
      listed = listed_so setting c.args.self.now book.leaves c.args.range before after c.requires.pass
          c.confirm.ensures.borne_out counted result listed;
      nothing = listed_nothing setting c.args.self.now book.leaves c.args.range before after c.requires.pass
          c.confirm.ensures.borne_out counted result listed met;
      pass = listed_pass setting c.args.self.now book.leaves c.args.range before after c.requires.pass
          c.confirm.ensures.borne_out counted result listed met;
    }
