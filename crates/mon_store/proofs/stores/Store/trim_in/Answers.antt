use Rattle.std.proofs.Common.{◌≡◌, ℕ, ℤ, ◌<◌, length, to_z, of_z, w64, rules, sym, ap, subst, ◌∙◌}
use Rattle.know.specs.Knowledge.{Knowledge}
use Rattle.mon_config.specs.declared.config.Config.{Config}
use Rattle.mon_store.proofs.TrimEndedLemmas.{ended_nothing, ended_pass, ended_refused, ended_trimmed}
use Rattle.mon_store.proofs.stores.Store.trim_in.Goals as goal
use Rattle.mon_topo.specs.Settings.{Setting}
use Rattle.mon_topo.specs.Zones.{leaves_in, ranges_in}
use Rattle.mon_value.specs.Histories.{range_numbered}
use Rattle.owners.specs.Puts.{pass_of}
use Rattle.range_cell.specs.Trims.{HasTrimmed}

pub range_cell-cell-requires : goal.range_cell-cell-requires
range_cell-cell-requires g c = record {
  there = subst (λ (s : Setting). c.args.range.0 < length (ranges_in s.zones)) (sym c.self.invariant.0.setting_is)
      (subst (λ (config : Config). c.args.range.0 < length (ranges_in config.topology)) (sym c.self.view_is)
      c.requires.there);
}

pub trim-trimmed-requires : goal.trim-trimmed-requires
trim-trimmed-requires g c = record { none = c.requires.pass.holds; number = c.requires.pass.number }

pub returns : goal.returns
returns g c =
    let setting = g.N.Names.setting in
    let book = g.N.BookName.book in
    let before = c.args.know.now in
    let after = c.confirm.new.self in
    let bound = c.args.before in
    let result = c.trim-trimmed.result in
    let held : ℤ = to_z w64 (of_z w64 bound) in
    let same : held ≡ bound = search rules in
    let trimmed : HasTrimmed book.leaves c.args.range bound (pass_of before) before after result =
    subst (λ (z : ℤ). HasTrimmed book.leaves c.args.range z (pass_of before) before after result) same
    (subst (λ (know : Knowledge). HasTrimmed book.leaves c.args.range held (pass_of before) before know result)
    (sym c.confirm.ensures.kept)
    (subst (λ (n : ℕ). HasTrimmed book.leaves (range_numbered n) held (pass_of before) before
    c.trim-trimmed.new.know result) c.range_cell-cell.ensures.cell c.trim-trimmed.ensures.trimmed)) in
    let counted : book.leaves ≡ length (leaves_in c.args.self.now.topology) =
    c.self.inside.tables.sized.leaves
    ∙ ap (λ (s : Setting). length (leaves_in s.zones)) c.self.invariant.0.setting_is
    ∙ ap (λ (f : Config). length (leaves_in f.topology)) c.self.view_is in
    let here : c.args.range.0 < length (ranges_in setting.zones) =
    subst (λ (s : Setting). c.args.range.0 < length (ranges_in s.zones)) (sym c.self.invariant.0.setting_is)
    (subst (λ (config : Config). c.args.range.0 < length (ranges_in config.topology)) (sym c.self.view_is)
    c.requires.there) in
    record {
      trimmed = ended_trimmed setting c.args.self.now book.leaves c.args.range bound before after c.requires.pass
          c.confirm.ensures.borne_out c.confirm.ensures.sound counted here result trimmed;
      refused = ended_refused setting c.args.self.now book.leaves c.args.range bound before after c.requires.pass
          c.confirm.ensures.borne_out c.confirm.ensures.sound counted here result trimmed;
      nothing = ended_nothing setting c.args.self.now book.leaves c.args.range bound before after c.requires.pass
          c.confirm.ensures.borne_out c.confirm.ensures.sound counted here result trimmed;
      pass = ended_pass setting c.args.self.now book.leaves c.args.range bound before after c.requires.pass
          c.confirm.ensures.borne_out c.confirm.ensures.sound counted here result trimmed;
    }
