use Rattle.std.proofs.Common.{◌≡◌, ℕ, ◌<◌, length, List, sym, ap, subst, ◌∙◌}
use Rattle.history_book.specs.Seats.{hand_of}
use Rattle.know.specs.Knowledge.{Knowledge}
use Rattle.mon_config.specs.declared.config.Config.{Config}
use Rattle.mon_store.proofs.RecoveredLemmas.{ended_nothing, ended_pass, ended_recovered, ended_refused}
use Rattle.mon_store.proofs.stores.Store.recover_in.Goals as goal
use Rattle.mon_topo.proofs.FirstLemmas.{range_is}
use Rattle.mon_topo.proofs.PartLemmas.{length-zones_of}
use Rattle.mon_topo.specs.HeldHistories.{first_range_history, BeginsWith}
use Rattle.mon_topo.specs.RangeHistories.{IsInZoneOf}
use Rattle.mon_topo.specs.Settings.{Setting}
use Rattle.mon_topo.specs.Zones.{leaves_in, ranges_in}
use Rattle.mon_topo.specs.declared.zones.ZoneSpec.{ZoneSpec}
use Rattle.mon_value.specs.Histories.{range_history, range_numbered}
use Rattle.mon_value.specs.declared.histories.RangeEntry.{RangeEntry}
use Rattle.owners.specs.Puts.{pass_of}
use Rattle.range_cell.specs.Recoveries.{HasRecovered}

pub range_cell-cell-requires : goal.range_cell-cell-requires
range_cell-cell-requires g c =
    let zones : c.args.self.now.topology ≡ g.N.Names.setting.zones =
    ap (λ (config : Config). config.topology) (sym c.self.view_is)
    ∙ ap (λ (s : Setting). s.zones) (sym c.self.invariant.0.setting_is) in
    record {
      there = subst (λ (z : List ZoneSpec). c.args.range.0 < length (ranges_in z)) zones
          (subst (λ (n : ℕ). c.args.range.0 < n)
          (length-zones_of (λ (zone : ZoneSpec). zone.ranges) 0 c.args.self.now.topology) c.requires.zoned.1);
    }

pub recover-recovered-requires : goal.recover-recovered-requires
recover-recovered-requires g c =
    let setting = g.N.Names.setting in
    let know = c.args.know.now in
    let same = c.range_cell-cell.ensures.cell in
    let zones : c.args.self.now.topology ≡ setting.zones =
    ap (λ (config : Config). config.topology) (sym c.self.view_is)
    ∙ ap (λ (s : Setting). s.zones) (sym c.self.invariant.0.setting_is) in
    let there : c.args.range.0 < length (ranges_in setting.zones) =
    subst (λ (z : List ZoneSpec). c.args.range.0 < length (ranges_in z)) zones
    (subst (λ (n : ℕ). c.args.range.0 < n)
    (length-zones_of (λ (zone : ZoneSpec). zone.ranges) 0 c.args.self.now.topology) c.requires.zoned.1) in
    record {
      zoned = subst (λ (n : ℕ). IsInZoneOf setting.zones (range_numbered n) c.args.leaf) (sym same)
          (subst (λ (z : List ZoneSpec). IsInZoneOf z c.args.range c.args.leaf) zones c.requires.zoned);
      begun = subst (λ (n : ℕ). BeginsWith (range_history know.seen (range_numbered n))
          (first_range_history setting.zones n)) (sym same)
          (subst (λ (h : List RangeEntry). BeginsWith (range_history know.seen c.args.range) h)
          (range_is setting.zones c.args.range there) (c.requires.pass.begun.ranges c.args.range));
      none = c.requires.pass.holds;
      number = c.requires.pass.number;
    }

pub returns : goal.returns
returns g c =
    let setting = g.N.Names.setting in
    let book = g.N.BookName.book in
    let before = c.args.know.now in
    let after = c.confirm.new.self in
    let config = c.self.inside.config in
    let recovered : HasRecovered book.leaves c.args.range c.args.leaf (pass_of before) before after
    c.recover-recovered.result =
    subst (λ (know : Knowledge). HasRecovered book.leaves c.args.range c.args.leaf (pass_of before) before know
    c.recover-recovered.result) (sym c.confirm.ensures.kept)
    (subst (λ (n : ℕ). HasRecovered book.leaves (range_numbered n) c.args.leaf (pass_of before) before
    c.recover-recovered.new.know c.recover-recovered.result) c.range_cell-cell.ensures.cell
    c.recover-recovered.ensures.recovered) in
    let counted : book.leaves ≡ length (leaves_in c.args.self.now.topology) =
    c.self.inside.tables.sized.leaves
    ∙ ap (λ (s : Setting). length (leaves_in s.zones)) c.self.invariant.0.setting_is
    ∙ ap (λ (f : Config). length (leaves_in f.topology)) c.self.view_is in
    record {
      recovered = ended_recovered setting c.args.self.now book.leaves c.args.range c.args.leaf before after
          c.requires.pass c.confirm.ensures.borne_out counted c.recover-recovered.result recovered;
      refused = ended_refused setting c.args.self.now book.leaves c.args.range c.args.leaf before after
          c.requires.pass c.confirm.ensures.borne_out counted c.recover-recovered.result recovered;
      nothing = ended_nothing setting c.args.self.now book.leaves c.args.range c.args.leaf before after
          c.requires.pass c.confirm.ensures.borne_out counted c.recover-recovered.result recovered;
      pass = ended_pass setting c.args.self.now book.leaves c.args.range c.args.leaf before after
          c.requires.pass c.confirm.ensures.borne_out counted c.recover-recovered.result recovered;
    }
