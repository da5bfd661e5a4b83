use Rattle.std.proofs.Common.{List, sym, ap, subst, ◌∙◌}
use Rattle.mon_config.specs.declared.config.Config.{Config}
use Rattle.mon_topo.specs.Settings.{Setting}
use Rattle.mon_topo.specs.declared.zones.ZoneSpec.{ZoneSpec}
use Rattle.mon_store.proofs.stores.Store.gather_in.Goals as goal
use Rattle.mon_store.specs.Gathers.{HasSeenTrace}

pub gathered-gathered-requires : goal.gathered-gathered-requires
gathered-gathered-requires g c = record {
  seen = subst (λ (zones : List ZoneSpec). HasSeenTrace zones c.args.know.now c.args.trace.now)
      (ap (λ (config : Config). config.topology) (sym c.self.view_is)
      ∙ sym (ap (λ (s : Setting). s.zones) c.self.invariant.0.setting_is))
      c.requires.seen;
}
