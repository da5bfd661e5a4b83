use Rattle.std.proofs.Common.{◌≡◌, ◌<◌, ◌++◌, ◌∷◌, ℕ, List, [], Some, refl, sym, ap, subst, ◌∙◌, arith, length}
use Rattle.std.specs.Prelude.{option_map}
use Rattle.history_book.specs.Seats.{times_range}
use Rattle.history_book.specs.declared.views.Kept.{Kept}
use Rattle.mon_topo.specs.HeldHistories.{first_range_history, IsHeldBy}
use Rattle.mon_topo.specs.Replicas.{HasReplicas}
use Rattle.mon_topo.specs.Settings.{Setting}
use Rattle.mon_topo.specs.Zones.{first_replicas, ranges_in}
use Rattle.mon_topo.specs.declared.zones.ZoneSpec.{ZoneSpec}
use Rattle.mon_value.specs.declared.positions.Range.{Range}
use Rattle.range_cell.specs.NewRanges.{HasOpenedFirst}
use Rattle.range_cell.specs.Rest.{HaveJust}
use Rattle.mon_store.proofs.FirstReplicaLemmas.{first_borne_out, first_just}
use Rattle.mon_store.proofs.OpeningLemmas.{holds_none, opening_told}
use Rattle.mon_store.proofs.filling.Opening.lock_range.Goals as goal

pub new-requires : goal.new-requires
new-requires g c =
    let zones = g.N.Names.setting.zones in
    let range = c.args.range in
    let know = c.args.self.now.know in
    let same = c.requires.range in
    let place = length (first_replicas zones range.0) in
    let set_up : c.args.config.now.topology ≡ zones = sym (ap (λ (s : Setting). s.zones) c.requires.setup.setting_is) in
    let has : HasReplicas zones range =
    subst (λ (z : List ZoneSpec). HasReplicas z range) set_up
    (c.ranges_have_replicas.ensures.replicas range.0
    (subst (λ (z : List ZoneSpec). range.0 < length (ranges_in z)) (sym set_up) c.requires.here)) in
    record {
      first = c.first_replicas-first.ensures.replicas ∙ ap (λ (z : List ZoneSpec). first_replicas z range.0) set_up
          ∙ ap (λ (r : Range). first_replicas zones r.0) (sym same);
      replicas = subst (HasReplicas zones) (sym same) has;
      points = ap (λ (s : Setting). s.points) (sym c.requires.setup.setting_is);
      number = ap (λ o. option_map (λ (kept : Kept). kept.number) o) c.requires.opening.opener.own
          ∙ ap (λ n. Some n) c.requires.opening.opener.number;
      holds = subst (λ (r : Range). 0 < times_range r know.purse.holds) (sym same) c.requires.holds.some;
      opened = subst (λ (r : Range). HaveJust know.seen r (first_range_history zones r.0)) (sym same)
          (first_just zones range has place (omega arith) know.seen c.requires.opening.seen
          c.sight-sight.ensures.sound.held.all_leaves);
      borne_out = subst (λ (r : Range). IsHeldBy know.seen r (first_range_history zones r.0)) (sym same)
          (first_borne_out zones range has place (omega arith) know.seen c.requires.opening.seen);
    }

pub returns : goal.returns
returns g c =
    let zones = g.N.Names.setting.zones in
    let book = g.N.BookName.book in
    let range = c.args.range in
    let before = c.args.self.now.know in
    let after = c.new.new.know in
    let leaves = c.args.self.now.leaves.items in
    let same = c.requires.range in
    let opened : HasOpenedFirst book.leaves c.args.new (first_range_history zones range.0) before after =
    subst (λ (r : Range). HasOpenedFirst book.leaves c.args.new (first_range_history zones r.0) before after) same
    c.in_ok-cell.ensures.opened in
    record {
      opening = opening_told zones range.0 leaves before after c.requires.opening book.leaves c.args.new same
          c.requires.fronts opened;
      none = holds_none zones range.0 leaves before after c.requires.opening book.leaves c.args.new same
          c.requires.fronts opened c.requires.holds;
      sound = c.in_ok-cell.ensures.sound;
      books = refl;
      ranges = c.in_ok-push.ensures.items
          ∙ ap (λ (n : ℕ). c.args.self.now.ranges.items ++ n ∷ [])
          (c.in_ok-cell.ensures.range ∙ ap (λ (r : Range). r.0) same);
    }
