use Rattle.std.proofs.Common.{◌≡◌, ◌<◌, ◌+◌, ℕ, List, [], Some, refl, sym, ap, subst, ◌∙◌, arith, length, get_or}
use Rattle.std.proofs.Common.{slice_get}
use Rattle.std.proofs.lemmas.List.{length-set}
use Rattle.std.proofs.lemmas.Option.{slice_get-get_or}
use Rattle.history_book.specs.Seats.{times_range}
use Rattle.leaf_cell.specs.NewLeaves.{NewLeafView}
use Rattle.mon_topo.proofs.FirstOpenings.{item_at, replica_there}
use Rattle.mon_topo.specs.HeldHistories.{slot_numbered}
use Rattle.mon_topo.specs.Replicas.{HasReplicas}
use Rattle.mon_topo.specs.Settings.{Setting}
use Rattle.mon_topo.specs.Zones.{first_replicas, leaves_in, ranges_in}
use Rattle.mon_topo.specs.declared.zones.ZoneSpec.{ZoneSpec}
use Rattle.mon_value.specs.declared.histories.Entry.TheVariants as entry
use Rattle.mon_value.specs.declared.positions.Leaf.{Leaf}
use Rattle.mon_value.specs.declared.positions.Range.{Range}
use Rattle.range_cell.specs.Rest.{others}
use Rattle.mon_store.proofs.OpeningLemmas.{bare_there, number_is, opening_opened, opening_whole}
use Rattle.mon_store.specs.Openings.{HasOpenedAt, IsBareAt, first_leaf}
use Rattle.mon_store.proofs.filling.Opening.open_replicas.Goals as goal
use Rattle.running_query.proofs.GoingLemmas.{fronts_through, same_fronts}

pub loop-leaf-init : goal.loop-leaf-init
loop-leaf-init g c = record {
  opening = c.requires.opening;
  slot = refl;
  holds = c.requires.holds;
  fronts = same_fronts c.args.self.now.know.seen;
  books = refl;
  ranges = refl;
}

pub open_replica-requires : goal.open_replica-requires
open_replica-requires g c =
    let zones = g.N.Names.setting.zones in
    let range = c.args.range in
    let items = c.as_slice-leaf-items.result.now in
    let place = c.loop-leaf.leaf-index in
    let leaf : Leaf = get_or items place (record { 0 = 0 }) in
    let set_up : c.args.config.now.topology ≡ zones = sym (ap (λ (s : Setting). s.zones) c.requires.setup.setting_is) in
    let same : items ≡ first_replicas zones range.0 =
    c.as_slice-leaf-items.ensures.items ∙ c.first_replicas.ensures.replicas
    ∙ ap (λ (z : List ZoneSpec). first_replicas z range.0) set_up in
    let at : slice_get (first_replicas zones range.0) place ≡ Some leaf =
    item_at (first_replicas zones range.0) items place (record { 0 = 0 }) same c.loop-leaf-test.true in
    let has : HasReplicas zones range =
    subst (λ (z : List ZoneSpec). HasReplicas z range) set_up
    (c.ranges_have_replicas.ensures.replicas range.0
    (subst (λ (z : List ZoneSpec). range.0 < length (ranges_in z)) (sym set_up) c.requires.here)) in
    let there : leaf.0 < length (leaves_in zones) = replica_there zones range place leaf has at in
    let inv = c.loop-leaf.invariant in
    let leaves = c.loop-leaf.self.leaves.items in
    let count : length leaves ≡ length (leaves_in zones) = inv.opening.new.count in
    let within : leaf.0 < length leaves = omega (arith, there, count) in
    let d : NewLeafView = first_leaf 0 0 0 in
    record {
      there = within;
      number = number_is zones range.0 place leaves c.loop-leaf.self.know inv.opening leaf at there;
      holds = inv.holds;
      up = subst (λ (n : ℕ). IsBareAt range (slot_numbered n) leaf leaves) (sym inv.slot)
          (bare_there zones range.0 place leaves c.loop-leaf.self.know inv.opening leaf at there
          (get_or leaves leaf.0 d) (slice_get-get_or leaves leaf.0 d within));
    }

pub loop-leaf-preserved : goal.loop-leaf-preserved
loop-leaf-preserved g c =
    let zones = g.N.Names.setting.zones in
    let range = c.args.range in
    let items = c.as_slice-leaf-items.result.now in
    let place = c.loop-leaf.leaf-index in
    let leaf : Leaf = get_or items place (record { 0 = 0 }) in
    let set_up : c.args.config.now.topology ≡ zones = sym (ap (λ (s : Setting). s.zones) c.requires.setup.setting_is) in
    let same : items ≡ first_replicas zones range.0 =
    c.as_slice-leaf-items.ensures.items ∙ c.first_replicas.ensures.replicas
    ∙ ap (λ (z : List ZoneSpec). first_replicas z range.0) set_up in
    let at : slice_get (first_replicas zones range.0) place ≡ Some leaf =
    item_at (first_replicas zones range.0) items place (record { 0 = 0 }) same c.loop-leaf-test.true in
    let has : HasReplicas zones range =
    subst (λ (z : List ZoneSpec). HasReplicas z range) set_up
    (c.ranges_have_replicas.ensures.replicas range.0
    (subst (λ (z : List ZoneSpec). range.0 < length (ranges_in z)) (sym set_up) c.requires.here)) in
    let there : leaf.0 < length (leaves_in zones) = replica_there zones range place leaf has at in
    let inv = c.loop-leaf.invariant in
    let before = c.loop-leaf.self.know in
    let after = c.open_replica.new.self.know in
    let leaves = c.loop-leaf.self.leaves.items in
    let new = c.open_replica.new.self.leaves.items in
    let took : HasOpenedAt leaf (entry.Opened 0 range (slot_numbered place) []) leaves new before after =
    subst (λ (n : ℕ). HasOpenedAt leaf (entry.Opened 0 range (slot_numbered n) []) leaves new before after) inv.slot
    c.in_ok-open_replica.ensures.opened in
    record {
      opening = opening_opened zones range.0 place leaves before inv.opening leaf at there after new took
          (ap length took.changed ∙ length-set leaves leaf.0 took.now);
      slot = ap (λ n. n + 1) inv.slot;
      holds = record {
        some = subst (λ (h : List Range). 0 < times_range range h) (sym took.took.called.holds) inv.holds.some;
        only = ap (others range) took.took.called.holds ∙ inv.holds.only;
      };
      fronts = fronts_through c.args.self.now.know.seen before.seen after.seen inv.fronts took.took.called.fronts;
      books = c.open_replica.ensures.books ∙ inv.books;
      ranges = c.open_replica.ensures.ranges ∙ inv.ranges;
    }

pub returns : goal.returns
returns g c =
    let zones = g.N.Names.setting.zones in
    let range = c.args.range in
    let items = c.as_slice-leaf-items.result.now in
    let set_up : c.args.config.now.topology ≡ zones = sym (ap (λ (s : Setting). s.zones) c.requires.setup.setting_is) in
    let same : items ≡ first_replicas zones range.0 =
    c.as_slice-leaf-items.ensures.items ∙ c.first_replicas.ensures.replicas
    ∙ ap (λ (z : List ZoneSpec). first_replicas z range.0) set_up in
    let many : length items ≡ length (first_replicas zones range.0) = ap length same in
    let inv = c.loop-leaf.invariant in
    record {
      opening = opening_whole zones range.0 c.loop-leaf.leaf-index c.loop-leaf.self.leaves.items c.loop-leaf.self.know
          (omega (arith, many, c.loop-leaf-test.false)) inv.opening;
      holds = inv.holds;
      fronts = inv.fronts;
      books = inv.books;
      ranges = inv.ranges;
    }
