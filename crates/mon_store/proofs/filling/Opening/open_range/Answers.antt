use Rattle.std.proofs.Common.{◌≡◌, ◌<◌, List, sym, ap, subst, ◌∙◌, length}
use Rattle.std.proofs.Common.{slice_get}
use Rattle.std.proofs.lemmas.Option.{slice_get_within}
use Rattle.std.specs.Vec.Iter.{into_iter_items}
use Rattle.history_book.proofs.HistoryLemmas.{none_at}
use Rattle.history_book.specs.Histories.{AreFronts}
use Rattle.history_book.specs.Seats.{Owner, times_range}
use Rattle.know.proofs.FirstLemmas.{nothing_is_sound}
use Rattle.know.specs.Sound.{IsSound}
use Rattle.mon_topo.specs.Settings.{Setting}
use Rattle.mon_topo.specs.Sights.{no_sight, sight_of}
use Rattle.mon_topo.specs.Zones.{leaves_in, ranges_in}
use Rattle.mon_topo.specs.declared.zones.ZoneSpec.{ZoneSpec}
use Rattle.mon_value.specs.Histories.{leaf_history, range_history}
use Rattle.mon_value.specs.LeafHistories.{is_opened}
use Rattle.mon_value.specs.declared.histories.Histories.{Histories}
use Rattle.range_cell.specs.Rest.{others}
use Rattle.mon_store.proofs.OpeningLemmas.{holds_lent, opening_lent}
use Rattle.mon_store.proofs.PlaceLemmas.{some_same}
use Rattle.mon_store.proofs.StartLemmas.{held_once, no_others, none_fronts, none_sight}
use Rattle.mon_store.specs.Openings.{range_book}
use Rattle.mon_store.proofs.filling.Opening.open_range.Goals as goal

pub taken-book-requires : goal.taken-book-requires
taken-book-requires g c = record {
  some = slice_get_within (into_iter_items c.args.self.now.books) 0 (range_book g.N.BookName.book c.args.range.0)
      c.requires.book;
  counted = c.requires.counted;
}

pub new-new-requires : goal.new-new-requires
new-new-requires g c =
    let setting = g.N.Names.setting in
    let book = g.N.BookName.book in
    let range = c.args.range in
    let owned = c.taken-book.result in
    let is : owned ≡ range_book book range.0 =
    some_same owned (range_book book range.0)
    (ap (λ (l : List Owner). slice_get l 0) (sym c.taken-book.ensures.item) ∙ c.requires.book) in
    let zones : setting.zones ≡ c.args.config.now.topology =
    ap (λ (s : Setting). s.zones) c.requires.setup.setting_is in
    let leaves : c.leaves.result ≡ book.leaves =
    c.leaves.ensures.count ∙ sym (c.requires.tables.leaves ∙ ap (λ (z : List ZoneSpec). length (leaves_in z)) zones) in
    let ranges : c.ranges-2.result ≡ book.ranges =
    c.ranges-2.ensures.count
    ∙ sym (c.requires.tables.ranges ∙ ap (λ (z : List ZoneSpec). length (ranges_in z)) zones) in
    record {
      of_range = record { here = c.requires.here; history = ap (λ (o : Owner). o.history) is };
      sound = subst (λ (s : Histories). IsSound setting c.split-hints.result s) (sym (ap (λ (o : Owner). o.seen) is))
          (nothing_is_sound setting c.split-hints.result book.leaves book.ranges c.requires.tables.leaves
          c.requires.tables.ranges);
      sight = c.in_ok-sight.ensures.none ∙ (λ i. no_sight (leaves i) (ranges i)) ∙ none_sight book.leaves book.ranges
          ∙ ap (λ (o : Owner). sight_of o.seen) (sym is);
      free = ap (λ (o : Owner). o.guest) is;
      holds = subst (λ (o : Owner). 0 < times_range range o.held) (sym is) (held_once range);
      only = ap (λ (o : Owner). others range o.held) is ∙ no_others range;
      none = ap (λ (o : Owner). range_history o.seen range) is ∙ none_at book.ranges range.0;
      fresh = λ slot leaf past. ap (λ (o : Owner). is_opened range slot (leaf_history o.seen leaf)) is
          ∙ ap (is_opened range slot) (none_at book.leaves leaf.0);
    }

pub open_replicas-requires : goal.open_replicas-requires
open_replicas-requires g c =
    let zones = g.N.Names.setting.zones in
    let book = g.N.BookName.book in
    let range = c.args.range in
    let before = c.args.self.now.know in
    let after = c.new-new.new.know in
    let owned = c.taken-book.result in
    let is : owned ≡ range_book book range.0 =
    some_same owned (range_book book range.0)
    (ap (λ (l : List Owner). slice_get l 0) (sym c.taken-book.ensures.item) ∙ c.requires.book) in
    let fronts : AreFronts owned.seen before.seen =
    none_fronts book.leaves book.ranges owned.seen before.seen (ap (λ (o : Owner). o.seen) is) in
    record {
      setup = c.requires.setup;
      here = c.requires.here;
      opening = opening_lent zones range.0 0 c.args.self.now.leaves.items before after c.requires.opening book.leaves
          owned.seen c.new-new.result fronts c.requires.none c.new-new.ensures.lent;
      holds = holds_lent zones range.0 0 c.args.self.now.leaves.items before after c.requires.opening book.leaves
          owned.seen c.new-new.result fronts c.requires.none c.new-new.ensures.lent;
    }

pub lock_range-requires : goal.lock_range-requires
lock_range-requires g c = record {
  setup = c.requires.setup;
  range = c.new-new.ensures.lent.same_range;
  here = c.requires.here;
  opening = c.in-Ok.ensures.opening;
  holds = c.in-Ok.ensures.holds;
  fronts = subst (λ (s : Histories). AreFronts s c.open_replicas.new.self.know.seen) (sym c.new-new.ensures.lent.both)
      c.in-Ok.ensures.fronts;
}
