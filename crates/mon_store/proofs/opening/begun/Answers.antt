use Rattle.std.proofs.Common.{◌≡◌, List, sym, ap, subst, ◌∙◌, length}
use Rattle.history_book.specs.Seats.{Seat}
use Rattle.know.proofs.FirstLemmas.{nothing_is_sound}
use Rattle.know.specs.Sound.{IsSound}
use Rattle.mon_topo.specs.Settings.{Setting}
use Rattle.mon_topo.specs.Sights.{no_sight, sight_of}
use Rattle.mon_topo.specs.Zones.{leaves_in, ranges_in}
use Rattle.mon_topo.specs.declared.zones.ZoneSpec.{ZoneSpec}
use Rattle.mon_value.specs.declared.histories.Histories.{Histories}
use Rattle.mon_store.proofs.StartLemmas.{none_sight}
use Rattle.mon_store.proofs.opening.begun.Goals as goal

pub new-know-requires-clause-sound : goal.new-know-requires-clause-sound
new-know-requires-clause-sound g c =
    let book = g.N.BookName.book in
    subst (λ (s : Histories). IsSound g.N.Names.setting c.split-spare.new.seat s)
    (sym (ap (λ (x : Seat). x.seen) c.in_ok-book.ensures.seat))
    (nothing_is_sound g.N.Names.setting c.split-spare.new.seat book.leaves book.ranges c.requires.tables.leaves
    c.requires.tables.ranges)

pub new-know-requires-clause-sight : goal.new-know-requires-clause-sight
new-know-requires-clause-sight g c =
    let book = g.N.BookName.book in
    let zones : g.N.Names.setting.zones ≡ c.args.config.now.topology =
    ap (λ (s : Setting). s.zones) c.requires.setup.setting_is in
    let leaves : c.leaves.result ≡ book.leaves =
    c.leaves.ensures.count ∙ sym (c.requires.tables.leaves ∙ ap (λ (z : List ZoneSpec). length (leaves_in z)) zones) in
    let ranges : c.ranges-2.result ≡ book.ranges =
    c.ranges-2.ensures.count
    ∙ sym (c.requires.tables.ranges ∙ ap (λ (z : List ZoneSpec). length (ranges_in z)) zones) in
    c.in_ok-sight.ensures.none ∙ (λ i. no_sight (leaves i) (ranges i)) ∙ none_sight book.leaves book.ranges
    ∙ ap (λ (x : Seat). sight_of x.seen) (sym c.in_ok-book.ensures.seat)
