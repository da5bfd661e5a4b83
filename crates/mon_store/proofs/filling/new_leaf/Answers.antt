use Rattle.std.proofs.Common.{◌≡◌, List, sym, ap, subst, ◌∙◌, length}
use Rattle.history_book.specs.declared.views.History.TheVariants as of
use Rattle.history_book.specs.Seats.{Owner, new_owner}
use Rattle.know.proofs.FirstLemmas.{nothing_is_sound}
use Rattle.know.specs.Sound.{IsSound}
use Rattle.leaf_cell.specs.Rest.{IsAtRest}
use Rattle.leaf_store.specs.LeafStates.{key_buckets}
use Rattle.leaf_store.specs.LeafStates as store
use Rattle.mon_topo.specs.Settings.{Setting}
use Rattle.mon_topo.specs.Sights.{no_sight, sight_of}
use Rattle.mon_topo.specs.Zones.{leaves_in, ranges_in}
use Rattle.mon_topo.specs.declared.zones.ZoneSpec.{ZoneSpec}
use Rattle.mon_value.specs.declared.histories.Histories.{Histories}
use Rattle.owners.specs.Owners.{leaf_owner}
use Rattle.raise_table.specs.Seats as raising
use Rattle.mon_store.proofs.PlaceLemmas.{bits_at}
use Rattle.mon_store.proofs.StartLemmas.{none_sight}
use Rattle.mon_store.proofs.filling.new_leaf.Goals as goal

pub new-requires-in-Ok-clause-of_leaf : goal.new-requires-in-Ok-clause-of_leaf
new-requires-in-Ok-clause-of_leaf g c =
    let bits = bits_at g.N.Names.setting g.N.RaiseName.raise.zones c.requires.tables.zones c.args.leaf c.args.hints
    c.requires.here c.requires.hints in
    record {
      here = c.requires.here;
      history = ap (λ (o : Owner). o.history) c.requires.book;
      zone = ap (λ (o : raising.Owner). o.leaf.zone) bits.is ∙ bits.zone;
      child = ap (λ (o : raising.Owner). o.leaf.child) bits.is ∙ bits.child;
    }

pub new-requires-in-Ok-clause-sound : goal.new-requires-in-Ok-clause-sound
new-requires-in-Ok-clause-sound g c =
    let book = g.N.BookName.book in
    subst (λ (s : Histories). IsSound g.N.Names.setting c.args.hints.hints s)
    (sym (ap (λ (o : Owner). o.seen) c.requires.book))
    (nothing_is_sound g.N.Names.setting c.args.hints.hints book.leaves book.ranges c.requires.tables.leaves
    c.requires.tables.ranges)

pub new-requires-in-Ok-clause-sight : goal.new-requires-in-Ok-clause-sight
new-requires-in-Ok-clause-sight g c =
    let book = g.N.BookName.book in
    let zones : g.N.Names.setting.zones ≡ c.args.config.now.topology =
    ap (λ (s : Setting). s.zones) c.requires.setup.setting_is in
    let leaves : c.leaves.result ≡ book.leaves =
    c.leaves.ensures.count ∙ sym (c.requires.tables.leaves ∙ ap (λ (z : List ZoneSpec). length (leaves_in z)) zones) in
    let ranges : c.ranges-2.result ≡ book.ranges =
    c.ranges-2.ensures.count
    ∙ sym (c.requires.tables.ranges ∙ ap (λ (z : List ZoneSpec). length (ranges_in z)) zones) in
    c.in_ok-sight.ensures.none ∙ (λ i. no_sight (leaves i) (ranges i)) ∙ none_sight book.leaves book.ranges
    ∙ ap (λ (o : Owner). sight_of o.seen) (sym c.requires.book)

pub new-requires-in-Ok-clause-rest : goal.new-requires-in-Ok-clause-rest
new-requires-in-Ok-clause-rest g c =
    let setting = g.N.Names.setting in
    let raise = g.N.RaiseName.raise in
    let book = g.N.BookName.book in
    let config = c.args.config.now in
    let bits = bits_at setting raise.zones c.requires.tables.zones c.args.leaf c.args.hints c.requires.here
    c.requires.hints in
    let held : setting.held ≡ config.schemas = ap (λ (s : Setting). s.held) c.requires.setup.setting_is in
    let number : raise.buckets ≡ config.buckets = c.requires.setup.buckets in
    let buckets : setting.buckets_of ≡ key_buckets raise.buckets setting.held =
    ap (λ (s : Setting). s.buckets_of) c.requires.setup.setting_is
    ∙ (λ i. key_buckets (sym number i) (sym held i)) in
    let state : c.in-Ok.state ≡ store.new_leaf setting.held raise.buckets =
    c.in-Ok.ensures.empty ∙ (λ i. store.new_leaf (sym held i) (sym number i)) in
    let at_rest = c.new_leaves_are_at_rest.ensures.rest setting raise c.args.leaf bits.bits book.leaves book.ranges
    buckets in
    subst (λ (s : store.LeafView).
    IsAtRest setting raise c.args.leaf.0 s (leaf_owner c.args.leaf c.args.hints c.args.book))
    (sym state)
    (subst (λ (o : Owner). IsAtRest setting raise c.args.leaf.0 (store.new_leaf setting.held raise.buckets)
    (leaf_owner c.args.leaf c.args.hints o)) (sym c.requires.book)
    (subst (λ (o : raising.Owner). IsAtRest setting raise c.args.leaf.0 (store.new_leaf setting.held raise.buckets)
    (leaf_owner c.args.leaf o (new_owner book.leaves book.ranges (of.Leaf c.args.leaf)))) (sym bits.is) at_rest))
