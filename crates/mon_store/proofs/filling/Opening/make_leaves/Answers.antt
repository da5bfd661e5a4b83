use Rattle.std.proofs.Common.{◌≡◌, ◌+◌, ◌∷◌, ◌++◌, [], suc, sym, ap, ◌∙◌, arith, length}
use Rattle.std.proofs.Common.{drop, map}
use Rattle.std.proofs.lemmas.List.{length-drop}
use Rattle.std.proofs.lemmas.List.FromFn.{map-range_with_len_more}
use Rattle.std.specs.Vec.Iter.{into_iter_items}
use Rattle.mon_topo.specs.Settings.{Setting}
use Rattle.mon_topo.specs.Zones.{leaves_in}
use Rattle.raise_table.specs.Places as places
use Rattle.raise_table.specs.Seats as raising
use Rattle.mon_store.proofs.PlaceLemmas.{at_front, bits_count, drop_next, leaf_owner_at, owners_count}
use Rattle.mon_store.specs.Openings.{all_owners, first_leaf}
use Rattle.mon_store.proofs.filling.Opening.make_leaves.Goals as goal

pub taken-hints-requires-clause-some : goal.taken-hints-requires-clause-some
taken-hints-requires-clause-some g c =
    let k = c.loop-leaf.leaf in
    let all = map raising.new_owner (places.leaves_in g.N.RaiseName.raise.zones) in
    let zones : length (leaves_in c.args.config.now.topology) ≡ length (leaves_in g.N.Names.setting.zones) =
    ap (λ (s : Setting). length (leaves_in s.zones)) (sym c.requires.setup.setting_is) in
    let many = bits_count g.N.Names.setting g.N.RaiseName.raise.zones c.requires.tables.zones in
    let left = length-drop k all in
    let same : length (into_iter_items c.loop-leaf.self.hints) ≡ length (drop k all) =
    ap length c.loop-leaf.invariant.bits in
    omega (arith, c.loop-leaf-test.true, c.leaves-leaf-end.ensures.count, zones, many, left, same)

pub taken-book-requires-clause-some : goal.taken-book-requires-clause-some
taken-book-requires-clause-some g c =
    let k = c.loop-leaf.leaf in
    let book = g.N.BookName.book in
    let zones : length (leaves_in c.args.config.now.topology) ≡ length (leaves_in g.N.Names.setting.zones) =
    ap (λ (s : Setting). length (leaves_in s.zones)) (sym c.requires.setup.setting_is) in
    let many = owners_count book.leaves book.ranges in
    let left = length-drop k (all_owners book) in
    let same : length (into_iter_items c.loop-leaf.self.books) ≡ length (drop k (all_owners book)) =
    ap length c.loop-leaf.invariant.owners in
    omega (
      arith,
      c.loop-leaf-test.true,
      c.leaves-leaf-end.ensures.count,
      zones,
      c.requires.tables.leaves,
      many,
      left,
      same,
    )

pub new_leaf-requires-clause-hints : goal.new_leaf-requires-clause-hints
new_leaf-requires-clause-hints g c =
    at_front c.taken-hints.result (map raising.new_owner (places.leaves_in g.N.RaiseName.raise.zones))
    (into_iter_items c.taken-hints.new.items) c.loop-leaf.leaf
    (sym c.loop-leaf.invariant.bits ∙ c.taken-hints.ensures.item)

pub new_leaf-requires-clause-book : goal.new_leaf-requires-clause-book
new_leaf-requires-clause-book g c =
    let k = c.loop-leaf.leaf in
    let book = g.N.BookName.book in
    let zones : length (leaves_in c.args.config.now.topology) ≡ length (leaves_in g.N.Names.setting.zones) =
    ap (λ (s : Setting). length (leaves_in s.zones)) (sym c.requires.setup.setting_is) in
    leaf_owner_at book.leaves book.ranges k c.taken-book.result
    (omega (arith, c.loop-leaf-test.true, c.leaves-leaf-end.ensures.count, zones, c.requires.tables.leaves))
    (at_front c.taken-book.result (all_owners book) (into_iter_items c.taken-book.new.items) k
    (sym c.loop-leaf.invariant.owners ∙ c.taken-book.ensures.item))

pub loop-leaf-preserved : goal.loop-leaf-preserved
loop-leaf-preserved g c =
    let k = c.loop-leaf.leaf in
    let book = g.N.BookName.book in
    let inv = c.loop-leaf.invariant in
    let all = map raising.new_owner (places.leaves_in g.N.RaiseName.raise.zones) in
    let on : suc k ≡ k + 1 = omega arith in
    let none : 0 + k ≡ k = omega arith in
    record {
      bits = sym (drop_next c.taken-hints.result all (into_iter_items c.taken-hints.new.items) k
          (sym inv.bits ∙ c.taken-hints.ensures.item)) ∙ ap (λ n. drop n all) on;
      owners = sym (drop_next c.taken-book.result (all_owners book) (into_iter_items c.taken-book.new.items) k
          (sym inv.owners ∙ c.taken-book.ensures.item)) ∙ ap (λ n. drop n (all_owners book)) on;
      counted = c.taken-hints.ensures.counted;
      counted_books = c.taken-book.ensures.counted;
      leaves = c.in_ok-push.ensures.items ∙ (λ i. inv.leaves i ++ c.in_ok-leaf.ensures.leaf i ∷ [])
          ∙ sym (map-range_with_len_more (first_leaf book.leaves book.ranges) 0 k k none);
      know = inv.know;
      ranges = inv.ranges;
    }
