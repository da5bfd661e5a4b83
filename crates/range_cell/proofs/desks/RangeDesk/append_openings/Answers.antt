use Rattle.std.proofs.Common.{◌≡◌, ◌<◌, ◌≤◌, ◌^◌, ◌+◌, ◌++◌, ◌∷◌, List, [], Some, refl, sym, ap, subst, ◌∙◌}
use Rattle.std.proofs.Common.{arith, length}
use Rattle.std.proofs.Common.{get_or, slice_get, take}
use Rattle.std.proofs.lemmas.List.{length-take-le, take_all}
use Rattle.history_book.specs.declared.views.BookEntry.TheVariants as one
use Rattle.history_book.specs.declared.views.History.{History}
use Rattle.history_book.specs.declared.views.History.TheVariants as of
use Rattle.history_book.specs.Histories.{with_book_entry}
use Rattle.history_book.specs.Seats.{Owner, after_append, guest_purse, hand_of}
use Rattle.know.specs.Sound.{IsSound}
use Rattle.mon_topo.proofs.FirstOpenings.{item_at}
use Rattle.mon_topo.specs.HeldHistories.{openings_from, slot_numbered}
use Rattle.mon_topo.specs.Sights.{range_sight}
use Rattle.mon_topo.specs.Zones.{first_replicas}
use Rattle.mon_value.specs.Histories.{range_history}
use Rattle.mon_value.specs.declared.histories.Histories.{Histories}
use Rattle.mon_value.specs.declared.histories.RangeEntry.{RangeEntry}
use Rattle.mon_value.specs.declared.histories.RangeEntry.TheVariants as entry
use Rattle.mon_value.specs.declared.positions.Leaf.{Leaf}
use Rattle.mon_value.specs.declared.positions.Range.{Range}
use Rattle.owners.proofs.EntryLemmas.{range_pushed}
use Rattle.raise_table.specs.declared.views.Hints.{Hints}
use Rattle.range_cell.proofs.FirstReplicaLemmas.{length-openings, next_opening, sound_so_far, whole_so_far}
use Rattle.range_cell.proofs.NewRangeLemmas.{after_none, after_push, same_number}
use Rattle.range_cell.specs.NewRanges.{after_entries}
use Rattle.range_cell.proofs.desks.RangeDesk.append_openings.Goals as goal

pub loop-slot-init : goal.loop-slot-init
loop-slot-init g c = record {
  book = after_none c.args.self.now.owner.range c.args.self.now.owner.book;
  hints = refl;
  range = refl;
  replay = refl;
  sound = c.requires.sound;
}

pub append_opening-requires : goal.append_opening-requires
append_opening-requires g c =
    let setting = g.N.Names.setting in
    let start = c.args.self.now.owner in
    let first = c.args.first.now in
    let firsts = first_replicas setting.zones start.range.0 in
    let k = c.loop-slot.slot in
    let leaf : Leaf = get_or first k (record { 0 = 0 }) in
    let at : slice_get firsts k ≡ Some leaf =
    item_at firsts first k (record { 0 = 0 }) c.requires.first c.loop-slot-test.true in
    let owner = c.loop-slot.self.owner in
    let inv = c.loop-slot.invariant in
    let e : RangeEntry = entry.Opened 0 (slot_numbered k) leaf in
    let es : List RangeEntry = openings_from 0 (take k first) in
    let whole : range_history owner.book.seen start.range ≡ openings_from 0 (take k firsts) =
    whole_so_far setting start owner first c.requires.first c.requires.replicas k leaf at c.requires.none
    c.requires.here c.requires.borne_out inv.book inv.range in
    let few : length firsts ≤ 3 = c.requires.replicas.few in
    let many : length first ≡ length firsts = ap length c.requires.first in
    let count : length (range_history owner.book.seen start.range) ≡ k =
    ap length whole ∙ length-openings 0 (take k firsts)
    ∙ length-take-le k firsts (omega (arith, c.loop-slot-test.true, many)) in
    record {
      named = refl;
      room = subst (λ (r : Range). length (range_history owner.book.seen r) < 2 ^ 62) (sym inv.range)
          (omega (arith, count, few, many, c.loop-slot-test.true));
      number = ap (λ (o : Owner). (hand_of (guest_purse o.guest)).own) inv.book
          ∙ same_number start.range es start.book ∙ c.requires.number;
      sound = sound_so_far setting start owner first c.requires.first c.requires.replicas k leaf at c.requires.none
          c.requires.here c.requires.borne_out inv.book inv.range inv.sound;
      sight = c.openings_sight-sight.ensures.sight
          ∙ ap (λ (l : List Leaf). range_sight (openings_from 0 (take (k + 1) l))) c.requires.first
          ∙ ap range_sight (sym (next_opening firsts 0 k leaf at))
          ∙ ap (λ n. range_sight (openings_from 0 (take k firsts) ++ entry.Opened 0 (slot_numbered n) leaf ∷ []))
          (omega arith)
          ∙ ap (λ h. range_sight (h ++ e ∷ [])) (sym whole)
          ∙ ap (λ (r : Range). range_sight (range_history owner.book.seen r ++ e ∷ [])) (sym inv.range)
          ∙ ap range_sight (sym (range_pushed owner.range e owner.book.seen));
    }

pub loop-slot-preserved : goal.loop-slot-preserved
loop-slot-preserved g c =
    let setting = g.N.Names.setting in
    let start = c.args.self.now.owner in
    let first = c.args.first.now in
    let k = c.loop-slot.slot in
    let leaf : Leaf = get_or first k (record { 0 = 0 }) in
    let at : slice_get first k ≡ Some leaf = item_at first first k (record { 0 = 0 }) refl c.loop-slot-test.true in
    let owner = c.loop-slot.self.owner in
    let after = c.append_opening.new.self.owner in
    let inv = c.loop-slot.invariant in
    let e : RangeEntry = entry.Opened 0 (slot_numbered k) leaf in
    let es : List RangeEntry = openings_from 0 (take k first) in
    let more : es ++ e ∷ [] ≡ openings_from 0 (take (k + 1) first) =
    ap (λ n. es ++ entry.Opened 0 (slot_numbered n) leaf ∷ []) (omega arith) ∙ next_opening first 0 k leaf at in
    let own : owner.book.history ≡ of.Range owner.range =
    ap (λ (o : Owner). o.history) inv.book ∙ c.requires.own ∙ ap (λ (r : Range). of.Range r) (sym inv.range) in
    let seen : after.book.seen ≡ with_book_entry (of.Range owner.range) (one.Range e) owner.book.seen =
    ap (λ (o : Owner). o.seen) c.append_opening.ensures.book
    ∙ ap (λ (h : History). with_book_entry h (one.Range e) owner.book.seen) own in
    record {
      book = c.append_opening.ensures.book ∙ ap (after_append (one.Range e)) inv.book
          ∙ after_push start.range es e start.book c.requires.own
          ∙ ap (λ (x : List RangeEntry). after_entries start.range x start.book) more;
      hints = c.append_opening.ensures.hints ∙ inv.hints;
      range = c.append_opening.ensures.range ∙ inv.range;
      replay = c.append_opening.ensures.replay ∙ inv.replay;
      sound = subst (λ (s : Histories). IsSound setting after.hints s) (sym seen)
          (subst (λ (h : Hints). IsSound setting h
          (with_book_entry (of.Range owner.range) (one.Range e) owner.book.seen))
          (sym c.append_opening.ensures.hints)
          (sound_so_far setting start owner first c.requires.first c.requires.replicas k leaf
          (ap (λ (l : List Leaf). slice_get l k) (sym c.requires.first) ∙ at) c.requires.none c.requires.here
          c.requires.borne_out inv.book inv.range inv.sound));
    }

pub returns : goal.returns
returns g c =
    let start = c.args.self.now.owner in
    let first = c.args.first.now in
    let inv = c.loop-slot.invariant in
    record {
      book = inv.book ∙ ap (λ (l : List Leaf). after_entries start.range (openings_from 0 l) start.book)
          (take_all c.loop-slot.slot first c.loop-slot-test.false);
      hints = inv.hints;
      range = inv.range;
      replay = inv.replay;
    }
