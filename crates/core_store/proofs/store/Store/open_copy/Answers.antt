use Rattle.std.proofs.Common.{◌≡◌, ◌∙◌, ℕ, List, Some, length, rules, refl, ap, subst, sym}
use Rattle.std.specs.Prelude.{slice_get}
use Rattle.std.proofs.lemmas.Option.{slice_get_read}
use Rattle.mon_value.specs.declared.histories.Entry.TheVariants as entry
use Rattle.mon_value.specs.declared.rows.Row.{Row}
use Rattle.core_store.proofs.RecoveryLeafLemmas.{copy_follows, put_answers}
use Rattle.core_store.proofs.RecoveryLemmas.{leaf_seated, leaf_there, own_leaf, range_there}
use Rattle.core_store.proofs.RecoveryReturns.{slot_is_free, slot_so}
use Rattle.core_store.specs.RecoveryEvents.{MayFollowAt, PutsAt}
use Rattle.core_store.proofs.store.Store.open_copy.Goals as goal

pub next_slot-slot-requires : goal.next_slot-slot-requires
next_slot-slot-requires c =
    let some = c.requires.opening in
    let was : slice_get c.args.self.now.ranges.items c.args.recovering.now.range.0 ≡ Some c.index-seat.result.now
    = slice_get_read c.args.self.now.ranges.items (length c.args.self.now.ranges.items)
    c.args.recovering.now.range.0 c.index-seat.result.now refl (range_there some.config some.world some.i
    c.args.self.now c.args.recovering.now c.args.sight.now some.opening) c.index-seat.ensures in
    record {
      free = slot_is_free some.config some.world some.i c.args.self.now c.args.recovering.now c.args.sight.now
          some.opening c.requires.asks c.index-seat.result.now was;
    }

pub put_entry-requires : goal.put_entry-requires
put_entry-requires c =
    let some = c.requires.opening in
    let listed = own_leaf some.config some.world some.i c.args.self.now c.args.recovering.now c.args.sight.now
    some.opening in
    let was : slice_get c.args.self.now.ranges.items c.args.recovering.now.range.0 ≡ Some c.index-seat.result.now
    = slice_get_read c.args.self.now.ranges.items (length c.args.self.now.ranges.items)
    c.args.recovering.now.range.0 c.index-seat.result.now refl (range_there some.config some.world some.i
    c.args.self.now c.args.recovering.now c.args.sight.now some.opening) c.index-seat.ensures in
    let number : c.from.result ≡ c.args.recovering.now.number = search rules in
    record {
      there = leaf_there some.config some.world some.i c.args.self.now c.args.recovering.now c.args.sight.now
          some.opening c.args.recovering.now.leaf listed;
      seated = leaf_seated some.config some.world some.i c.args.self.now c.args.recovering.now c.args.sight.now
          some.opening c.args.recovering.now.leaf listed;
      rows = refl;
      follows = subst (λ (n : ℕ). MayFollowAt c.args.recovering.now.leaf
          (entry.Opened n c.args.recovering.now.range c.next_slot-slot.result c.in_ok-rows.rows) c.args.self.now)
          (sym number)
          (copy_follows some.config some.world some.i c.args.self.now c.args.recovering.now c.args.sight.now
          some.opening c.requires.asks c.next_slot-slot.result
          (c.next_slot-slot.ensures.slot ∙ slot_so some.config some.world some.i c.args.self.now
          c.args.recovering.now c.args.sight.now some.opening c.requires.asks c.index-seat.result.now was)
          c.in_ok-rows.rows (ap (λ (rows : List Row). Some rows) c.in_ok-rows.ensures.equal ∙ c.rows_of.ensures.rows));
    }

pub returns : goal.returns
returns c =
    let some = c.requires.opening in
    let was : slice_get c.args.self.now.ranges.items c.args.recovering.now.range.0 ≡ Some c.index-seat.result.now
    = slice_get_read c.args.self.now.ranges.items (length c.args.self.now.ranges.items)
    c.args.recovering.now.range.0 c.index-seat.result.now refl (range_there some.config some.world some.i
    c.args.self.now c.args.recovering.now c.args.sight.now some.opening) c.index-seat.ensures in
    let number : c.from.result ≡ c.args.recovering.now.number = search rules in
    let put : PutsAt c.args.recovering.now.leaf (entry.Opened c.args.recovering.now.number
    c.args.recovering.now.range c.next_slot-slot.result c.in_ok-rows.rows) c.args.self.now c.put_entry.new.self
    c.args.sight.now c.put_entry.new.sight
    = subst (λ (n : ℕ). PutsAt c.args.recovering.now.leaf (entry.Opened n c.args.recovering.now.range
    c.next_slot-slot.result c.in_ok-rows.rows) c.args.self.now c.put_entry.new.self c.args.sight.now
    c.put_entry.new.sight) number c.in_ok-put_entry.ensures.puts in
    record {
      answers = λ config world i opening.
          put_answers config world i c.args.self.now c.args.recovering.now c.args.sight.now opening c.requires.asks
          c.next_slot-slot.result
          (c.next_slot-slot.ensures.slot ∙ slot_so config world i c.args.self.now c.args.recovering.now
          c.args.sight.now opening c.requires.asks c.index-seat.result.now was)
          c.in_ok-rows.rows (ap (λ (rows : List Row). Some rows) c.in_ok-rows.ensures.equal ∙ c.rows_of.ensures.rows)
          c.put_entry.new.self c.put_entry.new.sight put;
    }
