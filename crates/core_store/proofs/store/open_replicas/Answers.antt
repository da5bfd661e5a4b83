use Rattle.std.proofs.Common.{◌≡◌, ◌∙◌, ◌+◌, List, ap, get_or, length, refl, slice_get, arith, rules, Some}
use Rattle.mon_topo.specs.Zones.{first_replicas}
use Rattle.mon_value.specs.declared.positions.Leaf.{Leaf}
use Rattle.core_store.proofs.OpeningLemmas.{may_open, opened_begun, opened_more, opened_whole}
use Rattle.mon_topo.proofs.FirstOpenings.{item_at, range_more, range_whole, replica_there}
use Rattle.core_store.proofs.store.open_replicas.Goals as goal

pub loop-leaf-init : goal.loop-leaf-init
loop-leaf-init c = record {
  opened = opened_begun c.args.config.now c.args.range 0 c.args.leaves.now.items c.requires.before;
  history = c.requires.none;
  slot = refl;
}

pub open_replica-requires-clause-there : goal.open_replica-requires-clause-there
open_replica-requires-clause-there c =
    let zones = c.args.config.now.topology in
    let items = c.as_slice-leaf-items.result.now in
    let place = c.loop-leaf.leaf-index in
    let leaf : Leaf = get_or items place (record { 0 = 0 }) in
    let at : slice_get (first_replicas zones c.args.range.0) place ≡ Some leaf
    = item_at (first_replicas zones c.args.range.0) items place (record { 0 = 0 })
    (c.as_slice-leaf-items.ensures.items ∙ c.first_replicas.ensures.replicas) (omega (arith, c.loop-leaf-test.true)) in
    let there = replica_there zones c.args.range place leaf c.requires.replicas at in
    let many = c.loop-leaf.invariant.opened.count in
    omega arith

pub open_replica-requires-clause-may : goal.open_replica-requires-clause-may
open_replica-requires-clause-may c =
    let zones = c.args.config.now.topology in
    let items = c.as_slice-leaf-items.result.now in
    let place = c.loop-leaf.leaf-index in
    let leaf : Leaf = get_or items place (record { 0 = 0 }) in
    let at : slice_get (first_replicas zones c.args.range.0) place ≡ Some leaf
    = item_at (first_replicas zones c.args.range.0) items place (record { 0 = 0 })
    (c.as_slice-leaf-items.ensures.items ∙ c.first_replicas.ensures.replicas) (omega (arith, c.loop-leaf-test.true)) in
    may_open c.args.config.now c.args.range place leaf c.loop-leaf.number c.loop-leaf.leaves.items
    c.loop-leaf.invariant.slot
    c.loop-leaf.invariant.opened at

pub overflow_add-number : goal.overflow_add-number
overflow_add-number c =
    let few = c.requires.replicas.few in
    let slot = c.loop-leaf.invariant.slot in
    let before = c.loop-leaf-test.true in
    let same = ap (λ (l : List Leaf). length l) (c.as_slice-leaf-items.ensures.items
    ∙ c.first_replicas.ensures.replicas) in
    search rules

pub loop-leaf-preserved : goal.loop-leaf-preserved
loop-leaf-preserved c =
    let zones = c.args.config.now.topology in
    let items = c.as_slice-leaf-items.result.now in
    let place = c.loop-leaf.leaf-index in
    let leaf : Leaf = get_or items place (record { 0 = 0 }) in
    let at : slice_get (first_replicas zones c.args.range.0) place ≡ Some leaf
    = item_at (first_replicas zones c.args.range.0) items place (record { 0 = 0 })
    (c.as_slice-leaf-items.ensures.items ∙ c.first_replicas.ensures.replicas) (omega (arith, c.loop-leaf-test.true)) in
    record {
      opened = opened_more c.args.config.now c.args.range place leaf c.loop-leaf.number c.loop-leaf.leaves.items
          c.open_replica.new.leaves.items c.loop-leaf.invariant.slot c.loop-leaf.invariant.opened at
          c.open_replica.ensures.count c.in_ok-open_replica.ensures.opened;
      history = range_more zones c.args.range.0 place c.loop-leaf.number leaf c.loop-leaf.state.history _ at
          c.loop-leaf.invariant.slot c.loop-leaf.invariant.history c.in_ok-open.ensures.opened;
      slot = ap (λ n. n + 1) c.loop-leaf.invariant.slot;
    }

pub returns : goal.returns
returns c =
    let same = ap (λ (l : List Leaf). length l) (c.as_slice-leaf-items.ensures.items
    ∙ c.first_replicas.ensures.replicas) in
    let past = c.loop-leaf-test.false in
    record {
      opened = opened_whole c.args.config.now c.args.range c.loop-leaf.leaf-index c.loop-leaf.leaves.items
          c.loop-leaf.invariant.opened (omega arith);
      history = range_whole c.args.config.now.topology c.args.range.0 c.loop-leaf.leaf-index
          c.loop-leaf.state.history
          (omega arith)
          c.loop-leaf.invariant.history;
    }
