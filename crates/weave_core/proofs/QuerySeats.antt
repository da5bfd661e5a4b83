-- A store after a look of a query: what is said of each seat stays, and the seat that was looked at has seen more.
use Rattle.std.proofs.Common.{◌≡◌, ◌∙◌, ℕ, length, refl, sym, ap, List}
use Rattle.std.specs.Prelude.{◌≢◌, slice_get}
use Rattle.std.proofs.lemmas.List.{length-set}
use Rattle.mon_config.specs.declared.config.Config.{Config}
use Rattle.mon_value.specs.Histories.{leaf_numbered, range_numbered}
use Rattle.mon_value.specs.declared.positions.Leaf.{Leaf}
use Rattle.mon_value.specs.declared.positions.Range.{Range}
use Rattle.core_store.proofs.SeatLemmas.{set_each, words_stay}
use Rattle.core_store.specs.Agreements.{AreShared, IsLeafSo, IsRangeSo}
use Rattle.mon_topo.specs.Sights.{sight_of}
use Rattle.core_store.specs.WriteEvents.{ChangesLeaf, ChangesRange}
use Rattle.core_store.specs.declared.leaves.LeafSeat.{LeafSeat}
use Rattle.core_store.specs.declared.ranges.RangeSeat.{RangeSeat}
use Rattle.core_store.specs.declared.store.Store.{Store}
use Rattle.write_core.proofs.KeepsLemmas.{changed_other}
use Rattle.write_core.specs.Events.{after_resolving, after_visit}
use Rattle.mon_topo.specs.Views.{View, of_leaf, of_range}
use Rattle.write_core.specs.World.{World}

-- the same is true and held, and all but one leaf and one range have seen the same
pub record IsSameBut (world next : World) (OtherLeaf OtherRange : ℕ → Type 0) : Type 0 where
  pub truth : next.truth ≡ world.truth
  pub leaf_holder : (n : ℕ) → next.leaf_holder n ≡ world.leaf_holder n
  pub range_holder : (n : ℕ) → next.range_holder n ≡ world.range_holder n
  pub leaves : (n : ℕ) → OtherLeaf n → next.leaves n ≡ world.leaves n
  pub ranges : (n : ℕ) → OtherRange n → next.ranges n ≡ world.ranges n

abbrev pub Any : ℕ → Type 0
Any n = Unit {0}

pub same_world : (world : World) (OtherLeaf OtherRange : ℕ → Type 0) → IsSameBut world world OtherLeaf OtherRange
same_world world OtherLeaf OtherRange = record {
  truth = refl;
  leaf_holder = λ n. refl;
  range_holder = λ n. refl;
  leaves = λ n other. refl;
  ranges = λ n other. refl;
}

pub resolved_same : (world : World) (range : Range) (view : View)
    → IsSameBut world (after_resolving world range view) Any (λ n. n ≢ range.0)
resolved_same world range view = record {
  truth = refl;
  leaf_holder = λ n. refl;
  range_holder = λ n. refl;
  leaves = λ n other. refl;
  ranges = λ n other. changed_other world.ranges range.0 n _ other;
}

pub visited_same : (world : World) (leaf : Leaf) (view : View)
    → IsSameBut world (after_visit world leaf view) (λ n. n ≢ leaf.0) Any
visited_same world leaf view = record {
  truth = refl;
  leaf_holder = λ n. refl;
  range_holder = λ n. refl;
  leaves = λ n other. changed_other world.leaves leaf.0 n _ other;
  ranges = λ n other. refl;
}

module _ (config : Config) (world next : World) (OtherLeaf OtherRange : ℕ → Type 0)
    (same : IsSameBut world next OtherLeaf OtherRange) where
  pub leaf_stays : (n : ℕ) (seat : LeafSeat) → OtherLeaf n → IsLeafSo config world (leaf_numbered n) seat
      → IsLeafSo config next (leaf_numbered n) seat
  leaf_stays n seat other so = record {
    schemas = so.schemas;
    buckets = so.buckets;
    history = so.history ∙ ap (λ (truth : View). of_leaf truth (leaf_numbered n)) (sym same.truth);
    promised = so.promised;
    holder = so.holder ∙ sym (same.leaf_holder n);
    sight = so.sight ∙ ap (λ (view : View). sight_of view.seen) (sym (same.leaves n other));
    zone = so.zone;
    place = so.place;
  }

  pub range_stays : (n : ℕ) (seat : RangeSeat) → OtherRange n → IsRangeSo world n seat → IsRangeSo next n seat
  range_stays n seat other so = record {
    history = so.history ∙ ap (λ (truth : View). of_range truth (range_numbered n)) (sym same.truth);
    holder = so.holder ∙ sym (same.range_holder n);
    sight = so.sight ∙ ap (λ (view : View). sight_of view.seen) (sym (same.ranges n other));
    room = so.room;
  }

-- one range's seat is looked at
pub shared_range : (config : Config) (world next : World) (range : Range) (old new : Store) (seat : RangeSeat)
    → IsSameBut world next Any (λ n. n ≢ range.0) → AreShared config world old → ChangesRange range seat old new
    → IsRangeSo next range.0 seat → AreShared config next new
shared_range config world next range old new seat same shared changes here = record {
  config_is = changes.config ∙ shared.config_is;
  served = shared.served;
  words = words_stay config world next old.words new.words shared.words changes.words
      (ap (λ (truth : View). truth.bits) same.truth);
  leaves = record {
    count = ap length changes.leaves ∙ shared.leaves.count;
    each = λ n one got. leaf_stays config world next Any (λ n. n ≢ range.0) same n one tt
        (shared.leaves.each n one (ap (λ (seats : List LeafSeat). slice_get seats n) (sym changes.leaves) ∙ got));
  };
  ranges = record {
    count = ap length changes.ranges ∙ length-set old.ranges.items range.0 seat ∙ shared.ranges.count;
    each = λ n one got. set_each (λ m some. IsRangeSo next m some) old.ranges.items range.0 seat here
        (λ m some other was. range_stays config world next Any (λ n. n ≢ range.0) same m some other
        (shared.ranges.each m some was)) n one
        (ap (λ (seats : List RangeSeat). slice_get seats n) (sym changes.ranges) ∙ got);
  };
  first = changes.first ∙ shared.first;
}

-- or one leaf's
pub shared_leaf : (config : Config) (world next : World) (leaf : Leaf) (old new : Store) (seat : LeafSeat)
    → IsSameBut world next (λ n. n ≢ leaf.0) Any → AreShared config world old → ChangesLeaf leaf seat old new
    → IsLeafSo config next (leaf_numbered leaf.0) seat → AreShared config next new
shared_leaf config world next leaf old new seat same shared changes here = record {
  config_is = changes.config ∙ shared.config_is;
  served = shared.served;
  words = words_stay config world next old.words new.words shared.words changes.words
      (ap (λ (truth : View). truth.bits) same.truth);
  leaves = record {
    count = ap length changes.leaves ∙ length-set old.leaves.items leaf.0 seat ∙ shared.leaves.count;
    each = λ n one got. set_each (λ m some. IsLeafSo config next (leaf_numbered m) some) old.leaves.items leaf.0 seat
        here
        (λ m some other was. leaf_stays config world next (λ n. n ≢ leaf.0) Any same m some other
        (shared.leaves.each m some was)) n one
        (ap (λ (seats : List LeafSeat). slice_get seats n) (sym changes.leaves) ∙ got);
  };
  ranges = record {
    count = ap length changes.ranges ∙ shared.ranges.count;
    each = λ n one got. range_stays config world next (λ n. n ≢ leaf.0) Any same n one tt
        (shared.ranges.each n one (ap (λ (seats : List RangeSeat). slice_get seats n) (sym changes.ranges) ∙ got));
  };
  first = changes.first ∙ shared.first;
}
