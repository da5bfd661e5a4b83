-- Seats of a store: what is said of each of them stays where one is changed, and what is known of the one that a
-- write needs.
use Rattle.std.proofs.Common.{◌≡◌, ℕ, zero, suc, true, List, [], ◌∷◌, length, set, refl, sym, ap, subst, ◌∙◌, arith}
use Rattle.std.specs.Prelude.{Option, Some, is_some, slice_get, ◌≢◌}
use Rattle.std.proofs.Math.Nat.{suc_inj}
use Rattle.std.proofs.lemmas.List.{length-set, length-map}
use Rattle.std.proofs.lemmas.Option.{none-some, same_Some}
use Rattle.mon_config.specs.declared.config.Config.{Config}
use Rattle.mon_topo.specs.Settings.{Setting}
use Rattle.mon_value.specs.Histories.{leaf_numbered, range_numbered}
use Rattle.mon_value.specs.declared.positions.Leaf.{Leaf}
use Rattle.mon_value.specs.declared.positions.Range.{Range}
use Rattle.core_store.specs.Agreements.{AreLeaves, AreRanges, AreShared, AreWords, IsLeafSo, IsRangeSo}
use Rattle.core_store.specs.HintWords.{HintTable, hint_word_at}
use Rattle.mon_topo.specs.Sights.{AreAlike, range_sight, sight_of}
use Rattle.core_store.specs.Agreements.{store_of}
use Rattle.core_store.specs.WriteEvents.{ChangesLeaf, ChangesRange, StaysThere}
use Rattle.core_store.specs.declared.leaves.LeafSeat.{LeafSeat}
use Rattle.core_store.specs.declared.ranges.RangeSeat.{RangeSeat}
use Rattle.mon_topo.specs.declared.sights.Sight.{Sight}
use Rattle.core_store.specs.declared.store.Store.{Store}
use Rattle.mon_hints.specs.declared.places.Place.TheVariants as at
use Rattle.mon_hints.specs.Covers.{Bits}
use Rattle.mon_hints.specs.Hints.{has_bit}
use Rattle.mon_topo.specs.Settings.{zone_of_leaf}
use Rattle.core_store.specs.Agreements.{place_of_leaf}
use Rattle.write_core.proofs.KeepsLemmas.{changed_other, changed_same}
use Rattle.write_core.specs.Replays.{HasAckRoom}
use Rattle.mon_topo.specs.Views.{View, of_leaf, of_range}
use Rattle.write_core.specs.World.{Actor, IsPart, World, at_leaf, at_range, met_at_leaf, met_at_range}

-- ---- lists with one item changed

pub set_each : {X : Type 0} (P : ℕ → X → Type 0) (xs : List X) (n : ℕ) (y : X) → P n y
    → ((m : ℕ) (x : X) → m ≢ n → slice_get xs m ≡ Some x → P m x)
    → (m : ℕ) (x : X) → slice_get (set xs n y) m ≡ Some x → P m x
set_each P [] n y here others m x e = absurd (none-some x e)
set_each P (a ∷ xs) zero y here others zero x e = subst (λ z. P zero z) (same_Some y x e) here
set_each P (a ∷ xs) zero y here others (suc m) x e = others (suc m) x (λ s. omega (arith, s)) e
set_each P (a ∷ xs) (suc n) y here others zero x e = others zero x (λ s. omega (arith, s)) e
set_each P (a ∷ xs) (suc n) y here others (suc m) x e =
    set_each (λ k z. P (suc k) z) xs n y here (λ k z apart got. others (suc k) z (λ s. apart (suc_inj s)) got) m x e

-- ---- sights

-- two that have seen parts of the same truth have seen of the same leaves and ranges
pub parts_alike : (store : Setting) (world : World) (a b : View) → IsPart store world a → IsPart store world b
    → AreAlike (sight_of a.seen) (sight_of b.seen)
parts_alike store world a b first second = (
  length-map a.seen.leaves length ∙ first.sound.held.all_leaves ∙ sym second.sound.held.all_leaves
      ∙ sym (length-map b.seen.leaves length),
  length-map a.seen.ranges range_sight ∙ first.sound.held.all_ranges ∙ sym second.sound.held.all_ranges
      ∙ sym (length-map b.seen.ranges range_sight),
)

-- ---- words

module _ (config : Config) (world next : World) where
  pub words_stay : (old new : HintTable) → AreWords config world old → new ≡ old → next.truth.bits ≡ world.truth.bits
      → AreWords config next new
  words_stay old new h same bits = record {
    buckets = ap (λ w. w.buckets) same ∙ h.buckets;
    count = ap (λ w. length w.words) same ∙ h.count;
    root = λ zone bucket below. ap (λ w. has_bit (hint_word_at w at.Root bucket) zone) same ∙ h.root zone bucket below
        ∙ ap (λ (bits : Bits). bits.root zone bucket) (sym bits);
    zone = λ leaf bucket there below.
        ap (λ w. has_bit (hint_word_at w (at.Zone (zone_of_leaf (store_of config) leaf)) bucket)
        (place_of_leaf (store_of config) leaf)) same
        ∙ h.zone leaf bucket there below ∙ ap (λ (bits : Bits). bits.zone leaf.0 bucket) (sym bits);
  }

-- ---- a seat that was looked at, and stays

module _ (config : Config) (world : World) where
  pub same_at_range : (range : Range) (old new : Store) (seat : RangeSeat) → AreShared config world old
      → ChangesRange range seat old new → IsRangeSo world range.0 seat → AreShared config world new
  same_at_range range old new seat shared changes here = record {
    config_is = changes.config ∙ shared.config_is;
    served = shared.served;
    words = words_stay config world world old.words new.words shared.words changes.words refl;
    leaves = record {
      count = ap length changes.leaves ∙ shared.leaves.count;
      each = λ n one got.
          shared.leaves.each n one (ap (λ (seats : List LeafSeat). slice_get seats n) (sym changes.leaves) ∙ got);
    };
    ranges = record {
      count = ap length changes.ranges ∙ length-set old.ranges.items range.0 seat ∙ shared.ranges.count;
      each = λ n one got. set_each (λ m seat'. IsRangeSo world m seat') old.ranges.items range.0 seat here
          (λ m other apart before. shared.ranges.each m other before) n one
          (ap (λ (seats : List RangeSeat). slice_get seats n) (sym changes.ranges) ∙ got);
    };
    first = changes.first ∙ shared.first;
  }

  pub same_at_leaf : (leaf : Leaf) (old new : Store) (seat : LeafSeat) → AreShared config world old
      → ChangesLeaf leaf seat old new → IsLeafSo config world leaf seat → AreShared config world new
  same_at_leaf leaf old new seat shared changes here = record {
    config_is = changes.config ∙ shared.config_is;
    served = shared.served;
    words = words_stay config world world old.words new.words shared.words changes.words refl;
    leaves = record {
      count = ap length changes.leaves ∙ length-set old.leaves.items leaf.0 seat ∙ shared.leaves.count;
      each = λ n one got. set_each (λ m seat'. IsLeafSo config world (leaf_numbered m) seat') old.leaves.items leaf.0
          seat here
          (λ m other apart before. shared.leaves.each m other before) n one
          (ap (λ (seats : List LeafSeat). slice_get seats n) (sym changes.leaves) ∙ got);
    };
    ranges = record {
      count = ap length changes.ranges ∙ shared.ranges.count;
      each = λ n one got.
          shared.ranges.each n one (ap (λ (seats : List RangeSeat). slice_get seats n) (sym changes.ranges) ∙ got);
    };
    first = changes.first ∙ shared.first;
  }

-- ---- one seat is changed

-- a store after an event at a range
module _ (config : Config) (world : World) (i : ℕ) (view : View) (range : Range) (change : View → View)
    (bits : (change world.truth).bits ≡ world.truth.bits)
    (leaves_same : (leaf : Leaf) → of_leaf (change world.truth) leaf ≡ of_leaf world.truth leaf)
    (ranges_same : (n : ℕ) → n ≢ range.0
    → of_range (change world.truth) (range_numbered n) ≡ of_range world.truth (range_numbered n)) where
  pub shared_at_range : (holder : Option ℕ) (f : View → Actor) (old new : Store) (seat : RangeSeat) → AreShared config
      world old
      → ChangesRange range seat old new → seat.state.history ≡ of_range (change world.truth) range
      → seat.holder ≡ holder
      → seat.sight ≡ sight_of (met_at_range world view range change).seen
      → (is_some holder ≡ true → HasAckRoom seat.state)
      → AreShared config (at_range world i view range change holder f) new
  shared_at_range holder f old new seat shared changes state holds sight room =
      let next : World = at_range world i view range change holder f in
      let leaf_stays : (n : ℕ) (one : LeafSeat) → IsLeafSo config world (leaf_numbered n) one
      → IsLeafSo config next (leaf_numbered n) one
      = λ n one h. record {
        schemas = h.schemas;
        buckets = h.buckets;
        history = h.history ∙ sym (leaves_same (leaf_numbered n));
        promised = h.promised;
        holder = h.holder;
        sight = h.sight;
        zone = h.zone;
        place = h.place;
      } in
      let here : IsRangeSo next range.0 seat = record {
        history = state;
        holder = holds ∙ sym (changed_same world.range_holder range.0 holder);
        sight = sight ∙ ap (λ (seen : View). sight_of seen.seen)
            (sym (changed_same world.ranges range.0 (met_at_range world view range change)));
        room = λ held. room (ap is_some (sym holds) ∙ held);
      } in
      let others : (m : ℕ) (one : RangeSeat) → m ≢ range.0 → slice_get old.ranges.items m ≡ Some one
      → IsRangeSo next m one
      = λ m one apart got. record {
        history = (shared.ranges.each m one got).history ∙ sym (ranges_same m apart);
        holder = (shared.ranges.each m one got).holder ∙ sym (changed_other world.range_holder range.0 m holder apart);
        sight = (shared.ranges.each m one got).sight ∙ ap (λ (seen : View). sight_of seen.seen)
            (sym (changed_other world.ranges range.0 m (met_at_range world view range change) apart));
        room = (shared.ranges.each m one got).room;
      } in
      record {
        config_is = changes.config ∙ shared.config_is;
        served = shared.served;
        words = words_stay config world next old.words new.words shared.words changes.words bits;
        leaves = record {
          count = ap length changes.leaves ∙ shared.leaves.count;
          each = λ n one got. leaf_stays n one
              (shared.leaves.each n one (ap (λ (seats : List LeafSeat). slice_get seats n) (sym changes.leaves) ∙ got));
        };
        ranges = record {
          count = ap length changes.ranges ∙ length-set old.ranges.items range.0 seat ∙ shared.ranges.count;
          each = λ n one got. set_each (λ m seat'. IsRangeSo next m seat') old.ranges.items range.0 seat here others n
              one
              (ap (λ (seats : List RangeSeat). slice_get seats n) (sym changes.ranges) ∙ got);
        };
        first = changes.first ∙ shared.first;
      }

-- and after one at a leaf
module _ (config : Config) (world : World) (i : ℕ) (view : View) (leaf : Leaf) (change : View → View)
    (leaves_same : (n : ℕ) → n ≢ leaf.0
    → of_leaf (change world.truth) (leaf_numbered n) ≡ of_leaf world.truth (leaf_numbered n))
    (ranges_same : (range : Range) → of_range (change world.truth) range ≡ of_range world.truth range) where
  pub leaves_at_leaf : (holder : Option ℕ) (f : View → Actor) (old new : List LeafSeat) (seat : LeafSeat)
      → AreLeaves config world old → new ≡ set old leaf.0 seat
      → IsLeafSo config (at_leaf world i view leaf change holder f) leaf seat
      → AreLeaves config (at_leaf world i view leaf change holder f) new
  leaves_at_leaf holder f old new seat h changes here =
      let next : World = at_leaf world i view leaf change holder f in
      let others : (m : ℕ) (one : LeafSeat) → m ≢ leaf.0 → slice_get old m ≡ Some one
      → IsLeafSo config next (leaf_numbered m) one
      = λ m one apart got. record {
        schemas = (h.each m one got).schemas;
        buckets = (h.each m one got).buckets;
        history = (h.each m one got).history ∙ sym (leaves_same m apart);
        promised = (h.each m one got).promised;
        holder = (h.each m one got).holder ∙ sym (changed_other world.leaf_holder leaf.0 m holder apart);
        sight = (h.each m one got).sight ∙ ap (λ (seen : View). sight_of seen.seen)
            (sym (changed_other world.leaves leaf.0 m (met_at_leaf world view leaf change) apart));
        zone = (h.each m one got).zone;
        place = (h.each m one got).place;
      } in
      record {
        count = ap length changes ∙ length-set old leaf.0 seat ∙ h.count;
        each = λ n one got. set_each (λ m seat'. IsLeafSo config next (leaf_numbered m) seat') old leaf.0 seat here
            others n one
            (ap (λ (seats : List LeafSeat). slice_get seats n) (sym changes) ∙ got);
      }

  pub ranges_at_leaf : (holder : Option ℕ) (f : View → Actor) (old new : List RangeSeat) → AreRanges config world old
      → new ≡ old → AreRanges config (at_leaf world i view leaf change holder f) new
  ranges_at_leaf holder f old new h same = record {
    count = ap length same ∙ h.count;
    each = λ n one got.
        let before : IsRangeSo world n one
        = h.each n one (ap (λ (seats : List RangeSeat). slice_get seats n) (sym same) ∙ got) in
        record {
          history = before.history ∙ sym (ranges_same (range_numbered n));
          holder = before.holder;
          sight = before.sight;
          room = before.room;
        };
  }

  -- where no bit is set
  pub shared_at_leaf : (bits : (change world.truth).bits ≡ world.truth.bits) (holder : Option ℕ) (f : View → Actor)
      (old new : Store) (seat : LeafSeat) → AreShared config world old → ChangesLeaf leaf seat old new
      → IsLeafSo config (at_leaf world i view leaf change holder f) leaf seat
      → AreShared config (at_leaf world i view leaf change holder f) new
  shared_at_leaf bits holder f old new seat shared changes here = record {
    config_is = changes.config ∙ shared.config_is;
    served = shared.served;
    words = words_stay config world (at_leaf world i view leaf change holder f) old.words new.words shared.words
        changes.words bits;
    leaves = leaves_at_leaf holder f old.leaves.items new.leaves.items seat shared.leaves changes.leaves here;
    ranges = ranges_at_leaf holder f old.ranges.items new.ranges.items shared.ranges changes.ranges;
    first = changes.first ∙ shared.first;
  }

-- a leaf's seat after an event there
pub leaf_so_then : (config : Config) (world : World) (i : ℕ) (view : View) (leaf : Leaf) (change : View → View)
    (holder : Option ℕ) (f : View → Actor) (old new : LeafSeat) (now : Sight) → IsLeafSo config world leaf old
    → StaysThere old new now → new.state.history ≡ of_leaf (change world.truth) leaf → new.holder ≡ holder
    → now ≡ sight_of (met_at_leaf world view leaf change).seen
    → IsLeafSo config (at_leaf world i view leaf change holder f) leaf new
leaf_so_then config world i view leaf change holder f old new now so stays history holds seen = record {
  schemas = stays.schemas ∙ so.schemas;
  buckets = stays.buckets ∙ so.buckets;
  history = history;
  promised = stays.promised ∙ so.promised;
  holder = holds ∙ sym (changed_same world.leaf_holder leaf.0 holder);
  sight = stays.sight_there ∙ seen ∙ ap (λ (met : View). sight_of met.seen)
      (sym (changed_same world.leaves leaf.0 (met_at_leaf world view leaf change)));
  zone = stays.zone ∙ so.zone;
  place = stays.place ∙ so.place;
}
