-- Where leaves stand: each has a zone and a place there that no other leaf has; and there is a word for each.
use Rattle.std.proofs.Common.{◌≡◌, ℕ, ◌+◌, ◌*◌, ◌-◌, ◌<◌, ◌≤◌, Some, List}
use Rattle.std.proofs.Common.{length, slice_get, sym, ap, subst, ◌∙◌, arith}
use Rattle.std.proofs.Math.Nat.{add-mul, mul-le-mul_right}
use Rattle.std.proofs.lemmas.Option.{get_or_from_slice_get}
use Rattle.mon_config.specs.declared.config.Config.{Config}
use Rattle.mon_topo.proofs.PartLemmas.{part_at, zone_of_part}
use Rattle.mon_topo.specs.Settings.{zone_of_leaf}
use Rattle.mon_value.specs.Histories.{zone_numbered}
use Rattle.mon_topo.specs.Zones.{first_leaf, leaf_zones, leaves_in, no_zone}
use Rattle.mon_topo.specs.declared.zones.ZoneSpec.{ZoneSpec}
use Rattle.mon_value.specs.declared.positions.Leaf.{Leaf}
use Rattle.mon_value.specs.declared.positions.Zone.{Zone}
use Rattle.core_store.specs.Agreements.{AreWords, place_of_leaf}
use Rattle.core_store.specs.HintWords.{HasWord, HintTable}
use Rattle.core_store.specs.Agreements.{store_of}
use Rattle.mon_hints.specs.declared.places.Place.TheVariants as at
use Rattle.write_core.specs.World.{World}

-- ---- zones of leaves

record IsPlaced (zones : List ZoneSpec) (n : ℕ) : Type 0 where
  pub z : ℕ
  pub there : z < length zones
  pub zone : slice_get (leaf_zones zones) n ≡ Some (zone_numbered z)
  pub from : first_leaf zones z ≤ n

placed : (zones : List ZoneSpec) (n : ℕ) → n < length (leaves_in zones) → IsPlaced zones n
placed zones n here =
    let part = part_at (λ (zone : ZoneSpec). zone.leaves) zones no_zone n here in
    let first : ℕ = first_leaf zones part.i in
    let is : n ≡ first + part.j = part.is in
    let number : 0 + part.i ≡ part.i = omega arith in
    record {
      z = part.i;
      there = part.there;
      zone = ap (slice_get (leaf_zones zones)) is
          ∙ zone_of_part (λ (zone : ZoneSpec). zone.leaves) 0 zones part.i part.j part.there part.within
          ∙ ap (λ (k : ℕ). Some (zone_numbered k)) number;
      from = omega (arith, is);
    }

module _ (config : Config) (leaf : Leaf) (here : leaf.0 < length (leaves_in config.topology)) where
  placed_here : IsPlaced config.topology leaf.0
  placed_here = placed config.topology leaf.0 here

  zone_is : zone_of_leaf (store_of config) leaf ≡ zone_numbered placed_here.z
  zone_is = get_or_from_slice_get (leaf_zones config.topology) leaf.0 (zone_numbered placed_here.z) (zone_numbered 0)
      placed_here.zone

  pub zone_there : (zone_of_leaf (store_of config) leaf).0 < length config.topology
  zone_there = subst (λ (zone : Zone). zone.0 < length config.topology) (sym zone_is) placed_here.there

  pub first_before : first_leaf config.topology (zone_of_leaf (store_of config) leaf).0 ≤ leaf.0
  first_before = subst (λ (zone : Zone). first_leaf config.topology zone.0 ≤ leaf.0) (sym zone_is) placed_here.from

  pub place_below : place_of_leaf (store_of config) leaf ≤ leaf.0
  place_below = omega arith

-- two leaves of a zone that stand in the same place are one
pub one_leaf : (config : Config) (a b : Leaf) → a.0 < length (leaves_in config.topology)
    → b.0 < length (leaves_in config.topology)
    → (zone_of_leaf (store_of config) a).0 ≡ (zone_of_leaf (store_of config) b).0
    → place_of_leaf (store_of config) a ≡ place_of_leaf (store_of config) b → a.0 ≡ b.0
one_leaf config a b first second zones places =
    let firsts : first_leaf config.topology (zone_of_leaf (store_of config) a).0
    ≡ first_leaf config.topology (zone_of_leaf (store_of config) b).0
    = ap (first_leaf config.topology) zones in
    let low : first_leaf config.topology (zone_of_leaf (store_of config) a).0 ≤ a.0 = first_before config a first in
    let low_too : first_leaf config.topology (zone_of_leaf (store_of config) b).0 ≤ b.0 = first_before config b
    second in
    let same : a.0 - first_leaf config.topology (zone_of_leaf (store_of config) a).0
    ≡ b.0 - first_leaf config.topology (zone_of_leaf (store_of config) b).0 = places in
    omega (arith, firsts, low, low_too, same)

-- ---- words that are there

module _ (config : Config) (world : World) (words : HintTable) (are : AreWords config world words) (bucket : ℕ)
    (below : bucket < config.buckets) where
  bucket_there : bucket < words.buckets
  bucket_there = subst (λ (n : ℕ). bucket < n) (sym are.buckets) below

  count : length words.words ≡ (length config.topology + 1) * words.buckets
  count = are.count ∙ ap (λ (n : ℕ). (length config.topology + 1) * n) (sym are.buckets)

  pub root_there : HasWord words at.Root bucket
  root_there =
      let split : (length config.topology + 1) * words.buckets ≡ length config.topology * words.buckets + 1
      * words.buckets
      = add-mul (length config.topology) 1 words.buckets in
      let least : 0 ≤ length config.topology * words.buckets = omega arith in
      record { bucket_there = bucket_there; word_there = omega (arith, split, least, count, bucket_there) }

  pub zone_word_there : (zone : Zone) → zone.0 < length config.topology → HasWord words (at.Zone zone) bucket
  zone_word_there zone there =
      let most : ((zone.0 + 1) + 1) * words.buckets ≤ (length config.topology + 1) * words.buckets
      = mul-le-mul_right words.buckets (omega (arith, there)) in
      let split : ((zone.0 + 1) + 1) * words.buckets ≡ (zone.0 + 1) * words.buckets + 1 * words.buckets
      = add-mul (zone.0 + 1) 1 words.buckets in
      record { bucket_there = bucket_there; word_there = omega (arith, most, split, count, bucket_there) }
