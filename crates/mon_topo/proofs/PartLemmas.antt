-- Parts of all zones: in which zone one stands, and the zone of each.
use Rattle.std.proofs.Common.{◌≡◌, ◌∙◌, ℕ, zero, suc, ◌+◌, ◌-◌, ◌<◌, ◌≤◌, List, [], ◌∷◌, ◌++◌, Some, get_or, length}
use Rattle.std.proofs.Common.{length-append, map, slice_get, take, refl, ap, sym, arith, inl, inr, ◌⊎◌}
use Rattle.std.specs.List.{flat_map}
use Rattle.std.proofs.lemmas.Bool.{cases_lt}
use Rattle.std.proofs.lemmas.List.{length-map}
use Rattle.mon_value.specs.Histories.{zone_numbered}
use Rattle.mon_topo.specs.Zones.{no_zone, zones_of}
use Rattle.mon_topo.specs.declared.zones.ZoneSpec.{ZoneSpec}
use Rattle.mon_value.specs.declared.positions.Zone.{Zone}
use Rattle.mon_value.proofs.PlainLemmas.{get_back, get_or-front}

-- ---- two lists, one behind the other

get_or-back : {X : Type 0} (xs ys : List X) (i : ℕ) (d : X) → get_or (xs ++ ys) (length xs + i) d ≡ get_or ys i d
get_or-back [] ys i d = ap (λ n. get_or ys n d) (omega arith)
get_or-back (x ∷ xs) ys i d =
    let step : suc (length xs) + i ≡ suc (length xs + i) = omega arith in
    ap (λ n. get_or (x ∷ (xs ++ ys)) n d) step ∙ get_or-back xs ys i d

-- ---- where a part stands

-- the part r of all is the part j of the element i
pub record IsPart {X Y : Type 0} (parts : X → List Y) (xs : List X) (d : X) (r : ℕ) : Type 0 where
  pub i : ℕ
  pub j : ℕ
  pub there : i < length xs
  pub within : j < length (parts (get_or xs i d))
  pub is : r ≡ length (flat_map parts (take i xs)) + j
  pub item : (e : Y) → get_or (flat_map parts xs) r e ≡ get_or (parts (get_or xs i d)) j e

part_here : {X Y : Type 0} (parts : X → List Y) (x : X) (xs : List X) (d : X) (r : ℕ) → r < length (parts x)
    → IsPart parts (x ∷ xs) d r
part_here parts x xs d r lt = record {
  i = 0;
  j = r;
  there = omega arith;
  within = lt;
  is = omega arith;
  item = λ e. get_or-front (parts x) (flat_map parts xs) r e lt;
}

part_later : {X Y : Type 0} (parts : X → List Y) (x : X) (xs : List X) (d : X) (r left : ℕ) → r ≡ length (parts x)
    + left
    → IsPart parts xs d left → IsPart parts (x ∷ xs) d r
part_later parts x xs d r left split found =
    let rest = flat_map parts xs in
    record {
      i = suc found.i;
      j = found.j;
      there = omega (arith, found.there);
      within = found.within;
      is = omega (arith, split, found.is, length-append (parts x) (flat_map parts (take found.i xs)));
      item = λ e. ap (λ n. get_or (parts x ++ rest) n e) split ∙ get_or-back (parts x) rest left e ∙ found.item e;
    }

either_part : {X Y : Type 0} (parts : X → List Y) (x : X) (xs : List X) (d : X) (r : ℕ)
    → (length (parts x) ≤ r → IsPart parts xs d (r - length (parts x)))
    → (r < length (parts x)) ⊎ (length (parts x) ≤ r) → IsPart parts (x ∷ xs) d r
either_part parts x xs d r later (inl lt) = part_here parts x xs d r lt
either_part parts x xs d r later (inr le) =
    part_later parts x xs d r (r - length (parts x)) (omega (arith, le)) (later le)

pub part_at : {X Y : Type 0} (parts : X → List Y) (xs : List X) (d : X) (r : ℕ) → r < length (flat_map parts xs)
    → IsPart parts xs d r
part_at parts [] d r there = absurd (omega arith)
part_at parts (x ∷ xs) d r there =
    either_part parts x xs d r
    (λ le. part_at parts xs d (r - length (parts x))
    (omega (arith, there, le, length-append (parts x) (flat_map parts xs))))
    (cases_lt r (length (parts x)))

-- ---- the zone of a part

slice_get-same : {X Y : Type 0} (y : Y) (xs : List X) (ys : List Y) (i : ℕ) → i < length xs
    → slice_get (map (λ x. y) xs ++ ys) i ≡ Some y
slice_get-same y [] ys i there = absurd (omega arith)
slice_get-same y (x ∷ xs) ys zero there = refl
slice_get-same y (x ∷ xs) ys (suc i) there = slice_get-same y xs ys i (omega arith)

pub length-zones_of : {X : Type 0} (parts : ZoneSpec → List X) (n : ℕ) (zones : List ZoneSpec)
    → length (zones_of parts n zones) ≡ length (flat_map parts zones)
length-zones_of parts n [] = refl
length-zones_of parts n (zone ∷ zones) =
    length-append (map (λ part. zone_numbered n) (parts zone)) (zones_of parts (n + 1) zones)
    ∙ ap (λ k. k + length (zones_of parts (n + 1) zones)) (length-map (parts zone) (λ part. zone_numbered n))
    ∙ ap (λ k. length (parts zone) + k) (length-zones_of parts (n + 1) zones)
    ∙ sym (length-append (parts zone) (flat_map parts zones))

-- a part of the zone i has the zone i
pub zone_of_part : {X : Type 0} (parts : ZoneSpec → List X) (n : ℕ) (zones : List ZoneSpec) (i j : ℕ) → i < length zones
    → j < length (parts (get_or zones i no_zone))
    → slice_get (zones_of parts n zones) (length (flat_map parts (take i zones)) + j) ≡ Some (zone_numbered (n + i))
zone_of_part parts n [] i j there within = absurd (omega arith)
zone_of_part parts n (zone ∷ zones) zero j there within =
    let place : 0 + j ≡ j = omega arith in
    ap (slice_get (zones_of parts n (zone ∷ zones))) place
    ∙ slice_get-same (zone_numbered n) (parts zone) (zones_of parts (n + 1) zones) j within
    ∙ ap (λ k. Some (zone_numbered k)) (omega arith)
zone_of_part parts n (zone ∷ zones) (suc i) j there within =
    let front : List Zone = map (λ part. zone_numbered n) (parts zone) in
    let before = flat_map parts (take i zones) in
    let place : length (parts zone ++ before) + j ≡ length front + (length before + j) =
    omega (arith, length-append (parts zone) before, length-map (parts zone) (λ part. zone_numbered n)) in
    ap (slice_get (front ++ zones_of parts (n + 1) zones)) place
    ∙ get_back front (zones_of parts (n + 1) zones) (length before + j)
    ∙ zone_of_part parts (n + 1) zones i j (omega arith) within
    ∙ ap (λ k. Some (zone_numbered k)) (omega arith)
