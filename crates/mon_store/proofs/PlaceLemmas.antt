-- Which owner stands at a place of the owners of new tables.
use Rattle.std.proofs.Common.{◌≡◌, ℕ, zero, suc, ◌+◌, ◌-◌, ◌<◌, ◌≤◌, nat_lt, Bool, true, false, List, [], ◌∷◌, ◌++◌}
use Rattle.std.proofs.Common.{length, map, take, drop, refl, sym, ap, ◌∙◌, arith, slice_get, get_or, Some}
use Rattle.std.proofs.lemmas.Bool.Decides.{nat_tests}
use Rattle.std.proofs.lemmas.List.{length-append, length-map}
use Rattle.std.proofs.lemmas.Option.{get_or_from_slice_get, slice_get_within}
use Rattle.history_book.specs.declared.views.History.TheVariants as of
use Rattle.history_book.specs.Histories.{histories_in, history_numbered, numbered_as, numbers_on}
use Rattle.history_book.specs.Seats as book
use Rattle.know.specs.Sound.{bit_of_leaf}
use Rattle.mon_topo.proofs.PartLemmas.{part_at, zone_of_part}
use Rattle.mon_topo.specs.Settings.{Setting, zone_of_leaf}
use Rattle.mon_topo.specs.Sizes.{AreWithinLimits}
use Rattle.mon_topo.specs.Zones.{first_leaf, leaf_counts, leaf_zones, leaves_in, no_zone, zone_at}
use Rattle.mon_topo.specs.declared.zones.ZoneSpec.{ZoneSpec}
use Rattle.mon_value.specs.Histories.{leaf_numbered, range_numbered, zone_numbered}
use Rattle.mon_value.specs.declared.positions.Leaf.{Leaf}
use Rattle.mon_value.specs.declared.positions.Zone.{Zone}
use Rattle.raise_table.specs.Places as places
use Rattle.raise_table.specs.Places.{zone_leaf}
use Rattle.raise_table.specs.Seats as hints
use Rattle.raise_table.specs.Tables.{AreFew}
use Rattle.raise_table.specs.declared.places.ZoneLeaf.{ZoneLeaf}

-- ---- items

module _ {X : Type 0} where
  get_front : (xs ys : List X) (k : ℕ) (x : X) → slice_get xs k ≡ Some x → slice_get (xs ++ ys) k ≡ Some x
  get_front [] ys k x is = let l = slice_get_within [] k x is in absurd (omega (arith, l))
  get_front (y ∷ xs) ys zero x is = is
  get_front (y ∷ xs) ys (suc k) x is = get_front xs ys k x is

  get_behind : (xs ys : List X) (n k : ℕ) → n ≡ length xs + k → slice_get (xs ++ ys) n ≡ slice_get ys k
  get_behind [] ys n k is = let same : n ≡ k = omega (arith, is) in ap (slice_get ys) same
  get_behind (x ∷ xs) ys zero k is = absurd (omega (arith, is))
  get_behind (x ∷ xs) ys (suc n) k is = get_behind xs ys n k (omega (arith, is))

  -- the item in front of what is left
  pub at_front : (x : X) (xs ys : List X) (k : ℕ) → drop k xs ≡ x ∷ ys → slice_get xs k ≡ Some x
  at_front x [] ys zero e = absurd cc
  at_front x (first ∷ xs) ys zero e = ap (λ (l : List _). slice_get l 0) e
  at_front x [] ys (suc k) e = absurd cc
  at_front x (first ∷ xs) ys (suc k) e = at_front x xs ys k e

  pub drop_next : (x : X) (xs ys : List X) (k : ℕ) → drop k xs ≡ x ∷ ys → drop (suc k) xs ≡ ys
  drop_next x [] ys zero e = absurd cc
  drop_next x (first ∷ xs) ys zero e = ap (λ (l : List _). drop 1 l) e
  drop_next x [] ys (suc k) e = absurd cc
  drop_next x (first ∷ xs) ys (suc k) e = drop_next x xs ys k e

  pub first_left : (xs : List X) (k : ℕ) → slice_get (drop k xs) 0 ≡ slice_get xs k
  first_left [] zero = refl
  first_left [] (suc k) = refl
  first_left (x ∷ xs) zero = refl
  first_left (x ∷ xs) (suc k) = first_left xs k

  pub drop_one : (k : ℕ) (xs : List X) → drop 1 (drop k xs) ≡ drop (suc k) xs
  drop_one zero xs = refl
  drop_one (suc k) [] = refl
  drop_one (suc k) (x ∷ xs) = drop_one k xs

  pub some_same : (a b : X) → Some a ≡ Some b → a ≡ b
  some_same a b e = cc

get_map : {X Y : Type 0} (f : X → Y) (xs : List X) (k : ℕ) (x : X) → slice_get xs k ≡ Some x
    → slice_get (map f xs) k ≡ Some (f x)
get_map f [] k x is = let l = slice_get_within [] k x is in absurd (omega (arith, l))
get_map f (y ∷ xs) zero x is = let same : y ≡ x = some_same y x is in ap (λ z. Some (f z)) same
get_map f (y ∷ xs) (suc k) x is = get_map f xs k x is

-- ---- leaves of zones

zone_count : (zone count : ℕ) → length (places.leaves_of_zone zone count) ≡ count
zone_count zone zero = refl
zone_count zone (suc count) =
    let rest = zone_count zone count in
    length-append (places.leaves_of_zone zone count) (zone_leaf zone count ∷ []) ∙ omega (arith, rest)

leaf_in_by : (zone count j : ℕ) (b : Bool) → nat_lt j count ≡ b → j < suc count
    → (j < count → slice_get (places.leaves_of_zone zone count) j ≡ Some (zone_leaf zone j))
    → slice_get (places.leaves_of_zone zone count ++ zone_leaf zone count ∷ []) j ≡ Some (zone_leaf zone j)
leaf_in_by zone count j true is within before =
    let low : j < count = grind (arith, nat_tests) in
    get_front (places.leaves_of_zone zone count) (zone_leaf zone count ∷ []) j (zone_leaf zone j) (before low)
leaf_in_by zone count j false is within before =
    let last : count ≤ j = grind (arith, nat_tests) in
    let same : count ≡ j = omega (arith, last, within) in
    let many = zone_count zone count in
    get_behind (places.leaves_of_zone zone count) (zone_leaf zone count ∷ []) j 0 (omega (arith, many, same))
    ∙ ap (λ k. Some (zone_leaf zone k)) same

leaf_in_zone : (zone count j : ℕ) → j < count → slice_get (places.leaves_of_zone zone count) j ≡ Some (zone_leaf zone j)
leaf_in_zone zone zero j within = absurd (omega (arith, within))
leaf_in_zone zone (suc count) j within =
    leaf_in_by zone count j (nat_lt j count) refl within (leaf_in_zone zone count j)

leaf_at : (zones : List ZoneSpec) (first i j n : ℕ) → i < length zones → j < length (zone_at zones i).leaves
    → n ≡ length (leaves_in (take i zones)) + j
    → slice_get (places.leaves_from first (leaf_counts zones)) n ≡ Some (zone_leaf (first + i) j)
leaf_at [] first i j n there within is = absurd (omega (arith, there))
leaf_at (zone ∷ zones) first zero j n there within is =
    let same : n ≡ j = omega (arith, is) in
    let number : first ≡ first + 0 = omega arith in
    ap (slice_get (places.leaves_from first (leaf_counts (zone ∷ zones)))) same
    ∙ get_front (places.leaves_of_zone first (length zone.leaves))
    (places.leaves_from (first + 1) (leaf_counts zones)) j
    (zone_leaf first j) (leaf_in_zone first (length zone.leaves) j within)
    ∙ ap (λ k. Some (zone_leaf k j)) number
leaf_at (zone ∷ zones) first (suc i) j n there within is =
    let many = zone_count first (length zone.leaves) in
    let both = length-append zone.leaves (leaves_in (take i zones)) in
    let number : (first + 1) + i ≡ first + suc i = omega arith in
    get_behind (places.leaves_of_zone first (length zone.leaves)) (places.leaves_from (first + 1) (leaf_counts zones)) n
    (length (leaves_in (take i zones)) + j) (omega (arith, many, both, is))
    ∙ leaf_at zones (first + 1) i j (length (leaves_in (take i zones)) + j) (omega (arith, there)) within refl
    ∙ ap (λ k. Some (zone_leaf k j)) number

pub length-places : (zones : List ZoneSpec) (first : ℕ)
    → length (places.leaves_from first (leaf_counts zones)) ≡ length (leaves_in zones)
length-places [] first = refl
length-places (zone ∷ zones) first =
    let many = zone_count first (length zone.leaves) in
    let rest = length-places zones (first + 1) in
    length-append (places.leaves_of_zone first (length zone.leaves))
    (places.leaves_from (first + 1) (leaf_counts zones))
    ∙ omega (arith, many, rest)
    ∙ sym (length-append zone.leaves (leaves_in zones))

-- the owner at a leaf's place has that leaf's zone and bit
pub record IsBitsOf (setting : Setting) (leaf : Leaf) (owner : hints.Owner) : Type 0 where
  pub bits : ZoneLeaf
  pub is : owner ≡ hints.new_owner bits
  pub zone : bits.zone ≡ zone_of_leaf setting leaf
  pub child : bits.child ≡ bit_of_leaf setting leaf

module _ (setting : Setting) (counts : List ℕ) (sized : counts ≡ leaf_counts setting.zones) where
  pub bits_count : length (map hints.new_owner (places.leaves_in counts)) ≡ length (leaves_in setting.zones)
  bits_count = length-map (places.leaves_in counts) hints.new_owner
      ∙ ap (λ (c : List ℕ). length (places.leaves_in c)) sized ∙ length-places setting.zones 0

  pub bits_at : (leaf : Leaf) (owner : hints.Owner) → leaf.0 < length (leaves_in setting.zones)
      → slice_get (map hints.new_owner (places.leaves_in counts)) leaf.0 ≡ Some owner → IsBitsOf setting leaf owner
  bits_at leaf owner here stands =
      let zones = setting.zones in
      let part = part_at (λ (zone : ZoneSpec). zone.leaves) zones no_zone leaf.0 here in
      let number : 0 + part.i ≡ part.i = omega arith in
      let found : slice_get (map hints.new_owner (places.leaves_in counts)) leaf.0
      ≡ Some (hints.new_owner (zone_leaf (0 + part.i) part.j)) =
      ap (λ (c : List ℕ). slice_get (map hints.new_owner (places.leaves_in c)) leaf.0) sized
      ∙ get_map hints.new_owner (places.leaves_in (leaf_counts zones)) leaf.0 (zone_leaf (0 + part.i) part.j)
      (leaf_at zones 0 part.i part.j leaf.0 part.there part.within part.is) in
      let zone : zone_of_leaf setting leaf ≡ zone_numbered part.i =
      get_or_from_slice_get (leaf_zones zones) leaf.0 (zone_numbered part.i) (zone_numbered 0)
      (ap (slice_get (leaf_zones zones)) part.is
      ∙ zone_of_part (λ (zone : ZoneSpec). zone.leaves) 0 zones part.i part.j part.there part.within
      ∙ ap (λ (k : ℕ). Some (zone_numbered k)) number) in
      let before : first_leaf zones (zone_of_leaf setting leaf).0 ≡ first_leaf zones part.i =
      ap (λ (z : Zone). first_leaf zones z.0) zone in
      let place : leaf.0 ≡ first_leaf zones part.i + part.j = part.is in
      record {
        bits = zone_leaf (0 + part.i) part.j;
        is = sym (some_same (hints.new_owner (zone_leaf (0 + part.i) part.j)) owner (sym found ∙ stands));
        zone = ap zone_numbered number ∙ sym zone;
        child = omega (arith, before, place);
      }

-- ---- histories

number_at : (first count k : ℕ) → k < count → slice_get (numbers_on first count) k ≡ Some (first + k)
number_at first zero k within = absurd (omega (arith, within))
number_at first (suc count) zero within = let same : first ≡ first + 0 = omega arith in ap (λ n. Some n) same
number_at first (suc count) (suc k) within =
    let same : (first + 1) + k ≡ first + suc k = omega arith in
    number_at (first + 1) count k (omega (arith, within)) ∙ ap (λ n. Some n) same

length-numbers : (first count : ℕ) → length (numbers_on first count) ≡ count
length-numbers first zero = refl
length-numbers first (suc count) = ap suc (length-numbers (first + 1) count)

module _ (leaves ranges : ℕ) where
  abbrev owners : List book.Owner
  owners = map (book.new_owner leaves ranges) (histories_in leaves ranges)

  pub owners_count : length owners ≡ leaves + ranges
  owners_count =
      length-map (histories_in leaves ranges) (book.new_owner leaves ranges)
      ∙ length-map (numbers_on 0 (leaves + ranges)) (history_numbered leaves) ∙ length-numbers 0 (leaves + ranges)

  owner_at : (k : ℕ) → k < leaves + ranges
      → slice_get owners k ≡ Some (book.new_owner leaves ranges (history_numbered leaves k))
  owner_at k within =
      let number : 0 + k ≡ k = omega arith in
      get_map (book.new_owner leaves ranges) (histories_in leaves ranges) k (history_numbered leaves k)
      (get_map (history_numbered leaves) (numbers_on 0 (leaves + ranges)) k k
      (number_at 0 (leaves + ranges) k within ∙ ap (λ n. Some n) number))

  pub leaf_owner_at : (k : ℕ) (owner : book.Owner) → k < leaves → slice_get owners k ≡ Some owner
      → owner ≡ book.new_owner leaves ranges (of.Leaf (leaf_numbered k))
  leaf_owner_at k owner within stands =
      let low : nat_lt k leaves ≡ true = grind (arith, nat_tests) in
      sym (some_same (book.new_owner leaves ranges (history_numbered leaves k)) owner
      (sym (owner_at k (omega (arith, within))) ∙ stands))
      ∙ ap (λ b. book.new_owner leaves ranges (numbered_as b leaves k)) low

  pub range_owner_at : (k : ℕ) → k < ranges
      → slice_get owners (leaves + k) ≡ Some (book.new_owner leaves ranges (of.Range (range_numbered k)))
  range_owner_at k within =
      let high : nat_lt (leaves + k) leaves ≡ false = grind (arith, nat_tests) in
      let number : (leaves + k) - leaves ≡ k = omega arith in
      owner_at (leaves + k) (omega (arith, within))
      ∙ ap (λ b. Some (book.new_owner leaves ranges (numbered_as b leaves (leaves + k)))) high
      ∙ ap (λ n. Some (book.new_owner leaves ranges (of.Range (range_numbered n)))) number

-- ---- how many there are

count_at : (zones : List ZoneSpec) (k d : ℕ) → k < length zones
    → get_or (leaf_counts zones) k d ≡ length (zone_at zones k).leaves
count_at [] k d within = absurd (omega (arith, within))
count_at (zone ∷ zones) zero d within = refl
count_at (zone ∷ zones) (suc k) d within = count_at zones k d (omega (arith, within))

pub few_counts : (zones : List ZoneSpec) → AreWithinLimits zones → AreFew (leaf_counts zones)
few_counts zones few =
    let many : length (leaf_counts zones) ≡ length zones = length-map zones (λ (zone : ZoneSpec). length zone.leaves) in
    let all : length zones ≤ 32 = few.zones_few in (
      omega (arith, many, all),
      (λ k d within.
          let there : k < length zones = omega (arith, many, within) in
          let most : length (zone_at zones k).leaves ≤ 32 = few.each k there in
          let count = count_at zones k d there in
          omega (arith, most, count)),
    )
