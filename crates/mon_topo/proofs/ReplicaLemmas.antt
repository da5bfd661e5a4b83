-- The leaves that a range names are one to three of its zone, each once.
use Rattle.std.proofs.lemmas.Bool.{or_parts}
use Rattle.std.proofs.Common.{◌≡◌, ◌∙◌, ℕ, zero, suc, ◌+◌, ◌<◌, ◌≤◌, Bool, true, false, ◌||◌, ◌&&◌, List, [], ◌∷◌}
use Rattle.std.proofs.Common.{Option, Some, None, cond, get_or, leb, length, length-append, nat_eq, not, refl, ap}
use Rattle.std.proofs.Common.{slice_get, subst, sym, take, arith}
use Rattle.std.specs.List.{cons_option, list_any, position_from, AllByRecursion, IsDistinct}
use Rattle.std.specs.Option.{option_map, option_or}
use Rattle.std.proofs.lemmas.Bool.Decides.{nat_tests}
use Rattle.std.proofs.lemmas.List.Folds.{list_any-append}
use Rattle.mon_value.specs.Same.{same_text}
use Rattle.mon_value.specs.declared.positions.Leaf.{Leaf}
use Rattle.mon_value.specs.declared.positions.Range.{Range}
use Rattle.mon_value.proofs.SameLemmas.{same_text-Decides}
use Rattle.mon_schema.specs.Faults.{texts_repeat}
use Rattle.mon_topo.proofs.FindsLemmas.{position_from-append}
use Rattle.mon_topo.proofs.PartLemmas.{length-zones_of, part_at, zone_of_part, IsPart}
use Rattle.mon_topo.proofs.PlaceLemmas.{neither, none_at, passed}
use Rattle.mon_topo.proofs.PositionLemmas.{position_found, position_there}
use Rattle.mon_topo.proofs.SizeLemmas.{parts_so_far}
use Rattle.mon_topo.specs.Faults.{are_replicas, bad_replicas_in_range, bad_replicas_in_zone, no_leaf_at}
use Rattle.mon_topo.specs.Faults.{no_leaf_in_range, no_leaf_in_zone, repeat_behind, repeat_in, repeated_at, stood}
use Rattle.mon_topo.specs.Faults.{AreLawfulZones, first_at, place_unless}
use Rattle.mon_topo.specs.RangeHistories.{IsInZoneOf}
use Rattle.mon_topo.specs.Replicas.{HasReplicas}
use Rattle.mon_value.specs.Histories.{leaf_numbered, range_numbered, same_leaf}
use Rattle.mon_topo.specs.Zones.{first_replicas, leaves_in, leaves_named, locations_in, no_range}
use Rattle.mon_topo.specs.Zones.{no_zone, ranges_in, zone_names_in}
use Rattle.mon_topo.specs.declared.places.Place.{Place}
use Rattle.mon_topo.specs.declared.places.Place.TheVariants as place
use Rattle.mon_topo.specs.declared.zones.RangeSpec.{RangeSpec}
use Rattle.mon_topo.specs.declared.zones.ZoneSpec.{ZoneSpec}

-- ---- what lawful zones say of the leaves of a range

each_known : (zone : ZoneSpec) (i j k : ℕ) (leaves : List (List ℕ)) → first_at (no_leaf_at zone i j) k leaves ≡ None
    → AllByRecursion (λ leaf. list_any (same_text leaf) zone.leaves ≡ true) leaves
each_known zone i j k [] e = tt
each_known zone i j k (leaf ∷ leaves) e =
    let both = passed (list_any (same_text leaf) zone.leaves) (place.Replica i j k) (first_at (no_leaf_at zone i j)
    (k + 1) leaves) e in
    (both.0, each_known zone i j (k + 1) leaves both.1)

front_false : (a b : Bool) → not (a || b) ≡ true → a ≡ false
front_false true b e = absurd (cc)
front_false false b e = refl

-- none of a zone's leaves stood before it
each_new : (place_of : ℕ → Place) (before all : List (List ℕ)) (k : ℕ) (texts : List (List ℕ))
    → first_at (repeated_at place_of before all) k texts ≡ None
    → AllByRecursion (λ text. list_any (same_text text) before ≡ false) texts
each_new place_of before all k [] e = tt
each_new place_of before all k (text ∷ texts) e =
    let both = passed (not (stood before all k text)) (place_of k) (first_at (repeated_at place_of before all) (k + 1)
    texts) e in (
      front_false (list_any (same_text text) before) (list_any (same_text text) (take k all))
          (ap not (sym (list_any-append (same_text text) before (take k all))) ∙ both.0),
      each_new place_of before all (k + 1) texts both.1,
    )

one_holds : (P : List ℕ → Type 0) (name text : List ℕ) (rest : Bool) (b : Bool) → same_text name text ≡ b → P text
    → (rest ≡ true → P name) → (b || rest) ≡ true → P name
one_holds P name text rest true is here later e = subst P (sym ((same_text-Decides name text).0 is)) here
one_holds P name text rest false is here later e = later e

-- what holds of each text holds of one that is among them
holds_of : (P : List ℕ → Type 0) (name : List ℕ) (texts : List (List ℕ)) → AllByRecursion P texts
    → list_any (same_text name) texts ≡ true → P name
holds_of P name [] all e = absurd (cc)
holds_of P name (text ∷ texts) all e =
    one_holds P name text (list_any (same_text name) texts) (same_text name text) refl all.0
    (holds_of P name texts all.1) e

-- ---- a leaf of a zone is found in it, where its name didn't stand before

nowhere : (test : List ℕ → Bool) (n : ℕ) (texts : List (List ℕ)) → list_any test texts ≡ false → position_from test n
    texts ≡ None
nowhere test n [] e = refl
nowhere test n (text ∷ texts) e =
    let both = or_parts (test text) (list_any test texts) e in
    ap (λ b. cond b (Some n) (position_from test (n + 1) texts)) both.0 ∙ nowhere test (n + 1) texts both.1

record IsLeafOf (zones : List ZoneSpec) (n i : ℕ) (name : List ℕ) : Type 0 where
  pub place : ℕ
  pub there : place < length (get_or zones i no_zone).leaves
  pub found : position_from (same_text name) n (leaves_in zones)
      ≡ Some (n + (length (leaves_in (take i zones)) + place))

leaf_of : (zones : List ZoneSpec) (n i : ℕ) (name : List ℕ) → i < length zones
    → list_any (same_text name) (leaves_in (take i zones)) ≡ false
    → list_any (same_text name) (get_or zones i no_zone).leaves ≡ true → IsLeafOf zones n i name
leaf_of [] n i name there new known = absurd (omega arith)
leaf_of (zone ∷ zones) n zero name there new known =
    let own = position_there (same_text name) n zone.leaves known in
    let behind : Option ℕ = position_from (same_text name) (n + length zone.leaves) (leaves_in zones) in
    record {
      place = own.place;
      there = own.there;
      found =
          position_from-append (same_text name) n zone.leaves (leaves_in zones)
          ∙ ap (λ o. option_or o behind) own.found ∙ ap Some (omega arith);
    }
leaf_of (zone ∷ zones) n (suc i) name there new known =
    let before = leaves_in (take i zones) in
    let apart = or_parts (list_any (same_text name) zone.leaves) (list_any (same_text name) before)
    (sym (list_any-append (same_text name) zone.leaves before) ∙ new) in
    let later = leaf_of zones (n + length zone.leaves) i name (omega arith) apart.1 known in
    let behind : Option ℕ = position_from (same_text name) (n + length zone.leaves) (leaves_in zones) in
    record {
      place = later.place;
      there = later.there;
      found =
          position_from-append (same_text name) n zone.leaves (leaves_in zones)
          ∙ ap (λ o. option_or o behind) (nowhere (same_text name) n zone.leaves apart.0)
          ∙ later.found ∙ ap Some (omega (arith, length-append zone.leaves before));
    }

-- ---- the leaves of names

-- a name is that of a leaf in the zone of a range
record IsNamed (zones : List ZoneSpec) (range : Range) (name : List ℕ) : Type 0 where
  pub place : ℕ
  pub found : position_from (same_text name) 0 (leaves_in zones) ≡ Some place
  pub zoned : IsInZoneOf zones range (leaf_numbered place)

named : (zones : List ZoneSpec) (r : ℕ) (name : List ℕ) (part : IsPart (λ (zone : ZoneSpec). zone.ranges) zones no_zone
    r)
    → list_any (same_text name) (leaves_in (take part.i zones)) ≡ false
    → list_any (same_text name) (get_or zones part.i no_zone).leaves ≡ true → IsNamed zones (range_numbered r) name
named zones r name part new known =
    let leaf = leaf_of zones 0 part.i name part.there new known in
    let leaves = λ (zone : ZoneSpec). zone.leaves in
    let ranges = λ (zone : ZoneSpec). zone.ranges in
    record {
      place = length (leaves_in (take part.i zones)) + leaf.place;
      found = leaf.found ∙ ap Some (omega arith);
      zoned = (
        omega (arith, leaf.there, length-zones_of leaves 0 zones, parts_so_far leaves zones part.i no_zone part.there),
        omega (
          arith,
          part.is,
          part.within,
          length-zones_of ranges 0 zones,
          parts_so_far ranges zones part.i no_zone
              part.there,
        ),
        zone_of_part leaves 0 zones part.i leaf.place part.there leaf.there
            ∙ sym (zone_of_part ranges 0 zones part.i part.j part.there part.within)
            ∙ ap (slice_get _) (sym part.is),
      );
    }

-- one leaf has one name
same_name : (zones : List ZoneSpec) (range : Range) (a b : List ℕ) (p : IsNamed zones range a)
    (q : IsNamed zones range b)
    → p.place ≡ q.place → a ≡ b
same_name zones range a b p q same =
    let leaves = leaves_in zones in
    let first = position_found (same_text a) 0 leaves p.place p.found in
    let second = position_found (same_text b) 0 leaves q.place q.found in
    let at : first.place ≡ second.place = omega (arith, same, first.is, second.is) in
    (same_text-Decides a (get_or leaves first.place [])).0 (first.passes [])
    ∙ ap (λ n. get_or leaves n []) at
    ∙ sym ((same_text-Decides b (get_or leaves second.place [])).0 (second.passes []))

-- leaves of names that differ are apart
apart : (zones : List ZoneSpec) (range : Range) (a b : List ℕ) (p : IsNamed zones range a) (q : IsNamed zones range b)
    → same_text a b ≡ false → nat_eq p.place q.place ≡ false
apart zones range a b p q differ = by (nat_eq p.place q.place) refl
  where
    by : (c : Bool) → nat_eq p.place q.place ≡ c → c ≡ false
    by false is = refl
    by true is =
        let same : p.place ≡ q.place = grind (arith, nat_tests) in
        let yes : same_text a b ≡ true = (same_text-Decides a b).1 (same_name zones range a b p q same) in
        absurd (cc)

apart_from : (zones : List ZoneSpec) (range : Range) (name : List ℕ) (p : IsNamed zones range name)
    (names : List (List ℕ))
    → AllByRecursion (IsNamed zones range) names → list_any (same_text name) names ≡ false
    → AllByRecursion (λ leaf. same_leaf (leaf_numbered p.place) leaf ≡ false) (leaves_named zones names)
apart_from zones range name p [] all e = tt
apart_from zones range name p (other ∷ names) all e =
    let both = or_parts (same_text name other) (list_any (same_text name) names) e in
    let q = all.0 in
    subst
    (λ (o : Option ℕ). AllByRecursion (λ leaf. same_leaf (leaf_numbered p.place) leaf ≡ false)
    (cons_option (option_map leaf_numbered o) (leaves_named zones names)))
    (sym q.found)
    (apart zones range name other p q both.0, apart_from zones range name p names all.1 both.1)

record AreLeavesOf (zones : List ZoneSpec) (range : Range) (names : List (List ℕ)) (leaves : List Leaf) : Type 0 where
  pub long : length leaves ≡ length names
  pub zoned : AllByRecursion (IsInZoneOf zones range) leaves
  pub distinct : texts_repeat names ≡ false → IsDistinct same_leaf leaves

none_twice : IsDistinct same_leaf []
unfolding IsDistinct
none_twice = tt

one_more : (leaf : Leaf) (leaves : List Leaf) → AllByRecursion (λ other. same_leaf leaf other ≡ false) leaves
    → IsDistinct same_leaf leaves → IsDistinct same_leaf (leaf ∷ leaves)
unfolding IsDistinct
one_more leaf leaves new rest = (new, rest)

leaves_of : (zones : List ZoneSpec) (range : Range) (names : List (List ℕ)) → AllByRecursion (IsNamed zones range) names
    → AreLeavesOf zones range names (leaves_named zones names)
leaves_of zones range [] all = record { long = refl; zoned = tt; distinct = λ e. none_twice }
leaves_of zones range (name ∷ names) all =
    let rest = leaves_of zones range names all.1 in
    let p = all.0 in
    subst (λ (o : Option ℕ). AreLeavesOf zones range (name ∷ names) (cons_option (option_map leaf_numbered o)
    (leaves_named zones names))) (sym p.found)
    (record {
      long = ap (λ n. suc n) rest.long;
      zoned = (p.zoned, rest.zoned);
      distinct = λ e.
          let both = or_parts (list_any (same_text name) names) (texts_repeat names) e in
          one_more (leaf_numbered p.place) (leaves_named zones names) (apart_from zones range name p names all.1
          both.0) (rest.distinct both.1);
    })

-- ---- the leaves that hold a range at first

good : (b : Bool) (p : Place) → place_unless b p ≡ None → b ≡ true
good true p e = refl
good false p e = absurd (cc)

all_three : (a b c : Bool) → ((a && b) && not c) ≡ true → (a ≡ true) × (b ≡ true) × (c ≡ false)
all_three true true false e = (refl, refl, refl)
all_three true true true e = absurd (cc)
all_three true false c e = absurd (cc)
all_three false b c e = absurd (cc)

record AreGood (leaves : List (List ℕ)) : Type 0 where
  pub some : 0 < length leaves
  pub few : length leaves ≤ 3
  pub apart : texts_repeat leaves ≡ false

are_good : (leaves : List (List ℕ)) → are_replicas leaves ≡ true → AreGood leaves
are_good leaves e =
    let each = all_three (leb 1 (length leaves)) (leb (length leaves) 3) (texts_repeat leaves) e in
    record { some = grind (arith, nat_tests); few = grind (arith, nat_tests); apart = each.2 }

each_named : (zones : List ZoneSpec) (r : ℕ) (part : IsPart (λ (zone : ZoneSpec). zone.ranges) zones no_zone r)
    (names : List (List ℕ))
    → AllByRecursion (λ text. list_any (same_text text) (leaves_in (take part.i zones)) ≡ false)
    (get_or zones part.i no_zone).leaves
    → AllByRecursion (λ leaf. list_any (same_text leaf) (get_or zones part.i no_zone).leaves ≡ true) names
    → AllByRecursion (IsNamed zones (range_numbered r)) names
each_named zones r part [] new known = tt
each_named zones r part (name ∷ names) new known =
    let zone = get_or zones part.i no_zone in
    let fresh = holds_of (λ text. list_any (same_text text) (leaves_in (take part.i zones)) ≡ false) name zone.leaves
    new known.0 in
    (named zones r name part fresh known.0, each_named zones r part names new known.1)

pub has_replicas : (zones : List ZoneSpec) → AreLawfulZones zones → (r : ℕ) → r < length (ranges_in zones)
    → HasReplicas zones (range_numbered r)
has_replicas zones lawful r there =
    let part = part_at (λ (zone : ZoneSpec). zone.ranges) zones no_zone r there in
    let i = part.i in
    let j = part.j in
    let zone : ZoneSpec = get_or zones i no_zone in
    let range : RangeSpec = get_or zone.ranges j no_range in
    let is : get_or (ranges_in zones) r no_range ≡ range = part.item no_range in
    let known = each_known zone i j 0 range.leaves (none_at (no_leaf_in_range zone i) zone.ranges
    (none_at no_leaf_in_zone zones lawful.known i no_zone part.there) j no_range part.within) in
    let replicas = are_good range.leaves (good (are_replicas range.leaves) (place.Replicas i j)
    (none_at (bad_replicas_in_range i) zone.ranges (none_at bad_replicas_in_zone zones lawful.replicated i no_zone
    part.there) j no_range part.within)) in
    let before = take i zones in
    let repeats = none_at (repeat_behind zones) zones lawful.apart i no_zone part.there in
    let by_name = place_unless (not (list_any (same_text zone.name) (zone_names_in before))) (place.ZoneName i) in
    let by_location = repeat_in (place.Location i) (locations_in before) zone.locations in
    let by_leaf = repeat_in (place.Leaf i) (leaves_in before) zone.leaves in
    let none = neither by_location by_leaf (neither by_name (option_or by_location by_leaf) repeats).1 in
    let new = each_new (place.Leaf i) (leaves_in before) zone.leaves 0 zone.leaves none.1 in
    let leaves = leaves_of zones (range_numbered r) range.leaves (each_named zones r part range.leaves new known) in
    let first : first_replicas zones r ≡ leaves_named zones range.leaves = ap (λ (spec : RangeSpec). leaves_named zones
    spec.leaves) is in
    record {
      some = omega (arith, replicas.some, leaves.long, ap length first);
      few = omega (arith, replicas.few, leaves.long, ap length first);
      distinct = subst (IsDistinct same_leaf) (sym first) (leaves.distinct replicas.apart);
      zoned = subst (AllByRecursion (IsInZoneOf zones (range_numbered r))) (sym first) leaves.zoned;
    }
