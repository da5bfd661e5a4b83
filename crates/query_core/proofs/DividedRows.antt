-- Rows of ranges, each on one leaf, divided into zones and leaves: leaves share no target, and zones no location.
use Rattle.std.proofs.Common.{◌≡◌, ◌∙◌, ◌||◌, ℕ, Bool, true, false, cond, Option, Some, None, List, [], ◌∷◌}
use Rattle.std.proofs.Common.{◌++◌, map, nat_eq, slice_get, refl, sym, ap, subst, append-nil, arith}
use Rattle.std.specs.List.{AllByRecursion, filter, flat_map, list_any}
use Rattle.std.specs.Option.{option_map_or}
use Rattle.std.proofs.lemmas.Bool.{or_parts}
use Rattle.std.proofs.lemmas.Bool.Decides.{nat_tests}
use Rattle.std.proofs.lemmas.List.{map-append}
use Rattle.std.proofs.lemmas.List.Concat.{flat_map-append}
use Rattle.std.proofs.lemmas.List.Elements.{filter-append}
use Rattle.mon_value.proofs.SameLemmas.{same_series-Decides, same_text-Decides}
use Rattle.mon_value.specs.Same.{same_series, same_text}
use Rattle.mon_value.specs.LeafHistories.{points_of, rows_of}
use Rattle.mon_value.specs.declared.positions.Leaf.{Leaf}
use Rattle.mon_value.specs.declared.positions.Range.{Range}
use Rattle.mon_value.specs.declared.positions.Zone.{Zone}
use Rattle.mon_value.specs.declared.rows.Point.{Point}
use Rattle.mon_value.specs.declared.rows.Row.{Row}
use Rattle.mon_value.specs.declared.rows.SeriesKey.{SeriesKey}
use Rattle.mon_schema.specs.Fits.{fits}
use Rattle.mon_schema.specs.Names.{SchemaLists}
use Rattle.mon_topo.specs.HeldHistories.{IsAtHome}
use Rattle.mon_topo.specs.Locations.{location_of, range_for}
use Rattle.mon_topo.specs.RangeHistories.{IsInZoneOf}
use Rattle.mon_value.specs.Histories.{same_leaf, zone_numbered}
use Rattle.mon_topo.specs.Zones.{leaf_zones, zone_of}
use Rattle.mon_topo.specs.declared.zones.ZoneSpec.{ZoneSpec}
use Rattle.mixer.proofs.ApartTargets as apart_targets
use Rattle.mixer.specs.Divisions.{ShareNoLocation, all_rows, has_location}
use Rattle.mon_meaning.specs.ReadableSlots.{AreApart, ShareNoTarget}
use Rattle.mixer.specs.Divisions.{together}
use Rattle.typed_rows.proofs.JoinedRows.{all-map}
use Rattle.typed_rows.proofs.KeptRows.{all-filter}
use Rattle.query_traces.specs.declared.answers.Resolved.{Resolved}
use Rattle.mon_topo.proofs.PlacedRangeLemmas.{is_placed}
use Rattle.query_traces.proofs.LeafLemmas.{same_leaves}
use Rattle.mon_value.proofs.PlainLemmas.{equal_itself, all_append}

-- ---- ranges, each of which stands once

abbrev pub IsOther : Resolved → Resolved → Type 0
IsOther one other = nat_eq one.range.0 other.range.0 ≡ false

abbrev pub AreOthers : List Resolved → Type 0
AreOthers [] = Unit {0}
AreOthers (one ∷ rest) = AllByRecursion (IsOther one) rest × AreOthers rest

-- the leaf that a range resolved to
abbrev pub leaf_for : List Resolved → Range → Option Leaf
leaf_for [] range = None
leaf_for (one ∷ rest) range = cond (nat_eq one.range.0 range.0) (Some one.leaf) (leaf_for rest range)

later : (one other : Resolved) (rest : List Resolved) → IsOther one other → leaf_for rest other.range ≡ Some other.leaf
    → leaf_for (one ∷ rest) other.range ≡ Some other.leaf
later one other rest apart found = ap (λ b. cond b (Some one.leaf) (leaf_for rest other.range)) apart ∙ found

all_later : (one : Resolved) (rest some : List Resolved) → AllByRecursion (IsOther one) some
    → AllByRecursion (λ other. leaf_for rest other.range ≡ Some other.leaf) some
    → AllByRecursion (λ other. leaf_for (one ∷ rest) other.range ≡ Some other.leaf) some
all_later one rest [] apart found = tt
all_later one rest (other ∷ some) apart found =
    (later one other rest apart.0 found.0, all_later one rest some apart.1 found.1)

-- each is found
pub found : (resolved : List Resolved) → AreOthers resolved
    → AllByRecursion (λ one. leaf_for resolved one.range ≡ Some one.leaf) resolved
found [] apart = tt
found (one ∷ rest) apart = (
  ap (λ b. cond b (Some one.leaf) (leaf_for rest one.range)) (equal_itself one.range.0),
  all_later one rest rest apart.0 (found rest apart.1),
)

-- ---- lists

pub all_together : (P : Row → Type 0) (lists : List (List Row)) → AllByRecursion (AllByRecursion P) lists
    → AllByRecursion P (together lists)
all_together P [] all = tt
all_together P (rows ∷ lists) all = all_append P rows (together lists) all.0 (all_together P lists all.1)

pub all_both : {A : Type 0} (P Q R : A → Type 0) (xs : List A) → ((x : A) → P x → Q x → R x) → AllByRecursion P xs
    → AllByRecursion Q xs → AllByRecursion R xs
all_both P Q R [] f p q = tt
all_both P Q R (x ∷ xs) f p q = (f x p.0 q.0, all_both P Q R xs f p.1 q.1)

pub all_mapped : {A B : Type 0} (P : B → Type 0) (f : A → B) (xs : List A) → AllByRecursion (λ x. P (f x)) xs
    → AllByRecursion P (map f xs)
all_mapped P f [] all = tt
all_mapped P f (x ∷ xs) all = (all.0, all_mapped P f xs all.1)

pub points_append : (key : SeriesKey) (xs ys : List Row) → points_of key (xs ++ ys) ≡ points_of key xs
    ++ points_of key ys
points_append key xs ys =
    ap (map (λ (row : Row). row.point)) (filter-append (λ (row : Row). same_series key row.key) xs ys)
    ∙ map-append (λ (row : Row). row.point) (rows_of key xs) (rows_of key ys)

pub points_flat : {A : Type 0} (key : SeriesKey) (f : A → List Row) (xs : List A)
    → points_of key (flat_map f xs) ≡ flat_map (λ x. points_of key (f x)) xs
points_flat key f [] = refl
points_flat key f (x ∷ xs) =
    points_append key (f x) (flat_map f xs) ∙ ap (λ rest. points_of key (f x) ++ rest) (points_flat key f xs)

-- ---- the rows of ranges that resolved, by leaves

-- a zone's number, and some of its leaves
abbrev pub SomeLeaves : Type 0
SomeLeaves = ℕ × List Leaf

abbrev pub AreOtherLeaves : List Leaf → Type 0
AreOtherLeaves [] = Unit {0}
AreOtherLeaves (leaf ∷ leaves) = (list_any (same_leaf leaf) leaves ≡ false) × AreOtherLeaves leaves

abbrev pub AreOtherZones : List SomeLeaves → Type 0
AreOtherZones [] = Unit {0}
AreOtherZones (some ∷ zones) = AllByRecursion (λ (other : SomeLeaves). nat_eq some.0 other.0 ≡ false) zones
    × AreOtherZones zones

-- leaves are those of their zones, each once
pub record AreLeavesOf (zones : List ZoneSpec) (chosen : List SomeLeaves) : Type 0 where
  pub zones_once : AreOtherZones chosen
  pub leaves_once : AllByRecursion (λ (some : SomeLeaves). AreOtherLeaves some.1) chosen
  pub zoned : AllByRecursion (λ (some : SomeLeaves).
      AllByRecursion (λ (leaf : Leaf). slice_get (leaf_zones zones) leaf.0 ≡ Some (zone_numbered some.0)) some.1) chosen

abbrev pub all_leaves : List SomeLeaves → List Leaf
all_leaves chosen = flat_map (λ (some : SomeLeaves). some.1) chosen

module _ (own : Resolved → List Row) (resolved : List Resolved) where
  -- the rows on a leaf, of a zone's leaves, and of all zones
  abbrev pub rows_at : Leaf → List Row
  rows_at leaf = flat_map own (filter (λ one. same_leaf one.leaf leaf) resolved)

  abbrev pub zone_rows : SomeLeaves → List (List Row)
  zone_rows some = map rows_at some.1

  abbrev pub divided_rows : List SomeLeaves → List (List (List Row))
  divided_rows chosen = map zone_rows chosen

-- the rows of each range lie in it, and each range is on one leaf of its zone
pub record AreResolvedIn (held : SchemaLists) (zones : List ZoneSpec) (own : Resolved → List Row)
    (resolved : List Resolved)
    : Type 0 where
  pub once : AreOthers resolved
  pub zoned : AllByRecursion (λ (one : Resolved). IsInZoneOf zones one.range one.leaf) resolved
  pub home : AllByRecursion (λ (one : Resolved). AllByRecursion (IsAtHome held zones one.range) (own one)) resolved

module _ (held : SchemaLists) (zones : List ZoneSpec) (own : Resolved → List Row) (resolved : List Resolved)
    (are : AreResolvedIn held zones own resolved) where
  -- where a row lies
  pub record LiesOn (leaf : Leaf) (row : Row) : Type 0 where
    pub fit : fits held row ≡ true
    pub range : Range
    pub at : range_for held zones row.key.target ≡ Some range
    pub first : leaf_for resolved range ≡ Some leaf
    pub zoned : IsInZoneOf zones range leaf

  lie_at : (leaf : Leaf) (one : Resolved) → leaf_for resolved one.range ≡ Some one.leaf → IsInZoneOf zones one.range
      one.leaf
      → AllByRecursion (IsAtHome held zones one.range) (own one) → same_leaf one.leaf leaf ≡ true
      → AllByRecursion (LiesOn leaf) (own one)
  lie_at leaf one first zoned home here =
      let is : one.leaf ≡ leaf = same_leaves one.leaf leaf here in
      all-map (IsAtHome held zones one.range) (LiesOn leaf) (own one)
      (λ row at. record {
        fit = at.0;
        range = one.range;
        at = at.1;
        first = first ∙ ap Some is;
        zoned = subst (IsInZoneOf zones one.range) is zoned;
      }) home

  lie_if : (leaf : Leaf) (one : Resolved) (rest : List Resolved) (b : Bool)
      → (b ≡ true → AllByRecursion (LiesOn leaf) (own one)) → AllByRecursion (LiesOn leaf) (flat_map own rest)
      → AllByRecursion (LiesOn leaf) (flat_map own (cond b (one ∷ rest) rest))
  lie_if leaf one rest true here more = all_append (LiesOn leaf) (own one) (flat_map own rest) (here refl) more
  lie_if leaf one rest false here more = more

  lie_among : (leaf : Leaf) (some : List Resolved) → AllByRecursion (λ one. leaf_for resolved one.range
      ≡ Some one.leaf) some
      → AllByRecursion (λ (one : Resolved). IsInZoneOf zones one.range one.leaf) some
      → AllByRecursion (λ (one : Resolved). AllByRecursion (IsAtHome held zones one.range) (own one)) some
      → AllByRecursion (LiesOn leaf) (flat_map own (filter (λ one. same_leaf one.leaf leaf) some))
  lie_among leaf [] first zoned home = tt
  lie_among leaf (one ∷ some) first zoned home =
      lie_if leaf one (filter (λ one. same_leaf one.leaf leaf) some) (same_leaf one.leaf leaf)
      (lie_at leaf one first.0 zoned.0 home.0) (lie_among leaf some first.1 zoned.1 home.1)

  pub lie_on : (leaf : Leaf) → AllByRecursion (LiesOn leaf) (rows_at own resolved leaf)
  lie_on leaf = lie_among leaf resolved (found resolved are.once) are.zoned are.home

  every : {A : Type 0} (P : A → Type 0) → ((x : A) → P x) → (xs : List A) → AllByRecursion P xs
  every P each [] = tt
  every P each (x ∷ xs) = (each x, every P each xs)

  -- the rows of a leaf fit
  pub fit_on : (leaf : Leaf) → AllByRecursion (λ row. fits held row ≡ true) (rows_at own resolved leaf)
  fit_on leaf = all-map (LiesOn leaf) (λ row. fits held row ≡ true) (rows_at own resolved leaf) (λ row lies. lies.fit)
      (lie_on leaf)

  pub fit_in_zone : (leaves : List Leaf)
      → AllByRecursion (λ row. fits held row ≡ true) (together (map (rows_at own resolved) leaves))
  fit_in_zone leaves =
      all_together (λ row. fits held row ≡ true) (map (rows_at own resolved) leaves)
      (all_mapped (AllByRecursion (λ row. fits held row ≡ true)) (rows_at own resolved) leaves (every _ fit_on leaves))

  pub fit_in_all : (chosen : List SomeLeaves)
      → AllByRecursion (λ row. fits held row ≡ true) (all_rows (divided_rows own resolved chosen))
  fit_in_all chosen =
      all_together (λ row. fits held row ≡ true) (map together (divided_rows own resolved chosen))
      (all_mapped (AllByRecursion (λ row. fits held row ≡ true)) together (divided_rows own resolved chosen)
      (all_mapped (λ lists. AllByRecursion (λ row. fits held row ≡ true) (together lists)) (zone_rows own resolved)
      chosen
      (every _ (λ (some : SomeLeaves). fit_in_zone some.1) chosen)))

  -- ---- leaves share no target

  module _ (leaf other_leaf : Leaf) (apart : same_leaf leaf other_leaf ≡ false) where
    one_leaf : (range : Range) → leaf_for resolved range ≡ Some leaf → leaf_for resolved range ≡ Some other_leaf → ⊥
    one_leaf range one two =
        let same : Some leaf ≡ Some other_leaf = sym one ∙ two in
        let is : leaf ≡ other_leaf = cc in
        let test : same_leaf leaf other_leaf ≡ true = ap (same_leaf leaf) (sym is) ∙ equal_itself leaf.0 in
        absurd cc

    lie_apart : (row other : Row) → other.key.target ≡ row.key.target → LiesOn leaf row → LiesOn other_leaf other
        → ⊥
    lie_apart row other alike here there =
        let both : Some there.range ≡ Some here.range = sym there.at ∙ ap (range_for held zones) alike ∙ here.at in
        let range : there.range ≡ here.range = cc in
        one_leaf here.range here.first (ap (leaf_for resolved) (sym range) ∙ there.first)

    no_targets : (rows others : List Row) → AllByRecursion (LiesOn leaf) rows → AllByRecursion (LiesOn other_leaf)
        others → ShareNoTarget rows others
    no_targets = apart_targets.no_targets (LiesOn leaf) (LiesOn other_leaf) lie_apart

  leaf_apart : (leaf : Leaf) (leaves : List Leaf) → list_any (same_leaf leaf) leaves ≡ false
      → AllByRecursion (ShareNoTarget (rows_at own resolved leaf)) (map (rows_at own resolved) leaves)
  leaf_apart leaf [] apart = tt
  leaf_apart leaf (other ∷ leaves) apart =
      let parts = or_parts (same_leaf leaf other) (list_any (same_leaf leaf) leaves) apart in (
        no_targets leaf other parts.0 (rows_at own resolved leaf) (rows_at own resolved other) (lie_on leaf)
            (lie_on other),
        leaf_apart leaf leaves parts.1,
      )

  pub leaves_apart : (leaves : List Leaf) → AreOtherLeaves leaves → AreApart ShareNoTarget
      (map (rows_at own resolved) leaves)
  leaves_apart [] once = tt
  leaves_apart (leaf ∷ leaves) once = (leaf_apart leaf leaves once.0, leaves_apart leaves once.1)

  -- ---- zones share no location

  record LiesIn (z : ℕ) (row : Row) : Type 0 where
    location : List ℕ
    at : location_of held row.key.target ≡ Some location
    lists : zone_of zones location ≡ Some (zone_numbered z)

  one_zone : (z y : ℕ) → Some (zone_numbered z) ≡ Some (zone_numbered y) → z ≡ y
  one_zone z y same = let is : zone_numbered z ≡ zone_numbered y = cc in ap (λ (zone : Zone). zone.0) is

  in_zone : (z : ℕ) (leaf : Leaf) → slice_get (leaf_zones zones) leaf.0 ≡ Some (zone_numbered z) → (row : Row)
      → LiesOn leaf row
      → LiesIn z row
  in_zone z leaf zone row lies =
      let placed = is_placed held zones row.key.target lies.range lies.at in
      let same : z ≡ placed.zone.0 = one_zone z placed.zone.0 (sym zone ∙ lies.zoned.2 ∙ placed.zoned) in
      record {
        location = placed.location;
        at = placed.at;
        lists = placed.lists ∙ ap (λ k. Some (zone_numbered k)) (sym same);
      }

  lie_in : (z : ℕ) (leaves : List Leaf)
      → AllByRecursion (λ (leaf : Leaf). slice_get (leaf_zones zones) leaf.0 ≡ Some (zone_numbered z)) leaves
      → AllByRecursion (LiesIn z) (together (map (rows_at own resolved) leaves))
  lie_in z leaves zoned =
      all_together (LiesIn z) (map (rows_at own resolved) leaves)
      (all_mapped (AllByRecursion (LiesIn z)) (rows_at own resolved) leaves
      (all-map (λ (leaf : Leaf). slice_get (leaf_zones zones) leaf.0 ≡ Some (zone_numbered z))
      (λ leaf. AllByRecursion (LiesIn z) (rows_at own resolved leaf)) leaves
      (λ leaf zone. all-map (LiesOn leaf) (LiesIn z) (rows_at own resolved leaf) (in_zone z leaf zone) (lie_on leaf))
      zoned))

  module _ (z y : ℕ) (apart : nat_eq z y ≡ false) where
    text_by : (location other : List ℕ) (b : Bool) → same_text location other ≡ b
        → zone_of zones location ≡ Some (zone_numbered z) → zone_of zones other ≡ Some (zone_numbered y) → b ≡ false
    text_by location other true same one two =
        let alike : location ≡ other = (same_text-Decides location other).0 same in
        let number : z ≡ y = one_zone z y (sym one ∙ ap (zone_of zones) alike ∙ two) in
        let test : nat_eq z y ≡ true = ap (nat_eq z) (sym number) ∙ equal_itself z in
        absurd cc
    text_by location other false same one two = refl

    no_location : (location : List ℕ) (others : List Row) → zone_of zones location ≡ Some (zone_numbered z)
        → AllByRecursion (LiesIn y) others → has_location held others location ≡ false
    no_location location [] one all = refl
    no_location location (other ∷ others) one all =
        ap (λ c. c || has_location held others location)
        (ap (λ o. option_map_or (same_text location) o false) all.0.at
        ∙ text_by location all.0.location (same_text location all.0.location) refl one all.0.lists)
        ∙ no_location location others one all.1

    no_locations : (rows others : List Row) → AllByRecursion (LiesIn z) rows → AllByRecursion (LiesIn y) others
        → ShareNoLocation held rows others
    no_locations [] others all more = tt
    no_locations (row ∷ rows) others all more = (
      ap (λ o. option_map_or (has_location held others) o false) all.0.at
          ∙ no_location all.0.location others all.0.lists more,
      no_locations rows others all.1 more,
    )

  abbrev in_its_zone : SomeLeaves → Type 0
  in_its_zone some =
      AllByRecursion (λ (leaf : Leaf). slice_get (leaf_zones zones) leaf.0 ≡ Some (zone_numbered some.0)) some.1

  zone_apart : (some : SomeLeaves) (chosen : List SomeLeaves) → in_its_zone some
      → AllByRecursion (λ (other : SomeLeaves). nat_eq some.0 other.0 ≡ false) chosen → AllByRecursion in_its_zone
      chosen
      → AllByRecursion (ShareNoLocation held (together (zone_rows own resolved some)))
      (map together (divided_rows own resolved chosen))
  zone_apart some [] zoned apart each = tt
  zone_apart some (other ∷ chosen) zoned apart each = (
    no_locations some.0 other.0 apart.0 (together (zone_rows own resolved some))
        (together (zone_rows own resolved other))
        (lie_in some.0 some.1 zoned) (lie_in other.0 other.1 each.0),
    zone_apart some chosen zoned apart.1 each.1,
  )

  zones_apart_by : (chosen : List SomeLeaves) → AreOtherZones chosen → AllByRecursion in_its_zone chosen
      → AreApart (ShareNoLocation held) (map together (divided_rows own resolved chosen))
  zones_apart_by [] once zoned = tt
  zones_apart_by (some ∷ chosen) once zoned =
      (zone_apart some chosen zoned.0 once.0 zoned.1, zones_apart_by chosen once.1 zoned.1)

  pub zones_apart : (chosen : List SomeLeaves) → AreLeavesOf zones chosen
      → AreApart (ShareNoLocation held) (map together (divided_rows own resolved chosen))
  zones_apart chosen of = zones_apart_by chosen of.zones_once of.zoned

  pub all_leaves_apart : (chosen : List SomeLeaves) → AreLeavesOf zones chosen
      → AllByRecursion (AreApart ShareNoTarget) (divided_rows own resolved chosen)
  all_leaves_apart chosen of =
      all_mapped (AreApart ShareNoTarget) (zone_rows own resolved) chosen
      (all-map (λ (some : SomeLeaves). AreOtherLeaves some.1)
      (λ some. AreApart ShareNoTarget (zone_rows own resolved some)) chosen (λ some once. leaves_apart some.1 once)
      of.leaves_once)

  -- ---- the points of a series

  module _ (key : SeriesKey) where
    abbrev points_at : Resolved → List Point
    points_at one = points_of key (own one)

    none_by : (range : Range) (row : Row) (rows : List Row) (b : Bool) → same_series key row.key ≡ b
        → (range_for held zones key.target ≡ Some range → ⊥) → range_for held zones row.key.target ≡ Some range
        → points_of key rows ≡ [] → points_of key (row ∷ rows) ≡ []
    none_by range row rows true same out at rest =
        let alike : key ≡ row.key = (same_series-Decides key row.key).0 same in
        absurd (out (ap (λ (k : SeriesKey). range_for held zones k.target) alike ∙ at))
    none_by range row rows false same out at rest =
        ap (λ d. map (λ (r : Row). r.point) (cond d (row ∷ rows_of key rows) (rows_of key rows))) same ∙ rest

    none_out : (range : Range) (rows : List Row) → (range_for held zones key.target ≡ Some range → ⊥)
        → AllByRecursion (IsAtHome held zones range) rows → points_of key rows ≡ []
    none_out range [] out all = refl
    none_out range (row ∷ rows) out all =
        none_by range row rows (same_series key row.key) refl out all.0.1 (none_out range rows out all.1)

    -- whether the series is one of a range's
    abbrev is_of : Option Range → Resolved → Bool
    is_of None one = false
    is_of (Some range) one = nat_eq one.range.0 range.0

    abbrev home : Option Range
    home = range_for held zones key.target

    other_range : (o : Option Range) (one : Resolved) → is_of o one ≡ false → o ≡ Some one.range → ⊥
    other_range None one out is = absurd cc
    other_range (Some range) one out is =
        let same : range ≡ one.range = cc in
        let test : nat_eq one.range.0 range.0 ≡ true =
        ap (λ (r : Range). nat_eq one.range.0 r.0) same ∙ equal_itself one.range.0 in
        absurd cc

    no_points : (one : Resolved) → is_of home one ≡ false → AllByRecursion (IsAtHome held zones one.range) (own one)
        → points_at one ≡ []
    no_points one out all = none_out one.range (own one) (other_range home one out) all

    others_by : (o : Option Range) (one other : Resolved) → is_of o one ≡ true → IsOther one other → is_of o other
        ≡ false
    others_by None one other is apart = absurd cc
    others_by (Some range) one other is apart =
        let here : nat_eq one.range.0 range.0 ≡ true = is in
        let differ : nat_eq one.range.0 other.range.0 ≡ false = apart in
        let goal : nat_eq other.range.0 range.0 ≡ false = grind (arith, nat_tests) in
        goal

    -- the leaves that have the points
    abbrev sifted : List Resolved → List Leaf → List Point
    sifted some leaves = flat_map (λ leaf. flat_map points_at (filter (λ one. same_leaf one.leaf leaf) some)) leaves

    empty_all : (some : List Resolved) → AllByRecursion (λ one. points_at one ≡ []) some → flat_map points_at some ≡ []
    empty_all [] all = refl
    empty_all (one ∷ some) all = λ i. all.0 i ++ empty_all some all.1 i

    without_by : (one : Resolved) (some : List Resolved) (b : Bool) → points_at one ≡ []
        → flat_map points_at (cond b (one ∷ some) some) ≡ flat_map points_at some
    without_by one some true none = ap (λ front. front ++ flat_map points_at some) none
    without_by one some false none = refl

    without : (one : Resolved) (some : List Resolved) (leaves : List Leaf) → points_at one ≡ []
        → sifted (one ∷ some) leaves ≡ sifted some leaves
    without one some [] none = refl
    without one some (leaf ∷ leaves) none =
        λ i. without_by one (filter (λ one. same_leaf one.leaf leaf) some) (same_leaf one.leaf leaf) none i
        ++ without one some leaves none i

    alone_by : (one : Resolved) (some : List Resolved) (b : Bool) → flat_map points_at some ≡ []
        → flat_map points_at (cond b (one ∷ some) some) ≡ cond b (points_at one) []
    alone_by one some true none = ap (λ rest. points_at one ++ rest) none ∙ append-nil (points_at one)
    alone_by one some false none = none

    alone : (one : Resolved) (some : List Resolved) (leaves : List Leaf) → AllByRecursion (λ one. points_at one ≡ [])
        some
        → sifted (one ∷ some) leaves ≡ flat_map (λ leaf. cond (same_leaf one.leaf leaf) (points_at one) []) leaves
    alone one some [] none = refl
    alone one some (leaf ∷ leaves) none =
        let left = filter (λ one. same_leaf one.leaf leaf) some in
        λ i. alone_by one left (same_leaf one.leaf leaf)
        (empty_all left (all-filter (λ one. points_at one ≡ []) (λ one. same_leaf one.leaf leaf) some none)) i
        ++ alone one some leaves none i

    none_picked : (leaf : Leaf) (points : List Point) (leaves : List Leaf) → list_any (same_leaf leaf) leaves ≡ false
        → flat_map (λ other. cond (same_leaf leaf other) points []) leaves ≡ []
    none_picked leaf points [] none = refl
    none_picked leaf points (other ∷ leaves) none =
        let parts = or_parts (same_leaf leaf other) (list_any (same_leaf leaf) leaves) none in
        λ i. cond (parts.0 i) points [] ++ none_picked leaf points leaves parts.1 i

    picked_by : (leaf other : Leaf) (points : List Point) (leaves : List Leaf) (b : Bool) → same_leaf leaf other ≡ b
        → list_any (same_leaf other) leaves ≡ false
        → flat_map (λ other. cond (same_leaf leaf other) points []) leaves ≡ cond (list_any (same_leaf leaf) leaves)
        points []
        → cond b points [] ++ flat_map (λ other. cond (same_leaf leaf other) points []) leaves
        ≡ cond (b || list_any (same_leaf leaf) leaves) points []
    picked_by leaf other points leaves true same once rest =
        let is : leaf ≡ other = same_leaves leaf other same in
        let none : list_any (same_leaf leaf) leaves ≡ false =
        ap (λ (l : Leaf). list_any (same_leaf l) leaves) is ∙ once in
        ap (λ more. points ++ more) (none_picked leaf points leaves none) ∙ append-nil points
    picked_by leaf other points leaves false same once rest = rest

    picked : (leaf : Leaf) (points : List Point) (leaves : List Leaf) → AreOtherLeaves leaves
        → flat_map (λ other. cond (same_leaf leaf other) points []) leaves ≡ cond (list_any (same_leaf leaf) leaves)
        points []
    picked leaf points [] once = refl
    picked leaf points (other ∷ leaves) once =
        picked_by leaf other points leaves (same_leaf leaf other) refl once.0 (picked leaf points leaves once.1)

    listed_by : (points : List Point) (b : Bool) → (b ≡ false → points ≡ []) → cond b points [] ≡ points
    listed_by points true h = refl
    listed_by points false h = sym (h refl)

    -- a range that is on none of some leaves has no points
    abbrev IsListed : List Leaf → Resolved → Type 0
    IsListed leaves one = list_any (same_leaf one.leaf) leaves ≡ false → points_at one ≡ []

    sift_by : (one : Resolved) (some : List Resolved) (leaves : List Leaf) (b : Bool) → is_of home one ≡ b
        → AllByRecursion (IsOther one) some
        → AllByRecursion (λ (one : Resolved). AllByRecursion (IsAtHome held zones one.range) (own one)) (one ∷ some)
        → AreOtherLeaves leaves → IsListed leaves one → sifted some leaves ≡ flat_map points_at some
        → sifted (one ∷ some) leaves ≡ flat_map points_at (one ∷ some)
    sift_by one some leaves true is apart home_of once listed rest =
        let none : AllByRecursion (λ one. points_at one ≡ []) some =
        all_both (IsOther one) (λ (one : Resolved). AllByRecursion (IsAtHome held zones one.range) (own one))
        (λ one. points_at one ≡ []) some
        (λ other differs own_home. no_points other (others_by home one other is differs) own_home) apart home_of.1 in
        alone one some leaves none
        ∙ picked one.leaf (points_at one) leaves once
        ∙ listed_by (points_at one) (list_any (same_leaf one.leaf) leaves) listed
        ∙ sym (ap (λ more. points_at one ++ more) (empty_all some none) ∙ append-nil (points_at one))
    sift_by one some leaves false is apart home_of once listed rest =
        let none : points_at one ≡ [] = no_points one is home_of.0 in
        without one some leaves none ∙ rest ∙ sym (ap (λ front. front ++ flat_map points_at some) none)

    sift : (some : List Resolved) (leaves : List Leaf) → AreOthers some
        → AllByRecursion (λ (one : Resolved). AllByRecursion (IsAtHome held zones one.range) (own one)) some
        → AreOtherLeaves leaves → AllByRecursion (IsListed leaves) some → sifted some leaves ≡ flat_map points_at some
    sift [] leaves apart home_of once listed = nothing leaves
      where
        nothing : (leaves : List Leaf) → sifted [] leaves ≡ []
        nothing [] = refl
        nothing (leaf ∷ leaves) = nothing leaves
    sift (one ∷ some) leaves apart home_of once listed =
        sift_by one some leaves (is_of home one) refl apart.0 home_of once listed.0
        (sift some leaves apart.1 home_of.1 once listed.1)

    sifted_append : (some : List Leaf) (more : List Leaf)
        → sifted resolved (some ++ more) ≡ sifted resolved some ++ sifted resolved more
    sifted_append some more =
        flat_map-append (λ leaf. flat_map points_at (filter (λ one. same_leaf one.leaf leaf) resolved)) some more

    zone_points : (leaves : List Leaf)
        → points_of key (together (map (rows_at own resolved) leaves)) ≡ sifted resolved leaves
    zone_points [] = refl
    zone_points (leaf ∷ leaves) =
        points_append key (rows_at own resolved leaf) (together (map (rows_at own resolved) leaves))
        ∙ (λ i. points_flat key own (filter (λ one. same_leaf one.leaf leaf) resolved) i ++ zone_points leaves i)

    all_points : (chosen : List SomeLeaves)
        → points_of key (all_rows (divided_rows own resolved chosen)) ≡ sifted resolved (all_leaves chosen)
    all_points [] = refl
    all_points (some ∷ chosen) =
        points_append key (together (zone_rows own resolved some)) (all_rows (divided_rows own resolved chosen))
        ∙ (λ i. zone_points some.1 i ++ all_points chosen i)
        ∙ sym (sifted_append some.1 (all_leaves chosen))

    -- the points of a series are those of all ranges
    pub divided_points : (chosen : List SomeLeaves) → AreOtherLeaves (all_leaves chosen)
        → AllByRecursion (IsListed (all_leaves chosen)) resolved
        → points_of key (all_rows (divided_rows own resolved chosen)) ≡ points_of key (flat_map own resolved)
    divided_points chosen once listed =
        all_points chosen
        ∙ sift resolved (all_leaves chosen) are.once are.home once listed
        ∙ sym (points_flat key own resolved)
