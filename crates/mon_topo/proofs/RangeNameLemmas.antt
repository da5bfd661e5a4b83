-- The names of ranges, one after another.
use Rattle.std.proofs.Common.{◌≡◌, ◌∙◌, ℕ, zero, suc, ◌+◌, ◌<◌, List, [], ◌∷◌, ◌++◌, append_assoc, get_or, length}
use Rattle.std.proofs.Common.{length-append, refl, ap, sym, subst, take, arith}
use Rattle.std.proofs.lemmas.Grind.{common_steps}
use Rattle.std.proofs.lemmas.List.{append-nil, take_more}
use Rattle.std.proofs.lemmas.List.Concat.{flat_map-append}
use Rattle.mon_topo.proofs.FindsLemmas.{FindsPlaces-with_name}
use Rattle.mon_topo.specs.Indexed.{with_name, FindsPlaces}
use Rattle.mon_topo.specs.Zones.{names_from, range_name, range_names, ranges_in}
use Rattle.mon_topo.specs.declared.zones.RangeSpec.{RangeSpec}
use Rattle.mon_topo.specs.declared.zones.ZoneSpec.{ZoneSpec}

pub length-names_from : (zone : List ℕ) (k : ℕ) (ranges : List RangeSpec)
    → length (names_from zone k ranges) ≡ length ranges
length-names_from zone k [] = refl
length-names_from zone k (range ∷ ranges) = ap (λ n. suc n) (length-names_from zone (k + 1) ranges)

pub length-range_names : (zones : List ZoneSpec) → length (range_names zones) ≡ length (ranges_in zones)
length-range_names [] = refl
length-range_names (zone ∷ zones) =
    length-append (names_from zone.name 0 zone.ranges) (range_names zones)
    ∙ ap (λ n. n + length (range_names zones)) (length-names_from zone.name 0 zone.ranges)
    ∙ ap (λ n. length zone.ranges + n) (length-range_names zones)
    ∙ sym (length-append zone.ranges (ranges_in zones))

names_from-take : (zone : List ℕ) (k j : ℕ) (ranges : List RangeSpec) → j < length ranges
    → names_from zone k (take (suc j) ranges) ≡ names_from zone k (take j ranges) ++ range_name zone (k + j) ∷ []
names_from-take zone k j [] there = absurd (omega arith)
names_from-take zone k zero (range ∷ ranges) there = ap (λ n. range_name zone n ∷ []) (omega arith)
names_from-take zone k (suc j) (range ∷ ranges) there =
    ap (λ more. range_name zone k ∷ more)
    (names_from-take zone (k + 1) j ranges (omega arith)
    ∙ ap (λ n. names_from zone (k + 1) (take j ranges) ++ range_name zone n ∷ []) (omega arith))

ranges-take-within : (ranges : List RangeSpec) (j : ℕ) → j < length ranges → length (take j ranges) ≡ j
ranges-take-within ranges j there = grind (arith, common_steps)

-- the name of one range more
pub range_more : (so_far new : List (List ℕ × ℕ)) (before : List (List ℕ)) (zone name : List ℕ) (first j : ℕ)
    (ranges : List RangeSpec)
    → j < length ranges → length before ≡ first → name ≡ range_name zone j → new ≡ with_name so_far name (first + j)
    → FindsPlaces so_far (before ++ names_from zone 0 (take j ranges))
    → FindsPlaces new (before ++ names_from zone 0 (take (j + 1) ranges))
range_more so_far new before zone name first j ranges there long named is finds =
    let front = names_from zone 0 (take j ranges) in
    let count : length (before ++ front) ≡ first + j =
    length-append before front ∙ ap (λ n. n + length front) long
    ∙ ap (λ n. first + n) (length-names_from zone 0 (take j ranges) ∙ ranges-take-within ranges j there) in
    let zeroth : j ≡ 0 + j = omega arith in
    let next : suc j ≡ j + 1 = omega arith in
    let added = FindsPlaces-with_name so_far (before ++ front) name (first + j) count finds in
    let names : (before ++ front) ++ name ∷ [] ≡ before ++ names_from zone 0 (take (j + 1) ranges) =
    append_assoc before front (name ∷ [])
    ∙ ap (λ more. before ++ more)
    (ap (λ n. front ++ n ∷ []) (named ∙ ap (range_name zone) zeroth)
    ∙ sym (names_from-take zone 0 j ranges there)
    ∙ ap (λ (n : ℕ). names_from zone 0 (take n ranges)) next) in
    subst (λ (texts : List (List ℕ)). FindsPlaces new texts) names
    (subst (λ (es : List (List ℕ × ℕ)). FindsPlaces es ((before ++ front) ++ name ∷ [])) (sym is) added)

-- the names of one zone's ranges more
pub range_names_more : (zones : List ZoneSpec) (i : ℕ) (zone : ZoneSpec) → i < length zones → zone ≡ get_or zones i zone
    → range_names (take i zones) ++ names_from zone.name 0 zone.ranges ≡ range_names (take (i + 1) zones)
range_names_more zones i zone there at =
    ap (λ more. range_names (take i zones) ++ more) (sym (append-nil (names_from zone.name 0 zone.ranges)))
    ∙ sym (flat_map-append (λ (z : ZoneSpec). names_from z.name 0 z.ranges) (take i zones) (zone ∷ []))
    ∙ ap (λ (z : ZoneSpec). range_names (take i zones ++ z ∷ [])) at
    ∙ ap range_names (sym (take_more zones i zone there))
