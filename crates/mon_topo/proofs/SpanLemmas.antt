-- Where the leaves and the ranges of each zone begin.
use Rattle.std.proofs.Common.{◌≡◌, ◌∙◌, ℕ, zero, suc, ◌+◌, ◌<◌, List, [], ◌∷◌, get_or, length, map, take, refl, ap}
use Rattle.std.proofs.Common.{arith, length-append}
use Rattle.mon_topo.specs.Indexed.{spans_from}
use Rattle.mon_topo.specs.Zones.{first_leaf, first_range, leaves_in, ranges_in, zone_at}
use Rattle.mon_topo.specs.declared.spans.ZoneSpan.{ZoneSpan}
use Rattle.mon_topo.specs.declared.zones.ZoneSpec.{ZoneSpec}

abbrev span : ℕ → ℕ → ℕ → ℕ → ZoneSpan
span first_leaf leaves first_range ranges =
    record { first_leaf = first_leaf; leaves = leaves; first_range = first_range; ranges = ranges }

same_span : (a b c d p q : ℕ) → a ≡ b → p ≡ q → span a c p d ≡ span b c q d
same_span a b c d p q e f = λ i. span (e i) c (f i) d

pub length-spans_from : (leaf range : ℕ) (zones : List ZoneSpec) → length (spans_from leaf range zones) ≡ length zones
length-spans_from leaf range [] = refl
length-spans_from leaf range (zone ∷ zones) =
    ap (λ n. suc n) (length-spans_from (leaf + length zone.leaves) (range + length zone.ranges) zones)

pub get_or-spans_from : (leaf range : ℕ) (zones : List ZoneSpec) (i : ℕ) (d : ZoneSpan) → i < length zones
    → get_or (spans_from leaf range zones) i d
    ≡ span (leaf + first_leaf zones i) (length (zone_at zones i).leaves) (range + first_range zones i)
    (length (zone_at zones i).ranges)
get_or-spans_from leaf range [] i d there = absurd (omega arith)
get_or-spans_from leaf range (zone ∷ zones) zero d there =
    same_span leaf (leaf + 0) (length zone.leaves) (length zone.ranges) range (range + 0) (omega arith) (omega arith)
get_or-spans_from leaf range (zone ∷ zones) (suc i) d there =
    get_or-spans_from (leaf + length zone.leaves) (range + length zone.ranges) zones i d (omega arith)
    ∙ same_span _ _ _ _ _ _
    (omega (arith, length-append zone.leaves (leaves_in (take i zones))))
    (omega (arith, length-append zone.ranges (ranges_in (take i zones))))

pub leaves-spans_from : (leaf range : ℕ) (zones : List ZoneSpec)
    → map (λ (s : ZoneSpan). s.leaves) (spans_from leaf range zones) ≡ map (λ (z : ZoneSpec). length z.leaves) zones
leaves-spans_from leaf range [] = refl
leaves-spans_from leaf range (zone ∷ zones) =
    ap (λ more. length zone.leaves ∷ more) (leaves-spans_from (leaf + length zone.leaves) (range + length zone.ranges)
    zones)
