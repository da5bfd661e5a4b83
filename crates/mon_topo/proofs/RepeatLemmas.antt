-- The names of the zones so far tell what a zone repeats of them.
use Rattle.std.proofs.lemmas.Bool.{not-false, not-true}
use Rattle.std.proofs.Common.{◌≡◌, ◌∙◌, ℕ, ◌+◌, ◌<◌, true, false, List, [], ◌∷◌, ◌++◌, Option, Some, None}
use Rattle.std.proofs.Common.{append_assoc, cond, get_or, length, length-append, not, ap, sym, take, arith}
use Rattle.std.specs.List.{list_any}
use Rattle.std.specs.Map.{keys_of}
use Rattle.std.specs.Option.{option_or}
use Rattle.std.proofs.lemmas.List.{append-nil, length-map, map-append, take_more}
use Rattle.std.proofs.lemmas.Grind.{common_steps}
use Rattle.std.proofs.lemmas.List.Concat.{flat_map-append}
use Rattle.mon_value.specs.Answers.{RefusesBy}
use Rattle.mon_value.specs.Same.{same_text}
use Rattle.mon_value.specs.declared.refusals.Refusal.{Refusal}
use Rattle.mon_value.specs.declared.refusals.Refusal.TheVariants as refusal
use Rattle.mon_topo.proofs.NumberedLemmas.{keys-append, keys-located, keys-numbered, length-numbered}
use Rattle.mon_topo.proofs.NumberedLemmas.{numbered_locations-append}
use Rattle.mon_topo.proofs.NumberedLemmas.{numbered_texts-append}
use Rattle.mon_topo.specs.Faults.{repeat_behind, repeat_in, repeated_at, stood, place_unless}
use Rattle.mon_topo.specs.Indexed.{all_numbered, numbered_locations, names_of_zones, numbered_texts, with_name}
use Rattle.mon_topo.specs.Indexed.{with_zone_names}
use Rattle.mon_topo.specs.Zones.{leaves_in, locations_in, zone_names_in}
use Rattle.mon_topo.specs.declared.names.Names.{Names}
use Rattle.mon_topo.specs.declared.places.Place.{Place}
use Rattle.mon_topo.specs.declared.places.Place.TheVariants as place
use Rattle.mon_topo.specs.declared.zones.ZoneSpec.{ZoneSpec}

-- a refusal by the first of two faults, and by the second where the first isn't there
pub refused_first : {F : Type 0} (r : Refusal F) (a b : Option F) → RefusesBy r a → RefusesBy r (option_or a b)
refused_first (refusal.Fault f) a b e = ap (λ o. option_or o b) e
refused_first refusal.OutOfMemory a b e = tt

-- what a zone repeats of names, or of itself
abbrev pub seen_repeat : Names → ℕ → ZoneSpec → Option Place
seen_repeat names i zone =
    option_or (place_unless (not (list_any (same_text zone.name) (keys_of names.zones))) (place.ZoneName i))
    (option_or (repeat_in (place.Location i) (keys_of names.locations) zone.locations)
    (repeat_in (place.Leaf i) (keys_of names.leaves) zone.leaves))

pub seen_repeat-names_of : (zones : List ZoneSpec) (i : ℕ) (zone : ZoneSpec) (names : Names)
    → names ≡ names_of_zones (take i zones) → seen_repeat names i zone ≡ repeat_behind zones i zone
seen_repeat-names_of zones i zone names is =
    let before = take i zones in
    let by_name : keys_of names.zones ≡ zone_names_in before = ap (λ (n : Names). keys_of n.zones) is ∙ keys-numbered 0
    (zone_names_in before) in
    let by_location : keys_of names.locations ≡ locations_in before = ap (λ (n : Names). keys_of n.locations) is
    ∙ keys-located 0 before in
    let by_leaf : keys_of names.leaves ≡ leaves_in before = ap (λ (n : Names). keys_of n.leaves) is ∙ keys-numbered 0
    (leaves_in before) in
    λ k. option_or (place_unless (not (list_any (same_text zone.name) (by_name k))) (place.ZoneName i))
    (option_or (repeat_in (place.Location i) (by_location k) zone.locations) (repeat_in (place.Leaf i) (by_leaf k)
    zone.leaves))

grown : (before : List ZoneSpec) (zone : ZoneSpec) (i : ℕ) → length before ≡ i
    → with_zone_names (names_of_zones before) i zone ≡ names_of_zones (before ++ zone ∷ [])
grown before zone i long =
    let names = zone_names_in before in
    let by_name : numbered_texts 0 names ++ (zone.name, i) ∷ []
    ≡ numbered_texts 0 (zone_names_in (before ++ zone ∷ [])) =
    ap (λ n. numbered_texts 0 names ++ (zone.name, n) ∷ [])
    (omega (arith, long, length-map before (λ (z : ZoneSpec). z.name)))
    ∙ sym (numbered_texts-append 0 names (zone.name ∷ []))
    ∙ ap (numbered_texts 0) (sym (map-append (λ (z : ZoneSpec). z.name) before (zone ∷ []))) in
    let by_location : numbered_locations 0 before ++ all_numbered i zone.locations
    ≡ numbered_locations 0 (before ++ zone ∷ []) =
    ap (λ n. numbered_locations 0 before ++ all_numbered n zone.locations) (omega (arith, long))
    ∙ ap (λ more. numbered_locations 0 before ++ more)
    (sym (append-nil (all_numbered (0 + length before) zone.locations)))
    ∙ sym (numbered_locations-append 0 before (zone ∷ [])) in
    let by_leaf : numbered_texts 0 (leaves_in before)
    ++ numbered_texts (length (numbered_texts 0 (leaves_in before))) zone.leaves
    ≡ numbered_texts 0 (leaves_in (before ++ zone ∷ [])) =
    ap (λ n. numbered_texts 0 (leaves_in before) ++ numbered_texts n zone.leaves) (length-numbered 0 (leaves_in before)
    ∙ omega arith)
    ∙ sym (numbered_texts-append 0 (leaves_in before) zone.leaves)
    ∙ ap (λ more. numbered_texts 0 (leaves_in before ++ more)) (sym (append-nil zone.leaves))
    ∙ ap (numbered_texts 0) (sym (flat_map-append (λ (z : ZoneSpec). z.leaves) before (zone ∷ []))) in
    λ k. record { zones = by_name k; locations = by_location k; leaves = by_leaf k }

length-take-within : (zones : List ZoneSpec) (i : ℕ) → i < length zones → length (take i zones) ≡ i
length-take-within zones i there = grind (arith, common_steps)

-- the names with those of the zone at hand are those of the zones up to it
pub names_more : (zones : List ZoneSpec) (i : ℕ) (zone : ZoneSpec) (names new : Names) → i < length zones
    → zone ≡ get_or zones i zone → names ≡ names_of_zones (take i zones) → new ≡ with_zone_names names i zone
    → new ≡ names_of_zones (take (i + 1) zones)
names_more zones i zone names new there at is more =
    more ∙ ap (λ (n : Names). with_zone_names n i zone) is
    ∙ grown (take i zones) zone i (length-take-within zones i there)
    ∙ ap (λ (z : ZoneSpec). names_of_zones (take i zones ++ z ∷ [])) at
    ∙ ap names_of_zones (sym (take_more zones i zone there))

-- ---- texts that go into a map one after another

-- a text is among the names so far where it stood earlier
known : (old so_far own : List (List ℕ × ℕ)) (texts : List (List ℕ)) (j : ℕ) (text : List ℕ)
    → so_far ≡ old ++ own → keys_of own ≡ take j texts
    → list_any (same_text text) (keys_of so_far) ≡ stood (keys_of old) texts j text
known old so_far own texts j text is keys =
    ap (list_any (same_text text)) (ap keys_of is ∙ keys-append old own ∙ ap (λ more. keys_of old ++ more) keys)

pub repeated : (place_of : ℕ → Place) (old so_far own : List (List ℕ × ℕ)) (texts : List (List ℕ)) (j : ℕ)
    (text : List ℕ)
    → so_far ≡ old ++ own → keys_of own ≡ take j texts → not (list_any (same_text text) (keys_of so_far)) ≡ false
    → repeated_at place_of (keys_of old) texts j text ≡ Some (place_of j)
repeated place_of old so_far own texts j text is keys again =
    ap (λ b. place_unless (not b) (place_of j))
    (sym (known old so_far own texts j text is keys) ∙ not-false (list_any (same_text text) (keys_of so_far)) again)

pub unrepeated : (place_of : ℕ → Place) (old so_far own : List (List ℕ × ℕ)) (texts : List (List ℕ)) (j : ℕ)
    (text : List ℕ)
    → so_far ≡ old ++ own → keys_of own ≡ take j texts → not (list_any (same_text text) (keys_of so_far)) ≡ true
    → repeated_at place_of (keys_of old) texts j text ≡ None
unrepeated place_of old so_far own texts j text is keys new =
    ap (λ b. place_unless (not b) (place_of j))
    (sym (known old so_far own texts j text is keys) ∙ not-true (list_any (same_text text) (keys_of so_far)) new)

pub with_new_name : (so_far new : List (List ℕ × ℕ)) (text : List ℕ) (n : ℕ)
    → not (list_any (same_text text) (keys_of so_far)) ≡ true → new ≡ with_name so_far text n
    → new ≡ so_far ++ (text, n) ∷ []
with_new_name so_far new text n fresh is =
    is ∙ ap (λ b. cond b so_far (so_far ++ (text, n) ∷ [])) (not-true (list_any (same_text text) (keys_of so_far))
    fresh)

-- one location more
pub locations_more : (old so_far new : List (List ℕ × ℕ)) (texts : List (List ℕ)) (i j : ℕ) (text : List ℕ)
    → j < length texts
    → text ≡ get_or texts j text → so_far ≡ old ++ all_numbered i (take j texts) → new ≡ so_far ++ (text, i) ∷ []
    → new ≡ old ++ all_numbered i (take (j + 1) texts)
locations_more old so_far new texts i j text there at is more =
    more ∙ ap (λ es. es ++ (text, i) ∷ []) is
    ∙ append_assoc old (all_numbered i (take j texts)) ((text, i) ∷ [])
    ∙ ap (λ es. old ++ es)
    (sym (map-append (λ (t : List ℕ). (t, i)) (take j texts) (text ∷ []))
    ∙ ap (λ (t : List ℕ). all_numbered i (take j texts ++ t ∷ [])) at
    ∙ ap (all_numbered i) (sym (take_more texts j text there)))

texts-take-within : (texts : List (List ℕ)) (j : ℕ) → j < length texts → length (take j texts) ≡ j
texts-take-within texts j there = grind (arith, common_steps)

-- how many leaves there are with those of the zone so far
pub leaves_so_far : (old so_far : List (List ℕ × ℕ)) (texts : List (List ℕ)) (j : ℕ) → j < length texts
    → so_far ≡ old ++ numbered_texts (length old) (take j texts) → length so_far ≡ length old + j
leaves_so_far old so_far texts j there is =
    ap length is ∙ length-append old (numbered_texts (length old) (take j texts))
    ∙ ap (λ n. length old + n) (length-numbered (length old) (take j texts) ∙ texts-take-within texts j there)

-- one leaf more
pub leaves_more : (old so_far new : List (List ℕ × ℕ)) (texts : List (List ℕ)) (j : ℕ) (text : List ℕ)
    → j < length texts
    → text ≡ get_or texts j text → so_far ≡ old ++ numbered_texts (length old) (take j texts)
    → new ≡ so_far ++ (text, length so_far) ∷ [] → new ≡ old ++ numbered_texts (length old) (take (j + 1) texts)
leaves_more old so_far new texts j text there at is more =
    let front = take j texts in
    more ∙ ap (λ es. es ++ (text, length so_far) ∷ []) is
    ∙ append_assoc old (numbered_texts (length old) front) ((text, length so_far) ∷ [])
    ∙ ap (λ es. old ++ es)
    (ap (λ n. numbered_texts (length old) front ++ (text, n) ∷ []) (leaves_so_far old so_far texts j there is
    ∙ ap (λ n. length old + n) (sym (texts-take-within texts j there)))
    ∙ sym (numbered_texts-append (length old) front (text ∷ []))
    ∙ ap (λ (t : List ℕ). numbered_texts (length old) (front ++ t ∷ [])) at
    ∙ ap (numbered_texts (length old)) (sym (take_more texts j text there)))
