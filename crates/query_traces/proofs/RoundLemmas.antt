-- Slots by leaf.
use Rattle.std.proofs.Common.{◌≡◌, ℕ, zero, suc, ◌+◌, ◌-◌, ◌<◌, ◌≤◌, Bool, true, false, List, [], ◌∷◌, ◌++◌}
use Rattle.std.proofs.Common.{append_assoc, cond, if◌then◌else◌, filter, get_or, length, map, set, refl, sym, ap, ◌∙◌}
use Rattle.std.proofs.Common.{arith, ◌&&◌, true≢false}
use Rattle.std.specs.Prelude.{nat_le, nat_lt}
use Rattle.std.proofs.lemmas.Bool.{ne_eqb, and_parts}
use Rattle.std.proofs.lemmas.Bool.Decides.{nat_tests}
use Rattle.std.proofs.lemmas.List.{map-append}
use Rattle.std.proofs.lemmas.List.Elements.{filter-append}
use Rattle.std.specs.List.{range_with_len}
use Rattle.mon_value.specs.declared.positions.Leaf.{Leaf}
use Rattle.mon_value.specs.declared.positions.Range.{Range}
use Rattle.mon_value.specs.declared.positions.RangeSlot.{RangeSlot}
use Rattle.mon_value.specs.declared.positions.Slot.{Slot}
use Rattle.std.proofs.lemmas.List.FromFn.{length-map-range_with_len}
use Rattle.query_traces.specs.declared.answers.Resolved.{Resolved}
use Rattle.query_traces.specs.declared.areas.Area.{Area}
use Rattle.mon_value.specs.Histories.{leaf_numbered, same_leaf}
use Rattle.query_traces.specs.Rounds.{has_leaf, leaf_at, Round, is_to_visit, resolution, slot_added_at, slot_of}
use Rattle.query_traces.specs.Rounds.{slots_by_leaf, slots_on}

slots_more : (leaf : Leaf) (resolved : List Resolved) (one : Resolved)
    → slots_on leaf (resolved ++ one ∷ [])
    ≡ slots_on leaf resolved ++ map slot_of (cond (same_leaf one.leaf leaf) (one ∷ []) [])
slots_more leaf resolved one =
    ap (map slot_of) (filter-append (λ (x : Resolved). same_leaf x.leaf leaf) resolved (one ∷ []))
    ∙ map-append slot_of (filter (λ (x : Resolved). same_leaf x.leaf leaf) resolved) (cond (same_leaf one.leaf leaf)
    (one ∷ []) [])

-- one more lies there
slots_added : (leaf : Leaf) (resolved : List Resolved) (one : Resolved) → same_leaf one.leaf leaf ≡ true
    → slots_on leaf (resolved ++ one ∷ []) ≡ slots_on leaf resolved ++ slot_of one ∷ []
slots_added leaf resolved one here =
    slots_more leaf resolved one
    ∙ ap (λ b. slots_on leaf resolved ++ map slot_of (cond b (one ∷ []) [])) here

nothing_more : {X : Type 0} (xs : List X) → xs ++ [] ≡ xs
nothing_more [] = refl
nothing_more (x ∷ xs) = ap (λ rest. x ∷ rest) (nothing_more xs)

-- or elsewhere
slots_kept : (leaf : Leaf) (resolved : List Resolved) (one : Resolved) → same_leaf one.leaf leaf ≡ false
    → slots_on leaf (resolved ++ one ∷ []) ≡ slots_on leaf resolved
slots_kept leaf resolved one elsewhere =
    slots_more leaf resolved one
    ∙ ap (λ b. slots_on leaf resolved ++ map slot_of (cond b (one ∷ []) [])) elsewhere
    ∙ nothing_more (slots_on leaf resolved)

-- ---- numbered values of which one changes, or none

all_alike : {X : Type 0} (f g : ℕ → X) (first count : ℕ)
    → ((i : ℕ) → first ≤ i → i < first + count → g i ≡ f i)
    → map f (range_with_len first count) ≡ map g (range_with_len first count)
all_alike f g first zero same = refl
all_alike f g first (suc count) same =
    ap (λ x. x ∷ map f (range_with_len (first + 1) count)) (sym (same first (omega arith) (omega arith)))
    ∙ ap (λ rest. g first ∷ rest)
    (all_alike f g (first + 1) count (λ i from to. same i (omega arith) (omega arith)))

one_changed : {X : Type 0} (f g : ℕ → X) (first count place : ℕ) → place < count
    → ((i : ℕ) → first ≤ i → i < first + count → (i ≡ first + place → ⊥) → g i ≡ f i)
    → set (map f (range_with_len first count)) place (g (first + place)) ≡ map g (range_with_len first count)
one_changed f g first zero place there same = absurd (omega arith)
one_changed f g first (suc count) zero there same =
    ap (λ n. g n ∷ map f (range_with_len (first + 1) count)) (omega arith)
    ∙ ap (λ rest. g first ∷ rest)
    (all_alike f g (first + 1) count (λ i from to. same i (omega arith) (omega arith) (λ e. absurd (omega arith))))
one_changed f g first (suc count) (suc place) there same =
    ap (λ n. f first ∷ set (map f (range_with_len (first + 1) count)) place (g n)) (omega arith)
    ∙ ap (λ x. x ∷ set (map f (range_with_len (first + 1) count)) place (g (first + 1 + place)))
    (sym (same first (omega arith) (omega arith) (λ e. absurd (omega arith))))
    ∙ ap (λ rest. g first ∷ rest)
    (one_changed f g (first + 1) count place (omega arith)
    (λ i from to other. same i (omega arith) (omega arith) (λ e. other (omega arith))))

get_changed : {X : Type 0} (f : ℕ → X) (first count place : ℕ) (d : X) → place < count
    → get_or (map f (range_with_len first count)) place d ≡ f (first + place)
get_changed f first zero place d there = absurd (omega arith)
get_changed f first (suc count) zero d there = ap f (omega arith)
get_changed f first (suc count) (suc place) d there =
    get_changed f (first + 1) count place d (omega arith) ∙ ap f (omega arith)

-- ---- a slot more on the leaf at a place of a zone

apart : (area : Area) (leaf : Leaf) (i : ℕ) → (i ≡ leaf.0 - area.first_leaf.0 → ⊥) → area.first_leaf.0 ≤ leaf.0
    → same_leaf leaf (leaf_at area i) ≡ false
apart area leaf i other from =
    ne_eqb leaf.0 (area.first_leaf.0 + i) (λ e. other (omega arith))

together : (area : Area) (leaf : Leaf) → area.first_leaf.0 ≤ leaf.0
    → same_leaf leaf (leaf_at area (leaf.0 - area.first_leaf.0)) ≡ true
together area leaf from = grind (arith, nat_tests)

slot_here : (area : Area) (resolved : List Resolved) (one : Resolved)
    → area.first_leaf.0 ≤ one.leaf.0 → one.leaf.0 - area.first_leaf.0 < area.leaves
    → set (slots_by_leaf area resolved) (one.leaf.0 - area.first_leaf.0)
    (get_or (slots_by_leaf area resolved) (one.leaf.0 - area.first_leaf.0) [] ++ slot_of one ∷ [])
    ≡ slots_by_leaf area (resolved ++ one ∷ [])
slot_here area resolved one from within =
    let f : ℕ → List RangeSlot = λ place. slots_on (leaf_at area place) resolved in
    let g : ℕ → List RangeSlot = λ place. slots_on (leaf_at area place) (resolved ++ one ∷ []) in
    let place : ℕ = one.leaf.0 - area.first_leaf.0 in
    let none_before : 0 + place ≡ place = omega arith in
    let here : get_or (map f (range_with_len 0 area.leaves)) place [] ++ slot_of one ∷ [] ≡ g (0 + place) =
    ap (λ (slots : List RangeSlot). slots ++ slot_of one ∷ []) (get_changed f 0 area.leaves place [] within
    ∙ ap f none_before)
    ∙ sym (slots_added (leaf_at area place) resolved one (together area one.leaf from))
    ∙ ap g (sym none_before) in
    ap (λ slots. set (map f (range_with_len 0 area.leaves)) place slots) here
    ∙ one_changed f g 0 area.leaves place within
    (λ i _from _to other. slots_kept (leaf_at area i) resolved one
    (apart area one.leaf i (λ e. other (e ∙ sym none_before)) from))

-- or on none
slot_elsewhere : (area : Area) (resolved : List Resolved) (one : Resolved)
    → ((i : ℕ) → i < area.leaves → same_leaf one.leaf (leaf_at area i) ≡ false)
    → slots_by_leaf area resolved ≡ slots_by_leaf area (resolved ++ one ∷ [])
slot_elsewhere area resolved one other =
    all_alike (λ place. slots_on (leaf_at area place) resolved)
    (λ place. slots_on (leaf_at area place) (resolved ++ one ∷ [])) 0 area.leaves
    (λ i from to. slots_kept (leaf_at area i) resolved one (other i (omega arith)))

pub has_at : (area : Area) (leaf : Leaf) (i : ℕ) → i < area.leaves → leaf.0 ≡ area.first_leaf.0 + i
    → has_leaf area leaf ≡ true
has_at area leaf i there e =
    let from : nat_le area.first_leaf.0 leaf.0 ≡ true = grind (arith, nat_tests) in
    let to : nat_lt leaf.0 (area.first_leaf.0 + area.leaves) ≡ true = grind (arith, nat_tests) in
    ap (λ b. b && nat_lt leaf.0 (area.first_leaf.0 + area.leaves)) from ∙ to

-- a leaf of a zone has a place there
record HasPlace (area : Area) (leaf : Leaf) : Type 0 where
  pub from : area.first_leaf.0 ≤ leaf.0
  pub within : leaf.0 - area.first_leaf.0 < area.leaves

has_place : (area : Area) (leaf : Leaf) → has_leaf area leaf ≡ true → HasPlace area leaf
has_place area leaf has =
    let parts = and_parts (nat_le area.first_leaf.0 leaf.0) (nat_lt leaf.0 (area.first_leaf.0 + area.leaves)) has in
    let from : area.first_leaf.0 ≤ leaf.0 = grind (arith, nat_tests) in
    let to : leaf.0 < area.first_leaf.0 + area.leaves = grind (arith, nat_tests) in
    record { from = from; within = omega arith }

has_no_place : (area : Area) (leaf : Leaf) → has_leaf area leaf ≡ false
    → (i : ℕ) → i < area.leaves → same_leaf leaf (leaf_at area i) ≡ false
has_no_place area leaf has i there =
    ne_eqb leaf.0 (area.first_leaf.0 + i)
    (λ e. absurd (true≢false (sym (has_at area leaf i there e) ∙ has)))

pub within_zone : (area : Area) (leaf : Leaf) → has_leaf area leaf ≡ true → leaf.0 - area.first_leaf.0 < area.leaves
within_zone area leaf has = (has_place area leaf has).within

pub slots_count : (area : Area) (resolved : List Resolved) → length (slots_by_leaf area resolved) ≡ area.leaves
slots_count area resolved = length-map-range_with_len (λ place. slots_on (leaf_at area place) resolved) 0 area.leaves

pub slots_at : (area : Area) (resolved : List Resolved) (leaf : Leaf) → has_leaf area leaf ≡ true
    → get_or (slots_by_leaf area resolved) (leaf.0 - area.first_leaf.0) [] ≡ slots_on leaf resolved
slots_at area resolved leaf has =
    let at = has_place area leaf has in
    let same : area.first_leaf.0 + (0 + (leaf.0 - area.first_leaf.0)) ≡ leaf.0 = omega (arith, at.from) in
    get_changed (λ place. slots_on (leaf_at area place) resolved) 0 area.leaves (leaf.0 - area.first_leaf.0) []
    at.within
    ∙ ap (λ n. slots_on (leaf_numbered n) resolved) same

added_by : (area : Area) (resolved : List Resolved) (one : Resolved) (has : Bool) → has_leaf area one.leaf ≡ has
    → slot_added_at area (slots_by_leaf area resolved) one.leaf (slot_of one) ≡ slots_by_leaf area
    (resolved ++ one ∷ [])
added_by area resolved one true e =
    let at = has_place area one.leaf e in
    ap (λ b. cond b (set (slots_by_leaf area resolved) (one.leaf.0 - area.first_leaf.0)
    (get_or (slots_by_leaf area resolved) (one.leaf.0 - area.first_leaf.0) [] ++ slot_of one ∷ []))
    (slots_by_leaf area resolved)) e
    ∙ slot_here area resolved one at.from at.within
added_by area resolved one false e =
    ap (λ b. cond b (set (slots_by_leaf area resolved) (one.leaf.0 - area.first_leaf.0)
    (get_or (slots_by_leaf area resolved) (one.leaf.0 - area.first_leaf.0) [] ++ slot_of one ∷ []))
    (slots_by_leaf area resolved)) e
    ∙ slot_elsewhere area resolved one (has_no_place area one.leaf e)

-- one range more, of which a slot lies on a leaf
pub slot_added : (area : Area) (resolved : List Resolved) (range : Range) (slot : Slot) (leaf : Leaf)
    → slot_added_at area (slots_by_leaf area resolved) leaf (record { range = range; slot = slot })
    ≡ slots_by_leaf area (resolved ++ resolution range slot leaf ∷ [])
slot_added area resolved range slot leaf =
    added_by area resolved (resolution range slot leaf) (has_leaf area leaf) refl

-- ---- leaves to be visited, with the one at the next place

abbrev chosen : {X : Type 0} → (ℕ → Bool) → (ℕ → X) → ℕ → ℕ → List X
chosen p f first count = map f (filter p (range_with_len first count))

abbrev chosen_at : {X : Type 0} → (ℕ → Bool) → (ℕ → X) → ℕ → List X
chosen_at p f place = cond (p place) (f place ∷ []) []

chosen_front : {X : Type 0} (p : ℕ → Bool) (f : ℕ → X) (first count : ℕ)
    → chosen p f first (suc count) ≡ chosen_at p f first ++ chosen p f (first + 1) count
chosen_front p f first count =
    ap (map f) (filter-append p (first ∷ []) (range_with_len (first + 1) count))
    ∙ map-append f (cond (p first) (first ∷ []) []) (filter p (range_with_len (first + 1) count))
    ∙ ap (λ xs. xs ++ chosen p f (first + 1) count) (front_at (p first))
  where
    front_at : (b : Bool) → map f (cond b (first ∷ []) []) ≡ cond b (f first ∷ []) []
    front_at true = refl
    front_at false = refl

chosen_more : {X : Type 0} (p : ℕ → Bool) (f : ℕ → X) (first count : ℕ)
    → chosen p f first (suc count) ≡ chosen p f first count ++ chosen_at p f (first + count)
chosen_more p f first zero =
    let same : first + 0 ≡ first = omega arith in
    chosen_front p f first zero ∙ nothing_more (chosen_at p f first) ∙ sym (ap (chosen_at p f) same)
chosen_more p f first (suc count) =
    let same : first + 1 + count ≡ first + suc count = omega arith in
    chosen_front p f first (suc count)
    ∙ ap (λ xs. chosen_at p f first ++ xs) (chosen_more p f (first + 1) count)
    ∙ sym (append_assoc (chosen_at p f first) (chosen p f (first + 1) count) (chosen_at p f (first + 1 + count)))
    ∙ ap (λ xs. xs ++ chosen_at p f (first + 1 + count)) (sym (chosen_front p f first count))
    ∙ ap (λ n. chosen p f first (suc count) ++ chosen_at p f n) same

pub leaves_more : (round : Round) (let_in : List Bool) (place : ℕ)
    → map (leaf_at round.area) (filter (is_to_visit round let_in) (range_with_len 0 (place + 1)))
    ≡ map (leaf_at round.area) (filter (is_to_visit round let_in) (range_with_len 0 place))
    ++ (if is_to_visit round let_in place then leaf_at round.area place ∷ [] else [])
leaves_more round let_in place =
    let same : place + 1 ≡ suc place = omega arith in
    let none_before : 0 + place ≡ place = omega arith in
    ap (chosen (is_to_visit round let_in) (leaf_at round.area) 0) same
    ∙ chosen_more (is_to_visit round let_in) (leaf_at round.area) 0 place
    ∙ ap (λ n. chosen (is_to_visit round let_in) (leaf_at round.area) 0 place
    ++ chosen_at (is_to_visit round let_in) (leaf_at round.area) n) none_before
