-- The first replicas as they are opened one by one.
use Rattle.std.proofs.Common.{◌≡◌, ◌∙◌, ◌<◌, ◌≤◌, ◌+◌, ◌-◌, ℕ, suc, zero, cond, Some}
use Rattle.std.proofs.Common.{List, [], ◌∷◌, ◌++◌, append-nil, append_assoc, nat_eq, slice_get, get_or, length}
use Rattle.std.proofs.Common.{map, take, refl, sym, ap, subst, arith}
use Rattle.std.specs.List.{flat_map, range_with_len}
use Rattle.std.proofs.lemmas.List.{length-take-le, take_all, take_more}
use Rattle.std.proofs.lemmas.List.FromFn.{map-range_with_len_more}
use Rattle.std.proofs.lemmas.Option.{get_or_from_slice_get, slice_get-get_or, slice_get_within}
use Rattle.mon_topo.proofs.PartLemmas.{length-zones_of}
use Rattle.mon_topo.proofs.RangeHistoryLemmas.{all_at}
use Rattle.mon_topo.specs.RangeHistories.{IsInZoneOf}
use Rattle.mon_topo.specs.Replicas.{HasReplicas}
use Rattle.mon_value.specs.Histories.{leaf_numbered, range_numbered, same_leaf}
use Rattle.mon_topo.specs.Zones.{first_replicas, leaves_in}
use Rattle.mon_topo.specs.declared.zones.ZoneSpec.{ZoneSpec}
use Rattle.mon_value.specs.declared.histories.Entry.{Entry}
use Rattle.mon_value.specs.declared.histories.Entry.TheVariants as entry
use Rattle.mon_value.specs.declared.histories.RangeEntry.{RangeEntry}
use Rattle.mon_value.specs.declared.histories.RangeEntry.TheVariants as range_entry
use Rattle.mon_value.specs.declared.positions.Leaf.{Leaf}
use Rattle.mon_value.specs.declared.positions.Range.{Range}
use Rattle.mon_topo.proofs.FirstLemmas.{IsOpen, get_contains, next_range, one_next, range_opened}
use Rattle.mon_value.proofs.PlainLemmas.{range_last}
use Rattle.mon_topo.specs.HeldHistories.{first_range_history, opened_here, opened_of, opening, openings_from}
use Rattle.mon_topo.specs.HeldHistories.{slot_numbered, opened_before, opened_up_to}

-- ---- one more

flat_map_last : {X Y : Type 0} (f : X → List Y) (xs : List X) (x : X) → flat_map f (xs ++ x ∷ []) ≡ flat_map f xs ++ f x
flat_map_last f [] x = append-nil (f x)
flat_map_last f (y ∷ xs) x =
    ap (λ (l : List _). f y ++ l) (flat_map_last f xs x) ∙ sym (append_assoc (f y) (flat_map f xs) (f x))

pub before_more : (zones : List ZoneSpec) (range n : ℕ)
    → opened_before zones (range + 1) n ≡ opened_before zones range n ++ opened_of zones (leaf_numbered n) range
before_more zones range n =
    let on : range + 1 ≡ suc range = omega arith in
    let none : 0 + range ≡ range = omega arith in
    let here : ℕ → List Entry = opened_of zones (leaf_numbered n) in
    ap (λ (k : ℕ). flat_map here (range_with_len 0 k)) on
    ∙ ap (λ (l : List ℕ). flat_map here l) (range_last 0 range range none)
    ∙ flat_map_last here (range_with_len 0 range) range

here_more : (leaf : Leaf) (range : Range) (slot : ℕ) (xs : List Leaf) (x : Leaf)
    → opened_here leaf range slot (xs ++ x ∷ [])
    ≡ opened_here leaf range slot xs ++ cond (same_leaf leaf x) (opening range (slot + length xs) ∷ []) []
here_more leaf range slot [] x =
    let at : slot ≡ slot + 0 = omega arith in
    append-nil (cond (same_leaf leaf x) (opening range slot ∷ []) [])
    ∙ ap (λ (k : ℕ). cond (same_leaf leaf x) (opening range k ∷ []) []) at
here_more leaf range slot (y ∷ xs) x =
    let at : (slot + 1) + length xs ≡ slot + suc (length xs) = omega arith in
    let one : List Entry = cond (same_leaf leaf y) (opening range slot ∷ []) [] in
    let rest : List Entry = opened_here leaf range (slot + 1) xs in
    ap (λ (l : List Entry). one ++ l) (here_more leaf range (slot + 1) xs x)
    ∙ sym (append_assoc one rest (cond (same_leaf leaf x) (opening range ((slot + 1) + length xs) ∷ []) []))
    ∙ ap (λ (k : ℕ). (one ++ rest) ++ cond (same_leaf leaf x) (opening range k ∷ []) []) at

openings_more : (slot : ℕ) (xs : List Leaf) (x : Leaf)
    → openings_from slot (xs ++ x ∷ [])
    ≡ openings_from slot xs ++ range_entry.Opened 0 (slot_numbered (slot + length xs)) x ∷ []
openings_more slot [] x =
    let at : slot ≡ slot + 0 = omega arith in ap (λ (k : ℕ). range_entry.Opened 0 (slot_numbered k) x ∷ []) at
openings_more slot (y ∷ xs) x =
    let at : (slot + 1) + length xs ≡ slot + suc (length xs) = omega arith in
    let one : RangeEntry = range_entry.Opened 0 (slot_numbered slot) y in
    ap (λ (l : List RangeEntry). one ∷ l) (openings_more (slot + 1) xs x)
    ∙ ap (λ (k : ℕ). one ∷ (openings_from (slot + 1) xs ++ range_entry.Opened 0 (slot_numbered k) x ∷ [])) at

-- a list's next item
next_item : (xs : List Leaf) (place : ℕ) (leaf : Leaf) → slice_get xs place ≡ Some leaf
    → take (place + 1) xs ≡ take place xs ++ leaf ∷ []
next_item xs place leaf at =
    take_more xs place leaf (slice_get_within xs place leaf at)
    ∙ ap (λ (x : Leaf). take place xs ++ x ∷ []) (get_or_from_slice_get xs place leaf leaf at)

as_many : (xs : List Leaf) (place : ℕ) (leaf : Leaf) → slice_get xs place ≡ Some leaf → 0 + length (take place xs)
    ≡ place
as_many xs place leaf at =
    let within : place < length xs = slice_get_within xs place leaf at in
    let long : length (take place xs) ≡ place = length-take-le place xs (omega (arith, within)) in
    omega (arith, long)

pub range_more : (zones : List ZoneSpec) (range place number : ℕ) (leaf : Leaf) (old new : List RangeEntry)
    → slice_get (first_replicas zones range) place ≡ Some leaf → number ≡ place
    → old ≡ openings_from 0 (take place (first_replicas zones range))
    → new ≡ old ++ range_entry.Opened 0 (slot_numbered number) leaf ∷ []
    → new ≡ openings_from 0 (take (place + 1) (first_replicas zones range))
range_more zones range place number leaf old new at same before added =
    let xs : List Leaf = first_replicas zones range in
    added
    ∙ ap (λ (k : ℕ). old ++ range_entry.Opened 0 (slot_numbered k) leaf ∷ []) same
    ∙ ap (λ (l : List RangeEntry). l ++ range_entry.Opened 0 (slot_numbered place) leaf ∷ []) before
    ∙ sym (ap (λ (k : ℕ). openings_from 0 (take place xs) ++ range_entry.Opened 0 (slot_numbered k) leaf ∷ [])
    (as_many xs place leaf at))
    ∙ sym (openings_more 0 (take place xs) leaf)
    ∙ sym (ap (λ (l : List Leaf). openings_from 0 l) (next_item xs place leaf at))

pub range_whole : (zones : List ZoneSpec) (range place : ℕ) (state : List RangeEntry)
    → length (first_replicas zones range) ≤ place
    → state ≡ openings_from 0 (take place (first_replicas zones range)) → state ≡ first_range_history zones range
range_whole zones range place state past is =
    is ∙ ap (λ (l : List Leaf). openings_from 0 l) (take_all place (first_replicas zones range) past)

pub up_to_more : (zones : List ZoneSpec) (range place n : ℕ) (leaf : Leaf)
    → slice_get (first_replicas zones range) place ≡ Some leaf
    → opened_up_to zones range (place + 1) n
    ≡ opened_up_to zones range place n ++ cond (nat_eq n leaf.0) (opening (range_numbered range) place ∷ []) []
up_to_more zones range place n leaf at =
    let xs : List Leaf = first_replicas zones range in
    let before : List Entry = opened_before zones range n in
    let own : List Leaf → List Entry = opened_here (leaf_numbered n) (range_numbered range) 0 in
    ap (λ (l : List Leaf). before ++ own l) (next_item xs place leaf at)
    ∙ ap (λ (l : List Entry). before ++ l) (here_more (leaf_numbered n) (range_numbered range) 0 (take place xs) leaf)
    ∙ sym (append_assoc before (own (take place xs))
    (cond (nat_eq n leaf.0) (opening (range_numbered range) (0 + length (take place xs)) ∷ []) []))
    ∙ ap (λ (k : ℕ). (before ++ own (take place xs)) ++ cond (nat_eq n leaf.0) (opening (range_numbered range) k ∷ [])
    [])
    (as_many xs place leaf at)

-- ---- what may be opened

open_before : (zones : List ZoneSpec) (n range : ℕ) → IsOpen (opened_before zones range n) range 0
open_before zones n zero = record { formed = tt; up = refl; here = λ s from. refl; later = λ r s above. refl }
open_before zones n (suc range) =
    let on : range + 1 ≡ suc range = omega arith in
    let before : List Entry = opened_before zones range n in
    let one = range_opened (leaf_numbered n) range 0 (first_replicas zones range) before (open_before zones n range) in
    subst (λ (m : ℕ). IsOpen (opened_before zones m n) m 0) on
    (subst (λ (h : List Entry). IsOpen h (range + 1) 0) (sym (before_more zones range n))
    (next_range (before ++ opened_of zones (leaf_numbered n) range) range one.0 one.1))

pub open_up_to : (zones : List ZoneSpec) (n range place : ℕ) → place ≤ length (first_replicas zones range)
    → IsOpen (opened_up_to zones range place n) range place
open_up_to zones n range zero within =
    subst (λ (h : List Entry). IsOpen h range 0) (sym (append-nil (opened_before zones range n)))
    (open_before zones n range)
open_up_to zones n range (suc place) within =
    let on : place + 1 ≡ suc place = omega arith in
    let xs : List Leaf = first_replicas zones range in
    let leaf : Leaf = get_or xs place (leaf_numbered 0) in
    let at : slice_get xs place ≡ Some leaf = slice_get-get_or xs place (leaf_numbered 0) (omega (arith, within)) in
    subst (λ (m : ℕ). IsOpen (opened_up_to zones range m n) range m) on
    (subst (λ (h : List Entry). IsOpen h range (place + 1)) (sym (up_to_more zones range place n leaf at))
    (one_next (nat_eq n leaf.0) (opened_up_to zones range place n) range place
    (open_up_to zones n range place (omega (arith, within)))))

-- ---- a range's replicas

pub item_at : (firsts items : List Leaf) (place : ℕ) (d : Leaf) → items ≡ firsts → place < length items
    → slice_get firsts place ≡ Some (get_or items place d)
item_at firsts items place d same within =
    ap (λ (l : List Leaf). slice_get l place) (sym same) ∙ slice_get-get_or items place d within

-- a replica's leaf is there
pub replica_there : (zones : List ZoneSpec) (range : Range) (place : ℕ) (leaf : Leaf) → HasReplicas zones range
    → slice_get (first_replicas zones range.0) place ≡ Some leaf → leaf.0 < length (leaves_in zones)
replica_there zones range place leaf has at =
    let zoned : IsInZoneOf zones range leaf
    = all_at (IsInZoneOf zones range) (first_replicas zones range.0) leaf has.zoned
    (get_contains (first_replicas zones range.0) place leaf at) in
    subst (λ (n : ℕ). leaf.0 < n) (length-zones_of (λ (zone : ZoneSpec). zone.leaves) 0 zones) zoned.0

-- ranges one after another
pub histories_more : (zones : List ZoneSpec) (range : ℕ) (old new : List (List RangeEntry)) (state : List RangeEntry)
    → old ≡ map (first_range_history zones) (range_with_len 0 range) → state ≡ first_range_history zones range
    → new ≡ old ++ state ∷ [] → new ≡ map (first_range_history zones) (range_with_len 0 (range + 1))
histories_more zones range old new state before is added =
    let none : 0 + range ≡ range = omega arith in
    added
    ∙ (λ i. before i ++ is i ∷ [])
    ∙ sym (map-range_with_len_more (first_range_history zones) 0 range range none)
