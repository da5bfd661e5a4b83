-- What calls ask for and tell, put together for the bodies.
use Rattle.std.proofs.Common.{◌≡◌, ℕ, ◌+◌, ◌^◌, ◌%◌, ◌<◌, ◌≤◌, Bool, true, false, [], ◌∷◌, ◌++◌, length, refl, sym, ap}
use Rattle.std.proofs.Common.{subst, arith, nat_lt, not, cond}
use Rattle.std.specs.Prelude.{Some}
use mathlib.Core.Option.{none}
use Rattle.std.proofs.lemmas.Bool.Decides.{nat_tests}
use Rattle.std.proofs.lemmas.List.Sums.{sum_by-append}
use Rattle.atomic_table.specs.Table.{Allows, step}
use Rattle.mon_value.specs.declared.positions.Leaf.{Leaf}
use Rattle.mon_value.specs.declared.positions.Range.{Range}
use Rattle.history_book.specs.declared.numbers.Numbers.{Numbers}
use Rattle.history_book.specs.declared.views.BookEntry.{BookEntry}
use Rattle.history_book.specs.declared.views.History.{History}
use Rattle.history_book.specs.declared.views.History.TheVariants as of
use Rattle.history_book.specs.declared.views.SeatView.{SeatView}
use Rattle.mon_value.specs.Histories.{same_range}
use Rattle.history_book.specs.Histories.{IsFor, entries, history_numbered, is_about, numbered_as, book_entry_pass}
use Rattle.history_book.specs.Numbers.{is_spent}
use Rattle.history_book.specs.Seats.{guest_purse, hand_of, times_range, times_room}
use Rattle.history_book.specs.BookRule.{hold_count, owns}
use Rattle.history_book.specs.Steps.{Appends, Confirms, Learns, IsPromised, Seated, meeting}
use Rattle.history_book.proofs.PurseLemmas.{guest_ranges, guest_rooms, ranges_both, rooms_both}
use Rattle.history_book.proofs.PlayLemmas.{allows_append, allows_confirm, allows_learn, holds_of, owns_it}

pub has_words : (words leaves ranges : ℕ) → words ≡ leaves + ranges + 1 → 0 < words
has_words words leaves ranges e = omega arith

pub word_within : (words leaves ranges n : ℕ) → words ≡ leaves + ranges + 1 → n < leaves + ranges → n + 1 < words
word_within words leaves ranges n e low = omega arith

-- the book's name and what the book was told are the same shape
pub learn_with : (leaves ranges l r : ℕ) → l ≡ leaves → r ≡ ranges → (slots id : ℕ) (me : Seated) (n : ℕ) → n < leaves
    + ranges
    → Allows (holds_of l r) slots id me (n + 1) (λ m. m) (Learns leaves (step slots (n + 1) 0 0 none) me)
learn_with leaves ranges l r same_leaves same_ranges slots id me n low =
    subst (λ (z : ℕ × ℕ). Allows (holds_of z.0 z.1) slots id me (n + 1) (λ m. m)
    (Learns leaves (step slots (n + 1) 0 0 none) me))
    (λ i. (sym same_leaves i, sym same_ranges i)) (allows_learn leaves ranges slots id me n low)

pub confirm_with : (leaves ranges l r : ℕ) → l ≡ leaves → r ≡ ranges → (slots id : ℕ) (me : Seated)
    → Allows (holds_of l r) slots id me 0 (λ m. m) (Confirms leaves (step slots 0 0 0 none) me)
confirm_with leaves ranges l r same_leaves same_ranges slots id me =
    subst (λ (z : ℕ × ℕ). Allows (holds_of z.0 z.1) slots id me 0 (λ m. m) (Confirms leaves (step slots 0 0 0 none) me))
    (λ i. (sym same_leaves i, sym same_ranges i)) (allows_confirm leaves ranges slots id me)

pub append_with : (leaves ranges l r : ℕ) → l ≡ leaves → r ≡ ranges
    → (slots id : ℕ) (me : Seated) (n : ℕ) (e : BookEntry) → n < leaves + ranges → IsFor (history_numbered leaves n) e
    → me.0.owns ≡ history_numbered leaves n ∷ []
    → length (entries me.0.seen (history_numbered leaves n)) < 2 ^ 62
    → (hand_of (guest_purse me.0.purse)).own ≡ Some (book_entry_pass e)
    → ((range : Range) → is_about range e ≡ true → 0 < hold_count range me.0)
    → Allows (holds_of l r) slots id me (n + 1) (λ m. (m + 1) % 2 ^ 64) (Appends e (step slots (n + 1) 1 0 none) me)
append_with leaves ranges l r same_leaves same_ranges slots id me n e low fits owns_is room number about =
    subst (λ (z : ℕ × ℕ). Allows (holds_of z.0 z.1) slots id me
    (n + 1) (λ m. (m + 1) % 2 ^ 64) (Appends e (step slots (n + 1) 1 0 none) me))
    (λ i. (sym same_leaves i, sym same_ranges i)) (allows_append leaves ranges slots id me n e low fits owns_is room
    number about)

-- what an owner or its guest holds
pub holds_guests : (range : Range) (v : SeatView) → 0 < times_range range
    (v.held ++ (guest_purse v.purse).holds) → 0 < hold_count range v
holds_guests range v has =
    let both : times_range range (v.held ++ (guest_purse v.purse).holds) ≡ times_range range v.held + times_range range
    (guest_purse v.purse).holds =
    sum_by-append (λ other. cond (same_range range other) 1 0) v.held (guest_purse v.purse).holds in
    let same = guest_ranges range v.purse in
    omega arith

less_by : (n m : ℕ) (b : Bool) → nat_lt n m ≡ b → not b ≡ false → n < m
less_by n m true e no_end = grind (arith, nat_tests)
less_by n m false e no_end = absurd (grind (arith, nat_tests))

pub more_left : (numbers stock : Numbers) → is_spent numbers ≡ false → numbers ≡ stock → stock.from < stock.to
more_left numbers stock no_end e =
    subst (λ (s : Numbers). s.from < s.to) e (less_by numbers.from numbers.to (nat_lt numbers.from numbers.to) refl
    no_end)

-- what a guest brought is held by who met it
pub lent_is_held : (range : Range) (v u : SeatView) → 0 < times_range range (guest_purse u.purse).holds
    → 0 < hold_count range (meeting v u)
lent_is_held range v u lent = let a = guest_ranges range u.purse in let b = ranges_both range v.purse u.purse in
    omega arith

-- so is what it held itself
pub first_held : (range : Range) (v : SeatView) → 0 < times_range range v.held
    → 0 < times_range range (v.held ++ (guest_purse v.purse).holds)
first_held range v mine =
    let both : times_range range (v.held ++ (guest_purse v.purse).holds) ≡ times_range range v.held + times_range range
    (guest_purse v.purse).holds =
    sum_by-append (λ other. cond (same_range range other) 1 0) v.held (guest_purse v.purse).holds in
    omega arith

pub mine_is_held : (range : Range) (v u : SeatView) → 0 < times_range range v.held → 0 < hold_count range (meeting v u)
mine_is_held range v u mine = omega arith

abbrev number_in : History → ℕ → ℕ
number_in (of.Leaf leaf) d = leaf.0
number_in (of.Range range) d = d

abbrev is_range : History → Type 0
is_range (of.Leaf leaf) = ⊥
is_range (of.Range range) = Unit {0}

below_by : (leaves n : ℕ) (leaf : Leaf) (b : Bool) → nat_lt n leaves ≡ b → numbered_as b leaves n ≡ of.Leaf leaf
    → leaf.0 < leaves
below_by leaves n leaf true e is = let same : n ≡ leaf.0 = ap (λ h. number_in h n) is in
    let low : n < leaves = grind (arith, nat_tests) in omega arith
below_by leaves n leaf false e is = absurd (subst is_range is tt)

leaf_below : (leaves n : ℕ) (leaf : Leaf) → history_numbered leaves n ≡ of.Leaf leaf → leaf.0 < leaves
leaf_below leaves n leaf is = below_by leaves n leaf (nat_lt n leaves) refl is

-- an owner of a leaf's history promised the rooms that its guest has there
pub guest_rooms_promised : (leaves n : ℕ) (leaf : Leaf) (v u : SeatView) → v.owns
    ≡ history_numbered leaves n ∷ [] → history_numbered leaves n ≡ of.Leaf leaf → IsPromised leaves (meeting v u)
    → times_room leaf (guest_purse u.purse).rooms ≤ v.promised
guest_rooms_promised leaves n leaf v u owns_is is promised =
    let low = leaf_below leaves n leaf is in
    let own : 0 < owns (of.Leaf leaf) (meeting v u) = subst (λ h. 0 < owns h v) is (owns_it leaves n v owns_is) in
    let all = promised leaf.0 low own in
    let both = rooms_both leaf v.purse u.purse in
    let mine = guest_rooms leaf u.purse in
    omega arith
