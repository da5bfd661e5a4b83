-- New owners of a book, and a history that has grown by an entry.
use Rattle.std.proofs.Common.{◌≡◌, ℕ, zero, suc, ◌+◌, ◌<◌, true, false, [], length}
use Rattle.std.proofs.Common.{map, refl, sym, ap, ◌∙◌, subst, arith, nat_lt}
use Rattle.std.specs.Prelude.{None, All}
use Rattle.std.proofs.lemmas.Bool.Decides.{nat_tests}
use Rattle.std.proofs.lemmas.List.{length_push}
use Rattle.std.proofs.lemmas.List.Elements.{All-cons, All-map, All-nil}
use Rattle.history_book.specs.declared.rooms.RoomMove.TheVariants as move
use Rattle.history_book.specs.declared.views.BookEntry.{BookEntry}
use Rattle.history_book.specs.declared.views.BookEntry.TheVariants as one
use Rattle.history_book.specs.declared.views.History.{History}
use Rattle.history_book.specs.declared.views.History.TheVariants as of
use Rattle.mon_value.specs.declared.histories.Entry.{Entry}
use Rattle.history_book.specs.Histories.{IsFor, IsOfLeaf, entries, histories_in, history_numbered}
use Rattle.history_book.specs.Histories.{numbered_as, numbers_on}
use Rattle.history_book.specs.Seats.{Owner, Seat, after_append, after_parting, new_owner, with_guest}
use Rattle.history_book.proofs.HistoryLemmas.{entries_added, no_entries_at}

abbrev pub IsNew : Owner → Type 0
IsNew owner = (owner.guest ≡ None) × (entries owner.seen owner.history ≡ []) × IsOfLeaf owner.history

all_numbers : (P : ℕ → Type 0) (first count : ℕ) → ((n : ℕ) → n < first + count → P n) → All P (numbers_on first count)
all_numbers P first zero each = All-nil P
all_numbers P first (suc count) each =
    All-cons P first (numbers_on (first + 1) count) (each first (omega arith)) (all_numbers P (first + 1) count
    (λ n low. each n (omega arith)))

leaf_below : (leaves n : ℕ) → n < leaves → IsOfLeaf (history_numbered leaves n)
leaf_below leaves n low = let e : nat_lt n leaves ≡ true = grind (arith, nat_tests) in
    subst (λ b. IsOfLeaf (numbered_as b leaves n)) (sym e) refl

pub owners_are_new : (leaves ranges : ℕ) → ranges ≡ 0
    → All IsNew (map (new_owner leaves ranges) (histories_in leaves ranges))
owners_are_new leaves ranges none =
    All-map IsNew (new_owner leaves ranges) (histories_in leaves ranges)
    (All-map (λ h. IsNew (new_owner leaves ranges h)) (history_numbered leaves) (numbers_on 0 (leaves + ranges))
    (all_numbers (λ n. IsNew (new_owner leaves ranges (history_numbered leaves n))) 0 (leaves + ranges)
    (λ n low. (refl, no_entries_at leaves ranges (history_numbered leaves n), leaf_below leaves n (omega arith)))))

pub fits_leaf : (h : History) (e : BookEntry) (x : Entry) → IsOfLeaf h → e ≡ one.Leaf x → IsFor h e
fits_leaf (of.Leaf leaf) e x is same = subst (IsFor (of.Leaf leaf)) (sym same) tt
fits_leaf (of.Range range) e x is same = absurd (grind (arith, nat_tests))

-- a guest came, an entry was appended, and the guest went
pub grown_by_one : (before met after parted : Owner) (other : Seat) (e : BookEntry) → met ≡ with_guest other before
    → entries met.seen before.history ≡ entries before.seen before.history
    → after ≡ after_append e met → parted ≡ after_parting move.Keep false after → IsFor before.history e
    → length (entries parted.seen parted.history) ≡ length (entries before.seen before.history) + 1
grown_by_one before met after parted other e met_is whole after_is parted_is fits =
    let h = before.history in
    let same : met.history ≡ h = ap (λ o. o.history) met_is in
    let last : parted ≡ after_parting move.Keep false (after_append e met) = parted_is
    ∙ ap (after_parting move.Keep false) after_is in
    let seen : entries parted.seen parted.history ≡ entries (after_append e met).seen met.history
    = ap (λ o. entries o.seen o.history) last in
    let fits' : IsFor met.history e = subst (λ g. IsFor g e) (sym same) fits in
    ap length seen ∙ ap length (entries_added met.history e met.seen fits')
    ∙ length_push (entries met.seen met.history) e
    ∙ ap (λ g. length (entries met.seen g) + 1) same ∙ ap (λ xs. length xs + 1) whole
