-- Histories by number, and what changed copies of them have.
use Rattle.std.proofs.Common.{◌≡◌, ℕ, zero, suc, ◌≤◌, ◌⊎◌, inl, inr, Bool, true, false, List, [], ◌∷◌, ◌++◌, map}
use Rattle.std.proofs.Common.{get_or, replicate, refl, sym, ap, ◌∙◌, arith, nat_eq, nat_lt}
use mathlib.Core.List.{IsPrefix}
use Rattle.std.proofs.lemmas.Bool.Decides.{nat_tests}
use Rattle.std.proofs.lemmas.List.{map-append}
use Rattle.mon_value.specs.declared.histories.Entry.{Entry}
use Rattle.mon_value.specs.declared.histories.RangeEntry.{RangeEntry}
use Rattle.mon_value.specs.Histories.{longer, leaf_history, joined_histories, range_history}
use Rattle.mon_value.proofs.FartherLemmas.{longer_each-get}
use Rattle.history_book.specs.declared.views.BookEntry.{BookEntry}
use Rattle.history_book.specs.declared.views.BookEntry.TheVariants as one
use Rattle.mon_value.specs.declared.histories.Histories.{Histories}
use Rattle.history_book.specs.declared.views.History.{History}
use Rattle.history_book.specs.declared.views.History.TheVariants as of
use Rattle.history_book.specs.Histories.{AreFronts, IsFor, empty_histories, entries, history_numbered}
use Rattle.history_book.specs.Histories.{history_number, numbered_as, same_history}
use Rattle.history_book.specs.Histories.{with_book_entry}
use Rattle.history_book.proofs.ListLemmas.{added_else, added_here, map_longer, prefix_unmapped}
use Rattle.mon_value.proofs.PlainLemmas.{equal_means}

-- ---- which history

pub same_history_refl : (h : History) → same_history h h ≡ true
same_history_refl (of.Leaf leaf) = let n : ℕ = leaf.0 in let e : nat_eq n n ≡ true = grind (arith, nat_tests) in e
same_history_refl (of.Range range) = let n : ℕ = range.0 in let e : nat_eq n n ≡ true = grind (arith, nat_tests) in e

same_if_same : (h g : History) → same_history h g ≡ true → h ≡ g
same_if_same (of.Leaf a) (of.Leaf b) e = ap (λ n. of.Leaf (record { 0 = n })) (equal_means a.0 b.0 e)
same_if_same (of.Leaf a) (of.Range b) e = absurd (grind (arith, nat_tests))
same_if_same (of.Range a) (of.Leaf b) e = absurd (grind (arith, nat_tests))
same_if_same (of.Range a) (of.Range b) e = ap (λ n. of.Range (record { 0 = n })) (equal_means a.0 b.0 e)

same_by : (h g : History) (b : Bool) → same_history h g ≡ b → (h ≡ g) ⊎ (same_history h g ≡ false)
same_by h g true e = inl (same_if_same h g e)
same_by h g false e = inr e

pub same_cases : (h g : History) → (h ≡ g) ⊎ (same_history h g ≡ false)
same_cases h g = same_by h g (same_history h g) refl

numbered_by : (leaves n m : ℕ) (b c : Bool) → nat_lt n leaves ≡ b → nat_lt m leaves ≡ c
    → same_history (numbered_as b leaves n) (numbered_as c leaves m) ≡ nat_eq n m
numbered_by leaves n m true true e f = refl
numbered_by leaves n m true false e f = let r : nat_eq n m ≡ false = grind (arith, nat_tests) in sym r
numbered_by leaves n m false true e f = let r : nat_eq n m ≡ false = grind (arith, nat_tests) in sym r
numbered_by leaves n m false false e f = grind (arith, nat_tests)

-- two numbers of histories that are one history are one number
pub numbered_once : (leaves n m : ℕ) → same_history (history_numbered leaves n) (history_numbered leaves m) ≡ nat_eq n m
numbered_once leaves n m = numbered_by leaves n m (nat_lt n leaves) (nat_lt m leaves) refl refl

back_by : (leaves n : ℕ) (b : Bool) → nat_lt n leaves ≡ b → history_number leaves (numbered_as b leaves n) ≡ n
back_by leaves n true e = refl
back_by leaves n false e = let high : leaves ≤ n = grind (arith, nat_tests) in omega arith

-- the number of a history that has one
pub numbered_back : (leaves n : ℕ) → history_number leaves (history_numbered leaves n) ≡ n
numbered_back leaves n = back_by leaves n (nat_lt n leaves) refl

-- ---- the longer copies

pub entries_longer : (a b : Histories) (h : History) → entries (joined_histories a b) h
    ≡ longer (entries a h) (entries b h)
entries_longer a b (of.Leaf leaf) =
    ap (map (λ e. one.Leaf e)) (longer_each-get a.leaves b.leaves leaf.0) ∙ map_longer
    (λ e. one.Leaf e) (leaf_history a leaf) (leaf_history b leaf)
entries_longer a b (of.Range range) =
    ap (map (λ e. one.Range e)) (longer_each-get a.ranges b.ranges range.0) ∙ map_longer
    (λ e. one.Range e) (range_history a range) (range_history b range)

-- ---- an entry more

pub entries_added : (h : History) (e : BookEntry) (a : Histories) → IsFor h e
    → entries (with_book_entry h e a) h ≡ entries a h ++ e ∷ []
entries_added (of.Leaf leaf) (one.Leaf e) a fits =
    ap (map (λ x. one.Leaf x)) (added_here leaf.0 e a.leaves) ∙ map-append (λ x. one.Leaf x) (leaf_history a leaf)
    (e ∷ [])
entries_added (of.Leaf leaf) (one.Range e) a fits = absurd fits
entries_added (of.Range range) (one.Leaf e) a fits = absurd fits
entries_added (of.Range range) (one.Range e) a fits =
    ap (map (λ x. one.Range x)) (added_here range.0 e a.ranges) ∙ map-append (λ x. one.Range x) (range_history a range)
    (e ∷ [])

other_number : (n m : ℕ) → nat_eq n m ≡ false → m ≡ n → ⊥
other_number n m e f = grind (arith, nat_tests)

pub entries_else : (h g : History) (e : BookEntry) (a : Histories) → same_history h g ≡ false
    → entries (with_book_entry h e a) g ≡ entries a g
entries_else (of.Leaf x) (of.Leaf y) (one.Leaf e) a apart =
    ap (map (λ z. one.Leaf z)) (added_else x.0 y.0 e a.leaves (other_number x.0 y.0 apart))
entries_else (of.Leaf x) (of.Range y) (one.Leaf e) a apart = refl
entries_else (of.Leaf x) g (one.Range e) a apart = refl
entries_else (of.Range x) g (one.Leaf e) a apart = refl
entries_else (of.Range x) (of.Leaf y) (one.Range e) a apart = refl
entries_else (of.Range x) (of.Range y) (one.Range e) a apart =
    ap (map (λ z. one.Range z)) (added_else x.0 y.0 e a.ranges (other_number x.0 y.0 apart))

-- ---- beginnings of all

abbrev the_leaf_entry : BookEntry → Entry → Entry
the_leaf_entry (one.Leaf e) d = e
the_leaf_entry (one.Range e) d = d

abbrev the_range_entry : BookEntry → RangeEntry → RangeEntry
the_range_entry (one.Leaf e) d = d
the_range_entry (one.Range e) d = e

pub fronts : (a b : Histories) → ((h : History) → IsPrefix (entries a h) (entries b h)) → AreFronts a b
fronts a b all = (
  (λ leaf. prefix_unmapped (λ e. one.Leaf e) the_leaf_entry
      (λ x d. refl) (leaf_history a leaf) (leaf_history b leaf) (all (of.Leaf leaf))),
  (λ range. prefix_unmapped (λ e. one.Range e) the_range_entry
      (λ x d. refl) (range_history a range) (range_history b range) (all (of.Range range))),
)

-- ---- a new book

abbrev pub nothing : (X : Type 0) → List X
nothing X = []

pub none_at : {X : Type 0} (n i : ℕ) → get_or (replicate n (nothing X)) i (nothing X) ≡ nothing X
none_at zero i = refl
none_at (suc n) zero = refl
none_at (suc n) (suc i) = none_at n i

pub no_entries_at : (leaves ranges : ℕ) (h : History) → entries (empty_histories leaves ranges) h ≡ []
no_entries_at leaves ranges (of.Leaf leaf) = ap (map (λ e. one.Leaf e)) (none_at leaves leaf.0)
no_entries_at leaves ranges (of.Range range) = ap (map (λ e. one.Range e)) (none_at ranges range.0)
