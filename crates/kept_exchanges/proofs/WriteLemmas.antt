-- Rows of a table, one of which is written over.
use Rattle.std.proofs.Common.{◌≡◌, ◌∙◌, ◌++◌, ◌+◌, ◌<◌, ◌≤◌, ℕ, zero, suc, false, Option, Some, None, List, [], ◌∷◌, append-nil, append_assoc}
use Rattle.std.proofs.Common.{drop, get_or, length, set, slice_get, refl, sym, ap, subst, arith, true}
use Rattle.std.specs.List.{AllByRecursion, cons_option}
use Rattle.std.specs.List.Sorted.{IsPermutation}
use Rattle.std.specs.Option.{option_to_list}
use Rattle.std.proofs.lemmas.List.{map-append}
use Rattle.std.proofs.lemmas.List.Sorted.{IsPermutation-cons, IsPermutation-middle, IsPermutation-refl, IsPermutation-sym}
use Rattle.std.proofs.lemmas.List.Sorted.{IsPermutation-to_front, IsPermutation-trans}
use Rattle.mon_value.specs.Same.{same_row}
use Rattle.mon_value.specs.declared.tables.TimedRow.{TimedRow}
use Rattle.mon_value.proofs.PermutationLemmas.{front_exchanged}
use Rattle.mon_value.proofs.PlainLemmas.{nothing_is, same_item}
use Rattle.mon_value.proofs.SameLemmas.{same_row-Decides}
use Rattle.mon_meaning.proofs.FilterLemmas.{all-permutation}
use Rattle.kept_groups.proofs.PlaceLemmas.{Placed, placed}
use Rattle.kept_exchanges.specs.declared.exchanges.Exchange.{Exchange}
use Rattle.kept_exchanges.specs.Exchanges.{IsOneExchanged, comes, gones}

-- ---- what stands at a place

-- a list with an item at a place, and with another one there
pub record Stands {A : Type 0} (xs : List A) (i : ℕ) (gone come : A) : Type 0 where
  pub front : List A
  pub back : List A
  pub before : xs ≡ front ++ gone ∷ back
  pub after : set xs i come ≡ front ++ come ∷ back

pub stands : {A : Type 0} (xs : List A) (i : ℕ) (gone come : A) → slice_get xs i ≡ Some gone → Stands xs i gone come
stands [] i gone come e = absurd (nothing_is gone e)
stands (x ∷ xs) zero gone come e = record {
  front = [];
  back = xs;
  before = ap (λ y. y ∷ xs) (same_item x gone e);
  after = refl;
}
stands (x ∷ xs) (suc i) gone come e =
    let rest = stands xs i gone come e in record {
      front = x ∷ rest.front;
      back = rest.back;
      before = ap (λ ys. x ∷ ys) rest.before;
      after = ap (λ ys. x ∷ ys) rest.after;
    }

module _ {A : Type 0} (gone come : A) where
  -- others, with the item that comes in the place of the one that goes
  others_with : (front back rest others : List A) → gone ∷ rest ≡ front ++ gone ∷ back
      → IsPermutation others (front ++ come ∷ back) → IsPermutation others (come ∷ rest)
  others_with [] back rest others is same =
      let left : rest ≡ back = cc in
      subst (λ l. IsPermutation others (come ∷ l)) (sym left) same
  others_with (x ∷ front) back rest others is same =
      let first : gone ≡ x = cc in
      let left : rest ≡ front ++ gone ∷ back = cc in
      let with_it = subst (λ y. IsPermutation others (y ∷ (front ++ come ∷ back))) (sym first) same in
      let moved : IsPermutation (gone ∷ (front ++ come ∷ back)) (come ∷ (front ++ gone ∷ back)) =
      IsPermutation-trans _ _ _ (IsPermutation-cons gone _ _ (IsPermutation-middle front come back))
      (IsPermutation-trans _ _ _ (front_exchanged (gone ∷ []) (come ∷ []) (front ++ back))
      (IsPermutation-cons come _ _ (IsPermutation-sym _ _ (IsPermutation-middle front gone back)))) in
      subst (λ l. IsPermutation others (come ∷ l)) (sym left) (IsPermutation-trans _ _ _ with_it moved)

  -- a list is written where an item stands
  pub written : (xs rest : List A) (i : ℕ) → slice_get xs i ≡ Some gone → IsPermutation (gone ∷ rest) xs
      → IsPermutation (come ∷ rest) (set xs i come)
  written xs rest i there same =
      let at = stands xs i gone come there in
      let apart : IsPermutation (gone ∷ (at.front ++ at.back)) (gone ∷ rest) =
      IsPermutation-trans _ _ _ (IsPermutation-sym _ _ (IsPermutation-middle at.front gone at.back))
      (IsPermutation-sym _ _ (subst (IsPermutation (gone ∷ rest)) at.before same)) in
      let moved : Placed gone come (come ∷ (at.front ++ at.back)) (gone ∷ rest) =
      placed gone come (at.front ++ at.back) (gone ∷ rest) apart in
      let with_it : IsPermutation (come ∷ (at.front ++ at.back)) (come ∷ rest) =
      others_with moved.front moved.back rest (come ∷ (at.front ++ at.back)) moved.stands moved.same in
      subst (IsPermutation (come ∷ rest)) (sym at.after)
      (IsPermutation-sym _ _ (IsPermutation-trans _ _ _ (IsPermutation-middle at.front come at.back) with_it))

-- a row that is none of some isn't among them
pub is_there : {P : Type 0} (gone : TimedRow) (rest rows : List TimedRow)
    → AllByRecursion (λ (row : TimedRow). same_row gone row ≡ false) rows → IsPermutation (gone ∷ rest) rows → P
is_there gone rest rows none same =
    let all = all-permutation (λ (row : TimedRow). same_row gone row ≡ false) rows (gone ∷ rest) (IsPermutation-sym _ _ same)
    none in
    let own : same_row gone gone ≡ true = (same_row-Decides gone gone).1 refl in
    let other = all.0 in
    absurd cc

pub none_passed : (P : TimedRow → Type 0) (rows : List TimedRow) (i : ℕ) (d : TimedRow) → i < length rows
    → P (get_or rows i d) → AllByRecursion P (drop (i + 1) rows) → AllByRecursion P (drop i rows)
none_passed P [] i d h here rest = absurd (omega arith)
none_passed P (row ∷ rows) zero d h here rest = (here, rest)
none_passed P (row ∷ rows) (suc i) d h here rest =
    let next : suc i + 1 ≡ suc (i + 1) = omega arith in
    none_passed P rows i d (omega arith) here (subst (λ n. AllByRecursion P (drop n (row ∷ rows))) next rest)

pub none_left : (P : TimedRow → Type 0) (rows : List TimedRow) (i : ℕ) → length rows ≤ i → AllByRecursion P (drop i rows)
none_left P [] zero h = tt
none_left P [] (suc i) h = tt
none_left P (row ∷ rows) zero h = absurd (omega arith)
none_left P (row ∷ rows) (suc i) h = none_left P rows i (omega arith)

pub found_at : (rows : List TimedRow) (i : ℕ) (d one : TimedRow) → i < length rows
    → same_row one (get_or rows i d) ≡ true → slice_get rows i ≡ Some one
found_at [] i d one h e = absurd (omega arith)
found_at (row ∷ rows) zero d one h e = ap (λ (r : TimedRow). Some r) (sym ((same_row-Decides one row).0 e))
found_at (row ∷ rows) (suc i) d one h e = found_at rows i d one (omega arith) e

pub pushed : {A : Type 0} (rows rest : List A) (come : A) → IsPermutation rest rows
    → IsPermutation (come ∷ rest) (rows ++ come ∷ [])
pushed rows rest come same =
    IsPermutation-trans _ _ _ (IsPermutation-cons come rest rows same)
    (IsPermutation-sym _ _ (IsPermutation-to_front rows come))

-- ---- one exchange after another

with_gone : (o : Option TimedRow) (left rest : List TimedRow)
    → cons_option o left ++ rest ≡ option_to_list o ++ (left ++ rest)
with_gone None left rest = refl
with_gone (Some row) left rest = refl

pub one_more : (done left : List Exchange) (exchange : Exchange) (before after rest : List TimedRow)
    → IsOneExchanged exchange before after
    → IsPermutation (gones (exchange ∷ left) ++ (comes done ++ rest)) before
    → IsPermutation (gones left ++ (comes (done ++ exchange ∷ []) ++ rest)) after
one_more done left exchange before after rest changed same =
    let others = gones left ++ (comes done ++ rest) in
    let came : IsPermutation (exchange.come ∷ others) after =
    changed others (subst (λ l. IsPermutation l before) (with_gone exchange.gone (gones left) (comes done ++ rest)) same) in
    let behind : gones left ++ (comes (done ++ exchange ∷ []) ++ rest)
    ≡ (gones left ++ comes done) ++ exchange.come ∷ rest =
    ap (λ l. gones left ++ (l ++ rest)) (map-append (λ (one : Exchange). one.come) done (exchange ∷ []))
    ∙ ap (λ l. gones left ++ l) (append_assoc (comes done) (exchange.come ∷ []) rest)
    ∙ sym (append_assoc (gones left) (comes done) (exchange.come ∷ rest)) in
    let front : IsPermutation ((gones left ++ comes done) ++ exchange.come ∷ rest) (exchange.come ∷ others) =
    subst (λ l. IsPermutation ((gones left ++ comes done) ++ exchange.come ∷ rest) (exchange.come ∷ l))
    (append_assoc (gones left) (comes done) rest)
    (IsPermutation-middle (gones left ++ comes done) exchange.come rest) in
    subst (λ l. IsPermutation l after) (sym behind) (IsPermutation-trans _ _ _ front came)
