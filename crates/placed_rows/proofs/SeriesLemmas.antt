-- Rows of series that are written and pushed.
use Rattle.std.proofs.Common.{◌≡◌, ◌∙◌, ◌<◌, ◌≤◌, ◌+◌, ◌-◌, ℕ, zero, suc, Bool, true, false, cond, Option, Some, None, List, []}
use Rattle.std.proofs.Common.{◌∷◌, ◌++◌, map, length, get_or, set, slice_get, slice_set, nat_eq, nat_lt, IsPermutation, refl}
use Rattle.std.proofs.Common.{sym, ap, subst, append_assoc, append-nil, length-append, arith}
use Rattle.std.specs.Prelude.{IfSome, OnOk, Vec, vec_capacity}
use Rattle.std.proofs.Common.{Result, Ok, Err}
use Rattle.std.specs.declared.alloc.Global.{Global}
use Rattle.std.specs.List.{AllByRecursion, IsDistinct, cons_option, flat_map}
use Rattle.std.proofs.lemmas.List.{get_or-append_right, get_or-map, length-map}
use Rattle.std.proofs.lemmas.Grind.{flat_map-append}
use Rattle.std.proofs.lemmas.List.Elements.{filter_map-append}
use Rattle.std.proofs.lemmas.List.Sorted.{IsPermutation-append_left, IsPermutation-append_comm}
use Rattle.std.proofs.lemmas.List.Sorted.{IsPermutation-append_right, IsPermutation-sym, IsPermutation-trans}
use Rattle.std.proofs.lemmas.Map.Keys.{IsDistinct-IsPermutation}
use Rattle.mon_value.specs.declared.tables.TimedRow.{TimedRow}
use Rattle.mon_value.proofs.PermutationLemmas.{along_permutation}
use Rattle.mon_value.proofs.PlainLemmas.{all_back, all_front, get_or-front, less}
use Rattle.placed_rows.specs.Placed.{AreAllPlaces, AreOthers, HasRoomAt, all_places, placed, places_seen, put_at, series_of}
use Rattle.placed_rows.proofs.PlacedLemmas as one

abbrev flat : List (List ℕ) → List ℕ
flat places = flat_map (λ at. at) places

-- ---- places that differ, and are within the table

turned_by : (a b : ℕ) (p q : Bool) → nat_eq a b ≡ p → nat_eq b a ≡ q → p ≡ q
turned_by a b true true e f = refl
turned_by a b false false e f = refl
turned_by a b true false e f = absurd (grind arith)
turned_by a b false true e f = absurd (grind arith)

turned : (a b : ℕ) → nat_eq a b ≡ nat_eq b a
turned a b = turned_by a b (nat_eq a b) (nat_eq b a) refl refl

others_behind : (place : ℕ) (at : List ℕ) → AreOthers place at → AreOthers (suc place) (map suc at)
others_behind place [] all = tt
others_behind place (other ∷ at) all = (grind (arith, all.0), others_behind place at all.1)

first_apart : (at : List ℕ) → AreOthers 0 (map suc at)
first_apart [] = tt
first_apart (place ∷ at) = let other : nat_eq 0 (suc place) ≡ false = grind arith in (other, first_apart at)

distinct_behind : (at : List ℕ) → IsDistinct nat_eq at → IsDistinct nat_eq (map suc at)
unfolding IsDistinct
distinct_behind [] distinct = tt
distinct_behind (place ∷ at) distinct = (others_behind place at distinct.0, distinct_behind at distinct.1)

all_distinct : (rows : List TimedRow) → IsDistinct nat_eq (all_places rows)
unfolding IsDistinct
all_distinct [] = tt
all_distinct (row ∷ rows) = (first_apart (all_places rows), distinct_behind (all_places rows) (all_distinct rows))

within_behind : (n : ℕ) (at : List ℕ) → AllByRecursion (λ place. place < n) at
    → AllByRecursion (λ place. place < suc n) (map suc at)
within_behind n [] all = tt
within_behind n (place ∷ at) all = let first = all.0 in (omega (arith, first), within_behind n at all.1)

all_within : (rows : List TimedRow) → AllByRecursion (λ place. place < length rows) (all_places rows)
all_within [] = tt
all_within (row ∷ rows) =
    let more : suc (length rows) ≡ length (row ∷ rows) = omega arith in (
      omega arith,
      subst (λ n. AllByRecursion (λ place. place < n) (map suc (all_places rows))) more
          (within_behind (length rows) (all_places rows) (all_within rows)),
    )

all_alike : {A : Type 0} (P : A → Type 0) (xs ys : List A) → IsPermutation xs ys → AllByRecursion P xs → AllByRecursion P ys
all_alike P =
    along_permutation (λ xs ys. AllByRecursion P xs → AllByRecursion P ys) (λ xs all. all)
    (λ x xs ys h all. (all.0, h all.1)) (λ x y xs all. (all.1.0, (all.0, all.1.1))) (λ xs ys zs h g all. g (h all))

module _ (rows : List TimedRow) (places : List (List ℕ)) (once : AreAllPlaces rows places) where
  pub places_distinct : IsDistinct nat_eq (flat places)
  places_distinct =
      IsDistinct-IsPermutation nat_eq turned (all_places rows) (flat places)
      (IsPermutation-sym (flat places) (all_places rows) once) (all_distinct rows)

  pub places_within : AllByRecursion (λ place. place < length rows) (flat places)
  places_within = all_alike (λ place. place < length rows) (all_places rows) (flat places)
      (IsPermutation-sym (flat places) (all_places rows) once) (all_within rows)

distinct_back : (at more : List ℕ) → IsDistinct nat_eq (at ++ more) → IsDistinct nat_eq more
unfolding IsDistinct
distinct_back [] more distinct = distinct
distinct_back (place ∷ at) more distinct = distinct_back at more distinct.1

distinct_front : (at more : List ℕ) → IsDistinct nat_eq (at ++ more) → IsDistinct nat_eq at
unfolding IsDistinct
distinct_front [] more distinct = tt
distinct_front (place ∷ at) more distinct =
    (all_front (λ other. nat_eq place other ≡ false) at more distinct.0, distinct_front at more distinct.1)

-- ---- a place among places

others_at : (place : ℕ) (at : List ℕ) (n d : ℕ) → AreOthers place at → n < length at → nat_eq place (get_or at n d) ≡ false
others_at place [] n d all h = absurd (omega arith)
others_at place (other ∷ at) zero d all h = all.0
others_at place (other ∷ at) (suc n) d all h = others_at place at n d all.1 (omega arith)

within_at : (most : ℕ) (at : List ℕ) (n d : ℕ) → AllByRecursion (λ place. place < most) at → n < length at
    → get_or at n d < most
within_at most [] n d all h = absurd (omega arith)
within_at most (other ∷ at) zero d all h = all.0
within_at most (other ∷ at) (suc n) d all h = within_at most at n d all.1 (omega arith)

-- a place of the first differs from all behind it
apart_from : (at more : List ℕ) (n d : ℕ) → IsDistinct nat_eq (at ++ more) → n < length at → AreOthers (get_or at n d) more
unfolding IsDistinct
apart_from [] more n d distinct h = absurd (omega arith)
apart_from (place ∷ at) more zero d distinct h = all_back (λ other. nat_eq place other ≡ false) at more distinct.0
apart_from (place ∷ at) more (suc n) d distinct h = apart_from at more n d distinct.1 (omega arith)

-- a place behind differs from all of the first
apart_to : (at more : List ℕ) (n d : ℕ) → IsDistinct nat_eq (at ++ more) → n < length more → AreOthers (get_or more n d) at
unfolding IsDistinct
apart_to [] more n d distinct h = tt
apart_to (place ∷ at) more n d distinct h = (
  turned (get_or more n d) place
      ∙ others_at place more n d (all_back (λ other. nat_eq place other ≡ false) at more distinct.0) h,
  apart_to at more n d distinct.1 h,
)

-- ---- a row of a series is written

written_own : (rows : List TimedRow) (at : List ℕ) (n d : ℕ) (row : TimedRow) → IsDistinct nat_eq at
    → AllByRecursion (λ place. place < length rows) at → n < length at
    → placed (slice_set rows (get_or at n d) row) at ≡ set (placed rows at) n row
unfolding IsDistinct
written_own rows [] n d row distinct within h = absurd (omega arith)
written_own rows (place ∷ at) zero d row distinct within h =
    let own = one.get_own rows place row within.0 in
    let rest = one.written rows place row at distinct.0 in
    let first = one.get_there rows place row within.0 in
    (λ i. cons_option (own i) (rest i)) ∙ sym (ap (λ o. set (cons_option o (placed rows at)) 0 row) first.1)
written_own rows (place ∷ at) (suc n) d row distinct within h =
    let other = turned (get_or at n d) place ∙ others_at place at n d distinct.0 (omega arith) in
    let own = one.get_other rows (get_or at n d) place row other in
    let first = one.get_there rows place row within.0 in
    let rest = written_own rows at n d row distinct.1 within.1 (omega arith) in
    (λ i. cons_option (own i) (rest i))
    ∙ ap (λ o. cons_option o (set (placed rows at) n row)) first.1
    ∙ sym (ap (λ o. set (cons_option o (placed rows at)) (suc n) row) first.1)

series_apart : (rows : List TimedRow) (place : ℕ) (row : TimedRow) (places : List (List ℕ)) → AreOthers place (flat places)
    → series_of (slice_set rows place row) places ≡ series_of rows places
series_apart rows place row [] all = refl
series_apart rows place row (at ∷ places) all =
    let first = one.written rows place row at (all_front (λ other. nat_eq place other ≡ false) at (flat places) all) in
    let rest = series_apart rows place row places (all_back (λ other. nat_eq place other ≡ false) at (flat places) all) in
    λ i. first i ∷ rest i

flat_at : (places : List (List ℕ)) (series n d : ℕ) → series < length places → n < length (get_or places series [])
    → (m : ℕ) × (m < length (flat places)) × (get_or (flat places) m d ≡ get_or (get_or places series []) n d)
flat_at [] series n d h k = absurd (omega arith)
flat_at (at ∷ places) zero n d h k = (n, omega (arith, k, length-append at (flat places)), get_or-front at (flat places) n d k)
flat_at (at ∷ places) (suc series) n d h k =
    let found = flat_at places series n d (omega arith) k in
    let m = found.0 in
    let left : (length at + m) - length at ≡ m = omega arith in (
      length at + m,
      omega (arith, found.1, length-append at (flat places)),
      get_or-append_right at (flat places) (length at) (length at + m) d refl (omega arith)
          ∙ ap (λ i. get_or (flat places) i d) left
          ∙ found.2,
    )

pub series_written : (rows : List TimedRow) (places : List (List ℕ)) (series n d : ℕ) (row : TimedRow)
    → IsDistinct nat_eq (flat places) → AllByRecursion (λ place. place < length rows) (flat places)
    → series < length places → n < length (get_or places series [])
    → series_of (slice_set rows (get_or (get_or places series []) n d) row) places
    ≡ set (series_of rows places) series (set (placed rows (get_or places series [])) n row)
series_written rows [] series n d row distinct within h k = absurd (omega arith)
series_written rows (at ∷ places) zero n d row distinct within h k =
    let first = written_own rows at n d row (distinct_front at (flat places) distinct)
    (all_front (λ place. place < length rows) at (flat places) within) k in
    let rest = series_apart rows (get_or at n d) row places (apart_from at (flat places) n d distinct k) in
    λ i. first i ∷ rest i
series_written rows (at ∷ places) (suc series) n d row distinct within h k =
    let found = flat_at places series n d (omega arith) k in
    let place = get_or (get_or places series []) n d in
    let others = subst (λ p. AreOthers p at) found.2 (apart_to at (flat places) found.0 d distinct found.1) in
    let first = one.written rows place row at others in
    let rest = series_written rows places series n d row (distinct_back at (flat places) distinct)
    (all_back (λ p. p < length rows) at (flat places) within) (omega arith) k in
    λ i. first i ∷ rest i

-- ---- a row is pushed

series_stay : (rows : List TimedRow) (row : TimedRow) (places : List (List ℕ))
    → AllByRecursion (λ place. place < length rows) (flat places)
    → series_of (rows ++ row ∷ []) places ≡ series_of rows places
series_stay rows row [] within = refl
series_stay rows row (at ∷ places) within =
    let first = one.pushed rows (row ∷ []) at (all_front (λ place. place < length rows) at (flat places) within) in
    let rest = series_stay rows row places (all_back (λ place. place < length rows) at (flat places) within) in
    λ i. first i ∷ rest i

own_pushed : (rows : List TimedRow) (row : TimedRow) (at : List ℕ) → AllByRecursion (λ place. place < length rows) at
    → placed (rows ++ row ∷ []) (at ++ length rows ∷ []) ≡ placed rows at ++ row ∷ []
own_pushed rows row at within =
    let here = one.pushed rows (row ∷ []) at within in
    let there = one.there rows row in
    filter_map-append (slice_get (rows ++ row ∷ [])) at (length rows ∷ []) ∙ (λ i. here i ++ there i)

pub series_pushed : (rows : List TimedRow) (places : List (List ℕ)) (series : ℕ) (row : TimedRow)
    → AllByRecursion (λ place. place < length rows) (flat places) → series < length places
    → series_of (rows ++ row ∷ []) (set places series (get_or places series [] ++ length rows ∷ []))
    ≡ set (series_of rows places) series (placed rows (get_or places series []) ++ row ∷ [])
series_pushed rows [] series row within h = absurd (omega arith)
series_pushed rows (at ∷ places) zero row within h =
    let first = own_pushed rows row at (all_front (λ place. place < length rows) at (flat places) within) in
    let rest = series_stay rows row places (all_back (λ place. place < length rows) at (flat places) within) in
    λ i. first i ∷ rest i
series_pushed rows (at ∷ places) (suc series) row within h =
    let first = one.pushed rows (row ∷ []) at (all_front (λ place. place < length rows) at (flat places) within) in
    let rest = series_pushed rows places series row (all_back (λ place. place < length rows) at (flat places) within)
    (omega arith) in
    λ i. first i ∷ rest i

more_flat : (places : List (List ℕ)) (series k : ℕ) → series < length places
    → IsPermutation (flat (set places series (get_or places series [] ++ k ∷ []))) (flat places ++ k ∷ [])
more_flat [] series k h = absurd (omega arith)
more_flat (at ∷ places) zero k h =
    subst (λ l. IsPermutation l ((at ++ flat places) ++ k ∷ [])) (sym (append_assoc at (k ∷ []) (flat places)))
    (subst (λ l. IsPermutation (at ++ (k ∷ [] ++ flat places)) l) (sym (append_assoc at (flat places) (k ∷ [])))
    (IsPermutation-append_right at (k ∷ [] ++ flat places) (flat places ++ k ∷ [])
    (IsPermutation-append_comm (k ∷ []) (flat places))))
more_flat (at ∷ places) (suc series) k h =
    subst (λ l. IsPermutation (at ++ flat (set places series (get_or places series [] ++ k ∷ []))) l)
    (sym (append_assoc at (flat places) (k ∷ [])))
    (IsPermutation-append_right at (flat (set places series (get_or places series [] ++ k ∷ []))) (flat places ++ k ∷ [])
    (more_flat places series k (omega arith)))

pub once_pushed : (rows : List TimedRow) (places : List (List ℕ)) (series : ℕ) (row : TimedRow) → AreAllPlaces rows places
    → series < length places
    → AreAllPlaces (rows ++ row ∷ []) (set places series (get_or places series [] ++ length rows ∷ []))
once_pushed rows places series row once h =
    let k = length rows in
    subst (IsPermutation (flat (set places series (get_or places series [] ++ k ∷ [])))) (sym (one.newest rows row))
    (IsPermutation-trans _ _ _ (more_flat places series k h) (IsPermutation-append_left (k ∷ []) (flat places)
    (all_places rows) once))

pub once_written : (rows : List TimedRow) (places : List (List ℕ)) (place : ℕ) (row : TimedRow) → AreAllPlaces rows places
    → AreAllPlaces (slice_set rows place row) places
once_written rows places place row once = subst (IsPermutation (flat places)) (sym (one.same rows place row)) once

-- ---- how many rows a series has

pub placed_many : (rows : List TimedRow) (at : List ℕ) → AllByRecursion (λ place. place < length rows) at
    → length (placed rows at) ≡ length at
placed_many rows [] within = refl
placed_many rows (place ∷ at) within =
    let there = one.get_there rows place (one.any rows place within.0) within.0 in
    let first = ap (λ o. length (cons_option o (placed rows at))) there.1 in
    omega (arith, first, placed_many rows at within.1)

pub series_within : (most : ℕ) (places : List (List ℕ)) (series : ℕ) → AllByRecursion (λ place. place < most) (flat places)
    → AllByRecursion (λ place. place < most) (get_or places series [])
series_within most [] series within = tt
series_within most (at ∷ places) zero within = all_front (λ place. place < most) at (flat places) within
series_within most (at ∷ places) (suc series) within =
    series_within most places series (all_back (λ place. place < most) at (flat places) within)

pub put_there : (rows : List TimedRow) (n : ℕ) (row : TimedRow) → n < length rows → put_at n row rows ≡ set rows n row
put_there rows n row h = ap (λ b. cond b (set rows n row) (rows ++ row ∷ [])) (less n (length rows) h)

past_by : (n : ℕ) (rows : List TimedRow) (row : TimedRow) (b : Bool) → nat_lt n (length rows) ≡ b → length rows ≤ n
    → cond b (set rows n row) (rows ++ row ∷ []) ≡ rows ++ row ∷ []
past_by n rows row true e h = absurd (grind (arith, e, h))
past_by n rows row false e h = refl

pub put_behind : (rows : List TimedRow) (n : ℕ) (row : TimedRow) → length rows ≤ n → put_at n row rows ≡ rows ++ row ∷ []
put_behind rows n row h = past_by n rows row (nat_lt n (length rows)) refl h

-- ---- one row is put

got : {A : Type 0} (xs : List A) (n : ℕ) (x d : A) → slice_get xs n ≡ Some x → (n < length xs) × (get_or xs n d ≡ x)
got [] n x d is = absurd cc
got (y ∷ xs) zero x d is = let first : y ≡ x = cc in (omega arith, first)
got (y ∷ xs) (suc n) x d is = let rest = got xs n x d is in (omega (arith, rest.0), rest.1)

none_behind : {A : Type 0} (xs : List A) (n : ℕ) → slice_get xs n ≡ None → length xs ≤ n
none_behind [] n is = omega arith
none_behind (x ∷ xs) zero is = absurd cc
none_behind (x ∷ xs) (suc n) is = omega (arith, none_behind xs n is)

module _ (rows : List TimedRow) (places : List (List ℕ)) (once : AreAllPlaces rows places) (series n : ℕ) (row : TimedRow)
    (h : series < length places) where
  abbrev own : List ℕ
  own = get_or places series []

  within : AllByRecursion (λ place. place < length rows) (flat places)
  within = places_within rows places once

  own_within : AllByRecursion (λ place. place < length rows) own
  own_within = series_within (length rows) places series within

  pub place_within : (place : ℕ) → slice_get own n ≡ Some place → place < length rows
  place_within place is =
      let found = got own n place place is in
      subst (λ p. p < length rows) found.1 (within_at (length rows) own n place own_within found.0)

  pub put_written : (place : ℕ) (new : List TimedRow) → slice_get own n ≡ Some place → new ≡ slice_set rows place row
      → series_of new places ≡ set (series_of rows places) series (put_at n row (placed rows own))
  put_written place new is made =
      let found = got own n place place is in
      let many = placed_many rows own own_within in
      ap (λ rs. series_of rs places) (made ∙ ap (λ p. slice_set rows p row) (sym found.1))
      ∙ series_written rows places series n place row (places_distinct rows places once) within h found.0
      ∙ ap (set (series_of rows places) series) (sym (put_there (placed rows own) n row (omega (arith, many, found.0))))

  pub written_once : (place : ℕ) (new : List TimedRow) → new ≡ slice_set rows place row → AreAllPlaces new places
  written_once place new made = subst (λ rs. AreAllPlaces rs places) (sym made) (once_written rows places place row once)

  module _ (place : ℕ) (new : List TimedRow) (more : List (List ℕ)) (last : place ≡ length rows) (made : new ≡ rows ++ row ∷ [])
      (placed_more : more ≡ set places series (own ++ place ∷ [])) where
    added : more ≡ set places series (own ++ length rows ∷ [])
    added = placed_more ∙ ap (λ p. set places series (own ++ p ∷ [])) last

    pub put_pushed : slice_get own n ≡ None
        → series_of new more ≡ set (series_of rows places) series (put_at n row (placed rows own))
    put_pushed none =
        let many = placed_many rows own own_within in
        (λ i. series_of (made i) (added i))
        ∙ series_pushed rows places series row within h
        ∙ ap (set (series_of rows places) series)
        (sym (put_behind (placed rows own) n row (omega (arith, many, none_behind own n none))))

    pub pushed_once : AreAllPlaces new more
    pushed_once = subst (λ rs. AreAllPlaces rs more) (sym made)
        (subst (AreAllPlaces (rows ++ row ∷ [])) (sym added) (once_pushed rows places series row once h))

-- ---- places as the lists that they are

pub seen_many : (places : List (Vec ℕ Global)) (series : ℕ) → series < length places → series < length (places_seen places)
seen_many places series h = omega (arith, h, length-map places (λ (at : Vec ℕ Global). at.items))

seen_set : (places : List (Vec ℕ Global)) (series : ℕ) (at : Vec ℕ Global)
    → places_seen (set places series at) ≡ set (places_seen places) series at.items
seen_set [] series at = refl
seen_set (first ∷ places) zero at = refl
seen_set (first ∷ places) (suc series) at = ap (λ rest. first.items ∷ rest) (seen_set places series at)

pub seen_more : (places : List (Vec ℕ Global)) (series place : ℕ) (old new d : Vec ℕ Global) → series < length places
    → get_or places series d ≡ old → new.items ≡ old.items ++ place ∷ []
    → places_seen (set places series new)
    ≡ set (places_seen places) series (get_or (places_seen places) series [] ++ place ∷ [])
seen_more places series place old new d h there made =
    let own : get_or (places_seen places) series [] ≡ old.items =
    get_or-map (λ (at : Vec ℕ Global). at.items) places series d [] h ∙ ap (λ (at : Vec ℕ Global). at.items) there in
    seen_set places series new ∙ ap (set (places_seen places) series) (made ∙ ap (λ l. l ++ place ∷ []) (sym own))

pub seen_same : (places : List (Vec ℕ Global)) (series : ℕ) (old new : Vec ℕ Global) → series < length places
    → old ≡ get_or places series old → new.items ≡ old.items → places_seen (set places series new) ≡ places_seen places
seen_same [] series old new h there same = absurd (omega arith)
seen_same (first ∷ places) zero old new h there same =
    ap (λ items. items ∷ places_seen places) (same ∙ ap (λ (at : Vec ℕ Global). at.items) there)
seen_same (first ∷ places) (suc series) old new h there same =
    ap (λ rest. first.items ∷ rest) (seen_same places series old new (omega arith) there same)

pub set_there : (places : List (Vec ℕ Global)) (series : ℕ) (new : Vec ℕ Global) → series < length places
    → slice_get (set places series new) series ≡ Some new
set_there [] series new h = absurd (omega arith)
set_there (first ∷ places) zero new h = refl
set_there (first ∷ places) (suc series) new h = set_there places series new (omega arith)

pub none_added : (rows : List TimedRow) (places more : List (List ℕ)) → AreAllPlaces rows places
    → more ≡ places ++ [] ∷ [] → AreAllPlaces rows more
none_added rows places more once made =
    let same : flat (places ++ [] ∷ []) ≡ flat places = flat_map-append (λ at. at) places ([] ∷ []) ∙ append-nil (flat places) in
    subst (λ l. IsPermutation l (all_places rows)) (sym (ap flat made ∙ same)) once

-- the row at a place, if there is a place
abbrev row_at : List TimedRow → Option ℕ → Option TimedRow
row_at rows None = None
row_at rows (Some place) = slice_get rows place

placed_at : (rows : List TimedRow) (at : List ℕ) (n : ℕ) → AllByRecursion (λ place. place < length rows) at
    → row_at rows (slice_get at n) ≡ slice_get (placed rows at) n
placed_at rows [] n inside = refl
placed_at rows (place ∷ at) zero inside =
    let there = one.get_there rows place (one.any rows place inside.0) inside.0 in
    there.1 ∙ sym (ap (λ o. slice_get (cons_option o (placed rows at)) 0) there.1)
placed_at rows (place ∷ at) (suc n) inside =
    let there = one.get_there rows place (one.any rows place inside.0) inside.0 in
    placed_at rows at n inside.1 ∙ sym (ap (λ o. slice_get (cons_option o (placed rows at)) (suc n)) there.1)

module _ (rows : List TimedRow) (places : List (List ℕ)) (once : AreAllPlaces rows places) (series n : ℕ) where
  pub row_there : (o : Option ℕ) → o ≡ slice_get (get_or places series []) n
      → row_at rows o ≡ slice_get (placed rows (get_or places series [])) n
  row_there o is =
      ap (row_at rows) is
      ∙ placed_at rows (get_or places series []) n
      (series_within (length rows) places series (places_within rows places once))

pub room_there : {V E : Type 0} (r : Result V E) (places : List (Vec ℕ Global)) (series more : ℕ) (new : Vec ℕ Global)
    → series < length places → OnOk r (length new.items + more ≤ vec_capacity new)
    → OnOk r (HasRoomAt series more (set places series new))
room_there (Ok value) places series more new h room =
    subst (λ o. IfSome o (λ at. length at.items + more ≤ vec_capacity at)) (sym (set_there places series new h)) room
room_there (Err fault) places series more new h room = tt

got_at : (places : List (Vec ℕ Global)) (series : ℕ) (old : Vec ℕ Global) → series < length places
    → old ≡ get_or places series old → slice_get places series ≡ Some old
got_at [] series old h there = absurd (omega arith)
got_at (first ∷ places) zero old h there = ap Some (sym there)
got_at (first ∷ places) (suc series) old h there = got_at places series old (omega arith) there

pub room_left : (places : List (Vec ℕ Global)) (series more place : ℕ) (old new : Vec ℕ Global) → series < length places
    → old ≡ get_or places series old → new.items ≡ old.items ++ place ∷ [] → vec_capacity new ≡ vec_capacity old
    → HasRoomAt series (more + 1) places → HasRoomAt series more (set places series new)
room_left places series more place old new h there made same room =
    let before : length old.items + (more + 1) ≤ vec_capacity old =
    subst (λ o. IfSome o (λ at. length at.items + (more + 1) ≤ vec_capacity at)) (got_at places series old h there) room in
    let after : length new.items + more ≤ vec_capacity new =
    omega (arith, before, same, ap (λ l. length l) made, length-append old.items (place ∷ [])) in
    subst (λ o. IfSome o (λ at. length at.items + more ≤ vec_capacity at)) (sym (set_there places series new h)) after

less_by : (o : Option (Vec ℕ Global)) (more : ℕ) → IfSome o (λ at. length at.items + (more + 1) ≤ vec_capacity at)
    → IfSome o (λ at. length at.items + more ≤ vec_capacity at)
less_by None more room = tt
less_by (Some at) more room = omega (arith, room)

pub room_less : (places : List (Vec ℕ Global)) (series more : ℕ) → HasRoomAt series (more + 1) places
    → HasRoomAt series more places
room_less places series more room = less_by (slice_get places series) more room
