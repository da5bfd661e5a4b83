-- Rows by places: of a table that is written in place and pushed to.
use Rattle.std.proofs.Common.{◌≡◌, ◌∙◌, ◌<◌, ℕ, zero, suc, false, Option, Some, None, List, [], ◌∷◌, ◌++◌}
use Rattle.std.proofs.Common.{map, length, slice_get, slice_set, nat_eq, IsPermutation, refl, sym, ap, subst, arith}
use Rattle.std.specs.List.{AllByRecursion, cons_option, filter_map, flat_map}
use Rattle.std.proofs.lemmas.List.{map-append}
use Rattle.std.proofs.lemmas.List.Elements.{filter_map-append}
use Rattle.mon_value.specs.declared.tables.TimedRow.{TimedRow}
use Rattle.std.specs.Option.{option_to_list}
use Rattle.mon_value.proofs.PermutationLemmas.{flat_map-permutation}
use Rattle.placed_rows.specs.Placed.{AreOthers, all_places, placed, series_of}

-- ---- what is made of items in another order

piece_first : {B : Type 0} (o : Option B) (rest : List B) → cons_option o rest ≡ option_to_list o ++ rest
piece_first None rest = refl
piece_first (Some x) rest = refl

made_as_pieces : {A B : Type 0} (f : A → Option B) (xs : List A)
    → filter_map f xs ≡ flat_map (λ x. option_to_list (f x)) xs
made_as_pieces f [] = refl
made_as_pieces f (x ∷ xs) = piece_first (f x) (filter_map f xs) ∙ ap (λ rest. option_to_list (f x) ++ rest) (made_as_pieces f xs)

filter_map-permutation : {A B : Type 0} (f : A → Option B) (xs ys : List A) → IsPermutation xs ys
    → IsPermutation (filter_map f xs) (filter_map f ys)
filter_map-permutation f xs ys same =
    subst (λ l. IsPermutation l (filter_map f ys)) (sym (made_as_pieces f xs))
    (subst (λ l. IsPermutation (flat_map (λ x. option_to_list (f x)) xs) l) (sym (made_as_pieces f ys))
    (flat_map-permutation (λ x. option_to_list (f x)) xs ys same))

-- ---- all places

one_on : (row : TimedRow) (rows : List TimedRow) (at : List ℕ) → placed (row ∷ rows) (map suc at) ≡ placed rows at
one_on row rows [] = refl
one_on row rows (place ∷ at) = ap (cons_option (slice_get rows place)) (one_on row rows at)

placed_all : (rows : List TimedRow) → placed rows (all_places rows) ≡ rows
placed_all [] = refl
placed_all (row ∷ rows) = ap (λ rest. row ∷ rest) (one_on row rows (all_places rows) ∙ placed_all rows)

placed_flat : (rows : List TimedRow) (places : List (List ℕ))
    → placed rows (flat_map (λ at. at) places) ≡ flat_map (placed rows) places
placed_flat rows [] = refl
placed_flat rows (at ∷ places) =
    filter_map-append (slice_get rows) at (flat_map (λ some. some) places)
    ∙ ap (λ rest. placed rows at ++ rest) (placed_flat rows places)

pub whole : (rows : List TimedRow) (places : List (List ℕ))
    → IsPermutation (flat_map (λ at. at) places) (all_places rows) → IsPermutation (flat_map (placed rows) places) rows
whole rows places all =
    subst (λ some. IsPermutation some rows) (placed_flat rows places)
    (subst (IsPermutation (placed rows (flat_map (λ at. at) places))) (placed_all rows)
    (filter_map-permutation (slice_get rows) (flat_map (λ at. at) places) (all_places rows) all))

pub pieces_of : (rows : List TimedRow) (places : List (List ℕ))
    → flat_map (λ one. one) (series_of rows places) ≡ flat_map (placed rows) places
pieces_of rows [] = refl
pieces_of rows (at ∷ places) = ap (λ rest. placed rows at ++ rest) (pieces_of rows places)

-- ---- a row that is written

pub get_other : (rows : List TimedRow) (place other : ℕ) (row : TimedRow) → nat_eq place other ≡ false
    → slice_get (slice_set rows place row) other ≡ slice_get rows other
get_other [] place other row e = refl
get_other (r ∷ rows) zero zero row e = absurd (grind arith)
get_other (r ∷ rows) zero (suc other) row e = refl
get_other (r ∷ rows) (suc place) zero row e = refl
get_other (r ∷ rows) (suc place) (suc other) row e = get_other rows place other row (grind arith)

pub get_own : (rows : List TimedRow) (place : ℕ) (row : TimedRow) → place < length rows
    → slice_get (slice_set rows place row) place ≡ Some row
get_own [] place row h = absurd (omega arith)
get_own (r ∷ rows) zero row h = refl
get_own (r ∷ rows) (suc place) row h = get_own rows place row (omega arith)

pub written : (rows : List TimedRow) (place : ℕ) (row : TimedRow) (at : List ℕ) → AreOthers place at
    → placed (slice_set rows place row) at ≡ placed rows at
written rows place row [] all = refl
written rows place row (other ∷ at) all =
    let here = get_other rows place other row all.0 in
    let rest = written rows place row at all.1 in
    λ i. cons_option (here i) (rest i)

pub own : (rows : List TimedRow) (place : ℕ) (row : TimedRow) (first rest : List ℕ) → place < length rows
    → AreOthers place first → AreOthers place rest
    → placed (slice_set rows place row) (first ++ place ∷ rest) ≡ placed rows first ++ row ∷ placed rows rest
own rows place row first rest h before behind =
    let here = get_own rows place row h in
    let front = written rows place row first before in
    let back = written rows place row rest behind in
    filter_map-append (slice_get (slice_set rows place row)) first (place ∷ rest)
    ∙ (λ i. front i ++ cons_option (here i) (back i))

pub same : (rows : List TimedRow) (place : ℕ) (row : TimedRow) → all_places (slice_set rows place row) ≡ all_places rows
same [] place row = refl
same (r ∷ rows) zero row = refl
same (r ∷ rows) (suc place) row = ap (λ rest. 0 ∷ map suc rest) (same rows place row)

-- ---- a row that is pushed

get_before : (rows more : List TimedRow) (place : ℕ) → place < length rows
    → slice_get (rows ++ more) place ≡ slice_get rows place
get_before [] more place h = absurd (omega arith)
get_before (r ∷ rows) more zero h = refl
get_before (r ∷ rows) more (suc place) h = get_before rows more place (omega arith)

pub pushed : (rows more : List TimedRow) (at : List ℕ) → AllByRecursion (λ place. place < length rows) at
    → placed (rows ++ more) at ≡ placed rows at
pushed rows more [] all = refl
pushed rows more (place ∷ at) all =
    let here = get_before rows more place all.0 in
    let rest = pushed rows more at all.1 in
    λ i. cons_option (here i) (rest i)

one_more : (rows : List TimedRow) (r : TimedRow) → suc (length rows) ≡ length (r ∷ rows)
one_more rows r = omega arith

pub newest : (rows : List TimedRow) (row : TimedRow)
    → all_places (rows ++ row ∷ []) ≡ all_places rows ++ length rows ∷ []
newest [] row = refl
newest (r ∷ rows) row =
    ap (λ rest. 0 ∷ map suc rest) (newest rows row)
    ∙ ap (λ rest. 0 ∷ rest) (map-append suc (all_places rows) (length rows ∷ []))
    ∙ ap (λ n. 0 ∷ (map suc (all_places rows) ++ n ∷ [])) (one_more rows r)

get_last : (rows : List TimedRow) (row : TimedRow) → slice_get (rows ++ row ∷ []) (length rows) ≡ Some row
get_last [] row = refl
get_last (r ∷ rows) row =
    ap (slice_get (r ∷ rows ++ row ∷ [])) (sym (one_more rows r)) ∙ get_last rows row

pub there : (rows : List TimedRow) (row : TimedRow) → placed (rows ++ row ∷ []) (length rows ∷ []) ≡ row ∷ []
there rows row = ap (λ o. cons_option o []) (get_last rows row)

-- ---- what stands at a place

pub get_there : (rows : List TimedRow) (place : ℕ) (row : TimedRow) → place < length rows
    → (there : TimedRow) × (slice_get rows place ≡ Some there)
get_there [] place row h = absurd (omega arith)
get_there (r ∷ rows) zero row h = (r, refl)
get_there (r ∷ rows) (suc place) row h = get_there rows place row (omega arith)

pub any : (rows : List TimedRow) (place : ℕ) → place < length rows → TimedRow
any [] place h = absurd (omega arith)
any (r ∷ rows) place h = r
