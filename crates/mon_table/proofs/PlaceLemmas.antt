-- The places of the columns of two tables, and what stands there.
use Rattle.std.proofs.Common.{◌≡◌, ◌∙◌, ℕ, zero, suc, ◌+◌, ◌||◌, Bool, true, false, not, cond, List, [], ◌∷◌, ◌++◌}
use Rattle.std.proofs.Common.{length, map, drop, replicate, Some, refl, ap, sym, arith, add-one}
use Rattle.std.proofs.Common.{append_assoc, length-append}
use Rattle.std.proofs.lemmas.List.{set_at}
use Rattle.std.specs.List.{cons_option, filter_map, slice_get}
use Rattle.mon_value.proofs.SameLemmas.{same_text-back}
use Rattle.mon_value.proofs.PlainLemmas.{or_false}
use Rattle.mon_value.specs.Tables.{has_name, right_columns}
use Rattle.mon_value.specs.Same.{same_text}
use Rattle.mon_value.specs.declared.columns.Column.{Column}
use Rattle.mon_table.specs.Places.{left_places_of, marked, own_places, right_places, right_places_of, unmarked}

-- ---- texts are compared from either side

-- ---- what stands at a place

-- the first of what is left behind a place stands there
pub there : {A : Type 0} (items : List A) (place : ℕ) (item : A) (rest : List A) → drop place items ≡ item ∷ rest
    → slice_get items place ≡ Some item
there [] zero item rest e = absurd cc
there [] (suc place) item rest e = absurd cc
there (x ∷ items) zero item rest e = let same : x ≡ item = cc in ap Some same
there (x ∷ items) (suc place) item rest e = there items place item rest e

onward : {A : Type 0} (items : List A) (place : ℕ) (item : A) (rest : List A) → drop place items ≡ item ∷ rest
    → drop (suc place) items ≡ rest
onward [] zero item rest e = absurd cc
onward [] (suc place) item rest e = absurd cc
onward (x ∷ items) zero item rest e = cc
onward (x ∷ items) (suc place) item rest e = onward items place item rest e

pub next_place : {A : Type 0} (items : List A) (place : ℕ) (item : A) (rest : List A) → drop place items ≡ item ∷ rest
    → drop (place + 1) items ≡ rest
next_place items place item rest e = ap (λ k. drop k items) (add-one place) ∙ onward items place item rest e

-- ---- the places of one name

place_again : (b : Bool) (place next : ℕ) (lefts rights : List ℕ) → lefts ≡ map (λ right. place) rights
    → cond b (place ∷ lefts) lefts ≡ map (λ right. place) (cond b (next ∷ rights) rights)
place_again true place next lefts rights e = ap (λ places. place ∷ places) e
place_again false place next lefts rights e = e

-- a left place stands once for each right one
pub left_places_of-found : (name : List ℕ) (place next : ℕ) (columns : List Column)
    → left_places_of name place columns ≡ map (λ right. place) (right_places_of name next columns)
left_places_of-found name place next [] = refl
left_places_of-found name place next (column ∷ columns) =
    place_again (same_text name column.name) place next (left_places_of name place columns)
    (right_places_of name (next + 1) columns) (left_places_of-found name place (next + 1) columns)

-- ---- the places without a mark

mark_here : (b x : Bool) (before marks after : List Bool) (next : ℕ) (places : List ℕ) → length before ≡ next
    → ((y : Bool) → marked places ((before ++ y ∷ []) ++ marks) ≡ (before ++ y ∷ []) ++ after)
    → marked (cond b (next ∷ places) places) (before ++ x ∷ marks) ≡ before ++ (b || x) ∷ after
mark_here true x before marks after next places count ih =
    ap (λ all. marked places all) (set_at before x marks true next count ∙ sym (append_assoc before (true ∷ []) marks))
    ∙ ih true
    ∙ append_assoc before (true ∷ []) after
mark_here false x before marks after next places count ih =
    ap (λ all. marked places all) (sym (append_assoc before (x ∷ []) marks))
    ∙ ih x
    ∙ append_assoc before (x ∷ []) after

-- the columns of a name get a mark, and each other column keeps what it has
mark_name : (name : List ℕ) (f : Column → Bool) (before : List Bool) (next : ℕ) (columns : List Column)
    → length before ≡ next → marked (right_places_of name next columns) (before ++ map f columns)
    ≡ before ++ map (λ column. same_text name column.name || f column) columns
mark_name name f before next [] count = refl
mark_name name f before next (column ∷ columns) count =
    mark_here (same_text name column.name) (f column) before (map f columns)
    (map (λ c. same_text name c.name || f c) columns) next (right_places_of name (next + 1) columns) count
    (λ y. mark_name name f (before ++ y ∷ []) (next + 1) columns (omega (
      arith,
      length-append before (y ∷ []),
      count,
    )))

marked-append : (places more : List ℕ) (marks : List Bool) → marked (places ++ more) marks
    ≡ marked more (marked places marks)
marked-append [] more marks = refl
marked-append (place ∷ places) more marks = marked-append places more _

or_next : (a b c : Bool) → (b || (a || c)) ≡ ((a || b) || c)
or_next true true c = refl
or_next true false c = refl
or_next false b c = refl

-- the columns whose names are of the left's get a mark
marked-names : (lefts rights : List Column) (f : Column → Bool) → marked (right_places lefts rights) (map f rights)
    ≡ map (λ column. has_name column.name lefts || f column) rights
marked-names [] rights f = refl
marked-names (left ∷ lefts) rights f =
    let more : Column → Bool = λ column. same_text left.name column.name || f column in
    let one : (column : Column) → (has_name column.name lefts || more column)
    ≡ (has_name column.name (left ∷ lefts) || f column) = λ column.
    or_next (same_text left.name column.name) (has_name column.name lefts) (f column)
    ∙ ap (λ same. (same || has_name column.name lefts) || f column)
    (sym (same_text-back left.name column.name (same_text left.name column.name) refl)) in
    marked-append (right_places_of left.name 0 rights) (right_places lefts rights) (map f rights)
    ∙ ap (λ marks. marked (right_places lefts rights) marks) (mark_name left.name f [] 0 rights refl)
    ∙ marked-names lefts rights more
    ∙ (λ i. map (λ column. one column i) rights)

none_marked : (columns : List Column) → replicate (length columns) false ≡ map (λ column. false) columns
none_marked [] = refl
none_marked (column ∷ columns) = ap (λ marks. false ∷ marks) (none_marked columns)

unmarked-own : (lefts columns : List Column) (next : ℕ) → unmarked next
    (map (λ column. has_name column.name lefts) columns)
    ≡ own_places next lefts columns
unmarked-own lefts [] next = refl
unmarked-own lefts (column ∷ columns) next =
    ap (λ places. cond (has_name column.name lefts) places (next ∷ places)) (unmarked-own lefts columns (next + 1))

-- what isn't found has a name of its own
pub unmarked-found : (lefts rights : List Column) → unmarked 0
    (marked (right_places lefts rights) (replicate (length rights) false))
    ≡ own_places 0 lefts rights
unmarked-found lefts rights =
    ap (λ marks. unmarked 0 (marked (right_places lefts rights) marks)) (none_marked rights)
    ∙ ap (λ marks. unmarked 0 marks) (marked-names lefts rights (λ column. false))
    ∙ (λ i. unmarked 0 (map (λ column. or_false (has_name column.name lefts) i) rights))
    ∙ unmarked-own lefts rights 0

-- ---- the columns at these places

own_column : (all kept : List Column) (column : Column) (places : List ℕ) (next : ℕ) (b : Bool)
    → slice_get all next ≡ Some column → filter_map (slice_get all) places ≡ kept
    → filter_map (slice_get all) (cond b places (next ∷ places)) ≡ cond (not b) (column ∷ kept) kept
own_column all kept column places next true here ih = ih
own_column all kept column places next false here ih = λ i. cons_option (here i) (ih i)

columns_from : (lefts all columns : List Column) (next : ℕ) → drop next all ≡ columns
    → filter_map (slice_get all) (own_places next lefts columns) ≡ right_columns lefts columns
columns_from lefts all [] next rest = refl
columns_from lefts all (column ∷ columns) next rest =
    own_column all (right_columns lefts columns) column (own_places (next + 1) lefts columns) next
    (has_name column.name lefts) (there all next column columns rest)
    (columns_from lefts all columns (next + 1) (next_place all next column columns rest))

-- the columns that have a name of their own stand at the places of these
pub own_columns : (lefts rights : List Column) → filter_map (slice_get rights) (own_places 0 lefts rights)
    ≡ right_columns lefts rights
own_columns lefts rights = columns_from lefts rights rights 0 refl
