-- Which rows stand after turns, each by the turns behind it, and what that is series by series.
use Rattle.std.proofs.Common.{◌≡◌, ◌∙◌, ℤ, Bool, true, false, not, cond, ◌||◌, ◌&&◌, List, [], ◌∷◌, ◌++◌}
use Rattle.std.proofs.Common.{map, refl, sym, ap, append-nil, append_assoc}
use Rattle.std.specs.Prelude.{filter, int_lt}
use Rattle.std.proofs.lemmas.List.Elements.{filter-append}
use Rattle.mon_value.specs.LeafHistories.{points_of, rows_of}
use Rattle.mon_value.specs.Same.{same_series}
use Rattle.mon_value.specs.Turns.{Turn, Adds, Hides, after_turn, after_turns, ends_before, is_hidden_by}
use Rattle.mon_value.specs.declared.rows.Point.{Point}
use Rattle.mon_value.specs.declared.rows.Row.{Row}
use Rattle.mon_value.specs.declared.rows.SeriesKey.{SeriesKey}

-- ---- each row by the turns behind it

-- the rows that come by turns and are hidden by none behind them
abbrev pub standing : List Turn → List Row
standing [] = []
standing (Adds row ∷ turns) = cond (is_hidden_by turns row) [] (row ∷ []) ++ standing turns
standing (Hides bound ∷ turns) = standing turns

abbrev pub shows : List Turn → Row → Bool
shows turns row = not (is_hidden_by turns row)

all_pass : (rows : List Row) → filter (λ row. true) rows ≡ rows
all_pass [] = refl
all_pass (row ∷ rows) = ap (λ xs. row ∷ xs) (all_pass rows)

one_shows : (turns : List Turn) (row : Row) → filter (shows turns) (row ∷ []) ≡ cond (is_hidden_by turns row) [] (row ∷ [])
one_shows turns row = by (is_hidden_by turns row)
  where
    by : (b : Bool) → cond (not b) (row ∷ []) [] ≡ cond b [] (row ∷ [])
    by true = refl
    by false = refl

-- (with the first row, by what both tests say of it)
first_both : (c d : Bool) (p : Row → Bool) (row : Row) (rows one two : List Row) → p row ≡ d → filter p rows ≡ one
    → one ≡ two → filter p (cond c (row ∷ rows) rows) ≡ cond (c && d) (row ∷ two) two
first_both true true p row rows one two e is same =
    ap (λ b. cond b (row ∷ filter p rows) (filter p rows)) e ∙ ap (λ xs. row ∷ xs) (is ∙ same)
first_both true false p row rows one two e is same =
    ap (λ b. cond b (row ∷ filter p rows) (filter p rows)) e ∙ is ∙ same
first_both false d p row rows one two e is same = is ∙ same

both_tests : (p q pq : Row → Bool) → ((row : Row) → pq row ≡ (q row && p row)) → (rows : List Row)
    → filter p (filter q rows) ≡ filter pq rows
both_tests p q pq same [] = refl
both_tests p q pq same (row ∷ rows) =
    first_both (q row) (p row) p row (filter q rows) (filter p (filter q rows)) (filter pq rows) refl refl
    (both_tests p q pq same rows)
    ∙ sym (ap (λ b. cond b (row ∷ filter pq rows) (filter pq rows)) (same row))

-- what stands: of the rows that were there those that no turn hides, and then those that came and stand
pub stands_exactly : (turns : List Turn) (rows : List Row) → after_turns rows turns
    ≡ filter (shows turns) rows ++ standing turns
stands_exactly [] rows = sym (append-nil (filter (λ row. true) rows) ∙ all_pass rows)
stands_exactly (Adds row ∷ turns) rows =
    stands_exactly turns (rows ++ row ∷ [])
    ∙ ap (λ xs. xs ++ standing turns) (filter-append (shows turns) rows (row ∷ [])
    ∙ ap (λ xs. filter (shows turns) rows ++ xs) (one_shows turns row))
    ∙ append_assoc (filter (shows turns) rows) (cond (is_hidden_by turns row) [] (row ∷ [])) (standing turns)
stands_exactly (Hides bound ∷ turns) rows =
    stands_exactly turns (after_turn rows (Hides bound))
    ∙ ap (λ xs. xs ++ standing turns)
    (both_tests (shows turns) (λ (row : Row). not (ends_before bound row)) (shows (Hides bound ∷ turns))
    (λ row. not_either (ends_before bound row) (is_hidden_by turns row)) rows)
  where
    not_either : (a b : Bool) → not (a || b) ≡ (not a && not b)
    not_either true b = refl
    not_either false b = refl

-- ---- series by series

-- whether a point does not end before a bound
abbrev pub ends_on : ℤ → Point → Bool
ends_on bound point = not (int_lt point.end bound)

-- (with the first row, by whether it passes and whether it is of the series)
first_of : (a b : Bool) (key : SeriesKey) (test : Row → Bool) (row : Row) (rows fewer : List Row) → test row ≡ a
    → same_series key row.key ≡ b → rows_of key fewer ≡ filter test (rows_of key rows)
    → rows_of key (cond a (row ∷ fewer) fewer) ≡ filter test (cond b (row ∷ rows_of key rows) (rows_of key rows))
first_of true true key test row rows fewer e same rest =
    ap (λ c. cond c (row ∷ rows_of key fewer) (rows_of key fewer)) same
    ∙ ap (λ xs. row ∷ xs) rest
    ∙ sym (ap (λ c. cond c (row ∷ filter test (rows_of key rows)) (filter test (rows_of key rows))) e)
first_of true false key test row rows fewer e same rest =
    ap (λ c. cond c (row ∷ rows_of key fewer) (rows_of key fewer)) same ∙ rest
first_of false true key test row rows fewer e same rest =
    rest ∙ sym (ap (λ c. cond c (row ∷ filter test (rows_of key rows)) (filter test (rows_of key rows))) e)
first_of false false key test row rows fewer e same rest = rest

rows_filtered : (key : SeriesKey) (test : Row → Bool) (rows : List Row)
    → rows_of key (filter test rows) ≡ filter test (rows_of key rows)
rows_filtered key test [] = refl
rows_filtered key test (row ∷ rows) =
    first_of (test row) (same_series key row.key) key test row rows (filter test rows) refl refl
    (rows_filtered key test rows)

first_mapped : (b : Bool) (bound : ℤ) (row : Row) (rows : List Row) (points : List Point)
    → map (λ (one : Row). one.point) rows ≡ points
    → map (λ (one : Row). one.point) (cond b (row ∷ rows) rows) ≡ cond b (row.point ∷ points) points
first_mapped true bound row rows points e = ap (λ xs. row.point ∷ xs) e
first_mapped false bound row rows points e = e

map_filtered : (bound : ℤ) (rows : List Row)
    → map (λ (row : Row). row.point) (filter (λ (row : Row). not (ends_before bound row)) rows)
    ≡ filter (ends_on bound) (map (λ (row : Row). row.point) rows)
map_filtered bound [] = refl
map_filtered bound (row ∷ rows) =
    first_mapped (not (ends_before bound row)) bound row (filter (λ (one : Row). not (ends_before bound one)) rows)
    (filter (ends_on bound) (map (λ (one : Row). one.point) rows)) (map_filtered bound rows)

-- a bound hides of each series the points that end before it
pub points_after_bound : (key : SeriesKey) (bound : ℤ) (rows : List Row)
    → points_of key (after_turn rows (Hides bound)) ≡ filter (ends_on bound) (points_of key rows)
points_after_bound key bound rows =
    ap (map (λ (row : Row). row.point)) (rows_filtered key (λ (row : Row). not (ends_before bound row)) rows)
    ∙ map_filtered bound (rows_of key rows)
