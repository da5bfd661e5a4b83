-- What a source says of its last row.
use Rattle.std.proofs.Common.{◌≡◌, ◌∙◌, ℕ, ℤ, ◌<ℤ◌, Bool, true, false, cond, List, [], ◌∷◌, ◌++◌, map, take, drop}
use Rattle.std.proofs.Common.{IfSome, refl, sym, ap, subst, append_assoc, take-append-drop}
use Rattle.std.specs.List.{AllByRecursion}
use Rattle.mon_value.proofs.SameLemmas.{same_series-Decides}
use Rattle.mon_value.proofs.PlainLemmas.{all_front, all_last}
use Rattle.mon_value.specs.Same.{same_series}
use Rattle.mon_value.specs.LeafHistories.{EndsBefore, IsSource, last_end, points_of, rows_of}
use Rattle.mon_value.specs.declared.rows.Point.{Point}
use Rattle.mon_value.specs.declared.rows.Row.{Row}

pub source_front : (xs ys : List Row) → IsSource (xs ++ ys) → IsSource xs
source_front [] ys h = tt
source_front (x ∷ xs) ys h = (all_front (EndsBefore x) xs ys h.0, source_front xs ys h.1)

before_last : (rows : List Row) (row : Row) → IsSource (rows ++ row ∷ [])
    → AllByRecursion (λ (r : Row). EndsBefore r row) rows
before_last [] row h = tt
before_last (r ∷ rows) row h = (all_last (EndsBefore r) rows row h.0, before_last rows row h.1)

-- a point ends before a time
abbrev Ends : ℤ → Point → Type 0
Ends end point = point.end <ℤ end

points_end_at : (row r : Row) (rows : List Row) (b : Bool) → same_series row.key r.key ≡ b → EndsBefore r row →
    AllByRecursion (Ends row.point.end) (map (λ (r : Row). r.point) (rows_of row.key rows)) →
    AllByRecursion (Ends row.point.end) (map (λ (r : Row). r.point) (cond b (r ∷ rows_of row.key rows)
    (rows_of row.key rows)))
points_end_at row r rows true same before rest =
    (before ((same_series-Decides r.key row.key).1 (sym ((same_series-Decides row.key r.key).0 same))), rest)
points_end_at row r rows false same before rest = rest

points_end : (row : Row) (rows : List Row) → AllByRecursion (λ (r : Row). EndsBefore r row) rows
    → AllByRecursion (Ends row.point.end) (points_of row.key rows)
points_end row [] h = tt
points_end row (r ∷ rows) h = points_end_at row r rows (same_series row.key r.key) refl h.0 (points_end row rows h.1)

last_ends : (end : ℤ) (points : List Point) → AllByRecursion (Ends end) points → IfSome (last_end points)
    (λ last. last <ℤ end)
last_ends end [] h = tt
last_ends end (p ∷ []) h = h.0
last_ends end (p ∷ q ∷ points) h = last_ends end (q ∷ points) h.1

-- the last row of a source ends later than the points of its series
pub source_later : (rows : List Row) (row : Row) → IsSource (rows ++ row ∷ [])
    → IfSome (last_end (points_of row.key rows)) (λ last. last <ℤ row.point.end)
source_later rows row h = last_ends row.point.end (points_of row.key rows)
    (points_end row rows (before_last rows row h))

-- the same of a row within a source
pub source_at : (rows : List Row) (i : ℕ) (row : Row) (more : List Row) → drop i rows ≡ row ∷ more → IsSource rows →
    IfSome (last_end (points_of row.key (take i rows))) (λ last. last <ℤ row.point.end)
source_at rows i row more next source =
    let whole : rows ≡ (take i rows ++ row ∷ []) ++ more = sym (take-append-drop i rows)
    ∙ ap (λ rest. take i rows ++ rest) next ∙ sym (append_assoc (take i rows) (row ∷ []) more) in
    source_later (take i rows) row (source_front (take i rows ++ row ∷ []) more (subst IsSource whole source))
