-- A source of rows with a row more, which ends later than the points of its series.
use Rattle.std.proofs.Common.{◌≡◌, ◌<ℤ◌, ℤ, Bool, true, false, cond, IfSome, List, [], ◌∷◌, ◌++◌, map}
use Rattle.std.proofs.Common.{refl, sym, subst, arith}
use Rattle.std.specs.List.{AllByRecursion}
use Rattle.std.proofs.lemmas.Int.{ints}
use Rattle.mon_value.proofs.PlainLemmas.{all_push}
use Rattle.mon_value.proofs.SameLemmas.{same_series-Decides}
use Rattle.mon_value.specs.LeafHistories.{EndsBefore, IsSource, last_end, points_of, rows_of}
use Rattle.mon_value.specs.Same.{same_series}
use Rattle.mon_value.specs.declared.rows.Point.{Point}
use Rattle.mon_value.specs.declared.rows.Row.{Row}
use Rattle.mon_value.specs.declared.rows.SeriesKey.{SeriesKey}

-- a point ends after a time
abbrev After : ℤ → Point → Type 0
After end point = end <ℤ point.end

after_at : (key : SeriesKey) (r x : Row) (rows : List Row) (b : Bool) → same_series key x.key ≡ b → key ≡ r.key
    → EndsBefore r x
    → AllByRecursion (After r.point.end) (points_of key rows)
    → AllByRecursion (After r.point.end) (map (λ (r : Row). r.point) (cond b (x ∷ rows_of key rows) (rows_of key rows)))
after_at key r x rows true same is before rest =
    (before (subst (λ (k : SeriesKey). same_series k x.key ≡ true) is same), rest)
after_at key r x rows false same is before rest = rest

points_after : (key : SeriesKey) (r : Row) (rows : List Row) → key ≡ r.key → AllByRecursion (EndsBefore r) rows
    → AllByRecursion (After r.point.end) (points_of key rows)
points_after key r [] is before = tt
points_after key r (x ∷ rows) is before = after_at key r x rows (same_series key x.key) refl is before.0
    (points_after key r rows is before.1)

last_after : (end : ℤ) (points : List Point) → AllByRecursion (After end) points → IfSome (last_end points)
    (λ last. end <ℤ last)
last_after end [] all = tt
last_after end (p ∷ []) all = all.0
last_after end (p ∷ q ∷ points) all = last_after end (q ∷ points) all.1

ends_first : (first : Point) (points : List Point) (end : ℤ) → IfSome (last_end points) (λ last. first.end <ℤ last)
    → IfSome (last_end (first ∷ points)) (λ last. last <ℤ end) → (first.end <ℤ end) × IfSome (last_end points)
    (λ last. last <ℤ end)
ends_first first [] end after later = (later, tt)
ends_first first (p ∷ []) end after later =
    let here : first.end <ℤ p.end = after in
    let there : p.end <ℤ end = later in
    (grind (arith, ints), later)
ends_first first (p ∷ q ∷ points) end after later = ends_first first (q ∷ points) end after later

source_step : (r : Row) (rows : List Row) (row : Row) (b : Bool) → same_series row.key r.key ≡ b → IsSource (r ∷ rows)
    → IfSome (last_end (map (λ (r : Row). r.point) (cond b (r ∷ rows_of row.key rows) (rows_of row.key rows))))
    (λ last. last <ℤ row.point.end)
    → (IfSome (last_end (points_of row.key rows)) (λ last. last <ℤ row.point.end) → IsSource (rows ++ row ∷ []))
    → IsSource (r ∷ rows ++ row ∷ [])
source_step r rows row true same source later more =
    let key = (same_series-Decides row.key r.key).0 same in
    let ends = ends_first r.point (points_of row.key rows) row.point.end
    (last_after r.point.end (points_of row.key rows) (points_after row.key r rows key source.0)) later in
    (all_push (EndsBefore r) rows row source.0 (λ is. ends.0), more ends.1)
source_step r rows row false same source later more = (
  all_push (EndsBefore r) rows row source.0
      (λ is. absurd (let back = (same_series-Decides row.key r.key).1
      (sym ((same_series-Decides r.key row.key).0 is)) in cc)),
  more later,
)

-- a source goes on with a row that ends later than the points of its series
pub source_more : (rows : List Row) (row : Row) → IsSource rows
    → IfSome (last_end (points_of row.key rows)) (λ last. last <ℤ row.point.end) → IsSource (rows ++ row ∷ [])
source_more [] row source later = (tt, tt)
source_more (r ∷ rows) row source later =
    source_step r rows row (same_series row.key r.key) refl source later (λ rest. source_more rows row source.1 rest)
