-- A series that keeps no point is met by no fetch, and counts for nothing.
use Rattle.std.proofs.Common.{◌≡◌, ◌+◌, ℕ, Bool, true, false, ◌&&◌, cond, List, [], ◌∷◌, ◌++◌, map, refl, sym, ap}
use Rattle.std.proofs.Common.{◌∙◌, arith}
use Rattle.std.specs.Prelude.{if◌then◌else◌}
use Rattle.std.specs.List.{filter, flat_map, sum_by}
use Rattle.std.proofs.lemmas.List.Sums.{sum_by-cons}
use Rattle.mon_value.specs.LeafHistories.{points_of, series_of}
use Rattle.mon_value.specs.declared.aligners.Aligner.{Aligner}
use Rattle.mon_value.specs.declared.grids.Grid.{Grid}
use Rattle.mon_value.specs.declared.rows.Point.{Point}
use Rattle.mon_value.specs.declared.rows.Row.{Row}
use Rattle.mon_value.specs.declared.rows.SeriesKey.{SeriesKey}
use Rattle.mon_meaning.specs.within.FetchViews.{FetchView, is_fetch_met}
use Rattle.mon_meaning.specs.within.MetSeries.{is_counted, met_count}
use Rattle.mon_series.specs.HeldSeries.{all_series, held_series, own_series, with_some}

-- ---- what holds of no series without points

none_more : (n : ℕ) → 0 + n ≡ n
none_more n = omega arith

module _ (test : (SeriesKey × List Point) → Bool) (none : (key : SeriesKey) → test (key, []) ≡ false) where
  tested_at : (key : SeriesKey) (points : List Point) (rest more : List (SeriesKey × List Point))
      → filter test rest ≡ filter test more
      → filter test ((key, points) ∷ rest) ≡ filter test (with_some key points ++ more)
  tested_at key [] rest more e =
      ap (λ b. cond b ((key, []) ∷ filter test rest) (filter test rest)) (none key) ∙ e
  tested_at key (point ∷ points) rest more e =
      ap (λ few. cond (test (key, point ∷ points)) ((key, point ∷ points) ∷ few) few) e

  tested : (kept : List Row) (keys : List SeriesKey)
      → filter test (map (λ key. (key, points_of key kept)) keys) ≡ filter test (flat_map (own_series kept) keys)
  tested kept [] = refl
  tested kept (key ∷ keys) =
      tested_at key (points_of key kept) (map (λ key. (key, points_of key kept)) keys) (flat_map (own_series kept) keys)
      (tested kept keys)

module _ (count : (SeriesKey × List Point) → ℕ) (none : (key : SeriesKey) → count (key, []) ≡ 0) where
  counted_at : (key : SeriesKey) (points : List Point) (rest more : List (SeriesKey × List Point))
      → sum_by count rest ≡ sum_by count more
      → sum_by count ((key, points) ∷ rest) ≡ sum_by count (with_some key points ++ more)
  counted_at key [] rest more e =
      sum_by-cons count (key, []) rest ∙ ap (λ n. n + sum_by count rest) (none key)
      ∙ none_more (sum_by count rest) ∙ e
  counted_at key (point ∷ points) rest more e =
      sum_by-cons count (key, point ∷ points) rest
      ∙ ap (λ n. count (key, point ∷ points) + n) e
      ∙ sym (sum_by-cons count (key, point ∷ points) more)

  counted : (kept : List Row) (keys : List SeriesKey)
      → sum_by count (map (λ key. (key, points_of key kept)) keys) ≡ sum_by count (flat_map (own_series kept) keys)
  counted kept [] = refl
  counted kept (key ∷ keys) =
      counted_at key (points_of key kept) (map (λ key. (key, points_of key kept)) keys)
      (flat_map (own_series kept) keys) (counted kept keys)

-- ---- of a fetch

and_false : (b : Bool) → (b && false) ≡ false
and_false true = refl
and_false false = refl

if_none : (b : Bool) (n : ℕ) → (if b then n else n) ≡ n
if_none true n = refl
if_none false n = refl

pub counted_as_held : (grid : Grid) (by : Aligner) (fetch : FetchView) (rows kept : List Row)
    → filter (is_counted grid by fetch) (all_series rows kept)
    ≡ filter (is_counted grid by fetch) (held_series rows kept)
counted_as_held grid by fetch rows kept =
    tested (is_counted grid by fetch) (λ key. and_false (is_fetch_met fetch key)) kept (series_of rows)

pub loaded_as_held : (grid : Grid) (by : Aligner) (fetch : FetchView) (rows kept : List Row)
    → sum_by (met_count grid by fetch) (all_series rows kept)
    ≡ sum_by (met_count grid by fetch) (held_series rows kept)
loaded_as_held grid by fetch rows kept =
    counted (met_count grid by fetch) (λ key. if_none (is_fetch_met fetch key) 0) kept (series_of rows)
