-- Points that filters keep.
use Rattle.std.proofs.Common.{◌≡◌, ◌∙◌, ◌<◌, ◌+◌, ℕ, Bool, true, cond, List, [], ◌∷◌, ◌++◌, length, take, get_or, refl}
use Rattle.std.proofs.Common.{sym, ap}
use Rattle.std.specs.List.{filter}
use Rattle.std.proofs.lemmas.List.{take_more}
use Rattle.std.proofs.lemmas.List.Elements.{filter-append}
use Rattle.mon_expr.specs.declared.condition_lists.BoundPredicate.{BoundPredicate}
use Rattle.mon_value.specs.Order.{cells_of}
use Rattle.mon_value.specs.declared.rows.Point.{Point}
use Rattle.mon_value.specs.declared.rows.SeriesKey.{SeriesKey}
use Rattle.mon_meaning.specs.within.FetchViews.{FetchView, all_filters_hold, keeps, points_kept}
use Rattle.mon_meaning.specs.within.SeriesMeaning.{SeriesGroup}

module _ (fetch : FetchView) (key : SeriesKey) where
  abbrev test : Point → Bool
  test point = keeps fetch key point.value

  -- one point more is kept or not
  pub kept_more : (points : List Point) (i : ℕ) (p : Point) → p ≡ get_or points i p → i < length points → (b : Bool)
      → b ≡ test p
      → points_kept fetch (key, take (i + 1) points) ≡ points_kept fetch (key, take i points) ++ cond b (p ∷ []) []
  kept_more points i p is below b e =
      ap (filter test) (take_more points i p below ∙ ap (λ (q : Point). take i points ++ q ∷ []) (sym is))
      ∙ filter-append test (take i points) (p ∷ [])
      ∙ ap (λ c. filter test (take i points) ++ cond c (p ∷ []) []) (sym e)

filter_all : (points : List Point) → filter (λ point. true) points ≡ points
filter_all [] = refl
filter_all (p ∷ points) = ap (λ rest. p ∷ rest) (filter_all points)

-- without a filter all points are kept
pub kept_all : (fetch : FetchView) (one : SeriesGroup) → fetch.of_points ≡ [] → points_kept fetch one ≡ one.1
kept_all fetch one none =
    ap (λ (filters : List BoundPredicate). filter
    (λ (point : Point). all_filters_hold filters (cells_of one.0 point.value))
    one.1) none
    ∙ filter_all one.1
