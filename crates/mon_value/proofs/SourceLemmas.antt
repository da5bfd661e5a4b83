-- The points of series, as rows come one after another.
use Rattle.std.proofs.Common.{◌≡◌, Bool, true, false, cond, Some, None, List, [], ◌∷◌, ◌++◌, map, refl, sym, ap, ◌∙◌}
use Rattle.std.specs.Map.{lookup}
use Rattle.std.proofs.lemmas.List.{map-append}
use Rattle.mon_value.proofs.KeyedLemmas as keyed
use Rattle.mon_value.proofs.SameLemmas.{same_series-Decides}
use Rattle.mon_value.specs.Same.{items_by_key, same_series}
use Rattle.mon_value.specs.LeafHistories.{key_of_row, points_by_series, points_of, rows_of, series_of}
use Rattle.mon_value.specs.declared.rows.Point.{Point}
use Rattle.mon_value.specs.declared.rows.Row.{Row}
use Rattle.mon_value.specs.declared.rows.SeriesKey.{SeriesKey}

-- a series and its points
abbrev pub SeriesGroup : Type 0
SeriesGroup = SeriesKey × List Point

-- series with a point more: it goes to its series, or a new series goes to the end
abbrev pub with_point : List SeriesGroup → SeriesKey → Point → List SeriesGroup
with_point groups key point = keyed.with_items same_series groups (key, point ∷ [])

-- whether a series is among the keys
abbrev pub has_series : SeriesKey → List SeriesKey → Bool
has_series = keyed.has same_series same_series-Decides key_of_row

abbrev points_in : keyed.Group SeriesKey Row → SeriesGroup
points_in group = (group.0, map (λ (row : Row). row.point) group.1)

in_with_items_at : (new group : keyed.Group SeriesKey Row) (groups : List (keyed.Group SeriesKey Row)) (b : Bool)
    → map points_in (keyed.with_items same_series groups new) ≡ keyed.with_items same_series (map points_in groups)
    (points_in new)
    → map points_in (cond b ((group.0, group.1 ++ new.1) ∷ groups) (group ∷ keyed.with_items same_series groups new))
    ≡ cond b ((group.0, (points_in group).1 ++ (points_in new).1) ∷ map points_in groups)
    (points_in group ∷ keyed.with_items same_series (map points_in groups) (points_in new))
in_with_items_at new group groups true ih = ap (λ points. (group.0, points) ∷ map points_in groups)
    (map-append (λ (row : Row). row.point) group.1 new.1)
in_with_items_at new group groups false ih = ap (λ more. points_in group ∷ more) ih

in_with_items : (new : keyed.Group SeriesKey Row) (groups : List (keyed.Group SeriesKey Row))
    → map points_in (keyed.with_items same_series groups new) ≡ keyed.with_items same_series (map points_in groups)
    (points_in new)
in_with_items new [] = refl
in_with_items new (group ∷ groups) = in_with_items_at new group groups (same_series new.0 group.0)
    (in_with_items new groups)

pub by_items_at : (rows : List Row) (keys : List SeriesKey) → map (λ key. (key, points_of key rows)) keys ≡ map points_in
    (map (λ key. (key, rows_of key rows)) keys)
by_items_at rows [] = refl
by_items_at rows (key ∷ keys) = ap (λ more. (key, points_of key rows) ∷ more) (by_items_at rows keys)

pub by_items : (rows : List Row) → points_by_series rows ≡ map points_in (items_by_key same_series key_of_row rows)
by_items rows = by_items_at rows (series_of rows)

-- one more row goes to its series
pub points_by_series-push : (rows : List Row) (row : Row) → points_by_series (rows ++ row ∷ [])
    ≡ with_point (points_by_series rows) row.key row.point
points_by_series-push rows row =
    by_items (rows ++ row ∷ [])
    ∙ ap (map points_in) (keyed.items_by_key-push same_series same_series-Decides key_of_row rows row)
    ∙ in_with_items (row.key, row ∷ []) (items_by_key same_series key_of_row rows)
    ∙ ap (λ groups. with_point groups row.key row.point) (sym (by_items rows))

-- ---- look-ups

pub lookup-points_by_series : (key : SeriesKey) (rows : List Row) → lookup (same_series key) (points_by_series rows)
    ≡ cond (has_series key (series_of rows)) (Some (points_of key rows)) None
lookup-points_by_series key rows =
    keyed.look_up same_series same_series-Decides key_of_row (λ other. points_of other rows) key (series_of rows)
    (has_series key (series_of rows)) refl

points_none : (key : SeriesKey) (rows : List Row) → has_series key (series_of rows) ≡ false → points_of key rows ≡ []
points_none key rows h = ap (map (λ (row : Row). row.point)) (keyed.items_none same_series same_series-Decides
    key_of_row key rows h)

found_by : (b : Bool) (points other : List Point) → (b ≡ false → points ≡ []) → (cond b (Some points) None ≡ Some other
    → points ≡ other) × (cond b (Some points) None ≡ None → points ≡ [])
found_by true points other h = (λ e. cc, λ e. absurd cc)
found_by false points other h = (λ e. absurd cc, λ e. h refl)

-- what is found under a key is the points of its series
pub points_found : (key : SeriesKey) (rows : List Row) (points : List Point) → lookup (same_series key)
    (points_by_series rows) ≡ Some points → points_of key rows ≡ points
points_found key rows points e =
    (found_by (has_series key (series_of rows)) (points_of key rows) points (points_none key rows)).0
    (sym (lookup-points_by_series key rows) ∙ e)

-- a series that isn't found has no points
pub points_missing : (key : SeriesKey) (rows : List Row) → lookup (same_series key) (points_by_series rows) ≡ None
    → points_of key rows ≡ []
points_missing key rows e =
    (found_by (has_series key (series_of rows)) (points_of key rows) [] (points_none key rows)).1
    (sym (lookup-points_by_series key rows) ∙ e)
