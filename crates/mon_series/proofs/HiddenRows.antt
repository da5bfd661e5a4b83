-- Rows that stand, by their series: as a row comes, and as more are hidden.
use Rattle.std.proofs.Common.{◌≡◌, ◌∙◌, ◌<◌, ◌≤◌, ◌<ℤ◌, zero, suc, ℕ, ℤ, Bool, true, false, not, cond, ◌&&◌, nat_lt, List, [], ◌∷◌, ◌++◌}
use Rattle.std.proofs.Common.{length, map, Option, Some, None, IfSome, option_map, refl, sym, ap, subst, arith, slice_get}
use Rattle.std.specs.List.{AllByRecursion as All, filter}
use Rattle.std.specs.Map.{lookup}
use Rattle.std.specs.Prelude.{int_lt, Contains}
use Rattle.std.proofs.lemmas.Bool.Decides.{nat_tests}
use Rattle.std.proofs.lemmas.Int.{ints}
use Rattle.std.proofs.lemmas.List.{append_assoc}
use Rattle.std.proofs.lemmas.List.Elements.{filter-append}
use Rattle.mon_value.proofs.KeyedLemmas as keyed
use Rattle.mon_value.proofs.PlainLemmas.{all_front, all_push, contains_kept, in_map}
use Rattle.mon_value.proofs.SameLemmas.{same_series-Decides}
use Rattle.mon_value.proofs.SourceLemmas.{points_found, points_missing}
use Rattle.mon_value.specs.Grids.{EndsRise}
use Rattle.mon_value.specs.Same.{same_series}
use Rattle.mon_value.specs.LeafHistories.{key_of_row, last_end, points_by_series, points_of, rows_of}
use Rattle.mon_value.specs.Turns.{ends_before}
use Rattle.mon_value.specs.declared.rows.Point.{Point}
use Rattle.mon_value.specs.declared.rows.Row.{Row}
use Rattle.mon_value.specs.declared.rows.SeriesKey.{SeriesKey}
use Rattle.mon_series.specs.SeriesMaps.{hidden_held, points_held, series_held}
use Rattle.mon_series.specs.SeriesPoints.{SeriesPoints, all_points}
use Rattle.mon_series.specs.declared.placing.Place.{Place}
use Rattle.mon_series.specs.within.Hidden.{hidden_of, hiding, points_before, points_or_none, reach, stands}
use Rattle.mon_series.specs.within.Places.{Group, TakesRow, row_at, with_point_at}
use Rattle.mon_series.proofs.EndsRiseLemmas.{EndsRise-push}
use Rattle.mon_series.proofs.HeldLemmas.{Entries, held_entry, held_lookup}
use Rattle.mon_series.proofs.HiddenLemmas.{all_before, all_pass, all_weaker, all_within, first_reached, hides_more}
use Rattle.mon_series.proofs.HiddenLemmas.{later_not_reached, none_pass, not_reached, points_beyond, same_tests}
use Rattle.mon_series.proofs.PlaceLemmas.{row_parts}
use Rattle.mon_series.proofs.SplitLemmas.{filter_both}

-- ---- the rows that stand of one series

points_standing : (hidden : List Group) (key : SeriesKey) (rows : List Row)
    → points_of key (filter (stands hidden) rows)
    ≡ filter (λ point. not (reach (hidden_of hidden key) point)) (points_of key rows)
points_standing hidden key [] = refl
points_standing hidden key (row ∷ rows) =
    by (same_series key row.key) refl (stands hidden row) refl (points_standing hidden key rows)
  where
    later : Point → Bool
    later point = not (reach (hidden_of hidden key) point)

    own_stands : same_series key row.key ≡ true → later row.point ≡ stands hidden row
    own_stands e = ap (λ (k : SeriesKey). not (reach (hidden_of hidden k) row.point))
        ((same_series-Decides key row.key).0 e)

    few : List Row
    few = filter (stands hidden) rows

    by : (b : Bool) → same_series key row.key ≡ b → (c : Bool) → stands hidden row ≡ c
        → points_of key few ≡ filter later (points_of key rows)
        → points_of key (cond c (row ∷ few) few)
        ≡ filter later (map (λ (r : Row). r.point) (cond b (row ∷ rows_of key rows) (rows_of key rows)))
    by true e true f rest =
        ap (λ b. map (λ (r : Row). r.point) (cond b (row ∷ rows_of key few) (rows_of key few))) e
        ∙ ap (λ ps. row.point ∷ ps) rest
        ∙ ap (λ b. cond b (row.point ∷ filter later (points_of key rows)) (filter later (points_of key rows)))
        (sym (own_stands e ∙ f))
    by true e false f rest =
        rest ∙ ap (λ b. cond b (row.point ∷ filter later (points_of key rows)) (filter later (points_of key rows)))
        (sym (own_stands e ∙ f))
    by false e true f rest =
        ap (λ b. map (λ (r : Row). r.point) (cond b (row ∷ rows_of key few) (rows_of key few))) e ∙ rest
    by false e false f rest = rest

-- the hidden points of a series that a map finds
pub hidden_found : (entries : Entries) (key : SeriesKey) (series : SeriesPoints)
    → lookup (same_series key) entries ≡ Some series → hidden_of (hidden_held entries) key ≡ series.hidden
hidden_found entries key series found =
    ap points_or_none (held_lookup (λ s. s.hidden) (same_series key) entries ∙ ap (option_map (λ s. s.hidden)) found)

hidden_missing : (entries : Entries) (key : SeriesKey) → lookup (same_series key) entries ≡ None
    → hidden_of (hidden_held entries) key ≡ []
hidden_missing entries key none =
    ap points_or_none (held_lookup (λ s. s.hidden) (same_series key) entries ∙ ap (option_map (λ s. s.hidden)) none)

-- the points that stand are those of the rows that do
pub points_kept : (hidden : List Group) (key : SeriesKey) (series : SeriesPoints) (rows : List Row)
    → hidden_of hidden key ≡ series.hidden → all_points series ≡ points_of key rows → EndsRise (all_points series)
    → series.points ≡ points_of key (filter (stands hidden) rows)
points_kept hidden key series rows own all rises =
    sym (points_standing hidden key rows
    ∙ (λ i. filter (λ (point : Point). not (reach (own i) point)) (sym all i))
    ∙ points_beyond series.hidden series.points rises)

-- ---- the ends of each series rise

abbrev pub AreRising : List Group → Type 0
AreRising = All (λ group. EndsRise group.1)

rising_found : (key : SeriesKey) (groups : List Group) (points : List Point) → AreRising groups
    → lookup (same_series key) groups ≡ Some points → EndsRise points
rising_found key [] points rising found = absurd cc
rising_found key (g ∷ groups) points rising found = by (same_series key g.0) found
    (rising_found key groups points rising.1)
  where
    by : (b : Bool) → cond b (Some g.1) (lookup (same_series key) groups) ≡ Some points
        → (lookup (same_series key) groups ≡ Some points → EndsRise points) → EndsRise points
    by true e rest = let same : g.1 ≡ points = cc in subst EndsRise same rising.0
    by false e rest = rest e

pub rising_grown : (groups : List Group) (at : ℕ) (row : Row) → AreRising groups → TakesRow (slice_get groups at) row
    → AreRising (with_point_at groups at row.point)
rising_grown [] at row rising takes = tt
rising_grown (g ∷ groups) zero row rising takes = (EndsRise-push g.1 row.point rising.0 takes.1, rising.1)
rising_grown (g ∷ groups) (suc at) row rising takes = (rising.0, rising_grown groups at row rising.1 takes)

pub rising_new : (groups : List Group) (key : SeriesKey) (point : Point) → AreRising groups
    → AreRising (groups ++ (key, point ∷ []) ∷ [])
rising_new groups key point rising = all_push (λ (group : Group). EndsRise group.1) groups (key, point ∷ []) rising
    (tt, tt)

-- ---- a row that comes stands

pub comes_to_stand : (entries : Entries) (rows : List Row) (row : Row) → AreRising (series_held entries)
    → series_held entries ≡ points_by_series rows
    → IfSome (last_end (points_of row.key rows)) (λ last. last <ℤ row.point.end)
    → stands (hidden_held entries) row ≡ true
comes_to_stand entries rows row rising grouped later = by (lookup (same_series row.key) entries) refl
  where
    by : (found : Option SeriesPoints) → lookup (same_series row.key) entries ≡ found
        → stands (hidden_held entries) row ≡ true
    by None e = ap (λ points. not (reach points row.point)) (hidden_missing entries row.key e)
    by (Some series) e =
        let there : lookup (same_series row.key) (series_held entries) ≡ Some (all_points series) =
        held_lookup all_points (same_series row.key) entries ∙ ap (option_map all_points) e in
        let all : points_of row.key rows ≡ all_points series =
        points_found row.key rows (all_points series) (ap (lookup (same_series row.key)) (sym grouped) ∙ there) in
        let before = all_before (all_points series) row.point.end
        (rising_found row.key (series_held entries) (all_points series) rising there)
        (subst (λ points. IfSome (last_end points) (λ last. last <ℤ row.point.end)) all later) in
        ap (λ points. not (reach points row.point)) (hidden_found entries row.key series e)
        ∙ ap not (not_reached series.hidden row.point
        (all_front (λ (past : Point). past.end <ℤ row.point.end) series.hidden series.points before))

-- the rows that stand, with it
pub kept_more : (hidden : List Group) (rows : List Row) (row : Row) → stands hidden row ≡ true
    → filter (stands hidden) (rows ++ row ∷ []) ≡ filter (stands hidden) rows ++ row ∷ []
kept_more hidden rows row own =
    filter-append (stands hidden) rows (row ∷ [])
    ∙ ap (λ b. filter (stands hidden) rows ++ cond b (row ∷ []) []) own

-- a series without hidden points hides nothing
hidden_more : (hidden : List Group) (new key : SeriesKey) → hidden_of (hidden ++ (new, []) ∷ []) key ≡ hidden_of hidden key
hidden_more [] new key = by (same_series key new)
  where
    by : (b : Bool) → points_or_none (cond b (Some []) None) ≡ []
    by true = refl
    by false = refl
hidden_more (g ∷ hidden) new key = by (same_series key g.0) (hidden_more hidden new key)
  where
    by : (b : Bool) → hidden_of (hidden ++ (new, []) ∷ []) key ≡ hidden_of hidden key
        → points_or_none (cond b (Some g.1) (lookup (same_series key) (hidden ++ (new, []) ∷ [])))
        ≡ points_or_none (cond b (Some g.1) (lookup (same_series key) hidden))
    by true rest = refl
    by false rest = rest

pub stands_more : (hidden : List Group) (new : SeriesKey) → stands (hidden ++ (new, []) ∷ []) ≡ stands hidden
stands_more hidden new = λ i row. not (reach (hidden_more hidden new row.key i) row.point)

-- ---- more are hidden

split_before : (before : ℤ) (points : List Point) → EndsRise points
    → points_before before points ++ filter (λ point. not (int_lt point.end before)) points ≡ points
split_before before [] rises = refl
split_before before (p ∷ ps) rises = by (int_lt p.end before) refl (split_before before ps rises.1)
  where
    late : Point → Bool
    late point = not (int_lt point.end before)

    by : (b : Bool) → int_lt p.end before ≡ b → points_before before ps ++ filter late ps ≡ ps
        → cond b (p ∷ points_before before ps) (points_before before ps) ++ cond (not b) (p ∷ filter late ps)
        (filter late ps) ≡ p ∷ ps
    by true e rest = ap (λ points. p ∷ points) rest
    by false e rest = (λ i. none i ++ p ∷ all i)
      where
        after : All (λ (later : Point). int_lt later.end before ≡ false) ps
        after = all_weaker (λ (later : Point). p.end <ℤ later.end)
            (λ (later : Point). int_lt later.end before ≡ false) (λ later h. grind (arith, ints)) ps rises.0

        all : filter late ps ≡ ps
        all = all_pass late ps (all_weaker (λ (later : Point). int_lt later.end before ≡ false)
            (λ (later : Point). late later ≡ true) (λ later f. ap not f) ps after)

        none : points_before before ps ≡ []
        none = none_pass (λ (point : Point). int_lt point.end before) ps after

pub hiding_keeps : (before : ℤ) (entries : Entries) → AreRising (series_held entries)
    → series_held (map (hiding before) entries) ≡ series_held entries
hiding_keeps before [] rising = refl
hiding_keeps before (entry ∷ entries) rising =
    let series = entry.1 in
    let own : all_points (hiding before entry).1 ≡ all_points series =
    append_assoc series.hidden (points_before before series.points)
    (filter (λ (point : Point). not (int_lt point.end before)) series.points)
    ∙ ap (λ points. series.hidden ++ points) (split_before before series.points (rises_behind series.hidden rising.0)) in
    (λ i. (entry.0, own i) ∷ hiding_keeps before entries rising.1 i)
  where
    rises_behind : (front : List Point) → EndsRise (front ++ entry.1.points) → EndsRise entry.1.points
    rises_behind [] h = h
    rises_behind (p ∷ front) h = rises_behind front h.1

-- with those that end before a time
abbrev with_early : ℤ → SeriesPoints → List Point
with_early before series = series.hidden ++ points_before before series.points

hiding_held : (before : ℤ) (entries : Entries) → hidden_held (map (hiding before) entries)
    ≡ points_held (with_early before) entries
hiding_held before [] = refl
hiding_held before (entry ∷ entries) = ap (λ (more : List Group). (entry.0, with_early before entry.1) ∷ more)
    (hiding_held before entries)

row_among : (rows : List Row) (row : Row) → Contains rows row → Contains (points_of row.key rows) row.point
row_among rows row there =
    in_map (λ (r : Row). r.point) (rows_of row.key rows) row
    (contains_kept (λ (r : Row). same_series row.key r.key) rows row there
    (keyed.same_itself same_series same_series-Decides key_of_row row.key))

hides_row : (before : ℤ) (entries : Entries) (rows : List Row) → series_held entries ≡ points_by_series rows
    → (row : Row) → Contains rows row
    → stands (hidden_held (map (hiding before) entries)) row
    ≡ (not (ends_before before row) && stands (hidden_held entries) row)
hides_row before entries rows grouped row there = by (lookup (same_series row.key) entries) refl
  where
    held : (of : SeriesPoints → List Point) (found : Option SeriesPoints)
        → lookup (same_series row.key) entries ≡ found
        → lookup (same_series row.key) (points_held of entries) ≡ option_map of found
    held of found e = held_lookup of (same_series row.key) entries ∙ ap (option_map of) e

    by : (found : Option SeriesPoints) → lookup (same_series row.key) entries ≡ found
        → stands (hidden_held (map (hiding before) entries)) row
        ≡ (not (ends_before before row) && stands (hidden_held entries) row)
    by None e =
        let none : points_of row.key rows ≡ [] =
        points_missing row.key rows (ap (lookup (same_series row.key)) (sym grouped) ∙ held all_points None e) in
        let point = subst (λ points. Contains points row.point) none (row_among rows row there) in
        absurd (omega (arith, point.1))
    by (Some series) e =
        let all : points_of row.key rows ≡ all_points series =
        points_found row.key rows (all_points series)
        (ap (lookup (same_series row.key)) (sym grouped) ∙ held all_points (Some series) e) in
        let point : Contains (series.hidden ++ series.points) row.point =
        subst (λ points. Contains points row.point) all (row_among rows row there) in
        let more : hidden_of (hidden_held (map (hiding before) entries)) row.key ≡ with_early before series =
        ap (λ groups. hidden_of groups row.key) (hiding_held before entries)
        ∙ ap points_or_none (held (with_early before) (Some series) e) in
        ap (λ points. not (reach points row.point)) more
        ∙ hides_more series.hidden series.points before row.point point
        ∙ ap (λ points. not (ends_before before row) && not (reach points row.point))
        (sym (hidden_found entries row.key series e))

pub hides_early : (before : ℤ) (entries : Entries) (rows : List Row) → series_held entries ≡ points_by_series rows
    → filter (stands (hidden_held (map (hiding before) entries))) rows
    ≡ filter (λ row. not (ends_before before row)) (filter (stands (hidden_held entries)) rows)
hides_early before entries rows grouped =
    same_tests (stands (hidden_held (map (hiding before) entries)))
    (λ row. not (ends_before before row) && stands (hidden_held entries) row) rows
    (all_within (λ row. stands (hidden_held (map (hiding before) entries)) row
    ≡ (not (ends_before before row) && stands (hidden_held entries) row)) rows
    (hides_row before entries rows grouped))
    ∙ sym (filter_both (stands (hidden_held entries)) (λ row. not (ends_before before row)) rows)

-- ---- the row at a place stands where its point's number is not below that of the hidden ones

pub place_stands : (entries : Entries) (place : Place) (key : SeriesKey) (series : SeriesPoints) (row : Row)
    → slice_get entries place.series ≡ Some (key, series) → lookup (same_series key) entries ≡ Some series
    → EndsRise (all_points series) → row_at (series_held entries) place.series place.point ≡ Some row
    → not (nat_lt place.point (length series.hidden)) ≡ stands (hidden_held entries) row
place_stands entries place key series row entry found rises there =
    let parts = row_parts (series_held entries) place.series place.point row there in
    let group : Some parts.0 ≡ Some (key, all_points series) =
    sym parts.1 ∙ held_entry all_points entries place.series key series entry in
    let same : parts.0 ≡ (key, all_points series) = cc in
    let own : row.key ≡ key = parts.2 ∙ ap (λ (g : Group). g.0) same in
    let point : slice_get (all_points series) place.point ≡ Some row.point =
    ap (λ (g : Group). slice_get g.1 place.point) (sym same) ∙ parts.3 in
    ap not (by point (nat_lt place.point (length series.hidden)) refl)
    ∙ ap (λ points. not (reach points row.point)) (sym (hidden_found entries key series found))
    ∙ ap (λ (k : SeriesKey). not (reach (hidden_of (hidden_held entries) k) row.point)) (sym own)
  where
    by : slice_get (all_points series) place.point ≡ Some row.point → (b : Bool)
        → nat_lt place.point (length series.hidden) ≡ b
        → b ≡ reach series.hidden row.point
    by point true e =
        let less : place.point < length series.hidden = grind (arith, nat_tests) in
        sym (first_reached series.hidden series.points place.point row.point point less)
    by point false e =
        let least : length series.hidden ≤ place.point = grind (arith, nat_tests) in
        sym (later_not_reached series.hidden series.points place.point row.point rises point least)
