-- The series of a number, where its key is the one that is asked for.
use Rattle.std.proofs.Common.{◌≡◌, ◌∙◌, ℕ, ℤ, Option, Some, None, IfSome, option_map, List, slice_get, sym, ap}
use Rattle.std.proofs.lemmas.Option.{slice_get-map}
use Rattle.mon_value.specs.LeafHistories.{points_by_series, points_of, series_of}
use Rattle.mon_value.specs.declared.rows.Point.{Point}
use Rattle.mon_value.specs.declared.rows.Row.{Row}
use Rattle.mon_value.specs.declared.rows.SeriesKey.{SeriesKey}

-- what a series' entry says of its key
entry_key : (of : SeriesKey → List Point) (found : Option SeriesKey) (own : SeriesKey) (points : List Point)
    → option_map {U = SeriesKey × List Point} (λ key. (key, of key)) found ≡ Some (own, points)
    → (found ≡ Some own) × (points ≡ of own)
entry_key of None own points is = absurd cc
entry_key of (Some key) own points is =
    let both : (key, of key) ≡ (own, points) = cc in
    let same : key ≡ own = ap (λ (g : SeriesKey × List Point). g.0) both in
    let its : of key ≡ points = ap (λ (g : SeriesKey × List Point). g.1) both in
    (ap (λ (k : SeriesKey). Some k) same, sym its ∙ ap of same)

pub guessed_series : (rows : List Row) (number : ℕ) (own key : SeriesKey) (points : List Point)
    → slice_get (points_by_series rows) number ≡ Some (own, points) → own ≡ key
    → (slice_get (series_of rows) number ≡ Some key) × (points ≡ points_of key rows)
guessed_series rows number own key points there same =
    let of : SeriesKey → List Point = λ key. points_of key rows in
    let is = entry_key of (slice_get (series_of rows) number) own points
    (sym (slice_get-map (λ key. (key, of key)) (series_of rows) number) ∙ there) in
    (is.0 ∙ ap (λ (k : SeriesKey). Some k) same, is.1 ∙ ap of same)

pub if_any : {X P : Type 0} (o : Option X) → P → IfSome o (λ x. P)
if_any None p = record {}
if_any (Some x) p = p

pub if_some_is : (o wanted : Option ℤ) → o ≡ wanted → IfSome o (λ x. Some x ≡ wanted)
if_some_is None wanted e = record {}
if_some_is (Some x) wanted e = e
