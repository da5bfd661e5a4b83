-- At each time of a later grid an alignment sees of the rows that matter what it sees of all.
use Rattle.std.proofs.Common.{◌≡◌, ◌∙◌, ℤ, ◌<ℤ◌, ◌≤ℤ◌, ◌-ℤ◌, Bool, true, false, ◌&&◌, ◌||◌, not, cond, List, [], ◌∷◌, ◌++◌, map}
use Rattle.std.proofs.Common.{refl, sym, ap, arith}
use Rattle.std.specs.Prelude.{int_le, int_lt}
use Rattle.std.specs.List.{AllByRecursion, filter, flat_map, list_any}
use Rattle.std.proofs.lemmas.Int.{ints}
use Rattle.mon_value.specs.Grids.{EndsRise, ends_within, seconds_of, timed_values, value_at, value_made, window_of}
use Rattle.mon_value.specs.LeafHistories.{EndsBefore, IsSource}
use Rattle.mon_value.specs.Same.{same_series}
use Rattle.mon_value.specs.declared.aligners.Aligner.{Aligner}
use Rattle.mon_value.specs.declared.aligners.Aligner.TheVariants as aligner
use Rattle.mon_value.specs.declared.rows.Point.{Point}
use Rattle.mon_value.specs.declared.rows.Row.{Row}
use Rattle.mon_value.specs.declared.rows.SeriesKey.{SeriesKey}
use Rattle.mon_value.proofs.SameLemmas.{same_series-Decides}
use Rattle.standing_incr.specs.NeededRows as needed
use Rattle.standing_incr.proofs.NeededLemmas.{needed_windows}

-- ---- tests of lists

-- a narrower test drops nothing that a wider one has kept
module _ {A : Type 0} (wide narrow : A → Bool) (step : (x : A) → narrow x ≡ true → wide x ≡ true) where
  narrow_if : (w n : Bool) → (n ≡ true → w ≡ true) → (x : A) (xs : List A) → filter narrow (filter wide xs)
      ≡ filter narrow xs → narrow x ≡ n
      → filter narrow (cond w (x ∷ filter wide xs) (filter wide xs)) ≡ cond n (x ∷ filter narrow xs) (filter narrow xs)
  narrow_if true n so x xs rest e =
      ap (λ c. cond c (x ∷ filter narrow (filter wide xs)) (filter narrow (filter wide xs))) e
      ∙ ap (λ (r : List A). cond n (x ∷ r) r) rest
  narrow_if false false so x xs rest e = rest
  narrow_if false true so x xs rest e =
      let wrong : false ≡ true = so refl in
      absurd cc

  pub filter_narrow : (xs : List A) → filter narrow (filter wide xs) ≡ filter narrow xs
  filter_narrow [] = refl
  filter_narrow (x ∷ xs) = narrow_if (wide x) (narrow x) (step x) x xs (filter_narrow xs) refl

-- ---- the ends of a series

module _ (flows : Row → Bool) where
  abbrev own : SeriesKey → Row → Bool
  own key row = same_series key row.key && flows row

  abbrev pub points_own : SeriesKey → List Row → List Point
  points_own key rows = map (λ (row : Row). row.point) (filter (own key) rows)

  later_by : (key : SeriesKey) (row next : Row) (rows : List Row) (b : Bool) → own key next ≡ b
      → same_series key row.key ≡ true → EndsBefore row next
      → AllByRecursion (λ (p : Point). row.point.end <ℤ p.end) (points_own key rows)
      → AllByRecursion (λ (p : Point). row.point.end <ℤ p.end)
      (map (λ (r : Row). r.point) (cond b (next ∷ filter (own key) rows) (filter (own key) rows)))
  later_by key row next rows true e same before rest =
      let here = both (same_series key next.key) (flows next) e in
      let one : key ≡ row.key = (same_series-Decides key row.key).0 same in
      (before (ap (λ k. same_series k next.key) (sym one) ∙ here), rest)
    where
      both : (a b : Bool) → (a && b) ≡ true → a ≡ true
      both true b e = refl
      both false b e = absurd cc
  later_by key row next rows false e same before rest = rest

  all_later : (key : SeriesKey) (row : Row) (rows : List Row) → same_series key row.key ≡ true
      → AllByRecursion (EndsBefore row) rows
      → AllByRecursion (λ (p : Point). row.point.end <ℤ p.end) (points_own key rows)
  all_later key row [] same all = tt
  all_later key row (next ∷ rows) same all =
      later_by key row next rows (own key next) refl same all.0 (all_later key row rows same all.1)

  rise_by : (key : SeriesKey) (row : Row) (rows : List Row) (a b : Bool) → same_series key row.key ≡ a → flows row ≡ b
      → AllByRecursion (EndsBefore row) rows → EndsRise (points_own key rows)
      → EndsRise (map (λ (r : Row). r.point) (cond (a && b) (row ∷ filter (own key) rows) (filter (own key) rows)))
  rise_by key row rows true true e f all rest = (all_later key row rows e all, rest)
  rise_by key row rows true false e f all rest = rest
  rise_by key row rows false b e f all rest = rest

  -- the points of a series of a source end one after another
  pub points_rise : (key : SeriesKey) (rows : List Row) → IsSource rows → EndsRise (points_own key rows)
  points_rise key [] source = tt
  points_rise key (row ∷ rows) source =
      rise_by key row rows (same_series key row.key) (flows row) refl refl source.0 (points_rise key rows source.1)

-- ---- rows above the start alone

module _ (met flows : Row → Bool) (meets : (row : Row) → flows row ≡ true → met row ≡ true) (start : ℤ) where
  abbrev is_late : Point → Bool
  is_late point = int_lt start point.end

  late_by : (key : SeriesKey) (row : Row) (rest : List Row) (later : List Point) (s f m l : Bool)
      → (f ≡ true → m ≡ true) → same_series key row.key ≡ s → flows row ≡ f → is_late row.point ≡ l
      → points_own flows key rest ≡ filter is_late later → (others : Bool)
      → points_own flows key (cond (m && (l || (false && not others))) (row ∷ rest) rest)
      ≡ filter is_late (cond (s && f) (row.point ∷ later) later)
  late_by key row rest later true true true true so e g h tail others =
      ap (λ c. map (λ (r : Row). r.point) (cond c (row ∷ filter (own flows key) rest) (filter (own flows key) rest)))
      (λ i. e i && g i)
      ∙ ap (λ (more : List Point). row.point ∷ more) tail
      ∙ sym (ap (λ c. cond c (row.point ∷ filter is_late later) (filter is_late later)) h)
  late_by key row rest later true true true false so e g h tail others =
      tail ∙ sym (ap (λ c. cond c (row.point ∷ filter is_late later) (filter is_late later)) h)
  late_by key row rest later true true false l so e g h tail others =
      let wrong : false ≡ true = so refl in
      absurd cc
  late_by key row rest later true false true true so e g h tail others =
      ap (λ c. map (λ (r : Row). r.point) (cond c (row ∷ filter (own flows key) rest) (filter (own flows key) rest)))
      (λ i. e i && g i)
      ∙ tail
  late_by key row rest later true false true false so e g h tail others = tail
  late_by key row rest later true false false l so e g h tail others = tail
  late_by key row rest later false f true true so e g h tail others =
      ap (λ c. map (λ (r : Row). r.point) (cond (c && flows row) (row ∷ filter (own flows key) rest)
      (filter (own flows key) rest))) e
      ∙ tail
  late_by key row rest later false f true false so e g h tail others = tail
  late_by key row rest later false f false l so e g h tail others = tail

  with_if : (key : SeriesKey) (row : Row) (rows : List Row) (c : Bool)
      → map (λ (r : Row). r.point) (cond c (row ∷ filter (own flows key) rows) (filter (own flows key) rows))
      ≡ cond c (row.point ∷ points_own flows key rows) (points_own flows key rows)
  with_if key row rows true = refl
  with_if key row rows false = refl

  abbrev late_rows : List Row → List Row
  late_rows = needed.needed_rows met (λ (row : Row). false) start

  -- the points of a series among the rows that matter where none stands before the reach
  pub late_points : (key : SeriesKey) (rows : List Row)
      → points_own flows key (late_rows rows) ≡ filter is_late (points_own flows key rows)
  late_points key [] = refl
  late_points key (row ∷ rows) =
      late_by key row (late_rows rows) (points_own flows key rows) (same_series key row.key) (flows row) (met row)
      (is_late row.point) (meets row) refl refl refl (late_points key rows)
      (list_any (needed.is_earlier met (λ (r : Row). false) start row.key) rows)
      ∙ ap (filter is_late) (sym (with_if key row rows (same_series key row.key && flows row)))

-- ---- what is seen at a time

-- which rows matter before the reach: those that flow, for an aligner that looks there
abbrev pub before_if : Bool → (Row → Bool) → Row → Bool
before_if looks flows row = looks && flows row

module _ (met flows : Row → Bool) (meets : (row : Row) → flows row ≡ true → met row ≡ true) (start : ℤ)
    (key : SeriesKey) (rows : List Row) (source : IsSource rows) (time : ℤ) where
  within_late : (seconds : ℤ) → start ≤ℤ (time -ℤ seconds) → (point : Point) → ends_within time seconds point ≡ true
      → int_lt start point.end ≡ true
  within_late seconds order point e =
      let after = first (int_lt (time -ℤ seconds) point.end) (int_le point.end time) e in
      grind (arith, ints)
    where
      first : (a b : Bool) → (a && b) ≡ true → a ≡ true
      first true b e = refl
      first false b e = absurd cc

  late_window : (seconds : ℤ) → start ≤ℤ (time -ℤ seconds)
      → window_of time seconds (points_own flows key (needed.needed_rows met (before_if false flows) start rows))
      ≡ window_of time seconds (points_own flows key rows)
  late_window seconds order =
      ap (window_of time seconds) (late_points met flows meets start key rows)
      ∙ filter_narrow (λ (point : Point). int_lt start point.end) (ends_within time seconds)
      (within_late seconds order) (points_own flows key rows)

  -- an aligner sees the same points of a series
  pub value_needed : (by : Aligner) (looks : Bool)
      → ((seconds : ℤ) → by ≡ aligner.Increase seconds → looks ≡ true)
      → ((seconds : ℤ) → by ≡ aligner.Delta seconds → looks ≡ false)
      → ((seconds : ℤ) → by ≡ aligner.NextOlder seconds → looks ≡ false)
      → start ≤ℤ (time -ℤ seconds_of by)
      → value_at by (points_own flows key (needed.needed_rows met (before_if looks flows) start rows)) time
      ≡ value_at by (points_own flows key rows) time
  value_needed (aligner.Delta seconds) true one two three order =
      let wrong : true ≡ false = two seconds refl in
      absurd cc
  value_needed (aligner.Delta seconds) false one two three order =
      ap (value_made (aligner.Delta seconds)) (late_window seconds order)
  value_needed (aligner.NextOlder seconds) true one two three order =
      let wrong : true ≡ false = three seconds refl in
      absurd cc
  value_needed (aligner.NextOlder seconds) false one two three order =
      ap (value_made (aligner.NextOlder seconds)) (late_window seconds order)
  value_needed (aligner.Increase seconds) false one two three order =
      let wrong : false ≡ true = one seconds refl in
      absurd cc
  value_needed (aligner.Increase seconds) true one two three order =
      ap (value_made (aligner.Increase seconds))
      (needed_windows met flows meets time seconds start order key rows (points_rise flows key rows source))

-- values at times at which they agree
pub values_alike : (by : Aligner) (some others : List Point) (P : ℤ → Type 0)
    → ((time : ℤ) → P time → value_at by some time ≡ value_at by others time)
    → (times : List ℤ) → AllByRecursion P times
    → flat_map (λ time. timed_values time (value_at by some time)) times
    ≡ flat_map (λ time. timed_values time (value_at by others time)) times
values_alike by some others P same [] all = refl
values_alike by some others P same (time ∷ times) all =
    let rest = values_alike by some others P same times all.1 in
    let here = same time all.0 in
    λ i. timed_values time (here i) ++ rest i
