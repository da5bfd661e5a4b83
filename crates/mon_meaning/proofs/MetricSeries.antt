-- The series of a metric, one number after another: those that are counted are all that are counted.
use Rattle.std.proofs.Common.{◌≡◌, ◌∙◌, ◌&&◌, ◌==◌, ◌<◌, ◌+◌, ℕ, zero, suc, Bool, true, false, not, cond, Option, Some}
use Rattle.std.proofs.Common.{List, [], ◌∷◌, ◌++◌, length, refl, sym, ap, subst, slice_get, append_assoc, arith}
use Rattle.std.specs.List.{AllByRecursion, cons_option, filter, filter_map, sum_by}
use Rattle.std.proofs.lemmas.List.{length-append, length-map}
use Rattle.std.proofs.lemmas.List.Elements.{filter_agree}
use Rattle.std.proofs.lemmas.List.Sums.{sum_by-cons}
use Rattle.mon_series.proofs.MetricLemmas.{keys_in, keys_of_groups}
use Rattle.mon_series.specs.HeldSeries.{all_series, held_series}
use Rattle.mon_series.specs.MetricNumbers.{metric_numbers, numbers_from}
use Rattle.mon_value.specs.Same.{same_text}
use Rattle.mon_value.specs.LeafHistories.{points_of, series_of}
use Rattle.mon_value.specs.declared.aligners.Aligner.{Aligner}
use Rattle.mon_value.specs.declared.grids.Grid.{Grid}
use Rattle.mon_value.specs.declared.rows.Row.{Row}
use Rattle.mon_value.specs.declared.rows.SeriesKey.{SeriesKey}
use Rattle.mon_meaning.specs.within.FetchViews.{FetchView, is_fetch_met}
use Rattle.mon_meaning.specs.within.MetSeries.{is_counted, met_count}
use Rattle.mon_meaning.specs.within.Reach.{points_within_reach}
use Rattle.mon_meaning.specs.within.SeriesMeaning.{SeriesGroup}
use Rattle.mon_meaning.proofs.FilterLemmas.{filter_twice}
use Rattle.mon_meaning.proofs.LeftOutLemmas.{counted_as_held, loaded_as_held}
use Rattle.mon_value.proofs.PlainLemmas.{and_true}

-- ---- the series of numbers

-- the series with these numbers
abbrev numbered : List SeriesGroup → List ℕ → List SeriesGroup
numbered groups numbers = filter_map (λ (number : ℕ). slice_get groups number) numbers

abbrev is_of : List ℕ → SeriesGroup → Bool
is_of metric group = same_text metric group.0.metric

at_seam : (done : List SeriesGroup) (group : SeriesGroup) (rest : List SeriesGroup) → slice_get (done ++ group ∷ rest)
    (length done) ≡ Some group
at_seam [] group rest = refl
at_seam (d ∷ done) group rest = at_seam done group rest

numbered_from : (metric : List ℕ) (all done rest : List SeriesGroup) (n : ℕ) → done ++ rest ≡ all → n ≡ length done
    → numbered all (numbers_from n metric (keys_in rest)) ≡ filter (is_of metric) rest
numbered_from metric all done [] n split count = refl
numbered_from metric all done (group ∷ rest) n split count =
    let there : slice_get all n ≡ Some group =
    (λ i. slice_get (sym split i) (count i)) ∙ at_seam done group rest in
    let longer = length-append done (group ∷ []) in
    by (is_of metric group) there
    (numbered_from metric all (done ++ group ∷ []) rest (suc n) (append_assoc done (group ∷ []) rest ∙ split)
    (omega (arith, count, longer)))
  where
    by : (b : Bool) → slice_get all n ≡ Some group → numbered all (numbers_from (suc n) metric (keys_in rest))
        ≡ filter (is_of metric) rest
        → numbered all (cond b (n ∷ numbers_from (suc n) metric (keys_in rest))
        (numbers_from (suc n) metric (keys_in rest)))
        ≡ cond b (group ∷ filter (is_of metric) rest) (filter (is_of metric) rest)
    by true there ih =
        ap (λ (o : Option SeriesGroup). cons_option o (numbered all (numbers_from (suc n) metric (keys_in rest)))) there
        ∙ ap (λ (groups : List SeriesGroup). group ∷ groups) ih
    by false there ih = ih

numbers_below : (metric : List ℕ) (n : ℕ) (keys : List SeriesKey) → AllByRecursion (λ m. m < n + length keys)
    (numbers_from n metric keys)
numbers_below metric n [] = tt
numbers_below metric n (key ∷ keys) =
    let count : suc n + length keys ≡ n + suc (length keys) = omega arith in
    by (same_text metric key.metric)
    (subst (λ (most : ℕ). AllByRecursion (λ m. m < most) (numbers_from (suc n) metric keys)) count
    (numbers_below metric (suc n) keys))
  where
    by : (b : Bool) → AllByRecursion (λ m. m < n + suc (length keys)) (numbers_from (suc n) metric keys)
        → AllByRecursion (λ m. m < n + suc (length keys)) (cond b (n ∷ numbers_from (suc n) metric keys)
        (numbers_from (suc n) metric keys))
    by true all = (omega arith, all)
    by false all = all

-- ---- what is counted

of_metric_by : (schema metric hold reaches : Bool)
    → ((((schema && metric) && hold) && reaches) && metric) ≡ (((schema && metric) && hold) && reaches)
of_metric_by schema true hold reaches = and_true (((schema && true) && hold) && reaches)
of_metric_by true false hold reaches = refl
of_metric_by false false hold reaches = refl

unmet_by : (schema metric hold : Bool) (count : ℕ) → metric ≡ false → cond ((schema && metric) && hold) count 0 ≡ 0
unmet_by schema true hold count e = absurd cc
unmet_by true false hold count e = refl
unmet_by false false hold count e = refl

counted_none : (met : Bool) (count : ℕ) → cond met count 0 ≡ 0 → (met && not (count == 0)) ≡ false
counted_none true count e = ap (λ n. not (n == 0)) e
counted_none false count e = refl

not_empty : (count : ℕ) (empty : Bool) → (suc count == 0) ≡ empty → not empty ≡ true
not_empty count true e = absurd (grind arith)
not_empty count false e = refl

counted_some : (met : Bool) (count : ℕ) → 0 < cond met count 0 → (met && not (count == 0)) ≡ true
counted_some true zero h = absurd (omega (arith, h))
counted_some true (suc count) h = not_empty count (suc count == 0) refl
counted_some false count h = absurd (omega (arith, h))

module _ (grid : Grid) (by : Aligner) (fetch : FetchView) where
  abbrev counts : SeriesGroup → Bool
  counts = is_counted grid by fetch

  abbrev count_of : SeriesGroup → ℕ
  count_of = met_count grid by fetch

  of_metric : (group : SeriesGroup) → (counts group && is_of fetch.metric group) ≡ counts group
  of_metric group =
      of_metric_by (same_text fetch.schema group.0.target.schema) (same_text fetch.metric group.0.metric) _
      (not (length (points_within_reach grid by group.1) == 0))

  counted_of_metric : (groups : List SeriesGroup) → filter counts (filter (is_of fetch.metric) groups) ≡ filter counts
      groups
  counted_of_metric groups = filter_twice (is_of fetch.metric) counts groups ∙ filter_agree _ _ of_metric groups

  sum_of_metric : (groups : List SeriesGroup) → sum_by count_of (filter (is_of fetch.metric) groups) ≡ sum_by count_of
      groups
  sum_of_metric [] = refl
  sum_of_metric (group ∷ groups) = sum_if (is_of fetch.metric group) refl (sum_of_metric groups)
    where
      sum_if : (b : Bool) → is_of fetch.metric group ≡ b → sum_by count_of (filter (is_of fetch.metric) groups)
          ≡ sum_by count_of groups
          → sum_by count_of (cond b (group ∷ filter (is_of fetch.metric) groups) (filter (is_of fetch.metric) groups))
          ≡ sum_by count_of (group ∷ groups)
      sum_if true e ih =
          omega (
            arith,
            ih,
            sum_by-cons count_of group (filter (is_of fetch.metric) groups),
            sum_by-cons count_of group
                groups,
          )
      sum_if false e ih =
          let none : count_of group ≡ 0 =
          unmet_by (same_text fetch.schema group.0.target.schema) (same_text fetch.metric group.0.metric)
          _ (length (points_within_reach grid by group.1)) e in
          omega (arith, ih, none, sum_by-cons count_of group groups)

  -- what was met so far with the series of the numbers that are left is all that is met of the whole; so with the points
  pub record MetSoFar (groups whole : List SeriesGroup) (numbers : List ℕ) (start met : List SeriesGroup)
      (start_load load : ℕ) : Type 0 where
    pub within : AllByRecursion (λ number. number < length groups) numbers
    pub met_is : met ++ filter counts (numbered groups numbers) ≡ start ++ filter counts whole
    pub load_is : load + sum_by count_of (numbered groups numbers) ≡ start_load + sum_by count_of whole

  pub none_met : (rows kept : List Row) (numbers : List ℕ) (met : List SeriesGroup) (load : ℕ) → numbers
      ≡ metric_numbers fetch.metric rows
      → MetSoFar (all_series rows kept) (held_series rows kept) numbers met met load load
  none_met rows kept numbers met load is =
      let groups = all_series rows kept in
      let keys : keys_in groups ≡ series_of rows = keys_of_groups (λ key. points_of key kept) (series_of rows) in
      let all : numbered groups numbers ≡ filter (is_of fetch.metric) groups =
      ap (numbered groups) (is ∙ ap (numbers_from 0 fetch.metric) (sym keys)) ∙ numbered_from fetch.metric groups []
      groups 0 refl refl in
      let count : 0 + length (series_of rows) ≡ length groups =
      omega (arith, ap length keys, length-map groups (λ (group : SeriesGroup). group.0)) in
      record {
        within = subst (λ (ns : List ℕ). AllByRecursion (λ number. number < length groups) ns) (sym is)
            (subst (λ (most : ℕ). AllByRecursion (λ number. number < most) (metric_numbers fetch.metric rows)) count
            (numbers_below fetch.metric 0 (series_of rows)));
        met_is = ap (λ (gs : List SeriesGroup). met ++ gs) (ap (filter counts) all ∙ counted_of_metric groups
            ∙ counted_as_held grid by fetch rows kept);
        load_is = ap (λ (n : ℕ). load + n) (ap (sum_by count_of) all ∙ sum_of_metric groups
            ∙ loaded_as_held grid by fetch rows kept);
      }

  pub within_series : (rows kept : List Row) (whole : List SeriesGroup) (numbers rest : List ℕ) (number : ℕ)
      (start met : List SeriesGroup)
      (start_load load : ℕ)
      → MetSoFar (all_series rows kept) whole numbers start met start_load load → numbers ≡ number ∷ rest → number
      < length (series_of rows)
  within_series rows kept whole numbers rest number start met start_load load so_far is =
      let of : SeriesKey → SeriesGroup = λ key. (key, points_of key kept) in
      let all = subst (λ (ns : List ℕ). AllByRecursion (λ n. n < length (all_series rows kept)) ns) is so_far.within in
      omega (arith, all.0, length-map (series_of rows) of)

  module _ (groups whole : List SeriesGroup) (numbers rest : List ℕ) (number : ℕ) (group : SeriesGroup)
      (start met : List SeriesGroup) (start_load load : ℕ)
      (so_far : MetSoFar groups whole numbers start met start_load load) (is : numbers ≡ number ∷ rest)
      (there : slice_get groups number ≡ Some group) where
    within_rest : AllByRecursion (λ n. n < length groups) rest
    within_rest = (subst (λ (ns : List ℕ). AllByRecursion (λ n. n < length groups) ns) is so_far.within).1

    first_of : numbered groups numbers ≡ group ∷ numbered groups rest
    first_of = ap (numbered groups) is ∙ ap (λ (o : Option SeriesGroup). cons_option o (numbered groups rest)) there

    next_filter : filter counts (numbered groups numbers) ≡ cond (counts group)
        (group ∷ filter counts (numbered groups rest)) (filter counts (numbered groups rest))
    next_filter = ap (filter counts) first_of

    next_sum : sum_by count_of (numbered groups numbers) ≡ count_of group + sum_by count_of (numbered groups rest)
    next_sum = ap (sum_by count_of) first_of ∙ sum_by-cons count_of group (numbered groups rest)

    -- a series that isn't met, or has no points in reach
    pub one_passed : (more : List SeriesGroup) (more_load : ℕ) → count_of group ≡ 0 → more ≡ met → more_load ≡ load
        → MetSoFar groups whole rest start more start_load more_load
    one_passed more more_load none same counted =
        let out : counts group
        ≡ false = counted_none (is_fetch_met fetch group.0) (length (points_within_reach grid by group.1)) none in
        let left = filter counts (numbered groups rest) in record {
          within = within_rest;
          met_is = ap (λ (gs : List SeriesGroup). gs ++ left) same
              ∙ ap (λ (gs : List SeriesGroup). met ++ gs)
              (sym (next_filter ∙ ap (λ b. cond b (group ∷ left) left) out)) ∙ so_far.met_is;
          load_is = omega (arith, next_sum, none, counted, so_far.load_is);
        }

    -- one more is met
    pub one_met : (more : List SeriesGroup) (more_load : ℕ) → 0 < count_of group → more ≡ met ++ group ∷ [] → more_load
        ≡ load + count_of group
        → MetSoFar groups whole rest start more start_load more_load
    one_met more more_load some added counted =
        let in_reach : counts group
        ≡ true = counted_some (is_fetch_met fetch group.0) (length (points_within_reach grid by group.1))
        some in
        let left = filter counts (numbered groups rest) in record {
          within = within_rest;
          met_is = ap (λ (gs : List SeriesGroup). gs ++ left) added ∙ append_assoc met (group ∷ []) left
              ∙ ap (λ (gs : List SeriesGroup). met ++ gs)
              (sym (next_filter ∙ ap (λ b. cond b (group ∷ left) left) in_reach)) ∙ so_far.met_is;
          load_is = omega (arith, next_sum, counted, so_far.load_is);
        }
