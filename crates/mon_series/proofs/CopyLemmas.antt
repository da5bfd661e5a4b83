-- The series of a map, copied one by one into another.
use Rattle.std.proofs.Common.{◌≡◌, ◌∙◌, Bool, true, false, cond, List, [], ◌∷◌, ◌++◌, Some, None, refl, sym, ap, subst}
use Rattle.std.proofs.Common.{append_assoc}
use Rattle.std.specs.List.{AllByRecursion, IsDistinct}
use Rattle.std.specs.Map.{keys_of, lookup}
use Rattle.std.proofs.lemmas.List.{map-append}
use Rattle.indexmap.specs.IndexMap.{IndexMap, get, insert_entry}
use Rattle.indexmap.proofs.CallerLemmas.{insert_entry-new}
use Rattle.mon_series.specs.SeriesPoints.{SeriesPoints}
use Rattle.mon_value.proofs.SameLemmas.{same_series-Decides, same_series-test}
use Rattle.mon_value.specs.Same.{same_series}
use Rattle.mon_value.specs.contracts.rows.SeriesKeyPartialEq.TheImpl as derived
use Rattle.mon_value.specs.declared.rows.Point.{Point}
use Rattle.mon_value.specs.declared.rows.SeriesKey.{SeriesKey}
use Rattle.mon_series.specs.within.Places.{Group}
use Rattle.mon_series.specs.SeriesMaps.{points_held}
use Rattle.mon_series.proofs.HeldLemmas.{Entries, held_none}

apart_back : (a b : SeriesKey) (c : Bool) → same_series b a ≡ c → same_series a b ≡ false → c ≡ false
apart_back a b true same apart =
    let both : same_series a b ≡ true = (same_series-Decides a b).1 (sym ((same_series-Decides b a).0 same)) in
    absurd cc
apart_back a b false same apart = refl

among : (P : SeriesKey → Type 0) (done : List Group) (group : Group) (rest : List Group)
    → AllByRecursion P (keys_of (done ++ group ∷ rest)) → P group.0
among P [] group rest all = all.0
among P (d ∷ done) group rest all = among P done group rest all.1

-- no group so far has the key of a later one
absent_so_far : (done : List Group) (group : Group) (rest : List Group)
    → IsDistinct same_series (keys_of (done ++ group ∷ rest)) → lookup (same_series group.0) done ≡ None
unfolding IsDistinct
absent_so_far [] group rest distinct = refl
absent_so_far (d ∷ done) group rest distinct =
    let behind = among (λ other. same_series d.0 other ≡ false) done group rest distinct.0 in
    let apart = apart_back d.0 group.0 (same_series group.0 d.0) refl behind in
    ap (λ b. cond b (Some d.1) (lookup (same_series group.0) done)) apart ∙ absent_so_far done group rest distinct.1

-- ---- some points of each series

module _ (of : SeriesPoints → List Point) where
  keys_held : (entries : Entries) → keys_of (points_held of entries) ≡ keys_of entries
  keys_held [] = refl
  keys_held (entry ∷ entries) = ap (λ (keys : List SeriesKey). entry.0 ∷ keys) (keys_held entries)

  -- a copy more goes to the end
  pub copy_put : {H : Type 0} (made : IndexMap SeriesKey SeriesPoints H) (own key : SeriesKey)
      (copy series : SeriesPoints) (rest all new : Entries)
      → own ≡ key → of copy ≡ of series → new ≡ insert_entry derived.eq-value.it made.entries own copy
      → points_held of made.entries ++ points_held of ((key, series) ∷ rest) ≡ points_held of all
      → IsDistinct derived.eq-value.it (keys_of all) → points_held of new ++ points_held of rest ≡ points_held of all
  copy_put made own key copy series rest all new owns points is whole distinct =
      let done : List Group = points_held of made.entries in
      let same : derived.eq-value.it ≡ same_series = λ i k. same_series-test k i in
      let by_series : IsDistinct same_series (keys_of (points_held of all)) =
      subst (λ test. IsDistinct test (keys_of (points_held of all))) same (subst (IsDistinct derived.eq-value.it)
      (sym (keys_held all)) distinct) in
      let unlike : IsDistinct same_series (keys_of (done ++ (key, of series) ∷ points_held of rest)) =
      subst (λ (groups : List Group). IsDistinct same_series (keys_of groups)) (sym whole) by_series in
      let absent : lookup (same_series own) done ≡ None =
      ap (λ (k : SeriesKey). lookup (same_series k) done) owns ∙ absent_so_far done (key, of series)
      (points_held of rest) unlike in
      let none : get derived.eq-value.it made own ≡ None = ap (λ test. lookup test made.entries) (same_series-test own)
      ∙ held_none of own made.entries absent in
      let put : points_held of new ≡ done ++ (key, of series) ∷ [] =
      ap (points_held of) (is ∙ insert_entry-new derived.eq-value.it made own copy none)
      ∙ map-append (λ (entry : SeriesKey × SeriesPoints). (entry.0, of entry.1)) made.entries ((own, copy) ∷ [])
      ∙ (λ i. done ++ (owns i, points i) ∷ []) in
      ap (λ (groups : List Group). groups ++ points_held of rest) put
      ∙ append_assoc done ((key, of series) ∷ []) (points_held of rest) ∙ whole
