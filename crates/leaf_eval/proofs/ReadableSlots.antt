-- Slots that can be read together share no series.
use Rattle.std.proofs.Common.{◌≡◌, ◌∙◌, ◌||◌, Bool, true, false, List, [], ◌∷◌, map, refl, sym, ap}
use Rattle.std.specs.List.{AllByRecursion as All}
use Rattle.std.proofs.lemmas.Bool.{and_parts, or_parts}
use Rattle.leaf_eval.specs.Replicas.{AreReplicasApart, ShareNoSeries, has_series, kept_rows_of}
use Rattle.mon_meaning.specs.ReadableSlots.{AreApart, ShareNoTarget, has_target, CanBeRead}
use Rattle.mon_value.proofs.SameLemmas.{same_series-Decides}
use Rattle.mon_value.specs.Same.{same_series, same_target}
use Rattle.mon_value.specs.declared.histories.Entry.{Entry}
use Rattle.mon_value.specs.declared.positions.RangeSlot.{RangeSlot}
use Rattle.mon_value.specs.declared.rows.Row.{Row}
use Rattle.mon_value.specs.declared.rows.SeriesKey.{SeriesKey}
use Rattle.mon_value.specs.declared.rows.Target.{Target}
use Rattle.typed_trees.specs.Nodes.{TypedTree}

itself : (target : Target) → same_target target target ≡ true
itself target =
    let key : SeriesKey = record { target = target; metric = []; fields = [] } in
    (and_parts (same_target target target) true ((same_series-Decides key key).1 refl)).0

series_by : (key other : SeriesKey) (b : Bool) → same_series key other ≡ b
    → same_target other.target key.target ≡ false → b ≡ false
series_by key other true e apart =
    let same : key ≡ other = (same_series-Decides key other).0 e in
    let clash : same_target other.target key.target ≡ true =
    ap (λ (one : SeriesKey). same_target one.target key.target) (sym same) ∙ itself key.target in
    absurd cc
series_by key other false e apart = refl

no_series : (key : SeriesKey) (others : List Row) → has_target others key.target ≡ false → has_series others key ≡ false
no_series key [] apart = refl
no_series key (other ∷ others) apart =
    let parts = or_parts (same_target other.key.target key.target) (has_target others key.target) apart in
    ap (λ b. b || has_series others key) (series_by key other.key (same_series key other.key) refl parts.0)
    ∙ no_series key others parts.1

no_series_of : (rows others : List Row) → ShareNoTarget rows others → ShareNoSeries rows others
no_series_of [] others apart = tt
no_series_of (row ∷ rows) others apart = (no_series row.key others apart.0, no_series_of rows others apart.1)

module _ (history : List Entry) where
  apart_each : (one : RangeSlot) (slots : List RangeSlot)
      → All (ShareNoTarget (kept_rows_of history one)) (map (kept_rows_of history) slots)
      → All (λ other. ShareNoSeries (kept_rows_of history one) (kept_rows_of history other)) slots
  apart_each one [] apart = tt
  apart_each one (other ∷ slots) apart = (
    no_series_of (kept_rows_of history one) (kept_rows_of history other) apart.0,
    apart_each one slots apart.1,
  )

  apart_series : (slots : List RangeSlot) → AreApart ShareNoTarget (map (kept_rows_of history) slots)
      → AreReplicasApart history slots
  apart_series [] apart = tt
  apart_series (one ∷ slots) apart = (apart_each one slots apart.0, apart_series slots apart.1)

-- what can be read together shares no series
pub readable_apart : (typed : TypedTree) (history : List Entry) (slots : List RangeSlot)
    → CanBeRead typed history slots → AreReplicasApart history slots
readable_apart typed history slots can = apart_series history slots can.apart
