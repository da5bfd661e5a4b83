-- Parts that tell what they are without a row, one aggregate after the other.
use Rattle.std.proofs.Common.{◌≡◌, ℕ, zero, suc, ◌+◌, ◌<◌, ◌≤◌, List, [], ◌∷◌, Some, length, get_or, drop}
use Rattle.std.proofs.Common.{slice_get, refl, sym, subst, add-one, arith}
use Rattle.mon_value.specs.declared.aggregates.Aggregate.{Aggregate}
use Rattle.mon_value.specs.declared.tables.TimedRow.{TimedRow}
use Rattle.mon_fold.specs.declared.aggregate_parts.AggregatePart.{AggregatePart}
use Rattle.kept_groups.specs.Trades.{AreTold, IsTold}

module _ (gone come : TimedRow) where
  -- there is a part at a place, and it tells
  abbrev pub TellsAt : Aggregate → List AggregatePart → ℕ → Type 0
  TellsAt aggregate parts i =
      (part : AggregatePart) × (slice_get parts i ≡ Some part) × IsTold aggregate.column gone come part

  pub told_step : (with : List Aggregate) (parts : List AggregatePart) (i : ℕ) (d : Aggregate) → i < length with
      → TellsAt (get_or with i d) parts i
      → AreTold (drop (i + 1) with) gone come (drop (i + 1) parts) → AreTold (drop i with) gone come (drop i parts)
  told_step [] parts i d h tells rest = absurd (omega arith)
  told_step (aggregate ∷ with) [] i d h tells rest = let none = tells.1 in absurd cc
  told_step (aggregate ∷ with) (part ∷ parts) zero d h tells rest =
      let found = tells.1 in
      let same : part ≡ tells.0 = cc in
      (subst (λ (p : AggregatePart). IsTold aggregate.column gone come p) (sym same) tells.2, rest)
  told_step (aggregate ∷ with) (part ∷ parts) (suc i) d h tells rest =
      let more = rw add-one at rest in
      told_step with parts i d (omega arith) tells (rw add-one more)

  all_dropped : (with : List Aggregate) (i : ℕ) → length with ≤ i → drop i with ≡ []
  all_dropped [] zero h = refl
  all_dropped [] (suc i) h = refl
  all_dropped (aggregate ∷ with) zero h = absurd (omega arith)
  all_dropped (aggregate ∷ with) (suc i) h = all_dropped with i (omega arith)

  pub told_end : (with : List Aggregate) (parts : List AggregatePart) (i : ℕ) → length with ≤ i
      → AreTold (drop i with) gone come (drop i parts)
  told_end with parts i h =
      subst (λ (some : List Aggregate). AreTold some gone come (drop i parts)) (sym (all_dropped with i h)) tt
