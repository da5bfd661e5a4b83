-- The parts of a group in which a row took the place of another, one aggregate after the other.
use Rattle.std.proofs.Common.{◌≡◌, ℕ, zero, suc, ◌+◌, ◌<◌, List, [], ◌∷◌, length, get_or, set, take, refl, sym, ap, subst, ◌∙◌}
use Rattle.std.proofs.Common.{add-one, arith}
use Rattle.mon_value.specs.declared.aggregates.Aggregate.{Aggregate}
use Rattle.mon_value.specs.declared.tables.TimedRow.{TimedRow}
use Rattle.mon_fold.specs.declared.aggregate_parts.AggregatePart.{AggregatePart}
use Rattle.kept_groups.specs.Trades.{CanTradePart, CanTradeParts, traded_part, traded_parts}

module _ (gone come : TimedRow) where
  length-traded_parts : (with : List Aggregate) (parts : List AggregatePart)
      → CanTradeParts with gone come parts → length (traded_parts with gone come parts) ≡ length parts
  length-traded_parts [] parts can = refl
  length-traded_parts (aggregate ∷ with) [] can = absurd can
  length-traded_parts (aggregate ∷ with) (part ∷ parts) can = omega (arith, length-traded_parts with parts can.1)

  in_bounds : (with : List Aggregate) (parts : List AggregatePart) (i : ℕ) → i < length with
      → CanTradeParts with gone come parts → i < length (traded_parts (take i with) gone come parts)
  in_bounds [] parts i h can = absurd (omega arith)
  in_bounds (aggregate ∷ with) [] i h can = absurd can
  in_bounds (aggregate ∷ with) (part ∷ parts) zero h can = omega arith
  in_bounds (aggregate ∷ with) (part ∷ parts) (suc i) h can = omega (arith, in_bounds with parts i (omega arith) can.1)

  -- the next part, in which no row was exchanged yet
  next_can : (with : List Aggregate) (parts : List AggregatePart) (i : ℕ) (e : Aggregate) (d : AggregatePart)
      → i < length with → CanTradeParts with gone come parts
      → CanTradePart (get_or with i e).column gone come (get_or (traded_parts (take i with) gone come parts) i d)
  next_can [] parts i e d h can = absurd (omega arith)
  next_can (aggregate ∷ with) [] i e d h can = absurd can
  next_can (aggregate ∷ with) (part ∷ parts) zero e d h can = can.0
  next_can (aggregate ∷ with) (part ∷ parts) (suc i) e d h can = next_can with parts i e d (omega arith) can.1

  next_traded : (with : List Aggregate) (parts : List AggregatePart) (i : ℕ) (e : Aggregate) (d : AggregatePart)
      → i < length with → CanTradeParts with gone come parts
      → set (traded_parts (take i with) gone come parts) i
      (traded_part (get_or with i e).column gone come (get_or (traded_parts (take i with) gone come parts) i d))
      ≡ traded_parts (take (i + 1) with) gone come parts
  next_traded [] parts i e d h can = absurd (omega arith)
  next_traded (aggregate ∷ with) [] i e d h can = absurd can
  next_traded (aggregate ∷ with) (part ∷ parts) zero e d h can = refl
  next_traded (aggregate ∷ with) (part ∷ parts) (suc i) e d h can =
      let rest = next_traded with parts i e d (omega arith) can.1 in
      rw add-one (ap (λ more. traded_part aggregate.column gone come part ∷ more) (rw add-one at rest))

  -- the same of the parts that a loop has made
  module _ (with : List Aggregate) (parts so_far : List AggregatePart) (i : ℕ) (h : i < length with)
      (can : CanTradeParts with gone come parts) (made : so_far ≡ traded_parts (take i with) gone come parts) where
    pub bounds_at : i < length so_far
    bounds_at = subst (λ (ps : List AggregatePart). i < length ps) (sym made) (in_bounds with parts i h can)

    pub can_at : (e : Aggregate) (d : AggregatePart)
        → CanTradePart (get_or with i e).column gone come (get_or so_far i d)
    can_at e d =
        subst (λ (ps : List AggregatePart). CanTradePart (get_or with i e).column gone come (get_or ps i d)) (sym made)
        (next_can with parts i e d h can)

    pub traded_at : (e : Aggregate) (d new : AggregatePart)
        → new ≡ traded_part (get_or with i e).column gone come (get_or so_far i d)
        → set so_far i new ≡ traded_parts (take (i + 1) with) gone come parts
    traded_at e d new is =
        ap (set so_far i) is
        ∙ ap (λ (ps : List AggregatePart). set ps i (traded_part (get_or with i e).column gone come (get_or ps i d))) made
        ∙ next_traded with parts i e d h can
