-- Rows that lie in different places share no target.
use Rattle.std.proofs.Common.{◌≡◌, ◌∙◌, ◌||◌, ◌&&◌, Bool, true, false, List, [], ◌∷◌, refl, ap}
use Rattle.std.specs.List.{AllByRecursion}
use Rattle.mon_value.proofs.SameLemmas.{same_series-Decides}
use Rattle.mon_value.specs.Same.{same_series, same_target}
use Rattle.mon_value.specs.declared.rows.Row.{Row}
use Rattle.mon_value.specs.declared.rows.SeriesKey.{SeriesKey}
use Rattle.mon_value.specs.declared.rows.Target.{Target}
use Rattle.mon_meaning.specs.ReadableSlots.{ShareNoTarget, has_target}

-- the key of a target alone
abbrev bare_key : Target → SeriesKey
bare_key target = record { target = target; metric = []; fields = [] }

pub one_target : (a b : Target) → same_target a b ≡ true → a ≡ b
one_target a b same =
    let whole : same_series (bare_key a) (bare_key b) ≡ true = ap (λ c. c && true) same in
    ap (λ (key : SeriesKey). key.target) ((same_series-Decides (bare_key a) (bare_key b)).0 whole)

-- no target lies in two places
module _ (IsHere IsThere : Row → Type 0)
    (apart : (row other : Row) → other.key.target ≡ row.key.target → IsHere row → IsThere other → ⊥) where
  target_by : (row other : Row) (c : Bool) → same_target other.key.target row.key.target ≡ c → IsHere row
      → IsThere other → c ≡ false
  target_by row other true same here there =
      absurd (apart row other (one_target other.key.target row.key.target same) here there)
  target_by row other false same here there = refl

  no_target : (row : Row) (others : List Row) → IsHere row → AllByRecursion IsThere others
      → has_target others row.key.target ≡ false
  no_target row [] here all = refl
  no_target row (other ∷ others) here all =
      ap (λ c. c || has_target others row.key.target)
      (target_by row other (same_target other.key.target row.key.target) refl here all.0)
      ∙ no_target row others here all.1

  pub no_targets : (rows others : List Row) → AllByRecursion IsHere rows → AllByRecursion IsThere others
      → ShareNoTarget rows others
  no_targets [] others all more = tt
  no_targets (row ∷ rows) others all more = (no_target row others all.0 more, no_targets rows others all.1 more)
