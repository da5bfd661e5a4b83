-- The groups of a table's rows.
use Rattle.mon_value.specs.declared.values.Value.TheVariants as value
use Rattle.std.proofs.Common.{◌≤◌, ◌≡◌, ◌<◌, length, Bool, true, cond, Some, None, List, [], ◌∷◌, ◌++◌, map, ℕ, arith, sum}
use Rattle.std.specs.Map.{lookup}
use Rattle.mon_value.proofs.KeyedLemmas as keyed
use Rattle.mon_value.proofs.SameLemmas.{same_row-Decides}
use Rattle.std.proofs.lemmas.List.Sums.{sum_by-cons}
use Rattle.std.proofs.Common.{sum_by, unsigned_abs}
use Rattle.mon_value.specs.Values.{magnitude}
use Rattle.mon_value.specs.declared.values.Value.{Value}
use Rattle.mon_value.specs.Groups.{group_key, group_keys, rows_by_group, rows_in, numbers_in, distributions_in}
use Rattle.mon_value.specs.Same.{same_row}
use Rattle.mon_value.specs.declared.tables.TimedRow.{TimedRow}

-- a group and its rows
abbrev pub RowGroup : Type 0
RowGroup = TimedRow × List TimedRow

-- groups with a group more: its rows go into the one that is there, or it goes to the end
abbrev pub with_rows : List RowGroup → RowGroup → List RowGroup
with_rows = keyed.with_items same_row

-- groups with all of the others
abbrev pub merged_rows : List RowGroup → List RowGroup → List RowGroup
merged_rows = keyed.merged_groups same_row

module _ (places : List ℕ) where
  -- the group of one row
  abbrev pub own_group : TimedRow → RowGroup
  own_group = keyed.own_group same_row same_row-Decides (group_key places)

  abbrev pub has : TimedRow → List TimedRow → Bool
  has = keyed.has same_row same_row-Decides (group_key places)

  pub same_itself : (a : TimedRow) → same_row a a ≡ true
  same_itself = keyed.same_itself same_row same_row-Decides (group_key places)

  pub rows_in-push : (key : TimedRow) (rows : List TimedRow) (row : TimedRow)
      → rows_in places key (rows ++ row ∷ []) ≡ rows_in places key rows ++ cond (same_row key (group_key places row))
      (row ∷ []) []
  rows_in-push = keyed.items_with-push same_row same_row-Decides (group_key places)

  pub rows_by_group-push : (rows : List TimedRow) (row : TimedRow) → rows_by_group places (rows ++ row ∷ [])
      ≡ with_rows (rows_by_group places rows) (own_group row)
  rows_by_group-push = keyed.items_by_key-push same_row same_row-Decides (group_key places)

  pub rows_some : (key : TimedRow) (rows : List TimedRow) → has key (group_keys places rows) ≡ true
      → 0 < length (rows_in places key rows)
  rows_some = keyed.items_some same_row same_row-Decides (group_key places)

  pub look_up : {A : Type 0} (of : TimedRow → A) (key : TimedRow) (keys : List TimedRow) (b : Bool) → has key keys ≡ b
      → lookup (same_row key) (map (λ (k : TimedRow). (k, of k)) keys) ≡ cond b (Some (of key)) None
  look_up = keyed.look_up same_row same_row-Decides (group_key places)

  -- the groups of two lists of rows are those of both
  pub merged_rows_by_group : (xs ys : List TimedRow) → merged_rows (rows_by_group places xs) (rows_by_group places ys)
      ≡ rows_by_group places (xs ++ ys)
  merged_rows_by_group = keyed.merged_items_by_key same_row same_row-Decides (group_key places)

pub numbers-magnitude : (values : List Value) → sum_by unsigned_abs (numbers_in values) ≤ sum_by magnitude values
numbers-magnitude [] = omega arith
numbers-magnitude (value.Int z ∷ values) =
    omega (
      arith,
      numbers-magnitude values,
      sum_by-cons unsigned_abs z (numbers_in values),
      sum_by-cons magnitude (value.Int z) values,
    )
numbers-magnitude (value.Bool p ∷ values) =
    omega (arith, numbers-magnitude values, sum_by-cons magnitude (value.Bool p) values)
numbers-magnitude (value.Text s ∷ values) =
    omega (arith, numbers-magnitude values, sum_by-cons magnitude (value.Text s) values)
numbers-magnitude (value.Dist counts ∷ values) =
    omega (arith, numbers-magnitude values, sum_by-cons magnitude (value.Dist counts) values)

pub distributions-magnitude : (values : List Value) → sum_by sum (distributions_in values) ≤ sum_by magnitude values
distributions-magnitude [] = omega arith
distributions-magnitude (value.Int z ∷ values) =
    omega (arith, distributions-magnitude values, sum_by-cons magnitude (value.Int z) values)
distributions-magnitude (value.Bool p ∷ values) =
    omega (arith, distributions-magnitude values, sum_by-cons magnitude (value.Bool p) values)
distributions-magnitude (value.Text s ∷ values) =
    omega (arith, distributions-magnitude values, sum_by-cons magnitude (value.Text s) values)
distributions-magnitude (value.Dist counts ∷ values) =
    omega (
      arith,
      distributions-magnitude values,
      sum_by-cons sum counts (distributions_in values),
      sum_by-cons magnitude (value.Dist counts) values,
    )
