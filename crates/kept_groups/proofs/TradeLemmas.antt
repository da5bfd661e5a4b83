-- The part of a group's rows, with one row in the place of another.
use Rattle.std.proofs.Common.{◌≡◌, ◌∙◌, ◌+◌, ◌≤◌, ℕ, ℤ, pos, ◌+ℤ◌, ◌-ℤ◌, sum, sum_by, unsigned_abs, Option, Some, None}
use Rattle.std.proofs.Common.{List, [], ◌∷◌, length, slice_get, All, IfSome, refl, sym, ap, subst, arith}
use Rattle.std.proofs.Common.{◌<ℤ◌, ◌≤ℤ◌, ◌⊎◌, inl, inr}
use Rattle.std.specs.Int.{int_max, int_min}
use Rattle.std.specs.List.{AllByRecursion, cons_option}
use Rattle.std.proofs.lemmas.Int.{clamps, ints}
use Rattle.std.proofs.lemmas.List.Sums.{sum_by-cons}
use Rattle.mon_value.specs.Groups.{TakesColumn, TakesType, UnlessCount, column_of, counts_added, counts_of, distributions_in}
use Rattle.mon_value.specs.Groups.{item_count, numbers_in, sum_of}
use Rattle.mon_value.specs.Groups.{greatest_of, least_of}
use Rattle.mon_value.specs.Parts.{IsWithin, combined_numbers}
use Rattle.mon_value.specs.Tables.{FitColumns, HasType}
use Rattle.mon_value.specs.Values.{greatest_sum}
use Rattle.mon_value.specs.declared.aggregates.Aggregate.{Aggregate}
use Rattle.mon_value.specs.declared.aggregates.AggregateKind.{AggregateKind}
use Rattle.mon_value.specs.declared.aggregates.AggregateKind.TheVariants as kind
use Rattle.mon_value.specs.declared.columns.Column.{Column}
use Rattle.mon_value.specs.declared.tables.TimedRow.{TimedRow}
use Rattle.mon_value.specs.declared.values.Value.{Value}
use Rattle.mon_value.specs.declared.values.Value.TheVariants as value
use Rattle.mon_value.specs.declared.values.ValueType.{ValueType}
use Rattle.mon_value.specs.declared.values.ValueType.TheVariants as type
use Rattle.mon_value.proofs.CountsLemmas.{get_or-counts_added, length-counts_added, sum-counts_added}
use Rattle.mon_value.proofs.CountsLemmas.{sum-counts_of}
use Rattle.mon_value.proofs.GroupLemmas.{distributions-magnitude, numbers-magnitude}
use Rattle.mon_value.proofs.NumberPartLemmas.{greatest_of-append, least_of-append, total_within}
use Rattle.mon_fold.proofs.AlignmentLemmas.{counts_within}
use Rattle.mon_fold.proofs.GroupBounds.{AllLong, Fits, cell_there, cell_typed, column_typed, counts_long, distributions_long}
use Rattle.mon_fold.specs.PartialGroups.{part_over, parts_over}
use Rattle.mon_fold.specs.declared.aggregate_parts.AggregatePart.TheVariants as part
use Rattle.kept_groups.specs.Trades.{AreTold, CanTradeCounts, CanTradePart, CanTradeParts, CanTradeTotal, IsGreatestTold}
use Rattle.kept_groups.specs.Trades.{IsLeastTold, IsTold, counts_held, counts_less, number_held, traded_part, traded_parts}
use Rattle.kept_groups.specs.Trades.{traded_total}
use Rattle.kept_groups.proofs.BucketLemmas as buckets

-- ---- cells of a type

pub record Number (cell : Option Value) : Type 0 where
  pub number : ℤ
  pub is : cell ≡ Some (value.Int number)

pub record Distribution (most : ℕ) (cell : Option Value) : Type 0 where
  pub counts : List ℕ
  pub is : cell ≡ Some (value.Dist counts)
  pub long : length counts ≡ most

abbrev Stands : Option Value → Type 0
Stands cell = length (cons_option cell []) ≡ 1

number_of : (cell : Option Value) → IfSome cell (HasType type.Int) → Stands cell → Number cell
number_of None fits there = absurd (omega (arith, there))
number_of (Some (value.Int x)) fits there = record { number = x; is = refl }
number_of (Some (value.Bool p)) fits there = absurd fits
number_of (Some (value.Text s)) fits there = absurd fits
number_of (Some (value.Dist counts)) fits there = absurd fits

distribution_of : (bounds : List ℤ) (cell : Option Value) → IfSome cell (HasType (type.Dist bounds)) → Stands cell
    → Distribution (length bounds + 1) cell
distribution_of bounds None fits there = absurd (omega (arith, there))
distribution_of bounds (Some (value.Int x)) fits there = absurd fits
distribution_of bounds (Some (value.Bool p)) fits there = absurd fits
distribution_of bounds (Some (value.Text s)) fits there = absurd fits
distribution_of bounds (Some (value.Dist counts)) fits there = record { counts = counts; is = refl; long = fits }

sum_is_int : (of : ValueType) → TakesType kind.Sum of → of ≡ type.Int
sum_is_int type.Int takes = refl
sum_is_int type.Bool takes = absurd takes
sum_is_int type.Text takes = absurd takes
sum_is_int (type.Dist bounds) takes = absurd takes

mean_is_int : (of : ValueType) → TakesType kind.Mean of → of ≡ type.Int
mean_is_int type.Int takes = refl
mean_is_int type.Bool takes = absurd takes
mean_is_int type.Text takes = absurd takes
mean_is_int (type.Dist bounds) takes = absurd takes

min_is_int : (of : ValueType) → TakesType kind.Min of → of ≡ type.Int
min_is_int type.Int takes = refl
min_is_int type.Bool takes = absurd takes
min_is_int type.Text takes = absurd takes
min_is_int (type.Dist bounds) takes = absurd takes

max_is_int : (of : ValueType) → TakesType kind.Max of → of ≡ type.Int
max_is_int type.Int takes = refl
max_is_int type.Bool takes = absurd takes
max_is_int type.Text takes = absurd takes
max_is_int (type.Dist bounds) takes = absurd takes

-- ---- one aggregate

module _ (columns : List Column) (gone come : TimedRow) (rest : List TimedRow)
    (before : AllByRecursion (λ (row : TimedRow). FitColumns columns row.cells) (gone ∷ rest))
    (after : FitColumns columns come.cells) (place : ℕ) where
  abbrev kept : List ℤ
  kept = numbers_in (column_of place rest)

  abbrev cell : TimedRow → Option Value
  cell row = slice_get row.cells place

  -- the numbers of a row with others behind it
  numbers_first : (row : TimedRow) (x : ℤ) (rows : List TimedRow) → cell row ≡ Some (value.Int x)
      → numbers_in (column_of place (row ∷ rows)) ≡ x ∷ numbers_in (column_of place rows)
  numbers_first row x rows is = ap (λ c. numbers_in (cons_option c (column_of place rows))) is

  held : (row : TimedRow) (x : ℤ) → cell row ≡ Some (value.Int x) → number_held place row ≡ Some x
  held row x is = ap (λ numbers. slice_get numbers 0) (numbers_first row x [] is)

  distributions_first : (row : TimedRow) (counts : List ℕ) (rows : List TimedRow) → cell row ≡ Some (value.Dist counts)
      → distributions_in (column_of place (row ∷ rows)) ≡ counts ∷ distributions_in (column_of place rows)
  distributions_first row counts rows is = ap (λ c. distributions_in (cons_option c (column_of place rows))) is

  counts_are : (row : TimedRow) (counts : List ℕ) → cell row ≡ Some (value.Dist counts)
      → counts_held place row ≡ Some counts
  counts_are row counts is = ap (λ all. slice_get all 0) (distributions_first row counts [] is)

  module _ (fits : Fits (come ∷ rest) place) where
    -- a total of numbers with one in the place of another
    module _ (x y : ℤ) (gone_is : cell gone ≡ Some (value.Int x)) (come_is : cell come ≡ Some (value.Int y)) where
      fewest : sum_by unsigned_abs (y ∷ kept) ≤ greatest_sum
      fewest =
          let magnitudes = numbers-magnitude (column_of place (come ∷ rest)) in
          let are = ap (sum_by unsigned_abs) (numbers_first come y rest come_is) in
          omega arith

      without : IsWithin ((x +ℤ sum_of kept) -ℤ x)
      without =
          let some = total_within [] kept (omega (arith, fewest, sum_by-cons unsigned_abs y kept)) in
          let same : pos 0 +ℤ sum_of kept ≡ (x +ℤ sum_of kept) -ℤ x = omega (arith, ints) in
          subst IsWithin same some

      with_come : IsWithin (((x +ℤ sum_of kept) -ℤ x) +ℤ y)
      with_come =
          let some = total_within (y ∷ []) kept fewest in
          let same : (y +ℤ pos 0) +ℤ sum_of kept ≡ ((x +ℤ sum_of kept) -ℤ x) +ℤ y = omega (arith, ints) in
          subst IsWithin same some

      can_total : CanTradeTotal (sum_of (numbers_in (column_of place (gone ∷ rest)))) (number_held place gone)
          (number_held place come)
      can_total =
          let numbers = ap sum_of (numbers_first gone x rest gone_is) in
          rw (numbers, held gone x gone_is, held come y come_is) (without, with_come)

      total : traded_total (sum_of (numbers_in (column_of place (gone ∷ rest)))) (number_held place gone)
          (number_held place come) ≡ sum_of (numbers_in (column_of place (come ∷ rest)))
      total =
          let numbers = ap sum_of (numbers_first gone x rest gone_is) in
          let others = ap sum_of (numbers_first come y rest come_is) in
          let same : ((x +ℤ sum_of kept) -ℤ x) +ℤ y ≡ y +ℤ sum_of kept = omega (arith, ints) in
          rw (numbers, held gone x gone_is, held come y come_is) (same ∙ sym others)

      sum_can : CanTradePart place gone come (part_over kind.Sum place (gone ∷ rest))
      sum_can = rw (numbers_first gone x rest gone_is, held gone x gone_is, held come y come_is) (without, with_come)

      sum_traded : traded_part place gone come (part_over kind.Sum place (gone ∷ rest))
          ≡ part_over kind.Sum place (come ∷ rest)
      sum_traded =
          let same : ((x +ℤ sum_of kept) -ℤ x) +ℤ y ≡ y +ℤ sum_of kept = omega (arith, ints) in
          rw (
            numbers_first gone x rest gone_is,
            held gone x gone_is,
            held come y come_is,
            numbers_first come y rest come_is,
          ) (ap (λ z. part.Sum (record { sum = Some z })) same)

      mean_traded : traded_part place gone come (part_over kind.Mean place (gone ∷ rest))
          ≡ part_over kind.Mean place (come ∷ rest)
      mean_traded =
          let first = numbers_first gone x rest gone_is in
          let next = numbers_first come y rest come_is in
          let many : item_count (numbers_in (column_of place (gone ∷ rest)))
          ≡ item_count (numbers_in (column_of place (come ∷ rest))) =
          ap (λ numbers. item_count numbers) first ∙ sym (ap (λ numbers. item_count numbers) next) in
          λ i. part.Mean (record { sum = total i; number = many i })

    -- merged distributions with one in the place of another
    module _ (bounds : List ℤ) (g c : List ℕ) (gone_is : cell gone ≡ Some (value.Dist g)) (come_is : cell come
        ≡ Some (value.Dist c)) (g_long : length g ≡ length bounds + 1) (c_long : length c ≡ length bounds + 1)
        (long : AllLong (length bounds + 1) (distributions_in (column_of place rest))) where
      abbrev others : List (List ℕ)
      others = distributions_in (column_of place rest)

      few : (items : List (List ℕ)) → AllLong (length bounds + 1) items → length (counts_of items) ≤ length g
      few [] all = omega arith
      few (first ∷ items) all = omega (arith, g_long, counts_long (length bounds + 1) first items all.0 all.1)

      same_counts : counts_added (counts_less (counts_added g (counts_of others)) g) c ≡ counts_added c (counts_of others)
      same_counts = buckets.traded g c (counts_of others) (omega (arith, g_long, c_long)) (few others long)

      total_counts : sum (counts_added c (counts_of others)) ≤ greatest_sum
      total_counts =
          let magnitudes = distributions-magnitude (column_of place (come ∷ rest)) in
          let are = ap (sum_by sum) (distributions_first come c rest come_is) in
          omega (
            arith,
            fits,
            magnitudes,
            are,
            sum_by-cons sum c others,
            sum-counts_added c (counts_of others),
            sum-counts_of others,
          )

      counts_can : CanTradeCounts (Some (counts_added g (counts_of others))) (Some g) (Some c)
      counts_can =
          let whole = length-counts_added g (counts_of others) in
          let fewer = few others long in (
            omega arith,
            λ bucket. let added = get_or-counts_added g (counts_of others) bucket in omega arith,
            omega (arith, g_long, c_long, whole, fewer),
            subst (λ (counts : List ℕ). All (λ (count : ℕ). count ≤ greatest_sum) counts) (sym same_counts)
                (counts_within (counts_added c (counts_of others)) greatest_sum total_counts),
          )

      merge_can : CanTradePart place gone come (part_over kind.Merge place (gone ∷ rest))
      merge_can = rw (distributions_first gone g rest gone_is, counts_are gone g gone_is, counts_are come c come_is)
          counts_can

      merge_traded : traded_part place gone come (part_over kind.Merge place (gone ∷ rest))
          ≡ part_over kind.Merge place (come ∷ rest)
      merge_traded =
          rw (
            distributions_first gone g rest gone_is,
            counts_are gone g gone_is,
            counts_are come c come_is,
            distributions_first come c rest come_is,
          ) (ap (λ counts. part.Merge (Some counts)) same_counts)
      -- the least and the greatest of numbers with one in the place of another that tells it

  least_by : (x y least : ℤ) (o : Option ℤ) → combined_numbers int_min (Some x) o ≡ Some least
      → (least <ℤ x) ⊎ (y ≤ℤ least) → Some (int_min least y) ≡ combined_numbers int_min (Some y) o
  least_by x y least None is (inl below) =
      let own : x ≡ least = cc in
      absurd (omega (arith, ints, own, below))
  least_by x y least None is (inr below) =
      let own : x ≡ least = cc in
      ap Some (omega (arith, ints, clamps, own, below))
  least_by x y least (Some other) is (inl below) =
      let own : int_min x other ≡ least = cc in
      ap Some (omega (arith, ints, clamps, own, below))
  least_by x y least (Some other) is (inr below) =
      let own : int_min x other ≡ least = cc in
      ap Some (omega (arith, ints, clamps, own, below))

  greatest_by : (x y greatest : ℤ) (o : Option ℤ) → combined_numbers int_max (Some x) o ≡ Some greatest
      → (x <ℤ greatest) ⊎ (greatest ≤ℤ y) → Some (int_max greatest y) ≡ combined_numbers int_max (Some y) o
  greatest_by x y greatest None is (inl above) =
      let own : x ≡ greatest = cc in
      absurd (omega (arith, ints, own, above))
  greatest_by x y greatest None is (inr above) =
      let own : x ≡ greatest = cc in
      ap Some (omega (arith, ints, clamps, own, above))
  greatest_by x y greatest (Some other) is (inl above) =
      let own : int_max x other ≡ greatest = cc in
      ap Some (omega (arith, ints, clamps, own, above))
  greatest_by x y greatest (Some other) is (inr above) =
      let own : int_max x other ≡ greatest = cc in
      ap Some (omega (arith, ints, clamps, own, above))

  module _ (x y : ℤ) (gone_is : cell gone ≡ Some (value.Int x)) (come_is : cell come ≡ Some (value.Int y)) where
    least_told : (o : Option ℤ) → least_of (x ∷ kept) ≡ o → IsLeastTold o (Some x) (Some y)
        → combined_numbers int_min o (Some y) ≡ least_of (y ∷ kept)
    least_told None is told = absurd told
    least_told (Some least) is told =
        least_by x y least (least_of kept) (least_of-append (x ∷ []) kept ∙ is) told ∙ least_of-append (y ∷ []) kept

    greatest_told : (o : Option ℤ) → greatest_of (x ∷ kept) ≡ o → IsGreatestTold o (Some x) (Some y)
        → combined_numbers int_max o (Some y) ≡ greatest_of (y ∷ kept)
    greatest_told None is told = absurd told
    greatest_told (Some greatest) is told =
        greatest_by x y greatest (greatest_of kept) (greatest_of-append (x ∷ []) kept ∙ is) told
        ∙ greatest_of-append (y ∷ []) kept

    min_traded : IsTold place gone come (part_over kind.Min place (gone ∷ rest))
        → traded_part place gone come (part_over kind.Min place (gone ∷ rest)) ≡ part_over kind.Min place (come ∷ rest)
    min_traded told =
        let first = numbers_first gone x rest gone_is in
        let own = rw (first, held gone x gone_is, held come y come_is) at told in
        rw (first, held come y come_is, numbers_first come y rest come_is)
        (ap (λ least. part.Min (record { least = least })) (least_told (least_of (x ∷ kept)) refl own))

    max_traded : IsTold place gone come (part_over kind.Max place (gone ∷ rest))
        → traded_part place gone come (part_over kind.Max place (gone ∷ rest)) ≡ part_over kind.Max place (come ∷ rest)
    max_traded told =
        let first = numbers_first gone x rest gone_is in
        let own = rw (first, held gone x gone_is, held come y come_is) at told in
        rw (first, held come y come_is, numbers_first come y rest come_is)
        (ap (λ greatest. part.Max (record { greatest = greatest })) (greatest_told (greatest_of (x ∷ kept)) refl own))

  -- ---- by the column's type

  pub record Trades (what : AggregateKind) : Type 0 where
    pub can : CanTradePart place gone come (part_over what place (gone ∷ rest))
    pub is : traded_part place gone come (part_over what place (gone ∷ rest)) ≡ part_over what place (come ∷ rest)

  module _ (column : Column) (found : slice_get columns place ≡ Some column) where
    cell_is : (of : ValueType) (row : TimedRow) → column.of ≡ of → FitColumns columns row.cells
        → IfSome (cell row) (HasType of)
    cell_is of row is fits = subst (λ (t : ValueType). IfSome (cell row) (HasType t)) is
        (cell_typed columns row.cells place column fits found)

    stands : (row : TimedRow) → FitColumns columns row.cells → Stands (cell row)
    stands row fits = cell_there columns row.cells place column fits found []

    number_there : (row : TimedRow) → column.of ≡ type.Int → FitColumns columns row.cells → Number (cell row)
    number_there row is fits = number_of (cell row) (cell_is type.Int row is fits) (stands row fits)

    sum_trades : Fits (come ∷ rest) place → column.of ≡ type.Int → Trades kind.Sum
    sum_trades fits is =
        let a = number_there gone is before.0 in
        let b = number_there come is after in record {
          can = sum_can fits a.number b.number a.is b.is;
          is = sum_traded fits a.number b.number a.is b.is;
        }

    mean_trades : Fits (come ∷ rest) place → column.of ≡ type.Int → Trades kind.Mean
    mean_trades fits is =
        let a = number_there gone is before.0 in
        let b = number_there come is after in record {
          can = can_total fits a.number b.number a.is b.is;
          is = mean_traded fits a.number b.number a.is b.is;
        }

    min_trades : column.of ≡ type.Int → IsTold place gone come (part_over kind.Min place (gone ∷ rest)) → Trades kind.Min
    min_trades is told =
        let a = number_there gone is before.0 in
        let b = number_there come is after in record {
          can = tt;
          is = min_traded a.number b.number a.is b.is told;
        }

    max_trades : column.of ≡ type.Int → IsTold place gone come (part_over kind.Max place (gone ∷ rest)) → Trades kind.Max
    max_trades is told =
        let a = number_there gone is before.0 in
        let b = number_there come is after in record {
          can = tt;
          is = max_traded a.number b.number a.is b.is told;
        }

    merge_trades : Fits (come ∷ rest) place → (of : ValueType) → column.of ≡ of → TakesType kind.Merge of
        → Trades kind.Merge
    merge_trades fits type.Int is takes = absurd takes
    merge_trades fits type.Bool is takes = absurd takes
    merge_trades fits type.Text is takes = absurd takes
    merge_trades fits (type.Dist bounds) is takes =
        let a = distribution_of bounds (cell gone) (cell_is (type.Dist bounds) gone is before.0) (stands gone before.0) in
        let b = distribution_of bounds (cell come) (cell_is (type.Dist bounds) come is after) (stands come after) in
        let typed = subst (λ (t : ValueType). AllByRecursion (HasType t) (column_of place rest)) is
        (column_typed columns place column rest before.1 found) in
        let long = distributions_long bounds (column_of place rest) typed in record {
          can = merge_can fits bounds a.counts b.counts a.is b.is a.long b.long long;
          is = merge_traded fits bounds a.counts b.counts a.is b.is a.long b.long long;
        }

  pub part_trades : (what : AggregateKind) → IsTold place gone come (part_over what place (gone ∷ rest))
      → (o : Option Column) → slice_get columns place ≡ o
      → TakesColumn what o → UnlessCount what (Fits (come ∷ rest) place) → Trades what
  part_trades kind.Sum told None found takes fits = absurd takes
  part_trades kind.Sum told (Some column) found takes fits = sum_trades column found fits (sum_is_int column.of takes)
  part_trades kind.Count told o found takes fits = record { can = tt; is = refl }
  part_trades kind.Min told None found takes fits = absurd takes
  part_trades kind.Min told (Some column) found takes fits = min_trades column found (min_is_int column.of takes) told
  part_trades kind.Max told None found takes fits = absurd takes
  part_trades kind.Max told (Some column) found takes fits = max_trades column found (max_is_int column.of takes) told
  part_trades kind.Mean told None found takes fits = absurd takes
  part_trades kind.Mean told (Some column) found takes fits = mean_trades column found fits (mean_is_int column.of takes)
  part_trades kind.Merge told None found takes fits = absurd takes
  part_trades kind.Merge told (Some column) found takes fits = merge_trades column found fits column.of refl takes

-- ---- the aggregates of a group

pub record PartsTrade (with : List Aggregate) (gone come : TimedRow) (rest : List TimedRow) : Type 0 where
  pub can : CanTradeParts with gone come (parts_over with (gone ∷ rest))
  pub are : traded_parts with gone come (parts_over with (gone ∷ rest)) ≡ parts_over with (come ∷ rest)

module _ (columns : List Column) (gone come : TimedRow) (rest : List TimedRow)
    (before : AllByRecursion (λ (row : TimedRow). FitColumns columns row.cells) (gone ∷ rest))
    (after : FitColumns columns come.cells) where
  pub parts_trade : (with : List Aggregate) → AreTold with gone come (parts_over with (gone ∷ rest))
      → AllByRecursion (λ (aggregate : Aggregate). TakesColumn aggregate.what (slice_get columns aggregate.column)) with
      → AllByRecursion (λ (aggregate : Aggregate). UnlessCount aggregate.what (Fits (come ∷ rest) aggregate.column)) with
      → PartsTrade with gone come rest
  parts_trade [] told taken fits = record { can = tt; are = refl }
  parts_trade (aggregate ∷ with) told taken fits =
      let first = part_trades columns gone come rest before after aggregate.column aggregate.what told.0
      (slice_get columns aggregate.column) refl taken.0 fits.0 in
      let more = parts_trade with told.1 taken.1 fits.1 in record {
        can = (first.can, more.can);
        are = λ i. first.is i ∷ more.are i;
      }
