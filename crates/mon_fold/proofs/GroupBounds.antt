-- Rows that can be grouped can be put into their groups one by one.
use Rattle.std.proofs.Common.{◌≡◌, ℕ, zero, suc, ◌+◌, ◌<◌, ◌≤◌, ℤ, Bool, true, false, cond, List, [], ◌∷◌, ◌++◌, map}
use Rattle.std.proofs.Common.{length, get_or, take, drop, sum, sum_by, unsigned_abs, Option, Some, None, IfSome}
use Rattle.std.proofs.Common.{slice_get, refl, sym, ap, subst, ◌∙◌, length-append, arith}
use Rattle.std.specs.List.{AllByRecursion, cons_option}
use Rattle.std.specs.Map.{lookup}
use Rattle.std.specs.Ordering.{int_eq}
use Rattle.std.proofs.lemmas.Bool.Decides.{Decides-int_eq}
use Rattle.std.proofs.lemmas.List.{take-append-drop, take_more, length-take-le}
use Rattle.std.proofs.lemmas.List.Elements.{filter-append}
use Rattle.std.proofs.lemmas.List.Sums.{sum_by-append, sum_by-cons}
use Rattle.mon_value.specs.Groups.{counts_added, counts_of, merged_of, CanGroup, rows_at, SumsFit, TakesColumn}
use Rattle.mon_value.specs.Groups.{TakesType, UnlessCount, column_of, distributions_in, group_key, group_keys}
use Rattle.mon_value.specs.Groups.{numbers_in, rows_in}
use Rattle.mon_value.specs.Values.{magnitude, greatest_sum}
use Rattle.mon_value.specs.Tables.{FitColumns, HasType}
use Rattle.mon_value.specs.Same.{same_row}
use Rattle.mon_value.specs.declared.aggregates.Aggregate.{Aggregate}
use Rattle.mon_value.specs.declared.aggregates.AggregateKind.{AggregateKind}
use Rattle.mon_value.specs.declared.aggregates.AggregateKind.TheVariants as kind
use Rattle.mon_value.specs.declared.columns.Column.{Column}
use Rattle.mon_value.specs.declared.tables.TimedRow.{TimedRow}
use Rattle.mon_value.specs.declared.values.Value.{Value}
use Rattle.mon_value.specs.declared.values.Value.TheVariants as value
use Rattle.mon_value.specs.declared.values.ValueType.{ValueType}
use Rattle.mon_value.specs.declared.values.ValueType.TheVariants as type
use Rattle.mon_value.proofs.CountsLemmas.{length-counts_added, sum-counts_added, sum-counts_of}
use Rattle.mon_value.proofs.GroupLemmas.{has, look_up, RowGroup, rows_in-push, rows_some, same_itself}
use Rattle.mon_value.proofs.SameLemmas.{same_row-Decides}
use Rattle.mon_fold.specs.declared.aggregate_parts.AggregatePart.{AggregatePart}
use Rattle.mon_value.proofs.NumberPartLemmas.{number_within, sums_within, total_within}
use Rattle.mon_fold.specs.PartialGroups.{CanMergeCounts, CanMergePart, CanMergeParts, CanTakeGroup, part_over}
use Rattle.mon_fold.specs.PartialGroups.{partial_groups, PartialGroup, parts_over}
use Rattle.mon_fold.proofs.AlignmentLemmas.{counts_within}
use Rattle.mon_fold.proofs.PartialGroupLemmas.{column_of-append, distributions-append, in_parts, numbers-append}
use Rattle.mon_value.proofs.GroupLemmas.{numbers-magnitude, distributions-magnitude}
use Rattle.mon_value.proofs.PlainLemmas.{all_front, all_back}

-- ---- the cells of a column

cons_typed : (of : ValueType) (o : Option Value) (values : List Value) → IfSome o (HasType of)
    → AllByRecursion (HasType of) values → AllByRecursion (HasType of) (cons_option o values)
cons_typed of None values fits all = all
cons_typed of (Some v) values fits all = (fits, all)

pub cell_typed : (columns : List Column) (cells : List Value) (place : ℕ) (column : Column) → FitColumns columns cells
    → slice_get columns place ≡ Some column → IfSome (slice_get cells place) (HasType column.of)
cell_typed [] cells place column fits found = absurd cc
cell_typed (c ∷ columns) [] place column fits found = absurd fits
cell_typed (c ∷ columns) (v ∷ cells) zero column fits found =
    let same : c ≡ column = cc in
    subst (λ (k : Column). HasType k.of v) same fits.0
cell_typed (c ∷ columns) (v ∷ cells) (suc place) column fits found = cell_typed columns cells place column fits.1 found

pub column_typed : (columns : List Column) (place : ℕ) (column : Column) (rows : List TimedRow)
    → AllByRecursion (λ (row : TimedRow). FitColumns columns row.cells) rows
    → slice_get columns place ≡ Some column → AllByRecursion (HasType column.of) (column_of place rows)
column_typed columns place column [] shaped found = tt
column_typed columns place column (row ∷ rows) shaped found =
    cons_typed column.of (slice_get row.cells place) (column_of place rows) (cell_typed columns row.cells place column
    shaped.0 found) (column_typed columns place column rows shaped.1 found)

pub cell_there : (columns : List Column) (cells : List Value) (place : ℕ) (column : Column) → FitColumns columns cells
    → slice_get columns place ≡ Some column
    → (rest : List Value) → length (cons_option (slice_get cells place) rest) ≡ suc (length rest)
cell_there [] cells place column fits found rest = absurd cc
cell_there (c ∷ columns) [] place column fits found rest = absurd fits
cell_there (c ∷ columns) (v ∷ cells) zero column fits found rest = refl
cell_there (c ∷ columns) (v ∷ cells) (suc place) column fits found rest = cell_there columns cells place column fits.1
    found rest

column_whole : (columns : List Column) (place : ℕ) (column : Column) (rows : List TimedRow)
    → AllByRecursion (λ (row : TimedRow). FitColumns columns row.cells) rows
    → slice_get columns place ≡ Some column → length (column_of place rows) ≡ length rows
column_whole columns place column [] shaped found = refl
column_whole columns place column (row ∷ rows) shaped found =
    omega (
      arith,
      cell_there columns row.cells place column shaped.0 found (column_of place rows),
      column_whole columns place column rows shaped.1 found,
    )

cons_length : (o : Option Value) (values : List Value) (n : ℕ) → length values ≤ n → length (cons_option o values)
    ≤ suc n
cons_length None values n h = omega arith
cons_length (Some v) values n h = omega arith

column_length : (place : ℕ) (rows : List TimedRow) → length (column_of place rows) ≤ length rows
column_length place [] = omega arith
column_length place (row ∷ rows) = cons_length (slice_get row.cells place) (column_of place rows) (length rows)
    (column_length place rows)

numbers_length : (values : List Value) → length (numbers_in values) ≤ length values
numbers_length [] = omega arith
numbers_length (value.Int z ∷ values) = omega (arith, numbers_length values)
numbers_length (value.Bool p ∷ values) = omega (arith, numbers_length values)
numbers_length (value.Text s ∷ values) = omega (arith, numbers_length values)
numbers_length (value.Dist counts ∷ values) = omega (arith, numbers_length values)

-- ---- distributions of one length

abbrev pub AllLong : ℕ → List (List ℕ) → Type 0
AllLong n items = AllByRecursion (λ (counts : List ℕ). length counts ≡ n) items

pub distributions_long : (bounds : List ℤ) (values : List Value) → AllByRecursion (HasType (type.Dist bounds)) values
    → AllLong (length bounds + 1) (distributions_in values)
distributions_long bounds [] all = tt
distributions_long bounds (value.Int z ∷ values) all = absurd all.0
distributions_long bounds (value.Bool p ∷ values) all = absurd all.0
distributions_long bounds (value.Text s ∷ values) all = absurd all.0
distributions_long bounds (value.Dist counts ∷ values) all = (all.0, distributions_long bounds values all.1)

pub distributions_many : (bounds : List ℤ) (values : List Value) → AllByRecursion (HasType (type.Dist bounds)) values
    → length (distributions_in values) ≡ length values
distributions_many bounds [] all = refl
distributions_many bounds (value.Int z ∷ values) all = absurd all.0
distributions_many bounds (value.Bool p ∷ values) all = absurd all.0
distributions_many bounds (value.Text s ∷ values) all = absurd all.0
distributions_many bounds (value.Dist counts ∷ values) all = omega (arith, distributions_many bounds values all.1)

pub counts_long : (n : ℕ) (first : List ℕ) (items : List (List ℕ)) → length first ≡ n → AllLong n items
    → length (counts_of (first ∷ items)) ≡ n
counts_long n first [] long all = omega (arith, length-counts_added first [])
counts_long n first (next ∷ items) long all =
    omega (arith, length-counts_added first (counts_of (next ∷ items)), counts_long n next items all.0 all.1)

can_merge_counts : (n : ℕ) (some more : List (List ℕ)) → 0 < length some → AllLong n some → AllLong n more
    → sum_by sum (some ++ more) ≤ greatest_sum
    → CanMergeCounts (merged_of some) (merged_of more)
can_merge_counts n [] more there long others fits = absurd (omega arith)
can_merge_counts n (first ∷ some) [] there long others fits = tt
can_merge_counts n (first ∷ some) (next ∷ more) there long others fits =
    let a = counts_of (first ∷ some) in
    let b = counts_of (next ∷ more) in (
      omega (arith, counts_long n first some long.0 long.1, counts_long n next more others.0 others.1),
      counts_within (counts_added a b) greatest_sum
          (omega (
            arith,
            sum-counts_added a b,
            sum-counts_of (first ∷ some),
            sum-counts_of (next ∷ more),
            sum_by-append sum (first ∷ some) (next ∷ more),
          )),
    )

-- ---- parts of rows

-- rows that some columns have, some of them and others
module _ (columns : List Column) (xs ys : List TimedRow)
    (shaped : AllByRecursion (λ (row : TimedRow). FitColumns columns row.cells) (xs ++ ys))
    (there : 0 < length xs) (few : length (xs ++ ys) ≤ greatest_sum) where
  merge_typed : (place : ℕ) (column : Column) (of : ValueType) → column.of ≡ of → TakesType kind.Merge of
      → slice_get columns place ≡ Some column
      → sum_by magnitude (column_of place (xs ++ ys)) ≤ greatest_sum → CanMergePart (part_over kind.Merge place xs)
      (part_over kind.Merge place ys)
  merge_typed place column type.Int is takes found fits = absurd takes
  merge_typed place column type.Bool is takes found fits = absurd takes
  merge_typed place column type.Text is takes found fits = absurd takes
  merge_typed place column (type.Dist bounds) is takes found fits =
      let front = all_front (λ (row : TimedRow). FitColumns columns row.cells) xs ys shaped in
      let back = all_back (λ (row : TimedRow). FitColumns columns row.cells) xs ys shaped in
      let typed =
      λ (rows : List TimedRow) (fit : AllByRecursion (λ (row : TimedRow). FitColumns columns row.cells) rows).
      subst (λ (t : ValueType). AllByRecursion (HasType t) (column_of place rows)) is
      (column_typed columns place column rows fit found) in
      let some = distributions_in (column_of place xs) in
      let more = distributions_in (column_of place ys) in
      let many = distributions_many bounds (column_of place xs) (typed xs front) in
      let whole = column_whole columns place column xs front found in
      let total = distributions-magnitude (column_of place (xs ++ ys)) in
      let split = ap (sum_by sum) (distributions-append place xs ys) in
      can_merge_counts (length bounds + 1) some more (omega arith) (distributions_long bounds (column_of place xs)
      (typed xs front)) (distributions_long bounds (column_of place ys) (typed ys back)) (omega arith)

  merge_found : (place : ℕ) (o : Option Column) → slice_get columns place ≡ o → TakesColumn kind.Merge o
      → sum_by magnitude (column_of place (xs ++ ys)) ≤ greatest_sum → CanMergePart (part_over kind.Merge place xs)
      (part_over kind.Merge place ys)
  merge_found place None found takes fits = absurd takes
  merge_found place (Some column) found takes fits = merge_typed place column column.of refl takes found fits

  numbers_fit : (place : ℕ) → sum_by magnitude (column_of place (xs ++ ys)) ≤ greatest_sum
      → sum_by unsigned_abs (numbers_in (column_of place xs) ++ numbers_in (column_of place ys)) ≤ greatest_sum
  numbers_fit place fits =
      let total = numbers-magnitude (column_of place (xs ++ ys)) in
      let split = ap (sum_by unsigned_abs) (numbers-append place xs ys) in
      omega arith

  numbers_few : (place : ℕ) → length (numbers_in (column_of place xs) ++ numbers_in (column_of place ys)) ≤ greatest_sum
  numbers_few place =
      let split = ap (λ zs. length zs) (numbers-append place xs ys) in
      omega (arith, numbers_length (column_of place (xs ++ ys)), column_length place (xs ++ ys))

  pub part_can : (what : AggregateKind) (place : ℕ) → TakesColumn what (slice_get columns place)
      → UnlessCount what (sum_by magnitude (column_of place (xs ++ ys)) ≤ greatest_sum)
      → CanMergePart (part_over what place xs) (part_over what place ys)
  part_can kind.Sum place takes fits = sums_within (numbers_in (column_of place xs)) (numbers_in (column_of place ys))
      (numbers_fit place fits)
  part_can kind.Count place takes fits = number_within xs ys few
  part_can kind.Min place takes fits = tt
  part_can kind.Max place takes fits = tt
  part_can kind.Mean place takes fits =
      let a = numbers_in (column_of place xs) in
      let b = numbers_in (column_of place ys) in
      (total_within a b (numbers_fit place fits), number_within a b (numbers_few place))
  part_can kind.Merge place takes fits = merge_found place (slice_get columns place) refl takes fits

  pub parts_can : (with : List Aggregate) → AllByRecursion (λ (aggregate : Aggregate). TakesColumn aggregate.what
      (slice_get columns aggregate.column)) with
      → AllByRecursion (λ (aggregate : Aggregate). UnlessCount aggregate.what
      (sum_by magnitude (column_of aggregate.column (xs ++ ys)) ≤ greatest_sum)) with
      → CanMergeParts (parts_over with xs) (parts_over with ys)
  parts_can [] taken fits = tt
  parts_can (aggregate ∷ with) taken fits =
      (part_can aggregate.what aggregate.column taken.0 fits.0, parts_can with taken.1 fits.1)

-- ---- the rows of a group

abbrev pub total_in : ℕ → List TimedRow → ℕ
total_in place rows = sum_by magnitude (column_of place rows)

cons_least : (o : Option Value) (values others : List Value) → sum_by magnitude values ≤ sum_by magnitude others
    → sum_by magnitude (cons_option o values) ≤ sum_by magnitude (cons_option o others)
cons_least None values others h = h
cons_least (Some v) values others h = omega (arith, sum_by-cons magnitude v values, sum_by-cons magnitude v others)

cons_more : (o : Option Value) (values others : List Value) → sum_by magnitude values ≤ sum_by magnitude others
    → sum_by magnitude values ≤ sum_by magnitude (cons_option o others)
cons_more None values others h = h
cons_more (Some v) values others h = omega (arith, sum_by-cons magnitude v others)

total_step : (place : ℕ) (row : TimedRow) (some all : List TimedRow) (b c : Bool) → (b ≡ true → c ≡ true)
    → total_in place some ≤ total_in place all
    → total_in place (cond b (row ∷ some) some) ≤ total_in place (cond c (row ∷ all) all)
total_step place row some all true true both h = cons_least (slice_get row.cells place) (column_of place some)
    (column_of place all) h
total_step place row some all true false both h = let no = both refl in absurd cc
total_step place row some all false true both h = cons_more (slice_get row.cells place) (column_of place some)
    (column_of place all) h
total_step place row some all false false both h = h

-- a group's rows are all at its time
pub group_total : (by : List ℕ) (key : TimedRow) (place : ℕ) (rows : List TimedRow)
    → total_in place (rows_in by key rows) ≤ total_in place (rows_at key.time rows)
group_total by key place [] = omega arith
group_total by key place (row ∷ rows) =
    total_step place row (rows_in by key rows) (rows_at key.time rows) (same_row key (group_key by row))
    (int_eq row.time key.time)
    (λ same. (Decides-int_eq row.time key.time).1
    (ap (λ (r : TimedRow). r.time) (sym ((same_row-Decides key (group_key by row)).0 same))))
    (group_total by key place rows)

pub total-append : (place : ℕ) (time : ℤ) (xs ys : List TimedRow) → total_in place (rows_at time (xs ++ ys))
    ≡ total_in place (rows_at time xs) + total_in place (rows_at time ys)
total-append place time xs ys =
    ap (total_in place) (filter-append (λ (row : TimedRow). int_eq row.time time) xs ys)
    ∙ ap (sum_by magnitude) (column_of-append place (rows_at time xs) (rows_at time ys))
    ∙ sum_by-append magnitude (column_of place (rows_at time xs)) (column_of place (rows_at time ys))

total_taken : (place : ℕ) (time : ℤ) (rows : List TimedRow) (n : ℕ) → total_in place (rows_at time (take n rows))
    ≤ total_in place (rows_at time rows)
total_taken place time rows n =
    let whole = ap (λ all. total_in place (rows_at time all)) (take-append-drop n rows) in
    omega (arith, total-append place time (take n rows) (drop n rows))

all_taken : {A : Type 0} (P : A → Type 0) (xs : List A) (n : ℕ) → AllByRecursion P xs → AllByRecursion P (take n xs)
all_taken P xs n all = all_front P (take n xs) (drop n xs) (subst (AllByRecursion P) (sym (take-append-drop n xs)) all)

kept_step : (P : TimedRow → Type 0) (row : TimedRow) (some : List TimedRow) (b : Bool) → P row → AllByRecursion P some
    → AllByRecursion P (cond b (row ∷ some) some)
kept_step P row some true one all = (one, all)
kept_step P row some false one all = all

pub all_in_group : (P : TimedRow → Type 0) (by : List ℕ) (key : TimedRow) (rows : List TimedRow) → AllByRecursion P
    rows → AllByRecursion P (rows_in by key rows)
all_in_group P by key [] all = tt
all_in_group P by key (row ∷ rows) all = kept_step P row (rows_in by key rows) (same_row key (group_key by row)) all.0
    (all_in_group P by key rows all.1)

fewer_step : (row : TimedRow) (some : List TimedRow) (b : Bool) (n : ℕ) → length some ≤ n
    → length (cond b (row ∷ some) some) ≤ suc n
fewer_step row some true n h = omega arith
fewer_step row some false n h = omega arith

pub group_fewer : (by : List ℕ) (key : TimedRow) (rows : List TimedRow) → length (rows_in by key rows) ≤ length rows
group_fewer by key [] = omega arith
group_fewer by key (row ∷ rows) = fewer_step row (rows_in by key rows) (same_row key (group_key by row)) (length rows)
    (group_fewer by key rows)

pub unless_count : (what : AggregateKind) (P Q : Type 0) → (P → Q) → UnlessCount what P → UnlessCount what Q
unless_count kind.Sum P Q h p = h p
unless_count kind.Count P Q h p = tt
unless_count kind.Min P Q h p = h p
unless_count kind.Max P Q h p = h p
unless_count kind.Mean P Q h p = h p
unless_count kind.Merge P Q h p = h p

-- the magnitudes in a column sum to no more than the greatest sum
abbrev pub Fits : List TimedRow → ℕ → Type 0
Fits rows place = total_in place rows ≤ greatest_sum

pub sums_at : (with : List Aggregate) (rows more : List TimedRow) (time : ℤ) → ((place : ℕ) → total_in place more
    ≤ total_in place (rows_at time rows))
    → AllByRecursion (λ (aggregate : Aggregate). UnlessCount aggregate.what (SumsFit rows aggregate.column)) with
    → AllByRecursion (λ (aggregate : Aggregate). UnlessCount aggregate.what (Fits more aggregate.column)) with
sums_at [] rows more time least sums = tt
sums_at (aggregate ∷ with) rows more time least sums =
    let place = aggregate.column in
    let at_once : SumsFit rows place → Fits more place = λ fit. let first = fit time in omega (arith, least place) in (
      unless_count aggregate.what (SumsFit rows place) (Fits more place) at_once sums.0,
      sums_at with rows more time
          least sums.1,
    )

-- the partial groups, group by group
abbrev pub group_at : List ℕ → List TimedRow → TimedRow → RowGroup
group_at by rows key = (key, rows_in by key rows)

abbrev pub parts_at : List ℕ → List Aggregate → List TimedRow → TimedRow → PartialGroup
parts_at by with rows key = (key, parts_over with (rows_in by key rows))

pub groups_are : (by : List ℕ) (with : List Aggregate) (rows keys : List TimedRow) → map (in_parts with)
    (map (group_at by rows) keys) ≡ map (parts_at by with rows) keys
groups_are by with rows [] = refl
groups_are by with rows (key ∷ keys) = ap (λ rest. parts_at by with rows key ∷ rest) (groups_are by with rows keys)

pub if_there : (b : Bool) (parts : List AggregatePart) (P : List AggregatePart → Type 0) → (b ≡ true → P parts)
    → IfSome (cond b (Some parts) None) P
if_there true parts P h = h refl
if_there false parts P h = tt

module _ (columns : List Column) (by : List ℕ) (with : List Aggregate) (rows : List TimedRow)
    (can : CanGroup columns by with rows) (i : ℕ) (row : TimedRow)
    (is : row ≡ get_or rows i row) (h : i < length rows) (few : i < greatest_sum) where
  abbrev so_far : List TimedRow
  so_far = take i rows

  -- the rows of the group, and this one
  grown : rows_in by (group_key by row) (take (i + 1) rows) ≡ rows_in by (group_key by row) so_far ++ row ∷ []
  grown =
      let key = group_key by row in
      ap (rows_in by key) (take_more rows i row h ∙ ap (λ (r : TimedRow). so_far ++ r ∷ []) (sym is))
      ∙ rows_in-push by key so_far row
      ∙ ap (λ b. rows_in by key so_far ++ cond b (row ∷ []) []) (same_itself by key)

  merge_grown : has by (group_key by row) (group_keys by so_far) ≡ true
      → CanMergeParts (parts_over with (rows_in by (group_key by row) so_far)) (parts_over with (row ∷ []))
  merge_grown there =
      let key = group_key by row in
      let xs = rows_in by key so_far in
      let shaped = subst (AllByRecursion (λ (r : TimedRow). FitColumns columns r.cells)) grown
      (all_in_group (λ (r : TimedRow). FitColumns columns r.cells) by key (take (i + 1) rows)
      (all_taken (λ (r : TimedRow). FitColumns columns r.cells) rows (i + 1) can.shaped)) in
      let fewer : length (xs ++ row ∷ []) ≤ greatest_sum =
      omega (arith, length-append xs (row ∷ []), group_fewer by key so_far, length-take-le i rows (omega arith)) in
      let least = λ (place : ℕ). subst (λ zs. total_in place zs ≤ total_in place (rows_at key.time rows)) grown
      (omega (arith, group_total by key place (take (i + 1) rows), total_taken place key.time rows (i + 1))) in
      parts_can columns xs (row ∷ []) shaped (rows_some by key so_far there) fewer with can.taken
      (sums_at with rows (xs ++ row ∷ []) key.time least can.sums)

  -- the next row can be put into its group
  pub can_take_row : CanTakeGroup (partial_groups by with (take i rows)) (group_key by row, parts_over with (row ∷ []))
  can_take_row =
      let key = group_key by row in
      let keys = group_keys by so_far in
      let parts = λ (k : TimedRow). parts_over with (rows_in by k so_far) in
      let b = has by key keys in
      let found = ap (lookup (same_row key)) (groups_are by with so_far keys) ∙ look_up by parts key keys b refl in
      subst (λ r. IfSome r (λ kept. CanMergeParts kept (parts_over with (row ∷ [])))) (sym found)
      (if_there b (parts key) (λ kept. CanMergeParts kept (parts_over with (row ∷ []))) (λ there. merge_grown there))

-- the rows at a time sum to no more than all
pub total_at : (place : ℕ) (time : ℤ) (rows : List TimedRow) → total_in place (rows_at time rows) ≤ total_in place rows
total_at place time [] = omega arith
total_at place time (row ∷ rows) =
    total_step place row (rows_at time rows) rows (int_eq row.time time) true (λ same. refl) (total_at place time rows)
