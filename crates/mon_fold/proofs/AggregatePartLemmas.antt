-- Parts of aggregates, one and many.
use Rattle.std.proofs.Common.{◌≡◌, ℕ, zero, suc, ◌+◌, ◌<◌, List, [], ◌∷◌, length, get_or, set, take, Option, Some}
use Rattle.std.proofs.Common.{None, refl, sym, ap, subst, ◌∙◌, add-one, arith}
use Rattle.std.specs.Option.{option_to_list}
use Rattle.std.proofs.lemmas.List.{get_or-map, length-map}
use Rattle.mon_value.specs.Groups.{merged_of, column_of, distributions_in}
use Rattle.mon_value.specs.declared.aggregates.Aggregate.{Aggregate}
use Rattle.mon_value.specs.declared.aggregates.AggregateKind.{AggregateKind}
use Rattle.mon_value.specs.declared.aggregates.AggregateKind.TheVariants as kind
use Rattle.mon_value.specs.declared.tables.TimedRow.{TimedRow}
use Rattle.mon_value.proofs.CountsLemmas.{counts_added-nil}
use Rattle.mon_fold.specs.declared.aggregate_parts.AggregatePart.{AggregatePart}
use Rattle.mon_fold.specs.declared.aggregate_parts.AggregatePart.TheVariants as part
use Rattle.mon_fold.specs.PartialGroups.{CanMergePart, CanMergeParts, merged_part, merged_parts, part_over, parts_over}

-- the distribution of one row, if it has one
pub merged_single : (counts : Option (List ℕ)) (all : List (List ℕ)) → all ≡ option_to_list counts → counts
    ≡ merged_of all
merged_single None all is = sym (ap merged_of is)
merged_single (Some counts) all is = ap Some (sym (counts_added-nil counts)) ∙ sym (ap merged_of is)

-- the part of one row for the aggregate that merges
pub merge_over : (what : AggregateKind) (column : ℕ) (row : TimedRow) (counts : Option (List ℕ)) → what ≡ kind.Merge
    → distributions_in (column_of column (row ∷ [])) ≡ option_to_list counts
    → part.Merge counts ≡ part_over what column (row ∷ [])
merge_over what column row counts is found =
    ap part.Merge (merged_single counts (distributions_in (column_of column (row ∷ []))) found)
    ∙ ap (λ (k : AggregateKind). part_over k column (row ∷ [])) (sym is)

pub merged_parts-nil : (parts : List AggregatePart) → parts ≡ merged_parts parts []
merged_parts-nil [] = refl
merged_parts-nil (first ∷ parts) = refl

pub length-merged_parts : (parts others : List AggregatePart) → length (merged_parts parts others) ≡ length parts
length-merged_parts [] others = refl
length-merged_parts (part ∷ parts) [] = refl
length-merged_parts (part ∷ parts) (other ∷ others) = omega (arith, length-merged_parts parts others)

pub as_many : (parts others : List AggregatePart) → CanMergeParts parts others → length parts ≡ length others
as_many [] [] can = refl
as_many [] (other ∷ others) can = absurd can
as_many (part ∷ parts) [] can = absurd can
as_many (part ∷ parts) (other ∷ others) can = omega (arith, as_many parts others can.1)

-- the next part, into which nothing was merged yet, can take its part
pub next_can : (parts others : List AggregatePart) (i : ℕ) (d e : AggregatePart) → i < length others
    → CanMergeParts parts others
    → CanMergePart (get_or (merged_parts parts (take i others)) i d) (get_or others i e)
next_can [] others i d e h can = absurd (omega (arith, as_many [] others can))
next_can (part ∷ parts) [] i d e h can = absurd can
next_can (part ∷ parts) (other ∷ others) zero d e h can = can.0
next_can (part ∷ parts) (other ∷ others) (suc i) d e h can = next_can parts others i d e (omega arith) can.1

pub next_merged : (parts others : List AggregatePart) (i : ℕ) (d e : AggregatePart) → i < length others → length parts
    ≡ length others
    → set (merged_parts parts (take i others)) i (merged_part (get_or (merged_parts parts (take i others)) i d)
    (get_or others i e)) ≡ merged_parts parts (take (i + 1) others)
next_merged [] others i d e h same = absurd (omega arith)
next_merged (part ∷ parts) [] i d e h same = absurd (omega arith)
next_merged (part ∷ parts) (other ∷ others) zero d e h same = ap (λ rest. merged_part part other ∷ rest)
    (merged_parts-nil parts)
next_merged (part ∷ parts) (other ∷ others) (suc i) d e h same =
    let rest = next_merged parts others i d e (omega arith) (omega arith) in
    rw add-one (ap (λ rest. merged_part part other ∷ rest) (rw add-one at rest))

-- the same of the parts that a loop has made and meets
pub next_can_at : (parts others so_far : List AggregatePart) (i : ℕ) (d other : AggregatePart) → so_far ≡ merged_parts
    parts (take i others) → other ≡ get_or others i other
    → i < length others → CanMergeParts parts others → CanMergePart (get_or so_far i d) other
next_can_at parts others so_far i d other made met h can =
    subst (λ (p : AggregatePart). CanMergePart (get_or so_far i d) p) (sym met)
    (subst (λ (ps : List AggregatePart). CanMergePart (get_or ps i d) (get_or others i other)) (sym made)
    (next_can parts others i d other h can))

pub next_merged_at : (parts others so_far : List AggregatePart) (i : ℕ) (d other merged : AggregatePart) → so_far
    ≡ merged_parts parts (take i others) → other ≡ get_or others i other
    → merged ≡ merged_part (get_or so_far i d) other → i < length others → CanMergeParts parts others
    → set so_far i merged ≡ merged_parts parts (take (i + 1) others)
next_merged_at parts others so_far i d other merged made met is h can =
    let put : set so_far i merged ≡ set (merged_parts parts (take i others)) i
    (merged_part (get_or (merged_parts parts (take i others)) i d) (get_or others i other)) =
    ap (set so_far i) (is ∙ ap (merged_part (get_or so_far i d)) met)
    ∙ ap (λ (ps : List AggregatePart). set ps i (merged_part (get_or ps i d) (get_or others i other))) made in
    put ∙ next_merged parts others i d other h (as_many parts others can)

pub in_bounds : (parts others so_far : List AggregatePart) (i : ℕ) → so_far ≡ merged_parts parts (take i others)
    → i < length others → CanMergeParts parts others → i < length so_far
in_bounds parts others so_far i made h can =
    omega (arith, as_many parts others can, length-merged_parts parts (take i others), ap length made)

-- ---- a row more

-- the part of a row for an aggregate
abbrev pub part_of_row : TimedRow → Aggregate → AggregatePart
part_of_row row aggregate = part_over aggregate.what aggregate.column (row ∷ [])

as_long : (with : List Aggregate) (row : TimedRow) (i : ℕ) → i < length with → i < length (parts_over with (row ∷ []))
as_long with row i h = omega (arith, length-map with (part_of_row row))

pub row_in_bounds : (with : List Aggregate) (row : TimedRow) (i : ℕ) (parts so_far : List AggregatePart)
    → i < length with → so_far ≡ merged_parts parts (take i (parts_over with (row ∷ [])))
    → CanMergeParts parts (parts_over with (row ∷ [])) → i < length so_far
row_in_bounds with row i parts so_far h made can = in_bounds parts (parts_over with (row ∷ [])) so_far i made
    (as_long with row i h) can

module _ (with : List Aggregate) (row : TimedRow) (i : ℕ) (e : Aggregate) (h : i < length with) where
  abbrev more : List AggregatePart
  more = parts_over with (row ∷ [])

  abbrev added : AggregatePart
  added = part_of_row row (get_or with i e)

  added_is : added ≡ get_or more i added
  added_is = sym (get_or-map (part_of_row row) with i e added h)

  long : i < length more
  long = as_long with row i h

  pub row_can : (parts so_far : List AggregatePart) (d : AggregatePart) → so_far ≡ merged_parts parts
      (take i (parts_over with (row ∷ []))) → CanMergeParts parts (parts_over with (row ∷ []))
      → CanMergePart (get_or so_far i d) (part_of_row row (get_or with i e))
  row_can parts so_far d made can = next_can_at parts more so_far i d added made added_is long can

  pub row_merged : (parts so_far : List AggregatePart) (d merged : AggregatePart) → so_far ≡ merged_parts parts
      (take i (parts_over with (row ∷ [])))
      → merged ≡ merged_part (get_or so_far i d) (part_of_row row (get_or with i e))
      → CanMergeParts parts (parts_over with (row ∷ [])) → set so_far i merged ≡ merged_parts parts
      (take (i + 1) (parts_over with (row ∷ [])))
  row_merged parts so_far d merged made put can = next_merged_at parts more so_far i d added merged made added_is put
      long can
