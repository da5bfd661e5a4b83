-- How many bits the numbers of a column may have, and what a join and a union of two tables give.
use Rattle.std.specs.Prelude.{ℕ, ◌+◌, ◌-◌, ◌^◌, nat_lt, min, max, List, ◌&&◌, Bool, true, false, not, [], ◌∷◌, ◌++◌}
use Rattle.std.specs.Prelude.{map, Option, Some, None, option_map, unwrap_or}
use Rattle.std.specs.List.{flat_map, filter_map, list_any}
use Rattle.std.specs.Cmp.Lexicographic.{pointwise}
use Rattle.std.specs.Ordering.{int_eq}
use Rattle.mon_value.specs.declared.limits.TheConstants.{INCREASE_BITS, NUMBER_BITS, ROW_BITS, SUM_BITS}
use Rattle.mon_value.specs.declared.limits.TheConstants.{WIDEST_SUM}
use Rattle.mon_value.specs.declared.columns.Column.{Column}
use Rattle.mon_value.specs.Tables.{has_name, right_columns}
use Rattle.mon_value.specs.Same.{same_text, same_truth}
use Rattle.mon_value.specs.declared.values.ValueType.{ValueType}
use Rattle.mon_value.specs.declared.values.ValueType.TheVariants as type
use Rattle.mon_schema.specs.Names.{SchemaLists}
use Rattle.mql_ast.specs.Rows.{column_named}
use Rattle.typed_trees.specs.declared.faults.TypeFault.{TypeFault}
use Rattle.typed_trees.specs.declared.faults.TypeKind.TheVariants.{TooWide, BranchColumns, Mismatch}
use Rattle.typed_trees.specs.declared.widths.Width.{Width}
use Rattle.typed_trees.specs.Faults.{fault_where, type_word}
use Rattle.typed_trees.specs.Levels.{common_anchor}

-- How many bits the numbers of a column may have, and their sum.

-- what a point or a query has
abbrev pub point_width : Width
point_width = record { cell = NUMBER_BITS; total = SUM_BITS }

-- a delta's sum over a window, which has as many rows as a table
abbrev pub delta_width : Width
delta_width = record { cell = SUM_BITS; total = SUM_BITS }

-- the increases of totals over a window, of as many points
abbrev pub increase_width : Width
increase_width = record { cell = INCREASE_BITS; total = INCREASE_BITS }

-- the number of the rows of a group
abbrev pub count_width : Width
count_width = record { cell = ROW_BITS; total = ROW_BITS }

abbrev pub width_of : Column → Width
width_of column = record { cell = column.cell_bits; total = column.total_bits }

abbrev pub with_width : Width → Column → Column
with_width width column = record column { cell_bits = width.cell; total_bits = width.total }

-- more bits, as many as a column can name
abbrev pub more_bits : ℕ → ℕ → ℕ
more_bits bits more = min (bits + more) (2 ^ 32 - 1)

-- a sum or a difference of two numbers has one bit more than the wider of them
abbrev pub added_width : Width → Width → Width
added_width a b = record { cell = more_bits (max a.cell b.cell) 1; total = more_bits (max a.total b.total) 1 }

-- a group's sums: those of all of its values
abbrev pub summed_width : Width → Width
summed_width width = record { cell = width.total; total = width.total }

-- each pair of a join's rows is a row, and a table has at most 2 to the 24 of them
abbrev pub joined_width : Width → Width
joined_width width = record { cell = width.cell; total = more_bits width.cell ROW_BITS }

-- the rows of both branches of a union, of which there are no more than a table has
abbrev pub united_width : Width → Width → Width
united_width a b =
    let cell = max a.cell b.cell in
    record { cell = cell; total = min (more_bits (max a.total b.total) 1) (more_bits cell ROW_BITS) }

-- a width that sums to too many bits
abbrev pub width_faults : ℕ → Width → List TypeFault
width_faults at width = fault_where (nat_lt WIDEST_SUM width.total) at (TooWide width.total)

-- the columns of which the values sum to too many bits
abbrev pub wide_faults : ℕ → List Column → List TypeFault
wide_faults at columns = flat_map (λ column. width_faults at (width_of column)) columns

-- What a join and a union of two tables give.

-- whether two types are the same; distributions have the same bounds
abbrev pub same_type : ValueType → ValueType → Bool
same_type type.Int type.Int = true
same_type type.Bool type.Bool = true
same_type type.Text type.Text = true
same_type (type.Dist bounds) (type.Dist others) = pointwise int_eq bounds others
same_type type.Int other = false
same_type type.Bool other = false
same_type type.Text other = false
same_type (type.Dist bounds) other = false

-- a column that another holds the same as
abbrev pub anchored_with : SchemaLists → Column → Column → Column
anchored_with held column other = record column { anchor = common_anchor held column.anchor other.anchor }

-- ---- joins

-- a column as a join has it, which is as wide as before, over so many rows as a table has
abbrev pub as_joined : Column → Column
as_joined column = with_width (joined_width (width_of column)) column

-- a left column whose name the right has too; it is taken from the left
abbrev pub common_column : SchemaLists → List Column → Column → Option Column
common_column held rights column = option_map (anchored_with held column) (column_named column.name rights)

-- the columns that the rows of a pair agree in
abbrev pub common_columns : SchemaLists → List Column → List Column → List Column
common_columns held lefts rights = filter_map (common_column held rights) lefts

abbrev pub left_column : SchemaLists → List Column → Column → Column
left_column held rights column = as_joined (unwrap_or (common_column held rights column) column)

-- the left's columns, and then those of the right's that have a name of their own
abbrev pub join_columns : SchemaLists → List Column → List Column → List Column
join_columns held lefts rights = map (left_column held rights) lefts ++ map as_joined (right_columns lefts rights)

abbrev pub mismatch_faults : ℕ → Column → Option Column → List TypeFault
mismatch_faults at column None = []
mismatch_faults at column (Some other) =
    fault_where (not (same_type column.of other.of)) at (Mismatch (type_word column.of) (type_word other.of))

-- some name is common, and columns of a common name have one type
abbrev pub pair_faults : ℕ → List Column → List Column → List TypeFault
pair_faults at lefts rights =
    fault_where (not (list_any (λ column. has_name column.name rights) lefts)) at BranchColumns
    ++ flat_map (λ column. mismatch_faults at column (column_named column.name rights)) lefts

-- the same, and no sum is too wide
abbrev pub join_faults : SchemaLists → ℕ → List Column → List Column → List TypeFault
join_faults held at lefts rights = pair_faults at lefts rights ++ wide_faults at (join_columns held lefts rights)

-- ---- unions

-- whether two columns have one name and one type, and are both keys or both none
abbrev pub same_column : Column → Column → Bool
same_column column other =
    same_text column.name other.name && (same_type column.of other.of && same_truth column.key other.key)

-- whether two tables have the same columns, but for their widths and anchors
abbrev pub same_columns : List Column → List Column → Bool
same_columns lefts rights = pointwise same_column lefts rights

-- a left column over the rows of both
abbrev pub united_column : SchemaLists → Column → Column → Column
united_column held column other =
    with_width (united_width (width_of column) (width_of other)) (anchored_with held column other)

-- the left's columns, each with the right's at its place
abbrev pub union_columns : SchemaLists → List Column → List Column → List Column
union_columns held [] rights = []
union_columns held (left ∷ lefts) [] = []
union_columns held (left ∷ lefts) (right ∷ rights) = united_column held left right ∷ union_columns held lefts rights

-- both tables have the same columns, and no sum is too wide
abbrev pub union_faults : SchemaLists → ℕ → List Column → List Column → List TypeFault
union_faults held at lefts rights =
    fault_where (not (same_columns lefts rights)) at BranchColumns
    ++ wide_faults at (union_columns held lefts rights)
