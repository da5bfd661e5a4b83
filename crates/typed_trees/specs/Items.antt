-- What `value` gives: the keys, and a column for each item.
use Rattle.std.specs.Prelude.{ℕ, Bool, true, false, not, nat_le, List, [], ◌∷◌, ◌++◌, codes, filter, map, Option, Some}
use Rattle.std.specs.Prelude.{None, option_map, option_and_then, unwrap_or, if◌then◌else◌}
use Rattle.std.specs.List.{list_any, filter_map, flat_map}
use Rattle.std.specs.Option.{option_or, option_zip}
use Rattle.mon_value.specs.Same.{same_text}
use Rattle.mon_value.specs.declared.columns.Column.{Column}
use Rattle.mon_value.specs.declared.values.ValueType.{ValueType}
use Rattle.mon_value.specs.declared.values.ValueType.TheVariants as type
use Rattle.mql_ast.specs.Rows.{column_named}
use Rattle.mql_ast.specs.Trees as tree
use Rattle.mql_ast.specs.Trees.{ItemTree, SumTree}
use Rattle.mql_ast.specs.declared.names.Name.{Name}
use Rattle.typed_trees.specs.declared.faults.TypeFault.{TypeFault}
use Rattle.typed_trees.specs.declared.faults.TypeKind.TheVariants.{DuplicateColumn, Mismatch, TooWide, UnknownColumn}
use Rattle.typed_trees.specs.declared.faults.TypeWord.TheVariants as word
use Rattle.typed_trees.specs.Faults.{fault_at, fault_where}
use Rattle.mon_value.specs.Tables.{column_names}
use Rattle.typed_trees.specs.Fetches.{condition_faults, unknown_faults}
use Rattle.typed_trees.specs.declared.widths.Operand.{Operand}
use Rattle.typed_trees.specs.declared.widths.Width.{Width}
use Rattle.typed_trees.specs.Branches.{added_width, more_bits, point_width, width_faults, width_of}

abbrev pub is_number_type : ValueType → Bool
is_number_type type.Int = true
is_number_type type.Bool = false
is_number_type type.Text = false
is_number_type (type.Dist bounds) = false

-- the width of a column of numbers
abbrev pub width_of_type : ValueType → Width → Option Width
width_of_type type.Int width = Some width
width_of_type type.Bool width = None
width_of_type type.Text width = None
width_of_type (type.Dist bounds) width = None

-- a sum of two, where both are numbers
abbrev pub width_together : Option Width → Option Width → Option Width
width_together left right = option_map (λ both. added_width both.0 both.1) (option_zip left right)

-- the width of the numbers that a sum comes to, where it comes to numbers
abbrev pub sum_width : List Column → SumTree → Option Width
sum_width columns (tree.Column name) =
    option_and_then (λ column. width_of_type column.of (width_of column)) (column_named name.text columns)
sum_width columns (tree.Number at z) = Some point_width
sum_width columns (tree.Plus left right) = width_together (sum_width columns left) (sum_width columns right)
sum_width columns (tree.Minus left right) = width_together (sum_width columns left) (sum_width columns right)
sum_width columns (tree.Percentile at name p) = Some point_width

-- where a sum begins
abbrev pub left_end : SumTree → ℕ
left_end (tree.Column name) = name.at
left_end (tree.Number at z) = at
left_end (tree.Plus left right) = left_end left
left_end (tree.Minus left right) = left_end left
left_end (tree.Percentile at name p) = at

abbrev pub optional_width_faults : ℕ → Option Width → List TypeFault
optional_width_faults at None = []
optional_width_faults at (Some width) = width_faults at width

-- the most bits of a distribution's total of which a hundred times is still a number
abbrev pub most_percentile_bits : ℕ
most_percentile_bits = 119

abbrev pub percentile_faults_of : ValueType → ℕ → ℕ → List TypeFault
percentile_faults_of (type.Dist bounds) bits at =
    fault_where (not (nat_le bits most_percentile_bits)) at (TooWide (more_bits bits 7))
percentile_faults_of type.Int bits at = fault_at at (Mismatch word.Int word.Dist) ∷ []
percentile_faults_of type.Bool bits at = fault_at at (Mismatch word.Bool word.Dist) ∷ []
percentile_faults_of type.Text bits at = fault_at at (Mismatch word.Text word.Dist) ∷ []

-- a percentile wants distributions that are not too wide
abbrev pub percentile_faults : Option Column → ℕ → List TypeFault
percentile_faults None at = fault_at at UnknownColumn ∷ []
percentile_faults (Some column) at = percentile_faults_of column.of column.cell_bits at

-- `+` and `-` want numbers, and one that is too wide is told where it begins
abbrev pub operand_faults : List Column → SumTree → List TypeFault
operand_faults columns (tree.Column name) = condition_faults columns name is_number_type word.Int
operand_faults columns (tree.Number at z) = []
operand_faults columns (tree.Plus left right) =
    operand_faults columns left ++ (operand_faults columns right
    ++ optional_width_faults (left_end left) (width_together (sum_width columns left) (sum_width columns right)))
operand_faults columns (tree.Minus left right) =
    operand_faults columns left ++ (operand_faults columns right
    ++ optional_width_faults (left_end left) (width_together (sum_width columns left) (sum_width columns right)))
operand_faults columns (tree.Percentile at name p) = percentile_faults (column_named name.text columns) name.at

-- where a sum begins, and the width of the numbers that it comes to
abbrev pub operand_of : List Column → SumTree → Operand
operand_of columns sum = record { at = left_end sum; width = sum_width columns sum }

-- a number of a query, or a percentile, at a place
abbrev pub number_operand : ℕ → Operand
number_operand at = record { at = at; width = Some point_width }

abbrev pub operands_together : Operand → Operand → Operand
operands_together left right = record { at = left.at; width = width_together left.width right.width }

-- ---- one item

-- the column that a sum is alone, if it is one
abbrev pub column_alone : SumTree → Option Name
column_alone (tree.Column name) = Some name
column_alone (tree.Number at z) = None
column_alone (tree.Plus left right) = None
column_alone (tree.Minus left right) = None
column_alone (tree.Percentile at name p) = None

-- what has no name in any text
abbrev pub no_name : Name
no_name = record { at = 0; text = [] }

-- the name that an item gives its column: its own, or that of the column that it is
abbrev pub item_name : ItemTree → Name
item_name item = unwrap_or (option_or item.name (column_alone item.sum)) no_name

-- a column alone may be of any type
abbrev pub sum_faults : List Column → SumTree → Option Name → List TypeFault
sum_faults columns sum None = operand_faults columns sum
sum_faults columns sum (Some name) = unknown_faults columns name

-- a column without an anchor that is no key
abbrev pub plain_column : List ℕ → ValueType → Width → Column
plain_column name of width = record {
  name = name;
  of = of;
  key = false;
  anchor = None;
  cell_bits = width.cell;
  total_bits = width.total;
}

abbrev pub renamed_column : List ℕ → Column → Column
renamed_column name column = plain_column name column.of (width_of column)

abbrev pub renamed_source : List ℕ → List ℕ → List Column → Option Column
renamed_source name source columns = option_map (renamed_column name) (column_named source columns)

-- the column that a sum gives: a column as it is, or numbers
abbrev pub sum_column : List Column → List ℕ → SumTree → Option Name → Option Column
sum_column columns name sum None = option_map (plain_column name type.Int) (sum_width columns sum)
sum_column columns name sum (Some source) = renamed_source name source.text columns

abbrev pub item_sum_faults : List Column → ItemTree → List TypeFault
item_sum_faults columns item = sum_faults columns item.sum (column_alone item.sum)

abbrev pub item_column : List Column → ItemTree → Option Column
item_column columns item = sum_column columns (item_name item).text item.sum (column_alone item.sum)

-- ---- names that are taken

-- whether a name is among those that no further column may have
abbrev pub is_taken : List ℕ → List (List ℕ) → Bool
is_taken name taken = list_any (same_text name) taken

-- the taken names with one more
abbrev pub with_name : List (List ℕ) → List ℕ → List (List ℕ)
with_name taken name = if is_taken name taken then taken else taken ++ name ∷ []

abbrev pub with_names : List (List ℕ) → List (List ℕ) → List (List ℕ)
with_names taken [] = taken
with_names taken (name ∷ names) = with_names (with_name taken name) names

-- what no column is called
abbrev pub reserved_names : List (List ℕ)
reserved_names = codes "time" ∷ []

abbrev pub name_texts : List Name → List (List ℕ)
name_texts names = map (λ (name : Name). name.text) names

-- each name that gives a column is none that is taken
abbrev pub taken_faults : List (List ℕ) → List Name → List TypeFault
taken_faults taken [] = []
taken_faults taken (name ∷ names) =
    fault_where (is_taken name.text taken) name.at DuplicateColumn
    ++ taken_faults (with_name taken name.text) names

-- ---- all items

abbrev pub key_columns : List Column → List Column
key_columns columns = filter (λ column. column.key) columns

-- an item's name is not `time`, nor that of a key or of an item before it, and its sum has a type
abbrev pub value_faults : List Column → List ItemTree → List TypeFault
value_faults columns items =
    taken_faults (with_names reserved_names (column_names (key_columns columns))) (map item_name items)
    ++ flat_map (item_sum_faults columns) items

-- the keys, and a column for each item of which the type is known
abbrev pub value_columns : List Column → List ItemTree → List Column
value_columns columns items = key_columns columns ++ filter_map (item_column columns) items
