-- What `group_by` gives: the columns that it lists, as keys, and its aggregates.
use Rattle.std.specs.Prelude.{ℕ, ◌||◌, Bool, true, false, List, [], ◌∷◌, ◌++◌, codes, map, position, slice_get, Option}
use Rattle.std.specs.Prelude.{Some, None, option_map, option_to_list, option_and_then, unwrap_or, if◌then◌else◌}
use Rattle.std.specs.List.{filter_map, flat_map}
use Rattle.mon_value.specs.Same.{same_text}
use Rattle.mon_value.specs.declared.aggregates.Aggregate as made
use Rattle.mon_value.specs.declared.aggregates.AggregateKind.{AggregateKind}
use Rattle.mon_value.specs.declared.aggregates.AggregateKind.TheVariants as kind
use Rattle.mon_value.specs.declared.columns.Column.{Column}
use Rattle.mon_value.specs.declared.values.ValueType.{ValueType}
use Rattle.mon_value.specs.declared.values.ValueType.TheVariants as type
use Rattle.mql_ast.specs.Rows.{column_named}
use Rattle.mql_ast.specs.declared.names.Name.{Name}
use Rattle.mql_ast.specs.declared.operations.Aggregate.{Aggregate}
use Rattle.mql_ast.specs.declared.operations.FoldWord.{FoldWord}
use Rattle.mql_ast.specs.declared.operations.FoldWord.TheVariants as fold
use Rattle.typed_trees.specs.declared.faults.TypeFault.{TypeFault}
use Rattle.typed_trees.specs.declared.faults.TypeWord.{TypeWord}
use Rattle.typed_trees.specs.declared.faults.TypeWord.TheVariants as word
use Rattle.typed_trees.specs.Fetches.{condition_faults, unknown_faults}
use Rattle.typed_trees.specs.Items.{is_number_type, is_taken, plain_column, reserved_names, taken_faults, with_name}
use Rattle.typed_trees.specs.declared.widths.Width.{Width}
use Rattle.typed_trees.specs.Branches.{count_width, summed_width, width_of}

-- where the column of a name stands
abbrev pub place_found : List ℕ → List Column → Option ℕ
place_found name columns = position (λ column. same_text name column.name) columns

-- ---- the columns that are listed

-- the place of a name that stands for the first time
abbrev pub new_place : List Column → List (List ℕ) → List ℕ → Option ℕ
new_place columns taken name = if is_taken name taken then None else place_found name columns

-- the places of the columns that a list of names has, each once
abbrev pub listed_places : List Column → List (List ℕ) → List Name → List ℕ
listed_places columns taken [] = []
listed_places columns taken (name ∷ names) =
    option_to_list (new_place columns taken name.text) ++ listed_places columns (with_name taken name.text) names

abbrev pub as_key : Column → Column
as_key column = record column { key = true }

abbrev pub key_at : List Column → ℕ → Option Column
key_at columns place = option_map as_key (slice_get columns place)

-- the columns at some places, as keys
abbrev pub key_columns_at : List Column → List ℕ → List Column
key_columns_at columns places = filter_map (key_at columns) places

-- the listed columns
abbrev pub listed_columns : List Column → List Name → List Column
listed_columns columns names = key_columns_at columns (listed_places columns reserved_names names)

-- ---- the aggregates

abbrev pub is_distribution : ValueType → Bool
is_distribution (type.Dist bounds) = true
is_distribution type.Int = false
is_distribution type.Bool = false
is_distribution type.Text = false

-- whether a fold takes a column of a type: numbers, but for `merge`, which takes distributions, and
-- `aggregate`, which takes both
abbrev pub fold_takes : FoldWord → ValueType → Bool
fold_takes fold.Count of = true
fold_takes fold.Sum of = is_number_type of
fold_takes fold.Min of = is_number_type of
fold_takes fold.Max of = is_number_type of
fold_takes fold.Mean of = is_number_type of
fold_takes fold.Merge of = is_distribution of
fold_takes fold.Aggregate of = is_number_type of || is_distribution of

-- the type that is told as wanted
abbrev pub wanted_word : FoldWord → TypeWord
wanted_word fold.Merge = word.Dist
wanted_word fold.Count = word.Int
wanted_word fold.Sum = word.Int
wanted_word fold.Min = word.Int
wanted_word fold.Max = word.Int
wanted_word fold.Mean = word.Int
wanted_word fold.Aggregate = word.Int

-- `aggregate` adds numbers and merges distributions
abbrev pub fold_kind : FoldWord → ValueType → AggregateKind
fold_kind fold.Count of = kind.Count
fold_kind fold.Sum of = kind.Sum
fold_kind fold.Min of = kind.Min
fold_kind fold.Max of = kind.Max
fold_kind fold.Mean of = kind.Mean
fold_kind fold.Merge of = kind.Merge
fold_kind fold.Aggregate (type.Dist bounds) = kind.Merge
fold_kind fold.Aggregate type.Int = kind.Sum
fold_kind fold.Aggregate type.Bool = kind.Sum
fold_kind fold.Aggregate type.Text = kind.Sum

-- a sum may be as wide as all values together; the least, the greatest and the mean are as wide as one
abbrev pub fold_width : FoldWord → Width → Width
fold_width fold.Count width = count_width
fold_width fold.Sum width = summed_width width
fold_width fold.Min width = width
fold_width fold.Max width = width
fold_width fold.Mean width = width
fold_width fold.Merge width = summed_width width
fold_width fold.Aggregate width = summed_width width

-- the name of the column that an aggregate gives: its own, its column's, or `count`
abbrev pub own_name : Aggregate → Name
own_name aggregate = unwrap_or aggregate.column (record { at = aggregate.at; text = codes "count" })

abbrev pub aggregate_name : Aggregate → Name
aggregate_name aggregate = unwrap_or aggregate.name (own_name aggregate)

-- the column that an aggregate takes is there, and of a type that its fold takes; a count takes none
abbrev pub folded_faults : List Column → FoldWord → Option Name → List TypeFault
folded_faults columns how None = []
folded_faults columns how (Some name) = condition_faults columns name (fold_takes how) (wanted_word how)

abbrev pub folded_column : List ℕ → FoldWord → Column → Column
folded_column name how column = plain_column name column.of (fold_width how (width_of column))

-- the column that an aggregate gives
abbrev pub aggregate_column : List Column → List ℕ → FoldWord → Option Name → Option Column
aggregate_column columns name how None = Some (plain_column name type.Int count_width)
aggregate_column columns name how (Some source) = option_map (folded_column name how) (column_named source.text columns)

abbrev pub aggregated_column : List Column → Aggregate → Option Column
aggregated_column columns a = aggregate_column columns (aggregate_name a).text a.fold a.column

abbrev pub aggregate_columns : List Column → List Aggregate → List Column
aggregate_columns columns aggregates = filter_map (aggregated_column columns) aggregates

-- what an aggregate makes of the column at a place
abbrev pub typed_aggregate : FoldWord → ValueType → ℕ → made.Aggregate
typed_aggregate how of place = record { what = fold_kind how of; column = place }

abbrev pub aggregate_at : List Column → FoldWord → ℕ → Option made.Aggregate
aggregate_at columns how place =
    option_map (λ (column : Column). typed_aggregate how column.of place) (slice_get columns place)

abbrev pub aggregate_over : List Column → FoldWord → Option Name → Option made.Aggregate
aggregate_over columns how None = Some (record { what = kind.Count; column = 0 })
aggregate_over columns how (Some source) = option_and_then (aggregate_at columns how) (place_found source.text columns)

abbrev pub aggregate_of : List Column → Aggregate → Option made.Aggregate
aggregate_of columns a = aggregate_over columns a.fold a.column

abbrev pub aggregates_over : List Column → List Aggregate → List made.Aggregate
aggregates_over columns aggregates = filter_map (aggregate_of columns) aggregates

-- ---- both

abbrev pub aggregate_faults : List Column → Aggregate → List TypeFault
aggregate_faults columns aggregate = folded_faults columns aggregate.fold aggregate.column

-- no name that gives a column is `time` or one before it, each listed name is a column's, and each aggregate
-- takes its column
abbrev pub group_faults : List Column → List Name → List Aggregate → List TypeFault
group_faults columns names aggregates =
    taken_faults reserved_names (names ++ map aggregate_name aggregates)
    ++ (flat_map (unknown_faults columns) names ++ flat_map (aggregate_faults columns) aggregates)

-- the listed columns, and then one for each aggregate of which the type is known
abbrev pub grouped_columns : List Column → List Name → List Aggregate → List Column
grouped_columns columns names aggregates = listed_columns columns names ++ aggregate_columns columns aggregates
