-- Filters that name keys alone.
use Rattle.std.specs.Prelude.{◌≡◌, Bool, true, false}
use Rattle.mon_value.specs.Order.{cells_of}
use Rattle.mon_value.specs.declared.rows.SeriesKey.{SeriesKey}
use Rattle.mon_value.specs.declared.values.Value.{Value}
use Rattle.mql_ast.specs.Rows.{predicate_truth}
use Rattle.typed_trees.specs.Meaning.{names_keys, series_cells, is_fetched}
use Rattle.typed_trees.specs.Nodes as node
use Rattle.typed_trees.specs.Nodes.{NodeTree}

-- a filter that names keys alone says of each point of a series what it says of the series
abbrev pub KeysDecide : NodeTree → SeriesKey → Type 0
KeysDecide (node.Fetch info schema metric) key = Unit {0}
KeysDecide (node.Filter info by input) key =
    ((value : Value) → names_keys info.columns by ≡ true
    → predicate_truth by info.columns (cells_of key value) ≡ predicate_truth by info.columns (series_cells key))
    × KeysDecide input key
KeysDecide (node.Align info by input) key = Unit {0}
KeysDecide (node.GroupBy info by with input) key = Unit {0}
KeysDecide (node.Value info items input) key = Unit {0}
KeysDecide (node.Top info most column input) key = Unit {0}
KeysDecide (node.Join info left right) key = Unit {0}
KeysDecide (node.Union info left right) key = Unit {0}

-- whether a part fetches a series, whatever its filters say
abbrev pub fetches_series : NodeTree → SeriesKey → Bool
fetches_series (node.Fetch info schema metric) key = is_fetched schema metric key
fetches_series (node.Filter info by input) key = fetches_series input key
fetches_series (node.Align info by input) key = false
fetches_series (node.GroupBy info by with input) key = false
fetches_series (node.Value info items input) key = false
fetches_series (node.Top info most column input) key = false
fetches_series (node.Join info left right) key = false
fetches_series (node.Union info left right) key = false
