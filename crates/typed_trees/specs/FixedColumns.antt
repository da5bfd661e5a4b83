-- Columns that a filter fixes to a literal, and those that are still fixed further up.
use Rattle.std.specs.Prelude.{◌≡◌, ℕ, ◌&&◌, Bool, true, false, List, [], ◌∷◌, ◌++◌, filter, map, if◌then◌else◌}
use Rattle.std.specs.List.{list_any}
use Rattle.mon_value.specs.Same.{same_field, same_text}
use Rattle.mon_value.specs.Tables.{has_name}
use Rattle.mon_value.specs.declared.columns.Column.{Column}
use Rattle.mon_value.specs.declared.values.FieldValue.{FieldValue}
use Rattle.mql_ast.specs.Trees as tree
use Rattle.mql_ast.specs.Trees.{PredicateTree}
use Rattle.mql_ast.specs.declared.predicates.Comparison.{Comparison}
use Rattle.mql_ast.specs.declared.predicates.Comparison.TheVariants as comparison
use Rattle.typed_trees.specs.declared.fixed.Fixed.{Fixed}
use Rattle.typed_trees.specs.Groupings.{key_columns_at}
use Rattle.typed_trees.specs.Items.{is_taken, key_columns, with_name, with_names}
use Rattle.typed_trees.specs.Nodes as node
use Rattle.typed_trees.specs.Nodes.{NodeTree, columns_of, fixed_of}

-- ---- what a condition fixes

abbrev pub is_equal : Comparison → Bool
is_equal comparison.Equal = true
is_equal comparison.NotEqual = false
is_equal comparison.Less = false
is_equal comparison.AtMost = false
is_equal comparison.Greater = false
is_equal comparison.AtLeast = false

abbrev pub fixed_if : Bool → List ℕ → FieldValue → List Fixed
fixed_if equal name value = if equal then record { column = name; value = value } ∷ [] else []

-- an equality fixes its column, and of two conditions that both hold each fixes what it fixes alone
abbrev pub fixed_by : PredicateTree → List Fixed
fixed_by (tree.Compare name how literal) = fixed_if (is_equal how) name.text literal.value
fixed_by (tree.Like name pattern) = []
fixed_by (tree.Not p) = []
fixed_by (tree.And p q) = fixed_by p ++ fixed_by q
fixed_by (tree.Or p q) = []

-- ---- lists of what is fixed, which keep one literal for each name

abbrev pub fixed_names : List Fixed → List (List ℕ)
fixed_names fixed = map (λ (f : Fixed). f.column) fixed

-- those with names that aren't taken, of each name the first
abbrev pub new_fixed : List (List ℕ) → List Fixed → List Fixed
new_fixed taken [] = []
new_fixed taken (f ∷ fixed) =
    (if is_taken f.column taken then [] else f ∷ []) ++ new_fixed (with_name taken f.column) fixed

-- what is fixed, and then what else is
abbrev pub with_fixed : List Fixed → List Fixed → List Fixed
with_fixed fixed more = fixed ++ new_fixed (with_names [] (fixed_names fixed)) more

-- those of which the columns are there
abbrev pub named_in : List Column → List Fixed → List Fixed
named_in columns fixed = filter (λ (f : Fixed). has_name f.column columns) fixed

abbrev pub same_fixed : Fixed → Fixed → Bool
same_fixed a b = same_text a.column b.column && same_field a.value b.value

-- those that are in both lists
abbrev pub fixed_in_both : List Fixed → List Fixed → List Fixed
fixed_in_both lefts rights = filter (λ (f : Fixed). list_any (same_fixed f) rights) lefts

-- what either side of a join fixes of its own columns
abbrev pub joined_fixed : NodeTree → NodeTree → List Fixed
joined_fixed left right =
    with_fixed (named_in (columns_of left) (fixed_of left)) (named_in (columns_of right) (fixed_of right))

-- what is fixed in the table of a node, by what is fixed in those that flow into it
abbrev pub fixed_at : NodeTree → List Fixed
fixed_at (node.Fetch info schema metric) = []
fixed_at (node.Filter info by input) = with_fixed (fixed_of input) (fixed_by by)
fixed_at (node.Align info by input) = fixed_of input
fixed_at (node.GroupBy info by with input) = named_in (key_columns_at (columns_of input) by) (fixed_of input)
fixed_at (node.Value info items input) = named_in (key_columns (columns_of input)) (fixed_of input)
fixed_at (node.Top info most column input) = fixed_of input
fixed_at (node.Join info left right) = joined_fixed left right
fixed_at (node.Union info left right) = fixed_in_both (fixed_of left) (fixed_of right)

-- each node of a tree tells what is fixed in its table
abbrev pub AreFixed : NodeTree → Type 0
AreFixed (node.Fetch info schema metric) = info.fixed ≡ fixed_at (node.Fetch info schema metric)
AreFixed (node.Filter info by input) = (info.fixed ≡ fixed_at (node.Filter info by input)) × AreFixed input
AreFixed (node.Align info by input) = (info.fixed ≡ fixed_at (node.Align info by input)) × AreFixed input
AreFixed (node.GroupBy info by with input) =
    (info.fixed ≡ fixed_at (node.GroupBy info by with input)) × AreFixed input
AreFixed (node.Value info items input) = (info.fixed ≡ fixed_at (node.Value info items input)) × AreFixed input
AreFixed (node.Top info most column input) =
    (info.fixed ≡ fixed_at (node.Top info most column input)) × AreFixed input
AreFixed (node.Join info left right) =
    (info.fixed ≡ fixed_at (node.Join info left right)) × (AreFixed left × AreFixed right)
AreFixed (node.Union info left right) =
    (info.fixed ≡ fixed_at (node.Union info left right)) × (AreFixed left × AreFixed right)

-- ---- groups

-- the columns of a table that are fixed there
abbrev pub fixed_columns : List Column → List Fixed → List Column
fixed_columns columns fixed =
    filter (λ (column : Column). list_any (λ (f : Fixed). same_text f.column column.name) fixed) columns

-- the columns by which groups are brought together: those that are listed, and those that are fixed anyway
abbrev pub meeting_columns : List ℕ → NodeTree → List Column
meeting_columns by input =
    key_columns_at (columns_of input) by ++ fixed_columns (columns_of input) (fixed_of input)
