-- Each table of a typed query has columns with names of their own.
use Rattle.std.proofs.Common.{◌≡◌, ◌∙◌, ◌+◌, ℕ, suc, ℤ, Bool, true, false, not, cond, nat_lt, Option, Some, None, List}
use Rattle.std.proofs.Common.{[], ◌∷◌, ◌++◌, map, length, Ok, refl, sym, ap, subst, arith}
use Rattle.std.specs.Prelude.{option_map, option_to_list, slice_get}
use Rattle.std.specs.List.{flat_map}
use Rattle.std.proofs.lemmas.List.{map-append}
use Rattle.mon_value.specs.Same.{same_text}
use Rattle.mon_value.specs.Tables.{column_names, has_name}
use Rattle.mon_value.specs.declared.aligners.Aligner.{Aligner}
use Rattle.mon_value.specs.declared.columns.Column.{Column}
use Rattle.mon_value.specs.declared.schemas.Kind.{Kind}
use Rattle.mon_value.proofs.PlainLemmas.{nothing_is, same_item}
use Rattle.mon_value.proofs.SameLemmas.{same_text-Decides}
use Rattle.mon_schema.specs.Names.{SchemaLists, metric_named, target_named}
use Rattle.mql_ast.specs.Rows.{column_named, place_of}
use Rattle.mql_ast.specs.Trees as tree
use Rattle.mql_ast.specs.Trees.{BranchTrees, DeedTree, ItemTree, OpTree, PipeTree, SourceTree}
use Rattle.mql_ast.specs.declared.names.Name.{Name}
use Rattle.mql_ast.specs.declared.operations.Aggregate.{Aggregate}
use Rattle.mql_ast.specs.declared.pipes.How.{How}
use Rattle.mql_ast.specs.declared.pipes.How.TheVariants as how
use Rattle.typed_trees.specs.Branches.{union_columns}
use Rattle.typed_trees.specs.Fetches.{fetch_columns}
use Rattle.typed_trees.specs.Groupings.{aggregate_columns, aggregate_name, as_key, group_faults, grouped_columns, key_at}
use Rattle.typed_trees.specs.Groupings.{key_columns_at, listed_columns, listed_places, new_place, place_found}
use Rattle.typed_trees.specs.Items.{is_taken, name_texts, reserved_names, with_name}
use Rattle.typed_trees.specs.Items.{item_name, key_columns, taken_faults, with_names, item_sum_faults}
use Rattle.typed_trees.specs.Nodes as node
use Rattle.typed_trees.specs.Nodes.{NodeTree, TypedTree, columns_of}
use Rattle.typed_trees.specs.Times.{every_said, pipe_order_faults, query_times, times_faults}
use Rattle.typed_trees.specs.Typing.{Part, aligned_as, aligned_by_default, aligned_column, align_node, aligned_tree, branch_faults}
use Rattle.typed_trees.specs.Typing.{branch_node, branches_faults, branches_node, deed_faults, deed_part, default_aligner}
use Rattle.typed_trees.specs.Typing.{further_faults, further_node, ops_faults, ops_part, pipe_faults, pipe_part}
use Rattle.typed_trees.specs.Typing.{source_faults, source_part, typing}
use Rattle.typed_trees.proofs.FetchColumnLemmas.{both_none, typed_without_faults}
use Rattle.typed_rows.proofs.TypedGridLemmas.{no_test}
use Rattle.typed_rows.proofs.OnceLemmas.{Among, Once, aggregates_among, aligned_name, among_append, any_names, join_once}
use Rattle.typed_rows.proofs.OnceLemmas.{made_by, none, once_among, once_repeat, same_names, skip, taken_once}
use Rattle.typed_rows.proofs.OnceLemmas.{united_among, value_once}

-- each column has a name of its own
abbrev pub NamedOnce : List Column → Type 0
NamedOnce [] = Unit {0}
NamedOnce (column ∷ columns) = (has_name column.name columns ≡ false) × NamedOnce columns

-- at each filter the columns have names of their own
abbrev pub FiltersName : NodeTree → Type 0
FiltersName (node.Fetch info schema metric) = Unit {0}
FiltersName (node.Filter info by input) = NamedOnce info.columns × FiltersName input
FiltersName (node.Align info by input) = FiltersName input
FiltersName (node.GroupBy info by with input) = FiltersName input
FiltersName (node.Value info items input) = FiltersName input
FiltersName (node.Top info most column input) = FiltersName input
FiltersName (node.Join info left right) = FiltersName left × FiltersName right
FiltersName (node.Union info left right) = FiltersName left × FiltersName right

-- the columns of a table have names of their own, and so have those of each filter below it
abbrev pub IsNamed : NodeTree → Type 0
IsNamed tree = Once (column_names (columns_of tree)) × FiltersName tree

named_once : (columns : List Column) → Once (column_names columns) → NamedOnce columns
named_once [] once = tt
named_once (c ∷ cs) once = (sym (any_names c.name cs) ∙ once.0, named_once cs once.1)

-- ---- listed columns

named_by : (name : List ℕ) (c d : Column) (cs : List Column) (b : Bool) → same_text name c.name ≡ b
    → slice_get (c ∷ cs) (cond (not b) (1 + place_of name cs) 0) ≡ Some d
    → (column_named name cs ≡ Some d → d.name ≡ name) → d.name ≡ name
named_by name c d cs true e at rest =
    ap (λ (k : Column). k.name) (sym (same_item c d at)) ∙ sym ((same_text-Decides name c.name).0 e)
named_by name c d cs false e at rest =
    let one : 1 + place_of name cs ≡ suc (place_of name cs) = omega arith in
    rest (subst (λ n. slice_get (c ∷ cs) n ≡ Some d) one at)

-- the column of a name has that name
named_so : (name : List ℕ) (columns : List Column) (d : Column) → column_named name columns ≡ Some d → d.name ≡ name
named_so name [] d e = absurd (nothing_is d e)
named_so name (c ∷ cs) d e =
    named_by name c d cs (same_text name c.name) refl e (λ at. named_so name cs d at)

place_by : (b : Bool) (q p : ℕ) → cond b (Some q) None ≡ Some p → q ≡ p
place_by true q p e = same_item q p e
place_by false q p e = absurd (nothing_is p e)

place_is : (name : List ℕ) (columns : List Column) (p : ℕ) → place_found name columns ≡ Some p
    → place_of name columns ≡ p
place_is name columns p e = place_by (nat_lt (place_of name columns) (length columns)) (place_of name columns) p e

key_named : (name : List ℕ) (columns : List Column) (p : ℕ) → place_found name columns ≡ Some p → (o : Option Column)
    → slice_get columns p ≡ o → (c : Column) → option_map as_key o ≡ Some c → c.name ≡ name
key_named name columns p found None at c e = absurd (nothing_is c e)
key_named name columns p found (Some d) at c e =
    let there : column_named name columns ≡ Some d = ap (slice_get columns) (place_is name columns p found) ∙ at in
    ap (λ (k : Column). k.name) (sym (same_item (as_key d) c e)) ∙ named_so name columns d there

new_by : (b : Bool) (o : Option ℕ) (p : ℕ) → cond b None o ≡ Some p → o ≡ Some p
new_by true o p e = absurd (nothing_is p e)
new_by false o p e = e

listed_by : (columns : List Column) (taken : List (List ℕ)) (name : Name) (rest : List ℕ) (texts : List (List ℕ))
    (o : Option ℕ) → new_place columns taken name.text ≡ o
    → Among (column_names (key_columns_at columns rest)) texts
    → Among (column_names (key_columns_at columns (option_to_list o ++ rest))) (name.text ∷ texts)
listed_by columns taken name rest texts None e among = skip among
listed_by columns taken name rest texts (Some p) e among =
    let found : place_found name.text columns ≡ Some p =
    new_by (is_taken name.text taken) (place_found name.text columns) p e in
    made_by (key_at columns p) name.text (key_columns_at columns rest) texts
    (λ c is. key_named name.text columns p found (slice_get columns p) refl c is) among

listed_among : (columns : List Column) (taken : List (List ℕ)) (names : List Name)
    → Among (column_names (key_columns_at columns (listed_places columns taken names))) (name_texts names)
listed_among columns taken [] = none
listed_among columns taken (name ∷ names) =
    listed_by columns taken name (listed_places columns (with_name taken name.text) names) (name_texts names)
    (new_place columns taken name.text) refl (listed_among columns (with_name taken name.text) names)

aggregate_texts : (aggregates : List Aggregate)
    → name_texts (map aggregate_name aggregates) ≡ map (λ a. (aggregate_name a).text) aggregates
aggregate_texts [] = refl
aggregate_texts (a ∷ aggregates) = ap (λ rest. (aggregate_name a).text ∷ rest) (aggregate_texts aggregates)

group_once : (columns : List Column) (names : List Name) (aggregates : List Aggregate)
    → group_faults columns names aggregates ≡ [] → Once (column_names (grouped_columns columns names aggregates))
group_once columns names aggregates none_at =
    let nones = both_none (taken_faults reserved_names (names ++ map aggregate_name aggregates)) _ none_at in
    let free = taken_once reserved_names (names ++ map aggregate_name aggregates) nones.0 in
    let texts : name_texts (names ++ map aggregate_name aggregates)
    ≡ name_texts names ++ map (λ a. (aggregate_name a).text) aggregates =
    map-append (λ (n : Name). n.text) names (map aggregate_name aggregates)
    ∙ ap (λ rest. name_texts names ++ rest) (aggregate_texts aggregates) in
    let split : column_names (grouped_columns columns names aggregates)
    ≡ column_names (listed_columns columns names) ++ column_names (aggregate_columns columns aggregates) =
    map-append (λ (c : Column). c.name) (listed_columns columns names) (aggregate_columns columns aggregates) in
    subst Once (sym split)
    (once_among (column_names (listed_columns columns names) ++ column_names (aggregate_columns columns aggregates))
    (name_texts names ++ map (λ a. (aggregate_name a).text) aggregates)
    (among_append (column_names (listed_columns columns names)) (name_texts names)
    (column_names (aggregate_columns columns aggregates)) (map (λ a. (aggregate_name a).text) aggregates)
    (listed_among columns reserved_names names) (aggregates_among columns aggregates)) (subst Once texts free.0))

-- ---- operations

align_named : (at : Option ℕ) (by : Aligner) (input : NodeTree) → IsNamed input → IsNamed (align_node at by input)
align_named at by input own =
    (subst Once (sym (same_names (aligned_column by) (aligned_name by) (columns_of input))) own.0, own.1)

aligned_named : (every : ℤ) (points : Option Kind) (part : NodeTree) → IsNamed part
    → IsNamed (aligned_by_default every points part)
aligned_named every None part own = own
aligned_named every (Some of) part own = align_named None (default_aligner every of) part own

deed_named : (held : SchemaLists) (every : ℤ) (part : Part) (at : ℕ) (deed : DeedTree) → IsNamed part.tree
    → deed_faults every part at deed ≡ [] → IsNamed (deed_part held every part at deed).tree
deed_named held every part at (tree.Filter by) own none_at =
    (own.0, (named_once (columns_of part.tree) own.0, own.1))
deed_named held every part at (tree.Align by) own none_at = align_named (Some at) (aligned_as part.points by) part.tree own
deed_named held every part at (tree.GroupBy names aggregates) own none_at =
    let rows = aligned_tree every part in
    (group_once (columns_of rows) names aggregates none_at, (aligned_named every part.points part.tree own).1)
deed_named held every part at (tree.Value items) own none_at =
    let rows = aligned_tree every part in
    let below = aligned_named every part.points part.tree own in (
      value_once reserved_names (columns_of rows) items below.0
          (both_none (taken_faults (with_names reserved_names (column_names (key_columns (columns_of rows)))) (map item_name
          items)) (flat_map (item_sum_faults (columns_of rows)) items) none_at).0,
      below.1,
    )
deed_named held every part at (tree.Top most column) own none_at = aligned_named every part.points part.tree own
deed_named held every part at (tree.Every seconds) own none_at = own
deed_named held every part at (tree.Within seconds) own none_at = own

ops_named : (held : SchemaLists) (every : ℤ) (part : Part) (ops : List OpTree) → IsNamed part.tree
    → ops_faults held every part ops ≡ [] → IsNamed (ops_part held every part ops).tree
ops_named held every part [] own none_at = own
ops_named held every part (op ∷ ops) own none_at =
    let nones = both_none (deed_faults every part op.at op.what)
    (ops_faults held every (deed_part held every part op.at op.what) ops) none_at in
    ops_named held every (deed_part held every part op.at op.what) ops
    (deed_named held every part op.at op.what own nones.0) nones.1

branch_named : (held : SchemaLists) (by : How) (at : ℕ) (left right : NodeTree) → IsNamed left → IsNamed right
    → IsNamed (branch_node held by at left right)
branch_named held how.Join at left right own other =
    (join_once held (columns_of left) (columns_of right) own.0 other.0, (own.1, other.1))
branch_named held how.Union at left right own other = (
  once_among (column_names (union_columns held (columns_of left) (columns_of right)))
      (column_names (columns_of left)) (united_among held (columns_of left) (columns_of right)) own.0,
  (own.1, other.1),
)

mutual
  pipe_named : (held : SchemaLists) (every : ℤ) (pipe : PipeTree) → pipe_faults held every pipe ≡ []
      → IsNamed (pipe_part held every pipe).tree
  pipe_named held every (tree.Flow source ops) none_at =
      let nones = both_none (source_faults held every source) (ops_faults held every (source_part held every source)
      ops) none_at in
      ops_named held every (source_part held every source) ops (source_named held every source nones.0) nones.1

  source_named : (held : SchemaLists) (every : ℤ) (source : SourceTree) → source_faults held every source ≡ []
      → IsNamed (source_part held every source).tree
  source_named held every (tree.Fetch at schema metric) none_at =
      let first = both_none _ _ none_at in
      let second = both_none _ _ first.1 in (
        once_repeat (column_names (fetch_columns (target_named schema.text held.targets)
            (metric_named metric.text held.metrics))) (no_test _ _ _ second.1),
        tt,
      )
  source_named held every (tree.Branches at pipes by by_at) none_at = branches_named held every by by_at pipes none_at

  branches_named : (held : SchemaLists) (every : ℤ) (by : How) (at : ℕ) (pipes : BranchTrees)
      → branches_faults held every by at pipes ≡ [] → IsNamed (branches_node held every by at pipes)
  branches_named held every by at tree.NoBranch none_at = (tt, tt)
  branches_named held every by at (tree.Branch first rest) none_at =
      let left = aligned_tree every (pipe_part held every first) in
      let nones = both_none (pipe_faults held every first) (further_faults held every by at left rest) none_at in
      further_named held every by at left rest
      (aligned_named every (pipe_part held every first).points (pipe_part held every first).tree
      (pipe_named held every first nones.0)) nones.1

  further_named : (held : SchemaLists) (every : ℤ) (by : How) (at : ℕ) (left : NodeTree) (pipes : BranchTrees)
      → IsNamed left → further_faults held every by at left pipes ≡ []
      → IsNamed (further_node held every by at left pipes)
  further_named held every by at left tree.NoBranch own none_at = own
  further_named held every by at left (tree.Branch next rest) own none_at =
      let right = aligned_tree every (pipe_part held every next) in
      let further = further_faults held every by at (branch_node held by at left right) rest in
      let faults = branch_faults held by at (columns_of left) (columns_of right) in
      let first = both_none (pipe_faults held every next) (faults ++ further) none_at in
      let second = both_none faults further first.1 in
      further_named held every by at (branch_node held by at left right) rest
      (branch_named held by at left right own
      (aligned_named every (pipe_part held every next).points (pipe_part held every next).tree
      (pipe_named held every next first.0))) second.1

-- at each filter of a typed query the columns have names of their own
pub filters_name : (held : SchemaLists) (query : PipeTree) (typed : TypedTree) → typing held query ≡ Ok typed
    → FiltersName typed.tree
filters_name held query typed e =
    let known = typed_without_faults held query typed e in
    let every = every_said (query_times query) in
    let faults = pipe_faults held every query in
    let nones = both_none (times_faults (query_times query)) faults
    (both_none (pipe_order_faults false query) (times_faults (query_times query) ++ faults) known.0).1 in
    let named = aligned_named every (pipe_part held every query).points (pipe_part held every query).tree
    (pipe_named held every query nones.1) in
    subst (λ (t : TypedTree). FiltersName t.tree) known.1 named.1
