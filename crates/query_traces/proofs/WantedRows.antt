-- Rows whose series meet no fetch of a query change neither what it means nor its load.
use Rattle.std.proofs.Common.{◌≡◌, ◌∙◌, ◌+◌, ℤ, Bool, true, false, ◌&&◌, cond, List, [], ◌∷◌, ◌++◌}
use Rattle.std.proofs.Common.{length, refl, sym, ap}
use Rattle.std.specs.List.{AllByRecursion, filter, filter_map, flat_map, list_any}
use Rattle.std.proofs.lemmas.Bool.{or_left, or_right}
use Rattle.mon_value.specs.Groups.{group_rows, top_rows}
use Rattle.mon_value.specs.Tables.{pairs_of}
use Rattle.mon_value.specs.declared.aligners.Aligner.{Aligner}
use Rattle.mon_value.specs.declared.grids.Grid.{Grid}
use Rattle.mon_value.specs.declared.rows.Row.{Row}
use Rattle.mon_value.specs.declared.tables.TimedRow.{TimedRow}
use Rattle.mon_schema.specs.Fits.{fits}
use Rattle.mon_schema.specs.Names.{SchemaLists}
use Rattle.mql_ast.specs.Rows.{predicate_truth}
use Rattle.typed_trees.specs.Meaning.{is_reached, load, load_of, meets, points_reached, aligned_rows, grid_of}
use Rattle.typed_trees.specs.Meaning.{meaning, points_meant, rows_meant, value_row}
use Rattle.typed_trees.specs.Nodes as node
use Rattle.typed_trees.specs.Nodes.{NodeTree, TypedTree, columns_of}
use Rattle.typed_trees.specs.Plans.{HasFetchColumns, fetches}
use Rattle.typed_trees.specs.Soundness.{IsTyped}
use Rattle.typed_trees.proofs.FetchColumnLemmas.{fetches_have_columns}
use Rattle.typed_rows.proofs.FetchedTrees.{AllFit}
use Rattle.typed_rows.proofs.JoinedRows.{all-front, all-map}
use Rattle.mon_meaning.proofs.FilterLemmas.{filter_twice}
use Rattle.mon_meaning.proofs.FlowLemmas.{flows_met}
use Rattle.mon_meaning.proofs.SeriesOrders.{points_meant-filter, row_flows}
use Rattle.mon_value.proofs.PlainLemmas.{and_implied}
use Rattle.query_traces.specs.Traces.{is_wanted}

-- ---- lists

if_so : {A : Type 0} (b c : Bool) (x : A) (xs ys : List A) → b ≡ c → xs ≡ ys → cond b (x ∷ xs) xs ≡ cond c (x ∷ ys) ys
if_so b c x xs ys same rest = λ i. cond (same i) (x ∷ rest i) (rest i)

-- tests that agree on each item
pub filter_alike : {A : Type 0} (p q : A → Bool) (xs : List A) → AllByRecursion (λ x. p x ≡ q x) xs → filter p xs
    ≡ filter q xs
filter_alike p q [] all = refl
filter_alike p q (x ∷ xs) all = if_so (p x) (q x) x (filter p xs) (filter q xs) all.0 (filter_alike p q xs all.1)

none_by : {A : Type 0} (b : Bool) (x : A) (xs : List A) → b ≡ false → xs ≡ [] → cond b (x ∷ xs) xs ≡ []
none_by b x xs e rest = ap (λ c. cond c (x ∷ xs) xs) e ∙ rest

-- a test that no item passes
pub filter_empty : {A : Type 0} (p : A → Bool) (xs : List A) → AllByRecursion (λ x. p x ≡ false) xs → filter p xs ≡ []
filter_empty p [] all = refl
filter_empty p (x ∷ xs) all = none_by (p x) x (filter p xs) all.0 (filter_empty p xs all.1)

-- ---- rows that are kept are all that count

reached_if : (r m k : Bool) → (m ≡ true → k ≡ true) → ((r && m) && k) ≡ (r && m)
reached_if true true k h = h refl
reached_if true false k h = refl
reached_if false m k h = refl

-- a test that each series passes that meets a fetch
abbrev KeepsMet : (Row → Bool) → NodeTree → Type 0
KeepsMet keep fetch = (row : Row) → meets fetch row.key ≡ true → keep row ≡ true

module _ (held : SchemaLists) (keep : Row → Bool) (rows : List Row) (fit : AllFit held rows) where
  kept_points : (input : NodeTree) → HasFetchColumns held input → KeepsMet keep input
      → points_meant input (filter keep rows) ≡ points_meant input rows
  kept_points input named keeps =
      points_meant-filter input (filter keep rows)
      ∙ filter_twice keep (row_flows input) rows
      ∙ filter_alike (λ row. row_flows input row && keep row) (row_flows input) rows
      (all-map (λ (row : Row). fits held row ≡ true)
      (λ (row : Row). (row_flows input row && keep row) ≡ row_flows input row) rows
      (λ row fit. and_implied (row_flows input row) (keep row)
      (λ flow. keeps row (flows_met held row fit input named flow))) fit)
      ∙ sym (points_meant-filter input rows)

  every : (P : Row → Type 0) → ((row : Row) → P row) → (some : List Row) → AllByRecursion P some
  every P each [] = tt
  every P each (row ∷ some) = (each row, every P each some)

  kept_reached : (grid : Grid) (by : Aligner) (input : NodeTree) → KeepsMet keep input
      → points_reached grid by input (filter keep rows) ≡ points_reached grid by input rows
  kept_reached grid by input keeps =
      filter_twice keep (λ row. is_reached grid by row && meets input row.key) rows
      ∙ filter_alike (λ row. (is_reached grid by row && meets input row.key) && keep row)
      (λ row. is_reached grid by row && meets input row.key) rows
      (every (λ row. ((is_reached grid by row && meets input row.key) && keep row)
      ≡ (is_reached grid by row && meets input row.key))
      (λ row. reached_if (is_reached grid by row) (meets input row.key) (keep row) (keeps row)) rows)

  kept_rows : (grid : Grid) (tree : NodeTree) → AllByRecursion (HasFetchColumns held) (fetches tree)
      → AllByRecursion (KeepsMet keep) (fetches tree)
      → rows_meant grid tree (filter keep rows) ≡ rows_meant grid tree rows
  kept_rows grid (node.Fetch info schema metric) named keeps = refl
  kept_rows grid (node.Filter info by input) named keeps =
      ap (filter (λ (row : TimedRow). predicate_truth by info.columns row.cells)) (kept_rows grid input named keeps)
  kept_rows grid (node.Align info by input) named keeps =
      ap (aligned_rows by grid) (kept_points input named.0 keeps.0)
  kept_rows grid (node.GroupBy info by with input) named keeps = ap (group_rows by with)
      (kept_rows grid input named keeps)
  kept_rows grid (node.Value info items input) named keeps =
      ap (filter_map (value_row (columns_of input) items)) (kept_rows grid input named keeps)
  kept_rows grid (node.Top info most column input) named keeps = ap (top_rows most column)
      (kept_rows grid input named keeps)
  kept_rows grid (node.Join info left right) named keeps =
      let names = all-front (HasFetchColumns held) (fetches left) (fetches right) named in
      let kept = all-front (KeepsMet keep) (fetches left) (fetches right) keeps in
      λ i. flat_map (pairs_of (columns_of left) (columns_of right) (kept_rows grid right names.1 kept.1 i))
      (kept_rows grid left names.0 kept.0 i)
  kept_rows grid (node.Union info left right) named keeps =
      let names = all-front (HasFetchColumns held) (fetches left) (fetches right) named in
      let kept = all-front (KeepsMet keep) (fetches left) (fetches right) keeps in
      λ i. kept_rows grid left names.0 kept.0 i ++ kept_rows grid right names.1 kept.1 i

  kept_load : (grid : Grid) (tree : NodeTree) → AllByRecursion (HasFetchColumns held) (fetches tree)
      → AllByRecursion (KeepsMet keep) (fetches tree)
      → load_of grid tree (filter keep rows) ≡ load_of grid tree rows
  kept_load grid (node.Fetch info schema metric) named keeps = refl
  kept_load grid (node.Filter info by input) named keeps = kept_load grid input named keeps
  kept_load grid (node.Align info by input) named keeps =
      λ i. length (kept_reached grid by input keeps.0 i) + length (kept_rows grid (node.Align info by input) named
      keeps i)
  kept_load grid (node.GroupBy info by with input) named keeps = kept_load grid input named keeps
  kept_load grid (node.Value info items input) named keeps = kept_load grid input named keeps
  kept_load grid (node.Top info most column input) named keeps = kept_load grid input named keeps
  kept_load grid (node.Join info left right) named keeps =
      let names = all-front (HasFetchColumns held) (fetches left) (fetches right) named in
      let kept = all-front (KeepsMet keep) (fetches left) (fetches right) keeps in
      λ i. kept_load grid left names.0 kept.0 i + kept_load grid right names.1 kept.1 i
      + length (kept_rows grid (node.Join info left right) named keeps i)
  kept_load grid (node.Union info left right) named keeps =
      let names = all-front (HasFetchColumns held) (fetches left) (fetches right) named in
      let kept = all-front (KeepsMet keep) (fetches left) (fetches right) keeps in
      λ i. kept_load grid left names.0 kept.0 i + kept_load grid right names.1 kept.1 i

-- ---- typed queries

keeps_each : (parts : List NodeTree)
    → AllByRecursion (KeepsMet (λ row. list_any (λ fetch. meets fetch row.key) parts)) parts
keeps_each [] = tt
keeps_each (part ∷ parts) = (
  (λ row met. or_left (meets part row.key) (list_any (λ fetch. meets fetch row.key) parts) met),
  all-map (KeepsMet (λ row. list_any (λ fetch. meets fetch row.key) parts))
      (KeepsMet (λ row. list_any (λ fetch. meets fetch row.key) (part ∷ parts))) parts
      (λ fetch keeps row met. or_right (meets part row.key) (list_any (λ fetch. meets fetch row.key) parts)
      (keeps row met))
      (keeps_each parts),
)

-- the rows of a source that are wanted
abbrev pub wanted : TypedTree → List Row → List Row
wanted typed rows = filter (is_wanted typed) rows

module _ (typed : TypedTree) (rows : List Row) (moment : ℤ) (of : IsTyped typed rows) where
  pub meaning_of_wanted : meaning typed (wanted typed rows) moment ≡ meaning typed rows moment
  meaning_of_wanted =
      kept_rows of.held (is_wanted typed) rows of.fit (grid_of typed moment) typed.tree
      (fetches_have_columns of.held of.query typed of.is) (keeps_each (fetches typed.tree))

  pub load_of_wanted : load typed (wanted typed rows) moment ≡ load typed rows moment
  load_of_wanted =
      kept_load of.held (is_wanted typed) rows of.fit (grid_of typed moment) typed.tree
      (fetches_have_columns of.held of.query typed of.is) (keeps_each (fetches typed.tree))
