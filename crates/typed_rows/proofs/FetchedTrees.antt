-- Parts that aren't aligned: which points reach them, and how many are in reach.
use Rattle.std.proofs.Common.{◌≡◌, ◌∙◌, ◌≤◌, Bool, true, false, ◌&&◌, cond, Some, List, [], ◌∷◌, length, subst, refl}
use Rattle.std.proofs.Common.{ap, sym, arith}
use Rattle.std.specs.List.{AllByRecursion, filter}
use Rattle.mon_value.specs.declared.aligners.Aligner.{Aligner}
use Rattle.mon_value.specs.declared.grids.Grid.{Grid}
use Rattle.mon_value.specs.declared.rows.Row.{Row}
use Rattle.mon_value.specs.declared.schemas.MetricSchema.{MetricSchema}
use Rattle.mon_value.specs.declared.schemas.TargetSchema.{TargetSchema}
use Rattle.mon_value.proofs.SameLemmas.{join}
use Rattle.mon_schema.specs.Fits.{fits}
use Rattle.mon_schema.specs.Names.{SchemaLists, metric_named, target_named}
use Rattle.typed_trees.specs.Fetches.{columns_fetched}
use Rattle.typed_trees.specs.Meaning.{is_reached, lets_in, meets, points_reached, is_fetched, is_point_kept}
use Rattle.typed_trees.specs.Meaning.{points_meant}
use Rattle.typed_trees.specs.Nodes as node
use Rattle.typed_trees.specs.Nodes.{NodeTree, columns_of}
use Rattle.typed_rows.proofs.FetchedPoints.{IsRowOf, fetched_row, kept_let_in}
use Rattle.typed_rows.proofs.JoinedRows.{all-map}
use Rattle.mon_value.proofs.PlainLemmas.{and_both}

-- a fetch with filters, of schemas that are held
abbrev pub ArePoints : SchemaLists → TargetSchema → MetricSchema → NodeTree → Type 0
ArePoints held target found (node.Fetch info schema metric) =
    (info.columns ≡ columns_fetched target found)
    × ((target_named schema held.targets ≡ Some target) × (metric_named metric held.metrics ≡ Some found))
ArePoints held target found (node.Filter info by input) =
    (info.columns ≡ columns_fetched target found) × ArePoints held target found input
ArePoints held target found (node.Align info by input) = ⊥
ArePoints held target found (node.GroupBy info by with input) = ⊥
ArePoints held target found (node.Value info items input) = ⊥
ArePoints held target found (node.Top info most column input) = ⊥
ArePoints held target found (node.Join info left right) = ⊥
ArePoints held target found (node.Union info left right) = ⊥

-- its columns are those of the fetch
pub columns_fetched_are : (held : SchemaLists) (target : TargetSchema) (found : MetricSchema) (tree : NodeTree)
    → ArePoints held target found tree
    → columns_of tree ≡ columns_fetched target found
columns_fetched_are held target found (node.Fetch info schema metric) own = own.0
columns_fetched_are held target found (node.Filter info by input) own = own.0
columns_fetched_are held target found (node.Align info by input) own = absurd own
columns_fetched_are held target found (node.GroupBy info by with input) own = absurd own
columns_fetched_are held target found (node.Value info items input) own = absurd own
columns_fetched_are held target found (node.Top info most column input) own = absurd own
columns_fetched_are held target found (node.Join info left right) own = absurd own
columns_fetched_are held target found (node.Union info left right) own = absurd own

-- whether a row reaches a part
abbrev is_kept : NodeTree → Row → Bool
is_kept (node.Fetch info schema metric) row = is_fetched schema metric row.key
is_kept (node.Filter info by input) row = is_kept input row && is_point_kept by info.columns row
is_kept (node.Align info by input) row = false
is_kept (node.GroupBy info by with input) row = false
is_kept (node.Value info items input) row = false
is_kept (node.Top info most column input) row = false
is_kept (node.Join info left right) row = false
is_kept (node.Union info left right) row = false

twice_by : {A : Type 0} (p : A → Bool) (b : Bool) (x : A) (xs : List A)
    → filter p (cond b (x ∷ xs) xs) ≡ cond (b && p x) (x ∷ filter p xs) (filter p xs)
twice_by p true x xs = refl
twice_by p false x xs = refl

filtered_twice : {A : Type 0} (p q : A → Bool) (xs : List A) → filter p (filter q xs) ≡ filter (λ x. q x && p x) xs
filtered_twice p q [] = refl
filtered_twice p q (x ∷ xs) =
    twice_by p (q x) x (filter q xs) ∙ ap (λ rest. cond (q x && p x) (x ∷ rest) rest) (filtered_twice p q xs)

points_are : (held : SchemaLists) (target : TargetSchema) (found : MetricSchema) (tree : NodeTree)
    → ArePoints held target found tree
    → (rows : List Row) → points_meant tree rows ≡ filter (is_kept tree) rows
points_are held target found (node.Fetch info schema metric) own rows = refl
points_are held target found (node.Filter info by input) own rows =
    ap (λ points. filter (is_point_kept by info.columns) points) (points_are held target found input own.1 rows)
    ∙ filtered_twice (is_point_kept by info.columns) (is_kept input) rows
points_are held target found (node.Align info by input) own rows = absurd own
points_are held target found (node.GroupBy info by with input) own rows = absurd own
points_are held target found (node.Value info items input) own rows = absurd own
points_are held target found (node.Top info most column input) own rows = absurd own
points_are held target found (node.Join info left right) own rows = absurd own
points_are held target found (node.Union info left right) own rows = absurd own

-- a row that reaches a part is of its schemas, and its series meets the part
record Reaches (target : TargetSchema) (found : MetricSchema) (tree : NodeTree) (row : Row) : Type 0 where
  own : IsRowOf target found row
  meets : meets tree row.key ≡ true

row_reaches : (held : SchemaLists) (target : TargetSchema) (found : MetricSchema) (tree : NodeTree)
    → ArePoints held target found tree
    → (row : Row) → fits held row ≡ true → is_kept tree row ≡ true → Reaches target found tree row
row_reaches held target found (node.Fetch info schema metric) own row fit kept =
    record { own = fetched_row held schema metric target found own.1.0 own.1.1 row fit kept; meets = kept }
row_reaches held target found (node.Filter info by input) own row fit kept =
    let parts = and_both (is_kept input row) (is_point_kept by info.columns row) kept in
    let below = row_reaches held target found input own.1 row fit parts.0 in
    record {
      own = below.own;
      meets = join (lets_in by info.columns row.key) (meets input row.key)
          (kept_let_in target found row below.own by info.columns own.0 parts.1) below.meets;
    }
row_reaches held target found (node.Align info by input) own row fit kept = absurd own
row_reaches held target found (node.GroupBy info by with input) own row fit kept = absurd own
row_reaches held target found (node.Value info items input) own row fit kept = absurd own
row_reaches held target found (node.Top info most column input) own row fit kept = absurd own
row_reaches held target found (node.Join info left right) own row fit kept = absurd own
row_reaches held target found (node.Union info left right) own row fit kept = absurd own

all_by : (Q : Row → Type 0) (b : Bool) (row : Row) (rows : List Row) → (b ≡ true → Q row) → AllByRecursion Q rows
    → AllByRecursion Q (cond b (row ∷ rows) rows)
all_by Q true row rows own all = (own refl, all)
all_by Q false row rows own all = all

all_of_kept : (P Q : Row → Type 0) (p : Row → Bool) (rows : List Row) → ((row : Row) → P row → p row ≡ true → Q row)
    → AllByRecursion P rows
    → AllByRecursion Q (filter p rows)
all_of_kept P Q p [] step all = tt
all_of_kept P Q p (row ∷ rows) step all =
    all_by Q (p row) row (filter p rows) (step row all.0) (all_of_kept P Q p rows step all.1)

abbrev pub AllFit : SchemaLists → List Row → Type 0
AllFit held rows = AllByRecursion (λ row. fits held row ≡ true) rows

-- the points that reach a part are of its schemas
pub points_of_schemas : (held : SchemaLists) (target : TargetSchema) (found : MetricSchema) (tree : NodeTree)
    → ArePoints held target found tree
    → (rows : List Row) → AllFit held rows → AllByRecursion (IsRowOf target found) (points_meant tree rows)
points_of_schemas held target found tree own rows fit =
    let P : List Row → Type 0 = λ points. AllByRecursion (IsRowOf target found) points in
    subst P (sym (points_are held target found tree own rows))
    (all_of_kept (λ row. fits held row ≡ true) (IsRowOf target found) (is_kept tree) rows
    (λ row f kept. (row_reaches held target found tree own row f kept).own) fit)

few_by : (k r m : Bool) (row : Row) (some more : List Row) (p : Row → Bool) → r ≡ p row → (k ≡ true → m ≡ true)
    → length (filter p some) ≤ length more
    → length (filter p (cond k (row ∷ some) some)) ≤ length (cond (r && m) (row ∷ more) more)
few_by true true true row some more p is h less =
    let P : Bool → Type 0 = λ b. length (cond b (row ∷ filter p some) (filter p some)) ≤ length (row ∷ more) in
    subst P is (omega (arith, less))
few_by true true false row some more p is h less = let no : false ≡ true = h refl in absurd cc
few_by true false m row some more p is h less =
    let P : Bool → Type 0 = λ b. length (cond b (row ∷ filter p some) (filter p some)) ≤ length more in
    subst P is less
few_by false true true row some more p is h less = omega (arith, less)
few_by false true false row some more p is h less = less
few_by false false m row some more p is h less = less

few_kept : (r k m : Row → Bool) (rows : List Row) → AllByRecursion (λ row. k row ≡ true → m row ≡ true) rows
    → length (filter r (filter k rows)) ≤ length (filter (λ row. r row && m row) rows)
few_kept r k m [] all = omega arith
few_kept r k m (row ∷ rows) all =
    few_by (k row) (r row) (m row) row (filter k rows) (filter (λ other. r other && m other) rows) r refl all.0
    (few_kept r k m rows all.1)

-- no more of them are in reach than the load counts
pub points_few : (held : SchemaLists) (target : TargetSchema) (found : MetricSchema) (tree : NodeTree)
    → ArePoints held target found tree
    → (rows : List Row) → AllFit held rows → (grid : Grid) (by : Aligner)
    → length (filter (is_reached grid by) (points_meant tree rows)) ≤ length (points_reached grid by tree rows)
points_few held target found tree own rows fit grid by =
    let P : List Row → Type 0 = λ points. length (filter (is_reached grid by) points) ≤ length
    (points_reached grid by tree rows) in
    subst P (sym (points_are held target found tree own rows))
    (few_kept (is_reached grid by) (is_kept tree) (λ row. meets tree row.key) rows
    (all-map (λ row. fits held row ≡ true) (λ row. is_kept tree row ≡ true → meets tree row.key ≡ true) rows
    (λ row f kept. (row_reaches held target found tree own row f kept).meets) fit))
