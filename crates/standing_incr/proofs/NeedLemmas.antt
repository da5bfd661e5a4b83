-- Rows that matter, as a fetch tells it, are those that matter by the tree; and which of them are found from the last on.
use Rattle.std.proofs.Common.{◌≡◌, ◌∙◌, ℕ, zero, suc, ℤ, Bool, true, false, not, ◌&&◌, ◌||◌, cond, Option, Some, None}
use Rattle.std.proofs.Common.{List, [], ◌∷◌, ◌++◌, append-nil, drop, reverse, is_some, refl, sym, ap}
use Rattle.std.specs.Prelude.{int_le, int_lt, slice_get}
use Rattle.std.specs.List.{AllByRecursion, list_any}
use Rattle.std.specs.Map.{lookup}
use Rattle.std.proofs.lemmas.Bool.{false≢true}
use Rattle.std.proofs.lemmas.List.{reverse-append}
use Rattle.indexmap.specs.IndexMap.{insert_entry}
use Rattle.mon_value.specs.Same.{same_series}
use Rattle.mon_value.specs.declared.aligners.Aligner.{Aligner}
use Rattle.mon_value.specs.declared.grids.Grid.{Grid}
use Rattle.mon_value.specs.declared.rows.Row.{Row}
use Rattle.mon_value.specs.declared.rows.SeriesKey.{SeriesKey}
use Rattle.mon_value.specs.declared.values.Value.{Value}
use Rattle.mon_value.specs.Order.{cells_of}
use Rattle.mon_value.proofs.PlainLemmas.{same_item}
use Rattle.mon_value.proofs.SameLemmas.{same_series-Decides}
use Rattle.mon_schema.specs.Fits.{fits}
use Rattle.mon_schema.specs.Names.{SchemaLists}
use Rattle.typed_trees.specs.Meaning.{is_fetched, lets_in, meets, series_cells}
use Rattle.typed_trees.specs.Nodes as node
use Rattle.typed_trees.specs.Nodes.{NodeTree}
use Rattle.typed_trees.specs.Plans.{HasFetchColumns, fetches}
use Rattle.typed_trees.specs.Soundness.{IsEvaluable}
use Rattle.mon_meaning.specs.Incremental.{is_one_path}
use Rattle.mon_meaning.specs.within.FetchViews.{FetchView, IsFetchOf, all_filters_hold, is_fetch_met, keeps}
use Rattle.mon_meaning.specs.within.KeyFilters.{KeysDecide, fetches_series}
use Rattle.mon_meaning.specs.within.Reach.{reach_start}
use Rattle.mon_meaning.specs.within.SeriesMeaning.{flows}
use Rattle.mon_meaning.proofs.KeyCells.{key_fits, keys_decide}
use Rattle.standing_incr.specs.HeldRows.{held_rows, is_before, is_met, looks_before}
use Rattle.standing_incr.specs.KeptTables.{aligned_part}
use Rattle.standing_incr.specs.NeededRows.{is_earlier, needed_rows}
use Rattle.standing_incr.specs.Needs.{AreNeedsOf, LooksBack, NeedsOfPart, is_before_by, is_met_by}
use Rattle.standing_incr.specs.declared.needs.Needs.{Needs}

-- ---- tests that agree

module _ (met other : Row → Bool) (before prior : Row → Bool) (start : ℤ) where
  abbrev Agree : Row → Type 0
  Agree row = (met row ≡ other row) × (before row ≡ prior row)

  any_alike : (key : SeriesKey) (rows : List Row) → AllByRecursion Agree rows
      → list_any (is_earlier met before start key) rows ≡ list_any (is_earlier other prior start key) rows
  any_alike key [] all = refl
  any_alike key (row ∷ rows) all =
      let rest = any_alike key rows all.1 in
      λ i. (same_series key row.key && (all.0.1 i && int_le row.point.end start)) || rest i

  pub needed_alike : (rows : List Row) → AllByRecursion Agree rows
      → needed_rows met before start rows ≡ needed_rows other prior start rows
  needed_alike [] all = refl
  needed_alike (row ∷ rows) all =
      let rest = needed_alike rows all.1 in
      let any = any_alike row.key rows all.1 in
      λ i. cond (all.0.0 i && (int_lt start row.point.end || (all.0.1 i && not (any i)))) (row ∷ rest i) (rest i)

pub none_needed : (met before : Row → Bool) (start : ℤ) → ((row : Row) → met row ≡ false) → (rows : List Row)
    → needed_rows met before start rows ≡ []
none_needed met before start none [] = refl
none_needed met before start none (row ∷ rows) =
    ap (λ m. cond (m && (int_lt start row.point.end || (before row && not (list_any (is_earlier met before start row.key)
    rows)))) (row ∷ needed_rows met before start rows) (needed_rows met before start rows)) (none row)
    ∙ none_needed met before start none rows

-- ---- a fetch and its tree

unmet_if : (l m : Bool) → m ≡ false → (l && m) ≡ false
unmet_if true m e = e
unmet_if false m e = refl

unfetched_met : (input : NodeTree) (key : SeriesKey) → fetches_series input key ≡ false → meets input key ≡ false
unfetched_met (node.Fetch info schema metric) key e = e
unfetched_met (node.Filter info by input) key e =
    unmet_if (lets_in by info.columns key) (meets input key) (unfetched_met input key e)
unfetched_met (node.Align info by input) key e = refl
unfetched_met (node.GroupBy info by with input) key e = refl
unfetched_met (node.Value info items input) key e = refl
unfetched_met (node.Top info most column input) key e = refl
unfetched_met (node.Join info left right) key e = refl
unfetched_met (node.Union info left right) key e = refl

both_alike : (f s k : Bool) → ((f && s) && k) ≡ ((f && s) && (f && (s && k)))
both_alike true true k = refl
both_alike true false k = refl
both_alike false s k = refl

module _ (input : NodeTree) (fetch : FetchView) (of : IsFetchOf input fetch) (key : SeriesKey) (value : Value) where
  abbrev fetched : Bool
  fetched = is_fetched fetch.schema fetch.metric key

  flow_by : (b : Bool) → fetches_series input key ≡ b → (b ≡ true → KeysDecide input key)
      → (is_fetch_met fetch key && keeps fetch key value) ≡ (meets input key && flows input key value)
  flow_by true e decide =
      let same : all_filters_hold fetch.of_series (cells_of key value)
      ≡ all_filters_hold fetch.of_series (series_cells key) = of.decided key value (decide refl) in
      let flowing : (fetched && (all_filters_hold fetch.of_series (series_cells key) && keeps fetch key value))
      ≡ flows input key value =
      ap (λ s. fetched && (s && keeps fetch key value)) (sym same) ∙ of.flowing key value in
      both_alike fetched (all_filters_hold fetch.of_series (series_cells key)) (keeps fetch key value)
      ∙ (λ i. of.met key i && flowing i)
  flow_by false e decide =
      let none = unfetched_met input key e in
      ap (λ m. m && keeps fetch key value) (of.met key ∙ none) ∙ sym (ap (λ m. m && flows input key value) none)

module _ (held : SchemaLists) (grid : Grid) (by : Aligner) (input : NodeTree) (needs : Needs)
    (are : AreNeedsOf grid by input needs) (has : HasFetchColumns held input) where
  agree : (rows : List Row) → AllByRecursion (λ row. fits held row ≡ true) rows
      → AllByRecursion (λ row. (is_met input row ≡ is_met_by needs row) × (is_before by input row ≡ is_before_by needs
      row)) rows
  agree [] all = tt
  agree (row ∷ rows) all =
      let flow = flow_by input needs.fetch are.fetch row.key row.point.value (fetches_series input row.key) refl
      (λ there. keys_decide held row.key (key_fits held row all.0) input has there) in (
        (
          sym (are.fetch.met row.key),
          ap (λ b. looks_before by && b) (sym flow)
              ∙ ap (λ a. looks_before a && (is_fetch_met needs.fetch row.key
              && keeps needs.fetch row.key row.point.value)) (sym are.by_is),
        ),
        agree rows all.1,
      )

  pub needed_by : (rows : List Row) → AllByRecursion (λ row. fits held row ≡ true) rows
      → needed_rows (is_met_by needs) (is_before_by needs) needs.start rows
      ≡ needed_rows (is_met input) (is_before by input) (reach_start grid by) rows
  needed_by rows fit =
      ap (λ start. needed_rows (is_met_by needs) (is_before_by needs) start rows) are.start
      ∙ sym (needed_alike (is_met input) (is_met_by needs) (is_before by input) (is_before_by needs)
      (reach_start grid by) rows (agree rows fit))

-- ---- trees

-- what is held is what a tree's fetch tells
pub held_by : (held : SchemaLists) (grid : Grid) (rows : List Row) → AllByRecursion (λ row. fits held row ≡ true) rows
    → (tree : NodeTree) → is_one_path tree ≡ true → AllByRecursion (HasFetchColumns held) (fetches tree)
    → (needs : Needs) → NeedsOfPart grid (aligned_part tree) (Some needs)
    → needed_rows (is_met_by needs) (is_before_by needs) needs.start rows ≡ held_rows grid tree rows
held_by held grid rows fit (node.Fetch info schema metric) path has needs are = absurd are
held_by held grid rows fit (node.Filter info by input) path has needs are =
    held_by held grid rows fit input path has needs are
held_by held grid rows fit (node.Align info by input) path has needs are =
    needed_by held grid by input needs are has.0 rows fit
held_by held grid rows fit (node.GroupBy info by with input) path has needs are =
    held_by held grid rows fit input path has needs are
held_by held grid rows fit (node.Value info items input) path has needs are =
    held_by held grid rows fit input path has needs are
held_by held grid rows fit (node.Top info most column input) path has needs are =
    held_by held grid rows fit input path has needs are
held_by held grid rows fit (node.Join info left right) path has needs are = absurd (false≢true path)
held_by held grid rows fit (node.Union info left right) path has needs are = absurd (false≢true path)

pub none_held : (grid : Grid) (rows : List Row) (tree : NodeTree) → is_one_path tree ≡ true
    → NeedsOfPart grid (aligned_part tree) None → [] ≡ held_rows grid tree rows
none_held grid rows (node.Fetch info schema metric) path nothing = refl
none_held grid rows (node.Filter info by input) path nothing = none_held grid rows input path nothing
none_held grid rows (node.Align info by input) path nothing =
    sym (none_needed (is_met input) (is_before by input) (reach_start grid by) (λ row. nothing.unmet row.key) rows)
none_held grid rows (node.GroupBy info by with input) path nothing = none_held grid rows input path nothing
none_held grid rows (node.Value info items input) path nothing = none_held grid rows input path nothing
none_held grid rows (node.Top info most column input) path nothing = none_held grid rows input path nothing
none_held grid rows (node.Join info left right) path nothing = absurd (false≢true path)
none_held grid rows (node.Union info left right) path nothing = absurd (false≢true path)

pub looks_back : (grid : Grid) (rows : List Row) (tree : NodeTree) → is_one_path tree ≡ true
    → IsEvaluable grid tree rows → LooksBack tree
looks_back grid rows (node.Fetch info schema metric) path can = tt
looks_back grid rows (node.Filter info by input) path can = looks_back grid rows input path can
looks_back grid rows (node.Align info by input) path can = can.0
looks_back grid rows (node.GroupBy info by with input) path can = looks_back grid rows input path can.1
looks_back grid rows (node.Value info items input) path can = looks_back grid rows input path can.1.1
looks_back grid rows (node.Top info most column input) path can = looks_back grid rows input path can
looks_back grid rows (node.Join info left right) path can = absurd (false≢true path)
looks_back grid rows (node.Union info left right) path can = absurd (false≢true path)

-- ---- from the last row on

module _ {V : Type 0} (key : SeriesKey) (value : V) (other : SeriesKey) where
  abbrev there : List (SeriesKey × V) → Bool
  there entries = is_some (lookup (same_series other) entries)

  own_if : (b c : Bool) (v : V) (rest : Option V) → c ≡ b
      → is_some (cond b (Some value) rest) ≡ (c || is_some (cond b (Some v) rest))
  own_if true true v rest e = refl
  own_if false false v rest e = refl
  own_if true false v rest e = absurd cc
  own_if false true v rest e = absurd cc

  past_if : (b c : Bool) (v : V) (after before : Option V) → is_some after ≡ (c || is_some before)
      → is_some (cond b (Some v) after) ≡ (c || is_some (cond b (Some v) before))
  past_if true true v after before e = refl
  past_if true false v after before e = refl
  past_if false c v after before e = e

  -- a series more among series
  put_at : (entry : SeriesKey × V) (entries : List (SeriesKey × V)) (b : Bool) → same_series key entry.0 ≡ b
      → there (insert_entry same_series entries key value) ≡ (same_series other key || there entries)
      → there (cond b ((entry.0, value) ∷ entries) (entry ∷ insert_entry same_series entries key value))
      ≡ (same_series other key || there (entry ∷ entries))
  put_at entry entries true e rest =
      let alike : key ≡ entry.0 = (same_series-Decides key entry.0).0 e in
      own_if (same_series other entry.0) (same_series other key) entry.1 (lookup (same_series other) entries)
      (ap (same_series other) alike)
  put_at entry entries false e rest =
      past_if (same_series other entry.0) (same_series other key) entry.1
      (lookup (same_series other) (insert_entry same_series entries key value)) (lookup (same_series other) entries) rest

  pub put_series : (entries : List (SeriesKey × V))
      → there (insert_entry same_series entries key value) ≡ (same_series other key || there entries)
  put_series [] = alone (same_series other key)
    where
      alone : (b : Bool) → is_some (cond b (Some value) None) ≡ (b || false)
      alone true = refl
      alone false = refl
  put_series (entry ∷ entries) = put_at entry entries (same_series key entry.0) refl (put_series entries)

-- the rows from a place on
pub drop_at : {A : Type 0} (xs : List A) (place : ℕ) (x : A) → slice_get xs place ≡ Some x
    → drop place xs ≡ x ∷ drop (suc place) xs
drop_at [] place x e = absurd (none_there place e)
  where
    none_there : (n : ℕ) → slice_get [] n ≡ Some x → ⊥
    none_there n f = absurd cc
drop_at (y ∷ xs) zero x e = ap (λ z. z ∷ xs) (same_item y x e)
drop_at (y ∷ xs) (suc place) x e = drop_at xs place x e

-- a series that is there already
pub there_already : {V : Type 0} (key other : SeriesKey) (entries : List (SeriesKey × V)) (b : Bool)
    → same_series other key ≡ b → is_some (lookup (same_series key) entries) ≡ true
    → is_some (lookup (same_series other) entries) ≡ (b || is_some (lookup (same_series other) entries))
there_already key other entries true e found =
    let alike : other ≡ key = (same_series-Decides other key).0 e in
    ap (λ k. is_some (lookup (same_series k) entries)) alike ∙ found
there_already key other entries false e found = refl

-- a row more in front of those that were looked at
module _ (met before : Row → Bool) (start : ℤ) (row : Row) (rows : List Row) where
  pub behind_more : (key : SeriesKey) (was now : Bool) → now ≡ (is_earlier met before start key row || was)
      → was ≡ list_any (is_earlier met before start key) rows
      → now ≡ list_any (is_earlier met before start key) (row ∷ rows)
  behind_more key was now e so = e ∙ ap (λ b. is_earlier met before start key row || b) so

  reversed_if : (b : Bool) (found : List Row) → reverse (found ++ cond b (row ∷ []) []) ≡ cond b (row ∷ reverse found)
      (reverse found)
  reversed_if true found = reverse-append found (row ∷ [])
  reversed_if false found = ap reverse (append-nil found)

  pub found_more : (found after : List Row) (was : Bool) → was ≡ list_any (is_earlier met before start row.key) rows
      → reverse found ≡ needed_rows met before start rows
      → after ≡ found ++ cond (met row && (int_lt start row.point.end || (before row && not was))) (row ∷ []) []
      → reverse after ≡ needed_rows met before start (row ∷ rows)
  found_more found after was so rest e =
      ap reverse e
      ∙ reversed_if (met row && (int_lt start row.point.end || (before row && not was))) found
      ∙ (λ i. cond (met row && (int_lt start row.point.end || (before row && not (so i)))) (row ∷ rest i) (rest i))
