-- The rows of one series of a source, and what of a query they are.
use Rattle.std.proofs.Common.{◌≡◌, ◌∙◌, ◌++◌, ◌+◌, ℕ, ℤ, Bool, true, false, not, cond, List, [], ◌∷◌, append-nil, append_assoc, map, refl, sym, ap, subst}
use Rattle.std.proofs.Common.{arith}
use Rattle.std.specs.Prelude.{IfOk, IfSome, IsPermutation, Option, Some, None, Result, Ok, Err}
use Rattle.std.specs.List.{AllByRecursion, filter}
use Rattle.std.proofs.lemmas.Bool.{false≢true}
use Rattle.std.proofs.lemmas.List.Elements.{filter-append}
use Rattle.std.proofs.lemmas.List.Sorted.{IsPermutation-append_left, IsPermutation-refl, IsPermutation-trans}
use Rattle.mon_value.specs.LeafHistories.{EndsBefore, IsSource, points_of, rows_of}
use Rattle.mon_value.specs.Same.{same_series}
use Rattle.mon_value.specs.declared.grids.Grid.{Grid}
use Rattle.mon_value.specs.declared.rows.Row.{Row}
use Rattle.mon_value.specs.declared.rows.SeriesKey.{SeriesKey}
use Rattle.mon_value.specs.declared.tables.TimedRow.{TimedRow}
use Rattle.mon_value.proofs.PlainLemmas.{all_front}
use Rattle.mon_value.proofs.SameLemmas.{same_series-Decides}
use Rattle.mon_schema.specs.Fits.{fits}
use Rattle.typed_trees.specs.Meaning.{grid_of, load, load_of, rows_meant}
use Rattle.typed_trees.specs.Nodes as node
use Rattle.typed_trees.specs.Nodes.{NodeTree, TypedTree}
use Rattle.typed_trees.specs.Soundness.{IsTyped}
use Rattle.mon_meaning.specs.Incremental.{is_one_path}
use Rattle.mon_meaning.proofs.FilterLemmas.{all-filter}
use Rattle.kept_exchanges.specs.Apart.{other_rows}
use Rattle.kept_exchanges.specs.Exchanges.{comes, gones}
use Rattle.kept_exchanges.proofs.ApartLemmas.{load_apart, rows_apart}
use Rattle.standing_incr.specs.KeptTables.{aligned_part}
use Rattle.standing_incr.specs.OwnRows.{row_at}
use Rattle.standing_incr.specs.Putting.{AreSidesOf, IsSideOf, LeadsBetween}
use Rattle.standing_incr.specs.declared.tables.Side.{Side}
use Rattle.standing_incr.specs.declared.tables.Sides.{Sides}
use Rattle.standing_incr.proofs.HeldLemmas.{typed_with}
use Rattle.standing_incr.proofs.ThroughLemmas.{aligned_load}

-- ---- the points of a series as its rows

again_if : (key : SeriesKey) (row : Row) (rows : List Row) (b : Bool) → same_series key row.key ≡ b
    → map (row_at key) (map (λ (r : Row). r.point) rows) ≡ rows
    → map (row_at key) (map (λ (r : Row). r.point) (cond b (row ∷ rows) rows)) ≡ cond b (row ∷ rows) rows
again_if key row rows true e rest =
    let alike : key ≡ row.key = (same_series-Decides key row.key).0 e in
    λ i. row_at (alike i) row.point ∷ rest i
again_if key row rows false e rest = rest

pub rows_again : (key : SeriesKey) (rows : List Row) → map (row_at key) (points_of key rows) ≡ rows_of key rows
rows_again key [] = refl
rows_again key (row ∷ rows) =
    again_if key row (rows_of key rows) (same_series key row.key) refl (rows_again key rows)

pub no_rows : (key : SeriesKey) (rows : List Row) → points_of key rows ≡ [] → [] ≡ rows_of key rows
no_rows key rows none = ap (map (row_at key)) (sym none) ∙ rows_again key rows

-- ---- a source

own_if : (b : Bool) (row : Row) (rows : List Row) → AllByRecursion (EndsBefore row) rows → IsSource rows
    → IsSource (cond b (row ∷ rows) rows)
own_if true row rows all rest = (all, rest)
own_if false row rows all rest = rest

pub source_own : (test : Row → Bool) (rows : List Row) → IsSource rows → IsSource (filter test rows)
source_own test [] source = tt
source_own test (row ∷ rows) source =
    own_if (test row) row (filter test rows) (all-filter (EndsBefore row) test rows source.0)
    (source_own test rows source.1)

-- ---- an alignment has the rows of a series and of the others

module _ (grid : Grid) (key : SeriesKey) (rows : List Row) where
  parted : (tree : NodeTree) → is_one_path tree ≡ true
      → IsPermutation (rows_meant grid (aligned_part tree) rows)
      (rows_meant grid (aligned_part tree) (rows_of key rows) ++ rows_meant grid (aligned_part tree) (other_rows key rows))
  parted (node.Fetch info schema metric) path = IsPermutation-refl []
  parted (node.Filter info by input) path = parted input path
  parted (node.Align info by input) path = rows_apart key grid by input rows
  parted (node.GroupBy info by with input) path = parted input path
  parted (node.Value info items input) path = parted input path
  parted (node.Top info most column input) path = parted input path
  parted (node.Join info left right) path = absurd (false≢true path)
  parted (node.Union info left right) path = absurd (false≢true path)

  loads_parted : (tree : NodeTree) → is_one_path tree ≡ true
      → load_of grid (aligned_part tree) rows
      ≡ load_of grid (aligned_part tree) (rows_of key rows) + load_of grid (aligned_part tree) (other_rows key rows)
  loads_parted (node.Fetch info schema metric) path = refl
  loads_parted (node.Filter info by input) path = loads_parted input path
  loads_parted (node.Align info by input) path = load_apart key grid by input rows info
  loads_parted (node.GroupBy info by with input) path = loads_parted input path
  loads_parted (node.Value info items input) path = loads_parted input path
  loads_parted (node.Top info most column input) path = loads_parted input path
  loads_parted (node.Join info left right) path = absurd (false≢true path)
  loads_parted (node.Union info left right) path = absurd (false≢true path)

-- ---- a row more

module _ (typed : TypedTree) (moment : ℤ) (held : List Row) (row : Row) where
  abbrev key : SeriesKey
  key = row.key

  abbrev own : List Row
  own = rows_of key held

  abbrev more : List Row
  more = held ++ row ∷ []

  itself : same_series key key ≡ true
  itself = (same_series-Decides key key).1 refl

  pub own_more : rows_of key more ≡ own ++ row ∷ []
  own_more =
      filter-append (λ (r : Row). same_series key r.key) held (row ∷ [])
      ∙ ap (λ b. own ++ cond b (row ∷ []) []) itself

  others_stay : other_rows key more ≡ other_rows key held
  others_stay =
      filter-append (λ (r : Row). not (same_series key r.key)) held (row ∷ [])
      ∙ ap (λ b. other_rows key held ++ cond (not b) (row ∷ []) []) itself
      ∙ append-nil (other_rows key held)

  module _ (of : IsTyped typed more) where
    abbrev fit : Row → Type 0
    fit r = fits of.held r ≡ true

    pub own_typed : IsTyped typed own
    own_typed =
        typed_with typed more own of
        (all-filter fit (λ (r : Row). same_series key r.key) held (all_front fit held (row ∷ []) of.fit))

    pub more_typed : IsTyped typed (own ++ row ∷ [])
    more_typed =
        subst (IsTyped typed) own_more
        (typed_with typed more (rows_of key more) of
        (all-filter fit (λ (r : Row). same_series key r.key) more of.fit))

    pub held_typed : IsTyped typed held
    held_typed = typed_with typed more held of (all_front fit held (row ∷ []) of.fit)

  pub more_source : IsSource more → IsSource (own ++ row ∷ [])
  more_source source = subst IsSource own_more (source_own (λ (r : Row). same_series key r.key) more source)

  abbrev part : NodeTree
  part = aligned_part typed.tree

  abbrev meant : List Row → List TimedRow
  meant rows = rows_meant (grid_of typed moment) part rows

  -- the rows of a side, in some order, with those that stay apart from the exchanged ones
  side_turned : (rows : List Row) (side : Side) (list stay others : List TimedRow) → IsSideOf typed moment rows side
      → IsPermutation side.rows (list ++ stay) → IsPermutation (meant rows ++ others) (list ++ (stay ++ others))
  side_turned rows side list stay others is turned =
      subst (IsPermutation (meant rows ++ others)) (append_assoc list stay others)
      (IsPermutation-append_left others _ _ (IsPermutation-trans _ _ _ is.rows turned))

  module _ (path : is_one_path typed.tree ≡ true) where
    whole_load : (rows : List Row)
        → load typed rows moment ≡ load typed (rows_of key rows) moment + load typed (other_rows key rows) moment
    whole_load rows =
        let grid = grid_of typed moment in
        let one = aligned_load grid rows typed.tree path in
        let two = aligned_load grid (rows_of key rows) typed.tree path in
        let three = aligned_load grid (other_rows key rows) typed.tree path in
        omega (arith, one, two, three, loads_parted grid key rows typed.tree path)

    -- what leads from one side of the row's series to the other leads from the rows without the row to those with it
    pub sides_told : (before after : Side) (so_far : ℕ) (sides : Sides) → IsSideOf typed moment own before
        → IsSideOf typed moment (own ++ row ∷ []) after → LeadsBetween before after so_far sides
        → so_far ≡ load typed held moment → AreSidesOf typed moment held row sides
    sides_told before after so_far sides is_before is_after leads counted =
        let grid = grid_of typed moment in
        let exchanges = sides.exchanges.items in
        let others = meant (other_rows key held) in
        let held_load = whole_load held in
        let more_load = whole_load more in
        let own_load = ap (λ (rows : List Row). load typed rows moment) own_more in
        let other_load = ap (λ (rows : List Row). load typed rows moment) others_stay in
        let first = is_before.load_is in
        let second = is_after.load_is in
        let both = leads.counted in
        let with_it : IsPermutation (meant more) (meant (own ++ row ∷ []) ++ others) =
        subst (λ (rows : List Row). IsPermutation (meant more) (meant rows ++ others)) own_more
        (subst (λ (rows : List Row). IsPermutation (meant more) (meant (rows_of key more) ++ meant rows)) others_stay
        (parted grid key more typed.tree path)) in
        record {
          lead = record {
            others = leads.lead.stay ++ others;
            before =
                IsPermutation-trans _ _ _ (parted grid key held typed.tree path)
                (side_turned own before (gones exchanges) leads.lead.stay others is_before leads.lead.gone);
            after =
                IsPermutation-trans _ _ _ with_it
                (side_turned (own ++ row ∷ []) after (comes exchanges) leads.lead.stay others is_after leads.lead.come);
          };
          load_is = omega (arith, held_load, more_load, own_load, other_load, first, second, both, counted);
          within = leads.within;
        }

pub told_on : {A E : Type 0} (r : Result (Option A) E) (P Q : A → Type 0) → ((x : A) → P x → Q x)
    → IfOk r (λ found. IfSome found P) → IfOk r (λ found. IfSome found Q)
told_on (Ok None) P Q so h = tt
told_on (Ok (Some x)) P Q so h = so x h
told_on (Err fault) P Q so h = tt
