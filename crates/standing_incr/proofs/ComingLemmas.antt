-- What a row more comes to: it is held or not whatever others there are, unless it may stand before the reach.
use Rattle.std.proofs.Common.{◌≡◌, ◌∙◌, ℤ, Bool, true, false, ◌&&◌, ◌||◌, not, cond, Some, None}
use Rattle.std.proofs.Common.{List, [], ◌∷◌, ◌++◌, Result, Ok, Err, IfOk, append-nil, refl, sym, ap, arith}
use Rattle.std.specs.Prelude.{int_le, int_lt}
use Rattle.std.specs.List.{list_any}
use Rattle.std.proofs.lemmas.Int.{ints}
use Rattle.mon_value.specs.Same.{same_series}
use Rattle.mon_value.specs.declared.rows.Row.{Row}
use Rattle.mon_value.specs.declared.rows.SeriesKey.{SeriesKey}
use Rattle.mon_value.proofs.PlainLemmas.{all_front}
use Rattle.mon_schema.specs.Fits.{fits}
use Rattle.typed_trees.proofs.FetchColumnLemmas.{fetches_have_columns}
use Rattle.typed_trees.specs.Meaning.{grid_of}
use Rattle.typed_trees.specs.Nodes.{TypedTree}
use Rattle.typed_trees.specs.Soundness.{IsTyped}
use Rattle.mon_meaning.specs.Incremental.{is_one_path}
use Rattle.standing_incr.specs.Comings.{ComesBy, ComesTo, is_late}
use Rattle.standing_incr.specs.HeldRows.{held_of}
use Rattle.standing_incr.specs.NeededRows.{is_earlier, is_needed, needed_rows}
use Rattle.standing_incr.specs.Needs.{NeedsFound, is_before_by, is_met_by}
use Rattle.standing_incr.specs.declared.comings.Coming.{Coming}
use Rattle.standing_incr.specs.declared.comings.Coming.TheVariants as coming
use Rattle.standing_incr.specs.declared.needs.Needs.{Needs}
use Rattle.standing_incr.proofs.NeedLemmas.{held_by, none_held}

-- ---- a row that takes the place of no earlier one

module _ (met before : Row → Bool) (start : ℤ) (row : Row) (quiet : (before row && int_le row.point.end start) ≡ false)
  where
    and_false : (a b : Bool) → b ≡ false → (a && b) ≡ false
    and_false true b e = e
    and_false false b e = refl

    any_more : (key : SeriesKey) (rows : List Row) → list_any (is_earlier met before start key) (rows ++ row ∷ [])
        ≡ list_any (is_earlier met before start key) rows
    any_more key [] =
        ap (λ b. b || false)
        (and_false (same_series key row.key) (before row && int_le row.point.end start) quiet)
    any_more key (first ∷ rows) = ap (λ b. is_earlier met before start key first || b) (any_more key rows)

    alone_if : (m l b e : Bool) → (l ≡ false → e ≡ true) → (b && e) ≡ false → (m && (l || (b && true))) ≡ (m && l)
    alone_if false l b e so none = refl
    alone_if true true b e so none = refl
    alone_if true false false e so none = refl
    alone_if true false true e so none =
        let there : e ≡ true = so refl in
        absurd cc

    not_late : int_lt start row.point.end ≡ false → int_le row.point.end start ≡ true
    not_late e = grind (arith, ints)

    behind_if : (b : Bool) (first : Row) (rows more : List Row)
        → cond b (first ∷ rows ++ more) (rows ++ more) ≡ cond b (first ∷ rows) rows ++ more
    behind_if true first rows more = refl
    behind_if false first rows more = refl

    pub needed_one : (rows : List Row)
        → needed_rows met before start (rows ++ row ∷ [])
        ≡ needed_rows met before start rows ++ cond (met row && int_lt start row.point.end) (row ∷ []) []
    needed_one [] =
        ap (λ b. cond b (row ∷ []) [])
        (alone_if (met row) (int_lt start row.point.end) (before row) (int_le row.point.end start) not_late quiet)
    needed_one (first ∷ rows) =
        let some = any_more first.key rows in
        let rest = needed_one rows in
        (λ i. cond (met first && (int_lt start first.point.end || (before first && not (some i))))
        (first ∷ rest i) (rest i))
        ∙ behind_if (is_needed met before start first rows) first (needed_rows met before start rows)
        (cond (met row && int_lt start row.point.end) (row ∷ []) [])

-- ---- what is held of a query

module _ (typed : TypedTree) (moment : ℤ) (row : Row) (path : is_one_path typed.tree ≡ true) where
  module _ (needs : Needs) (found : NeedsFound typed moment (Some needs)) where
    held_one : (rows : List Row) → IsTyped typed (rows ++ row ∷ [])
        → (is_before_by needs row && int_le row.point.end needs.start) ≡ false
        → held_of typed moment (rows ++ row ∷ [])
        ≡ held_of typed moment rows ++ cond (is_late needs row) (row ∷ []) []
    held_one rows of quiet =
        let has = fetches_have_columns of.held of.query typed of.is in
        let grid = grid_of typed moment in
        sym (held_by of.held grid (rows ++ row ∷ []) of.fit typed.tree path has needs found)
        ∙ needed_one (is_met_by needs) (is_before_by needs) needs.start row quiet rows
        ∙ ap (λ (held : List Row). held ++ cond (is_late needs row) (row ∷ []) [])
        (held_by of.held grid rows (all_front (λ r. fits of.held r ≡ true) rows (row ∷ []) of.fit) typed.tree path has
        needs found)

    comes_so : (coming : Coming) → ComesBy needs moment row coming → ComesTo typed moment row coming
    comes_so coming.Unheld by = λ rows of.
        held_one rows of by.1
        ∙ ap (λ b. held_of typed moment rows ++ cond b (row ∷ []) []) by.0
        ∙ append-nil (held_of typed moment rows)
    comes_so coming.Ahead by = (
      by.2,
      λ rows of.
          held_one rows of by.1
          ∙ ap (λ b. held_of typed moment rows ++ cond b (row ∷ []) []) by.0,
    )
    comes_so coming.InReach by = λ rows of.
        held_one rows of by.1
        ∙ ap (λ b. held_of typed moment rows ++ cond b (row ∷ []) []) by.0
    comes_so coming.AtOnce by = tt

    pub comes_told : {E : Type 0} (r : Result Coming E) → IfOk r (ComesBy needs moment row)
        → IfOk r (ComesTo typed moment row)
    comes_told (Ok coming) by = comes_so coming by
    comes_told (Err fault) by = tt

  pub never_held : NeedsFound typed moment None → ComesTo typed moment row coming.Unheld
  never_held nothing rows of =
      sym (none_held (grid_of typed moment) (rows ++ row ∷ []) typed.tree path nothing)
      ∙ none_held (grid_of typed moment) rows typed.tree path nothing
