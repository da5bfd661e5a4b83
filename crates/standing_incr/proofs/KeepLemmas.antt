-- What stands for held rows gives what a query means over them.
use Rattle.std.proofs.Common.{◌≡◌, ◌∙◌, ◌≤◌, ◌^◌, ◌≤ℤ◌, ℕ, ℤ, pos, true, List, Result, Ok, Err, sym, ap, subst, arith}
use Rattle.std.specs.Prelude.{IsPermutation, IfErr, IfOk, OnOk}
use Rattle.std.proofs.lemmas.Int.{ints}
use Rattle.mon_value.specs.LeafHistories.{IsSource}
use Rattle.mon_value.specs.declared.limits.TheConstants.{ROW_BITS}
use Rattle.mon_value.specs.declared.refusals.Refusal.{Refusal}
use Rattle.mon_value.specs.declared.refusals.Refusal.TheVariants as refusal
use Rattle.mon_value.specs.declared.rows.Row.{Row}
use Rattle.mon_value.specs.declared.tables.Table.{Table}
use Rattle.typed_trees.specs.Meaning.{grid_of, load, meaning, rows_meant}
use Rattle.typed_trees.specs.Nodes.{TypedTree}
use Rattle.typed_trees.specs.Soundness.{IsTyped, IsWithinRows}
use Rattle.typed_rows.proofs.QueryLaws.{typed_evaluable}
use Rattle.mon_meaning.specs.Central.{IsAnswer, IsMeant, IsOver, IsRefusedBy}
use Rattle.mon_meaning.specs.Counts.{TellsOver}
use Rattle.mon_meaning.specs.Incremental.{is_one_path}
use Rattle.mon_meaning.specs.declared.meter.OverLimit.{OverLimit}
use Rattle.standing_incr.specs.HeldRows.{held_of}
use Rattle.standing_incr.specs.Keeping.{IsStanding}
use Rattle.standing_incr.specs.KeptTables.{StandsFor, grouped_part}
use Rattle.standing_incr.specs.Results.{CanFinish, IsFinished, rows_kept}
use Rattle.standing_incr.specs.Ways.{CanGoThrough, nodes_above, rows_through}
use Rattle.standing_incr.specs.declared.tables.Standing.{Standing}
use Rattle.standing_incr.specs.declared.tables.Standing.TheVariants as standing
use Rattle.standing_incr.specs.declared.tables.Tables.{Tables}
use Rattle.standing_incr.specs.declared.ways.Stop.TheVariants as stop
use Rattle.standing_incr.proofs.HeldLemmas.{held_again, source_held, typed_held}
use Rattle.standing_incr.proofs.ThroughLemmas.{go_through, rows_stand}

-- what is held of some rows stands
pub stand_by : (typed : TypedTree) (moment : ℤ) (rows held : List Row) (stands : Standing)
    → is_one_path typed.tree ≡ true → pos 0 ≤ℤ moment → IsTyped typed rows → IsSource rows
    → held ≡ held_of typed moment rows → StandsFor typed moment held stands → IsStanding typed moment held stands
stand_by typed moment rows held stands path from fits source is are = record {
  path = path;
  from = from;
  fits = subst (IsTyped typed) (sym is) (typed_held typed moment rows fits);
  source = subst IsSource (sym is) (source_held (grid_of typed moment) typed.tree rows source);
  needed =
      is ∙ sym (held_again typed moment moment (omega (arith, ints)) typed.tree rows)
      ∙ ap (held_of typed moment) (sym is);
  stands = are;
}

module _ (typed : TypedTree) (moment : ℤ) (held : List Row) (tables : Tables)
    (are : IsStanding typed moment held (standing.Whole tables)) where
  few : IsWithinRows (load typed held moment)
  few =
      let load_is = are.stands.load in
      let within = are.stands.within in
      subst IsWithinRows load_is within

  kept_rows : IsPermutation (rows_meant (grid_of typed moment) (grouped_part typed.tree) held) (rows_kept tables)
  kept_rows =
      rows_stand (grid_of typed moment) held typed.tree are.path tables.table.rows are.stands.table.rows_are tables.parts
      are.stands.parts

  through : CanGoThrough (nodes_above stop.Grouping typed.tree) (rows_kept tables)
      × IsPermutation (meaning typed held moment) (rows_through (nodes_above stop.Grouping typed.tree) (rows_kept tables))
  through =
      go_through (grid_of typed moment) held typed.tree stop.Grouping are.path
      (typed_evaluable typed held moment are.fits are.from) few (rows_kept tables) kept_rows

  pub can_finish : CanFinish typed.tree tables
  can_finish = through.0

  pub finished_meant : (limit : ℕ) (table : Table) → tables.load ≤ limit → IsFinished typed.tree tables table
      → IsMeant typed held moment limit table
  finished_meant limit table within is = record {
    columns = ap (λ (t : Table). t.columns) is;
    rows = subst (IsPermutation (meaning typed held moment)) (sym (ap (λ (t : Table). t.rows) is)) through.1;
    within = subst (λ (n : ℕ). n ≤ limit) are.stands.load within;
  }

  pub over_refused : (limit : ℕ) (refused : Refusal OverLimit) → TellsOver limit tables.load refused
      → IsRefusedBy typed held moment limit refused
  over_refused limit (refusal.Fault over) tells = record {
    above = tells.above;
    most = subst (λ (n : ℕ). over.load ≤ n) are.stands.load tells.within;
  }
  over_refused limit refusal.OutOfMemory tells = tt

  pub answered : (limit : ℕ) (r : Result Table (Refusal OverLimit)) → OnOk r (tables.load ≤ limit)
      → IfOk r (IsFinished typed.tree tables) → IfErr r (TellsOver limit tables.load)
      → IsAnswer typed held moment limit r
  answered limit (Ok table) within is tells = finished_meant limit table within is
  answered limit (Err refused) within is tells = over_refused limit refused tells

module _ (typed : TypedTree) (moment : ℤ) (held : List Row) (over : OverLimit)
    (are : IsStanding typed moment held (standing.Above over)) where
  pub above_refused : (limit : ℕ) → limit ≤ 2 ^ ROW_BITS → IsOver typed held moment limit over
  above_refused limit small =
      let above = are.stands.above in
      record { above = omega arith; most = are.stands.most }

  pub not_above : load typed held moment ≤ 2 ^ ROW_BITS → ⊥
  not_above within =
      let above = are.stands.above in
      let most = are.stands.most in
      absurd (omega arith)
