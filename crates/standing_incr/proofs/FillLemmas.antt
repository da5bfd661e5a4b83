-- Tables that are made anew of held rows stand for them.
use Rattle.std.proofs.Common.{◌≡◌, ◌≤◌, ◌^◌, ◌≤ℤ◌, ℕ, ℤ, pos, true, List, map, Result, Ok, Err, IfOk, refl, sym, subst}
use Rattle.std.specs.List.{AllByRecursion}
use Rattle.mon_value.specs.LeafHistories.{points_by_series}
use Rattle.mon_value.specs.declared.aggregates.Aggregate.{Aggregate}
use Rattle.mon_value.specs.declared.columns.Column.{Column}
use Rattle.mon_value.specs.declared.limits.TheConstants.{ROW_BITS}
use Rattle.mon_value.specs.declared.refusals.Refusal.{Refusal}
use Rattle.mon_value.specs.declared.refusals.Refusal.TheVariants as refusal
use Rattle.mon_value.specs.declared.rows.Row.{Row}
use Rattle.mon_value.specs.declared.tables.Table.{Table}
use Rattle.mon_value.specs.declared.tables.TimedRow.{TimedRow}
use Rattle.mon_fold.specs.PartialGroups.{GroupsSoFar, group_columns, partial_groups, parts_of}
use Rattle.typed_trees.proofs.FetchColumnLemmas.{fetches_have_columns}
use Rattle.typed_trees.specs.Meaning.{grid_of, load}
use Rattle.typed_trees.specs.Nodes.{TypedTree}
use Rattle.typed_trees.specs.Plans.{HasFetchColumns}
use Rattle.typed_trees.specs.Soundness.{IsTyped}
use Rattle.typed_rows.proofs.QueryLaws.{typed_evaluable}
use Rattle.typed_rows.proofs.TypedGridLemmas.{typed_grid}
use Rattle.mon_meaning.specs.Central.{IsOver, IsPartAsked}
use Rattle.mon_meaning.specs.Counts.{TellsOver}
use Rattle.mon_meaning.specs.Incremental.{is_one_path}
use Rattle.mon_meaning.specs.declared.meter.OverLimit.{OverLimit}
use Rattle.standing_incr.specs.KeptTables.{AreTablesOf, CanGroupAt, IsAligned, IsWholeOf, StandsFor, aligned_part}
use Rattle.standing_incr.specs.KeptTables.{grouped_part}
use Rattle.standing_incr.specs.declared.tables.Standing.{Standing}
use Rattle.standing_incr.specs.declared.tables.Standing.TheVariants as standing
use Rattle.standing_incr.proofs.ThroughLemmas.{aligned_evaluable, aligned_fetches, groups_stand}

module _ (typed : TypedTree) (moment : ℤ) (held : List Row) (path : is_one_path typed.tree ≡ true)
    (of : IsTyped typed held) (from : pos 0 ≤ℤ moment) where
  pub asked_aligned : IsPartAsked (grid_of typed moment) (aligned_part typed.tree) (points_by_series held)
  asked_aligned = record {
    source = held;
    kept = refl;
    held = of.held;
    fit = of.fit;
    lawful = typed_grid of.held of.query typed moment of.durations of.is from;
    evaluable = aligned_evaluable (grid_of typed moment) held typed.tree path (typed_evaluable typed held moment of from);
    fetched = subst (AllByRecursion (HasFetchColumns of.held)) (sym (aligned_fetches typed.tree path))
        (fetches_have_columns of.held of.query typed of.is);
  }

  module _ (table : Table) (aligned : IsAligned typed moment held table) (few : load typed held moment ≤ 2 ^ ROW_BITS)
    where
      pub can_group : CanGroupAt (grouped_part typed.tree) table.rows
      can_group =
          (groups_stand (grid_of typed moment) held typed.tree path (typed_evaluable typed held moment of from) few
          table.rows aligned.rows_are).0

      module _ (counted : ℕ) (is : counted ≡ load typed held moment) where
        filled : (stands : Standing) → IsWholeOf typed.tree counted table stands → StandsFor typed moment held stands
        filled (standing.Whole tables) e =
            subst (AreTablesOf typed moment held) (sym e) (record {
              load = is;
              within = subst (λ (n : ℕ). n ≤ 2 ^ ROW_BITS) (sym is) few;
              table = aligned;
              parts =
                  (groups_stand (grid_of typed moment) held typed.tree path (typed_evaluable typed held moment of from)
                  few table.rows aligned.rows_are).1;
            })
        filled (standing.Above over) e = absurd e

        pub filled_told : {E : Type 0} (r : Result Standing E) → IfOk r (IsWholeOf typed.tree counted table)
            → IfOk r (StandsFor typed moment held)
        filled_told (Ok stands) e = filled stands e
        filled_told (Err fault) e = tt

  pub over_told : (limit counted : ℕ) (refused : Refusal OverLimit) (over : OverLimit)
      → refused ≡ refusal.Fault over → counted ≡ load typed held moment → TellsOver limit counted refused
      → IsOver typed held moment limit over
  over_told limit counted refused over same is tells =
      let fact = subst (TellsOver limit counted) same tells in
      record { above = fact.above; most = subst (λ (n : ℕ). over.load ≤ n) is fact.within }

-- groups of a table are told by their parts
pub parts_told : {E : Type 0} (columns : List Column) (by : List ℕ) (with : List Aggregate) (rows : List TimedRow)
    (r : Result GroupsSoFar E)
    → IfOk r (λ parts. parts.columns ≡ group_columns columns by with)
    → IfOk r (λ parts. parts.kinds ≡ map (λ aggregate. aggregate.what) with)
    → IfOk r (λ parts. parts.groups ≡ partial_groups by with rows)
    → IfOk r (λ parts. parts ≡ parts_of columns by with rows)
parts_told columns by with rows (Ok parts) one two three =
    λ i. record { columns = one i; kinds = two i; groups = three i }
parts_told columns by with rows (Err fault) one two three = tt
