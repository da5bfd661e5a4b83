-- What a whole tree was evaluated to is the answer to the query.
use Rattle.std.proofs.Common.{◌≡◌, ◌≤◌, ◌≤ℤ◌, ℕ, ℤ, ◌+◌, pos, List, sym, ap, subst, arith}
use Rattle.std.specs.Prelude.{IsPermutation}
use Rattle.mon_value.specs.declared.refusals.Refusal.{Refusal}
use Rattle.mon_value.specs.declared.refusals.Refusal.TheVariants as refusal
use Rattle.mon_value.specs.declared.rows.Row.{Row}
use Rattle.mon_value.specs.declared.tables.Table.{Table}
use Rattle.mon_value.specs.declared.tables.TimedRow.{TimedRow}
use Rattle.typed_trees.proofs.FetchColumnLemmas.{fetches_have_columns}
use Rattle.typed_rows.proofs.QueryLaws.{typed_evaluable}
use Rattle.typed_rows.proofs.TypedGridLemmas.{typed_grid}
use Rattle.typed_trees.specs.Meaning.{load, grid_of, meaning}
use Rattle.typed_trees.specs.Nodes.{TypedTree, columns_of}
use Rattle.mon_meaning.specs.Central.{IsAsked, IsMeant, IsPartAsked, IsRefusedBy}
use Rattle.mon_meaning.specs.Counts.{TellsOver}
use Rattle.mon_meaning.specs.declared.meter.OverLimit.{OverLimit}
use Rattle.mon_meaning.specs.within.SeriesMeaning.{SeriesGroup}

-- a query that is asked is asked as a whole
pub asked_whole : (typed : TypedTree) (series : List SeriesGroup) (moment : ℤ) → IsAsked typed series → pos 0 ≤ℤ moment
    → IsPartAsked (grid_of typed moment) typed.tree series
asked_whole typed series moment asked from =
    let of = asked.fits in record {
      source = asked.source;
      kept = asked.kept;
      held = of.held;
      fit = of.fit;
      lawful = typed_grid of.held of.query typed moment of.durations of.is from;
      evaluable = typed_evaluable typed asked.source moment of from;
      fetched = fetches_have_columns of.held of.query typed of.is;
    }

module _ (typed : TypedTree) (source : List Row) (moment : ℤ) (limit : ℕ) where
  pub is_meant : (table : Table) (rows : List TimedRow) (counted most : ℕ) → table
      ≡ record { columns = columns_of typed.tree; rows = rows }
      → IsPermutation (meaning typed source moment) rows
      → counted ≡ 0 + load typed source moment → counted ≤ most → most ≡ limit
      → IsMeant typed source moment limit table
  is_meant table rows counted most is same load_is within limit_is = record {
    columns = ap (λ (t : Table). t.columns) is;
    rows = subst (λ (all : List TimedRow). IsPermutation (meaning typed source moment) all)
        (sym (ap (λ (t : Table). t.rows) is)) same;
    within = omega (arith, load_is, within, limit_is);
  }

  pub is_refused : (r : Refusal OverLimit) (most : ℕ) → most ≡ limit
      → TellsOver most (0 + load typed source moment) r → IsRefusedBy typed source moment limit r
  is_refused (refusal.Fault over) most same tells = record {
    above = omega (arith, tells.above, same);
    most = omega (arith, tells.within);
  }
  is_refused refusal.OutOfMemory most same tells = tt
