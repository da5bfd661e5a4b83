-- What a caller is told of a leaf is what its reader found there.
use Rattle.std.proofs.Common.{◌≡◌, ◌∙◌, ◌+◌, ℕ, ℤ, List, sym, ap, subst, Some}
use Rattle.std.proofs.Common.{Ok, Err}
use Rattle.std.specs.Prelude.{Option, Result, IfOk}
use Rattle.know.specs.Knowledge.{Knowledge, stopped_count}
use Rattle.know.specs.declared.answers.Found.{Found}
use Rattle.know.specs.declared.answers.Found.TheVariants as found
use Rattle.leaf_cell.specs.PlanVisits.{FindsVisit, HasFoundSo, IsAnswerOf, IsToldOf, TellsVisit, sent_by}
use Rattle.leaf_cell.specs.Visits.{HasReadUp, HasVisited}
use Rattle.leaf_cell.specs.declared.plan_reader.VisitFault.{VisitFault}
use Rattle.leaf_cell.specs.declared.plan_reader.Visited.{Visited}
use Rattle.leaf_eval.specs.Visits.{IsVisit}
use Rattle.leaf_eval.specs.declared.visits.Visit.{Visit}
use Rattle.leaf_eval.specs.declared.visits.Visit.TheVariants as visit
use Rattle.mon_value.specs.declared.histories.Entry.{Entry}
use Rattle.mon_value.specs.declared.positions.Leaf.{Leaf}
use Rattle.mon_value.specs.declared.positions.RangeSlot.{RangeSlot}
use Rattle.mon_value.specs.declared.rows.SeriesKey.{SeriesKey}
use Rattle.typed_trees.specs.declared.plans.Plan.{Plan}
use Rattle.owners.specs.Calls.{HasFoundDown}

module _ (plan : Plan) (moment : ℤ) (limit : ℕ) (slots : List RangeSlot) (buckets_of : SeriesKey → List ℕ) (leaf : Leaf)
    (before after : Knowledge) where
  abbrev pub Tells : Option Visit → List Entry → ℕ → Type 0
  Tells kept history sent = TellsVisit plan moment limit slots buckets_of history kept sent

  abbrev pub Finds : Visit → Type 0
  Finds visit = HasFoundSo plan moment limit slots buckets_of leaf visit before after

  up_so : (kept : Option Visit) (result : Result Visited VisitFault) (read : HasReadUp leaf (Tells kept) before after)
      → (one : Visit) → kept ≡ Some one → IsVisit plan moment limit read.history buckets_of slots one
      → read.sent ≡ sent_by one → IsToldOf (Some one) result → FindsVisit result Finds
  up_so kept result read (visit.Down cut) e is sent told = absurd cc
  up_so kept result read (visit.Unread cut) e is sent told =
      subst (λ r. FindsVisit r Finds) (sym told) (record {
        history = read.history;
        is_so = is;
        called = read.called;
        rooms_are = read.rooms_are;
        handed = read.handed ∙ ap (λ n. stopped_count (before.handed + n)) sent;
      })
  up_so kept result read (visit.Read cut answer) e is sent told =
      subst (λ r. FindsVisit r Finds) (sym told) (record {
        history = read.history;
        is_so = is;
        called = read.called;
        rooms_are = read.rooms_are;
        handed = read.handed ∙ ap (λ n. stopped_count (before.handed + n)) sent;
      })
  up_so kept result read (visit.Over load cut) e is sent told =
      subst (λ r. FindsVisit r Finds) (sym told) (record {
        history = read.history;
        is_so = is;
        called = read.called;
        rooms_are = read.rooms_are;
        handed = read.handed ∙ ap (λ n. stopped_count (before.handed + n)) sent;
      })

  down_so : (cut : ℕ) → HasFoundDown leaf cut before.purse.rooms before after → Finds (visit.Down cut)
  down_so cut h = record {
    history = h.history;
    is_so = record { whole = sym h.counted; is = h.down };
    called = h.called;
    rooms_are = h.rooms_are;
    handed = h.handed;
  }

  pub finds : {F : Type 0} (called : Result Found F) (kept : Option Visit) (result : Result Visited VisitFault)
      → IfOk called (λ found. HasVisited leaf (Tells kept) found before after) → IsAnswerOf called kept result
      → FindsVisit result Finds
  finds (Ok found.Up) kept result h answer =
      up_so kept result h h.told.visit h.told.is_kept h.told.is_so h.told.sent_so
      (subst (λ k. IsToldOf k result) h.told.is_kept answer)
  finds (Ok (found.Down cut)) kept result h answer = subst (λ r. FindsVisit r Finds) (sym answer) (down_so cut h)
  finds (Err why) kept result h answer = subst (λ r. FindsVisit r Finds) (sym answer) tt
