-- What a leaf's cell tells is what the query is told.
use Rattle.std.proofs.Common.{◌≡◌, ℕ, ℤ, List, refl, Ok, Err, IfOk}
use Rattle.std.specs.Prelude.{Result}
use Rattle.know.specs.Knowledge.{Knowledge}
use Rattle.know.specs.Sound.{IsSound}
use Rattle.leaf_cell.specs.PlanVisits.{FindsVisit, HasFoundSo}
use Rattle.leaf_cell.specs.declared.plan_reader.VisitFault.{VisitFault}
use Rattle.leaf_cell.specs.declared.plan_reader.VisitFault.TheVariants as fault
use Rattle.leaf_cell.specs.declared.plan_reader.Visited.{Visited}
use Rattle.leaf_cell.specs.declared.plan_reader.Visited.TheVariants as visited
use Rattle.leaf_eval.specs.declared.visits.Visit.{Visit}
use Rattle.leaf_eval.specs.declared.visits.Visit.TheVariants as visit
use Rattle.mon_topo.specs.Settings.{Setting}
use Rattle.mon_value.specs.declared.positions.Leaf.{Leaf}
use Rattle.mon_value.specs.declared.positions.RangeSlot.{RangeSlot}
use Rattle.typed_trees.specs.declared.plans.Plan.{Plan}
use Rattle.owners.specs.Calls.{HasLooked}
use Rattle.query_traces.specs.declared.asks.Told.{Told}
use Rattle.running_query.proofs.GoingLemmas.{called_goes}
use Rattle.running_query.specs.Looks.{GoesOn}
use Rattle.running_query.specs.Telling.{LooksSo, told_is}

module _ (store : Setting) (plan : Plan) (moment : ℤ) (limit : ℕ) (slots : List RangeSlot) (leaf : Leaf)
    (before after : Knowledge) (sound : IsSound store after.hints after.seen) where
  abbrev Finds : Visit → Type 0
  Finds one = HasFoundSo plan moment limit slots store.buckets_of leaf one before after

  found_goes : (one : Visit) → Finds one → GoesOn store before after
  found_goes one is = called_goes store leaf is.history before after is.called is.rooms_are sound

  -- whatever came of it, the caller's knowledge went on
  pub goes_by : (found : Result Visited VisitFault) → FindsVisit found Finds
      → (found ≡ Err fault.OutOfMemory → HasLooked leaf before.purse.rooms before after) → GoesOn store before after
  goes_by (Ok (visited.Down cut)) is refused = found_goes (visit.Down cut) is
  goes_by (Ok (visited.Unread cut)) is refused = found_goes (visit.Unread cut) is
  goes_by (Ok (visited.Read cut answer)) is refused = found_goes (visit.Read cut answer) is
  goes_by (Err (fault.Over load cut)) is refused = found_goes (visit.Over load cut) is
  goes_by (Err fault.OutOfMemory) is refused =
      let looked = refused refl in
      called_goes store leaf looked.history before after looked.called looked.rooms_are sound

  told_so : (found : Result Visited VisitFault) → FindsVisit found Finds → (answer : Told) → told_is found answer
      → LooksSo store plan moment limit slots leaf before after answer
  told_so (Ok (visited.Down cut)) is answer told = record { found = visit.Down cut; is_so = is; told = told }
  told_so (Ok (visited.Unread cut)) is answer told = record { found = visit.Unread cut; is_so = is; told = told }
  told_so (Ok (visited.Read cut part)) is answer told = record { found = visit.Read cut part; is_so = is; told = told }
  told_so (Err (fault.Over load cut)) is answer told = record { found = visit.Over load cut; is_so = is; told = told }
  told_so (Err fault.OutOfMemory) is answer told = absurd told

  pub looks_so : {F : Type 0} (found : Result Visited VisitFault) → FindsVisit found Finds → (result : Result Told F)
      → IfOk result (told_is found) → IfOk result (LooksSo store plan moment limit slots leaf before after)
  looks_so found is (Ok answer) told = told_so found is answer told
  looks_so found is (Err why) told = tt
