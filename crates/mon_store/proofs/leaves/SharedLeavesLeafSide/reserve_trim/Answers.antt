use Rattle.std.proofs.Common.{◌≡◌, ℕ, true, sym, subst}
use Rattle.std.specs.Prelude.{IfOk, OnErr}
use Rattle.mon_value.specs.Histories.{leaf_history, leaf_numbered}
use Rattle.mon_value.specs.LeafHistories.{is_opened}
use Rattle.mon_store.proofs.leaves.SharedLeavesLeafSide.reserve_trim.Goals as goal
use Rattle.owners.specs.Calls.{HasLooked, HasReserved}

pub reserve_trim-requires : goal.reserve_trim-requires
reserve_trim-requires g c = record {
  opened = subst (λ (n : ℕ).
      is_opened c.args.range c.args.slot (leaf_history c.args.know.now.seen (leaf_numbered n)) ≡ true)
      (sym c.cell.ensures.cell) c.requires.seen.opened;
}

pub returns-clause-reserved : goal.returns-clause-reserved
returns-clause-reserved g c =
    subst (λ (n : ℕ). IfOk c.reserve_trim.result (λ found.
    HasReserved (leaf_numbered n) found c.args.know.now c.reserve_trim.new.know)) c.cell.ensures.cell
    c.reserve_trim.ensures.reserved

pub returns-clause-refused : goal.returns-clause-refused
returns-clause-refused g c =
    subst (λ (n : ℕ). OnErr c.reserve_trim.result
    (HasLooked (leaf_numbered n) c.args.know.now.purse.rooms c.args.know.now c.reserve_trim.new.know)) c.cell.ensures.cell
    c.reserve_trim.ensures.refused
