-- What the rows so far bring was raised.
use Rattle.std.proofs.Common.{◌≡◌, ℕ, true, take}
use Rattle.know.specs.Sound.{known_bits}
use Rattle.leaf_cell.specs.Raising.{HasRaisedRow, rows_unraised}
use Rattle.mon_hints.specs.Covers.{IsRaised}
use Rattle.mon_topo.specs.Settings.{zone_of_leaf}
use Rattle.leaf_cell.proofs.desks.LeafDesk.raise_rows.Given as goal

abbrev pub invariant-loop-row : goal.invariant-loop-row
invariant-loop-row g l = record {
  raised : HasRaisedRow (rows_unraised l.fn.self.state.buckets l.fn.self.state.schemas l.fn.self.state.history
      (take l.row-index l.rows)) l.fn.self.owner.hints l.self.owner.hints;
  leads : (bucket : ℕ) → rows_unraised l.fn.self.state.buckets l.fn.self.state.schemas l.fn.self.state.history
      (take l.row-index l.rows) bucket ≡ true → IsRaised (known_bits g.N.Names.setting l.self.owner.hints.hints)
      (zone_of_leaf g.N.Names.setting l.fn.self.owner.leaf) l.fn.self.owner.leaf bucket;
  book : l.self.owner.book ≡ l.fn.self.owner.book;
  leaf : l.self.owner.leaf ≡ l.fn.self.owner.leaf;
  state : l.self.state ≡ l.fn.self.state;
}
