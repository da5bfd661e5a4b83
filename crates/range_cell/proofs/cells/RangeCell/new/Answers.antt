use Rattle.std.proofs.Common.{◌≡◌, sym, ap, subst}
use Rattle.mon_topo.specs.HeldHistories.{first_range_history}
use Rattle.mon_value.specs.declared.positions.Range.{Range}
use Rattle.range_cell.specs.NewRanges.{NewRangeView}
use Rattle.range_cell.specs.Rest.{HaveJust}
use Rattle.range_cell.proofs.cells.RangeCell.new.Goals as goal

pub open_first-requires-clause-opened : goal.open_first-requires-clause-opened
open_first-requires-clause-opened g c =
    let same : c.into_parts-desk.result.1.owner.range ≡ c.args.range.range =
    ap (λ (v : NewRangeView). v.range) c.into_parts-desk.ensures.same in
    subst (λ (r : Range). HaveJust c.args.know.now.seen r (first_range_history g.N.Names.setting.zones r.0)) (sym same)
    c.requires.opened
