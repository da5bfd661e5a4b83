use Rattle.std.proofs.Common.{◌∙◌}
use Rattle.std.specs.Prelude.{length}
use Rattle.mon_topo.specs.Zones.{ranges_in}
use Rattle.mon_store.proofs.CellLemmas.{cell_is, cell_there}
use Rattle.mon_store.proofs.stores.Store.range_cell.Goals as goal

pub bounds-as_slice-range : goal.bounds-as_slice-range
bounds-as_slice-range g c =
    cell_there c.as_slice.result.now (length (ranges_in g.N.Names.setting.zones)) c.args.range.0
    (c.as_slice.ensures.value ∙ c.self.invariant.2) c.requires.there

pub returns : goal.returns
returns g c = record {
  cell = c.index-as_slice-range.is
      ∙ cell_is c.as_slice.result.now (length (ranges_in g.N.Names.setting.zones)) c.args.range.0 _
      (c.as_slice.ensures.value ∙ c.self.invariant.2) c.requires.there;
}
