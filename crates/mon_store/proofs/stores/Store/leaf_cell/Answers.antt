use Rattle.std.proofs.Common.{◌∙◌}
use Rattle.std.specs.Prelude.{length}
use Rattle.mon_topo.specs.Zones.{leaves_in}
use Rattle.mon_store.proofs.CellLemmas.{cell_is, cell_there}
use Rattle.mon_store.proofs.stores.Store.leaf_cell.Goals as goal

pub bounds-as_slice-leaf : goal.bounds-as_slice-leaf
bounds-as_slice-leaf g c =
    cell_there c.as_slice.result.now (length (leaves_in g.N.Names.setting.zones)) c.args.leaf.0
    (c.as_slice.ensures.value ∙ c.self.invariant.1) c.requires.there

pub returns : goal.returns
returns g c = record {
  cell = c.index-as_slice-leaf.is
      ∙ cell_is c.as_slice.result.now (length (leaves_in g.N.Names.setting.zones)) c.args.leaf.0 _
      (c.as_slice.ensures.value ∙ c.self.invariant.1) c.requires.there;
}
