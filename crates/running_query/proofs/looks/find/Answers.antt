use Rattle.running_query.proofs.GoingLemmas.{met_goes}
use Rattle.mon_topo.specs.Zones.{leaves_in}
use Rattle.std.proofs.Common.{length}
use Rattle.running_query.proofs.looks.find.Goals as goal

pub returns-clause-goes : goal.returns-clause-goes
returns-clause-goes g c =
    met_goes g.N.Names.setting (length (leaves_in g.N.Names.setting.zones)) c.args.range c.args.know.now
    c.resolve-found.new.know c.resolve-found.ensures.resolved.met c.sight-sight.ensures.sound

pub returns-clause-finds : goal.returns-clause-finds
returns-clause-finds g c = record {
  found = c.resolve-found.result;
  resolved = c.resolve-found.ensures.resolved;
  told = c.slot_told.ensures.told;
}
