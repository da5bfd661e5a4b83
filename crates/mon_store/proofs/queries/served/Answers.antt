use Rattle.std.proofs.Common.{rules, arith}
use Rattle.mon_store.proofs.queries.served.Goals as goal

pub returns : goal.returns
returns c =
    let few = c.zones_are_few.ensures.few.ranges_few in
    record {
      served = record {
        limited = c.requires.limited;
        lawful = search rules;
        replicas = c.ranges_have_replicas.ensures.replicas;
        metrics = c.metrics_are_lawful.ensures.held;
        targets = c.targets_tell_locations.ensures.located;
        few = omega (arith, few);
      };
    }
