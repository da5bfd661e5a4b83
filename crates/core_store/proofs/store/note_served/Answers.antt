use Rattle.std.proofs.Common.{rules}
use Rattle.core_store.proofs.store.note_served.Goals as goal

pub returns : goal.returns
returns c = record {
  served = record {
    limited = c.requires.limited;
    lawful = search rules;
    replicas = c.ranges_have_replicas.ensures.replicas;
    metrics = c.metrics_are_lawful.ensures.held;
    targets = c.targets_tell_locations.ensures.located;
  };
}
