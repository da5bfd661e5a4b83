use Rattle.std.proofs.Common.{sym, subst}
use Rattle.raise_table.specs.Tables.{AreFew}
use Rattle.mon_store.proofs.PlaceLemmas.{few_counts}
use Rattle.mon_store.proofs.blanks.blanks.Goals as goal

pub new-requires-clause-few : goal.new-requires-clause-few
new-requires-clause-few c =
    subst AreFew (sym c.in_ok-counts.ensures.counts) (few_counts c.args.topology.now c.zones_are_few.ensures.few)
