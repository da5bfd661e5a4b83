use Rattle.std.proofs.Common.{sym, subst}
use Rattle.csv.specs.Records.{AllText}
use Rattle.mon_table.proofs.printing.name_columns.Goals as goal

pub push_text-requires-clause-texts : goal.push_text-requires-clause-texts
unfolding AllText
push_text-requires-clause-texts c = subst AllText (sym c.clear.ensures.fields) tt
