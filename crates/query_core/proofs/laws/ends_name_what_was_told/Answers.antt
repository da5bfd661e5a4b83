use Rattle.query_core.proofs.NamedDowns.{names_all}
use Rattle.query_core.proofs.NamedLeaves.{named_among}
use Rattle.query_core.proofs.laws.ends_name_what_was_told.Goals as goal

pub returns : goal.returns
returns c = record {
  named = named_among;
  all = names_all;
}
