use Rattle.mql_parse.proofs.BranchViews.{branches_seen}
use Rattle.mql_parse.proofs.pipes.branches_at.Goals as goal

pub returns : goal.returns
returns c = branches_seen c.args.at c.args.pipes c.args.how c.args.how_at
