use Rattle.std.proofs.Common.{rules, ◌∙◌}
use Rattle.mon_expr.proofs.GreedyLemmas.{ends_tell, nothing_matches}
use Rattle.mon_expr.proofs.patterns.ends_in.Goals as goal

pub returns-in_default : goal.returns-in_default
returns-in_default c = record { truth = nothing_matches c.args.pieces.now c.args.text.now (c.in_default.ensures).cases }

pub returns-in-Some-rest_behind_all : goal.returns-in-Some-rest_behind_all
returns-in-Some-rest_behind_all c = record {
  truth = search rules ∙ ends_tell c.args.pieces.now c.in-Some.between.now c.in-Some.last.now c.args.text.now _
      (c.in-Some.ensures).cases.0 (c.in-Some-rest_behind_all.ensures).rest;
}

pub returns-in-None : goal.returns-in-None
returns-in-None c = record {
  truth = ends_tell c.args.pieces.now c.in-Some.between.now c.in-Some.last.now c.args.text.now _
      (c.in-Some.ensures).cases.0 (c.in-None.ensures).rest;
}
