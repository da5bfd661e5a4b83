use Rattle.std.proofs.Common.{◌≡◌, true, ap, ◌∙◌, rules}
use Rattle.mql_ast.specs.Tokens.{is_blank, head, skip}
use Rattle.mql_parse.specs.Outcomes.{rest_of}
use Rattle.mql_parse.proofs.RestLemmas.{skip_on}
use Rattle.mql_parse.proofs.cursor.Cursor.skip.Goals as goal

pub loop-from-preserved : goal.loop-from-preserved
loop-from-preserved c =
    let blank : is_blank (head (rest_of c.loop-from.from)) ≡ true = search rules in
    ap skip c.behind-from.ensures.rest ∙ skip_on (rest_of c.loop-from.from) blank ∙ c.loop-from.invariant
