use Rattle.std.proofs.lemmas.Result.{IfOk-weaker}
use Rattle.mql_ast.specs.Trees.{query_tree}
use Rattle.typed_trees.specs.Nodes.{typed_tree}
use Rattle.query_texts.proofs.PlanLemmas.{gives_read, has_type}
use Rattle.query_texts.proofs.planning.typed_text.Goals as goal

pub returns-in-Ok-clause-typed : goal.returns-in-Ok-clause-typed
returns-in-Ok-clause-typed c =
    gives_read typed_tree c.typed_query-typed.result c.args.schemas.now c.args.text.now (query_tree c.in-Ok.query)
    c.in-Ok.ensures.exact c.typed_query-typed.ensures.typed

pub returns-in-Ok-clause-query : goal.returns-in-Ok-clause-query
returns-in-Ok-clause-query c =
    IfOk-weaker c.typed_query-typed.result _ _ (λ typed is. has_type c.args.schemas.now (query_tree c.in-Ok.query)
    c.args.text.now (typed_tree typed) c.metrics_are_lawful.ensures.held c.targets_tell_locations.ensures.located
    c.in-Ok.ensures.spelled is) c.typed_query-typed.ensures.is
