use Rattle.std.proofs.Common.{string_bytes, codes, ap, ◌∙◌}
use Rattle.mql_ast.specs.declared.printing.predicates.PredicatePart.TheVariants as part
use Rattle.mql_ast.specs.Trees.{predicate_tree}
use Rattle.mql_ast.specs.Printed.{predicate_text}
use Rattle.mql_ast.specs.PredicateParts.{remaining_text}
use Rattle.mql_ast.proofs.Chains.{opens}
use Rattle.mql_ast.proofs.PredicatePartLemmas.{text_push}
use Rattle.mql_ast.proofs.printing.predicates.print_opposite.Goals as goal

pub returns-clause-text : goal.returns-clause-text
returns-clause-text c =
    opens (string_bytes c.args.out.now) (string_bytes c.push_str.new.self) (codes "!")
    (predicate_text 2 (predicate_tree c.args.inner.now)) (remaining_text c.args.parts.now.items)
    (remaining_text c.push.new.self.items) c.in_ok-push_str.ensures.bytes
    (ap remaining_text c.in_ok-push.ensures.items ∙ text_push c.args.parts.now.items (part.Predicate c.args.inner 2))
