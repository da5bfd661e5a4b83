use Rattle.std.proofs.Common.{◌++◌, string_bytes, sym, ap, ◌∙◌}
use Rattle.mql_ast.specs.PredicateParts.{part_text}
use Rattle.mql_ast.proofs.PredicatePartLemmas.{writes_on}
use Rattle.mql_ast.proofs.printing.predicates.print_predicate.Goals as goal

pub loop-part-preserved : goal.loop-part-preserved
loop-part-preserved c =
    writes_on (string_bytes c.loop-part.out) (string_bytes c.push_str.new.self) _ c.loop-part.parts.items
    c.pop.new.self.items c.in-Some.part c.in-Some.ensures.items
    (c.in_ok-push_str-in-Signs.ensures.bytes ∙ ap (λ p. string_bytes c.loop-part.out ++ part_text p)
    (sym c.in-Signs.is)) c.loop-part.invariant
