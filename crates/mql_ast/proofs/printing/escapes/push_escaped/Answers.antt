use Rattle.std.proofs.Common.{string_bytes}
use Rattle.std.specs.Str.Iter.{chars_rest}
use Rattle.mql_ast.proofs.EscapeLemmas.{escapes_on}
use Rattle.mql_ast.proofs.printing.escapes.push_escaped.Goals as goal

pub loop-sign-preserved : goal.loop-sign-preserved
loop-sign-preserved c =
    escapes_on c.args.marks (string_bytes c.loop-sign.out) (string_bytes c.push_sign.new.out)
    (chars_rest c.loop-sign.sign-iterator) (chars_rest c.next.new.self) _ c.in-Some.sign c.in-Some.ensures.steps.0
    c.in_ok-push_sign.ensures c.loop-sign.invariant
