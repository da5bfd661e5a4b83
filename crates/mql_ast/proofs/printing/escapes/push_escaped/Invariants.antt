-- What was written, in front of what is left.
use Rattle.std.proofs.Common.{◌≡◌, ◌++◌, string_bytes}
use Rattle.std.specs.Str.Iter.{chars_rest}
use Rattle.mql_ast.specs.Printed.{escaped_text}
use Rattle.mql_ast.specs.Marks.{marks_of}
use Rattle.mql_ast.proofs.printing.escapes.push_escaped.Given as goal

abbrev pub invariant-loop-sign : goal.invariant-loop-sign
invariant-loop-sign l =
    string_bytes l.out ++ escaped_text (marks_of l.marks) (chars_rest l.sign-iterator) ≡ string_bytes l.fn.out
    ++ escaped_text (marks_of l.marks) l.text
