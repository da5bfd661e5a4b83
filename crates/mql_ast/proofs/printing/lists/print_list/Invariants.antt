-- What was written, in front of the items that are left.
use Rattle.std.proofs.Common.{◌≡◌, ◌++◌, string_bytes, map, drop}
use Rattle.mql_ast.specs.Printed.{each_behind, separated_texts, comma}
use Rattle.mql_ast.proofs.printing.lists.print_list.Given as goal

abbrev pub invariant-loop-item : goal.invariant-loop-item
invariant-loop-item g l =
    string_bytes l.out ++ each_behind comma (map g.T.Print.text (drop l.item-index l.rest)) ≡ string_bytes l.fn.out
    ++ separated_texts comma (map g.T.Print.text l.fn.items)
