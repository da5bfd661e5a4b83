-- What was written, in front of the pieces that are left.
use Rattle.std.proofs.Common.{◌≡◌, ◌++◌, string_bytes, map, drop, codes}
use Rattle.mql_ast.specs.Printed.{escaped_text, is_pattern_mark, each_behind, pattern_signs}
use Rattle.mql_ast.proofs.printing.escapes.push_signs.Given as goal

abbrev pub invariant-loop-piece : goal.invariant-loop-piece
invariant-loop-piece l =
    string_bytes l.signs ++ each_behind (codes ".*") (map (escaped_text is_pattern_mark) (drop l.piece-index l.rest))
    ≡ string_bytes l.fn.signs ++ pattern_signs l.fn.pieces
