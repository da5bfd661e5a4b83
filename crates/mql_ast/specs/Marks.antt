-- The signs that stand behind a backslash, by the way in which the printer names them.
use Rattle.std.specs.Prelude.{ℕ, Bool}
use Rattle.mql_ast.specs.declared.printing.escapes.Marks.{Marks}
use Rattle.mql_ast.specs.declared.printing.escapes.Marks.TheVariants as marks
use Rattle.mql_ast.specs.Printed.{is_text_mark, is_pattern_mark}

abbrev pub marks_of : Marks → ℕ → Bool
marks_of marks.Text = is_text_mark
marks_of marks.Pattern = is_pattern_mark
