-- the lines are that of the columns, and then those of the rows so far
use Rattle.std.proofs.Common.{◌≡◌, ◌++◌, IsUtf8, map, take}
use Rattle.mon_table.specs.CsvLines.{IsBetweenLines, lines_in}
use Rattle.mon_table.specs.Tables.{row_lines}
use Rattle.mon_table.proofs.printing.write_lines_by.Given as goal

abbrev pub invariant-loop-row : goal.invariant-loop-row
invariant-loop-row l = record {
  lines : lines_in l.writer ≡ lines_in l.initial.writer ++ row_lines (map (λ row. row.now) (take l.row-index l.rows));
  between : IsBetweenLines l.writer;
  written : IsUtf8 (lines_in l.writer);
}
