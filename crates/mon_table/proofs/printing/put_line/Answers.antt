use Rattle.std.proofs.Common.{IsUtf8, sym, subst}
use Rattle.std.proofs.lemmas.Result.{on_ok_weaker}
use Rattle.std.proofs.lemmas.Str.{IsUtf8-append}
use Rattle.mon_table.proofs.CsvLineLemmas.{line-text}
use Rattle.mon_table.proofs.printing.put_line.Goals as goal

pub returns-clause-written : goal.returns-clause-written
returns-clause-written c = on_ok_weaker c.write_cells.result (λ line. subst IsUtf8 (sym line)
    (IsUtf8-append _ _ c.requires.written (line-text _ c.requires.texts))) c.write_cells.ensures.line
