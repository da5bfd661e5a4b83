use Rattle.std.proofs.Common.{◌≡◌, ◌<◌, ◌∙◌, ◌-◌, ℤ, true, length, Option, Some, IfSome, sym, ap, subst, option_map, arith}
use Rattle.mon_script.specs.Lines.{lines_of}
use Rattle.trials.specs.Cells.{is_sum_of, last_cell}
use Rattle.trials.specs.Tables.{table_in}
use Rattle.trials.proofs.SumLemmas.{row_read, with_cell}
use Rattle.trials.proofs.tables.table_at.Goals as goal

pub loop-line-preserved : goal.loop-line-preserved
loop-line-preserved c =
    let text = c.args.text.now in
    let rest = c.loop-line.rest.now in
    let behind = c.in-Some.behind.now in
    let line = c.in-Some.line.now in
    let cell = c.in-Some-last_cell.cell.now in
    let before = c.loop-line.invariant.within in
    let shorter : length behind < length rest = c.in-Some.ensures.shorter in
    let more : length text - length rest < length text - length behind = omega (arith, before, shorter) in
    let found : last_cell line ≡ Some cell = sym c.last_cell.ensures.cell
    ∙ ap (option_map (λ found. found.now)) c.in-Some-last_cell.is in
    record {
      table = ap (λ (sum : Option ℤ). table_in sum (lines_of behind)) c.sum_with-sum.ensures.sum
          ∙ sym (row_read c.loop-line.sum line cell (lines_of behind) found)
          ∙ ap (table_in c.loop-line.sum) (sym c.in-Some.ensures.first)
          ∙ c.loop-line.invariant.table;
      within = omega (arith, before, shorter);
      small = subst (λ (sum : Option ℤ). IfSome sum (λ s. is_sum_of (length text - length behind) s ≡ true))
          (sym c.sum_with-sum.ensures.sum)
          (with_cell (length text - length rest) (length text - length behind) c.loop-line.sum cell more
          c.loop-line.invariant.small);
    }
