use Rattle.std.proofs.Common.{rules, ◌∙◌, Ok, ap, sym}
use Rattle.mon_table.proofs.JoinRoomLemmas.{rows_kept, rows_withheld}
use Rattle.mon_table.proofs.pairs.pairs_within.Goals as goal

pub returns-in_err-test_room : goal.returns-in_err-test_room
returns-in_err-test_room c =
    let withheld = rows_withheld c.args.room _ c.in_err-test_room.field-0.0 c.in_err-test_room.ensures.answers in
    search rules

pub returns : goal.returns
returns c = record {
  rows = rows_kept c.args.room _ c.in_ok-test_room.ensures.answers ∙ ap Ok (sym c.in_ok-pairs.ensures.pairs);
}
