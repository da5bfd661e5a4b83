use Rattle.std.proofs.Common.{◌∙◌, ap, sym, lit<, arith, take_all, length}
use Rattle.std.specs.Prelude.{◌==◌}
use Rattle.std.specs.List.{slice_split}
use Rattle.std.proofs.lemmas.Iterator.Consumers.{YieldsList-turn, YieldsList-end}
use Rattle.std.proofs.lemmas.Iterator.Splits.{YieldsList-from_str_split}
use Rattle.std.proofs.lemmas.List.{length_push}
use Rattle.mon_value.specs.Values.{semicolon}
use Rattle.mon_points.specs.Records.{counts_of_texts}
use Rattle.mon_points.proofs.CountsOfLemmas.{counts_of-more, counts_of-none}
use Rattle.mon_points.proofs.cells.read_counts.Goals as goal

pub returns-in_default : goal.returns-in_default
returns-in_default c =
    let parts = slice_split (λ byte. byte == semicolon) c.args.cell.now in
    let turn = YieldsList-turn (YieldsList-from_str_split 59 c.args.cell.now (lit< tt) (cc) (cc) (cc))
    c.loop-part.yielded _ c.loop-part.yielded_by _ _ c.in-Some.part c.in-Some.is c.next.ensures.steps in
    record {
      counts = sym (counts_of-none parts (length c.loop-part.yielded) c.in-Some.part.now turn.0 turn.1
          (sym c.in_default.ensures.count));
    }

pub loop-part-preserved : goal.loop-part-preserved
loop-part-preserved c =
    let parts = slice_split (λ byte. byte == semicolon) c.args.cell.now in
    let turn = YieldsList-turn (YieldsList-from_str_split 59 c.args.cell.now (lit< tt) (cc) (cc) (cc))
    c.loop-part.yielded _ c.loop-part.yielded_by _ _ c.in-Some.part c.in-Some.is c.next.ensures.steps in
    rw (length_push c.loop-part.yielded c.in-Some.part, c.in_ok-push.ensures.added)
    (counts_of-more parts (length c.loop-part.yielded) c.in-Some.part.now c.loop-part.counts
    c.in-Some-read_count.count turn.0 turn.1 c.loop-part.invariant (sym c.in-Some-read_count.ensures.count))

pub returns : goal.returns
returns c =
    let parts = slice_split (λ byte. byte == semicolon) c.args.cell.now in
    let end = YieldsList-end (YieldsList-from_str_split 59 c.args.cell.now (lit< tt) (cc) (cc) (cc))
    c.loop-part.yielded _ c.loop-part.yielded_by _ _ c.in-None.is c.next.ensures.steps in
    let all = take_all (length c.loop-part.yielded) parts (omega (arith, end.1)) in
    record { counts = sym c.loop-part.invariant ∙ ap counts_of_texts all }
