use Rattle.std.proofs.Common.{◌≡◌, ◌∷◌, [], ◌+◌, drop, subst}
use Rattle.std.specs.Prelude.{List, slice_index_or}
use Rattle.write_core.specs.declared.marks.Fate.TheVariants as fate
use Rattle.std.proofs.lemmas.List.{at_drop_all, drop_more}
use Rattle.range_cell.proofs.RoomBackLemmas.{leaf_there, room_there}
use Rattle.range_cell.specs.Stages.{IsWithdrawing}
use Rattle.write_core.specs.declared.marks.Mark.{Mark}
use Rattle.range_cell.proofs.loops.cancel_all.Goals as goal

abbrev none_yet : Mark
none_yet = record { slot = record { 0 = 0 }; leaf = record { 0 = 0 }; fate = fate.Waiting }

pub cancel_one-requires : goal.cancel_one-requires
cancel_one-requires g c =
    let here = c.loop-mark.invariant.somewhere in
    let marks = c.args.marks.now in
    let i = c.loop-mark.mark-index in
    let mark : Mark = slice_index_or marks i none_yet in
    let next : drop i marks ≡ mark ∷ drop (i + 1) marks = drop_more marks i none_yet c.loop-mark-test.true in
    let is = subst (λ (left : List Mark). IsWithdrawing here.range here.pass here.before here.replicas
    c.loop-mark.know left) next here.is in
    record {
      there = λ ready. leaf_there here.range here.pass here.before here.replicas c.loop-mark.know mark
          (drop (i + 1) marks) is g.N.Names.setting here.placed;
      room = room_there here.range here.pass here.before here.replicas c.loop-mark.know mark (drop (i + 1) marks)
          is;
    }

pub loop-mark-preserved : goal.loop-mark-preserved
loop-mark-preserved g c =
    let here = c.loop-mark.invariant.somewhere in
    let marks = c.args.marks.now in
    let i = c.loop-mark.mark-index in
    let mark : Mark = slice_index_or marks i none_yet in
    let next : drop i marks ≡ mark ∷ drop (i + 1) marks = drop_more marks i none_yet c.loop-mark-test.true in
    record {
      somewhere = record {
        range = here.range;
        pass = here.pass;
        before = here.before;
        replicas = here.replicas;
        placed = here.placed;
        is = c.cancel_one.ensures.back here.range here.pass here.before here.replicas (drop (i + 1) marks)
            (subst (λ (left : List Mark). IsWithdrawing here.range here.pass here.before here.replicas
            c.loop-mark.know left) next here.is);
      };
      back = λ range pass before replicas w. c.cancel_one.ensures.back range pass before replicas (drop (i + 1) marks)
          (subst (λ (left : List Mark). IsWithdrawing range pass before replicas c.loop-mark.know left) next
          (c.loop-mark.invariant.back range pass before replicas w));
    }

pub returns : goal.returns
returns g c =
    let none : drop c.loop-mark.mark-index c.args.marks.now ≡ [] =
    at_drop_all (λ (m : List Mark). m) _ c.loop-mark.mark-index c.loop-mark-test.false in
    record {
      back = λ range pass before replicas w.
          subst (λ (left : List Mark). IsWithdrawing range pass before replicas c.loop-mark.know left) none
          (c.loop-mark.invariant.back range pass before replicas w);
    }
