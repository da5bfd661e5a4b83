use Rattle.std.proofs.Common.{◌≡◌, false, List, refl, sym, ap, subst, ◌∙◌}
use Rattle.std.proofs.lemmas.Result.{IfOk-weaker}
use Rattle.mon_topo.specs.RangeHistories.{serving}
use Rattle.mon_value.specs.declared.positions.SlotLeaf.{SlotLeaf}
use Rattle.range_cell.proofs.MeetingLemmas.{if_rests, whole_so}
use Rattle.range_cell.proofs.OutcomeLemmas.{any_err}
use Rattle.range_cell.specs.Calls.{parted_owner}
use Rattle.range_cell.specs.Rest.{IsRangeAtRest}
use Rattle.write_core.specs.Replays.{Replay}
use Rattle.range_cell.proofs.desks.RangeDesk.serving.Goals as goal

pub returns-clause-rest : goal.returns-clause-rest
returns-clause-rest g c =
    let desk = c.args.self.now in
    let now = c.receive.new.self.owner in
    let gone : c.part.new.self ≡ parted_owner false now =
    λ i. record { range = c.part.ensures.range i; hints = c.part.ensures.hints i; book = c.part.ensures.book i } in
    subst (λ (r : Replay). IsRangeAtRest desk.owner.range.0 r c.part.new.self) (sym c.receive.ensures.replay)
    (if_rests g.N.BookName.book.leaves c.args.know.now desk.owner now c.requires.rest.own c.receive.ensures.came
    desk.replay c.requires.rest c.requires.none false c.part.new.self gone c.receive.new.know c.part.new.know
    c.receive.ensures.left c.part.ensures.know refl).1

pub returns-clause-listed : goal.returns-clause-listed
returns-clause-listed g c =
    let leaves = g.N.BookName.book.leaves in
    let know = c.args.know.now in
    let desk = c.args.self.now in
    let now = c.receive.new.self.owner in
    let came = c.receive.ensures.came in
    let gone : c.part.new.self ≡ parted_owner false now =
    λ i. record { range = c.part.ensures.range i; hints = c.part.ensures.hints i; book = c.part.ensures.book i } in
    IfOk-weaker c.serving-told.result _ _ (λ (told : List SlotLeaf) is. record {
      met = (if_rests leaves know desk.owner now c.requires.rest.own came desk.replay c.requires.rest c.requires.none false
          c.part.new.self gone c.receive.new.know c.part.new.know c.receive.ensures.left c.part.ensures.know refl).0;
      serve = ap serving
          (whole_so leaves know desk.owner now c.requires.rest.own came false c.receive.new.know c.part.new.know
          c.receive.ensures.left c.part.ensures.know ∙ c.requires.rest.history
          ∙ ap (λ (r : Replay). r.history) (sym c.receive.ensures.replay))
          ∙ sym is;
    }) c.serving-told.ensures.serve

pub returns-clause-refused : goal.returns-clause-refused
returns-clause-refused g c =
    let desk = c.args.self.now in
    let now = c.receive.new.self.owner in
    let gone : c.part.new.self ≡ parted_owner false now =
    λ i. record { range = c.part.ensures.range i; hints = c.part.ensures.hints i; book = c.part.ensures.book i } in
    any_err c.serving-told.result _
    (if_rests g.N.BookName.book.leaves c.args.know.now desk.owner now c.requires.rest.own c.receive.ensures.came
    desk.replay c.requires.rest c.requires.none false c.part.new.self gone c.receive.new.know c.part.new.know
    c.receive.ensures.left c.part.ensures.know refl).0
