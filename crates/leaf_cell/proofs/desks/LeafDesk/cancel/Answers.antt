use Rattle.std.proofs.Common.{arith}
use Rattle.history_book.specs.declared.rooms.RoomMove.TheVariants as move
use Rattle.leaf_cell.proofs.RestLemmas.{rests_gone}
use Rattle.mon_value.specs.Histories.{leaf_history}
use Rattle.owners.proofs.CalledLemmas.{goes, has_room, looks}
use Rattle.leaf_cell.proofs.desks.LeafDesk.cancel.Goals as goal

pub cancel-requires : goal.cancel-requires
cancel-requires g c =
    record { promised = omega (arith, c.requires.room, c.receive.ensures.received.promised, c.requires.rest.promised) }

pub part-requires : goal.part-requires
part-requires g c = record {
  take_back = λ _. has_room c.args.know.now c.args.self.now.owner c.receive.new.self c.receive.result
      c.receive.ensures.received c.requires.room;
}

pub returns-clause-rest : goal.returns-clause-rest
returns-clause-rest g c =
    let state = c.args.self.now.state in
    let owner = c.args.self.now.owner in
    rests_gone g.N.Names.setting g.N.RaiseName.raise owner.leaf.0 state owner c.receive.new.self c.args.know.now
    c.receive.result c.requires.rest c.receive.ensures.received move.TakeBack c.cancel.new.self c.part.new.self
    c.cancel.ensures.cancelled c.part.ensures.parted

pub returns-clause-cancelled : goal.returns-clause-cancelled
returns-clause-cancelled g c =
    let owner = c.args.self.now.owner in
    let know = c.args.know.now in
    looks owner.leaf (leaf_history owner.book.seen owner.leaf) move.TakeBack know c.part.new.know
    (goes know owner c.receive.new.self c.receive.result c.receive.ensures.received move.TakeBack c.receive.new.know
    c.part.new.know c.receive.ensures.left c.part.ensures.know)
