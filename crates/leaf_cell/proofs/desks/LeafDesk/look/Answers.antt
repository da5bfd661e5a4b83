use Rattle.std.proofs.Common.{List, [], length, refl, sym, ap, subst, ◌∙◌}
use Rattle.history_book.specs.declared.rooms.RoomMove.TheVariants as move
use Rattle.leaf_cell.proofs.RestLemmas.{rests_gone}
use Rattle.mon_value.specs.declared.histories.Entry.{Entry}
use Rattle.owners.proofs.CalledLemmas.{goes}
use Rattle.owners.specs.Receiving.{HasGone}
use Rattle.leaf_cell.proofs.desks.LeafDesk.look.Goals as goal

pub returns-clause-rest : goal.returns-clause-rest
returns-clause-rest g c =
    let state = c.args.self.now.state in
    let owner = c.args.self.now.owner in
    rests_gone g.N.Names.setting g.N.RaiseName.raise owner.leaf.0 state owner c.receive-length.new.self
    c.args.know.now c.receive-length.result c.requires.rest c.receive-length.ensures.received move.Keep state
    c.part.new.self refl c.part.ensures.parted

pub returns-clause-gone : goal.returns-clause-gone
returns-clause-gone g c =
    let owner = c.args.self.now.owner in
    let know = c.args.know.now in
    subst (λ (h : List Entry). HasGone owner.leaf h [] move.Keep know c.part.new.know) c.requires.rest.history
    (goes know owner c.receive-length.new.self c.receive-length.result c.receive-length.ensures.received move.Keep
    c.receive-length.new.know c.part.new.know c.receive-length.ensures.left c.part.ensures.know)

pub returns-clause-length : goal.returns-clause-length
returns-clause-length g c =
    ap length (sym c.requires.rest.history) ∙ c.receive-length.ensures.received.counted
