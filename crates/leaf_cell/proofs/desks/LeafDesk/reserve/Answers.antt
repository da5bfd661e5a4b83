use Rattle.std.proofs.Common.{◌≡◌, [], refl, rules, sym, ap, ◌∙◌}
use Rattle.history_book.specs.declared.rooms.RoomMove.TheVariants as move
use Rattle.leaf_cell.proofs.RestLemmas.{rests_gone, rests_reserved}
use Rattle.mon_topo.proofs.FrontLemmas.{begins_to}
use Rattle.mon_value.proofs.LeafHistoryLemmas.{is_opened-append}
use Rattle.mon_value.specs.Histories.{leaf_history}
use Rattle.mon_value.specs.LeafHistories.{is_down, is_opened}
use Rattle.owners.proofs.CalledLemmas.{finds_down, finds_up, front_here, goes, looks}
use Rattle.leaf_cell.proofs.desks.LeafDesk.reserve.Goals as goal

-- ---- the leaf is down

pub returns-then-down-clause-rest : goal.returns-then-down-clause-rest
returns-then-down-clause-rest g c =
    let state = c.args.self.now.state in
    let owner = c.args.self.now.owner in
    rests_gone g.N.Names.setting g.N.RaiseName.raise owner.leaf.0 state owner c.receive-length.new.self
    c.args.know.now c.receive-length.result c.requires.rest c.receive-length.ensures.received move.Keep state
    c.part.new.self refl c.part.ensures.parted

pub returns-then-down-clause-reserved : goal.returns-then-down-clause-reserved
returns-then-down-clause-reserved g c =
    let owner = c.args.self.now.owner in
    let know = c.args.know.now in
    let came = c.receive-length.ensures.received in
    finds_down owner.leaf (leaf_history owner.book.seen owner.leaf) move.Keep know c.part.new.know
    (goes know owner c.receive-length.new.self c.receive-length.result came move.Keep c.receive-length.new.know
    c.part.new.know c.receive-length.ensures.left c.part.ensures.know)
    c.receive-length.result (ap is_down c.requires.rest.history ∙ sym c.if-down.ensures.down) came.counted

-- ---- memory is asked for

pub reserve_turn-requires : goal.reserve_turn-requires
reserve_turn-requires g c =
    let owner = c.args.self.now.owner in
    let know = c.args.know.now in
    let whole = leaf_history owner.book.seen owner.leaf in
    let seen = leaf_history know.seen owner.leaf in
    let front = front_here know owner c.receive-length.new.self c.receive-length.result
    c.receive-length.ensures.received in
    record {
      opened = ap (is_opened c.args.range c.args.slot) (sym c.requires.rest.history ∙ begins_to whole seen front)
          ∙ is_opened-append c.args.range c.args.slot seen _ c.requires.opened;
    }

pub returns-then-is_err-clause-rest : goal.returns-then-is_err-clause-rest
returns-then-is_err-clause-rest g c =
    let state = c.args.self.now.state in
    let owner = c.args.self.now.owner in
    let same : c.reserve_turn.new.state ≡ state = search rules in
    rests_gone g.N.Names.setting g.N.RaiseName.raise owner.leaf.0 state owner c.receive-length.new.self
    c.args.know.now c.receive-length.result c.requires.rest c.receive-length.ensures.received move.Keep
    c.reserve_turn.new.state c.part-then-is_err.new.self same c.part-then-is_err.ensures.parted

pub returns-then-is_err-clause-refused : goal.returns-then-is_err-clause-refused
returns-then-is_err-clause-refused g c =
    let owner = c.args.self.now.owner in
    let know = c.args.know.now in
    looks owner.leaf (leaf_history owner.book.seen owner.leaf) move.Keep know c.part-then-is_err.new.know
    (goes know owner c.receive-length.new.self c.receive-length.result c.receive-length.ensures.received move.Keep
    c.receive-length.new.know c.part-then-is_err.new.know c.receive-length.ensures.left
    c.part-then-is_err.ensures.know)

-- ---- room is made

pub returns-clause-rest : goal.returns-clause-rest
returns-clause-rest g c =
    let state = c.args.self.now.state in
    let owner = c.args.self.now.owner in
    rests_reserved g.N.Names.setting g.N.RaiseName.raise owner.leaf.0 state owner c.receive-length.new.self
    c.args.know.now c.receive-length.result c.requires.rest c.receive-length.ensures.received c.reserve_turn.new.state
    c.part-2.new.self (search rules) c.part-2.ensures.parted

pub returns-clause-reserved : goal.returns-clause-reserved
returns-clause-reserved g c =
    let owner = c.args.self.now.owner in
    let know = c.args.know.now in
    finds_up owner.leaf (leaf_history owner.book.seen owner.leaf) [] move.Make know c.part-2.new.know
    (goes know owner c.receive-length.new.self c.receive-length.result c.receive-length.ensures.received move.Make
    c.receive-length.new.know c.part-2.new.know c.receive-length.ensures.left c.part-2.ensures.know)
    (ap is_down c.requires.rest.history ∙ sym c.if-down.ensures.down)
