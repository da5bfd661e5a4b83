use Rattle.std.proofs.Common.{◌≡◌, ◌≤◌, arith, rules, length, take, sym, ap, subst, ◌∙◌}
use Rattle.history_book.specs.declared.rooms.RoomMove.TheVariants as move
use Rattle.know.specs.Knowledge.{after_handing}
use Rattle.leaf_cell.proofs.VisitLemmas.{copies}
use Rattle.leaf_store.specs.LeafStates as store
use Rattle.mon_value.specs.LeafHistories.{is_down, kept_rows}
use Rattle.owners.proofs.CalledLemmas.{finds_down}
use Rattle.leaf_cell.proofs.desks.LeafDesk.copy.Goals as goal

pub returns-then-down-clause-copied : goal.returns-then-down-clause-copied
returns-then-down-clause-copied g c =
    finds_down c.args.self.now.owner.leaf c.args.self.now.state.history move.Keep c.args.know.now
    c.look-length.new.know c.look-length.ensures.gone c.look-length.result
    (ap (λ (s : store.LeafView). is_down s.history) (sym c.look-length.ensures.state) ∙ sym c.if-down.ensures.down)
    c.look-length.ensures.length

pub rows_at-requires : goal.rows_at-requires
rows_at-requires g c =
    let whole : c.look-length.result ≤ length c.args.self.now.state.history =
    omega (arith, c.look-length.ensures.length) in
    record {
      within = subst (λ (s : store.LeafView). c.look-length.result ≤ length s.history) (sym c.look-length.ensures.state)
          whole;
    }

pub returns-clause-copied : goal.returns-clause-copied
returns-clause-copied g c =
    let rows = c.in_ok-rows.rows in
    let same = c.look-length.ensures.state in
    let cut = c.look-length.result in
    let handed : c.hand.new.self ≡ after_handing (length rows) c.look-length.new.know = search rules in
    copies c.args.self.now.owner.leaf c.args.self.now.state.history c.args.range c.args.slot cut rows c.args.know.now
    c.look-length.new.know c.hand.new.self c.look-length.ensures.gone handed
    (c.in_ok-rows.ensures.rows ∙ ap (λ (s : store.LeafView). kept_rows c.args.range c.args.slot
    (take cut s.history)) same)
    c.look-length.ensures.length
    (ap (λ (s : store.LeafView). is_down s.history) (sym same) ∙ sym c.if-down.ensures.down)
