use Rattle.std.proofs.Common.{◌≡◌, ◌≤◌, arith, rules, length, take, sym, ap, subst, ◌∙◌}
use Rattle.know.specs.Knowledge.{after_handing}
use Rattle.leaf_cell.proofs.VisitLemmas.{gathers}
use Rattle.leaf_store.specs.LeafStates as store
use Rattle.mon_topo.proofs.FrontLemmas.{begins_length}
use Rattle.mon_value.specs.Histories.{leaf_history}
use Rattle.mon_value.specs.LeafHistories.{kept_rows}
use Rattle.leaf_cell.proofs.desks.LeafDesk.gather.Goals as goal

pub rows_at-requires : goal.rows_at-requires
rows_at-requires g c =
    let history = c.args.self.now.state.history in
    let seen = leaf_history c.args.know.now.seen c.args.self.now.owner.leaf in
    let front = begins_length history seen c.look.ensures.gone.called.front in
    record {
      within = subst (λ (s : store.LeafView). c.args.cut ≤ length s.history) (sym c.look.ensures.state)
          (omega (arith, front, c.requires.seen));
    }

pub returns-clause-gathered : goal.returns-clause-gathered
returns-clause-gathered g c =
    let rows = c.in_ok-rows.rows in
    let handed : c.hand.new.self ≡ after_handing (length rows) c.look.new.know = search rules in
    gathers c.args.self.now.owner.leaf c.args.self.now.state.history c.args.range c.args.slot c.args.cut rows
    c.args.know.now c.look.new.know c.hand.new.self c.look.ensures.gone handed
    (c.in_ok-rows.ensures.rows ∙ ap (λ (s : store.LeafView). kept_rows c.args.range c.args.slot
    (take c.args.cut s.history)) c.look.ensures.state)
    c.requires.seen
