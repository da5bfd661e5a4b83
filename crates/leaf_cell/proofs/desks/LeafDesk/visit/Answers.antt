use Rattle.std.proofs.Common.{ℕ, List, sym, ap, subst, ◌∙◌}
use Rattle.history_book.specs.declared.rooms.RoomMove.TheVariants as move
use Rattle.leaf_cell.proofs.VisitLemmas.{reads_up}
use Rattle.leaf_store.specs.LeafStates.{key_buckets}
use Rattle.leaf_store.specs.LeafStates as store
use Rattle.mon_value.specs.LeafHistories.{is_down}
use Rattle.mon_value.specs.declared.rows.SeriesKey.{SeriesKey}
use Rattle.owners.proofs.CalledLemmas.{finds_down}
use Rattle.leaf_cell.proofs.desks.LeafDesk.visit.Goals as goal

pub returns-then-down-clause-visited : goal.returns-then-down-clause-visited
returns-then-down-clause-visited g c =
    finds_down c.args.self.now.owner.leaf c.args.self.now.state.history move.Keep c.args.know.now
    c.look-length.new.know c.look-length.ensures.gone c.look-length.result
    (ap (λ (s : store.LeafView). is_down s.history) (sym c.look-length.ensures.state) ∙ sym c.if-down.ensures.down)
    c.look-length.ensures.length

pub returns-clause-visited : goal.returns-clause-visited
returns-clause-visited g c =
    let same = c.look-length.ensures.state in
    let tells = g.P.LeafReader.tells c.args.reader.now c.read.new.self in
    let history = c.args.self.now.state.history in
    let sent = c.in_ok-sent.sent in
    let told : tells (key_buckets c.args.self.now.state.buckets c.args.self.now.state.schemas) history sent =
    subst (λ (s : store.LeafView). tells (key_buckets s.buckets s.schemas) s.history sent) same
    c.in_ok-sent.ensures.told in
    reads_up c.args.self.now.owner.leaf history sent c.args.know.now c.look-length.new.know c.hand.new.self
    c.look-length.ensures.gone c.hand.ensures.handed (tells g.N.Names.setting.buckets_of)
    (ap (λ (s : store.LeafView). is_down s.history) (sym same) ∙ sym c.if-down.ensures.down)
    (subst (λ (f : SeriesKey → List ℕ). tells f history sent) (sym c.requires.rest.goes_by.buckets) told)
