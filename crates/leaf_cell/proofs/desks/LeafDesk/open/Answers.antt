use Rattle.std.proofs.Common.{◌≡◌, ◌<◌, ◌≤◌, ℕ, Some, List, [], ◌++◌, refl, sym, ap, subst, ◌∙◌, arith}
use Rattle.history_book.specs.declared.rooms.RoomMove.TheVariants as move
use Rattle.history_book.specs.declared.views.BookEntry.TheVariants as one
use Rattle.history_book.specs.Seats.{Owner, after_append, guest_purse, hand_of, times_range}
use Rattle.leaf_cell.proofs.NewLeafLemmas.{has_opened, rests_with_opened}
use Rattle.leaf_cell.proofs.PutLemmas.{holds_among}
use Rattle.leaf_cell.specs.NewLeaves.{HasOpened, new_leaf_of}
use Rattle.leaf_store.specs.LeafStates as store
use Rattle.mon_topo.specs.HeldHistories.{AreAtHome}
use Rattle.mon_value.specs.Histories.{leaf_history}
use Rattle.mon_value.specs.LeafHistories.{MayFollow}
use Rattle.mon_value.specs.declared.histories.Entry.{Entry}
use Rattle.mon_value.specs.declared.histories.Entry.TheVariants as entry
use Rattle.mon_value.specs.declared.rows.Row.{Row}
use Rattle.owners.specs.Entries.{LeadsOn}
use Rattle.owners.specs.Owners as owners
use Rattle.owners.specs.Puts.{pass_of}
use Rattle.owners.specs.Receiving.{parted}
use Rattle.leaf_cell.proofs.desks.LeafDesk.open.Goals as goal

pub enter-requires : goal.enter-requires
enter-requires g c =
    let setting = g.N.Names.setting in
    let state = c.args.self.now.state in
    let owner = c.args.self.now.owner in
    let now = c.receive.new.self in
    let came = c.receive.ensures.received in
    let opening : List Row → Entry = λ rows. entry.Opened c.in-Some.pass c.args.range c.args.slot rows in
    let whole : leaf_history owner.book.seen owner.leaf ≡ c.promised.new.state.history =
    c.requires.rest.history ∙ ap (λ (s : store.LeafView). s.history) (sym c.in_ok-rows.ensures.promised) in
    let none = sym c.in_ok-rows.ensures.none in
    record {
      named = refl;
      history = ap (leaf_history now.book.seen) came.leaf ∙ came.whole ∙ whole;
      may = subst (λ (rows : List Row). MayFollow c.promised.new.state.history (opening rows)) none
          (subst (λ (h : List Entry). MayFollow h (opening [])) whole (c.requires.up, c.requires.unopened, tt));
      home = subst (λ (rows : List Row). AreAtHome setting.held setting.zones (opening rows)) none
          (λ row there. absurd (omega (arith, there.1)));
      leads = subst (λ (rows : List Row).
          LeadsOn setting now.hints.hints now.leaf c.promised.new.state.history (opening rows)) none
          (λ bucket there lacks. absurd cc);
      promised = λ _. subst (λ (s : store.LeafView). 1 ≤ s.promised) (sym c.in_ok-rows.ensures.promised) (omega arith);
      known = tt;
      number = ap (λ (o : Owner). (hand_of (guest_purse o.guest)).own) came.book ∙ sym c.in-Some.ensures.number;
      held = λ range same. subst (λ (o : Owner). 0 < times_range range (o.held ++ (guest_purse o.guest).holds))
          (sym came.book)
          (holds_among range c.args.range owner.book.held c.args.know.now.purse.holds same c.requires.holds);
    }

pub returns-clause-rest : goal.returns-clause-rest
returns-clause-rest g c =
    let state = c.args.self.now.state in
    let owner = c.args.self.now.owner in
    let now = c.receive.new.self in
    let came = c.receive.ensures.received in
    let opening : List Row → Entry = λ rows. entry.Opened c.in-Some.pass c.args.range c.args.slot rows in
    let then_owner : c.enter.new.self.owner
    ≡ owners.leaf_owner owner.leaf now.hints (after_append (one.Leaf (opening [])) now.book) =
    λ i. record {
      leaf = (c.enter.ensures.leaf ∙ came.leaf) i;
      hints = c.enter.ensures.hints i;
      book = (c.enter.ensures.book
          ∙ ap (λ (rows : List Row). after_append (one.Leaf (opening rows)) now.book) c.in_ok-rows.ensures.none) i;
    } in
    rests_with_opened owner now c.args.know.now c.receive.result came c.in-Some.pass c.args.range c.args.slot
    g.N.Names.setting g.N.RaiseName.raise owner.leaf.0 state c.requires.rest c.enter.new.self.state c.part.new.self
    (c.enter.ensures.state ∙ (λ i. store.leaf_with_entry (c.in_ok-rows.ensures.promised i)
    (opening (c.in_ok-rows.ensures.none i))))
    (c.part.ensures.parted ∙ ap (parted move.Keep) then_owner)

pub returns-clause-opened : goal.returns-clause-opened
returns-clause-opened g c =
    let owner = c.args.self.now.owner in
    let know = c.args.know.now in
    let now = c.receive.new.self in
    let came = c.receive.ensures.received in
    let opening : List Row → Entry = λ rows. entry.Opened c.in-Some.pass c.args.range c.args.slot rows in
    let number : Some c.in-Some.pass ≡ (hand_of know.purse).own = c.in-Some.ensures.number in
    let mine = c.requires.number in
    let same : c.in-Some.pass ≡ pass_of know = cc in
    let then_owner : c.enter.new.self.owner ≡ owners.leaf_owner owner.leaf now.hints c.enter.new.self.owner.book =
    λ i. record {
      leaf = (c.enter.ensures.leaf ∙ came.leaf) i;
      hints = c.enter.ensures.hints i;
      book = c.enter.new.self.owner.book;
    } in
    subst (λ (pass : ℕ). HasOpened (new_leaf_of owner) (new_leaf_of c.part.new.self)
    (entry.Opened pass c.args.range c.args.slot []) know c.part.new.know) same
    (has_opened owner now know c.receive.result came c.in-Some.pass c.args.range c.args.slot
    c.enter.new.self.owner.hints.hints c.enter.new.self.owner.book c.receive.new.know c.part.new.know c.part.new.self
    (c.enter.ensures.book
    ∙ ap (λ (rows : List Row). after_append (one.Leaf (opening rows)) now.book) c.in_ok-rows.ensures.none)
    c.receive.ensures.left c.part.ensures.know
    (c.part.ensures.parted ∙ ap (parted move.Keep) then_owner))
