use Rattle.std.proofs.Common.{◌≡◌, ℕ, true, false, Some, [], ◌∷◌, List, length, refl, sym, ap, subst, ◌∙◌}
use Rattle.history_book.specs.declared.rooms.RoomMove.TheVariants as move
use Rattle.history_book.specs.declared.views.BookEntry.TheVariants as one
use Rattle.history_book.specs.Histories.{leaf_entry_is_about, leaf_entry_pass}
use Rattle.history_book.specs.Seats.{Owner, after_append, guest_purse, hand_of}
use Rattle.leaf_cell.proofs.ControlLemmas.{has_not_switched, has_switched, one_longer, switch_about, switch_brings}
use Rattle.leaf_cell.proofs.ControlLemmas.{switch_follows, switch_home, switch_leads, switch_pass, switches}
use Rattle.leaf_cell.proofs.RestLemmas.{rests_gone, rests_switched}
use Rattle.leaf_cell.specs.Controls.{switch_entry}
use Rattle.leaf_store.specs.LeafStates as store
use Rattle.mon_topo.specs.HeldHistories.{AreAtHome}
use Rattle.mon_value.specs.Histories.{leaf_history}
use Rattle.mon_value.specs.LeafHistories.{MayFollow, brought_rows, is_switch}
use Rattle.mon_value.specs.declared.histories.Entry.{Entry}
use Rattle.owners.proofs.CalledLemmas.{goes, goes_with}
use Rattle.owners.specs.Entries.{LeadsOn}
use Rattle.owners.specs.Owners as owners
use Rattle.owners.specs.Puts.{pass_of}
use Rattle.owners.specs.Receiving.{HasGone, parted}
use Rattle.leaf_cell.proofs.desks.LeafDesk.control.Goals as goal

-- ---- it isn't switched

pub returns-in-Some-why_not-clause-rest : goal.returns-in-Some-why_not-clause-rest
returns-in-Some-why_not-clause-rest g c =
    let state = c.args.self.now.state in
    let owner = c.args.self.now.owner in
    rests_gone g.N.Names.setting g.N.RaiseName.raise owner.leaf.0 state owner c.receive-length.new.self
    c.args.know.now c.receive-length.result c.requires.rest c.receive-length.ensures.received move.Keep state
    c.part.new.self refl c.part.ensures.parted

pub returns-in-Some-why_not-clause-controlled : goal.returns-in-Some-why_not-clause-controlled
returns-in-Some-why_not-clause-controlled g c =
    let state = c.args.self.now.state in
    let owner = c.args.self.now.owner in
    let know = c.args.know.now in
    has_not_switched owner.leaf state.history c.args.to know c.part.new.know c.in-Some-why_not.fault
    (sym c.in-Some-why_not.ensures.why)
    (subst (λ (h : List Entry). HasGone owner.leaf h [] move.Keep know c.part.new.know) c.requires.rest.history
    (goes know owner c.receive-length.new.self c.receive-length.result c.receive-length.ensures.received move.Keep
    c.receive-length.new.know c.part.new.know c.receive-length.ensures.left c.part.ensures.know))

-- ---- it is

pub enter-requires : goal.enter-requires
enter-requires g c =
    let setting = g.N.Names.setting in
    let state = c.args.self.now.state in
    let owner = c.args.self.now.owner in
    let now = c.receive-length.new.self in
    let came = c.receive-length.ensures.received in
    let to = c.args.to in
    let pass = c.in-Some.pass in
    let is : c.switch.result ≡ switch_entry to pass = c.switch.ensures.switch in
    let yes : is_switch c.switch.result ≡ true = ap is_switch is ∙ switches to pass in
    record {
      named = refl;
      history = ap (leaf_history now.book.seen) came.leaf ∙ came.whole ∙ c.requires.rest.history;
      may = subst (MayFollow state.history) (sym is)
          (switch_follows to state.history pass (sym c.in-None.ensures.why) c.in-None.ensures.few);
      home = subst (AreAtHome setting.held setting.zones) (sym is) (switch_home setting to pass);
      leads = subst (LeadsOn setting now.hints.hints now.leaf state.history) (sym is)
          (switch_leads setting now.hints.hints now.leaf state.history to pass);
      promised = λ no. absurd (let never : false ≡ true = sym no ∙ yes in cc);
      known = tt;
      number = ap (λ (o : Owner). (hand_of (guest_purse o.guest)).own) came.book ∙ sym c.in-Some.ensures.number
          ∙ ap (λ (n : ℕ). Some n) (sym (ap leaf_entry_pass is ∙ switch_pass to pass));
      held = λ range about. absurd (let never : false ≡ true =
          sym (ap (leaf_entry_is_about range) is ∙ switch_about to pass range) ∙ about in cc);
    }

pub returns-in-None-clause-rest : goal.returns-in-None-clause-rest
returns-in-None-clause-rest g c =
    let state = c.args.self.now.state in
    let owner = c.args.self.now.owner in
    let now = c.receive-length.new.self in
    let came = c.receive-length.ensures.received in
    let to = c.args.to in
    let pass = c.in-Some.pass in
    let e : Entry = c.switch.result in
    let is : e ≡ switch_entry to pass = c.switch.ensures.switch in
    let then_owner : c.enter.new.self.owner ≡ owners.leaf_owner owner.leaf now.hints (after_append (one.Leaf e) now.book) =
    λ i. record {
      leaf = (c.enter.ensures.leaf ∙ came.leaf) i;
      hints = c.enter.ensures.hints i;
      book = c.enter.ensures.book i;
    } in
    rests_switched g.N.Names.setting g.N.RaiseName.raise owner.leaf.0 state owner now c.args.know.now
    c.receive-length.result c.requires.rest came e (ap is_switch is ∙ switches to pass)
    (ap brought_rows is ∙ switch_brings to pass) c.enter.new.self.state c.part-in-None.new.self c.enter.ensures.state
    (c.part-in-None.ensures.parted ∙ ap (parted move.Keep) then_owner)

pub returns-in-None-clause-controlled : goal.returns-in-None-clause-controlled
returns-in-None-clause-controlled g c =
    let state = c.args.self.now.state in
    let owner = c.args.self.now.owner in
    let know = c.args.know.now in
    let now = c.receive-length.new.self in
    let came = c.receive-length.ensures.received in
    let to = c.args.to in
    let gone = c.part-in-None.new.know in
    let number : Some c.in-Some.pass ≡ (hand_of know.purse).own = c.in-Some.ensures.number in
    let mine = c.requires.number in
    let same : c.in-Some.pass ≡ pass_of know = cc in
    let e : Entry = c.switch.result in
    let is : e ≡ switch_entry to (pass_of know) = c.switch.ensures.switch ∙ ap (switch_entry to) same in
    has_switched owner.leaf state.history to know gone (pass_of know) c.length.result (sym c.in-None.ensures.why)
    (sym (c.length.ensures.length ∙ ap (λ (s : store.LeafView). length s.history) c.enter.ensures.state
    ∙ one_longer state.history e))
    (subst (λ (x : Entry). HasGone owner.leaf state.history (x ∷ []) move.Keep know gone) is
    (subst (λ (h : List Entry). HasGone owner.leaf h (e ∷ []) move.Keep know gone) c.requires.rest.history
    (goes_with know owner now c.receive-length.result came move.Keep e c.enter.new.self.owner.hints.hints
    c.enter.new.self.owner.book c.receive-length.new.know gone c.enter.ensures.book c.receive-length.ensures.left
    c.part-in-None.ensures.know)))
