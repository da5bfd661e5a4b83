use Rattle.std.proofs.Common.{◌≡◌, ◌<◌, ◌≤◌, ℕ, false, Some, IfSome, [], ◌∷◌, ◌++◌, arith, sym, ap, subst, ◌∙◌}
use Rattle.history_book.specs.declared.rooms.RoomMove.TheVariants as move
use Rattle.history_book.specs.declared.views.BookEntry.TheVariants as one
use Rattle.history_book.specs.Seats.{HasGuestRoom, Owner, after_append, guest_purse, hand_of, times_range, without_one}
use Rattle.leaf_cell.proofs.PutLemmas.{brings_unraised, holds_among}
use Rattle.leaf_cell.proofs.RestLemmas.{rests_gone, rests_with_put}
use Rattle.leaf_cell.specs.Raising.{HasRaisedRow}
use Rattle.leaf_store.specs.LeafStates.{is_unraised, HasNumber}
use Rattle.leaf_store.specs.LeafStates as store
use Rattle.mon_hints.specs.Hints.{history_buckets}
use Rattle.mon_hints.specs.Formulas.{is_among}
use Rattle.mon_value.specs.Histories.{leaf_history}
use Rattle.mon_value.specs.LeafHistories.{MayFollow, is_down}
use Rattle.mon_value.specs.declared.histories.Entry.{Entry}
use Rattle.mon_value.specs.declared.histories.Entry.TheVariants as entry
use Rattle.owners.proofs.CalledLemmas.{about_here, finds_down, finds_up, goes, goes_with, has_room}
use Rattle.owners.proofs.EntryLemmas.{may_put}
use Rattle.owners.specs.Calls.{HasFoundUp}
use Rattle.owners.specs.Owners as owners
use Rattle.owners.specs.Puts.{pass_of}
use Rattle.owners.specs.Receiving.{parted}
use Rattle.leaf_cell.proofs.desks.LeafDesk.put.Goals as goal

-- ---- the leaf is down

pub cancel-requires : goal.cancel-requires
cancel-requires g c = record {
  promised = omega (arith, c.requires.may.room, c.receive-length.ensures.received.promised, c.requires.rest.promised);
}

pub part-requires : goal.part-requires
part-requires g c = record {
  take_back = λ _. has_room c.args.know.now c.args.self.now.owner c.receive-length.new.self c.receive-length.result
      c.receive-length.ensures.received c.requires.may.room;
}

pub returns-then-down-clause-rest : goal.returns-then-down-clause-rest
returns-then-down-clause-rest g c =
    let state = c.args.self.now.state in
    let owner = c.args.self.now.owner in
    rests_gone g.N.Names.setting g.N.RaiseName.raise owner.leaf.0 state owner c.receive-length.new.self
    c.args.know.now c.receive-length.result c.requires.rest c.receive-length.ensures.received move.TakeBack
    c.cancel.new.self c.part.new.self c.cancel.ensures.cancelled c.part.ensures.parted

pub returns-then-down-clause-put : goal.returns-then-down-clause-put
returns-then-down-clause-put g c =
    let owner = c.args.self.now.owner in
    let know = c.args.know.now in
    let came = c.receive-length.ensures.received in
    finds_down owner.leaf (leaf_history owner.book.seen owner.leaf) move.TakeBack know c.part.new.know
    (goes know owner c.receive-length.new.self c.receive-length.result came move.TakeBack c.receive-length.new.know
    c.part.new.know c.receive-length.ensures.left c.part.ensures.know)
    c.receive-length.result (ap is_down c.requires.rest.history ∙ sym c.if-down.ensures.down) came.counted

-- ---- the row goes in

pub enter-requires-clause-history : goal.enter-requires-clause-history
enter-requires-clause-history g c =
    let came = c.receive-length.ensures.received in
    (λ i. leaf_history (c.raise_unknown-known.ensures.book i).seen ((c.raise_unknown-known.ensures.leaf ∙ came.leaf) i))
    ∙ came.whole ∙ c.requires.rest.history ∙ ap (λ (s : store.LeafView). s.history) (sym c.raise_unknown-known.ensures.state)

pub enter-requires-clause-may : goal.enter-requires-clause-may
enter-requires-clause-may g c =
    let state = c.args.self.now.state in
    let owner = c.args.self.now.owner in
    let know = c.args.know.now in
    let may = c.requires.may in
    let e : Entry = entry.Put c.in-Some.pass c.args.range c.args.slot c.args.row in
    let here = leaf_history owner.book.seen owner.leaf in
    let up : is_down here ≡ false = ap is_down c.requires.rest.history ∙ sym c.if-down.ensures.down in
    let there : MayFollow here e =
    may_put c.args.range c.args.slot here (leaf_history know.seen owner.leaf)
    (about_here know owner c.receive-length.new.self c.receive-length.result c.receive-length.ensures.received
    c.args.range may.holds)
    c.in-Some.pass c.args.row up may.seen.opened may.source in
    subst (λ (s : store.LeafView). MayFollow s.history e) (sym c.raise_unknown-known.ensures.state)
    (subst (λ h. MayFollow h e) c.requires.rest.history there)

pub enter-requires-clause-leads : goal.enter-requires-clause-leads
enter-requires-clause-leads g c =
    let setting = g.N.Names.setting in
    let state = c.args.self.now.state in
    λ bucket there lacks. c.raise_unknown-known.ensures.leads bucket
    (brings_unraised setting g.N.RaiseName.raise state c.requires.rest.goes_by c.in-Some.pass c.args.range c.args.slot
    c.args.row bucket there
    (subst (λ (s : store.LeafView). is_among bucket (history_buckets setting.buckets_of s.history) ≡ false)
    c.raise_unknown-known.ensures.state lacks))

pub enter-requires-clause-promised : goal.enter-requires-clause-promised
enter-requires-clause-promised g c =
    let there : 1 ≤ c.args.self.now.state.promised =
    omega (arith, c.requires.may.room, c.receive-length.ensures.received.promised, c.requires.rest.promised) in
    λ _. subst (λ (s : store.LeafView). 1 ≤ s.promised) (sym c.raise_unknown-known.ensures.state) there

pub enter-requires-clause-known : goal.enter-requires-clause-known
enter-requires-clause-known g c =
    let e : Entry = entry.Put c.in-Some.pass c.args.range c.args.slot c.args.row in
    subst (λ (s : store.LeafView). IfSome c.raise_unknown-known.result (HasNumber s.history e))
    (sym c.raise_unknown-known.ensures.state) c.raise_unknown-known.ensures.number

pub enter-requires-clause-held : goal.enter-requires-clause-held
enter-requires-clause-held g c =
    let booked = c.raise_unknown-known.ensures.book ∙ c.receive-length.ensures.received.book in
    λ range same. subst (λ (o : Owner). 0 < times_range range (o.held ++ (guest_purse o.guest).holds)) (sym booked)
    (holds_among range c.args.range c.args.self.now.owner.book.held c.args.know.now.purse.holds same
    c.requires.may.holds)

pub part-requires-2 : goal.part-requires-2
part-requires-2 g c =
    let e : Entry = entry.Put c.in-Some.pass c.args.range c.args.slot c.args.row in
    let grown = c.enter.ensures.book
    ∙ ap (after_append (one.Leaf e)) (c.raise_unknown-known.ensures.book ∙ c.receive-length.ensures.received.book) in
    record {
      take_back = λ _. subst HasGuestRoom (sym grown)
          (c.args.self.now.owner.leaf, c.receive-length.ensures.received.own, c.requires.may.room);
    }

pub returns-clause-rest : goal.returns-clause-rest
returns-clause-rest g c =
    let state = c.args.self.now.state in
    let owner = c.args.self.now.owner in
    let now = c.receive-length.new.self in
    let came = c.receive-length.ensures.received in
    let e : Entry = entry.Put c.in-Some.pass c.args.range c.args.slot c.args.row in
    let known = c.raise_unknown-known.new.self.owner.hints in
    let raised : HasRaisedRow (is_unraised state.buckets state.schemas state.history c.args.row.key) now.hints known =
    c.raise_unknown-known.ensures.raised in
    let then_owner : c.enter.new.self.owner ≡ owners.leaf_owner owner.leaf known (after_append (one.Leaf e) now.book) =
    λ i. record {
      leaf = (c.enter.ensures.leaf ∙ c.raise_unknown-known.ensures.leaf ∙ came.leaf) i;
      hints = c.enter.ensures.hints i;
      book = (c.enter.ensures.book ∙ ap (after_append (one.Leaf e)) c.raise_unknown-known.ensures.book) i;
    } in
    rests_with_put g.N.Names.setting g.N.RaiseName.raise owner.leaf.0 state owner now c.args.know.now
    c.receive-length.result c.requires.rest came c.in-Some.pass c.args.range c.args.slot c.args.row known raised
    c.enter.new.self.state c.part-2.new.self
    (c.enter.ensures.state ∙ ap (λ (s : store.LeafView). store.leaf_with_entry s e) c.raise_unknown-known.ensures.state)
    (c.part-2.ensures.parted ∙ ap (parted move.TakeBack) then_owner)

pub returns-clause-put : goal.returns-clause-put
returns-clause-put g c =
    let owner = c.args.self.now.owner in
    let know = c.args.know.now in
    let e : Entry = entry.Put c.in-Some.pass c.args.range c.args.slot c.args.row in
    let number : Some c.in-Some.pass ≡ (hand_of know.purse).own = c.in-Some.ensures.number in
    let mine = c.requires.may.number in
    let same : c.in-Some.pass ≡ pass_of know = cc in
    subst (λ (pass : ℕ). HasFoundUp owner.leaf (entry.Put pass c.args.range c.args.slot c.args.row ∷ [])
    (without_one owner.leaf know.purse.rooms) know c.part-2.new.know) same
    (finds_up owner.leaf (leaf_history owner.book.seen owner.leaf) (e ∷ []) move.TakeBack know c.part-2.new.know
    (goes_with know owner c.receive-length.new.self c.receive-length.result c.receive-length.ensures.received
    move.TakeBack e c.enter.new.self.owner.hints.hints c.enter.new.self.owner.book c.receive-length.new.know
    c.part-2.new.know (c.enter.ensures.book ∙ ap (after_append (one.Leaf e)) c.raise_unknown-known.ensures.book)
    c.receive-length.ensures.left c.part-2.ensures.know)
    (ap is_down c.requires.rest.history ∙ sym c.if-down.ensures.down))
