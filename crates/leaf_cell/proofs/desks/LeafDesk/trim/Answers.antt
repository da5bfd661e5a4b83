use Rattle.std.proofs.Common.{◌≡◌, ◌<◌, ◌≤◌, ℤ, false, Some, [], ◌∷◌, ◌++◌, to_z, of_z, w64, arith, rules}
use Rattle.std.proofs.Common.{refl, sym, ap, subst, ◌∙◌}
use Rattle.history_book.specs.declared.rooms.RoomMove.TheVariants as move
use Rattle.history_book.specs.declared.views.BookEntry.TheVariants as one
use Rattle.history_book.specs.Seats.{HasGuestRoom, Owner, after_append, guest_purse, hand_of, times_range, without_one}
use Rattle.leaf_cell.proofs.PutLemmas.{holds_among}
use Rattle.leaf_cell.proofs.RestLemmas.{rests_gone, rests_trimmed}
use Rattle.mon_value.specs.Histories.{leaf_history}
use Rattle.mon_value.specs.LeafHistories.{MayFollow, is_down}
use Rattle.mon_value.specs.declared.histories.Entry.{Entry}
use Rattle.mon_value.specs.declared.histories.Entry.TheVariants as entry
use Rattle.owners.proofs.CalledLemmas.{about_here, finds_down, finds_up, goes, goes_with, has_room}
use Rattle.owners.proofs.EntryLemmas.{may_trim}
use Rattle.owners.specs.Calls.{HasFoundUp}
use Rattle.owners.specs.Owners as owners
use Rattle.owners.specs.Puts.{pass_of}
use Rattle.owners.specs.Receiving.{parted}
use Rattle.leaf_cell.proofs.desks.LeafDesk.trim.Goals as goal

-- ---- the leaf is down

pub cancel-requires : goal.cancel-requires
cancel-requires g c = record {
  promised = omega (arith, c.requires.may.room, c.receive-length.ensures.received.promised, c.requires.rest.promised);
}

pub part-requires : goal.part-requires
part-requires g c = record {
  take_back = λ _. has_room c.args.know.now c.args.self.now.owner c.receive-length.new.self c.receive-length.result
      c.receive-length.ensures.received c.requires.may.room;
}

pub returns-then-down-clause-rest : goal.returns-then-down-clause-rest
returns-then-down-clause-rest g c =
    let state = c.args.self.now.state in
    let owner = c.args.self.now.owner in
    rests_gone g.N.Names.setting g.N.RaiseName.raise owner.leaf.0 state owner c.receive-length.new.self
    c.args.know.now c.receive-length.result c.requires.rest c.receive-length.ensures.received move.TakeBack
    c.cancel.new.self c.part.new.self c.cancel.ensures.cancelled c.part.ensures.parted

pub returns-then-down-clause-trimmed : goal.returns-then-down-clause-trimmed
returns-then-down-clause-trimmed g c =
    let owner = c.args.self.now.owner in
    let know = c.args.know.now in
    let came = c.receive-length.ensures.received in
    finds_down owner.leaf (leaf_history owner.book.seen owner.leaf) move.TakeBack know c.part.new.know
    (goes know owner c.receive-length.new.self c.receive-length.result came move.TakeBack c.receive-length.new.know
    c.part.new.know c.receive-length.ensures.left c.part.ensures.know)
    c.receive-length.result (ap is_down c.requires.rest.history ∙ sym c.if-down.ensures.down) came.counted

-- ---- the bound goes in

pub enter-requires : goal.enter-requires
enter-requires g c =
    let state = c.args.self.now.state in
    let owner = c.args.self.now.owner in
    let know = c.args.know.now in
    let now = c.receive-length.new.self in
    let came = c.receive-length.ensures.received in
    let may = c.requires.may in
    let pass = c.in-Some.pass in
    let before : ℤ = to_z w64 (of_z w64 c.args.before) in
    let e : Entry = entry.Trim pass c.args.range c.args.slot before in
    let here = leaf_history owner.book.seen owner.leaf in
    let up : is_down here ≡ false = ap is_down c.requires.rest.history ∙ sym c.if-down.ensures.down in
    let there : MayFollow here e =
    may_trim c.args.range c.args.slot here (leaf_history know.seen owner.leaf)
    (about_here know owner now c.receive-length.result came c.args.range may.holds) pass before up may.seen.opened in
    let room : 1 ≤ state.promised = omega (arith, may.room, came.promised, c.requires.rest.promised) in
    record {
      named = refl;
      history = ap (leaf_history now.book.seen) came.leaf ∙ came.whole ∙ c.requires.rest.history;
      may = subst (λ h. MayFollow h e) c.requires.rest.history there;
      home = tt;
      leads = λ bucket brings lacks. absurd cc;
      promised = λ _. room;
      known = tt;
      number = ap (λ (o : Owner). (hand_of (guest_purse o.guest)).own) came.book ∙ sym c.in-Some.ensures.number;
      held = λ range same. subst (λ (o : Owner). 0 < times_range range (o.held ++ (guest_purse o.guest).holds))
          (sym came.book) (holds_among range c.args.range owner.book.held know.purse.holds same may.holds);
    }

pub part-requires-2 : goal.part-requires-2
part-requires-2 g c =
    let before : ℤ = to_z w64 (of_z w64 c.args.before) in
    let e : Entry = entry.Trim c.in-Some.pass c.args.range c.args.slot before in
    let grown = c.enter.ensures.book ∙ ap (after_append (one.Leaf e)) c.receive-length.ensures.received.book in
    record {
      take_back = λ _. subst HasGuestRoom (sym grown)
          (c.args.self.now.owner.leaf, c.receive-length.ensures.received.own, c.requires.may.room);
    }

pub returns-clause-rest : goal.returns-clause-rest
returns-clause-rest g c =
    let state = c.args.self.now.state in
    let owner = c.args.self.now.owner in
    let now = c.receive-length.new.self in
    let came = c.receive-length.ensures.received in
    let before : ℤ = to_z w64 (of_z w64 c.args.before) in
    let e : Entry = entry.Trim c.in-Some.pass c.args.range c.args.slot before in
    let then_owner : c.enter.new.self.owner ≡ owners.leaf_owner owner.leaf now.hints (after_append (one.Leaf e) now.book) =
    λ i. record {
      leaf = (c.enter.ensures.leaf ∙ came.leaf) i;
      hints = c.enter.ensures.hints i;
      book = c.enter.ensures.book i;
    } in
    rests_trimmed g.N.Names.setting g.N.RaiseName.raise owner.leaf.0 state owner now c.args.know.now
    c.receive-length.result c.requires.rest came c.in-Some.pass c.args.range c.args.slot before
    c.enter.new.self.state c.part-2.new.self c.enter.ensures.state
    (c.part-2.ensures.parted ∙ ap (parted move.TakeBack) then_owner)

pub returns-clause-trimmed : goal.returns-clause-trimmed
returns-clause-trimmed g c =
    let owner = c.args.self.now.owner in
    let know = c.args.know.now in
    let before : ℤ = to_z w64 (of_z w64 c.args.before) in
    let e : Entry = entry.Trim c.in-Some.pass c.args.range c.args.slot before in
    let number : Some c.in-Some.pass ≡ (hand_of know.purse).own = c.in-Some.ensures.number in
    let mine = c.requires.may.number in
    let same : c.in-Some.pass ≡ pass_of know = cc in
    let bound : before ≡ c.args.before = search rules in
    subst (λ (last : Entry). HasFoundUp owner.leaf (last ∷ []) (without_one owner.leaf know.purse.rooms) know
    c.part-2.new.know) (λ i. entry.Trim (same i) c.args.range c.args.slot (bound i))
    (finds_up owner.leaf (leaf_history owner.book.seen owner.leaf) (e ∷ []) move.TakeBack know c.part-2.new.know
    (goes_with know owner c.receive-length.new.self c.receive-length.result c.receive-length.ensures.received
    move.TakeBack e c.enter.new.self.owner.hints.hints c.enter.new.self.owner.book c.receive-length.new.know
    c.part-2.new.know c.enter.ensures.book c.receive-length.ensures.left c.part-2.ensures.know)
    (ap is_down c.requires.rest.history ∙ sym c.if-down.ensures.down))
