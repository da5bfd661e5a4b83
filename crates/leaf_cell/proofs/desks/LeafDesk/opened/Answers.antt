use Rattle.std.proofs.Common.{◌≡◌, ◌+◌, ◌<◌, ◌≤◌, ℕ, true, false, Some, [], ◌∷◌, ◌++◌, List, rules, arith, refl, sym, ap}
use Rattle.std.proofs.Common.{subst, ◌∙◌}
use Rattle.history_book.specs.declared.rooms.RoomMove.TheVariants as move
use Rattle.history_book.specs.declared.views.BookEntry.TheVariants as one
use Rattle.history_book.specs.Seats.{Owner, after_append, guest_purse, hand_of, times_range}
use Rattle.leaf_cell.proofs.OpenedLemmas.{opened_unraised, rests_with_opened}
use Rattle.leaf_cell.proofs.PutLemmas.{holds_among}
use Rattle.leaf_cell.proofs.RestLemmas.{rests_gone}
use Rattle.leaf_cell.specs.Raising.{HasRaisedRow, rows_unraised}
use Rattle.leaf_cell.specs.Rest.{GoesBy}
use Rattle.leaf_store.specs.LeafStates as store
use Rattle.mon_hints.specs.Hints.{history_buckets}
use Rattle.mon_hints.specs.Formulas.{is_among}
use Rattle.mon_value.specs.Histories.{leaf_history}
use Rattle.mon_value.specs.LeafHistories.{MayFollow, is_down, is_opened}
use Rattle.mon_value.specs.declared.histories.Entry.{Entry}
use Rattle.mon_value.specs.declared.histories.Entry.TheVariants as entry
use Rattle.mon_value.specs.declared.rows.Row.{Row}
use Rattle.owners.proofs.CalledLemmas.{about_here, finds_down, finds_up, goes, goes_with, looks}
use Rattle.owners.proofs.EntryLemmas.{same_opened}
use Rattle.owners.specs.Calls.{HasFoundUp}
use Rattle.owners.specs.Owners as owners
use Rattle.owners.specs.Puts.{pass_of}
use Rattle.owners.specs.Receiving.{parted}
use Rattle.leaf_cell.proofs.desks.LeafDesk.opened.Goals as goal

-- ---- the leaf is down

pub returns-then-down-clause-rest : goal.returns-then-down-clause-rest
returns-then-down-clause-rest g c =
    let state = c.args.self.now.state in
    let owner = c.args.self.now.owner in
    rests_gone g.N.Names.setting g.N.RaiseName.raise owner.leaf.0 state owner c.receive-length.new.self
    c.args.know.now c.receive-length.result c.requires.rest c.receive-length.ensures.received move.Keep state
    c.part.new.self refl c.part.ensures.parted

pub returns-then-down-clause-opened : goal.returns-then-down-clause-opened
returns-then-down-clause-opened g c =
    let owner = c.args.self.now.owner in
    let know = c.args.know.now in
    let came = c.receive-length.ensures.received in
    finds_down owner.leaf (leaf_history owner.book.seen owner.leaf) move.Keep know c.part.new.know
    (goes know owner c.receive-length.new.self c.receive-length.result came move.Keep c.receive-length.new.know
    c.part.new.know c.receive-length.ensures.left c.part.ensures.know)
    c.receive-length.result (ap is_down c.requires.rest.history ∙ sym c.if-down.ensures.down) came.counted

-- ---- memory is refused

pub returns-then-is_err-clause-rest : goal.returns-then-is_err-clause-rest
returns-then-is_err-clause-rest g c =
    let state = c.args.self.now.state in
    let owner = c.args.self.now.owner in
    let same : c.reserve_opened.new.self ≡ state = search rules in
    rests_gone g.N.Names.setting g.N.RaiseName.raise owner.leaf.0 state owner c.receive-length.new.self
    c.args.know.now c.receive-length.result c.requires.rest c.receive-length.ensures.received move.Keep
    c.reserve_opened.new.self c.part-then-is_err.new.self same c.part-then-is_err.ensures.parted

pub returns-then-is_err-clause-refused : goal.returns-then-is_err-clause-refused
returns-then-is_err-clause-refused g c =
    let owner = c.args.self.now.owner in
    let know = c.args.know.now in
    looks owner.leaf (leaf_history owner.book.seen owner.leaf) move.Keep know c.part-then-is_err.new.know
    (goes know owner c.receive-length.new.self c.receive-length.result c.receive-length.ensures.received move.Keep
    c.receive-length.new.know c.part-then-is_err.new.know c.receive-length.ensures.left
    c.part-then-is_err.ensures.know)

-- ---- the replica opens

pub raise_rows-requires : goal.raise_rows-requires
raise_rows-requires g c =
    let state = c.args.self.now.state in
    let promised : c.reserve_opened.new.self ≡ store.with_promised state (state.promised + 1) = search rules in
    let by = c.requires.rest.goes_by in
    record {
      goes_by = subst (GoesBy g.N.Names.setting g.N.RaiseName.raise) (sym promised)
          (record { schemas = by.schemas; number = by.number; buckets = by.buckets });
    }

pub enter-requires : goal.enter-requires
enter-requires g c =
    let setting = g.N.Names.setting in
    let state = c.args.self.now.state in
    let owner = c.args.self.now.owner in
    let know = c.args.know.now in
    let now = c.receive-length.new.self in
    let came = c.receive-length.ensures.received in
    let may = c.requires.may in
    let range = c.args.range in
    let slot = c.args.slot in
    let rows = c.args.rows in
    let pass = c.in-Some.pass in
    let e : Entry = entry.Opened pass range slot rows in
    let reserved : store.LeafView = store.with_promised state (state.promised + 1) in
    let promised : c.reserve_opened.new.self ≡ reserved = search rules in
    let there : c.raise_rows.new.self.state ≡ reserved = c.raise_rows.ensures.state ∙ promised in
    let items : c.as_slice.result.now ≡ rows = search rules in
    let here = leaf_history owner.book.seen owner.leaf in
    let up : is_down here ≡ false = ap is_down c.requires.rest.history ∙ sym c.if-down.ensures.down in
    let new : is_opened range slot here ≡ false =
    same_opened range slot here (leaf_history know.seen owner.leaf)
    (about_here know owner now c.receive-length.result came range may.holds) ∙ may.new in
    let follows : MayFollow here e = (up, new, may.source) in
    let booked = c.raise_rows.ensures.book ∙ came.book in
    record {
      named = refl;
      history = (λ i. leaf_history (c.raise_rows.ensures.book i).seen ((c.raise_rows.ensures.leaf ∙ came.leaf) i))
          ∙ came.whole ∙ c.requires.rest.history ∙ ap (λ (s : store.LeafView). s.history) (sym there);
      may = subst (λ (s : store.LeafView). MayFollow s.history e) (sym there)
          (subst (λ h. MayFollow h e) c.requires.rest.history follows);
      home = may.home;
      leads = λ bucket among lacks. c.raise_rows.ensures.leads bucket
          (subst (λ (s : store.LeafView). rows_unraised s.buckets s.schemas s.history c.as_slice.result.now bucket ≡ true)
          (sym promised)
          (subst (λ (some : List Row). rows_unraised state.buckets state.schemas state.history some bucket ≡ true)
          (sym items)
          (opened_unraised setting g.N.RaiseName.raise state c.requires.rest.goes_by pass range slot rows bucket among
          (subst (λ (s : store.LeafView). is_among bucket (history_buckets setting.buckets_of s.history) ≡ false)
          there lacks))));
      promised = λ no. subst (λ (s : store.LeafView). 1 ≤ s.promised) (sym there) (omega arith);
      known = tt;
      number = ap (λ (o : Owner). (hand_of (guest_purse o.guest)).own) booked ∙ sym c.in-Some.ensures.number;
      held = λ other same. subst (λ (o : Owner). 0 < times_range other (o.held ++ (guest_purse o.guest).holds))
          (sym booked) (holds_among other range owner.book.held know.purse.holds same may.holds);
    }

pub returns-clause-rest : goal.returns-clause-rest
returns-clause-rest g c =
    let state = c.args.self.now.state in
    let owner = c.args.self.now.owner in
    let now = c.receive-length.new.self in
    let came = c.receive-length.ensures.received in
    let e : Entry = entry.Opened c.in-Some.pass c.args.range c.args.slot c.args.rows in
    let known = c.raise_rows.new.self.owner.hints in
    let reserved : store.LeafView = store.with_promised state (state.promised + 1) in
    let promised : c.reserve_opened.new.self ≡ reserved = search rules in
    let there : c.raise_rows.new.self.state ≡ reserved = c.raise_rows.ensures.state ∙ promised in
    let items : c.as_slice.result.now ≡ c.args.rows = search rules in
    let raised : HasRaisedRow (rows_unraised state.buckets state.schemas state.history c.args.rows) now.hints known =
    subst (λ (some : List Row). HasRaisedRow (rows_unraised state.buckets state.schemas state.history some) now.hints
    known) items
    (subst (λ (s : store.LeafView). HasRaisedRow (rows_unraised s.buckets s.schemas s.history c.as_slice.result.now)
    now.hints known) promised c.raise_rows.ensures.raised) in
    let then_owner : c.enter.new.self.owner ≡ owners.leaf_owner owner.leaf known (after_append (one.Leaf e) now.book) =
    λ i. record {
      leaf = (c.enter.ensures.leaf ∙ c.raise_rows.ensures.leaf ∙ came.leaf) i;
      hints = c.enter.ensures.hints i;
      book = (c.enter.ensures.book ∙ ap (after_append (one.Leaf e)) c.raise_rows.ensures.book) i;
    } in
    rests_with_opened g.N.Names.setting g.N.RaiseName.raise owner.leaf.0 state owner now c.args.know.now
    c.receive-length.result c.requires.rest came c.in-Some.pass c.args.range c.args.slot c.args.rows known raised
    c.enter.new.self.state c.part-2.new.self
    (c.enter.ensures.state ∙ ap (λ (s : store.LeafView). store.leaf_with_entry s e) there)
    (c.part-2.ensures.parted ∙ ap (parted move.Keep) then_owner)

pub returns-clause-opened : goal.returns-clause-opened
returns-clause-opened g c =
    let owner = c.args.self.now.owner in
    let know = c.args.know.now in
    let e : Entry = entry.Opened c.in-Some.pass c.args.range c.args.slot c.args.rows in
    let number : Some c.in-Some.pass ≡ (hand_of know.purse).own = c.in-Some.ensures.number in
    let mine = c.requires.may.number in
    let same : c.in-Some.pass ≡ pass_of know = cc in
    subst (λ (pass : ℕ). HasFoundUp owner.leaf (entry.Opened pass c.args.range c.args.slot c.args.rows ∷ [])
    know.purse.rooms know c.part-2.new.know) same
    (finds_up owner.leaf (leaf_history owner.book.seen owner.leaf) (e ∷ []) move.Keep know c.part-2.new.know
    (goes_with know owner c.receive-length.new.self c.receive-length.result c.receive-length.ensures.received
    move.Keep e c.enter.new.self.owner.hints.hints c.enter.new.self.owner.book c.receive-length.new.know
    c.part-2.new.know (c.enter.ensures.book ∙ ap (after_append (one.Leaf e)) c.raise_rows.ensures.book)
    c.receive-length.ensures.left c.part-2.ensures.know)
    (ap is_down c.requires.rest.history ∙ sym c.if-down.ensures.down))
