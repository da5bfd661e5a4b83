use Rattle.std.proofs.Common.{◌≡◌, ℕ, ◌<◌, ◌≤◌, filter, sym, ap, ◌∙◌, subst}
use Rattle.mon_value.specs.declared.histories.Histories.{Histories}
use Rattle.history_book.specs.Histories.{AreFronts, entries, is_about}
use Rattle.history_book.specs.Seats.{times_range, times_room}
use Rattle.history_book.proofs.CallLemmas.{first_held, guest_rooms_promised, lent_is_held, mine_is_held}
use Rattle.history_book.proofs.books.Book.meet_owner.Goals as goal

pub returns-clause-fronts : goal.returns-clause-fronts
returns-clause-fronts g c =
    let united = c.unite.ensures.united in
    let mine = ap (λ s. s.seen) c.owner.view_is in
    let theirs = ap (λ s. s.seen) c.other.view_is in
    let both = sym (ap (λ m. m.0.seen) c.unite.ensures.met) in (
      subst (λ (z : Histories × Histories). AreFronts z.0 z.1) (λ i. (mine i, both i)) united.mine,
      subst (λ (z : Histories × Histories). AreFronts z.0 z.1) (λ i. (theirs i, both i)) united.theirs,
    )

pub returns-clause-kept : goal.returns-clause-kept
returns-clause-kept g c range history mine =
    let v = c.owner.inside.seat.me.0 in
    let u = c.other.inside.seat.me.0 in
    let mine' = subst (λ s. 0 < times_range range s.held) (sym c.owner.view_is) mine in
    let told = c.unite.ensures.united.kept range history (first_held range v mine') (mine_is_held range v u mine') in
    let own = ap (λ s. s.seen) c.owner.view_is in
    let both = sym (ap (λ m. m.0.seen) c.unite.ensures.met) in
    subst (λ (z : Histories × Histories). filter (is_about range) (entries z.0 history) ≡ filter
    (is_about range) (entries z.1 history)) (λ i. (both i, own i)) told

pub returns-clause-held : goal.returns-clause-held
returns-clause-held g c range history lent =
    let v = c.owner.inside.seat.me.0 in
    let u = c.other.inside.seat.me.0 in
    let lent' = subst (λ s. 0 < times_range range s.purse.holds) (sym c.other.view_is) lent in
    let told = c.unite.ensures.united.lent range history lent' (lent_is_held range v u lent') in
    let theirs = ap (λ s. s.seen) c.other.view_is in
    let both = sym (ap (λ m. m.0.seen) c.unite.ensures.met) in
    subst (λ (z : Histories × Histories). filter (is_about range) (entries z.0 history) ≡ filter
    (is_about range) (entries z.1 history)) (λ i. (both i, theirs i)) told

pub returns-clause-promised : goal.returns-clause-promised
returns-clause-promised g c leaf is =
    let v = c.owner.inside.seat.me.0 in
    let u = c.other.inside.seat.me.0 in
    let leaves = g.N.BookName.book.leaves in
    let own = ap (λ s. s.history) c.owner.view_is in
    let most = guest_rooms_promised leaves c.owner.inside.number leaf v u c.owner.invariant.4
    (own ∙ is) c.unite.ensures.promised in
    let rooms = ap (λ s. times_room leaf s.purse.rooms) c.other.view_is in
    let promised = ap (λ m. m.0.promised) c.unite.ensures.met in
    subst (λ (z : ℕ × ℕ). z.0 ≤ z.1) (λ i. (rooms i, sym promised i)) most
