use Rattle.std.proofs.Common.{rules, ◌≡◌, ◌<◌, ◌++◌, ◌^◌, length, sym, ap, ◌∙◌, subst}
use Rattle.std.specs.Prelude.{Some}
use Rattle.history_book.specs.Histories.{IsFor, entries, book_entry_pass}
use Rattle.history_book.specs.Seats.{guest_purse, hand_of, times_range}
use Rattle.history_book.proofs.CallLemmas.{append_with, holds_guests, word_within}
use Rattle.history_book.proofs.books.Book.append.Goals as goal

pub fetch_add-requires : goal.fetch_add-requires
fetch_add-requires g c =
    let table = c.args.self.now in
    let e = g.E.NewEntry.entry in
    let owner_is = sym c.owner.view_is in
    let low = c.owner.invariant.2 in (
      search rules,
      word_within _ _ _ _ (ap (λ z. z.words) table.named ∙ table.shaped) low,
      append_with _ _ _ _ table.sized.0 table.sized.1 _ _ _ _ e low
          (subst (λ o. IsFor o.history e) owner_is c.requires.fits)
          c.owner.invariant.4
          (subst (λ o. length (entries o.seen o.history) < 2 ^ 62) owner_is c.requires.room)
          (subst (λ o. (hand_of (guest_purse o.guest)).own ≡ Some (book_entry_pass e)) owner_is c.requires.number)
          (λ range about. holds_guests range c.owner.inside.seat.me.0
          (subst (λ o. 0 < times_range range (o.held ++ (guest_purse o.guest).holds)) owner_is
          (c.requires.held range about))),
    )
