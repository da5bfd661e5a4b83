use Rattle.std.proofs.Common.{rules, ap, ◌∙◌, subst}
use Rattle.std.specs.Prelude.{true, false}
use Rattle.history_book.specs.declared.rooms.RoomMove.TheVariants as move
use Rattle.history_book.specs.Seats.{guest_purse}
use Rattle.history_book.specs.Steps.{CanGiveBack, own_history}
use Rattle.history_book.proofs.CallLemmas.{has_words}
use Rattle.history_book.proofs.PlayLemmas.{splits_part}
use Rattle.history_book.proofs.books.Book.part.Goals as goal

pub split_seat-requires : goal.split_seat-requires
split_seat-requires g c =
    let table = c.args.self.now in (
      search rules,
      has_words _ _ _ (ap (λ z. z.words) table.named ∙ table.shaped),
      splits_part _ _ _ _ move.Make true _ c.requires.owner tt,
    )

pub split_seat-requires-in-Make-2 : goal.split_seat-requires-in-Make-2
split_seat-requires-in-Make-2 g c =
    let table = c.args.self.now in (
      search rules,
      has_words _ _ _ (ap (λ z. z.words) table.named ∙ table.shaped),
      splits_part _ _ _ _ move.Make false _ c.requires.owner tt,
    )

pub split_seat-requires-in-Keep : goal.split_seat-requires-in-Keep
split_seat-requires-in-Keep g c =
    let table = c.args.self.now in (
      search rules,
      has_words _ _ _ (ap (λ z. z.words) table.named ∙ table.shaped),
      splits_part _ _ _ _ move.Keep true _ c.requires.owner tt,
    )

pub split_seat-requires-in-Keep-2 : goal.split_seat-requires-in-Keep-2
split_seat-requires-in-Keep-2 g c =
    let table = c.args.self.now in (
      search rules,
      has_words _ _ _ (ap (λ z. z.words) table.named ∙ table.shaped),
      splits_part _ _ _ _ move.Keep false _ c.requires.owner tt,
    )

pub split_seat-requires-in-TakeBack : goal.split_seat-requires-in-TakeBack
split_seat-requires-in-TakeBack g c =
    let table = c.args.self.now in
    let seat = c.args.seat.now.me.0 in
    let room = subst (λ by. CanGiveBack by (own_history seat.owns) (guest_purse seat.purse).rooms) c.in-TakeBack.is
    c.requires.room in (
      search rules,
      has_words _ _ _ (ap (λ z. z.words) table.named ∙ table.shaped),
      splits_part _ _ _ _ move.TakeBack true _ c.requires.owner room,
    )

pub split_seat-requires-in-TakeBack-2 : goal.split_seat-requires-in-TakeBack-2
split_seat-requires-in-TakeBack-2 g c =
    let table = c.args.self.now in
    let seat = c.args.seat.now.me.0 in
    let room = subst (λ by. CanGiveBack by (own_history seat.owns) (guest_purse seat.purse).rooms) c.in-TakeBack-2.is
    c.requires.room in (
      search rules,
      has_words _ _ _ (ap (λ z. z.words) table.named ∙ table.shaped),
      splits_part _ _ _ _ move.TakeBack false _ c.requires.owner room,
    )
