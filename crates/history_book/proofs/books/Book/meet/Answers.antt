use Rattle.std.proofs.Common.{sym, ap, subst}
use Rattle.mon_value.specs.declared.histories.Histories.{Histories}
use Rattle.history_book.specs.Histories.{AreFronts}
use Rattle.history_book.proofs.books.Book.meet.Goals as goal

pub returns-clause-fronts : goal.returns-clause-fronts
returns-clause-fronts g c =
    let united = c.unite.ensures.united in
    let mine = ap (λ s. s.seen) c.seat.view_is in
    let theirs = ap (λ s. s.seen) c.other.view_is in
    let both = sym (ap (λ m. m.0.seen) c.unite.ensures.met) in (
      subst (λ (z : Histories × Histories). AreFronts z.0 z.1) (λ i. (mine i, both i)) united.mine,
      subst (λ (z : Histories × Histories). AreFronts z.0 z.1) (λ i. (theirs i, both i)) united.theirs,
    )
