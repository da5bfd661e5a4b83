use Rattle.std.proofs.Common.{sym, subst, ◌∙◌}
use Rattle.std.specs.Prelude.{All}
use Rattle.std.proofs.lemmas.List.Elements.{All-pop}
use Rattle.thread_cases.proofs.HistoryLemmas.{IsNew, owners_are_new}
use Rattle.thread_cases.proofs.histories.last_owner.Goals as goal

pub returns : goal.returns
returns g c =
    let book = g.N.BookName.book in
    let all = subst (All IsNew) (sym (c.into_vec.ensures.items ∙ c.requires.new))
    (owners_are_new book.leaves book.ranges c.requires.no_range) in
    record { new = (All-pop IsNew _ _ _ c.pop.ensures.items all).1 }
