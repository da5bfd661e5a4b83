use Rattle.mon_value.specs.declared.histories.Entry.TheVariants as entry
use Rattle.history_book.specs.declared.views.BookEntry.TheVariants as one
use Rattle.thread_cases.proofs.histories.put.Given as goal

abbrev pub ghosts-put : goal.ghosts-put
ghosts-put g a = record { entry = one.Leaf (entry.Down a.pass) }
