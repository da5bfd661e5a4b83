use Rattle.thread_cases.proofs.histories.two_threads_append.Given as goal

-- the book that was just made
abbrev pub ghosts-in_two_threads : goal.ghosts-in_two_threads
ghosts-in_two_threads g a = record { book = a.blank }
