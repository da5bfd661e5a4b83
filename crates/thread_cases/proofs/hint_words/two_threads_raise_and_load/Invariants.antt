use Rattle.thread_cases.proofs.hint_words.two_threads_raise_and_load.Given as goal

-- the table that was just made
abbrev pub ghosts-in_two_threads : goal.ghosts-in_two_threads
ghosts-in_two_threads g a = record { raise = a.blank }
