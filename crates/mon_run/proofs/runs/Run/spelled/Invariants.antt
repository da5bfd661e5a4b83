use Rattle.mon_store.specs.Stores.{setting_of}
use Rattle.mon_run.proofs.runs.Run.spelled.Given as goal

-- the tables that were just made, and what the store is set up with
abbrev pub ghosts-under_name-N-RaiseName : goal.ghosts-under_name-N-RaiseName
ghosts-under_name-N-RaiseName g a = record { raise = a.blank.raise }

abbrev pub ghosts-under_name-N-BookName : goal.ghosts-under_name-N-BookName
ghosts-under_name-N-BookName g a = record { book = a.blank.book }

abbrev pub ghosts-under_name-N-Names : goal.ghosts-under_name-N-Names
ghosts-under_name-N-Names g a = record { setting = setting_of a.blank.config }
