use Rattle.mon_store.specs.Stores.{setting_of}
use Rattle.store_cases.proofs.scenarios.holds_once.Given as goal

-- the tables of the blank
abbrev pub ghosts-holds_in-N-RaiseName : goal.ghosts-holds_in-N-RaiseName
ghosts-holds_in-N-RaiseName g a = record { raise = a.blank.raise }

abbrev pub ghosts-holds_in-N-BookName : goal.ghosts-holds_in-N-BookName
ghosts-holds_in-N-BookName g a = record { book = a.blank.book }

-- and what its configuration sets a store up with
abbrev pub ghosts-holds_in-N-Names : goal.ghosts-holds_in-N-Names
ghosts-holds_in-N-Names g a = record { setting = setting_of a.blank.config }
