-- What a line of a script did, by what its caller knew before it and knows behind it.
use Rattle.std.specs.Prelude.{◌≡◌, ◌++◌, ℕ, List, length}
use Rattle.history_book.specs.Histories.{entries}
use Rattle.history_book.specs.Seats.{hand_of, times_lost}
use Rattle.history_book.specs.declared.views.BookEntry.{BookEntry}
use Rattle.history_book.specs.declared.views.History.{History}
use Rattle.know.specs.Knowledge.{Knowledge}
use Rattle.line_runs.specs.declared.lines.LineRan.{LineRan}
use Rattle.mon_config.specs.declared.config.Config.{Config}
use Rattle.mon_store.specs.Writes.{own_entries}
use Rattle.owners.specs.Puts.{pass_of}
use Rattle.run_traces.specs.LineClaims.{Finds, HaveGrown, Makes}
use Rattle.run_traces.specs.LineTexts.{line_text}
use Rattle.run_traces.specs.RanLines.{OwnPlace, RanLine}
use Rattle.run_traces.specs.declared.line_files.LineFiles.{LineFiles}
use Rattle.run_traces.specs.declared.traces.LineTrace.{LineTrace}
use Rattle.mon_script.specs.declared.forms.LineForm.{LineForm}

-- a line that ran: what it says, what its files hold, what it came to, and the places of those entries of its own that
-- aren't told by what it came to
abbrev pub ran_line : LineForm → LineFiles → LineTrace → List OwnPlace → RanLine
ran_line what content trace own = record { what = what; content = content; trace = trace; own = own }

-- The caller's number, the numbers that it met, those that it can hand out and those that nobody can are as before, and
-- all that it had seen is seen
pub record KeepsItsPlace (before after : Knowledge) : Type 0 where
  pub grown : HaveGrown before.seen after.seen
  pub number : (hand_of after.purse).own ≡ (hand_of before.purse).own
  pub met : after.purse.met ≡ before.purse.met
  pub stock : after.purse.stock ≡ before.purse.stock
  pub lost : (n : ℕ) → times_lost n after.purse ≡ times_lost n before.purse

-- Under its caller's number a line made just these entries, and nothing else was added under it; what it found stands
-- between what its caller had seen before it and has seen behind it; and this is what it prints
pub record LineWrote (config : Config) (line : RanLine) (text : List ℕ) (before after : Knowledge) : Type 0 where
  pub keeps : KeepsItsPlace before after
  pub made : History → List BookEntry
  pub makes : Makes config (pass_of before) line made
  pub own : (history : History)
      → own_entries after.purse.own history ≡ own_entries before.purse.own history ++ made history
  pub found : Finds config after.seen (λ history. length (entries before.seen history))
      (λ history. length (entries after.seen history)) (pass_of before) line
  pub prints : text ≡ line_text config after.seen line

-- A line ran so, with the places of its own entries: those of a trim and of a retirement
pub record LineRanSo (config : Config) (what : LineForm) (content : LineFiles) (ran : LineRan) (before after : Knowledge)
    : Type 0 where
  pub own : List OwnPlace
  pub wrote : LineWrote config (ran_line what content ran.trace own) ran.text before after
