-- How a query ends, by what its caller had seen and noted at entry, and has at exit.
use Rattle.std.specs.Prelude.{◌≡◌, ◌≤◌, ℕ, ℤ, true, false, List, [], ◌∷◌, ◌++◌, length, take, Contains, Result, Ok, Err}
use Rattle.std.specs.Prelude.{if◌then◌else◌}
use Rattle.std.specs.List.{AllByRecursion, sum}
use Rattle.history_book.specs.Seats.{length_note}
use Rattle.history_book.specs.declared.views.LengthNote.{LengthNote}
use Rattle.know.specs.Knowledge.{Knowledge}
use Rattle.mon_topo.specs.RangeHistories.{serving, is_avoided}
use Rattle.mon_topo.specs.Settings.{Setting}
use Rattle.mon_value.specs.Histories.{leaf_history, leaf_numbered, range_history}
use Rattle.mon_value.specs.LeafHistories.{IsDownAt, is_down}
use Rattle.mon_value.specs.declared.histories.Histories.{Histories}
use Rattle.mon_value.specs.declared.positions.FoundDown.{FoundDown}
use Rattle.mon_value.specs.declared.positions.Leaf.{Leaf}
use Rattle.mon_value.specs.declared.positions.Range.{Range}
use Rattle.query_traces.specs.Answers.{IsAnsweredRightly, IsStoppedRightly}
use Rattle.query_traces.specs.Founds.{found_down, HasNoReplica}
use Rattle.query_traces.specs.Rounds.{QuerySetting}
use Rattle.query_core.specs.ToldDowns.{NamesAll}
use Rattle.query_traces.specs.Traces.{found_leaves}
use Rattle.query_traces.specs.declared.answers.Answer.{Answer}
use Rattle.query_traces.specs.declared.answers.RoundFault.{RoundFault}
use Rattle.query_traces.specs.declared.answers.RoundFault.TheVariants as fault
use Rattle.query_traces.specs.declared.answers.Trace.{Trace}
use Rattle.running_query.specs.InOrder.{LooksInOrder}
use Rattle.running_query.specs.Notes.{IsHanded, range_number}

-- ---- what was found in a call

-- A leaf was found down in the call: a length was noted in it, no less than what had been seen of the leaf before, at
-- which the leaf was down
pub record WasFoundDown (before after : Knowledge) (leaf : Leaf) (cut : ℕ) : Type 0 where
  pub more : List LengthNote
  pub notes : after.purse.notes ≡ before.purse.notes ++ more
  pub noted : Contains more (length_note leaf.0 cut)
  pub from : length (leaf_history before.seen leaf) ≤ cut
  pub down : IsDownAt (leaf_history after.seen leaf) cut

-- it was found up
pub record WasFoundUp (before after : Knowledge) (leaf : Leaf) (cut : ℕ) : Type 0 where
  pub more : List LengthNote
  pub notes : after.purse.notes ≡ before.purse.notes ++ more
  pub noted : Contains more (length_note leaf.0 cut)
  pub from : length (leaf_history before.seen leaf) ≤ cut
  pub seen_by_then : cut ≤ length (leaf_history after.seen leaf)
  pub up : is_down (take cut (leaf_history after.seen leaf)) ≡ false

abbrev pub WereFoundDown : Knowledge → Knowledge → List FoundDown → Type 0
WereFoundDown before after founds =
    AllByRecursion (λ (found : FoundDown). WasFoundDown before after found.leaf found.cut) founds

-- the leaf that a note tells of, where it was down at that length
abbrev pub down_noted : Histories → LengthNote → List FoundDown
down_noted seen note =
    if is_down (take note.length (leaf_history seen (leaf_numbered note.history)))
    then found_down (leaf_numbered note.history) note.length ∷ [] else []

-- those that notes tell of, in their order
abbrev pub downs_noted : Histories → List LengthNote → List FoundDown
downs_noted seen [] = []
downs_noted seen (note ∷ notes) = down_noted seen note ++ downs_noted seen notes

-- An end names each leaf that was found down in the call, in the order in which they were found, or, where a range has no
-- replica, each of its zone
pub record NamesAllFound (store : Setting) (before after : Knowledge) (end : Result Answer RoundFault) : Type 0 where
  pub more : List LengthNote
  pub notes : after.purse.notes ≡ before.purse.notes ++ more
  pub named : NamesAll store.zones (downs_noted after.seen more) end

-- At the last length that the call noted, each replica of a range that serves is on a leaf that is named
pub record IsLeftWithout (store : Setting) (before after : Knowledge) (range : Range) (named : List FoundDown)
    : Type 0 where
  pub more : List LengthNote
  pub notes : after.purse.notes ≡ before.purse.notes ++ more
      ++ length_note (range_number store range) (length (range_history after.seen range)) ∷ []
  pub all_down : AllByRecursion (λ replica. is_avoided (found_leaves named) replica ≡ true)
      (serving (range_history after.seen range))

-- ---- the ends

module _ (store : Setting) (setting : QuerySetting) (moment : ℤ) (entry exit : Knowledge) where
  -- a table is what the query means over the rows of its trace; the leaves of its trace that are down are those that were
  -- found so in the call; where none is, as much was handed out as the trace says
  pub record HasAnswered (answer : Answer) : Type 0 where
    pub rightly : IsAnsweredRightly store setting moment entry.seen exit.seen answer
    pub down : WereFoundDown entry exit answer.trace.down
    pub found : NamesAllFound store entry exit (Ok answer)
    pub order : LooksInOrder store setting entry exit (Ok answer)
    pub handed : answer.trace.down ≡ [] → IsHanded entry.handed (sum answer.trace.sent) exit.handed

  -- a query stops for its load only where the load over the rows of its trace is above the limit
  pub record HasStopped (limit : ℕ) (trace : Trace) : Type 0 where
    pub rightly : IsStoppedRightly store setting moment entry.seen exit.seen limit trace
    pub down : WereFoundDown entry exit trace.down
    pub found : NamesAllFound store entry exit (Err (fault.StepLimit limit trace))
    pub order : LooksInOrder store setting entry exit (Err (fault.StepLimit limit trace))

  -- it finds no replica of a range only where each that serves is on a leaf that is named: one of the range's zone that was
  -- found down in the call
  pub record HasFoundNone (range : Range) (named : List FoundDown) : Type 0 where
    pub rightly : HasNoReplica store.zones entry.seen exit.seen range named
    pub down : WereFoundDown entry exit named
    pub found : NamesAllFound store entry exit (Err (fault.NoReplica range named))
    pub order : LooksInOrder store setting entry exit (Err (fault.NoReplica range named))
    pub last : IsLeftWithout store entry exit range named

  abbrev pub EndsRightly : Result Answer RoundFault → Type 0
  EndsRightly (Ok answer) = HasAnswered answer
  EndsRightly (Err (fault.StepLimit limit trace)) = HasStopped limit trace
  EndsRightly (Err (fault.NoReplica range named)) = HasFoundNone range named
