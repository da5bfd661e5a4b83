-- Why lines and rows were refused: each has its cause in the histories at the end, at lengths in its place.
use Rattle.std.specs.Prelude.{◌≡◌, ◌<◌, ◌+◌, ◌-◌, ◌∷◌, ◌++◌, ℕ, ℤ, Bool, true, false, not, List, [], take, drop}
use Rattle.std.specs.Prelude.{slice_get, Some, None, Ok, Err, length, ◌≤◌, map, Contains}
use Rattle.std.specs.List.{AllByRecursion, count_by}
use Rattle.mon_config.specs.Configs.{range_of_key}
use Rattle.mon_config.specs.declared.config.Config.{Config}
use Rattle.mon_points.specs.Records.{reads_of}
use Rattle.mon_points.specs.declared.records.RowRead.{RowRead}
use Rattle.mon_points.specs.declared.records.RowRead.TheVariants as read
use Rattle.mon_topo.specs.RangeHistories.{serving, is_avoided}
use Rattle.mon_topo.specs.Zones.{range_zones}
use Rattle.mon_value.specs.Histories.{leaf_history, range_history}
use Rattle.mon_value.specs.LeafHistories.{is_down, is_switch}
use Rattle.mon_value.specs.declared.limits.TheConstants.{MOST_SWITCHES}
use Rattle.mon_value.specs.declared.histories.Ack.{Ack}
use Rattle.mon_value.specs.declared.histories.Histories.{Histories}
use Rattle.mon_value.specs.declared.histories.Miss.{Miss}
use Rattle.mon_value.specs.declared.histories.RangeEntry.TheVariants as range_entry
use Rattle.mon_value.specs.declared.positions.FoundDown.{FoundDown}
use Rattle.mon_value.specs.declared.positions.Leaf.{Leaf}
use Rattle.mon_value.specs.declared.positions.Range.{Range}
use Rattle.mon_value.specs.declared.positions.SlotLeaf.{SlotLeaf}
use Rattle.mon_value.specs.declared.positions.Zone.{Zone}
use Rattle.mon_value.specs.declared.rows.Row.{Row}
use Rattle.typed_trees.specs.Meaning.{load}
use Rattle.typed_trees.specs.Nodes.{TypedTree}
use Rattle.query_traces.specs.Founds.{IsFoundBetween}
use Rattle.query_traces.specs.Rounds.{area_of, has_leaf}
use Rattle.query_traces.specs.Traces.{IsBetween, IsTraceBetween, Lengths, cut_of, found_leaves, source_of}
use Rattle.query_traces.specs.declared.answers.Trace.{Trace}
use Rattle.query_texts.specs.TextTypes.{text_type}
use Rattle.query_texts.specs.declared.faults.TextFault.TheVariants as fault
use Rattle.range_cell.specs.declared.answers.WriteFault.{WriteFault}
use Rattle.range_cell.specs.declared.answers.WriteFault.TheVariants as unwritten
use Rattle.mon_script.specs.declared.forms.LineForm.{LineForm}
use Rattle.mon_meaning.specs.Incremental.{is_incremental}
use Rattle.run_traces.specs.LineAsks.{Bound, bound_of, moment_of, moments_of, Recovery, recovery_of, Switch, switch_of}
use Rattle.run_traces.specs.LineAsks.{text_of, Withdrawal, withdrawal_of}
use Rattle.run_traces.specs.LineSwitches.{highs, lows}
use Rattle.run_traces.specs.RanLines.{RanLine}
use Rattle.run_traces.specs.declared.traces.ControlDone.{ControlDone}
use Rattle.run_traces.specs.declared.traces.ControlDone.TheVariants as did
use Rattle.run_traces.specs.declared.traces.ControlFault.{ControlFault}
use Rattle.run_traces.specs.declared.traces.ControlFault.TheVariants as undone
use Rattle.run_traces.specs.declared.traces.LineFault.{LineFault}
use Rattle.run_traces.specs.declared.traces.LineFault.TheVariants as why
use Rattle.run_traces.specs.declared.traces.LineTrace.{LineTrace}
use Rattle.run_traces.specs.declared.traces.LineTrace.TheVariants as came
use Rattle.run_traces.specs.declared.traces.QuestionFault.{QuestionFault}
use Rattle.run_traces.specs.declared.traces.QuestionFault.TheVariants as unanswered
use Rattle.run_traces.specs.declared.traces.RecoveryFault.{RecoveryFault}
use Rattle.run_traces.specs.declared.traces.RecoveryFault.TheVariants as unopened
use Rattle.run_traces.specs.declared.traces.RetireRefusal.{RetireRefusal}
use Rattle.run_traces.specs.declared.traces.RetireRefusal.TheVariants as unretired
use Rattle.run_traces.specs.declared.traces.TrimRefusal.{TrimRefusal}
use Rattle.run_traces.specs.declared.traces.TrimRefusal.TheVariants as untrimmed
use Rattle.ingest_queue.specs.declared.refusals.RowRefusal.{RowRefusal}
use Rattle.ingest_queue.specs.declared.refusals.RowRefused.{RowRefused}
use Rattle.ingest_queue.specs.declared.refusals.RowRefused.TheVariants as refused
use Rattle.run_traces.specs.declared.traces.SwitchFault.{SwitchFault}
use Rattle.run_traces.specs.declared.traces.SwitchFault.TheVariants as unswitched
use Rattle.standing.specs.declared.faults.StandingFault.{StandingFault}
use Rattle.standing.specs.declared.faults.StandingFault.TheVariants as unstood
use Rattle.write_core.specs.Recovering.{denial_of}
use Rattle.write_core.specs.RangeAnswers.{refusal}
use Rattle.write_core.specs.Retirements.{retirement_of}
use Rattle.write_core.specs.declared.copies.Denial.{Denial}
use Rattle.write_core.specs.declared.copies.Denial.TheVariants as denial
use Rattle.write_core.specs.declared.retirements.Retirement.{Retirement}
use Rattle.write_core.specs.declared.retirements.Retirement.TheVariants as retirement
use Rattle.write_core.specs.declared.refusals.Refused.{Refused}
use Rattle.write_core.specs.declared.refusals.Refused.TheVariants as ranged

-- ---- causes between two moments

module _ (config : Config) (ended : Histories) (from to : Lengths) where
  -- at a length of the range's history between them each replica that serves is on one of these leaves, and each of
  -- these was found down between them
  pub record HasNoneUp (range : Range) (founds : List FoundDown) : Type 0 where
    pub were_found : AllByRecursion (IsFoundBetween from to ended) founds
    pub found : ℕ
    pub between : IsBetween (from.ranges range) (to.ranges range) found
    pub all_down : AllByRecursion (λ replica. is_avoided (found_leaves founds) replica ≡ true)
        (serving (take found (range_history ended range)))

  -- each replica that served then is on one of these leaves, in the order of slots
  abbrev pub AreThoseServing : (range : Range) (founds : List FoundDown) → HasNoneUp range founds → Type 0
  AreThoseServing range founds none =
      found_leaves founds ≡ map (λ (replica : SlotLeaf). replica.leaf)
      (serving (take none.found (range_history ended range)))

  -- a text that has a type finds no replica of a range of some zone; the leaves that are named are the zone's
  pub record IsLeftWithout (text : List ℕ) (range : Range) (founds : List FoundDown) : Type 0 where
    pub typed : TypedTree
    pub type_is : text_type config.schemas text ≡ Ok typed
    pub zone : Zone
    pub zoned : slice_get (range_zones config.topology) range.0 ≡ Some zone
    pub named : AllByRecursion (λ (found : FoundDown). has_leaf (area_of config.topology zone.0) found.leaf ≡ true) founds
    pub none_up : HasNoneUp range founds

  -- the load over the rows of what was looked at at a moment is above the limit, at one of the moments at which the table
  -- would be told
  pub record IsOverLimit (text : List ℕ) (moment : ℤ) (moments : List ℤ) (limit : ℕ) (trace : Trace) : Type 0 where
    pub typed : TypedTree
    pub type_is : text_type config.schemas text ≡ Ok typed
    pub of : IsTraceBetween typed moment from to ended trace
    pub since : (leaf : Leaf) → leaf.0 < length ended.leaves → from.leaves leaf ≤ cut_of trace leaf
    pub down : AllByRecursion (IsFoundBetween from to ended) trace.down
    pub limit_is : limit ≡ config.limit
    pub at : ℤ
    pub among : Contains moments at
    pub above : config.limit < load typed (source_of ended trace) at

  -- a text has a table at a moment, and a form whose result isn't kept for later ones
  pub record IsNotKept (text : List ℕ) (moment : ℤ) : Type 0 where
    pub typed : TypedTree
    pub type_is : text_type config.schemas text ≡ Ok typed
    pub trace : Trace
    pub of : IsTraceBetween typed moment from to ended trace
    pub within : load typed (source_of ended trace) moment ≤ config.limit
    pub form : is_incremental typed.tree ≡ false

  -- at this length between them the leaf was as it was to be, down or up
  pub record WasAlready (what : LineForm) (down : Bool) (cut : ℕ) : Type 0 where
    pub switch : Switch
    pub asked : switch_of what ≡ Some switch
    pub way : switch.down ≡ down
    pub between : IsBetween (from.leaves switch.leaf) (to.leaves switch.leaf) cut
    pub already : is_down (take cut (leaf_history ended switch.leaf)) ≡ down

  -- at a length between them the leaf was not so, and was switched as often as may be
  pub record HasSwitchedEnough (what : LineForm) (count : ℕ) : Type 0 where
    pub switch : Switch
    pub asked : switch_of what ≡ Some switch
    pub found : ℕ
    pub between : IsBetween (from.leaves switch.leaf) (to.leaves switch.leaf) found
    pub other : is_down (take found (leaf_history ended switch.leaf)) ≡ not switch.down
    pub most : count ≡ MOST_SWITCHES
    pub spent : count_by is_switch (take found (leaf_history ended switch.leaf)) ≡ count

  -- at a length of the range's history between them it opens no replica on the leaf, for this reason
  pub record IsDenied (what : LineForm) (told : Denial) : Type 0 where
    pub recovery : Recovery
    pub asked : recovery_of what ≡ Some recovery
    pub found : ℕ
    pub between : IsBetween (from.ranges recovery.range) (to.ranges recovery.range) found
    pub denied : denial_of (take found (range_history ended recovery.range)) recovery.leaf ≡ Some told

  -- at a length of the range's history between them a replica of it served on a leaf that was up between them
  pub record HasSource (range : Range) (found : ℕ) : Type 0 where
    pub source : SlotLeaf
    pub serves : Contains (serving (take found (range_history ended range))) source
    pub cut : ℕ
    pub between : IsBetween (from.leaves source.leaf) (to.leaves source.leaf) cut
    pub up : is_down (take cut (leaf_history ended source.leaf)) ≡ false

  -- no replica of the range was up from which rows could be copied, though it may open one on the leaf
  pub record HasNoSource (what : LineForm) (founds : List FoundDown) : Type 0 where
    pub recovery : Recovery
    pub asked : recovery_of what ≡ Some recovery
    pub none_up : HasNoneUp recovery.range founds
    pub those : AreThoseServing recovery.range founds none_up
    pub free : denial_of (take none_up.found (range_history ended recovery.range)) recovery.leaf ≡ None

  -- the leaf was found down, though the range may open a replica on it and has one from which rows could be copied
  pub record HasNoTarget (what : LineForm) (cut : ℕ) : Type 0 where
    pub recovery : Recovery
    pub asked : recovery_of what ≡ Some recovery
    pub found : ℕ
    pub between : IsBetween (from.ranges recovery.range) (to.ranges recovery.range) found
    pub free : denial_of (take found (range_history ended recovery.range)) recovery.leaf ≡ None
    pub source : HasSource recovery.range found
    pub down : IsFoundBetween from to ended (record { leaf = recovery.leaf; cut = cut })

  -- no replica of the range that is to be trimmed was up
  pub record IsTrimmedNowhere (what : LineForm) (range : Range) (founds : List FoundDown) : Type 0 where
    pub bound : Bound
    pub asked : bound_of what ≡ Some bound
    pub range_is : range ≡ bound.range
    pub none_up : HasNoneUp range founds
    pub those : AreThoseServing range founds none_up

  -- at a length of the range's history between them it retires no replica on the leaf, for this reason
  pub record IsNotRetired (what : LineForm) (told : Retirement) : Type 0 where
    pub withdrawal : Withdrawal
    pub asked : withdrawal_of what ≡ Some withdrawal
    pub found : ℕ
    pub between : IsBetween (from.ranges withdrawal.range) (to.ranges withdrawal.range) found
    pub told_so : retirement_of (take found (range_history ended withdrawal.range)) withdrawal.leaf ≡ told

  -- why a question has no table
  abbrev pub QuestionCause : LineForm → QuestionFault → Type 0
  QuestionCause what (unanswered.Parse parse) = text_type config.schemas (text_of what) ≡ Err (fault.Parse parse)
  QuestionCause what (unanswered.Typing typing) = text_type config.schemas (text_of what) ≡ Err (fault.Typing typing)
  QuestionCause what (unanswered.NoReplica range founds) = IsLeftWithout (text_of what) range founds
  QuestionCause what (unanswered.StepLimit limit trace) = IsOverLimit (text_of what) (moment_of what) (moments_of what)
      limit trace

  -- why a control isn't done
  abbrev pub SwitchCause : LineForm → SwitchFault → Type 0
  SwitchCause what (unswitched.AlreadyDown cut) = WasAlready what true cut
  SwitchCause what (unswitched.AlreadyUp cut) = WasAlready what false cut
  SwitchCause what (unswitched.SwitchesSpent count) = HasSwitchedEnough what count

  abbrev pub RecoveryCause : LineForm → RecoveryFault → Type 0
  RecoveryCause what (unopened.Serving slot) = IsDenied what (denial.ServesThere slot)
  RecoveryCause what unopened.ThreeServing = IsDenied what denial.ServesFully
  RecoveryCause what (unopened.SlotsSpent count) = IsDenied what (denial.SlotsSpent count)
  RecoveryCause what (unopened.SourceDown founds) = HasNoSource what founds
  RecoveryCause what (unopened.TargetDown cut) = HasNoTarget what cut

  abbrev pub TrimCause : LineForm → TrimRefusal → Type 0
  TrimCause what (untrimmed.Unavailable range founds) = IsTrimmedNowhere what range founds

  abbrev pub RetirementCause : LineForm → RetireRefusal → Type 0
  RetirementCause what unretired.NotServing = IsNotRetired what retirement.NotServing
  RetirementCause what (unretired.LastServing slot) = IsNotRetired what (retirement.LastServing slot)

  abbrev pub ControlCause : LineForm → ControlFault → Type 0
  ControlCause what (undone.Switch fault) = SwitchCause what fault
  ControlCause what (undone.Recovery fault) = RecoveryCause what fault
  ControlCause what (undone.Trim fault) = TrimCause what fault
  ControlCause what (undone.Retirement fault) = RetirementCause what fault

  -- why a query isn't to stand; that its name is taken is told by the queries that stand
  abbrev pub StandingCause : LineForm → StandingFault → Type 0
  StandingCause what unstood.NameTaken = Unit {0}
  StandingCause what (unstood.Parse parse) = text_type config.schemas (text_of what) ≡ Err (fault.Parse parse)
  StandingCause what (unstood.Typing typing) = text_type config.schemas (text_of what) ≡ Err (fault.Typing typing)

  -- why a line is refused; that a moment isn't taken is told by the queries that stand, too
  abbrev pub HasCause : LineForm → LineFault → Type 0
  HasCause what (why.Question fault) = QuestionCause what fault
  HasCause what (why.Control fault) = ControlCause what fault
  HasCause what (why.Standing fault) = StandingCause what fault
  HasCause what (why.Due fault) = Unit {0}
  HasCause what why.NotIncremental = IsNotKept (text_of what) (moment_of what)

  -- the range's history at a length between them refuses the row so
  pub record IsRefusedByRange (row : Row) (told : Refused) : Type 0 where
    pub range : Range
    pub in_range : range_of_key config row.key ≡ Some range
    pub found : ℕ
    pub between : IsBetween (from.ranges range) (to.ranges range) found
    pub refused : refusal config.range_points (take found (range_history ended range)) row ≡ Some told

  -- no replica of the row's range was up, though the range had a place for it
  pub record IsUnavailable (row : Row) (range : Range) (founds : List FoundDown) : Type 0 where
    pub in_range : range_of_key config row.key ≡ Some range
    pub none_up : HasNoneUp range founds
    pub those : AreThoseServing range founds none_up
    pub free : refusal config.range_points (take none_up.found (range_history ended range)) row ≡ None

  abbrev pub IsUnwritten : Row → WriteFault → Type 0
  IsUnwritten row unwritten.NoZone = range_of_key config row.key ≡ None
  IsUnwritten row (unwritten.OldPoint last) = IsRefusedByRange row (ranged.OldPoint last)
  IsUnwritten row (unwritten.RangeFull limit) = IsRefusedByRange row (ranged.RangeFull limit)
  IsUnwritten row (unwritten.Unavailable range founds) = IsUnavailable row range founds
  IsUnwritten row unwritten.OutOfMemory = ⊥

  -- why a record is refused, by what it was read as
  abbrev pub HasRowCause : RowRead → RowRefused → Type 0
  HasRowCause (read.Fault fault) (refused.Read told) = told ≡ fault
  HasRowCause (read.Fault fault) (refused.Write told) = ⊥
  HasRowCause (read.Row row) (refused.Read told) = ⊥
  HasRowCause (read.Row row) (refused.Write told) = IsUnwritten row told

-- ---- rows in their places

-- a line with some of the rows that it accepted of a file
abbrev pub fed : RanLine → ℕ → List Row → RanLine
fed line pass rows = record { what = line.what; content = line.content; trace = came.Fed pass rows []; own = [] }

-- how many rows of a file had been accepted before a record of this number, of which so many before it were refused
abbrev pub rows_before : ℕ → RowRefusal → ℕ
rows_before others refusal = refusal.number - 1 - others

module _ (config : Config) (ended : Histories) (seen later : List RanLine) (line : RanLine) (pass : ℕ) where
  -- the record was refused behind the rows of its file that had been accepted before it, and before the others
  pub record RowHasCause (reads : List RowRead) (accepted : List Row) (others : ℕ) (refusal : RowRefusal) : Type 0 where
    pub read : RowRead
    pub read_is : slice_get reads (refusal.number - 1) ≡ Some read
    pub cause : HasRowCause config ended
        (lows config.topology ended (seen ++ fed line pass (take (rows_before others refusal) accepted) ∷ []))
        (highs config.topology ended (fed line pass (drop (rows_before others refusal) accepted) ∷ later))
        read refusal.fault

  abbrev pub RowsHaveCauses : List RowRead → List Row → ℕ → List RowRefusal → Type 0
  RowsHaveCauses reads accepted others [] = Unit {0}
  RowsHaveCauses reads accepted others (refusal ∷ refusals) =
      RowHasCause reads accepted others refusal × RowsHaveCauses reads accepted (others + 1) refusals

-- ---- rows that were taken, in their places

-- the leaves that an acknowledgement names as having missed the row, or the bound, were found down between two moments
abbrev pub WereMissed : Histories → Lengths → Lengths → Ack → Type 0
WereMissed ended from to ack = AllByRecursion
    (λ (miss : Miss). IsFoundBetween from to ended (record { leaf = miss.leaf; cut = miss.cut })) ack.missed

-- those of a trim
abbrev pub HaveMissed : Histories → Lengths → Lengths → ControlDone → Type 0
HaveMissed ended from to (did.Switched cut) = Unit {0}
HaveMissed ended from to (did.Recovered slot) = Unit {0}
HaveMissed ended from to (did.Trimmed ack) = WereMissed ended from to ack
HaveMissed ended from to (did.Retired slot) = Unit {0}

module _ (config : Config) (ended : Histories) (seen later : List RanLine) (line : RanLine) (pass : ℕ)
    (accepted : List Row) where
  -- the row at a place of those that were accepted of a file is acknowledged, and each leaf that is named as having missed it
  -- was found down behind the rows before it and before those behind it
  pub record RowIsTaken (place : ℕ) (row : Row) : Type 0 where
    pub range : Range
    pub ack : Ack
    pub told : Contains (range_history ended range) (range_entry.Acked pass row ack)
    pub missed : WereMissed ended (lows config.topology ended (seen ++ fed line pass (take place accepted) ∷ []))
        (highs config.topology ended (fed line pass (drop (place + 1) accepted) ∷ later)) ack

  abbrev pub RowsAreTaken : ℕ → List Row → Type 0
  RowsAreTaken place [] = Unit {0}
  RowsAreTaken place (row ∷ rows) = RowIsTaken place row × RowsAreTaken (place + 1) rows

-- ---- of each line

module _ (config : Config) (ended : Histories) where
  -- each record of a file that was refused has its cause in its place, and so has each leaf that missed a row of it
  abbrev pub FileIsCaused : List RanLine → List RanLine → RanLine → ℕ → List ℕ → List Row → List RowRefusal → Type 0
  FileIsCaused seen later line pass content accepted refusals =
      RowsHaveCauses config ended seen later line pass (reads_of config.schemas content) accepted 0 refusals
      × RowsAreTaken config ended seen later line pass accepted 0 accepted

  -- and so have a refused line, and each leaf that missed a trim
  abbrev pub IsCaused : List RanLine → List RanLine → RanLine → LineTrace → Type 0
  IsCaused seen later line (came.Fed pass accepted refusals) =
      FileIsCaused seen later line pass line.content.first accepted refusals
  IsCaused seen later line (came.Poured pass ends) =
      FileIsCaused seen later line pass line.content.first ends.first.accepted ends.first.refused
      × FileIsCaused seen later line pass line.content.second ends.second.accepted ends.second.refused
  IsCaused seen later line (came.Controlled done) =
      HaveMissed ended (lows config.topology ended seen) (highs config.topology ended later) done
  IsCaused seen later line (came.Refused fault) =
      HasCause config ended (lows config.topology ended seen) (highs config.topology ended later) line.what fault
  IsCaused seen later line other = Unit {0}

  abbrev pub LineIsCaused : List RanLine → List RanLine → RanLine → Type 0
  LineIsCaused seen later line = IsCaused seen later line line.trace
