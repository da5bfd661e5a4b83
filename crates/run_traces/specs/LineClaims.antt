-- What a run owes of each line as the line ends: which entries it made, and what it found between two lengths of each
-- history. The rest follows for all lines together.
use Rattle.std.specs.Prelude.{◌≡◌, ◌<◌, ◌≤◌, ◌+◌, ◌-◌, ◌∷◌, ℕ, ℤ, true, false, List, [], Ok, Some, filter, length}
use Rattle.std.specs.Prelude.{take, drop, slice_get, Contains}
use Rattle.std.specs.List.{AllByRecursion, flat_map}
use Rattle.history_book.specs.Histories.{book_entry_pass, entries}
use Rattle.history_book.specs.declared.views.BookEntry.{BookEntry}
use Rattle.history_book.specs.declared.views.BookEntry.TheVariants as one
use Rattle.history_book.specs.declared.views.History.{History}
use Rattle.history_book.specs.declared.views.History.TheVariants as of
use Rattle.mon_config.specs.declared.config.Config.{Config}
use Rattle.mon_topo.specs.RangeHistories.{acked_row, acknowledged_rows}
use Rattle.mon_topo.specs.HeldHistories.{AreWithin}
use Rattle.mon_value.specs.Histories.{range_history}
use Rattle.mon_value.specs.declared.histories.Ack.{Ack}
use Rattle.mon_value.specs.declared.histories.Histories.{Histories}
use Rattle.mon_value.specs.declared.histories.RangeEntry.TheVariants as range_entry
use Rattle.mon_value.specs.declared.positions.Leaf.{Leaf}
use Rattle.mon_value.specs.declared.positions.Range.{Range}
use Rattle.mon_value.specs.declared.positions.Slot.{Slot}
use Rattle.mon_value.specs.declared.rows.Row.{Row}
use Rattle.mon_script.specs.declared.forms.LineForm.{LineForm}
use Rattle.typed_trees.specs.Nodes.{TypedTree}
use Rattle.typed_trees.specs.Meaning.{load}
use Rattle.query_traces.specs.Founds.{IsFoundBetween}
use Rattle.query_traces.specs.Traces.{IsBetween, IsFreshBetween, IsTraceBetween, Lengths, source_of}
use Rattle.query_traces.specs.declared.answers.Trace.{Trace}
use Rattle.query_texts.specs.TextTypes.{text_type}
use Rattle.mon_points.specs.Records.{reads_of}
use Rattle.mon_points.specs.declared.records.RowRead.{RowRead}
use Rattle.run_theory.specs.Parts.{AreBelow, PartsRan, Part}
use Rattle.run_theory.specs.Writings.{PartWrote}
use Rattle.run_traces.specs.LineCauses.{HasCause, HasRowCause, WereMissed, rows_before}
use Rattle.run_traces.specs.LineFeeds.{HasItsAck, IsTold, lies_in}
use Rattle.run_traces.specs.LineForms.{LineSuits}
use Rattle.mon_meaning.specs.Incremental.{is_incremental}
use Rattle.run_traces.specs.LineAsks.{moments_of, text_of}
use Rattle.run_traces.specs.LineTables.{cuts_named, IsReadByPlan}
use Rattle.run_traces.specs.LineSwitches.{DoneMade, first_length, is_fed, is_row, IsRecoveredBetween, IsSwitchedBetween}
use Rattle.run_traces.specs.LineTrims.{AreOwn, IsRetiredBetween, IsTrimmedBetween}
use Rattle.run_traces.specs.RanLines.{OwnPlace, RanLine}
use Rattle.run_traces.specs.declared.line_files.LineFiles.{LineFiles}
use Rattle.run_traces.specs.declared.traces.ControlDone.{ControlDone}
use Rattle.run_traces.specs.declared.traces.ControlDone.TheVariants as did
use Rattle.run_traces.specs.declared.traces.LineTrace.{LineTrace}
use Rattle.ingest_queue.specs.declared.ends.Poured.{Poured}
use Rattle.ingest_queue.specs.declared.refusals.RowRefusal.{RowRefusal}
use Rattle.run_traces.specs.declared.traces.LineTrace.TheVariants as came

-- histories that are seen later: each goes on, and there are as many
pub record HaveGrown (seen more : Histories) : Type 0 where
  pub within : AreWithin seen more
  pub leaves : length more.leaves ≡ length seen.leaves
  pub ranges : length more.ranges ≡ length seen.ranges

-- a length of each history, as one of each leaf's and of each range's
abbrev pub marked : (History → ℕ) → Lengths
marked mark = record { leaves = λ leaf. mark (of.Leaf leaf); ranges = λ range. mark (of.Range range) }

-- ---- what a line made

-- the row that an entry acknowledges
abbrev pub book_row : BookEntry → List Row
book_row (one.Leaf e) = []
book_row (one.Range e) = acked_row e

module _ (config : Config) where
  -- a feed or a pour made acknowledgements of the rows that it accepted, in each range of those that lie in it, and puts of
  -- them
  pub record FeedMade (pass : ℕ) (accepted : List Row) (made : History → List BookEntry) : Type 0 where
    pub own : (history : History) → AllByRecursion (λ e. is_fed pass accepted e ≡ true) (made history)
    pub puts : (leaf : Leaf) → flat_map book_row (made (of.Leaf leaf)) ≡ []
    pub acks : (range : Range) → flat_map book_row (made (of.Range range)) ≡ filter (lies_in config range) accepted
    pub paired : (history : History) → AllByRecursion (HasItsAck made) (made history)

  abbrev pub HasMade : ℕ → LineForm → LineTrace → (History → List BookEntry) → Type 0
  HasMade n what (came.Fed pass accepted refused) made = (pass ≡ n) × FeedMade pass accepted made
  HasMade n what (came.Poured pass ends) made = (pass ≡ n) × FeedMade pass ends.accepted made
  HasMade n what (came.Controlled done) made = DoneMade config what done made
  HasMade n what other made = (history : History) → made history ≡ []

  abbrev pub Makes : ℕ → RanLine → (History → List BookEntry) → Type 0
  Makes n line made = HasMade n line.what line.trace made

-- ---- what a line found

module _ (config : Config) (seen : Histories) (from to : History → ℕ) where
  -- a row lies in a range of the store
  pub record HasRange (row : Row) : Type 0 where
    pub range : Range
    pub there : range.0 < length seen.ranges
    pub lies : lies_in config range row ≡ true

  -- no row of its series with its end had been acknowledged before
  abbrev pub IsNewIn : Range → Row → Type 0
  IsNewIn range row = lies_in config range row ≡ true
      → AllByRecursion (λ old. is_row row old ≡ false)
      (acknowledged_rows (take (from (of.Range range)) (range_history seen range)))

  -- an entry of one of these rows stands between two lengths of a history
  abbrev pub StandsAmong : ℕ → List Row → History → ℕ → Type 0
  StandsAmong pass rows history place = (e : BookEntry) × (slice_get (entries seen history) place ≡ Some e)
      × (from history ≤ place) × (place < to history) × (is_fed pass rows e ≡ true)

  -- so much was so behind all entries of some rows of a line and before those of others
  pub record FoundAmid (pass : ℕ) (front rest : List Row) (Is : Lengths → Lengths → Type 0) : Type 0 where
    pub since : History → ℕ
    pub until : History → ℕ
    pub low : AreBelow from since
    pub forth : AreBelow since until
    pub high : AreBelow until to
    pub before : (history : History) (place : ℕ) → StandsAmong pass front history place → place < since history
    pub behind : (history : History) (place : ℕ) → StandsAmong pass rest history place → until history ≤ place
    pub is : Is (marked since) (marked until)

  -- a record was refused, behind all entries of the rows that were accepted before it and before those of the others
  pub record RowFound (reads : List RowRead) (pass : ℕ) (accepted : List Row) (others : ℕ) (refusal : RowRefusal)
      : Type 0 where
    pub read : RowRead
    pub read_is : slice_get reads (refusal.number - 1) ≡ Some read
    pub amid : FoundAmid pass (take (rows_before others refusal) accepted) (drop (rows_before others refusal) accepted)
        (λ since until. HasRowCause config seen since until read refusal.fault)

  abbrev pub RowsFound : List RowRead → ℕ → List Row → ℕ → List RowRefusal → Type 0
  RowsFound reads pass accepted others [] = Unit {0}
  RowsFound reads pass accepted others (refusal ∷ refusals) =
      RowFound reads pass accepted others refusal × RowsFound reads pass accepted (others + 1) refusals

  -- a row is acknowledged, and each leaf that missed it was found down behind the rows that were accepted before it
  pub record TakenFound (pass : ℕ) (accepted : List Row) (place : ℕ) (row : Row) : Type 0 where
    pub range : Range
    pub ack : Ack
    pub told : Contains (range_history seen range) (range_entry.Acked pass row ack)
    pub amid : FoundAmid pass (take place accepted) (drop (place + 1) accepted)
        (λ since until. WereMissed seen since until ack)

  abbrev pub AllTakenFound : ℕ → List Row → ℕ → List Row → Type 0
  AllTakenFound pass accepted place [] = Unit {0}
  AllTakenFound pass accepted place (row ∷ rows) =
      TakenFound pass accepted place row × AllTakenFound pass accepted (place + 1) rows

  -- the rows that a line accepted lie in ranges of the store, and were new there
  pub record AreNew (accepted : List Row) : Type 0 where
    pub ranged : AllByRecursion HasRange accepted
    pub new : (range : Range) → AllByRecursion (IsNewIn range) accepted

  -- what became of the records of a file
  pub record FileFound (content : List ℕ) (pass : ℕ) (accepted : List Row) (refusals : List RowRefusal) : Type 0 where
    pub refused : RowsFound (reads_of config.schemas content) pass accepted 0 refusals
    pub taken : AllTakenFound pass accepted 0 accepted

  pub record FeedFound (content : List ℕ) (pass : ℕ) (accepted : List Row) (refusals : List RowRefusal) : Type 0 where
    pub rows : AreNew accepted
    pub file : FileFound content pass accepted refusals

  pub record PourFound (content : LineFiles) (pass : ℕ) (ends : Poured) : Type 0 where
    pub rows : AreNew ends.accepted
    pub first : FileFound content.first pass ends.first.accepted ends.first.refused
    pub second : FileFound content.second pass ends.second.accepted ends.second.refused

  -- what was looked at for a table
  pub record LookFound (text : List ℕ) (moment : ℤ) (trace : Trace) : Type 0 where
    pub typed : TypedTree
    pub type_is : text_type config.schemas text ≡ Ok typed
    pub of : IsTraceBetween typed moment (marked from) (marked to) seen trace
    pub fresh : IsFreshBetween (marked from) (marked to) seen trace
    pub down : AllByRecursion (IsFoundBetween (marked from) (marked to) seen) trace.down
    pub within : load typed (source_of seen trace) moment ≤ config.limit
    pub read : IsReadByPlan config seen text trace

  -- the same for a query that was followed over moments
  pub record FollowFound (text : List ℕ) (moments : List ℤ) (moment : ℤ) (trace : Trace) : Type 0 where
    pub look : LookFound text moment trace
    pub kept : is_incremental look.typed.tree ≡ true
    pub each : AllByRecursion (λ at. load look.typed (source_of seen trace) at ≤ config.limit) moments

  -- What came of a trim: it stands at the line's own places, which are those of the entries under its number; and each
  -- leaf that missed it was found down
  pub record TrimFound (n : ℕ) (what : LineForm) (own : List OwnPlace) (ack : Ack) : Type 0 where
    pub trimmed : IsTrimmedBetween seen from to n what own ack
    pub owns : AreOwn seen from to n own
    pub missed : WereMissed seen (marked from) (marked to) ack

  -- the same of a retirement, which no leaf can miss
  pub record RetirementFound (n : ℕ) (what : LineForm) (own : List OwnPlace) (slot : Slot) : Type 0 where
    pub retired : IsRetiredBetween seen from to n what own slot
    pub owns : AreOwn seen from to n own

  -- what came of a control
  abbrev pub DoneFound : ℕ → LineForm → List OwnPlace → ControlDone → Type 0
  DoneFound n what own (did.Switched cut) = IsSwitchedBetween seen from to n what cut
  DoneFound n what own (did.Recovered slot) = IsRecoveredBetween seen from to n what slot
  DoneFound n what own (did.Trimmed ack) = TrimFound n what own ack
  DoneFound n what own (did.Retired slot) = RetirementFound n what own slot

  -- under its caller's number; a tick stands as the queries that it asked
  abbrev pub HasFound : ℕ → RanLine → LineTrace → Type 0
  HasFound n line (came.Fed pass accepted refused) = FeedFound line.content.first pass accepted refused
  HasFound n line (came.Poured pass ends) = PourFound line.content pass ends
  HasFound n line (came.Asked moment trace) = LookFound (text_of line.what) moment trace
  HasFound n line (came.Followed moment trace) = FollowFound (text_of line.what) (moments_of line.what) moment trace
  HasFound n line (came.Ticked dues) = ⊥
  HasFound n line (came.Controlled done) = DoneFound n line.what line.own done
  HasFound n line (came.Refused why) = HasCause config seen (marked from) (marked to) line.what why
  HasFound n line came.Done = Unit {0}

  -- and each cut that a line names lies between
  abbrev pub CutsLieBetween : RanLine → Leaf → Type 0
  CutsLieBetween line leaf =
      AllByRecursion (IsBetween (from (of.Leaf leaf)) (to (of.Leaf leaf))) (cuts_named leaf line.what line.trace)

  pub record Finds (n : ℕ) (line : RanLine) : Type 0 where
    pub forth : AreBelow from to
    pub suits : LineSuits line
    pub told : IsTold config line.content line.trace
    pub cuts : (leaf : Leaf) → leaf.0 < length seen.leaves → CutsLieBetween line leaf
    pub found : HasFound n line line.trace

-- a part more wrote, over what the script's caller had seen before it and has seen behind it
abbrev pub HasWritten : Config → Histories → Histories → Part RanLine → Type 0
HasWritten config = PartWrote entries book_entry_pass (Makes config) (Finds config) HaveGrown

-- the parts of a script ran one after another, from the first replicas to the end of each history
abbrev pub AllRan : Config → Histories → List (Part RanLine) → Type 0
AllRan config ended parts = PartsRan entries book_entry_pass (Makes config) (Finds config) ended
    (first_length config.topology ended) (λ history. length (entries ended history)) parts
