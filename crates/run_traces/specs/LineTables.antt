-- What each table stands on: replicas that served, all that had been accepted before and is not hidden, and every leaf that
-- it wants.
use Rattle.std.specs.Prelude.{◌≡◌, ℕ, ℤ, true, List, [], Ok, ◌<◌, ◌≤◌, ◌∷◌, ◌++◌, length, Option, Some, None}
use Rattle.std.specs.List.{AllByRecursion, flat_map}
use Rattle.mon_config.specs.Configs.{range_of_key}
use Rattle.mon_config.specs.declared.config.Config.{Config}
use Rattle.mon_meaning.specs.Incremental.{is_incremental}
use Rattle.mon_value.specs.declared.histories.Histories.{Histories}
use Rattle.typed_trees.specs.Nodes.{TypedTree}
use Rattle.query_traces.specs.Founds.{IsFoundBetween}
use Rattle.query_traces.specs.Traces.{IsBetween, IsTraceBetween, cut_of, source_of, turns_over, IsReadRightly}
use Rattle.typed_trees.specs.Meaning.{load}
use Rattle.query_traces.specs.declared.answers.Trace.{Trace}
use Rattle.query_texts.specs.TextTypes.{text_type, IsPlanOver, plan_type}
use Rattle.mon_script.specs.declared.forms.LineForm.{LineForm}
use Rattle.mon_value.specs.Turns.{StandsOrIsHidden, Turn}
use Rattle.mon_value.specs.declared.positions.Leaf.{Leaf}
use Rattle.mon_value.specs.declared.positions.Range.{Range}
use Rattle.mon_value.specs.declared.rows.Row.{Row}
use Rattle.range_cell.specs.declared.answers.WriteFault.{WriteFault}
use Rattle.range_cell.specs.declared.answers.WriteFault.TheVariants as unwritten
use Rattle.leaf_store.specs.LeafStates.{key_buckets}
use Rattle.typed_trees.specs.declared.plans.Plan.{Plan}
use Rattle.run_traces.specs.LineAsks.{moments_of, text_of}
use Rattle.run_traces.specs.LineSwitches.{done_cuts, found_cuts, highs, lows, undone_cuts}
use Rattle.run_traces.specs.RanLines.{RanLine, accepted_rows}
use Rattle.run_traces.specs.declared.traces.LineTrace.{LineTrace}
use Rattle.run_traces.specs.declared.traces.LineTrace.TheVariants as came
use Rattle.run_traces.specs.declared.traces.LineFault.{LineFault}
use Rattle.run_traces.specs.declared.traces.LineFault.TheVariants as why
use Rattle.run_traces.specs.declared.traces.QuestionFault.{QuestionFault}
use Rattle.run_traces.specs.declared.traces.QuestionFault.TheVariants as unanswered
use Rattle.ingest_queue.specs.declared.refusals.RowRefusal.{RowRefusal}
use Rattle.ingest_queue.specs.declared.refusals.RowRefused.{RowRefused}
use Rattle.ingest_queue.specs.declared.refusals.RowRefused.TheVariants as refused

-- What each table stands on: replicas that served and cuts that leaves had in the line's place.

module _ (config : Config) (ended : Histories) where
  -- what was looked at for a text: the text has a type, and each range resolved to a replica that was the first that
  -- served at some length in the line's place, and each cut is in its place
  pub record IsLookedAt (seen later : List RanLine) (text : List ℕ) (moment : ℤ) (trace : Trace) : Type 0 where
    pub typed : TypedTree
    pub type_is : text_type config.schemas text ≡ Ok typed
    pub of : IsTraceBetween typed moment (lows config.topology ended seen) (highs config.topology ended later) ended
        trace
    pub down : AllByRecursion
        (IsFoundBetween (lows config.topology ended seen) (highs config.topology ended later) ended) trace.down
    pub within : load typed (source_of ended trace) moment ≤ config.limit

  -- the same of a query that was followed: its form is one whose result is kept, and at each moment the load over the
  -- rows that it stands on is within the limit
  pub record IsFollowedOver (seen later : List RanLine) (text : List ℕ) (moments : List ℤ) (moment : ℤ) (trace : Trace)
      : Type 0 where
    pub look : IsLookedAt seen later text moment trace
    pub kept : is_incremental look.typed.tree ≡ true
    pub within : AllByRecursion (λ at. load look.typed (source_of ended trace) at ≤ config.limit) moments

  abbrev pub IsTabled : List RanLine → List RanLine → LineForm → LineTrace → Type 0
  IsTabled seen later what (came.Asked moment trace) = IsLookedAt seen later (text_of what) moment trace
  IsTabled seen later what (came.Followed moment trace) =
      IsFollowedOver seen later (text_of what) (moments_of what) moment trace
  IsTabled seen later what other = Unit {0}

  -- of each line, with those that its caller had seen and those whose callers had seen it
  abbrev pub LineIsTabled : List RanLine → List RanLine → RanLine → Type 0
  LineIsTabled seen later line = IsTabled seen later line.what line.trace

-- Each table stands on all rows that had been accepted before, as far as its line's caller had seen, unless a trim hides
-- them.

-- ---- the cuts that a line names of a leaf

abbrev pub unwritten_cuts : Leaf → WriteFault → List ℕ
unwritten_cuts leaf unwritten.NoZone = []
unwritten_cuts leaf (unwritten.OldPoint last) = []
unwritten_cuts leaf (unwritten.RangeFull limit) = []
unwritten_cuts leaf (unwritten.Unavailable range founds) = found_cuts leaf founds
unwritten_cuts leaf unwritten.OutOfMemory = []

abbrev pub row_cuts : Leaf → RowRefused → List ℕ
row_cuts leaf (refused.Read fault) = []
row_cuts leaf (refused.Write fault) = unwritten_cuts leaf fault

abbrev pub question_cuts : Leaf → QuestionFault → List ℕ
question_cuts leaf (unanswered.Parse parse) = []
question_cuts leaf (unanswered.Typing typing) = []
question_cuts leaf (unanswered.NoReplica range founds) = found_cuts leaf founds
question_cuts leaf (unanswered.StepLimit limit trace) = cut_of trace leaf ∷ found_cuts leaf trace.down

abbrev pub refusal_cuts : Leaf → LineForm → LineFault → List ℕ
refusal_cuts leaf what (why.Question fault) = question_cuts leaf fault
refusal_cuts leaf what (why.Control fault) = undone_cuts leaf what fault
refusal_cuts leaf what (why.Standing fault) = []
refusal_cuts leaf what (why.Due fault) = []
refusal_cuts leaf what why.NotIncremental = []

abbrev pub file_cuts : Leaf → List RowRefusal → List ℕ
file_cuts leaf refusals = flat_map (λ (refusal : RowRefusal). row_cuts leaf refusal.fault) refusals

-- in its trace or in a refusal
abbrev pub cuts_named : Leaf → LineForm → LineTrace → List ℕ
cuts_named leaf what (came.Fed pass accepted refusals) = file_cuts leaf refusals
cuts_named leaf what (came.Poured pass ends) =
    file_cuts leaf ends.first.refused ++ file_cuts leaf ends.second.refused
cuts_named leaf what (came.Asked moment trace) = cut_of trace leaf ∷ found_cuts leaf trace.down
cuts_named leaf what (came.Followed moment trace) = cut_of trace leaf ∷ found_cuts leaf trace.down
cuts_named leaf what (came.Ticked dues) = []
cuts_named leaf what (came.Controlled done) = done_cuts leaf what done
cuts_named leaf what (came.Refused fault) = refusal_cuts leaf what fault
cuts_named leaf what came.Done = []

-- ---- freshness

-- each cut that a line names of a leaf is no less than those that these lines name
abbrev pub CutsRise : List RanLine → RanLine → Leaf → Type 0
CutsRise seen line leaf = AllByRecursion
    (λ before. AllByRecursion (λ cut. AllByRecursion (λ own. cut ≤ own) (cuts_named leaf line.what line.trace))
    (cuts_named leaf before.what before.trace)) seen

module _ (config : Config) (ended : Histories) where
  -- what may have hidden rows of a range from a table: the turns of the replica that was read, up to its leaf's cut, and
  -- those of the range's own history as far as the line's place goes
  abbrev pub turns_for : List RanLine → Trace → Option Range → List Turn
  turns_for later trace None = []
  turns_for later trace (Some range) =
      turns_over ended ((highs config.topology ended later).ranges range) trace range

  -- a table stands on each row that these lines accepted, but for rows that a trim of their range hides
  abbrev pub StandsOnRows : List RanLine → List RanLine → Trace → Type 0
  StandsOnRows seen later trace = AllByRecursion (λ line. AllByRecursion
      (λ (row : Row). StandsOrIsHidden (source_of ended trace) (turns_for later trace (range_of_key config row.key)) row)
      (accepted_rows line)) seen

  abbrev pub HoldsRows : List RanLine → List RanLine → LineTrace → Type 0
  HoldsRows seen later (came.Asked moment trace) = StandsOnRows seen later trace
  HoldsRows seen later (came.Followed moment trace) = StandsOnRows seen later trace
  HoldsRows seen later other = Unit {0}

  -- of each line, with those that its caller had seen and those whose callers had seen it
  abbrev pub LineIsFresh : List RanLine → List RanLine → RanLine → Type 0
  LineIsFresh seen later line = HoldsRows seen later line.trace
      × ((leaf : Leaf) → leaf.0 < length ended.leaves → CutsRise seen line leaf)

-- Each cut that a line names lies in its place.

module _ (config : Config) (ended : Histories) where
  abbrev pub LineIsPlaced : List RanLine → List RanLine → RanLine → Type 0
  LineIsPlaced seen later line = (leaf : Leaf) → leaf.0 < length ended.leaves
      → AllByRecursion (IsBetween ((lows config.topology ended seen).leaves leaf)
      ((highs config.topology ended later).leaves leaf)) (cuts_named leaf line.what line.trace)

-- Which leaves a line read: one that was left out has no row there that the query wants, and one that was read has a
-- formula of the query that holds.

module _ (config : Config) (ended : Histories) where
  -- by a plan of the text
  pub record IsReadByPlan (text : List ℕ) (trace : Trace) : Type 0 where
    pub plan : Plan
    pub planned : IsPlanOver config.schemas config.buckets plan
    pub type_is : text_type config.schemas text ≡ Ok (plan_type plan)
    pub read : (leaf : Leaf) → leaf.0 < length ended.leaves
        → IsReadRightly (plan_type plan) plan (key_buckets config.buckets config.schemas) ended trace leaf

  abbrev pub IsRead : List ℕ → LineTrace → Type 0
  IsRead text (came.Asked moment trace) = IsReadByPlan text trace
  IsRead text (came.Followed moment trace) = IsReadByPlan text trace
  IsRead text other = Unit {0}

  abbrev pub LineIsRead : List RanLine → List RanLine → RanLine → Type 0
  LineIsRead seen later line = IsRead (text_of line.what) line.trace
