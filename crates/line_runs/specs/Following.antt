-- What a query that is followed comes to, by rows that its caller has seen.
use Rattle.std.specs.Prelude.{◌≡◌, ◌≤◌, ◌<◌, ◌++◌, ℕ, ℤ, pos, ◌≤ℤ◌, true, false, List, Contains, Result, Ok, Err}
use Rattle.std.specs.List.{AllByRecursion, flat_map}
use Rattle.know.specs.Knowledge.{Knowledge}
use Rattle.line_runs.specs.Questions.{meant_text, refused_for}
use Rattle.line_runs.specs.declared.followed_tables.NotFollowed.{NotFollowed}
use Rattle.line_runs.specs.declared.followed_tables.NotFollowed.TheVariants as unfollowed
use Rattle.line_runs.specs.declared.lines.LineRan.{LineRan}
use Rattle.mon_config.specs.declared.config.Config.{Config}
use Rattle.mon_script.specs.Follows.{all_moments}
use Rattle.mon_script.specs.declared.follows.Moments.{Moments}
use Rattle.mon_value.specs.LeafHistories.{IsSource}
use Rattle.mon_value.specs.declared.refusals.Refusal.{Refusal}
use Rattle.mon_value.specs.declared.refusals.Refusal.TheVariants as refusal
use Rattle.mon_value.specs.declared.rows.Row.{Row}
use Rattle.query_texts.specs.TextTypes.{text_type}
use Rattle.query_traces.specs.Traces.{source_of}
use Rattle.query_traces.specs.declared.answers.Trace.{Trace}
use Rattle.run_traces.specs.LineTexts.{moment_heading}
use Rattle.run_traces.specs.declared.traces.LineFault.{LineFault}
use Rattle.run_traces.specs.declared.traces.LineFault.TheVariants as why
use Rattle.run_traces.specs.declared.traces.LineTrace.TheVariants as came
use Rattle.run_traces.specs.declared.traces.QuestionFault.TheVariants as unanswered
use Rattle.standing_incr.specs.HeldRows.{held_of}
use Rattle.mon_meaning.specs.Incremental.{is_incremental}
use Rattle.standing_incr.specs.Keeping.{StandingResult}
use Rattle.typed_trees.specs.Meaning.{load}
use Rattle.typed_trees.specs.Nodes.{TypedTree, typed_tree}
use Rattle.typed_trees.specs.Soundness.{IsTyped}

-- ---- over rows

module _ (typed : TypedTree) (rows : List Row) where
  -- what is printed at a moment
  abbrev pub table_then : ℤ → List ℕ
  table_then at = moment_heading at ++ meant_text (Ok typed) rows at

  -- what is printed at each of some moments: the form of the query is one whose result is kept, and its load is within
  -- the limit at each
  pub record AreTables (moments : List ℤ) (limit : ℕ) (text : List ℕ) : Type 0 where
    pub form : is_incremental typed.tree ≡ true
    pub within : AllByRecursion (λ at. load typed rows at ≤ limit) moments
    pub text_is : text ≡ flat_map table_then moments

  -- the load is above the limit at one of some moments
  pub record IsAboveOnce (moments : List ℤ) (limit : ℕ) : Type 0 where
    pub at : ℤ
    pub among : Contains moments at
    pub above : limit < load typed rows at

  -- or why nothing is printed
  abbrev pub HasNoTables : List ℤ → ℕ → Refusal NotFollowed → Type 0
  HasNoTables moments limit (refusal.Fault unfollowed.Form) = is_incremental typed.tree ≡ false
  HasNoTables moments limit (refusal.Fault unfollowed.Load) = IsAboveOnce moments limit
  HasNoTables moments limit refusal.OutOfMemory = Unit {0}

  abbrev pub AreFollowedAs : List ℤ → ℕ → Result (List ℕ) (Refusal NotFollowed) → Type 0
  AreFollowedAs moments limit (Ok text) = AreTables moments limit text
  AreFollowedAs moments limit (Err refused) = HasNoTables moments limit refused

  -- the table of a moment came behind a text
  pub record IsAdded (at : ℤ) (limit : ℕ) (before after : List ℕ) : Type 0 where
    pub within : load typed rows at ≤ limit
    pub text_is : after ≡ before ++ table_then at

  -- or the load is above the limit then
  abbrev pub IsNotAdded : ℤ → ℕ → Refusal NotFollowed → Type 0
  IsNotAdded at limit (refusal.Fault unfollowed.Form) = ⊥
  IsNotAdded at limit (refusal.Fault unfollowed.Load) = limit < load typed rows at
  IsNotAdded at limit refusal.OutOfMemory = Unit {0}

-- a result that stands over rows
pub record IsKeptOf (kept : StandingResult) (rows : List Row) : Type 0 where
  pub typed : IsTyped (typed_tree kept.typed) rows
  pub source : IsSource rows
  pub form : is_incremental (typed_tree kept.typed).tree ≡ true
  pub moment : pos 0 ≤ℤ kept.moment
  pub held : kept.held ≡ held_of (typed_tree kept.typed) kept.moment rows

-- ---- lines

-- a text over rows that it can be evaluated over
pub record IsFollowedBy (config : Config) (text : List ℕ) (rows : List Row) (moments : List ℤ)
    (result : Result (List ℕ) (Refusal NotFollowed)) : Type 0 where
  pub typed : TypedTree
  pub type_is : text_type config.schemas text ≡ Ok typed
  pub followed : AreFollowedAs typed rows moments config.limit result

-- what is printed
abbrev pub ran_follow : ℤ → Trace → List ℕ → LineRan
ran_follow moment trace text = record { trace = came.Followed moment trace; text = text }

-- or why nothing is
abbrev pub follow_fault : ℕ → Trace → NotFollowed → LineFault
follow_fault limit trace unfollowed.Form = why.NotIncremental
follow_fault limit trace unfollowed.Load = why.Question (unanswered.StepLimit limit trace)

abbrev pub not_followed : Config → Trace → NotFollowed → LineRan
not_followed config trace unfollowed = refused_for config.topology (follow_fault config.limit trace unfollowed)

-- want of memory is none of them
abbrev pub follow_ran : Config → ℤ → Trace → Result (List ℕ) NotFollowed → LineRan
follow_ran config moment trace (Ok text) = ran_follow moment trace text
follow_ran config moment trace (Err unfollowed) = not_followed config trace unfollowed

abbrev pub refused_as : Result (List ℕ) NotFollowed → Result (List ℕ) (Refusal NotFollowed)
refused_as (Ok text) = Ok text
refused_as (Err unfollowed) = Err (refusal.Fault unfollowed)

-- a line came to the tables over the rows of a trace, or was refused for want of them
pub record IsFollowRan (config : Config) (moments : Moments) (text : List ℕ) (know : Knowledge) (trace : Trace)
    (ran : LineRan) : Type 0 where
  pub result : Result (List ℕ) NotFollowed
  pub ran_is : ran ≡ follow_ran config moments.first trace result
  pub followed : IsFollowedBy config text (source_of know.seen trace) (all_moments moments) (refused_as result)
