-- What a schedule prints: a run of the core, line by line.
use Rattle.std.specs.Prelude.{ℕ, zero, suc, ◌+◌, ◌≡◌, ◌⊎◌, ◌&&◌, ◌||◌, nat_lt, Bool, true, false, not, List, [], ◌∷◌}
use Rattle.std.specs.Prelude.{◌++◌, codes, Option, Some, None, Result, Ok, Err, if◌then◌else◌}
use Rattle.std.specs.Fmt.{decimal}
use Rattle.std.specs.List.{flat_map, range_with_len}
use Rattle.mon_config.specs.declared.config.Config.{Config}
use Rattle.mon_script.specs.Lines.{is_remark, lines_of}
use Rattle.mon_table.specs.Tables.{newline}
use Rattle.mon_topo.specs.Settings.{Setting}
use Rattle.mon_value.specs.declared.refusals.Refusal.{Refusal}
use Rattle.mon_value.specs.declared.refusals.Refusal.TheVariants as refusal
use Rattle.weave_core.specs.Declarations.{Declares, Meets}
use Rattle.mon_topo.specs.HeldHistories.{first_histories}
use Rattle.core_theory.specs.Licensed.{IsNewCore}
use Rattle.schedule_lines.specs.ScheduleLines.{schedule_form}
use Rattle.weave_core.specs.States.{State, Undeclared, has_begun, has_ended, is_declared, next_event, step_fault}
use Rattle.core_store.specs.Agreements.{store_of}
use Rattle.weave_core.specs.Steps.{Steps}
use Rattle.schedule_lines.specs.declared.calls.ScheduleFault.{ScheduleFault}
use Rattle.weave_core.specs.declared.stepped.Stepped.{Stepped}
use Rattle.weave_core.specs.declared.stepped.Stepped.TheVariants as stepped
use Rattle.schedule_lines.specs.declared.calls.WeaveFault.{WeaveFault}
use Rattle.schedule_lines.specs.declared.calls.WeaveFault.TheVariants as fault
use Rattle.schedule_lines.specs.declared.events.Event.{Event}
use Rattle.schedule_lines.specs.declared.limits.TheConstants.{LAST_ACTOR, MOST_EVENTS, MOST_LINES}
use Rattle.schedule_lines.specs.declared.lines.LineForm.{LineForm}
use Rattle.schedule_lines.specs.declared.lines.LineForm.TheVariants as form
use Rattle.write_core.specs.World.{Stands}

-- ---- texts

-- what a line prints whose actor stepped last so
abbrev pub stepped_text : ℕ → Stepped → List ℕ
stepped_text k stepped.Went = []
stepped_text k stepped.Waits = decimal k ++ (codes " waits" ++ newline)
stepped_text k (stepped.Ended text) = codes "actor " ++ (decimal k ++ newline) ++ text

module _ (store : Setting) where
  abbrev pub is_unfinished : State store → ℕ → Bool
  is_unfinished state k = is_declared store state k && not (has_ended store state k)

  abbrev pub unfinished_line : State store → ℕ → List ℕ
  unfinished_line state k = if is_unfinished state k then decimal k ++ (codes " unfinished" ++ newline) else []

  -- a line for each actor that was declared and has not ended, from the least number to the greatest
  abbrev pub unfinished_text : State store → List ℕ
  unfinished_text state = flat_map (unfinished_line state) (range_with_len 1 LAST_ACTOR)

  -- ---- events one after another

  -- an actor's next event is this one (where none is given, no event is)
  abbrev pub IsNextEvent : State store → ℕ → Option Event → Type 0
  IsNextEvent state k None = ⊥
  IsNextEvent state k (Some event) = next_event store state k ≡ Some event

  -- from a state, so many events of an actor went, and led to another state; none of them was the one given
  abbrev pub Went : ℕ → Option Event → State store → ℕ → State store → Type 0
  Went k goal from zero state = state ≡ from
  Went k goal from (suc count) state =
      (before : State store) × Went k goal from count before × (IsNextEvent before k goal → ⊥)
      × Steps store before k stepped.Went state

  -- the actor stops before the event that was given
  abbrev pub StopsBeforeEvent : ℕ → Option Event → State store → Stepped → State store → Type 0
  StopsBeforeEvent k goal state how after = IsNextEvent state k goal × (how ≡ stepped.Went) × (after ≡ state)

  -- it waits, or ends by its next step
  abbrev pub EndsBy : ℕ → Option Event → State store → Stepped → State store → Type 0
  EndsBy k goal state how after =
      (IsNextEvent state k goal → ⊥) × Steps store state k how after × (how ≡ stepped.Went → ⊥)

  -- so many events went that a line does no more
  abbrev pub Rests : ℕ → State store → Stepped → State store → Type 0
  Rests count state how after = (count ≡ MOST_EVENTS) × (how ≡ stepped.Went) × (after ≡ state)

  -- an actor does its events until it waits or ends, or until its next event is the one given
  pub record ActorGoesOn (k : ℕ) (goal : Option Event) (from : State store) (how : Stepped) (after : State store)
      : Type 0 where
    pub count : ℕ
    pub state : State store
    pub went : Went k goal from count state
    pub ends : StopsBeforeEvent k goal state how after ⊎ (EndsBy k goal state how after ⊎ Rests count state how after)

  -- ---- why a line is refused

  abbrev pub declare_fault : State store → ℕ → Option WeaveFault
  declare_fault state k = if is_declared store state k then Some fault.BadLine else None

  -- both are to be declared; then the one may not have begun, and the other has to have ended
  abbrev pub meet_fault : State store → ℕ → ℕ → Option WeaveFault
  meet_fault state k j =
      if not (is_declared store state k) || not (is_declared store state j) then Some fault.NoActor
      else if has_begun store state k || not (has_ended store state j) then Some fault.BadLine
      else None

  abbrev pub line_fault : State store → LineForm → Option WeaveFault
  line_fault state (form.Declare k call) = declare_fault state k
  line_fault state (form.Meet k j) = meet_fault state k j
  line_fault state (form.Step k) = step_fault store state k
  line_fault state (form.Until k event) = step_fault store state k
  line_fault state (form.Finish k) = step_fault store state k

-- ---- what a line does

module _ (config : Config) where
  -- an actor steps, and what this prints
  pub record StepPrints (state : State (store_of config)) (k : ℕ) (said : List ℕ) (after : State (store_of config))
      : Type 0 where
    pub how : Stepped
    pub steps : Steps (store_of config) state k how after
    pub says : said ≡ stepped_text k how

  -- an actor goes on, and what this prints
  pub record GoingPrints (state : State (store_of config)) (k : ℕ) (goal : Option Event) (said : List ℕ)
      (after : State (store_of config)) : Type 0 where
    pub how : Stepped
    pub goes : ActorGoesOn (store_of config) k goal state how after
    pub says : said ≡ stepped_text k how

  -- a line that is not refused prints this and leaves that
  abbrev pub Does : State (store_of config) → LineForm → List ℕ → State (store_of config) → Type 0
  Does state (form.Declare k call) said after = (said ≡ []) × Declares config state k call after
  Does state (form.Meet k j) said after = (said ≡ []) × Meets (store_of config) state k j after
  Does state (form.Step k) said after = StepPrints state k said after
  Does state (form.Until k event) said after = GoingPrints state k (Some event) said after
  Does state (form.Finish k) said after = GoingPrints state k None said after

-- ---- whole schedules

-- all that a schedule prints, and the first of its lines that is refused
pub record Printed : Type 0 where
  pub text : List ℕ
  pub fault : Option ScheduleFault

-- a line that is refused ends the run
abbrev pub refused_at : ℕ → WeaveFault → Printed
refused_at number why = record { text = []; fault = Some (record { line = number; fault = why }) }

-- texts that were printed before
abbrev pub said_before : List ℕ → Printed → Printed
said_before said more = record { text = said ++ more.text; fault = more.fault }

module _ (config : Config) where
  -- what the rest of a schedule prints from a state on
  abbrev pub Onward : Type 1
  Onward = State (store_of config) → Printed → Type 0

  -- a line is done, and then the rest
  pub record DoneThen (Rest : Onward) (state : State (store_of config)) (what : LineForm) (printed : Printed) : Type 0
    where
      pub said : List ℕ
      pub after : State (store_of config)
      pub more : Printed
      pub does : Does config state what said after
      pub rest : Rest after more
      pub prints : printed ≡ said_before said more

  -- unless it is refused
  abbrev pub DoneUnless : ℕ → Onward → State (store_of config) → LineForm → Option WeaveFault → Printed → Type 0
  DoneUnless number Rest state what (Some why) printed = printed ≡ refused_at number why
  DoneUnless number Rest state what None printed = DoneThen Rest state what printed

  -- a line of no form is refused
  abbrev pub ScheduleLineRuns : ℕ → Onward → State (store_of config) → Option LineForm → Printed → Type 0
  ScheduleLineRuns number Rest state None printed = printed ≡ refused_at number fault.BadLine
  ScheduleLineRuns number Rest state (Some what) printed =
      DoneUnless number Rest state what (line_fault (store_of config) state what) printed

  -- an empty line and a remark do nothing
  abbrev pub RunsUnless : ℕ → Onward → State (store_of config) → List ℕ → Bool → Printed → Type 0
  RunsUnless number Rest state line true printed = Rest state printed
  RunsUnless number Rest state line false printed =
      ScheduleLineRuns number Rest state (schedule_form config.schemas config.topology line) printed

  -- a line behind the last that may be is refused, whatever it is
  abbrev pub Numbered : ℕ → Type 0 → Bool → Printed → Type 0
  Numbered number Runs true printed = printed ≡ refused_at number fault.BadLine
  Numbered number Runs false printed = Runs

  -- the lines that are numbered on from one, in a state, print this; at the end the actors that have not ended are
  -- named
  abbrev pub RunsFrom : ℕ → List (List ℕ) → State (store_of config) → Printed → Type 0
  RunsFrom number [] state printed = printed ≡ record { text = unfinished_text (store_of config) state; fault = None }
  RunsFrom number (line ∷ lines) state printed =
      Numbered number (RunsUnless number (RunsFrom (number + 1) lines) state line (is_remark line) printed)
      (nat_lt MOST_LINES number) printed

  -- nobody is declared, nobody holds anything, no bit is set, and the store has no rows; each actor has the pass of
  -- its number
  pub record IsFirstState (state : State (store_of config)) : Type 0 where
    pub new : IsNewCore (store_of config) state.core
    pub seen : state.core.world.truth.seen ≡ first_histories config.topology
    pub no_root_bit : (zone bucket : ℕ) → state.core.world.truth.bits.root zone bucket ≡ false
    pub no_zone_bit : (leaf bucket : ℕ) → state.core.world.truth.bits.zone leaf bucket ≡ false
    pub no_leaf_held : (leaf : ℕ) → state.core.world.leaf_holder leaf ≡ None
    pub no_range_held : (range : ℕ) → state.core.world.range_holder range ≡ None
    pub stand : (k : ℕ) → state.core.world.actors k ≡ Stands (record { pass = k; view = state.core.world.truth })
    pub no_note : (k : ℕ) → state.core.world.notes k ≡ []
    pub roles : (k : ℕ) → state.roles k ≡ Undeclared

  -- a schedule's text prints this, by some run of the core
  pub record IsPrinted (schedule : List ℕ) (printed : Printed) : Type 0 where
    pub first : State (store_of config)
    pub is_first : IsFirstState first
    pub runs : RunsFrom 1 (lines_of schedule) first printed

  -- it is printed behind what was there
  abbrev pub PrintsBehind : List ℕ → Option ScheduleFault → List ℕ → List ℕ → Type 0
  PrintsBehind schedule why before after =
      (text : List ℕ) × (after ≡ before ++ text) × IsPrinted schedule (record { text = text; fault = why })

  abbrev pub RefusesSo : List ℕ → Refusal ScheduleFault → List ℕ → List ℕ → Type 0
  RefusesSo schedule (refusal.Fault why) before after = PrintsBehind schedule (Some why) before after
  RefusesSo schedule refusal.OutOfMemory before after = Unit {0}

  -- a call prints what the schedule does, and is refused where a line is, want of memory aside
  abbrev pub Prints : {X : Type 0} → List ℕ → Result X (Refusal ScheduleFault) → List ℕ → List ℕ → Type 0
  Prints schedule (Ok x) before after = PrintsBehind schedule None before after
  Prints schedule (Err why) before after = RefusesSo schedule why before after
