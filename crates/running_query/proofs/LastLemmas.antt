-- A query that ends without a replica of a range was told so last, at the whole history of the range.
use Rattle.std.proofs.Common.{◌≡◌, ◌∙◌, ℕ, ℤ, Bool, true, false, not, List, [], ◌∷◌, ◌++◌, length, take, drop, cond, refl}
use Rattle.std.proofs.Common.{sym, ap, subst, append_assoc, Some, None, Ok, Err}
use Rattle.std.specs.Prelude.{Option, Result, filter, slice_get}
use Rattle.std.specs.List.{AllByRecursion as All}
use Rattle.std.proofs.Math.Seq.{take-length}
use Rattle.history_book.specs.Seats.{length_note}
use Rattle.history_book.specs.declared.views.LengthNote.{LengthNote}
use Rattle.mixer.specs.declared.zone_answers.ZoneAnswer.{ZoneAnswer}
use Rattle.mon_meaning.specs.declared.meter.OverLimit.{OverLimit}
use Rattle.mon_value.specs.declared.tables.Table.{Table}
use Rattle.mon_topo.specs.RangeHistories.{first_serving, is_avoided}
use Rattle.mon_topo.specs.Settings.{Setting}
use Rattle.mon_topo.specs.Views.{View}
use Rattle.mon_value.specs.Histories.{range_history}
use Rattle.mon_value.specs.declared.histories.RangeEntry.{RangeEntry}
use Rattle.mon_value.specs.declared.positions.FoundDown.{FoundDown}
use Rattle.mon_value.specs.declared.positions.Leaf.{Leaf}
use Rattle.mon_value.specs.declared.positions.Range.{Range}
use Rattle.mon_value.specs.declared.positions.RangeSlot.{RangeSlot}
use Rattle.mon_value.specs.declared.positions.SlotLeaf.{SlotLeaf}
use Rattle.query_core.specs.Courses.{course_of, is_entered, left, with_found, with_next_zone, with_zone_answer}
use Rattle.query_traces.specs.Loadings.{is_whole, no_word, with_word}
use Rattle.query_traces.specs.Rounds.{read_at, unread_look, Round, next_range, round_of, with_slot, QuerySetting}
use Rattle.query_core.specs.Machine.{Query, avoided_after, slots_at}
use Rattle.query_core.specs.Mixtures as mixing
use Rattle.query_core.specs.Program as program
use Rattle.query_core.specs.Program.{ask_of, after}
use Rattle.query_core.specs.Sessions as session
use Rattle.query_traces.specs.TrueAnswers as truth
use Rattle.query_traces.specs.Visits.{Visits, next_leaf, with_leaf_answer, with_look}
use Rattle.query_traces.specs.declared.answers.RoundFault.TheVariants as fault
use Rattle.query_traces.specs.declared.areas.Area.{Area}
use Rattle.query_traces.specs.declared.asks.Told.{Told}
use Rattle.query_traces.specs.declared.asks.Told.TheVariants as told
use Rattle.query_traces.specs.declared.asks.Ask.TheVariants as ask
use Rattle.query_core.specs.declared.courses.Course.{Course}
use Rattle.query_traces.specs.declared.loadings.Loading.{Loading}
use Rattle.query_core.specs.declared.stages.Stage.{Stage}
use Rattle.query_core.specs.declared.stages.Stage.TheVariants as at
use Rattle.running_query.specs.Notes.{lengths_of, lengths_told, range_number}

-- ---- what leads to such an end

module _ (setting : QuerySetting) (range : Range) (named : List FoundDown) where
  abbrev pub Without : Stage
  Without = at.Ended (Err (fault.NoReplica range named))

  if_else : {S : Type 0} (P : S → Type 0) (b : Bool) (one other : S) → (P one → ⊥) → (P other → ⊥)
      → P (cond b one other) → ⊥
  if_else P true one other f g = f
  if_else P false one other f g = g

  through_root : (course : Course) (mixed : Result Table OverLimit) → Without ≡ mixing.root_stage setting course mixed → ⊥
  through_root course (Ok table) e = cc
  through_root course (Err over) e = cc

  next_zones : (areas : List Area) (course : Course)
      → mixing.TurnSettles setting (program.next_zone areas course) Without → ⊥
  next_zones [] course = λ h. through_root course h.mixed h.stage_is
  next_zones (area ∷ areas) course =
      if_else (λ turn. mixing.TurnSettles setting turn Without) (is_entered course) _ _ (λ h. elsewhere h)
      (next_zones areas (left (with_next_zone course) area course.seen))
    where
      elsewhere : Without ≡ at.Entering (with_next_zone course) (round_of area) no_word → ⊥
      elsewhere e = cc

  on_zones : (course : Course) → mixing.Settles setting (program.on_from setting course) Without → ⊥
  on_zones course = next_zones (drop course.begun setting.areas) course

  resolves : (course : Course) (round : Round) (next : Option Range)
      → mixing.Settles setting (program.resolving_at course round next) Without → ⊥
  resolves course round (Some range) h = cc
  resolves course round None h = cc

  zone_turns : (course : Course) (mixed : Result ZoneAnswer OverLimit)
      → mixing.TurnSettles setting (mixing.zone_turn setting course mixed) Without → ⊥
  zone_turns course (Ok answer) h = next_zones (drop course.begun setting.areas) (with_zone_answer course answer) h
  zone_turns course (Err over) h = cc

  visits_on : (course : Course) (round : Round) (visits : Visits) (next : Option Leaf)
      → mixing.Settles setting (program.visiting_at course round visits next) Without → ⊥
  visits_on course round visits (Some leaf) h = cc
  visits_on course round visits None h = zone_turns (program.with_zone course round visits) h.mixed h.settles

  opens : (course : Course) (round : Round) (loading : Loading)
      → mixing.Settles setting (program.opened_zone setting course round loading) Without → ⊥
  opens course round loading =
      if_else (λ step. mixing.Settles setting step Without) (program.let_some_in setting round.area loading) _ _
      (resolves course round (next_range round)) (on_zones (left course round.area loading.seen))

  roots : (loading : Loading) → Without ≡ at.Rooting loading → ⊥
  roots loading e = cc

  enters : (course : Course) (round : Round) (loading : Loading) → Without ≡ at.Entering course round loading → ⊥
  enters course round loading e = cc

  reloads : (course : Course) (round : Round) (loading : Loading) → Without ≡ at.Reloading course round loading → ⊥
  reloads course round loading e = cc

  -- ---- one event

  module _ (store : Setting) (moment : ℤ) (before now : View) (avoided : List Leaf) (slots : List RangeSlot) where
    abbrev TrueAt : Stage → Told → Type 0
    TrueAt stage answer =
        truth.IsTrueAnswer store setting moment before now avoided slots (ask_of setting stage) answer

    -- the range was asked of, and none of its replicas was found
    record CameWithout (stage : Stage) (answer : Told) : Type 0 where
      asks : ask_of setting stage ≡ ask.Resolve range
      tells : answer ≡ told.NoSlot
      found : truth.IsResolvedSo before now avoided range None

    without : (stage : Stage) (answer : Told) → TrueAt stage answer
        → mixing.Settles setting (after setting stage answer) Without → CameWithout stage answer
    without (at.Rooting loading) (told.Word word seen) is settles =
        absurd (if_else (λ step. mixing.Settles setting step Without) (is_whole setting.plan (with_word loading word seen))
        _ _ (on_zones (course_of setting (with_word loading word seen))) (roots (with_word loading word seen)) settles)
    without (at.Rooting loading) (told.Slot slot other) is settles = absurd is
    without (at.Rooting loading) told.NoSlot is settles = absurd is
    without (at.Rooting loading) (told.Down cut) is settles = absurd is
    without (at.Rooting loading) (told.Unread cut) is settles = absurd is
    without (at.Rooting loading) (told.Read cut part) is settles = absurd is
    without (at.Rooting loading) (told.Over load cut) is settles = absurd is
    without (at.Entering course round loading) (told.Word word seen) is settles =
        absurd (if_else (λ step. mixing.Settles setting step Without) (is_whole setting.plan (with_word loading word seen))
        _ _ (opens course round (with_word loading word seen)) (enters course round (with_word loading word seen)) settles)
    without (at.Entering course round loading) (told.Slot slot other) is settles = absurd is
    without (at.Entering course round loading) told.NoSlot is settles = absurd is
    without (at.Entering course round loading) (told.Down cut) is settles = absurd is
    without (at.Entering course round loading) (told.Unread cut) is settles = absurd is
    without (at.Entering course round loading) (told.Read cut part) is settles = absurd is
    without (at.Entering course round loading) (told.Over load cut) is settles = absurd is
    without (at.Resolving course round one) (told.Word word seen) is settles = absurd is
    without (at.Resolving course round one) (told.Slot slot other) is settles =
        absurd (resolves course (with_slot round one slot other) (next_range (with_slot round one slot other))
        settles)
    without (at.Resolving course round one) told.NoSlot is settles =
        let same : one ≡ range = cc in record {
          asks = ap ask.Resolve same;
          tells = refl;
          found = subst (λ (r : Range). truth.IsResolvedSo before now avoided r None) same is;
        }
    without (at.Resolving course round one) (told.Down cut) is settles = absurd is
    without (at.Resolving course round one) (told.Unread cut) is settles = absurd is
    without (at.Resolving course round one) (told.Read cut part) is settles = absurd is
    without (at.Resolving course round one) (told.Over load cut) is settles = absurd is
    without (at.Reloading course round loading) (told.Word word seen) is settles =
        absurd (if_else (λ step. mixing.Settles setting step Without) (is_whole setting.plan (with_word loading word seen))
        _ _ (visits_on course round (program.begin_visits setting round (with_word loading word seen))
        (next_leaf (program.begin_visits setting round (with_word loading word seen))))
        (reloads course round (with_word loading word seen)) settles)
    without (at.Reloading course round loading) (told.Slot slot other) is settles = absurd is
    without (at.Reloading course round loading) told.NoSlot is settles = absurd is
    without (at.Reloading course round loading) (told.Down cut) is settles = absurd is
    without (at.Reloading course round loading) (told.Unread cut) is settles = absurd is
    without (at.Reloading course round loading) (told.Read cut part) is settles = absurd is
    without (at.Reloading course round loading) (told.Over load cut) is settles = absurd is
    without (at.Visiting course round visits leaf) (told.Word word seen) is settles = absurd is
    without (at.Visiting course round visits leaf) (told.Slot slot other) is settles = absurd is
    without (at.Visiting course round visits leaf) told.NoSlot is settles = absurd is
    without (at.Visiting course round visits leaf) (told.Down cut) is settles =
        absurd (resolves (with_found course leaf cut) (round_of round.area)
        (next_range (round_of round.area)) settles)
    without (at.Visiting course round visits leaf) (told.Unread cut) is settles =
        absurd (visits_on course round (with_look visits leaf (unread_look cut))
        (next_leaf (with_look visits leaf (unread_look cut))) settles)
    without (at.Visiting course round visits leaf) (told.Read cut part) is settles =
        absurd (visits_on course round (with_leaf_answer (with_look visits leaf (read_at cut part.sent)) part)
        (next_leaf (with_leaf_answer (with_look visits leaf (read_at cut part.sent)) part)) settles)
    without (at.Visiting course round visits leaf) (told.Over load cut) is settles = absurd cc
    without (at.Ended end) (told.Word word seen) is settles = absurd is
    without (at.Ended end) (told.Slot slot other) is settles = absurd is
    without (at.Ended end) told.NoSlot is settles = absurd is
    without (at.Ended end) (told.Down cut) is settles = absurd is
    without (at.Ended end) (told.Unread cut) is settles = absurd is
    without (at.Ended end) (told.Read cut part) is settles = absurd is
    without (at.Ended end) (told.Over load cut) is settles = absurd is

-- ---- a session

module _ (store : Setting) (setting : QuerySetting) (moment : ℤ) (range : Range) (named : List FoundDown) where
  -- What was noted last is the whole history of the range, where no replica serves but on leaves that are avoided then
  pub record IsLastWithout (before : View) (query : Query) (events : List (session.Event store setting moment))
      : Type 0 where
    pub more : List LengthNote
    pub lengths : lengths_told store setting moment query events
        ≡ more ++ length_note (range_number store range)
        (length (range_history (session.view_after store setting moment before events).seen range)) ∷ []
    pub none : first_serving (session.query_after store setting moment query events).avoided
        (range_history (session.view_after store setting moment before events).seen range) ≡ None

  last_one : (before : View) (query : Query) (event : session.Event store setting moment)
      → session.IsLicensedEvent store setting moment before query event → event.stage ≡ Without setting range named
      → IsLastWithout before query (event ∷ [])
  last_one before query event one ended =
      let came = without setting range named store moment before event.view query.avoided (slots_at query) query.stage
      event.answer one.true_then
      (subst (λ (stage : Stage). mixing.Settles setting (after setting query.stage event.answer) stage) ended
      one.goes_on) in
      let whole : List RangeEntry = range_history event.view.seen range in
      let at_whole : take came.found.found whole ≡ whole =
      ap (λ (n : ℕ). take n whole) came.found.whole ∙ take-length whole in
      record {
        more = [];
        lengths = ap (λ asked. lengths_of store asked event.view ++ []) came.asks;
        none = ap (λ (a : Told). first_serving (avoided_after query.avoided query.stage a) whole) came.tells
            ∙ ap (λ (h : List RangeEntry). first_serving query.avoided h) (sym at_whole) ∙ came.found.first;
      }

  last_of : (before : View) (query : Query) (event : session.Event store setting moment)
      (events : List (session.Event store setting moment))
      → session.IsLicensed store setting moment before query (event ∷ events)
      → (session.query_after store setting moment query (event ∷ events)).stage ≡ Without setting range named
      → IsLastWithout before query (event ∷ events)
  last_of before query event [] licensed ended = last_one before query event licensed.0 ended
  last_of before query event (next ∷ events) licensed ended =
      let then = session.told_then store setting moment query event in
      let last = last_of event.view then next events licensed.1 ended in
      let own = lengths_of store (ask_of setting query.stage) event.view in
      record {
        more = own ++ last.more;
        lengths = ap (λ (notes : List LengthNote). own ++ notes) last.lengths
            ∙ sym (append_assoc own last.more (length_note (range_number store range)
            (length (range_history
            (session.view_after store setting moment event.view (next ∷ events)).seen range)) ∷ []));
        none = last.none;
      }

  pub last_without : (before : View) (events : List (session.Event store setting moment)) (query : Query)
      → (query.stage ≡ Without setting range named → ⊥)
      → session.IsLicensed store setting moment before query events
      → (session.query_after store setting moment query events).stage ≡ Without setting range named
      → IsLastWithout before query events
  last_without before [] query going licensed ended = absurd (going ended)
  last_without before (event ∷ events) query going licensed ended = last_of before query event events licensed ended

-- ---- the replicas that serve then

abbrev free : List Leaf → List SlotLeaf → List SlotLeaf
free avoided replicas = filter (λ (replica : SlotLeaf). not (is_avoided avoided replica)) replicas

some_first : (avoided : List Leaf) (replica : SlotLeaf) (replicas : List SlotLeaf) (b : Bool)
    → is_avoided avoided replica ≡ b
    → (slice_get (free avoided replicas) 0 ≡ None
    → All (λ (one : SlotLeaf). is_avoided avoided one ≡ true) replicas)
    → slice_get (cond (not b) (replica ∷ free avoided replicas) (free avoided replicas)) 0 ≡ None
    → All (λ (one : SlotLeaf). is_avoided avoided one ≡ true) (replica ∷ replicas)
some_first avoided replica replicas true e rest none = (e, rest none)
some_first avoided replica replicas false e rest none = absurd cc

-- where none is left, each is on a leaf that is avoided
pub all_avoided : (avoided : List Leaf) (replicas : List SlotLeaf) → slice_get (free avoided replicas) 0 ≡ None
    → All (λ (replica : SlotLeaf). is_avoided avoided replica ≡ true) replicas
all_avoided avoided [] none = tt
all_avoided avoided (replica ∷ replicas) none =
    some_first avoided replica replicas (is_avoided avoided replica) refl (all_avoided avoided replicas) none
