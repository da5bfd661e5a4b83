-- A licensed session keeps its leaves' answers, and ends with what was mixed of them.
use Rattle.std.proofs.Common.{◌≡◌, ◌∙◌, inl, inr, ℤ, List, [], ◌∷◌, ◌++◌, drop, refl, sym, ap, subst, arith, Result}
use Rattle.std.proofs.Common.{Ok, Err}
use Rattle.std.proofs.lemmas.List.{length-append}
use Rattle.mixer.specs.ZoneAnswers.{AreLeafParts, AreZoneParts, IsZonePart}
use Rattle.mixer.specs.declared.zone_answers.ZoneAnswer.{ZoneAnswer}
use Rattle.mon_fold.specs.declared.answers.LeafAnswer.{LeafAnswer}
use Rattle.mon_meaning.specs.declared.meter.OverLimit.{OverLimit}
use Rattle.mon_value.specs.declared.histories.Histories.{Histories}
use Rattle.mon_topo.specs.Settings.{Setting}
use Rattle.mon_value.specs.declared.tables.Table.{Table}
use Rattle.query_core.specs.declared.courses.Course.{Course}
use Rattle.query_core.specs.declared.stages.Stage.{Stage}
use Rattle.query_core.specs.declared.stages.Step.{Step}
use Rattle.query_core.specs.declared.stages.Step.TheVariants as step
use Rattle.query_core.specs.declared.stages.Turn.{Turn}
use Rattle.query_core.specs.declared.stages.Turn.TheVariants as turn
use Rattle.query_traces.specs.Rounds.{areas_of, QuerySetting, typed_of}
use Rattle.query_core.specs.Courses.{with_zone_answer}
use Rattle.query_core.specs.Machine.{Query}
use Rattle.mon_value.specs.declared.rows.Row.{Row}
use Rattle.query_core.specs.Mixtures.{RootMixes, Settles, TurnSettles, ZoneMixes, root_stage, zone_turn}
use Rattle.query_core.specs.Program as spec
use Rattle.query_core.specs.Sessions as session
use Rattle.mon_topo.specs.Views.{IsSound, View}
use Rattle.query_core.proofs.AnswerParts.{answer_parts}
use Rattle.query_core.proofs.PartClaims.{CourseAt, CourseThrough, GatheredSo, StageParts, StepParts, TurnParts}
use Rattle.query_core.proofs.ZoneParts.{next_so}
use Rattle.query_core.proofs.SegmentFacts.{Mixed, Segment, behind_push}

module _ (store : Setting) (setting : QuerySetting) (moment : ℤ) (Tells : Histories → Course → Type 0)
    (areas : setting.areas ≡ areas_of store.zones) where
  -- what else is known where answers are mixed
  abbrev pub TurnTells : Histories → Turn → Type 0
  TurnTells now (turn.Goes stage) = Unit {0}
  TurnTells now (turn.Through course) = Tells now course

  abbrev pub StepTells : Histories → Step → Type 0
  StepTells now (step.Takes turn) = TurnTells now turn
  StepTells now (step.Gathered course parts) =
      Tells now course × ((mixed : Result ZoneAnswer OverLimit) → TurnTells now (zone_turn setting course mixed))

  root_parts : (now : Histories) (course : Course) → CourseThrough store setting moment now course
      → Tells now course → (mixed : Result Table OverLimit)
      → ((zones : List (List (List Row))) (at_moment : ℤ) → AreZoneParts (typed_of setting) zones at_moment
      setting.limit course.answers
      → RootMixes setting zones at_moment mixed)
      → StageParts store setting moment Tells now (root_stage setting course mixed)
  root_parts now course through tells (Ok table) mixes =
      record {
        course = course;
        through = through;
        tells = tells;
        trace_is = refl;
        levels = refl;
        mixes = λ zones are. mixes zones moment are;
      }
  root_parts now course through tells (Err over) mixes = (
    refl,
    inr (inr (record {
      course = course;
      through = through;
      tells = tells;
      trace_is = refl;
      over = over;
      mixes = λ zones are. mixes zones moment are;
    })),
  )

  turn_parts : (now : Histories) (some : Turn) (new : Stage) → TurnParts store setting moment Tells now some
      → TurnTells now some → TurnSettles setting some new → StageParts store setting moment Tells now new
  turn_parts now (turn.Goes stage) new so tells is = subst (λ (one : Stage). StageParts store setting moment Tells now
      one) (sym is) so
  turn_parts now (turn.Through course) new so tells is =
      subst (λ (one : Stage). StageParts store setting moment Tells now one) (sym is.stage_is)
      (root_parts now course so tells is.mixed is.mixes)

  -- the zone is behind
  zone_kept : (now : Histories) (course : Course) (parts : List LeafAnswer) (answer : ZoneAnswer)
      → GatheredSo store setting moment now course parts
      → ((leaves : List (List Row)) → AreLeafParts (typed_of setting) leaves moment setting.limit parts
      → IsZonePart (typed_of setting) leaves moment setting.limit answer)
      → CourseAt store setting moment now (with_zone_answer course answer)
  zone_kept now course parts answer so mixes =
      let inside = so.in_zone in
      let one : Segment = Mixed so.area so.resolved so.looks parts answer in
      record {
        segments = inside.segments ++ one ∷ [];
        behind = behind_push setting moment store.zones now inside.segments so.before (with_zone_answer course answer)
            one
            inside.behind
            (record {
              more_resolved = ap (λ (course : Course). course.resolved) so.is;
              more_looks = ap (λ (course : Course). course.looks) so.is;
              more_answers = ap (λ (course : Course). course.answers ++ answer ∷ []) so.is;
              same_seen = ap (λ (course : Course). course.seen) so.is;
            })
            inside.here (so.whole, so.parts_so, mixes);
        begun = ap (λ (course : Course). course.begun) so.is
            ∙ omega (arith, inside.begun, length-append inside.segments (one ∷ []));
        few = omega (arith, inside.there, length-append inside.segments (one ∷ []));
      }

  zone_parts : (now : Histories) (course : Course) (parts : List LeafAnswer) → GatheredSo store setting moment now
      course parts
      → Tells now course → (mixed : Result ZoneAnswer OverLimit)
      → ((leaves : List (List Row)) (at_moment : ℤ) → AreLeafParts (typed_of setting) leaves at_moment setting.limit
      parts
      → ZoneMixes setting leaves at_moment mixed)
      → TurnParts store setting moment Tells now (zone_turn setting course mixed)
  zone_parts now course parts so tells (Ok answer) mixes =
      next_so store setting moment Tells now (drop course.begun setting.areas) (with_zone_answer course answer)
      (ap (drop course.begun) areas)
      (zone_kept now course parts answer so (λ leaves are. mixes leaves moment are))
  zone_parts now course parts so tells (Err over) mixes = (
    refl,
    inr (inl (record {
      course = course;
      parts = parts;
      gathered = so;
      tells = tells;
      trace_is = refl;
      over = over;
      mixes = λ leaves are. mixes leaves moment are;
    })),
  )

  pub step_parts : (now : Histories) (some : Step) (new : Stage) → StepParts store setting moment Tells now some
      → StepTells now some → Settles setting some new → StageParts store setting moment Tells now new
  step_parts now (step.Takes turn) new so tells is = turn_parts now turn new so tells is
  step_parts now (step.Gathered course parts) new so tells is =
      turn_parts now (zone_turn setting course is.mixed) new
      (zone_parts now course parts so tells.0 is.mixed is.mixes) (tells.1 is.mixed) is.settles

  -- what else is kept from one event to the next
  pub record Keeps (Also : View → Query → Type 0) : Type 0 where
    pub on : (before : View) (query : Query) (event : session.Event store setting moment) → Also before query
        → session.IsLicensedEvent store setting moment before query event
        → Also event.view (session.told_then store setting moment query event)
        × StepTells event.view.seen (spec.after setting query.stage event.answer)

  pub session_parts : (Also : View → Query → Type 0) → Keeps Also → (events : List (session.Event store setting moment))
      (before : View) (query : Query) → IsSound store before → Also before query
      → StageParts store setting moment Tells before.seen query.stage
      → session.IsLicensed store setting moment before query events
      → StageParts store setting moment Tells (session.view_after store setting moment before events).seen
      (session.query_after store setting moment query events).stage
  session_parts Also keeps [] before query sound also so licensed = so
  session_parts Also keeps (event ∷ events) before query sound also so licensed =
      let one = licensed.0 in
      let next = keeps.on before query event also one in
      let some = answer_parts store setting moment Tells areas before event.view sound one.grown.seen query.avoided
      query.stage
      event.answer so one.true_then in
      session_parts Also keeps events event.view (session.told_then store setting moment query event) one.sound next.0
      (step_parts event.view.seen (spec.after setting query.stage event.answer) event.stage some next.1 one.goes_on)
      licensed.1
