-- Answers that are mixed: those of a zone's leaves make that of the zone, which goes behind those of the zones before
-- it.
use Rattle.std.proofs.Common.{◌≡◌, ℕ, ℤ, Bool, true, false, List, [], ◌∷◌, ◌++◌, cond, drop, sym, subst}
use Rattle.std.proofs.Common.{Result, Ok, Err, IfOk}
use Rattle.std.specs.List.{AllByRecursion}
use Rattle.mixer.specs.Divisions.{all_rows, together}
use Rattle.mon_meaning.specs.ReadableSlots.{AreApart, ShareNoTarget}
use Rattle.mixer.specs.ZoneAnswers.{AllZoneParts, AreLeafParts, AreZoneParts, HasLeafParts, HasZoneParts, IsZoneAnswer}
use Rattle.mixer.specs.ZoneAnswers.{IsZonePart}
use Rattle.mixer.specs.declared.zone_answers.ZoneAnswer.{ZoneAnswer}
use Rattle.mon_fold.specs.declared.answers.LeafAnswer.{LeafAnswer}
use Rattle.mon_meaning.specs.declared.meter.OverLimit.{OverLimit}
use Rattle.mon_value.specs.declared.refusals.Refusal.{Refusal}
use Rattle.mon_value.specs.declared.refusals.Refusal.TheVariants as refusal
use Rattle.mon_value.specs.declared.rows.Row.{Row}
use Rattle.mon_meaning.specs.Central.{IsAnswer}
use Rattle.mon_value.specs.declared.tables.Table.{Table}
use Rattle.mon_schema.specs.Fits.{fits}
use Rattle.typed_trees.specs.Nodes.{TypedTree, typed_tree}
use Rattle.typed_trees.specs.declared.plans.Plan.{Plan}
use Rattle.query_traces.specs.declared.areas.Area.{Area}
use Rattle.query_core.specs.declared.courses.Course.{Course}
use Rattle.query_core.specs.declared.stages.Stage.{Stage}
use Rattle.query_core.specs.declared.stages.Stage.TheVariants as at
use Rattle.query_core.specs.declared.stages.Turn.{Turn}
use Rattle.query_core.specs.declared.stages.Turn.TheVariants as turn
use Rattle.query_core.specs.Courses.{with_next_zone, is_entered, with_zone_answer, left}
use Rattle.query_traces.specs.Loadings.{no_word}
use Rattle.query_core.specs.Mixtures.{HasParts, IsRootMixed, IsZoneMixed, MayMixRoot, TurnSettles, root_stage}
use Rattle.query_traces.specs.Rounds.{typed_of, round_of, QuerySetting}
use Rattle.query_core.specs.Program.{next_zone, stopped_stage}
use Rattle.mon_value.proofs.PlainLemmas.{all_front, all_back, all_last}

-- ---- the last zone of several

last_rows : (P : Row → Type 0) (zones : List (List (List Row))) (leaves : List (List Row))
    → AllByRecursion P (all_rows (zones ++ leaves ∷ [])) → AllByRecursion P (together leaves)
last_rows P [] leaves all = all_front P (together leaves) [] all
last_rows P (zone ∷ zones) leaves all =
    last_rows P zones leaves (all_back P (together zone) (all_rows (zones ++ leaves ∷ [])) all)

module _ (setting : QuerySetting) where
  -- the answers of its leaves can be mixed
  pub leaf_parts : (answers : List ZoneAnswer) (parts : List LeafAnswer) (has : HasParts setting answers parts)
      → AreLeafParts (typed_of setting) has.leaves has.moment setting.limit parts
  leaf_parts answers parts has =
      let of = has.divided.of in
      record {
        from = has.from;
        of = record {
          held = of.held;
          query = of.query;
          metrics = of.metrics;
          spelled = of.spelled;
          durations = of.durations;
          is = of.is;
          fit = last_rows (λ (row : Row). fits of.held row ≡ true) has.zones has.leaves of.fit;
        };
        apart = all_last (AreApart ShareNoTarget) has.zones has.leaves has.divided.leaves_apart;
        each = has.of_leaves;
      }

  pub has_leaf_parts : (answers : List ZoneAnswer) (parts : List LeafAnswer) → HasParts setting answers parts
      → HasLeafParts (typed_of setting) setting.limit parts
  has_leaf_parts answers parts has =
      record { leaves = has.leaves; moment = has.moment; are = leaf_parts answers parts has }

  -- ---- one zone more

  zone_parts_more : (zones : List (List (List Row))) (leaves : List (List Row)) (moment : ℤ) (answers : List ZoneAnswer)
      (answer : ZoneAnswer) → AllZoneParts (typed_of setting) zones moment setting.limit answers
      → IsZonePart (typed_of setting) leaves moment setting.limit answer
      → AllZoneParts (typed_of setting) (zones ++ leaves ∷ []) moment setting.limit (answers ++ answer ∷ [])
  zone_parts_more [] leaves moment [] answer all one = (one, record {})
  zone_parts_more [] leaves moment (other ∷ answers) answer all one = absurd all
  zone_parts_more (zone ∷ zones) leaves moment [] answer all one = absurd all
  zone_parts_more (zone ∷ zones) leaves moment (other ∷ answers) answer all one =
      (all.0, zone_parts_more zones leaves moment answers answer all.1 one)

  zone_part : (leaves : List (List Row)) (moment : ℤ) (result : Result ZoneAnswer (Refusal OverLimit))
      (answer : ZoneAnswer)
      → result ≡ Ok answer → IsZoneAnswer (typed_of setting) leaves moment setting.limit result
      → IsZonePart (typed_of setting) leaves moment setting.limit answer
  zone_part leaves moment result answer is given =
      subst (λ (r : Result ZoneAnswer (Refusal OverLimit)). IsZoneAnswer (typed_of setting) leaves moment setting.limit
      r)
      is given

  zone_more : (answers : List ZoneAnswer) (parts : List LeafAnswer) (answer : ZoneAnswer)
      (has : HasParts setting answers parts)
      → IsZonePart (typed_of setting) has.leaves has.moment setting.limit answer
      → HasZoneParts (typed_of setting) setting.limit (answers ++ answer ∷ [])
  zone_more answers parts answer has one = record {
    zones = has.zones ++ has.leaves ∷ [];
    moment = has.moment;
    are = record {
      from = has.from;
      divided = has.divided;
      each = zone_parts_more has.zones has.leaves has.moment answers answer has.of_zones one;
    };
  }

  -- ---- the way to the next zone leaves the answers as they are

  enters : (course : Course) (area : Area) (areas : List Area) (enter : Bool)
      → MayMixRoot setting (next_zone areas (left (with_next_zone course) area course.seen))
      → MayMixRoot setting (cond enter (turn.Goes (at.Entering (with_next_zone course) (round_of area) no_word))
      (next_zone areas (left (with_next_zone course) area course.seen)))
  enters course area areas true later = record {}
  enters course area areas false later = later

  next_mixes : (areas : List Area) (course : Course)
      → HasZoneParts (typed_of setting) setting.limit course.answers → MayMixRoot setting (next_zone areas course)
  next_mixes [] course has = has
  next_mixes (area ∷ areas) course has =
      enters course area areas (is_entered course)
      (next_mixes areas (left (with_next_zone course) area course.seen) has)

  -- once a zone's answers are mixed, those of all zones can be
  pub mixes_on : (course : Course) (parts : List LeafAnswer) (answer : ZoneAnswer)
      (result : Result ZoneAnswer (Refusal OverLimit)) (has : HasParts setting course.answers parts)
      → result ≡ Ok answer
      → IsZoneAnswer (typed_of setting) has.leaves has.moment setting.limit result
      → MayMixRoot setting (next_zone (drop course.begun setting.areas) (with_zone_answer course answer))
  mixes_on course parts answer result has is given =
      next_mixes (drop course.begun setting.areas) (with_zone_answer course answer)
      (zone_more course.answers parts answer has (zone_part has.leaves has.moment result answer is given))

-- ---- what a plan and a limit are handed to, where they are those of the setting

module _ (setting : QuerySetting) (plan : Plan) (limit : ℕ) (same_plan : plan ≡ setting.plan) (same_limit : limit
    ≡ setting.limit) where
  pub asked_leaves : (answers : List ZoneAnswer) (parts : List LeafAnswer) → HasParts setting answers parts
      → HasLeafParts (typed_tree plan.typed) limit parts
  asked_leaves answers parts has =
      subst (λ (p : Plan). HasLeafParts (typed_tree p.typed) limit parts) (sym same_plan)
      (subst (λ (most : ℕ). HasLeafParts (typed_of setting) most parts) (sym same_limit)
      (has_leaf_parts setting answers parts has))

  pub asked_zones : (answers : List ZoneAnswer) → HasZoneParts (typed_of setting) setting.limit answers
      → HasZoneParts (typed_tree plan.typed) limit answers
  asked_zones answers has =
      subst (λ (p : Plan). HasZoneParts (typed_tree p.typed) limit answers) (sym same_plan)
      (subst (λ (most : ℕ). HasZoneParts (typed_of setting) most answers) (sym same_limit) has)

  -- what is said of a zone's leaves
  abbrev pub MixesLeaves : TypedTree → ℕ → List LeafAnswer → Result ZoneAnswer (Refusal OverLimit) → Type 0
  MixesLeaves typed most parts result = (leaves : List (List Row)) (moment : ℤ)
      → AreLeafParts typed leaves moment most parts → IsZoneAnswer typed leaves moment most result

  pub leaves_mixed : (parts : List LeafAnswer) (result : Result ZoneAnswer (Refusal OverLimit))
      → MixesLeaves (typed_tree plan.typed) limit parts result → MixesLeaves (typed_of setting) setting.limit parts
      result
  leaves_mixed parts result mixes =
      subst (λ (p : Plan). MixesLeaves (typed_tree p.typed) setting.limit parts result) same_plan
      (subst (λ (most : ℕ). MixesLeaves (typed_tree plan.typed) most parts result) same_limit mixes)

  abbrev pub MixesZones : TypedTree → ℕ → List ZoneAnswer → Result Table (Refusal OverLimit) → Type 0
  MixesZones typed most answers result = (zones : List (List (List Row))) (moment : ℤ)
      → AreZoneParts typed zones moment most answers → IsAnswer typed (all_rows zones) moment most result

  pub zones_mixed : (answers : List ZoneAnswer) (result : Result Table (Refusal OverLimit))
      → MixesZones (typed_tree plan.typed) limit answers result → MixesZones (typed_of setting) setting.limit answers
      result
  zones_mixed answers result mixes =
      subst (λ (p : Plan). MixesZones (typed_tree p.typed) setting.limit answers result) same_plan
      (subst (λ (most : ℕ). MixesZones (typed_tree plan.typed) most answers result) same_limit mixes)

  -- ---- how the query goes on

  -- a zone's answers were mixed
  pub goes_on : (course : Course) (parts : List LeafAnswer) (result : Result ZoneAnswer (Refusal OverLimit))
      (answer : ZoneAnswer) → result ≡ Ok answer → HasParts setting course.answers parts
      → MixesLeaves (typed_tree plan.typed) limit parts result
      → MayMixRoot setting (next_zone (drop course.begun setting.areas) (with_zone_answer course answer))
  goes_on course parts result answer is has mixes =
      mixes_on setting course parts answer result has is
      (leaves_mixed parts result mixes has.leaves has.moment (leaf_parts setting course.answers parts has))

  pub zone_is_mixed : (course : Course) (parts : List LeafAnswer) (result : Result ZoneAnswer (Refusal OverLimit))
      (answer : ZoneAnswer) (stage : Stage) → result ≡ Ok answer
      → MixesLeaves (typed_tree plan.typed) limit parts result
      → TurnSettles setting (next_zone (drop course.begun setting.areas) (with_zone_answer course answer)) stage
      → IsZoneMixed setting course parts stage
  zone_is_mixed course parts result answer stage is mixes settles = record {
    mixed = Ok answer;
    mixes = λ leaves moment are.
        subst (λ (r : Result ZoneAnswer (Refusal OverLimit)). IsZoneAnswer (typed_of setting) leaves moment
        setting.limit r) is
        (leaves_mixed parts result mixes leaves moment are);
    settles = settles;
  }

  -- or their load is above the limit
  pub zone_is_over : (course : Course) (parts : List LeafAnswer) (result : Result ZoneAnswer (Refusal OverLimit))
      (over : OverLimit) (stage : Stage) → result ≡ Err (refusal.Fault over)
      → MixesLeaves (typed_tree plan.typed) limit parts result
      → stage ≡ stopped_stage setting course → IsZoneMixed setting course parts stage
  zone_is_over course parts result over stage is mixes ended = record {
    mixed = Err over;
    mixes = λ leaves moment are.
        subst (λ (r : Result ZoneAnswer (Refusal OverLimit)). IsZoneAnswer (typed_of setting) leaves moment
        setting.limit r) is
        (leaves_mixed parts result mixes leaves moment are);
    settles = ended;
  }

  -- the answers of all zones were mixed
  pub root_is_mixed : (course : Course) (answers : List ZoneAnswer) (result : Result Table (Refusal OverLimit))
      (table : Table) (stage : Stage) → answers ≡ course.answers → result ≡ Ok table
      → MixesZones (typed_tree plan.typed) limit answers result
      → stage ≡ root_stage setting course (Ok table) → IsRootMixed setting course stage
  root_is_mixed course answers result table stage same is mixes ended = record {
    mixed = Ok table;
    mixes = λ zones moment are.
        subst (λ (r : Result Table (Refusal OverLimit)). IsAnswer (typed_of setting) (all_rows zones) moment
        setting.limit r) is
        (zones_mixed answers result mixes zones moment
        (subst (λ (some : List ZoneAnswer). AreZoneParts (typed_of setting) zones moment setting.limit some) (sym same)
        are));
    stage_is = ended;
  }

  -- or their load is above the limit
  pub root_is_over : (course : Course) (answers : List ZoneAnswer) (result : Result Table (Refusal OverLimit))
      (over : OverLimit) (stage : Stage) → answers ≡ course.answers → result ≡ Err (refusal.Fault over)
      → MixesZones (typed_tree plan.typed) limit answers result
      → stage ≡ stopped_stage setting course → IsRootMixed setting course stage
  root_is_over course answers result over stage same is mixes ended = record {
    mixed = Err over;
    mixes = λ zones moment are.
        subst (λ (r : Result Table (Refusal OverLimit)). IsAnswer (typed_of setting) (all_rows zones) moment
        setting.limit r) is
        (zones_mixed answers result mixes zones moment
        (subst (λ (some : List ZoneAnswer). AreZoneParts (typed_of setting) zones moment setting.limit some) (sym same)
        are));
    stage_is = ended;
  }

  -- ---- results

  pub root_ends : {E : Type 0} (course : Course) (answers : List ZoneAnswer) (result : Result Table (Refusal OverLimit))
      (table : Table) (ended : Result Stage E) → answers ≡ course.answers → result ≡ Ok table
      → MixesZones (typed_tree plan.typed) limit answers result
      → IfOk ended (λ stage. stage ≡ root_stage setting course (Ok table)) → IfOk ended (IsRootMixed setting course)
  root_ends course answers result table (Ok stage) same is mixes ends =
      root_is_mixed course answers result table stage same is mixes ends
  root_ends course answers result table (Err why) same is mixes ends = record {}

  pub root_stops : {E : Type 0} (course : Course) (answers : List ZoneAnswer)
      (result : Result Table (Refusal OverLimit))
      (over : OverLimit) (ended : Result Stage E) → answers ≡ course.answers → result ≡ Err (refusal.Fault over)
      → MixesZones (typed_tree plan.typed) limit answers result
      → IfOk ended (λ stage. stage ≡ stopped_stage setting course) → IfOk ended (IsRootMixed setting course)
  root_stops course answers result over (Ok stage) same is mixes ends =
      root_is_over course answers result over stage same is mixes ends
  root_stops course answers result over (Err why) same is mixes ends = record {}

  pub zone_stops : {E : Type 0} (course : Course) (parts : List LeafAnswer)
      (result : Result ZoneAnswer (Refusal OverLimit))
      (over : OverLimit) (ended : Result Stage E) → result ≡ Err (refusal.Fault over)
      → MixesLeaves (typed_tree plan.typed) limit parts result
      → IfOk ended (λ stage. stage ≡ stopped_stage setting course) → IfOk ended (IsZoneMixed setting course parts)
  zone_stops course parts result over (Ok stage) is mixes ends = zone_is_over course parts result over stage is mixes
      ends
  zone_stops course parts result over (Err why) is mixes ends = record {}

  pub zone_goes_on : {E : Type 0} (course : Course) (parts : List LeafAnswer)
      (result : Result ZoneAnswer (Refusal OverLimit)) (answer : ZoneAnswer) (turn : Turn) (ended : Result Stage E)
      → result ≡ Ok answer → MixesLeaves (typed_tree plan.typed) limit parts result
      → turn ≡ next_zone (drop course.begun setting.areas) (with_zone_answer course answer)
      → IfOk ended (TurnSettles setting turn) → IfOk ended (IsZoneMixed setting course parts)
  zone_goes_on course parts result answer turn (Ok stage) is mixes same settles =
      zone_is_mixed course parts result answer stage is mixes
      (subst (λ (t : Turn). TurnSettles setting t stage) same settles)
  zone_goes_on course parts result answer turn (Err why) is mixes same settles = record {}

  pub may_go_on : (course : Course) (parts : List LeafAnswer) (result : Result ZoneAnswer (Refusal OverLimit))
      (answer : ZoneAnswer) (turn : Turn) → result ≡ Ok answer → HasParts setting course.answers parts
      → MixesLeaves (typed_tree plan.typed) limit parts result
      → turn ≡ next_zone (drop course.begun setting.areas) (with_zone_answer course answer) → MayMixRoot setting turn
  may_go_on course parts result answer turn is has mixes same =
      subst (λ (t : Turn). MayMixRoot setting t) (sym same) (goes_on course parts result answer is has mixes)

pub ruleset zone_mixed = (asked_leaves, may_go_on, zone_goes_on, zone_stops)
