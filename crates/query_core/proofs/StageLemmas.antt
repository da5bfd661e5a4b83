-- Zones that are begun one after another, and where answers lead.
use Rattle.std.proofs.Common.{◌≡◌, ℕ, Bool, true, List, [], ◌∷◌, cond, sym}
use Rattle.std.proofs.Common.{ap, subst, Result, Ok, Err, IfOk}
use Rattle.mon_value.specs.declared.positions.Leaf.{Leaf}
use Rattle.query_traces.specs.declared.areas.Area.{Area}
use Rattle.query_core.specs.declared.courses.Course.{Course}
use Rattle.query_traces.specs.declared.asks.Seen.{Seen}
use Rattle.query_traces.specs.declared.loadings.Loading.{Loading}
use Rattle.query_core.specs.declared.stages.Stage.{Stage}
use Rattle.query_core.specs.declared.stages.Step.{Step}
use Rattle.query_core.specs.declared.stages.Stage.TheVariants as at
use Rattle.query_core.specs.declared.stages.Turn.TheVariants as turn
use Rattle.query_core.specs.Courses.{with_next_zone, is_entered, left}
use Rattle.query_traces.specs.Loadings.{no_word, with_word}
use Rattle.query_core.specs.Mixtures.{LeadsTo, MayBeTold, MayMix, Settles}
use Rattle.query_traces.specs.declared.asks.Told.{Told}
use Rattle.query_core.specs.Program.{after, loaded_again, next_zone}
use Rattle.query_traces.specs.Rounds.{has_leaf, Round, round_of, slots_on, QuerySetting}
use Rattle.query_core.specs.Machine.{slots_in}

next_by : (course : Course) (area : Area) (areas : List Area) (enter : Bool) → is_entered course ≡ enter
    → next_zone (area ∷ areas) course
    ≡ cond enter (turn.Goes (at.Entering (with_next_zone course) (round_of area) no_word))
    (next_zone areas (left (with_next_zone course) area course.seen))
next_by course area areas enter e =
    ap (λ b. cond b (turn.Goes (at.Entering (with_next_zone course) (round_of area) no_word))
    (next_zone areas (left (with_next_zone course) area course.seen))) e

-- ---- a word that is loaded again

pub word_again : {E : Type 0} (setting : QuerySetting) (course : Course) (round : Round) (loading loaded : Loading)
    (word : ℕ) (seen : Seen) (result : Result Step E) → loaded ≡ with_word loading word seen
    → IfOk result (λ step. step ≡ loaded_again setting course round loaded)
    → IfOk result (λ step. step ≡ loaded_again setting course round (with_word loading word seen))
word_again setting course round loading loaded word seen result same given =
    subst (λ (l : Loading). IfOk result (λ step. step ≡ loaded_again setting course round l)) same given

-- ---- where an answer leads

pub may_settle : (setting : QuerySetting) (stage : Stage) (answer : Told) (step : Step)
    → step ≡ after setting stage answer → MayBeTold setting stage answer → MayMix setting step
may_settle setting stage answer step is may = subst (λ (s : Step). MayMix setting s) (sym is) may.may_mix

pub settles_so : {E : Type 0} (setting : QuerySetting) (stage : Stage) (answer : Told) (step : Step)
    (result : Result Stage E)
    → step ≡ after setting stage answer → IfOk result (Settles setting step)
    → IfOk result (LeadsTo setting stage answer)
settles_so setting stage answer step (Ok new) is settles =
    record { settles = subst (λ (s : Step). Settles setting s new) is settles }
settles_so setting stage answer step (Err why) is settles = record {}

-- ---- slots of a leaf of the zone

pub slots_here : (round : Round) (leaf : Leaf) → has_leaf round.area leaf ≡ true
    → slots_in round leaf ≡ slots_on leaf round.resolved
slots_here round leaf has = ap (λ b. cond b (slots_on leaf round.resolved) []) has
