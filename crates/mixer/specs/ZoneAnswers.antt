-- What a zone answers: a piece for each part that zones do with their leaves, and how much the zone and its leaves did.
use Rattle.std.specs.Prelude.{◌≡◌, ◌<◌, ◌≤◌, ◌≤ℤ◌, ℕ, ℤ, pos, ◌+◌, sum_by, List, [], ◌∷◌, Result, Ok, Err}
use Rattle.mon_value.specs.declared.refusals.Refusal.{Refusal}
use Rattle.mon_value.specs.declared.refusals.Refusal.TheVariants as refusal
use Rattle.mon_value.specs.declared.rows.Row.{Row}
use Rattle.typed_trees.specs.LevelLoads.{leaf_load, zone_load}
use Rattle.typed_trees.specs.Meaning.{grid_of}
use Rattle.typed_trees.specs.Nodes.{TypedTree}
use Rattle.typed_trees.specs.Levels.{in_zone, top_parts}
use Rattle.typed_trees.specs.Soundness.{IsTyped}
use Rattle.mon_fold.specs.declared.answers.LeafAnswer.{LeafAnswer}
use Rattle.mon_meaning.specs.LeafAnswers.{IsLeafPart}
use Rattle.mon_meaning.specs.Standing.{AllStandFor}
use Rattle.mon_meaning.specs.declared.meter.OverLimit.{OverLimit}
use Rattle.mixer.specs.Divisions.{IsDivided, together}
use Rattle.mon_meaning.specs.ReadableSlots.{AreApart, ShareNoTarget}
use Rattle.mixer.specs.declared.zone_answers.ZoneAnswer.{ZoneAnswer}

-- how much a zone and its leaves do of a query that is asked at a moment, over the leaves' rows
abbrev pub load_in_zone : TypedTree → List (List Row) → ℤ → ℕ
load_in_zone typed leaves moment =
    sum_by (λ rows. leaf_load typed rows moment) leaves + zone_load typed (together leaves) moment

-- a zone's answer over the rows of its leaves
pub record IsZonePart (typed : TypedTree) (leaves : List (List Row)) (moment : ℤ) (limit : ℕ) (answer : ZoneAnswer) :
    Type 0 where
  pub pieces : AllStandFor (grid_of typed moment) (together leaves) (top_parts in_zone typed.tree) answer.pieces
  pub load : answer.load ≡ load_in_zone typed leaves moment
  pub within : load_in_zone typed leaves moment ≤ limit

-- the load of the zone and its leaves is above the limit; the number told lies between
pub record IsOverZone (typed : TypedTree) (leaves : List (List Row)) (moment : ℤ) (limit : ℕ) (over : OverLimit) : Type
    0 where
  pub above : limit < over.load
  pub most : over.load ≤ load_in_zone typed leaves moment

abbrev pub IsRefusedByZone : TypedTree → List (List Row) → ℤ → ℕ → Refusal OverLimit → Type 0
IsRefusedByZone typed leaves moment limit (refusal.Fault over) = IsOverZone typed leaves moment limit over
IsRefusedByZone typed leaves moment limit refusal.OutOfMemory = Unit {0}

-- the zone's part of a query, or that its load is above the limit; want of memory aside
abbrev pub IsZoneAnswer : TypedTree → List (List Row) → ℤ → ℕ → Result ZoneAnswer (Refusal OverLimit) → Type 0
IsZoneAnswer typed leaves moment limit (Ok answer) = IsZonePart typed leaves moment limit answer
IsZoneAnswer typed leaves moment limit (Err refused) = IsRefusedByZone typed leaves moment limit refused

-- ---- what is mixed

-- each leaf has its answer
abbrev pub AllLeafParts : TypedTree → List (List Row) → ℤ → ℕ → List LeafAnswer → Type 0
AllLeafParts typed [] moment limit [] = Unit {0}
AllLeafParts typed [] moment limit (part ∷ parts) = ⊥
AllLeafParts typed (rows ∷ leaves) moment limit [] = ⊥
AllLeafParts typed (rows ∷ leaves) moment limit (part ∷ parts) =
    IsLeafPart typed rows moment limit part × AllLeafParts typed leaves moment limit parts

-- each zone has its answer
abbrev pub AllZoneParts : TypedTree → List (List (List Row)) → ℤ → ℕ → List ZoneAnswer → Type 0
AllZoneParts typed [] moment limit [] = Unit {0}
AllZoneParts typed [] moment limit (part ∷ parts) = ⊥
AllZoneParts typed (leaves ∷ zones) moment limit [] = ⊥
AllZoneParts typed (leaves ∷ zones) moment limit (part ∷ parts) =
    IsZonePart typed leaves moment limit part × AllZoneParts typed zones moment limit parts

-- the answers of leaves that share no target, to a typed query that is asked at a moment
pub record AreLeafParts (typed : TypedTree) (leaves : List (List Row)) (moment : ℤ) (limit : ℕ)
    (parts : List LeafAnswer)
    : Type 0 where
  pub from : pos 0 ≤ℤ moment
  pub of : IsTyped typed (together leaves)
  pub apart : AreApart ShareNoTarget leaves
  pub each : AllLeafParts typed leaves moment limit parts

-- the answers of zones that share no location, to a typed query that is asked at a moment
pub record AreZoneParts (typed : TypedTree) (zones : List (List (List Row))) (moment : ℤ) (limit : ℕ)
    (parts : List ZoneAnswer)
    : Type 0 where
  pub from : pos 0 ≤ℤ moment
  pub divided : IsDivided typed zones
  pub each : AllZoneParts typed zones moment limit parts

-- answers of some leaves
pub record HasLeafParts (typed : TypedTree) (limit : ℕ) (parts : List LeafAnswer) : Type 0 where
  pub leaves : List (List Row)
  pub moment : ℤ
  pub are : AreLeafParts typed leaves moment limit parts

-- answers of some zones
pub record HasZoneParts (typed : TypedTree) (limit : ℕ) (parts : List ZoneAnswer) : Type 0 where
  pub zones : List (List (List Row))
  pub moment : ℤ
  pub are : AreZoneParts typed zones moment limit parts
