-- A part of divided rows that is above the limit is not more than the query.
use Rattle.std.proofs.Common.{◌≡◌, ◌≤◌, ◌≤ℤ◌, ℕ, ℤ, pos, List, [], ◌∷◌, ◌++◌, arith}
use Rattle.std.specs.List.{AllByRecursion}
use Rattle.std.proofs.lemmas.List.Sums.{sum_by-append, sum_by-cons}
use Rattle.mon_value.specs.declared.refusals.Refusal.{Refusal}
use Rattle.mon_value.specs.declared.refusals.Refusal.TheVariants as refusal
use Rattle.mon_value.specs.declared.rows.Row.{Row}
use Rattle.typed_trees.specs.LevelLoads.{leaf_load}
use Rattle.typed_trees.specs.Meaning.{load}
use Rattle.typed_trees.specs.Nodes.{TypedTree}
use Rattle.typed_rows.proofs.JoinedRows.{all-front}
use Rattle.mon_fold.specs.declared.answers.LeafAnswer.{LeafAnswer}
use Rattle.mon_meaning.specs.Central.{IsRefusedBy}
use Rattle.mon_meaning.specs.LeafAnswers.{IsRefusedByLeaf, load_in_leaf}
use Rattle.mon_meaning.specs.declared.meter.OverLimit.{OverLimit}
use Rattle.mixer.specs.Divisions.{IsDivided, all_rows, together}
use Rattle.mon_meaning.specs.ReadableSlots.{AreApart, ShareNoTarget}
use Rattle.mixer.specs.ZoneAnswers.{AllLeafParts, AreLeafParts, IsRefusedByZone, load_in_zone}
use Rattle.mixer.proofs.MixedAnswers.{typed_over}
use Rattle.mixer.proofs.MixedDivisions.{leaf_load_of_parts, loads_mixed}

-- ---- what holds of all rows

leaf_all : (P : Row → Type 0) (first : List (List Row)) (rows : List Row) (rest : List (List Row))
    → AllByRecursion P (together (first ++ rows ∷ rest)) → AllByRecursion P rows
leaf_all P [] rows rest all = (all-front P rows (together rest) all).0
leaf_all P (leaf ∷ first) rows rest all = leaf_all P first rows rest
    (all-front P leaf (together (first ++ rows ∷ rest)) all).1

zone_all : (P : Row → Type 0) (before : List (List (List Row))) (leaves : List (List Row))
    (after : List (List (List Row)))
    → AllByRecursion P (all_rows (before ++ leaves ∷ after)) → AllByRecursion P (together leaves)
zone_all P [] leaves after all = (all-front P (together leaves) (all_rows after) all).0
zone_all P (zone ∷ before) leaves after all =
    zone_all P before leaves after (all-front P (together zone) (all_rows (before ++ leaves ∷ after)) all).1

-- the answers of a zone's leaves can be mixed
pub zone_asked : (typed : TypedTree) (before : List (List (List Row))) (leaves : List (List Row))
    (after : List (List (List Row))) (moment : ℤ) (limit : ℕ) (parts : List LeafAnswer) → pos 0 ≤ℤ moment
    → IsDivided typed (before ++ leaves ∷ after) → AllLeafParts typed leaves moment limit parts
    → AreLeafParts typed leaves moment limit parts
zone_asked typed before leaves after moment limit parts from divided each = record {
  from = from;
  of = typed_over typed (all_rows (before ++ leaves ∷ after)) (together leaves) divided.of
      (zone_all _ before leaves after divided.of.fit);
  apart = (all-front (AreApart ShareNoTarget) before (leaves ∷ after) divided.leaves_apart).1.0;
  each = each;
}

-- ---- loads

zone_less : (typed : TypedTree) (before : List (List (List Row))) (leaves : List (List Row))
    (after : List (List (List Row))) (moment : ℤ) → pos 0 ≤ℤ moment → IsDivided typed (before ++ leaves ∷ after)
    → load_in_zone typed leaves moment ≤ load typed (all_rows (before ++ leaves ∷ after)) moment
zone_less typed before leaves after moment from divided =
    let each : List (List Row) → ℕ = λ zone. load_in_zone typed zone moment in
    omega (
      arith,
      loads_mixed typed (before ++ leaves ∷ after) moment from divided,
      sum_by-append each before (leaves ∷ after),
      sum_by-cons each leaves after,
    )

leaf_less : (typed : TypedTree) (before : List (List (List Row))) (first : List (List Row)) (rows : List Row)
    (rest : List (List Row)) (after : List (List (List Row))) (moment : ℤ) → pos 0 ≤ℤ moment
    → IsDivided typed (before ++ (first ++ rows ∷ rest) ∷ after)
    → load_in_leaf typed rows moment ≤ load typed (all_rows (before ++ (first ++ rows ∷ rest) ∷ after)) moment
leaf_less typed before first rows rest after moment from divided =
    let each : List Row → ℕ = λ leaf. leaf_load typed leaf moment in
    let whole = all_rows (before ++ (first ++ rows ∷ rest) ∷ after) in
    let fit = leaf_all _ first rows rest (zone_all _ before (first ++ rows ∷ rest) after divided.of.fit) in
    let own : leaf_load typed rows moment ≡ load_in_leaf typed rows moment =
    leaf_load_of_parts typed rows moment from (typed_over typed whole rows divided.of fit) in
    omega (
      arith,
      own,
      zone_less typed before (first ++ rows ∷ rest) after moment from divided,
      sum_by-append each first (rows ∷ rest),
      sum_by-cons each rows rest,
    )

pub leaf_refused : (typed : TypedTree) (before : List (List (List Row))) (first : List (List Row)) (rows : List Row)
    (rest : List (List Row)) (after : List (List (List Row))) (moment : ℤ) (limit : ℕ) (refused : Refusal OverLimit)
    → pos 0 ≤ℤ moment → IsDivided typed (before ++ (first ++ rows ∷ rest) ∷ after)
    → IsRefusedByLeaf typed rows moment limit refused
    → IsRefusedBy typed (all_rows (before ++ (first ++ rows ∷ rest) ∷ after)) moment limit refused
leaf_refused typed before first rows rest after moment limit (refusal.Fault over) from divided told =
    record {
      above = told.above;
      most =
          omega (arith, told.most, leaf_less typed before first rows rest after moment from divided);
    }
leaf_refused typed before first rows rest after moment limit refusal.OutOfMemory from divided told = tt

pub zone_refused : (typed : TypedTree) (before : List (List (List Row))) (leaves : List (List Row))
    (after : List (List (List Row))) (moment : ℤ) (limit : ℕ) (refused : Refusal OverLimit)
    → pos 0 ≤ℤ moment → IsDivided typed (before ++ leaves ∷ after) → IsRefusedByZone typed leaves moment limit refused
    → IsRefusedBy typed (all_rows (before ++ leaves ∷ after)) moment limit refused
zone_refused typed before leaves after moment limit (refusal.Fault over) from divided told =
    record {
      above = told.above;
      most =
          omega (arith, told.most, zone_less typed before leaves after moment from divided);
    }
zone_refused typed before leaves after moment limit refusal.OutOfMemory from divided told = tt
