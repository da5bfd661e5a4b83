-- A write at work: at which replica it is, and what is known of the seat that its next event needs.
use Rattle.write_core.proofs.StepLemmas.{writer_of as kept_writer}
use Rattle.std.proofs.Common.{◌≡◌, ℕ, ◌<◌, Bool, true, false, cond, None, List, [], ◌∷◌, ◌++◌, length, map}
use Rattle.std.proofs.Common.{refl, sym, ap, subst, ◌∙◌, arith}
use Rattle.std.specs.Prelude.{◌≢◌}
use Rattle.std.proofs.lemmas.List.{length-map}
use Rattle.mon_config.specs.declared.config.Config.{Config}
use Rattle.mon_topo.proofs.RangeHistoryLemmas.{all_back}
use Rattle.mon_topo.specs.Zones.{leaves_in, ranges_in}
use Rattle.mon_value.specs.declared.positions.Leaf.{Leaf}
use Rattle.mon_value.specs.declared.positions.Slot.{Slot}
use Rattle.core_store.proofs.SeatLemmas.{parts_alike}
use Rattle.core_store.specs.Writers.{LooksAtOne, RaisesBelow, writer_of}
use Rattle.core_store.specs.Agreements.{IsLeafSo, IsRangeSo}
use Rattle.core_store.specs.Holders.{leaf_inside}
use Rattle.mon_topo.specs.Sights.{AreAlike, range_sight, sight_of}
use Rattle.core_store.specs.Agreements.{store_of}
use Rattle.core_store.specs.WriteTurns.{IsAtWork}
use Rattle.core_store.specs.declared.leaves.LeafSeat.{LeafSeat}
use Rattle.core_store.specs.declared.ranges.RangeSeat.{RangeSeat}
use Rattle.mon_topo.specs.declared.sights.Sight.{Sight}
use Rattle.core_store.specs.declared.store.Store.{Store}
use Rattle.core_store.specs.declared.writes.Writing.{Writing}
use Rattle.write_core.specs.Invariant.{IsGoing, IsMark, IsWriter}
use Rattle.write_core.specs.Marks.{waiting}
use Rattle.write_core.specs.Program.{Acking, Ended, Entering, Inside, Locking, Marked, Not, Reserving, Stage, Verdict}
use Rattle.write_core.specs.Program.{after, ask_of, done_inside, enter, entering, inside, reserve, reserving}
use Rattle.write_core.specs.Rounds.{Round, again, is_no_mark_left, is_through, after_look, round_marks, round_of}
use Rattle.write_core.specs.Rounds.{after_skip}
use Rattle.mon_topo.specs.Views.{View}
use Rattle.write_core.specs.World.{World, Writer, view_of}
use Rattle.write_core.specs.declared.asks.WriteAsk.{WriteAsk}
use Rattle.write_core.specs.declared.asks.WriteAsk.TheVariants as ask
use Rattle.write_core.specs.declared.asks.WriteTold.{WriteTold}
use Rattle.write_core.specs.declared.asks.WriteTold.TheVariants as told
use Rattle.write_core.specs.declared.marks.Fate.TheVariants as fate
use Rattle.write_core.specs.declared.marks.Mark.{Mark}
use Rattle.write_core.specs.declared.refusals.Refused.TheVariants as refused
use Rattle.write_core.proofs.InsideLemmas.{opened_there}

-- ---- where a write is, by what it asks

-- at a replica in this slot, on this leaf
pub record StandsBefore (at : Round → Stage) (stage : Stage) (slot : Slot) (leaf : Leaf) : Type 0 where
  pub done : List Mark
  pub mark : Mark
  pub left : List Mark
  pub is : stage ≡ at (record { done = done; left = mark ∷ left })
  pub slot_is : mark.slot ≡ slot
  pub leaf_is : mark.leaf ≡ leaf

-- inside a replica's leaf, with these buckets to be raised
pub record StandsInside (stage : Stage) (at_root in_zone : List ℕ) : Type 0 where
  pub done : List Mark
  pub mark : Mark
  pub left : List Mark
  pub is : stage ≡ Inside (record { done = done; left = mark ∷ left }) at_root in_zone

-- what a stage is that asks so
abbrev pub StandsAt : WriteAsk → Stage → Type 0
StandsAt ask.Lock stage = stage ≡ Locking
StandsAt (ask.Reserve slot leaf) stage = StandsBefore Reserving stage slot leaf
StandsAt (ask.Enter slot leaf) stage = StandsBefore Entering stage slot leaf
StandsAt (ask.RaiseRoot bucket) stage = (at_root : List ℕ) × (in_zone : List ℕ) × StandsInside stage (bucket ∷ at_root)
    in_zone
StandsAt (ask.RaiseZone bucket) stage = (in_zone : List ℕ) × StandsInside stage [] (bucket ∷ in_zone)
StandsAt (ask.Put slot leaf) stage = StandsBefore (λ round. Inside round [] []) stage slot leaf
StandsAt ask.Ack stage = (verdict : Verdict) × (stage ≡ Acking verdict)
StandsAt ask.Finished stage = (verdict : Verdict) × (stage ≡ Ended verdict)

reserving_at : (done left : List Mark) → is_no_mark_left left ≡ false
    → StandsAt (reserve left) (Reserving (record { done = done; left = left }))
reserving_at done [] some = absurd cc
reserving_at done (mark ∷ left) some =
    record { done = done; mark = mark; left = left; is = refl; slot_is = refl; leaf_is = refl }

entering_at : (done left : List Mark) → is_no_mark_left left ≡ false
    → StandsAt (enter left) (Entering (record { done = done; left = left }))
entering_at done [] some = absurd cc
entering_at done (mark ∷ left) some =
    record { done = done; mark = mark; left = left; is = refl; slot_is = refl; leaf_is = refl }

inside_at : (done left : List Mark) (at_root in_zone : List ℕ) → is_no_mark_left left ≡ false
    → StandsAt (inside left at_root in_zone) (Inside (record { done = done; left = left }) at_root in_zone)
inside_at done [] at_root in_zone some = absurd cc
inside_at done (mark ∷ left) (bucket ∷ at_root) in_zone some =
    (at_root, in_zone, record { done = done; mark = mark; left = left; is = refl })
inside_at done (mark ∷ left) [] (bucket ∷ in_zone) some =
    (in_zone, record { done = done; mark = mark; left = left; is = refl })
inside_at done (mark ∷ left) [] [] some =
    record { done = done; mark = mark; left = left; is = refl; slot_is = refl; leaf_is = refl }

stands : (stage : Stage) → LooksAtOne stage → StandsAt (ask_of stage) stage
stands Locking looks = refl
stands (Reserving round) looks = reserving_at round.done round.left looks
stands (Entering round) looks = entering_at round.done round.left looks
stands (Inside round at_root in_zone) looks = inside_at round.done round.left at_root in_zone looks
stands (Acking verdict) looks = (verdict, refl)
stands (Ended verdict) looks = (verdict, refl)

pub stands_at : (stage : Stage) (asks : WriteAsk) → LooksAtOne stage → ask_of stage ≡ asks → StandsAt asks stage
stands_at stage asks looks e = subst (λ (a : WriteAsk). StandsAt a stage) e (stands stage looks)

-- ---- what it goes on to

reserving_looks : (b : Bool) (round : Round) → LooksAtOne (entering (again round)) → is_through round ≡ b
    → LooksAtOne (cond b (entering (again round)) (Reserving round))
reserving_looks true round later e = later
reserving_looks false round later e = e

entering_looks : (b : Bool) (round : Round) → is_through round ≡ b
    → LooksAtOne (cond b (Acking (Marked (round_marks round))) (Entering round))
entering_looks true round e = tt
entering_looks false round e = e

pub looks_entering : (round : Round) → LooksAtOne (entering round)
looks_entering round = entering_looks (is_through (after_skip round)) (after_skip round) refl

pub looks_reserving : (round : Round) → LooksAtOne (reserving round)
looks_reserving round = reserving_looks (is_through round) round (looks_entering (again round)) refl

looks_done : (round : Round) (at_root in_zone : List ℕ) → is_through round ≡ false
    → LooksAtOne (done_inside round at_root in_zone)
looks_done round (bucket ∷ at_root) in_zone looks = looks
looks_done round [] (bucket ∷ in_zone) looks = looks
looks_done round [] [] looks = looks_entering (after_look round fate.Took)

-- whatever it is told, it looks at a replica where it goes from one to the next
pub looks_after : (stage : Stage) (answer : WriteTold) → LooksAtOne stage → LooksAtOne (after stage answer)
looks_after Locking (told.Slots replicas) looks = looks_reserving (round_of (map waiting replicas))
looks_after Locking (told.OldPoint last) looks = tt
looks_after Locking (told.RangeFull count) looks = tt
looks_after Locking (told.Up buckets) looks = looks
looks_after Locking (told.Down cut) looks = looks
looks_after Locking told.Done looks = looks
looks_after (Reserving round) (told.Slots replicas) looks = looks
looks_after (Reserving round) (told.OldPoint last) looks = looks
looks_after (Reserving round) (told.RangeFull count) looks = looks
looks_after (Reserving round) (told.Up buckets) looks = looks_reserving (after_look round fate.Ready)
looks_after (Reserving round) (told.Down cut) looks = looks_reserving (after_look round (fate.Missed cut))
looks_after (Reserving round) told.Done looks = looks
looks_after (Entering round) (told.Slots replicas) looks = looks
looks_after (Entering round) (told.OldPoint last) looks = looks
looks_after (Entering round) (told.RangeFull count) looks = looks
looks_after (Entering round) (told.Up buckets) looks = looks
looks_after (Entering round) (told.Down cut) looks = looks_entering (after_look round (fate.Missed cut))
looks_after (Entering round) told.Done looks = looks
looks_after (Inside round at_root in_zone) (told.Slots replicas) looks = looks
looks_after (Inside round at_root in_zone) (told.OldPoint last) looks = looks
looks_after (Inside round at_root in_zone) (told.RangeFull count) looks = looks
looks_after (Inside round at_root in_zone) (told.Up buckets) looks = looks
looks_after (Inside round at_root in_zone) (told.Down cut) looks = looks
looks_after (Inside round at_root in_zone) told.Done looks = looks_done round at_root in_zone looks
looks_after (Acking verdict) (told.Slots replicas) looks = looks
looks_after (Acking verdict) (told.OldPoint last) looks = looks
looks_after (Acking verdict) (told.RangeFull count) looks = looks
looks_after (Acking verdict) (told.Up buckets) looks = looks
looks_after (Acking verdict) (told.Down cut) looks = looks
looks_after (Acking verdict) told.Done looks = tt
looks_after (Ended verdict) (told.Slots replicas) looks = looks
looks_after (Ended verdict) (told.OldPoint last) looks = looks
looks_after (Ended verdict) (told.RangeFull count) looks = looks
looks_after (Ended verdict) (told.Up buckets) looks = looks
looks_after (Ended verdict) (told.Down cut) looks = looks
looks_after (Ended verdict) told.Done looks = looks

-- a stage that has an event more
abbrev pub IsGoingOn : Stage → Type 0
IsGoingOn stage = ask_of stage ≢ ask.Finished

going_reserve : (done left : List Mark) → IsGoingOn (Reserving (record { done = done; left = left }))
going_reserve done [] e = cc
going_reserve done (mark ∷ left) e = cc

going_enter : (done left : List Mark) → IsGoingOn (Entering (record { done = done; left = left }))
going_enter done [] e = cc
going_enter done (mark ∷ left) e = cc

pub going_inside : (done left : List Mark) (at_root in_zone : List ℕ)
    → IsGoingOn (Inside (record { done = done; left = left }) at_root in_zone)
going_inside done left (bucket ∷ at_root) in_zone e = cc
going_inside done left [] (bucket ∷ in_zone) e = cc
going_inside done [] [] [] e = cc
going_inside done (mark ∷ left) [] [] e = cc

going_acking : (verdict : Verdict) → IsGoingOn (Acking verdict)
going_acking verdict e = cc

going_entering_by : (b : Bool) (round : Round)
    → IsGoingOn (cond b (Acking (Marked (round_marks round))) (Entering round))
going_entering_by true round = going_acking (Marked (round_marks round))
going_entering_by false round = going_enter round.done round.left

pub going_entering : (round : Round) → IsGoingOn (entering round)
going_entering round = going_entering_by (is_through (after_skip round)) (after_skip round)

going_reserving_by : (b : Bool) (round : Round) → IsGoingOn (cond b (entering (again round)) (Reserving round))
going_reserving_by true round = going_entering (again round)
going_reserving_by false round = going_reserve round.done round.left

pub going_reserving : (round : Round) → IsGoingOn (reserving round)
going_reserving round = going_reserving_by (is_through round) round

-- whatever a range tells
pub going_locked : (answer : WriteTold) → IsGoingOn (after Locking answer)
going_locked (told.Slots replicas) = going_reserving (round_of (map waiting replicas))
going_locked (told.OldPoint last) = going_acking (Not (refused.OldPoint last))
going_locked (told.RangeFull count) = going_acking (Not (refused.RangeFull count))
going_locked (told.Up buckets) = λ e. cc
going_locked (told.Down cut) = λ e. cc
going_locked told.Done = λ e. cc

-- ---- where it is inside of no leaf

none_entering_by : (b : Bool) (round : Round) → leaf_inside (cond b (Acking (Marked (round_marks round)))
    (Entering round)) ≡ None
none_entering_by true round = refl
none_entering_by false round = refl

pub none_entering : (round : Round) → leaf_inside (entering round) ≡ None
none_entering round = none_entering_by (is_through (after_skip round)) (after_skip round)

none_reserving_by : (b : Bool) (round : Round) → leaf_inside (cond b (entering (again round)) (Reserving round)) ≡ None
none_reserving_by true round = none_entering (again round)
none_reserving_by false round = refl

pub none_reserving : (round : Round) → leaf_inside (reserving round) ≡ None
none_reserving round = none_reserving_by (is_through round) round

pub none_locked : (answer : WriteTold) → leaf_inside (after Locking answer) ≡ None
none_locked (told.Slots replicas) = none_reserving (round_of (map waiting replicas))
none_locked (told.OldPoint last) = refl
none_locked (told.RangeFull count) = refl
none_locked (told.Up buckets) = refl
none_locked (told.Down cut) = refl
none_locked told.Done = refl

-- ---- where nothing is to be raised

module _ (count : ℕ) where
  below_entering_by : (b : Bool) (round : Round)
      → RaisesBelow count (cond b (Acking (Marked (round_marks round))) (Entering round))
  below_entering_by true round = tt
  below_entering_by false round = tt

  pub below_entering : (round : Round) → RaisesBelow count (entering round)
  below_entering round = below_entering_by (is_through (after_skip round)) (after_skip round)

  below_reserving_by : (b : Bool) (round : Round) → RaisesBelow count (cond b (entering (again round))
      (Reserving round))
  below_reserving_by true round = below_entering (again round)
  below_reserving_by false round = tt

  pub below_reserving : (round : Round) → RaisesBelow count (reserving round)
  below_reserving round = below_reserving_by (is_through round) round

  pub below_locked : (answer : WriteTold) → RaisesBelow count (after Locking answer)
  below_locked (told.Slots replicas) = below_reserving (round_of (map waiting replicas))
  below_locked (told.OldPoint last) = tt
  below_locked (told.RangeFull count) = tt
  below_locked (told.Up buckets) = tt
  below_locked (told.Down cut) = tt
  below_locked told.Done = tt

-- ---- the seat that it needs

module _ (config : Config) (world : World) (i : ℕ) (store : Store) (writing : Writing) (sight : Sight)
    (work : IsAtWork config world i store writing sight) where
  abbrev pub view : View
  view = view_of (world.actors i)

  abbrev pub writer : Writer
  writer = writer_of i writing view

  pub own : IsWriter (store_of config) world i writer
  own = kept_writer (store_of config) world i writer work.kept work.writer.writer

  -- ---- its range

  pub range_in_truth : writing.range.0 < length world.truth.seen.ranges
  range_in_truth = own.lawful.there

  pub range_there : writing.range.0 < length store.ranges.items
  range_there =
      let all : length world.truth.seen.ranges ≡ length (ranges_in config.topology) = work.kept.truth.held.all_ranges in
      let count : length store.ranges.items ≡ length (ranges_in config.topology) = work.shared.ranges.count in
      let here : writing.range.0 < length world.truth.seen.ranges = range_in_truth in
      omega (arith, all, count, here)

  pub range_alike : (seat : RangeSeat) → IsRangeSo world writing.range.0 seat → AreAlike sight seat.sight
  range_alike seat so =
      subst (λ (s : Sight). AreAlike s seat.sight) (sym work.writer.seen)
      (subst (λ (s : Sight). AreAlike (sight_of view.seen) s) (sym so.sight)
      (parts_alike (store_of config) world view (world.ranges writing.range.0) own.part
      (work.kept.ranges writing.range)))

  pub range_in_sight : (seat : RangeSeat) → IsRangeSo world writing.range.0 seat
      → writing.range.0 < length seat.sight.ranges
  range_in_sight seat so =
      let same : length seat.sight.ranges ≡ length (world.ranges writing.range.0).seen.ranges
      = ap (λ (s : Sight). length s.ranges) so.sight ∙ length-map (world.ranges writing.range.0).seen.ranges
      range_sight in
      let there : length (world.ranges writing.range.0).seen.ranges ≡ length (ranges_in config.topology)
      = (work.kept.ranges writing.range).sound.held.all_ranges in
      let all : length world.truth.seen.ranges ≡ length (ranges_in config.topology) = work.kept.truth.held.all_ranges in
      let here : writing.range.0 < length world.truth.seen.ranges = range_in_truth in
      omega (arith, same, there, all, here)

  -- ---- a replica's leaf

  module _ (done left : List Mark) (mark : Mark)
      (going : IsGoing world i (store_of config) writer (done ++ mark ∷ left)) where
    pub mark_is : IsMark world writer mark
    mark_is = (all_back (IsMark world writer) done (mark ∷ left) going.each).0

    pub leaf_in_truth : mark.leaf.0 < length world.truth.seen.leaves
    leaf_in_truth = opened_there world.truth.seen.leaves mark.leaf.0 writer.range mark.slot mark_is.has.opened

  module _ (leaf : Leaf) (here : leaf.0 < length world.truth.seen.leaves) where
    pub leaf_there : leaf.0 < length store.leaves.items
    leaf_there =
        let all : length world.truth.seen.leaves ≡ length (leaves_in config.topology) =
        work.kept.truth.held.all_leaves in
        let count : length store.leaves.items ≡ length (leaves_in config.topology) = work.shared.leaves.count in
        omega (arith, all, count, here)

    pub leaf_alike : (seat : LeafSeat) → IsLeafSo config world leaf seat → AreAlike sight seat.sight
    leaf_alike seat so =
        subst (λ (s : Sight). AreAlike s seat.sight) (sym work.writer.seen)
        (subst (λ (s : Sight). AreAlike (sight_of view.seen) s) (sym so.sight)
        (parts_alike (store_of config) world view (world.leaves leaf.0) own.part (work.kept.leaves leaf)))

    pub leaf_in_sight : (seat : LeafSeat) → IsLeafSo config world leaf seat → leaf.0 < length seat.sight.leaves
    leaf_in_sight seat so =
        let same : length seat.sight.leaves ≡ length (world.leaves leaf.0).seen.leaves
        = ap (λ (s : Sight). length s.leaves) so.sight ∙ length-map (world.leaves leaf.0).seen.leaves length in
        let there : length (world.leaves leaf.0).seen.leaves ≡ length (leaves_in config.topology)
        = (work.kept.leaves leaf).sound.held.all_leaves in
        let all : length world.truth.seen.leaves ≡ length (leaves_in config.topology) =
        work.kept.truth.held.all_leaves in
        omega (arith, same, there, all, here)
