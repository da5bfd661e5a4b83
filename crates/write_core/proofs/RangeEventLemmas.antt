-- The events of a write at its range.
use Rattle.std.proofs.Common.{◌≡◌, ℕ, zero, suc, ◌<◌, Bool, true, false, not, cond, Some, None, List, [], ◌∷◌, ◌++◌}
use Rattle.std.proofs.Common.{length, take, map, refl, sym, ap, subst, ◌∙◌, arith, inl, inr}
use Rattle.std.specs.Prelude.{Contains, filter}
use Rattle.std.specs.List.{flat_map}
use Rattle.std.proofs.lemmas.Bool.{both_ways, cases_Bool}
use Rattle.std.proofs.lemmas.List.{length-set, take_at}
use Rattle.std.proofs.lemmas.List.Elements.{Contains-append_right, Contains-push}
use Rattle.mon_value.specs.LeafHistories.{replica_turns}
use Rattle.mon_value.specs.Turns.{Turn, Adds, Hides}
use Rattle.mon_value.specs.declared.histories.Histories.{Histories}
use Rattle.write_core.specs.Steps.{IsTurnAtHome, TakesTurn}
use Rattle.mon_topo.proofs.HeldSteps.{serving_since, turn_kept}
use Rattle.mon_value.specs.declared.histories.Ack.{Ack}
use Rattle.mon_value.specs.declared.histories.Miss.{Miss}
use Rattle.mon_value.specs.declared.histories.RangeEntry.{RangeEntry}
use Rattle.mon_value.specs.declared.positions.Range.{Range}
use Rattle.mon_value.specs.declared.positions.Slot.{Slot}
use Rattle.mon_value.specs.declared.positions.SlotLeaf.{SlotLeaf}
use Rattle.mon_topo.specs.HeldHistories.{BeginsWith, IsAckBorneOut, IsBorneOut, IsMissed, IsTaken}
use Rattle.mon_topo.specs.RangeHistories as range_spec
use Rattle.mon_topo.specs.RangeHistories.{is_missed, opened_slots, range_turns, serving, turn_ack, turns_since}
use Rattle.write_core.specs.Deeds.{HasDone}
use Rattle.write_core.specs.Invariant.{HasMissed, HasTurns, HasSeen, HasTaken, HaveFound, IsDecided, IsUnopened}
use Rattle.write_core.specs.Invariant.{IsKept, IsMark, IsRefused, IsRangeSettled, IsWriter, is_decided, is_waiting, turns_after}
use Rattle.write_core.specs.Marks.{ack_of, found_in_mark, has_taken, replica_of, some_took, waiting}
use Rattle.write_core.specs.Program.{Acking, Ended, Locking, Marked, Not, Stage, reserving}
use Rattle.write_core.specs.Rounds.{round_of}
use Rattle.write_core.specs.Steps.{with_acknowledgement, same_view}
use Rattle.mon_topo.specs.Settings.{Setting}
use Rattle.mon_topo.specs.Views.{IsSound, IsViewWithin, View, joined_view, of_leaf, of_range, with_range_entry}
use Rattle.write_core.specs.World.{World, Writer, Writes, at_range, writer_at_stage, pass_of, writes_on}
use Rattle.write_core.specs.declared.marks.Fate.{Fate}
use Rattle.write_core.specs.declared.marks.Fate.TheVariants as fate
use Rattle.write_core.specs.declared.marks.Mark.{Mark}
use Rattle.write_core.specs.declared.refusals.Refused.{Refused}
use Rattle.write_core.proofs.AckLemmas.{all_map_from, contains_filter, contains_map, is_named_missed, missed_in, named}
use Rattle.write_core.proofs.AckLemmas.{none_took, some_taken, taken_in, took_from}
use Rattle.write_core.proofs.CopyAsking.{found_moves, some_is_not_none}
use Rattle.write_core.proofs.ChangeLemmas.{range_entry_sound, range_entry_up, range_entry_within}
use Rattle.write_core.proofs.DeedLemmas.{acks_stay, anothers_ack, done_acked, done_locked, done_none}
use Rattle.write_core.proofs.MeetLemmas as meet
use Rattle.write_core.proofs.KeepsLemmas.{changed_same, seen_moves}
use Rattle.mon_topo.proofs.HeldLemmas.{range_entry_other, range_entry_same}
use Rattle.mon_topo.proofs.RangeHistoryLemmas.{all_at, not_missed, numbered, one_replica}
use Rattle.mon_topo.proofs.RangeHistoryLemmas.{serving-push, serving-trimmed}
use Rattle.write_core.proofs.OpeningLemmas.{opened-acked, opened-trimmed}
use Rattle.write_core.proofs.StageLemmas.{at_reserving}
use Rattle.write_core.proofs.StepLemmas.{IsStep, ChangesRange, write_at_range, writer_of}
use Rattle.write_core.proofs.UnavailableLemmas.{all_found}
use Rattle.write_core.proofs.ViewLemmas.{within_itself}

-- a turn's acknowledgement: who serves behind it, what it opens, and that leaves bear it out
pub serving-turn : (g : List RangeEntry) (pass : ℕ) (turn : Turn) (ack : Ack)
    → serving (g ++ turn_ack pass turn ack ∷ []) ≡ filter (not_missed ack) (serving g)
serving-turn g pass (Adds row) ack = serving-push g pass row ack
serving-turn g pass (Hides before) ack = serving-trimmed g pass before ack

pub opened-turn : (g : List RangeEntry) (pass : ℕ) (turn : Turn) (ack : Ack)
    → opened_slots (g ++ turn_ack pass turn ack ∷ []) ≡ opened_slots g
opened-turn g pass (Adds row) ack = opened-acked g pass row ack
opened-turn g pass (Hides before) ack = opened-trimmed g pass before ack

pub borne_turn : (seen : Histories) (r : Range) (history : List RangeEntry) (k pass : ℕ) (turn : Turn) (ack : Ack)
    → IsAckBorneOut seen (opened_slots (take k history)) pass turn ack
    → IsBorneOut seen r history k (turn_ack pass turn ack)
borne_turn seen r history k pass (Adds row) ack h = h
borne_turn seen r history k pass (Hides before) ack h = h

pub since_turn : (pass : ℕ) (turn : Turn) (ack : Ack) → range_turns (turn_ack pass turn ack ∷ []) ≡ turn ∷ []
since_turn pass (Adds row) ack = refl
since_turn pass (Hides before) ack = refl

-- an item that passes a test
passes_by : (test : SlotLeaf → Bool) (first x : SlotLeaf) (xs : List SlotLeaf) (b : Bool) → Contains (filter test xs) x
    → Contains (cond b (first ∷ filter test xs) (filter test xs)) x
passes_by test first x xs true there = Contains-append_right (first ∷ []) (filter test xs) x there
passes_by test first x xs false there = there

passes_filter : (test : SlotLeaf → Bool) (xs : List SlotLeaf) (x : SlotLeaf) → Contains xs x → test x ≡ true
    → Contains (filter test xs) x
passes_filter test [] x there is = absurd (omega (arith, there.1))
passes_filter test (first ∷ xs) x (zero, l, e) is =
    subst (λ (b : Bool). Contains (cond b (first ∷ filter test xs) (filter test xs)) x) (sym (ap test e ∙ is))
    (zero, omega arith, e)
passes_filter test (first ∷ xs) x (suc k, l, e) is =
    passes_by test first x xs (test first) (passes_filter test xs x (k, omega (arith, l), e) is)

mapped_mark : (xs : List Mark) (mark : Mark) → Contains xs mark → Contains (map replica_of xs) (replica_of mark)
mapped_mark [] mark there = absurd (omega (arith, there.1))
mapped_mark (x ∷ xs) mark (zero, h, same) = (zero, omega arith, ap replica_of same)
mapped_mark (x ∷ xs) mark (suc k, h, same) =
    Contains-append_right (replica_of x ∷ []) (map replica_of xs) (replica_of mark)
    (mapped_mark xs mark (k, omega (arith, h), same))

map_waiting : (replicas : List SlotLeaf) → map replica_of (map waiting replicas) ≡ replicas
map_waiting [] = refl
map_waiting (replica ∷ replicas) = ap (λ rest. replica ∷ rest) (map_waiting replicas)

module _ (setting : Setting) (world : World) (i : ℕ) (who : Writer) (is : world.actors i ≡ Writes who)
    (kept : IsKept setting world) where
  own : IsWriter setting world i who
  own = writer_of setting world i who kept is

  abbrev r : Range
  r = who.range

  abbrev g : List RangeEntry
  g = of_range world.truth r

  -- what the write and its range know together
  abbrev met : View
  met = joined_view who.view (world.ranges r.0)

  met_sound : IsSound setting met
  met_sound = meet.met_sound setting world i kept who.view own.part r

  met_within : IsViewWithin met world.truth
  met_within = meet.met_within setting world i kept who.view own.part r

  met_up : IsViewWithin who.view met
  met_up = meet.met_up setting world i kept who.view own.part r

  met_whole : of_range met r ≡ g
  met_whole = meet.met_whole setting world i kept who.view own.part r

  quiet_range : ChangesRange setting world i who.view r same_view
  quiet_range = meet.quiet_range setting world i kept who.view own.part r

  -- ---- the lock

  module _ (free : world.range_holder r.0 ≡ None) (deeds : HasDone world.truth who Locking) where
    pub lock_slots : (replicas : List SlotLeaf) → replicas ≡ serving g → TakesTurn setting g who.turn
        → IsStep setting world (at_range world i who.view r same_view (Some i)
        (writes_on who (reserving (round_of (map waiting replicas)))))
    lock_slots replicas serve takes =
        let stage = reserving (round_of (map waiting replicas)) in
        let next = at_range world i who.view r same_view (Some i) (writes_on who stage) in
        let then' = writer_at_stage who stage met in
        write_at_range setting world i who is kept r same_view (Some i) stage quiet_range (inl free)
        (λ e. absurd (some_is_not_none i e))
        (at_reserving setting next i then' (round_of (map waiting replicas))
        (record {
          holds = record { holder = changed_same world.range_holder r.0 (Some i); whole = met_whole };
          takes = takes;
          serve = map_waiting replicas ∙ serve;
          fresh = (kept.settled r free).fresh;
          each = all_map_from waiting (IsMark next then') replicas
              (λ replica there. record {
                has = (kept.settled r free).rows replica
                    (subst (λ (xs : List SlotLeaf). Contains xs replica) serve there);
                seen = tt;
              });
        })
        tt
        (all_map_from waiting (λ mark. is_waiting mark.fate ≡ true) replicas (λ replica there. refl)))
        (done_locked world.truth who replicas (round_of (map waiting replicas)) refl deeds)

    pub lock_refused : (why : Refused) → IsStep setting world (at_range world i who.view r same_view (Some i)
        (writes_on who (Acking (Not why))))
    lock_refused why =
        write_at_range setting world i who is kept r same_view (Some i) (Acking (Not why)) quiet_range (inl free)
        (λ e. absurd (some_is_not_none i e))
        (record {
          holds = record { holder = changed_same world.range_holder r.0 (Some i); whole = met_whole };
          settled = kept.settled r free;
        })
        (record { puts = deeds.puts; acks = deeds.acks })

  -- ---- the acknowledgement

  pub ack_refused : (why : Refused) → IsRefused world i who → HasDone world.truth who (Acking (Not why))
      → IsStep setting world (at_range world i who.view r (with_acknowledgement who (Not why)) None
      (writes_on who (Ended (Not why))))
  ack_refused why h deeds = write_at_range setting world i who is kept r same_view None (Ended (Not why)) quiet_range
      (inr h.holds.holder) (λ e. h.settled) tt (record { puts = deeds.puts; acks = deeds.acks })

  module _ (marks : List Mark) (at : IsDecided world i setting who marks)
      (deeds : HasDone world.truth who (Acking (Marked marks))) where
    abbrev ack : Ack
    ack = ack_of r marks

    abbrev e : RangeEntry
    e = turn_ack who.pass who.turn ack

    abbrev stage : Stage
    stage = Ended (Marked marks)

    mark_of : (mark : Mark) → Contains marks mark → IsMark world who mark
    mark_of mark there = all_at (IsMark world who) marks mark at.going.each there

    -- a replica that serves is one of the marks'
    serving_mark : (replica : SlotLeaf) → Contains (serving g) replica → (mark : Mark) × Contains marks mark
        × (replica_of mark ≡ replica)
    serving_mark replica there = contains_map replica_of marks replica
        (subst (λ (xs : List SlotLeaf). Contains xs replica) (sym at.going.serve) there)

    -- where no replica took the row, nothing is appended
    settled_none : some_took marks ≡ false → IsRangeSettled world.truth r
    settled_none none = record {
      rows = λ replica there.
          let found = serving_mark replica there in
          let has = (mark_of found.0 found.1).has in
          subst (λ (x : SlotLeaf). HasTurns world.truth r x (turns_since x.slot g)) found.2
          (record {
            opened = has.opened;
            all = has.all
                ∙ ap (λ b. cond b (turns_after world who found.0.slot) (turns_since found.0.slot g))
                (none_took marks found.0 none found.1);
          });
      fresh = at.going.fresh;
    }

    -- and the leaf of each one that serves was found down
    all_asked : some_took marks ≡ false → HaveFound met (serving (of_range met r)) (flat_map found_in_mark marks)
    all_asked none = found_moves who.view met met_up (serving (of_range met r)) (flat_map found_in_mark marks)
        (all_found world who marks (serving (of_range met r)) (at.going.serve ∙ ap serving (sym met_whole))
        at.going.each at.decided none)

    ack_none : some_took marks ≡ false → IsStep setting world (at_range world i who.view r same_view None
        (writes_on who stage))
    ack_none none =
        write_at_range setting world i who is kept r same_view None stage quiet_range (inr at.going.holds.holder)
        (λ x. settled_none none)
        (λ some. absurd (both_ways (some_took marks) none some), λ x. all_asked none)
        (done_none world.truth who marks none deeds)

    -- ---- some replica took it

    -- a replica that serves then took the row
    still_serving : (replica : SlotLeaf) → Contains (serving (g ++ e ∷ [])) replica → (mark : Mark)
        × Contains marks mark × (replica_of mark ≡ replica) × (mark.fate ≡ fate.Took)
    still_serving replica there =
        let served = contains_filter (not_missed ack) (serving g) replica
        (subst (λ (xs : List SlotLeaf). Contains xs replica) (serving-turn g who.pass who.turn ack) there) in
        let found = serving_mark replica served.0 in (
          found.0,
          found.1,
          found.2,
          took_from found.0.fate (all_at (λ mark. is_decided mark.fate ≡ true) marks found.0 at.decided found.1)
              (λ cut missed. contradiction (is_missed ack.missed replica) served.1
              (subst (λ (x : SlotLeaf). is_missed ack.missed x ≡ true) found.2
              (is_named_missed marks found.0 cut found.1 missed))),
        )
      where
        contradiction : (b : Bool) → not b ≡ true → b ≡ true → ⊥
        contradiction true h k = cc
        contradiction false h k = cc

    module _ (some : some_took marks ≡ true) where
      may_follow : range_spec.MayFollow setting.held setting.zones setting.points r g e
      may_follow = follows_turn who.turn own.lawful.at_home at.going.takes
          (record {
            ranged = refl;
            taken = some_taken marks some;
            named = named marks (serving g)
                at.going.serve at.decided;
          })
        where
          follows_turn : (turn : Turn) → IsTurnAtHome setting r turn → TakesTurn setting g turn
              → range_spec.IsAckOf r (serving g) ack
              → range_spec.MayFollow setting.held setting.zones setting.points r g (turn_ack who.pass turn ack)
          follows_turn (Adds row) home takes of = (of, home.1, takes.0, takes.1)
          follows_turn (Hides before) home takes of = of

      -- a view that has all that the write has seen, and all of the range
      module _ (view : View) (sound : IsSound setting view) (up : IsViewWithin who.view view)
          (whole : of_range view r ≡ g) where
        abbrev seer : Writer
        seer = writer_at_stage who stage view

        seen : (mark : Mark) → Contains marks mark → HasSeen world seer mark mark.fate
        seen mark there = seen_moves world world (within_itself world.truth) i setting who stage view up refl mark
            mark.fate (mark_of mark there).seen

        taken : (mark : Mark) → Contains marks mark → mark.fate ≡ fate.Took → HasTaken world seer mark
        taken mark there took = subst (λ (f : Fate). HasSeen world seer mark f) took (seen mark there)

        missed : (mark : Mark) (cut : ℕ) → Contains marks mark → mark.fate ≡ fate.Missed cut → HasMissed seer mark cut
        missed mark cut there e = subst (λ (f : Fate). HasSeen world seer mark f) e (seen mark there)

        served : range_spec.IsLegal setting.held setting.zones setting.points r g
        served = kept.truth.held.legal r own.lawful.there

        -- a mark's replica is one of those that were opened
        mark_opened : (mark : Mark) → Contains marks mark → Contains (opened_slots g) (replica_of mark)
        mark_opened mark there =
            all_at (Contains (opened_slots g)) (serving g) (replica_of mark)
            (numbered setting.held setting.zones setting.points r g served).among
            (subst (λ (xs : List SlotLeaf). Contains xs (replica_of mark)) at.going.serve
            (contains_mapped mark there))
          where
            contains_at : (xs : List Mark) (mark : Mark) → Contains xs mark
                → Contains (map replica_of xs) (replica_of mark)
            contains_at [] mark there = absurd (omega (arith, there.1))
            contains_at (x ∷ xs) mark (zero, h, same) = (zero, omega arith, ap replica_of same)
            contains_at (x ∷ xs) mark (suc k, h, same) =
                let rest = contains_at xs mark (k, omega arith, same) in
                (suc rest.0, (let l : rest.0 < length (map replica_of xs) = rest.1 in omega arith), rest.2)

            contains_mapped : (mark : Mark) → Contains marks mark → Contains (map replica_of marks) (replica_of mark)
            contains_mapped mark there = contains_at marks mark there

        borne_taken : (replica : SlotLeaf) → Contains (opened_slots g) replica → Contains ack.took replica.slot
            → IsTaken view.seen who.pass who.turn ack replica
        borne_taken replica there took =
            let found = taken_in marks replica.slot took in
            let same : replica_of found.0 ≡ replica = one_replica g
            (numbered setting.held setting.zones setting.points r g served) (replica_of found.0) replica
            (mark_opened found.0 found.1) there (ap (λ (s : Slot). s.0) found.3) in
            subst (λ (x : SlotLeaf). IsTaken view.seen who.pass who.turn ack x) same
            (record { put = (taken found.0 found.1 found.2).put })

        borne_missed : (miss : Miss) → Contains ack.missed miss → IsMissed view.seen (opened_slots g) miss
        borne_missed miss there =
            let found = missed_in marks miss there in
            subst (λ (x : Miss). IsMissed view.seen (opened_slots g) x) found.4
            (record { placed = mark_opened found.0 found.1; down = missed found.0 found.2 found.1 found.3 })

        borne_out : IsBorneOut view.seen r (g ++ e ∷ []) (length g) e
        borne_out =
            borne_turn view.seen r (g ++ e ∷ []) (length g) who.pass who.turn ack
            (subst (λ (front : List RangeEntry).
            IsAckBorneOut view.seen (opened_slots front) who.pass who.turn ack)
            (sym (take_at g (e ∷ []) (length g) refl))
            (borne_taken, borne_missed))

        here : r.0 < length view.seen.ranges
        here = subst (λ (n : ℕ). r.0 < n) (kept.truth.held.all_ranges ∙ sym sound.held.all_ranges)
            own.lawful.there

        old_turns : (replica : SlotLeaf) → Contains (serving g) replica
            → BeginsWith (replica_turns r replica.slot (of_leaf view replica.leaf)) (turns_since replica.slot g)
        old_turns = subst (λ (history : List RangeEntry). (replica : SlotLeaf) → Contains (serving history) replica
            → BeginsWith (replica_turns r replica.slot (of_leaf view replica.leaf)) (turns_since replica.slot history))
            whole (sound.held.borne_out r here).kept

        keeps_turns : (replica : SlotLeaf) → Contains (serving (g ++ e ∷ [])) replica
            → BeginsWith (replica_turns r replica.slot (of_leaf view replica.leaf))
            (turns_since replica.slot (g ++ e ∷ []))
        keeps_turns = turn_kept setting.held setting.zones setting.points r view.seen g served old_turns who.pass
            who.turn ack
            (λ replica there missed_not.
            (let found = still_serving replica
            (subst (λ (xs : List SlotLeaf). Contains xs replica) (sym (serving-turn g who.pass who.turn ack))
            (passes_filter (not_missed ack) (serving g) replica there (ap not missed_not))) in
            subst (λ (x : SlotLeaf). BeginsWith (replica_turns r x.slot (of_leaf view x.leaf))
            (turns_since x.slot g ++ who.turn ∷ [])) found.2 (taken found.0 found.1 found.3).turns))

        ack_sound : IsSound setting (with_range_entry r e view)
        ack_sound =
            range_entry_sound view r e here setting sound
            (subst (λ (h : List RangeEntry). (replica : SlotLeaf) → Contains (serving (h ++ e ∷ [])) replica
            → BeginsWith (replica_turns r replica.slot (of_leaf view replica.leaf))
            (turns_since replica.slot (h ++ e ∷ [])))
            (sym whole) keeps_turns)
            (subst (λ (h : List RangeEntry). IsBorneOut view.seen r (h ++ e ∷ []) (length h) e) (sym whole)
            borne_out)
            (subst (λ (h : List RangeEntry). range_spec.MayFollow setting.held setting.zones setting.points r h e)
            (sym whole) may_follow)

      there_truth : r.0 < length world.truth.seen.ranges
      there_truth = own.lawful.there

      there_met : r.0 < length met.seen.ranges
      there_met = here met met_sound met_up met_whole

      changes : ChangesRange setting world i who.view r (with_range_entry r e)
      changes = record {
        truth = ack_sound world.truth kept.truth own.part.within refl;
        met = ack_sound met met_sound met_up met_whole;
        within = range_entry_within r e met world.truth there_met there_truth met_whole met_within;
        grows = range_entry_up world.truth r e there_truth;
        count = length-set world.truth.seen.ranges r.0 (g ++ e ∷ []);
        whole = range_entry_same met.seen r e there_met ∙ ap (λ history. history ++ e ∷ []) met_whole
            ∙ sym (range_entry_same world.truth.seen r e there_truth);
        others = range_entry_other world.truth.seen r e;
        leaves = λ l. refl;
        acks = λ pass apart. acks_stay pass world.truth r e there_truth
            (anothers_ack pass who marks (λ same. apart (same ∙ ap pass_of (sym is))));
      }

      -- whoever serves then has the row too
      settled_then : IsRangeSettled (with_range_entry r e world.truth) r
      settled_then = record {
        rows = λ replica there.
            let found = still_serving replica
            (subst (λ (h : List RangeEntry). Contains (serving h) replica)
            (range_entry_same world.truth.seen r e there_truth) there) in
            let has = (mark_of found.0 found.1).has in
            subst (λ (x : SlotLeaf). HasTurns (with_range_entry r e world.truth) r x
            (turns_since x.slot (of_range (with_range_entry r e world.truth) r))) found.2
            (record {
              opened = has.opened;
              all = has.all
                  ∙ ap (λ f. cond (has_taken f) (turns_after world who found.0.slot) (turns_since found.0.slot g)) found.3
                  ∙ sym (serving_since setting.held setting.zones setting.points r world.truth.seen g
                  (kept.truth.held.legal r own.lawful.there) (replica_of found.0)
                  (subst (λ (xs : List SlotLeaf). Contains xs (replica_of found.0)) at.going.serve
                  (mapped_mark marks found.0 found.1)) e
                  ∙ ap (λ turns. turns_since found.0.slot g ++ turns) (since_turn who.pass who.turn ack))
                  ∙ ap (turns_since found.0.slot) (sym (range_entry_same world.truth.seen r e there_truth));
            });
        fresh = subst (λ (n : ℕ). IsUnopened (with_range_entry r e world.truth) r n)
            (sym (ap length (opened-turn g who.pass who.turn ack))
            ∙ ap (λ h. length (opened_slots h)) (sym (range_entry_same world.truth.seen r e there_truth)))
            at.going.fresh;
      }

      ack_some : IsStep setting world (at_range world i who.view r (with_range_entry r e) None (writes_on who stage))
      ack_some =
          write_at_range setting world i who is kept r (with_range_entry r e) None stage changes
          (inr at.going.holds.holder)
          (λ x. settled_then) (
            λ x. subst (λ (history : List RangeEntry). Contains history e)
                (sym (range_entry_same met.seen r e there_met)) (Contains-push (of_range met r) e),
            λ none. absurd (both_ways (some_took marks) none some),
          )
          (done_acked world.truth who marks some there_truth deeds)

    pub ack_marked : IsStep setting world (at_range world i who.view r (with_acknowledgement who (Marked marks)) None
        (writes_on who stage))
    ack_marked =
        elim (cases_Bool (some_took marks)) [
          | inl some ↦ subst (λ (b : Bool). IsStep setting world
              (at_range world i who.view r (λ view. cond b (with_range_entry r e view) view) None
              (writes_on who stage))) (sym some)
              (ack_some some)
          | inr none ↦ subst (λ (b : Bool). IsStep setting world
              (at_range world i who.view r (λ view. cond b (with_range_entry r e view) view) None
              (writes_on who stage))) (sym none)
              (ack_none none)
        ]
