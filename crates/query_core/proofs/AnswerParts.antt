-- What an answer makes of what a query keeps of its leaves' answers.
use Rattle.std.proofs.Common.{◌≡◌, ◌∙◌, ◌<◌, ◌+◌, inl, ℕ, ℤ, zero, suc, true, List, [], ◌∷◌, length, map, take, set}
use Rattle.std.proofs.Common.{get_or, refl, ap, subst, arith}
use Rattle.std.proofs.lemmas.List.{length-set}
use Rattle.mon_meaning.specs.LeafAnswers.{IsOverLeaf}
use Rattle.mon_value.specs.Histories.{leaf_history}
use Rattle.mon_value.specs.declared.histories.Histories.{Histories}
use Rattle.mon_topo.specs.HeldHistories.{AreWithin}
use Rattle.mon_topo.specs.Settings.{Setting}
use Rattle.mon_value.specs.declared.positions.Leaf.{Leaf}
use Rattle.mon_value.specs.declared.positions.RangeSlot.{RangeSlot}
use Rattle.mon_value.specs.declared.rows.Row.{Row}
use Rattle.query_traces.specs.declared.areas.Area.{Area}
use Rattle.query_traces.specs.declared.asks.Seen.{Seen}
use Rattle.query_traces.specs.declared.asks.Told.{Told}
use Rattle.query_traces.specs.declared.asks.Told.TheVariants as told
use Rattle.query_core.specs.declared.courses.Course.{Course}
use Rattle.query_traces.specs.declared.loadings.Loading.{Loading}
use Rattle.query_traces.specs.declared.looks.Look.{Look}
use Rattle.query_core.specs.declared.stages.Stage.{Stage}
use Rattle.query_core.specs.declared.stages.Stage.TheVariants as at
use Rattle.query_traces.specs.Rounds.{areas_of, has_leaf, leaf_at, read_at, unread_look, Round, round_of, slots_on}
use Rattle.query_traces.specs.Rounds.{QuerySetting, typed_of}
use Rattle.query_core.specs.Courses.{trace_of, with_found}
use Rattle.query_traces.specs.Loadings.{is_whole, with_word}
use Rattle.query_core.specs.Machine.{slots_in, slots_visited}
use Rattle.query_core.specs.Program as spec
use Rattle.query_core.specs.Program.{ask_of, let_some_in, with_zone}
use Rattle.query_traces.specs.TrueAnswers as truth
use Rattle.mon_topo.specs.Views.{IsSound, View}
use Rattle.mon_meaning.specs.ReadableSlots.{slot_rows}
use Rattle.query_traces.specs.Visits as visit
use Rattle.query_traces.specs.Visits.{Visits, with_look}
use Rattle.query_traces.proofs.RoundLemmas.{has_at}
use Rattle.query_core.proofs.SegmentFacts.{SeenSo, seen_so}
use Rattle.query_core.proofs.StageLemmas.{slots_here}
use Rattle.query_core.proofs.PartClaims.{CourseIn, LeafOver, LoadedSo, RoundWhole, StageParts, StepParts, VisitSo}
use Rattle.query_core.proofs.VisitParts.{in_on, looks_at, read_so, reloaded_by, unread_so, visit_on, visiting_so}
use Rattle.query_core.proofs.ZoneParts.{entered_by, loaded_more, nothing_resolved, resolving_so, root_by, slot_so}
use Rattle.query_core.proofs.ZoneParts.{word_seen}

get_set : (looks : List Look) (place : ℕ) (look : Look) → place < length looks
    → get_or (map (λ (look : Look). look.cut) (set looks place look)) place 0 ≡ look.cut
get_set [] place look there = absurd (omega (arith, there))
get_set (first ∷ looks) zero look there = refl
get_set (first ∷ looks) (suc place) look there = get_set looks place look (omega (arith, there))

module _ (store : Setting) (setting : QuerySetting) (moment : ℤ) where
  over_so : (now : Histories) (course : Course) (round : Round) (visits : Visits) (leaf : Leaf) (over cut : ℕ)
      → CourseIn store setting moment now course round.area → RoundWhole store setting moment round
      → VisitSo store setting moment now round visits leaf
      → IsOverLeaf (typed_of setting) (slot_rows (take cut (leaf_history now leaf)) (slots_in round leaf)) moment
      setting.limit (record { load = over })
      → LeafOver store setting moment now (trace_of (with_zone course round (with_look visits leaf (unread_look cut))))
  over_so now course round visits leaf over cut inside whole so is =
      let all = so.visits_so in
      let looks = (with_look visits leaf (unread_look cut)).looks in
      let same : looks ≡ set visits.looks so.place (unread_look cut) =
      looks_at store setting moment round visits leaf so.place (unread_look cut) all.first so.is in
      let here : has_leaf round.area leaf ≡ true =
      has_at round.area leaf so.place so.there (ap (λ (leaf : Leaf). leaf.0) so.is) in
      let rows : slot_rows (take cut (leaf_history now leaf)) (slots_in round leaf)
      ≡ slot_rows (take cut (leaf_history now (leaf_at round.area so.place)))
      (slots_on (leaf_at round.area so.place) round.resolved) =
      ap (λ (slots : List RangeSlot). slot_rows (take cut (leaf_history now leaf)) slots) (slots_here round leaf here)
      ∙ ap (λ (l : Leaf). slot_rows (take cut (leaf_history now l)) (slots_on l round.resolved)) so.is in
      record {
        before = course;
        area = round.area;
        resolved = round.resolved;
        looks = looks;
        in_zone = inside;
        whole = record {
          ranges = whole.ranges;
          all_ranges = whole.all;
          all_leaves = ap length same ∙ length-set visits.looks so.place (unread_look cut) ∙ all.count;
        };
        parts = visits.answers;
        parts_so = (unread_so store setting moment now round visits leaf cut so).parts;
        trace_is = refl;
        place = so.place;
        there = so.there;
        cut = cut;
        told = ap (λ (some : List Look). get_or (map (λ (look : Look). look.cut) some) so.place 0) same
            ∙ get_set visits.looks so.place (unread_look cut) (omega (arith, so.there, all.count));
        over = record { load = over };
        is = subst (λ (some : List Row). IsOverLeaf (typed_of setting) some moment setting.limit
            (record { load = over }))
            rows is;
      }

module _ (store : Setting) (setting : QuerySetting) (moment : ℤ) (Tells : Histories → Course → Type 0)
    (areas : setting.areas ≡ areas_of store.zones) (before after : View) (sound : IsSound store before)
    (grown : AreWithin before.seen after.seen) (avoided : List Leaf) where
  inside_then : (course : Course) (area : Area) → CourseIn store setting moment before.seen course area
      → CourseIn store setting moment after.seen course area
  inside_then = in_on store setting moment before.seen after.seen grown

  visit_then : (round : Round) (visits : Visits) (leaf : Leaf) → VisitSo store setting moment before.seen round visits
      leaf
      → VisitSo store setting moment after.seen round visits leaf
  visit_then = visit_on store setting moment before.seen after.seen grown

  word_so : (loading : Loading) (word : ℕ) (seen : Seen) → LoadedSo store setting moment loading.words loading.seen
      → truth.IsSeenSo before.seen seen → SeenSo store.zones (with_word loading word seen).seen
  word_so loading word seen loaded is =
      word_seen store setting moment loading.words loading.seen seen loaded (seen_so store before.seen seen sound.held
      is)

  more_so : (loading : Loading) (word : ℕ) (seen : Seen) → SeenSo store.zones (with_word loading word seen).seen
      → LoadedSo store setting moment (with_word loading word seen).words (with_word loading word seen).seen
  more_so loading word seen so = loaded_more store setting moment loading.words word (with_word loading word seen).seen
      so

  found_so : (course : Course) (area : Area) (leaf : Leaf) (cut : ℕ) → CourseIn store setting moment after.seen course
      area
      → CourseIn store setting moment after.seen (with_found course leaf cut) area
  found_so course area leaf cut inside = record {
    segments = inside.segments;
    behind = record {
      resolved = inside.behind.resolved;
      looks = inside.behind.looks;
      answers = inside.behind.answers;
      areas = inside.behind.areas;
      each = inside.behind.each;
      seen = inside.behind.seen;
    };
    begun = inside.begun;
    there = inside.there;
    here = inside.here;
  }

  pub answer_parts : (stage : Stage) (answer : Told) → StageParts store setting moment Tells before.seen stage
      → truth.IsTrueAnswer store setting moment before after avoided (slots_visited stage) (ask_of setting stage)
      answer
      → StepParts store setting moment Tells after.seen (spec.after setting stage answer)
  answer_parts (at.Rooting loading) (told.Word word seen) so is =
      let whole = word_so loading word seen so is.seen_so in
      root_by store setting moment Tells areas after.seen (with_word loading word seen)
      (is_whole setting.plan (with_word loading word seen)) whole (more_so loading word seen whole)
  answer_parts (at.Entering course round loading) (told.Word word seen) so is =
      let whole = word_so loading word seen so.2 is.seen_so in
      entered_by store setting moment Tells areas after.seen course round (with_word loading word seen)
      (is_whole setting.plan (with_word loading word seen))
      (let_some_in setting round.area (with_word loading word seen))
      (inside_then course round.area so.0) so.1 whole (more_so loading word seen whole)
  answer_parts (at.Reloading course round loading) (told.Word word seen) so is =
      let whole = word_so loading word seen so.2 is.seen_so in
      reloaded_by store setting moment Tells after.seen course round (with_word loading word seen)
      (is_whole setting.plan (with_word loading word seen))
      (inside_then course round.area so.0) so.1 whole (more_so loading word seen whole)
  answer_parts (at.Resolving course round range) (told.Slot slot leaf) so is =
      slot_so store setting moment Tells after.seen course round range slot leaf (inside_then course round.area so.0)
      so.1
      so.2 so.3
  answer_parts (at.Resolving course round range) told.NoSlot so is = tt
  answer_parts (at.Visiting course round visits leaf) (told.Down cut) so is =
      resolving_so store setting moment Tells after.seen (with_found course leaf cut) (round_of round.area)
      (found_so course round.area leaf cut (inside_then course round.area so.0))
      (nothing_resolved store setting moment (round_of round.area) refl)
  answer_parts (at.Visiting course round visits leaf) (told.Unread cut) so is =
      let visit_now = visit_then round visits leaf so.2 in
      visiting_so store setting moment Tells after.seen course round (with_look visits leaf (unread_look cut))
      (visit_now.place
      + 1)
      (unread_so store setting moment after.seen round visits leaf cut visit_now)
      (inside_then course round.area so.0) so.1
  answer_parts (at.Visiting course round visits leaf) (told.Read cut answer) so is =
      let visit_now = visit_then round visits leaf so.2 in
      visiting_so store setting moment Tells after.seen course round
      (visit.with_leaf_answer (with_look visits leaf (read_at cut answer.sent)) answer) (visit_now.place + 1)
      (read_so store setting moment after.seen round visits leaf cut answer visit_now is.0.between.to is.2)
      (inside_then course round.area so.0) so.1
  answer_parts (at.Visiting course round visits leaf) (told.Over load cut) so is = (
    refl,
    inl (over_so store setting moment after.seen course round visits leaf load cut
        (inside_then course round.area so.0) so.1
        (visit_then round visits leaf so.2) is.2),
  )
  answer_parts (at.Rooting loading) answer so is = absurd is
  answer_parts (at.Entering course round loading) answer so is = absurd is
  answer_parts (at.Resolving course round range) answer so is = absurd is
  answer_parts (at.Reloading course round loading) answer so is = absurd is
  answer_parts (at.Visiting course round visits leaf) answer so is = absurd is
  answer_parts (at.Ended end) answer so is = absurd is
