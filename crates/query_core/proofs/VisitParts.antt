-- What a query keeps of its leaves' answers as leaves are visited.
use Rattle.std.proofs.Common.{◌≡◌, ◌∙◌, ◌≤◌, ◌+◌, ◌-◌, inl, inr, ℕ, ℤ, Bool, true, false, cond, Option, List, [], ◌∷◌}
use Rattle.std.proofs.Common.{◌++◌, length, map, filter, take, drop, set, nat_le, refl, sym, ap, subst, arith}
use Rattle.std.specs.List.{AllByRecursion, range_with_len}
use Rattle.std.proofs.lemmas.Bool.Decides.{nat_tests}
use Rattle.std.proofs.lemmas.List.{length-set, map-append}
use Rattle.mixer.specs.ZoneAnswers.{AllLeafParts}
use Rattle.mon_fold.specs.declared.answers.LeafAnswer.{LeafAnswer}
use Rattle.mon_meaning.specs.LeafAnswers.{IsLeafPart}
use Rattle.mon_value.specs.Histories.{leaf_history}
use Rattle.mon_value.specs.declared.histories.Histories.{Histories}
use Rattle.mon_topo.specs.HeldHistories.{AreWithin}
use Rattle.mon_topo.specs.Settings.{Setting}
use Rattle.mon_value.specs.declared.positions.Leaf.{Leaf}
use Rattle.mon_value.specs.declared.positions.RangeSlot.{RangeSlot}
use Rattle.mon_value.specs.declared.rows.Row.{Row}
use Rattle.query_traces.specs.declared.areas.Area.{Area}
use Rattle.query_core.specs.declared.courses.Course.{Course}
use Rattle.query_traces.specs.declared.loadings.Loading.{Loading}
use Rattle.query_traces.specs.declared.looks.Look.{Look}
use Rattle.query_core.specs.declared.stages.Stage.TheVariants as at
use Rattle.query_traces.specs.Rounds.{has_leaf, leaf_at, read_at, unread_look, Round, is_to_visit, slots_on, QuerySetting}
use Rattle.query_core.specs.Courses.{cuts_seen}
use Rattle.query_core.specs.Machine.{slots_in}
use Rattle.query_traces.specs.Rounds.{typed_of}
use Rattle.plan_split.specs.Meeting.{let_in}
use Rattle.query_core.specs.Program as spec
use Rattle.query_core.specs.Program.{begin_visits, visiting}
use Rattle.mon_meaning.specs.ReadableSlots.{slot_rows}
use Rattle.query_traces.specs.Visits as visit
use Rattle.query_traces.specs.Visits.{Visits, with_look}
use Rattle.query_core.proofs.ReadLeaves.{IsUnread, LeafRead, SendsNothing, all_set, behind_set, fewer_unread}
use Rattle.query_core.proofs.ReadLeaves.{leaf_read, no_reads, reads_from, set_read, set_unread}
use Rattle.query_traces.proofs.RoundLemmas.{has_at}
use Rattle.query_core.proofs.SegmentFacts.{PartsSo, SeenSo, IsSent, IsWithin, behind_on, parts_on, passed_so, read_rows}
use Rattle.query_core.proofs.StageLemmas.{slots_here}
use Rattle.query_core.proofs.PartClaims.{CourseIn, LoadedSo, RoundWhole, StepParts, VisitSo, VisitsSo}
use Rattle.query_traces.proofs.NextPlaces.{IsNextPlace, MaybePlace, next_place}
use Rattle.mon_value.proofs.PlainLemmas.{all_append}

module _ (store : Setting) (setting : QuerySetting) (moment : ℤ) where
  -- ---- a leaf is looked at

  -- what is known of the leaves is set at the leaf's place
  pub looks_at : (round : Round) (visits : Visits) (leaf : Leaf) (place : ℕ) (look : Look) → visits.first
      ≡ round.area.first_leaf
      → leaf ≡ leaf_at round.area place → (with_look visits leaf look).looks ≡ set visits.looks place look
  looks_at round visits leaf place look first is =
      let from : visits.first.0 ≡ round.area.first_leaf.0 = ap (λ (leaf : Leaf). leaf.0) first in
      let number : leaf.0 ≡ round.area.first_leaf.0 + place = ap (λ (leaf : Leaf). leaf.0) is in
      let behind : nat_le visits.first.0 leaf.0 ≡ true =
      let low : visits.first.0 ≤ leaf.0 = omega (arith, from, number) in grind (arith, nat_tests) in
      let same : leaf.0 - visits.first.0 ≡ place = omega (arith, from, number) in
      ap (λ b. cond b (set visits.looks (leaf.0 - visits.first.0) look) visits.looks) behind
      ∙ ap (λ n. set visits.looks n look) same

  pub unread_so : (now : Histories) (round : Round) (visits : Visits) (leaf : Leaf) (cut : ℕ)
      (so : VisitSo store setting moment now round visits leaf)
      → VisitsSo store setting moment now round (with_look visits leaf (unread_look cut)) (so.place + 1) (so.place + 1)
  unread_so now round visits leaf cut so =
      let all = so.visits_so in
      let looks : List Look = set visits.looks so.place (unread_look cut) in
      let is : looks ≡ (with_look visits leaf (unread_look cut)).looks =
      sym (looks_at round visits leaf so.place (unread_look cut) all.first so.is) in
      let same : reads_from round.area.first_leaf.0 visits.looks ≡ reads_from round.area.first_leaf.0 looks =
      sym (set_unread round.area.first_leaf.0 visits.looks so.place cut (omega (arith, so.there, all.count))
      all.not_yet) in
      let parts : PartsSo setting moment now round.resolved round.area.first_leaf.0 looks visits.answers = record {
        within = subst (λ (reads : List LeafRead). AllByRecursion (IsWithin setting moment now) reads) same
            all.parts.within;
        each = subst (λ (reads : List LeafRead). AllLeafParts (typed_of setting)
            (map (read_rows setting moment now round.resolved) reads) moment setting.limit visits.answers) same
            all.parts.each;
        sends = subst (λ (reads : List LeafRead). AllByRecursion (IsSent setting moment now round.resolved) reads) same
            all.parts.sends;
        silent = all_set SendsNothing visits.looks so.place (unread_look cut) all.parts.silent (λ e. refl);
      } in
      record {
        first = all.first;
        count = ap length (sym is) ∙ length-set visits.looks so.place (unread_look cut) ∙ all.count;
        not_yet = subst (λ (some : List Look). AllByRecursion IsUnread (drop (so.place + 1) some)) is
            (behind_set visits.looks so.place (so.place + 1) (unread_look cut) (omega arith) all.not_yet);
        parts = subst (λ (some : List Look).
            PartsSo setting moment now round.resolved round.area.first_leaf.0 some visits.answers) is parts;
        test = all.test;
        more = all.more;
        left_is = all.left_is;
        all = all.all;
      }

  parts_push : (rows : List (List Row)) (parts : List LeafAnswer) (own : List Row) (part : LeafAnswer)
      → AllLeafParts (typed_of setting) rows moment setting.limit parts
      → IsLeafPart (typed_of setting) own moment setting.limit part
      → AllLeafParts (typed_of setting) (rows ++ own ∷ []) moment setting.limit (parts ++ part ∷ [])
  parts_push [] [] own part each is = (is, tt)
  parts_push [] (first ∷ parts) own part each is = absurd each
  parts_push (some ∷ rows) [] own part each is = absurd each
  parts_push (some ∷ rows) (first ∷ parts) own part each is = (each.0, parts_push rows parts own part each.1 is)

  module _ (now : Histories) (round : Round) (visits : Visits) (leaf : Leaf) (cut : ℕ) (answer : LeafAnswer)
      (so : VisitSo store setting moment now round visits leaf) (within : cut ≤ length (leaf_history now leaf))
      (is : IsLeafPart (typed_of setting) (slot_rows (take cut (leaf_history now leaf)) (slots_in round leaf)) moment
      setting.limit answer) where
    abbrev one : LeafRead
    one = leaf_read (round.area.first_leaf.0 + so.place) (read_at cut answer.sent)

    leaf_is : leaf ≡ one.leaf
    leaf_is = so.is

    here : has_leaf round.area leaf ≡ true
    here = has_at round.area leaf so.place so.there (ap (λ (leaf : Leaf). leaf.0) so.is)

    own_rows : slot_rows (take cut (leaf_history now leaf)) (slots_in round leaf)
        ≡ read_rows setting moment now round.resolved one
    own_rows =
        ap (λ (slots : List RangeSlot). slot_rows (take cut (leaf_history now leaf)) slots) (slots_here round leaf here)
        ∙ ap (λ (l : Leaf). slot_rows (take cut (leaf_history now l)) (slots_on l round.resolved)) leaf_is

    own_part : IsLeafPart (typed_of setting) (read_rows setting moment now round.resolved one) moment setting.limit
        answer
    own_part = subst (λ (rows : List Row). IsLeafPart (typed_of setting) rows moment setting.limit answer) own_rows is

    abbrev looks_now : List Look
    looks_now = set visits.looks so.place (read_at cut answer.sent)

    reads_more : reads_from round.area.first_leaf.0 visits.looks ++ one ∷ [] ≡ reads_from round.area.first_leaf.0
        looks_now
    reads_more =
        sym (set_read round.area.first_leaf.0 visits.looks so.place cut answer.sent
        (omega (arith, so.there, so.visits_so.count)) so.visits_so.not_yet)

    parts_more : PartsSo setting moment now round.resolved round.area.first_leaf.0 looks_now (visits.answers
        ++ answer ∷ [])
    parts_more =
        let before = so.visits_so.parts in
        let reads = reads_from round.area.first_leaf.0 visits.looks in
        record {
          within = subst (λ (reads : List LeafRead). AllByRecursion (IsWithin setting moment now) reads) reads_more
              (all_append (IsWithin setting moment now) reads (one ∷ []) before.within
              (subst (λ (l : Leaf). cut ≤ length (leaf_history now l)) leaf_is within, tt));
          each = subst (λ (reads : List LeafRead). AllLeafParts (typed_of setting)
              (map (read_rows setting moment now round.resolved) reads) moment setting.limit (visits.answers
              ++ answer ∷ []))
              reads_more
              (subst (λ (rows : List (List Row)).
              AllLeafParts (typed_of setting) rows moment setting.limit (visits.answers ++ answer ∷ []))
              (sym (map-append (read_rows setting moment now round.resolved) reads (one ∷ [])))
              (parts_push (map (read_rows setting moment now round.resolved) reads) visits.answers
              (read_rows setting moment now round.resolved one) answer before.each own_part));
          sends = subst (λ (reads : List LeafRead). AllByRecursion (IsSent setting moment now round.resolved) reads)
              reads_more
              (all_append (IsSent setting moment now round.resolved) reads (one ∷ []) before.sends
              (own_part.sent_is, tt));
          silent = all_set SendsNothing visits.looks so.place (read_at cut answer.sent) before.silent (λ e. absurd cc);
        }

    pub read_so : VisitsSo store setting moment now round
        (visit.with_leaf_answer (with_look visits leaf (read_at cut answer.sent))
        answer)
        (so.place + 1) (so.place + 1)
    read_so =
        let all = so.visits_so in
        let same : looks_now ≡ (with_look visits leaf (read_at cut answer.sent)).looks =
        sym (looks_at round visits leaf so.place (read_at cut answer.sent) all.first so.is) in
        record {
          first = all.first;
          count = ap length (sym same) ∙ length-set visits.looks so.place (read_at cut answer.sent) ∙ all.count;
          not_yet = subst (λ (some : List Look). AllByRecursion IsUnread (drop (so.place + 1) some)) same
              (behind_set visits.looks so.place (so.place + 1) (read_at cut answer.sent) (omega arith) all.not_yet);
          parts = subst (λ (some : List Look). PartsSo setting moment now round.resolved round.area.first_leaf.0 some
              (visits.answers ++ answer ∷ [])) same parts_more;
          test = all.test;
          more = all.more;
          left_is = all.left_is;
          all = all.all;
        }

  -- ---- histories that grow

  module _ (before after : Histories) (grown : AreWithin before after) where
    pub in_on : (course : Course) (area : Area) → CourseIn store setting moment before course area
        → CourseIn store setting moment after course area
    in_on course area inside = record {
      segments = inside.segments;
      behind = behind_on setting moment store.zones before after grown inside.segments course inside.behind;
      begun = inside.begun;
      there = inside.there;
      here = inside.here;
    }

    pub visit_on : (round : Round) (visits : Visits) (leaf : Leaf) → VisitSo store setting moment before round visits
        leaf
        → VisitSo store setting moment after round visits leaf
    visit_on round visits leaf so =
        let all = so.visits_so in
        record {
          place = so.place;
          is = so.is;
          there = so.there;
          visits_so = record {
            first = all.first;
            count = all.count;
            not_yet = all.not_yet;
            parts = parts_on setting moment before after grown round.resolved round.area.first_leaf.0 visits.looks
                visits.answers all.parts;
            test = all.test;
            more = all.more;
            left_is = all.left_is;
            all = all.all;
          };
        }

module _ (store : Setting) (setting : QuerySetting) (moment : ℤ) (Tells : Histories → Course → Type 0) where
  leaf_by : (now : Histories) (course : Course) (round : Round) (visits : Visits) (from place : ℕ)
      (so : VisitsSo store setting moment now round visits from from) → CourseIn store setting moment now course
      round.area
      → RoundWhole store setting moment round → IsNextPlace so.test from so.more place
      → StepParts store setting moment Tells now (visiting course round visits)
  leaf_by now course round visits from place so inside whole next =
      let rest : List Leaf = map (leaf_at round.area) (filter so.test (range_with_len (place + 1) next.rest)) in
      let left_is : visits.left ≡ leaf_at round.area place ∷ rest = so.left_is ∙ ap (map (leaf_at round.area))
      next.is in
      subst (λ (o : Option Leaf). StepParts store setting moment Tells now (spec.visiting_at course round visits o))
      (sym (ap visit.first_left left_is)) (
        inside,
        whole,
        record {
          place = place;
          is = refl;
          there = omega (arith, next.all, so.all);
          visits_so = record {
            first = so.first;
            count = so.count;
            not_yet = fewer_unread visits.looks from place next.later so.not_yet;
            parts = so.parts;
            test = so.test;
            more = next.rest;
            left_is = ap visit.but_first left_is;
            all = omega (arith, next.all, so.all);
          };
        },
      )

  visiting_by : (now : Histories) (course : Course) (round : Round) (visits : Visits) (from : ℕ)
      (so : VisitsSo store setting moment now round visits from from) → CourseIn store setting moment now course
      round.area
      → RoundWhole store setting moment round → MaybePlace so.test from so.more
      → StepParts store setting moment Tells now (visiting course round visits)
  visiting_by now course round visits from so inside whole (inl none) =
      let left_is : visits.left ≡ [] = so.left_is ∙ ap (map (leaf_at round.area)) none in
      subst (λ (o : Option Leaf). StepParts store setting moment Tells now (spec.visiting_at course round visits o))
      (sym (ap visit.first_left left_is))
      (record {
        before = course;
        area = round.area;
        resolved = round.resolved;
        looks = visits.looks;
        in_zone = inside;
        whole = record { ranges = whole.ranges; all_ranges = whole.all; all_leaves = so.count };
        parts_so = so.parts;
        is = refl;
      })
  visiting_by now course round visits from so inside whole (inr next) =
      leaf_by now course round visits from next.0 so inside whole next.1

  pub visiting_so : (now : Histories) (course : Course) (round : Round) (visits : Visits) (from : ℕ)
      → VisitsSo store setting moment now round visits from from → CourseIn store setting moment now course round.area
      → RoundWhole store setting moment round → StepParts store setting moment Tells now (visiting course round visits)
  visiting_so now course round visits from so inside whole =
      visiting_by now course round visits from so inside whole (next_place so.test from so.more)

  begin_so : (now : Histories) (course : Course) (round : Round) (loading : Loading)
      → CourseIn store setting moment now course round.area → SeenSo store.zones loading.seen
      → VisitsSo store setting moment now round (begin_visits setting round loading) 0 0
  begin_so now course round loading inside so =
      let passed = passed_so setting moment store.zones now (length inside.segments) round.area loading.seen
      inside.there
      inside.here so in
      let looks : List Look = map unread_look (cuts_seen loading.seen round.area) in
      let none : [] ≡ reads_from round.area.first_leaf.0 looks =
      sym (no_reads round.area.first_leaf.0 looks passed.1) in
      record {
        first = refl;
        count = passed.0.all_leaves;
        not_yet = passed.1;
        parts = record {
          within = subst (λ (reads : List LeafRead). AllByRecursion (IsWithin setting moment now) reads) none tt;
          each = subst (λ (reads : List LeafRead). AllLeafParts (typed_of setting)
              (map (read_rows setting moment now round.resolved) reads) moment setting.limit []) none tt;
          sends = subst (λ (reads : List LeafRead). AllByRecursion (IsSent setting moment now round.resolved) reads)
              none tt;
          silent = passed.2;
        };
        test = is_to_visit round (let_in setting.plan loading.words round.area.leaves);
        more = round.area.leaves;
        left_is = refl;
        all = omega arith;
      }

  pub reloaded_by : (now : Histories) (course : Course) (round : Round) (loading : Loading) (whole : Bool)
      → CourseIn store setting moment now course round.area → RoundWhole store setting moment round
      → SeenSo store.zones loading.seen → LoadedSo store setting moment loading.words loading.seen
      → StepParts store setting moment Tells now
      (cond whole (visiting course round (begin_visits setting round loading))
      (spec.going (at.Reloading course round loading)))
  reloaded_by now course round loading true inside all so loaded =
      visiting_so now course round (begin_visits setting round loading) 0 (begin_so now course round loading inside so)
      inside all
  reloaded_by now course round loading false inside all so loaded = (inside, all, loaded)
