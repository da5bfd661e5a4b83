-- What a query is told of a word, a range or a leaf is true.
use Rattle.std.proofs.Common.{◌≡◌, ◌∙◌, ◌<◌, ◌^◌, inl, inr, ℕ, ℤ, Bool, true, false, List, [], ◌∷◌, ◌++◌, length}
use Rattle.std.proofs.Common.{take, refl, sym, ap, subst, get_or, arith, Some, None}
use Rattle.std.specs.Prelude.{Option, map}
use Rattle.std.proofs.lemmas.List.{append-nil, length-map}
use Rattle.std.proofs.Math.Seq.{take-length}
use Rattle.history_book.specs.Seats.{length_note}
use Rattle.history_book.specs.declared.views.LengthNote.{LengthNote}
use Rattle.know.specs.Knowledge.{Knowledge}
use Rattle.know.specs.Sound.{IsSound}
use Rattle.leaf_cell.specs.PlanVisits.{HasFoundSo}
use Rattle.leaf_eval.specs.declared.visits.Visit.{Visit}
use Rattle.leaf_eval.specs.declared.visits.Visit.TheVariants as visit
use Rattle.mon_hints.specs.Formulas.{all_named, formula_tree, formulas, AreAmong}
use Rattle.mon_hints.specs.Hints.{history_buckets}
use Rattle.mon_hints.specs.declared.places.Place.{Place}
use Rattle.mon_hints.specs.declared.places.Place.TheVariants as place
use Rattle.mon_meaning.specs.LeafAnswers.{IsLeafPart, IsOverLeaf}
use Rattle.mon_meaning.specs.ReadableSlots.{CanBeRead, slot_rows}
use Rattle.mon_topo.proofs.FrontLemmas.{begins_length}
use Rattle.mon_topo.proofs.HeldLemmas.{seen_within_through}
use Rattle.mon_topo.specs.HeldHistories.{first_histories, AreWithin}
use Rattle.mon_topo.specs.RangeHistories.{first_serving}
use Rattle.mon_topo.specs.Settings.{Setting}
use Rattle.mon_topo.specs.Sights.{sight_of}
use Rattle.mon_topo.specs.Views.{IsViewWithin, View}
use Rattle.mon_topo.specs.Zones.{leaves_in, ranges_in}
use Rattle.mon_topo.specs.declared.zones.ZoneSpec.{ZoneSpec}
use Rattle.mon_value.specs.Histories.{leaf_history, range_history}
use Rattle.mon_value.specs.LeafHistories.{is_down}
use Rattle.mon_value.specs.declared.histories.Entry.{Entry}
use Rattle.mon_value.specs.declared.histories.RangeEntry.{RangeEntry}
use Rattle.mon_value.specs.declared.positions.Leaf.{Leaf}
use Rattle.mon_value.specs.declared.positions.Range.{Range}
use Rattle.mon_value.specs.declared.positions.RangeSlot.{RangeSlot}
use Rattle.mon_value.specs.declared.positions.SlotLeaf.{SlotLeaf}
use Rattle.mon_value.specs.declared.positions.Zone.{Zone}
use Rattle.mon_value.specs.declared.rows.Row.{Row}
use Rattle.typed_trees.specs.Nodes.{typed_tree}
use Rattle.owners.specs.Calls.{HasLooked}
use Rattle.plan_split.proofs.PlanBuckets.{next_below}
use Rattle.plan_split.specs.Meeting.{is_plan_met}
use Rattle.query_core.proofs.AskLemmas.{root_below, slots_same, zone_below}
use Rattle.query_traces.proofs.SeenLemmas.{seen_told}
use Rattle.query_core.proofs.ToldAnswers.{can_read}
use Rattle.query_traces.specs.AskedPlaces.{IsThere}
use Rattle.query_core.specs.Machine.{Query, new_query, slots_at, slots_of}
use Rattle.query_traces.specs.Rounds.{typed_of, QuerySetting}
use Rattle.query_core.specs.Program.{ask_of}
use Rattle.query_traces.specs.SeenSights.{seen_of}
use Rattle.query_core.specs.SentTold.{answer_sent}
use Rattle.query_traces.specs.TrueAnswers as truth
use Rattle.query_core.specs.Sessions.{query_after, view_after}
use Rattle.query_traces.specs.TrueAnswers.{IsFoundSo, IsSeenSo, IsTrueAnswer}
use Rattle.query_core.specs.Sides.{word_asked}
use Rattle.query_traces.specs.Traces.{IsBetween}
use Rattle.query_traces.specs.declared.asks.Ask.{Ask}
use Rattle.query_traces.specs.declared.asks.Ask.TheVariants as ask
use Rattle.query_traces.specs.declared.asks.Seen.{Seen}
use Rattle.query_traces.specs.declared.asks.Told.{Told}
use Rattle.query_traces.specs.declared.asks.Told.TheVariants as told
use Rattle.query_core.specs.declared.stages.Stage.TheVariants as at
use Rattle.raise_table.specs.Seats.{note}
use Rattle.raise_table.specs.declared.views.Note.{Note}
use Rattle.raise_table.specs.Tables.{HasWord, RaiseIdentity}
use Rattle.running_query.proofs.GoingLemmas.{called_goes}
use Rattle.running_query.proofs.StepLemmas.{there}
use Rattle.running_query.proofs.ViewLemmas.{grown, root_known, seen_grown, zone_known}
use Rattle.running_query.specs.Asking.{IsAnswered, IsUnderWay}
use Rattle.running_query.specs.Looks.{GoesOn, view_of}
use Rattle.running_query.specs.Notes.{HandsOut, lengths_of, words_of}
use Rattle.running_query.specs.Telling.{FindsSo, IsWordTold, LooksSo, slot_told, visit_told}

-- ---- whole histories

at_whole : {X : Type 0} (xs : List X) (n : ℕ) → n ≡ length xs → take n xs ≡ xs
at_whole xs n e = ap (λ (k : ℕ). take k xs) e ∙ take-length xs

-- ---- a query on its way

module _ (store : Setting) (raise : RaiseIdentity) (setting : QuerySetting) (moment : ℤ) (entry now : Knowledge)
    (query : Query) (is : IsUnderWay store raise setting moment entry now query) where
  pub few_seen : length now.seen.ranges < 2 ^ 32
  few_seen = omega (arith, is.goes.sound.held.all_ranges, is.here.few)

  pub free_now : now.purse.holds ≡ []
  free_now = is.goes.holds ∙ is.here.free

  pub listed : AreAmong (all_named (formulas (map formula_tree setting.plan.formulas))) setting.plan.buckets
  listed = λ n among. is.here.asked.listed.same n ∙ among

  next_bucket : (i : ℕ) → get_or setting.plan.buckets i 0 < raise.buckets
  next_bucket i = next_below raise.buckets is.here.some setting.plan.buckets is.here.below i

  pub word_there : (at : Place) (bucket : ℕ) → ask_of setting query.stage ≡ word_asked at bucket
      → HasWord raise at bucket
  word_there place.Root bucket e = (record {}, root_below setting raise.buckets next_bucket query.stage bucket e)
  word_there (place.Zone zone) bucket e =
      let within : zone.0 < length store.zones =
      subst (λ (a : Ask). IsThere store.zones a) e (there store raise setting moment entry now query is) in
      let count : length raise.zones ≡ length store.zones = zones_counted in
      (omega (arith, within, count), zone_below setting raise.buckets next_bucket query.stage zone bucket e)
    where
      zones_counted : length raise.zones ≡ length store.zones
      zones_counted =
          ap (λ (zones : List ℕ). length zones) is.here.zones
          ∙ length-map store.zones (λ (zone : ZoneSpec). length zone.leaves)

  pub range_there : (range : Range) → ask_of setting query.stage ≡ ask.Resolve range
      → range.0 < length (ranges_in store.zones)
  range_there range e =
      subst (λ (a : Ask). IsThere store.zones a) e (there store raise setting moment entry now query is)

  pub leaf_there : (leaf : Leaf) → ask_of setting query.stage ≡ ask.Visit leaf
      → leaf.0 < length (leaves_in store.zones)
  leaf_there leaf e =
      subst (λ (a : Ask). IsThere store.zones a) e (there store raise setting moment entry now query is)

  -- whatever its caller will have seen of the leaf that it visits, the slots can be read together there
  pub readable : (leaf : Leaf) → ask_of setting query.stage ≡ ask.Visit leaf
      → (later : Knowledge) → HasLooked leaf now.purse.rooms now later → IsSound store later.hints later.seen
      → CanBeRead (typed_tree setting.plan.typed) (leaf_history later.seen leaf) (slots_of query.stage leaf)
  readable leaf e later looked sound =
      let first : View = view_of store entry in
      let so_far : View = view_after store setting moment first is.events in
      let reached : Query = query_after store setting moment (new_query setting) is.events in
      let goes : GoesOn store now later = called_goes store leaf looked.history now later looked.called
      looked.rooms_are sound in
      let history : List Entry = leaf_history later.seen leaf in
      let within = grown store now later goes in
      let grows : IsViewWithin so_far (view_of store later) =
      subst (λ (v : View). IsViewWithin v (view_of store later)) (sym is.now_is) within in
      let between : IsBetween (length (leaf_history now.seen leaf)) (length history) (length history) = record {
        from = begins_length history (leaf_history now.seen leaf) (within.seen.leaves leaf);
        to = omega arith;
      } in
      let between_there : IsBetween (length (leaf_history so_far.seen leaf)) (length history) (length history) =
      subst (λ (v : View). IsBetween (length (leaf_history v.seen leaf)) (length history) (length history))
      (sym is.now_is) between in
      let asks : ask_of setting reached.stage ≡ ask.Visit leaf =
      ap (λ (q : Query). ask_of setting q.stage) is.query_is ∙ e in
      subst (λ (some : List Entry). CanBeRead (typed_of setting) some (slots_of query.stage leaf)) (take-length history)
      (subst (λ (slots : List RangeSlot). CanBeRead (typed_of setting) (take (length history) history) slots)
      (sym (slots_same setting query.stage leaf e))
      (subst (λ (q : Query). CanBeRead (typed_of setting) (take (length history) history) (slots_at q))
      is.query_is
      (can_read store setting moment is.here.asked is.here.from first is.events is.here.sound is.licensed
      (view_of store later) grows sound leaf (length history) between_there asks)))

  since : AreWithin (first_histories store.zones) now.seen
  since =
      seen_within_through (first_histories store.zones) entry.seen now.seen is.here.begun
      (seen_grown store entry.seen now.seen is.goes.fronts)

  seen_here : IsSeenSo now.seen (seen_of (sight_of now.seen))
  seen_here =
      seen_told store.held store.zones store.points now.seen is.goes.sound.held since is.here.asked.replicas

  module _ (later : Knowledge) (goes : GoesOn store now later) (answer : Told) where
    abbrev Answered : Ask → Type 0
    Answered asked = IsAnswered store setting moment now later query asked answer

    abbrev TrueOf : Ask → Told → Type 0
    TrueOf = IsTrueAnswer store setting moment (view_of store now) (view_of store later) query.avoided (slots_at query)

    -- ---- words

    word_true : (at : Place) (bucket : ℕ) (told_so : IsWordTold at bucket now later answer)
        → TrueOf (word_asked at bucket) (told.Word told_so.word (seen_of (sight_of now.seen)))
    word_true place.Root bucket told_so = record {
      known = root_known store now.hints bucket told_so.word told_so.known;
      seen_so = seen_here;
    }
    word_true (place.Zone zone) bucket told_so = record {
      known = zone_known store now.hints zone bucket told_so.word told_so.known;
      seen_so = seen_here;
    }

    no_lengths : (at : Place) (bucket : ℕ) → lengths_of store (word_asked at bucket) (view_of store later) ≡ []
    no_lengths place.Root bucket = refl
    no_lengths (place.Zone zone) bucket = refl

    word_noted : (at : Place) (bucket word : ℕ) → (seen : Seen)
        → words_of (word_asked at bucket) (told.Word word seen) ≡ note at bucket word ∷ []
    word_noted place.Root bucket word seen = refl
    word_noted (place.Zone zone) bucket word seen = refl

    pub word_answered : (at : Place) (bucket : ℕ) → IsWordTold at bucket now later answer
        → Answered (word_asked at bucket)
    word_answered at bucket told_so = record {
      true_then = subst (λ (t : Told). TrueOf (word_asked at bucket) t) (sym told_so.is)
          (word_true at bucket told_so);
      handed = inr (told_so.handed, ap answer_sent told_so.is);
      lengths = told_so.lengths ∙ sym (append-nil now.purse.notes)
          ∙ ap (λ (notes : List LengthNote). now.purse.notes ++ notes) (sym (no_lengths at bucket));
      words = told_so.noted
          ∙ ap (λ (notes : List Note). now.hints.notes ++ notes)
          (sym (word_noted at bucket told_so.word (seen_of (sight_of now.seen))))
          ∙ ap (λ (t : Told). now.hints.notes ++ words_of (word_asked at bucket) t) (sym told_so.is);
    }

    -- ---- ranges

    module _ (range : Range) where
      resolved_so : (found : Option SlotLeaf) → first_serving query.avoided (range_history later.seen range) ≡ found
          → truth.IsResolvedSo (view_of store now) (view_of store later) query.avoided range found
      resolved_so found first =
          let history = range_history later.seen range in
          record {
            found = length history;
            between = record {
              from = begins_length history (range_history now.seen range) ((grown store now later goes).seen.ranges range);
              to = omega arith;
            };
            first = ap (λ (h : List RangeEntry). first_serving query.avoided h) (take-length history) ∙ first;
            whole = refl;
          }

      slot_true : (found : Option SlotLeaf) → first_serving query.avoided (range_history later.seen range) ≡ found
          → TrueOf (ask.Resolve range) (slot_told found)
      slot_true None first = resolved_so None first
      slot_true (Some replica) first = resolved_so (Some replica) first

      slot_sends : (found : Option SlotLeaf) → answer_sent (slot_told found) ≡ 0
      slot_sends None = refl
      slot_sends (Some replica) = refl

      pub range_answered : FindsSo (length (leaves_in store.zones)) now later query.avoided range answer
          → Answered (ask.Resolve range)
      range_answered finds = record {
        true_then = subst (λ (t : Told). TrueOf (ask.Resolve range) t) (sym finds.told)
            (slot_true finds.found finds.resolved.first);
        handed = inr (finds.resolved.met.handed, ap answer_sent finds.told ∙ slot_sends finds.found);
        lengths = finds.resolved.met.notes;
        words = finds.resolved.met.hint_notes ∙ sym (append-nil now.hints.notes);
      }

    -- ---- leaves

    module _ (leaf : Leaf) where
      abbrev history : List Entry
      history = leaf_history later.seen leaf

      module _ (slots : List RangeSlot) (own : slots ≡ slots_at query) where
        abbrev Finds : Visit → Type 0
        Finds one = HasFoundSo setting.plan moment setting.limit slots store.buckets_of leaf one now later

        -- what was found is the whole that is seen then
        whole_is : (one : Visit) (found : Finds one) → found.history ≡ history
        whole_is one found = sym (append-nil found.history) ∙ sym found.called.whole

        found_so : (one : Visit) (found : Finds one) (cut : ℕ) (down : Bool) → cut ≡ length found.history
            → is_down found.history ≡ down
            → IsFoundSo (view_of store now) (view_of store later) leaf cut down
        found_so one found cut down counted is_so =
            let whole : cut ≡ length history = counted ∙ ap length (whole_is one found) in
            let long = begins_length history (leaf_history now.seen leaf)
            ((grown store now later goes).seen.leaves leaf) in
            record {
              between = record { from = omega (arith, long, whole); to = omega (arith, whole) };
              is = ap (λ (h : List Entry). is_down h) (at_whole history cut whole ∙ sym (whole_is one found)) ∙ is_so;
              whole = whole;
            }

        met_so : (one : Visit) (found : Finds one) (cut : ℕ) (met : Bool) → cut ≡ length found.history
            → is_plan_met setting.plan (history_buckets store.buckets_of found.history) ≡ met
            → truth.is_met_at store setting moment (view_of store later) leaf cut ≡ met
        met_so one found cut met counted e =
            ap (λ (h : List Entry). is_plan_met setting.plan (history_buckets store.buckets_of h))
            (at_whole history cut (counted ∙ ap length (whole_is one found)) ∙ sym (whole_is one found)) ∙ e

        part_so : (one : Visit) (found : Finds one) (cut : ℕ) (P : List Row → Type 0) → cut ≡ length found.history
            → P (slot_rows found.history slots) → P (slot_rows (take cut history) (slots_at query))
        part_so one found cut P counted h =
            subst (λ (some : List RangeSlot). P (slot_rows (take cut history) some)) own
            (subst (λ (some : List Entry). P (slot_rows some slots))
            (sym (at_whole history cut (counted ∙ ap length (whole_is one found)) ∙ sym (whole_is one found))) h)

        visit_true : (one : Visit) → Finds one
            → TrueOf (ask.Visit leaf) (visit_told one) × HandsOut now.handed (answer_sent (visit_told one)) later.handed
        visit_true (visit.Down cut) found = (
          found_so (visit.Down cut) found cut true found.is_so.whole found.is_so.is,
          inr (found.handed, refl),
        )
        visit_true (visit.Unread cut) found = (
          (
            found_so (visit.Unread cut) found cut false found.is_so.0.whole found.is_so.0.is,
            met_so (visit.Unread cut)
                found cut false found.is_so.0.whole found.is_so.1,
          ),
          inl found.handed,
        )
        visit_true (visit.Read cut part) found = (
          (
            found_so (visit.Read cut part) found cut false found.is_so.0.whole found.is_so.0.is,
            met_so (visit.Read cut part) found cut true found.is_so.0.whole found.is_so.1,
            part_so (visit.Read cut part) found cut
                (λ rows. IsLeafPart (typed_of setting) rows moment setting.limit part) found.is_so.0.whole found.is_so.2,
          ),
          inl found.handed,
        )
        visit_true (visit.Over load cut) found = (
          (
            found_so (visit.Over load cut) found cut false found.is_so.0.whole found.is_so.0.is,
            met_so (visit.Over load cut) found cut true found.is_so.0.whole found.is_so.1,
            part_so (visit.Over load cut) found cut
                (λ rows. IsOverLeaf (typed_of setting) rows moment setting.limit (record { load = load }))
                found.is_so.0.whole found.is_so.2,
          ),
          inl found.handed,
        )

      pub leaf_answered : ask_of setting query.stage ≡ ask.Visit leaf
          → LooksSo store setting.plan moment setting.limit (slots_of query.stage leaf) leaf now later answer
          → Answered (ask.Visit leaf)
      leaf_answered e looks =
          let own : slots_of query.stage leaf ≡ slots_at query = slots_same setting query.stage leaf e in
          let both = visit_true (slots_of query.stage leaf) own looks.found looks.is_so in
          record {
            true_then = subst (λ (t : Told). TrueOf (ask.Visit leaf) t) (sym looks.told) both.0;
            handed = subst (λ (t : Told). HandsOut now.handed (answer_sent t) later.handed) (sym looks.told) both.1;
            lengths = looks.is_so.called.notes
                ∙ ap (λ (h : List Entry). now.purse.notes ++ length_note leaf.0 (length h) ∷ [])
                (whole_is (slots_of query.stage leaf) own looks.found looks.is_so);
            words = looks.is_so.called.hint_notes ∙ sym (append-nil now.hints.notes);
          }
