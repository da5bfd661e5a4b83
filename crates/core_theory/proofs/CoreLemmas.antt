-- Queries beside writes and recoveries: each event of a query is licensed, and leaves what others rely on.
use Rattle.std.proofs.Common.{◌≡◌, ℕ, ℤ, Bool, true, false, ◌&&◌, List, [], ◌∷◌, ◌++◌, length, take, refl, sym, ap}
use Rattle.std.proofs.Common.{subst, ◌∙◌, arith}
use Rattle.std.specs.Prelude.{nat_eq, Option, Some, None}
use Rattle.mon_hints.proofs.CoverLemmas.{covers_more, joined_bits_first, joined_bits_within}
use Rattle.mon_hints.specs.Covers.{AreBitsWithin, Bits, joined_bits}
use Rattle.mon_hints.specs.Hints.{history_buckets}
use Rattle.mon_meaning.specs.LeafAnswers.{IsLeafPart, IsOverLeaf}
use Rattle.mon_topo.proofs.FrontLemmas.{begins_length}
use Rattle.mon_topo.specs.Settings.{zone_of_leaf}
use Rattle.mon_topo.specs.Settings.{Setting}
use Rattle.mon_value.specs.Histories.{leaf_numbered}
use Rattle.mon_value.specs.LeafHistories.{is_down}
use Rattle.mon_value.specs.declared.histories.Entry.{Entry}
use Rattle.mon_value.specs.declared.positions.Leaf.{Leaf}
use Rattle.mon_value.specs.declared.positions.Range.{Range}
use Rattle.mon_value.specs.declared.positions.RangeSlot.{RangeSlot}
use Rattle.mon_value.specs.declared.positions.SlotLeaf.{SlotLeaf}
use Rattle.query_core.specs.Machine.{Query, slots_at}
use Rattle.query_traces.specs.Rounds.{typed_of, QuerySetting}
use Rattle.plan_split.specs.Meeting.{is_plan_met}
use Rattle.query_core.specs.Sessions as session
use Rattle.query_traces.specs.TrueAnswers as truth
use Rattle.query_core.specs.Sessions.{IsLicensed, IsLicensedEvent, query_after, view_after}
use Rattle.query_traces.specs.TrueAnswers.{IsFoundSo, IsTrueAnswer}
use Rattle.mon_meaning.specs.ReadableSlots.{slot_rows}
use Rattle.mon_topo.specs.RangeHistories.{first_serving}
use Rattle.query_traces.specs.declared.asks.Ask.{Ask}
use Rattle.query_traces.specs.declared.asks.Ask.TheVariants as ask
use Rattle.query_traces.specs.declared.asks.Told.{Told}
use Rattle.query_traces.specs.declared.asks.Told.TheVariants as told
use Rattle.query_core.specs.declared.stages.Stage.{Stage}
use Rattle.write_core.proofs.KeepsLemmas.{changed_by}
use Rattle.write_core.proofs.KeptLemmas.{new_kept, part_stays, parts_join, run_kept}
use Rattle.write_core.proofs.ViewLemmas.{joined_first, joined_whole_leaf, joined_whole_range, within_itself}
use Rattle.write_core.specs.Events.{Resolves, Visits, after_event}
use Rattle.write_core.specs.Invariant.{IsKept}
use Rattle.mon_topo.specs.Views.{IsSound, IsViewWithin, View, joined_view, of_leaf, of_range}
use Rattle.write_core.specs.World.{IsPart, World}
use Rattle.core_theory.specs.Core.{CanCome, CanGoOn, Core, CoreEvent, Happens, Hears, IsLookedAt, IsTold, MayTell}
use Rattle.core_theory.specs.Core.{Reader, Tells, asked_now, begun_with, came, core_gone_on, query_now, root_word_bits}
use Rattle.core_theory.specs.Core.{told_on, view_then, view_told, with_bits, world_then, world_told}
use Rattle.core_theory.specs.Core.{zone_word_bits}
use Rattle.core_theory.specs.Licensed.{IsNewCore, IsNewReader, IsReader, IsWoven}

-- ---- a session with one event more

module _ (store : Setting) (setting : QuerySetting) (moment : ℤ) where
  abbrev Told' : Type 0
  Told' = session.Event store setting moment

  licensed_push : (before : View) (query : Query) (events : List Told') (event : Told')
      → IsLicensed store setting moment before query events
      → IsLicensedEvent store setting moment (view_after store setting moment before events)
      (query_after store setting moment query events) event
      → IsLicensed store setting moment before query (events ++ event ∷ [])
  licensed_push before query [] event h one = (one, tt)
  licensed_push before query (first ∷ events) event h one =
      (h.0, licensed_push first.view (session.told_then store setting moment query first) events event h.1 one)

  view_push : (before : View) (events : List Told') (event : Told')
      → view_after store setting moment before (events ++ event ∷ []) ≡ event.view
  view_push before [] event = refl
  view_push before (first ∷ events) event = view_push first.view events event

-- ---- what a query finds is true

both_true : (a b : Bool) → (a && b) ≡ true → b ≡ true
both_true true b e = e
both_true false b e = absurd cc

take_whole : {X : Type 0} (xs : List X) → take (length xs) xs ≡ xs
take_whole [] = refl
take_whole (x ∷ xs) = ap (λ rest. x ∷ rest) (take_whole xs)

module _ (store : Setting) (setting : QuerySetting) (moment : ℤ) (world : World) (view : View)
    (kept : IsKept store world) (part : IsPart store world view) where
  free_range : (avoided : List Leaf) (slots : List RangeSlot) (range : Range) (answer : Told)
      → IsTold store setting moment world view avoided slots (ask.Resolve range) answer
      → world.range_holder range.0 ≡ None
  free_range avoided slots range (told.Word word seen) h = absurd h
  free_range avoided slots range (told.Slot slot leaf) h = h.0
  free_range avoided slots range told.NoSlot h = h.0
  free_range avoided slots range (told.Down cut) h = absurd h
  free_range avoided slots range (told.Unread cut) h = absurd h
  free_range avoided slots range (told.Read cut part) h = absurd h
  free_range avoided slots range (told.Over load cut) h = absurd h

  free_leaf : (avoided : List Leaf) (slots : List RangeSlot) (leaf : Leaf) (answer : Told)
      → IsTold store setting moment world view avoided slots (ask.Visit leaf) answer
      → world.leaf_holder leaf.0 ≡ None
  free_leaf avoided slots leaf (told.Word word seen) h = absurd h
  free_leaf avoided slots leaf (told.Slot slot other) h = absurd h
  free_leaf avoided slots leaf told.NoSlot h = absurd h
  free_leaf avoided slots leaf (told.Down cut) h = h.free
  free_leaf avoided slots leaf (told.Unread cut) h = h.0.free
  free_leaf avoided slots leaf (told.Read cut part) h = h.0.free
  free_leaf avoided slots leaf (told.Over load cut) h = h.0.free

  -- what is left behind, and what the query's caller has seen and knows then
  pub record Goes (after : World) (now : View) : Type 0 where
    pub kept_then : IsKept store after
    pub stays : (other : View) → IsPart store world other → IsPart store after other
    pub part_then : IsPart store after now
    pub grown : IsViewWithin view now

  more_known : (bits : Bits) → AreBitsWithin bits world.truth.bits
      → Goes world (with_bits store setting moment world view bits)
  more_known bits within = record {
    kept_then = kept;
    stays = λ other h. h;
    part_then = record {
      sound = record {
        held = part.sound.held;
        covered = λ leaf. covers_more view.bits (joined_bits view.bits bits) (zone_of_leaf store leaf) leaf
            (history_buckets store.buckets_of (of_leaf view leaf)) (joined_bits_first view.bits bits)
            (part.sound.covered leaf);
      };
      within = record {
        seen = part.within.seen;
        bits = joined_bits_within view.bits bits world.truth.bits part.within.bits within;
      };
    };
    grown = record { seen = (within_itself view).seen; bits = joined_bits_first view.bits bits };
  }

  at_range : (range : Range) → world.range_holder range.0 ≡ None
      → Goes (world_then store setting moment world view (ask.Resolve range)) (joined_view view (world.ranges range.0))
  at_range range free =
      let event = Resolves range view in
      record {
        kept_then = run_kept store world (event ∷ []) ((free, part), tt) kept;
        stays = λ other h. part_stays store world (event ∷ []) other ((free, part), tt) kept h;
        part_then =
            part_stays store world (event ∷ []) (joined_view view (world.ranges range.0)) ((free, part), tt) kept
            (parts_join store world view (world.ranges range.0) part (kept.ranges range));
        grown = joined_first view (world.ranges range.0) world.truth part.within (kept.ranges range).within;
      }

  pub at_leaf : (leaf : Leaf) → world.leaf_holder leaf.0 ≡ None
      → Goes (world_then store setting moment world view (ask.Visit leaf)) (joined_view view (world.leaves leaf.0))
  at_leaf leaf free =
      let event = Visits leaf view in
      record {
        kept_then = run_kept store world (event ∷ []) ((free, part), tt) kept;
        stays = λ other h. part_stays store world (event ∷ []) other ((free, part), tt) kept h;
        part_then = part_stays store world (event ∷ []) (joined_view view (world.leaves leaf.0)) ((free, part), tt) kept
            (parts_join store world view (world.leaves leaf.0) part (kept.leaves leaf));
        grown = joined_first view (world.leaves leaf.0) world.truth part.within (kept.leaves leaf).within;
      }

  pub goes : (avoided : List Leaf) (slots : List RangeSlot) (asked : Ask) (answer : Told)
      → IsTold store setting moment world view avoided slots asked answer
      → Goes (world_then store setting moment world view asked) (view_then store setting moment world view asked)
  goes avoided slots (ask.LoadRoot bucket) answer h = more_known (root_word_bits store setting moment world view
      bucket) (record {
        root = λ zone b e. both_true (nat_eq b bucket) (world.truth.bits.root zone b) e;
        zone = λ leaf b e. absurd cc;
      })
  goes avoided slots (ask.LoadZone zone bucket) answer h = more_known (zone_word_bits store setting moment world view
      zone bucket) (record {
        root = λ z b e. absurd cc;
        zone = λ leaf b e. both_true (nat_eq b bucket && nat_eq (zone_of_leaf store (leaf_numbered leaf)).0 zone.0)
            (world.truth.bits.zone leaf b) e;
      })
  goes avoided slots (ask.Resolve range) answer h = at_range range (free_range avoided slots range answer h)
  goes avoided slots (ask.Visit leaf) answer h = at_leaf leaf (free_leaf avoided slots leaf answer h)
  goes avoided slots ask.Finished answer h = record {
    kept_then = kept;
    stays = λ other k. k;
    part_then = part;
    grown = within_itself view;
  }

  -- ---- ranges

  module _ (range : Range) where
    abbrev after_range : View
    after_range = joined_view view (world.ranges range.0)

    whole_range : of_range after_range range ≡ of_range world.truth range
    whole_range = joined_whole_range view (world.ranges range.0) world.truth part.within (kept.ranges range).within
        range
        (kept.whole_ranges range)

    resolved_so : (avoided : List Leaf) (found : Option SlotLeaf)
        → first_serving avoided (of_range world.truth range) ≡ found
        → truth.IsResolvedSo view after_range avoided range found
    resolved_so avoided found e =
        let grown = joined_first view (world.ranges range.0) world.truth part.within (kept.ranges range).within in
        record {
          found = length (of_range after_range range);
          between = record {
            from = begins_length (of_range after_range range) (of_range view range) (grown.seen.ranges range);
            to = omega arith;
          };
          first = ap (first_serving avoided) (take_whole (of_range after_range range) ∙ whole_range) ∙ e;
          whole = refl;
        }

  -- ---- leaves

  module _ (leaf : Leaf) (cut : ℕ) (down : Bool) (looked : IsLookedAt world leaf cut down) where
    abbrev after_leaf : View
    after_leaf = joined_view view (world.leaves leaf.0)

    whole_leaf : of_leaf after_leaf leaf ≡ of_leaf world.truth leaf
    whole_leaf = joined_whole_leaf view (world.leaves leaf.0) world.truth part.within (kept.leaves leaf).within leaf
        (kept.whole_leaves leaf)

    cut_is : cut ≡ length (of_leaf after_leaf leaf)
    cut_is = looked.whole ∙ ap length (sym whole_leaf)

    -- all of it is looked at
    pub all_looked : take cut (of_leaf after_leaf leaf) ≡ of_leaf world.truth leaf
    all_looked =
        ap (λ n. take n (of_leaf after_leaf leaf)) cut_is ∙ take_whole (of_leaf after_leaf leaf) ∙ whole_leaf

    pub found_so : IsFoundSo view after_leaf leaf cut down
    found_so =
        let grown = joined_first view (world.leaves leaf.0) world.truth part.within (kept.leaves leaf).within in
        let least = begins_length (of_leaf after_leaf leaf) (of_leaf view leaf) (grown.seen.leaves leaf) in
        record {
          between = record { from = omega (arith, least, cut_is); to = omega (arith, cut_is) };
          is = ap is_down all_looked ∙ looked.is;
          whole = cut_is;
        }

    met_so : (b : Bool) → is_plan_met setting.plan (history_buckets store.buckets_of (of_leaf world.truth leaf)) ≡ b
        → truth.is_met_at store setting moment after_leaf leaf cut ≡ b
    met_so b e = ap (λ history. is_plan_met setting.plan (history_buckets store.buckets_of history)) all_looked ∙ e

    on_rows : (P : List Entry → Type 0) → P (of_leaf world.truth leaf) → P (take cut (of_leaf after_leaf leaf))
    on_rows P h = subst P (sym all_looked) h

  -- each answer is true of what is seen then
  pub true_told : (avoided : List Leaf) (slots : List RangeSlot) (asked : Ask) (answer : Told)
      → IsTold store setting moment world view avoided slots asked answer
      → IsTrueAnswer store setting moment view (view_then store setting moment world view asked)
      avoided
      slots asked answer
  true_told avoided slots (ask.LoadRoot bucket) (told.Word word seen) h = record {
    known = λ zone e. h.0.bits zone ∙ part.within.bits.root zone bucket e;
    seen_so = h.1;
  }
  true_told avoided slots (ask.LoadRoot bucket) (told.Slot slot leaf) h = absurd h
  true_told avoided slots (ask.LoadRoot bucket) told.NoSlot h = absurd h
  true_told avoided slots (ask.LoadRoot bucket) (told.Down cut) h = absurd h
  true_told avoided slots (ask.LoadRoot bucket) (told.Unread cut) h = absurd h
  true_told avoided slots (ask.LoadRoot bucket) (told.Read cut part') h = absurd h
  true_told avoided slots (ask.LoadRoot bucket) (told.Over load cut) h = absurd h
  true_told avoided slots (ask.LoadZone zone bucket) (told.Word word seen) h = record {
    known = λ one there e. h.0.bits one there ∙ part.within.bits.zone one.0 bucket e;
    seen_so = h.1;
  }
  true_told avoided slots (ask.LoadZone zone bucket) (told.Slot slot leaf) h = absurd h
  true_told avoided slots (ask.LoadZone zone bucket) told.NoSlot h = absurd h
  true_told avoided slots (ask.LoadZone zone bucket) (told.Down cut) h = absurd h
  true_told avoided slots (ask.LoadZone zone bucket) (told.Unread cut) h = absurd h
  true_told avoided slots (ask.LoadZone zone bucket) (told.Read cut part') h = absurd h
  true_told avoided slots (ask.LoadZone zone bucket) (told.Over load cut) h = absurd h
  true_told avoided slots (ask.Resolve range) (told.Word word seen) h = absurd h
  true_told avoided slots (ask.Resolve range) (told.Slot slot leaf) h =
      resolved_so range avoided (Some (record { slot = slot; leaf = leaf })) h.1
  true_told avoided slots (ask.Resolve range) told.NoSlot h = resolved_so range avoided None h.1
  true_told avoided slots (ask.Resolve range) (told.Down cut) h = absurd h
  true_told avoided slots (ask.Resolve range) (told.Unread cut) h = absurd h
  true_told avoided slots (ask.Resolve range) (told.Read cut part') h = absurd h
  true_told avoided slots (ask.Resolve range) (told.Over load cut) h = absurd h
  true_told avoided slots (ask.Visit at) (told.Word word seen) h = absurd h
  true_told avoided slots (ask.Visit at) (told.Slot slot leaf) h = absurd h
  true_told avoided slots (ask.Visit at) told.NoSlot h = absurd h
  true_told avoided slots (ask.Visit at) (told.Down cut) h = found_so at cut true h
  true_told avoided slots (ask.Visit at) (told.Unread cut) h =
      (found_so at cut false h.0, met_so at cut false h.0 false h.1)
  true_told avoided slots (ask.Visit at) (told.Read cut part') h = (
    found_so at cut false h.0,
    met_so at cut false h.0 true h.1,
    on_rows at cut false h.0
        (λ history. IsLeafPart (typed_of setting) (slot_rows history slots) moment setting.limit part') h.2,
  )
  true_told avoided slots (ask.Visit at) (told.Over load cut) h = (
    found_so at cut false h.0,
    met_so at cut false h.0 true h.1,
    on_rows at cut false h.0
        (λ history. IsOverLeaf (typed_of setting) (slot_rows history slots) moment setting.limit
        (record { load = load }))
        h.2,
  )
  true_told avoided slots ask.Finished (told.Word word seen) h = absurd h
  true_told avoided slots ask.Finished (told.Slot slot leaf) h = absurd h
  true_told avoided slots ask.Finished told.NoSlot h = absurd h
  true_told avoided slots ask.Finished (told.Down cut) h = absurd h
  true_told avoided slots ask.Finished (told.Unread cut) h = absurd h
  true_told avoided slots ask.Finished (told.Read cut part') h = absurd h
  true_told avoided slots ask.Finished (told.Over load cut) h = absurd h

-- ---- each reader

pub sound_so : (store : Setting) (world : World) (view : View) → IsPart store world view → IsSound store view
sound_so store world view part = part.sound

module _ (store : Setting) (world : World) (reader : Reader store) (kept : IsKept store world)
    (own : IsReader store world reader) (answer : Told) (stage : Stage) (may : MayTell store world reader answer stage)
  where
    abbrev query : Query
    query = query_now store reader

    abbrev next : View
    next = view_told store world reader

    went : Goes store reader.setting reader.moment world reader.view kept own.part (world_told store world reader) next
    went = goes store reader.setting reader.moment world reader.view kept own.part query.avoided (slots_at query)
        (asked_now store reader) answer may.0

    event_licensed : IsLicensedEvent store reader.setting reader.moment reader.view query
        (record { answer = answer; view = next; stage = stage })
    event_licensed = record {
      grown = went.grown;
      sound = went.part_then.sound;
      true_then = true_told store reader.setting reader.moment world reader.view kept own.part query.avoided
          (slots_at query)
          (asked_now store reader) answer may.0;
      goes_on = may.1;
    }

    reader_told : IsReader store (world_told store world reader) (told_on store reader answer next stage)
    reader_told = record {
      part = went.part_then;
      sound = own.sound;
      licensed = licensed_push store reader.setting reader.moment reader.begin reader.first reader.session
          (record { answer = answer; view = next; stage = stage }) own.licensed
          (subst (λ (before : View). IsLicensedEvent store reader.setting reader.moment before query
          (record { answer = answer; view = next; stage = stage })) (sym own.now) event_licensed);
      now = view_push store reader.setting reader.moment reader.begin reader.session
          (record { answer = answer; view = next; stage = stage });
    }

reader_stays : (store : Setting) (before after : World) (reader : Reader store)
    → ((other : View) → IsPart store before other → IsPart store after other) → IsReader store before reader
    → IsReader store after reader
reader_stays store before after reader stays h = record {
  part = stays reader.view h.part;
  sound = h.sound;
  licensed = h.licensed;
  now = h.now;
}

-- ---- each event

came_woven : (store : Setting) (core : Core store) (event : CoreEvent store) → CanCome store core event
    → IsWoven store core
    → IsWoven store (came store core event)
came_woven store core (Happens event) can woven = record {
  world = run_kept store core.world (event ∷ []) (can, tt) woven.world;
  readers = λ i. reader_stays store core.world (after_event store core.world event) (core.readers i)
      (λ other h. part_stays store core.world (event ∷ []) other (can, tt) woven.world h) (woven.readers i);
}
came_woven store core (Tells i answer stage) can woven =
    let reader = core.readers i in
    let went' = went store core.world reader woven.world (woven.readers i) answer stage can in
    record {
      world = went'.kept_then;
      readers = changed_by core.readers i (told_on store reader answer (view_told store core.world reader) stage)
          (λ j one. IsReader store (world_told store core.world reader) one)
          (reader_told store core.world reader woven.world (woven.readers i) answer stage can)
          (λ j apart. reader_stays store core.world (world_told store core.world reader) (core.readers j) went'.stays
          (woven.readers j));
    }
came_woven store core (Hears i view) can woven =
    let reader = core.readers i in
    record {
      world = woven.world;
      readers = changed_by core.readers i (begun_with store reader (joined_view reader.view view))
          (λ j one. IsReader store core.world one)
          (record {
            part = parts_join store core.world reader.view view (woven.readers i).part can.1;
            sound = sound_so store core.world (joined_view reader.view view)
                (parts_join store core.world reader.view view (woven.readers i).part can.1);
            licensed = tt;
            now = refl;
          })
          (λ j apart. woven.readers j);
    }

pub stays_woven : (store : Setting) (core : Core store) (events : List (CoreEvent store)) → CanGoOn store core events
    → IsWoven store core → IsWoven store (core_gone_on store core events)
stays_woven store core [] can woven = woven
stays_woven store core (event ∷ events) can woven =
    stays_woven store (came store core event) events can.1 (came_woven store core event can.0 woven)

-- ---- the beginning

pub new_woven : (store : Setting) (core : Core store) → IsNewCore store core → IsWoven store core
new_woven store core new = record {
  world = new_kept store core.world new.world;
  readers = λ i. new_reader (core.readers i) (new.readers i);
}
  where
    new_reader : (reader : Reader store) → IsNewReader store core.world reader → IsReader store core.world reader
    new_reader reader h = record {
      part = subst (λ (view : View). IsPart store core.world view) (sym h.view)
          (record { sound = new.world.sound; within = within_itself core.world.truth });
      sound = subst (λ (view : View). IsSound store view) (sym h.begin)
          (sound_so store core.world core.world.truth
          (record { sound = new.world.sound; within = within_itself core.world.truth }));
      licensed = subst (λ (events : List (session.Event store reader.setting reader.moment)).
          IsLicensed store reader.setting reader.moment reader.begin reader.first events) (sym h.session) tt;
      now = ap (view_after store reader.setting reader.moment reader.begin) h.session
          ∙ h.begin ∙ sym h.view;
    }
