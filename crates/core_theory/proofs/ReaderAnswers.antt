-- What a query of the core is told may be told to its machine, and at a visit its slots can be read.
use Rattle.std.proofs.Common.{◌≡◌, ◌∙◌, ◌≤ℤ◌, ℕ, Bool, pos, List, length, take, refl, sym, ap, subst}
use Rattle.std.specs.Prelude.{None}
use Rattle.mon_value.specs.Histories.{leaf_history}
use Rattle.mon_topo.specs.Settings.{Setting}
use Rattle.mon_value.specs.LeafHistories.{is_down}
use Rattle.mon_value.specs.declared.histories.Entry.{Entry}
use Rattle.mon_value.specs.declared.positions.Leaf.{Leaf}
use Rattle.query_core.proofs.ToldAnswers.{all_there, can_read, may_be_told}
use Rattle.query_traces.specs.AskedPlaces.{IsThere}
use Rattle.query_traces.specs.Askings.{IsAskedOf}
use Rattle.query_core.specs.Machine.{Query, new_query, slots_at}
use Rattle.query_core.specs.Mixtures.{MayBeTold}
use Rattle.query_traces.specs.Rounds.{typed_of}
use Rattle.query_core.specs.Program.{ask_of}
use Rattle.mon_meaning.specs.ReadableSlots.{CanBeRead}
use Rattle.query_traces.specs.Traces.{IsBetween}
use Rattle.query_core.specs.Sessions.{IsLicensed, query_after, view_after}
use Rattle.query_traces.specs.TrueAnswers.{IsTrueAnswer}
use Rattle.mon_topo.specs.Views.{IsSound, IsViewWithin, View, joined_view, of_leaf}
use Rattle.query_traces.specs.declared.asks.Ask.TheVariants as ask
use Rattle.query_traces.specs.declared.asks.Told.{Told}
use Rattle.core_theory.proofs.CoreLemmas.{all_looked, at_leaf, found_so, goes, sound_so, true_told}
use Rattle.core_theory.proofs.ReaderLemmas.{as_new}
use Rattle.core_theory.specs.Core.{IsLookedAt, IsTold, Reader, asked_now, query_now, view_told, world_told}
use Rattle.core_theory.specs.Licensed.{IsReader}
use Rattle.write_core.specs.Invariant.{IsKept}
use Rattle.write_core.specs.World.{World}

module _ (store : Setting) (world : World) (reader : Reader store) (kept : IsKept store world)
    (own : IsReader store world reader) (new : reader.first ≡ new_query reader.setting)
    (asked : IsAskedOf store reader.setting) (from : pos 0 ≤ℤ reader.moment) where
  abbrev query : Query
  query = query_now store reader

  -- the same, as the session of a new query
  abbrev from_new : Query
  from_new = query_after store reader.setting reader.moment (new_query reader.setting) reader.session

  abbrev seen_then : View
  seen_then = view_after store reader.setting reader.moment reader.begin reader.session

  licensed : IsLicensed store reader.setting reader.moment reader.begin (new_query reader.setting)
      reader.session
  licensed = as_new store world reader own new

  same_query : from_new ≡ query_now store reader
  same_query =
      ap (λ (first : Query). query_after store reader.setting reader.moment first reader.session) (sym new)

  pub reader_there : IsThere store.zones (asked_now store reader)
  reader_there =
      subst (λ (one : Query). IsThere store.zones (ask_of reader.setting one.stage)) same_query
      (all_there store reader.setting reader.moment asked from reader.begin reader.session own.sound licensed)

  module _ (later : View) (grown : IsViewWithin reader.view later) (sound : IsSound store later) where
    grown_then : IsViewWithin seen_then later
    grown_then = subst (λ (view : View). IsViewWithin view later) (sym own.now) grown

    true_then : (answer : Told) → IsTrueAnswer store reader.setting reader.moment reader.view later
        query.avoided
        (slots_at query) (asked_now store reader) answer
        → IsTrueAnswer store reader.setting reader.moment seen_then later from_new.avoided (slots_at from_new)
        (ask_of reader.setting from_new.stage) answer
    true_then answer is =
        subst (λ (view : View). IsTrueAnswer store reader.setting reader.moment view later from_new.avoided
        (slots_at from_new) (ask_of reader.setting from_new.stage) answer) (sym own.now)
        (subst (λ (one : Query). IsTrueAnswer store reader.setting reader.moment reader.view later one.avoided
        (slots_at one) (ask_of reader.setting one.stage) answer) (sym same_query) is)

    may_told : (answer : Told) → IsTrueAnswer store reader.setting reader.moment reader.view later
        query.avoided
        (slots_at query) (asked_now store reader) answer → MayBeTold reader.setting query.stage answer
    may_told answer is =
        subst (λ (one : Query). MayBeTold reader.setting one.stage answer) same_query
        (may_be_told store reader.setting reader.moment asked from reader.begin reader.session own.sound
        licensed
        later grown_then sound answer (true_then answer is))

  -- an answer of the core
  pub reader_may : (answer : Told) → IsTold store reader.setting reader.moment world reader.view query.avoided
      (slots_at query) (asked_now store reader) answer → MayBeTold reader.setting query.stage answer
  reader_may answer told =
      let went = goes store reader.setting reader.moment world reader.view kept own.part query.avoided (slots_at query)
      (asked_now store reader) answer told in
      may_told ((view_told store world reader)) (record { seen = went.grown.seen; bits = went.grown.bits })
      (sound_so store (world_told store world reader) (view_told store world reader) went.part_then) answer
      (true_told store reader.setting reader.moment world reader.view kept own.part query.avoided (slots_at query)
      (asked_now store reader) answer told)

  -- a leaf that nobody holds is read at the whole of its history
  module _ (leaf : Leaf) (asks : asked_now store reader ≡ ask.Visit leaf) (free : world.leaf_holder leaf.0 ≡ None) where
    abbrev cut : ℕ
    cut = length (of_leaf world.truth leaf)

    abbrev down : Bool
    down = is_down (of_leaf world.truth leaf)

    looked : IsLookedAt world leaf cut down
    looked = record { free = free; whole = refl; is = refl }

    abbrev after : View
    after = joined_view reader.view (world.leaves leaf.0)

    read_then : CanBeRead (typed_of reader.setting) (take cut (of_leaf after leaf)) (slots_at from_new)
    read_then =
        let went = at_leaf store reader.setting reader.moment world reader.view kept own.part leaf free in
        let found = found_so store reader.setting reader.moment world reader.view kept own.part leaf cut down looked in
        can_read store reader.setting reader.moment asked from reader.begin reader.session own.sound licensed
        after
        (grown_then after (record { seen = went.grown.seen; bits = went.grown.bits })
        (sound_so store _ after went.part_then))
        (sound_so store _ after went.part_then) leaf cut
        (subst (λ (view : View). IsBetween (length (leaf_history view.seen leaf)) (length (of_leaf after leaf))
        cut)
        (sym own.now) found.between)
        (ap (λ (one : Query). ask_of reader.setting one.stage) same_query ∙ asks)

    pub reader_reads : CanBeRead (typed_of reader.setting) (of_leaf world.truth leaf) (slots_at query)
    reader_reads =
        subst (λ (one : Query). CanBeRead (typed_of reader.setting) (of_leaf world.truth leaf) (slots_at one))
        same_query
        (subst (λ (history : List Entry). CanBeRead (typed_of reader.setting) history (slots_at from_new))
        (all_looked store reader.setting reader.moment world reader.view kept own.part leaf cut down looked) read_then)
