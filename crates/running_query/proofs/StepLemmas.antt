-- A query that is told something true is on its way still, one event farther.
use Rattle.std.proofs.Common.{◌≡◌, ◌∙◌, ◌+◌, ℕ, ℤ, List, [], ◌∷◌, ◌++◌, refl, sym, ap, subst, append_assoc}
use Rattle.std.proofs.Common.{arith}
use Rattle.std.proofs.lemmas.List.{append-nil}
use Rattle.std.proofs.lemmas.List.Sums.{sum_by-append}
use Rattle.know.specs.Knowledge.{Knowledge}
use Rattle.mon_topo.specs.Settings.{Setting}
use Rattle.mon_topo.specs.Views.{IsViewWithin, View}
use Rattle.query_core.proofs.ToldAnswers.{all_there, may_be_told}
use Rattle.query_traces.specs.AskedPlaces.{IsThere}
use Rattle.query_core.specs.Machine.{Query, avoided_after, new_query, slots_at}
use Rattle.query_core.specs.Mixtures.{LeadsTo, MayBeTold}
use Rattle.query_core.specs.Program.{ask_of}
use Rattle.query_core.specs.SentTold.{answer_sent, sent_told}
use Rattle.query_core.specs.Sessions.{Event, IsLicensed, IsLicensedEvent, query_after, told_then}
use Rattle.query_traces.specs.TrueAnswers.{IsTrueAnswer}
use Rattle.query_core.specs.Sessions.{view_after}
use Rattle.query_traces.specs.Rounds.{QuerySetting}
use Rattle.query_traces.specs.declared.asks.Told.{Told}
use Rattle.raise_table.specs.Tables.{RaiseIdentity}
use Rattle.running_query.proofs.GoingLemmas.{goes_through, handed_more}
use Rattle.running_query.proofs.ViewLemmas.{grown}
use Rattle.running_query.specs.Asking.{IsAnswered, IsUnderWay}
use Rattle.running_query.specs.Looks.{GoesOn, view_of}
use Rattle.running_query.specs.Notes.{IsHanded, lengths_of, lengths_told, words_of, words_told}

module _ (store : Setting) (raise : RaiseIdentity) (setting : QuerySetting) (moment : ℤ) where
  abbrev Event' : Type 0
  Event' = Event store setting moment

  licensed_push : (before : View) (query : Query) (events : List Event') (event : Event')
      → IsLicensed store setting moment before query events
      → IsLicensedEvent store setting moment (view_after store setting moment before events)
      (query_after store setting moment query events) event
      → IsLicensed store setting moment before query (events ++ event ∷ [])
  licensed_push before query [] event h one = (one, tt)
  licensed_push before query (first ∷ events) event h one =
      (h.0, licensed_push first.view (told_then store setting moment query first) events event h.1 one)

  view_push : (before : View) (events : List Event') (event : Event')
      → view_after store setting moment before (events ++ event ∷ []) ≡ event.view
  view_push before [] event = refl
  view_push before (first ∷ events) event = view_push first.view events event

  query_push : (query : Query) (events : List Event') (event : Event')
      → query_after store setting moment query (events ++ event ∷ [])
      ≡ told_then store setting moment (query_after store setting moment query events) event
  query_push query [] event = refl
  query_push query (first ∷ events) event = query_push (told_then store setting moment query first) events event

  sent_push : (events : List Event') (event : Event')
      → sent_told store setting moment (events ++ event ∷ [])
      ≡ sent_told store setting moment events + answer_sent event.answer
  sent_push events event =
      let both = sum_by-append (λ (one : Event'). answer_sent one.answer) events (event ∷ []) in omega (arith, both)

  lengths_push : (query : Query) (events : List Event') (event : Event')
      → lengths_told store setting moment query (events ++ event ∷ [])
      ≡ lengths_told store setting moment query events
      ++ lengths_of store (ask_of setting (query_after store setting moment query events).stage) event.view
  lengths_push query [] event = append-nil (lengths_of store (ask_of setting query.stage) event.view)
  lengths_push query (first ∷ events) event =
      let own = lengths_of store (ask_of setting query.stage) first.view in
      let then = told_then store setting moment query first in
      ap (λ notes. own ++ notes) (lengths_push then events event)
      ∙ sym (append_assoc own (lengths_told store setting moment then events)
      (lengths_of store (ask_of setting (query_after store setting moment then events).stage) event.view))

  words_push : (query : Query) (events : List Event') (event : Event')
      → words_told store setting moment query (events ++ event ∷ [])
      ≡ words_told store setting moment query events
      ++ words_of (ask_of setting (query_after store setting moment query events).stage) event.answer
  words_push query [] event = append-nil (words_of (ask_of setting query.stage) event.answer)
  words_push query (first ∷ events) event =
      let own = words_of (ask_of setting query.stage) first.answer in
      let then = told_then store setting moment query first in
      ap (λ notes. own ++ notes) (words_push then events event)
      ∙ sym (append_assoc own (words_told store setting moment then events)
      (words_of (ask_of setting (query_after store setting moment then events).stage) event.answer))

  module _ (entry now : Knowledge) (query : Query) (is : IsUnderWay store raise setting moment entry now query) where
    abbrev first : View
    first = view_of store entry

    abbrev so_far : View
    so_far = view_after store setting moment first is.events

    abbrev reached : Query
    reached = query_after store setting moment (new_query setting) is.events

    -- what it asks of is there
    pub there : IsThere store.zones (ask_of setting query.stage)
    there =
        subst (λ (q : Query). IsThere store.zones (ask_of setting q.stage)) is.query_is
        (all_there store setting moment is.here.asked is.here.from first is.events is.here.sound is.licensed)

    module _ (later : Knowledge) (goes : GoesOn store now later) where
      grown_then : IsViewWithin so_far (view_of store later)
      grown_then =
          subst (λ (v : View). IsViewWithin v (view_of store later)) (sym is.now_is) (grown store now later goes)

      -- a true answer may be told
      pub may : (answer : Told)
          → IsTrueAnswer store setting moment (view_of store now) (view_of store later) query.avoided (slots_at query)
          (ask_of setting query.stage) answer
          → MayBeTold setting query.stage answer
      may answer true_then =
          subst (λ (q : Query). MayBeTold setting q.stage answer) is.query_is
          (may_be_told store setting moment is.here.asked is.here.from first is.events is.here.sound is.licensed
          (view_of store later) grown_then goes.sound answer
          (subst (λ (q : Query). IsTrueAnswer store setting moment so_far (view_of store later) q.avoided (slots_at q)
          (ask_of setting q.stage) answer) (sym is.query_is)
          (subst (λ (v : View). IsTrueAnswer store setting moment v (view_of store later) query.avoided
          (slots_at query) (ask_of setting query.stage) answer) (sym is.now_is) true_then)))

      -- and leads one event farther
      module _ (answer : Told)
          (answered : IsAnswered store setting moment now later query (ask_of setting query.stage) answer)
          (next : Query) (same : next.setting ≡ query.setting)
          (leads : LeadsTo setting query.stage answer next.stage)
          (avoids : next.avoided ≡ avoided_after query.avoided query.stage answer) where
        abbrev event : Event'
        event = record { answer = answer; view = view_of store later; stage = next.stage }

        one : IsLicensedEvent store setting moment (view_of store now) query event
        one = record {
          grown = grown store now later goes;
          sound = goes.sound;
          true_then = answered.true_then;
          goes_on = leads.settles;
        }

        one_there : IsLicensedEvent store setting moment so_far reached event
        one_there =
            subst (λ (q : Query). IsLicensedEvent store setting moment so_far q event) (sym is.query_is)
            (subst (λ (v : View). IsLicensedEvent store setting moment v query event) (sym is.now_is) one)

        next_is : told_then store setting moment query event ≡ next
        next_is i = record { setting = sym same i; avoided = sym avoids i; stage = next.stage }

        abbrev start : Query
        start = new_query setting

        noted_more : {N : Type 0} (before now_notes later_notes so_far_notes more all : List N)
            → now_notes ≡ before ++ so_far_notes → later_notes ≡ now_notes ++ more → all ≡ so_far_notes ++ more
            → later_notes ≡ before ++ all
        noted_more before now_notes later_notes so_far_notes more all e f h =
            f ∙ ap (λ notes. notes ++ more) e ∙ append_assoc before so_far_notes more
            ∙ ap (λ notes. before ++ notes) (sym h)

        pub told_on : IsUnderWay store raise setting moment entry later next
        told_on = record {
          here = is.here;
          goes = goes_through store entry now later is.goes goes;
          events = is.events ++ event ∷ [];
          licensed = licensed_push first (new_query setting) is.events event is.licensed one_there;
          now_is = view_push first is.events event;
          query_is = query_push (new_query setting) is.events event
              ∙ ap (λ (q : Query). told_then store setting moment q event) is.query_is ∙ next_is;
          handed = subst (λ (n : ℕ). IsHanded entry.handed n later.handed) (sym (sent_push is.events event))
              (handed_more entry.handed (sent_told store setting moment is.events) now.handed
              (answer_sent answer) later.handed is.handed answered.handed);
          lengths = noted_more entry.purse.notes now.purse.notes later.purse.notes
              (lengths_told store setting moment start is.events)
              (lengths_of store (ask_of setting query.stage) (view_of store later))
              (lengths_told store setting moment start (is.events ++ event ∷ [])) is.lengths answered.lengths
              (lengths_push start is.events event
              ∙ ap (λ (q : Query). lengths_told store setting moment start is.events
              ++ lengths_of store (ask_of setting q.stage) (view_of store later)) is.query_is);
          words = noted_more entry.hints.notes now.hints.notes later.hints.notes
              (words_told store setting moment start is.events)
              (words_of (ask_of setting query.stage) answer)
              (words_told store setting moment start (is.events ++ event ∷ [])) is.words answered.words
              (words_push start is.events event
              ∙ ap (λ (q : Query). words_told store setting moment start is.events
              ++ words_of (ask_of setting q.stage) answer) is.query_is);
        }
