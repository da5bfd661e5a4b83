-- How a query begins, and how it ends.
use Rattle.std.proofs.Common.{◌≡◌, ◌∙◌, ◌<◌, ◌≤ℤ◌, inl, inr, ℕ, ℤ, true, pos, List, [], ◌∷◌, ◌++◌, refl, sym, ap}
use Rattle.std.proofs.Common.{subst, arith, Ok, Err, None, append_assoc, length}
use Rattle.std.specs.Prelude.{Result}
use Rattle.std.specs.List.{AllByRecursion as All, Contains, sum}
use Rattle.std.proofs.lemmas.List.{append-nil}
use Rattle.history_book.specs.Seats.{length_note}
use Rattle.history_book.specs.declared.views.LengthNote.{LengthNote}
use Rattle.know.specs.Knowledge.{Knowledge}
use Rattle.mon_topo.proofs.HeldLemmas.{seen_within_itself}
use Rattle.mon_topo.proofs.RangeHistoryLemmas.{all_at, all_on}
use Rattle.mon_topo.specs.HeldHistories.{AreWithin}
use Rattle.mon_topo.specs.RangeHistories.{serving, first_serving, is_avoided}
use Rattle.mon_topo.specs.Settings.{Setting}
use Rattle.mon_topo.specs.Views.{IsSound, View}
use Rattle.mon_value.specs.Histories.{range_history}
use Rattle.mon_value.specs.declared.histories.Histories.{Histories}
use Rattle.mon_value.specs.declared.positions.FoundDown.{FoundDown}
use Rattle.mon_value.specs.declared.positions.Leaf.{Leaf}
use Rattle.mon_value.specs.declared.positions.Range.{Range}
use Rattle.mon_value.specs.declared.positions.SlotLeaf.{SlotLeaf}
use Rattle.query_core.proofs.NamedDowns.{named_so, names_all, serve_on_named}
use Rattle.query_traces.specs.Askings.{IsAskedOf}
use Rattle.query_traces.specs.Answers.{IsAnsweredRightly, IsStoppedRightly}
use Rattle.query_traces.specs.Founds.{HasNoReplica}
use Rattle.query_core.specs.Machine.{EndsSo, Query, new_query}
use Rattle.query_core.specs.Orders.{ComeInOrder, ComeWholeInOrder, events_told, words_loaded}
use Rattle.query_core.specs.Program.{ask_of}
use Rattle.query_core.specs.SentTold.{sent_told}
use Rattle.query_core.specs.Sessions as session
use Rattle.query_traces.specs.Rounds.{QuerySetting}
use Rattle.query_core.specs.ToldDowns.{EndNames, NamesAll, downs_told}
use Rattle.query_traces.specs.Traces.{found_leaves}
use Rattle.query_traces.specs.declared.answers.Answer.{Answer}
use Rattle.query_traces.specs.declared.answers.RoundFault.{RoundFault}
use Rattle.query_traces.specs.declared.answers.RoundFault.TheVariants as fault
use Rattle.query_traces.specs.declared.answers.Trace.{Trace}
use Rattle.query_traces.specs.declared.asks.Ask.{Ask}
use Rattle.query_traces.specs.declared.asks.Ask.TheVariants as ask
use Rattle.query_core.specs.declared.stages.Stage.{Stage}
use Rattle.query_core.specs.declared.stages.Stage.TheVariants as at
use Rattle.raise_table.specs.Tables.{RaiseIdentity}
use Rattle.running_query.proofs.FoundLemmas.{IsNotedDown, avoided_told, downs_are_noted, each_noted, seen_since}
use Rattle.running_query.proofs.GoingLemmas.{same_goes}
use Rattle.running_query.proofs.LastLemmas.{all_avoided, last_without}
use Rattle.running_query.proofs.OrderLemmas.{bits_loaded, noted_as}
use Rattle.running_query.specs.Asking.{IsAskedHere, IsUnderWay}
use Rattle.running_query.specs.Ends.{EndsRightly, IsLeftWithout, NamesAllFound}
use Rattle.running_query.specs.Ends.{WasFoundDown, WereFoundDown}
use Rattle.running_query.specs.InOrder.{ComeSo, LooksInOrder}
use Rattle.running_query.specs.Looks.{view_of}
use Rattle.running_query.specs.Notes.{IsHanded, lengths_told, range_number, words_told}

module _ (store : Setting) (raise : RaiseIdentity) (setting : QuerySetting) (moment : ℤ) (entry : Knowledge)
    (here : IsAskedHere store raise setting moment entry) where
  -- a query that has not begun is on its way
  pub begun : (query : Query) → query ≡ new_query setting → IsUnderWay store raise setting moment entry entry query
  begun query new = record {
    here = here;
    goes = same_goes store entry here.sound;
    events = [];
    licensed = tt;
    now_is = refl;
    query_is = sym new;
    handed = inl (omega arith);
    lengths = sym (append-nil entry.purse.notes);
    words = sym (append-nil entry.hints.notes);
  }

-- what is said of sessions and of how they end
module _ (store : Setting) (setting : QuerySetting) (moment : ℤ) where
  abbrev Session : Type 0
  Session = List (session.Event store setting moment)

  abbrev Ends : View → Session → Result Answer RoundFault → Type 0
  Ends view events end = session.IsLicensed store setting moment view (new_query setting) events
      × ((session.query_after store setting moment (new_query setting) events).stage ≡ at.Ended end)

  pub record AreEndsRight : Type 0 where
    pub answered : (view : View) (events : Session) (answer : Answer) → IsAskedOf store setting → pos 0 ≤ℤ moment
        → IsSound store view → Ends view events (Ok answer)
        → IsAnsweredRightly store setting moment view.seen
        (session.view_after store setting moment view events).seen answer
    pub stopped : (view : View) (events : Session) (limit : ℕ) (trace : Trace) → IsAskedOf store setting
        → pos 0 ≤ℤ moment → IsSound store view → Ends view events (Err (fault.StepLimit limit trace))
        → IsStoppedRightly store setting moment view.seen
        (session.view_after store setting moment view events).seen limit trace
    pub no_replica : (view : View) (events : Session) (range : Range) (named : List FoundDown)
        → IsAskedOf store setting → pos 0 ≤ℤ moment → IsSound store view
        → Ends view events (Err (fault.NoReplica range named))
        → HasNoReplica store.zones view.seen (session.view_after store setting moment view events).seen range named
    pub named_told : (view : View) (events : Session) (end : Result Answer RoundFault) → Ends view events end
        → EndNames (Contains (downs_told store setting moment (new_query setting) events)) end
    pub counted : (view : View) (events : Session) (answer : Answer) → IsAskedOf store setting → pos 0 ≤ℤ moment
        → IsSound store view → Ends view events (Ok answer) → answer.trace.down ≡ []
        → sum answer.trace.sent ≡ sent_told store setting moment events
    pub ordered : (view : View) (events : Session) → 0 < length setting.plan.buckets
        → session.IsLicensed store setting moment view (new_query setting) events
        → ComeInOrder setting (words_loaded store setting moment events)
        (events_told store setting moment (new_query setting) events)
    pub whole : (view : View) (events : Session) (answer : Answer) → 0 < length setting.plan.buckets
        → Ends view events (Ok answer)
        → ComeWholeInOrder setting (words_loaded store setting moment events)
        (events_told store setting moment (new_query setting) events)

abbrev FirstNone : Range → List Leaf → Histories → Type 0
FirstNone range avoided seen = first_serving avoided (range_history seen range) ≡ None

module _ (store : Setting) (raise : RaiseIdentity) (setting : QuerySetting) (moment : ℤ) (entry now : Knowledge)
    (query : Query) (is : IsUnderWay store raise setting moment entry now query)
    (laws : AreEndsRight store setting moment) where
  abbrev first : View
  first = view_of store entry

  abbrev downs : List FoundDown
  downs = downs_told store setting moment (new_query setting) is.events

  abbrev noted : List LengthNote
  noted = lengths_told store setting moment (new_query setting) is.events

  ended_at : (end : Result Answer RoundFault) → query.stage ≡ at.Ended end
      → (session.query_after store setting moment (new_query setting) is.events).stage ≡ at.Ended end
  ended_at end e = ap (λ (q : Query). q.stage) is.query_is ∙ e

  now_by : (P : Histories → Type 0) → P (session.view_after store setting moment first is.events).seen → P now.seen
  now_by P h = subst (λ (v : View). P v.seen) is.now_is h

  -- ---- the leaves that were found down

  all_noted : All (IsNotedDown noted entry.seen now.seen) downs
  all_noted =
      now_by (λ seen. All (IsNotedDown noted entry.seen seen) downs)
      (each_noted store setting moment entry.seen is.events first (new_query setting) (seen_within_itself entry.seen)
      is.licensed)

  was_found : (found : FoundDown) → IsNotedDown noted entry.seen now.seen found
      → WasFoundDown entry now found.leaf found.cut
  was_found found one = record {
    more = noted;
    notes = is.lengths;
    noted = one.noted;
    from = one.from;
    down = one.down;
  }

  all_found : All (λ (found : FoundDown). WasFoundDown entry now found.leaf found.cut) downs
  all_found =
      all_on (IsNotedDown noted entry.seen now.seen)
      (λ (found : FoundDown). WasFoundDown entry now found.leaf found.cut) was_found downs all_noted

  among_found : (founds : List FoundDown) → All (Contains downs) founds → WereFoundDown entry now founds
  among_found founds all =
      all_on (Contains downs) (λ (found : FoundDown). WasFoundDown entry now found.leaf found.cut)
      (λ found there. all_at (λ (one : FoundDown). WasFoundDown entry now one.leaf one.cut) downs found all_found there)
      founds all

  -- ---- all of them

  since : AreWithin entry.seen now.seen
  since = now_by (λ seen. AreWithin entry.seen seen) (seen_since store setting moment is.events first (new_query setting)
      is.licensed)

  all_named : (end : Result Answer RoundFault) → query.stage ≡ at.Ended end → NamesAllFound store entry now end
  all_named end e = record {
    more = noted;
    notes = is.lengths;
    named = subst (λ (founds : List FoundDown). NamesAll store.zones founds end)
        (sym (downs_are_noted store setting moment now.seen is.goes.sound.held.all_leaves is.events first
        (new_query setting) is.licensed (subst (λ (v : View). AreWithin v.seen now.seen) (sym is.now_is)
        (seen_within_itself now.seen))))
        (names_all store setting moment first is.events end is.here.asked is.here.sound is.licensed (ended_at end e));
  }

  -- ---- their order

  abbrev asked : List Ask
  asked = events_told store setting moment (new_query setting) is.events

  in_order : (end : Result Answer RoundFault) → query.stage ≡ at.Ended end → LooksInOrder store setting entry now end
  in_order end e = record {
    asks = asked;
    words = words_told store setting moment (new_query setting) is.events;
    words_are = is.words;
    lengths = noted;
    lengths_are = is.lengths;
    noted = noted_as store setting moment is.events first (new_query setting) is.licensed;
    in_order = λ some. subst (λ (words : List ℕ). ComeSo setting end words asked)
        (sym (bits_loaded store setting moment is.events first (new_query setting) is.licensed)) (come_so end e some);
  }
    where
      come_so : (end : Result Answer RoundFault) → query.stage ≡ at.Ended end → 0 < length setting.plan.buckets
          → ComeSo setting end (words_loaded store setting moment is.events) asked
      come_so (Ok answer) e some = laws.whole first is.events answer some (is.licensed, ended_at (Ok answer) e)
      come_so (Err why) e some = laws.ordered first is.events some is.licensed

  -- ---- the last that was found of a range

  module _ (range : Range) (named : List FoundDown)
      (e : query.stage ≡ at.Ended (Err (fault.NoReplica range named))) where
    avoided_now : query.avoided ≡ found_leaves downs
    avoided_now =
        ap (λ (q : Query). q.avoided) (sym is.query_is) ∙ avoided_told store setting moment is.events (new_query setting)

    left_without : IsLeftWithout store entry now range named
    left_without =
        let ended = ended_at (Err (fault.NoReplica range named)) e in
        let last = last_without store setting moment range named first is.events (new_query setting) (λ h. absurd cc)
        is.licensed ended in
        let here_none = subst (λ (q : Query). FirstNone range q.avoided now.seen) is.query_is
        (now_by (λ seen. FirstNone range (session.query_after store setting moment (new_query setting) is.events).avoided seen)
        last.none) in
        record {
          more = last.more;
          notes = is.lengths ∙ ap (λ (notes : List LengthNote). entry.purse.notes ++ notes)
              (now_by (λ seen. noted ≡ last.more ++ length_note (range_number store range)
              (length (range_history seen range)) ∷ []) last.lengths)
              ∙ sym (append_assoc entry.purse.notes last.more
              (length_note (range_number store range) (length (range_history now.seen range)) ∷ []));
          all_down = serve_on_named store setting is.here.asked entry.seen now.seen is.goes.sound.held since range downs
              named (named_so store setting moment first is.events range named is.here.asked is.here.sound is.licensed
              ended)
              (subst (λ (leaves : List Leaf). All (λ (one : SlotLeaf). is_avoided leaves one ≡ true)
              (serving (range_history now.seen range))) avoided_now
              (all_avoided query.avoided (serving (range_history now.seen range)) here_none));
        }

  -- ---- the ends

  end_right : (end : Result Answer RoundFault) → query.stage ≡ at.Ended end
      → EndsRightly store setting moment entry now end
  end_right (Ok answer) e = record {
    rightly = now_by (λ seen. IsAnsweredRightly store setting moment entry.seen seen answer)
        (laws.answered first is.events answer is.here.asked is.here.from is.here.sound
        (is.licensed, ended_at (Ok answer) e));
    down = among_found answer.trace.down
        (laws.named_told first is.events (Ok answer) (is.licensed, ended_at (Ok answer) e));
    found = all_named (Ok answer) e;
    order = in_order (Ok answer) e;
    handed = λ none. subst (λ (n : ℕ). IsHanded entry.handed n now.handed)
        (sym (laws.counted first is.events answer is.here.asked is.here.from is.here.sound
        (is.licensed, ended_at (Ok answer) e) none)) is.handed;
  }
  end_right (Err (fault.StepLimit limit trace)) e = record {
    rightly = now_by (λ seen. IsStoppedRightly store setting moment entry.seen seen limit trace)
        (laws.stopped first is.events limit trace is.here.asked is.here.from is.here.sound
        (is.licensed, ended_at (Err (fault.StepLimit limit trace)) e));
    down = among_found trace.down
        (laws.named_told first is.events (Err (fault.StepLimit limit trace))
        (is.licensed, ended_at (Err (fault.StepLimit limit trace)) e));
    found = all_named (Err (fault.StepLimit limit trace)) e;
    order = in_order (Err (fault.StepLimit limit trace)) e;
  }
  end_right (Err (fault.NoReplica range named)) e = record {
    rightly = now_by (λ seen. HasNoReplica store.zones entry.seen seen range named)
        (laws.no_replica first is.events range named is.here.asked is.here.from is.here.sound
        (is.licensed, ended_at (Err (fault.NoReplica range named)) e));
    down = among_found named
        (laws.named_told first is.events (Err (fault.NoReplica range named))
        (is.licensed, ended_at (Err (fault.NoReplica range named)) e));
    found = all_named (Err (fault.NoReplica range named)) e;
    order = in_order (Err (fault.NoReplica range named)) e;
    last = left_without range named e;
  }

  ends_by : (stage : Stage) → query.stage ≡ stage → ask_of setting stage ≡ ask.Finished
      → (result : Result Answer RoundFault) → EndsSo stage result → EndsRightly store setting moment entry now result
  ends_by (at.Rooting loading) e finished result so = absurd cc
  ends_by (at.Entering course round loading) e finished result so = absurd cc
  ends_by (at.Resolving course round range) e finished result so = absurd cc
  ends_by (at.Reloading course round loading) e finished result so = absurd cc
  ends_by (at.Visiting course round visits leaf) e finished result so = absurd cc
  ends_by (at.Ended end) e finished result so =
      let same : result ≡ end = so in end_right result (e ∙ ap at.Ended (sym same))

  pub ends_rightly : ask_of setting query.stage ≡ ask.Finished → (result : Result Answer RoundFault)
      → EndsSo query.stage result → EndsRightly store setting moment entry now result
  ends_rightly finished result so = ends_by query.stage refl finished result so
