-- What a call notes is what its session asks for, in order.
use Rattle.std.proofs.Common.{◌≡◌, ◌∙◌, ℕ, ℤ, List, [], ◌∷◌, ◌++◌, map, refl, sym, ap, subst, length}
use Rattle.std.proofs.lemmas.List.{map-append}
use Rattle.history_book.specs.declared.views.LengthNote.{LengthNote}
use Rattle.mon_topo.specs.Settings.{Setting}
use Rattle.mon_topo.specs.Views.{View}
use Rattle.mon_value.specs.Histories.{leaf_history, range_history}
use Rattle.mon_value.specs.declared.positions.Leaf.{Leaf}
use Rattle.mon_value.specs.declared.positions.RangeSlot.{RangeSlot}
use Rattle.query_core.specs.Machine.{Query, slots_at}
use Rattle.query_core.specs.Orders.{answer_words, events_told, words_loaded}
use Rattle.query_core.specs.Program.{ask_of}
use Rattle.query_traces.specs.Rounds.{QuerySetting}
use Rattle.query_core.specs.Sessions as session
use Rattle.query_traces.specs.TrueAnswers as truth
use Rattle.query_traces.specs.declared.asks.Ask.{Ask}
use Rattle.query_traces.specs.declared.asks.Ask.TheVariants as ask
use Rattle.query_traces.specs.declared.asks.Told.{Told}
use Rattle.query_traces.specs.declared.asks.Told.TheVariants as told
use Rattle.raise_table.specs.declared.views.Note.{Note}
use Rattle.running_query.specs.InOrder.{AreNotedAs}
use Rattle.running_query.specs.Notes.{lengths_of, lengths_told, words_of, words_told}

abbrev bits_of : Note → ℕ
bits_of = λ (word : Note). word.bits

module _ (store : Setting) (setting : QuerySetting) (moment : ℤ) where
  module _ (before after : View) (avoided : List Leaf) (slots : List RangeSlot) where
    abbrev TrueTo : Ask → Told → Type 0
    TrueTo asked answer = truth.IsTrueAnswer store setting moment before after avoided slots asked answer

    -- one look more in front
    one_noted : (asked : Ask) (answer : Told) → TrueTo asked answer → (asks : List Ask) (words : List Note)
        (lengths : List LengthNote) → AreNotedAs store asks words lengths
        → AreNotedAs store (asked ∷ asks) (words_of asked answer ++ words) (lengths_of store asked after ++ lengths)
    one_noted (ask.LoadRoot bucket) (told.Word word seen) is asks words lengths noted = (word, words, refl, noted)
    one_noted (ask.LoadZone zone bucket) (told.Word word seen) is asks words lengths noted = (word, words, refl, noted)
    one_noted (ask.Resolve range) (told.Slot slot leaf) is asks words lengths noted =
        (length (range_history after.seen range), lengths, refl, noted)
    one_noted (ask.Resolve range) told.NoSlot is asks words lengths noted =
        (length (range_history after.seen range), lengths, refl, noted)
    one_noted (ask.Visit leaf) (told.Down cut) is asks words lengths noted =
        (length (leaf_history after.seen leaf), lengths, refl, noted)
    one_noted (ask.Visit leaf) (told.Unread cut) is asks words lengths noted =
        (length (leaf_history after.seen leaf), lengths, refl, noted)
    one_noted (ask.Visit leaf) (told.Read cut part) is asks words lengths noted =
        (length (leaf_history after.seen leaf), lengths, refl, noted)
    one_noted (ask.Visit leaf) (told.Over load cut) is asks words lengths noted =
        (length (leaf_history after.seen leaf), lengths, refl, noted)
    one_noted (ask.LoadRoot bucket) (told.Slot slot leaf) is asks words lengths noted = absurd is
    one_noted (ask.LoadRoot bucket) told.NoSlot is asks words lengths noted = absurd is
    one_noted (ask.LoadRoot bucket) (told.Down cut) is asks words lengths noted = absurd is
    one_noted (ask.LoadRoot bucket) (told.Unread cut) is asks words lengths noted = absurd is
    one_noted (ask.LoadRoot bucket) (told.Read cut part) is asks words lengths noted = absurd is
    one_noted (ask.LoadRoot bucket) (told.Over load cut) is asks words lengths noted = absurd is
    one_noted (ask.LoadZone zone bucket) (told.Slot slot leaf) is asks words lengths noted = absurd is
    one_noted (ask.LoadZone zone bucket) told.NoSlot is asks words lengths noted = absurd is
    one_noted (ask.LoadZone zone bucket) (told.Down cut) is asks words lengths noted = absurd is
    one_noted (ask.LoadZone zone bucket) (told.Unread cut) is asks words lengths noted = absurd is
    one_noted (ask.LoadZone zone bucket) (told.Read cut part) is asks words lengths noted = absurd is
    one_noted (ask.LoadZone zone bucket) (told.Over load cut) is asks words lengths noted = absurd is
    one_noted (ask.Resolve range) (told.Word word seen) is asks words lengths noted = absurd is
    one_noted (ask.Resolve range) (told.Down cut) is asks words lengths noted = absurd is
    one_noted (ask.Resolve range) (told.Unread cut) is asks words lengths noted = absurd is
    one_noted (ask.Resolve range) (told.Read cut part) is asks words lengths noted = absurd is
    one_noted (ask.Resolve range) (told.Over load cut) is asks words lengths noted = absurd is
    one_noted (ask.Visit leaf) (told.Word word seen) is asks words lengths noted = absurd is
    one_noted (ask.Visit leaf) (told.Slot slot other) is asks words lengths noted = absurd is
    one_noted (ask.Visit leaf) told.NoSlot is asks words lengths noted = absurd is
    one_noted ask.Finished answer is asks words lengths noted = absurd is

    -- the words that an answer tells are those that it notes
    one_word : (asked : Ask) (answer : Told) → TrueTo asked answer
        → map bits_of (words_of asked answer) ≡ answer_words answer
    one_word (ask.LoadRoot bucket) (told.Word word seen) is = refl
    one_word (ask.LoadZone zone bucket) (told.Word word seen) is = refl
    one_word (ask.Resolve range) (told.Slot slot leaf) is = refl
    one_word (ask.Resolve range) told.NoSlot is = refl
    one_word (ask.Visit leaf) (told.Down cut) is = refl
    one_word (ask.Visit leaf) (told.Unread cut) is = refl
    one_word (ask.Visit leaf) (told.Read cut part) is = refl
    one_word (ask.Visit leaf) (told.Over load cut) is = refl
    one_word (ask.LoadRoot bucket) (told.Slot slot leaf) is = refl
    one_word (ask.LoadRoot bucket) told.NoSlot is = refl
    one_word (ask.LoadRoot bucket) (told.Down cut) is = refl
    one_word (ask.LoadRoot bucket) (told.Unread cut) is = refl
    one_word (ask.LoadRoot bucket) (told.Read cut part) is = refl
    one_word (ask.LoadRoot bucket) (told.Over load cut) is = refl
    one_word (ask.LoadZone zone bucket) (told.Slot slot leaf) is = refl
    one_word (ask.LoadZone zone bucket) told.NoSlot is = refl
    one_word (ask.LoadZone zone bucket) (told.Down cut) is = refl
    one_word (ask.LoadZone zone bucket) (told.Unread cut) is = refl
    one_word (ask.LoadZone zone bucket) (told.Read cut part) is = refl
    one_word (ask.LoadZone zone bucket) (told.Over load cut) is = refl
    one_word (ask.Resolve range) (told.Word word seen) is = absurd is
    one_word (ask.Resolve range) (told.Down cut) is = refl
    one_word (ask.Resolve range) (told.Unread cut) is = refl
    one_word (ask.Resolve range) (told.Read cut part) is = refl
    one_word (ask.Resolve range) (told.Over load cut) is = refl
    one_word (ask.Visit leaf) (told.Word word seen) is = absurd is
    one_word (ask.Visit leaf) (told.Slot slot other) is = refl
    one_word (ask.Visit leaf) told.NoSlot is = refl
    one_word ask.Finished answer is = absurd is

  pub noted_as : (events : List (session.Event store setting moment)) (before : View) (query : Query)
      → session.IsLicensed store setting moment before query events
      → AreNotedAs store (events_told store setting moment query events) (words_told store setting moment query events)
      (lengths_told store setting moment query events)
  noted_as [] before query licensed = (refl, refl)
  noted_as (event ∷ events) before query licensed =
      let next = session.told_then store setting moment query event in
      one_noted before event.view query.avoided (slots_at query) (ask_of setting query.stage) event.answer
      licensed.0.true_then (events_told store setting moment next events) (words_told store setting moment next events)
      (lengths_told store setting moment next events) (noted_as events event.view next licensed.1)

  pub bits_loaded : (events : List (session.Event store setting moment)) (before : View) (query : Query)
      → session.IsLicensed store setting moment before query events
      → map bits_of (words_told store setting moment query events) ≡ words_loaded store setting moment events
  bits_loaded [] before query licensed = refl
  bits_loaded (event ∷ events) before query licensed =
      let next = session.told_then store setting moment query event in
      let own = words_of (ask_of setting query.stage) event.answer in
      map-append bits_of own (words_told store setting moment next events)
      ∙ (λ i. one_word before event.view query.avoided (slots_at query) (ask_of setting query.stage) event.answer
      licensed.0.true_then i ++ bits_loaded events event.view next licensed.1 i)
