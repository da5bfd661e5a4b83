-- In which order a call looks at words, ranges and leaves.
use Rattle.std.specs.Prelude.{◌≡◌, ◌<◌, ℕ, List, [], ◌∷◌, ◌++◌, length, map, Result, Ok, Err}
use Rattle.history_book.specs.Seats.{length_note}
use Rattle.history_book.specs.declared.views.LengthNote.{LengthNote}
use Rattle.know.specs.Knowledge.{Knowledge}
use Rattle.mon_hints.specs.declared.places.Place.TheVariants as place
use Rattle.mon_topo.specs.Settings.{Setting}
use Rattle.query_core.specs.Orders.{ComeInOrder, ComeWholeInOrder}
use Rattle.query_traces.specs.Rounds.{QuerySetting}
use Rattle.query_traces.specs.declared.answers.Answer.{Answer}
use Rattle.query_traces.specs.declared.answers.RoundFault.{RoundFault}
use Rattle.query_traces.specs.declared.asks.Ask.{Ask}
use Rattle.query_traces.specs.declared.asks.Ask.TheVariants as ask
use Rattle.raise_table.specs.Seats.{note}
use Rattle.raise_table.specs.declared.views.Note.{Note}
use Rattle.running_query.specs.Notes.{range_number}

-- these words and these lengths were noted as this was asked for, one after another
abbrev pub AreNotedAs : Setting → List Ask → List Note → List LengthNote → Type 0
AreNotedAs store [] words lengths = (words ≡ []) × (lengths ≡ [])
AreNotedAs store (ask.LoadRoot bucket ∷ asks) words lengths = (bits : ℕ) × (more : List Note)
    × (words ≡ note place.Root bucket bits ∷ more) × AreNotedAs store asks more lengths
AreNotedAs store (ask.LoadZone zone bucket ∷ asks) words lengths = (bits : ℕ) × (more : List Note)
    × (words ≡ note (place.Zone zone) bucket bits ∷ more) × AreNotedAs store asks more lengths
AreNotedAs store (ask.Resolve range ∷ asks) words lengths = (long : ℕ) × (more : List LengthNote)
    × (lengths ≡ length_note (range_number store range) long ∷ more) × AreNotedAs store asks words more
AreNotedAs store (ask.Visit leaf ∷ asks) words lengths = (long : ℕ) × (more : List LengthNote)
    × (lengths ≡ length_note leaf.0 long ∷ more) × AreNotedAs store asks words more
AreNotedAs store (ask.Finished ∷ asks) words lengths = ⊥

-- a query that ends with a table has been through each zone that the root's words let in; one that is refused through the
-- first of them, the last of which decides
abbrev pub ComeSo : QuerySetting → Result Answer RoundFault → List ℕ → List Ask → Type 0
ComeSo setting (Ok answer) words asks = ComeWholeInOrder setting words asks
ComeSo setting (Err why) words asks = ComeInOrder setting words asks

-- What the call noted is what such a course asks for: the root's words, then zone by zone, in the order of the
-- configuration, those that they let in; in a zone its words, and in each round its ranges and then its leaves. A plan
-- without buckets loads no word, and no text has one
pub record LooksInOrder (store : Setting) (setting : QuerySetting) (before after : Knowledge)
    (end : Result Answer RoundFault) : Type 0 where
  pub asks : List Ask
  pub words : List Note
  pub words_are : after.hints.notes ≡ before.hints.notes ++ words
  pub lengths : List LengthNote
  pub lengths_are : after.purse.notes ≡ before.purse.notes ++ lengths
  pub noted : AreNotedAs store asks words lengths
  pub in_order : 0 < length setting.plan.buckets
      → ComeSo setting end (map (λ (word : Note). word.bits) words) asks
