-- What a query asks of whoever answers it.
use Rattle.std.specs.Prelude.{ℕ}
use Rattle.mon_hints.specs.declared.places.Place.{Place}
use Rattle.mon_hints.specs.declared.places.Place.TheVariants as at
use Rattle.query_traces.specs.declared.asks.Ask.{Ask}
use Rattle.query_traces.specs.declared.asks.Ask.TheVariants as ask

-- the word of a place and a bucket
abbrev pub word_asked : Place → ℕ → Ask
word_asked at.Root bucket = ask.LoadRoot bucket
word_asked (at.Zone zone) bucket = ask.LoadZone zone bucket
