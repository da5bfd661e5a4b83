-- How much was sent, by what a query was told.
use Rattle.std.specs.Prelude.{ℕ, ℤ, List}
use Rattle.std.specs.List.{sum_by}
use Rattle.mon_topo.specs.Settings.{Setting}
use Rattle.query_core.specs.Sessions.{Event}
use Rattle.query_traces.specs.Rounds.{QuerySetting}
use Rattle.query_traces.specs.declared.asks.Told.{Told}
use Rattle.query_traces.specs.declared.asks.Told.TheVariants as told

-- a leaf that was read sent so much
abbrev pub answer_sent : Told → ℕ
answer_sent (told.Read cut answer) = answer.sent
answer_sent answer = 0

module _ (store : Setting) (setting : QuerySetting) (moment : ℤ) where
  -- all leaves of a session
  abbrev pub sent_told : List (Event store setting moment) → ℕ
  sent_told events = sum_by (λ (event : Event store setting moment). answer_sent event.answer) events
