-- A query on its way in a store that threads share: its session so far is licensed, and ends at what its caller knows.
use Rattle.std.specs.Prelude.{◌≡◌, ◌<◌, ◌≤ℤ◌, ◌^◌, ℕ, ℤ, pos, List, [], ◌++◌, length}
use Rattle.std.specs.List.{AllByRecursion}
use Rattle.know.specs.Knowledge.{Knowledge}
use Rattle.know.specs.Sound.{IsSound}
use Rattle.mon_topo.specs.HeldHistories.{first_histories, AreWithin}
use Rattle.mon_topo.specs.Settings.{Setting}
use Rattle.mon_topo.specs.Zones.{leaf_counts, ranges_in}
use Rattle.query_traces.specs.Askings.{IsAskedOf}
use Rattle.query_core.specs.Machine.{Query, new_query, slots_at}
use Rattle.query_core.specs.Program.{ask_of}
use Rattle.query_core.specs.SentTold.{answer_sent, sent_told}
use Rattle.query_core.specs.Sessions.{Event, IsLicensed, query_after, view_after}
use Rattle.query_traces.specs.TrueAnswers.{IsTrueAnswer}
use Rattle.query_traces.specs.Rounds.{QuerySetting}
use Rattle.query_traces.specs.declared.asks.Ask.{Ask}
use Rattle.query_traces.specs.declared.asks.Told.{Told}
use Rattle.raise_table.specs.Tables.{RaiseIdentity}
use Rattle.running_query.specs.Looks.{GoesOn, view_of}
use Rattle.running_query.specs.Notes.{HandsOut, IsHanded, lengths_of, lengths_told, words_of, words_told}

-- A query of the store, by one who knows so much: its buckets have words, and its caller holds no range and has seen
-- each range opened on its first replicas
pub record IsAskedHere (store : Setting) (raise : RaiseIdentity) (setting : QuerySetting) (moment : ℤ)
    (entry : Knowledge) : Type 0 where
  pub asked : IsAskedOf store setting
  pub from : pos 0 ≤ℤ moment
  pub some : 0 < raise.buckets
  pub below : AllByRecursion (λ (bucket : ℕ). bucket < raise.buckets) setting.plan.buckets
  pub zones : raise.zones ≡ leaf_counts store.zones
  pub few : length (ranges_in store.zones) < 2 ^ 32
  pub free : entry.purse.holds ≡ []
  pub begun : AreWithin (first_histories store.zones) entry.seen
  pub sound : IsSound store entry.hints entry.seen

module _ (store : Setting) (raise : RaiseIdentity) (setting : QuerySetting) (moment : ℤ) where
  -- What the query was told so far is a licensed session from what its caller knew at entry to what it knows now; what
  -- was noted and handed out since is what the session tells
  pub record IsUnderWay (entry now : Knowledge) (query : Query) : Type 0 where
    pub here : IsAskedHere store raise setting moment entry
    pub goes : GoesOn store entry now
    pub events : List (Event store setting moment)
    pub licensed : IsLicensed store setting moment (view_of store entry) (new_query setting) events
    pub now_is : view_after store setting moment (view_of store entry) events ≡ view_of store now
    pub query_is : query_after store setting moment (new_query setting) events ≡ query
    pub handed : IsHanded entry.handed (sent_told store setting moment events) now.handed
    pub lengths : now.purse.notes ≡ entry.purse.notes ++ lengths_told store setting moment (new_query setting) events
    pub words : now.hints.notes ≡ entry.hints.notes ++ words_told store setting moment (new_query setting) events

-- an answer to an ask is true of what is known before and after the look
pub record IsAnswered (store : Setting) (setting : QuerySetting) (moment : ℤ) (before after : Knowledge) (query : Query)
    (asked : Ask) (answer : Told) : Type 0 where
  pub true_then : IsTrueAnswer store setting moment (view_of store before) (view_of store after) query.avoided
      (slots_at query) asked answer
  pub handed : HandsOut before.handed (answer_sent answer) after.handed
  pub lengths : after.purse.notes ≡ before.purse.notes ++ lengths_of store asked (view_of store after)
  pub words : after.hints.notes ≡ before.hints.notes ++ words_of asked answer

-- some query is on its way, whenever it began
pub record IsSomewhere (store : Setting) (raise : RaiseIdentity) (moment : ℤ) (now : Knowledge) (query : Query)
    : Type 0 where
  pub entry : Knowledge
  pub under_way : IsUnderWay store raise query.setting moment entry now query

-- and asks this next
pub record IsAskedNow (store : Setting) (raise : RaiseIdentity) (moment : ℤ) (now : Knowledge) (query : Query)
    (asked : Ask) : Type 0 where
  pub somewhere : IsSomewhere store raise moment now query
  pub asks : ask_of query.setting query.stage ≡ asked
