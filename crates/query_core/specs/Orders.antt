-- The order of a query's events, as lists: which words it loads, which ranges it resolves and which leaves it visits,
-- one after another.
use Rattle.std.specs.Prelude.{◌≡◌, ◌+◌, ℕ, ℤ, Bool, List, [], ◌∷◌, ◌++◌, filter, length, map, take, if◌then◌else◌}
use Rattle.std.specs.List.{AllByRecursion, flat_map, range_with_len}
use Rattle.mon_topo.specs.Settings.{Setting}
use Rattle.mon_value.specs.declared.positions.Leaf.{Leaf}
use Rattle.query_traces.specs.Rounds.{leaf_at, range_at, QuerySetting}
use Rattle.query_core.specs.Machine.{Query}
use Rattle.plan_split.specs.Meeting.{flag_at, let_in}
use Rattle.query_core.specs.Program.{ask_of}
use Rattle.query_core.specs.Sessions.{Event, told_then}
use Rattle.query_traces.specs.declared.areas.Area.{Area}
use Rattle.query_traces.specs.declared.asks.Ask.{Ask}
use Rattle.query_traces.specs.declared.asks.Ask.TheVariants as ask
use Rattle.query_traces.specs.declared.asks.Told.{Told}
use Rattle.query_traces.specs.declared.asks.Told.TheVariants as told

-- ---- events in order

-- a zone that is entered, and of each of its rounds, however many there are, the leaves that are visited in it
pub record ZoneCourse : Type 0 where
  pub area : Area
  pub rounds : List (List Leaf)

-- the ranges of a zone from a place on, of which so many are left
abbrev pub resolve_events : Area → ℕ → ℕ → List Ask
resolve_events area place count = map (λ (at : ℕ). ask.Resolve (range_at area at)) (range_with_len place count)

-- in a round each range of the zone resolves, in order, the zone's words are loaded again, and then leaves are visited
abbrev pub round_events : List ℕ → Area → List Leaf → List Ask
round_events buckets area leaves =
    resolve_events area 0 area.ranges ++ (map (ask.LoadZone area.zone) buckets ++ map ask.Visit leaves)

-- in a zone its words are loaded, and then comes each round
abbrev pub zone_events : List ℕ → ZoneCourse → List Ask
zone_events buckets zone =
    map (ask.LoadZone zone.area.zone) buckets ++ flat_map (round_events buckets zone.area) zone.rounds

-- the root's words are loaded first, and then comes each zone
abbrev pub query_events : List ℕ → List ZoneCourse → List Ask
query_events buckets zones = map ask.LoadRoot buckets ++ flat_map (zone_events buckets) zones

-- ---- which zones and which leaves

-- the zones from a number on that the flags let in, in order
abbrev pub chosen_areas : List Bool → ℕ → List Area → List Area
chosen_areas flags number [] = []
chosen_areas flags number (area ∷ areas) =
    if flag_at flags number then area ∷ chosen_areas flags (number + 1) areas
    else chosen_areas flags (number + 1) areas

-- the leaves that are visited in a round are the first of some leaves of the zone, whichever these are, in the zone's
-- order
pub record IsRoundInOrder (area : Area) (leaves : List Leaf) : Type 0 where
  pub is_chosen : ℕ → Bool
  pub left : List Leaf
  pub all : leaves ++ left ≡ map (leaf_at area) (filter is_chosen (range_with_len 0 area.leaves))

abbrev pub IsZoneInOrder : ZoneCourse → Type 0
IsZoneInOrder zone = AllByRecursion (IsRoundInOrder zone.area) zone.rounds

abbrev pub areas_of_zones : List ZoneCourse → List Area
areas_of_zones zones = map (λ (zone : ZoneCourse). zone.area) zones

-- the zones that are entered where such words were loaded: those that the root's, the first of them, let in
abbrev pub entered_areas : QuerySetting → List ℕ → List Area
entered_areas setting words =
    chosen_areas (let_in setting.plan (take (length setting.plan.buckets) words) (length setting.areas)) 0 setting.areas

-- ---- the events of a session

module _ (store : Setting) (setting : QuerySetting) (moment : ℤ) where
  -- the events of which it was told, in order
  abbrev pub events_told : Query → List (Event store setting moment) → List Ask
  events_told query [] = []
  events_told query (event ∷ events) =
      ask_of setting query.stage ∷ events_told (told_then store setting moment query event) events

abbrev pub answer_words : Told → List ℕ
answer_words (told.Word word seen) = word ∷ []
answer_words answer = []

module _ (store : Setting) (setting : QuerySetting) (moment : ℤ) where
  -- the words that were loaded, in order
  abbrev pub words_loaded : List (Event store setting moment) → List ℕ
  words_loaded [] = []
  words_loaded (event ∷ events) = answer_words event.answer ++ words_loaded events

-- events are the first of such a course: its zones are the first of those that the root's words let in
pub record ComeInOrder (setting : QuerySetting) (words : List ℕ) (events : List Ask) : Type 0 where
  pub zones : List ZoneCourse
  pub left : List Ask
  pub all : events ++ left ≡ query_events setting.plan.buckets zones
  pub areas_left : List Area
  pub entered : areas_of_zones zones ++ areas_left ≡ entered_areas setting words
  pub rounds : AllByRecursion IsZoneInOrder zones

-- events are the whole of such a course, through each zone that the root's words let in
pub record ComeWholeInOrder (setting : QuerySetting) (words : List ℕ) (events : List Ask) : Type 0 where
  pub zones : List ZoneCourse
  pub all : events ≡ query_events setting.plan.buckets zones
  pub entered : areas_of_zones zones ≡ entered_areas setting words
  pub rounds : AllByRecursion IsZoneInOrder zones
