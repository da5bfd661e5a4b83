-- What stands, which standing queries are taken, and which are due at a moment.
use Rattle.std.specs.Prelude.{ℕ, ℤ, List, [], ◌∷◌, ◌++◌, Option, Some, Bool, None, Result, Ok, Err, if◌then◌else◌, ◌<◌}
use Rattle.std.specs.Prelude.{◌+◌, ◌-◌, ◌*◌, ◌/◌, pos, int_lt, nat_lt, unsigned_abs, map, sum_by, slice_get, option_map}
use Rattle.std.specs.List.{list_any, filter_map, range_with_len}
use Rattle.std.specs.Option.{option_or}
use Rattle.std.specs.Ordering.{int_cmp, nat_cmp, ordering_then}
use Rattle.std.specs.declared.cmp.Ordering.{Ordering}
use Rattle.mon_schema.specs.Names.{SchemaLists}
use Rattle.mon_value.specs.Same.{same_text}
use Rattle.typed_trees.specs.Nodes.{TypedTree}
use Rattle.query_texts.specs.TextTypes.{text_type}
use Rattle.query_texts.specs.declared.faults.TextFault.{TextFault}
use Rattle.query_texts.specs.declared.faults.TextFault.TheVariants as text
use Rattle.mon_value.specs.Order.{sorted_list}
use Rattle.standing.specs.declared.queries.StandingQuery.{StandingQuery}
use Rattle.standing.specs.declared.faults.StandingFault.{StandingFault}
use Rattle.standing.specs.declared.faults.StandingFault.TheVariants as fault
use Rattle.standing.specs.declared.dues.Due.{Due}
use Rattle.standing.specs.declared.dues.TheConstants.{MOST_DUE}
use Rattle.standing.specs.declared.faults.DueFault.{DueFault}
use Rattle.standing.specs.declared.faults.DueFault.TheVariants as refusal

-- What stands: queries, and the last moment.

-- the queries in the order in which they were added, and the last moment at which some were asked for, if there was one
pub record StandingState : Type 0 where
  pub queries : List StandingQuery
  pub last : Option ℤ

abbrev pub standing_state : List StandingQuery → Option ℤ → StandingState
standing_state queries last = record { queries = queries; last = last }

abbrev pub standing_query : List ℕ → ℤ → List ℕ → StandingQuery
standing_query name period text = record { name = name; period = period; text = text }

-- a query more
abbrev pub with_query : StandingState → StandingQuery → StandingState
with_query state query = standing_state (state.queries ++ query ∷ []) state.last

-- this moment is the last one
abbrev pub at_moment : StandingState → ℤ → StandingState
at_moment state moment = standing_state state.queries (Some moment)

-- Which standing queries are taken.

-- the fault of a query whose text has this one
abbrev pub text_refused : TextFault → StandingFault
text_refused (text.Parse why) = fault.Parse why
text_refused (text.Typing why) = fault.Typing why

-- the fault of a text over schemas, if it has one
abbrev pub fault_in : Result TypedTree TextFault → Option StandingFault
fault_in (Ok tree) = None
fault_in (Err why) = Some (text_refused why)

-- whether a query of a name stands
abbrev pub is_taken : List ℕ → List StandingQuery → Bool
is_taken name = list_any (λ query. same_text query.name name)

-- why a query isn't taken: its name is taken, or else its text has a fault
abbrev pub add_fault : SchemaLists → List StandingQuery → List ℕ → List ℕ → Option StandingFault
add_fault schemas queries name text =
    if is_taken name queries then Some fault.NameTaken else fault_in (text_type schemas text)

-- Which standing queries are due at a moment, and when.

-- a moment in seconds, which is no less than 0
abbrev pub seconds : ℤ → ℕ
seconds = unsigned_abs

-- how many multiples of a period are above the last moment and at most this one
abbrev pub count_between : ℕ → ℕ → ℕ → ℕ
count_between period last moment = moment / period - last / period

-- The times at which a query is due: each multiple of its period above the last moment and at most this one; where
-- there is no last moment, the greatest multiple alone.
abbrev pub due_times : Option ℤ → ℤ → ℕ → List ℤ
due_times None moment period = pos (period * (seconds moment / period)) ∷ []
due_times (Some last) moment period =
    map (λ k. pos (period * k))
    (range_with_len (seconds last / period + 1) (count_between period (seconds last) (seconds moment)))

-- a query that is due: when, and its number in the order of adding
abbrev pub Mark : Type 0
Mark = ℤ × ℕ

-- the times of a query as marks, by its number
abbrev pub marked : ℕ → List ℤ → List Mark
marked n times = map (λ time. (time, n)) times

-- the marks of queries that are numbered on from n
abbrev pub marks_from : ℕ → Option ℤ → ℤ → List StandingQuery → List Mark
marks_from n last moment [] = []
marks_from n last moment (query ∷ queries) =
    marked n (due_times last moment (seconds query.period)) ++ marks_from (n + 1) last moment queries

-- by time, and then by adding
abbrev pub mark_cmp : Mark → Mark → Ordering
mark_cmp a b = ordering_then (int_cmp a.0 b.0) (nat_cmp a.1 b.1)

abbrev pub due_marks : Option ℤ → ℤ → List StandingQuery → List Mark
due_marks last moment queries = sorted_list mark_cmp (marks_from 0 last moment queries)

-- the query of a mark
abbrev pub due_of : List StandingQuery → Mark → Option Due
due_of queries mark =
    option_map (λ query. record { name = query.name; at = mark.0; text = query.text }) (slice_get queries mark.1)

-- the queries that are due, by time and then by adding
abbrev pub due_list : Option ℤ → ℤ → List StandingQuery → List Due
due_list last moment queries = filter_map (due_of queries) (due_marks last moment queries)

-- ---- faults

-- a query whose period is a second or more
abbrev pub HasPeriod : StandingQuery → Type 0
HasPeriod query = 0 < seconds query.period

-- how many times a query is due
abbrev pub times_due : Option ℤ → ℤ → StandingQuery → ℕ
times_due None moment query = 1
times_due (Some last) moment query = count_between (seconds query.period) (seconds last) (seconds moment)

-- how many times queries are due in all
abbrev pub due_count : Option ℤ → ℤ → List StandingQuery → ℕ
due_count last moment queries = sum_by (times_due last moment) queries

-- a moment before the last one is refused
abbrev pub backwards : Option ℤ → ℤ → Option DueFault
backwards None moment = None
backwards (Some last) moment = if int_lt moment last then Some (refusal.Backwards last) else None

abbrev pub too_many : ℕ → Option DueFault
too_many count = if nat_lt MOST_DUE count then Some (refusal.TooManyDue MOST_DUE) else None

-- why a moment is refused: it lies before the last one, or more would be due than may be
abbrev pub due_fault : Option ℤ → ℤ → List StandingQuery → Option DueFault
due_fault last moment queries = option_or (backwards last moment) (too_many (due_count last moment queries))

abbrev pub unless : Option DueFault → List Due → Result (List Due) DueFault
unless None dues = Ok dues
unless (Some why) dues = Err why

-- what a moment comes to: the queries that are due, or why it is refused
abbrev pub due_answer : Option ℤ → ℤ → List StandingQuery → Result (List Due) DueFault
due_answer last moment queries = unless (due_fault last moment queries) (due_list last moment queries)
