-- What a query came to in the zones that it is through with.
use Rattle.std.specs.Prelude.{ℕ, ◌+◌, Bool, List, [], ◌∷◌, ◌++◌, length, map, take, drop}
use Rattle.mixer.specs.declared.zone_answers.ZoneAnswer.{ZoneAnswer}
use Rattle.mon_value.specs.declared.positions.FoundDown.{FoundDown}
use Rattle.mon_value.specs.declared.positions.Leaf.{Leaf}
use Rattle.plan_split.specs.Meeting.{flag_at, let_in}
use Rattle.query_traces.specs.declared.answers.Resolved.{Resolved}
use Rattle.query_traces.specs.declared.answers.Trace.{Trace}
use Rattle.query_traces.specs.declared.areas.Area.{Area}
use Rattle.query_traces.specs.declared.asks.Seen.{Seen}
use Rattle.query_core.specs.declared.courses.Course.{Course}
use Rattle.query_traces.specs.declared.loadings.Loading.{Loading}
use Rattle.query_traces.specs.declared.looks.Look.{Look}
use Rattle.query_traces.specs.Founds.{found_down, founds_of_zone}
use Rattle.query_traces.specs.Rounds.{unread_look, QuerySetting}

-- before the first zone, once all root words are loaded
abbrev pub course_of : QuerySetting → Loading → Course
course_of setting loading = record {
  seen = loading.seen;
  entered = let_in setting.plan loading.words (length setting.areas);
  begun = 0;
  resolved = [];
  looks = [];
  founds = [];
  answers = [];
}

-- whether the root words let the next zone in
abbrev pub is_entered : Course → Bool
is_entered course = flag_at course.entered course.begun

-- the next zone is begun
abbrev pub with_next_zone : Course → Course
with_next_zone course = record {
  seen = course.seen;
  entered = course.entered;
  begun = course.begun + 1;
  resolved = course.resolved;
  looks = course.looks;
  founds = course.founds;
  answers = course.answers;
}

-- a zone is behind, whose ranges resolved so, and of whose leaves so much is known
abbrev pub with_zone_behind : Course → List Resolved → List Look → Course
with_zone_behind course resolved looks = record {
  seen = course.seen;
  entered = course.entered;
  begun = course.begun;
  resolved = course.resolved ++ resolved;
  looks = course.looks ++ looks;
  founds = course.founds;
  answers = course.answers;
}

-- what had been seen of a zone's leaves, and of its ranges
abbrev pub cuts_seen : Seen → Area → List ℕ
cuts_seen seen area = take area.leaves (drop area.first_leaf.0 seen.cuts)

abbrev pub firsts_seen : Seen → Area → List Resolved
firsts_seen seen area = take area.ranges (drop area.first_range.0 seen.firsts)

-- a zone is left out: it stands as it had been seen
abbrev pub left : Course → Area → Seen → Course
left course area seen = with_zone_behind course (firsts_seen seen area) (map unread_look (cuts_seen seen area))

abbrev pub with_zone_answer : Course → ZoneAnswer → Course
with_zone_answer course answer = record {
  seen = course.seen;
  entered = course.entered;
  begun = course.begun;
  resolved = course.resolved;
  looks = course.looks;
  founds = course.founds;
  answers = course.answers ++ answer ∷ [];
}

abbrev pub with_found : Course → Leaf → ℕ → Course
with_found course leaf cut = record {
  seen = course.seen;
  entered = course.entered;
  begun = course.begun;
  resolved = course.resolved;
  looks = course.looks;
  founds = course.founds ++ found_down leaf cut ∷ [];
  answers = course.answers;
}

abbrev pub founds_in : Course → Area → List FoundDown
founds_in course area = founds_of_zone course.founds area

-- what each range resolved to; those that the query did not come to stand as they had been seen by the first root word
abbrev pub all_resolved : Course → List Resolved
all_resolved course = course.resolved ++ drop (length course.resolved) course.seen.firsts

-- what is known of each leaf; the same holds of those that the query did not come to
abbrev pub all_looks : Course → List Look
all_looks course = course.looks ++ map unread_look (drop (length course.looks) course.seen.cuts)

abbrev pub trace_of : Course → Trace
trace_of course = record {
  resolved = all_resolved course;
  cuts = map (λ look. look.cut) (all_looks course);
  read = map (λ look. look.read) (all_looks course);
  down = course.founds;
  sent = map (λ look. look.sent) (all_looks course);
}
