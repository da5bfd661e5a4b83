-- What was done, step behind step.
use Rattle.std.proofs.Common.{◌≡◌, ◌∙◌, ℕ, Bool, true, false, cond, Option, Some, None, List, [], ◌∷◌, ◌++◌, refl, sym}
use Rattle.std.proofs.Common.{ap, subst, append_assoc, append-nil}
use Rattle.std.specs.List.{flat_map}
use Rattle.std.proofs.lemmas.Grind.{flat_map-append}
use Rattle.mon_script.specs.declared.forms.LineForm.{LineForm}
use Rattle.mon_value.proofs.PlainLemmas.{all_append}
use Rattle.mon_run.specs.Endings.{AreNoLines, CutShort, Did, Progress, Starved, end_in, given_in, read_in, text_of_step}
use Rattle.mon_run.specs.Outside.{AreOf, Files, Told, content_of, written_then}
use Rattle.mon_run.specs.Plans.{seek_one, sought}
use Rattle.mon_run.specs.Steps.{Ask, Miss, Plan, Print, Seek, Step, Write, ending, is_too_long, next_read, plan}
use Rattle.mon_run.specs.Steps.{plan_behind, read_plan, too_long_text}
use Rattle.mon_run.specs.declared.stop.Stop.{Stop}
use Rattle.mon_run.specs.declared.stop.Stop.TheVariants as stop
use Rattle.mon_run.proofs.SinkLemmas.{nothing_written, written_both}
use Rattle.mon_run.specs.within.Stops.{Done, Stops, StopsAtRead, StopsBefore}
use Rattle.run_traces.specs.LineAsks.{files_of}
use Rattle.run_traces.specs.declared.traces.LineTrace.{LineTrace}

-- ---- steps behind steps

items_then : {A : Type 0} (of : Step → List A) (before mid after : List A) (xs ys : List Step) → mid ≡ before
    ++ flat_map of xs → after ≡ mid ++ flat_map of ys → after ≡ before ++ flat_map of (xs ++ ys)
items_then {A} of before mid after xs ys first second =
    second ∙ ap (λ (items : List A). items ++ flat_map of ys) first ∙ append_assoc before (flat_map of xs)
    (flat_map of ys)
    ∙ ap (λ (items : List A). before ++ items) (sym (flat_map-append of xs ys))

written_items : (before mid after : Option (List ℕ)) (xs ys : List Step) → mid ≡ written_then (flat_map text_of_step xs)
    before → after ≡ written_then (flat_map text_of_step ys) mid → after
    ≡ written_then (flat_map text_of_step (xs ++ ys)) before
written_items before mid after xs ys first second =
    second ∙ ap (written_then (flat_map text_of_step ys)) first ∙ written_both (flat_map text_of_step xs)
    (flat_map text_of_step ys)
    before
    ∙ ap (λ (text : List ℕ). written_then text before) (sym (flat_map-append text_of_step xs ys))

pub did_none : (p : Progress) → Did [] p p
did_none p = record {
  files = refl;
  asked = sym (append-nil p.folder.asked);
  gave = sym (append-nil p.folder.gave);
  so = λ files told. tt;
  ends = sym (append-nil p.ends);
  wrote = nothing_written p.sink.written;
}

pub did_then : {xs ys : List Step} {before mid after : Progress} → Did xs before mid → Did ys mid after
    → Did (xs ++ ys) before after
did_then {xs} {ys} {before} {mid} {after} first second = record {
  files = second.files ∙ first.files;
  asked = items_then read_in before.folder.asked mid.folder.asked after.folder.asked xs ys first.asked second.asked;
  gave = items_then given_in before.folder.gave mid.folder.gave after.folder.gave xs ys first.gave second.gave;
  so = λ files told.
      subst (AreOf files) (sym (flat_map-append given_in xs ys))
      (all_append (λ read. read.1 ≡ content_of files read.0) (flat_map given_in xs) (flat_map given_in ys)
      (first.so files told) (second.so files (first.files ∙ told)));
  ends = items_then end_in before.ends mid.ends after.ends xs ys first.ends second.ends;
  wrote = written_items before.sink.written mid.sink.written after.sink.written xs ys first.wrote second.wrote;
}

-- the same steps, put together otherwise
pub did_by : {xs ys : List Step} {before after : Progress} → xs ≡ ys → Did xs before after → Did ys before after
did_by {xs} {ys} {before} {after} same did = subst (λ (steps : List Step). Did steps before after) same did

-- three parts
pub did_front : {xs : List Step} (done : List Step) (step : Step) {before mid after : Progress} → Did xs before mid
    → Did (done ++ step ∷ []) mid after → Did ((xs ++ done) ++ step ∷ []) before after
did_front {xs} done step first second = did_by (sym (append_assoc xs done (step ∷ []))) (did_then first second)

-- ---- one step

-- a read gave nothing
pub gave_nothing : {before after : Files} → after ≡ before → after ≡ before ++ []
gave_nothing {before} same = same ∙ sym (append-nil before)

-- only a read was added
pub read_alone : {step : Step} {before after : Progress} → flat_map end_in (step ∷ []) ≡ []
    → flat_map text_of_step (step ∷ []) ≡ [] → after.folder.files ≡ before.folder.files
    → after.folder.asked ≡ before.folder.asked ++ flat_map read_in (step ∷ [])
    → after.folder.gave ≡ before.folder.gave ++ flat_map given_in (step ∷ [])
    → Told before.folder (λ files. AreOf files (flat_map given_in (step ∷ [])))
    → after.ends ≡ before.ends → after.sink.written ≡ before.sink.written → Did (step ∷ []) before after
read_alone {step} {before} {after} end text files asked gave so ends written = record {
  files = files;
  asked = asked;
  gave = gave;
  so = so;
  ends = ends ∙ sym (append-nil before.ends) ∙ ap (λ (more : List LineTrace). before.ends ++ more) (sym end);
  wrote = written ∙ nothing_written before.sink.written ∙ ap (λ (more : List ℕ). written_then more before.sink.written)
      (sym text);
}

-- ---- plans behind steps

pub plan_twice : (xs ys : List Step) (rest : Plan) → plan_behind xs (plan_behind ys rest) ≡ plan_behind (xs ++ ys) rest
plan_twice xs ys rest = ap (λ (steps : List Step). plan steps rest.status) (sym (append_assoc xs ys rest.steps))

pub not_long : (name content : List ℕ) (rest : Plan) → is_too_long content ≡ false
    → read_plan name content rest ≡ plan_behind (Ask name content ∷ []) rest
not_long name content rest short =
    ap (λ b. plan_behind (Ask name content ∷ []) (cond b (ending 8 (too_long_text name)) rest)) short

pub too_long : (name content : List ℕ) (rest : Plan) → is_too_long content ≡ true
    → read_plan name content rest ≡ plan_behind (Ask name content ∷ []) (ending 8 (too_long_text name))
too_long name content rest long =
    ap (λ b. plan_behind (Ask name content ∷ []) (cond b (ending 8 (too_long_text name)) rest)) long

-- ---- parts behind steps

pub done_behind : {xs : List Step} {p : Plan} {refused : Bool} {before mid after : Progress} → Did xs before mid
    → Done p refused mid after → Done (plan_behind xs p) refused before after
done_behind did done = record { status = done.status; did = did_then did done.did }

before_behind : {xs : List Step} {p : Plan} {before mid after : Progress} (status : ℕ) (text : List ℕ)
    → Did xs before mid → StopsBefore p status text mid after → StopsBefore (plan_behind xs p) status text before after
before_behind {xs} status text did stops = record {
  done = xs ++ stops.done;
  split = ap (plan_behind xs) stops.split ∙ plan_twice xs stops.done (ending status text);
  did = did_then did stops.did;
}

read_behind : {xs : List Step} (p : Plan) {before mid after : Progress} (name : List ℕ) → Did xs before mid
    → StopsAtRead p.steps name mid after → StopsAtRead (plan_behind xs p).steps name before after
read_behind {xs} p name did stops = record {
  done = xs ++ stops.done;
  left = stops.left;
  split = ap (λ (steps : List Step). xs ++ steps) stops.split
      ∙ sym (append_assoc xs stops.done (Seek name ∷ stops.left));
  did = did_front stops.done (Miss name) did stops.did;
}

cut_behind : {xs : List Step} (p : Plan) {before mid after : Progress} → Did xs before mid → CutShort p.steps mid after
    → CutShort (plan_behind xs p).steps before after
cut_behind {xs} p did stops = record {
  done = xs ++ stops.done;
  step = stops.step;
  left = stops.left;
  split = ap (λ (steps : List Step). xs ++ steps) stops.split
      ∙ sym (append_assoc xs stops.done (stops.step ∷ stops.left));
  front = stops.front;
  rest = stops.rest;
  cut = stops.cut;
  some = stops.some;
  did = did_front stops.done (Write stops.front) did stops.did;
}

starved_behind : {xs : List Step} (p : Plan) {before mid after : Progress} → Did xs before mid → Starved p.steps mid
    after → Starved (plan_behind xs p).steps before after
starved_behind {xs} p did stops = record {
  done = xs ++ stops.done;
  left = stops.left;
  split = ap (λ (steps : List Step). xs ++ steps) stops.split ∙ sym (append_assoc xs stops.done stops.left);
  whole = stops.whole;
  did = did_then did stops.did;
}

pub stops_behind : {xs : List Step} (p : Plan) {before mid : Progress} (after : Progress) (stopped : Stop)
    → Did xs before mid → Stops p stopped mid after → Stops (plan_behind xs p) stopped before after
stops_behind p after stop.Usage did stops = before_behind 1 _ did stops
stops_behind p after (stop.Config fault) did stops = before_behind 2 _ did stops
stops_behind p after (stop.Script fault) did stops = before_behind 3 _ did stops
stops_behind p after (stop.Schedule fault) did stops = before_behind 3 _ did stops
stops_behind p after (stop.CannotRead name) did stops = read_behind p name did stops
stops_behind p after stop.WriteFailed did stops = cut_behind p did stops
stops_behind p after stop.OutOfMemory did stops = starved_behind p did stops
stops_behind p after (stop.TooLong name) did stops = before_behind 8 _ did stops

-- ---- stops

-- memory ran out behind steps, in front of what was left
pub starved : (xs : List Step) (rest : Plan) {before after : Progress} → AreNoLines rest.steps → Did xs before after
    → Starved (plan_behind xs rest).steps before after
starved xs rest whole did = record { done = xs; left = rest.steps; split = refl; whole = whole; did = did }

-- a text that was written is that of a line
pub did_print : (text : List ℕ) {before after : Progress} → Did (Write text ∷ []) before after
    → Did (Print text ∷ []) before after
did_print text did = record {
  files = did.files;
  asked = did.asked;
  gave = did.gave;
  so = did.so;
  ends = did.ends;
  wrote = did.wrote;
}

-- ---- what is left is no line's

-- a choice between two plans that have none
pub none_chosen : (b : Bool) (p q : Plan) → AreNoLines p.steps → AreNoLines q.steps → AreNoLines (cond b p q).steps
none_chosen true p q one other = one
none_chosen false p q one other = other

-- behind a read
pub none_read : (name content : List ℕ) (rest : Plan) → AreNoLines rest.steps
    → AreNoLines (read_plan name content rest).steps
none_read name content rest none =
    (refl, none_chosen (is_too_long content) (ending 8 (too_long_text name)) rest (refl, tt) none)

-- the files of lines that are left
none_sought_by : (name : Option (List ℕ)) (reads : Files) (rest : Files → Plan)
    → ((more : Files) → AreNoLines (rest more).steps) → AreNoLines (seek_one name reads rest).steps
none_sought_by None reads rest none = none reads
none_sought_by (Some name) [] rest none = (refl, tt)
none_sought_by (Some name) (read ∷ reads) rest none = none_read name read.1 (rest reads) (none reads)

pub none_sought : (forms : List LineForm) (reads : Files) → AreNoLines (sought forms reads).steps
none_sought [] reads = tt
none_sought (what ∷ forms) reads =
    none_sought_by (files_of what).first reads (λ left. seek_one (files_of what).second left (sought forms))
    (λ left. none_sought_by (files_of what).second left (sought forms) (none_sought forms))

-- ---- stops at a read

pub stops_at_miss : (name : List ℕ) (rest : List ℕ → Files → Plan) {before after : Progress}
    → Did (Miss name ∷ []) before after → StopsAtRead (next_read [] name rest).steps name before after
stops_at_miss name rest did = record { done = []; left = []; split = refl; did = did }

pub stops_too_long : (name content : List ℕ) (rest : Plan) {before after : Progress} → is_too_long content ≡ true
    → Did (Ask name content ∷ []) before after
    → StopsBefore (read_plan name content rest) 8 (too_long_text name) before after
stops_too_long name content rest long did =
    record { done = Ask name content ∷ []; split = too_long name content rest long; did = did }
