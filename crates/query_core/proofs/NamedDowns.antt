-- A session's end names all leaves that it was told are down, or all of a range's zone.
use Rattle.std.proofs.Common.{◌≡◌, ◌∙◌, ◌+◌, ◌-◌, ◌<◌, ◌≤◌, ℕ, ℤ, true, List, [], ◌∷◌, ◌++◌, length, take, Result, Ok, Err}
use Rattle.std.proofs.Common.{refl, sym, ap, subst, append_assoc, arith}
use Rattle.std.specs.Prelude.{slice_get}
use Rattle.std.specs.List.{AllByRecursion as All}
use Rattle.std.proofs.Math.Seq.{take-length}
use Rattle.std.proofs.lemmas.List.{append-nil}
use Rattle.mon_topo.proofs.RangeHistoryLemmas.{all_on}
use Rattle.mon_topo.specs.HeldHistories.{AreHeld, AreWithin}
use Rattle.mon_topo.specs.RangeHistories.{serving, is_avoided}
use Rattle.mon_topo.specs.Settings.{Setting}
use Rattle.mon_topo.specs.Views.{IsSound, View}
use Rattle.mon_topo.specs.Zones.{first_leaf, first_range, range_zones}
use Rattle.mon_topo.specs.declared.zones.ZoneSpec.{ZoneSpec}
use Rattle.mon_value.specs.Histories.{range_history}
use Rattle.mon_value.specs.declared.histories.Histories.{Histories}
use Rattle.mon_value.specs.declared.histories.RangeEntry.{RangeEntry}
use Rattle.mon_value.specs.declared.positions.FoundDown.{FoundDown}
use Rattle.mon_value.specs.declared.positions.Leaf.{Leaf}
use Rattle.mon_value.specs.declared.positions.Range.{Range}
use Rattle.mon_value.specs.declared.positions.SlotLeaf.{SlotLeaf}
use Rattle.query_traces.proofs.FindingLemmas.{all_named}
use Rattle.query_core.proofs.FoundsTold.{EndHas, HasThen, StageHas, settles_has, told_has}
use Rattle.query_core.proofs.RightAnswers.{AreKept, kept_first, keeps}
use Rattle.query_traces.proofs.RoundLemmas.{has_at}
use Rattle.query_traces.proofs.SeenSpans.{near_at}
use Rattle.query_core.proofs.TraceClaims as claim
use Rattle.query_traces.proofs.ZoneFacts.{leaves_next, zone_of_range_at}
use Rattle.query_traces.specs.Askings.{IsAskedOf}
use Rattle.query_core.specs.Courses.{founds_in}
use Rattle.query_traces.specs.Founds.{found_down, founds_of_zone}
use Rattle.query_core.specs.Machine.{Query, new_query, slots_at}
use Rattle.query_core.specs.Program.{after}
use Rattle.query_traces.specs.Rounds.{area_of, has_leaf, Round, QuerySetting}
use Rattle.query_core.specs.Sessions as session
use Rattle.query_core.specs.ToldDowns.{AreOfItsZone, NamesAll, down_told, downs_told}
use Rattle.query_traces.specs.Traces.{found_leaves}
use Rattle.query_traces.specs.declared.answers.Answer.{Answer}
use Rattle.query_traces.specs.declared.answers.RoundFault.{RoundFault}
use Rattle.query_traces.specs.declared.answers.RoundFault.TheVariants as fault
use Rattle.query_traces.specs.declared.areas.Area.{Area}
use Rattle.query_traces.specs.declared.asks.Told.{Told}
use Rattle.query_traces.specs.declared.asks.Told.TheVariants as told
use Rattle.query_core.specs.declared.courses.Course.{Course}
use Rattle.query_core.specs.declared.stages.Stage.{Stage}
use Rattle.query_core.specs.declared.stages.Stage.TheVariants as at

-- the leaves of a range's zone are named, and the range is one of the zone's
pub record NamedSo (zones : List ZoneSpec) (range : Range) (founds named : List FoundDown) : Type 0 where
  pub are : AreOfItsZone zones range founds named
  pub there : are.zone < length zones
  pub from : first_range zones are.zone ≤ range.0
  pub to : range.0 < first_range zones are.zone + (area_of zones are.zone).ranges

module _ (store : Setting) (setting : QuerySetting) (moment : ℤ) (asked : IsAskedOf store setting)
    (at_entry : Histories) where
  abbrev zs : List ZoneSpec
  zs = store.zones

  abbrev Are : List FoundDown → List FoundDown → Type 0
  Are all founds = founds ≡ all

  abbrev Named : List FoundDown → Range → List FoundDown → Type 0
  Named all range named = NamedSo zs range all named

  abbrev StageIs : List FoundDown → Stage → Type 0
  StageIs all = StageHas (Are all) (Named all)

  -- nothing more is told
  none_more : (all founds : List FoundDown) → founds ≡ all → founds ≡ all ++ []
  none_more all founds same = same ∙ sym (append-nil all)

  none_named : (all : List FoundDown) (end : Result Answer RoundFault) → EndHas (Are all) (Named all) end
      → EndHas (Are (all ++ [])) (Named (all ++ [])) end
  none_named all end h = subst (λ (some : List FoundDown). EndHas (Are some) (Named some) end) (sym (append-nil all)) h

  range_named : (all : List FoundDown) (now : View) (avoided : List Leaf) (course : Course) (round : Round)
      (range : Range) → claim.ResolvingSo store setting at_entry now avoided course round range
      → course.founds ≡ all → NamedSo zs range all (founds_in course round.area)
  range_named all now avoided course round range is same =
      let number : range.0 ≡ first_range zs is.k + length round.resolved = ap (λ (r : Range). r.0) is.next in
      record {
        are = record {
          zone = is.k;
          zoned = ap (slice_get (range_zones zs)) number
              ∙ zone_of_range_at zs is.k (length round.resolved) is.zone.there is.more;
          named_are = ap (λ (founds : List FoundDown). founds_of_zone founds round.area) same
              ∙ ap (λ (area : Area). founds_of_zone all area) is.zone.area;
        };
        there = is.zone.there;
        from = omega (arith, number);
        to = omega (arith, number, is.more);
      }

  told_one : (all : List FoundDown) (now : View) (avoided : List Leaf) (stage : Stage) (answer : Told)
      → claim.StageSo store setting at_entry now avoided stage → StageIs all stage
      → HasThen (Are (all ++ down_told stage answer)) (Named (all ++ down_told stage answer)) stage answer
  told_one all now avoided (at.Visiting course round visits leaf) (told.Down cut) is h =
      ap (λ (founds : List FoundDown). founds ++ found_down leaf cut ∷ []) h
  told_one all now avoided (at.Visiting course round visits leaf) (told.Word word seen) is h =
      none_more all course.founds h
  told_one all now avoided (at.Visiting course round visits leaf) (told.Slot slot other) is h =
      none_more all course.founds h
  told_one all now avoided (at.Visiting course round visits leaf) told.NoSlot is h = none_more all course.founds h
  told_one all now avoided (at.Visiting course round visits leaf) (told.Unread cut) is h =
      none_more all course.founds h
  told_one all now avoided (at.Visiting course round visits leaf) (told.Read cut answer) is h =
      none_more all course.founds h
  told_one all now avoided (at.Visiting course round visits leaf) (told.Over load cut) is h =
      none_more all course.founds h
  told_one all now avoided (at.Resolving course round range) told.NoSlot is h =
      range_named (all ++ []) now avoided course round range is (none_more all course.founds h)
  told_one all now avoided (at.Resolving course round range) (told.Word word seen) is h =
      none_more all course.founds h
  told_one all now avoided (at.Resolving course round range) (told.Slot slot other) is h =
      none_more all course.founds h
  told_one all now avoided (at.Resolving course round range) (told.Down cut) is h = none_more all course.founds h
  told_one all now avoided (at.Resolving course round range) (told.Unread cut) is h = none_more all course.founds h
  told_one all now avoided (at.Resolving course round range) (told.Read cut answer) is h =
      none_more all course.founds h
  told_one all now avoided (at.Resolving course round range) (told.Over load cut) is h = none_more all course.founds h
  told_one all now avoided (at.Rooting loading) answer is h = none_more all [] h
  told_one all now avoided (at.Entering course round loading) answer is h = none_more all course.founds h
  told_one all now avoided (at.Reloading course round loading) answer is h = none_more all course.founds h
  told_one all now avoided (at.Ended end) answer is h = none_named all end h

  session_named : (events : List (session.Event store setting moment)) (before : View) (query : Query)
      (all : List FoundDown) → AreKept store setting moment asked at_entry before query → StageIs all query.stage
      → session.IsLicensed store setting moment before query events
      → StageIs (all ++ downs_told store setting moment query events)
      (session.query_after store setting moment query events).stage
  session_named [] before query all also h licensed =
      subst (λ (some : List FoundDown). StageIs some query.stage) (sym (append-nil all)) h
  session_named (event ∷ events) before query all also h licensed =
      let next = session.told_then store setting moment query event in
      let first = down_told query.stage event.answer in
      let rest = downs_told store setting moment next events in
      let Has = Are (all ++ first) in
      let Names = Named (all ++ first) in
      subst (λ (some : List FoundDown). StageIs some (session.query_after store setting moment next events).stage)
      (append_assoc all first rest)
      (session_named events event.view next (all ++ first)
      ((keeps store setting moment asked at_entry).on before query event also licensed.0).0
      (settles_has Has Names setting (after setting query.stage event.answer) event.stage
      (told_has Has Names store setting moment before event.view query.avoided (slots_at query) query.stage event.answer
      (told_one all before query.avoided query.stage event.answer also.stage h) licensed.0.true_then)
      licensed.0.goes_on) licensed.1)

  end_names : (all : List FoundDown) (end : Result Answer RoundFault) → EndHas (Are all) (Named all) end
      → NamesAll zs all end
  end_names all (Ok answer) h = h
  end_names all (Err (fault.NoReplica range named)) h = h.are
  end_names all (Err (fault.StepLimit limit trace)) h = h

-- where a query ends
module _ (store : Setting) (setting : QuerySetting) (moment : ℤ) (view : View)
    (events : List (session.Event store setting moment)) where
  abbrev all_told : List FoundDown
  all_told = downs_told store setting moment (new_query setting) events

  abbrev EndsSo : Result Answer RoundFault → Type 0
  EndsSo end = (session.query_after store setting moment (new_query setting) events).stage ≡ at.Ended end

  ended_so : (end : Result Answer RoundFault) (asked : IsAskedOf store setting) → IsSound store view
      → session.IsLicensed store setting moment view (new_query setting) events → EndsSo end
      → EndHas (Are store setting moment asked view.seen all_told) (Named store setting moment asked view.seen all_told)
      end
  ended_so end asked sound licensed ended =
      subst (StageHas (Are store setting moment asked view.seen all_told)
      (Named store setting moment asked view.seen all_told)) ended
      (session_named store setting moment asked view.seen events view (new_query setting) []
      (kept_first store setting moment asked view.seen view refl sound) refl licensed)

  pub names_all : (end : Result Answer RoundFault) → IsAskedOf store setting → IsSound store view
      → session.IsLicensed store setting moment view (new_query setting) events → EndsSo end
      → NamesAll store.zones all_told end
  names_all end asked sound licensed ended =
      end_names store setting moment asked view.seen all_told end (ended_so end asked sound licensed ended)

  pub named_so : (range : Range) (named : List FoundDown) → IsAskedOf store setting → IsSound store view
      → session.IsLicensed store setting moment view (new_query setting) events
      → EndsSo (Err (fault.NoReplica range named)) → NamedSo store.zones range all_told named
  named_so range named asked sound licensed ended =
      ended_so (Err (fault.NoReplica range named)) asked sound licensed ended

-- where each replica of a range that serves is on a leaf that was found down, it is on one that is named
pub serve_on_named : (store : Setting) (setting : QuerySetting) → IsAskedOf store setting → (at_entry now : Histories)
    → AreHeld store.held store.zones store.points now → AreWithin at_entry now → (range : Range)
    (founds named : List FoundDown) → NamedSo store.zones range founds named
    → All (λ (replica : SlotLeaf). is_avoided (found_leaves founds) replica ≡ true) (serving (range_history now range))
    → All (λ (replica : SlotLeaf). is_avoided (found_leaves named) replica ≡ true) (serving (range_history now range))
serve_on_named store setting asked at_entry now held since range founds named so down =
    let zs : List ZoneSpec = store.zones in
    let k = so.are.zone in
    let whole = range_history now range in
    let near = near_at store.held zs store.points asked.replicas at_entry now held since k so.there range
    (so.from, so.to) (length whole) in
    let ours : All (λ (replica : SlotLeaf). has_leaf (area_of zs k) replica.leaf ≡ true)
    (serving (take (length whole) whole)) =
    all_on (λ (replica : SlotLeaf). (first_leaf zs k ≤ replica.leaf.0) × (replica.leaf.0 < first_leaf zs (k + 1)))
    (λ (replica : SlotLeaf). has_leaf (area_of zs k) replica.leaf ≡ true)
    (λ replica here. has_at (area_of zs k) replica.leaf (replica.leaf.0 - first_leaf zs k)
    (omega (arith, here.0, here.1, leaves_next zs k so.there)) (omega (arith, here.0)))
    (serving (take (length whole) whole)) near in
    subst (λ (some : List FoundDown). All (λ (replica : SlotLeaf). is_avoided (found_leaves some) replica ≡ true)
    (serving whole)) (sym so.are.named_are)
    (all_named (area_of zs k) founds (serving whole)
    (subst (λ (h : List RangeEntry). All (λ (replica : SlotLeaf). has_leaf (area_of zs k) replica.leaf ≡ true)
    (serving h)) (take-length whole) ours) down)
