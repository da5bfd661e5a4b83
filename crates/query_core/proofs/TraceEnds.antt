-- How a query's end stands to the rows of its trace: its table is what it means over them, and a load that is above the
-- limit is that over them.
use Rattle.std.proofs.Common.{◌≡◌, ◌∙◌, ◌<◌, ◌≤ℤ◌, inl, inr, ℤ, pos, sym, ap, subst}
use Rattle.mon_meaning.specs.Central.{IsMeant}
use Rattle.mon_value.specs.declared.histories.Histories.{Histories}
use Rattle.mon_topo.specs.HeldHistories.{AreHeld}
use Rattle.typed_trees.specs.Meaning.{load}
use Rattle.mon_topo.specs.Settings.{Setting}
use Rattle.query_traces.specs.Askings.{IsAskedOf}
use Rattle.query_traces.specs.declared.answers.Answer.{Answer}
use Rattle.query_traces.specs.declared.answers.Trace.{Trace}
use Rattle.query_core.specs.declared.courses.Course.{Course}
use Rattle.query_core.specs.Courses.{with_zone_behind, trace_of}
use Rattle.query_traces.specs.Rounds.{typed_of, QuerySetting}
use Rattle.query_traces.specs.Traces.{source_of}
use Rattle.query_core.proofs.PartClaims.{AnsweredSo, LeafOver, OverSo, RootOver, ZoneOver}
use Rattle.query_core.proofs.SentRows.{AllSent, stopped_sends, whole_sends}
use Rattle.query_core.proofs.StoppedTraces.{leaf_over, zone_over}
use Rattle.query_core.proofs.UnreadLeaves.{TellsOf}
use Rattle.query_core.proofs.WholeTraces.{root_over, table_meant}
use Rattle.query_core.proofs.ZoneRows.{AllZoned}

module _ (store : Setting) (setting : QuerySetting) (asked : IsAskedOf store setting) (moment : ℤ)
    (from : pos 0 ≤ℤ moment) (exit : Histories) (held : AreHeld store.held store.zones store.points exit) where
  pub answered : (answer : Answer) → AnsweredSo store setting moment (TellsOf setting) exit answer
      → AllZoned store.zones answer.trace.resolved
      → IsMeant (typed_of setting) (source_of exit answer.trace) moment setting.limit answer.table
  answered answer so zoned =
      subst (λ (of : Trace). IsMeant (typed_of setting) (source_of exit of) moment setting.limit answer.table)
      (sym so.trace_is)
      (table_meant store setting asked moment from exit held so.course so.through
      (subst (λ (of : Trace). AllZoned store.zones of.resolved) so.trace_is zoned) so.tells answer.table so.mixes)

  abbrev IsAbove : Trace → Type 0
  IsAbove of = setting.limit < load (typed_of setting) (source_of exit of) moment

  leaf_above : (of : Trace) → LeafOver store setting moment exit of → AllZoned store.zones of.resolved → IsAbove of
  leaf_above of so zoned =
      subst IsAbove (sym so.trace_is)
      (leaf_over store setting asked moment from exit held so.before so.area so.resolved so.looks so.in_zone so.whole
      (subst (λ (of : Trace). AllZoned store.zones of.resolved) so.trace_is zoned) so.place so.cut so.over so.there
      so.told so.is)

  zone_above : (of : Trace) → ZoneOver store setting moment (TellsOf setting) exit of → AllZoned store.zones
      of.resolved → IsAbove of
  zone_above of so zoned =
      let own = so.gathered in
      let trace_is : of ≡ trace_of (with_zone_behind own.before own.resolved own.looks) = so.trace_is
      ∙ ap trace_of own.is in
      subst IsAbove (sym trace_is)
      (zone_over store setting asked moment from exit held own.before own.area own.resolved own.looks own.in_zone
      own.whole
      (subst (λ (of : Trace). AllZoned store.zones of.resolved) trace_is zoned) so.parts so.over own.parts_so
      (subst (λ (course : Course). TellsOf setting exit course) own.is so.tells) so.mixes)

  root_above : (of : Trace) → RootOver store setting moment (TellsOf setting) exit of → AllZoned store.zones
      of.resolved → IsAbove of
  root_above of so zoned =
      subst IsAbove (sym so.trace_is)
      (root_over store setting asked moment from exit held so.course so.through
      (subst (λ (of : Trace). AllZoned store.zones of.resolved) so.trace_is zoned) so.tells so.over so.mixes)

  pub above : (of : Trace) → OverSo store setting moment (TellsOf setting) exit of → AllZoned store.zones of.resolved
      → setting.limit < load (typed_of setting) (source_of exit of) moment
  above of (inl leaf) zoned = leaf_above of leaf zoned
  above of (inr (inl zone)) zoned = zone_above of zone zoned
  above of (inr (inr root)) zoned = root_above of root zoned

  -- ---- what each leaf sent

  abbrev IsSent : Trace → Type 0
  IsSent of = AllSent store setting asked moment from exit held of

  pub answered_sends : (answer : Answer) → AnsweredSo store setting moment (TellsOf setting) exit answer
      → AllZoned store.zones answer.trace.resolved → IsSent answer.trace
  answered_sends answer so zoned =
      subst IsSent (sym so.trace_is)
      (whole_sends store setting asked moment from exit held so.course so.through
      (subst (λ (of : Trace). AllZoned store.zones of.resolved) so.trace_is zoned))

  leaf_sends : (of : Trace) → LeafOver store setting moment exit of → AllZoned store.zones of.resolved → IsSent of
  leaf_sends of so zoned =
      subst IsSent (sym so.trace_is)
      (stopped_sends store setting asked moment from exit held so.before so.area so.resolved so.looks so.in_zone
      so.whole
      (subst (λ (of : Trace). AllZoned store.zones of.resolved) so.trace_is zoned) so.parts so.parts_so)

  zone_sends : (of : Trace) → ZoneOver store setting moment (TellsOf setting) exit of → AllZoned store.zones of.resolved
      → IsSent of
  zone_sends of so zoned =
      let own = so.gathered in
      let trace_is : of ≡ trace_of (with_zone_behind own.before own.resolved own.looks) = so.trace_is
      ∙ ap trace_of own.is in
      subst IsSent (sym trace_is)
      (stopped_sends store setting asked moment from exit held own.before own.area own.resolved own.looks own.in_zone
      own.whole
      (subst (λ (of : Trace). AllZoned store.zones of.resolved) trace_is zoned) so.parts own.parts_so)

  root_sends : (of : Trace) → RootOver store setting moment (TellsOf setting) exit of → AllZoned store.zones of.resolved
      → IsSent of
  root_sends of so zoned =
      subst IsSent (sym so.trace_is)
      (whole_sends store setting asked moment from exit held so.course so.through
      (subst (λ (of : Trace). AllZoned store.zones of.resolved) so.trace_is zoned))

  pub over_sends : (of : Trace) → OverSo store setting moment (TellsOf setting) exit of → AllZoned store.zones
      of.resolved
      → IsSent of
  over_sends of (inl leaf) zoned = leaf_sends of leaf zoned
  over_sends of (inr (inl zone)) zoned = zone_sends of zone zoned
  over_sends of (inr (inr root)) zoned = root_sends of root zoned
