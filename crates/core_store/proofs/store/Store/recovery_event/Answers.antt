use Rattle.std.proofs.Common.{◌∙◌, Option, sym}
use Rattle.core_store.proofs.RecoveryLeafLemmas.{entry_answers, may_raise_root, may_raise_zone, room_answers}
use Rattle.core_store.proofs.RecoveryLeafLemmas.{root_answers, source_answers, zone_answers}
use Rattle.core_store.proofs.RecoveryLemmas.{leaf_seated, leaf_there, own_leaf, range_seated, range_there, source_leaf}
use Rattle.core_store.proofs.RecoveryRangeLemmas.{lock_answers}
use Rattle.core_store.proofs.RecoveryTurnLemmas.{copied_there}
use Rattle.core_store.specs.RecoverTurns.{AnswersSo}
use Rattle.core_store.specs.RecoveryEvents.{AsksLeafAt, IsAdmitted, LocksRangeAt, nobody, tells_rows}
use Rattle.write_core.specs.CopySteps.{newcomer}
use Rattle.write_core.specs.declared.copies.CopyTold.{CopyTold}
use Rattle.core_store.proofs.store.Store.recovery_event.Goals as goal
use Rattle.mon_value.proofs.PlainLemmas.{if_ok_on}

pub lock_range-requires : goal.lock_range-requires
lock_range-requires c =
    let some = c.requires.opening in
    record {
      there = range_there some.config some.world some.i c.args.self.now c.args.recovering.now c.args.sight.now
          some.opening;
      seated = range_seated some.config some.world some.i c.args.self.now c.args.recovering.now c.args.sight.now
          some.opening;
    }

pub returns-in-Lock : goal.returns-in-Lock
returns-in-Lock c = record {
  answers = λ config world i opening. if_ok_on
      (λ (answer : Option CopyTold). LocksRangeAt c.args.recovering.now.number c.args.recovering.now.range
      c.args.recovering.now.leaf c.args.self.now c.lock_range.new.self c.args.sight.now c.lock_range.new.sight answer)
      (λ (answer : Option CopyTold). AnswersSo config world i c.args.recovering.now c.lock_range.new.self
      c.args.sight.now c.lock_range.new.sight answer)
      (λ answer did. lock_answers config world i c.args.self.now c.args.recovering.now c.args.sight.now opening
      (sym c.next.ensures.ask ∙ c.in-Lock.is) c.lock_range.new.self c.lock_range.new.sight answer did)
      c.lock_range.result c.lock_range.ensures.locks;
}

pub copy_from-requires : goal.copy_from-requires
copy_from-requires c =
    let some = c.requires.opening in
    let listed = source_leaf some.config some.world some.i c.args.self.now c.args.recovering.now c.args.sight.now
    some.opening c.in-Copy.slot c.in-Copy.source (sym c.next.ensures.ask ∙ c.in-Copy.is) in
    record {
      there = leaf_there some.config some.world some.i c.args.self.now c.args.recovering.now c.args.sight.now
          some.opening c.in-Copy.source listed;
      seated = leaf_seated some.config some.world some.i c.args.self.now c.args.recovering.now c.args.sight.now
          some.opening c.in-Copy.source listed;
    }

pub returns-in-Copy : goal.returns-in-Copy
returns-in-Copy c = record {
  answers = λ config world i opening. if_ok_on
      (λ (answer : Option CopyTold). AsksLeafAt (tells_rows c.args.recovering.now.range c.in-Copy.slot) nobody
      c.in-Copy.source c.args.self.now c.copy_from.new.self c.args.sight.now c.copy_from.new.sight answer)
      (λ (answer : Option CopyTold). AnswersSo config world i c.args.recovering.now c.copy_from.new.self
      c.args.sight.now c.copy_from.new.sight answer)
      (λ answer did. source_answers config world i c.args.self.now c.args.recovering.now c.args.sight.now opening
      c.in-Copy.slot c.in-Copy.source (sym c.next.ensures.ask ∙ c.in-Copy.is) c.copy_from.new.self
      c.copy_from.new.sight answer did)
      c.copy_from.result c.copy_from.ensures.asks;
}

pub room_on-requires : goal.room_on-requires
room_on-requires c =
    let some = c.requires.opening in
    let listed = own_leaf some.config some.world some.i c.args.self.now c.args.recovering.now c.args.sight.now
    some.opening in
    record {
      there = leaf_there some.config some.world some.i c.args.self.now c.args.recovering.now c.args.sight.now
          some.opening c.args.recovering.now.leaf listed;
      seated = leaf_seated some.config some.world some.i c.args.self.now c.args.recovering.now c.args.sight.now
          some.opening c.args.recovering.now.leaf listed;
    }

pub returns-in-Reserve : goal.returns-in-Reserve
returns-in-Reserve c = record {
  answers = λ config world i opening. room_answers config world i c.args.self.now c.args.recovering.now
      c.args.sight.now opening (sym c.next.ensures.ask ∙ c.in-Reserve.is) c.room_on.new.self c.room_on.new.sight
      c.room_on.result c.room_on.ensures.asks;
}

pub rows_of-rows-requires : goal.rows_of-rows-requires
rows_of-rows-requires c = record {
  copied = copied_there c.args.recovering.now.machine (sym c.next.ensures.ask ∙ c.in-Enter.is);
}

pub admit_to-requires : goal.admit_to-requires
admit_to-requires c =
    let some = c.requires.opening in
    let listed = own_leaf some.config some.world some.i c.args.self.now c.args.recovering.now c.args.sight.now
    some.opening in
    record {
      there = leaf_there some.config some.world some.i c.args.self.now c.args.recovering.now c.args.sight.now
          some.opening c.args.recovering.now.leaf listed;
      seated = leaf_seated some.config some.world some.i c.args.self.now c.args.recovering.now c.args.sight.now
          some.opening c.args.recovering.now.leaf listed;
    }

pub returns-in-Enter : goal.returns-in-Enter
returns-in-Enter c = record {
  answers = λ config world i opening. if_ok_on
      (λ (answer : Option CopyTold). AsksLeafAt (IsAdmitted c.rows_of-rows.result.now)
      (newcomer c.args.recovering.now.number) c.args.recovering.now.leaf c.args.self.now c.admit_to.new.self
      c.args.sight.now c.admit_to.new.sight answer)
      (λ (answer : Option CopyTold). AnswersSo config world i c.args.recovering.now c.admit_to.new.self
      c.args.sight.now c.admit_to.new.sight answer)
      (λ answer did. entry_answers config world i c.args.self.now c.args.recovering.now c.args.sight.now opening
      (sym c.next.ensures.ask ∙ c.in-Enter.is) c.rows_of-rows.result.now c.rows_of-rows.ensures.rows
      c.admit_to.new.self c.admit_to.new.sight answer did)
      c.admit_to.result c.admit_to.ensures.asks;
}

pub raise_at_root-requires : goal.raise_at_root-requires
raise_at_root-requires c =
    let some = c.requires.opening in
    let listed = own_leaf some.config some.world some.i c.args.self.now c.args.recovering.now c.args.sight.now
    some.opening in
    record {
      there = leaf_there some.config some.world some.i c.args.self.now c.args.recovering.now c.args.sight.now
          some.opening c.args.recovering.now.leaf listed;
      seated = leaf_seated some.config some.world some.i c.args.self.now c.args.recovering.now c.args.sight.now
          some.opening c.args.recovering.now.leaf listed;
      may = may_raise_root some.config some.world some.i c.args.self.now c.args.recovering.now c.args.sight.now
          some.opening c.in-RaiseRoot.bucket (sym c.next.ensures.ask ∙ c.in-RaiseRoot.is);
    }

pub returns-in-RaiseRoot : goal.returns-in-RaiseRoot
returns-in-RaiseRoot c = record {
  answers = λ config world i opening. root_answers config world i c.args.self.now c.args.recovering.now
      c.args.sight.now opening c.in-RaiseRoot.bucket (sym c.next.ensures.ask ∙ c.in-RaiseRoot.is)
      c.raise_at_root.new.self c.raise_at_root.new.sight c.raise_at_root.result c.raise_at_root.ensures.done
      c.raise_at_root.ensures.raises;
}

pub raise_in_zone-requires : goal.raise_in_zone-requires
raise_in_zone-requires c =
    let some = c.requires.opening in
    let listed = own_leaf some.config some.world some.i c.args.self.now c.args.recovering.now c.args.sight.now
    some.opening in
    record {
      there = leaf_there some.config some.world some.i c.args.self.now c.args.recovering.now c.args.sight.now
          some.opening c.args.recovering.now.leaf listed;
      seated = leaf_seated some.config some.world some.i c.args.self.now c.args.recovering.now c.args.sight.now
          some.opening c.args.recovering.now.leaf listed;
      may = may_raise_zone some.config some.world some.i c.args.self.now c.args.recovering.now c.args.sight.now
          some.opening c.in-RaiseZone.bucket (sym c.next.ensures.ask ∙ c.in-RaiseZone.is);
    }

pub returns-in-RaiseZone : goal.returns-in-RaiseZone
returns-in-RaiseZone c = record {
  answers = λ config world i opening. zone_answers config world i c.args.self.now c.args.recovering.now
      c.args.sight.now opening c.in-RaiseZone.bucket (sym c.next.ensures.ask ∙ c.in-RaiseZone.is)
      c.raise_in_zone.new.self c.raise_in_zone.new.sight c.raise_in_zone.result c.raise_in_zone.ensures.done
      c.raise_in_zone.ensures.raises;
}

pub open_copy-requires : goal.open_copy-requires
open_copy-requires c = record {
  opening = c.requires.opening;
  asks = sym c.next.ensures.ask ∙ c.in-Put.is;
}

pub unreachable-requires : goal.unreachable-requires
unreachable-requires c = c.requires.more (sym c.next.ensures.ask ∙ c.in-Ack.is)

pub unreachable-requires-in-Finished : goal.unreachable-requires-in-Finished
unreachable-requires-in-Finished c = c.requires.opening.opening.goes_on (sym c.next.ensures.ask ∙ c.in-Finished.is)
