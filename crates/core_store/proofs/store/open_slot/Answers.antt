use Rattle.core_store.proofs.OpeningLemmas.{slot_follows, slot_opened}
use Rattle.core_store.proofs.store.open_slot.Goals as goal

pub apply-requires-clause-follows : goal.apply-requires-clause-follows
apply-requires-clause-follows c =
    slot_follows c.args.range c.args.slot c.args.state.now c.reserve_opened.new.self c.new-rows.result
    c.in_ok-reserve_opened.ensures.promised c.new-rows.ensures.empty c.requires.may

pub returns : goal.returns
returns c = record {
  opened = slot_opened c.args.range c.args.slot c.args.state.now c.reserve_opened.new.self _ c.new-rows.result
      c.in_ok-reserve_opened.ensures.promised c.new-rows.ensures.empty c.apply.ensures.applied;
}
