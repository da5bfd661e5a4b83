use Rattle.std.proofs.Common.{◌<◌, arith}
use Rattle.std.specs.List.{count_by}
use Rattle.mon_value.specs.LeafHistories.{is_switch}
use Rattle.mon_value.specs.declared.limits.TheConstants.{MOST_SWITCHES}
use Rattle.core_store.proofs.SwitchEntryLemmas.{switch_follows}
use Rattle.core_store.proofs.switches.switch_state.Goals as goal

pub apply-requires-clause-follows : goal.apply-requires-clause-follows
apply-requires-clause-follows c =
    let few : count_by is_switch c.args.state.now.history < MOST_SWITCHES
    = omega (arith, c.switches_left.ensures.left, c.if-switches_left-eq0.false) in
    switch_follows c.args.state.now.history c.args.down c.args.number c.switch_entry.result
    c.switch_entry.ensures.entry c.length-length.ensures.formed (c.is_so.ensures.other c.if-is_so.false) few
