use Rattle.std.proofs.Common.{refl}
use Rattle.core_store.proofs.RetirementLemmas.{slot_serves, told_so}
use Rattle.write_core.specs.declared.retirements.Retirement.TheVariants as told
use Rattle.core_store.proofs.retirements.retire_state.Goals as goal

pub retire-requires : goal.retire-requires
retire-requires c = record {
  serves = slot_serves c.args.state.now.history c.args.leaf c.in-WasRetired.slot
      (told_so c.args.state.now.history c.args.leaf c.retirement-told.result (told.WasRetired c.in-WasRetired.slot)
      c.retirement-told.ensures.told c.in-WasRetired.is);
}

pub returns-in-WasRetired-clause-told : goal.returns-in-WasRetired-clause-told
returns-in-WasRetired-clause-told c =
    told_so c.args.state.now.history c.args.leaf c.retirement-told.result (told.WasRetired c.in-WasRetired.slot)
    c.retirement-told.ensures.told c.in-WasRetired.is

pub returns-in-NotServing-clause-told : goal.returns-in-NotServing-clause-told
returns-in-NotServing-clause-told c =
    told_so c.args.state.now.history c.args.leaf c.retirement-told.result c.retirement-told.result
    c.retirement-told.ensures.told refl

pub returns-in-LastServing-clause-told : goal.returns-in-LastServing-clause-told
returns-in-LastServing-clause-told c =
    told_so c.args.state.now.history c.args.leaf c.retirement-told.result c.retirement-told.result
    c.retirement-told.ensures.told refl
