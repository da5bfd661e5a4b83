use Rattle.std.proofs.Common.{◌≡◌, ◌∙◌, ◌∷◌, Bool, List, None, Some, subst, sym, ap}
use Rattle.std.specs.Map.{set_value}
use Rattle.mon_value.specs.Same.{same_row}
use Rattle.mon_value.specs.declared.tables.TimedRow.{TimedRow}
use Rattle.mon_value.proofs.SameLemmas.{eq-same_row}
use Rattle.mon_fold.proofs.KeptGroups.{derived_test, found_group}
use Rattle.mon_fold.specs.PartialGroups.{PartialGroup}
use Rattle.kept_groups.specs.Trades.{AreGroupsOver}
use Rattle.kept_groups.proofs.GroupLemmas.{found_can, there, traded}
use Rattle.kept_groups.proofs.groups.trade_rows.Goals as goal

pub trade_parts-requires : goal.trade_parts-requires
trade_parts-requires c =
    let can = c.requires.can in
    let kept = c.in-Some.parts.now in
    found_can can.0 can.1 c.args.with.now can.2 c.args.groups.now.entries c.args.key.now c.args.gone.now c.args.come.now
    can.3 kept (sym (found_group c.args.key.now c.args.groups.now.entries (Some kept) c.in-Some.ensures.value))

pub returns-in-Some-clause-traded : goal.returns-in-Some-clause-traded
returns-in-Some-clause-traded c columns by rest can =
    let key = c.args.key.now in
    let groups = c.args.groups.now.entries in
    let kept = c.in-Some.parts.now in
    let w = c.trade_parts.new.parts in
    let tests : derived_test key ≡ same_row key = λ i other. eq-same_row key other i in
    let written = (c.get_mut.follows.holds w).0 ∙ ap (λ (test : TimedRow → Bool). set_value test groups w) tests in
    subst (λ (gs : List PartialGroup). AreGroupsOver by c.args.with.now (c.args.come.now ∷ rest) gs) (sym written)
    (traded columns by c.args.with.now rest groups key c.args.gone.now c.args.come.now can kept w
    (sym (found_group key groups (Some kept) c.in-Some.ensures.value)) c.trade_parts.ensures)

pub returns-in-None-clause-traded : goal.returns-in-None-clause-traded
returns-in-None-clause-traded c columns by rest can =
    absurd (there columns by c.args.with.now rest c.args.groups.now.entries c.args.key.now c.args.gone.now c.args.come.now
    can (found_group c.args.key.now c.args.groups.now.entries None c.in-None.ensures.value))
