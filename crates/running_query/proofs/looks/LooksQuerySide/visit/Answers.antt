use Rattle.std.proofs.Common.{rules, ◌≡◌, ◌≤ℤ◌, ℕ, ℤ, List, map, pos, sym, subst, to_z, of_z, w64}
use Rattle.mon_hints.specs.Formulas.{all_named, formula_tree, formulas, AreAmong}
use Rattle.mon_meaning.specs.ReadableSlots.{CanBeRead}
use Rattle.mon_value.specs.Histories.{leaf_history}
use Rattle.mon_value.specs.declared.positions.RangeSlot.{RangeSlot}
use Rattle.typed_trees.specs.Nodes.{typed_tree}
use Rattle.typed_trees.specs.declared.plans.Plan.{Plan}
use Rattle.query_core.specs.Machine.{slots_of}
use Rattle.running_query.proofs.AnswerLemmas.{leaf_answered, leaf_there, listed, readable}
use Rattle.running_query.specs.Telling.{LooksSo}
use Rattle.running_query.proofs.looks.LooksQuerySide.visit.Goals as goal
use Rattle.mon_value.proofs.PlainLemmas.{if_ok_on}

pub look-requires : goal.look-requires
look-requires g c =
    let s = c.requires.asked.somewhere in
    let setting = c.args.machine.now.setting in
    let same : to_z w64 (of_z w64 c.args.moment) ≡ c.args.moment = search rules in
    record {
      there = leaf_there g.N.Names.setting g.N.RaiseName.raise setting c.args.moment s.entry c.args.caller.now
          c.args.machine.now s.under_way c.args.leaf c.requires.asked.asks;
      listed = subst (λ (plan : Plan). AreAmong (all_named (formulas (map formula_tree plan.formulas))) plan.buckets)
          (sym c.plan.ensures.plan)
          (listed g.N.Names.setting g.N.RaiseName.raise setting c.args.moment s.entry c.args.caller.now
          c.args.machine.now s.under_way);
      moment = subst (λ (m : ℤ). pos 0 ≤ℤ m) (sym same) s.under_way.here.from;
      limit = c.limit-limit.ensures.most;
      readable = λ later looked sound.
          subst (λ (plan : Plan). CanBeRead (typed_tree plan.typed) (leaf_history later.seen c.args.leaf)
          c.slots-slots.result.now) (sym c.plan.ensures.plan)
          (subst (λ (slots : List RangeSlot). CanBeRead (typed_tree setting.plan.typed)
          (leaf_history later.seen c.args.leaf) slots) (sym c.slots-slots.ensures.slots)
          (readable g.N.Names.setting g.N.RaiseName.raise setting c.args.moment s.entry c.args.caller.now
          c.args.machine.now s.under_way c.args.leaf c.requires.asked.asks later looked sound));
    }

pub returns-clause-told : goal.returns-clause-told
returns-clause-told g c =
    let s = c.requires.asked.somewhere in
    let setting = c.args.machine.now.setting in
    let same : to_z w64 (of_z w64 c.args.moment) ≡ c.args.moment = search rules in
    if_ok_on _ _ (λ told is.
    leaf_answered g.N.Names.setting g.N.RaiseName.raise setting c.args.moment s.entry c.args.caller.now
    c.args.machine.now s.under_way c.look.new.know c.look.ensures.goes told c.args.leaf c.requires.asked.asks
    (subst (λ (limit : ℕ). LooksSo g.N.Names.setting setting.plan c.args.moment limit
    (slots_of c.args.machine.now.stage c.args.leaf) c.args.leaf c.args.caller.now c.look.new.know told)
    c.limit-limit.ensures.limit
    (subst (λ (m : ℤ). LooksSo g.N.Names.setting setting.plan m c.limit-limit.result
    (slots_of c.args.machine.now.stage c.args.leaf) c.args.leaf c.args.caller.now c.look.new.know told) same
    (subst (λ (slots : List RangeSlot). LooksSo g.N.Names.setting setting.plan (to_z w64 (of_z w64 c.args.moment))
    c.limit-limit.result slots c.args.leaf c.args.caller.now c.look.new.know told) c.slots-slots.ensures.slots
    (subst (λ (plan : Plan). LooksSo g.N.Names.setting plan (to_z w64 (of_z w64 c.args.moment))
    c.limit-limit.result c.slots-slots.result.now c.args.leaf c.args.caller.now c.look.new.know told)
    c.plan.ensures.plan is))))) c.look.result c.look.ensures.looks
