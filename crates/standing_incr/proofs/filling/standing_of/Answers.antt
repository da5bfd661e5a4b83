use Rattle.std.proofs.Common.{◌≡◌, ◌≤◌, ◌+◌, ◌^◌, ℕ, ℤ, to_z, of_z, w64, rules, sym, subst, arith}
use Rattle.mon_value.specs.declared.limits.TheConstants.{ROW_BITS}
use Rattle.typed_trees.specs.Meaning.{load}
use Rattle.typed_trees.specs.Nodes.{typed_tree}
use Rattle.mon_meaning.specs.Central.{IsOver}
use Rattle.mon_meaning.specs.Counts.{TellsOver}
use Rattle.mon_meaning.specs.declared.meter.OverLimit.{OverLimit}
use Rattle.standing_incr.specs.KeptTables.{IsAligned}
use Rattle.standing_incr.proofs.FillLemmas.{can_group, filled_told, over_told}
use Rattle.standing_incr.proofs.filling.standing_of.Goals as goal

pub whole_standing-requires : goal.whole_standing-requires
whole_standing-requires c =
    let typed = typed_tree c.args.typed.now in
    let held = c.args.held.now in
    let moment : to_z w64 (of_z w64 c.args.moment) ≡ c.args.moment = search rules in
    let counted : c.aligned_table.new.meter.load ≡ c.new-meter.result.load + load typed held c.args.moment =
    subst (λ (m : ℤ). c.aligned_table.new.meter.load ≡ c.new-meter.result.load + load typed held m) moment
    c.in-Ok.ensures.counted in
    let aligned = subst (λ (m : ℤ). IsAligned typed m held c.in-Ok.table) moment c.in-Ok.ensures.aligned in
    let none = c.new-meter.ensures.none in
    let limit = c.in-Ok.ensures.limit in
    let most = c.new-meter.ensures.limit in
    let within = c.aligned_table.new.meter.within in
    let few : load typed held c.args.moment ≤ 2 ^ ROW_BITS = omega arith in
    record {
      can = can_group typed c.args.moment held c.requires.path c.requires.typed c.requires.moment c.in-Ok.table
          aligned few;
    }

pub returns-in-Ok : goal.returns-in-Ok
returns-in-Ok c =
    let typed = typed_tree c.args.typed.now in
    let held = c.args.held.now in
    let moment : to_z w64 (of_z w64 c.args.moment) ≡ c.args.moment = search rules in
    let counted : c.aligned_table.new.meter.load ≡ c.new-meter.result.load + load typed held c.args.moment =
    subst (λ (m : ℤ). c.aligned_table.new.meter.load ≡ c.new-meter.result.load + load typed held m) moment
    c.in-Ok.ensures.counted in
    let aligned = subst (λ (m : ℤ). IsAligned typed m held c.in-Ok.table) moment c.in-Ok.ensures.aligned in
    let none = c.new-meter.ensures.none in
    let limit = c.in-Ok.ensures.limit in
    let most = c.new-meter.ensures.limit in
    let room = c.room.ensures.room in
    let within = c.aligned_table.new.meter.within in
    let few : load typed held c.args.moment ≤ 2 ^ ROW_BITS = omega arith in
    record {
      stands = filled_told typed c.args.moment held c.requires.path c.requires.typed c.requires.moment c.in-Ok.table
          aligned few _ (omega arith) c.whole_standing.result c.whole_standing.ensures.whole;
    }

pub returns-in-Err-Fault : goal.returns-in-Err-Fault
returns-in-Err-Fault c =
    let typed = typed_tree c.args.typed.now in
    let held = c.args.held.now in
    let moment : to_z w64 (of_z w64 c.args.moment) ≡ c.args.moment = search rules in
    let none = c.new-meter.ensures.none in
    let most = c.new-meter.ensures.limit in
    let over = subst (λ (m : ℤ). TellsOver c.new-meter.result.limit (c.new-meter.result.load + load typed held m)
    c.in-Err-Fault.field-0) moment c.in-Err-Fault.ensures.over in
    let fact : IsOver typed held c.args.moment c.new-meter.result.limit c.in-Err-Fault.over =
    over_told typed c.args.moment held c.requires.path c.requires.typed c.requires.moment c.new-meter.result.limit _
    c.in-Err-Fault.field-0 c.in-Err-Fault.over c.in-Err-Fault.field-0-is (omega arith) over in
    let told : IsOver typed held c.args.moment 16777216 c.in-Err-Fault.over =
    subst (λ (n : ℕ). IsOver typed held c.args.moment n c.in-Err-Fault.over) most fact in
    record {
      stands = subst (λ (over : OverLimit). IsOver typed held c.args.moment 16777216 over) (sym c.in-Err-Fault.over-is)
          told;
    }
