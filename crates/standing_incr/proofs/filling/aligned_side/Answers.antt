use Rattle.std.proofs.Common.{◌≡◌, ◌+◌, ℤ, to_z, of_z, w64, rules, sym, subst, arith}
use Rattle.std.specs.Prelude.{IsPermutation}
use Rattle.typed_trees.specs.Meaning.{grid_of, load, rows_meant}
use Rattle.typed_trees.specs.Nodes.{typed_tree}
use Rattle.standing_incr.specs.KeptTables.{IsAligned, aligned_part}
use Rattle.standing_incr.proofs.filling.aligned_side.Goals as goal

pub returns-in-Ok : goal.returns-in-Ok
returns-in-Ok c =
    let typed = typed_tree c.args.typed.now in
    let held = c.args.held.now in
    let moment : to_z w64 (of_z w64 c.args.moment) ≡ c.args.moment = search rules in
    let counted : c.aligned_table.new.meter.load ≡ c.new-meter.result.load + load typed held c.args.moment =
    subst (λ (m : ℤ). c.aligned_table.new.meter.load ≡ c.new-meter.result.load + load typed held m) moment
    c.in-Ok.ensures.counted in
    let aligned = subst (λ (m : ℤ). IsAligned typed m held c.in-Ok.table) moment c.in-Ok.ensures.aligned in
    let none = c.new-meter.ensures.none in
    let limit = c.in-Ok.ensures.limit in
    let most = c.new-meter.ensures.limit in
    let room = c.room.ensures.room in
    let within = c.aligned_table.new.meter.within in
    let made = c.side_with.ensures.load in
    record {
      side = record {
        rows = subst (IsPermutation (rows_meant (grid_of typed c.args.moment) (aligned_part typed.tree) held))
            (sym c.side_with.ensures.rows) aligned.rows_are;
        load_is = omega arith;
      };
    }
