use Rattle.std.proofs.Common.{rules, ◌≡◌, ◌∙◌, ℤ, List, ℕ, Ok, subst, to_z, of_z, w64}
use Rattle.line_runs.proofs.Printed.{table_prints}
use Rattle.line_runs.proofs.Results.{ok_as}
use Rattle.line_runs.proofs.Typed.{not_over}
use Rattle.line_runs.specs.Questions.{meant_text}
use Rattle.mon_meaning.specs.Central.{IsMeant, IsOver, IsRefusedBy}
use Rattle.mon_table.specs.Tables.{printed_table}
use Rattle.typed_trees.specs.Nodes.{TypedTree, typed_tree}
use Rattle.line_runs.proofs.checks.typed_text.Goals as goal

pub returns-in-Ok : goal.returns-in-Ok
returns-in-Ok c =
    let same : to_z w64 (of_z w64 c.args.moment) ≡ c.args.moment = search rules in
    let typed : TypedTree = typed_tree c.args.typed.now in
    let meant : IsMeant typed c.args.rows.now c.args.moment c.args.limit c.in-Ok.table =
    subst (λ (m : ℤ). IsMeant typed c.args.rows.now m c.args.limit c.in-Ok.table) same c.in-Ok.ensures.answer in
    record {
      text = ok_as (λ (text : List ℕ). text ≡ printed_table c.in-Ok.table)
          (λ (text : List ℕ). text ≡ meant_text (Ok typed) c.args.rows.now c.args.moment) c.print-text.result
          (λ text is. is ∙ table_prints c.equal_bags_print_alike.ensures.alike typed c.args.rows.now c.args.moment
          c.args.limit c.in-Ok.table meant) c.print-text.ensures.text;
    }

pub unreachable-requires : goal.unreachable-requires
unreachable-requires c =
    let same : to_z w64 (of_z w64 c.args.moment) ≡ c.args.moment = search rules in
    let typed : TypedTree = typed_tree c.args.typed.now in
    let over : IsOver typed c.args.rows.now c.args.moment c.args.limit c.in-Err-Fault._over =
    subst (λ (m : ℤ). IsOver typed c.args.rows.now m c.args.limit c.in-Err-Fault._over) same
    (subst (IsRefusedBy typed c.args.rows.now (to_z w64 (of_z w64 c.args.moment)) c.args.limit)
    c.in-Err-Fault.field-0-is c.in-Err-Fault.ensures.answer) in
    not_over typed c.args.rows.now c.args.moment c.args.limit c.in-Err-Fault._over c.requires.within over
