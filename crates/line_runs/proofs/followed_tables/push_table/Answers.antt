use Rattle.std.proofs.Common.{rules, ◌≡◌, ◌++◌, ℤ, Err, subst, to_z, of_z, w64, string_bytes}
use Rattle.line_runs.proofs.FollowTables.{is_above, table_added}
use Rattle.mon_meaning.specs.Central.{IsAnswer}
use Rattle.mon_meaning.specs.declared.meter.OverLimit.{OverLimit}
use Rattle.mon_table.specs.Tables.{printed_table}
use Rattle.mon_value.specs.declared.refusals.Refusal.{Refusal}
use Rattle.run_traces.specs.LineTexts.{moment_heading}
use Rattle.typed_trees.specs.Nodes.{typed_tree}
use Rattle.line_runs.proofs.followed_tables.push_table.Goals as goal

pub returns-in_ok-push_text-in-Ok-clause-added : goal.returns-in_ok-push_text-in-Ok-clause-added
returns-in_ok-push_text-in-Ok-clause-added c = λ rows is.
    let same : to_z w64 (of_z w64 c.args.at) ≡ c.args.at = search rules in
    let before = string_bytes c.args.text.now in
    let after = string_bytes c.push_text.new.text in
    table_added c.held_rows_are_enough.ensures.answer c.args.kept.now rows c.args.limit is
    c.equal_bags_print_alike.ensures.alike c.args.at c.in-Ok.table before after c.requires.at c.in-Ok.ensures.answer
    (subst (λ (at : ℤ). after ≡ before ++ (moment_heading at ++ printed_table c.in-Ok.table)) same
    c.in_ok-push_text-in-Ok.ensures.text)

pub returns-in-Err-Fault-clause-refused : goal.returns-in-Err-Fault-clause-refused
returns-in-Err-Fault-clause-refused c = λ rows is.
    let kept = c.args.kept.now in
    is_above c.held_rows_are_enough.ensures.answer kept rows c.args.limit is c.args.at c.in-Err-Fault._over c.requires.at
    (subst (λ (refused : Refusal OverLimit). IsAnswer (typed_tree kept.typed) kept.held kept.moment c.args.limit
    (Err refused)) c.in-Err-Fault.field-0-is c.in-Err-Fault.ensures.answer)
