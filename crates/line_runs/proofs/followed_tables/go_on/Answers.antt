use Rattle.std.proofs.Common.{rules, ◌≡◌, ◌≤ℤ◌, ℤ, IfErr, OnOk, sym, subst, to_z, of_z, w64, string_bytes}
use Rattle.line_runs.specs.Following.{IsAdded, IsKeptOf, IsNotAdded}
use Rattle.line_runs.proofs.FollowTables.{goes_on, holds_on}
use Rattle.typed_trees.specs.Nodes.{typed_tree}
use Rattle.typed_trees.specs.declared.nodes.Typed.{Typed}
use Rattle.line_runs.proofs.followed_tables.go_on.Goals as goal

pub returns-clause-kept : goal.returns-clause-kept
returns-clause-kept c = λ rows is.
    let same : to_z w64 (of_z w64 c.args.next) ≡ c.args.next = search rules in
    holds_on (IsKeptOf c.advance.new.self rows) c.push_table.result
    (goes_on c.held_rows_are_enough.ensures.again c.args.kept.now c.advance.new.self rows _ c.advance.ensures.query
    c.in_ok-advance.ensures.moment c.in_ok-advance.ensures.held
    (subst (λ (m : ℤ). c.args.kept.now.moment ≤ℤ m) (sym same) c.requires.later) is)

pub returns-clause-added : goal.returns-clause-added
returns-clause-added c = λ rows is.
    let same : to_z w64 (of_z w64 c.args.next) ≡ c.args.next = search rules in
    let stays : IsKeptOf c.advance.new.self rows =
    goes_on c.held_rows_are_enough.ensures.again c.args.kept.now c.advance.new.self rows _ c.advance.ensures.query
    c.in_ok-advance.ensures.moment c.in_ok-advance.ensures.held
    (subst (λ (m : ℤ). c.args.kept.now.moment ≤ℤ m) (sym same) c.requires.later) is in
    subst (λ (typed : Typed). OnOk c.push_table.result (IsAdded (typed_tree typed) rows c.args.next c.args.limit
    (string_bytes c.args.text.now) (string_bytes c.push_table.new.text))) c.advance.ensures.query
    (subst (λ (at : ℤ). OnOk c.push_table.result (IsAdded (typed_tree c.advance.new.self.typed) rows at c.args.limit
    (string_bytes c.args.text.now) (string_bytes c.push_table.new.text))) same (c.push_table.ensures.added rows stays))

pub returns-clause-refused : goal.returns-clause-refused
returns-clause-refused c = λ rows is.
    let same : to_z w64 (of_z w64 c.args.next) ≡ c.args.next = search rules in
    let stays : IsKeptOf c.advance.new.self rows =
    goes_on c.held_rows_are_enough.ensures.again c.args.kept.now c.advance.new.self rows _ c.advance.ensures.query
    c.in_ok-advance.ensures.moment c.in_ok-advance.ensures.held
    (subst (λ (m : ℤ). c.args.kept.now.moment ≤ℤ m) (sym same) c.requires.later) is in
    subst (λ (typed : Typed). IfErr c.push_table.result (IsNotAdded (typed_tree typed) rows c.args.next c.args.limit))
    c.advance.ensures.query
    (subst (λ (at : ℤ). IfErr c.push_table.result (IsNotAdded (typed_tree c.advance.new.self.typed) rows at
    c.args.limit)) same (c.push_table.ensures.refused rows stays))
