use Rattle.std.proofs.Common.{rules, ◌≡◌, ◌∙◌, ℤ, refl, subst, to_z, of_z, w64, string_bytes}
use Rattle.std.proofs.lemmas.Result.{err_from_is_err_and}
use Rattle.line_runs.proofs.FollowTables.{among_all, among_next, first_table, next_table, stops_there}
use Rattle.line_runs.proofs.Results.{handed_on}
use Rattle.line_runs.specs.Following.{AreFollowedAs, IsAdded, IsNotAdded}
use Rattle.mon_script.specs.Follows.{all_moments}
use Rattle.typed_trees.specs.Nodes.{typed_tree}
use Rattle.typed_trees.specs.declared.nodes.Typed.{Typed}
use Rattle.line_runs.proofs.followed_tables.tables_of.Goals as goal

pub returns-in_err-push_table : goal.returns-in_err-push_table
returns-in_err-push_table c =
    let same : to_z w64 (of_z w64 c.args.moments.first) ≡ c.args.moments.first = search rules in
    let typed = typed_tree c.args.kept.now.typed in
    let all = all_moments c.args.moments in
    let refused = c.in_err-push_table.field-0.0 in
    record {
      followed = λ rows is. handed_on c.from_residual.result (AreFollowedAs typed rows all c.args.limit) refused
          (err_from_is_err_and c.from_residual.result c.from_residual.ensures.1)
          (stops_there typed rows all c.args.limit c.args.moments.first refused
          (among_all c.args.moments c.requires.moments)
          (subst (λ (at : ℤ). IsNotAdded typed rows at c.args.limit refused) same
          (c.in_err-push_table.ensures.refused rows is)));
    }

pub loop-next-init : goal.loop-next-init
loop-next-init c =
    let same : to_z w64 (of_z w64 c.args.moments.first) ≡ c.args.moments.first = search rules in
    let typed = typed_tree c.args.kept.now.typed in
    let text = string_bytes c.new-text.result in
    let more = string_bytes c.push_table.new.text in
    record {
      lawful = c.requires.moments;
      moment = c.requires.first;
      query = refl;
      kept = λ rows is. is;
      tables = λ rows is. first_table typed rows c.args.moments c.args.limit c.requires.moments text more
          c.new-text.ensures.bytes
          (subst (λ (at : ℤ). IsAdded typed rows at c.args.limit text more) same
          (c.in_ok-push_table.ensures.added rows is));
    }

pub returns-in_err-go_on : goal.returns-in_err-go_on
returns-in_err-go_on c =
    let next = c.in-Some.next in
    let same : to_z w64 (of_z w64 next.first) ≡ next.first = search rules in
    let typed = typed_tree c.args.kept.now.typed in
    let all = all_moments c.args.moments in
    let refused = c.in_err-go_on.field-0.0 in
    record {
      followed = λ rows is. handed_on c.from_residual-in_err-go_on.result (AreFollowedAs typed rows all c.args.limit)
          refused (err_from_is_err_and c.from_residual-in_err-go_on.result c.from_residual-in_err-go_on.ensures.1)
          (stops_there typed rows all c.args.limit next.first refused
          (among_next typed rows c.args.moments c.args.limit c.loop-next.last next c.in-Some.ensures.still
          c.in-Some.ensures.later (string_bytes c.loop-next.text) (c.loop-next.invariant.tables rows is))
          (subst (λ (t : Typed). IsNotAdded (typed_tree t) rows next.first c.args.limit refused)
          c.loop-next.invariant.query
          (subst (λ (at : ℤ). IsNotAdded (typed_tree c.loop-next.kept.typed) rows at c.args.limit refused) same
          (c.in_err-go_on.ensures.refused rows (c.loop-next.invariant.kept rows is)))));
    }

pub loop-next-preserved : goal.loop-next-preserved
loop-next-preserved c =
    let next = c.in-Some.next in
    let same : to_z w64 (of_z w64 next.first) ≡ next.first = search rules in
    let typed = typed_tree c.args.kept.now.typed in
    let text = string_bytes c.loop-next.text in
    let more = string_bytes c.go_on.new.text in
    record {
      lawful = c.in-Some.ensures.still;
      moment = c.in_ok-go_on.ensures.moment ∙ same;
      query = c.go_on.ensures.query ∙ c.loop-next.invariant.query;
      kept = λ rows is. c.in_ok-go_on.ensures.kept rows (c.loop-next.invariant.kept rows is);
      tables = λ rows is. next_table typed rows c.args.moments c.args.limit c.loop-next.last next
          c.in-Some.ensures.still c.in-Some.ensures.later text more
          (subst (λ (t : Typed). IsAdded (typed_tree t) rows next.first c.args.limit text more)
          c.loop-next.invariant.query
          (subst (λ (at : ℤ). IsAdded (typed_tree c.loop-next.kept.typed) rows at c.args.limit text more) same
          (c.in_ok-go_on.ensures.added rows (c.loop-next.invariant.kept rows is))))
          (c.loop-next.invariant.tables rows is);
    }
