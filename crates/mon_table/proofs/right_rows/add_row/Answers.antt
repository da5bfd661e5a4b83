use Rattle.std.proofs.Common.{◌≡◌, ◌∙◌, Bool, IsSome, Some, None, [], ◌∷◌, ◌++◌, refl, ap, subst}
use Rattle.std.proofs.lemmas.List.{map-append}
use Rattle.indexmap.specs.IndexMap.{get, UpdatesBy}
use Rattle.mon_table.proofs.JoinKeyLemmas.{entry_rows-added, eq-same_join_key}
use Rattle.mon_table.specs.JoinKeys.{rows_under_key}
use Rattle.mon_table.specs.References.{rows_behind}
use Rattle.mon_table.specs.declared.keys.JoinKey.{JoinKey}
use Rattle.mon_table.specs.contracts.keys.JoinKeyPartialEq.TheImpl as derived
use Rattle.mon_table.proofs.right_rows.add_row.Goals as goal

pub returns-in_ok-push-in-Some : goal.returns-in_ok-push-in-Some
returns-in_ok-push-in-Some c =
    let m = c.args.by_key.now in
    let key = c.args.key in
    let w = c.push.new.self in
    let n = c.get_mut.follows.lender w in
    let there : Some c.in-Some.rows.now ≡ get derived.eq-value.it m key = c.in-Some.ensures.value in
    let updates = (c.get_mut.follows.holds w).3 (subst (λ r. IsSome r) there refl) in
    let updates' = subst (λ (eq : JoinKey → JoinKey → Bool). UpdatesBy eq (eq key) m n (Some w)) eq-same_join_key
    updates in
    let there' = there ∙ ap (λ (eq : JoinKey → JoinKey → Bool). get eq m key) eq-same_join_key in
    record {
      added = entry_rows-added m n key c.args.row.now w updates'
          (ap rows_behind c.in_ok-push-in-Some.ensures.items ∙ map-append (λ row. row.now) c.in-Some.rows.now.items
          (c.args.row ∷ []) ∙ ap (λ r. rows_under_key r ++ c.args.row.now ∷ []) there');
    }

pub returns-in_ok-insert-in-Ok : goal.returns-in_ok-insert-in-Ok
returns-in_ok-insert-in-Ok c =
    let m = c.args.by_key.now in
    let key = c.args.key in
    let w = c.in-Ok.rows in
    let n = c.insert.new.self in
    let none : None ≡ get derived.eq-value.it m key = c.in-None.ensures.value in
    let updates = subst (λ old. UpdatesBy derived.eq-value.it (derived.eq-value.it key) old n (Some w))
    c.get_mut.follows.holds-at-none c.in_ok-insert-in-Ok.ensures.updates in
    let updates' = subst (λ (eq : JoinKey → JoinKey → Bool). UpdatesBy eq (eq key) m n (Some w)) eq-same_join_key
    updates in
    let none' = none ∙ ap (λ (eq : JoinKey → JoinKey → Bool). get eq m key) eq-same_join_key in
    record {
      added = entry_rows-added m n key c.args.row.now w updates'
          (c.in-Ok.ensures.alone ∙ ap (λ r. rows_under_key r ++ c.args.row.now ∷ []) none');
    }
