-- A part that is put at the end comes first.
use Rattle.std.proofs.Common.{◌≡◌, ◌∙◌, ◌+◌, List, [], ◌∷◌, ◌++◌, ap, sym, append_assoc, append-nil, arith}
use Rattle.mon_value.specs.declared.columns.Column.{Column}
use Rattle.mql_ast.specs.PredicateParts.{nodes}
use Rattle.mql_ast.specs.Trees.{predicate_tree}
use Rattle.mql_ast.specs.declared.predicates.Predicate.{Predicate}
use denote.Ref.{Bor}
use Rattle.typed_trees.specs.Fetches.{predicate_faults}
use Rattle.typed_trees.specs.FixedColumns.{fixed_by}
use Rattle.typed_columns.specs.PredicateParts.{remaining_faults, remaining_fixed, remaining_nodes}
use Rattle.typed_columns.proofs.FaultLemmas.{first_with-append}

pub remaining_faults-push : (columns : List Column) (xs : List (Bor Predicate)) (x : Bor Predicate)
    → remaining_faults columns (xs ++ x ∷ [])
    ≡ predicate_faults columns (predicate_tree x.now) ++ remaining_faults columns xs
remaining_faults-push columns [] x = sym (append-nil (predicate_faults columns (predicate_tree x.now)))
remaining_faults-push columns (y ∷ ys) x =
    ap (λ faults. faults ++ predicate_faults columns (predicate_tree y.now)) (remaining_faults-push columns ys x)
    ∙ append_assoc (predicate_faults columns (predicate_tree x.now)) (remaining_faults columns ys)
    (predicate_faults columns (predicate_tree y.now))

pub remaining_fixed-push : (xs : List (Bor Predicate)) (x : Bor Predicate)
    → remaining_fixed (xs ++ x ∷ []) ≡ fixed_by (predicate_tree x.now) ++ remaining_fixed xs
remaining_fixed-push [] x = sym (append-nil (fixed_by (predicate_tree x.now)))
remaining_fixed-push (y ∷ ys) x =
    ap (λ fixed. fixed ++ fixed_by (predicate_tree y.now)) (remaining_fixed-push ys x)
    ∙ append_assoc (fixed_by (predicate_tree x.now)) (remaining_fixed ys) (fixed_by (predicate_tree y.now))

pub remaining_nodes-push : (xs : List (Bor Predicate)) (x : Bor Predicate)
    → remaining_nodes (xs ++ x ∷ []) ≡ nodes x.now + remaining_nodes xs
remaining_nodes-push [] x = omega arith
remaining_nodes-push (y ∷ ys) x = omega (arith, remaining_nodes-push ys x)

pub ruleset parts_pushed = (remaining_faults-push, remaining_fixed-push, remaining_nodes-push, first_with-append, append_assoc)
