-- The terms of a sum, and those that are still to be found.
use Rattle.std.specs.Prelude.{ℕ, ◌+◌, Bool, not, List, [], ◌∷◌, ◌++◌}
use Rattle.mon_value.specs.declared.columns.Column.{Column}
use Rattle.mql_ast.specs.Rows.{place_of, bounds_named}
use Rattle.mql_ast.specs.SumParts.{nodes}
use Rattle.mql_ast.specs.Trees as tree
use Rattle.mql_ast.specs.Trees.{SumTree, sum_tree}
use Rattle.mon_expr.specs.declared.bound_sums.Part.{Part}
use Rattle.mon_expr.specs.declared.bound_sums.SignedTerm.{SignedTerm}
use Rattle.mon_expr.specs.declared.bound_sums.Term.{Term}
use Rattle.mon_expr.specs.declared.bound_sums.Term.TheVariants as term

abbrev pub signed_term : Bool → Term → SignedTerm
signed_term minus term = record { minus = minus; term = term }

-- the terms of a sum from the left, each with whether it is taken away
abbrev pub terms_of : Bool → SumTree → List Column → List SignedTerm
terms_of minus (tree.Column name) columns = signed_term minus (term.Column (place_of name.text columns)) ∷ []
terms_of minus (tree.Number at z) columns = signed_term minus (term.Number z) ∷ []
terms_of minus (tree.Plus left right) columns = terms_of minus left columns ++ terms_of minus right columns
terms_of minus (tree.Minus left right) columns = terms_of minus left columns ++ terms_of (not minus) right columns
terms_of minus (tree.Percentile at name p) columns =
    signed_term minus (term.Percentile (place_of name.text columns) (bounds_named name.text columns) p) ∷ []

abbrev pub part_terms : Part → List Column → List SignedTerm
part_terms part columns = terms_of part.minus (sum_tree part.sum.now) columns

-- the terms of the parts to come, the last of them first
abbrev pub remaining_terms : List Part → List Column → List SignedTerm
remaining_terms [] columns = []
remaining_terms (part ∷ parts) columns = remaining_terms parts columns ++ part_terms part columns

-- how many terms and operators the parts to come have
abbrev pub remaining_nodes : List Part → ℕ
remaining_nodes [] = 0
remaining_nodes (part ∷ parts) = remaining_nodes parts + nodes part.sum.now
