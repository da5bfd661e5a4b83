-- The branches of a source, as the list of its pipes.
use Rattle.std.proofs.Common.{◌≡◌, ℕ, map, refl, sym, ap, ◌∙◌}
use Rattle.mql_ast.specs.declared.pipes.Source.{Source, Row_of-Pipe, end_of-Pipe, more_of-Pipe, items-the_row-Pipe}
use Rattle.mql_ast.specs.declared.pipes.Source.{items_hidden-the_row-Pipe-0}
use Rattle.mql_ast.specs.declared.pipes.Source.TheBlock.{hidden-the_row-Pipe-0}
use Rattle.mql_ast.specs.declared.pipes.Pipe.{Pipe}
use Rattle.mql_ast.specs.declared.pipes.How.{How}
use Rattle.mql_ast.specs.declared.pipes.Source.TheVariants as source
use Rattle.std.specs.declared.vec.Vec.{Vec}
use Rattle.std.specs.declared.alloc.Global.{Global}
use Rattle.mql_ast.specs.Trees.{Branch, Branches, Flow, source_tree, op_tree, pipe_tree, branch_trees, branches}

pub branches_listed : (n : _) (row : Row_of-Pipe n) → branch_trees row
    ≡ branches (map pipe_tree (items-the_row-Pipe n row))
branches_listed n end_of-Pipe = refl
branches_listed n (more_of-Pipe {n = m} source ops rest) = ap (Branch (Flow (source_tree source) (map op_tree ops)))
    (branches_listed m rest)

pub branches_of_source : (at : ℕ) (pipes : Vec Pipe Global) (how : How) (how_at : ℕ)
    → source_tree (source.Branches at pipes how how_at) ≡ Branches at (branches (map pipe_tree pipes.items)) how how_at
branches_of_source at pipes how how_at = ap (λ all. Branches at all how how_at)
    (branches_listed _ (hidden-the_row-Pipe-0 pipes) ∙ ap (λ all. branches (map pipe_tree all))
    (items_hidden-the_row-Pipe-0 pipes))

-- branches with copies of all pipes are the same tree
pub copied_branches : (at : ℕ) (pipes copied : Vec Pipe Global) (how : How) (how_at : ℕ) (whole : Source) → whole
    ≡ source.Branches at pipes how how_at →
    map pipe_tree copied.items ≡ map pipe_tree pipes.items → source_tree (source.Branches at copied how how_at)
    ≡ source_tree whole
copied_branches at pipes copied how how_at whole is same =
    branches_of_source at copied how how_at ∙ ap (λ all. Branches at (branches all) how how_at) same
    ∙ sym (ap source_tree is ∙ branches_of_source at pipes how how_at)
