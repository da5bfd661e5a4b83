-- Branches as their trees.
use Rattle.std.proofs.Common.{◌≡◌, ℕ}
use Rattle.std.specs.declared.alloc.Global.{Global}
use Rattle.std.specs.declared.vec.Vec.{Vec}
use Rattle.mql_ast.specs.declared.pipes.Pipe.{Pipe}
use Rattle.mql_ast.specs.declared.pipes.How.{How}
use Rattle.mql_ast.specs.declared.pipes.Source.TheVariants as source
use Rattle.mql_ast.specs.Trees.{Branches, source_tree, branches}
use Rattle.mql_ast.proofs.BranchLemmas.{branches_of_source}
use Rattle.mql_parse.specs.Views.{vec_trees}

pub branches_seen : (at : ℕ) (pipes : Vec Pipe Global) (how : How) (how_at : ℕ) →
    source_tree (source.Branches at pipes how how_at) ≡ Branches at (branches (vec_trees pipes)) how how_at
branches_seen = branches_of_source
