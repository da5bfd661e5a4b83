use Rattle.std.proofs.lemmas.List.{nil_from_length}
use Rattle.std.proofs.Common.{◌≡◌, ◌∙◌, [], List, append-nil, ap, subst, sym}
use Rattle.std.specs.Vec.Iter.{into_iter_items}
use Rattle.typed_trees.specs.Nodes.{node_tree}
use Rattle.typed_trees.specs.Levels as spec
use Rattle.mon_fold.specs.declared.answers.Piece.{Piece}
use Rattle.mon_meaning.specs.TopParts.{parts_seen, up_to}
use Rattle.mixer.specs.within.Joined.{AllStandEmpty}
use Rattle.mixer.proofs.joining.empty_pieces.Goals as goal

pub returns : goal.returns
returns c =
    let left = into_iter_items c.loop-part.part-iterator in
    let ended : left ≡ [] = nil_from_length left (sym c.loop-part.invariant.counted ∙ c.in-None.ensures.steps.0) in
    let all = spec.top_parts (up_to c.args.below) (node_tree c.args.tree.now) in
    let none : List Piece = [] in
    record {
      empty = subst (λ ps. AllStandEmpty all ps) (append-nil c.loop-part.pieces)
          (c.loop-part.invariant.so_far none (subst (λ ps. AllStandEmpty ps none) (sym (ap parts_seen ended)) tt));
    }
