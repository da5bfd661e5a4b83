use Rattle.std.proofs.Common.{◌≡◌, ◌∙◌, ◌++◌, ◌∷◌, [], List, ap, append_assoc, subst, sym, rules}
use Rattle.std.specs.Vec.Iter.{into_iter_items}
use Rattle.mon_fold.specs.declared.answers.Piece.{Piece}
use Rattle.mixer.specs.within.Joined.{AllCanJoin, pieces_joined}
use Rattle.mixer.proofs.PieceLoops.{none_can, none_joined}
use Rattle.mixer.proofs.joining.joined_pieces.Goals as goal

pub loop-piece-preserved : goal.loop-piece-preserved
loop-piece-preserved c =
    let piece = c.in-Some.piece in
    let left = into_iter_items c.next.new.self in
    let others = into_iter_items c.next-in-loop-piece.new.self in
    let next : into_iter_items c.loop-piece.piece-iterator ≡ piece ∷ left = c.in-Some.ensures.steps.0 in
    let given : into_iter_items c.loop-piece.others ≡ [] = search rules in
    let none : others ≡ [] = search rules in
    let so_far : (c.loop-piece.joined ++ piece ∷ []) ++ pieces_joined left others
    ≡ pieces_joined c.args.pieces c.args.others =
    ap (λ ps. (c.loop-piece.joined ++ piece ∷ []) ++ ps) (ap (pieces_joined left) none ∙ none_joined left)
    ∙ append_assoc c.loop-piece.joined (piece ∷ []) left
    ∙ sym ((λ i. c.loop-piece.joined ++ pieces_joined (next i) (given i)))
    ∙ c.loop-piece.invariant.so_far in
    record {
      so_far = ap (λ (made : List Piece). made ++ pieces_joined left others) c.in_ok-push-in-None-next.ensures.added
          ∙ so_far;
      can = subst (AllCanJoin left) (sym none) (none_can left);
      counted = search rules;
      others_counted = search rules;
    }
