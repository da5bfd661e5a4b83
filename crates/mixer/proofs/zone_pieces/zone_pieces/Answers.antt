use Rattle.std.proofs.lemmas.List.{nil_from_length}
use Rattle.std.proofs.Common.{◌≡◌, ◌∙◌, ◌+◌, ◌++◌, ◌∷◌, [], List, append-nil, append_assoc, ap, subst, sym, rules}
use Rattle.std.proofs.Common.{arith}
use Rattle.std.specs.Vec.Iter.{into_iter_items}
use Rattle.typed_trees.specs.Nodes.{node_tree}
use Rattle.typed_trees.specs.Levels as spec
use Rattle.typed_trees.specs.Levels.{in_zone}
use Rattle.mon_fold.specs.declared.answers.Piece.{Piece}
use Rattle.mon_meaning.specs.TopParts.{part_seen, parts_seen}
use Rattle.mixer.specs.within.ZonePieces.{AreHandedUp, CanHandUpAll, behind_part, joins_of_parts}
use Rattle.mixer.proofs.ZoneSteps.{first_more, joins_next}
use Rattle.mixer.proofs.zone_pieces.zone_pieces.Goals as goal

pub zone_piece-requires-clause-can : goal.zone_piece-requires-clause-can
zone_piece-requires-clause-can c =
    let part = part_seen c.in-Some.part in
    let left = parts_seen (into_iter_items c.next.new.self) in
    let next : parts_seen (into_iter_items c.loop-part.part-iterator) ≡ part ∷ left = ap parts_seen
    c.in-Some.ensures.steps.0 in
    let pieces = into_iter_items c.loop-part.pieces in
    first_more c.args.meter.now.load c.loop-part.meter.load part left pieces c.loop-part.invariant.grown
    (subst (λ parts. CanHandUpAll c.args.meter.now.load parts pieces) next c.loop-part.invariant.can)

pub loop-part-preserved : goal.loop-part-preserved
loop-part-preserved c =
    let part = part_seen c.in-Some.part in
    let left = parts_seen (into_iter_items c.next.new.self) in
    let next : parts_seen (into_iter_items c.loop-part.part-iterator) ≡ part ∷ left = ap parts_seen
    c.in-Some.ensures.steps.0 in
    let pieces = into_iter_items c.loop-part.pieces in
    let behind = into_iter_items c.zone_piece.new.pieces in
    let all = spec.top_parts in_zone (node_tree c.args.tree.now) in
    let base = c.args.meter.now.load in
    let start = c.args.pieces in
    let is_behind : behind ≡ behind_part part pieces = c.in_ok-piece.ensures.left in
    let can = subst (λ parts. CanHandUpAll base parts pieces) next c.loop-part.invariant.can in
    record {
      so_far = λ more given.
          let whole : AreHandedUp (part ∷ left) pieces (c.in_ok-piece.piece ∷ more) =
          (c.in_ok-piece.ensures.piece, subst (λ ps. AreHandedUp left ps more) is_behind given) in
          let handed : AreHandedUp all start (c.loop-part.made ++ c.in_ok-piece.piece ∷ more) =
          c.loop-part.invariant.so_far (c.in_ok-piece.piece ∷ more)
          (subst (λ parts. AreHandedUp parts pieces (c.in_ok-piece.piece ∷ more)) (sym next) whole) in
          let items : c.push.new.self ++ more ≡ c.loop-part.made ++ c.in_ok-piece.piece ∷ more =
          ap (λ (made : List Piece). made ++ more) c.in_ok-push.ensures.added
          ∙ append_assoc c.loop-part.made (c.in_ok-piece.piece ∷ []) more in
          subst (AreHandedUp all start) (sym items) handed;
      can = subst (CanHandUpAll base left) (sym is_behind) can.1;
      joins = joins_next part left pieces behind c.loop-part.meter.load c.zone_piece.new.meter.load _ is_behind
          c.in_ok-piece.ensures.counted
          (ap (λ parts. c.loop-part.meter.load + joins_of_parts parts pieces) (sym next) ∙ c.loop-part.invariant.joins);
      grown = let more = c.in_ok-piece.ensures.counted in omega (arith, more, c.loop-part.invariant.grown);
      limit = c.in_ok-piece.ensures.limit ∙ c.loop-part.invariant.limit;
      counted = search rules;
      items = c.in_ok-piece.ensures.items;
    }

pub returns-clause-pieces : goal.returns-clause-pieces
returns-clause-pieces c =
    let left = into_iter_items c.loop-part.part-iterator in
    let ended : left ≡ [] = nil_from_length left (sym c.loop-part.invariant.counted ∙ c.in-None.ensures.steps.0) in
    let all = spec.top_parts in_zone (node_tree c.args.tree.now) in
    let none : List Piece = [] in
    subst (AreHandedUp all c.args.pieces) (append-nil c.loop-part.made)
    (c.loop-part.invariant.so_far none
    (subst (λ ps. AreHandedUp ps (into_iter_items c.loop-part.pieces) none) (sym (ap parts_seen ended)) tt))
