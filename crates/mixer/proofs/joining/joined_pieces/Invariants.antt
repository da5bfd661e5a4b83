-- The pieces so far, in front of those that are left, are those of both.
use Rattle.std.proofs.Common.{◌≡◌, ◌++◌, length}
use Rattle.std.specs.Vec.Iter.{into_iter_items, into_iter_len}
use Rattle.mixer.specs.within.Joined.{AllCanJoin, pieces_joined}
use Rattle.mixer.proofs.joining.joined_pieces.Given as goal

abbrev pub invariant-loop-piece : goal.invariant-loop-piece
invariant-loop-piece l = record {
  so_far : l.joined ++ pieces_joined (into_iter_items l.piece-iterator) (into_iter_items l.others)
      ≡ pieces_joined l.fn.pieces l.fn.others;
  can : AllCanJoin (into_iter_items l.piece-iterator) (into_iter_items l.others);
  counted : into_iter_len l.piece-iterator ≡ length (into_iter_items l.piece-iterator);
  others_counted : into_iter_len l.others ≡ length (into_iter_items l.others);
}
