-- The excerpts so far, in front of those of the pieces that are left.
use Rattle.std.proofs.Common.{◌≡◌, [], ◌∷◌, ◌++◌, drop}
use Rattle.std.specs.List.{flat_map}
use Rattle.mon_hints.specs.Hints.{back, with_front_marks, with_back_marks, pattern_excerpts, windows}
use Rattle.mon_hints.proofs.excerpts.excerpts_of.Given as goal

abbrev pub invariant-loop-piece : goal.invariant-loop-piece
invariant-loop-piece l =
    l.excerpts
    ++ flat_map windows
    (with_back_marks (with_front_marks l.front (drop l.piece-index l.others ++ l.last ∷ [])) back)
    ≡ pattern_excerpts l.fn.pieces
