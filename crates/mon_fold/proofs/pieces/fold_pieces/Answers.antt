use Rattle.std.proofs.Common.{take, get_or, ap, ◌∙◌, arith}
use Rattle.mon_fold.proofs.PiecesLemmas.{items_of_pieces, can_merge_at, fits_piece, fits_pieces_more}
use Rattle.mon_fold.proofs.pieces.fold_pieces.Goals as goal

pub part_of_items-requires : goal.part_of_items-requires
part_of_items-requires g c =
    let fold = c.args.fold.now in
    let piece = c.piece-item.result in
    let fits = fits_piece (g.F.Fold.fits fold) (g.met.F.Fold.laws.chosen_fit fold) c.args.pieces.now
    c.loop-piece.piece-index piece (omega arith) c.requires.within in
    record { within = rw (c.as_slice.ensures.items, c.piece-item.is) fits }

pub merge-requires : goal.merge-requires
merge-requires g c =
    let members = g.F.Fold in
    let laws = g.met.F.Fold.laws in
    let fold = c.args.fold.now in
    let pieces = c.args.pieces.now in
    let i = c.loop-piece.piece-index in
    let piece = c.piece-item.result in
    let fits = fits_pieces_more (members.fits fold) (laws.chosen_fit fold) pieces i piece (omega arith)
    c.requires.within in
    let listed = members.part_of fold c.as_slice.result.now in
    let same = ◌∙◌ {b = listed} c.in_ok-part.ensures.part (ap (members.part_of fold) (c.as_slice.ensures.items
    ∙ c.piece-item.is)) in
    can_merge_at (members.part_of fold) members.can_merge (members.fits fold) (laws.merges fold)
    _ _ (items_of_pieces (take i pieces)) (get_or pieces i piece) c.loop-piece.invariant same fits
