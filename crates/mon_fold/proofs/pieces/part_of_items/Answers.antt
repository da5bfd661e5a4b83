use Rattle.std.proofs.Common.{[], ◌∷◌, take, get_or, ap, arith}
use Rattle.mon_fold.proofs.PiecesLemmas.{can_merge_at, fits_more}
use Rattle.mon_fold.proofs.pieces.part_of_items.Goals as goal

pub add-requires : goal.add-requires
add-requires g c =
    let members = g.F.Fold in
    let laws = g.met.F.Fold.laws in
    let fold = c.args.fold.now in
    let items = c.args.items.now in
    let i = c.loop-item.item-index in
    let item = c.item-item.result in
    let fits = fits_more (members.fits fold) (laws.chosen_fit fold) items i item (omega arith) c.requires.within in
    let same = ap (λ (x : g.row.F-In.Denot). members.part_of fold (x ∷ [])) c.item-item.is in
    can_merge_at (members.part_of fold) members.can_merge (members.fits fold) (laws.merges fold) _ _ (take i items)
    (get_or items i item ∷ []) c.loop-item.invariant same fits
