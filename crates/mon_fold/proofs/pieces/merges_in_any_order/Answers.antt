use Rattle.std.proofs.Common.{ap, ◌∙◌}
use Rattle.mon_fold.specs.Mergings.{items_of}
use Rattle.mon_fold.proofs.PiecesLemmas.{merging_allowed, none_exactly, part_made_is, part-permutation}
use Rattle.mon_fold.proofs.pieces.merges_in_any_order.Goals as goal

pub returns-clause-allowed : goal.returns-clause-allowed
returns-clause-allowed g c merging fits =
    let fold = c.args.fold.now in
    let laws = g.met.F.Fold.laws in
    merging_allowed (g.F.Fold.part_of fold) g.F.Fold.merge_of (laws.joins fold) g.F.Fold.can_merge (g.F.Fold.fits fold)
    (laws.chosen_fit fold) (laws.merges fold) merging fits

pub returns-clause-finishes : goal.returns-clause-finishes
returns-clause-finishes g c merging items same alike =
    let fold = c.args.fold.now in
    let laws = g.met.F.Fold.laws in
    let made = part_made_is (g.F.Fold.part_of fold) g.F.Fold.merge_of (laws.joins fold) merging in
    let ordered = part-permutation (g.F.Fold.part_of fold) g.F.Fold.merge_of (laws.joins fold) laws.commutes
    laws.associates (items_of merging) items same in
    ap g.F.Fold.finish_of (made ∙ ordered) ∙ laws.finishes fold items alike

pub returns-clause-nothing : goal.returns-clause-nothing
returns-clause-nothing g c merging alike =
    let fold = c.args.fold.now in
    let laws = g.met.F.Fold.laws in
    let made = part_made_is (g.F.Fold.part_of fold) g.F.Fold.merge_of (laws.joins fold) merging in
    none_exactly (ap g.F.Fold.finish_of made ∙ laws.finishes fold (items_of merging) alike)
    (laws.nothing fold (items_of merging))
