use Rattle.std.proofs.Common.{IsPermutation, subst, sym}
use Rattle.placed_rows.proofs.PlacedLemmas.{pieces_of, whole}
use Rattle.placed_rows.proofs.rows.places_have_all_rows.Goals as goal

pub returns : goal.returns
returns c rows places once = subst (λ all. IsPermutation all rows) (sym (pieces_of rows places)) (whole rows places once)
