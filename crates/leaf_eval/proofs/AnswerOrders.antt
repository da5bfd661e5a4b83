-- A leaf's answer over rows is its answer over those whose series stand in another order.
use Rattle.std.proofs.Common.{◌≡◌, ◌∙◌, ℕ, ℤ, List, [], ◌∷◌, Result, Ok, Err, refl, sym, arith}
use Rattle.std.specs.Prelude.{IsPermutation}
use Rattle.std.proofs.lemmas.List.Sorted.{IsPermutation-sym, IsPermutation-trans}
use Rattle.std.proofs.lemmas.List.Sums.{sum_by-cons}
use Rattle.mon_fold.specs.declared.answers.LeafAnswer.{LeafAnswer}
use Rattle.mon_fold.specs.declared.answers.Piece.{Piece}
use Rattle.mon_meaning.proofs.MeaningOrderLemmas.{tree_loads_in_order, tree_rows_in_order}
use Rattle.mon_meaning.proofs.SeriesOrders.{loads, rows-permutation}
use Rattle.mon_meaning.proofs.StandingPieces.{sent_is, stands-permutation}
use Rattle.mon_meaning.specs.GoingUp.{parts_sent}
use Rattle.mon_meaning.specs.LeafAnswers.{IsLeafAnswer, parts_load}
use Rattle.mon_meaning.specs.Standing.{AllStandFor}
use Rattle.mon_meaning.specs.declared.meter.OverLimit.{OverLimit}
use Rattle.mon_value.specs.LeafHistories.{points_by_series}
use Rattle.mon_value.specs.declared.grids.Grid.{Grid}
use Rattle.mon_value.specs.declared.refusals.Refusal.{Refusal}
use Rattle.mon_value.specs.declared.refusals.Refusal.TheVariants as refusal
use Rattle.mon_value.specs.declared.rows.Row.{Row}
use Rattle.typed_trees.specs.Levels.{TopPart, is_leaf, sent_of, top_parts}
use Rattle.typed_trees.specs.Meaning.{grid_of, load_of, rows_meant}
use Rattle.typed_trees.specs.Nodes.{NodeTree, TypedTree, columns_of}
use Rattle.leaf_eval.proofs.EvaluatedParts.{meant_sent}

module _ (grid : Grid) (some others : List Row)
    (same : IsPermutation (points_by_series some) (points_by_series others)) where
  part_rows : (tree : NodeTree) → IsPermutation (rows_meant grid tree some) (rows_meant grid tree others)
  part_rows tree =
      IsPermutation-trans _ _ _ (rows-permutation grid tree some)
      (IsPermutation-trans _ _ _ (tree_rows_in_order grid tree (points_by_series some) (points_by_series others) same)
      (IsPermutation-sym (rows_meant grid tree others) _ (rows-permutation grid tree others)))

  part_load : (tree : NodeTree) → load_of grid tree some ≡ load_of grid tree others
  part_load tree =
      loads grid tree some ∙ tree_loads_in_order grid tree (points_by_series some) (points_by_series others) same
      ∙ sym (loads grid tree others)

  all_stand : (parts : List TopPart) (pieces : List Piece) → AllStandFor grid others parts pieces
      → AllStandFor grid some parts pieces
  all_stand [] [] all = tt
  all_stand [] (piece ∷ pieces) all = absurd all
  all_stand (part ∷ parts) [] all = absurd all
  all_stand (part ∷ parts) (piece ∷ pieces) all = (
    stands-permutation (columns_of part.1) part.0 (rows_meant grid part.1 some) (rows_meant grid part.1 others) piece
        (part_rows part.1) all.0,
    all_stand parts pieces all.1,
  )

  all_loads : (parts : List TopPart) → parts_load grid some parts ≡ parts_load grid others parts
  all_loads [] = refl
  all_loads (part ∷ parts) =
      omega (
        arith,
        sum_by-cons (λ (p : TopPart). load_of grid p.1 some) part parts,
        sum_by-cons (λ (p : TopPart). load_of grid p.1 others) part parts,
        part_load part.1,
        all_loads parts,
      )

  all_sent : (parts : List TopPart) (pieces : List Piece) → AllStandFor grid others parts pieces
      → parts_sent grid some parts ≡ parts_sent grid others parts
  all_sent [] [] all = refl
  all_sent [] (piece ∷ pieces) all = absurd all
  all_sent (part ∷ parts) [] all = absurd all
  all_sent (part ∷ parts) (piece ∷ pieces) all =
      let here = stands-permutation (columns_of part.1) part.0 (rows_meant grid part.1 some)
      (rows_meant grid part.1 others) piece (part_rows part.1) all.0 in
      let one = sent_is (columns_of part.1) part.0 (rows_meant grid part.1 some) piece here in
      let other = sent_is (columns_of part.1) part.0 (rows_meant grid part.1 others) piece all.0 in
      omega (
        arith,
        sum_by-cons (λ (p : TopPart). sent_of p.0 (rows_meant grid p.1 some)) part parts,
        sum_by-cons (λ (p : TopPart). sent_of p.0 (rows_meant grid p.1 others)) part parts,
        one,
        other,
        all_sent parts pieces all.1,
      )

module _ (typed : TypedTree) (some others : List Row) (moment : ℤ) (limit : ℕ)
    (same : IsPermutation (points_by_series some) (points_by_series others)) where
  abbrev grid : Grid
  grid = grid_of typed moment

  abbrev parts : List TopPart
  parts = top_parts is_leaf typed.tree

  pub answer_in_order : (result : Result LeafAnswer (Refusal OverLimit)) → IsLeafAnswer typed others moment limit result
      → IsLeafAnswer typed some moment limit result
  answer_in_order (Ok answer) is =
      let load = all_loads grid some others same parts in
      record {
        pieces = all_stand grid some others same parts answer.pieces is.pieces;
        load = is.load ∙ sym load;
        sent_is = is.sent_is ∙ meant_sent grid others parts
            ∙ sym (meant_sent grid some parts ∙ all_sent grid some others same parts answer.pieces is.pieces);
        within = omega (arith, load, is.within);
      }
  answer_in_order (Err (refusal.Fault over)) is =
      let load = all_loads grid some others same parts in
      record { above = is.above; most = omega (arith, load, is.most) }
  answer_in_order (Err refusal.OutOfMemory) is = tt
