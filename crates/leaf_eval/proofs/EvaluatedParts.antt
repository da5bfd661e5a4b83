-- The parts that were evaluated so far.
use Rattle.std.proofs.Common.{◌≡◌, ◌≤◌, ℕ, ℤ, ◌+◌, ◌-◌, List, [], ◌∷◌, ◌++◌, map, refl, sym, ap, subst, ◌∙◌}
use Rattle.std.proofs.Common.{append_assoc, append-nil, arith}
use Rattle.std.specs.Prelude.{IsPermutation}
use Rattle.std.proofs.lemmas.List.Sums.{sum_by-append, sum_by-cons}
use Rattle.mon_value.specs.declared.grids.Grid.{Grid}
use Rattle.mon_value.specs.declared.rows.Row.{Row}
use Rattle.mon_value.specs.declared.tables.TimedRow.{TimedRow}
use Rattle.typed_trees.specs.Meaning.{load_of, grid_of, rows_meant}
use Rattle.typed_trees.specs.Levels.{is_leaf, PieceMeant, TopPart, piece_meant, pieces_sent, sent_of, top_parts}
use Rattle.typed_trees.specs.Nodes.{TypedTree, columns_of}
use Rattle.mon_meaning.specs.Counts.{TellsOver}
use Rattle.mon_meaning.specs.declared.meter.OverLimit.{OverLimit}
use Rattle.mon_value.specs.declared.refusals.Refusal.{Refusal}
use Rattle.mon_value.specs.declared.refusals.Refusal.TheVariants as refusal
use Rattle.mon_fold.specs.declared.answers.Piece.{Piece}
use Rattle.mon_meaning.specs.Standing.{AllStandFor, StandsFor}
use Rattle.mon_meaning.specs.GoingUp.{items_sent, parts_sent}
use Rattle.mon_meaning.specs.LeafAnswers.{IsLeafPart, IsRefusedByLeaf, parts_load}
use Rattle.mon_meaning.proofs.StandingPieces.{sent_is, sent_within, stands-permutation}

module _ (grid : Grid) (source : List Row) where
  stands-push : (parts : List TopPart) (pieces : List Piece) (part : TopPart) (piece : Piece) → AllStandFor grid source
      parts pieces
      → StandsFor (columns_of part.1) (piece_meant grid source part) piece → AllStandFor grid source
      (parts ++ part ∷ []) (pieces ++ piece ∷ [])
  stands-push [] [] part piece all stands = (stands, tt)
  stands-push [] (p ∷ pieces) part piece all stands = absurd all
  stands-push (t ∷ parts) [] part piece all stands = absurd all
  stands-push (t ∷ parts) (p ∷ pieces) part piece all stands = (all.0, stands-push parts pieces part piece all.1 stands)

  load-push : (parts : List TopPart) (part : TopPart)
      → parts_load grid source (parts ++ part ∷ []) ≡ parts_load grid source parts + load_of grid part.1 source
  load-push parts part = omega (arith, sum_by-append (λ (p : TopPart). load_of grid p.1 source) parts (part ∷ []))

  sent-push : (parts : List TopPart) (part : TopPart)
      → parts_sent grid source (parts ++ part ∷ []) ≡ parts_sent grid source parts
      + sent_of part.0 (rows_meant grid part.1 source)
  sent-push parts part =
      omega (arith, sum_by-append (λ (p : TopPart). sent_of p.0 (rows_meant grid p.1 source)) parts (part ∷ []))

  sent_fewer : (parts : List TopPart) → parts_sent grid source parts ≤ parts_load grid source parts
  sent_fewer [] = omega arith
  sent_fewer (part ∷ parts) =
      omega (
        arith,
        sum_by-cons (λ (p : TopPart). sent_of p.0 (rows_meant grid p.1 source)) part parts,
        sum_by-cons (λ (p : TopPart). load_of grid p.1 source) part parts,
        sent_within grid part.0 part.1 source,
        sent_fewer parts,
      )

  -- some parts have their pieces, and others are left
  pub record SoFar (all left : List TopPart) (pieces : List Piece) (load sent : ℕ) : Type 0 where
    pub done : List TopPart
    pub split : done ++ left ≡ all
    pub stands : AllStandFor grid source done pieces
    pub counted : load ≡ parts_load grid source done
    pub told : sent ≡ parts_sent grid source done

  pub none_so_far : (all left : List TopPart) (pieces : List Piece) (load sent : ℕ) → left ≡ all → pieces ≡ [] → load
      ≡ 0 → sent ≡ 0
      → SoFar all left pieces load sent
  none_so_far all left pieces load sent same none no_load no_sent = record {
    done = [];
    split = same;
    stands = subst (λ (ps : List Piece). AllStandFor grid source [] ps) (sym none) tt;
    counted = no_load;
    told = no_sent;
  }

  pub sent_so_far : (all left : List TopPart) (pieces : List Piece) (load sent : ℕ) → SoFar all left pieces load sent
      → sent ≤ load
  sent_so_far all left pieces load sent so_far = omega (arith, so_far.counted, so_far.told, sent_fewer so_far.done)

  -- one part more
  pub one_more : (all left : List TopPart) (part : TopPart) (pieces pieces' : List Piece) (piece : Piece)
      (rows : List TimedRow)
      (load load' sent sent' : ℕ) → SoFar all (part ∷ left) pieces load sent
      → IsPermutation (rows_meant grid part.1 source) rows → StandsFor (columns_of part.1) (part.0, rows) piece
      → pieces' ≡ pieces ++ piece ∷ [] → load' ≡ load + load_of grid part.1 source → sent' ≡ sent + items_sent piece
      → SoFar all left pieces' load' sent'
  one_more all left part pieces pieces' piece rows load load' sent sent' so_far same stands pushed counted told =
      let meant = stands-permutation (columns_of part.1) part.0 (rows_meant grid part.1 source) rows piece same
      stands in
      record {
        done = so_far.done ++ part ∷ [];
        split = append_assoc so_far.done (part ∷ []) left ∙ so_far.split;
        stands = subst (λ (ps : List Piece). AllStandFor grid source (so_far.done ++ part ∷ []) ps) (sym pushed)
            (stands-push so_far.done pieces part piece so_far.stands meant);
        counted = omega (arith, counted, so_far.counted, load-push so_far.done part);
        told = omega (
          arith,
          told,
          so_far.told,
          sent-push so_far.done part,
          sent_is (columns_of part.1) part.0 (rows_meant grid part.1 source) piece meant,
        );
      }

  -- what goes up of a part with the others is within the load
  pub sent_next : (all left : List TopPart) (part : TopPart) (pieces : List Piece) (piece : Piece)
      (rows : List TimedRow) (load sent : ℕ)
      → SoFar all (part ∷ left) pieces load sent → IsPermutation (rows_meant grid part.1 source) rows
      → StandsFor (columns_of part.1) (part.0, rows) piece → sent + items_sent piece ≤ load + load_of grid part.1 source
  sent_next all left part pieces piece rows load sent so_far same stands =
      let meant = stands-permutation (columns_of part.1) part.0 (rows_meant grid part.1 source) rows piece same
      stands in
      omega (
        arith,
        sent_so_far all (part ∷ left) pieces load sent so_far,
        sent_is (columns_of part.1) part.0 (rows_meant grid part.1 source) piece meant,
        sent_within grid part.0 part.1 source,
      )

  pub all_done : (all : List TopPart) (pieces : List Piece) (load sent : ℕ) (so_far : SoFar all [] pieces load sent)
      → so_far.done ≡ all
  all_done all pieces load sent so_far = sym (append-nil so_far.done) ∙ so_far.split

  -- a part that is over is over in the whole
  pub load_left : (all left : List TopPart) (part : TopPart) (pieces : List Piece) (load sent : ℕ)
      → SoFar all (part ∷ left) pieces load sent
      → load + load_of grid part.1 source ≤ parts_load grid source all
  load_left all left part pieces load sent so_far =
      omega (
        arith,
        so_far.counted,
        sum_by-append (λ (p : TopPart). load_of grid p.1 source) so_far.done (part ∷ left),
        sum_by-cons (λ (p : TopPart). load_of grid p.1 source) part left,
        ap (parts_load grid source) so_far.split,
      )

pub meant_sent : (grid : Grid) (source : List Row) (parts : List TopPart)
    → pieces_sent (map (piece_meant grid source) parts) ≡ parts_sent grid source parts
meant_sent grid source [] = refl
meant_sent grid source (part ∷ parts) =
    omega (
      arith,
      sum_by-cons (λ (p : TopPart). sent_of p.0 (rows_meant grid p.1 source)) part parts,
      sum_by-cons (λ (p : PieceMeant). sent_of p.0 p.1) (piece_meant grid source part)
          (map (piece_meant grid source) parts),
      meant_sent grid source parts,
    )

module _ (typed : TypedTree) (source : List Row) (moment : ℤ) (limit : ℕ) (grid : Grid)
    (is : grid ≡ grid_of typed moment) where
  abbrev all : List TopPart
  all = top_parts is_leaf typed.tree

  -- a part that is over is over in the leaf
  pub over_leaf : (left : List TopPart) (part : TopPart) (pieces : List Piece) (load sent most : ℕ)
      (r : Refusal OverLimit)
      → SoFar grid source all (part ∷ left) pieces load sent → most ≡ limit
      → TellsOver most (load + load_of grid part.1 source) r
      → IsRefusedByLeaf typed source moment limit r
  over_leaf left part pieces load sent most (refusal.Fault over) so_far same tells =
      let more = load_left grid source all left part pieces load sent so_far in
      let whole = ap (λ (g : Grid). parts_load g source all) is in record {
        above = omega (arith, tells.above, same);
        most = omega (arith, more, whole, tells.within);
      }
  over_leaf left part pieces load sent most refusal.OutOfMemory so_far same tells = tt

  -- all parts have their pieces
  pub leaf_done : (left : List TopPart) (pieces : List Piece) (load sent room most : ℕ) → SoFar grid source all left
      pieces load sent → left ≡ []
      → load + room ≡ most → most ≡ limit → IsLeafPart typed source moment limit
      (record { pieces = pieces; load = limit - room; sent = sent })
  leaf_done left pieces load sent room most so_far none rest same =
      let last = subst (λ (ps : List TopPart). SoFar grid source all ps pieces load sent) none so_far in
      let done = all_done grid source all pieces load sent last in
      let whole = ap (λ (g : Grid). parts_load g source all) is in
      let counted = ap (parts_load grid source) done in record {
        pieces = subst (λ (g : Grid). AllStandFor g source all pieces) is
            (subst (λ (ps : List TopPart). AllStandFor grid source ps pieces) done last.stands);
        load = omega (arith, rest, same, last.counted, counted, whole);
        sent_is = last.told ∙ ap (parts_sent grid source) done ∙ ap (λ (g : Grid). parts_sent g source all) is
            ∙ sym (meant_sent (grid_of typed moment) source all);
        within = omega (arith, rest, same, last.counted, counted, whole);
      }
