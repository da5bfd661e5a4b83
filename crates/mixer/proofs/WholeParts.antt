-- The rows that a part means over the rows of children that share nothing are those of each child.
use Rattle.std.proofs.Common.{◌≤◌, ℕ, ◌^◌, Bool, List, [], ◌∷◌, ◌++◌, length, map, sym, subst, arith}
use Rattle.std.specs.Prelude.{IsPermutation}
use Rattle.std.specs.List.{AllByRecursion}
use Rattle.std.proofs.lemmas.List.Sorted.{IsPermutation-append, IsPermutation-refl, IsPermutation-trans}
use Rattle.std.proofs.lemmas.List.Sorted.{length_permutation}
use Rattle.std.proofs.lemmas.List.Sums.{sum_by-cons}
use Rattle.mon_value.specs.Values.{greatest_sum}
use Rattle.mon_value.specs.declared.grids.Grid.{Grid}
use Rattle.mon_value.specs.declared.rows.Row.{Row}
use Rattle.mon_schema.specs.Names.{SchemaLists}
use Rattle.typed_trees.specs.Meaning.{load_of, rows_meant}
use Rattle.typed_trees.specs.Nodes.{NodeTree, columns_of}
use Rattle.typed_trees.specs.Levels.{TopPart, piece_meant, pieces_meant, top_parts}
use Rattle.typed_trees.specs.Soundness.{IsWithinRows}
use Rattle.typed_trees.specs.declared.levels.Level.{Level}
use Rattle.typed_rows.proofs.FetchedTrees.{AllFit}
use Rattle.typed_rows.proofs.JoinedRows.{all-front}
use Rattle.typed_rows.proofs.RowCounts.{rows_within_load}
use Rattle.mon_fold.specs.declared.answers.Piece.{Piece}
use Rattle.mon_meaning.specs.LeafAnswers.{parts_load}
use Rattle.mon_meaning.proofs.StandingPieces.{up-permutation}
use Rattle.mixer.specs.Divisions.{together}
use Rattle.mon_meaning.specs.ReadableSlots.{AreApart}
use Rattle.mixer.specs.Mixing.{SamePieces, joined_pieces}
use Rattle.mixer.specs.within.Joined.{AllStandEmpty, AreTogether, CanBeEmpty, CanJoinAll}
use Rattle.mixer.proofs.ApartPieces.{no_rows}
use Rattle.mixer.proofs.JoinedPieces.{AllCanCome, AllChildren, AllCome, all_come-permutation, all_standing}
use Rattle.mixer.proofs.JoinedPieces.{can_go_up_first}
use Rattle.mixer.proofs.JoinedPieces.{children_together, comes_standing, meant_over, rows_over}
use Rattle.mixer.proofs.ZoneParts.{IsPartMade}

-- ---- children that share nothing

abbrev pub AreWholes : Grid → List TopPart → List (List Row) → Type 0
AreWholes grid parts leaves =
    AllByRecursion (λ part. IsPermutation (meant_over grid (together leaves) part) (rows_over grid leaves part)) parts

split_pieces : (grid : Grid) (whole xs ys : List Row) (parts : List TopPart)
    → SamePieces (map (piece_meant grid whole) parts)
    (joined_pieces (map (piece_meant grid xs) parts) (map (piece_meant grid ys) parts))
    → AllByRecursion
    (λ (part : TopPart). IsPermutation (rows_meant grid part.1 whole) (rows_meant grid part.1 xs ++ rows_meant grid
    part.1 ys))
    parts
split_pieces grid whole xs ys [] same = tt
split_pieces grid whole xs ys (part ∷ parts) same = (same.1.0, split_pieces grid whole xs ys parts same.1.1)

without_rows : (grid : Grid) (parts : List TopPart) → AreWholes grid parts []
without_rows grid [] = tt
without_rows grid (part ∷ parts) = (
  subst (λ xs. IsPermutation xs []) (sym (no_rows grid part.1)) (IsPermutation-refl []),
  without_rows grid parts,
)

with_leaf : (grid : Grid) (leaf : List Row) (leaves : List (List Row)) (parts : List TopPart)
    → AllByRecursion
    (λ (part : TopPart). IsPermutation (rows_meant grid part.1 (leaf ++ together leaves))
    (rows_meant grid part.1 leaf ++ rows_meant grid part.1 (together leaves)))
    parts
    → AreWholes grid parts leaves → AreWholes grid parts (leaf ∷ leaves)
with_leaf grid leaf leaves [] split rest = tt
with_leaf grid leaf leaves (part ∷ parts) split rest = (
  IsPermutation-trans _ _ _ split.0
      (IsPermutation-append _ _ _ _ (IsPermutation-refl (rows_meant grid part.1 leaf)) rest.0),
  with_leaf grid leaf leaves parts split.1 rest.1,
)

module _ (held : SchemaLists) (grid : Grid) (here : Level → Bool) (tree : NodeTree)
    (Shares : List Row → List Row → Type 0)
    (all_shares : (leaf : List Row) (leaves : List (List Row)) → AllByRecursion (Shares leaf) leaves
    → Shares leaf (together leaves))
    (apart : (xs ys : List Row) → AllFit held xs → AllFit held ys → Shares xs ys
    → SamePieces (pieces_meant here grid tree (xs ++ ys))
    (joined_pieces (pieces_meant here grid tree xs) (pieces_meant here grid tree ys))) where
  pub wholes : (leaves : List (List Row)) → AllFit held (together leaves) → AreApart Shares leaves
      → AreWholes grid (top_parts here tree) leaves
  wholes [] fit shares = without_rows grid (top_parts here tree)
  wholes (leaf ∷ leaves) fit shares =
      let parts = all-front _ leaf (together leaves) fit in
      with_leaf grid leaf leaves (top_parts here tree)
      (split_pieces grid (leaf ++ together leaves) leaf (together leaves) (top_parts here tree)
      (apart leaf (together leaves) parts.0 parts.1 (all_shares leaf leaves shares.0)))
      (wholes leaves parts.1 shares.1)

-- ---- that pieces can be put together

small : (n : ℕ) → n ≤ 2 ^ 24 → n ≤ greatest_sum
small n few = omega (arith, few)

-- where the load of all parts is within the rows that a table may have, so are the rows of each
pub parts_can_come : (grid : Grid) (leaves : List (List Row)) (parts : List TopPart)
    → AllByRecursion (IsPartMade grid (together leaves)) parts → AreWholes grid parts leaves
    → IsWithinRows (parts_load grid (together leaves) parts) → AllCanCome (rows_over grid leaves) parts
parts_can_come grid leaves [] made wholes few = tt
parts_can_come grid leaves (part ∷ parts) made wholes few =
    let source = together leaves in
    let split = sum_by-cons (λ (p : TopPart). load_of grid p.1 source) part parts in
    let own : IsWithinRows (load_of grid part.1 source) = omega (arith, split, few) in
    let count = length_permutation _ _ wholes.0 in
    let rows = rows_within_load grid part.1 source in (
      (
        up-permutation (columns_of part.1) part.0 _ _ wholes.0 (made.0.can own),
        small (length (rows_over grid leaves part)) (omega (arith, count, rows, own)),
      ),
      parts_can_come grid leaves parts made.1 wholes.1 (omega (arith, split, few)),
    )

pub can_be_empty : (grid : Grid) (leaves : List (List Row)) (parts : List TopPart)
    → AllCanCome (rows_over grid leaves) parts → AllByRecursion CanBeEmpty parts
can_be_empty grid leaves [] can = tt
can_be_empty grid leaves (part ∷ parts) can = (
  can_go_up_first (columns_of part.1) part.0 [] (rows_over grid leaves part) can.0.0,
  can_be_empty grid leaves parts can.1,
)

empty_come : (grid : Grid) (parts : List TopPart) (pieces : List Piece) → AllStandEmpty parts pieces
    → AllCome (rows_over grid []) parts pieces
empty_come grid [] [] all = tt
empty_come grid [] (p ∷ pieces) all = absurd all
empty_come grid (part ∷ parts) [] all = absurd all
empty_come grid (part ∷ parts) (p ∷ pieces) all =
    (comes_standing (columns_of part.1) part.0 [] p all.0, empty_come grid parts pieces all.1)

pub can_join : (grid : Grid) (parts : List TopPart) (leaves : List (List Row)) (children : List (List Piece))
    → AllChildren grid parts leaves children → AllCanCome (rows_over grid leaves) parts → CanJoinAll children
can_join grid parts [] [] all can = tt
can_join grid parts [] (child ∷ children) all can = absurd all
can_join grid parts (rows ∷ leaves) [] all can = absurd all
can_join grid parts (rows ∷ leaves) (child ∷ children) all can =
    (children_together grid parts (meant_over grid rows) leaves child children (all_standing grid rows parts child
    all.0) all.1 can).0

joined_come : (grid : Grid) (parts : List TopPart) (leaves : List (List Row)) (children : List (List Piece))
    (pieces : List Piece)
    → AllChildren grid parts leaves children → AllCanCome (rows_over grid leaves) parts → AreTogether parts children
    pieces
    → AllCome (rows_over grid leaves) parts pieces
joined_come grid parts [] [] pieces all can joined = empty_come grid parts pieces joined
joined_come grid parts [] (child ∷ children) pieces all can joined = absurd all
joined_come grid parts (rows ∷ leaves) [] pieces all can joined = absurd all
joined_come grid parts (rows ∷ leaves) (child ∷ children) pieces all can joined =
    subst (λ ps. AllCome (rows_over grid (rows ∷ leaves)) parts ps) (sym joined)
    (children_together grid parts (meant_over grid rows) leaves child children (all_standing grid rows parts child
    all.0) all.1 can).1

-- the pieces of all children have come to the rows of all
pub whole_come : (grid : Grid) (parts : List TopPart) (leaves : List (List Row)) (children : List (List Piece))
    (pieces : List Piece) → AllChildren grid parts leaves children → AreWholes grid parts leaves
    → AllCanCome (rows_over grid leaves) parts → AreTogether parts children pieces
    → AllCome (meant_over grid (together leaves)) parts pieces
whole_come grid parts leaves children pieces all wholes can joined =
    all_come-permutation (meant_over grid (together leaves)) (rows_over grid leaves) parts pieces wholes
    (joined_come grid parts leaves children pieces all can joined)
