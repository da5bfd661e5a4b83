-- The pairs that are made of pieces are the load above their parts, and each operation above them can be done.
use Rattle.std.proofs.Common.{◌≡◌, ◌≤◌, ℕ, ◌+◌, Bool, true, false, cond, List, [], ◌∷◌, ◌++◌, length, drop, refl, sym}
use Rattle.std.proofs.Common.{subst, arith}
use Rattle.std.specs.List.{flat_map}
use Rattle.std.proofs.lemmas.List.Sorted.{length_permutation}
use Rattle.std.proofs.lemmas.List.Sums.{sum_by-append, sum_by-cons}
use Rattle.mon_value.specs.Tables.{pairs_of}
use Rattle.mon_value.specs.declared.grids.Grid.{Grid}
use Rattle.mon_value.specs.declared.rows.Row.{Row}
use Rattle.mon_value.specs.declared.tables.TimedRow.{TimedRow}
use Rattle.mql_ast.specs.Rows.{CanCompute}
use Rattle.typed_trees.specs.Meaning.{load_of}
use Rattle.typed_trees.specs.Nodes as node
use Rattle.typed_trees.specs.Nodes.{NodeTree, columns_of, level_of}
use Rattle.typed_trees.specs.Levels as up
use Rattle.typed_trees.specs.Levels.{PartUse, TopPart, part_or, top_parts}
use Rattle.typed_trees.specs.Soundness.{IsEvaluable, IsWithinRows}
use Rattle.typed_trees.specs.declared.levels.Level.{Level}
use Rattle.mon_fold.specs.declared.answers.Piece.{Piece}
use Rattle.mon_meaning.specs.LeafAnswers.{parts_load}
use Rattle.mon_meaning.proofs.FilterLemmas.{all-permutation}
use Rattle.mon_meaning.proofs.OperationOrders.{CanGroup-permutation, pairs-permutation}
use Rattle.mixer.specs.Mixing.{part_count}
use Rattle.mixer.specs.within.Mixtures.{CanMix, Unless, joins_from, rows_from}
use Rattle.mixer.proofs.JoinedPieces.{AllCome}
use Rattle.mixer.proofs.NodePieces.{can_piece, groups_below, joins_of_piece, parts_below, piece_here}
use Rattle.mixer.proofs.TreePieces.{first_side, meant, rows_come, second_side}

unless_by : (b : Bool) (P : Type 0) → (b ≡ false → P) → Unless b P
unless_by true P given = tt
unless_by false P given = given refl

module _ (grid : Grid) (source : List Row) where
  abbrev pub load_over : NodeTree → ℕ
  load_over tree = load_of grid tree source

  abbrev pub over : List TopPart → ℕ
  over parts = parts_load grid source parts

  pub one_load : (use_of : PartUse) (tree : NodeTree) → over ((use_of, tree) ∷ []) ≡ load_over tree
  one_load use_of tree = omega (arith, sum_by-cons (λ (part : TopPart). load_of grid part.1 source) (use_of, tree) [])

  load_by : (b : Bool) (tree : NodeTree) (below : List TopPart) (joins : ℕ)
      → (b ≡ false → load_over tree ≡ over below + joins)
      → load_over tree ≡ over (part_or b up.AsRows tree below) + cond b 0 joins
  load_by true tree below joins further = omega (arith, one_load up.AsRows tree)
  load_by false tree below joins further = further refl

  -- of a part whose groups or first rows go up
  load_used : (b : Bool) (use_of : PartUse) (tree : NodeTree) (below : List TopPart) (joins : ℕ)
      → (b ≡ true → joins ≡ 0) → (b ≡ false → load_over tree ≡ over below + joins)
      → load_over tree ≡ over (part_or b use_of tree below) + joins
  load_used true use_of tree below joins none further = omega (arith, one_load use_of tree, none refl)
  load_used false use_of tree below joins none further = further refl

  group_load : (b c : Bool) (tree : NodeTree) (use_of : PartUse) (input : NodeTree) (below : List TopPart) (joins : ℕ)
      → load_over tree ≡ load_over input
      → (cond b true c ≡ false → load_over input ≡ over below + joins)
      → load_over tree ≡ over (part_or b up.AsRows tree (part_or c use_of input below)) + cond (cond b true c) 0 joins
  group_load true c tree use_of input below joins is further = omega (arith, one_load up.AsRows tree)
  group_load false true tree use_of input below joins is further = omega (arith, is, one_load use_of input)
  group_load false false tree use_of input below joins is further = omega (arith, is, further refl)

  module _ (here : Level → Bool) where
    abbrev Come : List TopPart → List Piece → Type 0
    Come parts pieces = AllCome (meant grid source) parts pieces

    below_parts : (b : Bool) (use_of : PartUse) (tree : NodeTree) (below more : List TopPart) (pieces : List Piece)
        → b ≡ false → Come (part_or b use_of tree below ++ more) pieces → Come (below ++ more) pieces
    below_parts b use_of tree below more pieces e come =
        subst (λ parts. Come (parts ++ more) pieces) (parts_below b use_of tree below e) come

    below_groups : (b c : Bool) (use_of : PartUse) (tree input : NodeTree) (below more : List TopPart)
        (pieces : List Piece)
        → cond b true c ≡ false → Come (part_or b up.AsRows tree (part_or c use_of input below) ++ more) pieces
        → Come (below ++ more) pieces
    below_groups b c use_of tree input below more pieces e come =
        subst (λ parts. Come (parts ++ more) pieces) (groups_below b c up.AsRows use_of tree input below e) come

    two_sides : (left right : NodeTree)
        → over (top_parts here left ++ top_parts here right) ≡ over (top_parts here left) + over (top_parts here right)
    two_sides left right =
        sum_by-append (λ (part : TopPart). load_of grid part.1 source) (top_parts here left) (top_parts here right)

    -- the pairs that are made above the parts, with the load of the parts, are the whole load
    pub loads_come : (tree : NodeTree) (more : List TopPart) (pieces : List Piece) → Come (top_parts here tree ++ more)
        pieces
        → load_over tree ≡ over (top_parts here tree) + joins_from here tree pieces
    loads_come (node.Fetch info schema metric) more pieces come =
        omega (arith, one_load up.AsRows (node.Fetch info schema metric))
    loads_come (node.Filter info by input) more pieces come =
        let tree = node.Filter info by input in
        load_by (here info.level) tree (top_parts here input) (joins_from here input pieces)
        (λ e. loads_come input more pieces (below_parts (here info.level) up.AsRows tree (top_parts here input) more
        pieces e come))
    loads_come (node.Align info by input) more pieces come =
        omega (arith, one_load up.AsRows (node.Align info by input))
    loads_come (node.GroupBy info by with input) more pieces come =
        let tree = node.GroupBy info by with input in
        group_load (here info.level) (here (level_of input)) tree (up.ToGroup by with) input (top_parts here input)
        (joins_from here input pieces) refl
        (λ e. loads_come input more pieces
        (below_groups (here info.level) (here (level_of input)) (up.ToGroup by with) tree input (top_parts here input)
        more pieces e
        come))
    loads_come (node.Value info items input) more pieces come =
        let tree = node.Value info items input in
        load_by (here info.level) tree (top_parts here input) (joins_from here input pieces)
        (λ e. loads_come input more pieces (below_parts (here info.level) up.AsRows tree (top_parts here input) more
        pieces e come))
    loads_come (node.Top info most column input) more pieces come =
        let tree = node.Top info most column input in
        let cut = up.ToCut most column in
        let below = part_or (here (level_of input)) cut input (top_parts here input) in
        load_by (here info.level) tree below (joins_from here input pieces)
        (λ e. load_used (here (level_of input)) cut input (top_parts here input) (joins_from here input pieces)
        (λ f. joins_of_piece here input pieces (piece_here here input f))
        (λ f. loads_come input more pieces
        (below_parts (here (level_of input)) cut input (top_parts here input) more pieces f
        (below_parts (here info.level) up.AsRows tree below more pieces e come))))
    loads_come (node.Join info left right) more pieces come =
        let tree = node.Join info left right in
        let lefts = top_parts here left in
        let rights = top_parts here right in
        let behind = drop (part_count here left) pieces in
        load_by (here info.level) tree (lefts ++ rights)
        (joins_from here left pieces + (joins_from here right behind
        + length (flat_map (pairs_of (columns_of left) (columns_of right) (rows_from here right behind))
        (rows_from here left pieces))))
        (λ e.
        let below = below_parts (here info.level) up.AsRows tree (lefts ++ rights) more pieces e come in
        let one = first_side grid source here left right more pieces below in
        let other = second_side grid source here left right more pieces below in
        let made = length_permutation _ _
        (pairs-permutation (columns_of left) (columns_of right) _ _ _ _ (rows_come grid source here left
        (rights ++ more) pieces one)
        (rows_come grid source here right more behind other)) in
        omega (
          arith,
          made,
          two_sides left right,
          loads_come left (rights ++ more) pieces one,
          loads_come right more behind other,
        ))
    loads_come (node.Union info left right) more pieces come =
        let tree = node.Union info left right in
        let lefts = top_parts here left in
        let rights = top_parts here right in
        let behind = drop (part_count here left) pieces in
        load_by (here info.level) tree (lefts ++ rights) (joins_from here left pieces + joins_from here right behind)
        (λ e.
        let below = below_parts (here info.level) up.AsRows tree (lefts ++ rights) more pieces e come in
        let one = first_side grid source here left right more pieces below in
        let other = second_side grid source here left right more pieces below in
        omega (
          arith,
          two_sides left right,
          loads_come left (rights ++ more) pieces one,
          loads_come right more behind other,
        ))

    -- ---- that each operation can be done

    -- a part that is to be cut, or what is made below it
    can_cut : (c : Bool) (use_of : PartUse) (base : ℕ) (input : NodeTree) (more : List TopPart) (pieces : List Piece)
        → c ≡ here (level_of input)
        → (Come (top_parts here input ++ more) pieces → over (top_parts here input) ≤ base → CanMix base here input
        pieces)
        → Come (part_or c use_of input (top_parts here input) ++ more) pieces
        → over (part_or c use_of input (top_parts here input)) ≤ base
        → CanMix base here input pieces
    can_cut true use_of base input more pieces e further come least = can_piece here base input pieces
        (piece_here here input (sym e))
    can_cut false use_of base input more pieces e further come least = further come least

    few_first : (base joins others load part : ℕ) → IsWithinRows (base + joins + others) → load ≡ part + joins → part
        ≤ base
        → IsWithinRows load
    few_first base joins others load part few is least = omega (arith, few, is, least)

    few_second : (base joins others load part : ℕ) → IsWithinRows (base + joins + others) → load ≡ part + others → part
        ≤ base
        → IsWithinRows load
    few_second base joins others load part few is least = omega (arith, few, is, least)

    less_below : (b : Bool) (use_of : PartUse) (tree : NodeTree) (below : List TopPart) (base : ℕ) → b ≡ false
        → over (part_or b use_of tree below) ≤ base → over below ≤ base
    less_below b use_of tree below base e least =
        subst (λ parts. over parts ≤ base) (parts_below b use_of tree below e) least

    pub can_mix : (base : ℕ) (tree : NodeTree) (more : List TopPart) (pieces : List Piece) → IsEvaluable grid tree
        source
        → Come (top_parts here tree ++ more) pieces → over (top_parts here tree) ≤ base → CanMix base here tree pieces
    can_mix base (node.Fetch info schema metric) more pieces can come least = tt
    can_mix base (node.Filter info by input) more pieces can come least =
        let tree = node.Filter info by input in
        let below = top_parts here input in
        unless_by (here info.level) _
        (λ e. (
          λ few. tt,
          can_mix base input more pieces can (below_parts (here info.level) up.AsRows tree below more pieces e come)
              (less_below (here info.level) up.AsRows tree below base e least),
        ))
    can_mix base (node.Align info by input) more pieces can come least = tt
    can_mix base (node.GroupBy info by with input) more pieces can come least =
        let tree = node.GroupBy info by with input in
        let below = top_parts here input in
        let grouped = cond (here info.level) true (here (level_of input)) in
        unless_by grouped _
        (λ e.
        let own = below_groups (here info.level) (here (level_of input)) (up.ToGroup by with) tree input below more
        pieces e come in
        let less = subst (λ parts. over parts ≤ base)
        (groups_below (here info.level) (here (level_of input)) up.AsRows (up.ToGroup by with) tree input below e)
        least in (
          λ few. CanGroup-permutation (columns_of input) by with _ _ (rows_come grid source here input more pieces own)
              (can.0 (few_first base (joins_from here input pieces) 0 (load_over input) (over below) few
              (loads_come input more pieces own) less)),
          can_mix base input more pieces can.1 own less,
        ))
    can_mix base (node.Value info items input) more pieces can come least =
        let tree = node.Value info items input in
        let below = top_parts here input in
        unless_by (here info.level) _
        (λ e.
        let own = below_parts (here info.level) up.AsRows tree below more pieces e come in
        let less = less_below (here info.level) up.AsRows tree below base e least in (
          λ few. (
            can.0,
            all-permutation (λ (row : TimedRow). CanCompute (columns_of input) row.cells) _ _
                (rows_come grid source here input more pieces own)
                (can.1.0 (few_first base (joins_from here input pieces) 0 (load_over input) (over below) few
                (loads_come input more pieces own) less)),
          ),
          can_mix base input more pieces can.1.1 own less,
        ))
    can_mix base (node.Top info most column input) more pieces can come least =
        let tree = node.Top info most column input in
        let cut = up.ToCut most column in
        let below = part_or (here (level_of input)) cut input (top_parts here input) in
        unless_by (here info.level) _
        (λ e. (
          λ few. tt,
          can_cut (here (level_of input)) cut base input more pieces refl
              (λ own less. can_mix base input more pieces can own less)
              (below_parts (here info.level) up.AsRows tree below more pieces e come)
              (less_below (here info.level) up.AsRows tree below base e least),
        ))
    can_mix base (node.Join info left right) more pieces can come least =
        let tree = node.Join info left right in
        let lefts = top_parts here left in
        let rights = top_parts here right in
        let behind = drop (part_count here left) pieces in
        unless_by (here info.level) _
        (λ e.
        let below = below_parts (here info.level) up.AsRows tree (lefts ++ rights) more pieces e come in
        let one = first_side grid source here left right more pieces below in
        let other = second_side grid source here left right more pieces below in
        let less = less_below (here info.level) up.AsRows tree (lefts ++ rights) base e least in
        let first_less : over lefts ≤ base = omega (arith, two_sides left right, less) in
        let second_less : over rights ≤ base = omega (arith, two_sides left right, less) in (
          λ few. (
            all-permutation (λ (row : TimedRow). length row.cells ≡ length (columns_of left)) _ _
                (rows_come grid source here left (rights ++ more) pieces one)
                (can.0 (few_first base (joins_from here left pieces) (joins_from here right behind) (load_over left)
                (over lefts)
                few (loads_come left (rights ++ more) pieces one) first_less)),
            all-permutation (λ (row : TimedRow). length row.cells ≡ length (columns_of right)) _ _
                (rows_come grid source here right more behind other)
                (can.1.0 (few_second base (joins_from here left pieces) (joins_from here right behind) (load_over right)
                (over rights) few (loads_come right more behind other) second_less)),
          ),
          (
            can_mix base left (rights ++ more) pieces can.1.1.0 one first_less,
            can_mix base right more behind can.1.1.1 other second_less,
          ),
        ))
    can_mix base (node.Union info left right) more pieces can come least =
        let tree = node.Union info left right in
        let lefts = top_parts here left in
        let rights = top_parts here right in
        let behind = drop (part_count here left) pieces in
        unless_by (here info.level) _
        (λ e.
        let below = below_parts (here info.level) up.AsRows tree (lefts ++ rights) more pieces e come in
        let one = first_side grid source here left right more pieces below in
        let other = second_side grid source here left right more pieces below in
        let less = less_below (here info.level) up.AsRows tree (lefts ++ rights) base e least in (
          λ few. tt,
          (
            can_mix base left (rights ++ more) pieces can.0 one (omega (arith, two_sides left right, less)),
            can_mix base right more behind can.1 other (omega (arith, two_sides left right, less)),
          ),
        ))
