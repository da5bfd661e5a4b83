-- The rows that are made of pieces, node by node.
use Rattle.std.proofs.Common.{◌≡◌, ◌∙◌, ◌≤◌, ℕ, ◌+◌, Bool, true, false, cond, List, ◌++◌, length, drop, refl, sym, ap}
use Rattle.std.proofs.Common.{arith}
use Rattle.std.proofs.lemmas.List.{drop-drop, length-append}
use Rattle.mon_value.specs.declared.tables.TimedRow.{TimedRow}
use Rattle.typed_trees.specs.Nodes as node
use Rattle.typed_trees.specs.Nodes.{NodeTree, level_of}
use Rattle.typed_trees.specs.Levels.{AsRows, PartUse, ToCut, ToGroup, TopPart, part_or, top_parts}
use Rattle.typed_trees.specs.declared.levels.Level.{Level}
use Rattle.mon_fold.specs.declared.answers.Piece.{Piece}
use Rattle.mon_meaning.specs.Operations.{operation_rows}
use Rattle.mon_meaning.specs.within.Paths.{HasNoInput, first_input}
use Rattle.mixer.specs.Mixing.{part_count}
use Rattle.mixer.specs.within.Mixtures.{CanMix, Operates, OtherCanMix, Unless, pieces_behind_first, first_piece_rows}
use Rattle.mixer.specs.within.Mixtures.{is_piece}
use Rattle.mixer.specs.within.Mixtures.{joins_from}
use Rattle.mixer.specs.within.Mixtures.{other_count, other_piece_rows, own_joins, rows_from}

-- ---- a node of which there is a piece

-- rows begin at a piece
pub source_is_piece : (here : Level → Bool) (tree : NodeTree) → HasNoInput tree → is_piece here tree ≡ true
source_is_piece here (node.Fetch info schema metric) source = refl
source_is_piece here (node.Filter info by input) source = absurd source
source_is_piece here (node.Align info by input) source = refl
source_is_piece here (node.GroupBy info by with input) source = absurd source
source_is_piece here (node.Value info items input) source = absurd source
source_is_piece here (node.Top info most column input) source = absurd source
source_is_piece here (node.Join info left right) source = absurd source
source_is_piece here (node.Union info left right) source = absurd source

one_part : (b : Bool) (use_of : PartUse) (tree : NodeTree) (below : List TopPart) → b ≡ true
    → length (part_or b use_of tree below) ≡ 1
one_part true use_of tree below e = refl
one_part false use_of tree below e = absurd cc

one_group : (b c : Bool) (use_of more : PartUse) (tree input : NodeTree) (below : List TopPart) → cond b true c ≡ true
    → length (part_or b use_of tree (part_or c more input below)) ≡ 1
one_group true c use_of more tree input below e = refl
one_group false true use_of more tree input below e = refl
one_group false false use_of more tree input below e = absurd cc

same_count_by : (b : Bool) (use_of : PartUse) (tree : NodeTree) (below : List TopPart) → (b ≡ true → length below ≡ 1)
    → length (part_or b use_of tree below) ≡ length below
same_count_by true use_of tree below e = sym (e refl)
same_count_by false use_of tree below e = refl

rows_if : (b : Bool) (xs ys : List TimedRow) → b ≡ true → cond b xs ys ≡ xs
rows_if true xs ys e = refl
rows_if false xs ys e = absurd cc

none_if : (b : Bool) (n : ℕ) → b ≡ true → cond b 0 n ≡ 0
none_if true n e = refl
none_if false n e = absurd cc

-- ---- one of which there is none

pub parts_below : (b : Bool) (use_of : PartUse) (tree : NodeTree) (below : List TopPart) → b ≡ false
    → part_or b use_of tree below ≡ below
parts_below true use_of tree below e = absurd cc
parts_below false use_of tree below e = refl

pub groups_below : (b c : Bool) (use_of more : PartUse) (tree input : NodeTree) (below : List TopPart) → cond b true c
    ≡ false
    → part_or b use_of tree (part_or c more input below) ≡ below
groups_below true c use_of more tree input below e = absurd cc
groups_below false true use_of more tree input below e = absurd cc
groups_below false false use_of more tree input below e = refl

rows_unless : (b : Bool) (xs ys : List TimedRow) → b ≡ false → cond b xs ys ≡ ys
rows_unless true xs ys e = absurd cc
rows_unless false xs ys e = refl

some_unless : (b : Bool) (n : ℕ) → b ≡ false → cond b 0 n ≡ n
some_unless true n e = absurd cc
some_unless false n e = refl

unless : (b : Bool) (P : Type 0) → b ≡ false → Unless b P → P
unless true P e p = absurd cc
unless false P e p = p

module _ (here : Level → Bool) where
  pub one_piece : (tree : NodeTree) → is_piece here tree ≡ true → part_count here tree ≡ 1
  one_piece (node.Fetch info schema metric) e = refl
  one_piece (node.Filter info by input) e = one_part (here info.level) _ _ _ e
  one_piece (node.Align info by input) e = refl
  one_piece (node.GroupBy info by with input) e = one_group (here info.level) (here (level_of input)) _ _ _ _ _ e
  one_piece (node.Value info items input) e = one_part (here info.level) _ _ _ e
  one_piece (node.Top info most column input) e = one_part (here info.level) _ _ _ e
  one_piece (node.Join info left right) e = one_part (here info.level) _ _ _ e
  one_piece (node.Union info left right) e = one_part (here info.level) _ _ _ e

  group_by_here : (b c : Bool) → b ≡ true → cond b true c ≡ true
  group_by_here true c e = refl
  group_by_here false c e = absurd cc

  -- there is a piece of what is done here
  pub piece_here : (tree : NodeTree) → here (level_of tree) ≡ true → is_piece here tree ≡ true
  piece_here (node.Fetch info schema metric) e = refl
  piece_here (node.Filter info by input) e = e
  piece_here (node.Align info by input) e = refl
  piece_here (node.GroupBy info by with input) e = group_by_here (here info.level) (here (level_of input)) e
  piece_here (node.Value info items input) e = e
  piece_here (node.Top info most column input) e = e
  piece_here (node.Join info left right) e = e
  piece_here (node.Union info left right) e = e

  pub same_count : (use_of : PartUse) (tree : NodeTree)
      → length (part_or (here (level_of tree)) use_of tree (top_parts here tree)) ≡ part_count here tree
  same_count use_of tree =
      same_count_by (here (level_of tree)) use_of tree (top_parts here tree) (λ e. one_piece tree (piece_here tree e))

  pub rows_of_piece : (tree : NodeTree) (pieces : List Piece) → is_piece here tree ≡ true
      → rows_from here tree pieces ≡ first_piece_rows pieces
  rows_of_piece (node.Fetch info schema metric) pieces e = refl
  rows_of_piece (node.Filter info by input) pieces e = rows_if (here info.level) _ _ e
  rows_of_piece (node.Align info by input) pieces e = refl
  rows_of_piece (node.GroupBy info by with input) pieces e =
      rows_if (cond (here info.level) true (here (level_of input))) _ _ e
  rows_of_piece (node.Value info items input) pieces e = rows_if (here info.level) _ _ e
  rows_of_piece (node.Top info most column input) pieces e = rows_if (here info.level) _ _ e
  rows_of_piece (node.Join info left right) pieces e = rows_if (here info.level) _ _ e
  rows_of_piece (node.Union info left right) pieces e = rows_if (here info.level) _ _ e

  pub joins_of_piece : (tree : NodeTree) (pieces : List Piece) → is_piece here tree ≡ true
      → joins_from here tree pieces ≡ 0
  joins_of_piece (node.Fetch info schema metric) pieces e = refl
  joins_of_piece (node.Filter info by input) pieces e = none_if (here info.level) _ e
  joins_of_piece (node.Align info by input) pieces e = refl
  joins_of_piece (node.GroupBy info by with input) pieces e =
      none_if (cond (here info.level) true (here (level_of input))) _ e
  joins_of_piece (node.Value info items input) pieces e = none_if (here info.level) _ e
  joins_of_piece (node.Top info most column input) pieces e = none_if (here info.level) _ e
  joins_of_piece (node.Join info left right) pieces e = none_if (here info.level) _ e
  joins_of_piece (node.Union info left right) pieces e = none_if (here info.level) _ e

  -- the pieces of a node are those of what flows into it
  pub more_parts : (tree : NodeTree) → is_piece here tree ≡ false
      → part_count here tree ≡ part_count here (first_input tree) + other_count here tree
  more_parts (node.Fetch info schema metric) e = absurd cc
  more_parts (node.Filter info by input) e =
      let below = ap (λ (ps : List TopPart). length ps) (parts_below (here info.level) AsRows
      (node.Filter info by input) (top_parts here input) e) in
      omega (arith, below)
  more_parts (node.Align info by input) e = absurd cc
  more_parts (node.GroupBy info by with input) e =
      let below = ap (λ (ps : List TopPart). length ps)
      (groups_below (here info.level) (here (level_of input)) AsRows (ToGroup by with)
      (node.GroupBy info by with input) input (top_parts here input) e) in
      omega (arith, below)
  more_parts (node.Value info items input) e =
      let below = ap (λ (ps : List TopPart). length ps) (parts_below (here info.level) AsRows
      (node.Value info items input) (top_parts here input) e) in
      omega (arith, below)
  more_parts (node.Top info most column input) e =
      let below = ap (λ (ps : List TopPart). length ps)
      (parts_below (here info.level) AsRows (node.Top info most column input)
      (part_or (here (level_of input)) (ToCut most column) input (top_parts here input)) e) in
      omega (arith, below, same_count (ToCut most column) input)
  more_parts (node.Join info left right) e =
      let below = ap (λ (ps : List TopPart). length ps)
      (parts_below (here info.level) AsRows (node.Join info left right) (top_parts here left ++ top_parts here right)
      e) in
      omega (arith, below, length-append (top_parts here left) (top_parts here right))
  more_parts (node.Union info left right) e =
      let below = ap (λ (ps : List TopPart). length ps)
      (parts_below (here info.level) AsRows (node.Union info left right) (top_parts here left ++ top_parts here right)
      e) in
      omega (arith, below, length-append (top_parts here left) (top_parts here right))

  -- its rows are those of its operation, and its pairs those of both sides and its own
  pub rows_above : (tree : NodeTree) (pieces : List Piece) → is_piece here tree ≡ false
      → rows_from here tree pieces
      ≡ operation_rows tree (rows_from here (first_input tree) pieces)
      (other_piece_rows here tree (pieces_behind_first here tree pieces))
  rows_above (node.Fetch info schema metric) pieces e = absurd cc
  rows_above (node.Filter info by input) pieces e = rows_unless (here info.level) _ _ e
  rows_above (node.Align info by input) pieces e = absurd cc
  rows_above (node.GroupBy info by with input) pieces e =
      rows_unless (cond (here info.level) true (here (level_of input))) _ _ e
  rows_above (node.Value info items input) pieces e = rows_unless (here info.level) _ _ e
  rows_above (node.Top info most column input) pieces e = rows_unless (here info.level) _ _ e
  rows_above (node.Join info left right) pieces e = rows_unless (here info.level) _ _ e
  rows_above (node.Union info left right) pieces e = rows_unless (here info.level) _ _ e

  pub joins_above : (tree : NodeTree) (pieces : List Piece) → is_piece here tree ≡ false
      → joins_from here tree pieces
      ≡ joins_from here (first_input tree) pieces
      + own_joins here tree (rows_from here (first_input tree) pieces) (pieces_behind_first here tree pieces)
  joins_above (node.Fetch info schema metric) pieces e = absurd cc
  joins_above (node.Filter info by input) pieces e =
      omega (arith, some_unless (here info.level) (joins_from here input pieces) e)
  joins_above (node.Align info by input) pieces e = absurd cc
  joins_above (node.GroupBy info by with input) pieces e =
      omega (arith, some_unless (cond (here info.level) true (here (level_of input))) (joins_from here input pieces) e)
  joins_above (node.Value info items input) pieces e =
      omega (arith, some_unless (here info.level) (joins_from here input pieces) e)
  joins_above (node.Top info most column input) pieces e =
      omega (arith, some_unless (here info.level) (joins_from here input pieces) e)
  joins_above (node.Join info left right) pieces e = some_unless (here info.level) _ e
  joins_above (node.Union info left right) pieces e =
      let both = some_unless (here info.level)
      (joins_from here left pieces + joins_from here right (drop (part_count here left) pieces)) e in
      omega (arith, both)

  pub can_above : (base : ℕ) (tree : NodeTree) (pieces : List Piece) → is_piece here tree ≡ false
      → CanMix base here tree pieces
      → Operates base here tree pieces
      × (CanMix base here (first_input tree) pieces × OtherCanMix base here tree (pieces_behind_first here tree pieces))
  can_above base (node.Fetch info schema metric) pieces e can = absurd cc
  can_above base (node.Filter info by input) pieces e can =
      let own = unless (here info.level) _ e can in (own.0, (own.1, tt))
  can_above base (node.Align info by input) pieces e can = absurd cc
  can_above base (node.GroupBy info by with input) pieces e can =
      let own = unless (cond (here info.level) true (here (level_of input))) _ e can in (own.0, (own.1, tt))
  can_above base (node.Value info items input) pieces e can =
      let own = unless (here info.level) _ e can in (own.0, (own.1, tt))
  can_above base (node.Top info most column input) pieces e can =
      let own = unless (here info.level) _ e can in (own.0, (own.1, tt))
  can_above base (node.Join info left right) pieces e can = unless (here info.level) _ e can
  can_above base (node.Union info left right) pieces e can = unless (here info.level) _ e can

  unless_true : (b : Bool) (P : Type 0) → b ≡ true → Unless b P
  unless_true true P e = tt
  unless_true false P e = absurd cc

  -- nothing is done where there is a piece
  pub can_piece : (base : ℕ) (tree : NodeTree) (pieces : List Piece) → is_piece here tree ≡ true
      → CanMix base here tree pieces
  can_piece base (node.Fetch info schema metric) pieces e = tt
  can_piece base (node.Filter info by input) pieces e = unless_true (here info.level) _ e
  can_piece base (node.Align info by input) pieces e = tt
  can_piece base (node.GroupBy info by with input) pieces e =
      unless_true (cond (here info.level) true (here (level_of input))) _ e
  can_piece base (node.Value info items input) pieces e = unless_true (here info.level) _ e
  can_piece base (node.Top info most column input) pieces e = unless_true (here info.level) _ e
  can_piece base (node.Join info left right) pieces e = unless_true (here info.level) _ e
  can_piece base (node.Union info left right) pieces e = unless_true (here info.level) _ e

  -- what can be done where more was done before can be done where less was
  unless-map : (b : Bool) (P Q : Type 0) → (P → Q) → Unless b P → Unless b Q
  unless-map true P Q f p = tt
  unless-map false P Q f p = f p

  operates_more : (base more : ℕ) (tree : NodeTree) (pieces : List Piece) → base ≤ more
      → Operates base here tree pieces → Operates more here tree pieces
  operates_more base more tree pieces less can few = can (omega (arith, less, few))

  pub can_more : (base more : ℕ) (tree : NodeTree) (pieces : List Piece) → base ≤ more
      → CanMix base here tree pieces → CanMix more here tree pieces
  can_more base more (node.Fetch info schema metric) pieces less can = tt
  can_more base more (node.Filter info by input) pieces less can =
      unless-map (here info.level) _ _
      (λ own. (
        operates_more base more (node.Filter info by input) pieces less own.0,
        can_more base more input pieces
            less own.1,
      ))
      can
  can_more base more (node.Align info by input) pieces less can = tt
  can_more base more (node.GroupBy info by with input) pieces less can =
      unless-map (cond (here info.level) true (here (level_of input))) _ _
      (λ own. (
        operates_more base more (node.GroupBy info by with input) pieces less own.0,
        can_more base more input pieces less own.1,
      ))
      can
  can_more base more (node.Value info items input) pieces less can =
      unless-map (here info.level) _ _
      (λ own. (
        operates_more base more (node.Value info items input) pieces less own.0,
        can_more base more input pieces
            less own.1,
      ))
      can
  can_more base more (node.Top info most column input) pieces less can =
      unless-map (here info.level) _ _
      (λ own. (
        operates_more base more (node.Top info most column input) pieces less own.0,
        can_more base more input pieces less own.1,
      ))
      can
  can_more base more (node.Join info left right) pieces less can =
      unless-map (here info.level) _ _
      (λ own. (
        operates_more base more (node.Join info left right) pieces less own.0,
        (can_more base more left pieces less own.1.0, can_more base more right _ less own.1.1),
      ))
      can
  can_more base more (node.Union info left right) pieces less can =
      unless-map (here info.level) _ _
      (λ own. (
        operates_more base more (node.Union info left right) pieces less own.0,
        (can_more base more left pieces less own.1.0, can_more base more right _ less own.1.1),
      ))
      can

  pub other_can_more : (base more : ℕ) (tree : NodeTree) (pieces : List Piece) → base ≤ more
      → OtherCanMix base here tree pieces → OtherCanMix more here tree pieces
  other_can_more base more (node.Fetch info schema metric) pieces less can = tt
  other_can_more base more (node.Filter info by input) pieces less can = tt
  other_can_more base more (node.Align info by input) pieces less can = tt
  other_can_more base more (node.GroupBy info by with input) pieces less can = tt
  other_can_more base more (node.Value info items input) pieces less can = tt
  other_can_more base more (node.Top info most column input) pieces less can = tt
  other_can_more base more (node.Join info left right) pieces less can = can_more base more right pieces less can
  other_can_more base more (node.Union info left right) pieces less can = can_more base more right pieces less can

  -- what is left behind a node
  pub left_behind : (tree : NodeTree) (pieces : List Piece) → is_piece here tree ≡ false
      → drop (other_count here tree) (pieces_behind_first here tree pieces) ≡ drop (part_count here tree) pieces
  left_behind tree pieces e =
      drop-drop (other_count here tree) (part_count here (first_input tree)) pieces
      ∙ ap (λ n. drop n pieces) (sym (more_parts tree e))
