-- The parts of a zone, each of which is made of the parts of its leaves.
use Rattle.std.proofs.Common.{◌≡◌, ◌∙◌, ◌≤◌, ℕ, ◌+◌, Bool, true, false, List, [], ◌∷◌, ◌++◌, drop, append-nil, refl}
use Rattle.std.proofs.Common.{sym, ap, subst, arith}
use Rattle.std.specs.List.{AllByRecursion, flat_map}
use Rattle.std.proofs.lemmas.Grind.{flat_map-append}
use Rattle.std.proofs.lemmas.List.Sums.{sum_by-append, sum_by-cons}
use Rattle.mon_value.specs.declared.grids.Grid.{Grid}
use Rattle.mon_value.specs.declared.rows.Row.{Row}
use Rattle.typed_trees.specs.Levels.{is_leaf, AsRows, PartUse, ToCut, ToGroup, TopPart, part_or, top_parts}
use Rattle.typed_trees.specs.Meaning.{load_of, rows_meant}
use Rattle.typed_trees.specs.Nodes as node
use Rattle.typed_trees.specs.Nodes.{NodeTree, columns_of, level_of}
use Rattle.typed_trees.specs.Soundness.{IsEvaluable, IsWithinRows}
use Rattle.typed_trees.specs.declared.levels.Level.{Level}
use Rattle.mon_fold.specs.declared.answers.Piece.{Piece}
use Rattle.mon_meaning.specs.GoingUp.{CanGoUp}
use Rattle.mon_meaning.specs.Standing.{AllStandFor, StandsFor}
use Rattle.mon_meaning.proofs.StandingPieces.{stands-permutation, up-permutation}
use Rattle.mixer.specs.within.Mixtures.{joins_from, rows_from}
use Rattle.mixer.specs.within.ZonePieces.{AreHandedUp, CanHandUpAll, CanHandUpBy, IsHandedUpBy}
use Rattle.mixer.specs.within.ZonePieces.{behind_part, joins_of_parts}
use Rattle.mixer.proofs.JoinedPieces.{AllCome, cut_stands}
use Rattle.mixer.proofs.NodePieces.{joins_of_piece, piece_here, same_count}
use Rattle.mixer.proofs.TreePieces.{come-drop, meant, rows_come}
use Rattle.mixer.proofs.TreeWork.{can_mix, load_over, loads_come, one_load, over}
use Rattle.mon_value.proofs.PlainLemmas.{all_append}
use Rattle.mon_meaning.proofs.PartsToComeLemmas.{part_or-all}

-- ---- parts of lower levels

same_part : (b : Bool) (part : TopPart) → part_or b part.0 part.1 (part ∷ []) ≡ part ∷ []
same_part true part = refl
same_part false part = refl

same_twice : (b : Bool) (use_of : PartUse) (tree : NodeTree) (rest : List TopPart)
    → part_or b use_of tree (part_or b use_of tree rest) ≡ part_or b use_of tree rest
same_twice true use_of tree rest = refl
same_twice false use_of tree rest = refl

module _ (below : Level → Bool) where
  -- the parts of a lower level in a part
  abbrev pub lower : TopPart → List TopPart
  lower part = part_or (below (level_of part.1)) part.0 part.1 (top_parts below part.1)

  lower_itself : (tree : NodeTree) → lower (AsRows, tree) ≡ top_parts below tree
  lower_itself (node.Fetch info schema metric) = same_part (below info.level) (AsRows, node.Fetch info schema metric)
  lower_itself (node.Filter info by input) = same_twice (below info.level) AsRows (node.Filter info by input) _
  lower_itself (node.Align info by input) = same_part (below info.level) (AsRows, node.Align info by input)
  lower_itself (node.GroupBy info by with input) = same_twice (below info.level) AsRows
      (node.GroupBy info by with input) _
  lower_itself (node.Value info items input) = same_twice (below info.level) AsRows (node.Value info items input) _
  lower_itself (node.Top info most column input) = same_twice (below info.level) AsRows
      (node.Top info most column input) _
  lower_itself (node.Join info left right) = same_twice (below info.level) AsRows (node.Join info left right) _
  lower_itself (node.Union info left right) = same_twice (below info.level) AsRows (node.Union info left right) _

  module _ (here : Level → Bool) (within : (l : Level) → below l ≡ true → here l ≡ true) where
    lower_by : (b c : Bool) (tree : NodeTree) (rest more : List TopPart) → (c ≡ true → b ≡ true)
        → top_parts below tree ≡ part_or c AsRows tree rest → rest ≡ flat_map lower more
        → part_or c AsRows tree rest ≡ flat_map lower (part_or b AsRows tree more)
    lower_by true c tree rest more up is further = sym (append-nil (lower (AsRows, tree)) ∙ lower_itself tree ∙ is)
    lower_by false true tree rest more up is further = absurd (let no : false ≡ true = up refl in cc)
    lower_by false false tree rest more up is further = further

    lower_used : (b c : Bool) (use_of : PartUse) (input : NodeTree) → (c ≡ true → b ≡ true) → c ≡ below (level_of input)
        → top_parts below input ≡ flat_map lower (top_parts here input)
        → part_or c use_of input (top_parts below input) ≡ flat_map lower
        (part_or b use_of input (top_parts here input))
    lower_used true c use_of input up is further =
        ap (λ d. part_or d use_of input (top_parts below input)) is ∙ sym (append-nil (lower (use_of, input)))
    lower_used false true use_of input up is further = absurd (let no : false ≡ true = up refl in cc)
    lower_used false false use_of input up is further = further

    pub lower_parts : (tree : NodeTree) → top_parts below tree ≡ flat_map lower (top_parts here tree)
    lower_parts (node.Fetch info schema metric) =
        sym (append-nil (lower (AsRows, node.Fetch info schema metric)) ∙ lower_itself (node.Fetch info schema metric))
    lower_parts (node.Filter info by input) =
        lower_by (here info.level) (below info.level) (node.Filter info by input) _ _ (within info.level) refl
        (lower_parts input)
    lower_parts (node.Align info by input) =
        sym (append-nil (lower (AsRows, node.Align info by input)) ∙ lower_itself (node.Align info by input))
    lower_parts (node.GroupBy info by with input) =
        lower_by (here info.level) (below info.level) (node.GroupBy info by with input) _ _ (within info.level) refl
        (lower_used (here (level_of input)) (below (level_of input)) (ToGroup by with) input (within (level_of input))
        refl
        (lower_parts input))
    lower_parts (node.Value info items input) =
        lower_by (here info.level) (below info.level) (node.Value info items input) _ _ (within info.level) refl
        (lower_parts input)
    lower_parts (node.Top info most column input) =
        lower_by (here info.level) (below info.level) (node.Top info most column input) _ _ (within info.level) refl
        (lower_used (here (level_of input)) (below (level_of input)) (ToCut most column) input
        (within (level_of input)) refl
        (lower_parts input))
    lower_parts (node.Join info left right) =
        lower_by (here info.level) (below info.level) (node.Join info left right) (top_parts below left
        ++ top_parts below right)
        (top_parts here left ++ top_parts here right) (within info.level) refl
        ((λ i. lower_parts left i ++ lower_parts right i) ∙ sym (flat_map-append lower (top_parts here left)
        (top_parts here right)))
    lower_parts (node.Union info left right) =
        lower_by (here info.level) (below info.level) (node.Union info left right) (top_parts below left
        ++ top_parts below right)
        (top_parts here left ++ top_parts here right) (within info.level) refl
        ((λ i. lower_parts left i ++ lower_parts right i) ∙ sym (flat_map-append lower (top_parts here left)
        (top_parts here right)))

-- ---- that parts can be made

-- a part that can be evaluated, and whose piece can be made of its rows
pub record IsPartMade (grid : Grid) (source : List Row) (part : TopPart) : Type 0 where
  pub evaluable : IsEvaluable grid part.1 source
  pub can : IsWithinRows (load_of grid part.1 source) → CanGoUp (columns_of part.1) part.0
      (rows_meant grid part.1 source)

module _ (grid : Grid) (source : List Row) (here : Level → Bool) where
  abbrev Made : TopPart → Type 0
  Made part = IsPartMade grid source part

  as_rows : (tree : NodeTree) → IsEvaluable grid tree source → Made (AsRows, tree)
  as_rows tree can = record { evaluable = can; can = λ few. tt }

  pub parts_made : (tree : NodeTree) → IsEvaluable grid tree source → AllByRecursion Made (top_parts here tree)
  parts_made (node.Fetch info schema metric) can = (as_rows (node.Fetch info schema metric) can, tt)
  parts_made (node.Filter info by input) can =
      part_or-all Made (here info.level) AsRows (node.Filter info by input) _ (as_rows (node.Filter info by input) can)
      (parts_made input can)
  parts_made (node.Align info by input) can = (as_rows (node.Align info by input) can, tt)
  parts_made (node.GroupBy info by with input) can =
      part_or-all Made (here info.level) AsRows (node.GroupBy info by with input)
      _ (as_rows (node.GroupBy info by with input) can)
      (part_or-all Made (here (level_of input)) (ToGroup by with) input _ (record { evaluable = can.1; can = can.0 })
      (parts_made input can.1))
  parts_made (node.Value info items input) can =
      part_or-all Made (here info.level) AsRows (node.Value info items input) _ (as_rows (node.Value info items input) can)
      (parts_made input can.1.1)
  parts_made (node.Top info most column input) can =
      part_or-all Made (here info.level) AsRows (node.Top info most column input)
      _ (as_rows (node.Top info most column input) can)
      (part_or-all Made (here (level_of input)) (ToCut most column) input _ (record { evaluable = can; can = λ few. tt })
      (parts_made input can))
  parts_made (node.Join info left right) can =
      part_or-all Made (here info.level) AsRows (node.Join info left right) _ (as_rows (node.Join info left right) can)
      (all_append Made (top_parts here left) (top_parts here right) (parts_made left can.1.1.0)
      (parts_made right can.1.1.1))
  parts_made (node.Union info left right) can =
      part_or-all Made (here info.level) AsRows (node.Union info left right) _ (as_rows (node.Union info left right) can)
      (all_append Made (top_parts here left) (top_parts here right) (parts_made left can.0) (parts_made right can.1))

-- ---- what a zone hands up

module _ (grid : Grid) (source : List Row) where
  abbrev pub lowers : List TopPart → List TopPart
  lowers parts = flat_map (lower is_leaf) parts

  abbrev pub Come : List TopPart → List Piece → Type 0
  Come parts pieces = AllCome (meant grid source) parts pieces

  further : (part : TopPart) (parts : List TopPart) (pieces : List Piece) → Come (lower is_leaf part ++ lowers parts)
      pieces
      → Come (lowers parts) (behind_part part pieces)
  further part parts pieces come =
      subst (λ n. Come (lowers parts) (drop n pieces)) (same_count is_leaf part.0 part.1)
      (come-drop (meant grid source) (lower is_leaf part) (lowers parts) pieces come)

  first_stands : (b : Bool) (part : TopPart) (more : List TopPart) (pieces : List Piece) (made : Piece)
      → Come (part_or b part.0 part.1 (top_parts is_leaf part.1) ++ more) pieces → IsHandedUpBy b part pieces made
      → StandsFor (columns_of part.1) (part.0, rows_meant grid part.1 source) made
  first_stands true part more [] made come handed = absurd come
  first_stands true part more (p ∷ pieces) made come handed =
      subst (λ q. StandsFor (columns_of part.1) (part.0, rows_meant grid part.1 source) q) (sym handed)
      (cut_stands (columns_of part.1) part.0 (rows_meant grid part.1 source) p come.0)
  first_stands false part more pieces made come handed =
      stands-permutation (columns_of part.1) part.0 _ _ made (rows_come grid source is_leaf part.1 more pieces come)
      handed

  -- what is handed up stands for the parts' rows
  pub all_stand : (parts : List TopPart) (pieces made : List Piece) → Come (lowers parts) pieces
      → AreHandedUp parts pieces made → AllStandFor grid source parts made
  all_stand [] pieces [] come handed = tt
  all_stand [] pieces (m ∷ made) come handed = absurd handed
  all_stand (part ∷ parts) pieces [] come handed = absurd handed
  all_stand (part ∷ parts) pieces (m ∷ made) come handed = (
    first_stands (is_leaf (level_of part.1)) part (lowers parts) pieces m come handed.0,
    all_stand parts (behind_part part pieces) made (further part parts pieces come) handed.1,
  )

  first_load : (b : Bool) (part : TopPart) (more : List TopPart) (pieces : List Piece) → b ≡ is_leaf (level_of part.1)
      → Come (part_or b part.0 part.1 (top_parts is_leaf part.1) ++ more) pieces
      → load_over grid source part.1
      ≡ over grid source (part_or b part.0 part.1 (top_parts is_leaf part.1)) + joins_from is_leaf part.1 pieces
  first_load true part more pieces e come =
      omega (
        arith,
        one_load grid source part.0 part.1,
        joins_of_piece is_leaf part.1 pieces (piece_here is_leaf part.1 (sym e)),
      )
  first_load false part more pieces e come = loads_come grid source is_leaf part.1 more pieces come

  -- the zone's pairs, with the load of the leaves' parts, are the load of the zone's parts
  pub loads_of_parts : (parts : List TopPart) (pieces : List Piece) → Come (lowers parts) pieces
      → over grid source parts ≡ over grid source (lowers parts) + joins_of_parts parts pieces
  loads_of_parts [] pieces come = omega arith
  loads_of_parts (part ∷ parts) pieces come =
      omega (
        arith,
        sum_by-cons (λ (p : TopPart). load_of grid p.1 source) part parts,
        sum_by-append (λ (p : TopPart). load_of grid p.1 source) (lower is_leaf part) (lowers parts),
        first_load (is_leaf (level_of part.1)) part (lowers parts) pieces refl come,
        loads_of_parts parts (behind_part part pieces) (further part parts pieces come),
      )

  first_can : (b : Bool) (base : ℕ) (part : TopPart) (more : List TopPart) (pieces : List Piece)
      → b ≡ is_leaf (level_of part.1)
      → IsPartMade grid source part → Come (part_or b part.0 part.1 (top_parts is_leaf part.1) ++ more) pieces
      → over grid source (part_or b part.0 part.1 (top_parts is_leaf part.1)) ≤ base → CanHandUpBy b base part pieces
  first_can true base part more [] e made come least = absurd come
  first_can true base part more (p ∷ pieces) e made come least = omega arith
  first_can false base part more pieces e made come least = (
    can_mix grid source is_leaf base part.1 more pieces made.evaluable come least,
    λ few.
        up-permutation (columns_of part.1) part.0 (rows_meant grid part.1 source) (rows_from is_leaf part.1 pieces)
        (rows_come grid source is_leaf part.1 more pieces come)
        (made.can (omega (arith, few, least, loads_come grid source is_leaf part.1 more pieces come))),
  )

  -- each part can be handed up
  pub all_can : (base : ℕ) (parts : List TopPart) (pieces : List Piece) → AllByRecursion (IsPartMade grid source) parts
      → Come (lowers parts) pieces → over grid source (lowers parts) ≤ base → CanHandUpAll base parts pieces
  all_can base [] pieces made come least = tt
  all_can base (part ∷ parts) pieces made come least =
      let split = sum_by-append (λ (p : TopPart). load_of grid p.1 source) (lower is_leaf part) (lowers parts) in (
        first_can (is_leaf (level_of part.1)) base part (lowers parts) pieces refl made.0 come
            (omega (arith, split, least)),
        all_can base parts (behind_part part pieces) made.1 (further part parts pieces come)
            (omega (arith, split, least)),
      )
