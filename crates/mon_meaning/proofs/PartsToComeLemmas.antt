-- Parts to come: one that is put at the end comes first.
use Rattle.std.proofs.Common.{◌≡◌, ◌∙◌, ◌<◌, ◌+◌, ℕ, Bool, true, false, List, [], ◌∷◌, ◌++◌, Result, OnOk, ap, sym}
use Rattle.std.proofs.Common.{refl, append-nil, append_assoc, arith}
use Rattle.std.specs.List.{AllByRecursion}
use Rattle.std.proofs.lemmas.Result.{on_ok_weaker}
use Rattle.std.proofs.lemmas.List.{map-append}
use Rattle.typed_trees.specs.Nodes as node
use Rattle.typed_trees.specs.Nodes.{NodeTree, level_of}
use Rattle.typed_trees.specs.Levels as spec
use Rattle.typed_trees.specs.Levels.{part_or, top_parts}
use Rattle.typed_trees.specs.declared.levels.Level.{Level}
use Rattle.mon_meaning.specs.declared.parts_up.TopPart.{TopPart}
use Rattle.mon_meaning.specs.within.PartsToCome.{as_rows, nodes_left, part_nodes, part_seen, parts_left, parts_of_part}

pub parts_left-push : (here : Level → Bool) (parts : List TopPart) (part : TopPart)
    → parts_left here (parts ++ part ∷ []) ≡ parts_of_part here (part_seen part) ++ parts_left here parts
parts_left-push here [] part = sym (append-nil (parts_of_part here (part_seen part)))
parts_left-push here (next ∷ parts) part =
    ap (λ some. some ++ parts_of_part here (part_seen next)) (parts_left-push here parts part)
    ∙ append_assoc (parts_of_part here (part_seen part)) (parts_left here parts) (parts_of_part here (part_seen next))

pub nodes_left-push : (parts : List TopPart) (part : TopPart) → nodes_left (parts ++ part ∷ []) ≡ part_nodes part
    + nodes_left parts
nodes_left-push [] part = omega arith
nodes_left-push (next ∷ parts) part = omega (arith, nodes_left-push parts part)

twice : (b : Bool) (use_of : spec.PartUse) (part : NodeTree) (below : List spec.TopPart)
    → part_or b use_of part (part_or b use_of part below) ≡ part_or b use_of part below
twice true use_of part below = refl
twice false use_of part below = refl

own : (b : Bool) (use_of : spec.PartUse) (part : NodeTree) → part_or b use_of part ((use_of, part) ∷ [])
    ≡ (use_of, part) ∷ []
own true use_of part = refl
own false use_of part = refl

pub part_or-all : (P : spec.TopPart → Type 0) (b : Bool) (use_of : spec.PartUse) (part : NodeTree)
    (below : List spec.TopPart) → P (use_of, part) → AllByRecursion P below
    → AllByRecursion P (part_or b use_of part below)
part_or-all P true use_of part below own all = (own, tt)
part_or-all P false use_of part below own all = all

-- a tree whose rows go up has its own topmost parts
pub rows_parts : (here : Level → Bool) (tree : NodeTree) → parts_of_part here (as_rows tree) ≡ top_parts here tree
rows_parts here (node.Fetch info schema metric) = own (here info.level) spec.AsRows (node.Fetch info schema metric)
rows_parts here (node.Filter info by input) = twice (here info.level) spec.AsRows (node.Filter info by input) _
rows_parts here (node.Align info by input) = own (here info.level) spec.AsRows (node.Align info by input)
rows_parts here (node.GroupBy info by with input) = twice (here info.level) spec.AsRows
    (node.GroupBy info by with input) _
rows_parts here (node.Value info items input) = twice (here info.level) spec.AsRows (node.Value info items input) _
rows_parts here (node.Top info most column input) = twice (here info.level) spec.AsRows
    (node.Top info most column input) _
rows_parts here (node.Join info left right) = twice (here info.level) spec.AsRows (node.Join info left right) _
rows_parts here (node.Union info left right) = twice (here info.level) spec.AsRows (node.Union info left right) _

higher : (b : Bool) (use_of : spec.PartUse) (part : NodeTree) (below : List spec.TopPart) → b ≡ false
    → part_or b use_of part below ≡ below
higher b use_of part below e = ap (λ c. part_or c use_of part below) e

-- the parts of a node that is done higher up are those of what flows into it
pub below : (here : Level → Bool) (tree made : NodeTree) (own : List spec.TopPart) → tree ≡ made
    → here (level_of tree) ≡ false
    → top_parts here made ≡ part_or (here (level_of made)) spec.AsRows made own
    → top_parts here tree ≡ own
below here tree made own is e whole =
    ap (top_parts here) is ∙ whole
    ∙ higher (here (level_of made)) spec.AsRows made own (ap (λ t. here (level_of t)) (sym is) ∙ e)

-- what is put in front of the parts to come stands behind the parts so far
pub put_first : {T E : Type 0} (r : Result T E) (so_far own all rest more : List spec.TopPart) → own ≡ all
    → OnOk r (more ≡ own ++ rest) → OnOk r (so_far ++ more ≡ so_far ++ (all ++ rest))
put_first r so_far own all rest more is =
    on_ok_weaker r (λ (e : more ≡ own ++ rest). ap (λ ps. so_far ++ ps) (e ∙ ap (λ ps. ps ++ rest) is))

-- fewer nodes are left
pub fewer : {T E : Type 0} (r : Result T E) (own all rest more : ℕ) → own < all → OnOk r (more ≡ own + rest)
    → OnOk r (more < rest + all)
fewer r own all rest more few = on_ok_weaker r (λ (e : more ≡ own + rest). omega (arith, e, few))

-- a source is one of the parts so far
pub one_source : {T E : Type 0} (r : Result T E) (so_far more rest : List spec.TopPart) (here : Level → Bool)
    (tree : NodeTree)
    → top_parts here tree ≡ as_rows tree ∷ [] → OnOk r (more ≡ so_far ++ as_rows tree ∷ [])
    → OnOk r (more ++ rest ≡ so_far ++ (top_parts here tree ++ rest))
one_source r so_far more rest here tree is =
    on_ok_weaker r (λ (e : more ≡ so_far ++ as_rows tree ∷ []). ap (λ ps. ps ++ rest) e
    ∙ append_assoc so_far (as_rows tree ∷ []) rest ∙ ap (λ ps. so_far ++ (ps ++ rest)) (sym is))

-- two parts more, the second of which comes first
pub two_left : (here : Level → Bool) (rest : List TopPart) (l r : TopPart) (left right : NodeTree) → part_seen l
    ≡ as_rows left
    → part_seen r ≡ as_rows right
    → parts_left here ((rest ++ r ∷ []) ++ l ∷ []) ≡ top_parts here left
    ++ (top_parts here right ++ parts_left here rest)
two_left here rest l r left right el er =
    parts_left-push here (rest ++ r ∷ []) l
    ∙ ap (λ xs. xs ++ parts_left here (rest ++ r ∷ [])) (ap (parts_of_part here) el ∙ rows_parts here left)
    ∙ ap (λ xs. top_parts here left ++ xs)
    (parts_left-push here rest r ∙ ap (λ xs. xs ++ parts_left here rest) (ap (parts_of_part here) er ∙ rows_parts here
    right))

pub ruleset parts_pushed = (parts_left-push, nodes_left-push, rows_parts, append_assoc, map-append)
