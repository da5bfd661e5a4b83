-- The nodes of a typed query are done at the levels of their rules, so that what a leaf does is local to targets, and
-- what a zone does is local to locations.
use Rattle.std.proofs.Common.{◌≡◌, Bool, true, false, cond, Option, Some, None, List, [], ◌∷◌, Ok, refl, subst}
use Rattle.std.specs.List.{AllByRecursion, list_any}
use Rattle.mon_value.specs.declared.columns.Column.{Column}
use Rattle.mon_value.specs.declared.schemas.Kind.{Kind}
use Rattle.mon_schema.specs.Names.{SchemaLists}
use Rattle.mql_ast.specs.Trees as tree
use Rattle.mql_ast.specs.Trees.{BranchTrees, DeedTree, OpTree, PipeTree, SourceTree}
use Rattle.mql_ast.specs.declared.pipes.How.{How}
use Rattle.mql_ast.specs.declared.pipes.How.TheVariants as how
use Rattle.std.specs.Prelude.{ℕ, ℤ}
use Rattle.typed_trees.specs.Branches.{common_columns}
use Rattle.typed_trees.specs.Levels.{higher_level, is_leaf, is_located, meeting_level, tell_target, in_zone}
use Rattle.typed_trees.specs.Nodes as node
use Rattle.typed_trees.specs.Nodes.{NodeTree, TypedTree, columns_of, level_of}
use Rattle.typed_trees.specs.Times.{every_said, query_times}
use Rattle.typed_trees.specs.Typing.{Part, aligned_by_default, aligned_tree, branch_node, branches_node, deed_part}
use Rattle.typed_trees.specs.Typing.{further_node, ops_part, pipe_part, source_part, typing}
use Rattle.typed_trees.specs.declared.levels.Level.{Level}
use Rattle.typed_trees.specs.declared.levels.Level.TheVariants as level
use Rattle.typed_trees.proofs.FetchColumnLemmas.{typed_without_faults}
use Rattle.mon_schema.specs.Fits.{TellsLocation}
use Rattle.typed_trees.specs.FixedColumns.{meeting_columns}
use Rattle.mixer.proofs.LeafHomes.{TargetSays, target_told}
use Rattle.mixer.proofs.LocalTrees.{IsLocal}
use Rattle.mixer.proofs.ZoneHomes.{LocationSays, location_told, target_located}

-- each node is done at the level of its rule
abbrev pub AreLevelled : SchemaLists → NodeTree → Type 0
AreLevelled held (node.Fetch info schema metric) = info.level ≡ level.Leaf
AreLevelled held (node.Filter info by input) = (info.level ≡ level_of input) × AreLevelled held input
AreLevelled held (node.Align info by input) = (info.level ≡ level_of input) × AreLevelled held input
AreLevelled held (node.GroupBy info by with input) =
    (info.level ≡ meeting_level held (level_of input) (meeting_columns by input)) × AreLevelled held input
AreLevelled held (node.Value info items input) = (info.level ≡ level_of input) × AreLevelled held input
AreLevelled held (node.Top info most column input) = (info.level ≡ level.Root) × AreLevelled held input
AreLevelled held (node.Join info left right) =
    (info.level ≡ meeting_level held (higher_level (level_of left) (level_of right))
    (common_columns held (columns_of left) (columns_of right)))
    × (AreLevelled held left × AreLevelled held right)
AreLevelled held (node.Union info left right) =
    (info.level ≡ higher_level (level_of left) (level_of right)) × (AreLevelled held left × AreLevelled held right)

-- ---- typed queries

aligned_levelled : (held : SchemaLists) (every : ℤ) (points : Option Kind) (tree : NodeTree) → AreLevelled held tree
    → AreLevelled held (aligned_by_default every points tree)
aligned_levelled held every None tree own = own
aligned_levelled held every (Some of) tree own = (refl, own)

deed_levelled : (held : SchemaLists) (every : ℤ) (points : Option Kind) (input : NodeTree) → AreLevelled held input
    → (at : ℕ) (what : DeedTree)
    → AreLevelled held (deed_part held every (record { tree = input; points = points }) at what).tree
deed_levelled held every points input own at (tree.Filter predicate) = (refl, own)
deed_levelled held every points input own at (tree.Align by) = (refl, own)
deed_levelled held every points input own at (tree.GroupBy names aggregates) =
    (refl, aligned_levelled held every points input own)
deed_levelled held every points input own at (tree.Value items) = (refl, aligned_levelled held every points input own)
deed_levelled held every points input own at (tree.Top most column) =
    (refl, aligned_levelled held every points input own)
deed_levelled held every points input own at (tree.Every seconds) = own
deed_levelled held every points input own at (tree.Within seconds) = own

ops_levelled : (held : SchemaLists) (every : ℤ) (part : Part) → AreLevelled held part.tree → (ops : List OpTree)
    → AreLevelled held (ops_part held every part ops).tree
ops_levelled held every part own [] = own
ops_levelled held every part own (op ∷ ops) =
    ops_levelled held every (deed_part held every part op.at op.what)
    (deed_levelled held every part.points part.tree own op.at op.what) ops

branch_levelled : (held : SchemaLists) (by : How) (at : ℕ) (left right : NodeTree) → AreLevelled held left
    → AreLevelled held right → AreLevelled held (branch_node held by at left right)
branch_levelled held how.Join at left right own other = (refl, (own, other))
branch_levelled held how.Union at left right own other = (refl, (own, other))

mutual
  pipe_levelled : (held : SchemaLists) (every : ℤ) (pipe : PipeTree) → AreLevelled held (pipe_part held every pipe).tree
  pipe_levelled held every (tree.Flow source ops) =
      ops_levelled held every (source_part held every source) (source_levelled held every source) ops

  source_levelled : (held : SchemaLists) (every : ℤ) (source : SourceTree)
      → AreLevelled held (source_part held every source).tree
  source_levelled held every (tree.Fetch at schema metric) = refl
  source_levelled held every (tree.Branches at pipes by by_at) = branches_levelled held every by by_at pipes

  branches_levelled : (held : SchemaLists) (every : ℤ) (by : How) (at : ℕ) (pipes : BranchTrees)
      → AreLevelled held (branches_node held every by at pipes)
  branches_levelled held every by at tree.NoBranch = refl
  branches_levelled held every by at (tree.Branch first rest) =
      let part = pipe_part held every first in
      further_levelled held every by at (aligned_tree every part)
      (aligned_levelled held every part.points part.tree (pipe_levelled held every first)) rest

  further_levelled : (held : SchemaLists) (every : ℤ) (by : How) (at : ℕ) (left : NodeTree) → AreLevelled held left
      → (pipes : BranchTrees) → AreLevelled held (further_node held every by at left pipes)
  further_levelled held every by at left own tree.NoBranch = own
  further_levelled held every by at left own (tree.Branch next rest) =
      let part = pipe_part held every next in
      let right = aligned_tree every part in
      further_levelled held every by at (branch_node held by at left right)
      (branch_levelled held by at left right own
      (aligned_levelled held every part.points part.tree (pipe_levelled held every next))) rest

-- the nodes of a typed query are done at their levels
pub query_levelled : (held : SchemaLists) (query : PipeTree) (typed : TypedTree) → typing held query ≡ Ok typed
    → AreLevelled held typed.tree
query_levelled held query typed is =
    let from = typed_without_faults held query typed is in
    let every = every_said (query_times query) in
    let part = pipe_part held every query in
    subst (λ (t : TypedTree). AreLevelled held t.tree) from.1
    (aligned_levelled held every part.points part.tree (pipe_levelled held every query))

-- ---- what a leaf does

leaf_by : (b c : Bool) → is_leaf (cond b level.Leaf (cond c level.Zone level.Root)) ≡ true → b ≡ true
leaf_by true c e = refl
leaf_by false true e = absurd cc
leaf_by false false e = absurd cc

no_leaf : (c : Bool) → is_leaf (cond c level.Zone level.Root) ≡ true → ⊥
no_leaf true e = cc
no_leaf false e = cc

leaf_meets : (held : SchemaLists) (l : Level) (columns : List Column)
    → is_leaf (meeting_level held l columns) ≡ true → (is_leaf l ≡ true) × (tell_target held columns ≡ true)
leaf_meets held level.Leaf columns e =
    (refl, leaf_by (tell_target held columns) (list_any (is_located held) columns) e)
leaf_meets held level.Zone columns e = absurd (no_leaf (list_any (is_located held) columns) e)
leaf_meets held level.Root columns e = absurd cc

leaf_higher : (a b : Level) → is_leaf (higher_level a b) ≡ true → (is_leaf a ≡ true) × (is_leaf b ≡ true)
leaf_higher level.Leaf b e = (refl, e)
leaf_higher level.Zone level.Leaf e = absurd cc
leaf_higher level.Zone level.Zone e = absurd cc
leaf_higher level.Zone level.Root e = absurd cc
leaf_higher level.Root b e = absurd cc

pub moved : (p : Level → Bool) (a b : Level) → a ≡ b → p a ≡ true → p b ≡ true
moved p a b e h = subst (λ l. p l ≡ true) e h

-- what is done at the root is done nowhere else
pub no_top : (p : Level → Bool) (l : Level) → l ≡ level.Root → p level.Root ≡ false → p l ≡ true → ⊥
no_top p l e out h =
    let in_root = moved p l level.Root e h in
    cc

-- what is done at leaves brings together rows of one target
pub leaf_local : (held : SchemaLists) (tree : NodeTree) → AreLevelled held tree
    → IsLocal (TargetSays held) held is_leaf tree
leaf_local held (node.Fetch info schema metric) own = tt
leaf_local held (node.Filter info by input) own =
    (λ e. moved is_leaf info.level (level_of input) own.0 e, leaf_local held input own.1)
leaf_local held (node.Align info by input) own = tt
leaf_local held (node.GroupBy info by with input) own = (
  λ e.
      let meets = leaf_meets held (level_of input) (meeting_columns by input)
      (moved is_leaf info.level _ own.0 e) in
      (meets.0, target_told held (meeting_columns by input) meets.1),
  leaf_local held input own.1,
)
leaf_local held (node.Value info items input) own =
    (λ e. moved is_leaf info.level (level_of input) own.0 e, leaf_local held input own.1)
leaf_local held (node.Top info most column input) own =
    (λ e. no_top is_leaf info.level own.0 refl e, leaf_local held input own.1)
leaf_local held (node.Join info left right) own = (
  λ e.
      let meets = leaf_meets held (higher_level (level_of left) (level_of right))
      (common_columns held (columns_of left) (columns_of right)) (moved is_leaf info.level _ own.0 e) in (
        leaf_higher (level_of left) (level_of right) meets.0,
        target_told held (common_columns held (columns_of left) (columns_of right)) meets.1,
      ),
  (leaf_local held left own.1.0, leaf_local held right own.1.1),
)
leaf_local held (node.Union info left right) own = (
  λ e. leaf_higher (level_of left) (level_of right) (moved is_leaf info.level _ own.0 e),
  (leaf_local held left own.1.0, leaf_local held right own.1.1),
)

-- ---- what a zone does

zone_by : (c : Bool) → in_zone (cond c level.Zone level.Root) ≡ true → c ≡ true
zone_by true e = refl
zone_by false e = absurd cc

zone_or_leaf : (b c : Bool) → (b ≡ true → c ≡ true) → in_zone (cond b level.Leaf (cond c level.Zone level.Root)) ≡ true
    → c ≡ true
zone_or_leaf true c told e = told refl
zone_or_leaf false c told e = zone_by c e

zone_meets : (held : SchemaLists) → AllByRecursion TellsLocation held.targets → (l : Level) (columns : List Column)
    → in_zone (meeting_level held l columns) ≡ true
    → (in_zone l ≡ true) × (list_any (is_located held) columns ≡ true)
zone_meets held tell level.Leaf columns e = (
  refl,
  zone_or_leaf (tell_target held columns) (list_any (is_located held) columns)
      (λ told. target_located held tell columns told) e,
)
zone_meets held tell level.Zone columns e = (refl, zone_by (list_any (is_located held) columns) e)
zone_meets held tell level.Root columns e = absurd cc

pub zone_higher : (a b : Level) → in_zone (higher_level a b) ≡ true → (in_zone a ≡ true) × (in_zone b ≡ true)
zone_higher level.Leaf b e = (refl, e)
zone_higher level.Zone level.Leaf e = (refl, refl)
zone_higher level.Zone level.Zone e = (refl, refl)
zone_higher level.Zone level.Root e = absurd cc
zone_higher level.Root b e = absurd cc

-- what is done in zones brings together rows of one location
pub zone_local : (held : SchemaLists) → AllByRecursion TellsLocation held.targets → (tree : NodeTree)
    → AreLevelled held tree → IsLocal (LocationSays held) held in_zone tree
zone_local held tell (node.Fetch info schema metric) own = tt
zone_local held tell (node.Filter info by input) own =
    (λ e. moved in_zone info.level (level_of input) own.0 e, zone_local held tell input own.1)
zone_local held tell (node.Align info by input) own = tt
zone_local held tell (node.GroupBy info by with input) own = (
  λ e.
      let meets = zone_meets held tell (level_of input) (meeting_columns by input)
      (moved in_zone info.level _ own.0 e) in
      (meets.0, location_told held (meeting_columns by input) meets.1),
  zone_local held tell input own.1,
)
zone_local held tell (node.Value info items input) own =
    (λ e. moved in_zone info.level (level_of input) own.0 e, zone_local held tell input own.1)
zone_local held tell (node.Top info most column input) own =
    (λ e. no_top in_zone info.level own.0 refl e, zone_local held tell input own.1)
zone_local held tell (node.Join info left right) own = (
  λ e.
      let meets = zone_meets held tell (higher_level (level_of left) (level_of right))
      (common_columns held (columns_of left) (columns_of right)) (moved in_zone info.level _ own.0 e) in (
        zone_higher (level_of left) (level_of right) meets.0,
        location_told held (common_columns held (columns_of left) (columns_of right)) meets.1,
      ),
  (zone_local held tell left own.1.0, zone_local held tell right own.1.1),
)
zone_local held tell (node.Union info left right) own = (
  λ e. zone_higher (level_of left) (level_of right) (moved in_zone info.level _ own.0 e),
  (zone_local held tell left own.1.0, zone_local held tell right own.1.1),
)
