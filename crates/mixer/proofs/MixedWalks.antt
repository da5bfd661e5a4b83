-- The rows of a tree made from its first piece up.
use Rattle.std.proofs.Common.{◌≡◌, ◌∙◌, ◌≤◌, ℕ, ◌+◌, Bool, false, List, [], ◌∷◌, ◌++◌, drop, sym, ap, subst, arith}
use Rattle.std.specs.List.{AllByRecursion}
use Rattle.mon_value.specs.declared.refusals.Refusal.{Refusal}
use Rattle.mon_value.specs.declared.refusals.Refusal.TheVariants as refusal
use Rattle.mon_value.specs.declared.tables.TimedRow.{TimedRow}
use Rattle.typed_trees.specs.Nodes.{NodeTree}
use Rattle.typed_trees.specs.Soundness.{IsWithinRows}
use Rattle.typed_trees.specs.declared.levels.Level.{Level}
use Rattle.mon_fold.specs.declared.answers.Piece.{Piece}
use Rattle.mon_meaning.specs.Counts.{TellsOver}
use Rattle.mon_meaning.specs.Operations.{CanOperate, operation_rows}
use Rattle.mon_meaning.specs.declared.meter.OverLimit.{OverLimit}
use Rattle.mon_meaning.specs.within.Paths.{Leads, first_input}
use Rattle.typed_trees.specs.ExplanationParts.{nodes}
use Rattle.mon_meaning.proofs.PathLemmas.{Leads-pop, Leads-push, smaller_below}
use Rattle.mixer.specs.Mixing.{part_count}
use Rattle.mixer.specs.within.Mixtures.{CanMix, IsInput, IsWayDown, OtherCanMix, pieces_behind_first}
use Rattle.mixer.specs.within.Mixtures.{first_piece_rows}
use Rattle.mixer.specs.within.Mixtures.{is_piece}
use Rattle.mixer.specs.within.Mixtures.{joins_from}
use Rattle.mixer.specs.within.Mixtures.{other_count, other_joins, other_piece_rows, own_joins, rows_from}
use Rattle.mixer.proofs.NodePieces.{can_above, joins_above, joins_of_piece, left_behind, one_piece, other_can_more}
use Rattle.mixer.proofs.NodePieces.{rows_above, rows_of_piece}
use Rattle.mon_value.proofs.PlainLemmas.{all_push}
use Rattle.mon_meaning.proofs.WalkLemmas.{tells_more}

all_pop : {A : Type 0} (P : A → Type 0) (xs : List A) (x : A) → AllByRecursion P (xs ++ x ∷ [])
    → AllByRecursion P xs × P x
all_pop P [] x all = (tt, all.0)
all_pop P (y ∷ xs) x all = let rest = all_pop P xs x all.1 in ((all.0, rest.0), rest.1)

module _ (here : Level → Bool) where
  abbrev pub IsPassed : NodeTree → Type 0
  IsPassed tree = is_piece here tree ≡ false

  -- ---- down

  pub record Down (above : List NodeTree) (top end : NodeTree) : Type 0 where
    pub leads : Leads above top end
    pub passed : AllByRecursion IsPassed above

  pub step_down : (above : List NodeTree) (top end input : NodeTree) → Down above top end → IsInput here end input
      → Down (above ++ end ∷ []) top input
  step_down above top end input down step = record {
    leads = subst (λ tree. Leads (above ++ end ∷ []) top tree) (sym step.first) (Leads-push above top end down.leads);
    passed = all_push IsPassed above end down.passed step.above;
  }

  -- ---- up

  module _ (top : NodeTree) (all : List Piece) where
    joins_below : (above : List NodeTree) (tree end : NodeTree) → Leads above tree end → AllByRecursion IsPassed above
        → joins_from here end all ≤ joins_from here tree all
    joins_below [] tree end e passed = rw e (omega arith)
    joins_below (node ∷ above) tree end leads passed =
        let rest = joins_below above (first_input node) end leads.1 passed.1 in
        rw leads.0 (omega (arith, rest, joins_above here node all passed.0))

    can_below : (base : ℕ) (above : List NodeTree) (tree end : NodeTree) → Leads above tree end
        → AllByRecursion IsPassed above → CanMix base here tree all → CanMix base here end all
    can_below base [] tree end e passed can = subst (λ t. CanMix base here t all) e can
    can_below base (node ∷ above) tree end leads passed can =
        can_below base above (first_input node) end leads.1 passed.1
        (can_above here base node all passed.0 (subst (λ t. CanMix base here t all) leads.0 can)).1.0

    -- some nodes of the way down are left above the rows so far
    pub record Walk (above : List NodeTree) (rows : List TimedRow) (left : List Piece) (start load : ℕ) : Type 0 where
      pub end : NodeTree
      pub leads : Leads above top end
      pub passed : AllByRecursion IsPassed above
      pub made : rows ≡ rows_from here end all
      pub behind : left ≡ drop (part_count here end) all
      pub counted : load ≡ start + joins_from here end all

    pub begun : (above : List NodeTree) (rows : List TimedRow) (left : List Piece) (load : ℕ) → IsWayDown here above top
        → rows ≡ first_piece_rows all → left ≡ drop 1 all → Walk above rows left load load
    begun above rows left load way made behind = record {
      end = way.end;
      leads = way.leads;
      passed = way.passed;
      made = made ∙ sym (rows_of_piece here way.end all way.ends);
      behind = behind ∙ ap (λ n. drop n all) (sym (one_piece here way.end way.ends));
      counted = omega (arith, joins_of_piece here way.end all way.ends);
    }

    -- the next operation, on the rows that flow into it
    pub record Step (above : List NodeTree) (node : NodeTree) (rows : List TimedRow) (left : List Piece)
        (start load : ℕ)
        : Type 0 where
      pub leads : Leads above top node
      pub passed : AllByRecursion IsPassed above
      pub own : IsPassed node
      pub flowing : rows ≡ rows_from here (first_input node) all
      pub behind : left ≡ pieces_behind_first here node all
      pub counted : load ≡ start + joins_from here (first_input node) all
      pub others : OtherCanMix load here node left
      pub operates : IsWithinRows (load + other_joins here node left)
          → CanOperate node rows (other_piece_rows here node left)
      pub smaller : nodes node ≤ nodes top

    pub next_step : (above : List NodeTree) (node : NodeTree) (rows : List TimedRow) (left : List Piece)
        (start load : ℕ)
        → Walk (above ++ node ∷ []) rows left start load → CanMix start here top all → Step above node rows left start
        load
    next_step above node rows left start load walk can =
        let parts = Leads-pop above node top walk.end walk.leads in
        let passed = all_pop IsPassed above node walk.passed in
        let own = can_above here start node all passed.1 (can_below start above top node parts.0 passed.0 can) in
        let flowing : rows ≡ rows_from here (first_input node) all =
        walk.made ∙ ap (λ tree. rows_from here tree all) (sym parts.1) in
        let behind : left ≡ pieces_behind_first here node all =
        walk.behind ∙ ap (λ tree. drop (part_count here tree) all) (sym parts.1) in
        let counted : load ≡ start + joins_from here (first_input node) all =
        walk.counted ∙ ap (λ tree. start + joins_from here tree all) (sym parts.1) in
        record {
          leads = parts.0;
          passed = passed.0;
          own = passed.1;
          flowing = flowing;
          behind = behind;
          counted = counted;
          others = subst (OtherCanMix load here node) (sym behind)
              (other_can_more here start load node _ (omega (arith, counted)) own.1.1);
          operates = λ few.
              let same = ap (λ ps. other_joins here node ps) behind in
              subst (λ rs. CanOperate node rs (other_piece_rows here node left)) (sym flowing)
              (subst (λ ps. CanOperate node (rows_from here (first_input node) all) (other_piece_rows here node ps))
              (sym behind)
              (own.0 (omega (arith, few, same, counted))));
          smaller = smaller_below above top node parts.0;
        }

    pub walk_on : (above : List NodeTree) (node : NodeTree) (rows made : List TimedRow) (left behind : List Piece)
        (start load more : ℕ)
        → Step above node rows left start load → made ≡ operation_rows node rows (other_piece_rows here node left)
        → behind ≡ drop (other_count here node) left → more ≡ load + own_joins here node rows left
        → Walk above made behind start more
    walk_on above node rows made left behind start load more step is rest counted = record {
      end = node;
      leads = step.leads;
      passed = step.passed;
      made = is ∙ (λ i. operation_rows node (step.flowing i) (other_piece_rows here node (step.behind i)))
          ∙ sym (rows_above here node all step.own);
      behind = rest ∙ ap (drop (other_count here node)) step.behind ∙ left_behind here node all step.own;
      counted =
          let same : own_joins here node rows left
          ≡ own_joins here node (rows_from here (first_input node) all) (pieces_behind_first here node all) =
          λ i. own_joins here node (step.flowing i) (step.behind i) in
          omega (arith, counted, step.counted, same, joins_above here node all step.own);
    }

    pub rows_done : (rows : List TimedRow) (left : List Piece) (start load : ℕ) → Walk [] rows left start load
        → rows ≡ rows_from here top all
    rows_done rows left start load walk = walk.made ∙ ap (λ tree. rows_from here tree all) (sym walk.leads)

    pub load_done : (rows : List TimedRow) (left : List Piece) (start load : ℕ) → Walk [] rows left start load
        → load ≡ start + joins_from here top all
    load_done rows left start load walk = walk.counted ∙ ap (λ tree. start + joins_from here tree all) (sym walk.leads)

    -- an operation that is over is over in the whole
    pub step_over : (above : List NodeTree) (node : NodeTree) (rows : List TimedRow) (left : List Piece)
        (limit start load : ℕ) (r : Refusal OverLimit) → Step above node rows left start load
        → TellsOver limit (load + own_joins here node rows left) r → TellsOver limit (start + joins_from here top all) r
    step_over above node rows left limit start load r step tells =
        let more = joins_below above top node step.leads step.passed in
        let same : own_joins here node rows left
        ≡ own_joins here node (rows_from here (first_input node) all) (pieces_behind_first here node all) =
        λ i. own_joins here node (step.flowing i) (step.behind i) in
        tells_more limit _ _ r (omega (arith, more, same, step.counted, joins_above here node all step.own)) tells
