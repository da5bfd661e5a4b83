-- What is held after some turns.
use Rattle.std.proofs.Common.{◌≡◌, ◌∙◌, ◌++◌, ◌∷◌, [], ◌≤ℤ◌, ◌<ℤ◌, ℕ, ℤ, pos, true, List, Result, IfSome, append-nil, append_assoc, refl}
use Rattle.std.proofs.Common.{◌+◌, ◌<◌, drop, get_or, length, take, sym, ap, subst, arith}
use Rattle.std.specs.List.{AllByRecursion}
use Rattle.std.proofs.lemmas.Int.{ints}
use Rattle.std.proofs.lemmas.List.{drop_more, take_more}
use Rattle.mon_value.specs.LeafHistories.{IsSource, last_end, points_of}
use Rattle.mon_value.specs.declared.grids.Grid.{Grid}
use Rattle.mon_value.specs.declared.rows.Row.{Row}
use Rattle.mon_value.specs.declared.refusals.Refusal.{Refusal}
use Rattle.mon_value.specs.declared.tables.Table.{Table}
use Rattle.mon_value.proofs.PlainLemmas.{all_append, all_back, all_front}
use Rattle.mon_schema.specs.Fits.{fits}
use Rattle.mon_series.proofs.SourceEnds.{source_front, source_later}
use Rattle.typed_trees.specs.Meaning.{grid_of}
use Rattle.typed_trees.specs.Nodes as node
use Rattle.typed_trees.specs.Nodes.{NodeTree, TypedTree, typed_tree}
use Rattle.typed_trees.specs.Soundness.{IsTyped}
use Rattle.mon_meaning.specs.Central.{IsAnswer}
use Rattle.mon_meaning.specs.declared.meter.OverLimit.{OverLimit}
use Rattle.standing_incr.specs.HeldRows.{held_of, held_rows}
use Rattle.standing_incr.proofs.EnoughLemmas.{answer_enough}
use Rattle.standing_incr.proofs.HeldLemmas.{all_held, held_again, held_more, source_behind, typed_with}
use Rattle.standing_incr.specs.Keeping.{StandingResult}
use Rattle.standing_incr.specs.Turns.{CanReplay, HoldsAll, MomentsRise, added, moment_after}
use Rattle.standing_incr.specs.declared.replaying.Turn.{Turn}
use Rattle.standing_incr.specs.declared.replaying.Turn.TheVariants as turn

pub nothing_held : (grid : Grid) (tree : NodeTree) → [] ≡ held_rows grid tree []
nothing_held grid (node.Fetch info schema metric) = refl
nothing_held grid (node.Filter info by input) = nothing_held grid input
nothing_held grid (node.Align info by input) = refl
nothing_held grid (node.GroupBy info by with input) = nothing_held grid input
nothing_held grid (node.Value info items input) = nothing_held grid input
nothing_held grid (node.Top info most column input) = nothing_held grid input
nothing_held grid (node.Join info left right) = refl
nothing_held grid (node.Union info left right) = refl

-- an added row of taken turns, and of others
pub added_behind : (taken left : List Turn) → added (taken ++ left) ≡ added taken ++ added left
added_behind [] left = refl
added_behind (turn.Add row ∷ taken) left = ap (λ rows. row ∷ rows) (added_behind taken left)
added_behind (turn.Advance moment ∷ taken) left = added_behind taken left

pub moment_behind : (moment : ℤ) (taken left : List Turn)
    → moment_after moment (taken ++ left) ≡ moment_after (moment_after moment taken) left
moment_behind moment [] left = refl
moment_behind moment (turn.Add row ∷ taken) left = moment_behind moment taken left
moment_behind moment (turn.Advance later ∷ taken) left = moment_behind later taken left

pub begins : (start : StandingResult) (turns : List Turn) → CanReplay start turns → HoldsAll start turns [] turns start
begins start turns can = record {
  whole = refl;
  query = refl;
  moment = refl;
  held = can.empty ∙ nothing_held (grid_of (typed_tree start.typed) start.moment) (typed_tree start.typed).tree;
  from = can.from;
  rise = can.rise;
}

-- a row more
module _ (start : StandingResult) (turns taken left : List Turn) (kept : StandingResult) (row : Row)
    (holds : HoldsAll start turns taken (turn.Add row ∷ left) kept) where
  added_more : added (taken ++ turn.Add row ∷ []) ≡ added taken ++ row ∷ []
  added_more = added_behind taken (turn.Add row ∷ [])

  all_rows : (added taken ++ row ∷ []) ++ added left ≡ added turns
  all_rows =
      append_assoc (added taken) (row ∷ []) (added left)
      ∙ sym (added_behind taken (turn.Add row ∷ left))
      ∙ ap added holds.whole

  abbrev now_held : List Row
  now_held = held_of (typed_tree start.typed) kept.moment (added taken)

  module _ (of : IsTyped (typed_tree start.typed) (added turns)) (source : IsSource (added turns)) where
    front_fits : AllByRecursion (λ r. fits of.held r ≡ true) (added taken ++ row ∷ [])
    front_fits = all_front (λ (r : Row). fits of.held r ≡ true) (added taken ++ row ∷ []) (added left)
        (subst (AllByRecursion (λ (r : Row). fits of.held r ≡ true)) (sym all_rows) of.fit)

    front_source : IsSource (added taken ++ row ∷ [])
    front_source = source_front (added taken ++ row ∷ []) (added left) (subst IsSource (sym all_rows) source)

    -- the row fits behind what is held
    pub can_fit : IsTyped (typed_tree kept.typed) (kept.held ++ row ∷ [])
    can_fit =
        let some = all_front (λ (r : Row). fits of.held r ≡ true) (added taken) (row ∷ []) front_fits in
        let one = all_back (λ (r : Row). fits of.held r ≡ true) (added taken) (row ∷ []) front_fits in
        let held = all_append (λ (r : Row). fits of.held r ≡ true) now_held (row ∷ [])
        (all_held (grid_of (typed_tree start.typed) kept.moment) (λ r. fits of.held r ≡ true) (typed_tree start.typed).tree (added taken) some)
        one in
        subst (λ (typed : TypedTree). IsTyped typed (kept.held ++ row ∷ [])) (sym holds.query)
        (subst (λ (rows : List Row). IsTyped (typed_tree start.typed) (rows ++ row ∷ [])) (sym holds.held)
        (typed_with (typed_tree start.typed) (added turns) (now_held ++ row ∷ []) of held))

    -- it ends later than what is held of its series
    pub ends_later : IfSome (last_end (points_of row.key kept.held)) (λ last. last <ℤ row.point.end)
    ends_later =
        subst (λ (rows : List Row). IfSome (last_end (points_of row.key rows)) (λ last. last <ℤ row.point.end))
        (sym holds.held)
        (source_later now_held row (source_behind (grid_of (typed_tree start.typed) kept.moment) (typed_tree start.typed).tree (added taken) row
        front_source))

  pub row_taken : (after : StandingResult) → (typed_tree after.typed) ≡ (typed_tree kept.typed) → after.moment ≡ kept.moment
      → after.held ≡ held_of (typed_tree kept.typed) kept.moment (kept.held ++ row ∷ [])
      → HoldsAll start turns (taken ++ turn.Add row ∷ []) left after
  row_taken after query moment held = record {
    whole = append_assoc taken (turn.Add row ∷ []) left ∙ holds.whole;
    query = query ∙ holds.query;
    moment = moment ∙ holds.moment ∙ sym (moment_behind start.moment taken (turn.Add row ∷ []));
    held =
        held
        ∙ (λ i. held_of (holds.query i) kept.moment (holds.held i ++ row ∷ []))
        ∙ held_more (grid_of (typed_tree start.typed) kept.moment) (typed_tree start.typed).tree (added taken) (row ∷ [])
        ∙ ap (held_of (typed_tree start.typed) kept.moment) (sym added_more)
        ∙ ap (λ m. held_of (typed_tree start.typed) m (added (taken ++ turn.Add row ∷ []))) (sym moment);
    from = subst (λ (m : ℤ). pos 0 ≤ℤ m) (sym moment) holds.from;
    rise = subst (λ (m : ℤ). MomentsRise m left) (sym moment) holds.rise;
  }

-- a later moment
pub moment_taken : (start : StandingResult) (turns taken left : List Turn) (kept : StandingResult) (later : ℤ)
    → HoldsAll start turns taken (turn.Advance later ∷ left) kept → (after : StandingResult)
    → (typed_tree after.typed) ≡ (typed_tree kept.typed) → after.moment ≡ later → after.held ≡ held_of (typed_tree kept.typed) later kept.held
    → HoldsAll start turns (taken ++ turn.Advance later ∷ []) left after
moment_taken start turns taken left kept later holds after query moment held = record {
  whole = append_assoc taken (turn.Advance later ∷ []) left ∙ holds.whole;
  query = query ∙ holds.query;
  moment = moment ∙ sym (moment_behind start.moment taken (turn.Advance later ∷ []));
  held =
      held
      ∙ (λ i. held_of (holds.query i) later (holds.held i))
      ∙ held_again (typed_tree start.typed) kept.moment later holds.rise.0 (typed_tree start.typed).tree (added taken)
      ∙ (λ i. held_of (typed_tree start.typed) later (no_more i))
      ∙ ap (λ m. held_of (typed_tree start.typed) m (added (taken ++ turn.Advance later ∷ []))) (sym moment);
  from =
      let order = holds.rise.0 in
      let from = holds.from in
      subst (λ (m : ℤ). pos 0 ≤ℤ m) (sym moment) (omega (arith, ints));
  rise = subst (λ (m : ℤ). MomentsRise m left) (sym moment) holds.rise.1;
}
  where
    no_more : added taken ≡ added (taken ++ turn.Advance later ∷ [])
    no_more = sym (append-nil (added taken)) ∙ sym (added_behind taken (turn.Advance later ∷ []))

-- what the last moment means over what is held is what it means over all rows that were added
pub ends : (start : StandingResult) (turns taken : List Turn) (kept : StandingResult)
    → HoldsAll start turns taken [] kept → CanReplay start turns → (limit : ℕ)
    → (answer : Result Table (Refusal OverLimit))
    → IsAnswer (typed_tree kept.typed) kept.held kept.moment limit answer
    → IsAnswer (typed_tree start.typed) (added turns) (moment_after start.moment turns) limit answer
ends start turns taken kept holds can limit answer is =
    let typed = typed_tree start.typed in
    let all : taken ≡ turns = sym (append-nil taken) ∙ holds.whole in
    let now : kept.moment ≡ moment_after start.moment turns = holds.moment ∙ ap (moment_after start.moment) all in
    let rows : added taken ≡ added turns = ap added all in
    let held : kept.held ≡ held_of typed kept.moment (added turns) = holds.held ∙ ap (held_of typed kept.moment) rows in
    subst (λ (m : ℤ). IsAnswer typed (added turns) m limit answer) now
    (answer_enough typed (added turns) kept.moment kept.moment can.incremental can.fits can.source holds.from (omega (arith, ints))
    limit answer
    (subst (λ (rs : List Row). IsAnswer typed rs kept.moment limit answer) held
    (subst (λ (t : TypedTree). IsAnswer t kept.held kept.moment limit answer) holds.query is)))

-- the next of the turns that are left
pub next_turn : (turns : List Turn) (place : ℕ) (one : Turn) → place < length turns → one ≡ get_or turns place one
    → (take (place + 1) turns ≡ take place turns ++ one ∷ []) × (drop place turns ≡ one ∷ drop (place + 1) turns)
next_turn turns place one within is = (
  take_more turns place one within ∙ ap (λ (t : Turn). take place turns ++ t ∷ []) (sym is),
  drop_more turns place one within ∙ ap (λ (t : Turn). t ∷ drop (place + 1) turns) (sym is),
)
