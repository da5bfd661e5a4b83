use Rattle.std.proofs.lemmas.List.{nil_from_length}
use Rattle.std.proofs.Common.{◌≡◌, ◌∙◌, ◌≤◌, ◌+◌, ◌^◌, ◌∷◌, [], ℕ, List, to_z, of_z, w64, refl, sym, ap, subst, rules}
use Rattle.std.proofs.Common.{arith}
use Rattle.std.specs.List.{AllByRecursion}
use Rattle.std.specs.Vec.Iter.{into_iter_items}
use Rattle.mon_value.specs.declared.grids.Grid.{Grid}
use Rattle.typed_trees.specs.Levels.{is_leaf, TopPart, top_parts}
use Rattle.typed_trees.specs.Meaning.{load_of, grid_of, rows_meant}
use Rattle.typed_trees.specs.Nodes.{columns_of, typed_tree}
use Rattle.typed_trees.specs.Soundness.{IsWithinRows}
use Rattle.mon_meaning.specs.Central.{all_held}
use Rattle.mon_meaning.specs.LeafAnswers.{IsRefusedByLeaf}
use Rattle.mon_meaning.specs.TopParts.{part_seen, parts_seen}
use Rattle.leaf_eval.proofs.EvaluatedParts.{SoFar, leaf_done, none_so_far, one_more, over_leaf, sent_next}
use Rattle.leaf_eval.proofs.ReadyParts.{IsPartReady, asked_ready}
use Rattle.mon_meaning.proofs.StandingPieces.{up-permutation}
use Rattle.leaf_eval.proofs.answers.answer_by_series.Goals as goal

pub loop-part-init : goal.loop-part-init
loop-part-init c =
    let typed = typed_tree c.args.plan.now.typed in
    let grid = c.grid_of-grid.result in
    let series = all_held c.args.series.now in
    let moment : to_z w64 (of_z w64 c.args.moment) ≡ c.args.moment = search rules in
    let grid_is : grid ≡ grid_of typed c.args.moment = c.grid_of-grid.ensures.grid ∙ ap (grid_of typed) moment in
    let all = top_parts is_leaf typed.tree in
    let left = parts_seen (into_iter_items c.into_iter-part-iterator.result) in
    let items : into_iter_items c.into_iter-part-iterator.result ≡ c.in_ok-part-items.part-items.items = search rules in
    let seen : left ≡ all = ap parts_seen items ∙ c.in_ok-part-items.ensures.parts in
    record {
      so_far = λ source kept.
          none_so_far grid source all left c.new-pieces.result c.new-meter.result.load 0 seen c.new-pieces.ensures.empty
          c.new-meter.ensures.none refl;
      ready = subst (AllByRecursion (IsPartReady grid series)) (sym seen)
          (subst (λ (g : Grid). AllByRecursion (IsPartReady g series) all) (sym grid_is)
          (asked_ready is_leaf typed series c.args.moment c.requires.asked c.requires.moment));
      limit = c.new-meter.ensures.limit;
      counted = search rules;
    }

pub returns-in_err-rows : goal.returns-in_err-rows
returns-in_err-rows c =
    let typed = typed_tree c.args.plan.now.typed in
    let grid = c.grid_of-grid.result in
    let moment : to_z w64 (of_z w64 c.args.moment) ≡ c.args.moment = search rules in
    let grid_is : grid ≡ grid_of typed c.args.moment = c.grid_of-grid.ensures.grid ∙ ap (grid_of typed) moment in
    let all = top_parts is_leaf typed.tree in
    let part = part_seen c.in-Some.part in
    let left = parts_seen (into_iter_items c.next.new.self) in
    let next : parts_seen (into_iter_items c.loop-part.part-iterator) ≡ part ∷ left = ap parts_seen
    c.in-Some.ensures.steps.0 in
    record {
      answer = λ source kept.
          let so_far = subst (λ (ps : List TopPart). SoFar grid source all ps c.loop-part.pieces c.loop-part.meter.load
          c.loop-part.sent) next
          (c.loop-part.invariant.so_far source kept) in
          let fact : IsRefusedByLeaf typed source c.args.moment c.args.limit c.in_err-rows.field-0.0 =
          over_leaf typed source c.args.moment c.args.limit grid grid_is left part c.loop-part.pieces
          c.loop-part.meter.load c.loop-part.sent
          c.loop-part.meter.limit c.in_err-rows.field-0.0 so_far c.loop-part.invariant.limit
          (c.in_err-rows.ensures.over source kept) in
          search rules;
    }

pub piece_of-requires : goal.piece_of-requires
piece_of-requires c =
    let grid = c.grid_of-grid.result in
    let series = all_held c.args.series.now in
    let part = part_seen c.in-Some.part in
    let left = parts_seen (into_iter_items c.next.new.self) in
    let next : parts_seen (into_iter_items c.loop-part.part-iterator) ≡ part ∷ left = ap parts_seen
    c.in-Some.ensures.steps.0 in
    let ready : IsPartReady grid series part = (subst (AllByRecursion (IsPartReady grid series)) next
    c.loop-part.invariant.ready).0 in
    let source = ready.asked.source in
    let counted = c.in_ok-rows.ensures.counted source ready.asked.kept in
    let few : IsWithinRows (load_of grid part.1 source) =
    omega (arith, counted, c.part_by_series.new.meter.within, c.part_by_series.new.meter.few) in
    record {
      can = up-permutation (columns_of part.1) part.0 (rows_meant grid part.1 source) c.in_ok-rows.rows
          (c.in_ok-rows.ensures.rows source ready.asked.kept) (ready.can few);
    }

pub overflow_add-sent : goal.overflow_add-sent
overflow_add-sent c =
    let typed = typed_tree c.args.plan.now.typed in
    let grid = c.grid_of-grid.result in
    let series = all_held c.args.series.now in
    let all = top_parts is_leaf typed.tree in
    let part = part_seen c.in-Some.part in
    let left = parts_seen (into_iter_items c.next.new.self) in
    let next : parts_seen (into_iter_items c.loop-part.part-iterator) ≡ part ∷ left = ap parts_seen
    c.in-Some.ensures.steps.0 in
    let source = c.requires.asked.source in
    let kept = c.requires.asked.kept in
    let so_far = subst (λ (ps : List TopPart). SoFar grid source all ps c.loop-part.pieces c.loop-part.meter.load
    c.loop-part.sent) next
    (c.loop-part.invariant.so_far source kept) in
    let within = sent_next grid source all left part c.loop-part.pieces c.in_ok-piece.piece c.in_ok-rows.rows
    c.loop-part.meter.load
    c.loop-part.sent so_far (c.in_ok-rows.ensures.rows source kept) c.in_ok-piece.ensures.stands in
    let counted = c.in_ok-rows.ensures.counted source kept in
    let bound : c.loop-part.sent + c.sent_of.result ≤ 2 ^ 24 =
    omega (
      arith,
      within,
      counted,
      c.sent_of.ensures.sent,
      c.part_by_series.new.meter.within,
      c.part_by_series.new.meter.few,
    ) in
    omega (arith, bound)

pub loop-part-preserved : goal.loop-part-preserved
loop-part-preserved c =
    let typed = typed_tree c.args.plan.now.typed in
    let grid = c.grid_of-grid.result in
    let series = all_held c.args.series.now in
    let all = top_parts is_leaf typed.tree in
    let part = part_seen c.in-Some.part in
    let left = parts_seen (into_iter_items c.next.new.self) in
    let next : parts_seen (into_iter_items c.loop-part.part-iterator) ≡ part ∷ left = ap parts_seen
    c.in-Some.ensures.steps.0 in
    record {
      so_far = λ source kept.
          let so_far = subst (λ (ps : List TopPart). SoFar grid source all ps c.loop-part.pieces c.loop-part.meter.load
          c.loop-part.sent) next
          (c.loop-part.invariant.so_far source kept) in
          one_more grid source all left part c.loop-part.pieces c.push.new.self c.in_ok-piece.piece c.in_ok-rows.rows
          c.loop-part.meter.load
          c.part_by_series.new.meter.load c.loop-part.sent (c.loop-part.sent + c.sent_of.result) so_far
          (c.in_ok-rows.ensures.rows source kept) c.in_ok-piece.ensures.stands c.in_ok-push.ensures.added
          (c.in_ok-rows.ensures.counted source kept)
          (ap (λ (n : ℕ). c.loop-part.sent + n) c.sent_of.ensures.sent);
      ready = (subst (AllByRecursion (IsPartReady grid series)) next c.loop-part.invariant.ready).1;
      limit = c.in_ok-rows.ensures.limit ∙ c.loop-part.invariant.limit;
      counted = search rules;
    }

pub returns : goal.returns
returns c =
    let typed = typed_tree c.args.plan.now.typed in
    let grid = c.grid_of-grid.result in
    let moment : to_z w64 (of_z w64 c.args.moment) ≡ c.args.moment = search rules in
    let grid_is : grid ≡ grid_of typed c.args.moment = c.grid_of-grid.ensures.grid ∙ ap (grid_of typed) moment in
    let ended : into_iter_items c.loop-part.part-iterator ≡ [] =
    nil_from_length (into_iter_items c.loop-part.part-iterator) (sym c.loop-part.invariant.counted
    ∙ c.in-None.ensures.steps.0) in
    record {
      answer = λ source kept.
          leaf_done typed source c.args.moment c.args.limit grid grid_is
          (parts_seen (into_iter_items c.loop-part.part-iterator))
          c.loop-part.pieces c.loop-part.meter.load c.loop-part.sent c.room.result c.loop-part.meter.limit
          (c.loop-part.invariant.so_far source kept) (ap parts_seen ended) c.room.ensures.room
          c.loop-part.invariant.limit;
    }
