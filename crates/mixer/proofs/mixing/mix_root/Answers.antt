use Rattle.std.proofs.Common.{◌≡◌, ◌∙◌, ◌≤◌, ◌+◌, ℕ, List, map, ap, subst, sym, rules, arith}
use Rattle.std.specs.List.{sum_by}
use Rattle.std.specs.Vec.Iter.{into_iter_items}
use Rattle.typed_trees.specs.Nodes.{columns_of, typed_tree}
use Rattle.typed_trees.specs.Levels.{in_zone, top_parts}
use Rattle.typed_trees.specs.Soundness.{IsWithinRows}
use Rattle.mixer.specs.declared.zone_answers.ZoneAnswer.{ZoneAnswer}
use Rattle.mon_fold.specs.declared.answers.Piece.{Piece}
use Rattle.mon_meaning.specs.Central.{IsRefusedBy}
use Rattle.mon_meaning.specs.Counts.{TellsOver}
use Rattle.mixer.specs.Divisions.{all_rows}
use Rattle.mixer.specs.within.Joined.{AreTogether, CanJoinAll}
use Rattle.mixer.specs.within.Mixtures.{CanMix, joins_from, rows_from}
use Rattle.mixer.proofs.MixedAnswers.{zones_can_be_empty, zones_can_join, zones_over, root_can, root_made, root_over}
use Rattle.mixer.proofs.mixing.mix_root.Goals as goal

pub returns-in_err-children : goal.returns-in_err-children
returns-in_err-children c =
    let typed = typed_tree c.args.plan.now.typed in
    let total = sum_by (λ (one : ZoneAnswer). one.load) c.args.zones in
    let same : c.new-meter.result.load + total ≡ total = omega (arith, c.new-meter.ensures.none) in
    let told : TellsOver c.args.limit total c.in_err-children.field-0.0 =
    subst (λ n. TellsOver c.args.limit n c.in_err-children.field-0.0) same
    (subst (λ l. TellsOver l (c.new-meter.result.load + total) c.in_err-children.field-0.0) c.new-meter.ensures.limit
    c.in_err-children.ensures.over) in
    record {
      answer = λ rows moment are.
          let fact : IsRefusedBy typed (all_rows rows) moment c.args.limit c.in_err-children.field-0.0 =
          zones_over typed rows moment c.args.limit c.args.zones are c.in_err-children.field-0.0 told in
          search rules;
    }

pub pieces_together-requires-clause-empty : goal.pieces_together-requires-clause-empty
pieces_together-requires-clause-empty c =
    let asked = c.requires.asked in
    let total = sum_by (λ (one : ZoneAnswer). one.load) c.args.zones in
    let few : IsWithinRows total =
    omega (
      arith,
      c.in_ok-children.ensures.counted,
      c.new-meter.ensures.none,
      c.zone_children.new.meter.within,
      c.zone_children.new.meter.few,
    ) in
    zones_can_be_empty (typed_tree c.args.plan.now.typed) asked.zones asked.moment c.args.limit c.args.zones asked.are
    few

pub pieces_together-requires-clause-can : goal.pieces_together-requires-clause-can
pieces_together-requires-clause-can c =
    let asked = c.requires.asked in
    let total = sum_by (λ (one : ZoneAnswer). one.load) c.args.zones in
    let few : IsWithinRows total =
    omega (
      arith,
      c.in_ok-children.ensures.counted,
      c.new-meter.ensures.none,
      c.zone_children.new.meter.within,
      c.zone_children.new.meter.few,
    ) in
    subst CanJoinAll (sym c.in_ok-children.ensures.pieces)
    (zones_can_join (typed_tree c.args.plan.now.typed) asked.zones asked.moment c.args.limit c.args.zones asked.are few)

pub mixed_rows-requires-clause-can : goal.mixed_rows-requires-clause-can
mixed_rows-requires-clause-can c =
    let asked = c.requires.asked in
    let typed = typed_tree c.args.plan.now.typed in
    let total = sum_by (λ (one : ZoneAnswer). one.load) c.args.zones in
    let few : IsWithinRows total =
    omega (
      arith,
      c.in_ok-children.ensures.counted,
      c.new-meter.ensures.none,
      c.zone_children.new.meter.within,
      c.zone_children.new.meter.few,
    ) in
    let load : c.zone_children.new.meter.load ≡ total =
    omega (arith, c.in_ok-children.ensures.counted, c.new-meter.ensures.none) in
    let joined : AreTogether (top_parts in_zone typed.tree) (map (λ (one : ZoneAnswer). one.pieces) c.args.zones)
    c.in_ok-pieces.pieces =
    subst (λ children. AreTogether (top_parts in_zone typed.tree) children c.in_ok-pieces.pieces)
    c.in_ok-children.ensures.pieces
    c.in_ok-pieces.ensures.together in
    let items : into_iter_items c.into_iter.result ≡ c.in_ok-pieces.pieces =
    c.into_iter.ensures.rest ∙ c.into_vec.ensures.items in
    subst (λ ps. CanMix c.zone_children.new.meter.load in_zone typed.tree ps) (sym items)
    (subst (λ base. CanMix base in_zone typed.tree c.in_ok-pieces.pieces) (sym load)
    (root_can typed asked.zones asked.moment c.args.limit c.args.zones asked.are few c.in_ok-pieces.pieces joined))

pub returns-in_err-rows : goal.returns-in_err-rows
returns-in_err-rows c =
    let typed = typed_tree c.args.plan.now.typed in
    let total = sum_by (λ (one : ZoneAnswer). one.load) c.args.zones in
    let few : IsWithinRows total =
    omega (
      arith,
      c.in_ok-children.ensures.counted,
      c.new-meter.ensures.none,
      c.zone_children.new.meter.within,
      c.zone_children.new.meter.few,
    ) in
    let load : c.zone_children.new.meter.load ≡ total =
    omega (arith, c.in_ok-children.ensures.counted, c.new-meter.ensures.none) in
    let joined : AreTogether (top_parts in_zone typed.tree) (map (λ (one : ZoneAnswer). one.pieces) c.args.zones)
    c.in_ok-pieces.pieces =
    subst (λ children. AreTogether (top_parts in_zone typed.tree) children c.in_ok-pieces.pieces)
    c.in_ok-children.ensures.pieces
    c.in_ok-pieces.ensures.together in
    let items : into_iter_items c.into_iter.result ≡ c.in_ok-pieces.pieces =
    c.into_iter.ensures.rest ∙ c.into_vec.ensures.items in
    let joins : List Piece → ℕ = joins_from in_zone typed.tree in
    let told : TellsOver c.args.limit (total + joins c.in_ok-pieces.pieces) c.in_err-rows.field-0.0 =
    subst (λ n. TellsOver c.args.limit n c.in_err-rows.field-0.0) (λ i. load i + joins (items i))
    (subst (λ l. TellsOver l (c.zone_children.new.meter.load + joins (into_iter_items c.into_iter.result))
    c.in_err-rows.field-0.0)
    (c.in_ok-children.ensures.limit ∙ c.new-meter.ensures.limit) c.in_err-rows.ensures.over) in
    record {
      answer = λ rows moment are.
          let fact : IsRefusedBy typed (all_rows rows) moment c.args.limit c.in_err-rows.field-0.0 =
          root_over typed rows moment c.args.limit c.args.zones are few c.in_ok-pieces.pieces joined
          c.in_err-rows.field-0.0 told in
          search rules;
    }

pub returns : goal.returns
returns c =
    let typed = typed_tree c.args.plan.now.typed in
    let total = sum_by (λ (one : ZoneAnswer). one.load) c.args.zones in
    let few : IsWithinRows total =
    omega (
      arith,
      c.in_ok-children.ensures.counted,
      c.new-meter.ensures.none,
      c.zone_children.new.meter.within,
      c.zone_children.new.meter.few,
    ) in
    let load : c.zone_children.new.meter.load ≡ total =
    omega (arith, c.in_ok-children.ensures.counted, c.new-meter.ensures.none) in
    let joined : AreTogether (top_parts in_zone typed.tree) (map (λ (one : ZoneAnswer). one.pieces) c.args.zones)
    c.in_ok-pieces.pieces =
    subst (λ children. AreTogether (top_parts in_zone typed.tree) children c.in_ok-pieces.pieces)
    c.in_ok-children.ensures.pieces
    c.in_ok-pieces.ensures.together in
    let items : into_iter_items c.into_iter.result ≡ c.in_ok-pieces.pieces =
    c.into_iter.ensures.rest ∙ c.into_vec.ensures.items in
    let joins : List Piece → ℕ = joins_from in_zone typed.tree in
    let spent : ℕ = c.mixed_rows.new.meter.load in
    let counted : spent ≡ total + joins c.in_ok-pieces.pieces =
    c.in_ok-rows.ensures.counted ∙ (λ i. load i + joins (items i)) in
    let limit : c.mixed_rows.new.meter.limit ≡ c.args.limit =
    c.in_ok-rows.ensures.limit ∙ c.in_ok-children.ensures.limit ∙ c.new-meter.ensures.limit in
    let within : spent ≤ c.args.limit = omega (arith, limit, c.mixed_rows.new.meter.within) in
    let made : c.in_ok-rows.rows ≡ rows_from in_zone typed.tree c.in_ok-pieces.pieces =
    c.in_ok-rows.ensures.rows ∙ ap (rows_from in_zone typed.tree) items in
    let table : c.in_ok-table_of.field-0 ≡ record { columns = columns_of typed.tree; rows = c.in_ok-rows.rows } =
    search rules in
    record {
      answer = λ rows moment are.
          root_made typed rows moment c.args.limit c.args.zones are few c.in_ok-pieces.pieces joined
          c.in_ok-table_of.field-0
          c.in_ok-rows.rows spent made table counted within;
    }
