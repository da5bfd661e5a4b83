use Rattle.std.proofs.Common.{◌≡◌, ◌∙◌, ◌≤◌, ◌+◌, ◌-◌, ℕ, map, ap, subst, sym, rules, arith}
use Rattle.std.specs.List.{sum_by}
use Rattle.typed_trees.specs.Levels.{is_leaf, in_zone, top_parts}
use Rattle.typed_trees.specs.Nodes.{typed_tree}
use Rattle.typed_trees.specs.Soundness.{IsWithinRows}
use Rattle.mon_fold.specs.declared.answers.LeafAnswer.{LeafAnswer}
use Rattle.mon_meaning.specs.Counts.{TellsOver}
use Rattle.mixer.specs.ZoneAnswers.{IsRefusedByZone, IsZonePart}
use Rattle.mixer.specs.within.Joined.{AreTogether, CanJoinAll}
use Rattle.mixer.specs.within.ZonePieces.{CanHandUpAll, joins_of_parts}
use Rattle.mixer.proofs.MixedAnswers.{leaves_can_be_empty, leaves_can_join, leaves_over, zone_can, zone_made, zone_over}
use Rattle.mixer.proofs.mixing.mix_zone.Goals as goal

pub returns-in_err-children : goal.returns-in_err-children
returns-in_err-children c =
    let typed = typed_tree c.args.plan.now.typed in
    let total = sum_by (λ (one : LeafAnswer). one.load) c.args.parts in
    let same : c.new-meter.result.load + total ≡ total = omega (arith, c.new-meter.ensures.none) in
    let told : TellsOver c.args.limit total c.in_err-children.field-0.0 =
    subst (λ n. TellsOver c.args.limit n c.in_err-children.field-0.0) same
    (subst (λ l. TellsOver l (c.new-meter.result.load + total) c.in_err-children.field-0.0) c.new-meter.ensures.limit
    c.in_err-children.ensures.over) in
    record {
      answer = λ leaves moment are.
          let fact : IsRefusedByZone typed leaves moment c.args.limit c.in_err-children.field-0.0 =
          leaves_over typed leaves moment c.args.limit c.args.parts are c.in_err-children.field-0.0 told in
          search rules;
    }

pub pieces_together-requires-clause-empty : goal.pieces_together-requires-clause-empty
pieces_together-requires-clause-empty c =
    let asked = c.requires.asked in
    let total = sum_by (λ (one : LeafAnswer). one.load) c.args.parts in
    let few : IsWithinRows total =
    omega (
      arith,
      c.in_ok-children.ensures.counted,
      c.new-meter.ensures.none,
      c.leaf_children.new.meter.within,
      c.leaf_children.new.meter.few,
    ) in
    leaves_can_be_empty (typed_tree c.args.plan.now.typed) asked.leaves asked.moment c.args.limit c.args.parts
    asked.are few

pub pieces_together-requires-clause-can : goal.pieces_together-requires-clause-can
pieces_together-requires-clause-can c =
    let asked = c.requires.asked in
    let total = sum_by (λ (one : LeafAnswer). one.load) c.args.parts in
    let few : IsWithinRows total =
    omega (
      arith,
      c.in_ok-children.ensures.counted,
      c.new-meter.ensures.none,
      c.leaf_children.new.meter.within,
      c.leaf_children.new.meter.few,
    ) in
    subst CanJoinAll (sym c.in_ok-children.ensures.pieces)
    (leaves_can_join (typed_tree c.args.plan.now.typed) asked.leaves asked.moment c.args.limit c.args.parts asked.are
    few)

pub zone_pieces-requires : goal.zone_pieces-requires
zone_pieces-requires c =
    let asked = c.requires.asked in
    let typed = typed_tree c.args.plan.now.typed in
    let total = sum_by (λ (one : LeafAnswer). one.load) c.args.parts in
    let few : IsWithinRows total =
    omega (
      arith,
      c.in_ok-children.ensures.counted,
      c.new-meter.ensures.none,
      c.leaf_children.new.meter.within,
      c.leaf_children.new.meter.few,
    ) in
    let load : c.leaf_children.new.meter.load ≡ total =
    omega (arith, c.in_ok-children.ensures.counted, c.new-meter.ensures.none) in
    let joined : AreTogether (top_parts is_leaf typed.tree) (map (λ (one : LeafAnswer). one.pieces) c.args.parts)
    c.in_ok-pieces.pieces =
    subst (λ children. AreTogether (top_parts is_leaf typed.tree) children c.in_ok-pieces.pieces)
    c.in_ok-children.ensures.pieces
    c.in_ok-pieces.ensures.together in
    record {
      can = subst (λ base. CanHandUpAll base (top_parts in_zone typed.tree) c.in_ok-pieces.pieces) (sym load)
          (zone_can typed asked.leaves asked.moment c.args.limit c.args.parts asked.are few c.in_ok-pieces.pieces
          joined);
    }

pub returns-in_err-pieces-2 : goal.returns-in_err-pieces-2
returns-in_err-pieces-2 c =
    let typed = typed_tree c.args.plan.now.typed in
    let total = sum_by (λ (one : LeafAnswer). one.load) c.args.parts in
    let few : IsWithinRows total =
    omega (
      arith,
      c.in_ok-children.ensures.counted,
      c.new-meter.ensures.none,
      c.leaf_children.new.meter.within,
      c.leaf_children.new.meter.few,
    ) in
    let load : c.leaf_children.new.meter.load ≡ total =
    omega (arith, c.in_ok-children.ensures.counted, c.new-meter.ensures.none) in
    let joined : AreTogether (top_parts is_leaf typed.tree) (map (λ (one : LeafAnswer). one.pieces) c.args.parts)
    c.in_ok-pieces.pieces =
    subst (λ children. AreTogether (top_parts is_leaf typed.tree) children c.in_ok-pieces.pieces)
    c.in_ok-children.ensures.pieces
    c.in_ok-pieces.ensures.together in
    let joins = joins_of_parts (top_parts in_zone typed.tree) c.in_ok-pieces.pieces in
    let told : TellsOver c.args.limit (total + joins) c.in_err-pieces-2.field-0.0 =
    subst (λ n. TellsOver c.args.limit (n + joins) c.in_err-pieces-2.field-0.0) load
    (subst (λ l. TellsOver l (c.leaf_children.new.meter.load + joins) c.in_err-pieces-2.field-0.0)
    (c.in_ok-children.ensures.limit ∙ c.new-meter.ensures.limit) c.in_err-pieces-2.ensures.over) in
    record {
      answer = λ leaves moment are.
          let fact : IsRefusedByZone typed leaves moment c.args.limit c.in_err-pieces-2.field-0.0 =
          zone_over typed leaves moment c.args.limit c.args.parts are few c.in_ok-pieces.pieces joined
          c.in_err-pieces-2.field-0.0
          told in
          search rules;
    }

pub returns : goal.returns
returns c =
    let typed = typed_tree c.args.plan.now.typed in
    let total = sum_by (λ (one : LeafAnswer). one.load) c.args.parts in
    let few : IsWithinRows total =
    omega (
      arith,
      c.in_ok-children.ensures.counted,
      c.new-meter.ensures.none,
      c.leaf_children.new.meter.within,
      c.leaf_children.new.meter.few,
    ) in
    let load : c.leaf_children.new.meter.load ≡ total =
    omega (arith, c.in_ok-children.ensures.counted, c.new-meter.ensures.none) in
    let joined : AreTogether (top_parts is_leaf typed.tree) (map (λ (one : LeafAnswer). one.pieces) c.args.parts)
    c.in_ok-pieces.pieces =
    subst (λ children. AreTogether (top_parts is_leaf typed.tree) children c.in_ok-pieces.pieces)
    c.in_ok-children.ensures.pieces
    c.in_ok-pieces.ensures.together in
    let spent : ℕ = c.zone_pieces.new.meter.load in
    let counted : spent ≡ total + joins_of_parts (top_parts in_zone typed.tree) c.in_ok-pieces.pieces =
    c.in_ok-pieces-2.ensures.counted ∙ ap (λ n. n + joins_of_parts (top_parts in_zone typed.tree)
    c.in_ok-pieces.pieces) load in
    let limit : c.zone_pieces.new.meter.limit ≡ c.args.limit =
    c.in_ok-pieces-2.ensures.limit ∙ c.in_ok-children.ensures.limit ∙ c.new-meter.ensures.limit in
    let within : spent ≤ c.args.limit = omega (arith, limit, c.zone_pieces.new.meter.within) in
    let told : spent ≡ c.args.limit - c.room.result = omega (arith, c.room.ensures.room, limit) in
    record {
      answer = λ leaves moment are.
          subst (λ n. IsZonePart typed leaves moment c.args.limit (record {
            pieces = c.in_ok-pieces-2.pieces;
            load =
                n;
          })) told
          (zone_made typed leaves moment c.args.limit c.args.parts are few c.in_ok-pieces.pieces joined
          c.in_ok-pieces-2.pieces spent
          c.in_ok-pieces-2.ensures.pieces counted within);
    }
