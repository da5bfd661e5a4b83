-- The last operation of a way, which is done first.
use Rattle.std.proofs.Common.{◌≡◌, List, [], ◌∷◌, ◌++◌, refl, ap, subst}
use Rattle.mon_value.specs.declared.tables.TimedRow.{TimedRow}
use Rattle.mon_meaning.specs.Operations.{CanOperate, operation_rows}
use Rattle.mon_meaning.specs.within.Sides.{HasOneSide}
use Rattle.typed_trees.specs.Nodes.{NodeTree}
use Rattle.standing_incr.specs.Ways.{CanGoThrough, rows_through}

pub through_last : (above : List NodeTree) (last : NodeTree) (rows : List TimedRow)
    → rows_through (above ++ last ∷ []) rows ≡ rows_through above (operation_rows last rows [])
through_last [] last rows = refl
through_last (tree ∷ above) last rows =
    ap (λ (made : List TimedRow). operation_rows tree made []) (through_last above last rows)

pub can_last : (above : List NodeTree) (last : NodeTree) (rows : List TimedRow)
    → CanGoThrough (above ++ last ∷ []) rows
    → (HasOneSide last × CanOperate last rows []) × CanGoThrough above (operation_rows last rows [])
can_last [] last rows can = can
can_last (tree ∷ above) last rows can =
    let rest = can_last above last rows can.1 in (
      rest.0,
      (
        (can.0.0, subst (λ (made : List TimedRow). CanOperate tree made []) (through_last above last rows) can.0.1),
        rest.1,
      ),
    )
