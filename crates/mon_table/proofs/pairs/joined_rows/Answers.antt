use Rattle.std.proofs.Common.{◌∙◌, List, ap, subst}
use Rattle.std.specs.List.{flat_map}
use Rattle.mon_value.specs.Answers.{Gives}
use Rattle.mon_value.specs.declared.tables.TimedRow.{TimedRow}
use Rattle.mon_table.proofs.RightSideLemmas.{rows_joined}
use Rattle.mon_table.specs.JoinRoom.{rows_within_room}
use Rattle.mon_table.specs.RightSides.{RightSide, left_pairs, side_at}
use Rattle.mon_table.proofs.pairs.joined_rows.Goals as goal

pub returns : goal.returns
returns c =
    let a = c.args.a.now in
    let b = c.args.b.now in
    let all = (λ i. flat_map (left_pairs (side_at c.args.places.now (c.as_slice-2.ensures.items i)))
    (c.as_slice.ensures.items i))
    ∙ ap (λ (side : RightSide). flat_map (left_pairs side) a.rows) c.requires.places
    ∙ rows_joined a b c.requires.left c.requires.right in
    record {
      rows = subst (λ (rows : List TimedRow). Gives c.rows_at.result (rows_within_room c.args.room rows)) all
          c.rows_at.ensures.rows;
    }
