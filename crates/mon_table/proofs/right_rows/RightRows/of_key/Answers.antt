use Rattle.std.proofs.Common.{◌∙◌, Bool, ap}
use Rattle.indexmap.specs.IndexMap.{get}
use Rattle.mon_value.specs.Groups.{rows_in}
use Rattle.mon_table.proofs.JoinKeyLemmas.{eq-same_join_key}
use Rattle.mon_table.specs.JoinKeys.{rows_under_key, key_row}
use Rattle.mon_table.specs.RightSides.{RightSide}
use Rattle.mon_table.specs.declared.keys.JoinKey.{JoinKey}
use Rattle.mon_table.proofs.right_rows.RightRows.of_key.Goals as goal

pub returns : goal.returns
returns c =
    let key = c.args.key.now in
    record {
      found = ap rows_under_key
          (c.get.ensures.value ∙ ap (λ (eq : JoinKey → JoinKey → Bool). get eq c.self.inside.by_key
          key) eq-same_join_key)
          ∙ c.self.invariant key
          ∙ ap (λ (side : RightSide). rows_in side.rights (key_row key) side.rows) c.self.view_is;
    }
