use Rattle.std.proofs.Common.{◌∙◌, List, map, ap}
use Rattle.mon_fold.proofs.PartialGroupLemmas.{groups_finish}
use Rattle.mon_fold.specs.PartialGroups.{PartialGroup, partial_groups, row_finished}
use Rattle.mon_value.specs.declared.tables.Table.{Table}
use Rattle.mon_meaning.proofs.operations.grouped_rows.Goals as goal

pub returns : goal.returns
returns c =
    let by = c.args.by.now in
    let with = c.args.with.now in
    record {
      rows = c.in_ok-finish_parts.ensures.rows
          ∙ ap (λ (groups : List PartialGroup). map row_finished groups) c.in_ok-parts.ensures.groups
          ∙ ap (λ (table : Table). map row_finished (partial_groups by with table.rows)) c.in_ok-table.ensures.table
          ∙ groups_finish with by c.args.rows;
    }
