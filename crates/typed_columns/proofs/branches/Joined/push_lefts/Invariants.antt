-- What was added and found, in front of what is left.
use Rattle.std.proofs.Common.{◌≡◌, ◌++◌, map, drop}
use Rattle.std.specs.List.{flat_map}
use Rattle.mql_ast.specs.Rows.{column_named}
use Rattle.typed_trees.specs.Branches.{common_columns, left_column, mismatch_faults}
use Rattle.typed_trees.specs.Faults.{first_with}
use Rattle.typed_columns.proofs.branches.Joined.push_lefts.Given as goal

abbrev pub invariant-loop-left : goal.invariant-loop-left
invariant-loop-left l = record {
  columns : l.self.columns ++ map (left_column l.setting.schemas.now l.rights) (drop l.left-index l.lefts)
      ≡ l.fn.self.columns ++ map (left_column l.setting.schemas.now l.rights) l.lefts;
  common : l.self.common ++ common_columns l.setting.schemas.now (drop l.left-index l.lefts) l.rights
      ≡ l.fn.self.common ++ common_columns l.setting.schemas.now l.lefts l.rights;
  faults : first_with l.found.first (flat_map
      (λ column. mismatch_faults l.at column (column_named column.name l.rights)) (drop l.left-index l.lefts))
      ≡ first_with l.fn.found.first (flat_map
      (λ column. mismatch_faults l.at column (column_named column.name l.rights)) l.lefts);
}
