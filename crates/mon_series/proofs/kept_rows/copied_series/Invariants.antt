-- the copies so far and the series that are left are all
use Rattle.std.proofs.Common.{◌≡◌, ◌++◌, drop}
use Rattle.mon_series.specs.SeriesMaps.{hidden_held, series_held}
use Rattle.mon_series.proofs.kept_rows.copied_series.Given as goal

abbrev pub invariant-loop-key : goal.invariant-loop-key
invariant-loop-key l = record {
  groups : series_held l.copied.entries ++ series_held (drop l.key-index l.key-items) ≡ series_held l.groups.entries;
  hidden : hidden_held l.copied.entries ++ hidden_held (drop l.key-index l.key-items) ≡ hidden_held l.groups.entries;
}
