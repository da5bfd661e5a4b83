use Rattle.std.proofs.Common.{rules, ◌≡◌, ◌∙◌, Ok, Result, true, sym, ap, drop}
use Rattle.csv.specs.Records.{fields_of}
use Rattle.mon_value.specs.declared.rows.SeriesKey.{SeriesKey}
use Rattle.mon_points.specs.Keys.{spells_key}
use Rattle.mon_points.specs.declared.faults.RowFault.{RowFault}
use Rattle.mon_points.proofs.SpellsKeyLemmas.{spells_key-read}
use Rattle.mon_points.proofs.keys.KeyCache.spelled_at.Goals as goal

abbrev done : SeriesKey → Result SeriesKey RowFault
done key = Ok key

pub returns-in_ok-copy-in-Some : goal.returns-in_ok-copy-in-Some
returns-in_ok-copy-in-Some c =
    let cells = drop 5 (fields_of c.args.cells.now) in
    let yes : c.spells_key.result ≡ true = search rules in
    let spelled : spells_key c.args.target.now c.args.metric.now cells c.deref.result.now ≡ true =
    sym c.spells_key.ensures.spelled ∙ yes in
    let read = spells_key-read c.args.target.now c.args.metric.now cells c.deref.result.now spelled in
    record {
      key = read ∙ ap (λ (k : SeriesKey). done k) (c.deref.ensures ∙ sym c.in_ok-copy-in-Some.ensures.equal);
    }
