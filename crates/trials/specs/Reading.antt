-- What is read of a printed text.
use Rattle.mon_script.specs.Lines.{lines_of}
use Rattle.trials.specs.Summaries.{Place, place}
use Rattle.trials.specs.Tables.{TableRead, table_read}
use Rattle.trials.specs.declared.summaries.At.{At}
use Rattle.trials.specs.declared.tables.Table.{Table}

-- a table that was read, with the lines that are left
abbrev pub read_of : Table → TableRead
read_of table = table_read table.sum table.count.now (lines_of table.rest.now)

-- how far a summary has come
abbrev pub place_of : At → Place
place_of at = place at.number (lines_of at.left.now)
