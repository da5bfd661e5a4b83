-- What a reader of rows has left grows shorter with each read.
use Rattle.std.proofs.Common.{◌≡◌, ◌<◌, ℕ, suc, List, length, ap, arith}
use Rattle.std.proofs.lemmas.List.{length-map}
use Rattle.mon_schema.specs.Names.{SchemaLists}
use Rattle.mon_points.specs.Left.{IsNextRead, reads_left}
use Rattle.mon_points.specs.Records.{record_read}
use Rattle.mon_points.specs.declared.records.RowRead.{RowRead}

pub next_shorter : (schemas : SchemaLists) (old new : List (List (List ℕ))) (read : RowRead)
    → IsNextRead schemas old new read → length new < length old
next_shorter schemas old new read next =
    let lengths : length (reads_left schemas old) ≡ suc (length (reads_left schemas new)) = ap length next in
    omega (arith, length-map old (record_read schemas), length-map new (record_read schemas))
