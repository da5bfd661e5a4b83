use Rattle.std.proofs.Common.{◌≡◌, ◌∷◌, [], ap, false, not, subst}
use Rattle.std.specs.Bool.{MatchBool}
use Rattle.csv.specs.Records.{fields_of}
use Rattle.mon_points.specs.Left.{records_left}
use Rattle.mon_points.proofs.RecordsLemmas.{reads_one, still_between}
use Rattle.mon_points.proofs.record_reader.RecordReader.take.Goals as goal

pub invariant_of-self-2 : goal.invariant_of-self-2
invariant_of-self-2 c =
    let is = c.self.invariant c.if-self.false in
    let read = c.in-Ok.ensures.reads is.plain is.ready in
    still_between c.self.inside.reader c.read_byte_record.new.self (fields_of c.read_byte_record.new.row) is
    (c.in-Ok.ensures.ready is.plain) c.in-Ok.found read

pub returns : goal.returns
returns c =
    let is = c.self.invariant c.if-self.false in
    let read = c.in-Ok.ensures.reads is.plain is.ready in
    let new = c.read_byte_record.new.self in
    let cells = fields_of c.read_byte_record.new.row in
    let left : records_left false c.self.inside.reader ≡ c.args.self.now = rw c.if-self.false at c.self.view_is in
    record {
      taken = subst (λ all. MatchBool c.in-Ok.found (all ≡ cells ∷ records_left (not c.in-Ok.found) new) (all ≡ []))
          left
          (reads_one c.self.inside.reader new cells is (c.in-Ok.ensures.ready is.plain) c.in-Ok.found read);
      ended = λ none. ap (λ found. records_left (not found) new) none;
    }
