use Rattle.mon_points.specs.Left.{IsNextRead}
use Rattle.mon_points.proofs.LeftLemmas.{next_shorter}
use Rattle.mon_points.proofs.records.read_left.Goals as goal

pub loop-read-smaller : goal.loop-read-smaller
loop-read-smaller c =
    let schemas = c.args.schemas.now in
    let next : IsNextRead schemas c.loop-read.reader c.next.new.self c.in-Some.read =
    rw c.in-Some.is at c.in_ok-read.ensures.read in
    next_shorter schemas c.loop-read.reader c.next.new.self c.in-Some.read next
