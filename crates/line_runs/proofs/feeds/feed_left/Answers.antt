use Rattle.std.proofs.Common.{ap, refl}
use Rattle.mon_points.specs.Left.{IsNextRead, reads_left}
use Rattle.mon_points.specs.declared.records.RowRead.{RowRead}
use Rattle.mon_points.proofs.LeftLemmas.{next_shorter}
use Rattle.line_runs.proofs.FeedSteps.{feeding_first, feeding_last, feeding_more}
use Rattle.line_runs.proofs.feeds.feed_left.Goals as goal
use Rattle.running_query.proofs.GoingLemmas.{fronts_through, same_fronts}

pub loop-read-init : goal.loop-read-init
loop-read-init g c =
    let all = reads_left c.args.store.now.schemas c.args.reader.now in
    record {
      feeding = feeding_first c.args.store.now all c.args.p.now all c.args.fed.now refl c.requires.accepted
          c.requires.refused;
      fronts = same_fronts c.args.p.now.seen;
    }

pub loop-read-preserved : goal.loop-read-preserved
loop-read-preserved g c =
    let i = c.loop-read.invariant in
    let config = c.args.store.now in
    let left = reads_left config.schemas c.loop-read.reader in
    let rest = reads_left config.schemas c.next_read.new.reader in
    let read : RowRead = c.in-Some.read in
    let next : IsNextRead config.schemas c.loop-read.reader c.next_read.new.reader read =
    rw c.in-Some.is at c.in_ok-read.ensures.read in
    record {
      feeding = feeding_more config (reads_left config.schemas c.args.reader.now) c.args.p.now c.loop-read.fed
          c.feed_record.new.fed c.loop-read.number c.loop-read.p c.feed_record.new.p rest left read c.in_ok-number.number
          next c.in_ok-number.ensures.next c.in_ok-feed_record.ensures.fed i.feeding;
      fronts = fronts_through c.args.p.now.seen c.loop-read.p.seen c.feed_record.new.p.seen i.fronts
          c.feed_record.ensures.fronts;
    }

pub loop-read-smaller : goal.loop-read-smaller
loop-read-smaller g c =
    let config = c.args.store.now in
    let next : IsNextRead config.schemas c.loop-read.reader c.next_read.new.reader c.in-Some.read =
    rw c.in-Some.is at c.in_ok-read.ensures.read in
    next_shorter config.schemas c.loop-read.reader c.next_read.new.reader c.in-Some.read next

pub returns-in_err-feed_record-clause-fronts : goal.returns-in_err-feed_record-clause-fronts
returns-in_err-feed_record-clause-fronts g c =
    fronts_through c.args.p.now.seen c.loop-read.p.seen c.feed_record.new.p.seen c.loop-read.invariant.fronts
    c.feed_record.ensures.fronts

pub returns-clause-fed : goal.returns-clause-fed
returns-clause-fed g c =
    let i = c.loop-read.invariant in
    let schemas = c.args.store.now.schemas in
    let none = rw c.in_default.is at c.in_ok-read.ensures.read in
    feeding_last c.args.store.now (reads_left schemas c.args.reader.now) c.args.p.now
    (reads_left schemas c.loop-read.reader) c.loop-read.fed c.loop-read.number c.loop-read.p
    (ap (reads_left schemas) none) i.feeding
