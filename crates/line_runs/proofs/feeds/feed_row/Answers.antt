use Rattle.std.proofs.Common.{inl, inr}
use Rattle.line_runs.proofs.FeedSteps.{if_both, if_ok}
use Rattle.line_runs.proofs.feeds.feed_row.Goals as goal

pub returns-in-Ok-clause-fed : goal.returns-in-Ok-clause-fed
returns-in-Ok-clause-fed g c = if_ok c.accept.result c.accept.ensures.accepted (λ accepted. inl (record {
  accepted = accepted;
  refused = c.accept.ensures.refused;
  taken = record { ack = c.in-Ok.ack; written = c.in-Ok.ensures.written };
}))

pub returns-in-Err-clause-fed : goal.returns-in-Err-clause-fed
returns-in-Err-clause-fed g c = if_both c.refuse_row.result c.refuse_row.ensures.refused c.refuse_row.ensures.told
    (λ refused told. inr (record {
      fault = c.in-Err.fault;
      accepted = c.refuse_row.ensures.accepted;
      refused = refused;
      cause = record { told = told; unwritten = c.in-Err.ensures.nothing; cause = c.in-Err.ensures.refused };
    }))

pub returns-in-Ok-clause-fronts : goal.returns-in-Ok-clause-fronts
returns-in-Ok-clause-fronts g c = c.in-Ok.ensures.written.still.fronts

pub returns-in-Err-clause-fronts : goal.returns-in-Err-clause-fronts
returns-in-Err-clause-fronts g c = c.in-Err.ensures.nothing.still.fronts
