use Rattle.query_traces.proofs.TraceGrowth.{found_still, fresh_still, read_still, source_still, trace_still}
use Rattle.query_traces.proofs.laws.traces_stay.Goals as goal

pub returns : goal.returns
returns c = record {
  of = λ typed moment from to earlier later seen more trace wide is.
      trace_still typed moment from to earlier later seen more wide trace is;
  rows = λ typed moment from to earlier later seen more trace wide is.
      source_still typed moment from to earlier later seen more wide trace is;
  fresh = λ typed moment from to earlier later seen more trace wide is.
      fresh_still typed moment from to earlier later seen more wide trace is;
  read = λ typed moment from to earlier later seen more trace plan buckets_of leaf wide is.
      read_still typed moment from to earlier later seen more wide trace is plan buckets_of leaf;
  found = λ from to earlier later seen more found wide is.
      found_still from to earlier later seen more wide found is;
}
