-- What a query's end says, against the histories that its caller had seen when it began and had seen when it ended.
use Rattle.std.specs.Prelude.{◌≡◌, ◌≤◌, ◌<◌, ℕ, ℤ, length}
use Rattle.mon_meaning.specs.Central.{IsMeant}
use Rattle.mon_value.specs.Histories.{leaf_history}
use Rattle.mon_value.specs.declared.histories.Histories.{Histories}
use Rattle.mon_topo.specs.Settings.{Setting}
use Rattle.mon_value.specs.declared.positions.Leaf.{Leaf}
use Rattle.typed_trees.specs.Plans.{op_levels}
use Rattle.typed_trees.specs.Meaning.{load}
use Rattle.query_traces.specs.Founds.{AreFoundThen}
use Rattle.query_traces.specs.Rounds.{typed_of, QuerySetting}
use Rattle.query_traces.specs.Traces.{IsFresh, IsReadRightly, IsTraceOf, cut_of, source_of}
use Rattle.query_traces.specs.declared.answers.Answer.{Answer}
use Rattle.query_traces.specs.declared.answers.Trace.{Trace}

module _ (store : Setting) (setting : QuerySetting) (moment : ℤ) (at_entry at_exit : Histories) where
  -- a table is what the query means over the rows of its trace, which holds all that was seen at entry; a leaf was read
  -- only where a formula holds of it, and left out only where it has nothing that the query wants
  pub record IsAnsweredRightly (answer : Answer) : Type 0 where
    pub of : IsTraceOf (typed_of setting) moment at_entry at_exit answer.trace
    pub fresh : IsFresh at_entry at_exit answer.trace
    pub read : (leaf : Leaf) → leaf.0 < length at_exit.leaves
        → IsReadRightly (typed_of setting) setting.plan store.buckets_of at_exit answer.trace leaf
    pub down : AreFoundThen at_entry at_exit answer.trace.down
    pub table : IsMeant (typed_of setting) (source_of at_exit answer.trace) moment setting.limit answer.table
    pub levels : answer.levels ≡ op_levels (typed_of setting)

  -- a query stops for its load only where the load over the rows of its trace is above the limit; it looks at no leaf
  -- before entry, also where it had not come to the leaf
  pub record IsStoppedRightly (limit : ℕ) (trace : Trace) : Type 0 where
    pub of : IsTraceOf (typed_of setting) moment at_entry at_exit trace
    pub since : (leaf : Leaf) → leaf.0 < length at_exit.leaves
        → length (leaf_history at_entry leaf) ≤ cut_of trace leaf
    pub down : AreFoundThen at_entry at_exit trace.down
    pub limit_is : limit ≡ setting.limit
    pub above : setting.limit < load (typed_of setting) (source_of at_exit trace) moment
