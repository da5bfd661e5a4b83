-- What was looked at for a table, between what its caller had seen before it and has seen behind it.
use Rattle.std.proofs.Common.{◌≡◌, ◌<◌, ◌≤◌, ℕ, ℤ, List, Ok, sym, subst}
use Rattle.std.specs.List.{AllByRecursion}
use Rattle.history_book.specs.Histories.{AreFronts}
use Rattle.know.specs.Knowledge.{Knowledge}
use Rattle.leaf_store.specs.LeafStates.{key_buckets}
use Rattle.line_runs.proofs.Growing.{marks, seen_of, wider}
use Rattle.line_runs.specs.Questions.{IsAnswerTo}
use Rattle.mon_config.specs.declared.config.Config.{Config}
use Rattle.mon_meaning.specs.Central.{IsMeant}
use Rattle.mon_store.specs.Queries.{IsEnded}
use Rattle.mon_value.specs.declared.histories.Histories.{Histories}
use Rattle.mon_value.specs.declared.positions.FoundDown.{FoundDown}
use Rattle.mon_value.specs.declared.positions.Leaf.{Leaf}
use Rattle.mon_value.specs.declared.rows.SeriesKey.{SeriesKey}
use Rattle.typed_trees.specs.Meaning.{load}
use Rattle.typed_trees.specs.Nodes.{TypedTree}
use Rattle.typed_trees.specs.declared.plans.Plan.{Plan}
use Rattle.query_traces.specs.Founds.{IsFoundBetween}
use Rattle.query_traces.specs.Rounds.{typed_of}
use Rattle.query_traces.specs.Traces.{AreWider, IsFreshBetween, IsReadRightly, IsTraceBetween, Lengths}
use Rattle.query_traces.specs.Traces.{lengths_of, source_of}
use Rattle.query_traces.specs.declared.answers.Answer.{Answer}
use Rattle.query_traces.specs.declared.answers.Trace.{Trace}
use Rattle.run_traces.proofs.ListFacts.{all_as}
use Rattle.run_traces.specs.LineClaims.{HaveGrown, LookFound, marked}

module _ (config : Config) (text : List ℕ) (moment : ℤ) (before mid : Knowledge) (answer : Answer)
    (ended : IsEnded config text moment config.limit before mid (Ok answer)) where
  -- a query's table is an answer to its text
  pub answer_is : IsAnswerTo config text moment mid answer
  answer_is = record {
    typed = typed_of ended.setting;
    type_is = ended.of_text.typed;
    since = lengths_of before.seen;
    of = ended.ends.rightly.of;
    table = subst (λ limit. IsMeant (typed_of ended.setting) (source_of mid.seen answer.trace) moment limit
        answer.table) ended.of_text.limit_is ended.ends.rightly.table;
    levels = ended.ends.rightly.levels;
  }

  module _
      (stays : (typed : TypedTree) (moment : ℤ) (from to earlier later : Lengths) (seen more : Histories)
      (trace : Trace) → AreWider from to earlier later seen more → IsTraceBetween typed moment from to seen trace
      → IsTraceBetween typed moment earlier later more trace)
      (stays_rows : (typed : TypedTree) (moment : ℤ) (from to earlier later : Lengths) (seen more : Histories)
      (trace : Trace) → AreWider from to earlier later seen more → IsTraceBetween typed moment from to seen trace
      → source_of more trace ≡ source_of seen trace)
      (stays_found : (from to earlier later : Lengths) (seen more : Histories) (found : FoundDown)
      → AreWider from to earlier later seen more → IsFoundBetween from to seen found
      → IsFoundBetween earlier later more found)
      (stays_fresh : (typed : TypedTree) (moment : ℤ) (from to earlier later : Lengths) (seen more : Histories)
      (trace : Trace) → AreWider from to earlier later seen more → IsTraceBetween typed moment from to seen trace
      → IsFreshBetween from to seen trace → IsFreshBetween earlier later more trace)
      (stays_read : (typed : TypedTree) (moment : ℤ) (from to earlier later : Lengths) (seen more : Histories)
      (trace : Trace) (plan : Plan) (buckets_of : SeriesKey → List ℕ) (leaf : Leaf)
      → AreWider from to earlier later seen more → IsTraceBetween typed moment from to seen trace
      → IsReadRightly typed plan buckets_of seen trace leaf → IsReadRightly typed plan buckets_of more trace leaf)
      (after : Knowledge) (first : AreFronts before.seen mid.seen) (last : AreFronts mid.seen after.seen)
      (more : HaveGrown mid.seen after.seen) where
    abbrev pub its_type : TypedTree
    its_type = typed_of ended.setting

    wide : AreWider (lengths_of before.seen) (lengths_of mid.seen) (lengths_of before.seen) (lengths_of after.seen)
        mid.seen after.seen
    wide = wider before.seen mid.seen after.seen first last more

    -- and stands on what was seen until then
    pub look_found : LookFound config after.seen (seen_of before.seen) (seen_of after.seen) text moment answer.trace
    look_found = record {
      typed = its_type;
      type_is = ended.of_text.typed;
      of = subst (λ (low : Lengths). IsTraceBetween its_type moment low (marked (seen_of after.seen)) after.seen
          answer.trace) (sym (marks before.seen))
          (subst (λ (high : Lengths). IsTraceBetween its_type moment (lengths_of before.seen) high after.seen
          answer.trace) (sym (marks after.seen))
          (stays its_type moment (lengths_of before.seen) (lengths_of mid.seen) (lengths_of before.seen)
          (lengths_of after.seen) mid.seen after.seen answer.trace wide ended.ends.rightly.of));
      fresh = subst (λ (low : Lengths). IsFreshBetween low (marked (seen_of after.seen)) after.seen answer.trace)
          (sym (marks before.seen))
          (subst (λ (high : Lengths). IsFreshBetween (lengths_of before.seen) high after.seen answer.trace)
          (sym (marks after.seen))
          (stays_fresh its_type moment (lengths_of before.seen) (lengths_of mid.seen) (lengths_of before.seen)
          (lengths_of after.seen) mid.seen after.seen answer.trace wide ended.ends.rightly.of
          ended.ends.rightly.fresh));
      down = subst (λ (low : Lengths). AllByRecursion (IsFoundBetween low (marked (seen_of after.seen)) after.seen)
          answer.trace.down) (sym (marks before.seen))
          (subst (λ (high : Lengths). AllByRecursion (IsFoundBetween (lengths_of before.seen) high after.seen)
          answer.trace.down) (sym (marks after.seen))
          (all_as (IsFoundBetween (lengths_of before.seen) (lengths_of mid.seen) mid.seen)
          (IsFoundBetween (lengths_of before.seen) (lengths_of after.seen) after.seen)
          (λ one is. stays_found (lengths_of before.seen) (lengths_of mid.seen) (lengths_of before.seen)
          (lengths_of after.seen) mid.seen after.seen one wide is) answer.trace.down ended.ends.rightly.down));
      within = subst (λ source. load its_type source moment ≤ config.limit)
          (sym (stays_rows its_type moment (lengths_of before.seen) (lengths_of mid.seen) (lengths_of before.seen)
          (lengths_of after.seen) mid.seen after.seen answer.trace wide ended.ends.rightly.of))
          (subst (λ limit. load its_type (source_of mid.seen answer.trace) moment ≤ limit) ended.of_text.limit_is
          ended.ends.rightly.table.within);
      read = record {
        plan = ended.setting.plan;
        planned = ended.of_text.plan;
        type_is = ended.of_text.typed;
        read = λ leaf there.
            stays_read its_type moment (lengths_of before.seen) (lengths_of mid.seen) (lengths_of before.seen)
            (lengths_of after.seen) mid.seen after.seen answer.trace ended.setting.plan
            (key_buckets config.buckets config.schemas) leaf wide ended.ends.rightly.of
            (ended.ends.rightly.read leaf (subst (λ count. leaf.0 < count) more.leaves there));
      };
    }
