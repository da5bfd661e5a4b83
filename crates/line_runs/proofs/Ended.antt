-- How a question ends, by how its query did.
use Rattle.std.proofs.Common.{◌≡◌, ◌∙◌, ℕ, ℤ, List, [], Ok, Err, sym, ap, subst}
use Rattle.std.specs.Prelude.{IfOk, Result, sum_by}
use Rattle.history_book.specs.Numbers.{times_among}
use Rattle.know.specs.Knowledge.{Knowledge}
use Rattle.line_runs.proofs.Answered.{look_found}
use Rattle.line_runs.proofs.Causes.{AsksFirst, has_cause}
use Rattle.line_runs.proofs.Growing.{grown, seen_of, wider}
use Rattle.line_runs.proofs.Wrote.{OwnsAsMuch, asked_wrote, prints_alike, refused_wrote}
use Rattle.line_runs.specs.LineWrites.{LineWrote, ran_line}
use Rattle.line_runs.specs.Questions.{IsPrinted, IsRefusedFor, asked_line, question}
use Rattle.mon_script.specs.declared.questions.How.{How}
use Rattle.line_runs.specs.declared.lines.LineRan.{LineRan}
use Rattle.mon_config.specs.declared.config.Config.{Config}
use Rattle.mon_store.specs.Passes.{OwnsTheSame}
use Rattle.mon_store.specs.Queries.{IsEnded, IsQueried}
use Rattle.mon_store.specs.Stores.{setting_of}
use Rattle.mon_store.specs.declared.queries.QueryFault.{QueryFault}
use Rattle.mon_topo.specs.HeldHistories.{AreHeld}
use Rattle.mon_topo.specs.Settings.{Setting}
use Rattle.mon_value.specs.declared.histories.Histories.{Histories}
use Rattle.mon_value.specs.declared.positions.FoundDown.{FoundDown}
use Rattle.mon_value.specs.declared.positions.Leaf.{Leaf}
use Rattle.mon_value.specs.declared.rows.SeriesKey.{SeriesKey}
use Rattle.typed_trees.specs.Nodes.{TypedTree}
use Rattle.typed_trees.specs.declared.plans.Plan.{Plan}
use Rattle.query_traces.specs.Founds.{IsFoundBetween}
use Rattle.query_traces.specs.Rounds.{typed_of}
use Rattle.query_traces.specs.Traces.{AreWider, IsFreshBetween, IsReadRightly, IsTraceBetween, Lengths}
use Rattle.query_traces.specs.Traces.{lengths_of, source_of}
use Rattle.query_traces.specs.declared.answers.Answer.{Answer}
use Rattle.query_traces.specs.declared.answers.Trace.{Trace}
use Rattle.run_traces.specs.LineAsks.{moment_of, text_of}
use Rattle.run_traces.specs.LineClaims.{HaveGrown, LookFound}
use Rattle.run_traces.specs.LineForms.{Suits}
use Rattle.run_traces.specs.LineTexts.{line_text}
use Rattle.run_traces.specs.declared.traces.LineFault.TheVariants as why
use Rattle.run_traces.specs.declared.traces.LineTrace.{LineTrace}
use Rattle.run_traces.specs.declared.traces.LineTrace.TheVariants as came
use Rattle.run_traces.specs.declared.traces.QuestionFault.{QuestionFault}
use Rattle.run_traces.specs.declared.line_files.LineFiles.{LineFiles}
use Rattle.mon_script.specs.declared.forms.LineForm.{LineForm}
use Rattle.running_query.specs.Looks.{GoesOn}
use Rattle.running_query.proofs.GoingLemmas.{fronts_through}

-- ---- what is seen

-- a name's setting is that of the configuration, so histories are held by this one
pub held_by : (config : Config) (store : Setting) (seen : Histories) → setting_of config ≡ store
    → AreHeld store.held store.zones store.points seen
    → AreHeld config.schemas config.topology config.range_points seen
held_by config store seen is held =
    subst (λ (s : Setting). AreHeld s.held s.zones s.points seen) (sym is) held

-- a query of a text at a moment, within the limit
pub at_limit : (config : Config) (text asked : List ℕ) (at moment : ℤ) (limit : ℕ) (before after : Knowledge)
    (result : Result Answer QueryFault) → asked ≡ text → at ≡ moment → limit ≡ config.limit
    → IsQueried config asked at limit before after result
    → IsQueried config text moment config.limit before after result
at_limit config text asked at moment limit before after result same_text same most queried =
    subst (λ l. IsQueried config text moment l before after result) most
    (subst (λ m. IsQueried config text m limit before after result) same
    (subst (λ t. IsQueried config t at limit before after result) same_text queried))

module _ (store : Setting) (config : Config) (before : Knowledge)
    (was : AreHeld store.held store.zones store.points before.seen) where
  -- ---- what is owned behind a query

  pub owns_behind : (after : Knowledge) → GoesOn store before after → OwnsAsMuch before after
  owns_behind after goes = record {
    grown = grown before.seen after.seen goes.fronts store.held store.zones store.points was goes.sound.held;
    fronts = goes.fronts;
    own = goes.own;
    met = goes.met;
    stock = goes.stock;
    lost = goes.lost;
  }

  -- and behind what was gathered then
  pub owns_then : (mid after : Knowledge) → AreHeld store.held store.zones store.points after.seen
      → GoesOn store before mid → OwnsTheSame mid after → OwnsAsMuch before after
  owns_then mid after is goes same =
      let fronts = fronts_through before.seen mid.seen after.seen goes.fronts same.fronts in
      record {
        grown = grown before.seen after.seen fronts store.held store.zones store.points was is;
        fronts = fronts;
        own = same.own ∙ goes.own;
        met = same.met ∙ goes.met;
        stock = same.stock ∙ goes.stock;
        lost = λ n. ap (sum_by (times_among n)) same.lost ∙ goes.lost n;
      }

  -- ---- a query that is refused

  pub refused_ran : (form : LineForm) (after : Knowledge) (fault : QueryFault)
      → ((told : QuestionFault) → Suits form (came.Refused (why.Question told))) → AsksFirst config form before after
      → GoesOn store before after
      → IsQueried config (text_of form) (moment_of form) config.limit before after (Err fault)
      → {F : Type 0} (result : Result LineRan F)
      → IfOk result (IsRefusedFor config.topology fault)
      → IfOk result (λ ran. (content : LineFiles)
      → LineWrote config (ran_line form content ran.trace []) ran.text before after)
  refused_ran form after fault suits first goes queried (Ok ran) refused = λ content.
      subst (λ (r : LineRan). LineWrote config (ran_line form content r.trace []) r.text before after)
      (sym refused.ran_is)
      (refused_wrote config form content before after (owns_behind after goes) (why.Question refused.told)
      (suits refused.told)
      (has_cause config form before after first fault queried refused.told refused.told_is))
  refused_ran form after fault suits first goes queried (Err failed) refused = tt

  -- ---- a query that is answered

  module _
      (stays : (typed : TypedTree) (moment : ℤ) (from to earlier later : Lengths) (seen more : Histories)
      (trace : Trace) → AreWider from to earlier later seen more → IsTraceBetween typed moment from to seen trace
      → IsTraceBetween typed moment earlier later more trace)
      (stays_rows : (typed : TypedTree) (moment : ℤ) (from to earlier later : Lengths) (seen more : Histories)
      (trace : Trace) → AreWider from to earlier later seen more → IsTraceBetween typed moment from to seen trace
      → source_of more trace ≡ source_of seen trace)
      (stays_found : (from to earlier later : Lengths) (seen more : Histories) (found : FoundDown)
      → AreWider from to earlier later seen more → IsFoundBetween from to seen found
      → IsFoundBetween earlier later more found)
      (stays_fresh : (typed : TypedTree) (moment : ℤ) (from to earlier later : Lengths) (seen more : Histories)
      (trace : Trace) → AreWider from to earlier later seen more → IsTraceBetween typed moment from to seen trace
      → IsFreshBetween from to seen trace → IsFreshBetween earlier later more trace)
      (stays_read : (typed : TypedTree) (moment : ℤ) (from to earlier later : Lengths) (seen more : Histories)
      (trace : Trace) (plan : Plan) (buckets_of : SeriesKey → List ℕ) (leaf : Leaf)
      → AreWider from to earlier later seen more → IsTraceBetween typed moment from to seen trace
      → IsReadRightly typed plan buckets_of seen trace leaf → IsReadRightly typed plan buckets_of more trace leaf)
      (moment : ℤ) (text : List ℕ) (mid after : Knowledge) (answer : Answer)
      (goes : GoesOn store before mid) (same : OwnsTheSame mid after)
      (ended : IsEnded config text moment config.limit before mid (Ok answer)) where
    abbrev pub IsHeld : Type 0
    IsHeld = AreHeld store.held store.zones store.points after.seen

    pub more : IsHeld → HaveGrown mid.seen after.seen
    more held = grown mid.seen after.seen same.fronts store.held store.zones store.points goes.sound.held held

    pub same_rows : IsHeld → source_of after.seen answer.trace ≡ source_of mid.seen answer.trace
    same_rows held =
        stays_rows (typed_of ended.setting) moment (lengths_of before.seen) (lengths_of mid.seen)
        (lengths_of before.seen) (lengths_of after.seen) mid.seen after.seen answer.trace
        (wider before.seen mid.seen after.seen goes.fronts same.fronts (more held)) ended.ends.rightly.of

    pub look : IsHeld → LookFound config after.seen (seen_of before.seen) (seen_of after.seen) text moment answer.trace
    look held =
        look_found config text moment before mid answer ended stays stays_rows stays_found stays_fresh stays_read after
        goes.fronts same.fronts (more held)

    wrote : (what : How) → IsHeld → (content : LineFiles) (ran : LineRan) → IsPrinted config what moment text mid answer.trace ran
        → LineWrote config (ran_line (question what moment text) content ran.trace []) ran.text before after
    wrote what held content ran printed =
        let trace : LineTrace = came.Asked moment answer.trace in
        let printed_then : ran.text ≡ line_text config after.seen (asked_line what moment text trace) =
        printed.prints
        ∙ ap (λ t. line_text config mid.seen (asked_line what moment text t)) printed.trace_is
        ∙ sym (prints_alike config mid.seen after.seen moment answer.trace (same_rows held) what text) in
        subst (λ t. LineWrote config (ran_line (question what moment text) content t []) ran.text before after)
        (sym printed.trace_is)
        (subst (λ w. LineWrote config (ran_line (question what moment text) content trace []) w before after)
        (sym printed_then)
        (asked_wrote config what moment text content before after (owns_then mid after held goes same) answer.trace
        (look held)))

    pub answered_ran : (what : How) {F : Type 0} (result : Result LineRan F)
        → IfOk result (IsPrinted config what moment text mid answer.trace) → IfOk result (λ ran. IsHeld)
        → IfOk result (λ ran. (content : LineFiles)
        → LineWrote config (ran_line (question what moment text) content ran.trace []) ran.text before after)
    answered_ran what (Ok ran) printed held = λ content. wrote what held content ran printed
    answered_ran what (Err failed) printed held = tt
