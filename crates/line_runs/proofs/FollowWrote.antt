-- How a line that follows a query ends, by how its query did and what was gathered then.
use Rattle.std.proofs.Common.{◌≡◌, ◌∙◌, ◌<◌, ◌≤◌, ℕ, ℤ, false, List, [], ◌∷◌, length, Ok, Err, refl, sym, ap, subst}
use Rattle.std.specs.Prelude.{IfOk, Result}
use Rattle.std.specs.List.{AllByRecursion, flat_map}
use Rattle.know.specs.Knowledge.{Knowledge}
use Rattle.line_runs.proofs.Causes.{LiesBetween, founds_between}
use Rattle.line_runs.proofs.Ended.{look, owns_then, same_rows}
use Rattle.line_runs.proofs.Growing.{forth, marks, seen_of}
use Rattle.line_runs.proofs.Wrote.{OwnsAsMuch, between, keeps, nothing_more, refused_wrote}
use Rattle.line_runs.specs.Following.{AreTables, IsAboveOnce, IsFollowRan, IsFollowedBy, follow_ran, refused_as, table_then}
use Rattle.line_runs.specs.LineWrites.{LineWrote, ran_line}
use Rattle.line_runs.specs.declared.followed_tables.NotFollowed.{NotFollowed}
use Rattle.line_runs.specs.declared.followed_tables.NotFollowed.TheVariants as unfollowed
use Rattle.line_runs.specs.declared.lines.LineRan.{LineRan}
use Rattle.mon_config.specs.declared.config.Config.{Config}
use Rattle.mon_meaning.specs.Incremental.{is_incremental}
use Rattle.mon_script.specs.Follows.{all_moments}
use Rattle.mon_script.specs.declared.follows.Moments.{Moments}
use Rattle.mon_script.specs.declared.forms.LineForm.{LineForm}
use Rattle.mon_script.specs.declared.forms.LineForm.TheVariants as form
use Rattle.mon_store.specs.Passes.{OwnsTheSame}
use Rattle.mon_store.specs.Queries.{IsEnded}
use Rattle.mon_topo.specs.HeldHistories.{AreHeld}
use Rattle.mon_topo.specs.Settings.{Setting}
use Rattle.mon_value.specs.Histories.{leaf_history}
use Rattle.mon_value.specs.declared.histories.Histories.{Histories}
use Rattle.mon_value.specs.declared.positions.FoundDown.{FoundDown}
use Rattle.mon_value.specs.declared.positions.Leaf.{Leaf}
use Rattle.mon_value.specs.declared.rows.Row.{Row}
use Rattle.mon_value.specs.declared.rows.SeriesKey.{SeriesKey}
use Rattle.owners.specs.Puts.{pass_of}
use Rattle.query_texts.specs.TextTypes.{text_type}
use Rattle.query_traces.specs.Founds.{IsFoundBetween}
use Rattle.query_traces.specs.Traces.{AreWider, IsFreshBetween, IsReadRightly, IsTraceBetween, Lengths, cut_of, lengths_of}
use Rattle.query_traces.specs.Traces.{source_of}
use Rattle.query_traces.specs.declared.answers.Answer.{Answer}
use Rattle.query_traces.specs.declared.answers.Trace.{Trace}
use Rattle.run_traces.specs.LineCauses.{IsNotKept, IsOverLimit}
use Rattle.run_traces.specs.LineClaims.{Finds, LookFound, marked}
use Rattle.run_traces.specs.LineSwitches.{found_cuts}
use Rattle.run_traces.specs.LineTexts.{followed_text, line_text}
use Rattle.run_traces.specs.declared.line_files.LineFiles.{LineFiles}
use Rattle.run_traces.specs.declared.traces.LineFault.TheVariants as why
use Rattle.run_traces.specs.declared.traces.LineTrace.TheVariants as came
use Rattle.run_traces.specs.declared.traces.QuestionFault.TheVariants as unanswered
use Rattle.running_query.specs.Looks.{GoesOn}
use Rattle.typed_trees.specs.Meaning.{load}
use Rattle.typed_trees.specs.Nodes.{TypedTree}
use Rattle.typed_trees.specs.declared.plans.Plan.{Plan}

one_type : {T F : Type 0} (result : Result T F) (x y : T) → result ≡ Ok x → result ≡ Ok y → x ≡ y
one_type result x y here there = cc

-- over what was looked at, behind what was gathered
module _ (config : Config) (moments : Moments) (text : List ℕ) (content : LineFiles) (before mid after : Knowledge)
    (owns : OwnsAsMuch before after) (trace : Trace)
    (look : LookFound config after.seen (seen_of before.seen) (seen_of after.seen) text moments.first trace)
    (same : source_of after.seen trace ≡ source_of mid.seen trace) where
  abbrev what : LineForm
  what = form.Follow moments text

  abbrev rows : List Row
  rows = source_of after.seen trace

  abbrev limit : ℕ
  limit = config.limit

  -- the trace as it is told in a cause
  traced : IsTraceBetween look.typed moments.first (lengths_of before.seen) (lengths_of after.seen) after.seen trace
  traced =
      subst (λ (low : Lengths). IsTraceBetween look.typed moments.first low (lengths_of after.seen) after.seen trace)
      (marks before.seen)
      (subst (λ (high : Lengths). IsTraceBetween look.typed moments.first (marked (seen_of before.seen)) high after.seen
      trace) (marks after.seen) look.of)

  downs : AllByRecursion (IsFoundBetween (lengths_of before.seen) (lengths_of after.seen) after.seen) trace.down
  downs =
      subst (λ (low : Lengths). AllByRecursion (IsFoundBetween low (lengths_of after.seen) after.seen) trace.down)
      (marks before.seen)
      (subst (λ (high : Lengths). AllByRecursion (IsFoundBetween (marked (seen_of before.seen)) high after.seen)
      trace.down) (marks after.seen) look.down)

  since : (leaf : Leaf) → leaf.0 < length after.seen.leaves → length (leaf_history before.seen leaf) ≤ cut_of trace leaf
  since = subst (λ (low : Lengths). (leaf : Leaf) → leaf.0 < length after.seen.leaves → low.leaves leaf ≤ cut_of trace leaf)
      (marks before.seen) look.fresh.cuts

  cuts : (leaf : Leaf) → leaf.0 < length after.seen.leaves
      → AllByRecursion (LiesBetween before.seen after.seen leaf) (cut_of trace leaf ∷ found_cuts leaf trace.down)
  cuts leaf there = (
    record { from = since leaf there; to = traced.within leaf there },
    founds_between before.seen after.seen leaf trace.down downs,
  )

  module _ (typed : TypedTree) (type_is : text_type config.schemas text ≡ Ok typed) where
    its : typed ≡ look.typed
    its = one_type (text_type config.schemas text) typed look.typed type_is look.type_is

    -- ---- it was followed

    followed_finds : (told : List ℕ) → AreTables typed (source_of mid.seen trace) (all_moments moments) limit told
        → Finds config after.seen (seen_of before.seen) (seen_of after.seen) (pass_of before)
        (ran_line what content (came.Followed moments.first trace) [])
    followed_finds told are = record {
      forth = forth before.seen after.seen owns.fronts;
      suits = refl;
      told = tt;
      cuts = λ leaf there. between config what content before after owns leaf
          (cut_of trace leaf ∷ found_cuts leaf trace.down) (cuts leaf there);
      found = record {
        look = look;
        kept = sym (ap (λ (t : TypedTree). is_incremental t.tree) its) ∙ are.form;
        each = subst (λ (t : TypedTree). AllByRecursion (λ at. load t rows at ≤ limit) (all_moments moments)) its
            (subst (λ (some : List Row). AllByRecursion (λ at. load typed some at ≤ limit) (all_moments moments))
            (sym same) are.within);
      };
    }

    prints : (told : List ℕ) → AreTables typed (source_of mid.seen trace) (all_moments moments) limit told
        → told ≡ line_text config after.seen (ran_line what content (came.Followed moments.first trace) [])
    prints told are =
        are.text_is ∙ ap (λ (some : List Row). flat_map (table_then typed some) (all_moments moments)) (sym same)
        ∙ sym (ap (followed_text config after.seen (all_moments moments) trace) type_is)

    told_wrote : (told : List ℕ) → AreTables typed (source_of mid.seen trace) (all_moments moments) limit told
        → LineWrote config (ran_line what content (came.Followed moments.first trace) []) told before after
    told_wrote told are = record {
      keeps = keeps config what content before after owns;
      made = λ history. [];
      makes = λ history. refl;
      own = nothing_more config what content before after owns;
      found = followed_finds told are;
      prints = prints told are;
    }

    -- ---- it was not

    form_cause : is_incremental typed.tree ≡ false
        → IsNotKept config after.seen (lengths_of before.seen) (lengths_of after.seen) text moments.first
    form_cause none = record {
      typed = look.typed;
      type_is = look.type_is;
      trace = trace;
      of = traced;
      within = look.within;
      form = sym (ap (λ (t : TypedTree). is_incremental t.tree) its) ∙ none;
    }

    load_cause : IsAboveOnce typed (source_of mid.seen trace) (all_moments moments) limit
        → IsOverLimit config after.seen (lengths_of before.seen) (lengths_of after.seen) text moments.first
        (all_moments moments) limit trace
    load_cause above = record {
      typed = look.typed;
      type_is = look.type_is;
      of = traced;
      since = since;
      down = downs;
      limit_is = refl;
      at = above.at;
      among = above.among;
      above = subst (λ (t : TypedTree). limit < load t rows above.at) its
          (subst (λ (some : List Row). limit < load typed some above.at) (sym same) above.above);
    }

    form_wrote : is_incremental typed.tree ≡ false
        → LineWrote config (ran_line what content (came.Refused why.NotIncremental) [])
        (line_text config after.seen (ran_line what content (came.Refused why.NotIncremental) [])) before after
    form_wrote none = refused_wrote config what content before after owns why.NotIncremental tt
        (record { cause = form_cause none; cuts = λ leaf there. tt })

    load_wrote : IsAboveOnce typed (source_of mid.seen trace) (all_moments moments) limit
        → LineWrote config (ran_line what content (came.Refused (why.Question (unanswered.StepLimit limit trace))) [])
        (line_text config after.seen (ran_line what content (came.Refused (why.Question (unanswered.StepLimit limit
        trace))) [])) before after
    load_wrote above = refused_wrote config what content before after owns
        (why.Question (unanswered.StepLimit limit trace)) tt
        (record { cause = load_cause above; cuts = cuts })

  abbrev IsWritten : LineRan → Type 0
  IsWritten ran = LineWrote config (ran_line what content ran.trace []) ran.text before after

  written_by : (result : Result (List ℕ) NotFollowed) → IsFollowedBy config text (source_of mid.seen trace)
      (all_moments moments) (refused_as result) → IsWritten (follow_ran config moments.first trace result)
  written_by (Ok told) is = told_wrote is.typed is.type_is told is.followed
  written_by (Err unfollowed.Form) is = form_wrote is.typed is.type_is is.followed
  written_by (Err unfollowed.Load) is = load_wrote is.typed is.type_is is.followed

  pub follow_wrote : (ran : LineRan) → IsFollowRan config moments text mid trace ran → IsWritten ran
  follow_wrote ran is = subst IsWritten (sym is.ran_is) (written_by is.result is.followed)

-- ---- behind its query

module _ (store : Setting) (config : Config) (before : Knowledge)
    (was : AreHeld store.held store.zones store.points before.seen)
    (stays : (typed : TypedTree) (moment : ℤ) (from to earlier later : Lengths) (seen more : Histories)
    (trace : Trace) → AreWider from to earlier later seen more → IsTraceBetween typed moment from to seen trace
    → IsTraceBetween typed moment earlier later more trace)
    (stays_rows : (typed : TypedTree) (moment : ℤ) (from to earlier later : Lengths) (seen more : Histories)
    (trace : Trace) → AreWider from to earlier later seen more → IsTraceBetween typed moment from to seen trace
    → source_of more trace ≡ source_of seen trace)
    (stays_found : (from to earlier later : Lengths) (seen more : Histories) (found : FoundDown)
    → AreWider from to earlier later seen more → IsFoundBetween from to seen found
    → IsFoundBetween earlier later more found)
    (stays_fresh : (typed : TypedTree) (moment : ℤ) (from to earlier later : Lengths) (seen more : Histories)
    (trace : Trace) → AreWider from to earlier later seen more → IsTraceBetween typed moment from to seen trace
    → IsFreshBetween from to seen trace → IsFreshBetween earlier later more trace)
    (stays_read : (typed : TypedTree) (moment : ℤ) (from to earlier later : Lengths) (seen more : Histories)
    (trace : Trace) (plan : Plan) (buckets_of : SeriesKey → List ℕ) (leaf : Leaf)
    → AreWider from to earlier later seen more → IsTraceBetween typed moment from to seen trace
    → IsReadRightly typed plan buckets_of seen trace leaf → IsReadRightly typed plan buckets_of more trace leaf)
    (moments : Moments) (text : List ℕ) (mid after : Knowledge) (answer : Answer) (goes : GoesOn store before mid)
    (same : OwnsTheSame mid after) (ended : IsEnded config text moments.first config.limit before mid (Ok answer)) where
  pub followed_ran : {F : Type 0} (result : Result LineRan F)
      → IfOk result (IsFollowRan config moments text mid answer.trace)
      → IfOk result (λ ran. AreHeld store.held store.zones store.points after.seen)
      → IfOk result (λ ran. (content : LineFiles)
      → LineWrote config (ran_line (form.Follow moments text) content ran.trace []) ran.text before after)
  followed_ran (Ok ran) is held = λ content.
      follow_wrote config moments text content before mid after (owns_then store config before was mid after held goes same)
      answer.trace
      (look store config before was stays stays_rows stays_found stays_fresh stays_read moments.first text mid after
      answer goes same ended held)
      (same_rows store config before was stays stays_rows stays_found stays_fresh stays_read moments.first text mid
      after answer goes same ended held) ran is
  followed_ran (Err failed) is held = tt
