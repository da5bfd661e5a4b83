-- Why a question was refused, between what its caller had seen before it and has seen behind it.
use Rattle.std.proofs.Common.{◌≡◌, ◌∙◌, ◌<◌, ℕ, Bool, true, false, cond, List, [], ◌∷◌, length, map}
use Rattle.std.proofs.Common.{Some, Err, refl, sym, subst}
use Rattle.std.specs.Prelude.{Contains}
use Rattle.std.specs.List.{AllByRecursion, filter}
use Rattle.std.proofs.lemmas.Option.{same_Some}
use Rattle.know.specs.Knowledge.{Knowledge}
use Rattle.line_runs.specs.Questions.{told_fault}
use Rattle.mon_config.specs.declared.config.Config.{Config}
use Rattle.mon_store.specs.Queries.{IsQueried, IsSettingOf}
use Rattle.mon_store.specs.Stores.{setting_of}
use Rattle.mon_store.specs.declared.queries.QueryFault.{QueryFault}
use Rattle.mon_store.specs.declared.queries.QueryFault.TheVariants as fault
use Rattle.mon_topo.proofs.RangeHistoryLemmas.{all_filter}
use Rattle.mon_value.specs.Histories.{leaf_history, same_leaf, zone_numbered}
use Rattle.mon_value.specs.declared.histories.Histories.{Histories}
use Rattle.mon_value.specs.declared.positions.FoundDown.{FoundDown}
use Rattle.mon_value.specs.declared.positions.Leaf.{Leaf}
use Rattle.mon_value.specs.declared.positions.Range.{Range}
use Rattle.typed_trees.specs.Meaning.{load}
use Rattle.query_traces.specs.Answers.{IsStoppedRightly}
use Rattle.query_traces.specs.Rounds.{area_of, has_leaf, QuerySetting, typed_of}
use Rattle.query_traces.specs.Founds.{AreFoundThen, HasNoReplica, IsFoundThen}
use Rattle.query_traces.specs.Traces.{IsBetween, lengths_of, source_of}
use Rattle.query_traces.specs.declared.answers.Trace.{Trace}
use Rattle.run_traces.specs.LineCauses.{HasCause}
use Rattle.mon_script.specs.declared.forms.LineForm.{LineForm}
use Rattle.run_traces.specs.LineAsks.{moment_of, moments_of, text_of}
use Rattle.run_traces.specs.LineSwitches.{found_cuts}
use Rattle.run_traces.specs.LineTables.{refusal_cuts}
use Rattle.run_traces.specs.declared.traces.LineFault.{LineFault}
use Rattle.run_traces.specs.declared.traces.LineFault.TheVariants as why
use Rattle.run_traces.specs.declared.traces.QuestionFault.{QuestionFault}
use Rattle.run_traces.specs.declared.traces.QuestionFault.TheVariants as unanswered
use Rattle.query_traces.proofs.LeafLemmas.{same_leaves}

-- ---- cuts

module _ (before after : Histories) where
  abbrev pub LiesBetween : Leaf → ℕ → Type 0
  LiesBetween leaf = IsBetween (length (leaf_history before leaf)) (length (leaf_history after leaf))

  found_at : (leaf : Leaf) (found : FoundDown) (rest : List FoundDown) (b : Bool) → same_leaf leaf found.leaf ≡ b
      → IsFoundThen before after found → AllByRecursion (LiesBetween leaf) (map (λ (f : FoundDown). f.cut) rest)
      → AllByRecursion (LiesBetween leaf) (map (λ (f : FoundDown). f.cut) (cond b (found ∷ rest) rest))
  found_at leaf found rest true same is more =
      (subst (λ (l : Leaf). LiesBetween l found.cut) (sym (same_leaves leaf found.leaf same)) is.between, more)
  found_at leaf found rest false same is more = more

  -- of leaves that were found down
  pub founds_between : (leaf : Leaf) (founds : List FoundDown) → AreFoundThen before after founds
      → AllByRecursion (LiesBetween leaf) (found_cuts leaf founds)
  founds_between leaf [] are = tt
  founds_between leaf (found ∷ founds) are =
      found_at leaf found (filter (λ (f : FoundDown). same_leaf leaf f.leaf) founds) (same_leaf leaf found.leaf) refl
      are.0 (founds_between leaf founds are.1)

-- ---- what was found

-- what a filter keeps passes its test
kept_pass : {X : Type 0} (test : X → Bool) (xs : List X) → AllByRecursion (λ x. test x ≡ true) (filter test xs)
kept_pass test [] = tt
kept_pass test (x ∷ xs) = by (test x) refl (kept_pass test xs)
  where
    by : (b : Bool) → test x ≡ b → AllByRecursion (λ y. test y ≡ true) (filter test xs)
        → AllByRecursion (λ y. test y ≡ true) (cond b (x ∷ filter test xs) (filter test xs))
    by true is rest = (is, rest)
    by false is rest = rest

module _ (config : Config) (what : LineForm) (before after : Knowledge) where
  -- a refusal has its cause, and names cuts that lie between
  pub record HasItsCause (told : LineFault) : Type 0 where
    pub cause : HasCause config after.seen (lengths_of before.seen) (lengths_of after.seen) what told
    pub cuts : (leaf : Leaf) → leaf.0 < length after.seen.leaves
        → AllByRecursion (LiesBetween before.seen after.seen leaf) (refusal_cuts leaf what told)

  -- for which a question has no table
  abbrev pub IsRefusedBy : QuestionFault → Type 0
  IsRefusedBy told = HasItsCause (why.Question told)

  none_up : (setting : QuerySetting) (range : Range) (named : List FoundDown)
      → IsSettingOf config (text_of what) config.limit setting
      → HasNoReplica config.topology before.seen after.seen range named → IsRefusedBy (unanswered.NoReplica range named)
  none_up setting range named of_text none =
      let are : AreFoundThen before.seen after.seen named =
      subst (AreFoundThen before.seen after.seen) (sym none.named_are)
      (all_filter (IsFoundThen before.seen after.seen)
      (λ (found : FoundDown). has_leaf (area_of config.topology none.zone) found.leaf) none.founds none.were_found) in
      record {
        cause = record {
          typed = typed_of setting;
          type_is = of_text.typed;
          zone = zone_numbered none.zone;
          zoned = none.zoned;
          named = subst (AllByRecursion (λ (found : FoundDown). has_leaf (area_of config.topology none.zone) found.leaf
              ≡ true)) (sym none.named_are)
              (kept_pass (λ (found : FoundDown). has_leaf (area_of config.topology none.zone) found.leaf) none.founds);
          none_up = record {
            were_found = are;
            found = none.found;
            between = none.between;
            all_down = none.all_down;
          };
        };
        cuts = λ leaf there. founds_between before.seen after.seen leaf named are;
      }

  -- its table would be told at the moment that it asks at
  abbrev pub AsksFirst : Type 0
  AsksFirst = Contains (moments_of what) (moment_of what)

  over : AsksFirst → (setting : QuerySetting) (limit : ℕ) (trace : Trace) → IsSettingOf config (text_of what) config.limit setting
      → IsStoppedRightly (setting_of config) setting (moment_of what) before.seen after.seen limit trace
      → IsRefusedBy (unanswered.StepLimit limit trace)
  over first setting limit trace of_text stopped = record {
    cause = record {
      typed = typed_of setting;
      type_is = of_text.typed;
      of = stopped.of;
      since = stopped.since;
      down = stopped.down;
      limit_is = stopped.limit_is ∙ of_text.limit_is;
      at = moment_of what;
      among = first;
      above = subst (λ most. most < load (typed_of setting) (source_of after.seen trace) (moment_of what)) of_text.limit_is
          stopped.above;
    };
    cuts = λ leaf there. (
      record { from = stopped.since leaf there; to = stopped.of.within leaf there },
      founds_between before.seen after.seen leaf trace.down stopped.down,
    );
  }

  -- of each query that is refused
  pub has_cause : AsksFirst → (refused : QueryFault) → IsQueried config (text_of what) (moment_of what) config.limit before after
      (Err refused)
      → (told : QuestionFault) → told_fault refused ≡ Some told → IsRefusedBy told
  has_cause first (fault.Parse parse) queried told is =
      subst IsRefusedBy (same_Some (unanswered.Parse parse) told is) (record { cause = queried; cuts = λ leaf there. tt })
  has_cause first (fault.Typing typing) queried told is =
      subst IsRefusedBy (same_Some (unanswered.Typing typing) told is) (record { cause = queried; cuts = λ leaf there. tt })
  has_cause first (fault.NoReplica range named) queried told is =
      subst IsRefusedBy (same_Some (unanswered.NoReplica range named) told is) (none_up queried.setting range named queried.of_text queried.ends.rightly)
  has_cause first (fault.StepLimit limit trace) queried told is =
      subst IsRefusedBy (same_Some (unanswered.StepLimit limit trace) told is)
      (over first queried.setting limit trace queried.of_text queried.ends.rightly)
  has_cause first fault.OutOfMemory queried told is = absurd cc
