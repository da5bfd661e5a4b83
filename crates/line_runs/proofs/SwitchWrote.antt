-- What a line owes that took a leaf down or up, and one that found it so already.
use Rattle.std.proofs.Common.{◌≡◌, ◌∙◌, ◌+◌, ◌≤◌, ◌∷◌, ℕ, nat_eq, not, Bool, true, false, cond}
use Rattle.std.proofs.Common.{List, [], length, take, slice_get, Some, None, Ok, Err, refl, sym, ap, subst, arith}
use Rattle.std.specs.Prelude.{IfErr, IfOk, OnErr, Result, sum_by}
use Rattle.std.specs.List.{AllByRecursion, count_by}
use Rattle.std.proofs.lemmas.Bool.{and_from}
use Rattle.std.proofs.lemmas.List.{length-append}
use Rattle.history_book.specs.Histories.{AreFronts, same_history}
use Rattle.history_book.specs.Numbers.{times_among}
use Rattle.history_book.specs.declared.views.BookEntry.{BookEntry}
use Rattle.history_book.specs.declared.views.BookEntry.TheVariants as one
use Rattle.history_book.specs.declared.views.History.{History}
use Rattle.history_book.specs.declared.views.History.TheVariants as of
use Rattle.know.specs.Knowledge.{Knowledge}
use Rattle.leaf_cell.specs.Controls as cell
use Rattle.leaf_cell.specs.Controls.{spent_fault, switch_fault}
use Rattle.leaf_cell.specs.declared.controls.ControlFault.{ControlFault}
use Rattle.leaf_cell.specs.declared.controls.ControlFault.TheVariants as unswitched
use Rattle.line_runs.specs.Controls.{control_told, switch_ran, way}
use Rattle.line_runs.specs.LineWrites.{KeepsItsPlace, LineWrote, ran_line}
use Rattle.line_runs.specs.declared.lines.LineRan.{LineRan}
use Rattle.mon_config.specs.declared.config.Config.{Config}
use Rattle.mon_script.specs.declared.forms.LineForm.{LineForm}
use Rattle.mon_script.specs.declared.forms.LineForm.TheVariants as form
use Rattle.mon_store.specs.Switches.{IsNotSwitched, IsSwitched}
use Rattle.mon_store.specs.Writes.{IsUnwritten, only_in}
use Rattle.mon_topo.proofs.FrontLemmas.{begins_length}
use Rattle.mon_value.specs.Histories.{leaf_history, same_leaf}
use Rattle.mon_value.specs.LeafHistories.{is_down, is_switch}
use Rattle.mon_value.specs.declared.histories.Entry.{Entry}
use Rattle.mon_value.specs.declared.limits.TheConstants.{MOST_SWITCHES}
use Rattle.mon_value.specs.declared.positions.Leaf.{Leaf}
use Rattle.owners.specs.Puts.{pass_of}
use Rattle.query_traces.specs.Traces.{IsBetween, lengths_of}
use Rattle.run_traces.specs.LineCauses.{HasSwitchedEnough, WasAlready}
use Rattle.run_traces.specs.LineAsks.{leaf_of, Switch, switch_of}
use Rattle.run_traces.specs.LineForms.{Suits}
use Rattle.run_traces.specs.LineSwitches.{IsAsked, StandsBetween, SwitchMade, cut_at, goes, switch_entry, switch_text, switches}
use Rattle.run_traces.specs.LineTexts.{line_text}
use Rattle.run_traces.specs.declared.traces.ControlDone.TheVariants as did
use Rattle.run_traces.specs.declared.traces.LineTrace.TheVariants as came
use Rattle.run_traces.specs.declared.line_files.LineFiles.{LineFiles}
use Rattle.run_traces.proofs.RunFacts.{book_length}
use Rattle.line_runs.proofs.Causes.{HasItsCause, LiesBetween}
use Rattle.line_runs.proofs.FeedWrote.{Holds}
use Rattle.line_runs.proofs.Growing.{forth, grown, seen_of}
use Rattle.line_runs.proofs.Wrote.{OwnsAsMuch, refused_wrote}
use Rattle.query_traces.proofs.LeafLemmas.{same_leaves}
use Rattle.mon_value.proofs.PlainLemmas.{get_next}
use Rattle.mon_value.proofs.PlainLemmas.{equal_means}

-- ---- forms

-- a line that asks for a switch comes to one, or is refused
switch_suits : (what : LineForm) (switch : Switch) → switch_of what ≡ Some switch → (cut : ℕ)
    → Suits what (came.Controlled (did.Switched cut))
switch_suits (form.Feed name) switch is cut = absurd cc
switch_suits (form.Pour first second) switch is cut = absurd cc
switch_suits (form.Ask asked) switch is cut = absurd cc
switch_suits (form.Follow moments text) switch is cut = absurd cc
switch_suits (form.Control control) switch is cut = subst IsAsked (sym is) tt
switch_suits (form.Standing line) switch is cut = absurd cc
switch_suits (form.Block mark) switch is cut = absurd cc

refusal_suits : (what : LineForm) (switch : Switch) → switch_of what ≡ Some switch → (fault : ControlFault)
    → Suits what (came.Refused (control_told fault))
refusal_suits (form.Feed name) switch is fault = absurd cc
refusal_suits (form.Pour first second) switch is fault = absurd cc
refusal_suits (form.Ask asked) switch is fault = absurd cc
refusal_suits (form.Follow moments text) switch is fault = absurd cc
refusal_suits (form.Control control) switch is fault = subst IsAsked (sym is) tt
refusal_suits (form.Standing line) switch is fault = absurd cc
refusal_suits (form.Block mark) switch is fault = absurd cc

-- ---- lists

-- ---- entries

same_entry : (down : Bool) (pass : ℕ) → cell.switch_entry (way down) pass ≡ switch_entry down pass
same_entry true pass = refl
same_entry false pass = refl

goes_so : (down : Bool) (pass : ℕ) → goes down (one.Leaf (cell.switch_entry (way down) pass)) ≡ true
goes_so true pass = refl
goes_so false pass = refl

-- what is in one history alone passes a test that it passes there, and is one entry at most
pub only_passes : (test : BookEntry → Bool) (e : BookEntry) (b : Bool) → (b ≡ true → test e ≡ true)
    → AllByRecursion (λ x. test x ≡ true) (cond b (e ∷ []) [])
only_passes test e true passes = (passes refl, tt)
only_passes test e false passes = tt

pub only_few : (e : BookEntry) (b : Bool) → length (cond b (e ∷ []) []) ≤ 1
only_few e true = omega arith
only_few e false = omega arith

-- ---- a leaf that was switched

module _ (config : Config) (what : LineForm) (switch : Switch) (asked : switch_of what ≡ Some switch)
    (on : leaf_of what ≡ Some switch.leaf) (content : LineFiles) (before after : Knowledge)
    (was : Holds config before) (is : Holds config after) where
  abbrev leaf : Leaf
  leaf = switch.leaf

  abbrev from : History → ℕ
  from = seen_of before.seen

  abbrev to : History → ℕ
  to = seen_of after.seen

  module _ (cut : ℕ) (switched : IsSwitched leaf (way switch.down) before after cut) where
    abbrev entry : Entry
    entry = cell.switch_entry (way switch.down) (pass_of before)

    abbrev made : History → List BookEntry
    made = only_in (of.Leaf leaf) (one.Leaf entry)

    makes : SwitchMade config what made
    makes = record {
      own = λ history. only_passes (switches (switch_of what) history) (one.Leaf entry)
          (same_history (of.Leaf leaf) history)
          (λ same. subst (λ o. switches o history (one.Leaf entry) ≡ true) (sym asked)
          (and_from (same_history (of.Leaf leaf) history) (goes switch.down (one.Leaf entry)) same
          (goes_so switch.down (pass_of before))));
      few = λ history. only_few (one.Leaf entry) (same_history (of.Leaf leaf) history);
    }

    long : length (leaf_history after.seen leaf) ≡ cut
    long = ap length switched.switched ∙ length-append switched.history (entry ∷ []) ∙ switched.counted

    low : from (of.Leaf leaf) ≤ length switched.history
    low = let a = begins_length switched.history (leaf_history before.seen leaf) switched.found.from in
        let b = book_length before.seen leaf in omega arith

    high : length switched.history + 1 ≤ to (of.Leaf leaf)
    high = let a = long in let b = switched.counted in let e = book_length after.seen leaf in omega arith

    abbrev stands : StandsBetween (from (of.Leaf leaf)) (to (of.Leaf leaf)) (leaf_history after.seen leaf)
        (switch_entry switch.down (pass_of before))
    stands = record {
      place = length switched.history;
      since = low;
      until = let a = high in omega arith;
      there = ap (λ w. slice_get w (length switched.history)) switched.switched
          ∙ get_next switched.history entry ∙ ap Some (same_entry switch.down (pass_of before));
    }

    cut_by : (other : Leaf) (b : Bool) → same_leaf other leaf ≡ b
        → AllByRecursion (IsBetween (from (of.Leaf other)) (to (of.Leaf other))) (cond b (cut ∷ []) [])
    cut_by other true same =
        let there : IsBetween (from (of.Leaf leaf)) (to (of.Leaf leaf)) cut =
        record {
          from = let a = low in let b = switched.counted in omega arith;
          to = let a = high in let b = switched.counted in omega arith;
        } in (
          subst (λ (l : Leaf). IsBetween (from (of.Leaf l)) (to (of.Leaf l)) cut) (sym (same_leaves other leaf same))
              there,
          tt,
        )
    cut_by other false same = tt

    cuts : (other : Leaf) → AllByRecursion (IsBetween (from (of.Leaf other)) (to (of.Leaf other)))
        (cut_at other (leaf_of what) cut)
    cuts other = subst (λ o. AllByRecursion (IsBetween (from (of.Leaf other)) (to (of.Leaf other))) (cut_at other o cut))
        (sym on) (cut_by other (same_leaf other leaf) refl)

    switched_keeps : KeepsItsPlace before after
    switched_keeps = record {
      grown = grown before.seen after.seen switched.still.fronts config.schemas config.topology config.range_points was
          is;
      number = switched.still.number;
      met = switched.still.met;
      stock = switched.still.stock;
      lost = λ n. ap (sum_by (times_among n)) switched.still.lost;
    }

    pub switched_wrote : LineWrote config (ran_line what content (came.Controlled (did.Switched cut)) [])
        (switch_text config.topology (Some switch)) before after
    switched_wrote = record {
      keeps = switched_keeps;
      made = made;
      makes = makes;
      own = switched.own;
      found = record {
        forth = forth before.seen after.seen switched.still.fronts;
        suits = switch_suits what switch asked cut;
        told = tt;
        cuts = λ other there. cuts other;
        found = record { switch = switch; asked = asked; stands = stands; last = switched.counted };
      };
      prints = ap (switch_text config.topology) (sym asked);
    }

  -- ---- a leaf that was not

  module _ (unwritten : IsUnwritten before after) where
    owns : OwnsAsMuch before after
    owns = record {
      grown = grown before.seen after.seen unwritten.still.fronts config.schemas config.topology config.range_points was
          is;
      fronts = unwritten.still.fronts;
      own = unwritten.own;
      met = unwritten.still.met;
      stock = unwritten.still.stock;
      lost = λ n. ap (sum_by (times_among n)) unwritten.still.lost;
    }

    module _ (fault : ControlFault) (refused : IsNotSwitched leaf (way switch.down) before after fault) where
      abbrev history : List Entry
      history = refused.history

      lies : LiesBetween before.seen after.seen leaf (length history)
      lies = record {
        from = begins_length history (leaf_history before.seen leaf) refused.found.from;
        to = begins_length (leaf_history after.seen leaf) history refused.found.to;
      }

      then_is : take (length history) (leaf_history after.seen leaf) ≡ history
      then_is = refused.found.to

      lies_by : (other : Leaf) (b : Bool) → same_leaf other leaf ≡ b
          → AllByRecursion (LiesBetween before.seen after.seen other) (cond b (length history ∷ []) [])
      lies_by other true same = (
        subst (λ (l : Leaf). LiesBetween before.seen after.seen l (length history))
            (sym (same_leaves other leaf same)) lies,
        tt,
      )
      lies_by other false same = tt

      at_length : (other : Leaf) → AllByRecursion (LiesBetween before.seen after.seen other)
          (cut_at other (leaf_of what) (length history))
      at_length other =
          subst (λ o. AllByRecursion (LiesBetween before.seen after.seen other) (cut_at other o (length history)))
          (sym on) (lies_by other (same_leaf other leaf) refl)

      already : (down : Bool) → switch.down ≡ down → is_down history ≡ down
          → WasAlready config after.seen (lengths_of before.seen) (lengths_of after.seen) what down (length history)
      already down way_is so = record {
        switch = switch;
        asked = asked;
        way = way_is;
        between = lies;
        already = ap is_down then_is ∙ so;
      }

      enough : (count : ℕ) → is_down history ≡ not switch.down → count ≡ MOST_SWITCHES
          → count_by is_switch history ≡ count
          → HasSwitchedEnough config after.seen (lengths_of before.seen) (lengths_of after.seen) what count
      enough count other most spent = record {
        switch = switch;
        asked = asked;
        found = length history;
        between = lies;
        other = ap is_down then_is ∙ other;
        most = most;
        spent = ap (count_by is_switch) then_is ∙ spent;
      }

      abbrev pub Caused : Type 0
      Caused = HasItsCause config what before after (control_told fault)

      -- as many switches as may be
      spent_cause : (b : Bool) → nat_eq (count_by is_switch history) MOST_SWITCHES ≡ b
          → is_down history ≡ not switch.down
          → cond b (Some (unswitched.SwitchesSpent MOST_SWITCHES)) None ≡ Some fault → Caused
      spent_cause true same other told =
          let is_this : unswitched.SwitchesSpent MOST_SWITCHES ≡ fault = cc in
          let number = equal_means (count_by is_switch history) MOST_SWITCHES same in
          subst (λ (f : ControlFault). HasItsCause config what before after (control_told f)) is_this (record {
            cause = enough MOST_SWITCHES other refl number;
            cuts = λ other there. tt;
          })
      spent_cause false same other told = absurd cc

      down_cause : (b : Bool) → switch.down ≡ true → is_down history ≡ b
          → cond b (Some (unswitched.AlreadyDown (length history))) (spent_fault history) ≡ Some fault → Caused
      down_cause true way_is so told =
          let is_this : unswitched.AlreadyDown (length history) ≡ fault = cc in
          subst (λ (f : ControlFault). HasItsCause config what before after (control_told f)) is_this (record {
            cause = already true way_is so;
            cuts = λ other there. at_length other;
          })
      down_cause false way_is so told =
          spent_cause (nat_eq (count_by is_switch history) MOST_SWITCHES) refl (so ∙ ap not (sym way_is)) told

      up_cause : (b : Bool) → switch.down ≡ false → is_down history ≡ b
          → cond (not b) (Some (unswitched.AlreadyUp (length history))) (spent_fault history) ≡ Some fault → Caused
      up_cause false way_is so told =
          let is_this : unswitched.AlreadyUp (length history) ≡ fault = cc in
          subst (λ (f : ControlFault). HasItsCause config what before after (control_told f)) is_this (record {
            cause = already false way_is so;
            cuts = λ other there. at_length other;
          })
      up_cause true way_is so told =
          spent_cause (nat_eq (count_by is_switch history) MOST_SWITCHES) refl (so ∙ ap not (sym way_is)) told

      cause_by : (down : Bool) → switch.down ≡ down → switch_fault (way down) history ≡ Some fault → Caused
      cause_by true way_is told = down_cause (is_down history) way_is refl told
      cause_by false way_is told = up_cause (is_down history) way_is refl told

      pub unswitched_wrote : LineWrote config (ran_line what content (came.Refused (control_told fault)) [])
          (line_text config after.seen (ran_line what content (came.Refused (control_told fault)) [])) before after
      unswitched_wrote = refused_wrote config what content before after owns (control_told fault)
          (refusal_suits what switch asked fault)
          (cause_by switch.down refl refused.fault_is)

  -- ---- however it ended

  pub wrote_by : (result : Result ℕ ControlFault) → IfOk result (IsSwitched leaf (way switch.down) before after)
      → IfErr result (IsNotSwitched leaf (way switch.down) before after) → OnErr result (IsUnwritten before after)
      → LineWrote config (ran_line what content (switch_ran config.topology switch result).trace [])
      (switch_ran config.topology switch result).text before after
  wrote_by (Ok cut) done refused unwritten = switched_wrote cut done
  wrote_by (Err fault) done refused unwritten = unswitched_wrote unwritten fault refused

-- whatever stands in the line's content
pub switch_wrote : {F : Type 0} (config : Config) (what : LineForm) (switch : Switch) → switch_of what ≡ Some switch
    → leaf_of what ≡ Some switch.leaf → (before after : Knowledge) → Holds config before → Holds config after
    → (result : Result ℕ ControlFault) → IfOk result (IsSwitched switch.leaf (way switch.down) before after)
    → IfErr result (IsNotSwitched switch.leaf (way switch.down) before after)
    → OnErr result (IsUnwritten before after)
    → (ran : Result LineRan F) → IfOk ran (λ line. line ≡ switch_ran config.topology switch result)
    → IfOk ran (λ line. (content : LineFiles)
    → LineWrote config (ran_line what content line.trace []) line.text before after)
switch_wrote config what switch asked on before after was is result done refused unwritten (Ok line) told = λ content.
    subst (λ (l : LineRan). LineWrote config (ran_line what content l.trace []) l.text before after) (sym told)
    (wrote_by config what switch asked on content before after was is result done refused unwritten)
switch_wrote config what switch asked on before after was is result done refused unwritten (Err failed) told = tt

-- what had been seen is seen
pub switch_fronts : (leaf : Leaf) (down : Bool) (before after : Knowledge) (result : Result ℕ ControlFault)
    → IfOk result (IsSwitched leaf (way down) before after) → OnErr result (IsUnwritten before after)
    → AreFronts before.seen after.seen
switch_fronts leaf down before after (Ok cut) done unwritten = done.still.fronts
switch_fronts leaf down before after (Err fault) done unwritten = unwritten.still.fronts
