-- What a line owes that opened a range's replica on a leaf, and one that opened none.
use Rattle.std.proofs.Common.{◌≡◌, ◌∙◌, ◌+◌, ◌&&◌, ◌++◌, ◌∷◌, ℕ, nat_eq, Bool, true, false, cond}
use Rattle.std.proofs.Common.{List, [], length, slice_get, Some, None, Ok, Err, refl, sym, ap}
use Rattle.std.proofs.Common.{subst}
use Rattle.std.specs.Prelude.{Contains, IfErr, IfOk, OnErr, Result, sum_by}
use Rattle.std.specs.List.{AllByRecursion}
use Rattle.std.proofs.lemmas.Bool.{false≢true, and_from, eq-eqb}
use Rattle.std.proofs.lemmas.Option.{same_Some}
use Rattle.history_book.specs.Histories.{AreFronts, same_history}
use Rattle.history_book.specs.Numbers.{times_among}
use Rattle.history_book.specs.declared.views.BookEntry.{BookEntry}
use Rattle.history_book.specs.declared.views.BookEntry.TheVariants as one
use Rattle.history_book.specs.declared.views.History.{History}
use Rattle.history_book.specs.declared.views.History.TheVariants as of
use Rattle.know.specs.Knowledge.{Knowledge}
use Rattle.line_runs.specs.Controls.{IsRecoveryRan, recover_told, recovery_told}
use Rattle.line_runs.specs.LineWrites.{KeepsItsPlace, LineWrote, ran_line}
use Rattle.line_runs.specs.declared.lines.LineRan.{LineRan}
use Rattle.mon_config.specs.declared.config.Config.{Config}
use Rattle.mon_script.specs.declared.forms.LineForm.{LineForm}
use Rattle.mon_script.specs.declared.forms.LineForm.TheVariants as form
use Rattle.mon_store.specs.Recoveries.{IsMoved, IsNotRecovered, IsNotRecoveredAs, IsRecovered, IsUnrecovered}
use Rattle.mon_store.specs.Recoveries.{WereFoundDown, opened}
use Rattle.mon_store.specs.Writes.{only_in}
use Rattle.mon_topo.specs.RangeHistories.{left_rows, serving}
use Rattle.mon_value.specs.Histories.{leaf_history, range_history, same_leaf, same_range, same_slot}
use Rattle.mon_value.specs.LeafHistories.{same_replica}
use Rattle.mon_value.specs.declared.histories.Entry.TheVariants as entry
use Rattle.mon_value.specs.declared.histories.RangeEntry.{RangeEntry}
use Rattle.mon_value.specs.declared.histories.RangeEntry.TheVariants as range_entry
use Rattle.mon_value.specs.declared.positions.FoundDown.{FoundDown}
use Rattle.mon_value.specs.declared.positions.Leaf.{Leaf}
use Rattle.mon_value.specs.declared.positions.Range.{Range}
use Rattle.mon_value.specs.declared.positions.Slot.{Slot}
use Rattle.mon_value.specs.declared.rows.Row.{Row}
use Rattle.owners.specs.Puts.{pass_of}
use Rattle.query_traces.specs.Traces.{lengths_of}
use Rattle.range_cell.specs.declared.answers.RecoverFault.{RecoverFault}
use Rattle.range_cell.specs.declared.answers.RecoverFault.TheVariants as unopened
use Rattle.run_traces.specs.LineCauses.{HasNoSource, IsDenied}
use Rattle.run_traces.specs.LineAsks.{leaf_of, Recovery, recovery_of}
use Rattle.run_traces.specs.LineForms.{Suits}
use Rattle.run_traces.specs.LineSwitches.{IsAsked, RecoveryMade, StandsBetween, cut_at, opens, recovers, recovery_text}
use Rattle.run_traces.specs.LineTexts.{line_text}
use Rattle.run_traces.specs.declared.traces.ControlDone.TheVariants as did
use Rattle.run_traces.specs.declared.traces.RecoveryFault.{RecoveryFault}
use Rattle.run_traces.specs.declared.traces.RecoveryFault.TheVariants as closed
use Rattle.run_traces.specs.declared.traces.LineTrace.TheVariants as came
use Rattle.run_traces.specs.declared.line_files.LineFiles.{LineFiles}
use Rattle.run_traces.proofs.ListFacts.{both_all}
use Rattle.running_query.specs.Ends.{WasFoundDown}
use Rattle.write_core.specs.Recovering.{denial_of}
use Rattle.write_core.specs.declared.copies.Denial.{Denial}
use Rattle.write_core.specs.declared.copies.Denial.TheVariants as denial
use Rattle.line_runs.proofs.Causes.{HasItsCause, LiesBetween}
use Rattle.line_runs.proofs.Causes.{founds_between}
use Rattle.line_runs.proofs.FeedWrote.{Holds}
use Rattle.line_runs.proofs.Found.{all_found, found_then, none_up, range_lies, those}
use Rattle.line_runs.proofs.Growing.{forth, grown, seen_of}
use Rattle.line_runs.proofs.NewEntries.{new_in_range, new_on_leaf}
use Rattle.line_runs.proofs.SwitchWrote.{only_passes}
use Rattle.line_runs.proofs.Wrote.{OwnsAsMuch, refused_wrote}
use Rattle.query_traces.proofs.LeafLemmas.{same_leaves}

-- ---- forms

-- a line that asks for a recovery comes to one, or is refused
recovery_suits : (what : LineForm) (recovery : Recovery) → recovery_of what ≡ Some recovery → (slot : Slot)
    → Suits what (came.Controlled (did.Recovered slot))
recovery_suits (form.Feed name) recovery is slot = absurd cc
recovery_suits (form.Pour first second) recovery is slot = absurd cc
recovery_suits (form.Ask asked) recovery is slot = absurd cc
recovery_suits (form.Follow moments text) recovery is slot = absurd cc
recovery_suits (form.Control control) recovery is slot = subst IsAsked (sym is) tt
recovery_suits (form.Standing line) recovery is slot = absurd cc
recovery_suits (form.Block mark) recovery is slot = absurd cc

unopened_suits : (what : LineForm) (recovery : Recovery) → recovery_of what ≡ Some recovery → (fault : RecoveryFault)
    → Suits what (came.Refused (recovery_told fault))
unopened_suits (form.Feed name) recovery is fault = absurd cc
unopened_suits (form.Pour first second) recovery is fault = absurd cc
unopened_suits (form.Ask asked) recovery is fault = absurd cc
unopened_suits (form.Follow moments text) recovery is fault = absurd cc
unopened_suits (form.Control control) recovery is fault = subst IsAsked (sym is) tt
unopened_suits (form.Standing line) recovery is fault = absurd cc
unopened_suits (form.Block mark) recovery is fault = absurd cc

-- ---- a replica that was opened

module _ (config : Config) (what : LineForm) (recovery : Recovery) (asked : recovery_of what ≡ Some recovery)
    (on : leaf_of what ≡ Some recovery.leaf) (content : LineFiles) (before after : Knowledge)
    (was : Holds config before) (is : Holds config after) where
  abbrev range : Range
  range = recovery.range

  abbrev leaf : Leaf
  leaf = recovery.leaf

  moved_lost : IsMoved before after → KeepsItsPlace before after
  moved_lost moved = record {
    grown = grown before.seen after.seen moved.fronts config.schemas config.topology config.range_points was is;
    number = moved.number;
    met = moved.met;
    stock = moved.stock;
    lost = λ n. ap (sum_by (times_among n)) moved.lost;
  }

  module _ (slot : Slot) (recovered : IsRecovered config range leaf before after slot) where
    abbrev rows : List Row
    rows = left_rows recovered.history

    abbrev on_leaf : BookEntry
    on_leaf = one.Leaf (entry.Opened (pass_of before) range slot rows)

    abbrev in_range : BookEntry
    in_range = one.Range (range_entry.Opened (pass_of before) slot leaf)

    abbrev made : History → List BookEntry
    made = opened (pass_of before) range slot leaf rows

    opens_leaf : (h : History) → same_history (of.Leaf leaf) h ≡ true → opens recovery slot h on_leaf ≡ true
    opens_leaf (of.Leaf other) same = and_from (same_leaf leaf other) (same_replica range slot range slot) same
        (and_from (nat_eq range.0 range.0) (nat_eq slot.0 slot.0) (eq-eqb range.0 range.0 refl)
        (eq-eqb slot.0 slot.0 refl))
    opens_leaf (of.Range other) same = absurd (false≢true same)

    opens_range : (h : History) → same_history (of.Range range) h ≡ true → opens recovery slot h in_range ≡ true
    opens_range (of.Leaf other) same = absurd (false≢true same)
    opens_range (of.Range other) same = and_from (same_range range other)
        (same_slot slot slot && same_leaf leaf leaf) same
        (and_from (same_slot slot slot) (same_leaf leaf leaf) (eq-eqb slot.0 slot.0 refl)
        (eq-eqb leaf.0 leaf.0 refl))

    makes : RecoveryMade config what slot made
    makes h = subst (λ o. AllByRecursion (λ e. recovers o slot h e ≡ true) (made h)) (sym asked)
        (both_all (λ e. opens recovery slot h e ≡ true) (only_in (of.Leaf leaf) on_leaf h)
        (only_in (of.Range range) in_range h)
        (only_passes (opens recovery slot h) on_leaf (same_history (of.Leaf leaf) h) (opens_leaf h))
        (only_passes (opens recovery slot h) in_range (same_history (of.Range range) h) (opens_range h)))

    leaf_made : made (of.Leaf leaf) ≡ on_leaf ∷ []
    leaf_made = ap (λ b. cond b (on_leaf ∷ []) [] ++ []) (eq-eqb leaf.0 leaf.0 refl)

    range_made : made (of.Range range) ≡ in_range ∷ []
    range_made = ap (λ b. cond b (in_range ∷ []) []) (eq-eqb range.0 range.0 refl)

    held : StandsBetween (seen_of before.seen (of.Leaf leaf)) (seen_of after.seen (of.Leaf leaf))
        (leaf_history after.seen leaf) (entry.Opened (pass_of before) range slot rows)
    held = new_on_leaf before after leaf (entry.Opened (pass_of before) range slot rows) 0
        (ap (λ new. slice_get new 0) (recovered.new (of.Leaf leaf) ∙ leaf_made))

    told : StandsBetween (seen_of before.seen (of.Range range)) (seen_of after.seen (of.Range range))
        (range_history after.seen range) (range_entry.Opened (pass_of before) slot leaf)
    told = new_in_range before after range (range_entry.Opened (pass_of before) slot leaf) 0
        (ap (λ new. slice_get new 0) (recovered.new (of.Range range) ∙ range_made))

    pub recovered_wrote : LineWrote config (ran_line what content (came.Controlled (did.Recovered slot)) [])
        (recovery_text config.topology (Some recovery) slot) before after
    recovered_wrote = record {
      keeps = moved_lost recovered.moved;
      made = made;
      makes = makes;
      own = recovered.own;
      found = record {
        forth = forth before.seen after.seen recovered.moved.fronts;
        suits = recovery_suits what recovery asked slot;
        told = tt;
        cuts = λ other there. tt;
        found = record { recovery = recovery; asked = asked; told = told; rows = rows; held = held };
      };
      prints = ap (λ o. recovery_text config.topology o slot) (sym asked);
    }

  -- ---- none was opened

  module _ (unopened_is : IsUnrecovered before after) where
    owns : OwnsAsMuch before after
    owns = record {
      grown = grown before.seen after.seen unopened_is.moved.fronts config.schemas config.topology config.range_points
          was is;
      fronts = unopened_is.moved.fronts;
      own = unopened_is.own;
      met = unopened_is.moved.met;
      stock = unopened_is.moved.stock;
      lost = λ n. ap (sum_by (times_among n)) unopened_is.moved.lost;
    }

    denied : (told : Denial) → IsNotRecoveredAs config range leaf before after
        (λ history. denial_of history leaf ≡ Some told)
        → IsDenied config after.seen (lengths_of before.seen) (lengths_of after.seen) what told
    denied told so = record {
      recovery = recovery;
      asked = asked;
      found = length so.history;
      between = range_lies before after config range so.history so.found;
      denied = ap (λ w. denial_of w leaf) so.found.to ∙ so.cause;
    }

    source : (founds : List FoundDown) → IsNotRecoveredAs config range leaf before after
        (λ history. (denial_of history leaf ≡ None) × WereFoundDown before after (serving history) founds)
        → HasNoSource config after.seen (lengths_of before.seen) (lengths_of after.seen) what founds
    source founds so = record {
      recovery = recovery;
      asked = asked;
      none_up = none_up before after config range so.history so.found founds so.cause.1.leaves so.cause.1.down;
      those = those before after config range so.history so.found founds so.cause.1.leaves so.cause.1.down;
      free = ap (λ w. denial_of w leaf) so.found.to ∙ so.cause.0;
    }

    target_cuts : (cut : ℕ) → WasFoundDown before after leaf cut → (other : Leaf) (b : Bool) → same_leaf other leaf ≡ b
        → AllByRecursion (LiesBetween before.seen after.seen other) (cond b (cut ∷ []) [])
    target_cuts cut found other true same = (
      subst (λ (l : Leaf). LiesBetween before.seen after.seen l cut) (sym (same_leaves other leaf same))
          (found_then before after leaf cut found).between,
      tt,
    )
    target_cuts cut found other false same = tt

    abbrev Caused : RecoveryFault → Type 0
    Caused told = HasItsCause config what before after (recovery_told told)

    caused : (fault : RecoverFault) → IsNotRecovered config range leaf before after fault → (told : RecoveryFault)
        → recover_told fault ≡ Some told → Caused told
    caused (unopened.Serving slot) so told is =
        subst Caused (same_Some (closed.Serving slot) told is)
        (record { cause = denied (denial.ServesThere slot) so; cuts = λ other there. tt })
    caused unopened.ThreeServing so told is =
        subst Caused (same_Some closed.ThreeServing told is)
        (record { cause = denied denial.ServesFully so; cuts = λ other there. tt })
    caused (unopened.SlotsSpent count) so told is =
        subst Caused (same_Some (closed.SlotsSpent count) told is)
        (record { cause = denied (denial.SlotsSpent count) so; cuts = λ other there. tt })
    caused (unopened.SourceDown founds) so told is =
        subst Caused (same_Some (closed.SourceDown founds) told is) (record {
          cause = source founds so;
          cuts = λ other there.
              founds_between before.seen after.seen other founds (all_found before after founds so.cause.1.down);
        })
    caused (unopened.TargetDown cut) so told is =
        subst Caused (same_Some (closed.TargetDown cut) told is) (record {
          cause = record {
            recovery = recovery;
            asked = asked;
            found = length so.history;
            between = range_lies before after config range so.history so.found;
            free = ap (λ w. denial_of w leaf) so.found.to ∙ so.cause.0;
            source = record {
              source = so.cause.2.source;
              serves = subst (λ (h : List RangeEntry). Contains (serving h) so.cause.2.source) (sym so.found.to)
                  so.cause.2.among;
              cut = so.cause.2.cut;
              between = record { from = so.cause.2.up.from; to = so.cause.2.up.seen_by_then };
              up = so.cause.2.up.up;
            };
            down = found_then before after leaf cut so.cause.1;
          };
          cuts = λ other there.
              subst (λ o. AllByRecursion (LiesBetween before.seen after.seen other) (cut_at other o cut)) (sym on)
              (target_cuts cut so.cause.1 other (same_leaf other leaf) refl);
        })
    caused unopened.OutOfMemory so told is = absurd cc

    pub unopened_wrote : (fault : RecoverFault) → IsNotRecovered config range leaf before after fault
        → (told : RecoveryFault) → recover_told fault ≡ Some told
        → LineWrote config (ran_line what content (came.Refused (recovery_told told)) [])
        (line_text config after.seen (ran_line what content (came.Refused (recovery_told told)) [])) before after
    unopened_wrote fault so told is =
        refused_wrote config what content before after owns (recovery_told told)
        (unopened_suits what recovery asked told) (caused fault so told is)

  -- ---- however it ended

  pub recovery_by : (result : Result Slot RecoverFault) → IfOk result (IsRecovered config range leaf before after)
      → IfErr result (IsNotRecovered config range leaf before after) → OnErr result (IsUnrecovered before after)
      → (line : LineRan) → IsRecoveryRan config.topology recovery result line
      → LineWrote config (ran_line what content line.trace []) line.text before after
  recovery_by (Ok slot) done refused unwritten line told =
      subst (λ (l : LineRan). LineWrote config (ran_line what content l.trace []) l.text before after) (sym told)
      (recovered_wrote slot done)
  recovery_by (Err fault) done refused unwritten line told =
      subst (λ (l : LineRan). LineWrote config (ran_line what content l.trace []) l.text before after) (sym told.ran_is)
      (unopened_wrote unwritten fault refused told.told told.told_is)

-- whatever stands in the line's content
pub recovery_wrote : {F : Type 0} (config : Config) (what : LineForm) (recovery : Recovery)
    → recovery_of what ≡ Some recovery → leaf_of what ≡ Some recovery.leaf → (before after : Knowledge)
    → Holds config before → Holds config after
    → (result : Result Slot RecoverFault)
    → IfOk result (IsRecovered config recovery.range recovery.leaf before after)
    → IfErr result (IsNotRecovered config recovery.range recovery.leaf before after)
    → OnErr result (IsUnrecovered before after)
    → (ran : Result LineRan F) → IfOk ran (IsRecoveryRan config.topology recovery result)
    → IfOk ran (λ line. (content : LineFiles)
    → LineWrote config (ran_line what content line.trace []) line.text before after)
recovery_wrote config what recovery asked on before after was is result done refused unwritten (Ok line) told =
    λ content. recovery_by config what recovery asked on content before after was is result done refused unwritten line
    told
recovery_wrote config what recovery asked on before after was is result done refused unwritten (Err failed) told = tt

-- what had been seen is seen
pub recovery_fronts : (config : Config) (range : Range) (leaf : Leaf) (before after : Knowledge)
    (result : Result Slot RecoverFault) → IfOk result (IsRecovered config range leaf before after)
    → OnErr result (IsUnrecovered before after) → AreFronts before.seen after.seen
recovery_fronts config range leaf before after (Ok slot) done unwritten = done.moved.fronts
recovery_fronts config range leaf before after (Err fault) done unwritten = unwritten.moved.fronts
