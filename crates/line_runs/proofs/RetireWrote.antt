-- What a line owes that retired a range's replica on a leaf, and one that did not.
use Rattle.std.proofs.Common.{◌≡◌, ◌∙◌, ◌∷◌, ℕ, true, false, cond, List, [], length}
use Rattle.std.proofs.Common.{slice_get, Some, Ok, Err, refl, sym, ap, subst}
use Rattle.std.specs.Prelude.{Contains, IfErr, IfOk, OnErr, Result, sum_by}
use Rattle.std.specs.List.{AllByRecursion}
use Rattle.std.proofs.lemmas.Bool.{false≢true, and_from, eq-eqb}
use Rattle.history_book.specs.Histories.{AreFronts, same_history}
use Rattle.history_book.specs.Numbers.{times_among}
use Rattle.history_book.specs.declared.views.BookEntry.{BookEntry}
use Rattle.history_book.specs.declared.views.BookEntry.TheVariants as one
use Rattle.history_book.specs.declared.views.History.{History}
use Rattle.history_book.specs.declared.views.History.TheVariants as of
use Rattle.know.specs.Knowledge.{Knowledge}
use Rattle.line_runs.specs.Controls.{retire_ran, unretired_told}
use Rattle.line_runs.specs.LineWrites.{KeepsItsPlace, LineRanSo, LineWrote, ran_line}
use Rattle.line_runs.specs.declared.lines.LineRan.{LineRan}
use Rattle.mon_config.specs.declared.config.Config.{Config}
use Rattle.mon_script.specs.declared.forms.LineForm.{LineForm}
use Rattle.mon_script.specs.declared.forms.LineForm.TheVariants as form
use Rattle.mon_store.specs.Retirements.{IsNotRetired, IsRetired, retired}
use Rattle.mon_store.specs.Writes.{IsUnwritten, WasFoundSo}
use Rattle.mon_topo.specs.RangeHistories.{serving}
use Rattle.mon_value.specs.Histories.{range_history, same_range, same_slot}
use Rattle.mon_value.specs.declared.histories.RangeEntry.{RangeEntry}
use Rattle.mon_value.specs.declared.histories.RangeEntry.TheVariants as range_entry
use Rattle.mon_value.specs.declared.positions.Leaf.{Leaf}
use Rattle.mon_value.specs.declared.positions.Range.{Range}
use Rattle.mon_value.specs.declared.positions.Slot.{Slot}
use Rattle.owners.specs.Puts.{pass_of}
use Rattle.query_traces.specs.Traces.{lengths_of}
use Rattle.range_cell.specs.declared.answers.RetireFault.{RetireFault}
use Rattle.range_cell.specs.declared.answers.RetireFault.TheVariants as unretired
use Rattle.run_traces.proofs.OwnPlaces.{are_own_places, own_places}
use Rattle.run_traces.specs.LineAsks.{Withdrawal, withdrawal_of}
use Rattle.run_traces.specs.LineForms.{Suits}
use Rattle.run_traces.specs.LineSwitches.{IsAsked}
use Rattle.run_traces.specs.LineTexts.{line_text}
use Rattle.run_traces.specs.LineTrims.{AreOwn, MadeOnly, StandsOwn, retire_text, retires, withdraws_in}
use Rattle.run_traces.specs.RanLines.{OwnPlace}
use Rattle.run_traces.specs.declared.line_files.LineFiles.{LineFiles}
use Rattle.run_traces.specs.declared.traces.ControlDone.TheVariants as did
use Rattle.run_traces.specs.declared.traces.LineTrace.TheVariants as came
use Rattle.run_traces.specs.LineCauses as cause
use Rattle.write_core.proofs.FirstOnLemmas.{told_of_retirement}
use Rattle.write_core.specs.Events.{IsToldOfRetirement}
use Rattle.write_core.specs.Retirements.{retirement_of}
use Rattle.write_core.specs.declared.retirements.Retirement.{Retirement}
use Rattle.write_core.specs.declared.retirements.Retirement.TheVariants as told
use Rattle.line_runs.proofs.Causes.{HasItsCause}
use Rattle.line_runs.proofs.FeedWrote.{Holds}
use Rattle.line_runs.proofs.Found.{opened_then, range_lies}
use Rattle.line_runs.proofs.Growing.{forth, grown, seen_of}
use Rattle.line_runs.proofs.NewEntries.{new_stands}
use Rattle.line_runs.proofs.SwitchWrote.{only_few, only_passes}
use Rattle.line_runs.proofs.Wrote.{OwnsAsMuch, refused_wrote}

-- ---- forms

-- a line that asks for a retirement comes to one, or is refused
retire_suits : (what : LineForm) (withdrawal : Withdrawal) → withdrawal_of what ≡ Some withdrawal → (slot : Slot)
    → Suits what (came.Controlled (did.Retired slot))
retire_suits (form.Feed name) withdrawal is slot = absurd cc
retire_suits (form.Pour first second) withdrawal is slot = absurd cc
retire_suits (form.Ask asked) withdrawal is slot = absurd cc
retire_suits (form.Follow moments text) withdrawal is slot = absurd cc
retire_suits (form.Control control) withdrawal is slot = subst IsAsked (sym is) tt
retire_suits (form.Standing line) withdrawal is slot = absurd cc
retire_suits (form.Block mark) withdrawal is slot = absurd cc

unretired_suits : (what : LineForm) (withdrawal : Withdrawal) → withdrawal_of what ≡ Some withdrawal
    → (fault : RetireFault) → Suits what (came.Refused (unretired_told fault))
unretired_suits (form.Feed name) withdrawal is fault = absurd cc
unretired_suits (form.Pour first second) withdrawal is fault = absurd cc
unretired_suits (form.Ask asked) withdrawal is fault = absurd cc
unretired_suits (form.Follow moments text) withdrawal is fault = absurd cc
unretired_suits (form.Control control) withdrawal is fault = subst IsAsked (sym is) tt
unretired_suits (form.Standing line) withdrawal is fault = absurd cc
unretired_suits (form.Block mark) withdrawal is fault = absurd cc

-- ---- a replica that was retired

module _ (config : Config) (what : LineForm) (withdrawal : Withdrawal) (asked : withdrawal_of what ≡ Some withdrawal)
    (content : LineFiles) (before after : Knowledge) (was : Holds config before) (is : Holds config after) where
  abbrev range : Range
  range = withdrawal.range

  abbrev leaf : Leaf
  leaf = withdrawal.leaf

  abbrev from : History → ℕ
  from = seen_of before.seen

  abbrev to : History → ℕ
  to = seen_of after.seen

  abbrev pass : ℕ
  pass = pass_of before

  abbrev own : List OwnPlace
  own = own_places pass from after.seen

  module _ (slot : Slot) (done : IsRetired config range leaf before after slot) where
    abbrev in_range : BookEntry
    in_range = one.Range (range_entry.Retired pass slot)

    abbrev made : History → List BookEntry
    made = retired pass range slot

    withdraws_range : (h : History) → same_history (of.Range range) h ≡ true
        → withdraws_in range slot h in_range ≡ true
    withdraws_range (of.Leaf other) same = absurd (false≢true same)
    withdraws_range (of.Range other) same =
        and_from (same_range range other) (same_slot slot slot) same (eq-eqb slot.0 slot.0 refl)

    makes : MadeOnly (retires (withdrawal_of what) slot) made
    makes = record {
      own = λ h. subst (λ o. AllByRecursion (λ e. retires o slot h e ≡ true) (made h)) (sym asked)
          (only_passes (withdraws_in range slot h) in_range (same_history (of.Range range) h) (withdraws_range h));
      few = λ other. only_few in_range (same_range range other);
    }

    abbrev owns : AreOwn after.seen from to pass own
    owns = are_own_places pass from after.seen

    told_there : StandsOwn after.seen from to own (of.Range range) in_range
    told_there =
        let stands = new_stands before after (of.Range range) in_range 0
        (ap (λ new. slice_get new 0) (done.new (of.Range range))
        ∙ ap (λ b. slice_get (cond b (in_range ∷ []) []) 0) (eq-eqb range.0 range.0 refl)) in
        record {
          place = stands.place;
          since = stands.since;
          until = stands.until;
          there = stands.there;
          mine = owns.all (of.Range range) stands.place in_range stands.there stands.since stands.until refl;
        }

    served : Contains (serving done.history) (record { slot = slot; leaf = leaf })
    served = (subst (IsToldOfRetirement done.history leaf) done.was (told_of_retirement done.history leaf)).0

    retired_keeps : KeepsItsPlace before after
    retired_keeps = record {
      grown = grown before.seen after.seen done.still.fronts config.schemas config.topology config.range_points was is;
      number = done.still.number;
      met = done.still.met;
      stock = done.still.stock;
      lost = λ n. ap (sum_by (times_among n)) done.still.lost;
    }

    pub retired_wrote : LineWrote config (ran_line what content (came.Controlled (did.Retired slot)) own)
        (retire_text config.topology (Some withdrawal) slot) before after
    retired_wrote = record {
      keeps = retired_keeps;
      made = made;
      makes = makes;
      own = done.own;
      found = record {
        forth = forth before.seen after.seen done.still.fronts;
        suits = retire_suits what withdrawal asked slot;
        told = tt;
        cuts = λ other there. tt;
        found = record {
          retired = record {
            withdrawal = withdrawal;
            asked = asked;
            told = told_there;
            on = opened_then (range_history after.seen range) done.history done.found.to
                (record { slot = slot; leaf = leaf }) served;
          };
          owns = owns;
        };
      };
      prints = ap (λ o. retire_text config.topology o slot) (sym asked);
    }

  -- ---- none was retired

  module _ (unwritten : IsUnwritten before after) where
    owns_as_much : OwnsAsMuch before after
    owns_as_much = record {
      grown = grown before.seen after.seen unwritten.still.fronts config.schemas config.topology config.range_points was
          is;
      fronts = unwritten.still.fronts;
      own = unwritten.own;
      met = unwritten.still.met;
      stock = unwritten.still.stock;
      lost = λ n. ap (sum_by (times_among n)) unwritten.still.lost;
    }

    refused_as : (why : Retirement) (history : List RangeEntry) → WasFoundSo config range history before after
        → retirement_of history leaf ≡ why
        → cause.IsNotRetired config after.seen (lengths_of before.seen) (lengths_of after.seen) what why
    refused_as why history found so = record {
      withdrawal = withdrawal;
      asked = asked;
      found = length history;
      between = range_lies before after config range history found;
      told_so = ap (λ h. retirement_of h leaf) found.to ∙ so;
    }

    abbrev Caused : RetireFault → Type 0
    Caused fault = HasItsCause config what before after (unretired_told fault)

    caused : (fault : RetireFault) → IsNotRetired config range leaf before after fault → Caused fault
    caused unretired.NotServing so = record {
      cause = refused_as told.NotServing so.history so.found so.cause;
      cuts = λ other there. tt;
    }
    caused (unretired.LastServing slot) so = record {
      cause = refused_as (told.LastServing slot) so.history so.found so.cause;
      cuts = λ other there. tt;
    }

    pub unretired_wrote : (fault : RetireFault) → IsNotRetired config range leaf before after fault
        → LineWrote config (ran_line what content (came.Refused (unretired_told fault)) [])
        (line_text config after.seen (ran_line what content (came.Refused (unretired_told fault)) [])) before after
    unretired_wrote fault so =
        refused_wrote config what content before after owns_as_much (unretired_told fault)
        (unretired_suits what withdrawal asked fault) (caused fault so)

  -- ---- however it ended

  pub retire_by : (result : Result Slot RetireFault) → IfOk result (IsRetired config range leaf before after)
      → IfErr result (IsNotRetired config range leaf before after) → OnErr result (IsUnwritten before after)
      → LineRanSo config what content (retire_ran config.topology withdrawal result) before after
  retire_by (Ok slot) done refused unwritten = record { own = own; wrote = retired_wrote slot done }
  retire_by (Err fault) done refused unwritten =
      record { own = []; wrote = unretired_wrote unwritten fault refused }

-- whatever stands in the line's content
pub retire_wrote : {F : Type 0} (config : Config) (what : LineForm) (withdrawal : Withdrawal)
    → withdrawal_of what ≡ Some withdrawal → (before after : Knowledge) → Holds config before → Holds config after
    → (result : Result Slot RetireFault)
    → IfOk result (IsRetired config withdrawal.range withdrawal.leaf before after)
    → IfErr result (IsNotRetired config withdrawal.range withdrawal.leaf before after)
    → OnErr result (IsUnwritten before after) → (ran : Result LineRan F)
    → IfOk ran (λ line. line ≡ retire_ran config.topology withdrawal result)
    → IfOk ran (λ line. (content : LineFiles) → LineRanSo config what content line before after)
retire_wrote config what withdrawal asked before after was is result done refused unwritten (Ok line) ran_so = λ content.
    subst (λ (l : LineRan). LineRanSo config what content l before after) (sym ran_so)
    (retire_by config what withdrawal asked content before after was is result done refused unwritten)
retire_wrote config what withdrawal asked before after was is result done refused unwritten (Err failed) ran_so = tt

-- what had been seen is seen
pub retire_fronts : (config : Config) (withdrawal : Withdrawal) (before after : Knowledge)
    (result : Result Slot RetireFault)
    → IfOk result (IsRetired config withdrawal.range withdrawal.leaf before after)
    → OnErr result (IsUnwritten before after) → AreFronts before.seen after.seen
retire_fronts config withdrawal before after (Ok slot) done unwritten = done.still.fronts
retire_fronts config withdrawal before after (Err fault) done unwritten = unwritten.still.fronts
