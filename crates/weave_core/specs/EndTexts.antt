-- What an actor prints that ends.
use Rattle.std.specs.Prelude.{ℕ, Bool, List, ◌++◌, codes, length, Result, Ok, Err}
use Rattle.std.specs.Fmt.{decimal}
use Rattle.mon_script.specs.Controls.{control_refusal_text, recovered_text, retired_text, source_down_text, switched_text}
use Rattle.mon_script.specs.Controls.{trimmed_text}
use Rattle.mon_script.specs.declared.control_texts.ControlRefusal.{ControlRefusal}
use Rattle.mon_script.specs.declared.control_texts.ControlRefusal.TheVariants as control
use Rattle.mon_table.specs.Tables.{newline, printed_table}
use Rattle.mon_topo.specs.Zones.{down_text}
use Rattle.mon_topo.specs.declared.zones.ZoneSpec.{ZoneSpec}
use Rattle.mon_value.specs.Turns.{Adds, Hides, Turn}
use Rattle.mon_value.specs.declared.histories.Ack.{Ack}
use Rattle.mon_value.specs.declared.positions.Leaf.{Leaf}
use Rattle.mon_value.specs.declared.positions.Range.{Range}
use Rattle.query_traces.specs.FaultTexts.{round_fault_text}
use Rattle.query_traces.specs.declared.answers.Answer.{Answer}
use Rattle.query_traces.specs.declared.answers.RoundFault.{RoundFault}
use Rattle.query_texts.specs.TextTypes.{text_fault_text}
use Rattle.query_texts.specs.declared.faults.TextFault.{TextFault}
use Rattle.weave_core.specs.declared.texts.Deed.{Deed}
use Rattle.weave_core.specs.declared.texts.Deed.TheVariants as deed
use Rattle.write_core.specs.Events.{SwitchTold, SwitchesSpent, WasDownAlready, WasSwitched, WasUpAlready}
use Rattle.write_core.specs.declared.copies.Denial.{Denial}
use Rattle.write_core.specs.declared.copies.Denial.TheVariants.{ServesFully, ServesThere, SlotsSpent}
use Rattle.write_core.specs.declared.copies.Outcome.{Outcome}
use Rattle.write_core.specs.declared.copies.Outcome.TheVariants.{Denied, NoSource, NoTarget, Opens}
use Rattle.write_core.specs.RangeAnswers.{no_zone_text, refused_text}
use Rattle.write_core.specs.declared.asks.WriteEnd.{WriteEnd}
use Rattle.write_core.specs.declared.asks.WriteEnd.TheVariants as end
use Rattle.write_core.specs.declared.refusals.Refused.TheVariants as refused
use Rattle.write_core.specs.declared.retirements.Retirement.{Retirement}
use Rattle.write_core.specs.declared.retirements.Retirement.TheVariants.{LastServing, NotServing, WasRetired}

-- the line of a call that is refused
abbrev pub refused_line : List ℕ → List ℕ
refused_line why = codes "refused: " ++ (why ++ newline)

-- a row that is added is written, and a bound trims the range
abbrev pub deed_of : Turn → Deed
deed_of (Adds row) = deed.Write
deed_of (Hides before) = deed.Trim

-- a row was written: so many replicas took it, and so many missed it
abbrev pub written_text : Ack → List ℕ
written_text ack = codes "written: took " ++ (decimal (length ack.took)
    ++ (codes ", missed " ++ (decimal (length ack.missed) ++ newline)))

abbrev pub done_text : List ZoneSpec → Deed → Range → Ack → List ℕ
done_text zones deed.Write range ack = written_text ack
done_text zones deed.Trim range ack = trimmed_text zones range ack

-- that a row was written, or a range trimmed; or why not
abbrev pub write_end_text : List ZoneSpec → Deed → Range → WriteEnd → List ℕ
write_end_text zones done range (end.Written ack) = done_text zones done range ack
write_end_text zones done range (end.OldPoint last) = refused_line (refused_text (refused.OldPoint last))
write_end_text zones done range (end.RangeFull limit) = refused_line (refused_text (refused.RangeFull limit))
write_end_text zones done range (end.Unavailable founds) =
    refused_line (codes "Unavailable " ++ down_text zones range founds)

-- a leaf went down, or came up, or why it did not
abbrev pub switch_text : List ZoneSpec → Leaf → Bool → SwitchTold → List ℕ
switch_text zones leaf down (WasSwitched cut) = switched_text zones leaf down
switch_text zones leaf down (WasDownAlready cut) = refused_line (control_refusal_text (control.AlreadyDown cut))
switch_text zones leaf down (WasUpAlready cut) = refused_line (control_refusal_text (control.AlreadyUp cut))
switch_text zones leaf down (SwitchesSpent count) = refused_line (control_refusal_text (control.SwitchesSpent count))

-- the slot of a range that was retired from a leaf, or why none was
abbrev pub retire_text : List ZoneSpec → Range → Leaf → Retirement → List ℕ
retire_text zones range leaf (WasRetired slot) = retired_text zones range leaf slot
retire_text zones range leaf NotServing = refused_line (control_refusal_text control.NotServing)
retire_text zones range leaf (LastServing slot) = refused_line (control_refusal_text (control.LastServing slot))

-- why a range opens no replica on a leaf
abbrev pub denial_told : Denial → ControlRefusal
denial_told (ServesThere slot) = control.Serving slot
denial_told ServesFully = control.ThreeServing
denial_told (SlotsSpent count) = control.SlotsSpent count

-- how a recovery of a range onto a leaf came out
abbrev pub recover_text : List ZoneSpec → Range → Leaf → Outcome → List ℕ
recover_text zones range leaf (Opens slot) = recovered_text zones range leaf slot
recover_text zones range leaf (Denied why) = refused_line (control_refusal_text (denial_told why))
recover_text zones range leaf (NoSource founds) = refused_line (source_down_text zones founds)
recover_text zones range leaf (NoTarget cut) = refused_line (control_refusal_text (control.TargetDown cut))

-- a write of a row whose location no zone lists
abbrev pub no_zone_line : List ℕ
no_zone_line = refused_line no_zone_text

-- a query whose text has no plan
abbrev pub no_plan_line : TextFault → List ℕ
no_plan_line why = refused_line (text_fault_text why)

-- the table of a query, or why it has none
abbrev pub query_text : List ZoneSpec → Result Answer RoundFault → List ℕ
query_text zones (Ok answer) = printed_table answer.table
query_text zones (Err why) = refused_line (round_fault_text zones why)
