-- Where a line stands in the histories, and the lines that take leaves down or up, or open replicas.
use Rattle.std.specs.Prelude.{◌≡◌, ◌<◌, ◌≤◌, ◌+◌, ◌&&◌, ◌∷◌, ℕ, Bool, true, false, not, List, [], slice_get, Option, Some}
use Rattle.std.specs.Prelude.{None, filter, if◌then◌else◌, map, nat_eq, length, nat_le}
use Rattle.std.specs.List.{AllByRecursion, list_any}
use Rattle.std.specs.Ordering.{int_eq}
use Rattle.history_book.specs.Histories.{same_history, entries}
use Rattle.history_book.specs.declared.views.BookEntry.{BookEntry}
use Rattle.history_book.specs.declared.views.BookEntry.TheVariants as one
use Rattle.history_book.specs.declared.views.History.{History}
use Rattle.history_book.specs.declared.views.History.TheVariants as of
use Rattle.mon_value.specs.Histories.{leaf_history, range_history, same_leaf, same_range, same_slot}
use Rattle.mon_value.specs.LeafHistories.{same_replica}
use Rattle.mon_value.specs.declared.histories.Entry.{Entry}
use Rattle.mon_value.specs.declared.histories.Entry.TheVariants as entry
use Rattle.mon_value.specs.declared.histories.Histories.{Histories}
use Rattle.mon_value.specs.declared.histories.RangeEntry.{RangeEntry}
use Rattle.mon_value.specs.declared.histories.RangeEntry.TheVariants as range_entry
use Rattle.mon_value.specs.declared.positions.FoundDown.{FoundDown}
use Rattle.mon_value.specs.declared.positions.Leaf.{Leaf}
use Rattle.mon_value.specs.declared.positions.Range.{Range}
use Rattle.mon_value.specs.declared.positions.Slot.{Slot}
use Rattle.mon_value.specs.declared.rows.Row.{Row}
use Rattle.mon_script.specs.Controls.{control_refusal_text, recovered_text, source_down_text, switched_text}
use Rattle.mon_script.specs.declared.control_texts.ControlRefusal.TheVariants as refusal
use Rattle.mon_script.specs.declared.controls.ControlForm.{ControlForm}
use Rattle.mon_script.specs.declared.forms.LineForm.{LineForm}
use Rattle.mon_topo.specs.HeldHistories.{first_histories}
use Rattle.mon_topo.specs.declared.zones.ZoneSpec.{ZoneSpec}
use Rattle.mon_value.specs.Same.{same_series}
use Rattle.query_traces.specs.Traces.{Lengths}
use Rattle.run_theory.specs.InPlace as theory
use Rattle.mon_config.specs.declared.config.Config.{Config}
use Rattle.run_traces.specs.LineAsks.{bound_of, control_bound, control_recovery, control_switch, control_withdrawal}
use Rattle.run_traces.specs.LineAsks.{leaf_of, Recovery, recovery_of, Switch, switch_of, withdrawal_of}
use Rattle.run_traces.specs.LineTrims.{HasOnePlace, IsRetiredBetween, IsTrimmedBetween, MadeOnly, retire_refusal_text}
use Rattle.run_traces.specs.LineTrims.{retire_text, retires, trim_refusal_text, trim_text, trims}
use Rattle.run_traces.specs.RanLines.{OwnPlace, RanLine, is_own}
use Rattle.run_traces.specs.declared.traces.ControlDone.{ControlDone}
use Rattle.run_traces.specs.declared.traces.ControlDone.TheVariants as did
use Rattle.run_traces.specs.declared.traces.ControlFault.{ControlFault}
use Rattle.run_traces.specs.declared.traces.ControlFault.TheVariants as undone
use Rattle.run_traces.specs.declared.traces.LineTrace.{LineTrace}
use Rattle.run_traces.specs.declared.traces.LineTrace.TheVariants as came
use Rattle.run_traces.specs.declared.traces.RecoveryFault.{RecoveryFault}
use Rattle.run_traces.specs.declared.traces.RecoveryFault.TheVariants as unopened
use Rattle.run_traces.specs.declared.traces.SwitchFault.{SwitchFault}
use Rattle.run_traces.specs.declared.traces.SwitchFault.TheVariants as unswitched
use Rattle.run_traces.specs.declared.traces.TrimRefusal.{TrimRefusal}
use Rattle.run_traces.specs.declared.traces.TrimRefusal.TheVariants as untrimmed

-- Lines that take a leaf down or up, and lines that open a range's replica on a leaf: which entries of the histories are
-- theirs, and where these stand.

-- ---- entries

-- the entry of a caller that takes a leaf down, or up
abbrev pub switch_entry : Bool → ℕ → Entry
switch_entry down pass = if down then entry.Down pass else entry.Up pass

-- whether an entry takes its leaf down, or up
abbrev pub goes : Bool → BookEntry → Bool
goes down (one.Leaf (entry.Opened by range slot rows)) = false
goes down (one.Leaf (entry.Put by range slot row)) = false
goes down (one.Leaf (entry.Trim by range slot before)) = false
goes down (one.Leaf (entry.Down by)) = down
goes down (one.Leaf (entry.Up by)) = not down
goes down (one.Range e) = false

-- whether an entry of a history is a switch that is asked for
abbrev pub switches : Option Switch → History → BookEntry → Bool
switches None history e = false
switches (Some switch) history e = same_history (of.Leaf switch.leaf) history && goes switch.down e

-- whether a leaf's entry opens a replica
abbrev pub opens_here : Range → Slot → Entry → Bool
opens_here range slot (entry.Opened by other place rows) = same_replica range slot other place
opens_here range slot (entry.Put by other place row) = false
opens_here range slot (entry.Trim by other place before) = false
opens_here range slot (entry.Down by) = false
opens_here range slot (entry.Up by) = false

-- whether a range's entry opens a slot on a leaf
abbrev pub opens_on : Slot → Leaf → RangeEntry → Bool
opens_on slot leaf (range_entry.Opened by place on) = same_slot slot place && same_leaf leaf on
opens_on slot leaf (range_entry.Acked by row ack) = false
opens_on slot leaf (range_entry.Trimmed by before ack) = false
opens_on slot leaf (range_entry.Retired by place) = false

-- in the leaf's history, or in the range's
abbrev pub opens : Recovery → Slot → History → BookEntry → Bool
opens recovery slot (of.Leaf leaf) (one.Leaf e) = same_leaf recovery.leaf leaf && opens_here recovery.range slot e
opens recovery slot (of.Leaf leaf) (one.Range e) = false
opens recovery slot (of.Range range) (one.Leaf e) = false
opens recovery slot (of.Range range) (one.Range e) = same_range recovery.range range && opens_on slot recovery.leaf e

-- whether an entry of a history opens the slot for which a recovery is asked
abbrev pub recovers : Option Recovery → Slot → History → BookEntry → Bool
recovers None slot history e = false
recovers (Some recovery) slot history e = opens recovery slot history e

-- ---- where they stand

-- an entry stands at a place of a history, between two lengths
pub record StandsBetween {X : Type 0} (from to : ℕ) (history : List X) (e : X) : Type 0 where
  pub place : ℕ
  pub since : from ≤ place
  pub until : place < to
  pub there : slice_get history place ≡ Some e

module _ (seen : Histories) (from to : History → ℕ) (pass : ℕ) (what : LineForm) where
  -- the switch that a line asks for is the last of so many entries of its leaf's history
  pub record IsSwitchedBetween (cut : ℕ) : Type 0 where
    pub switch : Switch
    pub asked : switch_of what ≡ Some switch
    pub stands : StandsBetween (from (of.Leaf switch.leaf)) (to (of.Leaf switch.leaf)) (leaf_history seen switch.leaf)
        (switch_entry switch.down pass)
    pub last : stands.place + 1 ≡ cut

  -- the slot that a line opened stands in its range's history, and in that of its leaf with the rows that the leaf took
  -- over
  pub record IsRecoveredBetween (slot : Slot) : Type 0 where
    pub recovery : Recovery
    pub asked : recovery_of what ≡ Some recovery
    pub told : StandsBetween (from (of.Range recovery.range)) (to (of.Range recovery.range))
        (range_history seen recovery.range) (range_entry.Opened pass slot recovery.leaf)
    pub rows : List Row
    pub held : StandsBetween (from (of.Leaf recovery.leaf)) (to (of.Leaf recovery.leaf))
        (leaf_history seen recovery.leaf) (entry.Opened pass recovery.range slot rows)

  -- what came of a control stands between two lengths of each history, at the line's own places where it has such
  abbrev pub IsDoneBetween : List OwnPlace → ControlDone → Type 0
  IsDoneBetween own (did.Switched cut) = IsSwitchedBetween cut
  IsDoneBetween own (did.Recovered slot) = IsRecoveredBetween slot
  IsDoneBetween own (did.Trimmed ack) = IsTrimmedBetween seen from to pass what own ack
  IsDoneBetween own (did.Retired slot) = IsRetiredBetween seen from to pass what own slot

-- Which entries of a history are a line's, and the line's place there: both are computed from the histories at the end
-- of the run and from what the lines came to.

-- ---- whose an entry is

-- a series has one row for each end
abbrev pub is_row : Row → Row → Bool
is_row row other = same_series row.key other.key && int_eq row.point.end other.point.end

-- an acknowledgement of one of these rows under a number, or a put of one
abbrev pub is_fed : ℕ → List Row → BookEntry → Bool
is_fed pass rows (one.Leaf (entry.Opened by range slot held)) = false
is_fed pass rows (one.Leaf (entry.Put by range slot row)) = nat_eq by pass && list_any (is_row row) rows
is_fed pass rows (one.Leaf (entry.Trim by range slot before)) = false
is_fed pass rows (one.Leaf (entry.Down by)) = false
is_fed pass rows (one.Leaf (entry.Up by)) = false
is_fed pass rows (one.Range (range_entry.Opened by slot leaf)) = false
is_fed pass rows (one.Range (range_entry.Acked by row ack)) = nat_eq by pass && list_any (is_row row) rows
is_fed pass rows (one.Range (range_entry.Trimmed by before ack)) = false
is_fed pass rows (one.Range (range_entry.Retired by slot)) = false

abbrev pub is_done : LineForm → List OwnPlace → ControlDone → History → ℕ → BookEntry → Bool
is_done what own (did.Switched cut) history place e = switches (switch_of what) history e && nat_eq (place + 1) cut
is_done what own (did.Recovered slot) history place e = recovers (recovery_of what) slot history e
is_done what own (did.Trimmed ack) history place e = is_own own history place && trims (bound_of what) ack history e
is_done what own (did.Retired slot) history place e =
    is_own own history place && retires (withdrawal_of what) slot history e

abbrev pub is_traced : LineForm → List OwnPlace → LineTrace → History → ℕ → BookEntry → Bool
is_traced what own (came.Fed pass accepted refused) history place e = is_fed pass accepted e
is_traced what own (came.Poured pass ends) history place e = is_fed pass ends.accepted e
is_traced what own (came.Controlled done) history place e = is_done what own done history place e
is_traced what own other history place e = false

-- Whether the entry at a place of a history is of a line: a feed or a pour has those of the rows that it accepted, a switch of
-- a leaf has the one that is the last of so many, a recovery has those that open its slot, and a trim or a retirement has
-- those that do what it asks for, at its own places
abbrev pub is_entry_of : RanLine → History → ℕ → BookEntry → Bool
is_entry_of line history place e = is_traced line.what line.own line.trace history place e

-- ---- where a line stands

module _ (zones : List ZoneSpec) (ended : Histories) where
  -- what each history begins with: the ranges' first replicas
  abbrev pub first_length : History → ℕ
  first_length history = length (entries (first_histories zones) history)

  -- the greater of two lengths
  abbrev pub greater : ℕ → ℕ → ℕ
  greater a b = if nat_le a b then b else a

  -- the least length that holds the first replicas and every entry of the lines that the caller had seen
  abbrev pub low : List RanLine → History → ℕ
  low seen history = greater (first_length history) (theory.low is_entry_of (entries ended) seen history)

  -- the greatest length that holds no entry of a line whose caller had seen this one
  abbrev pub high : List RanLine → History → ℕ
  high later history = theory.high is_entry_of (entries ended) later history

  abbrev pub lows : List RanLine → Lengths
  lows seen = record {
    leaves = λ leaf. low seen (of.Leaf leaf);
    ranges = λ range. low seen (of.Range range);
  }

  abbrev pub highs : List RanLine → Lengths
  highs later = record {
    leaves = λ leaf. high later (of.Leaf leaf);
    ranges = λ range. high later (of.Range range);
  }

-- Each entry of a line stands in its place.

module _ (config : Config) (ended : Histories) where
  abbrev pub LineStands : List RanLine → List RanLine → RanLine → Type 0
  LineStands seen later line = (history : History) (place : ℕ) (e : BookEntry)
      → slice_get (entries ended history) place ≡ Some e → is_entry_of line history place e ≡ true
      → (low config.topology ended seen history ≤ place) × (place < high config.topology ended later history)

-- What lines did that take a leaf down or up, open a range's replica on a leaf, trim a range, or retire a replica.

-- where a line has places of its own, its range's history has one of them
abbrev pub IsDoneOnce : List OwnPlace → ControlDone → Type 0
IsDoneOnce own (did.Switched cut) = Unit {0}
IsDoneOnce own (did.Recovered slot) = Unit {0}
IsDoneOnce own (did.Trimmed ack) = HasOnePlace own
IsDoneOnce own (did.Retired slot) = HasOnePlace own

module _ (config : Config) (ended : Histories) (seen later : List RanLine) where
  -- A leaf that was switched has the switch as the last of so many entries, in the line's place; a slot that was opened
  -- stands in its range's and in its leaf's history, both in the line's place; a bound is acknowledged once in its range's
  -- history, and the leaf of each slot that took it has the trim; and a slot that was retired is retired once, and was
  -- opened on the line's leaf
  abbrev pub IsControlled : LineForm → List OwnPlace → LineTrace → Type 0
  IsControlled what own (came.Controlled done) = (pass : ℕ)
      × IsDoneBetween ended (low config.topology ended seen) (high config.topology ended later) pass what own done
      × IsDoneOnce own done
  IsControlled what own other = Unit {0}

-- of each line, with those that its caller had seen and those whose callers had seen it
abbrev pub LineIsControlled : Config → Histories → List RanLine → List RanLine → RanLine → Type 0
LineIsControlled config ended seen later line = IsControlled config ended seen later line.what line.own line.trace

-- What controls made.

module _ (config : Config) where
  -- a switch made one entry at most, the one that is asked for
  pub record SwitchMade (what : LineForm) (made : History → List BookEntry) : Type 0 where
    pub own : (history : History) → AllByRecursion (λ e. switches (switch_of what) history e ≡ true) (made history)
    pub few : (history : History) → length (made history) ≤ 1

  -- a recovery made nothing but what opens its slot
  abbrev pub RecoveryMade : LineForm → Slot → (History → List BookEntry) → Type 0
  RecoveryMade what slot made = (history : History)
      → AllByRecursion (λ e. recovers (recovery_of what) slot history e ≡ true) (made history)

  abbrev pub DoneMade : LineForm → ControlDone → (History → List BookEntry) → Type 0
  DoneMade what (did.Switched cut) made = SwitchMade what made
  DoneMade what (did.Recovered slot) made = RecoveryMade what slot made
  DoneMade what (did.Trimmed ack) made = MadeOnly (trims (bound_of what) ack) made
  DoneMade what (did.Retired slot) made = MadeOnly (retires (withdrawal_of what) slot) made

-- What each control comes to, and why it may be refused: what is done, or isn't, is asked for.

abbrev pub IsAsked : {X : Type 0} → Option X → Type 0
IsAsked None = ⊥
IsAsked (Some x) = Unit {0}

abbrev pub DoneSuits : ControlForm → ControlDone → Type 0
DoneSuits what (did.Switched cut) = IsAsked (control_switch what)
DoneSuits what (did.Recovered slot) = IsAsked (control_recovery what)
DoneSuits what (did.Trimmed ack) = IsAsked (control_bound what)
DoneSuits what (did.Retired slot) = IsAsked (control_withdrawal what)

abbrev pub UndoneSuits : ControlForm → ControlFault → Type 0
UndoneSuits what (undone.Switch fault) = IsAsked (control_switch what)
UndoneSuits what (undone.Recovery fault) = IsAsked (control_recovery what)
UndoneSuits what (undone.Trim fault) = IsAsked (control_bound what)
UndoneSuits what (undone.Retirement fault) = IsAsked (control_withdrawal what)

-- The cuts that they name of a leaf.

abbrev pub found_cuts : Leaf → List FoundDown → List ℕ
found_cuts leaf founds =
    map (λ (found : FoundDown). found.cut) (filter (λ (found : FoundDown). same_leaf leaf found.leaf) founds)

-- a cut of the leaf that a line does something to
abbrev pub cut_at : Leaf → Option Leaf → ℕ → List ℕ
cut_at leaf None cut = []
cut_at leaf (Some other) cut = if same_leaf leaf other then cut ∷ [] else []

abbrev pub switch_cuts : Leaf → Option Leaf → SwitchFault → List ℕ
switch_cuts leaf on (unswitched.AlreadyDown cut) = cut_at leaf on cut
switch_cuts leaf on (unswitched.AlreadyUp cut) = cut_at leaf on cut
switch_cuts leaf on (unswitched.SwitchesSpent count) = []

abbrev pub recovery_cuts : Leaf → Option Leaf → RecoveryFault → List ℕ
recovery_cuts leaf on (unopened.Serving slot) = []
recovery_cuts leaf on unopened.ThreeServing = []
recovery_cuts leaf on (unopened.SlotsSpent count) = []
recovery_cuts leaf on (unopened.SourceDown founds) = found_cuts leaf founds
recovery_cuts leaf on (unopened.TargetDown cut) = cut_at leaf on cut

abbrev pub trim_cuts : Leaf → TrimRefusal → List ℕ
trim_cuts leaf (untrimmed.Unavailable range founds) = found_cuts leaf founds

abbrev pub undone_cuts : Leaf → LineForm → ControlFault → List ℕ
undone_cuts leaf what (undone.Switch fault) = switch_cuts leaf (leaf_of what) fault
undone_cuts leaf what (undone.Recovery fault) = recovery_cuts leaf (leaf_of what) fault
undone_cuts leaf what (undone.Trim fault) = trim_cuts leaf fault
undone_cuts leaf what (undone.Retirement fault) = []

abbrev pub done_cuts : Leaf → LineForm → ControlDone → List ℕ
done_cuts leaf what (did.Switched cut) = cut_at leaf (leaf_of what) cut
done_cuts leaf what (did.Recovered slot) = []
done_cuts leaf what (did.Trimmed ack) = []
done_cuts leaf what (did.Retired slot) = []

-- What they print.

-- the leaf that went down, or came up
abbrev pub switch_text : List ZoneSpec → Option Switch → List ℕ
switch_text zones None = []
switch_text zones (Some switch) = switched_text zones switch.leaf switch.down

-- the range and the leaf, and the slot that was opened
abbrev pub recovery_text : List ZoneSpec → Option Recovery → Slot → List ℕ
recovery_text zones None slot = []
recovery_text zones (Some recovery) slot = recovered_text zones recovery.range recovery.leaf slot

abbrev pub control_done_text : List ZoneSpec → LineForm → ControlDone → List ℕ
control_done_text zones what (did.Switched cut) = switch_text zones (switch_of what)
control_done_text zones what (did.Recovered slot) = recovery_text zones (recovery_of what) slot
control_done_text zones what (did.Trimmed ack) = trim_text zones (bound_of what) ack
control_done_text zones what (did.Retired slot) = retire_text zones (withdrawal_of what) slot

-- why it was not done
abbrev pub switch_fault_text : SwitchFault → List ℕ
switch_fault_text (unswitched.AlreadyDown cut) = control_refusal_text (refusal.AlreadyDown cut)
switch_fault_text (unswitched.AlreadyUp cut) = control_refusal_text (refusal.AlreadyUp cut)
switch_fault_text (unswitched.SwitchesSpent count) = control_refusal_text (refusal.SwitchesSpent count)

abbrev pub recovery_fault_text : List ZoneSpec → RecoveryFault → List ℕ
recovery_fault_text zones (unopened.Serving slot) = control_refusal_text (refusal.Serving slot)
recovery_fault_text zones unopened.ThreeServing = control_refusal_text refusal.ThreeServing
recovery_fault_text zones (unopened.SlotsSpent count) = control_refusal_text (refusal.SlotsSpent count)
recovery_fault_text zones (unopened.SourceDown founds) = source_down_text zones founds
recovery_fault_text zones (unopened.TargetDown cut) = control_refusal_text (refusal.TargetDown cut)

abbrev pub control_fault_text : List ZoneSpec → ControlFault → List ℕ
control_fault_text zones (undone.Switch fault) = switch_fault_text fault
control_fault_text zones (undone.Recovery fault) = recovery_fault_text zones fault
control_fault_text zones (undone.Trim fault) = trim_refusal_text zones fault
control_fault_text zones (undone.Retirement fault) = retire_refusal_text fault
