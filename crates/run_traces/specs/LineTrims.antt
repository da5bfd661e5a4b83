-- Lines that trim a range, and lines that retire a replica of one: which entries of the histories are theirs, and where these
-- stand. Two equal trims make equal entries, so these lines are told with the places of their own entries.
use Rattle.std.specs.Prelude.{◌≡◌, ◌<◌, ◌≤◌, ◌&&◌, ◌++◌, ℕ, ℤ, Bool, true, false, List, [], slice_get, Option, Some, None}
use Rattle.std.specs.Prelude.{length, codes, Contains}
use Rattle.std.specs.List.{AllByRecursion, list_any}
use Rattle.std.specs.Ordering.{int_eq}
use Rattle.history_book.specs.Histories.{book_entry_pass, entries}
use Rattle.history_book.specs.declared.views.BookEntry.{BookEntry}
use Rattle.history_book.specs.declared.views.BookEntry.TheVariants as one
use Rattle.history_book.specs.declared.views.History.{History}
use Rattle.history_book.specs.declared.views.History.TheVariants as of
use Rattle.mon_script.specs.Controls.{control_refusal_text, retired_text, trimmed_text}
use Rattle.mon_script.specs.declared.control_texts.ControlRefusal.TheVariants as refusal
use Rattle.mon_script.specs.declared.forms.LineForm.{LineForm}
use Rattle.mon_topo.specs.RangeHistories.{opened_slots}
use Rattle.mon_topo.specs.Zones.{down_text}
use Rattle.mon_topo.specs.declared.zones.ZoneSpec.{ZoneSpec}
use Rattle.mon_value.specs.Histories.{range_history, same_range, same_slot}
use Rattle.mon_value.specs.declared.histories.Ack.{Ack}
use Rattle.mon_value.specs.declared.histories.Entry.{Entry}
use Rattle.mon_value.specs.declared.histories.Entry.TheVariants as entry
use Rattle.mon_value.specs.declared.histories.Histories.{Histories}
use Rattle.mon_value.specs.declared.histories.RangeEntry.{RangeEntry}
use Rattle.mon_value.specs.declared.histories.RangeEntry.TheVariants as range_entry
use Rattle.mon_value.specs.declared.positions.Leaf.{Leaf}
use Rattle.mon_value.specs.declared.positions.Range.{Range}
use Rattle.mon_value.specs.declared.positions.Slot.{Slot}
use Rattle.run_traces.specs.LineAsks.{Bound, bound_of, Withdrawal, withdrawal_of}
use Rattle.run_traces.specs.RanLines.{OwnPlace, is_own}
use Rattle.run_traces.specs.declared.traces.RetireRefusal.{RetireRefusal}
use Rattle.run_traces.specs.declared.traces.RetireRefusal.TheVariants as unretired
use Rattle.run_traces.specs.declared.traces.TrimRefusal.{TrimRefusal}
use Rattle.run_traces.specs.declared.traces.TrimRefusal.TheVariants as untrimmed

-- ---- entries

-- whether a leaf's entry hides what ends before a bound, at a replica of the bound's range in one of these slots
abbrev pub hides_here : Bound → List Slot → Entry → Bool
hides_here bound took (entry.Opened by range slot rows) = false
hides_here bound took (entry.Put by range slot row) = false
hides_here bound took (entry.Trim by range slot before) =
    same_range bound.range range && int_eq bound.before before && list_any (same_slot slot) took
hides_here bound took (entry.Down by) = false
hides_here bound took (entry.Up by) = false

-- whether a range's entry acknowledges a bound
abbrev pub acknowledges : ℤ → RangeEntry → Bool
acknowledges bound (range_entry.Opened by slot leaf) = false
acknowledges bound (range_entry.Acked by row ack) = false
acknowledges bound (range_entry.Trimmed by before ack) = int_eq bound before
acknowledges bound (range_entry.Retired by slot) = false

-- in the range's history, or in a leaf's
abbrev pub hides : Bound → Ack → History → BookEntry → Bool
hides bound ack (of.Leaf leaf) (one.Leaf e) = hides_here bound ack.took e
hides bound ack (of.Leaf leaf) (one.Range e) = false
hides bound ack (of.Range range) (one.Leaf e) = false
hides bound ack (of.Range range) (one.Range e) = same_range bound.range range && acknowledges bound.before e

-- whether an entry of a history is of a trim that is asked for and was acknowledged so
abbrev pub trims : Option Bound → Ack → History → BookEntry → Bool
trims None ack history e = false
trims (Some bound) ack history e = hides bound ack history e

-- whether a range's entry retires a slot
abbrev pub withdraws : Slot → RangeEntry → Bool
withdraws slot (range_entry.Opened by other leaf) = false
withdraws slot (range_entry.Acked by row ack) = false
withdraws slot (range_entry.Trimmed by before ack) = false
withdraws slot (range_entry.Retired by other) = same_slot slot other

abbrev pub withdraws_in : Range → Slot → History → BookEntry → Bool
withdraws_in range slot (of.Leaf leaf) e = false
withdraws_in range slot (of.Range other) (one.Leaf e) = false
withdraws_in range slot (of.Range other) (one.Range e) = same_range range other && withdraws slot e

-- whether an entry of a history retires the slot for which a retirement is asked
abbrev pub retires : Option Withdrawal → Slot → History → BookEntry → Bool
retires None slot history e = false
retires (Some withdrawal) slot history e = withdraws_in withdrawal.range slot history e

-- ---- where they stand

module _ (seen : Histories) (from to : History → ℕ) where
  -- an entry stands between two lengths of a history, at a place that is a line's own
  pub record StandsOwn (own : List OwnPlace) (history : History) (e : BookEntry) : Type 0 where
    pub place : ℕ
    pub since : from history ≤ place
    pub until : place < to history
    pub there : slice_get (entries seen history) place ≡ Some e
    pub mine : is_own own history place ≡ true

  -- a line's own places are just those of the entries under its number between two lengths of each history
  pub record AreOwn (pass : ℕ) (own : List OwnPlace) : Type 0 where
    pub within : (history : History) (place : ℕ) → is_own own history place ≡ true
        → (from history ≤ place) × (place < to history)
    pub under : (history : History) (place : ℕ) (e : BookEntry) → slice_get (entries seen history) place ≡ Some e
        → is_own own history place ≡ true → book_entry_pass e ≡ pass
    pub all : (history : History) (place : ℕ) (e : BookEntry) → slice_get (entries seen history) place ≡ Some e
        → from history ≤ place → place < to history → book_entry_pass e ≡ pass → is_own own history place ≡ true

module _ (seen : Histories) (from to : History → ℕ) (pass : ℕ) (what : LineForm) (own : List OwnPlace) where
  -- the leaf of a slot has the trim
  pub record HasTrim (bound : Bound) (slot : Slot) : Type 0 where
    pub leaf : Leaf
    pub on : Contains (opened_slots (range_history seen bound.range)) (record { slot = slot; leaf = leaf })
    pub stands : StandsOwn seen from to own (of.Leaf leaf) (one.Leaf (entry.Trim pass bound.range slot bound.before))

  -- the bound that a line asks for is acknowledged in its range's history, and the leaf of each slot that took it has the
  -- trim
  pub record IsTrimmedBetween (ack : Ack) : Type 0 where
    pub bound : Bound
    pub asked : bound_of what ≡ Some bound
    pub range_is : ack.range ≡ bound.range
    pub told : StandsOwn seen from to own (of.Range bound.range)
        (one.Range (range_entry.Trimmed pass bound.before ack))
    pub each : (slot : Slot) → Contains ack.took slot → HasTrim bound slot

  -- the slot that a line retired is retired in its range's history, and was opened on the leaf that the line names
  pub record IsRetiredBetween (slot : Slot) : Type 0 where
    pub withdrawal : Withdrawal
    pub asked : withdrawal_of what ≡ Some withdrawal
    pub told : StandsOwn seen from to own (of.Range withdrawal.range) (one.Range (range_entry.Retired pass slot))
    pub on : Contains (opened_slots (range_history seen withdrawal.range))
        (record { slot = slot; leaf = withdrawal.leaf })

-- in a range's history a line has one place at most
abbrev pub HasOnePlace : List OwnPlace → Type 0
HasOnePlace own = (range : Range) (place other : ℕ) → is_own own (of.Range range) place ≡ true
    → is_own own (of.Range range) other ≡ true → place ≡ other

-- ---- what they made

-- a line made nothing but such entries, and one of each range's history at most
pub record MadeOnly (test : History → BookEntry → Bool) (made : History → List BookEntry) : Type 0 where
  pub own : (history : History) → AllByRecursion (λ e. test history e ≡ true) (made history)
  pub few : (range : Range) → length (made (of.Range range)) ≤ 1

-- ---- what they print

-- the range, and how many replicas of it took the bound and missed it
abbrev pub trim_text : List ZoneSpec → Option Bound → Ack → List ℕ
trim_text zones None ack = []
trim_text zones (Some bound) ack = trimmed_text zones bound.range ack

-- the range and the leaf, and the slot that was retired
abbrev pub retire_text : List ZoneSpec → Option Withdrawal → Slot → List ℕ
retire_text zones None slot = []
retire_text zones (Some withdrawal) slot = retired_text zones withdrawal.range withdrawal.leaf slot

-- or why it was not done
abbrev pub trim_refusal_text : List ZoneSpec → TrimRefusal → List ℕ
trim_refusal_text zones (untrimmed.Unavailable range founds) = codes "Unavailable " ++ down_text zones range founds

abbrev pub retire_refusal_text : RetireRefusal → List ℕ
retire_refusal_text unretired.NotServing = control_refusal_text refusal.NotServing
retire_refusal_text (unretired.LastServing slot) = control_refusal_text (refusal.LastServing slot)
