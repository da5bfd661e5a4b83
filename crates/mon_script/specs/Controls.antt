-- Lines that take a leaf down or up, or that open, trim or retire a range's replicas, of scripts and of schedules: what
-- stands behind their first word, and what they print.
use Rattle.std.specs.Prelude.{ℕ, ℤ, pos, ◌<◌, ◌≤ℤ◌, Bool, List, [], ◌∷◌, ◌++◌, length, Option, Some, None, Result, Ok, Err}
use Rattle.std.specs.Prelude.{if◌then◌else◌, codes}
use Rattle.std.specs.Fmt.{decimal}
use Rattle.std.specs.Option.{ok_or}
use Rattle.mon_script.specs.Lines.{cut_at, has_space, line_feed, moment_of, space}
use Rattle.mon_script.specs.declared.controls.ControlForm.{ControlForm}
use Rattle.mon_script.specs.declared.controls.ControlForm.TheVariants as control
use Rattle.mon_script.specs.declared.controls.ControlWord.{ControlWord}
use Rattle.mon_script.specs.declared.controls.ControlWord.TheVariants as word
use Rattle.mon_script.specs.declared.control_texts.ControlRefusal.{ControlRefusal}
use Rattle.mon_script.specs.declared.control_texts.ControlRefusal.TheVariants as why
use Rattle.mon_script.specs.declared.faults.ScriptKind.{ScriptKind}
use Rattle.mon_script.specs.declared.faults.ScriptKind.TheVariants as kind
use Rattle.mon_topo.specs.RangeHistories.{IsInZoneOf}
use Rattle.mon_topo.specs.Zones.{founds_text, leaf_named, leaf_text, leaves_in, range_named, range_text, ranges_in}
use Rattle.mon_topo.specs.Zones.{share_zone}
use Rattle.mon_topo.specs.declared.zones.ZoneSpec.{ZoneSpec}
use Rattle.mon_value.specs.Answers.{◌>>=◌}
use Rattle.mon_value.specs.Same.{same_text}
use Rattle.mon_value.specs.declared.histories.Ack.{Ack}
use Rattle.mon_value.specs.declared.positions.FoundDown.{FoundDown}
use Rattle.mon_value.specs.declared.positions.Leaf.{Leaf}
use Rattle.mon_value.specs.declared.positions.Range.{Range}
use Rattle.mon_value.specs.declared.positions.Slot.{Slot}

-- What such a line says, or why it says nothing.

-- the first word
abbrev pub control_word : List ℕ → Option ControlWord
control_word text =
    if same_text text (codes "down") then Some word.Down
    else if same_text text (codes "up") then Some word.Up
    else if same_text text (codes "recover") then Some word.Recover
    else if same_text text (codes "trim") then Some word.Trim
    else if same_text text (codes "retire") then Some word.Retire else None

-- a word that is a leaf's name
abbrev pub leaf_of : List ZoneSpec → List ℕ → Result Leaf ScriptKind
leaf_of zones name = if has_space name then Err kind.BadWord else ok_or (leaf_named zones name) kind.UnknownLeaf

-- a word that is a range's name
abbrev pub range_of : List ZoneSpec → List ℕ → Result Range ScriptKind
range_of zones name = ok_or (range_named zones name) kind.UnknownRange

-- a word that is a time
abbrev pub time_of : List ℕ → Result ℤ ScriptKind
time_of word = if has_space word then Err kind.BadWord else ok_or (moment_of word) kind.BadNumber

-- a range that is recovered onto a leaf, where both are of one zone
abbrev pub zoned_control : List ZoneSpec → Range → Leaf → Result ControlForm ScriptKind
zoned_control zones range leaf =
    if share_zone zones range leaf then Ok (control.Recover range leaf) else Err kind.NotInZone

-- the names of a range and of a leaf: a leaf that there isn't is told before a range that there isn't
abbrev pub recover_control : List ZoneSpec → List ℕ → List ℕ → Result ControlForm ScriptKind
recover_control zones range leaf = do
  found ← leaf_of zones leaf
  of ← range_of zones range
  zoned_control zones of found

-- a range's name and a time: what is no time is told before a range that there isn't
abbrev pub trim_control : List ZoneSpec → List ℕ → List ℕ → Result ControlForm ScriptKind
trim_control zones range before = do
  time ← time_of before
  of ← range_of zones range
  Ok (control.Trim of time)

-- the names of a range and of a leaf, in whichever zone
abbrev pub retire_control : List ZoneSpec → List ℕ → List ℕ → Result ControlForm ScriptKind
retire_control zones range leaf = do
  found ← leaf_of zones leaf
  of ← range_of zones range
  Ok (control.Retire of found)

-- `down` and `up` have a leaf's name; `recover` has a range's name and that of a leaf in its zone; `trim` has a range's
-- name and a time; `retire` has a range's name and a leaf's
abbrev pub control_of : List ZoneSpec → ControlWord → List ℕ → Result ControlForm ScriptKind
control_of zones word.Down rest = do
  leaf ← leaf_of zones rest
  Ok (control.Down leaf)
control_of zones word.Up rest = do
  leaf ← leaf_of zones rest
  Ok (control.Up leaf)
control_of zones word.Recover rest = do
  words ← ok_or (cut_at space rest) kind.BadWord
  recover_control zones words.0 words.1
control_of zones word.Trim rest = do
  words ← ok_or (cut_at space rest) kind.BadWord
  trim_control zones words.0 words.1
control_of zones word.Retire rest = do
  words ← ok_or (cut_at space rest) kind.BadWord
  retire_control zones words.0 words.1

-- What holds of it.

-- a range and a leaf are there, in one zone
pub record IsRecoverable (zones : List ZoneSpec) (range : Range) (leaf : Leaf) : Type 0 where
  pub range_there : range.0 < length (ranges_in zones)
  pub leaf_there : leaf.0 < length (leaves_in zones)
  pub zoned : IsInZoneOf zones range leaf

-- a leaf or a range that is named is there, and a time is no less than 0
abbrev pub IsLawfulControl : List ZoneSpec → ControlForm → Type 0
IsLawfulControl zones (control.Down leaf) = leaf.0 < length (leaves_in zones)
IsLawfulControl zones (control.Up leaf) = leaf.0 < length (leaves_in zones)
IsLawfulControl zones (control.Recover range leaf) = IsRecoverable zones range leaf
IsLawfulControl zones (control.Trim range before) = (range.0 < length (ranges_in zones)) × (pos 0 ≤ℤ before)
IsLawfulControl zones (control.Retire range leaf) =
    (range.0 < length (ranges_in zones)) × (leaf.0 < length (leaves_in zones))

-- What it prints.

abbrev pub line_end : List ℕ
line_end = line_feed ∷ []

-- which way a leaf goes
abbrev pub way_text : Bool → List ℕ
way_text down = if down then codes "down" else codes "up"

-- a leaf went down, or came up
abbrev pub switched_text : List ZoneSpec → Leaf → Bool → List ℕ
switched_text zones leaf down =
    way_text down ++ (codes " " ++ (leaf_text zones leaf ++ (codes ": done" ++ line_end)))

-- a range was recovered onto a leaf, in this slot
abbrev pub recovered_text : List ZoneSpec → Range → Leaf → Slot → List ℕ
recovered_text zones range leaf slot =
    codes "recover " ++ (range_text zones range ++ (codes " " ++ (leaf_text zones leaf
    ++ (codes ": slot " ++ (decimal slot.0 ++ line_end)))))

-- a range was trimmed: so many of its replicas took the bound, and so many missed it
abbrev pub trimmed_text : List ZoneSpec → Range → Ack → List ℕ
trimmed_text zones range ack =
    codes "trim " ++ (range_text zones range ++ (codes ": took " ++ (decimal (length ack.took)
    ++ (codes ", missed " ++ (decimal (length ack.missed) ++ line_end)))))

-- a range's replica on a leaf, which had this slot, serves no more
abbrev pub retired_text : List ZoneSpec → Range → Leaf → Slot → List ℕ
retired_text zones range leaf slot =
    codes "retire " ++ (range_text zones range ++ (codes " " ++ (leaf_text zones leaf
    ++ (codes ": slot " ++ (decimal slot.0 ++ line_end)))))

-- why it was not done
abbrev pub control_refusal_text : ControlRefusal → List ℕ
control_refusal_text (why.AlreadyDown cut) = codes "AlreadyDown " ++ decimal cut
control_refusal_text (why.AlreadyUp cut) = codes "AlreadyUp " ++ decimal cut
control_refusal_text (why.SwitchesSpent count) = codes "SwitchesSpent " ++ decimal count
control_refusal_text (why.Serving slot) = codes "Serving " ++ decimal slot.0
control_refusal_text why.ThreeServing = codes "ThreeServing"
control_refusal_text (why.SlotsSpent count) = codes "SlotsSpent " ++ decimal count
control_refusal_text (why.TargetDown cut) = codes "TargetDown " ++ decimal cut
control_refusal_text why.NotServing = codes "NotServing"
control_refusal_text (why.LastServing slot) = codes "LastServing " ++ decimal slot.0

-- or the leaves of all replicas that serve were found down
abbrev pub source_down_text : List ZoneSpec → List FoundDown → List ℕ
source_down_text zones founds = codes "SourceDown:" ++ founds_text zones founds
