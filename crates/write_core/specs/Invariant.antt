-- What every interleaving of writes and recoveries keeps.
use Rattle.std.specs.Prelude.{ℕ, suc, ◌≡◌, ◌<◌, ◌≤◌, ◌||◌, Bool, true, false, List, [], ◌∷◌, ◌++◌, length, map}
use Rattle.std.specs.Prelude.{slice_get, Some, None, Contains, if◌then◌else◌}
use Rattle.std.specs.List.{AllByRecursion, flat_map}
use Rattle.mon_hints.specs.Formulas.{is_among}
use Rattle.mon_value.specs.LeafHistories.{IsDownAt, is_down, is_opened, replica_turns}
use Rattle.mon_value.specs.Turns.{Turn}
use Rattle.write_core.specs.Steps.{IsTurnAtHome, TakesTurn, turn_buckets}
use Rattle.mon_value.specs.declared.histories.RangeEntry.TheVariants as range_entry
use Rattle.mon_value.specs.declared.positions.FoundDown.{FoundDown}
use Rattle.mon_value.specs.declared.positions.Leaf.{Leaf}
use Rattle.mon_value.specs.declared.positions.Range.{Range}
use Rattle.mon_value.specs.declared.positions.Slot.{Slot}
use Rattle.mon_value.specs.declared.positions.SlotLeaf.{SlotLeaf}
use Rattle.mon_value.specs.declared.rows.Row.{Row}
use Rattle.mon_topo.specs.HeldHistories.{BeginsWith, IsAtHome, IsBorneOut}
use Rattle.mon_topo.specs.RangeHistories.{IsInZoneOf, IsLegal, left_rows, opened_slots, serving}
use Rattle.mon_topo.specs.RangeHistories.{turn_ack, turns_since}
use Rattle.mon_topo.specs.Zones.{leaves_in, ranges_in}
use Rattle.mon_hints.specs.Hints.{rows_buckets}
use Rattle.write_core.specs.CopySteps.{IsDeniedFor, MayOpen, copy_of, new_replica, next_slot}
use Rattle.write_core.specs.Recovering.{Beginning, Carrying, CopyStage, Copying, Denied, Nearing, NoSource, NoTarget}
use Rattle.write_core.specs.Recovering.{Opens, Outcome, Over, Telling, Within}
use Rattle.write_core.specs.Marks.{ack_of, found_in_mark, is_ready, has_taken, replica_of, some_took}
use Rattle.write_core.specs.Program.{Acking, Ended, Entering, Inside, Locking, Marked, Not, Reserving, Stage, Verdict}
use Rattle.write_core.specs.Rounds.{Round, round_marks}
use Rattle.write_core.specs.Deeds.{HasDone, IsUnused}
use Rattle.mon_topo.specs.Settings.{Setting, zone_of_leaf}
use Rattle.mon_topo.specs.Views.{IsSound, View, of_leaf, of_range}
use Rattle.write_core.specs.World.{Actor, IsPart, Recovers, Recovery, Stander, Stands, World, Writer, Writes, pass_of}
use Rattle.write_core.specs.World.{put_of}
use Rattle.write_core.specs.declared.marks.Fate.{Fate}
use Rattle.write_core.specs.declared.marks.Fate.TheVariants as fate
use Rattle.write_core.specs.declared.marks.Mark.{Mark}

-- ---- fates

abbrev pub is_waiting : Fate → Bool
is_waiting fate.Waiting = true
is_waiting fate.Ready = false
is_waiting fate.Took = false
is_waiting (fate.Missed cut) = false

-- its leaf was asked for room
abbrev pub is_asked : Fate → Bool
is_asked fate.Waiting = false
is_asked fate.Ready = true
is_asked fate.Took = false
is_asked (fate.Missed cut) = true

-- the replica took the row or missed it
abbrev pub is_decided : Fate → Bool
is_decided fate.Waiting = false
is_decided fate.Ready = false
is_decided fate.Took = true
is_decided (fate.Missed cut) = true

-- all replicas are so
abbrev pub AreAll : (Fate → Bool) → List Mark → Type 0
AreAll test = AllByRecursion (λ mark. test mark.fate ≡ true)

-- the replica that a round looks at is ready
abbrev pub IsAtReady : List Mark → Type 0
IsAtReady [] = Unit {0}
IsAtReady (mark ∷ left) = is_ready mark.fate ≡ true

-- ---- replicas

-- a replica was opened, and has had just these turns
pub record HasTurns (view : View) (range : Range) (replica : SlotLeaf) (turns : List Turn) : Type 0 where
  pub opened : is_opened range replica.slot (of_leaf view replica.leaf) ≡ true
  pub all : replica_turns range replica.slot (of_leaf view replica.leaf) ≡ turns

-- no leaf has a replica of the range from this slot on
abbrev pub IsUnopened : View → Range → ℕ → Type 0
IsUnopened view range from =
    (slot : Slot) (leaf : Leaf) → from ≤ slot.0 → is_opened range slot (of_leaf view leaf) ≡ false

-- the replicas that serve have had just the turns since they were opened, and no replica was opened that the range does not know
pub record IsRangeSettled (view : View) (range : Range) : Type 0 where
  pub rows : (replica : SlotLeaf) → Contains (serving (of_range view range)) replica
      → HasTurns view range replica (turns_since replica.slot (of_range view range))
  pub fresh : IsUnopened view range (length (opened_slots (of_range view range)))

-- ---- a write

-- its row fits, and lies in its range, which there is
pub record IsWriteLawful (setting : Setting) (world : World) (writer : Writer) : Type 0 where
  pub at_home : IsTurnAtHome setting writer.range writer.turn
  pub there : writer.range.0 < length world.truth.seen.ranges

-- it holds its range, and has seen all of its history
pub record HasRangeLock (world : World) (i : ℕ) (writer : Writer) : Type 0 where
  pub holder : world.range_holder writer.range.0 ≡ Some i
  pub whole : of_range writer.view writer.range ≡ of_range world.truth writer.range

-- the turns that a replica has had since it was opened, once the write's has come to it
abbrev pub turns_after : World → Writer → Slot → List Turn
turns_after world writer slot = turns_since slot (of_range world.truth writer.range) ++ writer.turn ∷ []

-- the leaf of a replica has its row
pub record HasTaken (world : World) (writer : Writer) (mark : Mark) : Type 0 where
  pub turns : BeginsWith (replica_turns writer.range mark.slot (of_leaf writer.view mark.leaf))
      (turns_after world writer mark.slot)
  pub put : Contains (of_leaf writer.view mark.leaf) (put_of writer mark)

-- the leaf of a replica was down
abbrev pub HasMissed : Writer → Mark → ℕ → Type 0
HasMissed writer mark cut = IsDownAt (of_leaf writer.view mark.leaf) cut

-- it has seen what became of a replica
abbrev pub HasSeen : World → Writer → Mark → Fate → Type 0
HasSeen world writer mark fate.Waiting = Unit {0}
HasSeen world writer mark fate.Ready = Unit {0}
HasSeen world writer mark fate.Took = HasTaken world writer mark
HasSeen world writer mark (fate.Missed cut) = HasMissed writer mark cut

-- the turns that a replica has had
abbrev pub turns_of_mark : World → Writer → Slot → Fate → List Turn
turns_of_mark world writer slot fate =
    if has_taken fate then turns_after world writer slot else turns_since slot (of_range world.truth writer.range)

pub record IsMark (world : World) (writer : Writer) (mark : Mark) : Type 0 where
  pub has : HasTurns world.truth writer.range (replica_of mark) (turns_of_mark world writer mark.slot mark.fate)
  pub seen : HasSeen world writer mark mark.fate

-- its turn can be acknowledged, and it knows what became of each replica that serves
pub record IsGoing (world : World) (i : ℕ) (setting : Setting) (writer : Writer) (marks : List Mark) : Type 0 where
  pub holds : HasRangeLock world i writer
  pub takes : TakesTurn setting (of_range world.truth writer.range) writer.turn
  pub serve : map replica_of marks ≡ serving (of_range world.truth writer.range)
  pub fresh : IsUnopened world.truth writer.range (length (opened_slots (of_range world.truth writer.range)))
  pub each : AllByRecursion (IsMark world writer) marks

-- inside a leaf: someone who knows so much holds the leaf, which is up, has seen all of its history, and each bucket
-- that is needed is raised or is still to be raised
pub record IsInside (setting : Setting) (world : World) (i : ℕ) (view : View) (leaf : Leaf)
    (needed at_root in_zone : List ℕ) : Type 0 where
  pub holder : world.leaf_holder leaf.0 ≡ Some i
  pub whole : of_leaf view leaf ≡ of_leaf world.truth leaf
  pub up : is_down (of_leaf world.truth leaf) ≡ false
  pub root : (bucket : ℕ) → is_among bucket needed ≡ true
      → (view.bits.root (zone_of_leaf setting leaf).0 bucket || is_among bucket at_root) ≡ true
  pub zone : (bucket : ℕ) → is_among bucket needed ≡ true
      → (view.bits.zone leaf.0 bucket || is_among bucket in_zone) ≡ true

abbrev pub IsInFirst : Setting → World → ℕ → Writer → List Mark → List ℕ → List ℕ → Type 0
IsInFirst setting world i writer [] at_root in_zone = Unit {0}
IsInFirst setting world i writer (mark ∷ left) at_root in_zone =
    IsInside setting world i writer.view mark.leaf (turn_buckets setting writer.turn) at_root in_zone

-- a round over leaves to enter
pub record IsEntering (world : World) (i : ℕ) (setting : Setting) (writer : Writer) (round : Round) : Type 0 where
  pub going : IsGoing world i setting writer (round_marks round)
  pub done : AreAll is_decided round.done
  pub left : AreAll is_asked round.left
  pub ready : IsAtReady round.left

-- a round over leaves to ask for room
pub record IsReserving (world : World) (i : ℕ) (setting : Setting) (writer : Writer) (round : Round) : Type 0 where
  pub going : IsGoing world i setting writer (round_marks round)
  pub done : AreAll is_asked round.done
  pub left : AreAll is_waiting round.left

-- what is decided, before it is told to the range
pub record IsRefused (world : World) (i : ℕ) (writer : Writer) : Type 0 where
  pub holds : HasRangeLock world i writer
  pub settled : IsRangeSettled world.truth writer.range

pub record IsDecided (world : World) (i : ℕ) (setting : Setting) (writer : Writer) (marks : List Mark) : Type 0 where
  pub going : IsGoing world i setting writer marks
  pub decided : AreAll is_decided marks

abbrev pub IsAcking : World → ℕ → Setting → Writer → Verdict → Type 0
IsAcking world i setting writer (Not why) = IsRefused world i writer
IsAcking world i setting writer (Marked marks) = IsDecided world i setting writer marks

-- the leaves of these replicas were found down, in their order
pub record HaveFound (view : View) (replicas : List SlotLeaf) (founds : List FoundDown) : Type 0 where
  pub leaves : map (λ found. found.leaf) founds ≡ map (λ replica. replica.leaf) replicas
  pub down : AllByRecursion (λ found. IsDownAt (of_leaf view found.leaf) found.cut) founds

-- an ended write that some replica took has seen its acknowledgement in its range's history; one that none took has
-- found down the leaf of each replica that serves
abbrev pub IsAcked : Writer → Verdict → Type 0
IsAcked writer (Not why) = Unit {0}
IsAcked writer (Marked marks) =
    (some_took marks ≡ true
    → Contains (of_range writer.view writer.range)
    (turn_ack writer.pass writer.turn (ack_of writer.range marks)))
    × (some_took marks ≡ false
    → HaveFound writer.view (serving (of_range writer.view writer.range)) (flat_map found_in_mark marks))

-- what holds of a write that is so far
abbrev pub IsAt : Setting → World → ℕ → Writer → Stage → Type 0
IsAt setting world i writer Locking = Unit {0}
IsAt setting world i writer (Reserving round) = IsReserving world i setting writer round
IsAt setting world i writer (Entering round) = IsEntering world i setting writer round
IsAt setting world i writer (Inside round at_root in_zone) =
    IsEntering world i setting writer round × IsInFirst setting world i writer round.left at_root in_zone
IsAt setting world i writer (Acking verdict) = IsAcking world i setting writer verdict
IsAt setting world i writer (Ended verdict) = IsAcked writer verdict

pub record IsWriter (setting : Setting) (world : World) (i : ℕ) (writer : Writer) : Type 0 where
  pub part : IsPart setting world writer.view
  pub lawful : IsWriteLawful setting world writer
  pub at : IsAt setting world i writer writer.stage
  pub deeds : HasDone world.truth writer writer.stage

-- ---- a recovery

-- its range and its leaf are there, in one zone
pub record IsAimed (setting : Setting) (recovery : Recovery) : Type 0 where
  pub range_there : recovery.range.0 < length (ranges_in setting.zones)
  pub leaf_there : recovery.leaf.0 < length (leaves_in setting.zones)
  pub zoned : IsInZoneOf setting.zones recovery.range recovery.leaf

-- it holds its range, whose replicas are settled, and has seen all of its history
pub record HasLocked (world : World) (i : ℕ) (recovery : Recovery) : Type 0 where
  pub holder : world.range_holder recovery.range.0 ≡ Some i
  pub whole : of_range recovery.view recovery.range ≡ of_range world.truth recovery.range
  pub settled : IsRangeSettled world.truth recovery.range

-- and one more replica may be opened
pub record IsCopying (setting : Setting) (world : World) (i : ℕ) (recovery : Recovery) : Type 0 where
  pub locked : HasLocked world i recovery
  pub may : MayOpen setting (of_range world.truth recovery.range) recovery

-- it has the rows that are left of its range, which are a source and at home there
pub record HasCopied (setting : Setting) (world : World) (i : ℕ) (recovery : Recovery) (rows : List Row) : Type 0 where
  pub copying : IsCopying setting world i recovery
  pub all : rows ≡ left_rows (of_range world.truth recovery.range)
  pub at_home : (row : Row) → Contains rows row → IsAtHome setting.held setting.zones recovery.range row

-- its leaf has the new replica with the rows that were left, of which the range does not know yet
pub record HasOpened (setting : Setting) (world : World) (i : ℕ) (recovery : Recovery) : Type 0 where
  pub holder : world.range_holder recovery.range.0 ≡ Some i
  pub whole : of_range recovery.view recovery.range ≡ of_range world.truth recovery.range
  pub rows : (replica : SlotLeaf) → Contains (serving (of_range world.truth recovery.range)) replica
      → HasTurns world.truth recovery.range replica (turns_since replica.slot (of_range world.truth recovery.range))
  pub fresh : IsUnopened world.truth recovery.range (suc (length (opened_slots (of_range world.truth recovery.range))))
  pub may : MayOpen setting (of_range world.truth recovery.range) recovery
  pub has : HasTurns world.truth recovery.range (new_replica recovery (of_range world.truth recovery.range)) []
  pub entered : Contains (of_leaf recovery.view recovery.leaf)
      (copy_of recovery (of_range world.truth recovery.range) (left_rows (of_range world.truth recovery.range)))

-- of the replicas that serve it has asked some, whose leaves were down, and is to ask the others
pub record IsAskingSources (world : World) (recovery : Recovery) (founds : List FoundDown) (sources : List SlotLeaf)
    : Type 0 where
  pub asked : List SlotLeaf
  pub all : asked ++ sources ≡ serving (of_range world.truth recovery.range)
  pub found : HaveFound recovery.view asked founds

-- it has seen why it comes out so: that its replica was opened, or what was in its way
abbrev pub HasCause : Recovery → Outcome → Type 0
HasCause recovery (Opens slot) =
    Contains (of_range recovery.view recovery.range) (range_entry.Opened recovery.pass slot recovery.leaf)
HasCause recovery (Denied why) = IsDeniedFor (of_range recovery.view recovery.range) recovery.leaf why
HasCause recovery (NoSource founds) =
    HaveFound recovery.view (serving (of_range recovery.view recovery.range)) founds
HasCause recovery (NoTarget cut) = IsDownAt (of_leaf recovery.view recovery.leaf) cut

abbrev pub IsTelling : Setting → World → ℕ → Recovery → Outcome → Type 0
IsTelling setting world i recovery (Opens slot) =
    HasOpened setting world i recovery × (slot ≡ next_slot (of_range world.truth recovery.range))
IsTelling setting world i recovery (Denied why) = HasLocked world i recovery × HasCause recovery (Denied why)
IsTelling setting world i recovery (NoSource founds) =
    HasLocked world i recovery × HasCause recovery (NoSource founds)
IsTelling setting world i recovery (NoTarget cut) = HasLocked world i recovery × HasCause recovery (NoTarget cut)

-- what holds of a recovery that is so far
abbrev pub IsCopyAt : Setting → World → ℕ → Recovery → CopyStage → Type 0
IsCopyAt setting world i recovery Beginning = Unit {0}
IsCopyAt setting world i recovery (Copying founds sources) =
    IsCopying setting world i recovery × IsAskingSources world recovery founds sources
IsCopyAt setting world i recovery (Carrying rows) = HasCopied setting world i recovery rows
IsCopyAt setting world i recovery (Nearing rows) = HasCopied setting world i recovery rows
IsCopyAt setting world i recovery (Within rows at_root in_zone) =
    HasCopied setting world i recovery rows
    × IsInside setting world i recovery.view recovery.leaf (rows_buckets setting.buckets_of rows) at_root in_zone
IsCopyAt setting world i recovery (Telling outcome) = IsTelling setting world i recovery outcome
IsCopyAt setting world i recovery (Over outcome) = HasCause recovery outcome

pub record IsRecovery (setting : Setting) (world : World) (i : ℕ) (recovery : Recovery) : Type 0 where
  pub part : IsPart setting world recovery.view
  pub aimed : IsAimed setting recovery
  pub at : IsCopyAt setting world i recovery recovery.stage

-- ---- someone who stands by

-- has written nothing by its pass
pub record IsStander (setting : Setting) (world : World) (stander : Stander) : Type 0 where
  pub part : IsPart setting world stander.view
  pub unused : IsUnused world.truth stander.pass

-- ---- the whole

abbrev pub IsActor : Setting → World → ℕ → Actor → Type 0
IsActor setting world i (Writes writer) = IsWriter setting world i writer
IsActor setting world i (Recovers recovery) = IsRecovery setting world i recovery
IsActor setting world i (Stands stander) = IsStander setting world stander

-- each actor has a pass of its own
abbrev pub HaveOwnPasses : (ℕ → Actor) → Type 0
HaveOwnPasses actors = (i j : ℕ) → pass_of (actors i) ≡ pass_of (actors j) → i ≡ j

-- the histories are well formed, legal and held, and all is led to; so is what each leaf, each range and each actor
-- has seen; a leaf and a range have seen all of their own history; a range that nobody holds has its replicas
-- settled; and each actor has a pass of its own
pub record IsKept (setting : Setting) (world : World) : Type 0 where
  pub truth : IsSound setting world.truth
  pub leaves : (leaf : Leaf) → IsPart setting world (world.leaves leaf.0)
  pub ranges : (range : Range) → IsPart setting world (world.ranges range.0)
  pub whole_leaves : (leaf : Leaf) → of_leaf (world.leaves leaf.0) leaf ≡ of_leaf world.truth leaf
  pub whole_ranges : (range : Range) → of_range (world.ranges range.0) range ≡ of_range world.truth range
  pub settled : (range : Range) → world.range_holder range.0 ≡ None → IsRangeSettled world.truth range
  pub actors : (i : ℕ) → IsActor setting world i (world.actors i)
  pub passes : HaveOwnPasses world.actors

-- ---- the beginning and the end

-- a write that has not begun has seen all that there is; nobody has put anything by its pass
pub record IsNewWriter (setting : Setting) (world : World) (writer : Writer) : Type 0 where
  pub lawful : IsWriteLawful setting world writer
  pub stage : writer.stage ≡ Locking
  pub view : writer.view ≡ world.truth
  pub unused : IsUnused world.truth writer.pass

-- so has a recovery
pub record IsNewRecovery (setting : Setting) (world : World) (recovery : Recovery) : Type 0 where
  pub aimed : IsAimed setting recovery
  pub stage : recovery.stage ≡ Beginning
  pub view : recovery.view ≡ world.truth

-- so has someone who stands by, by whose pass nobody has put anything either
pub record IsNewStander (world : World) (stander : Stander) : Type 0 where
  pub view : stander.view ≡ world.truth
  pub unused : IsUnused world.truth stander.pass

abbrev pub IsNewActor : Setting → World → Actor → Type 0
IsNewActor setting world (Writes writer) = IsNewWriter setting world writer
IsNewActor setting world (Recovers recovery) = IsNewRecovery setting world recovery
IsNewActor setting world (Stands stander) = IsNewStander world stander

-- nobody has begun, and everyone has seen all that there is; each actor has a pass of its own
pub record IsNewWorld (setting : Setting) (world : World) : Type 0 where
  pub sound : IsSound setting world.truth
  pub settled : (range : Range) → IsRangeSettled world.truth range
  pub leaves : (leaf : Leaf) → world.leaves leaf.0 ≡ world.truth
  pub ranges : (range : Range) → world.ranges range.0 ≡ world.truth
  pub actors : (i : ℕ) → IsNewActor setting world (world.actors i)
  pub passes : HaveOwnPasses world.actors

-- a write has seen its acknowledgement in its range's history, which is legal; and the leaves' histories bear it out:
-- the leaf of each replica that took the turn has it, and that of each one that missed it was down
pub record IsAcknowledged (setting : Setting) (writer : Writer) (marks : List Mark) : Type 0 where
  pub legal : IsLegal setting.held setting.zones setting.points writer.range (of_range writer.view writer.range)
  pub place : ℕ
  pub there : slice_get (of_range writer.view writer.range) place
      ≡ Some (turn_ack writer.pass writer.turn (ack_of writer.range marks))
  pub borne_out : IsBorneOut writer.view.seen writer.range (of_range writer.view writer.range) place
      (turn_ack writer.pass writer.turn (ack_of writer.range marks))

-- a recovery has seen the opening of its replica in its range's history, which is legal; and its leaf's history bears
-- it out: the leaf took over the rows that were left before
pub record IsRecovered (setting : Setting) (recovery : Recovery) (slot : Slot) : Type 0 where
  pub legal : IsLegal setting.held setting.zones setting.points recovery.range
      (of_range recovery.view recovery.range)
  pub place : ℕ
  pub there : slice_get (of_range recovery.view recovery.range) place
      ≡ Some (range_entry.Opened recovery.pass slot recovery.leaf)
  pub borne_out : IsBorneOut recovery.view.seen recovery.range (of_range recovery.view recovery.range) place
      (range_entry.Opened recovery.pass slot recovery.leaf)

-- a recovery has come out so
abbrev pub ComesOut : Setting → Recovery → Outcome → Type 0
ComesOut setting recovery (Opens slot) = IsRecovered setting recovery slot
ComesOut setting recovery (Denied why) = HasCause recovery (Denied why)
ComesOut setting recovery (NoSource founds) = HasCause recovery (NoSource founds)
ComesOut setting recovery (NoTarget cut) = HasCause recovery (NoTarget cut)
