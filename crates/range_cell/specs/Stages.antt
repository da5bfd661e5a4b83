-- What holds of a write at each stage of its machine, between the range's lock and the acknowledgement.
use Rattle.std.specs.Prelude.{◌≡◌, ◌<◌, ◌+◌, ℕ, true, false, List, [], ◌∷◌, ◌++◌, length, map, nat_eq}
use Rattle.std.specs.List.{AllByRecursion}
use Rattle.know.specs.Knowledge.{Knowledge}
use Rattle.mon_topo.specs.RangeHistories.{IsLegal, serving}
use Rattle.mon_topo.specs.Settings.{Setting}
use Rattle.mon_topo.specs.Zones.{leaves_in}
use Rattle.mon_value.specs.declared.histories.RangeEntry.{RangeEntry}
use Rattle.mon_value.specs.declared.positions.Range.{Range}
use Rattle.mon_value.specs.declared.positions.SlotLeaf.{SlotLeaf}
use Rattle.mon_value.specs.declared.rows.Row.{Row}
use Rattle.mon_value.specs.Histories.{leaf_history}
use Rattle.mon_value.specs.LeafHistories.{is_opened, replica_rows, IsSource}
use Rattle.mon_value.specs.Turns.{Turn, Adds, Hides}
use Rattle.history_book.specs.Seats.{hand_of, times_range, times_room}
use Rattle.history_book.specs.Histories.{AreFronts}
use Rattle.history_book.specs.declared.views.LengthNote.{LengthNote}
use Rattle.std.specs.Prelude.{Contains, Some}
use Rattle.mon_value.specs.declared.positions.Leaf.{Leaf}
use Rattle.range_cell.specs.Rest.{HaveJust}
use Rattle.range_cell.specs.Writing.{HasTurns, HaveSameOpened, IsWriting, ready_count}
use Rattle.write_core.specs.Invariant.{AreAll, IsAtReady, is_asked, is_decided, is_waiting}
use Rattle.write_core.specs.Marks.{replica_of}
use Rattle.write_core.specs.Program.{Acking, Ended, Entering, Inside, Locking, Marked, Not, Reserving, Stage, Verdict}
use Rattle.write_core.specs.Rounds.{Round, is_no_mark_left, round_marks}
use Rattle.write_core.specs.Steps.{IsTurnAtHome, TakesTurn}
use Rattle.write_core.specs.declared.asks.WriteAsk.{WriteAsk}
use Rattle.write_core.specs.declared.asks.WriteAsk.TheVariants as ask
use Rattle.write_core.specs.declared.marks.Mark.{Mark}

-- two replicas have different slots
pub record IsApart (a b : SlotLeaf) : Type 0 where
  pub first : nat_eq a.slot.0 b.slot.0 ≡ false
  pub second : nat_eq b.slot.0 a.slot.0 ≡ false

abbrev pub AreApart : List SlotLeaf → Type 0
AreApart [] = Unit {0}
AreApart (replica ∷ replicas) = AllByRecursion (IsApart replica) replicas × AreApart replicas

-- the replicas' leaves are there, and their slots differ
pub record ArePlaced (setting : Setting) (replicas : List SlotLeaf) : Type 0 where
  pub there : AllByRecursion (λ replica. replica.leaf.0 < length (leaves_in setting.zones)) replicas
  pub apart : AreApart replicas

module _ (range : Range) (turn : Turn) (pass : ℕ) (before : Knowledge) (replicas : List SlotLeaf) where
  -- these replicas were asked so far
  pub record IsSoFar (know : Knowledge) (marks : List Mark) : Type 0 where
    pub writing : IsWriting range turn pass before know marks
    pub serve : map replica_of marks ≡ replicas

  pub record IsAsking (know : Knowledge) (round : Round) : Type 0 where
    pub so_far : IsSoFar know (round_marks round)
    pub asked : AreAll is_asked round.done
    pub waits : AreAll is_waiting round.left
    pub more : is_no_mark_left round.left ≡ false

  pub record IsPutting (know : Knowledge) (round : Round) : Type 0 where
    pub so_far : IsSoFar know (round_marks round)
    pub decided : AreAll is_decided round.done
    pub asked : AreAll is_asked round.left
    pub ready : IsAtReady round.left
    pub more : is_no_mark_left round.left ≡ false

  pub record IsThrough (know : Knowledge) (marks : List Mark) : Type 0 where
    pub so_far : IsSoFar know marks
    pub decided : AreAll is_decided marks

  abbrev pub IsJudged : Knowledge → Verdict → Type 0
  IsJudged know (Not why) = ⊥
  IsJudged know (Marked marks) = IsThrough know marks

  abbrev pub IsAt : Knowledge → Stage → Type 0
  IsAt know Locking = ⊥
  IsAt know (Reserving round) = IsAsking know round
  IsAt know (Entering round) = IsPutting know round
  IsAt know (Inside round at_root in_zone) = ⊥
  IsAt know (Acking verdict) = IsJudged know verdict
  IsAt know (Ended verdict) = ⊥

  -- all replicas are decided, and the acknowledgement is next
  pub record IsThroughAt (know : Knowledge) (stage : Stage) : Type 0 where
    pub marks : List Mark
    pub stage_is : stage ≡ Acking (Marked marks)
    pub through : IsThrough know marks

-- all replicas are decided, wherever the write began, and the turn may be acknowledged
pub record IsConcluding (setting : Setting) (range : Range) (turn : Turn) (history : List RangeEntry) (know : Knowledge)
    (stage : Stage) : Type 0 where
  pub pass : ℕ
  pub begun : Knowledge
  pub through : IsThroughAt range turn pass begun (serving history) know stage
  pub just : HaveJust begun.seen range history
  pub legal : IsLegal setting.held setting.zones setting.points range history
  pub home : IsTurnAtHome setting range turn
  pub takes : TakesTurn setting history turn

-- no leaf is asked for anything next
abbrev pub IsQuiet : WriteAsk → Type 0
IsQuiet ask.Lock = Unit {0}
IsQuiet (ask.Reserve slot leaf) = ⊥
IsQuiet (ask.Enter slot leaf) = ⊥
IsQuiet (ask.RaiseRoot bucket) = Unit {0}
IsQuiet (ask.RaiseZone bucket) = Unit {0}
IsQuiet (ask.Put slot leaf) = Unit {0}
IsQuiet ask.Ack = Unit {0}
IsQuiet ask.Finished = Unit {0}

-- a turn may come behind these rows: a row ends later than those of its series
abbrev pub ComesBehind : List Row → Turn → Type 0
ComesBehind rows (Adds row) = IsSource (rows ++ row ∷ [])
ComesBehind rows (Hides before) = Unit {0}

-- a replica is opened, and the turn may come behind all rows that ever came to it
pub record IsOpenTo (range : Range) (turn : Turn) (know : Knowledge) (replica : SlotLeaf) : Type 0 where
  pub opened : is_opened range replica.slot (leaf_history know.seen replica.leaf) ≡ true
  pub behind : ComesBehind (replica_rows range replica.slot (leaf_history know.seen replica.leaf)) turn

-- a write is on its way, wherever it began
pub record IsSomewhere (setting : Setting) (range : Range) (turn : Turn) (know : Knowledge) (stage : Stage)
    : Type 0 where
  pub pass : ℕ
  pub before : Knowledge
  pub replicas : List SlotLeaf
  pub placed : ArePlaced setting replicas
  pub at : IsAt range turn pass before replicas know stage
  pub home : IsTurnAtHome setting range turn
  pub each : AllByRecursion (IsOpenTo range turn before) replicas

-- A write begins: the caller holds the range, and the turn may come to each replica that serves
pub record IsBeginning (setting : Setting) (range : Range) (turn : Turn) (pass : ℕ) (replicas : List SlotLeaf)
    (know : Knowledge) : Type 0 where
  pub placed : ArePlaced setting replicas
  pub each : AllByRecursion (IsOpenTo range turn know) replicas
  pub number : (hand_of know.purse).own ≡ Some pass
  pub held : 0 < times_range range know.purse.holds
  pub home : IsTurnAtHome setting range turn

-- (by whichever pass)
pub record BeginsSomehow (setting : Setting) (range : Range) (turn : Turn) (replicas : List SlotLeaf)
    (know : Knowledge) : Type 0 where
  pub pass : ℕ
  pub begins : IsBeginning setting range turn pass replicas know

-- how often the turn is still to come at most
abbrev pub needed : Stage → ℕ
needed Locking = 0
needed (Reserving round) = length (round_marks round)
needed (Entering round) = length round.left
needed (Inside round at_root in_zone) = 0
needed (Acking verdict) = 0
needed (Ended verdict) = 0

-- A write is given up: nothing was put, the leaves of these replicas still have room, and what the range's replicas
-- have is known as before
pub record IsWithdrawing (range : Range) (pass : ℕ) (before : Knowledge) (replicas : List SlotLeaf) (know : Knowledge)
    (left : List Mark) : Type 0 where
  pub among : AllByRecursion (λ mark. Contains replicas (replica_of mark)) left
  pub fronts : AreFronts before.seen know.seen
  pub number : (hand_of know.purse).own ≡ Some pass
  pub held : 0 < times_range range know.purse.holds
  pub opened : HaveSameOpened range before.seen know.seen
  pub each : AllByRecursion (λ replica. HasTurns before know range replica.slot replica.leaf []) replicas
  pub own : know.purse.own ≡ before.purse.own
  pub rooms : (leaf : Leaf) → times_room leaf know.purse.rooms
      ≡ times_room leaf before.purse.rooms + ready_count leaf left
  pub notes : (more : List LengthNote) × (know.purse.notes ≡ before.purse.notes ++ more)
  pub holds : know.purse.holds ≡ before.purse.holds
  pub met : know.purse.met ≡ before.purse.met
  pub stock : know.purse.stock ≡ before.purse.stock
  pub lost : know.purse.lost ≡ before.purse.lost
  pub handed : know.handed ≡ before.handed

pub record IsWithdrawn (setting : Setting) (know : Knowledge) (left : List Mark) : Type 0 where
  pub range : Range
  pub pass : ℕ
  pub before : Knowledge
  pub replicas : List SlotLeaf
  pub placed : ArePlaced setting replicas
  pub is : IsWithdrawing range pass before replicas know left
