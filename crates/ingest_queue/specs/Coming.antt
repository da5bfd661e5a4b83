-- What came of the records that were popped.
use Rattle.std.specs.Prelude.{◌≡◌, ◌+◌, ◌<◌, ◌++◌, ◌∷◌, [], ℕ, length, Bool, true, false, List, Option, Some, None, filter, map}
use Rattle.std.specs.Prelude.{Result, Ok, Err, if◌then◌else◌}
use Rattle.std.specs.List.{AllByRecursion, filter_map}
use Rattle.ingest_queue.specs.Ends.{refused_at, row_of}
use Rattle.ingest_queue.specs.Feeding.{IsOf}
use Rattle.ingest_queue.specs.Offers.{AreAnswered, rows_written}
use Rattle.ingest_queue.specs.Pours.{IsTakenBy}
use Rattle.ingest_queue.specs.Roles.{AreFirst, is_of, of_file, put, role, whole}
use Rattle.ingest_queue.specs.declared.came.Came.{Came}
use Rattle.ingest_queue.specs.declared.came.Came.TheVariants as came
use Rattle.ingest_queue.specs.declared.ends.FileEnd.{FileEnd}
use Rattle.ingest_queue.specs.declared.ends.Poured.{Poured}
use Rattle.ingest_queue.specs.declared.refusals.RowRefusal.{RowRefusal}
use Rattle.ingest_queue.specs.declared.refusals.RowRefused.TheVariants as refused
use Rattle.ingest_queue.specs.declared.roles.Role.{Role}
use Rattle.ingest_queue.specs.declared.row_writers.Offer.{Offer}
use Rattle.ingest_queue.specs.declared.row_writers.Wrote.{Wrote}
use Rattle.ingest_queue.specs.declared.row_writers.Wrote.TheVariants as wrote
use Rattle.ingest_queue.specs.declared.turns.Turn.{Turn}
use Rattle.mon_points.specs.declared.records.RowRead.TheVariants as read
use Rattle.mon_value.specs.declared.rows.Row.{Row}

-- the pass that pops alone
abbrev pub pops_alone : List Turn → Role
pops_alone got = role false false true [] [] got

-- the writer takes each row of both files
abbrev pub AllTaken : (Row → Bool) → (Bool → List Turn) → Type 0
AllTaken takes all = (file : Bool) → AllByRecursion (λ (turn : Turn). IsTakenBy takes turn.read) (all file)

-- the record that came, as it was pushed
abbrev pub turn_of : Came → Turn
turn_of (came.Row second number row answer) = record { second = second; number = number; read = read.Row row }
turn_of (came.Fault second number fault) = record { second = second; number = number; read = read.Fault fault }

-- the offer of a row, with its answer
abbrev pub offer_of : Came → Option Offer
offer_of (came.Row second number row answer) = Some (record { row = row; answer = answer })
offer_of (came.Fault second number fault) = None

abbrev pub offered : List Came → List Offer
offered came = filter_map offer_of came

-- a writer was offered the rows that came behind those of before, and refused none for want of memory
abbrev pub IsOffered : List Offer → List Offer → List Came → Type 0
IsOffered before offers came = (offers ≡ before ++ offered came) × AreAnswered (offered came)

-- While more came, the writer went on to take what it takes; whatever it was offered before, it was offered that and then
-- what came; and so with what it tells
pub record HasWritten {S : Type 0} (test test' : Row → Bool) (offers offers' : List Offer)
    (Told Told' : S → List Offer → Type 0) (came came' : List Came) : Type 0 where
  pub takes : test' ≡ test
  pub goes_on : (base : List Offer) → IsOffered base offers came → IsOffered base offers' came'
  pub told : (from : S) (base : List Offer) → Told from (base ++ offered came) → Told' from (base ++ offered came')

-- the records, in their order
abbrev pub turns : List Came → List Turn
turns came = map turn_of came

-- the rows among records
abbrev pub rows_in : List Turn → List Row
rows_in turns = filter_map (λ (turn : Turn). row_of turn.read) turns

-- those that came of one file
abbrev pub came_of : Bool → List Came → List Came
came_of file came = filter (λ (one : Came). is_of file (turn_of one)) came

-- why a record was refused, if it was
abbrev pub refusal_of : Came → Option RowRefusal
refusal_of (came.Row second number row wrote.Written) = None
refusal_of (came.Row second number row (wrote.Refused fault)) = Some (refused_at number (refused.Write fault))
refusal_of (came.Fault second number fault) = Some (refused_at number (refused.Read fault))

-- the end of one file, and of both, where so much came
abbrev pub end_by : List Came → FileEnd
end_by came = record { accepted = rows_written (offered came); refused = filter_map refusal_of came }

abbrev pub poured_by : List Came → Poured
poured_by came = record {
  accepted = rows_written (offered came);
  first = end_by (came_of false came);
  second = end_by (came_of true came);
}

-- ---- one record more

abbrev pub with_row : Row → FileEnd → FileEnd
with_row row end = record { accepted = end.accepted ++ row ∷ []; refused = end.refused }

abbrev pub with_refusal : RowRefusal → FileEnd → FileEnd
with_refusal refusal end = record { accepted = end.accepted; refused = end.refused ++ refusal ∷ [] }

-- the row's file accepts it, behind the other rows
abbrev pub kept_by : Bool → Row → Poured → Poured
kept_by false row poured = record { accepted = poured.accepted; first = with_row row poured.first; second = poured.second }
kept_by true row poured = record { accepted = poured.accepted; first = poured.first; second = with_row row poured.second }

-- the row is written, and its file accepts it
abbrev pub accepted_by : Bool → Row → Poured → Poured
accepted_by second row poured =
    kept_by second row (record { accepted = poured.accepted ++ row ∷ []; first = poured.first; second = poured.second })

-- the record's file refuses it
abbrev pub refused_by : Bool → RowRefusal → Poured → Poured
refused_by false refusal poured =
    record { accepted = poured.accepted; first = with_refusal refusal poured.first; second = poured.second }
refused_by true refusal poured =
    record { accepted = poured.accepted; first = poured.first; second = with_refusal refusal poured.second }

-- the row was answered so
abbrev pub answered_by : Bool → ℕ → Row → Wrote → Poured → Poured
answered_by second number row wrote.Written poured = accepted_by second row poured
answered_by second number row (wrote.Refused fault) poured =
    refused_by second (refused_at number (refused.Write fault)) poured

-- ---- rounds

-- between two rounds: one pass has all rights, what was pushed of each file and what is left of it are the file, and what
-- was popped begins each of them
pub record IsUnderWay (all : Bool → List Turn) (v : Role) (first second : List Turn) : Type 0 where
  pub own : v ≡ whole (put false v) (put true v) v.got
  pub one : put false v ++ first ≡ all false
  pub other : put true v ++ second ≡ all true
  pub of_one : IsOf false first
  pub of_other : IsOf true second
  pub popped : AreFirst all v.got

-- both files came whole
abbrev pub AllCame : (Bool → List Turn) → List Turn → Type 0
AllCame all got = (file : Bool) → of_file file got ≡ all file

-- fewer records are left to push and to pop
abbrev pub IsNearer : List Turn → List Turn → List Came → List Turn → List Turn → List Came → Type 0
IsNearer first second came first' second' came' =
    length first' + length second' + length came < length first + length second + length came'

-- as many are left, and none came
abbrev pub IsStill : List Turn → List Turn → List Came → List Turn → List Turn → List Came → Type 0
IsStill first second came first' second' came' =
    (length first' + length second' ≡ length first + length second) × (came' ≡ came)

-- what two threads did: whether one of them did something, or that one of them ended early
abbrev pub either_of : {E : Type 0} → Result Bool E → Result Bool E → Result Bool E
either_of (Err fault) other = Err fault
either_of (Ok one) (Err fault) = Err fault
either_of (Ok one) (Ok other) = Ok (if one then true else other)
