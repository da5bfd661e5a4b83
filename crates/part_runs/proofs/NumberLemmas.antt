-- The numbers of a block's callers: each comes off the stock, and none is lost.
use Rattle.std.proofs.Common.{◌≡◌, ℕ, zero, suc, ◌+◌, ◌-◌, ◌*◌, ◌<◌, ◌≤◌, nat_eq, Bool, true, false, cond}
use Rattle.std.proofs.Common.{List, [], ◌∷◌, ◌++◌, Some, None, refl, sym, ap, ◌∙◌, subst, arith}
use Rattle.std.specs.Prelude.{Option, option_map, option_to_list, ◌^◌, if◌then◌else◌}
use Rattle.std.specs.List.{count_by, sum_by}
use Rattle.std.proofs.lemmas.List.Sums.{sum_by-cons}
use Rattle.std.proofs.Math.Nat.{suc-mul}
use Rattle.history_book.specs.Numbers.{are_many, times_among}
use Rattle.history_book.specs.Seats.{HasEveryNumber, first_handed, kept_in, met_purse, times_lost}
use Rattle.history_book.specs.Seats.{times_number, with_stock_handed}
use Rattle.history_book.specs.declared.numbers.Numbers.{Numbers}
use Rattle.history_book.specs.declared.numbers.TheConstants.{SHARE}
use Rattle.history_book.specs.declared.views.Kept.{Kept}
use Rattle.history_book.specs.declared.views.Purse.{Purse}
use Rattle.know.specs.Knowledge.{Knowledge, after_numbering, meeting}
use Rattle.line_runs.specs.LineWrites.{KeepsItsPlace}
use Rattle.part_runs.specs.Courses.{HaveMet, Way, after_begun, begun}
use Rattle.part_runs.specs.PartsDone.{CanSplit}

-- ---- a stock that is long enough

step_by : (from to share count : ℕ) (b : Bool) → from + suc count * (share + 1) ≤ to
    → from + 1 + count * (share + 1) ≤ (if b then to - share else to)
step_by from to share count true room =
    omega (arith, room, suc-mul count (share + 1))
step_by from to share count false room =
    omega (arith, room, suc-mul count (share + 1))

pub can_split_on : (count : ℕ) (know : Knowledge) → CanSplit (suc count) know → CanSplit count (after_numbering know)
can_split_on count know can = record {
  room = step_by know.purse.stock.from know.purse.stock.to SHARE count (are_many know.purse.stock) can.room;
}

some_by : (from to share count : ℕ) → from + suc count * (share + 1) ≤ to → from < to
some_by from to share count room =
    omega (arith, room, suc-mul count (share + 1))

pub can_split_one : (count : ℕ) (know : Knowledge) → CanSplit (suc count) know
    → know.purse.stock.from < know.purse.stock.to
can_split_one count know can = some_by know.purse.stock.from know.purse.stock.to SHARE count can.room

begun_split : (count n : ℕ) (know : Knowledge) → CanSplit (count + n) know → CanSplit n (after_begun count know)
begun_split zero n know can = let e : 0 + n ≡ n = omega arith in subst (λ m. CanSplit m know) e can
begun_split (suc count) n know can =
    let e : suc count + n ≡ suc (count + n) = omega arith in
    begun_split count n (after_numbering know)
    (can_split_on (count + n) know (subst (λ m. CanSplit m know) e can))

met_stock : (ways : List Way) (before after : Knowledge) → HaveMet ways before after
    → after.purse.stock ≡ before.purse.stock
met_stock [] before after met = ap (λ (know : Knowledge). know.purse.stock) met
met_stock (way ∷ ways) before after met = met_stock ways (meeting way.know before) after met.2

pub block_split : (count n : ℕ) (know after : Knowledge) (ways : List Way) → HaveMet ways (after_begun count know) after
    → CanSplit (count + n) know → CanSplit n after
block_split count n know after ways met can =
    let can_then = begun_split count n know can in
    let same = met_stock ways (after_begun count know) after met in
    record { room = subst (λ stock. stock.from + n * (2 ^ 32 + 1) ≤ stock.to) (sym same) can_then.room }

-- ---- numbers are counted

count_kept : (n : ℕ) (met : List Kept) (a b : Option Kept)
    → option_map (λ (kept : Kept). kept.number) a ≡ option_map (λ (kept : Kept). kept.number) b
    → count_by (λ (kept : Kept). nat_eq kept.number n) (option_to_list a ++ met)
    ≡ count_by (λ (kept : Kept). nat_eq kept.number n) (option_to_list b ++ met)
count_kept n met None None e = refl
count_kept n met None (Some b) e = absurd cc
count_kept n met (Some a) None e = absurd cc
count_kept n met (Some a) (Some b) e =
    let same : a.number ≡ b.number = cc in
    sum_by-cons (λ (kept : Kept). cond (nat_eq kept.number n) 1 0) a met
    ∙ ap (λ m. cond (nat_eq m n) 1 0 + sum_by (λ (kept : Kept). cond (nat_eq kept.number n) 1 0) met) same
    ∙ sym (sum_by-cons (λ (kept : Kept). cond (nat_eq kept.number n) 1 0) b met)

-- ---- sums

still_some : (a b : ℕ) → a ≡ b → 0 < b → 0 < a
still_some a b e some = omega arith

none_more : (a : ℕ) → a + 0 ≡ a
none_more a = omega arith

one_begun : (left rest one less all : ℕ) → less + one ≡ all → left + rest ≡ less → left + (one + rest) ≡ all
one_begun left rest one less all e f = omega arith

one_met : (before one mid rest after : ℕ) → mid ≡ before + one → after ≡ mid + rest → after ≡ before + (one + rest)
one_met before one mid rest after e f = omega arith

all_back : (left some all ways after : ℕ) → left + some ≡ all → after ≡ left + ways → ways ≡ some → after ≡ all
all_back left some all ways after e f g = omega arith

-- ---- what lines keep

-- a line that keeps its place has each number as often
pub kept_times : (n : ℕ) (before after : Knowledge) → KeepsItsPlace before after
    → times_number n after.purse ≡ times_number n before.purse
kept_times n before after keeps =
    let own : count_by (λ (kept : Kept). nat_eq kept.number n) (option_to_list after.purse.own ++ after.purse.met)
    ≡ count_by (λ (kept : Kept). nat_eq kept.number n) (option_to_list before.purse.own ++ before.purse.met)
    = count_kept n after.purse.met after.purse.own before.purse.own keeps.number
    ∙ ap (λ met. count_by (λ (kept : Kept). nat_eq kept.number n) (option_to_list before.purse.own ++ met)) keeps.met in
    ap (λ m. m + times_among n after.purse.stock + times_lost n after.purse) own
    ∙ ap (λ stock. times_number_of before stock + times_lost n after.purse) keeps.stock
    ∙ ap (λ m. times_number_of before before.purse.stock + m) (keeps.lost n)
  where
    times_number_of : Knowledge → Numbers → ℕ
    times_number_of know stock = count_by (λ (kept : Kept). nat_eq kept.number n) (kept_in know.purse)
        + times_among n stock

pub kept_every : (before after : Knowledge) → KeepsItsPlace before after → HasEveryNumber before.purse
    → HasEveryNumber after.purse
kept_every before after keeps every n less =
    still_some (times_number n after.purse) (times_number n before.purse) (kept_times n before after keeps)
    (every n less)

-- how often a number stands with the callers of some lines
abbrev pub times_in : ℕ → List Way → ℕ
times_in n [] = 0
times_in n (way ∷ ways) = times_number n way.know.purse + times_in n ways

module _
    (handed : (n : ℕ) (purse : Purse) → purse.stock.from < purse.stock.to
    → times_number n (with_stock_handed purse) + times_number n (first_handed purse) ≡ times_number n purse)
    (both : (n : ℕ) (purse other : Purse)
    → times_number n (met_purse purse other) ≡ times_number n purse + times_number n other) where
  begun_times : (n count : ℕ) (know : Knowledge) → CanSplit count know
      → times_number n (after_begun count know).purse + times_in n (begun count know) ≡ times_number n know.purse
  begun_times n zero know can = none_more (times_number n know.purse)
  begun_times n (suc count) know can =
      one_begun (times_number n (after_begun count (after_numbering know)).purse)
      (times_in n (begun count (after_numbering know))) (times_number n (first_handed know.purse))
      (times_number n (with_stock_handed know.purse)) (times_number n know.purse)
      (handed n know.purse (can_split_one count know can))
      (begun_times n count (after_numbering know) (can_split_on count know can))

  met_times : (n : ℕ) (ways : List Way) (before after : Knowledge) → HaveMet ways before after
      → times_number n after.purse ≡ times_number n before.purse + times_in n ways
  met_times n [] before after met =
      ap (λ (know : Knowledge). times_number n know.purse) met ∙ sym (none_more (times_number n before.purse))
  met_times n (way ∷ ways) before after met =
      one_met (times_number n before.purse) (times_number n way.know.purse)
      (times_number n (met_purse before.purse way.know.purse)) (times_in n ways) (times_number n after.purse)
      (both n before.purse way.know.purse) (met_times n ways (meeting way.know before) after met.2)

  pub every_number : (count : ℕ) (know after : Knowledge) (ways : List Way) → CanSplit count know
      → ((n : ℕ) → times_in n ways ≡ times_in n (begun count know)) → HaveMet ways (after_begun count know) after
      → HasEveryNumber know.purse → HasEveryNumber after.purse
  every_number count know after ways can same met every n less =
      still_some (times_number n after.purse) (times_number n know.purse)
      (all_back (times_number n (after_begun count know).purse) (times_in n (begun count know))
      (times_number n know.purse) (times_in n ways) (times_number n after.purse) (begun_times n count know can)
      (met_times n ways (after_begun count know) after met) (same n))
      (every n less)
