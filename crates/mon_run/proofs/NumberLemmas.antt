-- How many callers a script splits off, and that the first caller has every number.
use Rattle.std.proofs.Common.{◌≡◌, ◌≤◌, ◌<◌, ◌+◌, ◌*◌, ◌^◌, ℕ, zero, suc, nat_eq, Option, Some, None, option_map}
use Rattle.std.proofs.Common.{List, []}
use Rattle.std.proofs.Common.{◌∙◌, ◌∷◌, ◌++◌, length, ap, sym, subst, arith}
use Rattle.std.proofs.lemmas.List.{length-append}
use Rattle.std.proofs.Math.Nat.{mul-le-mul_right}
use Rattle.std.specs.List.{count_by, sum_by}
use Rattle.std.specs.Prelude.{option_to_list}
use Rattle.history_book.proofs.PurseLemmas.{among_yes}
use Rattle.history_book.specs.Numbers.{numbers_between, times_among}
use Rattle.history_book.specs.Seats.{HasEveryNumber}
use Rattle.history_book.specs.declared.numbers.Numbers.{Numbers}
use Rattle.history_book.specs.declared.numbers.TheConstants.{NUMBER_END}
use Rattle.history_book.specs.declared.views.Kept.{Kept}
use Rattle.know.specs.Knowledge.{Knowledge}
use Rattle.mon_config.specs.declared.config.Config.{Config}
use Rattle.mon_script.specs.declared.places.TheConstants.{MOST_LINES}
use Rattle.mon_script.specs.declared.script.ScriptLine.{ScriptLine}
use Rattle.mon_store.specs.Beginnings.{IsFirst}
use Rattle.mon_value.specs.declared.histories.Histories.{Histories}
use Rattle.mon_run.proofs.BlockLemmas.{IsBlock}
use Rattle.part_runs.specs.PartsDone.{CanSplit}

-- ---- the first caller

abbrev times_of : ℕ → Option Kept → List Kept → Numbers → List Numbers → ℕ
times_of n own met stock lost =
    count_by (λ (kept : Kept). nat_eq kept.number n) (option_to_list own ++ met) + times_among n stock
    + sum_by (times_among n) lost

every_at : (own : Histories) (n : ℕ) → n < NUMBER_END
    → 0 < times_of n (Some (record { number = 0; own = own })) [] (numbers_between 1 NUMBER_END) []
every_at own zero low = omega arith
every_at own (suc n) low = let e = among_yes (suc n) 1 NUMBER_END (omega arith) (omega arith) in omega arith

own_zero : (own : Option Kept) → option_map (λ (kept : Kept). kept.number) own ≡ Some 0
    → (entries : Histories) × (own ≡ Some (record { number = 0; own = entries }))
own_zero None e = absurd cc
own_zero (Some kept) e =
    let is : kept.number ≡ 0 = cc in
    (kept.own, λ i. Some (record { number = is i; own = kept.own }))

pub every_first : (config : Config) (know : Knowledge) → IsFirst config know → HasEveryNumber know.purse
every_first config know first n low =
    let purse = know.purse in
    let own = own_zero purse.own first.number in
    subst (λ (o : Option Kept). 0 < times_of n o purse.met purse.stock purse.lost) (sym own.1)
    (subst (λ (m : List Kept). 0 < times_of n (Some (record { number = 0; own = own.0 })) m purse.stock purse.lost)
    (sym first.met)
    (subst (λ (s : Numbers). 0 < times_of n (Some (record { number = 0; own = own.0 })) [] s purse.lost)
    (sym first.stock)
    (subst (λ (l : List Numbers). 0 < times_of n (Some (record { number = 0; own = own.0 })) []
    (numbers_between 1 NUMBER_END) l) (sym first.lost) (every_at own.0 n low))))

-- ---- callers to split off

pub split_less : (count more : ℕ) (know : Knowledge) → count ≤ more → CanSplit more know → CanSplit count know
split_less count more know few can =
    record { room = omega (arith, can.room, mul-le-mul_right (2 ^ 32 + 1) few) }

split_stock : (count : ℕ) (stock : Numbers) (know : Knowledge) → know.purse.stock ≡ stock
    → stock.from + count * (2 ^ 32 + 1) ≤ stock.to → CanSplit count know
split_stock count stock know is room = record {
  room = subst (λ (s : Numbers). s.from + count * (2 ^ 32 + 1) ≤ s.to) (sym is) room;
}

pub split_kept : (count : ℕ) (know known : Knowledge) → known.purse.stock ≡ know.purse.stock → CanSplit count know
    → CanSplit count known
split_kept count know known same can = split_stock count know.purse.stock known same can.room

pub split_first : (config : Config) (know : Knowledge) (count : ℕ) → IsFirst config know → count ≤ MOST_LINES
    → CanSplit count know
split_first config know count first few =
    split_stock count (numbers_between 1 NUMBER_END) know first.stock
    (omega (arith, mul-le-mul_right (2 ^ 32 + 1) few))

-- a block and what is left have no more lines than there are
pub block_room : {line : ScriptLine} {behind : List ScriptLine} (lines left : List ScriptLine)
    → IsBlock line behind lines left → length lines + length left ≤ 1 + length behind
block_room {line} {behind} lines left is =
    let all : length behind ≡ length lines + length (is.ends.end ∷ left) =
    ap length is.ends.split ∙ length-append lines (is.ends.end ∷ left) in
    omega (arith, all)
