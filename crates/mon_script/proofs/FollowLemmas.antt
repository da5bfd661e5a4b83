-- The moments that a line says are lawful, and each is later than the one before it.
use Rattle.std.proofs.Common.{◌≡◌, ◌≤◌, ◌+◌, ◌+ℤ◌, ◌≤ℤ◌, ◌&&◌, ℕ, ℤ, pos}
use Rattle.std.proofs.Common.{int_le, nat_le, unsigned_abs, Bool, true, false, cond, List, Option, Some, None}
use Rattle.std.proofs.Common.{option_and_then, Result, Ok, Err, refl, subst, arith}
use Rattle.std.specs.Option.{ok_or}
use Rattle.std.specs.Str.{is_utf8}
use Rattle.std.proofs.lemmas.Bool.Decides.{nat_tests}
use Rattle.std.proofs.lemmas.Int.{ints}
use Rattle.mon_topo.specs.declared.zones.ZoneSpec.{ZoneSpec}
use Rattle.mon_value.specs.Answers.{◌>>=◌}
use Rattle.mon_value.specs.Values.{number_of}
use Rattle.mon_script.specs.Follows.{AreLawfulMoments, behind_first, behind_period, count_of, fitting, follow_form, followed}
use Rattle.mon_script.specs.Follows.{is_count, last_moment, moments_spelled, time_behind, timed}
use Rattle.mon_script.specs.Lawful.{IsLawfulForm}
use Rattle.mon_script.specs.Lines.{cut_at, moment_of, space}
use Rattle.mon_script.specs.StandingLines.{period_of}
use Rattle.mon_script.specs.declared.faults.ScriptKind.{ScriptKind}
use Rattle.mon_script.specs.declared.faults.ScriptKind.TheVariants as kind
use Rattle.mon_script.specs.declared.follows.Moments.{Moments}
use Rattle.mon_script.specs.declared.follows.TheConstants.{MOST_MOMENTS}
use Rattle.mon_script.specs.declared.forms.LineForm.{LineForm}
use Rattle.mon_script.specs.declared.forms.LineForm.TheVariants as form
use Rattle.mon_script.proofs.StandingLineLemmas.{moment_lawful, period_lawful}

abbrev moments : ℤ → ℤ → ℕ → Moments
moments first period count = record { first = first; period = period; count = count }

-- ---- what words spell

some_of : (z : ℤ) (low high : Bool) (count : ℕ) → int_le (pos 1) z ≡ low
    → cond (low && high) (Some (unsigned_abs z)) None ≡ Some count → 1 ≤ count
some_of z true true count above e =
    let same : unsigned_abs z ≡ count = cc in
    subst (λ (n : ℕ). 1 ≤ n) same (grind (arith, ints))
some_of z true false count above e = cc
some_of z false high count above e = cc

count_some : (number : Option ℤ) (count : ℕ)
    → option_and_then (λ z. cond (is_count z) (Some (unsigned_abs z)) None) number ≡ Some count → 1 ≤ count
count_some None count e = cc
count_some (Some z) count e = some_of z (int_le (pos 1) z) (int_le z MOST_MOMENTS) count refl e

fitting_lawful : (those said : Moments) (fits : Bool) → pos 0 ≤ℤ those.first → pos 1 ≤ℤ those.period → 1 ≤ those.count
    → nat_le (unsigned_abs those.first + time_behind those) last_moment ≡ fits → cond fits (Some those) None ≡ Some said
    → AreLawfulMoments said
fitting_lawful those said true first period some fits e =
    let same : those ≡ said = cc in
    subst AreLawfulMoments same
    (record { first = first; period = period; some = some; last = grind (arith, nat_tests, fits) })
fitting_lawful those said false first period some fits e = cc

counted_lawful : (first period : ℤ) (count : Option ℕ) (said : Moments) → pos 0 ≤ℤ first → pos 1 ≤ℤ period
    → ((n : ℕ) → count ≡ Some n → 1 ≤ n)
    → option_and_then (λ n. fitting (moments first period n)) count ≡ Some said → AreLawfulMoments said
counted_lawful first period None said low step some e = cc
counted_lawful first period (Some n) said low step some e =
    fitting_lawful (moments first period n) said
    (nat_le (unsigned_abs first + time_behind (moments first period n)) last_moment) low step (some n refl) refl e

stepped_lawful : (first : ℤ) (period : Option ℤ) (count : Option ℕ) (said : Moments) → pos 0 ≤ℤ first
    → ((z : ℤ) → period ≡ Some z → pos 1 ≤ℤ z) → ((n : ℕ) → count ≡ Some n → 1 ≤ n)
    → option_and_then (λ step. option_and_then (λ n. fitting (moments first step n)) count) period ≡ Some said
    → AreLawfulMoments said
stepped_lawful first None count said low step some e = cc
stepped_lawful first (Some z) count said low step some e = counted_lawful first z count said low (step z refl) some e

spelled_lawful : (first period : Option ℤ) (count : Option ℕ) (said : Moments)
    → ((z : ℤ) → first ≡ Some z → pos 0 ≤ℤ z) → ((z : ℤ) → period ≡ Some z → pos 1 ≤ℤ z)
    → ((n : ℕ) → count ≡ Some n → 1 ≤ n)
    → option_and_then (λ at. option_and_then (λ step. option_and_then (λ n. fitting (moments at step n)) count) period)
    first ≡ Some said → AreLawfulMoments said
spelled_lawful None period count said low step some e = cc
spelled_lawful (Some z) period count said low step some e =
    stepped_lawful z period count said (low z refl) step some e

moments_lawful : (first period count : List ℕ) (said : Moments) → moments_spelled first period count ≡ Some said
    → AreLawfulMoments said
moments_lawful first period count said e =
    spelled_lawful (moment_of first) (period_of period) (count_of count) said (moment_lawful (number_of first))
    (period_lawful (number_of period)) (count_some (number_of count)) e

-- ---- lines

module _ (zones : List ZoneSpec) where
  abbrev bad : ScriptKind → Result LineForm ScriptKind
  bad why = Err why

  timed_by : (those : Option Moments) (text : List ℕ) (said : LineForm)
      → ((m : Moments) → those ≡ Some m → AreLawfulMoments m)
      → ok_or those kind.BadNumber >>= (λ all. Ok (form.Follow all text)) ≡ Ok said → IsLawfulForm zones said
  timed_by None text said lawful e = absurd cc
  timed_by (Some m) text said lawful e =
      let same : form.Follow m text ≡ said = cc in subst (IsLawfulForm zones) same (lawful m refl)

  followed_by : (those : Option Moments) (text : List ℕ) (utf8 : Bool) (said : LineForm)
      → ((m : Moments) → those ≡ Some m → AreLawfulMoments m)
      → cond utf8 (timed those text) (bad kind.BadWord) ≡ Ok said → IsLawfulForm zones said
  followed_by those text true said lawful e = timed_by those text said lawful e
  followed_by those text false said lawful e = absurd cc

  counts_by : (first period : List ℕ) (cut : Option (List ℕ × List ℕ)) (said : LineForm)
      → ok_or cut kind.BadWord >>= (λ words. followed (moments_spelled first period words.0) words.1) ≡ Ok said
      → IsLawfulForm zones said
  counts_by first period None said e = absurd cc
  counts_by first period (Some words) said e =
      followed_by (moments_spelled first period words.0) words.1 (is_utf8 words.1) said
      (moments_lawful first period words.0) e

  periods_by : (first : List ℕ) (cut : Option (List ℕ × List ℕ)) (said : LineForm)
      → ok_or cut kind.BadWord >>= (λ words. behind_period first words.0 words.1) ≡ Ok said → IsLawfulForm zones said
  periods_by first None said e = absurd cc
  periods_by first (Some words) said e = counts_by first words.0 (cut_at space words.1) said e

  firsts_by : (cut : Option (List ℕ × List ℕ)) (said : LineForm)
      → ok_or cut kind.BadWord >>= (λ words. behind_first words.0 words.1) ≡ Ok said → IsLawfulForm zones said
  firsts_by None said e = absurd cc
  firsts_by (Some words) said e = periods_by words.0 (cut_at space words.1) said e

  pub follow_lawful : (rest : List ℕ) (said : LineForm) → follow_form rest ≡ Ok said → IsLawfulForm zones said
  follow_lawful rest said e = firsts_by (cut_at space rest) said e

-- ---- those behind the first

-- the next one is later
pub rises : (first period a b : ℤ) → a ≡ first → b ≡ period → pos 1 ≤ℤ period → first ≤ℤ (a +ℤ b)
rises first period a b same also step = grind (arith, ints)
