-- The input of a number, piece by piece; and the number that a word spells.
use Rattle.std.proofs.lemmas.Bool.{ltb-true}
use Rattle.std.proofs.Common.{◌≡◌, ◌∙◌, ◌<◌, ◌^◌, ◌&&◌, ℕ, Bool, true, false, List, [], ◌∷◌, ◌++◌, length, map, nat_lt}
use Rattle.std.proofs.Common.{cond, Some, None, Result, Ok, Err, refl, sym, ap, subst, append_assoc, append-nil}
use Rattle.std.proofs.lemmas.Str.Parse.{parse_digits}
use Rattle.std.specs.Result.{result_ok}
use Rattle.std.specs.Str.{all_ascii_digits}
use Rattle.std.specs.Str.Parse.{ParsesUnsigned, digits_value}
use Rattle.mon_script.specs.Made.{made_pieces}
use Rattle.mon_run.specs.Endings.{AreNoLines, Did, Progress}
use Rattle.mon_run.specs.Plans.{made_plan, number_in}
use Rattle.mon_run.specs.Steps.{Step, Write}
use Rattle.mon_run.specs.declared.stop.Stop.{Stop}
use Rattle.mon_run.specs.declared.stop.Stop.TheVariants as stop
use Rattle.mon_run.specs.within.Stops.{Counts, Done, Halts, WriteStops, WroteFront}
use Rattle.mon_run.proofs.EndLemmas.{causes_earlier}
use Rattle.mon_run.proofs.StepLemmas.{did_by, did_then}
use Rattle.mon_value.proofs.NumberLemmas.{numerals}
use Rattle.mon_value.proofs.PlainLemmas.{less}

-- ---- pieces

abbrev pub writes : List (List ℕ) → List Step
writes pieces = map (λ piece. Write piece) pieces

-- a front of the pieces was written, and these are left
pub record Written (number : ℕ) (left : List (List ℕ)) (before now : Progress) : Type 0 where
  pub steps : List Step
  pub split : writes (made_pieces number) ≡ steps ++ writes left
  pub did : Did steps before now

pub written_more : {number : ℕ} {left : List (List ℕ)} (piece text : List ℕ) (rest : List (List ℕ))
    {before now after : Progress} → Written number left before now → left ≡ piece ∷ rest → text ≡ piece
    → Did (Write text ∷ []) now after → Written number rest before after
written_more piece text rest {before} {now} {after} written is same did = record {
  steps = written.steps ++ Write piece ∷ [];
  split = written.split ∙ ap (λ (pieces : List (List ℕ)). written.steps ++ writes pieces) is
      ∙ sym (append_assoc written.steps (Write piece ∷ []) (writes rest));
  did = did_then written.did (subst (λ (t : List ℕ). Did (Write t ∷ []) now after) same did);
}

-- all of them were
pub written_all : {number : ℕ} {left : List (List ℕ)} {before now : Progress} → Written number left before now
    → left ≡ [] → Done (made_plan number) false before now
written_all {number} {left} {before} {now} written none = record {
  status = refl;
  did = did_by (sym (written.split ∙ ap (λ (pieces : List (List ℕ)). written.steps ++ writes pieces) none
      ∙ append-nil written.steps)) written.did;
}

pub no_lines : (pieces : List (List ℕ)) → AreNoLines (writes pieces)
no_lines [] = tt
no_lines (piece ∷ pieces) = (refl, no_lines pieces)

-- memory ran out in front of the next one
pub written_starved : {number : ℕ} {left : List (List ℕ)} {before now : Progress} → Written number left before now
    → Halts (made_plan number) stop.OutOfMemory before now
written_starved {number} {left} written = record {
  stops = record {
    done = written.steps;
    left = writes left;
    split = written.split;
    whole = no_lines left;
    did = written.did;
  };
  causes = tt;
}

-- a piece was taken in part
pub written_cut : {number : ℕ} {left : List (List ℕ)} (piece text : List ℕ) (rest : List (List ℕ)) (stopped : Stop)
    {before now : Progress} (after : Progress) → Written number left before now → left ≡ piece ∷ rest → text ≡ piece
    → Counts before now → WriteStops text stopped now after
    → Halts (made_plan number) stopped before after
written_cut {number} {left} piece text rest stopped {before} {now} after written is same counts stops =
    let cut : WroteFront piece now after = subst (λ (t : List ℕ). WroteFront t now after) same stops.front in
    let steps : writes (made_pieces number) ≡ written.steps ++ Write piece ∷ writes rest =
    written.split ∙ ap (λ (pieces : List (List ℕ)). written.steps ++ writes pieces) is in
    subst (λ (s : Stop). Halts (made_plan number) s before after) (sym stops.failed)
    (record {
      stops = record {
        done = written.steps;
        step = Write piece;
        left = writes rest;
        split = steps;
        front = cut.front;
        rest = cut.rest;
        cut = cut.split;
        some = cut.some;
        did = did_then written.did cut.did;
      };
      causes = causes_earlier before now after stop.WriteFailed counts stops.rose;
    })

-- ---- numbers

abbrev tests : List ℕ → Bool
tests text = nat_lt 0 (length text) && (all_ascii_digits text && nat_lt (digits_value 10 text) (2 ^ 64))

passed : (text : List ℕ) → all_ascii_digits text ≡ true → 0 < length text → digits_value 10 text < 2 ^ 64
    → tests text ≡ true
passed text digits some small = λ i. less 0 (length text) some i
    && (digits i && less (digits_value 10 text) (2 ^ 64) small i)

failed : (text : List ℕ) → all_ascii_digits text ≡ true
    → ¬ ((0 < length text) × (digits_value 10 text < 2 ^ 64)) → tests text ≡ false
failed text digits not =
    (λ i. nat_lt 0 (length text) && (digits i && nat_lt (digits_value 10 text) (2 ^ 64)))
    ∙ by (nat_lt 0 (length text)) (nat_lt (digits_value 10 text) (2 ^ 64)) refl refl
  where
    by : (a b : Bool) → nat_lt 0 (length text) ≡ a → nat_lt (digits_value 10 text) (2 ^ 64) ≡ b → a && (true && b)
        ≡ false
    by true true some small = absurd (not (ltb-true 0 (length text) some, ltb-true (digits_value 10 text) (2 ^ 64) small))
    by true false some small = refl
    by false b some small = refl

-- a word of digits is read as its number, where 64 bits have that
pub number_read : {E : Type 0} (text : List ℕ) (r : Result ℕ E) → all_ascii_digits text ≡ true
    → ParsesUnsigned 64 10 text r → result_ok r ≡ number_in text
number_read {E} text (Ok x) digits parsed =
    let h = parse_digits numerals {E = E} 64 text (Ok x) parsed digits in
    ap Some h.1 ∙ sym (ap (λ b. cond b (Some (digits_value 10 text)) None) (passed text digits h.0.0 h.0.1))
number_read {E} text (Err e) digits parsed =
    let h = parse_digits numerals {E = E} 64 text (Err e) parsed digits in
    sym (ap (λ b. cond b (Some (digits_value 10 text)) None) (failed text digits h))

-- a word with another byte is none
pub not_digits : (text : List ℕ) → all_ascii_digits text ≡ false → number_in text ≡ None
not_digits text other =
    (λ i. cond (nat_lt 0 (length text) && (other i && nat_lt (digits_value 10 text) (2 ^ 64)))
    (Some (digits_value 10 text)) None)
    ∙ by (nat_lt 0 (length text))
  where
    by : (a : Bool) → cond (a && (false && nat_lt (digits_value 10 text) (2 ^ 64))) (Some (digits_value 10 text)) None
        ≡ None
    by true = refl
    by false = refl
