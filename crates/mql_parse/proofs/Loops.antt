-- A loop over turns.
use Rattle.std.proofs.Common.{◌≡◌, ℕ, ◌+◌, ◌-◌, ◌<◌, List, [], ◌∷◌, length, sym, ap, ◌∙◌, subst, Ok, Err}
use Rattle.mon_value.specs.declared.refusals.Refusal.{Refusal}
use Rattle.mon_value.specs.declared.refusals.Refusal.TheVariants as refusal
use Rattle.mql_ast.specs.Tokens.{Rest}
use Rattle.mql_parse.specs.declared.faults.ParseFault.{ParseFault}
use Rattle.mql_parse.specs.Outcomes.{Outcome, Reads}
use Rattle.mql_parse.specs.Repeats.{Turn, Done, Again, Stuck, turn_outcome, turns, repetition}
use Rattle.mql_parse.specs.TurnViews.{StuckBy}
use Rattle.mql_parse.specs.Behind.{Behind}
use Rattle.mql_parse.specs.Soundness.{OfTurn}
use Rattle.mql_parse.proofs.BehindLemmas.{behind_is_shorter}
use Rattle.mql_parse.proofs.Sound.{repeated_again}

-- each turn that goes on leaves less
abbrev pub GoesBehind : {T : Type 0} → (T → Rest → Turn T) → Type 0
GoesBehind {T} turn = (a : T) (s : Rest) → OfTurn (turn a s) (λ b r. Unit {0}) (λ b r. Behind s r)

goes : {T : Type 0} (turn : T → Rest → Turn T) → GoesBehind turn → (a b : T) (s r : Rest) → turn a s ≡ Again b r →
    Behind s r
goes turn behind a b s r e =
    let there : OfTurn (Again b r) (λ c m. Unit {0}) (λ c m. Behind s m) =
    subst (λ t. OfTurn t (λ c m. Unit {0}) (λ c m. Behind s m)) e (behind a s) in
    there

done_bytes : {T : Type 0} (turn : T → Rest → Turn T) (a b : T) (at : ℕ) (bs : List ℕ) (r : Rest) →
    turn a (record { at = at; bytes = bs }) ≡ Done b r → turns turn 0 a at bs ≡ Ok (b, r)
done_bytes turn a b at [] r e = ap (λ t. turn_outcome t (λ c m. Ok (c, m))) e
done_bytes turn a b at (c ∷ bs) r e =
    ap (λ t. turn_outcome t (λ next m. turns turn (length bs - length m.bytes) next (at + 1) bs)) e

stuck_bytes : {T : Type 0} (turn : T → Rest → Turn T) (a : T) (at : ℕ) (bs : List ℕ) (f : ParseFault) →
    turn a (record { at = at; bytes = bs }) ≡ Stuck f → turns turn 0 a at bs ≡ Err f
stuck_bytes turn a at [] f e = ap (λ t. turn_outcome t (λ c m. Ok (c, m))) e
stuck_bytes turn a at (c ∷ bs) f e =
    ap (λ t. turn_outcome t (λ next m. turns turn (length bs - length m.bytes) next (at + 1) bs)) e

pub loop_goes_on : {T : Type 0} (turn : T → Rest → Turn T) → GoesBehind turn →
    (a b : T) (s r : Rest) (whole : Outcome T) → turn a s ≡ Again b r → repetition turn a s ≡ whole →
    repetition turn b r ≡ whole
loop_goes_on turn behind a b s r whole e kept = sym (repeated_again turn a b s r e (goes turn behind a b s r e)) ∙ kept

pub loop_is_shorter : {T : Type 0} (turn : T → Rest → Turn T) → GoesBehind turn → (a b : T) (s r : Rest) →
    turn a s ≡ Again b r → length r.bytes < length s.bytes
loop_is_shorter turn behind a b s r e = behind_is_shorter s r (goes turn behind a b s r e)

pub loop_ends : {T : Type 0} (turn : T → Rest → Turn T) (a b : T) (s r : Rest) (whole : Outcome T) →
    turn a s ≡ Done b r → repetition turn a s ≡ whole → whole ≡ Ok (b, r)
loop_ends turn a b s r whole e kept = sym kept ∙ done_bytes turn a b s.at s.bytes r e

pub loop_refused : {X T : Type 0} (view : X → T) (turn : T → Rest → Turn T) (a : T) (s : Rest) (whole : Outcome T)
    (r : Refusal ParseFault) → StuckBy r (turn a s) → repetition turn a s ≡ whole → Reads view (Err r) whole
loop_refused view turn a s whole (refusal.Fault f) e kept = sym kept ∙ stuck_bytes turn a s.at s.bytes f e
loop_refused view turn a s whole refusal.OutOfMemory e kept = tt
