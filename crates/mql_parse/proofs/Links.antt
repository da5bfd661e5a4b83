-- Each token is read exactly where the grammar has it.
use Rattle.std.proofs.Common.{◌≡◌, ℕ, pos, ◌+◌, ◌-◌, ◌*◌, ◌^◌, Bool, true, false, ◌==◌, ◌&&◌, not, nat_le, List, []}
use Rattle.std.proofs.Common.{◌∷◌, ◌++◌, codes, refl, ap, ◌∙◌, if◌then◌else◌, Option, Some, None, option_and_then}
use Rattle.std.proofs.Common.{Result, Ok, Err}
use Rattle.std.specs.Result.{result_ok}
use Rattle.mon_value.specs.Answers.{◌>>=◌}
use Rattle.mon_value.specs.Values.{text_in}
use Rattle.mql_ast.specs.Tokens.{is_letter, is_digit, is_metric_byte, Rest, head, behind, skip, word_here, minus}
use Rattle.mql_ast.specs.Tokens.{unit_seconds, longest}
use Rattle.mql_ast.specs.Tokens as grammar
use Rattle.mql_ast.specs.Quotes as quotes
use Rattle.mql_ast.specs.Quotes.{Open, Whole, TextStep, TextEnd, TextPass, TextKeep, TextBad, text_step, Sign, Plain}
use Rattle.mql_ast.specs.Quotes.{PatternStep, PatternEnd, PatternCut, PatternPass, PatternKeep, PatternUnfit}
use Rattle.mql_ast.specs.Quotes.{PatternBad, pattern_step}
use Rattle.mql_parse.specs.declared.faults.ParseFault.{ParseFault}
use Rattle.mql_parse.specs.declared.faults.What.{What}
use Rattle.mql_parse.specs.declared.faults.What.TheVariants as what
use Rattle.mql_parse.specs.Outcomes.{Outcome, exact, sign, map_outcome, unexpected_fault}
use Rattle.mql_parse.specs.TokenReading as reading

-- a test that chooses between what is there and a fault
chosen_links : {A : Type 0} (t : Bool) (x : A) (e : ParseFault) →
    (if t then Some x else None) ≡ result_ok (if t then Ok x else Err e)
chosen_links true x e = refl
chosen_links false x e = refl

either_links : {A : Type 0} (t : Bool) (o o' : Option A) (r r' : Result A ParseFault) → o ≡ result_ok r →
    o' ≡ result_ok r' → (if t then o else o') ≡ result_ok (if t then r else r')
either_links true o o' r r' e f = e
either_links false o o' r r' e f = f

-- what follows on what was read
bind_links : {A B : Type 0} (o : Option A) (r : Result A ParseFault) (f : A → Option B)
    (g : A → Result B ParseFault) → o ≡ result_ok r → ((x : A) → f x ≡ result_ok (g x)) →
    option_and_then f o ≡ result_ok (r >>= g)
bind_links o (Ok x) f g e h = ap (option_and_then f) e ∙ h x
bind_links o (Err x) f g e h = ap (option_and_then f) e

pub sign_links : (b : ℕ) (w : What) (s : Rest) → grammar.sign_at b s ≡ result_ok (sign b w s)
sign_links b w s = chosen_links (head (skip s) == b) (behind (skip s)) (unexpected_fault w (skip s))

pub past_links : (w : What) (cs : List ℕ) (s : Rest) → grammar.past cs s ≡ result_ok (exact w cs s)
past_links w [] s = refl
past_links w (c ∷ cs) s =
    either_links (head s == c) (grammar.past cs (behind s)) None (exact w cs (behind s)) (Err (unexpected_fault w s))
    (past_links w cs (behind s)) refl

pub name_links : (s : Rest) → grammar.name_at s ≡ result_ok (reading.name s)
unfolding reading.name
name_links s = chosen_links (is_letter (head (skip s))) (word_here (skip s)) (unexpected_fault what.Name (skip s))

with_byte_links : (b : ℕ) (o : Option (List ℕ × Rest)) (r : Outcome (List ℕ)) → o ≡ result_ok r →
    grammar.with_byte b o ≡ result_ok (reading.with_byte b r)
with_byte_links b o r e = bind_links o r (λ x. Some (b ∷ x.0, x.1)) (λ x. Ok (b ∷ x.0, x.1)) e (λ x. refl)

metric_from_links : (after : Bool) (at : ℕ) (bs : List ℕ) → grammar.metric_from after at bs ≡ result_ok
    (reading.metric_from after at bs)
metric_from_links after at [] = either_links after None _ (Err _) (Ok _) refl refl
metric_from_links after at (b ∷ bs) =
    either_links (is_metric_byte b) _ _ (reading.with_byte b (reading.metric_from false (at + 1) bs)) _
    (with_byte_links b _ _ (metric_from_links false (at + 1) bs))
    (either_links (b == 47 && not after) _ _ (reading.with_byte b (reading.metric_from true (at + 1) bs)) _
    (with_byte_links b _ _ (metric_from_links true (at + 1) bs))
    (either_links after None _ (Err _) (Ok _) refl refl))

pub metric_links : (s : Rest) → grammar.metric_at s ≡ result_ok (reading.metric s)
unfolding reading.metric
metric_links s = bind_links _ (exact what.Metric (codes "/") (skip s)) _ _ (past_links what.Metric (codes "/") (skip s))
    (λ slash. bind_links _ (reading.metric_from true slash.at slash.bytes) _ _
    (metric_from_links true slash.at slash.bytes) (λ x. refl))

digits_links : (most value at : ℕ) (bs : List ℕ) → grammar.digits_from most value at bs ≡ result_ok
    (reading.digits most value at bs)
digits_links most value at [] = refl
digits_links most value at (b ∷ bs) =
    either_links (is_digit b) _ _ _ (Ok _)
    (either_links (nat_le (value * 10 + (b - 48)) most) _ None
    (reading.digits most (value * 10 + (b - 48)) (at + 1) bs) (Err _)
    (digits_links most (value * 10 + (b - 48)) (at + 1) bs) refl) refl

pub positive_links : (most : ℕ) (s : Rest) → grammar.positive_at most s ≡ result_ok (reading.positive most s)
unfolding reading.positive
positive_links most s =
    let t = skip s in
    either_links (is_digit (head t) && not (head t == 48)) _ None
    (reading.digits most (head t - 48) (behind t).at (behind t).bytes) (Err (unexpected_fault what.Number t))
    (digits_links most (head t - 48) (behind t).at (behind t).bytes) refl

pub number_links : (most : ℕ) (s : Rest) → grammar.number_at most s ≡ result_ok (reading.number most s)
unfolding reading.number
number_links most s =
    either_links (head (skip s) == 48) (Some (0, behind (skip s))) _ (Ok (0, behind (skip s)))
    (reading.positive most s) refl (positive_links most s)

pub signed_links : (s : Rest) → grammar.signed_at s ≡ result_ok (reading.signed_reading s)
unfolding reading.signed_reading
signed_links s =
    either_links (head (skip s) == 45) _ _ (map_outcome minus (reading.number (2 ^ 63) (behind (skip s))))
    (map_outcome pos (reading.number (2 ^ 63 - 1) s))
    (bind_links _ (reading.number (2 ^ 63) (behind (skip s))) (λ n. Some (minus n.0, n.1)) (λ n. Ok (minus n.0, n.1))
    (number_links (2 ^ 63) (behind (skip s))) (λ n. refl))
    (bind_links _ (reading.number (2 ^ 63 - 1) s) (λ n. Some (pos n.0, n.1)) (λ n. Ok (pos n.0, n.1))
    (number_links (2 ^ 63 - 1) s) (λ n. refl))

units_links : (n : ℕ × Rest) → grammar.with_unit n ≡ result_ok (reading.units n)
units_links n =
    either_links (unit_seconds (head n.1) == 0) None _ (Err (unexpected_fault what.Unit n.1)) _ refl
    (either_links (nat_le (n.0 * unit_seconds (head n.1)) longest) (Some _) None (Ok _) (Err _) refl refl)

pub duration_links : (s : Rest) → grammar.duration_at s ≡ result_ok (reading.duration s)
unfolding reading.duration
duration_links s = bind_links _ (reading.positive longest s) _ _ (positive_links longest s) units_links

finished_links : (o : Option (List ℕ)) (s rest : Rest) → option_and_then (λ text. Some (text, rest)) o ≡ result_ok
    (reading.text_end o s rest)
finished_links None s rest = refl
finished_links (Some text) s rest = refl

text_step_links : (step : TextStep) (b : ℕ) (s rest : Rest) (content : List ℕ) (go : Open → List ℕ →
    Option (List ℕ × Rest)) (go' : Open → List ℕ → Outcome (List ℕ)) →
    ((next : Open) (more : List ℕ) → go next more ≡ result_ok (go' next more)) →
    quotes.after_text_step step b rest content go ≡ result_ok (reading.after_text_step step b s rest content go')
text_step_links TextEnd b s rest content go go' h = finished_links (text_in content) s rest
text_step_links (TextPass next) b s rest content go go' h = h next content
text_step_links (TextKeep next) b s rest content go go' h = h next (content ++ b ∷ [])
text_step_links TextBad b s rest content go go' h = refl

pub text_from_links : (unfinished : Open) (content : List ℕ) (at : ℕ) (bs : List ℕ) →
    quotes.text_from unfinished content at bs ≡ result_ok (reading.text_from unfinished content at bs)
text_from_links unfinished content at [] = refl
text_from_links unfinished content at (b ∷ bs) =
    text_step_links (text_step unfinished b) b _ _ content _ _ (λ next more. text_from_links next more (at + 1) bs)

piece_links : (o : Option (List ℕ)) (s : Rest) (pieces : List (List ℕ)) (go : List (List ℕ) →
    Option (List (List ℕ) × Rest)) (go' : List (List ℕ) → Outcome (List (List ℕ))) →
    ((all : List (List ℕ)) → go all ≡ result_ok (go' all)) → quotes.with_piece o pieces go ≡ result_ok
    (reading.piece_end o s pieces go')
piece_links None s pieces go go' h = refl
piece_links (Some piece) s pieces go go' h = h (pieces ++ piece ∷ [])

pattern_step_links : (step : PatternStep) (b : ℕ) (s rest : Rest) (pieces : List (List ℕ)) (content : List ℕ)
    (go : Open → Sign → List (List ℕ) → List ℕ → Option (List (List ℕ) × Rest)) (go' : Open → Sign → List (List ℕ) →
    List ℕ → Outcome (List (List ℕ))) →
    ((next : Open) (mark : Sign) (all : List (List ℕ)) (more : List ℕ) →
    go next mark all more ≡ result_ok (go' next mark all more)) →
    quotes.after_pattern_step step b rest pieces content go ≡ result_ok
    (reading.after_pattern_step step b s rest pieces content go')
pattern_step_links PatternEnd b s rest pieces content go go' h =
    piece_links (text_in content) s pieces _ _ (λ all. refl)
pattern_step_links PatternCut b s rest pieces content go go' h =
    piece_links (text_in content) s pieces _ _ (λ all. h Whole Plain all [])
pattern_step_links (PatternPass next mark) b s rest pieces content go go' h = h next mark pieces content
pattern_step_links (PatternKeep next mark) b s rest pieces content go go' h = h next mark pieces (content ++ b ∷ [])
pattern_step_links PatternUnfit b s rest pieces content go go' h = refl
pattern_step_links PatternBad b s rest pieces content go go' h = refl

pub pattern_from_links : (unfinished : Open) (mark : Sign) (pieces : List (List ℕ)) (content : List ℕ) (at : ℕ)
    (bs : List ℕ) → quotes.pattern_from unfinished mark pieces content at bs ≡ result_ok
    (reading.pattern_from unfinished mark pieces content at bs)
pattern_from_links unfinished mark pieces content at [] = refl
pattern_from_links unfinished mark pieces content at (b ∷ bs) =
    pattern_step_links (pattern_step unfinished mark b) b _ _ pieces content _ _
    (λ next sign all more. pattern_from_links next sign all more (at + 1) bs)
