-- What is read with no regard to the levels is at no fault of the depth: tokens.
use Rattle.std.proofs.Common.{◌≡◌, ℕ, zero, suc, ◌+◌, ◌-◌, ◌*◌, ◌^◌, Bool, true, false, ◌==◌, ◌&&◌, not, nat_le, List}
use Rattle.std.proofs.Common.{[], ◌∷◌, ◌++◌, codes, if◌then◌else◌, Option, Some, None, Result, Ok, Err}
use Rattle.std.specs.Result.{IfErr}
use Rattle.mon_value.specs.Answers.{◌>>=◌}
use Rattle.mon_value.specs.Values.{text_in}
use Rattle.mql_ast.specs.Tokens.{is_letter, is_digit, is_word_byte, is_metric_byte, is_alphabet, Rest, head, behind}
use Rattle.mql_ast.specs.Tokens.{skip}
use Rattle.mql_ast.specs.Quotes.{Open, Whole, TextStep, TextEnd, TextPass, TextKeep, TextBad, text_step, Sign, Plain}
use Rattle.mql_ast.specs.Quotes.{PatternStep, PatternEnd, PatternCut, PatternPass, PatternKeep, PatternUnfit}
use Rattle.mql_ast.specs.Quotes.{PatternBad, pattern_step}
use Rattle.mql_parse.specs.declared.faults.ParseFault.{ParseFault}
use Rattle.mql_parse.specs.declared.faults.ParseKind.{ParseKind}
use Rattle.mql_parse.specs.declared.faults.ParseKind.TheVariants.{BadToken, BadPattern, Expected, NumberTooLarge}
use Rattle.mql_parse.specs.declared.faults.ParseKind.TheVariants.{TooDeep}
use Rattle.mql_parse.specs.declared.faults.What.{What}
use Rattle.mql_parse.specs.declared.faults.What.TheVariants as what
use Rattle.mql_parse.specs.Outcomes.{Outcome, kind_of_fault, fault, unexpected_fault, exact, sign, apart, map_outcome}
use Rattle.mql_parse.specs.Outcomes.{up_to_sign}
use Rattle.mql_parse.specs.Repeats.{Turn, Done, Again, Stuck, turn_outcome, turns, repetition, on_read, list_or_end}
use Rattle.mql_parse.specs.Repeats.{list_turn}
use Rattle.mql_parse.specs.TokenReading as reading

-- a fault of another kind
abbrev pub OtherFault : ParseFault → Type 0
OtherFault f = f.kind ≡ TooDeep → ⊥

-- no fault of the depth
pub record Shallow {X : Type 0} (o : Result X ParseFault) : Type 0 where
  pub other : IfErr o OtherFault

pub ok_shallow : {X : Type 0} (x : X) → Shallow (Ok x)
ok_shallow x = record { other = tt }

pub fault_shallow : {X : Type 0} (kind : ParseKind) (s : Rest) → (kind ≡ TooDeep → ⊥) →
    Shallow {X = X} (Err (fault kind s))
fault_shallow kind s h = record { other = h }

pub unexpected_kind : (w : What) (bs : List ℕ) → kind_of_fault w bs ≡ TooDeep → ⊥
unexpected_kind w [] h = cc
unexpected_kind w (b ∷ bs) h = either (is_alphabet b) h
  where
    either : (t : Bool) → (if t then Expected w else BadToken) ≡ TooDeep → ⊥
    either true h = cc
    either false h = cc

pub unexpected_shallow : {X : Type 0} (w : What) (s : Rest) → Shallow {X = X} (Err (unexpected_fault w s))
unexpected_shallow w s = record { other = unexpected_kind w s.bytes }

pub if_shallow : {X : Type 0} (t : Bool) (o p : Result X ParseFault) → Shallow o → Shallow p →
    Shallow (if t then o else p)
if_shallow true o p f g = f
if_shallow false o p f g = g

pub bind_shallow : {X Y : Type 0} (o : Result X ParseFault) (f : X → Result Y ParseFault) → Shallow o →
    ((x : X) → Shallow (f x)) → Shallow (o >>= f)
bind_shallow (Ok x) f h g = g x
bind_shallow (Err e) f h g = record { other = h.other }

pub map_shallow : {A B : Type 0} (f : A → B) (o : Outcome A) → Shallow o → Shallow (map_outcome f o)
map_shallow f (Ok x) h = record { other = tt }
map_shallow f (Err e) h = record { other = h.other }

pub exact_shallow : (w : What) (cs : List ℕ) (s : Rest) → Shallow (exact w cs s)
exact_shallow w [] s = ok_shallow s
exact_shallow w (c ∷ cs) s =
    if_shallow (head s == c) (exact w cs (behind s)) (Err (unexpected_fault w s)) (exact_shallow w cs (behind s))
    (unexpected_shallow w s)

pub sign_shallow : (b : ℕ) (w : What) (s : Rest) → Shallow (sign b w s)
sign_shallow b w s = if_shallow (head (skip s) == b) (Ok (behind (skip s))) (Err (unexpected_fault w (skip s)))
    (ok_shallow (behind (skip s))) (unexpected_shallow w (skip s))

pub apart_shallow : (w : What) (s : Rest) → Shallow (apart w s)
apart_shallow w s = if_shallow (is_word_byte (head s)) (Err (unexpected_fault w s)) (Ok s) (unexpected_shallow w s)
    (ok_shallow s)

pub up_to_shallow : {A : Type 0} (b : ℕ) (w : What) (o : Outcome A) → Shallow o → Shallow (up_to_sign b w o)
up_to_shallow b w o h = bind_shallow o (λ x. sign b w x.1 >>= λ r. Ok (x.0, r)) h
    (λ x. bind_shallow (sign b w x.1) (λ r. Ok (x.0, r)) (sign_shallow b w x.1) (λ r. ok_shallow (x.0, r)))

-- names and numbers
pub name_shallow : (s : Rest) → Shallow (reading.name s)
unfolding reading.name
name_shallow s = if_shallow (is_letter (head (skip s))) _ _ (ok_shallow _) (unexpected_shallow what.Name (skip s))

metric_from_shallow : (after : Bool) (at : ℕ) (bs : List ℕ) → Shallow (reading.metric_from after at bs)
metric_from_shallow after at [] =
    let s : Rest = record { at = at; bytes = [] } in
    if_shallow after (Err (unexpected_fault what.Metric s)) (Ok ([], s)) (unexpected_shallow what.Metric s)
    (ok_shallow ([], s))
metric_from_shallow after at (b ∷ bs) =
    let s : Rest = record { at = at; bytes = b ∷ bs } in
    if_shallow (is_metric_byte b) _ _ (map_shallow (λ more. b ∷ more) _ (metric_from_shallow false (at + 1) bs))
    (if_shallow (b == 47 && not after) _ _
    (map_shallow (λ more. b ∷ more) _ (metric_from_shallow true (at + 1) bs))
    (if_shallow after (Err (unexpected_fault what.Metric s)) (Ok ([], s)) (unexpected_shallow what.Metric s)
    (ok_shallow ([], s))))

pub metric_shallow : (s : Rest) → Shallow (reading.metric s)
unfolding reading.metric
metric_shallow s =
    bind_shallow (exact what.Metric (codes "/") (skip s)) _ (exact_shallow what.Metric (codes "/") (skip s))
    (λ slash. bind_shallow (reading.metric_from true slash.at slash.bytes) _
    (metric_from_shallow true slash.at slash.bytes) (λ read. ok_shallow _))

too_large : NumberTooLarge ≡ TooDeep → ⊥
too_large h = cc

digits_shallow : (most value at : ℕ) (bs : List ℕ) → Shallow (reading.digits most value at bs)
digits_shallow most value at [] = ok_shallow _
digits_shallow most value at (b ∷ bs) =
    if_shallow (is_digit b) _ _
    (if_shallow (nat_le (value * 10 + (b - 48)) most) _ _
    (digits_shallow most (value * 10 + (b - 48)) (at + 1) bs)
    (fault_shallow NumberTooLarge (record { at = at; bytes = b ∷ bs }) too_large))
    (ok_shallow _)

pub positive_shallow : (most : ℕ) (s : Rest) → Shallow (reading.positive most s)
unfolding reading.positive
positive_shallow most s =
    let t = skip s in
    if_shallow (is_digit (head t) && not (head t == 48)) _ _
    (digits_shallow most (head t - 48) (behind t).at (behind t).bytes) (unexpected_shallow what.Number t)

number_shallow : (most : ℕ) (s : Rest) → Shallow (reading.number most s)
unfolding reading.number
number_shallow most s = if_shallow (head (skip s) == 48) _ _ (ok_shallow _) (positive_shallow most s)

pub signed_shallow : (s : Rest) → Shallow (reading.signed_reading s)
unfolding reading.signed_reading
signed_shallow s =
    if_shallow (head (skip s) == 45) _ _ (map_shallow _ _ (number_shallow (2 ^ 63) (behind (skip s))))
    (map_shallow _ _ (number_shallow (2 ^ 63 - 1) s))

units_shallow : (n : ℕ × Rest) → Shallow (reading.units n)
units_shallow n = if_shallow _ _ _ (unexpected_shallow what.Unit n.1)
    (if_shallow _ _ _ (ok_shallow _) (fault_shallow NumberTooLarge n.1 too_large))

pub duration_shallow : (s : Rest) → Shallow (reading.duration s)
unfolding reading.duration
duration_shallow s = bind_shallow (reading.positive _ s) reading.units (positive_shallow _ s) units_shallow

-- texts and patterns
bad_token : BadToken ≡ TooDeep → ⊥
bad_token h = cc

text_expected : Expected what.Text ≡ TooDeep → ⊥
text_expected h = cc

text_end_shallow : (content : Option (List ℕ)) (s r : Rest) → Shallow (reading.text_end content s r)
text_end_shallow None s r = fault_shallow BadToken s bad_token
text_end_shallow (Some text) s r = ok_shallow (text, r)

text_step_shallow : (step : TextStep) (b : ℕ) (s r : Rest) (content : List ℕ) (go : Open → List ℕ → Outcome (List ℕ)) →
    ((next : Open) (more : List ℕ) → Shallow (go next more)) →
    Shallow (reading.after_text_step step b s r content go)
text_step_shallow TextEnd b s r content go h = text_end_shallow (text_in content) s r
text_step_shallow (TextPass next) b s r content go h = h next content
text_step_shallow (TextKeep next) b s r content go h = h next (content ++ b ∷ [])
text_step_shallow TextBad b s r content go h = fault_shallow BadToken s bad_token

text_from_shallow : (unfinished : Open) (content : List ℕ) (at : ℕ) (bs : List ℕ) →
    Shallow (reading.text_from unfinished content at bs)
text_from_shallow unfinished content at [] =
    fault_shallow (Expected what.Text) (record { at = at; bytes = [] }) text_expected
text_from_shallow unfinished content at (b ∷ bs) =
    text_step_shallow (text_step unfinished b) b (record { at = at; bytes = b ∷ bs })
    (record { at = at + 1; bytes = bs }) content (λ next more. reading.text_from next more (at + 1) bs)
    (λ next more. text_from_shallow next more (at + 1) bs)

pub text_shallow : (s : Rest) → Shallow (reading.text s)
unfolding reading.text
text_shallow s = text_from_shallow Whole [] s.at s.bytes

piece_end_shallow : (piece : Option (List ℕ)) (s : Rest) (pieces : List (List ℕ))
    (go : List (List ℕ) → Outcome (List (List ℕ))) → ((all : List (List ℕ)) → Shallow (go all)) →
    Shallow (reading.piece_end piece s pieces go)
piece_end_shallow None s pieces go h = fault_shallow BadToken s bad_token
piece_end_shallow (Some piece) s pieces go h = h (pieces ++ piece ∷ [])

bad_pattern : BadPattern ≡ TooDeep → ⊥
bad_pattern h = cc

pattern_step_shallow : (step : PatternStep) (b : ℕ) (s r : Rest) (pieces : List (List ℕ)) (content : List ℕ)
    (go : Open → Sign → List (List ℕ) → List ℕ → Outcome (List (List ℕ))) →
    ((next : Open) (mark : Sign) (all : List (List ℕ)) (more : List ℕ) → Shallow (go next mark all more)) →
    Shallow (reading.after_pattern_step step b s r pieces content go)
pattern_step_shallow PatternEnd b s r pieces content go h =
    piece_end_shallow (text_in content) s pieces (λ all. Ok (all, r)) (λ all. ok_shallow (all, r))
pattern_step_shallow PatternCut b s r pieces content go h =
    piece_end_shallow (text_in content) s pieces (λ all. go Whole Plain all []) (λ all. h Whole Plain all [])
pattern_step_shallow (PatternPass next mark) b s r pieces content go h = h next mark pieces content
pattern_step_shallow (PatternKeep next mark) b s r pieces content go h = h next mark pieces (content ++ b ∷ [])
pattern_step_shallow PatternUnfit b s r pieces content go h = fault_shallow BadPattern s bad_pattern
pattern_step_shallow PatternBad b s r pieces content go h = fault_shallow BadToken s bad_token

pattern_from_shallow : (unfinished : Open) (mark : Sign) (pieces : List (List ℕ)) (content : List ℕ) (at : ℕ)
    (bs : List ℕ) → Shallow (reading.pattern_from unfinished mark pieces content at bs)
pattern_from_shallow unfinished mark pieces content at [] =
    fault_shallow (Expected what.Text) (record { at = at; bytes = [] }) text_expected
pattern_from_shallow unfinished mark pieces content at (b ∷ bs) =
    pattern_step_shallow (pattern_step unfinished mark b) b (record { at = at; bytes = b ∷ bs })
    (record { at = at + 1; bytes = bs }) pieces content
    (λ next sign all more. reading.pattern_from next sign all more (at + 1) bs)
    (λ next sign all more. pattern_from_shallow next sign all more (at + 1) bs)

pub pattern_shallow : (s : Rest) → Shallow (reading.pattern s)
unfolding reading.pattern
pattern_shallow s = pattern_from_shallow Whole Plain [] [] s.at s.bytes

-- turns
abbrev pub TurnOther : {A : Type 0} → Turn A → Type 0
TurnOther (Done a r) = Unit {0}
TurnOther (Again a r) = Unit {0}
TurnOther (Stuck f) = OtherFault f

pub record ShallowTurn {A : Type 0} (u : Turn A) : Type 0 where
  pub other : TurnOther u

pub on_read_shallow : {A B : Type 0} (f : A × Rest → Turn B) (o : Outcome A) → Shallow o →
    ((x : A × Rest) → ShallowTurn (f x)) → ShallowTurn (on_read f o)
on_read_shallow f (Ok x) h g = g x
on_read_shallow f (Err e) h g = record { other = h.other }

pub if_turn_shallow : {A : Type 0} (t : Bool) (u v : Turn A) → ShallowTurn u → ShallowTurn v →
    ShallowTurn (if t then u else v)
if_turn_shallow true u v f g = f
if_turn_shallow false u v f g = g

turn_outcome_shallow : {A : Type 0} (u : Turn A) (go : A → Rest → Outcome A) → ShallowTurn u →
    ((a : A) (r : Rest) → Shallow (go a r)) → Shallow (turn_outcome u go)
turn_outcome_shallow (Done a r) go h g = ok_shallow (a, r)
turn_outcome_shallow (Again a r) go h g = g a r
turn_outcome_shallow (Stuck f) go h g = record { other = h.other }

turns_shallow : {A : Type 0} (turn : A → Rest → Turn A) → ((a : A) (s : Rest) → ShallowTurn (turn a s)) →
    (passed : ℕ) (a : A) (at : ℕ) (bs : List ℕ) → Shallow (turns turn passed a at bs)
turns_shallow turn h passed a at [] = turn_outcome_shallow _ _ (h a _) (λ b r. ok_shallow (b, r))
turns_shallow turn h zero a at (b ∷ bs) = turn_outcome_shallow _ _ (h a _) (λ next r. turns_shallow turn h _ next _ bs)
turns_shallow turn h (suc k) a at (b ∷ bs) = turns_shallow turn h k a (at + 1) bs

pub repetition_shallow : {A : Type 0} (turn : A → Rest → Turn A) → ((a : A) (s : Rest) → ShallowTurn (turn a s)) →
    (a : A) (s : Rest) → Shallow (repetition turn a s)
repetition_shallow turn h a s = turns_shallow turn h 0 a s.at s.bytes

pub done_shallow : {A : Type 0} (a : A) (r : Rest) → ShallowTurn (Done a r)
done_shallow a r = record { other = tt }

pub again_shallow : {A : Type 0} (a : A) (r : Rest) → ShallowTurn (Again a r)
again_shallow a r = record { other = tt }

pub stuck_shallow : {A : Type 0} (w : What) (s : Rest) → ShallowTurn {A = A} (Stuck (unexpected_fault w s))
stuck_shallow w s = record { other = unexpected_kind w s.bytes }

pub list_or_end_shallow : {A : Type 0} (close : ℕ) (w : What) (so_far : List A) (x : A × Rest) →
    ShallowTurn (list_or_end close w so_far x)
list_or_end_shallow close w so_far x =
    let t = skip x.1 in
    if_turn_shallow (head t == 44) (Again (so_far ++ x.0 ∷ []) (behind t)) _ (again_shallow _ _)
    (if_turn_shallow (head t == close) (Done (so_far ++ x.0 ∷ []) (behind t)) (Stuck (unexpected_fault w t))
    (done_shallow _ _) (stuck_shallow w t))

pub list_turn_shallow : {A : Type 0} (close : ℕ) (w : What) (part : Rest → Outcome A) →
    ((s : Rest) → Shallow (part s)) → (so_far : List A) (s : Rest) → ShallowTurn (list_turn close w part so_far s)
list_turn_shallow close w part h so_far s =
    on_read_shallow (list_or_end close w so_far) (part s) (h s) (list_or_end_shallow close w so_far)
