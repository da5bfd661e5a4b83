-- The kinds of faults in tokens outside quotes.
use Rattle.std.proofs.Common.{◌≡◌, ℕ, ◌+◌, ◌-◌, ◌*◌, ◌^◌, pos, Bool, true, false, ◌==◌, ◌||◌, ◌&&◌, not, nat_le, List}
use Rattle.std.proofs.Common.{[], ◌∷◌, codes, refl, sym, ap, subst, if◌then◌else◌, None, Ok, Err}
use Rattle.std.proofs.lemmas.Bool.{false≢true, eqb-true, and_parts}
use Rattle.mon_value.specs.Answers.{◌>>=◌}
use Rattle.mql_ast.specs.Tokens.{is_blank, is_letter, is_digit, is_word_byte, is_metric_byte, is_sign, is_alphabet}
use Rattle.mql_ast.specs.Tokens.{Rest, head, behind, skip, behind_word, word_here, metric_name, minus, unit_seconds}
use Rattle.mql_ast.specs.Tokens.{longest}
use Rattle.mql_parse.specs.declared.faults.ParseKind.TheVariants.{NumberTooLarge}
use Rattle.mql_parse.specs.declared.faults.What.{What}
use Rattle.mql_parse.specs.declared.faults.What.TheVariants as what
use Rattle.mql_parse.specs.Outcomes.{fault, unexpected_fault, exact, apart, map_outcome}
use Rattle.mql_parse.specs.TokenReading as reading
use Rattle.mql_parse.specs.Faults.{OutsideKind}
use Rattle.mql_parse.proofs.KindFits.{Outside, Fits, PassFits, outside_itself, outside_before, pass_before, bind_fits}
use Rattle.mql_parse.proofs.KindFits.{map_fits, pass_then, if_fits, if_pass, byte_outside, skip_outside, part_outside}
use Rattle.mql_parse.proofs.KindFits.{behind_fits, skip_fits, part_fits, unexpected_fits, unexpected_next, fault_fits}
use Rattle.mql_parse.proofs.ByteLemmas.{or_second}

-- neither a quote nor none
abbrev pub plain_bytes : List ℕ → Bool
plain_bytes [] = true
plain_bytes (c ∷ cs) = (not (0 == c) && not (34 == c)) && plain_bytes cs

not_true : (b : Bool) → not b ≡ true → b ≡ false
not_true true h = absurd (false≢true h)
not_true false h = refl

pub exact_fits : (w : What) (cs : List ℕ) → plain_bytes cs ≡ true → (s : Rest) → PassFits s (exact w cs s)
exact_fits w [] h s = outside_itself s
exact_fits w (c ∷ cs) h s =
    let both = and_parts (not (0 == c) && not (34 == c)) (plain_bytes cs) h in
    let first = and_parts (not (0 == c)) (not (34 == c)) both.0 in
    if_pass s (head s == c) (exact w cs (behind s)) (Err (unexpected_fault w s))
    (λ t. pass_before s (behind s) (exact w cs (behind s))
    (byte_outside (λ b. b == c) (not_true (0 == c) first.0) (not_true (34 == c) first.1) s t)
    (exact_fits w cs both.1 (behind s))) (λ t. unexpected_fits w s)

pub apart_fits : (w : What) (s : Rest) → PassFits s (apart w s)
apart_fits w s = if_pass s (is_word_byte (head s)) (Err (unexpected_fault w s)) (Ok s) (λ h. unexpected_fits w s)
    (λ h. outside_itself s)

word_outside_at : (at : ℕ) (bs : List ℕ) → Outside None (record { at = at; bytes = bs }) (behind_word at bs)
word_outside_at at [] = outside_itself (record { at = at; bytes = [] })
word_outside_at at (b ∷ bs) = either (is_word_byte b) refl (word_outside_at (at + 1) bs)
  where
    either : (t : Bool) → is_word_byte b ≡ t → Outside None (record { at = at + 1; bytes = bs })
        (behind_word (at + 1) bs) → Outside None (record { at = at; bytes = b ∷ bs })
        (if t then behind_word (at + 1) bs else record { at = at; bytes = b ∷ bs })
    either true h f = outside_before None (record { at = at; bytes = b ∷ bs }) (record { at = at + 1; bytes = bs })
        (behind_word (at + 1) bs) (byte_outside is_word_byte refl refl (record { at = at; bytes = b ∷ bs }) h) f
    either false h f = outside_itself (record { at = at; bytes = b ∷ bs })

pub word_outside : (s : Rest) → Outside None s (word_here s).1
word_outside s = word_outside_at s.at s.bytes

pub name_fits : (s : Rest) → Fits None s (reading.name s)
unfolding reading.name
name_fits s =
    if_fits None s (is_letter (head (skip s))) (Ok (word_here (skip s))) (Err (unexpected_fault what.Name (skip s)))
    (λ h. outside_before None s (skip s) (word_here (skip s)).1 (skip_outside s) (word_outside (skip s)))
    (λ h. unexpected_next what.Name s)

metric_from_fits : (after : Bool) (at : ℕ) (bs : List ℕ) → Fits None (record { at = at; bytes = bs })
    (reading.metric_from after at bs)
metric_from_fits after at [] =
    let s : Rest = record { at = at; bytes = [] } in
    if_fits None s after (Err (unexpected_fault what.Metric s)) (Ok ([], s)) (λ h. unexpected_fits what.Metric s)
    (λ h. outside_itself s)
metric_from_fits after at (b ∷ bs) =
    let s : Rest = record { at = at; bytes = b ∷ bs } in
    let rest : Rest = record { at = at + 1; bytes = bs } in
    if_fits None s (is_metric_byte b) (reading.with_byte b (reading.metric_from false (at + 1) bs)) _
    (λ h. behind_fits is_metric_byte refl refl s h (reading.with_byte b (reading.metric_from false (at + 1) bs))
    (map_fits None rest (λ more. b ∷ more) (reading.metric_from false (at + 1) bs)
    (metric_from_fits false (at + 1) bs)))
    (λ _. if_fits None s (b == 47 && not after) (reading.with_byte b (reading.metric_from true (at + 1) bs)) _
    (λ h. behind_fits (λ c. c == 47 && not after) refl refl s h
    (reading.with_byte b (reading.metric_from true (at + 1) bs))
    (map_fits None rest (λ more. b ∷ more) (reading.metric_from true (at + 1) bs)
    (metric_from_fits true (at + 1) bs)))
    (λ _. if_fits None s after (Err (unexpected_fault what.Metric s)) (Ok ([], s)) (λ h. unexpected_fits what.Metric s)
    (λ h. outside_itself s)))

pub metric_fits : (s : Rest) → Fits None s (reading.metric s)
unfolding reading.metric
metric_fits s =
    let read = λ (slash : Rest). map_outcome (metric_name (skip s).at)
    (reading.metric_from true slash.at slash.bytes) in
    skip_fits s (exact what.Metric (codes "/") (skip s) >>= read)
    (pass_then (skip s) (exact what.Metric (codes "/") (skip s)) read
    (exact_fits what.Metric (codes "/") refl (skip s))
    (λ slash. map_fits None slash (metric_name (skip s).at) (reading.metric_from true slash.at slash.bytes)
    (metric_from_fits true slash.at slash.bytes)))

word_in_alphabet : (b : ℕ) → is_word_byte b ≡ true → is_alphabet b ≡ true
word_in_alphabet b h = ap (λ t. t || is_blank b || is_sign b) h

digit_kind : (b : ℕ) → is_digit b ≡ true → OutsideKind (is_alphabet b) b NumberTooLarge
digit_kind b h = subst (λ t. OutsideKind t b NumberTooLarge)
    (sym (word_in_alphabet b (or_second (is_letter b) (is_digit b) h))) (ap (λ t. t || not (unit_seconds b == 0)) h)

abbrev is_unit : ℕ → Bool
is_unit b = not (unit_seconds b == 0)

unit_choice : (t : Bool) (n m : ℕ) (P : Type 0) → (t ≡ true → P) → (not (m == 0) ≡ true → P) →
    not ((if t then n else m) == 0) ≡ true → P
unit_choice true n m P f g h = f refl
unit_choice false n m P f g h = g h

letter_at : (n b : ℕ) → is_letter n ≡ true → (b == n) ≡ true → is_letter b ≡ true
letter_at n b l h = subst (λ c. is_letter c ≡ true) (sym (eqb-true b n h)) l

unit_letter : (b : ℕ) → is_unit b ≡ true → is_letter b ≡ true
unit_letter b =
    unit_choice (b == 115) 1 _ (is_letter b ≡ true) (letter_at 115 b refl)
    (unit_choice (b == 109) 60 _ (is_letter b ≡ true) (letter_at 109 b refl)
    (unit_choice (b == 104) 3600 _ (is_letter b ≡ true) (letter_at 104 b refl)
    (unit_choice (b == 100) 86400 0 (is_letter b ≡ true) (letter_at 100 b refl) (λ h. absurd (false≢true h)))))

unit_kind : (b : ℕ) → is_unit b ≡ true → OutsideKind (is_alphabet b) b NumberTooLarge
unit_kind b h = subst (λ t. OutsideKind t b NumberTooLarge)
    (sym (word_in_alphabet b (ap (λ t. t || is_digit b) (unit_letter b h)))) (or_second (is_digit b) (is_unit b) h)

-- numbers
digits_fits : (most value at : ℕ) (bs : List ℕ) → Fits None (record { at = at; bytes = bs })
    (reading.digits most value at bs)
digits_fits most value at [] = outside_itself (record { at = at; bytes = [] })
digits_fits most value at (b ∷ bs) =
    let s : Rest = record { at = at; bytes = b ∷ bs } in
    let more = reading.digits most (value * 10 + (b - 48)) (at + 1) bs in
    if_fits None s (is_digit b) (if nat_le (value * 10 + (b - 48)) most then more else Err (fault NumberTooLarge s))
    (Ok (value, s))
    (λ h. if_fits None s (nat_le (value * 10 + (b - 48)) most) more (Err (fault NumberTooLarge s))
    (λ _. behind_fits is_digit refl refl s h more (digits_fits most (value * 10 + (b - 48)) (at + 1) bs))
    (λ _. fault_fits NumberTooLarge is_digit refl digit_kind s h))
    (λ _. outside_itself s)

pub positive_fits : (most : ℕ) (s : Rest) → Fits None s (reading.positive most s)
unfolding reading.positive
positive_fits most s =
    let t = skip s in
    let more = reading.digits most (head t - 48) (behind t).at (behind t).bytes in
    if_fits None s (is_digit (head t) && not (head t == 48)) more (Err (unexpected_fault what.Number t))
    (λ h. part_fits (λ b. is_digit b && not (b == 48)) refl refl s h more
    (digits_fits most (head t - 48) (behind t).at (behind t).bytes)) (λ _. unexpected_next what.Number s)

pub number_fits : (most : ℕ) (s : Rest) → Fits None s (reading.number most s)
unfolding reading.number
number_fits most s = if_fits None s (head (skip s) == 48) (Ok (0, behind (skip s))) (reading.positive most s)
    (λ h. part_outside (λ b. b == 48) refl refl s h) (λ _. positive_fits most s)

pub signed_fits : (s : Rest) → Fits None s (reading.signed_reading s)
unfolding reading.signed_reading
signed_fits s =
    let negative = map_outcome minus (reading.number (2 ^ 63) (behind (skip s))) in
    if_fits None s (head (skip s) == 45) negative (map_outcome pos (reading.number (2 ^ 63 - 1) s))
    (λ h. part_fits (λ b. b == 45) refl refl s h negative
    (map_fits None (behind (skip s)) minus (reading.number (2 ^ 63) (behind (skip s)))
    (number_fits (2 ^ 63) (behind (skip s)))))
    (λ _. map_fits None s pos (reading.number (2 ^ 63 - 1) s) (number_fits (2 ^ 63 - 1) s))

units_fits : (n : ℕ) (r : Rest) → Fits None r (reading.units (n, r))
units_fits n r =
    let seconds = n * unit_seconds (head r) in
    if_fits None r (unit_seconds (head r) == 0) (Err (unexpected_fault what.Unit r))
    (if nat_le seconds longest then Ok (pos seconds, behind r) else Err (fault NumberTooLarge r))
    (λ _. unexpected_fits what.Unit r)
    (λ h. if_fits None r (nat_le seconds longest) (Ok (pos seconds, behind r)) (Err (fault NumberTooLarge r))
    (λ _. byte_outside is_unit refl refl r (ap not h))
    (λ _. fault_fits NumberTooLarge is_unit refl unit_kind r (ap not h)))

pub duration_fits : (s : Rest) → Fits None s (reading.duration s)
unfolding reading.duration
duration_fits s = bind_fits None s (reading.positive longest s) reading.units (positive_fits longest s) units_fits
